use Rattle.std.proofs.Common.{◌≡◌, ℕ, ◌+◌, ◌≤◌, true, Result, List, length, map, take, sym, ap, ◌∙◌, subst}
use Rattle.af_base.specs.declared.event.ClientEvent.{ClientEvent}
use Rattle.af_base.specs.Sample.{packed_word}
use Rattle.af_model.specs.History.{is_lawful}
use Rattle.af_cblk.specs.declared.view.ClientPart.{ClientPart}
use Rattle.af_client.specs.Calls.{wrote_call, Releases}
use Rattle.af_client.proofs.Kept.{lawful_call}
use Rattle.af_ends.specs.declared.error.EndError.{EndError}
use Rattle.af_ends.specs.Streams.{count_in, Writes}
use Rattle.af_ends.proofs.Told.{calm, told_writes, told_count, told_few}
use Rattle.af_ends.proofs.client_calls.write_in.Goals as goal

pub returns-clause-ready : goal.returns-clause-ready
returns-clause-ready g c =
    let p : ClientPart = c.args.client.now.pass.part in
    (c.write.ensures.ready, subst (λ (es : List ClientEvent). is_lawful es ≡ true) (sym c.write.ensures.does.1) (lawful_call p.shape.frames p.shape.base p.events (wrote_call c.write.result) (calm c.write.result) c.requires.ready.1))

pub returns-clause-answer : goal.returns-clause-answer
returns-clause-answer g c =
    subst (λ (r : Result ℕ EndError). Writes c.args.client.now (length c.args.frames.now) r c.write.new.self) (sym c.told.ensures)
    (told_writes c.args.client.now (length c.args.frames.now) c.write.result c.write.new.self c.requires.may c.write.ensures.does (c.write.ensures.lawful c.requires.ready.1))

pub returns-clause-releases : goal.returns-clause-releases
returns-clause-releases g c =
    subst (λ (n : ℕ). Releases c.args.client.now (map packed_word (take n c.args.frames.now)) c.write.new.self) (sym (ap count_in c.told.ensures ∙ told_count c.write.result)) c.write.ensures.releases

pub returns-clause-few : goal.returns-clause-few
returns-clause-few g c =
    subst (λ (n : ℕ). n ≤ length c.args.frames.now) (sym (ap count_in c.told.ensures ∙ told_count c.write.result)) (told_few c.args.client.now (length c.args.frames.now) c.write.result c.write.ensures.does.0)

pub returns-clause-kept : goal.returns-clause-kept
returns-clause-kept g c =
    (c.write.ensures.kept.0, c.write.ensures.kept.1 ∙ ap (λ (n : ℕ). c.args.client.now.released + n) (sym (ap count_in c.told.ensures ∙ told_count c.write.result)))
