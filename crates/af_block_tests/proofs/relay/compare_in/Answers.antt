use Rattle.std.proofs.Common.{◌≡◌, ℕ, true, List, take, map, sym, ap, ◌∙◌, subst}
use Rattle.std.proofs.lemmas.List.{take-map, length-map}
use Rattle.af_base.specs.Sample.{packed_word}
use Rattle.af_model.specs.History.{is_lawful}
use Rattle.af_cblk.specs.Sides.{ClientSide}
use Rattle.af_cblk.specs.declared.view.ClientPart.{ClientPart}
use Rattle.af_server.specs.Order.{ServerState}
use Rattle.af_block_tests.proofs.Relayed.{take_begins}
use Rattle.af_block_tests.proofs.relay.compare_in.Goals as goal

pub returns : goal.returns
returns g c = λ clean.
    let lent : c.pass.result.now ≡ c.args.client.pass = c.pass.ensures.value in
    let lawful : is_lawful c.pass.result.now.part.events ≡ true = subst (λ (x : ClientSide). is_lawful x.part.events ≡ true) (sym lent) c.requires.sent.0 in
    let begins = c.meet.ensures.begins lawful (c.requires.received.1 clean) in
    let words : List ℕ = map packed_word c.args.frames.now in
    let m : ℕ = c.requires.sent.1.0 in
    let sent : c.meet.new.client.part.frames ≡ take m words =
    ap (λ (x : ClientPart). x.frames) c.meet.ensures.client ∙ ap (λ (x : ClientSide). x.part.frames) lent ∙ c.requires.sent.1.1 ∙ sym (take-map packed_word m c.args.frames.now) in
    let got : map packed_word c.args.all.now.items ≡ c.meet.new.self.pass.part.frames = sym (ap (λ (x : ServerState). x.pass.part.frames) c.meet.ensures.server ∙ c.requires.received.0) in
    take_begins (map packed_word c.args.all.now.items) words begins.0 m (got ∙ begins.1 ∙ ap (λ (l : List ℕ). take begins.0 l) sent)
    ∙ ap (λ (n : ℕ). take n words) (length-map c.args.all.now.items packed_word ∙ sym c.args.all.now.ok.0)
