use Rattle.std.proofs.Common.{◌≡◌, ◌∙◌, length, refl, subst, sym}
use Rattle.af_party.specs.Asking.{Makes, track_with}
use Rattle.af_party.specs.Parties.{PartyState, side_of_proxy}
use Rattle.af_party.proofs.MadeCalls.{few_written, made_on_stream, write_words}
use Rattle.af_party.proofs.TurnMade.{few_frames, frames_next}
use Rattle.af_party.proofs.party.Party.write.Goals as goal

pub returns-clause-makes : goal.returns-clause-makes
returns-clause-makes g c =
    let file = c.args.file.now in let inside = c.self.inside in let first = c.released-first.result in
    let p : PartyState = record { track = inside.track; client = inside.client; stream = inside.stream; command = inside.command; calls = inside.calls } in
    let P : PartyState → Type 0 = λ x. Makes file c.ask_write.result x (record p { stream = c.ask_write.new.client }) in
    let Q : PartyState → Type 0 = λ x. x.stream.released ≡ length x.stream.pass.part.frames in
    let count : Q p = subst Q (sym c.self.view_is) c.requires.ready.1.released_is in
    subst P c.self.view_is
    (made_on_stream file _ c.ask_write.result _ p c.ask_write.new.client c.ask_write.ensures.asked
    (λ k. write_words (track_with k file p) file _ c.args.count c.ask_write.result c.ask_write.ensures.wanted refl
    (frames_next file first c.args.count (length p.stream.pass.part.frames) (c.released-first.ensures ∙ count))
    (few_frames file first c.args.count _ (few_written (side_of_proxy p.stream) _ c.ask_write.result c.ask_write.ensures.asked.answers))))
