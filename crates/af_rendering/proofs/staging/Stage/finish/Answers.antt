use Rattle.std.proofs.Common.{◌≡◌, ℕ, length, ap, sym, ◌∙◌, arith}
use Rattle.af_rendering.proofs.Common.{EndsState, Roomy}
use Rattle.af_rendering.proofs.ShownWhole.{is_told, tally_tracks}
use Rattle.af_rendering.proofs.staging.Stage.finish.Goals as goal

pub sum_up-summary-requires-clause-room : goal.sum_up-summary-requires-clause-room
sum_up-summary-requires-clause-room c =
    let noted = c.requires.1 in
    let room : c.args.self.room.released.room ≡ length c.requires.0.tracks = ap (λ (b : Roomy ℕ). b.room) noted.room in
    let count = noted.count in
    omega (arith, room, count)

pub sum_up-summary-requires-clause-count : goal.sum_up-summary-requires-clause-count
sum_up-summary-requires-clause-count c =
    let script = c.requires.0 in
    let noted = c.requires.1 in
    let s = c.args.self in
    tally_tracks script.frames c.args.rounds s.parties.fast.log s.parties.normal.mutator.past.events s.room.tally noted.tally ∙ noted.tracks ∙ sym noted.count

pub returns-clause-summary : goal.returns-clause-summary
returns-clause-summary c = λ script noted.
    let s = c.args.self in
    c.hand_back.ensures.summary
    ∙ is_told script.frames c.args.rounds s.parties.fast.log s.parties.normal.mutator.past.events s.parties.clients s.room.tally c.sum_up-summary.result c.hand_back.result.journal c.hand_back.result.ends
    noted.whole c.hand_back.ensures.journal (ap (λ (e : EndsState). e.clients) c.hand_back.ensures.ends) (ap (λ (e : EndsState). e.normal.mutator.past.events) c.hand_back.ensures.ends) noted.tally
    c.sum_up-summary.ensures
