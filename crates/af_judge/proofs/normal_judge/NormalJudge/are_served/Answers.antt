use Rattle.std.proofs.Common.{ap, ◌∙◌, List, length, map}
use Rattle.af_judge.proofs.Common.{TrackTurn, acked_len, after_ack, learnt_of, track_seen, turn_of}
use Rattle.af_judge.specs.NormalJudged.{NormalJudged}
use Rattle.af_judge.proofs.NormalKept.{found_room, found_slots, served_so}
use Rattle.af_judge.proofs.normal_judge.NormalJudge.are_served.Goals as goal

pub are_served-requires-clause-slots : goal.are_served-requires-clause-slots
are_served-requires-clause-slots c = found_slots c.args.self.now.plain.turns c.args.self.now.plain.setup c.args.self.now.plain.kept c.args.entry.now.ack c.in_ok-found.found.items c.requires.judged.small c.in_ok-found.ensures

pub are_served-requires-clause-room : goal.are_served-requires-clause-room
are_served-requires-clause-room c =
    found_room c.args.self.now.plain.turns c.args.self.now.plain.setup c.args.self.now.plain.kept (turn_of c.args.entry.now) c.in_ok-found.found.items (map track_seen c.as_slice.result.now) c.requires.judged.small c.requires.turns c.in_ok-found.ensures
    (ap (λ (ts : List TrackTurn). map track_seen ts) c.as_slice.ensures)

pub returns : goal.returns
returns c =
    let m = c.args.self.now.plain.kept in
    served_so c.self.inside.setup c.args.self.now.plain.setup (learnt_of c.args.report.now c.args.own.now) c.as_slice.result.now c.args.entry.now.tracks.items c.in_ok-found.found.items (after_ack c.args.entry.now.ack m).tracks (length m.tracks) c.are_served.result
    (ap (λ (j : NormalJudged). j.setup) c.self.view_is ∙ c.requires.judged.setup) c.as_slice.ensures c.in_ok-found.ensures (acked_len c.args.entry.now.ack m) c.are_served.ensures
