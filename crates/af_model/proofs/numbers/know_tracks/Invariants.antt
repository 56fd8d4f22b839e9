use Rattle.std.proofs.Common.{take}
use Rattle.af_model.proofs.Common.{All, TrackTurn, track_seen}
use Rattle.af_model.specs.Numbers.{FitsTrack}
use Rattle.af_model.proofs.numbers.know_tracks.Given as goal

abbrev pub invariant-loop-i : goal.invariant-loop-i
invariant-loop-i l = All (λ (t : TrackTurn). FitsTrack (track_seen t)) (take l.i l.tracks)
