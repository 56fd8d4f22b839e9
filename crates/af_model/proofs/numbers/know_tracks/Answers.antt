use Rattle.std.proofs.Common.{subst, arith}
use Rattle.af_model.proofs.Common.{All, All-more, TrackTurn, take_all, track_seen}
use Rattle.af_model.specs.Numbers.{FitsTrack}
use Rattle.af_model.proofs.numbers.know_tracks.Goals as goal

pub loop-i-preserved : goal.loop-i-preserved
loop-i-preserved c = All-more (λ (t : TrackTurn). FitsTrack (track_seen t)) c.args.tracks.now c.loop-i.i c.index-tracks-i.result (omega (arith, c.loop-i-test.true, c.loop-i.auto.i-end)) c.loop-i.invariant (subst (λ (t : TrackTurn). FitsTrack (track_seen t)) c.index-tracks-i.is c.know_track.ensures)

pub returns : goal.returns
returns c = subst (All (λ (t : TrackTurn). FitsTrack (track_seen t))) (take_all c.loop-i.i c.args.tracks.now (omega (arith, c.loop-i-test.false, c.loop-i.auto.i-end))) c.loop-i.invariant
