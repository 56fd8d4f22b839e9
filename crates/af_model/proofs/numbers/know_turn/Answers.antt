use Rattle.std.proofs.Common.{subst}
use Rattle.af_model.proofs.Common.{All, All-map, NormalTake, TrackTurn, take_seen, track_seen}
use Rattle.af_model.specs.Numbers.{FitsTake, FitsTrack}
use Rattle.af_model.proofs.numbers.know_turn.Goals as goal

pub returns : goal.returns
returns c = record {
  room = c.know_word.ensures;
  cycle = c.know_number.ensures;
  tracks = All-map FitsTrack track_seen c.args.turn.now.tracks.items (subst (All (λ (t : TrackTurn). FitsTrack (track_seen t))) c.as_slice.ensures c.know_tracks.ensures);
  push = c.know_push.ensures;
  takes = All-map FitsTake take_seen c.args.turn.now.mixes.items (subst (All (λ (t : NormalTake). FitsTake (take_seen t))) c.as_slice-2.ensures c.know_takes.ensures);
}
