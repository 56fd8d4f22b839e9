use Rattle.std.proofs.Common.{◌≡◌, ◌+◌, ◌≤◌, fold, map, take}
use Rattle.af_judge.proofs.Common.{Track, after_call, packed_word}
use Rattle.af_judge.specs.Tracks.{AreMade, KeepsTrack, SameServers}
use Rattle.af_judge.proofs.track_judge.TrackJudge.makes.Given as goal

abbrev pub invariant-loop-call : goal.invariant-loop-call
invariant-loop-call l = record {
  few : l.self.client.calls ≤ l.fn.self.client.calls + l.call-index;
  servers : SameServers l.fn.self l.self;
  made : (t : Track) → t.file ≡ map packed_word l.file → KeepsTrack l.ops l.fn.self t → AreMade t (take l.call-index l.calls) × KeepsTrack l.ops l.self (fold after_call t (take l.call-index l.calls));
}
