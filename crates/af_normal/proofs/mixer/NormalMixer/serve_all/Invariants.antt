use Rattle.std.proofs.Common.{◌≡◌, ℕ, ◌<◌, ◌≤◌, length}
use Rattle.af_normal.proofs.Common.{track_at}
use Rattle.af_normal.specs.Mixing.{stream_at}
use Rattle.af_normal.specs.Order.{HasTurns}
use Rattle.af_normal.specs.Ready.{AreOwn, serving_of}
use Rattle.af_normal.specs.Serving.{ServesTo}
use Rattle.af_normal.specs.State.{setup_of}
use Rattle.af_normal.specs.Turning.{learnt_by}
use Rattle.af_normal.proofs.mixer.NormalMixer.serve_all.Given as goal

abbrev pub invariant-loop-i : goal.invariant-loop-i
invariant-loop-i g l = record {
  serves : ServesTo (setup_of l.fn.self) (learnt_by l.report l.fn.self.streams) l.i (serving_of l.fn.self) (serving_of l.self);
  same : l.self ≡ record l.fn.self { tracks = l.self.tracks; streams = l.self.streams; commands = l.self.commands; hands = l.self.hands; entry = l.self.entry; spare_turns = l.self.spare_turns };
  entry : l.self.entry ≡ record l.fn.self.entry { tracks = l.self.entry.tracks };
  long : (length l.self.tracks ≡ length l.fn.self.tracks) × (length l.self.streams ≡ length l.fn.self.streams);
  later : (k : ℕ) → l.i ≤ k → (track_at l.self.tracks k ≡ track_at l.fn.self.tracks k) × (stream_at l.self.streams k ≡ stream_at l.fn.self.streams k);
  own : (k : ℕ) → k < length l.fn.self.tracks → AreOwn l.links l.self.streams l.self.commands l.self.hands k;
  turns : HasTurns (length l.fn.self.tracks) l.self.entry.tracks l.self.spare_turns;
  count : length l.self.entry.tracks.items ≡ l.i;
}
