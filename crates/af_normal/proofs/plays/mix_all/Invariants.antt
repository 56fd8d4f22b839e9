use Rattle.std.proofs.Common.{◌≡◌, ℕ, ◌≤◌, [], length, map, is_some}
use Rattle.af_normal.proofs.Common.{take_seen, track_at}
use Rattle.af_normal.specs.Mixing.{MixesTo}
use Rattle.af_normal.specs.AllMixed.{AreHome, AreServersOf, HasTakes}
use Rattle.af_normal.proofs.plays.mix_all.Given as goal

abbrev pub invariant-loop-i : goal.invariant-loop-i
invariant-loop-i g l = record {
  mixes : MixesTo (length l.fn.buffer) l.i (record { tracks = l.fn.tracks; streams = l.fn.streams; takes = [] }) (record { tracks = l.tracks; streams = l.streams; takes = map take_seen l.mixes.items });
  there : map is_some l.streams ≡ map is_some l.fn.streams;
  home : AreHome l.tracks l.streams;
  ready : AreServersOf l.links.streams.now l.streams;
  later : (k : ℕ) → l.i ≤ k → track_at l.tracks k ≡ track_at l.fn.tracks k;
  takes : HasTakes (length l.fn.buffer) (length l.fn.tracks) l.mixes l.spare;
  few : length l.mixes.items ≤ l.i;
}
