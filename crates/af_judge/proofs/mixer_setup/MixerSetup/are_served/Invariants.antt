use Rattle.std.proofs.Common.{◌≡◌, ℕ, ◌<◌, map}
use Rattle.af_judge.proofs.Common.{LegalTrack, learnt_of, seen_at, served_to, track_seen}
use Rattle.af_judge.proofs.mixer_setup.MixerSetup.are_served.Given as goal

abbrev pub invariant-loop-i : goal.invariant-loop-i
invariant-loop-i l = record {
  so_far : l.tracks.items ≡ served_to l.self (learnt_of l.report l.own) (map track_seen l.turns) l.fn.tracks.items l.i;
  legal : (j : ℕ) → j < l.i → LegalTrack l.self (learnt_of l.report l.own) (seen_at (map track_seen l.turns) j) (served_to l.self (learnt_of l.report l.own) (map track_seen l.turns) l.fn.tracks.items j) j;
}
