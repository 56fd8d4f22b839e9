-- What an entry weighs tells how many looks it holds at a track.
use Rattle.std.proofs.Common.{◌≡◌, ℕ, zero, suc, ◌+◌, ◌-◌, ◌*◌, ◌/◌, ◌<◌, ◌≤◌, List, [], ◌∷◌, length, arith}
use Rattle.af_life.proofs.Common.{TrackSeen, Turn, fold, max}
use Rattle.af_life.specs.Kept.{seen_at, track_in}
use Rattle.af_life.specs.Small.{longest, turn_weight, most_tracks}
use Rattle.af_life.proofs.Words.{IsTurnUpTo}

abbrev longer : ℕ → TrackSeen → ℕ
longer most seen = max most (length seen.looks)

grows : (turns : List TrackSeen) (a : ℕ) → a ≤ fold longer a turns
grows [] a = omega arith
grows (t ∷ turns) a = let more : max a (length t.looks) ≤ fold longer (max a (length t.looks)) turns = grows turns (max a (length t.looks)) in omega arith

up_to_longest : (turns : List TrackSeen) (a i : ℕ) → length (seen_at turns i).looks ≤ fold longer a turns
up_to_longest [] a i = omega arith
up_to_longest (t ∷ turns) a zero = let more : max a (length t.looks) ≤ fold longer (max a (length t.looks)) turns = grows turns (max a (length t.looks)) in omega arith
up_to_longest (t ∷ turns) a (suc i) = up_to_longest turns (max a (length t.looks)) i

by_weight : (n m : ℕ) → n ≤ m → n ≤ 64 * (1 + (m - 1) / 64)
by_weight n m le = omega arith

pub looks_up_to : (e : Turn) (i : ℕ) → length (track_in e i).looks ≤ 64 * turn_weight e
unfolding turn_weight
looks_up_to e i = by_weight (length (track_in e i).looks) (longest e.tracks) (up_to_longest e.tracks 0 i)

pub some_weight : (e : Turn) → 0 < turn_weight e
unfolding turn_weight
some_weight e = omega arith

pub up_to_weight : (e : Turn) → length e.mixes ≤ most_tracks → IsTurnUpTo (turn_weight e) e
up_to_weight e few = record { looks = looks_up_to e; mixes = few }
