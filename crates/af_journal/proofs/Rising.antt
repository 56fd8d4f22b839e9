-- Takes of rising tracks, of which one more is added at the end.
use Rattle.std.proofs.Common.{ℕ, ◌+◌, ◌≤◌, List, [], ◌∷◌, ◌++◌, length, arith}
use Rattle.af_journal.proofs.Common.{TakeSeen, TracksRise}

-- the tracks rise, from low on and below high
abbrev pub RiseTo : ℕ → ℕ → List TakeSeen → Type 0
RiseTo low high [] = low ≤ high
RiseTo low high (t ∷ ts) = (low ≤ t.track) × RiseTo (t.track + 1) high ts

pub rise-more : (low high : ℕ) (ts : List TakeSeen) (t : TakeSeen) → RiseTo low high ts → high ≤ t.track → RiseTo low (t.track + 1) (ts ++ t ∷ [])
rise-more low high [] t r h = (omega arith, omega arith)
rise-more low high (x ∷ xs) t r h = (r.0, rise-more (x.track + 1) high xs t r.1 h)

pub rise-all : (low high : ℕ) (ts : List TakeSeen) → RiseTo low high ts → TracksRise low ts
rise-all low high [] r = tt
rise-all low high (t ∷ ts) r = (r.0, rise-all (t.track + 1) high ts r.1)

-- there are no more takes than tracks
pub rise-few : (low high : ℕ) (ts : List TakeSeen) → RiseTo low high ts → low + length ts ≤ high
rise-few low high [] r = omega arith
rise-few low high (t ∷ ts) r = let n = rise-few (t.track + 1) high ts r.1 in let h = r.0 in omega arith
