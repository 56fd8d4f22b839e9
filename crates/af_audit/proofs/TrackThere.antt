-- The track at a place of a list.
use Rattle.std.proofs.Common.{ℕ, ◌<◌, List, [], ◌∷◌, length, arith}
use Rattle.af_audit.proofs.Common.{IsTrackAt, TrackJudge, slice_index_or, there_is}

first : (tracks : List TrackJudge) (n : ℕ) → n < length tracks → TrackJudge
first [] n lt = absurd (let z : ⊥ = omega (arith, lt) in z)
first (t ∷ tracks) n lt = t

pub track_there : (tracks : List TrackJudge) (n : ℕ) → n < length tracks → (t : TrackJudge) × IsTrackAt tracks n t
track_there tracks n lt = let d = first tracks n lt in (slice_index_or tracks n d, there_is tracks n d lt)
