-- Basic lemmas that several files here, and of the crates above, cite.
use Rattle.std.proofs.Common.{Bool, List, [], refl, ℕ, ◌++◌, ◌∷◌, ◌≡◌}
use Rattle.af_nblog.specs.NoteRounds.{count_accepted, last_accepted}

-- how many notes the last of some rounds accepted
pub last_of : (before : ℕ) (rounds : List (List Bool)) (round : List Bool) → last_accepted before (rounds ++ round ∷ []) ≡ count_accepted round
last_of before [] round = refl
last_of before (first ∷ rounds) round = last_of (count_accepted first) rounds round
