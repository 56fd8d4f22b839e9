-- Basic lemmas that several files here, and of the crates above, cite.
use Rattle.std.proofs.Common.{List, Some, [], refl, slice_get, suc, true, ℕ, ◌&&◌, ◌∷◌, ◌≡◌}
use Rattle.af_play_law.proofs.Common.{PartyState, list_all}

pub clients_all : (ps : List PartyState) → ((i : ℕ) (p : PartyState) → slice_get ps i ≡ Some p → p.client.ended ≡ true) → list_all (λ (p : PartyState). p.client.ended) ps ≡ true
clients_all [] each = refl
clients_all (p ∷ ps) each = (λ j. each 0 p refl j && clients_all ps (λ i q is. each (suc i) q is) j)
