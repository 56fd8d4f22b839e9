-- Basic lemmas that several files here, and of the crates above, cite.
use Rattle.std.proofs.Common.{List, Some, [], ap, refl, subst, sym, ℕ, ◌++◌, ◌∙◌, ◌∷◌, ◌≡◌}
use Rattle.af_fast.proofs.Common.{IsServerOf, IsStreamOf, Made, Report, ServerState, Store, WriterEvent, last_of, some_same}
use Rattle.std.specs.Prelude.{slice_get}
use Rattle.af_model.specs.declared.newest.WriterEvent.TheVariants as writes

-- what a writer learns stores nothing
pub last_of-learn : (x : Report) (ws : List (WriterEvent Report)) (k : ℕ) → last_of x (ws ++ writes.Learn k ∷ []) ≡ last_of x ws
last_of-learn x [] k = refl
last_of-learn x (Store y ∷ ws) k = last_of-learn y ws k
last_of-learn x (writes.Learn c ∷ ws) k = last_of-learn x ws k

-- a server of the block of a place
pub one_of : (blocks : List Made) (i : ℕ) (b : Made) (x s : ServerState) → slice_get blocks i ≡ Some b → IsServerOf b x → Some x ≡ Some s → IsStreamOf blocks i s
one_of blocks i b x s here of is = subst (λ (t : ServerState). IsStreamOf blocks i t) (some_same x s is) (record { made = here ∙ ap (λ (m : Made). Some m) (sym of.0); in_order = of.1 })
