-- Frames stored one after another.
use Rattle.std.proofs.Common.{◌≡◌, ◌≢◌, inl, inr, ℕ, zero, suc, refl, ◌+◌, ◌-◌, ◌%◌, ◌^◌, ◌<◌, ◌≤◌, if◌then◌else◌, Bool, List, [], ◌∷◌, length, take, map, slice_index, sym, ap, ◌∙◌, subst, arith, eq-eqb, ne_eqb, ext_get_or, get_or-take, length-take-le, mod-eq_of_lt}
use Rattle.af_client.proofs.Common.{ClientPart, Frame, Has, client_saw_front, filled, next_stored, packed_word, released, run_of, take-map, with_run, word_at, wrapped}
use Rattle.af_cblk.proofs.Rows.{run_length, run_at}
use Rattle.af_client.specs.Calls.{Stored}

-- a run keeps what was stored for a frame before it
kept_before : (words : List ℕ) (stored : List (ℕ × ℕ)) (x y : ℕ) → y < x → Has stored y → Has (with_run stored x words) y × (word_at (with_run stored x words) y ≡ word_at stored y)
kept_before [] stored x y less has = (has, refl)
kept_before (w ∷ words) stored x y less has =
    let other : y ≢ x = λ e. (omega arith) in
    let later = kept_before words ((x, w) ∷ stored) (suc x) y (omega arith) (inr has) in
    (later.0, later.1 ∙ ap (λ (b : Bool). if b then w else word_at stored y) (ne_eqb y x other))

-- each word of a run was stored for its frame
run_stored : (words : List ℕ) (stored : List (ℕ × ℕ)) (x k : ℕ) → k < length words → Has (with_run stored x words) (x + k) × (word_at (with_run stored x words) (x + k) ≡ slice_index words k)
run_stored [] stored x k less = absurd (omega arith)
run_stored (w ∷ words) stored x zero less =
    let here : x + zero ≡ x = omega arith in
    let later = kept_before words ((x, w) ∷ stored) (suc x) (x + zero) (omega arith) (inl here) in
    (later.0, later.1 ∙ ap (λ (b : Bool). if b then w else word_at stored (x + zero)) (eq-eqb (x + zero) x here))
run_stored (w ∷ words) stored x (suc k) less =
    let next : suc x + k ≡ x + suc k = omega arith in
    let all : List (ℕ × ℕ) = with_run ((x, w) ∷ stored) (suc x) words in
    subst (λ (z : ℕ). Has all z × (word_at all z ≡ slice_index words k)) next (run_stored words ((x, w) ∷ stored) (suc x) k (omega arith))

-- the words of the next frames were stored
pub stored_next : (c d : ClientPart) (words : List ℕ) (n : ℕ) → n ≡ length words → d ≡ next_stored c words → Stored d words n
stored_next c d words n is now = subst (λ (p : ClientPart). Stored p words n) (sym now) (λ k less. run_stored words c.stored (length c.frames) k (omega arith))

-- what was stored of the first frames was stored of all
pub stored_first : (c : ClientPart) (frames : List Frame) (n : ℕ) → n ≤ length frames → Stored c (map packed_word (take n frames)) (length (take n frames)) → Stored c (map packed_word frames) n
stored_first c frames n fits stored k less =
    let low : k < length (take n frames) = subst (λ (z : ℕ). k < z) (sym (length-take-le n frames fits)) less in
    let old = stored k low in
    (old.0, old.1 ∙ ap (λ (l : List ℕ). slice_index l k) (sym (take-map packed_word n frames)) ∙ get_or-take n (map packed_word frames) k 0 less)

-- what was stored is what a release releases
pub run_is : (c : ClientPart) (words : List ℕ) (n : ℕ) → n ≤ length words → Stored c words n → run_of c.stored (length c.frames) n ≡ take n words
run_is c words n fits stored =
    ext_get_or 0 _ _ (run_length c.stored (length c.frames) n ∙ sym (length-take-le n words fits))
    (λ i less.
    let low : i < n = subst (λ (z : ℕ). i < z) (run_length c.stored (length c.frames) n) less in
    run_at c.stored (length c.frames) n i low ∙ (stored i low).1 ∙ sym (get_or-take n words i 0 low))

-- the room that the code computes is that of the part
pub filled-word : (c d : ClientPart) (rear front : ℕ) → rear ≡ wrapped (released c) → front < 2 ^ 32 → d ≡ client_saw_front c front → filled d ≡ (rear + (2 ^ 32 - front)) % 2 ^ 32
filled-word c d rear front is small saw =
    ap filled saw ∙ ap (λ (z : ℕ). (wrapped (released c) + (2 ^ 32 - z)) % 2 ^ 32) (mod-eq_of_lt small) ∙ ap (λ (z : ℕ). (z + (2 ^ 32 - front)) % 2 ^ 32) (sym is)
