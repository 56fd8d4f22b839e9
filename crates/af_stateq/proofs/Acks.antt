-- What the mutator has after a look at the acknowledgement.
use Rattle.std.proofs.Common.{◌≡◌, ◌≢◌, ℕ, zero, suc, ◌<◌, ◌==◌, ◌&&◌, not, if◌then◌else◌, true, false, Bool, List, [], ◌∷◌, length, Option, None, is_some, replicate, refl, ap, sym, ◌∙◌, subst, arith, eq-eqb, ne_eqb}
use Rattle.af_stateq.proofs.Common.{get_or-replicate, has, never_true, not_both, slots}
use Rattle.af_stateq.specs.Shelved.{word, nothing}
use Rattle.af_stateq.specs.Ends.{Pushes, saw, SawAcked}
use Rattle.af_stateq.specs.Mutates.{Mutates, at, InDraft, SlotIn, IsJoined}
use Rattle.af_stateq.specs.Answers.{SeesIt, SeesOlder, SameDraft}
use Rattle.af_stateq.proofs.Slots.{stay_one}
use Rattle.af_stateq.proofs.Edits.{both_are, look_keeps, join_keeps}

-- a list of shelves that are all empty
pub all_none : {P : Type 0} (n : ℕ) (xs : List (Option P)) → length xs ≡ n → ((i : ℕ) → i < n → at xs i ≡ None) → xs ≡ replicate n None
all_none zero [] e h = refl
all_none zero (x ∷ xs) e h = absurd (omega arith)
all_none (suc n) [] e h = absurd (omega arith)
all_none (suc n) (x ∷ xs) e h = λ i. h 0 (omega arith) i ∷ all_none n xs (omega arith) (λ j lt. h (suc j) (omega arith)) i

-- a look leaves the draft and the number as they are
pub same_looked : {P K : Type 0} (m m' : Mutates P K) (a : ℕ) (items returned : List (Option P)) → m' ≡ record m { past = saw a items m.past; returned = returned } → SameDraft m m' × (m'.past.number ≡ m.past.number)
same_looked {P = P} {K = K} m m' a items returned e = (
  (
    ap (λ (z : Mutates P K). z.past.queue) e,
    ap (λ (z : Mutates P K). z.past.key) e,
    ap (λ (z : Mutates P K). z.past.first) e,
    ap (λ (z : Mutates P K). z.draft) e,
    ap (λ (z : Mutates P K). z.editing) e,
    ap (λ (z : Mutates P K). z.out) e,
  ),
  ap (λ (z : Mutates P K). z.past.number) e,
)

module _ {P K : Type 0} (fits : K → ℕ → P → Type 0) (m : Mutates P K) (d : InDraft fits m) (came : List (Option P)) (seen : ℕ) (past : Pushes P K) (s : SawAcked fits m.past nothing seen past came) where
  -- the last state is not acknowledged
  module _ (miss : seen ≢ word m.past.number) where
    not_hit : (seen == word m.past.number) ≡ false
    not_hit = ne_eqb seen (word m.past.number) miss

    not_clear : m.past.clear ≡ false
    not_clear = never_true m.past.clear (λ c. not_both (seen == word m.past.number) (s.6 c) not_hit)

    none_came : (past ≡ saw s.0 [] m.past) × (came ≡ nothing)
    none_came = s.4 (ap (λ b. not m.past.clear && b) not_hit ∙ ap (λ b. not b && false) not_clear)

    pub older_keeps : InDraft fits record m { past = past }
    older_keeps = subst (λ (q : Pushes P K). InDraft fits record m { past = q }) (sym none_came.0)
        (look_keeps fits m d s.0 (λ i. record (saw s.0 [] m.past) { clear = (ap (λ (w : ℕ). w == word m.past.number) (sym s.1) ∙ not_hit ∙ sym not_clear) i }))

    pub older_empty : came ≡ nothing
    older_empty = none_came.1

    pub sees_older : (a : ℕ) × (seen ≡ word a) × SeesOlder m (record m { past = past }) a
    sees_older = (s.0, s.1, ((let e = s.3 miss in omega arith), s.3 miss, (λ i. record m { past = none_came.0 i }), not_clear, ap (λ (q : Pushes P K). q.clear) none_came.0 ∙ ap (λ (w : ℕ). w == word m.past.number) (sym s.1) ∙ not_hit))

  -- it is acknowledged
  module _ (hit : seen ≡ word m.past.number) where
    is_hit : (seen == word m.past.number) ≡ true
    is_hit = eq-eqb seen (word m.past.number) hit

    now_clear : (a : ℕ) (items : List (Option P)) → seen ≡ word a → (saw a items m.past).clear ≡ true
    now_clear a items e = ap (λ (w : ℕ). w == word m.past.number) (sym e) ∙ is_hit

    test : (b : Bool) → m.past.clear ≡ b → (not m.past.clear && (seen == word m.past.number)) ≡ not b
    test b e = ap (λ x. not x && (seen == word m.past.number)) e ∙ ap (λ x. not b && x) is_hit ∙ and_right (not b)
      where
        and_right : (x : Bool) → (x && true) ≡ x
        and_right true = refl
        and_right false = refl

    apart_by : (b : Bool) → m.past.clear ≡ b → (i : ℕ) → i < slots → has came i ≡ true → has m.returned i ≡ false
    apart_by true e i lt h = absurd (not_both (has came i) h (ap (λ xs. has xs i) (s.4 (test true e)).1 ∙ ap is_some (get_or-replicate slots i None None lt)))
    apart_by false e i lt h = let t = s.5 (test false e) in let q = both_are _ _ (sym (t.1.1 i lt) ∙ h) in ((d.each i lt).comes e q.0 q.1).1

    pub apart : (i : ℕ) → i < slots → has came i ≡ true → has m.returned i ≡ false
    apart = apart_by m.past.clear refl

    module _ (after : List (Option P)) (long : length after ≡ slots) (joined : IsJoined came m.returned after) where
      same_at : came ≡ nothing → (i : ℕ) → i < slots → at after i ≡ at m.returned i
      same_at e i lt = joined i lt ∙ ap (λ (o : Option P). if is_some o then o else at m.returned i) (ap (λ xs. at xs i) e ∙ get_or-replicate slots i None None lt)

      stays : past ≡ saw s.0 [] m.past → came ≡ nothing → m.past.clear ≡ true → InDraft fits record m { past = past; returned = after }
      stays p e c = subst (λ (q : Pushes P K). InDraft fits record m { past = q; returned = after }) (sym p) record {
        state = d.state;
        lengths = (d.lengths.0, long, d.lengths.2);
        each = λ i lt. subst (λ (b : Bool). SlotIn b m.draft m.past.last m.past.before m.pending after m.out i) (c ∙ sym (now_clear s.0 [] s.1))
            (stay_one _ _ _ _ _ _ _ _ _ _ (d.each i lt) (at after i) (same_at e i lt));
        fit_pending = d.fit_pending;
        fit_returned = λ key k i p lt is. d.fit_returned key k i p lt (sym (same_at e i lt) ∙ is);
        begins = λ _. now_clear s.0 [] s.1;
      }

      hit_by : (b : Bool) → m.past.clear ≡ b → InDraft fits record m { past = past; returned = after } × SeesIt m (record m { past = past; returned = after }) × (past.clear ≡ true)
      hit_by true c = let t = s.4 (test true c) in (
        stays t.0 t.1 c,
        ([], (λ i. record m { past = (t.0 ∙ ap (λ a. saw a [] m.past) (s.2 hit)) i; returned = after }), (λ i lt. same_at t.1 i lt), ((λ _. refl), λ f. absurd (not_both m.past.clear c f))),
        ap (λ (q : Pushes P K). q.clear) t.0 ∙ now_clear s.0 [] s.1,
      )
      hit_by false c = let t = s.5 (test false c) in (
        subst (λ (q : Pushes P K). InDraft fits record m { past = q; returned = after }) (sym t.0) (join_keeps fits m d s.0 came after c (now_clear s.0 came s.1) t.1 t.2 long joined),
        (came, (λ i. record m { past = (t.0 ∙ ap (λ a. saw a came m.past) (s.2 hit)) i; returned = after }), joined, ((λ y. absurd (not_both m.past.clear y c)), λ _. t.1)),
        ap (λ (q : Pushes P K). q.clear) t.0 ∙ now_clear s.0 came s.1,
      )

      pub hit_all : InDraft fits record m { past = past; returned = after } × SeesIt m (record m { past = past; returned = after }) × (past.clear ≡ true)
      hit_all = hit_by m.past.clear refl
