-- The slots of a report, added one after the other.
use Rattle.std.proofs.Common.{◌≡◌, ◌⊎◌, inl, inr, ℕ, ◌+◌, ◌<◌, ◌≤◌, ◌||◌, Bool, true, false, if◌then◌else◌, is_some, List, length, refl, sym, ap, ◌∙◌, subst, arith}
use Rattle.af_judge.proofs.Common.{CycleEntry, FastState, ServerKnown, SlotReport, carries, cases_lt, counted_look, entry_slot, get_or-set_other, get_or-set_same, length-set, no_slot, shows_slot, report_at, slice_set, slot_of, slots, state_of}
use Rattle.af_judge.specs.Reporting.{CountsUpTo, slot_added}

-- the slots before the one of a number are added, and the others are as before
pub record AreAdded (f : ℕ → SlotReport) (before now : List SlotReport) (most n : ℕ) : Type 0 where
  pub long : length now ≡ slots
  pub each : (i : ℕ) → i < n → report_at now i ≡ f i
  pub later : (i : ℕ) → n ≤ i → report_at now i ≡ report_at before i
  pub few : (i : ℕ) → i < n → CountsUpTo most (report_at now i)

-- none are added yet
pub added-none : (f : ℕ → SlotReport) (before now : List SlotReport) (most : ℕ) → length now ≡ slots → now ≡ before → AreAdded f before now most 0
added-none f before now most long same = record {
  long = long;
  each = λ i lt. absurd (let x : ⊥ = omega (arith, lt) in x);
  later = λ i le. ap (λ (l : List SlotReport). report_at l i) same;
  few = λ i lt. absurd (let x : ⊥ = omega (arith, lt) in x);
}

-- one slot more is added
pub added-more : (f : ℕ → SlotReport) (before now : List SlotReport) (most n : ℕ) (r : SlotReport) → AreAdded f before now most n → n < slots → r ≡ f n → CountsUpTo most r → AreAdded f before (slice_set now n r) most (n + 1)
added-more f before now most n r a lt is few = record {
  long = length-set now n r ∙ a.long;
  each = λ i le. each i (cases_lt i n) le;
  later = λ i le. get_or-set_other now n i r no_slot (λ e. omega (arith, e, le)) ∙ a.later i (omega (arith, le));
  few = λ i le. counts i (cases_lt i n) le;
} where
  low : n < length now
  low = (let l = a.long in omega (arith, l, lt))

  here : (i : ℕ) → n ≤ i → i < n + 1 → report_at (slice_set now n r) i ≡ r
  here i more le = ap (report_at (slice_set now n r)) (let e : i ≡ n = omega (arith, more, le) in e) ∙ get_or-set_same now n r no_slot low

  there : (i : ℕ) → i < n → report_at (slice_set now n r) i ≡ report_at now i
  there i less = get_or-set_other now n i r no_slot (λ e. omega (arith, e, less))

  each : (i : ℕ) → (i < n) ⊎ (n ≤ i) → i < n + 1 → report_at (slice_set now n r) i ≡ f i
  each i (inl less) le = there i less ∙ a.each i less
  each i (inr more) le = here i more le ∙ (is ∙ ap f (let e : n ≡ i = omega (arith, more, le) in e))

  counts : (i : ℕ) → (i < n) ⊎ (n ≤ i) → i < n + 1 → CountsUpTo most (report_at (slice_set now n r) i)
  counts i (inl less) le = subst (CountsUpTo most) (sym (there i less)) (a.few i less)
  counts i (inr more) le = subst (CountsUpTo most) (sym (here i more le)) few

-- one slot more stays as it is
pub added-same : (f : ℕ → SlotReport) (before now : List SlotReport) (most n : ℕ) → AreAdded f before now most n → report_at before n ≡ f n → CountsUpTo most (report_at before n) → AreAdded f before now most (n + 1)
added-same f before now most n a is few = record {
  long = a.long;
  each = λ i le. each i (cases_lt i n) le;
  later = λ i le. a.later i (omega (arith, le));
  few = λ i le. counts i (cases_lt i n) le;
} where
  here : (i : ℕ) → n ≤ i → i < n + 1 → report_at now i ≡ report_at before n
  here i more le = a.later i more ∙ ap (report_at before) (let e : i ≡ n = omega (arith, more, le) in e)

  each : (i : ℕ) → (i < n) ⊎ (n ≤ i) → i < n + 1 → report_at now i ≡ f i
  each i (inl less) le = a.each i less
  each i (inr more) le = here i more le ∙ (is ∙ ap f (let e : n ≡ i = omega (arith, more, le) in e))

  counts : (i : ℕ) → (i < n) ⊎ (n ≤ i) → i < n + 1 → CountsUpTo most (report_at now i)
  counts i (inl less) le = a.few i less
  counts i (inr more) le = subst (CountsUpTo most) (sym (here i more le)) few

-- a count fits a greater bound
pub counts-more : (most : ℕ) (r : SlotReport) → CountsUpTo most r → CountsUpTo (most + 1) r
counts-more most r c = record { fulls = (let a = c.fulls in omega (arith, a)); partials = (let a = c.partials in omega (arith, a)); empties = (let a = c.empties in omega (arith, a)) }

-- a slot that the state doesn't carry is told as before
pub not-carried : (asked : ℕ) (states : List FastState) (x y : FastState) (entry : CycleEntry) (known : ServerKnown) (i : ℕ) (before : SlotReport) → carries x i ≡ false → before ≡ slot_added asked states x y entry known i before
not-carried asked states x y entry known i before none =
    sym (ap (λ (b : Bool). if is_some (state_of states entry.state) || shows_slot x entry i then (if b then counted_look asked (slot_of x i).generation (entry_slot entry i).seen known (if carries y i then before else no_slot) else before) else before) none
    ∙ same (is_some (state_of states entry.state) || shows_slot x entry i)) where
      same : (b : Bool) → (if b then before else before) ≡ before
      same true = refl
      same false = refl
