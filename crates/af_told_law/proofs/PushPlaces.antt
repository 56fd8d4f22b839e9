-- Where a push leaves the items, and what it leaves of the pushes.
use Rattle.std.proofs.Common.{◌≡◌, ℕ, zero, suc, ◌+◌, ◌<◌, ◌⊎◌, inl, inr, Bool, true, false, true≢false, is_some, if◌then◌else◌, refl, sym, ap, subst, ◌∙◌, List, [], ◌∷◌, ◌++◌, append_assoc, append-nil, replicate, Option, Some, None, eq-eqb, ne_eqb, arith}
use Rattle.af_told_law.proofs.Common.{AreOf, Busy, Clean, Mutates, NormalState, Push, Pushed, SeesIt, ServerState, StreamNames, WasPushed, at, both_first, carries, in_queue, is_pushed, kept_of, push_list, pushes, saw, shows, slots}
use Rattle.af_model.specs.declared.states.MutatorEvent.TheVariants as mutator
use Rattle.af_normal.specs.Mutating.{Pushes}
use Rattle.af_told_law.proofs.AckPlaces.{came}

-- an item for no slot
pub none_there : (k : ℕ) → (n : ℕ) → at {P = ServerState} (replicate n None) k ≡ None
none_there k zero = refl
none_there zero (suc n) = refl
none_there (suc k) (suc n) = none_there k n

-- the last state was not seen acknowledged
abbrev pub is_busy : Push → Bool
is_busy (Busy seen expected) = true
is_busy _ = false

-- What a push leaves by its answer, with the items that its look brought and those that went with it
pub record PutOn (push : Push) (x y : NormalState) (again sent : List (Option ServerState)) : Type 0 where
  pub events : y.mutator.past.events ≡ x.mutator.past.events ++ push_list (kept_of x) push again sent
  pub queue : in_queue push sent y.mutator.pending ≡ x.mutator.pending
  pub none : is_pushed push ≡ true → (k : ℕ) → at y.mutator.pending k ≡ None
  pub hand : (k : ℕ) (t : ServerState) → k < slots → at y.mutator.returned k ≡ Some t → (at again k ≡ Some t) ⊎ (at x.mutator.returned k ≡ Some t)
  pub again_of : (k : ℕ) → k < slots → is_some (at again k) ≡ true → (x.mutator.past.clear ≡ false) × (carries x.mutator.past.before k ≡ true)
  pub unpushed : is_pushed push ≡ false → again ≡ []
  pub clear : x.mutator.past.clear ≡ true → again ≡ []
  pub brings : is_pushed push ≡ true → 0 < x.mutator.past.number → x.mutator.past.clear ≡ false → AreOf x.mutator.past.before x.mutator.past.last again
  pub older : is_busy push ≡ true → x.mutator.past.clear ≡ false
  pub first : y.mutator.past.first ≡ x.mutator.past.first
  pub shown : is_pushed push ≡ true → y.mutator.past ≡ record (pushes x.mutator.draft sent x.mutator.past) { events = y.mutator.past.events }
  pub still : is_pushed push ≡ false → y.mutator.past ≡ record x.mutator.past { events = y.mutator.past.events }

module _ (push : Push) (x y : NormalState) (w : Pushes push x y) where
  abbrev Put : Push → Type 0
  Put p = (again : List (Option ServerState)) × (sent : List (Option ServerState)) × PutOn p x y again sent

  -- what a look brings comes from slots that the state before has
  brings : (m : Mutates ServerState StreamNames) (seen : SeesIt x.mutator m) (k : ℕ) → k < slots → is_some (at seen.0 k) ≡ true → (x.mutator.past.clear ≡ false) × (carries x.mutator.past.before k ≡ true)
  brings m seen k low some = by_clear x.mutator.past.clear refl
    where
      by_clear : (b : Bool) → x.mutator.past.clear ≡ b → (x.mutator.past.clear ≡ false) × (carries x.mutator.past.before k ≡ true)
      by_clear true e = absurd (true≢false (sym some ∙ ap (λ (items : List (Option ServerState)). is_some (at items k)) (seen.3.0 e)))
      by_clear false e = (e, both_first (carries x.mutator.past.before k) _ (sym ((seen.3.1 e).1 k low) ∙ some))

  or_there : (k : ℕ) (t : ServerState) (items : List (Option ServerState)) → (at items k ≡ Some t) ⊎ ((at x.mutator.returned k ≡ Some t) × (at items k ≡ None)) → (at items k ≡ Some t) ⊎ (at x.mutator.returned k ≡ Some t)
  or_there k t items (inl e) = inl e
  or_there k t items (inr e) = inr e.0

  shown_by : (number n : ℕ) → number ≡ x.mutator.past.number + 1 → x.mutator.past.number ≡ n
      → (x.mutator.past.number ≡ 0 → (y.mutator ≡ shows x.mutator) × (w.after ≡ w.before + 1))
      → (0 < x.mutator.past.number → (v : Mutates ServerState StreamNames) × SeesIt x.mutator v × (y.mutator ≡ shows v) × (w.after ≡ w.before + 2))
      → Put (Pushed number)
  shown_by number zero is number_is begins later = let b : y.mutator ≡ shows x.mutator = (begins number_is).0 in (
    [],
    x.mutator.pending,
    record {
      events = ap (λ (m : Mutates ServerState StreamNames). m.past.events) b
          ∙ ap (λ (n : ℕ). x.mutator.past.events ++ mutator.Push n x.mutator.draft x.mutator.pending ∷ []) (sym is)
          ∙ ap (λ (b : Bool). x.mutator.past.events ++ ((if b then [] else mutator.SawAck x.mutator.past.number [] ∷ []) ++ mutator.Push number x.mutator.draft x.mutator.pending ∷ [])) (sym (eq-eqb x.mutator.past.number 0 number_is));
      queue = refl;
      none = (λ e k. ap (λ (m : Mutates ServerState StreamNames). at m.pending k) b ∙ none_there k slots);
      unpushed = (λ e. refl);
      clear = (λ e. refl);
      brings = (λ e some. absurd (omega (arith, some, number_is)));
      hand = (λ k t low e. inr (ap (λ (m : Mutates ServerState StreamNames). at m.returned k) (sym b) ∙ e));
      again_of = (λ k low some. absurd (true≢false (sym some)));
      older = (λ e. absurd (true≢false (sym e)));
      first = ap (λ (m : Mutates ServerState StreamNames). m.past.first) b;
      shown = (λ e. subst (λ (m : Mutates ServerState StreamNames). m.past ≡ record (pushes x.mutator.draft x.mutator.pending x.mutator.past) { events = m.past.events }) (sym b) refl);
      still = (λ e. absurd (true≢false e));
    },
  )
  shown_by number (suc n) is number_is begins later = let l = later (omega arith) in (
    l.1.0,
    x.mutator.pending,
    record {
      events = ap (λ (m : Mutates ServerState StreamNames). m.past.events) l.2
          ∙ ap (λ (v : Mutates ServerState StreamNames). v.past.events ++ mutator.Push (v.past.number + 1) v.draft v.pending ∷ []) l.1.1
          ∙ append_assoc x.mutator.past.events (mutator.SawAck x.mutator.past.number l.1.0 ∷ []) (mutator.Push (x.mutator.past.number + 1) x.mutator.draft x.mutator.pending ∷ [])
          ∙ ap (λ (m : ℕ). x.mutator.past.events ++ (mutator.SawAck x.mutator.past.number l.1.0 ∷ mutator.Push m x.mutator.draft x.mutator.pending ∷ [])) (sym is)
          ∙ ap (λ (b : Bool). x.mutator.past.events ++ ((if b then [] else mutator.SawAck x.mutator.past.number l.1.0 ∷ []) ++ mutator.Push number x.mutator.draft x.mutator.pending ∷ [])) (sym (ne_eqb x.mutator.past.number 0 (λ e. omega arith)));
      queue = refl;
      none = (λ e k. ap (λ (m : Mutates ServerState StreamNames). at m.pending k) l.2 ∙ none_there k slots);
      unpushed = (λ e. absurd (true≢false e));
      clear = (λ e. l.1.3.0 e);
      brings = (λ e some off. l.1.3.1 off);
      hand = (λ k t low e. or_there k t l.1.0 (came l.1.0 x.mutator.returned l.0.returned k t (l.1.2 k low) (ap (λ (m : Mutates ServerState StreamNames). at m.returned k) (sym l.2) ∙ e)));
      again_of = brings l.0 l.1;
      older = (λ e. absurd (true≢false (sym e)));
      first = ap (λ (m : Mutates ServerState StreamNames). m.past.first) l.2 ∙ ap (λ (v : Mutates ServerState StreamNames). v.past.first) l.1.1;
      shown = (λ e. subst (λ (m : Mutates ServerState StreamNames). m.past ≡ record (pushes x.mutator.draft x.mutator.pending x.mutator.past) { events = m.past.events }) (sym l.2)
          (subst (λ (v : Mutates ServerState StreamNames). (shows v).past ≡ record (pushes x.mutator.draft x.mutator.pending x.mutator.past) { events = (shows v).past.events }) (sym l.1.1) refl));
      still = (λ e. absurd (true≢false e));
    },
  )

  by_answer : (p : Push) → WasPushed x.mutator p y.mutator w.before w.after → Put p
  by_answer Clean d = (
    [],
    [],
    record {
      events = ap (λ (m : Mutates ServerState StreamNames). m.past.events) d.1 ∙ sym (append-nil x.mutator.past.events);
      queue = ap (λ (m : Mutates ServerState StreamNames). m.pending) d.1;
      none = (λ e. absurd (true≢false (sym e)));
      unpushed = (λ e. refl);
      clear = (λ e. refl);
      brings = (λ e. absurd (true≢false (sym e)));
      hand = (λ k t low e. inr (ap (λ (m : Mutates ServerState StreamNames). at m.returned k) (sym d.1) ∙ e));
      again_of = (λ k low some. absurd (true≢false (sym some)));
      older = (λ e. absurd (true≢false (sym e)));
      first = ap (λ (m : Mutates ServerState StreamNames). m.past.first) d.1;
      shown = (λ e. absurd (true≢false (sym e)));
      still = (λ e. subst (λ (m : Mutates ServerState StreamNames). m.past ≡ record x.mutator.past { events = m.past.events }) (sym d.1) refl);
    },
  )
  by_answer (Pushed number) d = shown_by number x.mutator.past.number d.1 refl d.2 d.3
  by_answer (Busy seen expected) d = let older = d.3 in (
    [],
    [],
    record {
      events = ap (λ (m : Mutates ServerState StreamNames). m.past.events) older.2.2 ∙ ap (λ (n : ℕ). x.mutator.past.events ++ mutator.SawAck n [] ∷ []) (let a : older.0 + 1 ≡ x.mutator.past.number = older.2.1 in omega arith);
      queue = ap (λ (m : Mutates ServerState StreamNames). m.pending) older.2.2;
      none = (λ e. absurd (true≢false (sym e)));
      unpushed = (λ e. refl);
      clear = (λ e. refl);
      brings = (λ e. absurd (true≢false (sym e)));
      hand = (λ k t low e. inr (ap (λ (m : Mutates ServerState StreamNames). at m.returned k) (sym older.2.2) ∙ e));
      again_of = (λ k low some. absurd (true≢false (sym some)));
      older = (λ e. older.2.3);
      first = ap (λ (m : Mutates ServerState StreamNames). m.past.first) older.2.2;
      shown = (λ e. absurd (true≢false (sym e)));
      still = (λ e. subst (λ (m : Mutates ServerState StreamNames). m.past.clear ≡ false → m.past ≡ record x.mutator.past { events = m.past.events }) (sym older.2.2)
          (λ f. ap (λ (b : Bool). record (saw older.0 [] x.mutator.past) { clear = b }) (f ∙ sym older.2.3)) older.2.4);
    },
  )

  pub put_on : (again : List (Option ServerState)) × (sent : List (Option ServerState)) × PutOn push x y again sent
  put_on = by_answer push w.pushed
