-- Each step of the queue is allowed, and tells what its caller relies on.
use Rattle.std.proofs.Common.{◌≡◌, ◌≢◌, ℕ, ◌+◌, ◌<◌, ◌==◌, ◌&&◌, not, if◌then◌else◌, Bool, true, false, true≢false, List, [], ◌∷◌, ◌++◌, length, set, get_or, sym, refl, ap, ◌∙◌, subst, arith, Some, None, Option, eq-eqb, ne_eqb}
use Rattle.af_stateq.proofs.Common.{Ack, Act, AllFit, Allows, AreOf, FastState, FitAt, HasStateHistory, SawNext, State, Valid, and_false, brought, carried_after, chain, drop-set-lt, gives, homes_after, keeps, rest as left, set_else, slots, some_same, step, stepped, takes}
use mathlib.Core.Option as maybe
use lib.ListN.{get_elem?}
use Rattle.af_stateq.specs.declared.cell.Slot.{Slot}
use Rattle.af_stateq.specs.declared.rule.Basis.{Basis}
use Rattle.af_stateq.specs.declared.view.View.{View}
use Rattle.af_stateq.specs.declared.view.Mutating.{Mutating}
use Rattle.af_stateq.specs.declared.view.Observing.{Observing}
use Rattle.af_model.specs.declared.states.MutatorEvent.TheVariants as mutator
use Rattle.af_model.specs.declared.states.ObserverEvent.TheVariants as observer
use Rattle.af_stateq.proofs.Acts.{takes_all, gives_all, carried_takes, takes_else, length_takes, takes_valid, gives_valid, carried_gives, gives_else, same_shelves}
use Rattle.af_stateq.specs.Shelved.{cell, word, cells, shelves, items_on, Phase, quiet, shown, taken, known_by, InPhase, Kept, Seated, saw_mutating, brings, saw_ack, push_mutating, pushed, saw_next, acked, met}
use Rattle.af_stateq.proofs.Steps.{word_differs, apart, small, many, m_is, o_is, next_found, ack_found, Now, ack_m, ack_view, ack_point, looks, push_view, at_rest, shows, same_view, nothing_new, new_view, is_new, ackd_view, acks, met_view, met_stands, meets}

module _ {P K : Type 0} (fits : K → ℕ → P → Type 0) (basis : Basis K) where
  abbrev St : Type 0
  St = State (Slot P) (View P K)

  abbrev Homes : Type 0
  Homes = List (maybe.Option (Slot P))

  abbrev Rule : St → Type 0
  Rule = Kept fits basis

  the_key : (key : K) (o : Option K) → o ≡ Some basis.key → o ≡ Some key → basis.key ≡ key
  the_key key o a b = some_same basis.key key (sym a ∙ b)

  module _ (n_slots : ℕ) (s : St) (k : Rule s) (id : ℕ) (v : View P K) (here : get_elem? s.views id ≡ maybe.some v) (ok : v.mutates ≡ true) (cs : List (ℕ × Slot P)) where
    abbrev r : ℕ
    r = get_or s.words 1 0

    abbrev Told : View P K → List (ℕ × Slot P) → Mutating P K → Type 0
    Told w cs' m = (a : ℕ) × (r ≡ word a) × (r ≡ word m.pushed → a ≡ m.pushed) × (r ≢ word m.pushed → a + 1 ≡ m.pushed)
        × (brings m r ≡ false → ◌≡◌ {A = Seated P K} (w, cs') (record v { mutating = saw_mutating a [] (r == word m.pushed) m }, cs))
        × (brings m r ≡ true → (ys : List (Slot P)) × AreOf m.before m.last (items_on ys) × FitAt fits m.key m.before (items_on ys)
        × (◌≡◌ {A = Seated P K} (w, cs') (record v { mutating = saw_mutating a (items_on ys) true m }, shelves ys ++ cs)))
        × (m.clear ≡ true → (r == word m.pushed) ≡ true)

    abbrev Allowed : Type 0
    Allowed = (w : View P K) × (a : Act (Slot P)) × Valid s.homes cs a × Rule (stepped s 1 r id cs w a) × saw_ack fits (step n_slots 1 0 0 maybe.none) (v, cs) r (w, carried_after cs a)

    abbrev Here : Phase → Type 0
    Here = Now fits basis s k id v here

    -- nothing comes if the mutator has the shelves, or the last state is not acknowledged
    brings_nothing : (p : Phase) → (hit : Bool) → (r == word k.m.pushed) ≡ hit → brings k.m r ≡ false → [] ≡ brought k.stands.point → (k.o.current == k.stands.point.mutator.pushed) ≡ hit → (hit ≡ true → k.o.current ≡ k.m.pushed) → (hit ≡ false → k.o.current + 1 ≡ k.m.pushed)
        → InPhase (fits basis.key) (known_by (ack_m fits basis s k id v here ok [] (r == word k.m.pushed) s.homes) k.o (ack_point fits basis s k id v here ok [] (r == word k.m.pushed) s.homes)) s.homes p
        → (k.m.clear ≡ true → (r == word k.m.pushed) ≡ true) → Allowed
    brings_nothing p hit test none_now legal_now same_test yes_is no_is i keeps_clear = (
      ack_view fits basis s k id v here ok [] (r == word k.m.pushed) s.homes,
      keeps,
      tt,
      looks fits basis s k id v here ok [] (r == word k.m.pushed) s.homes legal_now (same_test ∙ sym test) record { whole = k.laid.whole; phase = p; in_phase = i; m_home = λ e. let h = k.laid.m_home e in (h.0, keeps_clear h.1, h.2, h.3); o_home = k.laid.o_home },
      subst (Told (ack_view fits basis s k id v here ok [] (r == word k.m.pushed) s.homes) cs) (sym (m_is fits basis s k id v here ok)) (
        k.o.current,
        ack_found fits basis s k id v here,
        (λ e. yes_is (sym test ∙ eq-eqb r (word k.m.pushed) e)),
        (λ ne. no_is (sym test ∙ ne_eqb r (word k.m.pushed) ne)),
        (λ _. refl),
        (λ e. absurd (true≢false (sym e ∙ none_now))),
        keeps_clear,
      ),
    )

    looks_by : (p : Phase) → Here p → (b : Bool) → k.m.clear ≡ b → Allowed
    looks_by quiet i true cl =
        let test : (r == word k.m.pushed) ≡ true = eq-eqb r (word k.m.pushed) (ack_found fits basis s k id v here ∙ ap word i.0) in
        brings_nothing quiet true test (ap (λ (b : Bool). not b && (r == word k.m.pushed)) cl) (sym (ap (λ (b : Bool). if not b && (k.stands.point.observer.acked == k.stands.point.mutator.pushed) then k.stands.point.observer.given else []) (k.ties.numbers.3 ∙ cl)))
        (eq-eqb k.o.current k.stands.point.mutator.pushed (i.0 ∙ sym k.ties.numbers.0)) (λ _. i.0) (λ e. absurd (true≢false e)) (i.0, i.1, i.2, i.3, λ e. absurd (true≢false (sym test ∙ e))) (λ _. test)
    looks_by quiet i false cl =
        let test : (r == word k.m.pushed) ≡ true = eq-eqb r (word k.m.pushed) (ack_found fits basis s k id v here ∙ ap word i.0) in
        let g = i.4 cl in
        let ys : List (Slot P) = g.0.0 in
        let items : List (Option P) = items_on ys in
        let hs : Homes = homes_after s.homes cs (takes_all cells ys) in
        let same_number : k.stands.point.observer.acked ≡ k.stands.point.mutator.pushed = k.ties.numbers.1 ∙ i.0 ∙ sym k.ties.numbers.0 in
        let all : brought k.stands.point ≡ k.stands.point.observer.given = ap (λ (b : Bool). if not b && (k.stands.point.observer.acked == k.stands.point.mutator.pushed) then k.stands.point.observer.given else []) (k.ties.numbers.3 ∙ cl) ∙ ap (λ (b : Bool). if b then k.stands.point.observer.given else []) (eq-eqb k.stands.point.observer.acked k.stands.point.mutator.pushed same_number) in
        let bring : brings k.m r ≡ true = ap (λ (b : Bool). not b && (r == word k.m.pushed)) cl ∙ test in
        let are : AreOf k.m.before k.m.last items = subst (λ (q : FastState × FastState × List (Option P)). AreOf q.0 q.1 q.2) (λ j. (sym k.ties.states.1 j, sym k.ties.states.0 j, sym g.0.2 j)) g.1 in
        let fit : FitAt fits k.m.key k.m.before items
        = λ key e. subst (λ (q : K × FastState × List (Option P)). AllFit (fits q.0) q.1 q.2) (λ j. (the_key key k.m.key k.ties.keys.0 e j, sym k.ties.states.1 j, sym g.0.2 j)) g.2 in (
          ack_view fits basis s k id v here ok items true hs,
          takes_all cells ys,
          takes_valid cells ys s.homes cs g.0.1,
          looks fits basis s k id v here ok items true hs (g.0.2 ∙ sym all) (eq-eqb k.o.current k.stands.point.mutator.pushed (i.0 ∙ sym k.ties.numbers.0)) record {
            whole = length_takes cells ys s.homes cs ∙ k.laid.whole;
            phase = quiet;
            in_phase = (i.0, i.1, i.2, (i.3.0, takes_else cells ys s.homes cs (cell (k.m.pushed + 2)) (small (k.m.pushed + 2)) ∙ i.3.1), λ e. absurd (true≢false e));
            m_home = λ e. let h = k.laid.m_home e in absurd (true≢false (sym h.1 ∙ cl));
            o_home = λ e. let h = k.laid.o_home e in (h.0, (h.1.0, takes_else cells ys s.homes cs 3 (omega arith) ∙ h.1.1), (h.2.0, takes_else cells ys s.homes cs 2 (omega arith) ∙ h.2.1));
          },
          subst (Told (ack_view fits basis s k id v here ok items true hs) (carried_after cs (takes_all cells ys))) (sym (m_is fits basis s k id v here ok)) (
            k.o.current,
            ack_found fits basis s k id v here,
            (λ _. i.0),
            (λ ne. absurd (ne (ack_found fits basis s k id v here ∙ ap word i.0))),
            (λ e. absurd (true≢false (sym bring ∙ e))),
            (λ _. (ys, are, fit, λ j. (ack_view fits basis s k id v here ok items true hs, carried_takes cells ys cs j))),
            λ e. absurd (true≢false (sym e ∙ cl)),
          ),
        )
    looks_by shown i b cl =
        let test : (r == word k.m.pushed) ≡ false = ne_eqb r (word k.m.pushed) (λ h. word_differs k.o.current (sym (sym (ack_found fits basis s k id v here) ∙ h ∙ ap word i.0))) in
        let ne : (k.stands.point.observer.acked == k.stands.point.mutator.pushed) ≡ false = ne_eqb k.stands.point.observer.acked k.stands.point.mutator.pushed (λ e. let a = k.ties.numbers.0 in let b = k.ties.numbers.1 in let d = i.0 in omega arith) in
        let ne2 : (k.o.current == k.stands.point.mutator.pushed) ≡ false = ne_eqb k.o.current k.stands.point.mutator.pushed (λ e. let a = k.ties.numbers.0 in let d = i.0 in omega arith) in
        brings_nothing shown false test (ap (λ (b : Bool). not k.m.clear && b) test ∙ and_false (not k.m.clear)) (sym (ap (λ (b : Bool). if not k.stands.point.mutator.clear && b then k.stands.point.observer.given else []) ne ∙ ap (λ (b : Bool). if b then k.stands.point.observer.given else []) (and_false (not k.stands.point.mutator.clear))))
        ne2 (λ e. absurd (true≢false (sym e))) (λ _. sym i.0) (i.0, i.1, test, i.3, i.4, i.5, i.6, i.7) (λ c. absurd (true≢false (sym c ∙ i.2)))
    looks_by taken i b cl =
        let test : (r == word k.m.pushed) ≡ false = ne_eqb r (word k.m.pushed) (λ h. word_differs k.o.current (sym (sym (ack_found fits basis s k id v here) ∙ h ∙ ap word i.0))) in
        let ne : (k.stands.point.observer.acked == k.stands.point.mutator.pushed) ≡ false = ne_eqb k.stands.point.observer.acked k.stands.point.mutator.pushed (λ e. let a = k.ties.numbers.0 in let b = k.ties.numbers.1 in let d = i.0 in omega arith) in
        let ne2 : (k.o.current == k.stands.point.mutator.pushed) ≡ false = ne_eqb k.o.current k.stands.point.mutator.pushed (λ e. let a = k.ties.numbers.0 in let d = i.0 in omega arith) in
        brings_nothing taken false test (ap (λ (b : Bool). not k.m.clear && b) test ∙ and_false (not k.m.clear)) (sym (ap (λ (b : Bool). if not k.stands.point.mutator.clear && b then k.stands.point.observer.given else []) ne ∙ ap (λ (b : Bool). if b then k.stands.point.observer.given else []) (and_false (not k.stands.point.mutator.clear))))
        ne2 (λ e. absurd (true≢false (sym e))) (λ _. sym i.0) (i.0, i.1, test, i.3, i.4) (λ c. absurd (true≢false (sym c ∙ i.2)))

  pub looks_allowed : (n_slots id : ℕ) (me : Seated P K) → me.0.mutates ≡ true → Allows Rule n_slots id me 1 (λ n. n) (saw_ack fits (step n_slots 1 0 0 maybe.none) me)
  looks_allowed n_slots id me ok s k len here low = looks_by n_slots s k id me.0 here ok me.1 k.laid.phase k.laid.in_phase k.m.clear refl

  pub pushes_allowed : (n_slots id new : ℕ) (v : View P K) (c : ℕ) (x : Slot P) (ys : List (Slot P)) (cs : List (ℕ × Slot P)) → v.mutates ≡ true → v.mutating.clear ≡ true → v.mutating.out ≡ true → AreOf x.state v.mutating.last (items_on ys) → FitAt fits v.mutating.key x.state (items_on ys) → new ≡ word (v.mutating.pushed + 1) → c ≡ cell (v.mutating.pushed + 1)
      → Allows Rule n_slots id (v, (c, x) ∷ shelves ys ++ cs) 0 (λ _. new) (λ _. pushed (step n_slots 0 new 0 maybe.none) (v, (c, x) ∷ shelves ys ++ cs) new)
  pushes_allowed n_slots id new v c x ys cs ok clear out are fit is c_is s k len here low =
      let v_is : v.mutating ≡ k.m = m_is fits basis s k id v here ok in
      let cl : k.m.clear ≡ true = ap (λ (m : Mutating P K). m.clear) (sym v_is) ∙ clear in
      let q = at_rest fits basis s k id v here ok x ys cl k.laid.phase k.laid.in_phase in
      let n : ℕ = k.m.pushed in
      let new_is : new ≡ word (n + 1) = is ∙ ap (λ (m : Mutating P K). word (m.pushed + 1)) v_is in
      let cell_is : c ≡ cell (n + 1) = c_is ∙ ap (λ (m : Mutating P K). cell (m.pushed + 1)) v_is in
      let are' : AreOf x.state k.stands.point.mutator.last (items_on ys) = subst (λ (z : FastState). AreOf x.state z (items_on ys)) (ap (λ (m : Mutating P K). m.last) v_is ∙ k.ties.states.0) are in
      let fit' : AllFit (fits basis.key) x.state (items_on ys) = fit basis.key (ap (λ (m : Mutating P K). m.key) v_is ∙ k.ties.keys.0) in
      let c_low : c < 4 = subst (λ (z : ℕ). z < 4) (sym cell_is) (small (n + 1)) in
      let h1 : Homes = set s.homes c (maybe.some x) in
      let z : Slot P = q.3.0 in (
        push_view fits basis s k id v here ok x ys,
        chain gives (chain (gives_all ys) (takes (cell (n + 2)) z)),
        (tt, (gives_valid ys h1 (shelves ys ++ cs), gives_else cells ys h1 cs (cell (n + 2)) (small (n + 2)) ∙ set_else s.homes c (cell (n + 2)) (maybe.some x) (λ e. apart (n + 1) (n + 2) (omega arith) (omega arith) (sym cell_is ∙ sym e)) ∙ q.3.1)),
        shows fits basis s k id v here ok x ys q (ap (λ (m : Mutating P K). m.out) (sym v_is) ∙ out) cl are' fit' new new_is c cell_is cs,
        λ x' ys' cs' l e. let x_is : x ≡ x' = ap (λ (h : List (ℕ × Slot P)). (get_or h 0 (0, x)).1) e in let same = same_shelves cells ys ys' cs cs' (many ys slots are.0 ∙ sym l) (ap left e) in (
          z,
          λ i. (record v { mutating = push_mutating (x_is i).state (items_on (same.0 i)) (sym v_is i) }, (cell ((sym v_is i).pushed + 2), z) ∷ (carried_gives cells ys cs ∙ same.1) i),
        ),
      )

  module _ (n_slots : ℕ) (s : St) (k : Rule s) (id : ℕ) (v : View P K) (here : get_elem? s.views id ≡ maybe.some v) (ok : v.observes ≡ true) (rested : k.o.due ≡ false) (out : k.o.out ≡ true) (cs : List (ℕ × Slot P)) where
    abbrev r0 : ℕ
    r0 = get_or s.words 0 0

    abbrev Shown : View P K → List (ℕ × Slot P) → Observing P K → Type 0
    Shown w cs' o = (r0 ≡ word o.current → ◌≡◌ {A = Seated P K} (w, cs') (record v { observing = record o { events = o.events ++ SawNext o.current None [] ∷ [] } }, cs))
        × (r0 ≢ word o.current → (x : Slot P) × (ys : List (Slot P)) × (r0 ≡ word (o.current + 1)) × AreOf x.state o.state (items_on ys) × FitAt fits o.key x.state (items_on ys)
        × (◌≡◌ {A = Seated P K} (w, cs') (record v { observing = record o { events = o.events ++ SawNext (o.current + 1) (Some x.state) (items_on ys) ∷ []; due = true; next = x.state } }, shelves ys ++ (cell (o.current + 1), x) ∷ cs)))

    polls_by : (p : Phase) → Now fits basis s k id v here p → (w : View P K) × (a : Act (Slot P)) × Valid s.homes cs a × Rule (stepped s 0 r0 id cs w a) × saw_next fits (step n_slots 0 0 0 maybe.none) (v, cs) r0 (w, carried_after cs a)
    polls_by quiet i = (
      same_view fits basis s k id v here ok,
      keeps,
      tt,
      nothing_new fits basis s k id v here ok i cs,
      subst (Shown (same_view fits basis s k id v here ok) cs) (sym (o_is fits basis s k id v here ok)) ((λ _. refl), λ ne. absurd (ne (next_found fits basis s k id v here ∙ ap word (sym i.0)))),
    )
    polls_by shown i =
        let c : ℕ = k.o.current in
        let x : Slot P = i.4.0 in
        let ys : List (Slot P) = i.5.0 in
        let at_c : get_elem? s.homes (cell (c + 1)) ≡ maybe.some (maybe.some x) = ap (λ (z : ℕ). get_elem? s.homes (cell z)) (sym i.0) ∙ i.4.1 in
        let are : AreOf x.state k.o.state (items_on ys) = subst (λ (q : FastState × FastState × List (Option P)). AreOf q.0 q.1 q.2) (λ j. (sym i.4.2 j, sym i.3 j, sym i.5.2 j)) i.6 in
        let fit : FitAt fits k.o.key x.state (items_on ys)
        = λ key e. subst (λ (q : K × FastState × List (Option P)). AllFit (fits q.0) q.1 q.2) (λ j. (the_key key k.o.key k.ties.keys.1 e j, sym i.4.2 j, sym i.5.2 j)) i.7 in (
          new_view fits basis s k id v here ok i,
          chain (takes (cell (c + 1)) x) (takes_all cells ys),
          (at_c, takes_valid cells ys (set s.homes (cell (c + 1)) maybe.none) ((cell (c + 1), x) ∷ cs) (drop-set-lt cells s.homes (cell (c + 1)) maybe.none (small (c + 1)) ∙ i.5.1)),
          is_new fits basis s k id v here ok i out cs,
          subst (Shown (new_view fits basis s k id v here ok i) (carried_after ((cell (c + 1), x) ∷ cs) (takes_all cells ys))) (sym (o_is fits basis s k id v here ok)) (
            (λ e. absurd (word_differs c (ap word (sym i.0) ∙ sym (next_found fits basis s k id v here) ∙ e))),
            λ _. (x, ys, next_found fits basis s k id v here ∙ ap word i.0, are, fit, λ j. (new_view fits basis s k id v here ok i, carried_takes cells ys ((cell (c + 1), x) ∷ cs) j)),
          ),
        )
    polls_by taken i = absurd (true≢false (sym i.1 ∙ rested))

  pub polls_allowed : (n_slots id : ℕ) (me : Seated P K) → me.0.observes ≡ true → me.0.observing.due ≡ false → me.0.observing.out ≡ true → Allows Rule n_slots id me 0 (λ n. n) (saw_next fits (step n_slots 0 0 0 maybe.none) me)
  polls_allowed n_slots id me ok rested out s k len here low =
      let is : me.0.observing ≡ k.o = o_is fits basis s k id me.0 here ok in
      polls_by n_slots s k id me.0 here ok (ap (λ (o : Observing P K). o.due) (sym is) ∙ rested) (ap (λ (o : Observing P K). o.out) (sym is) ∙ out) me.1 k.laid.phase k.laid.in_phase

  took : (s : St) (k : Rule s) (id : ℕ) (v : View P K) (here : get_elem? s.views id ≡ maybe.some v) (p : Phase) → k.o.due ≡ true → Now fits basis s k id v here p → Now fits basis s k id v here taken
  took s k id v here quiet d i = absurd (true≢false (sym d ∙ i.1))
  took s k id v here shown d i = absurd (true≢false (sym d ∙ i.1))
  took s k id v here taken d i = i

  pub acks_allowed : (n_slots id new : ℕ) (v : View P K) (b : ℕ) (x : Slot P) (ys : List (Slot P)) (cs : List (ℕ × Slot P)) → v.observes ≡ true → v.observing.due ≡ true → v.observing.out ≡ true → AreOf v.observing.state v.observing.next (items_on ys) → FitAt fits v.observing.key v.observing.state (items_on ys) → new ≡ word (v.observing.current + 1) → b ≡ cell (v.observing.current + 3)
      → Allows Rule n_slots id (v, (b, x) ∷ shelves ys ++ cs) 1 (λ _. new) (λ _. acked (step n_slots 1 new 0 maybe.none) (v, (b, x) ∷ shelves ys ++ cs) new)
  acks_allowed n_slots id new v b x ys cs ok due out are fit is b_is s k len here low =
      let v_is : v.observing ≡ k.o = o_is fits basis s k id v here ok in
      let q = took s k id v here k.laid.phase (ap (λ (o : Observing P K). o.due) (sym v_is) ∙ due) k.laid.in_phase in
      let state_is : v.observing.state ≡ k.stands.point.mutator.before = ap (λ (o : Observing P K). o.state) v_is ∙ q.3 in
      let next_is : v.observing.next ≡ k.stands.point.mutator.last = ap (λ (o : Observing P K). o.next) v_is ∙ q.4 in
      let are' : AreOf k.stands.point.mutator.before k.stands.point.mutator.last (items_on ys) = subst (λ (z : FastState × FastState). AreOf z.0 z.1 (items_on ys)) (λ i. (state_is i, next_is i)) are in
      let fit' : AllFit (fits basis.key) k.stands.point.mutator.before (items_on ys)
      = subst (λ (z : FastState). AllFit (fits basis.key) z (items_on ys)) state_is (fit basis.key (ap (λ (o : Observing P K). o.key) v_is ∙ k.ties.keys.1)) in (
        ackd_view fits basis s k id v here ok x ys,
        chain gives (gives_all ys),
        (tt, gives_valid ys (set s.homes b (maybe.some x)) (shelves ys ++ cs)),
        acks fits basis s k id v here ok x ys q (ap (λ (o : Observing P K). o.out) (sym v_is) ∙ out) are' fit' new (is ∙ ap (λ (o : Observing P K). word (o.current + 1)) v_is) b (b_is ∙ ap (λ (o : Observing P K). cell (o.current + 3)) v_is) cs,
        λ x' ys' cs' l e. let same = same_shelves cells ys ys' cs cs' (many ys slots are.0 ∙ sym l) (ap left e) in
            λ i. (record v { observing = record (sym v_is i) { events = (sym v_is i).events ++ Ack ((sym v_is i).current + 1) (items_on (same.0 i)) ∷ []; current = (sym v_is i).current + 1; state = (sym v_is i).next; due = false } }, (carried_gives cells ys cs ∙ same.1) i),
      )

  pub meets_allowed : (n_slots id : ℕ) (me : Seated P K) → me.0.mutates ≡ true → me.0.observes ≡ true → me.0.observing.due ≡ false → Allows Rule n_slots id me 0 (λ n. n) (met (step n_slots 0 0 0 maybe.none) me)
  meets_allowed n_slots id me m_ok o_ok rested s k len here low =
      let v = me.0 in
      let is_m : k.m ≡ v.mutating = sym (m_is fits basis s k id v here m_ok) in
      let is_o : k.o ≡ v.observing = sym (o_is fits basis s k id v here o_ok) in (
        met_view fits basis s k id v here m_ok o_ok,
        keeps,
        tt,
        meets fits basis s k id v here m_ok o_ok (ap (λ (o : Observing P K). o.due) is_o ∙ rested) me.1,
        (
          (λ x e. subst (λ (q : FastState × Mutating P K × Observing P K). HasStateHistory q.0 q.1.events q.2.events × HasStateHistory q.0 (q.1.events ++ mutator.Learn (length q.2.events) ∷ []) (q.2.events ++ observer.Learn (length q.1.events) ∷ []))
              (λ i. ((sym k.ties.keys.2 ∙ ap (λ (m : Mutating P K). m.first) is_m ∙ e) i, is_m i, is_o i)) (k.stands.history, (met_stands fits basis s k id v here m_ok o_ok (ap (λ (o : Observing P K). o.due) is_o ∙ rested)).history)),
          λ i. (
            record v {
              mutating = record (is_m i) { events = (is_m i).events ++ mutator.Learn (length (is_o i).events) ∷ [] };
              observing = record (is_o i) { events = (is_o i).events ++ observer.Learn (length (is_m i).events) ∷ [] };
            },
            me.1,
          ),
        ),
      )

  -- the same for seats whose lists of slots are known by an equation
  pub pushes_at : (n_slots id new : ℕ) (me : Seated P K) (c : ℕ) (x : Slot P) (ys : List (Slot P)) (cs : List (ℕ × Slot P)) → me.0.mutates ≡ true → me.0.mutating.clear ≡ true → me.0.mutating.out ≡ true → AreOf x.state me.0.mutating.last (items_on ys) → FitAt fits me.0.mutating.key x.state (items_on ys) → new ≡ word (me.0.mutating.pushed + 1) → c ≡ cell (me.0.mutating.pushed + 1) → me.1 ≡ (c, x) ∷ shelves ys ++ cs
      → Allows Rule n_slots id me 0 (λ _. new) (λ _. pushed (step n_slots 0 new 0 maybe.none) me new)
  pushes_at n_slots id new me c x ys cs ok clear out are fit is c_is e =
      subst (λ (l : List (ℕ × Slot P)). Allows Rule n_slots id (me.0, l) 0 (λ _. new) (λ _. pushed (step n_slots 0 new 0 maybe.none) (me.0, l) new)) (sym e) (pushes_allowed n_slots id new me.0 c x ys cs ok clear out are fit is c_is)

  pub acks_at : (n_slots id new : ℕ) (me : Seated P K) (b : ℕ) (x : Slot P) (ys : List (Slot P)) (cs : List (ℕ × Slot P)) → me.0.observes ≡ true → me.0.observing.due ≡ true → me.0.observing.out ≡ true → AreOf me.0.observing.state me.0.observing.next (items_on ys) → FitAt fits me.0.observing.key me.0.observing.state (items_on ys) → new ≡ word (me.0.observing.current + 1) → b ≡ cell (me.0.observing.current + 3) → me.1 ≡ (b, x) ∷ shelves ys ++ cs
      → Allows Rule n_slots id me 1 (λ _. new) (λ _. acked (step n_slots 1 new 0 maybe.none) me new)
  acks_at n_slots id new me b x ys cs ok due out are fit is b_is e =
      subst (λ (l : List (ℕ × Slot P)). Allows Rule n_slots id (me.0, l) 1 (λ _. new) (λ _. acked (step n_slots 1 new 0 maybe.none) (me.0, l) new)) (sym e) (acks_allowed n_slots id new me.0 b x ys cs ok due out are fit is b_is)
