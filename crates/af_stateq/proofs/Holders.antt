-- The item of a slot has one holder at each moment.
use Rattle.std.proofs.Common.{◌≡◌, ◌≢◌, ℕ, ◌+◌, ◌<◌, ◌≤◌, ◌==◌, ◌&&◌, not, if◌then◌else◌, Bool, true, false, true≢false, List, [], ◌∷◌, Option, Some, None, is_some, refl, ap, sym, ◌∙◌, subst, arith, eq-eqb, ne_eqb}
use Rattle.af_stateq.proofs.Common.{Ack, Event, FastState, Legal, MutatorEvent, ObserverEvent, Push, QueuePoint, SawAck, SawNext, carries, legal, never_true, next, not_both, one, slots, start_of_queue, two}
use mathlib.Core.Logic.{dite}
use native.Mathlib.Decide.{ℕ_discrete}
use Rattle.af_model.specs.declared.states.MutatorEvent.TheVariants as mutator
use Rattle.af_model.specs.declared.states.ObserverEvent.TheVariants as observer
use Rattle.af_stateq.specs.Mutates.{at}
use Rattle.af_stateq.specs.Laws.{Holder, in_hand, going, held, coming, given_to, may_pass, passed, OneHolder}
use Rattle.af_stateq.proofs.Slots.{both_ways}

module _ {P : Type 0} where
  -- the holder, by whether the last state is acknowledged, carries the slot, the one before it does, the mutator saw that, and nothing is due, and by the items on their way out and back
  abbrev where_of : Bool → Bool → Bool → Bool → Bool → Option P → Option P → Holder P
  where_of acked last before clear rested out back =
      if acked then (if last then held else (if clear then in_hand else (if before then given_to coming back in_hand else in_hand)))
      else (if before then held else (if last then (if rested then given_to going out in_hand else held) else in_hand))

  none_of : (o : Option P) → is_some o ≡ false → o ≡ None
  none_of None e = refl
  none_of (Some p) e = absurd (true≢false e)

  stays : (to : P → Holder P) (o : Option P) (h : Holder P) → is_some o ≡ false → given_to to o h ≡ h
  stays to o h e = ap (λ (z : Option P). given_to to z h) (none_of o e)

  there : (o : Option P) (p : P) → o ≡ Some p → is_some o ≡ true
  there o p e = ap is_some e

  push_may : (cl cx cb d : Bool) (it out back : Option P) → is_some it ≡ (cx && not cl) → (p : P) → it ≡ Some p → where_of true cl cb true d out back ≡ in_hand
  push_may true true cb d it out back h p e = absurd (not_both (is_some it) (there it p e) h)
  push_may true false cb d it out back h p e = absurd (not_both (is_some it) (there it p e) h)
  push_may false cx cb d it out back h p e = refl

  push_goes : (cl cx cb d : Bool) (it out back : Option P) → is_some it ≡ (cx && not cl) → given_to going it (where_of true cl cb true d out back) ≡ where_of false cx cl false true it back
  push_goes true true cb d it out back h = stays going it held h
  push_goes true false cb d it out back h = stays going it held h
  push_goes false true cb d it out back h = refl
  push_goes false false cb d it out back h = stays going it in_hand h

  back_may : (cl cb d : Bool) (out back : Option P) → is_some back ≡ (cb && not cl) → (p : P) → back ≡ Some p → where_of true cl cb false d out back ≡ coming p
  back_may true true d out back h p e = absurd (not_both (is_some back) (there back p e) h)
  back_may true false d out back h p e = absurd (not_both (is_some back) (there back p e) h)
  back_may false true d out back h p e = ap (λ (z : Option P). given_to coming z in_hand) e
  back_may false false d out back h p e = absurd (not_both (is_some back) (there back p e) h)

  back_goes : (cl cb d : Bool) (out back : Option P) → is_some back ≡ (cb && not cl) → given_to (λ _. in_hand) back (where_of true cl cb false d out back) ≡ where_of true cl cb true d out back
  back_goes true true d out back h = stays (λ _. in_hand) back held h
  back_goes true false d out back h = stays (λ _. in_hand) back held h
  back_goes false true d out None h = absurd (true≢false (sym h))
  back_goes false true d out (Some p) h = refl
  back_goes false false d out back h = stays (λ _. in_hand) back in_hand h

  take_may : (cl cb c : Bool) (out back : Option P) → is_some out ≡ (cl && not cb) → (p : P) → out ≡ Some p → where_of false cl cb c true out back ≡ going p
  take_may true true c out back h p e = absurd (not_both (is_some out) (there out p e) h)
  take_may true false c out back h p e = ap (λ (z : Option P). given_to going z in_hand) e
  take_may false cb c out back h p e = absurd (not_both (is_some out) (there out p e) h)

  take_goes : (cl cb c : Bool) (out back : Option P) → is_some out ≡ (cl && not cb) → given_to (λ _. held) out (where_of false cl cb c true out back) ≡ where_of false cl cb c false out back
  take_goes true true c out back h = stays (λ _. held) out held h
  take_goes true false c None back h = absurd (true≢false (sym h))
  take_goes true false c (Some p) back h = refl
  take_goes false true c out back h = stays (λ _. held) out held h
  take_goes false false c out back h = stays (λ _. held) out in_hand h

  give_may : (cl cb c : Bool) (it out back : Option P) → is_some it ≡ (cb && not cl) → (p : P) → it ≡ Some p → where_of false cl cb c false out back ≡ held
  give_may cl true c it out back h p e = refl
  give_may true false c it out back h p e = refl
  give_may false false c it out back h p e = absurd (not_both (is_some it) (there it p e) h)

  give_goes : (cl cb : Bool) (it out back : Option P) → is_some it ≡ (cb && not cl) → given_to coming it (where_of false cl cb false false out back) ≡ where_of true cl cb false true out it
  give_goes true true it out back h = stays coming it held h
  give_goes true false it out back h = stays coming it held h
  give_goes false true None out back h = absurd (true≢false (sym h))
  give_goes false true (Some p) out back h = refl
  give_goes false false it out back h = stays coming it in_hand h

  module _ (i : ℕ) (lt : i < slots) where
    abbrev here : QueuePoint P → Bool → Bool → Bool → Holder P
    here p a c d = where_of a (carries p.mutator.last i) (carries p.mutator.before i) c d (at p.mutator.items i) (at p.observer.given i)

    unfoldable where_is : QueuePoint P → Holder P
    where_is p = here p (p.observer.acked == p.mutator.pushed) p.mutator.clear (p.observer.due == 0)

    where_at : (p : QueuePoint P) (a c d : Bool) → (p.observer.acked == p.mutator.pushed) ≡ a → p.mutator.clear ≡ c → (p.observer.due == 0) ≡ d → where_is p ≡ here p a c d
    unfolding where_is
    where_at p a c d ea ec ed = λ j. here p (ea j) (ec j) (ed j)

    record At (p : QueuePoint P) : Type 0 where
      low : p.observer.acked ≤ p.mutator.pushed
      high : p.mutator.pushed ≤ p.observer.acked + 1
      due : p.observer.due ≢ 0 → (p.observer.due ≡ p.mutator.pushed) × (p.mutator.pushed ≡ p.observer.acked + 1)
      cleared : p.mutator.clear ≡ true → p.observer.acked ≡ p.mutator.pushed
      out : p.observer.acked ≢ p.mutator.pushed → is_some (at p.mutator.items i) ≡ (carries p.mutator.last i && not (carries p.mutator.before i))
      back : p.observer.acked ≡ p.mutator.pushed → p.mutator.clear ≡ false → is_some (at p.observer.given i) ≡ (carries p.mutator.before i && not (carries p.mutator.last i))

    abbrev Ring : QueuePoint P → List (Event (MutatorEvent P) (ObserverEvent P)) → Type 0
    Ring p es = Legal (may_pass i) (passed i) (where_is p) es

    -- the step of a slot's item, and the rest from where it is then
    moves : (p : QueuePoint P) (e : Event (MutatorEvent P) (ObserverEvent P)) (es : List (Event (MutatorEvent P) (ObserverEvent P))) → may_pass i (where_is p) e → passed i (where_is p) e ≡ where_is (next p e) → Ring (next p e) es → Ring p (e ∷ es)
    moves p e es m g r = (m, subst (λ (h : Holder P). Legal (may_pass i) (passed i) h es) (sym g) r)

    empty_at : at {P = P} [] i ≡ None
    empty_at = refl

    ring : (p : QueuePoint P) (es : List (Event (MutatorEvent P) (ObserverEvent P))) → At p → Legal legal next p es → Ring p es
    ring p [] t l = tt
    ring p (one (Push k x items) ∷ es) t l =
        let q = next p (one (Push k x items)) in
        let rest_due : p.observer.due ≡ 0 = dite (ℕ_discrete p.observer.due 0) (λ e. e) (λ ne. absurd (let u = (t.due ne).1 in let b = l.0.1 in omega arith)) in
        let has : is_some (at items i) ≡ (carries x i && not (carries p.mutator.last i)) = l.0.3.1 i lt in
        let ne : p.observer.acked ≢ k = λ e. (let a = l.0.0 in let b = l.0.1 in omega arith) in
        let now = where_at p true true true (eq-eqb p.observer.acked p.mutator.pushed l.0.1) l.0.2 (eq-eqb p.observer.due 0 rest_due) in
        let later = where_at q false false true (ne_eqb p.observer.acked k ne) refl (eq-eqb p.observer.due 0 rest_due) in
        moves p (one (Push k x items)) es
        (λ y e. now ∙ push_may (carries p.mutator.last i) (carries x i) (carries p.mutator.before i) true (at items i) (at p.mutator.items i) (at p.observer.given i) has y e)
        (ap (given_to going (at items i)) now ∙ push_goes (carries p.mutator.last i) (carries x i) (carries p.mutator.before i) true (at items i) (at p.mutator.items i) (at p.observer.given i) has ∙ sym later)
        (ring q es record {
          low = (let a = l.0.0 in let b = l.0.1 in omega arith);
          high = (let a = l.0.0 in let b = l.0.1 in omega arith);
          due = λ d. absurd (d rest_due);
          cleared = λ e. absurd (true≢false (sym e));
          out = λ _. has;
          back = λ e. absurd (ne e);
        } l.1)
    ring p (one (SawAck a items) ∷ es) t l = both_ways p.mutator.clear
        (λ c.
        let q = next p (one (SawAck a items)) in
        let same : p.observer.acked ≡ p.mutator.pushed = t.cleared c in
        let none : at items i ≡ None = ap (λ (z : List (Option P)). at z i) (l.0.1 ∙ ap (λ (b : Bool). if not b && (p.observer.acked == p.mutator.pushed) then p.observer.given else []) c) in
        let c' : q.mutator.clear ≡ true = eq-eqb a p.mutator.pushed (l.0.0 ∙ same) in
        moves p (one (SawAck a items)) es
        (λ y e. absurd (true≢false (sym (ap is_some (sym none ∙ e)))))
        (stays (λ _. in_hand) (at items i) (where_is p) (ap is_some none) ∙ where_at p true true (p.observer.due == 0) (eq-eqb p.observer.acked p.mutator.pushed same) c refl ∙ sym (where_at q true true (p.observer.due == 0) (eq-eqb p.observer.acked p.mutator.pushed same) c' refl))
        (ring q es record { low = t.low; high = t.high; due = t.due; cleared = λ _. same; out = t.out; back = λ _ f. absurd (not_both q.mutator.clear c' f) } l.1))
        (λ c. dite (ℕ_discrete p.observer.acked p.mutator.pushed)
        (λ same.
        let q = next p (one (SawAck a items)) in
        let test : (p.observer.acked == p.mutator.pushed) ≡ true = eq-eqb p.observer.acked p.mutator.pushed same in
        let all : at items i ≡ at p.observer.given i = ap (λ (z : List (Option P)). at z i) (l.0.1 ∙ ap (λ (b : Bool). if not b && (p.observer.acked == p.mutator.pushed) then p.observer.given else []) c ∙ ap (λ (b : Bool). if b then p.observer.given else []) test) in
        let c' : q.mutator.clear ≡ true = eq-eqb a p.mutator.pushed (l.0.0 ∙ same) in
        let has = t.back same c in
        let now = where_at p true false (p.observer.due == 0) test c refl in
        moves p (one (SawAck a items)) es
        (λ y e. now ∙ back_may (carries p.mutator.last i) (carries p.mutator.before i) (p.observer.due == 0) (at p.mutator.items i) (at p.observer.given i) has y (sym all ∙ e))
        ((λ j. given_to (λ _. in_hand) (all j) (now j)) ∙ back_goes (carries p.mutator.last i) (carries p.mutator.before i) (p.observer.due == 0) (at p.mutator.items i) (at p.observer.given i) has ∙ sym (where_at q true true (p.observer.due == 0) test c' refl))
        (ring q es record { low = t.low; high = t.high; due = t.due; cleared = λ _. same; out = t.out; back = λ _ f. absurd (not_both q.mutator.clear c' f) } l.1))
        (λ ne.
        let q = next p (one (SawAck a items)) in
        let test : (p.observer.acked == p.mutator.pushed) ≡ false = ne_eqb p.observer.acked p.mutator.pushed ne in
        let none : at items i ≡ None = ap (λ (z : List (Option P)). at z i) (l.0.1 ∙ ap (λ (b : Bool). if not b && (p.observer.acked == p.mutator.pushed) then p.observer.given else []) c ∙ ap (λ (b : Bool). if b then p.observer.given else []) test) in
        let c' : q.mutator.clear ≡ false = ne_eqb a p.mutator.pushed (λ e. ne (sym l.0.0 ∙ e)) in
        moves p (one (SawAck a items)) es
        (λ y e. absurd (true≢false (sym (ap is_some (sym none ∙ e)))))
        (stays (λ _. in_hand) (at items i) (where_is p) (ap is_some none) ∙ where_at p false false (p.observer.due == 0) test c refl ∙ sym (where_at q false false (p.observer.due == 0) test c' refl))
        (ring q es record { low = t.low; high = t.high; due = t.due; cleared = λ f. absurd (not_both q.mutator.clear f c'); out = t.out; back = λ e. absurd (ne e) } l.1)))
    ring p (one (mutator.Learn c) ∷ es) t l = let q = next p (one (mutator.Learn c)) in
        moves p (one (mutator.Learn c)) es tt (where_at p (p.observer.acked == p.mutator.pushed) p.mutator.clear (p.observer.due == 0) refl refl refl ∙ sym (where_at q (p.observer.acked == p.mutator.pushed) p.mutator.clear (p.observer.due == 0) refl refl refl))
        (ring q es record { low = t.low; high = t.high; due = t.due; cleared = t.cleared; out = t.out; back = t.back } l.1)
    ring p (two (SawNext k x items) ∷ es) t l = dite (ℕ_discrete p.observer.acked p.mutator.pushed)
        (λ same.
        let q = next p (two (SawNext k x items)) in
        let hit : (k == p.observer.acked) ≡ true = eq-eqb k p.observer.acked (l.0.0 ∙ sym same) in
        let none : at items i ≡ None = ap (λ (z : List (Option P)). at z i) (l.0.2 ∙ ap (λ (b : Bool). if b then [] else p.mutator.items) hit) in
        let due_is : q.observer.due ≡ 0 = ap (λ (b : Bool). if b then 0 else k) hit in
        let test : (p.observer.acked == p.mutator.pushed) ≡ true = eq-eqb p.observer.acked p.mutator.pushed same in
        moves p (two (SawNext k x items)) es
        (λ y e. absurd (true≢false (sym (ap is_some (sym none ∙ e)))))
        (stays (λ _. held) (at items i) (where_is p) (ap is_some none) ∙ where_at p true p.mutator.clear true test refl (eq-eqb p.observer.due 0 l.0.3) ∙ sym (where_at q true p.mutator.clear true test refl (eq-eqb q.observer.due 0 due_is)))
        (ring q es record { low = t.low; high = t.high; due = λ d. absurd (d due_is); cleared = t.cleared; out = t.out; back = t.back } l.1))
        (λ ne.
        let q = next p (two (SawNext k x items)) in
        let miss : (k == p.observer.acked) ≡ false = ne_eqb k p.observer.acked (λ e. ne (sym e ∙ l.0.0)) in
        let all : at items i ≡ at p.mutator.items i = ap (λ (z : List (Option P)). at z i) (l.0.2 ∙ ap (λ (b : Bool). if b then [] else p.mutator.items) miss) in
        let due_is : q.observer.due ≡ k = ap (λ (b : Bool). if b then 0 else k) miss in
        let next_one : p.mutator.pushed ≡ p.observer.acked + 1 = (let a = t.low in let b = t.high in omega arith) in
        let test : (p.observer.acked == p.mutator.pushed) ≡ false = ne_eqb p.observer.acked p.mutator.pushed ne in
        let has = t.out ne in
        let now = where_at p false p.mutator.clear true test refl (eq-eqb p.observer.due 0 l.0.3) in
        moves p (two (SawNext k x items)) es
        (λ y e. now ∙ take_may (carries p.mutator.last i) (carries p.mutator.before i) p.mutator.clear (at p.mutator.items i) (at p.observer.given i) has y (sym all ∙ e))
        ((λ j. given_to (λ _. held) (all j) (now j)) ∙ take_goes (carries p.mutator.last i) (carries p.mutator.before i) p.mutator.clear (at p.mutator.items i) (at p.observer.given i) has
        ∙ sym (where_at q false p.mutator.clear false test refl (ne_eqb q.observer.due 0 (λ e. let a = l.0.0 in let b = next_one in omega arith))))
        (ring q es record { low = t.low; high = t.high; due = λ d. (due_is ∙ l.0.0, next_one); cleared = t.cleared; out = t.out; back = t.back } l.1))
    ring p (two (Ack k items) ∷ es) t l =
        let q = next p (two (Ack k items)) in
        let u = t.due (λ e. l.0.1 (l.0.0 ∙ e)) in
        let k_is : k ≡ p.mutator.pushed = l.0.0 ∙ u.0 in
        let ne : p.observer.acked ≢ p.mutator.pushed = λ e. (let b = u.1 in omega arith) in
        let c : p.mutator.clear ≡ false = never_true p.mutator.clear (λ e. ne (t.cleared e)) in
        let has : is_some (at items i) ≡ (carries p.mutator.before i && not (carries p.mutator.last i)) = l.0.2.1 i lt in
        let now = where_at p false false false (ne_eqb p.observer.acked p.mutator.pushed ne) c (ne_eqb p.observer.due 0 (λ e. l.0.1 (l.0.0 ∙ e))) in
        moves p (two (Ack k items)) es
        (λ y e. now ∙ give_may (carries p.mutator.last i) (carries p.mutator.before i) false (at items i) (at p.mutator.items i) (at p.observer.given i) has y e)
        (ap (given_to coming (at items i)) now ∙ give_goes (carries p.mutator.last i) (carries p.mutator.before i) (at items i) (at p.mutator.items i) (at p.observer.given i) has ∙ sym (where_at q true false true (eq-eqb k p.mutator.pushed k_is) c refl))
        (ring q es record {
          low = (let e = k_is in omega arith);
          high = (let e = k_is in omega arith);
          due = λ d. absurd (d refl);
          cleared = λ e. absurd (not_both p.mutator.clear e c);
          out = λ n. absurd (n k_is);
          back = λ _ _. has;
        } l.1)
    ring p (two (observer.Learn c) ∷ es) t l = let q = next p (two (observer.Learn c)) in
        moves p (two (observer.Learn c)) es tt (where_at p (p.observer.acked == p.mutator.pushed) p.mutator.clear true refl refl (eq-eqb p.observer.due 0 l.0.1) ∙ sym (where_at q (p.observer.acked == p.mutator.pushed) p.mutator.clear true refl refl refl))
        (ring q es record { low = t.low; high = t.high; due = λ d. absurd (d refl); cleared = t.cleared; out = t.out; back = t.back } l.1)

  pub one_holder : (first : FastState) (ms : List (MutatorEvent P)) (os : List (ObserverEvent P)) → OneHolder first ms os
  one_holder first ms os h i lt off =
      let begin = where_at i lt (start_of_queue first) true true true refl refl refl ∙ ap (λ (b : Bool). where_of true b (carries first i) true true None None) off in
      subst (λ (w : Holder P). Legal (may_pass i) (passed i) w h.order) begin (ring i lt (start_of_queue first) h.order record {
        low = omega arith;
        high = omega arith;
        due = λ d. absurd (d refl);
        cleared = λ _. refl;
        out = λ n. absurd (n refl);
        back = λ _ e. absurd (true≢false e);
      } h.is_legal)
