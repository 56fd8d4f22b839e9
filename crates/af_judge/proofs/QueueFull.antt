-- The ends of the state queue have a legal order exactly if the numbers of their steps have one.
use Rattle.std.specs.Prelude.{◌↔◌, ◌≢◌, if◌then◌else◌, ◌==◌}
use Rattle.std.proofs.Common.{◌≡◌, ℕ, ◌+◌, ◌-◌, ◌<◌, ◌≤◌, ◌&&◌, ◌||◌, not, Bool, true, false, true≢false, List, [], ◌∷◌, length, Option, Some, None, refl, sym, ap, ◌∙◌, subst, arith, eqb-true, eq-eqb}
use Rattle.af_judge.proofs.Common.{AreOf, Event, FastState, HasOrder, Item, Legal, MutatorEvent, ObserverEvent, QueuePoint, point_after, brought, carries, get_or-map-range_with_len, has, items_of, length-map-range_with_len, one, ones, two, twos}
use Rattle.af_model.specs.declared.states.MutatorEvent.TheVariants as mutator
use Rattle.af_model.specs.declared.states.ObserverEvent.TheVariants as observer
use Rattle.af_model.specs.StateQueue as queued
use Rattle.af_model.specs.StateQueue.{slots}
use Rattle.af_judge.specs.declared.queue_judge.MutatorStep.{MutatorStep}
use Rattle.af_judge.specs.declared.queue_judge.MutatorStep.TheVariants as steps
use Rattle.af_judge.specs.declared.queue_judge.ObserverStep.{ObserverStep}
use Rattle.af_judge.specs.declared.queue_judge.ObserverStep.TheVariants as looks
use Rattle.af_judge.specs.QueueNumbers.{HasStepOrder, Numbers, may_step, mutator_after, numbers, observer_after, queue_begins}
use Rattle.af_judge.specs.QueueTold.{Fits, Follow, TellsSteps, TellsLooks}
use Rattle.af_judge.specs.TwoEnds.{ends_after, ends_next}
use Rattle.af_judge.proofs.TwoEnds.{after_lists}

-- ## Items

has_if : (b : Bool) → queued.has {P = Item} ((if b then Some tt else None) ∷ []) 0 ≡ b
has_if true = refl
has_if false = refl

abbrev mark : FastState → FastState → ℕ → Option Item
mark x y i = if carries x i && not (carries y i) then Some tt else None

items-has : (x y : FastState) (i : ℕ) → i < slots → has (items_of x y) i ≡ (carries x i && not (carries y i))
items-has x y i low =
    ap (λ (o : Option Item). has (o ∷ []) 0) (get_or-map-range_with_len (mark x y) 0 slots i i None low (let e : 0 + i ≡ i = omega arith in e))
    ∙ has_if (carries x i && not (carries y i))

items-long : (x y : FastState) → length (items_of x y) ≡ slots
items-long x y = length-map-range_with_len (mark x y) 0 slots

module _ (state : ℕ → FastState) (f : Follow state) where
  -- the items of the slots that are new in a state, and of those that went off with it
  new_items : (k : ℕ) → AreOf (state (k + 1)) (state k) (items_of (state (k + 1)) (state k))
  new_items k = (items-long (state (k + 1)) (state k), items-has (state (k + 1)) (state k), f.same k, f.states (k + 1))

  old_items : (k : ℕ) → AreOf (state k) (state (k + 1)) (items_of (state k) (state (k + 1)))
  old_items k = (items-long (state k) (state (k + 1)), items-has (state k) (state (k + 1)), λ i low x y. sym (f.same k i low y x), f.states k)

  -- ## The points

  abbrev number_next : Numbers → Event MutatorStep ObserverStep → Numbers
  number_next n e = ends_next may_step mutator_after observer_after n e

  -- ## Steps of the mutator

  same_brought : (clear is_last : Bool) (given back : List (Option Item)) → (clear ≡ false → is_last ≡ true → given ≡ back)
      → (if is_last && not clear then back else []) ≡ (if not clear && is_last then given else [])
  same_brought true true given back h = refl
  same_brought true false given back h = refl
  same_brought false true given back h = sym (h refl refl)
  same_brought false false given back h = refl

  -- a look brings what the other end gave back
  look_brings : (q : QueuePoint Item) (n : Numbers) (seen : Bool) (current : ℕ) → Fits state q n seen current → (a : ℕ) → a ≡ n.second.acked
      → (if (a == n.first.pushed) && not seen then items_of (state (n.first.pushed - 1)) (state n.first.pushed) else []) ≡ brought q
  look_brings q n seen current t a is =
      let m = n.first.pushed in
      let k = n.second.acked in
      let given : n.first.clear ≡ false → (k == m) ≡ true → q.observer.given ≡ items_of (state (m - 1)) (state m) =
      (λ unseen last.
      (let same : k ≡ m = eqb-true k m last in
      let some = t.some unseen in
      let here : 1 ≤ k = omega arith in
      t.given here ∙ ap (λ j. items_of (state (j - 1)) (state j)) same)) in
      (λ j. if (is j == m) && not (t.seen_is j) then items_of (state (m - 1)) (state m) else [])
      ∙ (same_brought n.first.clear (k == m) q.observer.given (items_of (state (m - 1)) (state m)) given
      ∙ (λ j. if not (sym t.clear j) && (sym t.acked j == sym t.pushed j) then q.observer.given else []))

  or_seen : (clear is_last : Bool) → (clear ≡ true → is_last ≡ true) → (clear || is_last) ≡ is_last
  or_seen true is_last h = sym (h refl)
  or_seen false is_last h = refl

  fits_look : (q : QueuePoint Item) (n : Numbers) (seen : Bool) (current : ℕ) → Fits state q n seen current → (a number : ℕ) (items : List (Option Item)) → a ≡ number → number ≡ n.second.acked
      → Fits state (queued.next q (one (mutator.SawAck a items))) (number_next n (one (steps.Saw number))) (seen || (a == n.first.pushed)) current
  fits_look q n seen current t a number items is may =
      let m = n.first.pushed in
      let last : n.first.clear ≡ true → (a == m) ≡ true = (λ c. eq-eqb a m (is ∙ (may ∙ t.clear_is c))) in
      record {
        pushed = t.pushed;
        clear = (λ j. is j == t.pushed j);
        acked = t.acked;
        due = t.due;
        last = t.last;
        before = t.before;
        items = t.items;
        given = t.given;
        low = t.low;
        high = t.high;
        seen_is = ap (λ b. b || (a == m)) t.seen_is ∙ (or_seen n.first.clear (a == m) last ∙ ap (λ j. j == m) is);
        clear_is = (λ c. sym may ∙ eqb-true number m c);
        some = (λ c. (let other : number ≢ m = (λ e. true≢false (sym (eq-eqb number m e) ∙ c)) in let low = t.low in omega (arith, may)));
        has_current = t.has_current;
        due_is = t.due_is;
      }

  fits_push : (q : QueuePoint Item) (n : Numbers) (seen : Bool) (current : ℕ) → Fits state q n seen current → (k number : ℕ) (x : FastState) (items : List (Option Item)) → k ≡ number
      → x ≡ state (n.first.pushed + 1) → items ≡ items_of (state (n.first.pushed + 1)) (state n.first.pushed) → may_step n (one (steps.Pushed number))
      → Fits state (queued.next q (one (mutator.Push k x items))) (number_next n (one (steps.Pushed number))) false current
  fits_push q n seen current t k number x items is x_is items_is may =
      let next : n.first.pushed + 1 ≡ number = sym may.0 in
      let back : n.first.pushed ≡ number - 1 = omega (arith, may.0) in
      record {
        pushed = is;
        clear = refl;
        acked = t.acked;
        due = t.due;
        last = x_is ∙ ap state next;
        before = (λ h. t.last ∙ ap state back);
        items = (λ h. items_is ∙ (λ j. items_of (state (next j)) (state (back j))));
        given = t.given;
        low = omega (arith, may.0, may.1);
        high = omega (arith, may.0, may.1);
        seen_is = refl;
        clear_is = (λ c. absurd (true≢false (sym c)));
        some = (λ c. omega (arith, may.0));
        has_current = t.has_current;
        due_is = (λ h. absurd (omega (arith, (t.due_is h).1, may.1)));
      }

  -- ## Steps of the observer

  may_find : (q : QueuePoint Item) (n : Numbers) (seen : Bool) (current : ℕ) → Fits state q n seen current → (k number : ℕ) (x : Option FastState) (items : List (Option Item)) → k ≡ number
      → x ≡ (if k == current then None else Some (state k)) → items ≡ (if k == current then [] else items_of (state k) (state current)) → may_step n (two (looks.Found number))
      → queued.legal q (two (observer.SawNext k x items))
  may_find q n seen current t k number x items is x_is items_is may =
      let here : k ≡ n.first.pushed = is ∙ may.0 in
      let at : current ≡ q.observer.acked = t.has_current ∙ sym t.acked in
      let old : (if k == current then None else Some (state k)) ≡ (if k == q.observer.acked then None else Some q.mutator.last) =
      (λ j. if k == at j then None else Some ((ap state here ∙ sym t.last) j)) in
      let mine : (b : Bool) → (k == current) ≡ b → (if b then [] else items_of (state k) (state current)) ≡ (if b then [] else q.mutator.items) =
      (λ b e. (elim b as (λ c. (k == current) ≡ c → (if c then [] else items_of (state k) (state current)) ≡ (if c then [] else q.mutator.items)) [
        | true ↦ λ e. refl
        | false ↦ λ e.
            (let other : k ≢ current = (λ g. true≢false (sym (eq-eqb k current g) ∙ e)) in
            let some : 1 ≤ n.first.pushed = (let low = t.low in omega (arith, here, t.has_current)) in
            let before : current ≡ n.first.pushed - 1 = (let low = t.low in let high = t.high in omega (arith, here, t.has_current)) in
            (λ j. items_of (state (here j)) (state (before j))) ∙ sym (t.items some))
      ]) e) in
      (here ∙ sym t.pushed, x_is ∙ old, items_is ∙ (mine (k == current) refl ∙ ap (λ j. if k == j then [] else q.mutator.items) at), t.due ∙ may.1)

  fits_find : (q : QueuePoint Item) (n : Numbers) (seen : Bool) (current : ℕ) → Fits state q n seen current → (k number : ℕ) (x : Option FastState) (items : List (Option Item)) → k ≡ number → may_step n (two (looks.Found number))
      → Fits state (queued.next q (two (observer.SawNext k x items))) (number_next n (two (looks.Found number))) seen current
  fits_find q n seen current t k number x items is may =
      let due : (b : Bool) → (number == n.second.acked) ≡ b → (if b then 0 else number) ≢ 0 → ((if b then 0 else number) ≡ n.first.pushed) × (n.second.acked + 1 ≡ n.first.pushed) =
      (λ b e. (elim b as (λ c. (number == n.second.acked) ≡ c → (if c then 0 else number) ≢ 0 → ((if c then 0 else number) ≡ n.first.pushed) × (n.second.acked + 1 ≡ n.first.pushed)) [
        | true ↦ λ e h. absurd (h refl)
        | false ↦ λ e h.
            (let other : number ≢ n.second.acked = (λ g. true≢false (sym (eq-eqb number n.second.acked g) ∙ e)) in
            (may.0, (let low = t.low in let high = t.high in omega (arith, may.0))))
      ]) e) in
      record {
        pushed = t.pushed;
        clear = t.clear;
        acked = t.acked;
        due = (λ j. if is j == t.acked j then 0 else is j);
        last = t.last;
        before = t.before;
        items = t.items;
        given = t.given;
        low = t.low;
        high = t.high;
        seen_is = t.seen_is;
        clear_is = t.clear_is;
        some = t.some;
        has_current = t.has_current;
        due_is = due (number == n.second.acked) refl;
      }

  may_ack : (q : QueuePoint Item) (n : Numbers) (seen : Bool) (current : ℕ) → Fits state q n seen current → (k number : ℕ) (items : List (Option Item)) → k ≡ number
      → items ≡ items_of (state current) (state k) → may_step n (two (looks.Acknowledged number)) → queued.legal q (two (observer.Ack k items))
  may_ack q n seen current t k number items is items_is may =
      let due = t.due_is (λ e. may.1 (may.0 ∙ e)) in
      let here : k ≡ n.first.pushed = is ∙ (may.0 ∙ due.0) in
      let next : current + 1 ≡ n.first.pushed = ap (λ j. j + 1) t.has_current ∙ due.1 in
      let before : current ≡ n.first.pushed - 1 = omega (arith, next) in
      let some : 1 ≤ n.first.pushed = omega (arith, next) in
      let of : AreOf (state current) (state (current + 1)) (items_of (state current) (state (current + 1))) = old_items current in (
        is ∙ (may.0 ∙ sym t.due),
        (λ e. may.1 (sym is ∙ e)),
        subst (λ x. AreOf x q.mutator.last items) (ap state before ∙ sym (t.before some))
            (subst (λ x. AreOf (state current) x items) (ap state next ∙ sym t.last)
            (subst (λ l. AreOf (state current) (state (current + 1)) l) (ap (λ j. items_of (state current) (state j)) (next ∙ sym here) ∙ sym items_is) of)),
      )

  fits_ack : (q : QueuePoint Item) (n : Numbers) (seen : Bool) (current : ℕ) → Fits state q n seen current → (k number : ℕ) (items : List (Option Item)) → k ≡ number
      → items ≡ items_of (state current) (state k) → may_step n (two (looks.Acknowledged number))
      → Fits state (queued.next q (two (observer.Ack k items))) (number_next n (two (looks.Acknowledged number))) seen k
  fits_ack q n seen current t k number items is items_is may =
      let due = t.due_is (λ e. may.1 (may.0 ∙ e)) in
      let here : number ≡ n.first.pushed = may.0 ∙ due.0 in
      let before : current ≡ number - 1 = omega (arith, here, t.has_current, due.1) in
      record {
        pushed = t.pushed;
        clear = t.clear;
        acked = is;
        due = refl;
        last = t.last;
        before = t.before;
        items = t.items;
        given = (λ h. items_is ∙ (λ j. items_of (state (before j)) (state (is j))));
        low = omega (arith, here);
        high = omega (arith, here);
        seen_is = t.seen_is;
        clear_is = (λ c. here);
        some = t.some;
        has_current = is;
        due_is = (λ h. absurd (h refl));
      }

  -- ## From the numbers to the events

  goes_one : (q : QueuePoint Item) (e : MutatorEvent Item) (xs : List (MutatorEvent Item)) (ys : List (ObserverEvent Item)) → queued.legal q (one e) → HasOrder queued.legal queued.next (queued.next q (one e)) xs ys → HasOrder queued.legal queued.next q (e ∷ xs) ys
  goes_one q e xs ys may h = record { order = one e ∷ h.order; is_legal = (may, h.is_legal); of_one = ap (λ l. e ∷ l) h.of_one; of_two = h.of_two }

  goes_two : (q : QueuePoint Item) (e : ObserverEvent Item) (xs : List (MutatorEvent Item)) (ys : List (ObserverEvent Item)) → queued.legal q (two e) → HasOrder queued.legal queued.next (queued.next q (two e)) xs ys → HasOrder queued.legal queued.next q xs (e ∷ ys)
  goes_two q e xs ys may h = record { order = two e ∷ h.order; is_legal = (may, h.is_legal); of_one = h.of_one; of_two = ap (λ l. e ∷ l) h.of_two }

  from_numbers : (es : List (Event MutatorStep ObserverStep)) (q : QueuePoint Item) (n : Numbers) (seen : Bool) (current : ℕ) (xs : List (MutatorEvent Item)) (ys : List (ObserverEvent Item)) → Fits state q n seen current
      → TellsSteps state n.first.pushed seen xs (ones es) → TellsLooks state current ys (twos es) → Legal may_step number_next n es → HasOrder queued.legal queued.next q xs ys
  from_numbers [] q n seen current [] [] t a b l = record { order = []; is_legal = tt; of_one = refl; of_two = refl }
  from_numbers [] q n seen current (mutator.Push k x items ∷ xs) ys t a b l = absurd a
  from_numbers [] q n seen current (mutator.SawAck k items ∷ xs) ys t a b l = absurd a
  from_numbers [] q n seen current (mutator.Learn count ∷ xs) ys t a b l = absurd a
  from_numbers [] q n seen current [] (observer.SawNext k x items ∷ ys) t a b l = absurd b
  from_numbers [] q n seen current [] (observer.Ack k items ∷ ys) t a b l = absurd b
  from_numbers [] q n seen current [] (observer.Learn count ∷ ys) t a b l = absurd b
  from_numbers (one (steps.Saw number) ∷ es) q n seen current [] ys t a b l = absurd a
  from_numbers (one (steps.Saw number) ∷ es) q n seen current (mutator.SawAck k items ∷ xs) ys t a b l =
      goes_one q (mutator.SawAck k items) xs ys (a.0 ∙ (l.0 ∙ sym t.acked), a.1 ∙ look_brings q n seen current t k (a.0 ∙ l.0))
      (from_numbers es _ (number_next n (one (steps.Saw number))) (seen || (k == n.first.pushed)) current xs ys (fits_look q n seen current t k number items a.0 l.0) a.2 b l.1)
  from_numbers (one (steps.Saw number) ∷ es) q n seen current (mutator.Push k x items ∷ xs) ys t a b l = absurd a
  from_numbers (one (steps.Saw number) ∷ es) q n seen current (mutator.Learn count ∷ xs) ys t a b l = absurd a
  from_numbers (one (steps.Pushed number) ∷ es) q n seen current [] ys t a b l = absurd a
  from_numbers (one (steps.Pushed number) ∷ es) q n seen current (mutator.Push k x items ∷ xs) ys t a b l =
      goes_one q (mutator.Push k x items) xs ys (
        a.0 ∙ (l.0.0 ∙ ap (λ j. j + 1) (sym t.pushed)),
        t.acked ∙ (l.0.1 ∙ sym t.pushed),
        t.clear ∙ l.0.2,
        subst (λ z. AreOf z q.mutator.last items) (sym a.1) (subst (λ z. AreOf (state (n.first.pushed + 1)) z items) (sym t.last) (subst (λ z. AreOf (state (n.first.pushed + 1)) (state n.first.pushed) z) (sym a.2) (new_items n.first.pushed))),
      )
      (from_numbers es _ (number_next n (one (steps.Pushed number))) false current xs ys (fits_push q n seen current t k number x items a.0 a.1 a.2 l.0) (subst (λ j. TellsSteps state j false xs (ones es)) (sym l.0.0) a.3) b l.1)
  from_numbers (one (steps.Pushed number) ∷ es) q n seen current (mutator.SawAck k items ∷ xs) ys t a b l = absurd a
  from_numbers (one (steps.Pushed number) ∷ es) q n seen current (mutator.Learn count ∷ xs) ys t a b l = absurd a
  from_numbers (two (looks.Found number) ∷ es) q n seen current xs [] t a b l = absurd b
  from_numbers (two (looks.Found number) ∷ es) q n seen current xs (observer.SawNext k x items ∷ ys) t a b l =
      goes_two q (observer.SawNext k x items) xs ys (may_find q n seen current t k number x items b.0 b.1 b.2 l.0)
      (from_numbers es _ (number_next n (two (looks.Found number))) seen current xs ys (fits_find q n seen current t k number x items b.0 l.0) a b.3 l.1)
  from_numbers (two (looks.Found number) ∷ es) q n seen current xs (observer.Ack k items ∷ ys) t a b l = absurd b
  from_numbers (two (looks.Found number) ∷ es) q n seen current xs (observer.Learn count ∷ ys) t a b l = absurd b
  from_numbers (two (looks.Acknowledged number) ∷ es) q n seen current xs [] t a b l = absurd b
  from_numbers (two (looks.Acknowledged number) ∷ es) q n seen current xs (observer.Ack k items ∷ ys) t a b l =
      goes_two q (observer.Ack k items) xs ys (may_ack q n seen current t k number items b.0 b.1 l.0)
      (from_numbers es _ (number_next n (two (looks.Acknowledged number))) seen k xs ys (fits_ack q n seen current t k number items b.0 b.1 l.0) a b.2 l.1)
  from_numbers (two (looks.Acknowledged number) ∷ es) q n seen current xs (observer.SawNext k x items ∷ ys) t a b l = absurd b
  from_numbers (two (looks.Acknowledged number) ∷ es) q n seen current xs (observer.Learn count ∷ ys) t a b l = absurd b

  -- ## From the events to the numbers

  -- the numbers stand in the same order, and the points fit after it
  record Numbered (q : QueuePoint Item) (n : Numbers) (es : List (Event (MutatorEvent Item) (ObserverEvent Item))) (ss : List MutatorStep) (ls : List ObserverStep) : Type 0 where
    order : List (Event MutatorStep ObserverStep)
    is_legal : Legal may_step number_next n order
    of_one : ones order ≡ ss
    of_two : twos order ≡ ls
    fits : (let m = point_after may_step number_next n order in Fits state (point_after queued.legal queued.next q es) m m.first.clear m.second.acked)

  numbered_one : (q : QueuePoint Item) (n : Numbers) (e : MutatorEvent Item) (es : List (Event (MutatorEvent Item) (ObserverEvent Item))) (s : MutatorStep) (ss : List MutatorStep) (ls : List ObserverStep)
      → may_step n (one s) → Numbered (queued.next q (one e)) (number_next n (one s)) es ss ls → Numbered q n (one e ∷ es) (s ∷ ss) ls
  numbered_one q n e es s ss ls may r = record { order = one s ∷ r.order; is_legal = (may, r.is_legal); of_one = ap (λ l. s ∷ l) r.of_one; of_two = r.of_two; fits = r.fits }

  numbered_two : (q : QueuePoint Item) (n : Numbers) (e : ObserverEvent Item) (es : List (Event (MutatorEvent Item) (ObserverEvent Item))) (s : ObserverStep) (ss : List MutatorStep) (ls : List ObserverStep)
      → may_step n (two s) → Numbered (queued.next q (two e)) (number_next n (two s)) es ss ls → Numbered q n (two e ∷ es) ss (s ∷ ls)
  numbered_two q n e es s ss ls may r = record { order = two s ∷ r.order; is_legal = (may, r.is_legal); of_one = r.of_one; of_two = ap (λ l. s ∷ l) r.of_two; fits = r.fits }

  to_numbers : (es : List (Event (MutatorEvent Item) (ObserverEvent Item))) (q : QueuePoint Item) (n : Numbers) (seen : Bool) (current : ℕ) (ss : List MutatorStep) (ls : List ObserverStep) → Fits state q n seen current
      → TellsSteps state n.first.pushed seen (ones es) ss → TellsLooks state current (twos es) ls → Legal queued.legal queued.next q es → Numbered q n es ss ls
  to_numbers [] q n seen current [] [] t a b l =
      record { order = []; is_legal = tt; of_one = refl; of_two = refl; fits = subst (λ x. Fits state q n x n.second.acked) t.seen_is (subst (λ x. Fits state q n seen x) t.has_current t) }
  to_numbers [] q n seen current (s ∷ ss) ls t a b l = absurd a
  to_numbers [] q n seen current [] (s ∷ ls) t a b l = absurd b
  to_numbers (one (mutator.SawAck k items) ∷ es) q n seen current [] ls t a b l = absurd a
  to_numbers (one (mutator.SawAck k items) ∷ es) q n seen current (steps.Saw number ∷ ss) ls t a b l =
      let may : may_step n (one (steps.Saw number)) = sym a.0 ∙ (l.0.0 ∙ t.acked) in
      numbered_one q n (mutator.SawAck k items) es (steps.Saw number) ss ls may
      (to_numbers es _ (number_next n (one (steps.Saw number))) (seen || (k == n.first.pushed)) current ss ls (fits_look q n seen current t k number items a.0 may) a.2 b l.1)
  to_numbers (one (mutator.SawAck k items) ∷ es) q n seen current (steps.Pushed number ∷ ss) ls t a b l = absurd a
  to_numbers (one (mutator.Push k x items) ∷ es) q n seen current [] ls t a b l = absurd a
  to_numbers (one (mutator.Push k x items) ∷ es) q n seen current (steps.Pushed number ∷ ss) ls t a b l =
      let may : may_step n (one (steps.Pushed number)) = (sym a.0 ∙ (l.0.0 ∙ ap (λ j. j + 1) t.pushed), sym t.acked ∙ (l.0.1 ∙ t.pushed), sym t.clear ∙ l.0.2) in
      numbered_one q n (mutator.Push k x items) es (steps.Pushed number) ss ls may
      (to_numbers es _ (number_next n (one (steps.Pushed number))) false current ss ls (fits_push q n seen current t k number x items a.0 a.1 a.2 may) (subst (λ j. TellsSteps state j false (ones es) ss) (sym may.0) a.3) b l.1)
  to_numbers (one (mutator.Push k x items) ∷ es) q n seen current (steps.Saw number ∷ ss) ls t a b l = absurd a
  to_numbers (one (mutator.Learn count) ∷ es) q n seen current [] ls t a b l = absurd a
  to_numbers (one (mutator.Learn count) ∷ es) q n seen current (s ∷ ss) ls t a b l = absurd a
  to_numbers (two (observer.SawNext k x items) ∷ es) q n seen current ss [] t a b l = absurd b
  to_numbers (two (observer.SawNext k x items) ∷ es) q n seen current ss (looks.Found number ∷ ls) t a b l =
      let may : may_step n (two (looks.Found number)) = (sym b.0 ∙ (l.0.0 ∙ t.pushed), sym t.due ∙ l.0.3) in
      numbered_two q n (observer.SawNext k x items) es (looks.Found number) ss ls may
      (to_numbers es _ (number_next n (two (looks.Found number))) seen current ss ls (fits_find q n seen current t k number x items b.0 may) a b.3 l.1)
  to_numbers (two (observer.SawNext k x items) ∷ es) q n seen current ss (looks.Acknowledged number ∷ ls) t a b l = absurd b
  to_numbers (two (observer.Ack k items) ∷ es) q n seen current ss [] t a b l = absurd b
  to_numbers (two (observer.Ack k items) ∷ es) q n seen current ss (looks.Acknowledged number ∷ ls) t a b l =
      let may : may_step n (two (looks.Acknowledged number)) = (sym b.0 ∙ (l.0.0 ∙ t.due), λ e. l.0.1 (b.0 ∙ e)) in
      numbered_two q n (observer.Ack k items) es (looks.Acknowledged number) ss ls may
      (to_numbers es _ (number_next n (two (looks.Acknowledged number))) seen k ss ls (fits_ack q n seen current t k number items b.0 b.1 may) a b.2 l.1)
  to_numbers (two (observer.Ack k items) ∷ es) q n seen current ss (looks.Found number ∷ ls) t a b l = absurd b
  to_numbers (two (observer.Learn count) ∷ es) q n seen current ss [] t a b l = absurd b
  to_numbers (two (observer.Learn count) ∷ es) q n seen current ss (s ∷ ls) t a b l = absurd b

  -- ## Both ways

  -- between two meetings the events have a legal order exactly if the numbers of their steps have one
  pub queue_exact : (q : QueuePoint Item) (n : Numbers) (seen : Bool) (current : ℕ) (xs : List (MutatorEvent Item)) (ys : List (ObserverEvent Item)) (ss : List MutatorStep) (ls : List ObserverStep) → Fits state q n seen current
      → TellsSteps state n.first.pushed seen xs ss → TellsLooks state current ys ls → HasOrder queued.legal queued.next q xs ys ↔ HasStepOrder n.first ss n.second ls
  queue_exact q n seen current xs ys ss ls t a b = (
    λ h.
        (let r = to_numbers h.order q n seen current ss ls t (subst (λ l. TellsSteps state n.first.pushed seen l ss) (sym h.of_one) a) (subst (λ l. TellsLooks state current l ls) (sym h.of_two) b) h.is_legal in
        record { order = r.order; is_legal = r.is_legal; of_one = r.of_one; of_two = r.of_two }),
    λ h. from_numbers h.order q n seen current xs ys t (subst (λ l. TellsSteps state n.first.pushed seen xs l) (sym h.of_one) a) (subst (λ l. TellsLooks state current ys l) (sym h.of_two) b) h.is_legal,
  )

  -- the points fit after any such order, by what all these steps leave
  pub fits_after : (q : QueuePoint Item) (n : Numbers) (seen : Bool) (current : ℕ) (xs : List (MutatorEvent Item)) (ys : List (ObserverEvent Item)) (ss : List MutatorStep) (ls : List ObserverStep) → Fits state q n seen current
      → TellsSteps state n.first.pushed seen xs ss → TellsLooks state current ys ls → (h : HasOrder queued.legal queued.next q xs ys)
      → (let m = ends_after may_step mutator_after observer_after n ss ls in Fits state (point_after queued.legal queued.next q h.order) m m.first.clear m.second.acked)
  fits_after q n seen current xs ys ss ls t a b h =
      let r = to_numbers h.order q n seen current ss ls t (subst (λ l. TellsSteps state n.first.pushed seen l ss) (sym h.of_one) a) (subst (λ l. TellsLooks state current l ls) (sym h.of_two) b) h.is_legal in
      let m : point_after may_step number_next n r.order ≡ ends_after may_step mutator_after observer_after n ss ls =
      after_lists may_step mutator_after observer_after n r.order ∙ (λ j. ends_after may_step mutator_after observer_after n (r.of_one j) (r.of_two j)) in
      subst (λ (k : Numbers). Fits state (point_after queued.legal queued.next q h.order) k k.first.clear k.second.acked) m r.fits

  -- the points fit before any event, if the state 0 is the one before the first push
  pub fits_start : Fits state (queued.start_of_queue (state 0)) (numbers queue_begins.mutator queue_begins.observer) true 0
  fits_start = record {
    pushed = refl;
    clear = refl;
    acked = refl;
    due = refl;
    last = refl;
    before = λ h. absurd (omega (arith, h));
    items = λ h. absurd (omega (arith, h));
    given = λ h. absurd (omega (arith, h));
    low = omega arith;
    high = omega arith;
    seen_is = refl;
    clear_is = λ c. refl;
    some = λ c. absurd (true≢false c);
    has_current = refl;
    due_is = λ h. absurd (h refl);
  }

  -- a meeting changes nothing, if nothing is to be acknowledged
  pub fits_met : (q : QueuePoint Item) (n : Numbers) (seen : Bool) (current learnt known : ℕ) → Fits state q n seen current → n.second.due ≡ 0
      → Fits state (queued.next (queued.next q (one (mutator.Learn learnt))) (two (observer.Learn known))) n seen current
  fits_met q n seen current learnt known t none = record {
    pushed = t.pushed;
    clear = t.clear;
    acked = t.acked;
    due = sym none;
    last = t.last;
    before = t.before;
    items = t.items;
    given = t.given;
    low = t.low;
    high = t.high;
    seen_is = t.seen_is;
    clear_is = t.clear_is;
    some = t.some;
    has_current = t.has_current;
    due_is = t.due_is;
  }
