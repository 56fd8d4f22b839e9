-- A look of an end that has learnt of all that the other did sees the last of it.
use Rattle.std.proofs.Common.{◌≡◌, ℕ, ◌+◌, ◌≤◌, ◌==◌, ◌&&◌, not, if◌then◌else◌, List, [], ◌∷◌, ◌++◌, length, fold, Option, Some, None, IfSome, is_some, unwrap_or, Bool, false, true≢false, eq-eqb, ne_eqb, refl, ap, sym, ◌∙◌, subst, arith, length-append, get_or, append-nil}
use Rattle.af_stateq.proofs.Common.{Ack, Event, FastState, Legal, MutatorEvent, MutatorPoint, ObserverEvent, ObserverPoint, Push, QueuePoint, SawAck, SawNext, point_after, fold-append, legal, mutated, mutator_next, mutator_start, next, observed, observer_next, observer_start, one, ones, start_of_queue, two, twos}
use Rattle.std.specs.List.{list_any}
use mathlib.Core.Logic.{dite}
use native.Mathlib.Decide.{ℕ_discrete}
use Rattle.af_model.specs.declared.states.MutatorEvent.TheVariants as mutator
use Rattle.af_model.specs.declared.states.ObserverEvent.TheVariants as observer
use Rattle.af_model.proofs.Splits.{split_at, ones_append, legal_at}
use Rattle.af_stateq.specs.Laws.{is_push, is_ack, SeesTheLast, SeesTheAck}

tail_of : {A : Type 0} → List A → List A
tail_of [] = []
tail_of (x ∷ xs) = xs

module _ {A B : Type 0} where
  -- an order cut at an event of the first party
  record Cut (es : List (Event A B)) (xs : List A) (a : A) (rest : List A) : Type 0 where
    before : List (Event A B)
    behind : List (Event A B)
    whole : es ≡ before ++ one a ∷ behind
    first : ones before ≡ xs
    second : ones behind ≡ rest

  cut_at : (es : List (Event A B)) (xs : List A) (a : A) (rest : List A) → ones es ≡ xs ++ a ∷ rest → Cut es xs a rest
  unfolding tail_of
  cut_at [] xs a rest e = let n : 0 ≡ length (xs ++ a ∷ rest) = ap length e in absurd (omega (arith, length-append xs (a ∷ rest)))
  cut_at (two b ∷ es) xs a rest e = let s = cut_at es xs a rest e in record { before = two b ∷ s.before; behind = s.behind; whole = ap (λ z. two b ∷ z) s.whole; first = s.first; second = s.second }
  cut_at (one x ∷ es) [] a rest e = let same : x ≡ a = ap (λ (l : List A). get_or l 0 x) e in record { before = []; behind = es; whole = ap (λ z. one z ∷ es) same; first = refl; second = ap tail_of e }
  cut_at (one x ∷ es) (y ∷ xs) a rest e =
      let s = cut_at es xs a rest (ap tail_of e) in
      let same : x ≡ y = ap (λ (l : List A). get_or l 0 x) e in
      record { before = one x ∷ s.before; behind = s.behind; whole = ap (λ z. one x ∷ z) s.whole; first = λ i. same i ∷ s.first i; second = s.second }

  twos_append : (xs ys : List (Event A B)) → twos (xs ++ ys) ≡ twos xs ++ twos ys
  twos_append [] ys = refl
  twos_append (two b ∷ xs) ys = ap (λ z. b ∷ z) (twos_append xs ys)
  twos_append (one a ∷ xs) ys = twos_append xs ys

-- of two ways to cut one list, the longer beginning goes on into the rest of the other
between : {A : Type 0} (zs us xs ys : List A) → zs ++ us ≡ xs ++ ys → length xs ≤ length zs → (w : List A) × (zs ≡ xs ++ w) × (ys ≡ w ++ us)
unfolding tail_of
between zs us [] ys e h = (zs, refl, sym e)
between [] us (x ∷ xs) ys e h = absurd (omega arith)
between {A} (z ∷ zs) us (x ∷ xs) ys e h =
    let same : z ≡ x = ap (λ (l : List A). get_or l 0 z) e in
    let t = between zs us xs ys (ap tail_of e) (omega arith) in
    (t.0, (λ i. same i ∷ t.1 i), t.2)

abbrev Events : Type 0 → Type 0
Events P = List (Event (MutatorEvent P) (ObserverEvent P))

module _ {P : Type 0} where
  -- each party's half of the point is what its events leave
  pub after_ones : (p : QueuePoint P) (es : Events P) → (point_after legal next p es).mutator ≡ fold mutator_next p.mutator (ones es)
  after_ones p [] = refl
  after_ones p (one e ∷ es) = after_ones (next p (one e)) es
  after_ones p (two e ∷ es) = after_ones (next p (two e)) es

  pub after_twos : (p : QueuePoint P) (es : Events P) → (point_after legal next p es).observer ≡ fold observer_next p.observer (twos es)
  after_twos p [] = refl
  after_twos p (one e ∷ es) = after_twos (next p (one e)) es
  after_twos p (two e ∷ es) = after_twos (next p (two e)) es

  mutator_count : (m : MutatorPoint P) (ms : List (MutatorEvent P)) → (fold mutator_next m ms).count ≡ m.count + length ms
  mutator_count m [] = omega arith
  mutator_count m (Push k x items ∷ ms) = let e = mutator_count (mutator_next m (Push k x items)) ms in omega arith
  mutator_count m (SawAck a items ∷ ms) = let e = mutator_count (mutator_next m (SawAck a items)) ms in omega arith
  mutator_count m (mutator.Learn c ∷ ms) = let e = mutator_count (mutator_next m (mutator.Learn c)) ms in omega arith

  observer_count : (o : ObserverPoint P) (os : List (ObserverEvent P)) → (fold observer_next o os).count ≡ o.count + length os
  observer_count o [] = omega arith
  observer_count o (SawNext k x items ∷ os) = let e = observer_count (observer_next o (SawNext k x items)) os in omega arith
  observer_count o (Ack k items ∷ os) = let e = observer_count (observer_next o (Ack k items)) os in omega arith
  observer_count o (observer.Learn c ∷ os) = let e = observer_count (observer_next o (observer.Learn c)) os in omega arith

  -- events with no push leave the last push
  still_pushed : (m : MutatorPoint P) (ms us : List (MutatorEvent P)) → list_any is_push (ms ++ us) ≡ false → ((fold mutator_next m ms).pushed ≡ m.pushed) × ((fold mutator_next m ms).last ≡ m.last) × ((fold mutator_next m ms).items ≡ m.items)
  still_pushed m [] us e = (refl, refl, refl)
  still_pushed m (Push k x items ∷ ms) us e = absurd (true≢false e)
  still_pushed m (SawAck a items ∷ ms) us e = still_pushed (mutator_next m (SawAck a items)) ms us e
  still_pushed m (mutator.Learn c ∷ ms) us e = still_pushed (mutator_next m (mutator.Learn c)) ms us e

  -- events with no acknowledgement leave the last one
  still_acked : (o : ObserverPoint P) (os us : List (ObserverEvent P)) → list_any is_ack (os ++ us) ≡ false → ((fold observer_next o os).acked ≡ o.acked) × ((fold observer_next o os).given ≡ o.given)
  still_acked o [] us e = (refl, refl)
  still_acked o (SawNext k x items ∷ os) us e = still_acked (observer_next o (SawNext k x items)) os us e
  still_acked o (Ack k items ∷ os) us e = absurd (true≢false e)
  still_acked o (observer.Learn c ∷ os) us e = still_acked (observer_next o (observer.Learn c)) os us e

  -- zs has at least the events xs, and no push follows those: it leaves the last push of the whole list
  last_is : (first : FastState) (ms zs us xs ys : List (MutatorEvent P)) → zs ++ us ≡ ms → ms ≡ xs ++ ys → length xs ≤ length zs → list_any is_push ys ≡ false
      → ((mutated first zs).pushed ≡ (mutated first ms).pushed) × ((mutated first zs).last ≡ (mutated first ms).last) × ((mutated first zs).items ≡ (mutated first ms).items)
  last_is first ms zs us xs ys all parts enough none =
      let b = between zs us xs ys (all ∙ parts) enough in
      let m : MutatorPoint P = mutated first xs in
      let short = still_pushed m b.0 us (ap (list_any is_push) (sym b.2) ∙ none) in
      let long = still_pushed m ys [] (ap (list_any is_push) (append-nil ys) ∙ none) in
      let zs_is : mutated first zs ≡ fold mutator_next m b.0 = ap (mutated first) b.1 ∙ fold-append mutator_next (mutator_start first) xs b.0 in
      let ms_is : mutated first ms ≡ fold mutator_next m ys = ap (mutated first) parts ∙ fold-append mutator_next (mutator_start first) xs ys in (
        ap (λ (z : MutatorPoint P). z.pushed) zs_is ∙ short.0 ∙ sym long.0 ∙ ap (λ (z : MutatorPoint P). z.pushed) (sym ms_is),
        ap (λ (z : MutatorPoint P). z.last) zs_is ∙ short.1 ∙ sym long.1 ∙ ap (λ (z : MutatorPoint P). z.last) (sym ms_is),
        ap (λ (z : MutatorPoint P). z.items) zs_is ∙ short.2 ∙ sym long.2 ∙ ap (λ (z : MutatorPoint P). z.items) (sym ms_is),
      )

  last_ack_is : (os zs us xs ys : List (ObserverEvent P)) → zs ++ us ≡ os → os ≡ xs ++ ys → length xs ≤ length zs → list_any is_ack ys ≡ false → ((observed zs).acked ≡ (observed os).acked) × ((observed zs).given ≡ (observed os).given)
  last_ack_is os zs us xs ys all parts enough none =
      let b = between zs us xs ys (all ∙ parts) enough in
      let o : ObserverPoint P = observed xs in
      let short = still_acked o b.0 us (ap (list_any is_ack) (sym b.2) ∙ none) in
      let long = still_acked o ys [] (ap (list_any is_ack) (append-nil ys) ∙ none) in
      let zs_is : observed zs ≡ fold observer_next o b.0 = ap observed b.1 ∙ fold-append observer_next observer_start xs b.0 in
      let os_is : observed os ≡ fold observer_next o ys = ap observed parts ∙ fold-append observer_next observer_start xs ys in (
        ap (λ (z : ObserverPoint P). z.acked) zs_is ∙ short.0 ∙ sym long.0 ∙ ap (λ (z : ObserverPoint P). z.acked) (sym os_is),
        ap (λ (z : ObserverPoint P). z.given) zs_is ∙ short.1 ∙ sym long.1 ∙ ap (λ (z : ObserverPoint P). z.given) (sym os_is),
      )

  -- a look that shows a state shows the last one, with its items
  shown : (n a : ℕ) (y : FastState) (given items : List (Option P)) (x : Option FastState) → x ≡ (if n == a then None else Some y) → items ≡ (if n == a then [] else given) → IfSome x (λ s. (s ≡ y) × (items ≡ given))
  shown n a y given items None e f = tt
  shown n a y given items (Some s) e f = dite (ℕ_discrete n a)
      (λ same. absurd (true≢false (ap is_some (e ∙ ap (λ (b : Bool). if b then None else Some y) (eq-eqb n a same)))))
      (λ ne. (ap (λ o. unwrap_or o s) (e ∙ ap (λ (b : Bool). if b then None else Some y) (ne_eqb n a ne)), f ∙ ap (λ (b : Bool). if b then [] else given) (ne_eqb n a ne)))

  pub sees_the_last : (first : FastState) (ms : List (MutatorEvent P)) → SeesTheLast first ms
  sees_the_last first ms told more os rest c n x items h parts fewer none =
      let s = split_at h.order (os ++ observer.Learn c ∷ []) (SawNext n x items) rest h.of_two in
      let es : Events P = s.before in
      let l = legal_at legal next (start_of_queue first) es (two (SawNext n x items)) s.behind (subst (Legal legal next (start_of_queue first)) s.whole h.is_legal) in
      let t = split_at es os (observer.Learn c) [] s.first in
      let k = legal_at legal next (start_of_queue first) t.before (two (observer.Learn c)) t.behind (subst (Legal legal next (start_of_queue first)) t.whole l.0) in
      let all : ones es ++ ones s.behind ≡ ms = sym (ones_append es (two (SawNext n x items) ∷ s.behind)) ∙ ap ones (sym s.whole) ∙ h.of_one in
      let inner = ap (λ (z : Events P). length (ones z)) t.whole ∙ ap length (ones_append t.before (two (observer.Learn c) ∷ t.behind)) ∙ length-append (ones t.before) (ones t.behind) in
      let counted = ap (λ (z : MutatorPoint P). z.count) (after_ones (start_of_queue first) t.before) ∙ mutator_count (mutator_start first) (ones t.before) in
      let enough : length told ≤ length (ones es) = (let learnt = k.1.0 in omega arith) in
      let is = last_is first ms (ones es) (ones s.behind) told more all parts enough none in
      let here = after_ones (start_of_queue first) es in
      let acked = (point_after legal next (start_of_queue first) es).observer.acked in (
        l.1.0 ∙ ap (λ (z : MutatorPoint P). z.pushed) here ∙ is.0,
        shown n acked (mutated first ms).last (mutated first ms).items items x
            (l.1.1 ∙ ap (λ (z : FastState). if n == acked then None else Some z) (ap (λ (z : MutatorPoint P). z.last) here ∙ is.1))
            (l.1.2 ∙ ap (λ (z : List (Option P)). if n == acked then [] else z) (ap (λ (z : MutatorPoint P). z.items) here ∙ is.2)),
      )

  pub sees_the_ack : (first : FastState) (os : List (ObserverEvent P)) → SeesTheAck first os
  sees_the_ack first os told more ms rest c a items h parts fewer none =
      let s = cut_at h.order (ms ++ mutator.Learn c ∷ []) (SawAck a items) rest h.of_one in
      let es : Events P = s.before in
      let l = legal_at legal next (start_of_queue first) es (one (SawAck a items)) s.behind (subst (Legal legal next (start_of_queue first)) s.whole h.is_legal) in
      let t = cut_at es ms (mutator.Learn c) [] s.first in
      let k = legal_at legal next (start_of_queue first) t.before (one (mutator.Learn c)) t.behind (subst (Legal legal next (start_of_queue first)) t.whole l.0) in
      let all : twos es ++ twos s.behind ≡ os = sym (twos_append es (one (SawAck a items) ∷ s.behind)) ∙ ap twos (sym s.whole) ∙ h.of_two in
      let inner = ap (λ (z : Events P). length (twos z)) t.whole ∙ ap length (twos_append t.before (one (mutator.Learn c) ∷ t.behind)) ∙ length-append (twos t.before) (twos t.behind) in
      let counted = ap (λ (z : ObserverPoint P). z.count) (after_twos (start_of_queue first) t.before) ∙ observer_count observer_start (twos t.before) in
      let enough : length told ≤ length (twos es) = (let learnt = k.1 in omega arith) in
      let is = last_ack_is os (twos es) (twos s.behind) told more all parts enough none in
      let m : (point_after legal next (start_of_queue first) es).mutator ≡ mutator_next (mutated first ms) (mutator.Learn c) = after_ones (start_of_queue first) es ∙ ap (mutated first) s.first ∙ fold-append mutator_next (mutator_start first) ms (mutator.Learn c ∷ []) in
      let o = after_twos (start_of_queue first) es in
      let seen : a ≡ (point_after legal next (start_of_queue first) es).observer.acked = l.1.0 in (
        seen ∙ ap (λ (z : ObserverPoint P). z.acked) o ∙ is.0,
        l.1.1 ∙ (λ i. if not (m i).clear && (sym seen i == (m i).pushed) then (ap (λ (z : ObserverPoint P). z.given) o ∙ is.1) i else []),
      )
