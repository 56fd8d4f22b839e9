-- What is kept of the queue follows a run from step to step, and each meeting is judged exactly.
use Rattle.std.specs.Prelude.{if◌then◌else◌, ◌==◌, ◌↔◌}
use Rattle.std.proofs.Common.{◌≡◌, ℕ, suc, ◌+◌, ◌-◌, ◌<◌, ◌≤◌, ◌||◌, Bool, true, false, List, [], ◌∷◌, ◌++◌, fold, length, Option, unwrap_or, refl, sym, ap, ◌∙◌, subst, arith, append_assoc, append-nil, length-append}
use Rattle.af_judge.proofs.Common.{FastState, HasOrder, HasQueueHistory, Item, MutatorEvent, MutatorPoint, ObserverEvent, ObserverPoint, Push, QueuePoint, QueueTold, point_after, fold-append, initial, is_look_at, is_pushed, items_of, list_any, list_any-append, mutator_does, ne_eqb, observer_does, one, ones, or_both, poll_events, queue_met, state_at, state_more, state_next, two, twos, was_seen}
use Rattle.af_model.specs.declared.states.MutatorEvent.TheVariants as mutator
use Rattle.af_model.specs.declared.states.ObserverEvent.TheVariants as observer
use Rattle.af_model.specs.StateQueue as queued
use Rattle.af_judge.specs.declared.queue_judge.MutatorStep.{MutatorStep}
use Rattle.af_judge.specs.declared.queue_judge.MutatorStep.TheVariants as steps
use Rattle.af_judge.specs.declared.queue_judge.ObserverStep.{ObserverStep}
use Rattle.af_judge.specs.QueueNumbers.{HasRoundOrder, QueueKept, met, mutated, numbers, observed, observer_after, poll_steps, push_steps, queue_begins, with_looks, with_steps}
use Rattle.af_judge.specs.QueueTold.{Fits, Follow, TellsLooks, TellsSteps}
use Rattle.af_judge.specs.SharedTold.{AreStates, QueueFollows, pushes_in, pushes_told, seen_after}
use Rattle.af_judge.proofs.Words.{FindsBeyond, QueueLost, SeesBeyond}
use Rattle.af_judge.proofs.OrderCuts.{cut_begins, cut_meets, meeting_exact}
use Rattle.af_judge.proofs.QueueFull.{fits_after, fits_met, fits_start, queue_exact}
use Rattle.af_judge.proofs.QueueMeets.{queue_meeting}
use Rattle.af_judge.proofs.QueueSteps.{IsBetween, brought_again, brought_if, finds_more, finds_poll, looked, looked_low, looks_join, none_found, none_seen, one_pushed, ones_met, ones_more, ones_stay, poll_by, poll_steps_by, polled_acked, polled_due, push_told, pushed_counts, pushes-append, queue_after, seen-append, seen_counts, seen_pushed, seen_still, sees_more, sees_poll, steps_join, tells_poll, tells_turn, told-append, turn_pushes, turn_sees, turn_told, twos_met, twos_more, twos_stay}

-- ## Before the first event

pub follows_first : (frames : ℕ) → QueueFollows frames [] 0 [] queue_begins
follows_first frames = record {
  point = queued.start_of_queue (initial frames);
  firsts = [];
  seconds = [];
  later = [];
  also = [];
  told_one = refl;
  told_two = refl;
  cut = cut_begins queued.legal queued.next (queued.start_of_queue (initial frames));
  many_one = refl;
  many_two = refl;
  fits = λ state f are. subst (λ x. Fits state (queued.start_of_queue x) (numbers queue_begins.mutator queue_begins.observer) true 0) (are 0 (omega arith)) (fits_start state f);
  tells_steps = λ state are. tt;
  tells_looks = λ state are. tt;
  pushed = refl;
  pushes = refl;
  current_is = refl;
  none_due = refl;
  known = omega arith;
  seen = refl;
  none_beyond = λ k h. refl;
}

-- ## Polls

seen_same : (k : ℕ) (told : QueueTold) (es : List (ObserverEvent Item)) → was_seen k (observer_does es told) ≡ was_seen k told
seen_same k told es = ap (λ l. list_any (is_look_at k) l) (ones_stay told es)

module _ (frames : ℕ) (states : List FastState) (current : ℕ) (told : QueueTold) (q : QueueKept) (h : QueueFollows frames states current told q) (k : ℕ) where
  x : FastState
  x = state_at frames states k

  y : FastState
  y = state_at frames states current

  after_poll : (same : Bool) → (k == current) ≡ same → k ≤ length states → QueueFollows frames states k (observer_does (poll_by same k x y) told) (with_looks (poll_steps_by same k) q)
  unfolding x y
  after_poll same e low =
      let o = observed q.observer q.looks in
      let all : observed q.observer (q.looks ++ poll_steps_by same k) ≡ observed o (poll_steps_by same k) = fold-append observer_after q.observer q.looks (poll_steps_by same k) in
      record {
        point = h.point;
        firsts = h.firsts;
        seconds = h.seconds;
        later = h.later;
        also = h.also ++ poll_by same k x y;
        told_one = ones_stay told (poll_by same k x y) ∙ h.told_one;
        told_two = twos_more told (poll_by same k x y) ∙ (ap (λ l. l ++ poll_by same k x y) h.told_two ∙ append_assoc h.seconds h.also (poll_by same k x y));
        cut = h.cut;
        many_one = h.many_one;
        many_two = h.many_two;
        fits = h.fits;
        tells_steps = h.tells_steps;
        tells_looks = λ state are. looks_join state q.observer h.also (poll_by same k x y) q.looks (poll_steps_by same k) (h.tells_looks state are)
            (subst (λ n. TellsLooks state n (poll_by same k x y) (poll_steps_by same k)) (sym h.current_is) (tells_poll state current k x y same e (are k low) (are current h.known)));
        pushed = h.pushed;
        pushes = ap pushes_told (ones_stay told (poll_by same k x y)) ∙ h.pushes;
        current_is = ap (λ p. p.acked) all ∙ polled_acked o current k same e h.current_is;
        none_due = ap (λ p. p.due) all ∙ polled_due o current k same e h.current_is;
        known = low;
        seen = h.seen ∙ ap (λ b. (length states == 0) || b) (sym (seen_same (length states) told (poll_by same k x y)));
        none_beyond = λ n beyond. seen_same n told (poll_by same k x y) ∙ h.none_beyond n beyond;
      }

  lost_poll : (same : Bool) → length states < k → QueueLost (length states) (observer_does (poll_by same k x y) told) (with_looks (poll_steps_by same k) q)
  unfolding x y
  lost_poll same beyond = record {
    sees = subst (SeesBeyond (length states)) (sym (twos_more told (poll_by same k x y))) (sees_poll (length states) (twos told) k x y same beyond);
    pushes = (let e = ap pushes_told (ones_stay told (poll_by same k x y)) ∙ h.pushes in omega (arith, e));
    finds = finds_poll (length states) q.looks k same beyond;
    pushed = (let e = h.pushed in omega (arith, e));
  }

  -- a poll of a state that was pushed, and of one that wasn't
  pub follows_poll : k ≤ length states → QueueFollows frames states k (observer_does (poll_events frames states current k) told) (with_looks (poll_steps current k) q)
  unfolding x y
  follows_poll low = after_poll (k == current) refl low

  pub loses_poll : length states < k → QueueLost (length states) (observer_does (poll_events frames states current k) told) (with_looks (poll_steps current k) q)
  unfolding x y
  loses_poll beyond = lost_poll (k == current) beyond

-- a poll after one of a state that wasn't pushed
pub stays_lost : (states : ℕ) (told : QueueTold) (q : QueueKept) (es : List (ObserverEvent Item)) (ls : List ObserverStep) → QueueLost states told q → QueueLost states (observer_does es told) (with_looks ls q)
stays_lost states told q es ls h = record {
  sees = subst (SeesBeyond states) (sym (twos_more told es)) (sees_more states (twos told) es h.sees);
  pushes = subst (λ l. pushes_told l ≤ states) (sym (ones_stay told es)) h.pushes;
  finds = finds_more states q.looks ls h.finds;
  pushed = h.pushed;
}

-- ## Turns

pub states_before : (frames : ℕ) (states more : List FastState) (state : ℕ → FastState) → AreStates frames (states ++ more) state → AreStates frames states state
states_before frames states more state are =
    λ k low. are k (let e = length-append states more in omega (arith, e, low)) ∙ ap (λ (o : Option FastState). unwrap_or o (initial frames)) (state_more states more k low)

-- the states that a push adds
abbrev pub pushed_if : Bool → FastState → List FastState
pushed_if pushes draft = if pushes then draft ∷ [] else []

pushed_many : (pushes : Bool) (draft : FastState) → length (pushed_if pushes draft) ≡ one_pushed pushes
pushed_many true draft = refl
pushed_many false draft = refl

seen_by_zero : (last : ℕ) (seen w : Bool) → seen ≡ ((last == 0) || w) → last ≡ 0 → seen ≡ true
seen_by_zero last seen w is e = is ∙ ap (λ n. (n == 0) || w) e

module _ (frames : ℕ) (states : List FastState) (current : ℕ) (told : QueueTold) (q : QueueKept) (h : QueueFollows frames states current told q) (ack : Bool) (push : Push) (draft : FastState) where
  abbrev last : ℕ
  last = length states

  abbrev was : Bool
  was = (last == 0) || was_seen last told

  abbrev back : List (Option Item)
  back = items_of (state_at frames states (last - 1)) (state_at frames states last)

  abbrev sent : List (Option Item)
  sent = items_of draft (state_at frames states last)

  abbrev again : List (Option Item)
  again = brought_again last ack push was back

  -- what a turn tells, and its steps
  abbrev pub turn_events : List (MutatorEvent Item)
  turn_events = mutator.SawAck (looked last ack) (brought_if last (looked last ack) was back) ∷ push_told last push draft again sent

  abbrev pub turn_looks : List MutatorStep
  turn_looks = steps.Saw (looked last ack) ∷ push_steps last push

  abbrev grown : List FastState
  grown = states ++ pushed_if (is_pushed push) draft

  new_state : (state : ℕ → FastState) → AreStates frames grown state → is_pushed push ≡ true → draft ≡ state (last + 1)
  new_state state are is =
      let here : AreStates frames (states ++ draft ∷ []) state = subst (λ b. AreStates frames (states ++ pushed_if b draft) state) is are in
      sym (here (last + 1) (let e = length-append states (draft ∷ []) in omega (arith, e)) ∙ ap (λ (o : Option FastState). unwrap_or o (initial frames)) (state_next states draft))

  tells_more : (state : ℕ → FastState) → AreStates frames grown state → TellsSteps state last was turn_events turn_looks
  tells_more state are =
      let before = states_before frames states (pushed_if (is_pushed push) draft) state are in
      let here = before last (omega arith) in
      let one_before = before (last - 1) (omega arith) in
      tells_turn state last ack was push draft back sent (seen_by_zero last was (was_seen last told) refl) (λ j. items_of (sym one_before j) (sym here j))
      (λ is. (new_state state are is, (λ j. items_of (new_state state are is j) (sym here j))))

  many : length grown ≡ last + one_pushed (is_pushed push)
  many = length-append states (pushed_if (is_pushed push) draft) ∙ ap (λ n. last + n) (pushed_many (is_pushed push) draft)

  seen_more : (k : ℕ) → was_seen k (mutator_does turn_events told) ≡ (was_seen k told || ((looked last ack == k) || list_any (is_look_at k) (push_told last push draft again sent)))
  seen_more k = ap (λ l. list_any (is_look_at k) l) (ones_more told turn_events) ∙ list_any-append (is_look_at k) (ones told) turn_events

  none_more : (k : ℕ) → last < k → was_seen k (mutator_does turn_events told) ≡ false
  none_more k beyond =
      let low = looked_low last ack in
      seen_more k ∙ (λ j. h.none_beyond k beyond j || (ne_eqb (looked last ack) k (λ e. omega (arith, low, e, beyond)) j || turn_sees k last push draft again sent beyond j))

  seen_then : (pushes : Bool) → is_pushed push ≡ pushes → seen_after last was turn_looks ≡ ((last + one_pushed pushes == 0) || was_seen (last + one_pushed pushes) (mutator_does turn_events told))
  seen_then true is =
      seen_pushed last (was || (looked last ack == last)) push is
      ∙ sym (λ j. ne_eqb (last + 1) 0 (λ e. omega (arith, e)) j || none_more (last + 1) (omega arith) j)
  seen_then false is =
      seen_still last (was || (looked last ack == last)) push draft again sent is
      ∙ (or_both was (looked last ack == last) (list_any (is_look_at last) (push_told last push draft again sent))
      ∙ (or_both (last == 0) (was_seen last told) ((looked last ack == last) || list_any (is_look_at last) (push_told last push draft again sent))
      ∙ (ap (λ b. (last == 0) || b) (sym (seen_more last)) ∙ ap (λ n. (n == 0) || was_seen n (mutator_does turn_events told)) (let e : last ≡ last + 0 = omega arith in e))))

  -- a turn with its look and its push
  pub follows_turn : QueueFollows frames grown current (mutator_does turn_events told) (with_steps turn_looks q)
  follows_turn =
      let p : q.mutator.pushed + pushes_in q.steps ≡ last = h.pushed in
      record {
        point = h.point;
        firsts = h.firsts;
        seconds = h.seconds;
        later = h.later ++ turn_events;
        also = h.also;
        told_one = ones_more told turn_events ∙ (ap (λ l. l ++ turn_events) h.told_one ∙ append_assoc h.firsts h.later turn_events);
        told_two = twos_stay told turn_events ∙ h.told_two;
        cut = h.cut;
        many_one = h.many_one;
        many_two = h.many_two;
        fits = λ state f are. h.fits state f (states_before frames states (pushed_if (is_pushed push) draft) state are);
        tells_steps = λ state are. steps_join state q.mutator.pushed q.mutator.clear h.later turn_events q.steps turn_looks (h.tells_steps state (states_before frames states (pushed_if (is_pushed push) draft) state are))
            (subst (λ n. TellsSteps state n (seen_after q.mutator.pushed q.mutator.clear q.steps) turn_events turn_looks) (sym p) (subst (λ b. TellsSteps state last b turn_events turn_looks) (sym h.seen) (tells_more state are)));
        tells_looks = λ state are. h.tells_looks state (states_before frames states (pushed_if (is_pushed push) draft) state are);
        pushed = (let e = pushes-append q.steps turn_looks in let g = turn_pushes last push in let m = many in omega (arith, p, e, g, m));
        pushes = ap pushes_told (ones_more told turn_events) ∙ (let e = told-append (ones told) turn_events in let g = turn_told last push draft again sent in let m = many in let w = h.pushes in omega (arith, e, g, m, w));
        current_is = h.current_is;
        none_due = h.none_due;
        known = (let m = many in let l = h.known in omega (arith, m, l));
        seen = seen-append q.mutator.pushed q.mutator.clear q.steps turn_looks ∙ ((λ j. seen_after (p j) (h.seen j) turn_looks) ∙ (seen_then (is_pushed push) refl ∙ ap (λ n. (n == 0) || was_seen n (mutator_does turn_events told)) (sym many)));
        none_beyond = λ k beyond. none_more k (let m = many in omega (arith, m, beyond));
      }

-- ## Meetings

mutator_count : (m : MutatorPoint Item) (es : List (MutatorEvent Item)) → (fold queued.mutator_next m es).count ≡ m.count + length es
mutator_count m [] = (let e : m.count ≡ m.count + 0 = omega arith in e)
mutator_count m (e ∷ es) = mutator_count (queued.mutator_next m e) es ∙ (let c = one_more m e in let g : m.count + 1 + length es ≡ m.count + suc (length es) = omega arith in ap (λ n. n + length es) c ∙ g)
  where
    one_more : (m : MutatorPoint Item) (e : MutatorEvent Item) → (queued.mutator_next m e).count ≡ m.count + 1
    one_more m (mutator.Push k x items) = refl
    one_more m (mutator.SawAck a items) = refl
    one_more m (mutator.Learn count) = refl

observer_count : (o : ObserverPoint Item) (es : List (ObserverEvent Item)) → (fold queued.observer_next o es).count ≡ o.count + length es
observer_count o [] = (let e : o.count ≡ o.count + 0 = omega arith in e)
observer_count o (e ∷ es) = observer_count (queued.observer_next o e) es ∙ (let c = one_more o e in let g : o.count + 1 + length es ≡ o.count + suc (length es) = omega arith in ap (λ n. n + length es) c ∙ g)
  where
    one_more : (o : ObserverPoint Item) (e : ObserverEvent Item) → (queued.observer_next o e).count ≡ o.count + 1
    one_more o (observer.SawNext k x items) = refl
    one_more o (observer.Ack k items) = refl
    one_more o (observer.Learn count) = refl

learn_pushes_none : (es : List (MutatorEvent Item)) (n : ℕ) → pushes_told (es ++ mutator.Learn n ∷ []) ≡ pushes_told es
learn_pushes_none es n = told-append es (mutator.Learn n ∷ []) ∙ (let e : pushes_told es + 0 ≡ pushes_told es = omega arith in e)

same_look : (k : ℕ) (told : QueueTold) → was_seen k (queue_met told) ≡ was_seen k told
same_look k told =
    ap (λ l. list_any (is_look_at k) l) (ones_met told (mutator.Learn (length (twos told))) (observer.Learn (length (ones told))))
    ∙ (list_any-append (is_look_at k) (ones told) (mutator.Learn (length (twos told)) ∷ []) ∙ or_none (was_seen k told))
  where
    or_none : (b : Bool) → (b || false) ≡ b
    or_none true = refl
    or_none false = refl

module _ (frames : ℕ) (states : List FastState) (current : ℕ) (told : QueueTold) (q : QueueKept) (f : Follow (state_at frames states)) where
  module _ (h : QueueFollows frames states current told q) where
    abbrev state : ℕ → FastState
    state = state_at frames states

    abbrev Order : Type 0
    Order = HasOrder queued.legal queued.next h.point h.later h.also

    -- the point that each order since the last meeting leaves
    abbrev left : QueuePoint Item
    left = record { mutator = fold queued.mutator_next h.point.mutator h.later; observer = fold queued.observer_next h.point.observer h.also }

    left_is : (g : Order) → point_after queued.legal queued.next h.point g.order ≡ left
    left_is g = queue_after h.point g.order ∙ (λ j. record { mutator = fold queued.mutator_next h.point.mutator (g.of_one j); observer = fold queued.observer_next h.point.observer (g.of_two j) })

    abbrev learnt : ℕ
    learnt = length (twos told)

    abbrev known : ℕ
    known = length (ones told)

    first_known : h.point.mutator.count + length h.later ≡ known
    first_known = let e = h.many_one in let l = length-append h.firsts h.later in let t = ap (λ (z : List (MutatorEvent Item)). length z) h.told_one in omega (arith, e, l, t)

    second_known : h.point.observer.count + length h.also ≡ learnt
    second_known = let e = h.many_two in let l = length-append h.seconds h.also in let t = ap (λ (z : List (ObserverEvent Item)). length z) h.told_two in omega (arith, e, l, t)

    -- any states of which these are the first leave numbers that fit
    fits_left : (state : ℕ → FastState) → Follow state → AreStates frames states state → Order → Fits state left (numbers (mutated q.mutator q.steps) (observed q.observer q.looks)) (mutated q.mutator q.steps).clear (observed q.observer q.looks).acked
    fits_left state f are g =
        subst (λ p. Fits state p (numbers (mutated q.mutator q.steps) (observed q.observer q.looks)) (mutated q.mutator q.steps).clear (observed q.observer q.looks).acked) (left_is g)
        (fits_after state f h.point (numbers q.mutator q.observer) q.mutator.clear q.observer.acked h.later h.also q.steps q.looks (h.fits state f are) (h.tells_steps state are) (h.tells_looks state are) g)

    may_meet : (g : Order) → queued.legal (point_after queued.legal queued.next h.point g.order) (one (mutator.Learn learnt)) × queued.legal (queued.next (point_after queued.legal queued.next h.point g.order) (one (mutator.Learn learnt))) (two (observer.Learn known))
    may_meet g = subst (λ p. queued.legal p (one (mutator.Learn learnt)) × queued.legal (queued.next p (one (mutator.Learn learnt))) (two (observer.Learn known))) (sym (left_is g)) (
      (let e = observer_count h.point.observer h.also in let s = second_known in omega (arith, e, s)),
      ((let e = mutator_count h.point.mutator h.later in let s = first_known in omega (arith, e, s)), (fits_left state f (λ k low. refl) g).due ∙ h.none_due),
    )

    met_one : ones (queue_met told) ≡ h.firsts ++ (h.later ++ mutator.Learn learnt ∷ [])
    met_one = ones_met told (mutator.Learn learnt) (observer.Learn known) ∙ (ap (λ l. l ++ mutator.Learn learnt ∷ []) h.told_one ∙ append_assoc h.firsts h.later (mutator.Learn learnt ∷ []))

    met_two : twos (queue_met told) ≡ h.seconds ++ (h.also ++ observer.Learn known ∷ [])
    met_two = twos_met told (mutator.Learn learnt) (observer.Learn known) ∙ (ap (λ l. l ++ observer.Learn known ∷ []) h.told_two ∙ append_assoc h.seconds h.also (observer.Learn known ∷ []))

    order_exact : Order ↔ HasRoundOrder q
    order_exact = queue_exact state f h.point (numbers q.mutator q.observer) q.mutator.clear q.observer.acked h.later h.also q.steps q.looks (h.fits state f (λ k low. refl)) (h.tells_steps state (λ k low. refl)) (h.tells_looks state (λ k low. refl))

    order_told : Order ↔ HasQueueHistory frames (queue_met told)
    order_told =
        subst (λ (l : List (MutatorEvent Item) × List (ObserverEvent Item)). Order ↔ HasOrder queued.legal queued.next (queued.start_of_queue (initial frames)) l.0 l.1) (λ j. (sym met_one j, sym met_two j))
        (meeting_exact queued.legal queued.next (λ p. p.mutator.count) (λ p. p.observer.count) (mutator.Learn learnt) (observer.Learn known) known learnt (queue_meeting learnt known)
        (queued.start_of_queue (initial frames)) h.point h.firsts h.later h.seconds h.also h.cut first_known second_known may_meet)

    -- the numbers have a legal order exactly if the run's queue has its history
    pub follows_exact : HasRoundOrder q ↔ HasQueueHistory frames (queue_met told)
    follows_exact = ((λ r. order_told.0 (order_exact.1 r)), (λ r. order_exact.0 (order_told.1 r)))

    -- if there is an order, what is kept follows the run after the meeting
    pub follows_meeting : HasRoundOrder q → QueueFollows frames states current (queue_met told) (met q)
    follows_meeting r =
        let g = order_exact.1 r in
        let now : Fits state h.point (numbers q.mutator q.observer) q.mutator.clear q.observer.acked = h.fits state f (λ k low. refl) in
        let between : IsBetween (numbers q.mutator q.observer) = record { clear_is = now.clear_is; due_is = λ d. ((now.due_is d).0, (λ e. let a = (now.due_is d).0 in let b = (now.due_is d).1 in let x : ⊥ = omega (arith, a, b, e) in x)) } in
        record {
          point = queued.next (queued.next left (one (mutator.Learn learnt))) (two (observer.Learn known));
          firsts = h.firsts ++ (h.later ++ mutator.Learn learnt ∷ []);
          seconds = h.seconds ++ (h.also ++ observer.Learn known ∷ []);
          later = [];
          also = [];
          told_one = met_one ∙ sym (append-nil (h.firsts ++ (h.later ++ mutator.Learn learnt ∷ [])));
          told_two = met_two ∙ sym (append-nil (h.seconds ++ (h.also ++ observer.Learn known ∷ [])));
          cut = cut_meets queued.legal queued.next (λ p. p.mutator.count) (λ p. p.observer.count) (mutator.Learn learnt) (observer.Learn known) known learnt (queue_meeting learnt known)
              (queued.start_of_queue (initial frames)) h.point h.firsts h.later h.seconds h.also h.cut first_known second_known may_meet left left_is g;
          many_one =
              (let e = mutator_count h.point.mutator h.later in let s = first_known in let l = ap (λ (z : List (MutatorEvent Item)). length z) (sym met_one ∙ ones_met told (mutator.Learn learnt) (observer.Learn known)) in
              let w = length-append (ones told) (mutator.Learn learnt ∷ []) in omega (arith, e, s, l, w));
          many_two =
              (let e = observer_count h.point.observer h.also in let s = second_known in let l = ap (λ (z : List (ObserverEvent Item)). length z) (sym met_two ∙ twos_met told (mutator.Learn learnt) (observer.Learn known)) in
              let w = length-append (twos told) (observer.Learn known ∷ []) in omega (arith, e, s, l, w));
          fits = λ state f are. fits_met state f left (numbers (mutated q.mutator q.steps) (observed q.observer q.looks)) (mutated q.mutator q.steps).clear (observed q.observer q.looks).acked learnt known (fits_left state f are g) h.none_due;
          tells_steps = λ state are. tt;
          tells_looks = λ state are. tt;
          pushed = (let e = subst (λ l. (mutated q.mutator l).pushed ≡ q.mutator.pushed + pushes_in l) r.of_one (pushed_counts r.order (numbers q.mutator q.observer) r.is_legal) in let p = h.pushed in omega (arith, e, p));
          pushes = ap pushes_told (ones_met told (mutator.Learn learnt) (observer.Learn known)) ∙ (learn_pushes_none (ones told) learnt ∙ h.pushes);
          current_is = h.current_is;
          none_due = h.none_due;
          known = h.known;
          seen =
              sym (subst (λ l. seen_after q.mutator.pushed q.mutator.clear l ≡ (mutated q.mutator l).clear) r.of_one (seen_counts r.order (numbers q.mutator q.observer) between r.is_legal))
              ∙ (h.seen ∙ ap (λ b. (length states == 0) || b) (sym (same_look (length states) told)));
          none_beyond = λ k beyond. same_look k told ∙ h.none_beyond k beyond;
        }

-- after a poll of a state that wasn't pushed neither has an order
pub lost_none : (states : ℕ) (told : QueueTold) (q : QueueKept) → QueueLost states told q → HasRoundOrder q → ⊥
lost_none states told q h r =
    none_found states r.order (numbers q.mutator q.observer) (subst (λ l. q.mutator.pushed + pushes_in l ≤ states) (sym r.of_one) h.pushed) (subst (FindsBeyond states) (sym r.of_two) h.finds) r.is_legal

pub lost_exact : (frames states : ℕ) (told : QueueTold) (q : QueueKept) → QueueLost states told q → HasRoundOrder q ↔ HasQueueHistory frames (queue_met told)
lost_exact frames states told q h = (
  λ r. absurd (lost_none states told q h r),
  λ r. absurd (none_seen states r.order (queued.start_of_queue (initial frames))
      (let few : pushes_told (ones (queue_met told)) ≤ states = (let e = ap pushes_told (ones_met told (mutator.Learn (length (twos told))) (observer.Learn (length (ones told)))) ∙ learn_pushes_none (ones told) (length (twos told)) in let p = h.pushes in omega (arith, e, p)) in
      let same : pushes_told (ones r.order) ≤ states = subst (λ l. pushes_told l ≤ states) (sym r.of_one) few in omega (arith, same))
      (subst (SeesBeyond states) (sym (r.of_two ∙ twos_met told (mutator.Learn (length (twos told))) (observer.Learn (length (ones told))))) (sees_more states (twos told) (observer.Learn (length (ones told)) ∷ []) h.sees))
      r.is_legal),
)
