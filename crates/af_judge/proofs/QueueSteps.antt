-- The steps of the queue's ends and their events, joined; the look and the push of a turn, and a poll.
use Rattle.std.specs.Prelude.{◌≢◌, if◌then◌else◌, ◌==◌}
use Rattle.std.proofs.Common.{◌≡◌, inl, inr, ℕ, zero, suc, ◌+◌, ◌-◌, ◌<◌, ◌≤◌, ◌&&◌, ◌||◌, not, Bool, true, false, true≢false, List, [], ◌∷◌, ◌++◌, fold, map, Option, Some, None, refl, sym, ap, ◌∙◌, subst, arith, eq-eqb}
use Rattle.af_judge.proofs.Common.{Event, FastState, Item, Legal, MutatorEvent, ObserverEvent, Push, QueuePoint, point_after, eqb-true, is_look_at, is_pushed, items_of, list_any, ne_eqb, one, ones, or_nothing, or_right, two, twos}
use Rattle.af_base.specs.declared.state.Push.TheVariants as pushing
use Rattle.af_model.specs.declared.states.MutatorEvent.TheVariants as mutator
use Rattle.af_model.specs.declared.states.ObserverEvent.TheVariants as observer
use Rattle.af_model.specs.StateQueue as queued
use Rattle.af_judge.specs.declared.queue_judge.MutatorStep.{MutatorStep}
use Rattle.af_judge.specs.declared.queue_judge.MutatorStep.TheVariants as steps
use Rattle.af_judge.specs.declared.queue_judge.ObserverNumbers.{ObserverNumbers}
use Rattle.af_judge.specs.declared.queue_judge.ObserverStep.{ObserverStep}
use Rattle.af_judge.specs.declared.queue_judge.ObserverStep.TheVariants as looks
use Rattle.af_judge.specs.QueueNumbers.{Numbers, may_step, mutated, mutator_after, observed, observer_after, push_steps}
use Rattle.af_judge.specs.QueueTold.{TellsLooks, TellsSteps}
use Rattle.af_judge.specs.SharedTold.{pushes_in, pushes_told, seen_after}
use Rattle.af_judge.proofs.Words.{FindsBeyond, SeesBeyond}
use Rattle.af_judge.specs.TwoEnds.{ends_next}

-- ## Lists of one end

ones_map : (A B : Type 0) (xs : List A) → ones {B = B} (map one xs) ≡ xs
ones_map A B [] = refl
ones_map A B (x ∷ xs) = ap (λ l. x ∷ l) (ones_map A B xs)

twos_map : (A B : Type 0) (ys : List B) → twos {A = A} (map two ys) ≡ ys
twos_map A B [] = refl
twos_map A B (y ∷ ys) = ap (λ l. y ∷ l) (twos_map A B ys)

none_one : (A B : Type 0) (ys : List B) → ones {A = A} (map two ys) ≡ []
none_one A B [] = refl
none_one A B (y ∷ ys) = none_one A B ys

none_two : (A B : Type 0) (xs : List A) → twos {B = B} (map one xs) ≡ []
none_two A B [] = refl
none_two A B (x ∷ xs) = none_two A B xs

module _ {A B : Type 0} where
  -- the first end did these
  pub ones_more : (told : List (Event A B)) (xs : List A) → ones (told ++ map one xs) ≡ ones told ++ xs
  ones_more [] xs = ones_map A B xs
  ones_more (one a ∷ told) xs = ap (λ l. a ∷ l) (ones_more told xs)
  ones_more (two b ∷ told) xs = ones_more told xs

  pub twos_stay : (told : List (Event A B)) (xs : List A) → twos (told ++ map one xs) ≡ twos told
  twos_stay [] xs = none_two A B xs
  twos_stay (one a ∷ told) xs = twos_stay told xs
  twos_stay (two b ∷ told) xs = ap (λ l. b ∷ l) (twos_stay told xs)

  -- the second end did
  pub twos_more : (told : List (Event A B)) (ys : List B) → twos (told ++ map two ys) ≡ twos told ++ ys
  twos_more [] ys = twos_map A B ys
  twos_more (one a ∷ told) ys = twos_more told ys
  twos_more (two b ∷ told) ys = ap (λ l. b ∷ l) (twos_more told ys)

  pub ones_stay : (told : List (Event A B)) (ys : List B) → ones (told ++ map two ys) ≡ ones told
  ones_stay [] ys = none_one A B ys
  ones_stay (one a ∷ told) ys = ap (λ l. a ∷ l) (ones_stay told ys)
  ones_stay (two b ∷ told) ys = ones_stay told ys

  -- the list of the first end once both met
  pub ones_met : (told : List (Event A B)) (a : A) (b : B) → ones (told ++ one a ∷ two b ∷ []) ≡ ones told ++ a ∷ []
  ones_met [] a b = refl
  ones_met (one x ∷ told) a b = ap (λ l. x ∷ l) (ones_met told a b)
  ones_met (two x ∷ told) a b = ones_met told a b

  pub twos_met : (told : List (Event A B)) (a : A) (b : B) → twos (told ++ one a ∷ two b ∷ []) ≡ twos told ++ b ∷ []
  twos_met [] a b = refl
  twos_met (one x ∷ told) a b = twos_met told a b
  twos_met (two x ∷ told) a b = ap (λ l. x ∷ l) (twos_met told a b)

-- ## Steps joined

pub pushes-append : (ss rs : List MutatorStep) → pushes_in (ss ++ rs) ≡ pushes_in ss + pushes_in rs
pushes-append [] rs = omega arith
pushes-append (steps.Saw number ∷ ss) rs = pushes-append ss rs
pushes-append (steps.Pushed number ∷ ss) rs = let e = pushes-append ss rs in omega (arith, e)

pub told-append : (es ds : List (MutatorEvent Item)) → pushes_told (es ++ ds) ≡ pushes_told es + pushes_told ds
told-append [] ds = omega arith
told-append (mutator.Push k x items ∷ es) ds = let e = told-append es ds in omega (arith, e)
told-append (mutator.SawAck a items ∷ es) ds = told-append es ds
told-append (mutator.Learn count ∷ es) ds = told-append es ds

pub seen-append : (pushed : ℕ) (seen : Bool) (ss rs : List MutatorStep) → seen_after pushed seen (ss ++ rs) ≡ seen_after (pushed + pushes_in ss) (seen_after pushed seen ss) rs
seen-append pushed seen [] rs = ap (λ n. seen_after n seen rs) (let e : pushed ≡ pushed + 0 = omega arith in e)
seen-append pushed seen (steps.Saw number ∷ ss) rs = seen-append pushed (seen || (number == pushed)) ss rs
seen-append pushed seen (steps.Pushed number ∷ ss) rs =
    seen-append (pushed + 1) false ss rs ∙ ap (λ n. seen_after n (seen_after (pushed + 1) false ss) rs) (let e : pushed + 1 + pushes_in ss ≡ pushed + (pushes_in ss + 1) = omega arith in e)

module _ (state : ℕ → FastState) where
  pub steps_join : (pushed : ℕ) (seen : Bool) (es ds : List (MutatorEvent Item)) (ss rs : List MutatorStep) → TellsSteps state pushed seen es ss
      → TellsSteps state (pushed + pushes_in ss) (seen_after pushed seen ss) ds rs → TellsSteps state pushed seen (es ++ ds) (ss ++ rs)
  steps_join pushed seen [] ds [] rs a b = subst (λ n. TellsSteps state n seen ds rs) (let e : pushed + 0 ≡ pushed = omega arith in e) b
  steps_join pushed seen [] ds (s ∷ ss) rs a b = absurd a
  steps_join pushed seen (mutator.SawAck k items ∷ es) ds [] rs a b = absurd a
  steps_join pushed seen (mutator.SawAck k items ∷ es) ds (steps.Saw number ∷ ss) rs a b =
      (a.0, a.1, steps_join pushed (seen || (k == pushed)) es ds ss rs a.2 (subst (λ n. TellsSteps state (pushed + pushes_in ss) (seen_after pushed (seen || (n == pushed)) ss) ds rs) (sym a.0) b))
  steps_join pushed seen (mutator.SawAck k items ∷ es) ds (steps.Pushed number ∷ ss) rs a b = absurd a
  steps_join pushed seen (mutator.Push k x items ∷ es) ds [] rs a b = absurd a
  steps_join pushed seen (mutator.Push k x items ∷ es) ds (steps.Saw number ∷ ss) rs a b = absurd a
  steps_join pushed seen (mutator.Push k x items ∷ es) ds (steps.Pushed number ∷ ss) rs a b =
      (a.0, a.1, a.2, steps_join (pushed + 1) false es ds ss rs a.3 (subst (λ n. TellsSteps state n (seen_after (pushed + 1) false ss) ds rs) (let e : pushed + (pushes_in ss + 1) ≡ pushed + 1 + pushes_in ss = omega arith in e) b))
  steps_join pushed seen (mutator.Learn count ∷ es) ds [] rs a b = absurd a
  steps_join pushed seen (mutator.Learn count ∷ es) ds (s ∷ ss) rs a b = absurd a

  pub looks_join : (o : ObserverNumbers) (es ds : List (ObserverEvent Item)) (ls rs : List ObserverStep) → TellsLooks state o.acked es ls → TellsLooks state (observed o ls).acked ds rs → TellsLooks state o.acked (es ++ ds) (ls ++ rs)
  looks_join o [] ds [] rs a b = b
  looks_join o [] ds (l ∷ ls) rs a b = absurd a
  looks_join o (observer.SawNext k x items ∷ es) ds [] rs a b = absurd a
  looks_join o (observer.SawNext k x items ∷ es) ds (looks.Found number ∷ ls) rs a b = (a.0, a.1, a.2, looks_join (observer_after o (looks.Found number)) es ds ls rs a.3 b)
  looks_join o (observer.SawNext k x items ∷ es) ds (looks.Acknowledged number ∷ ls) rs a b = absurd a
  looks_join o (observer.Ack k items ∷ es) ds [] rs a b = absurd a
  looks_join o (observer.Ack k items ∷ es) ds (looks.Found number ∷ ls) rs a b = absurd a
  looks_join o (observer.Ack k items ∷ es) ds (looks.Acknowledged number ∷ ls) rs a b =
      (a.0, a.1, subst (λ n. TellsLooks state n (es ++ ds) (ls ++ rs)) (sym a.0) (looks_join (observer_after o (looks.Acknowledged number)) es ds ls rs (subst (λ n. TellsLooks state n es ls) a.0 a.2) b))
  looks_join o (observer.Learn count ∷ es) ds [] rs a b = absurd a
  looks_join o (observer.Learn count ∷ es) ds (l ∷ ls) rs a b = absurd a

-- ## What a point of the queue is by both lists

pub queue_after : (p : QueuePoint Item) (es : List (Event (MutatorEvent Item) (ObserverEvent Item)))
    → point_after queued.legal queued.next p es ≡ record { mutator = fold queued.mutator_next p.mutator (ones es); observer = fold queued.observer_next p.observer (twos es) }
queue_after p [] = refl
queue_after p (one e ∷ es) = queue_after (queued.next p (one e)) es
queue_after p (two e ∷ es) = queue_after (queued.next p (two e)) es

-- ## A poll of a state that isn't pushed

finds_right : (n : ℕ) (ls rs : List ObserverStep) → FindsBeyond n rs → FindsBeyond n (ls ++ rs)
finds_right n [] rs h = h
finds_right n (looks.Found number ∷ ls) rs h = inr (finds_right n ls rs h)
finds_right n (looks.Acknowledged number ∷ ls) rs h = finds_right n ls rs h

finds_left : (n : ℕ) (ls rs : List ObserverStep) → FindsBeyond n ls → FindsBeyond n (ls ++ rs)
finds_left n [] rs h = absurd h
finds_left n (looks.Found number ∷ ls) rs (inl h) = inl h
finds_left n (looks.Found number ∷ ls) rs (inr h) = inr (finds_left n ls rs h)
finds_left n (looks.Acknowledged number ∷ ls) rs h = finds_left n ls rs h

sees_right : (n : ℕ) (es ds : List (ObserverEvent Item)) → SeesBeyond n ds → SeesBeyond n (es ++ ds)
sees_right n [] ds h = h
sees_right n (observer.SawNext k x items ∷ es) ds h = inr (sees_right n es ds h)
sees_right n (observer.Ack k items ∷ es) ds h = sees_right n es ds h
sees_right n (observer.Learn count ∷ es) ds h = sees_right n es ds h

sees_left : (n : ℕ) (es ds : List (ObserverEvent Item)) → SeesBeyond n es → SeesBeyond n (es ++ ds)
sees_left n [] ds h = absurd h
sees_left n (observer.SawNext k x items ∷ es) ds (inl h) = inl h
sees_left n (observer.SawNext k x items ∷ es) ds (inr h) = inr (sees_left n es ds h)
sees_left n (observer.Ack k items ∷ es) ds h = sees_left n es ds h
sees_left n (observer.Learn count ∷ es) ds h = sees_left n es ds h

-- a look that finds it stays so, whatever comes later
pub finds_more : (n : ℕ) (ls rs : List ObserverStep) → FindsBeyond n ls → FindsBeyond n (ls ++ rs)
finds_more n ls rs h = finds_left n ls rs h

pub sees_more : (n : ℕ) (es ds : List (ObserverEvent Item)) → SeesBeyond n es → SeesBeyond n (es ++ ds)
sees_more n es ds h = sees_left n es ds h

-- the numbers have no legal order with it
pub none_found : (n : ℕ) (es : List (Event MutatorStep ObserverStep)) (p : Numbers) → p.first.pushed + pushes_in (ones es) ≤ n → FindsBeyond n (twos es) → Legal may_step (ends_next may_step mutator_after observer_after) p es → ⊥
none_found n [] p few h l = h
none_found n (one (steps.Saw number) ∷ es) p few h l = none_found n es (ends_next may_step mutator_after observer_after p (one (steps.Saw number))) few h l.1
none_found n (one (steps.Pushed number) ∷ es) p few h l =
    none_found n es (ends_next may_step mutator_after observer_after p (one (steps.Pushed number))) (let e = l.0.0 in omega (arith, few, e)) h l.1
none_found n (two (looks.Found number) ∷ es) p few (inl h) l = let e = l.0.0 in let x : ⊥ = omega (arith, few, h, e) in x
none_found n (two (looks.Found number) ∷ es) p few (inr h) l = none_found n es (ends_next may_step mutator_after observer_after p (two (looks.Found number))) few h l.1
none_found n (two (looks.Acknowledged number) ∷ es) p few h l = none_found n es (ends_next may_step mutator_after observer_after p (two (looks.Acknowledged number))) few h l.1

-- the events have no legal order with it
pub none_seen : (n : ℕ) (es : List (Event (MutatorEvent Item) (ObserverEvent Item))) (p : QueuePoint Item) → p.mutator.pushed + pushes_told (ones es) ≤ n → SeesBeyond n (twos es) → Legal queued.legal queued.next p es → ⊥
none_seen n [] p few h l = h
none_seen n (one (mutator.SawAck a items) ∷ es) p few h l = none_seen n es (queued.next p (one (mutator.SawAck a items))) few h l.1
none_seen n (one (mutator.Push k x items) ∷ es) p few h l = none_seen n es (queued.next p (one (mutator.Push k x items))) (let e = l.0.0 in omega (arith, few, e)) h l.1
none_seen n (one (mutator.Learn count) ∷ es) p few h l = none_seen n es (queued.next p (one (mutator.Learn count))) few h l.1
none_seen n (two (observer.SawNext k x items) ∷ es) p few (inl h) l = let e = l.0.0 in let x : ⊥ = omega (arith, few, h, e) in x
none_seen n (two (observer.SawNext k x items) ∷ es) p few (inr h) l = none_seen n es (queued.next p (two (observer.SawNext k x items))) few h l.1
none_seen n (two (observer.Ack k items) ∷ es) p few h l = none_seen n es (queued.next p (two (observer.Ack k items))) few h l.1
none_seen n (two (observer.Learn count) ∷ es) p few h l = none_seen n es (queued.next p (two (observer.Learn count))) few h l.1

-- ## A poll

-- the events of a poll, whether it finds the state adopted last or not
abbrev pub poll_by : Bool → ℕ → FastState → FastState → List (ObserverEvent Item)
poll_by same k x y = if same then observer.SawNext k None [] ∷ [] else observer.SawNext k (Some x) (items_of x y) ∷ observer.Ack k (items_of y x) ∷ []

abbrev pub poll_steps_by : Bool → ℕ → List ObserverStep
poll_steps_by same k = if same then looks.Found k ∷ [] else looks.Found k ∷ looks.Acknowledged k ∷ []

pub tells_poll : (state : ℕ → FastState) (current k : ℕ) (x y : FastState) (same : Bool) → (k == current) ≡ same → state k ≡ x → state current ≡ y → TellsLooks state current (poll_by same k x y) (poll_steps_by same k)
tells_poll state current k x y true e is has = (refl, sym (ap (λ b. if b then None else Some (state k)) e), sym (ap (λ b. if b then [] else items_of (state k) (state current)) e), tt)
tells_poll state current k x y false e is has = (
  refl,
  ap (λ z. Some z) (sym is) ∙ sym (ap (λ b. if b then None else Some (state k)) e),
  (λ j. items_of (sym is j) (sym has j)) ∙ sym (ap (λ b. if b then [] else items_of (state k) (state current)) e),
  (refl, (λ j. items_of (sym has j) (sym is j)), tt),
)

-- what it leaves of the numbers: the state is acknowledged, and nothing is due
pub polled_acked : (o : ObserverNumbers) (current k : ℕ) (same : Bool) → (k == current) ≡ same → o.acked ≡ current → (observed o (poll_steps_by same k)).acked ≡ k
polled_acked o current k true e is = is ∙ sym (eqb-true k current e)
polled_acked o current k false e is = refl

pub polled_due : (o : ObserverNumbers) (current k : ℕ) (same : Bool) → (k == current) ≡ same → o.acked ≡ current → (observed o (poll_steps_by same k)).due ≡ 0
polled_due o current k true e is = ap (λ b. if b then 0 else k) (ap (λ n. k == n) is ∙ e)
polled_due o current k false e is = refl

pub sees_poll : (n : ℕ) (es : List (ObserverEvent Item)) (k : ℕ) (x y : FastState) (same : Bool) → n < k → SeesBeyond n (es ++ poll_by same k x y)
sees_poll n es k x y true h = sees_right n es (poll_by true k x y) (inl h)
sees_poll n es k x y false h = sees_right n es (poll_by false k x y) (inl h)

pub finds_poll : (n : ℕ) (ls : List ObserverStep) (k : ℕ) (same : Bool) → n < k → FindsBeyond n (ls ++ poll_steps_by same k)
finds_poll n ls k true h = finds_right n ls (poll_steps_by true k) (inl h)
finds_poll n ls k false h = finds_right n ls (poll_steps_by false k) (inl h)

-- ## A turn

-- the number that the first look of a turn sees, after so many pushes
abbrev pub looked : ℕ → Bool → ℕ
looked last ack = if ack then last else last - 1

-- the events of a push, after so many
abbrev pub push_told : ℕ → Push → FastState → (again sent : List (Option Item)) → List (MutatorEvent Item)
push_told last pushing.Clean draft again sent = []
push_told last (pushing.Busy seen expected) draft again sent = mutator.SawAck (last - 1) again ∷ []
push_told last (pushing.Pushed number) draft again sent = (if last == 0 then [] else mutator.SawAck last again ∷ []) ++ mutator.Push number draft sent ∷ []

-- the items that a look at this number brings, by whether the last state was seen acknowledged
abbrev pub brought_if : ℕ → ℕ → Bool → List (Option Item) → List (Option Item)
brought_if last a seen back = if (a == last) && not seen then back else []

-- the items that the look before a push brings: none if the first look of the turn saw the last state
abbrev pub brought_again : ℕ → Bool → Push → Bool → List (Option Item) → List (Option Item)
brought_again last ack push seen back = if is_pushed push && not ack then brought_if last last seen back else []

not_before : (n : ℕ) → (suc n - 1 == suc n) ≡ false
not_before n = ne_eqb (suc n - 1) (suc n) (λ e. omega (arith, e))

-- a look at the state before the last one brings nothing
pub none_before : (last : ℕ) (seen more : Bool) → (last ≡ 0 → seen ≡ true) → ((last - 1 == last) && not (seen || more)) ≡ false
none_before zero seen more h = ap (λ b. (zero - 1 == zero) && not (b || more)) (h refl)
none_before (suc n) seen more h = ap (λ b. b && not (seen || more)) (not_before n)

-- the look before a push
tells_again : (last : ℕ) (ack seen : Bool) (back : List (Option Item)) → (last ≡ 0 → ⊥) → (if not ack then brought_if last last seen back else []) ≡ brought_if last last (seen || (looked last ack == last)) back
tells_again last true seen back some =
    sym (ap (λ b. if (last == last) && not b then back else []) (or_right seen (last == last) (eq-eqb last last refl)) ∙ none (last == last))
  where
    none : (b : Bool) → (if b && not true then back else []) ≡ []
    none true = refl
    none false = refl
tells_again last false seen back some = ap (λ b. brought_if last last b back) (sym (or_nothing seen (last - 1 == last) (ne_eqb (last - 1) last (λ e. some (omega (arith, e))))))

-- the push of a turn, after its first look
pub tells_push : (state : ℕ → FastState) (last : ℕ) (ack seen : Bool) (push : Push) (draft : FastState) (back sent : List (Option Item)) → (last ≡ 0 → seen ≡ true) → back ≡ items_of (state (last - 1)) (state last)
    → (is_pushed push ≡ true → (draft ≡ state (last + 1)) × (sent ≡ items_of (state (last + 1)) (state last)))
    → TellsSteps state last (seen || (looked last ack == last)) (push_told last push draft (brought_again last ack push seen back) sent) (push_steps last push)
tells_push state last ack seen pushing.Clean draft back sent first is new = tt
tells_push state last ack seen (pushing.Busy x y) draft back sent first is new =
    (refl, sym (ap (λ b. if b then items_of (state (last - 1)) (state last) else []) (none_before last seen (looked last ack == last) first)), tt)
tells_push state last ack seen (pushing.Pushed number) draft back sent first is new = by_case (last == 0) refl
  where
    by_case : (none : Bool) → (last == 0) ≡ none
        → TellsSteps state last (seen || (looked last ack == last)) ((if none then [] else mutator.SawAck last (brought_again last ack (pushing.Pushed number) seen back) ∷ []) ++ mutator.Push number draft sent ∷ []) ((if none then [] else steps.Saw last ∷ []) ++ steps.Pushed number ∷ [])
    by_case true e = (refl, (new refl).0, (new refl).1, tt)
    by_case false e = (
      refl,
      tells_again last ack seen back (λ z. let t : (last == 0) ≡ true = eq-eqb last 0 z in absurd (true≢false (sym t ∙ e))) ∙ ap (λ l. brought_if last last (seen || (looked last ack == last)) l) is,
      (refl, (new refl).0, (new refl).1, tt),
    )

-- the whole turn
pub tells_turn : (state : ℕ → FastState) (last : ℕ) (ack seen : Bool) (push : Push) (draft : FastState) (back sent : List (Option Item)) → (last ≡ 0 → seen ≡ true) → back ≡ items_of (state (last - 1)) (state last)
    → (is_pushed push ≡ true → (draft ≡ state (last + 1)) × (sent ≡ items_of (state (last + 1)) (state last)))
    → TellsSteps state last seen (mutator.SawAck (looked last ack) (brought_if last (looked last ack) seen back) ∷ push_told last push draft (brought_again last ack push seen back) sent) (steps.Saw (looked last ack) ∷ push_steps last push)
tells_turn state last ack seen push draft back sent first is new = (refl, ap (λ l. brought_if last (looked last ack) seen l) is, tells_push state last ack seen push draft back sent first is new)

-- how many states it pushes
abbrev pub one_pushed : Bool → ℕ
one_pushed pushed = if pushed then 1 else 0

pub turn_pushes : (last : ℕ) (push : Push) → pushes_in (push_steps last push) ≡ one_pushed (is_pushed push)
turn_pushes last pushing.Clean = refl
turn_pushes last (pushing.Busy x y) = refl
turn_pushes last (pushing.Pushed number) = by_case (last == 0)
  where
    by_case : (none : Bool) → pushes_in ((if none then [] else steps.Saw last ∷ []) ++ steps.Pushed number ∷ []) ≡ 1
    by_case true = refl
    by_case false = refl

pub turn_told : (last : ℕ) (push : Push) (draft : FastState) (again sent : List (Option Item)) → pushes_told (push_told last push draft again sent) ≡ one_pushed (is_pushed push)
turn_told last pushing.Clean draft again sent = refl
turn_told last (pushing.Busy x y) draft again sent = refl
turn_told last (pushing.Pushed number) draft again sent = by_case (last == 0)
  where
    by_case : (none : Bool) → pushes_told ((if none then [] else mutator.SawAck last again ∷ []) ++ mutator.Push number draft sent ∷ []) ≡ 1
    by_case true = refl
    by_case false = refl

-- the looks of a push see no number beyond the last one
pub turn_sees : (k last : ℕ) (push : Push) (draft : FastState) (again sent : List (Option Item)) → last < k → list_any (is_look_at k) (push_told last push draft again sent) ≡ false
turn_sees k last pushing.Clean draft again sent h = refl
turn_sees k last (pushing.Busy x y) draft again sent h = ap (λ b. b || false) (ne_eqb (last - 1) k (λ e. omega (arith, h, e)))
turn_sees k last (pushing.Pushed number) draft again sent h = by_case (last == 0)
  where
    by_case : (none : Bool) → list_any (is_look_at k) ((if none then [] else mutator.SawAck last again ∷ []) ++ mutator.Push number draft sent ∷ []) ≡ false
    by_case true = refl
    by_case false = ap (λ b. b || false) (ne_eqb last k (λ e. omega (arith, h, e)))

pub looked_low : (last : ℕ) (ack : Bool) → looked last ack ≤ last
looked_low last true = omega arith
looked_low last false = omega arith

-- whether the last state was seen, after a turn that pushes none, and after one that does
pub seen_still : (last : ℕ) (seen : Bool) (push : Push) (draft : FastState) (again sent : List (Option Item)) → is_pushed push ≡ false
    → seen_after last seen (push_steps last push) ≡ (seen || list_any (is_look_at last) (push_told last push draft again sent))
seen_still last seen pushing.Clean draft again sent h = sym (or_nothing seen false refl)
seen_still last seen (pushing.Busy x y) draft again sent h = ap (λ b. seen || b) (sym (or_nothing (last - 1 == last) false refl))
seen_still last seen (pushing.Pushed number) draft again sent h = absurd (true≢false h)

pub seen_pushed : (last : ℕ) (seen : Bool) (push : Push) → is_pushed push ≡ true → seen_after last seen (push_steps last push) ≡ false
seen_pushed last seen pushing.Clean h = absurd (true≢false (sym h))
seen_pushed last seen (pushing.Busy x y) h = absurd (true≢false (sym h))
seen_pushed last seen (pushing.Pushed number) h = by_case (last == 0)
  where
    by_case : (none : Bool) → seen_after last seen ((if none then [] else steps.Saw last ∷ []) ++ steps.Pushed number ∷ []) ≡ false
    by_case true = refl
    by_case false = refl

-- ## What a legal order leaves

abbrev next_number : Numbers → Event MutatorStep ObserverStep → Numbers
next_number p e = ends_next may_step mutator_after observer_after p e

-- as many states were pushed as the steps push
pub pushed_counts : (es : List (Event MutatorStep ObserverStep)) (p : Numbers) → Legal may_step next_number p es → (mutated p.first (ones es)).pushed ≡ p.first.pushed + pushes_in (ones es)
pushed_counts [] p l = (let e : p.first.pushed ≡ p.first.pushed + 0 = omega arith in e)
pushed_counts (one (steps.Saw number) ∷ es) p l = pushed_counts es (next_number p (one (steps.Saw number))) l.1
pushed_counts (one (steps.Pushed number) ∷ es) p l = pushed_counts es (next_number p (one (steps.Pushed number))) l.1 ∙ (let e = l.0.0 in let g : number + pushes_in (ones es) ≡ p.first.pushed + (pushes_in (ones es) + 1) = omega (arith, e) in g)
pushed_counts (two (looks.Found number) ∷ es) p l = pushed_counts es (next_number p (two (looks.Found number))) l.1
pushed_counts (two (looks.Acknowledged number) ∷ es) p l = pushed_counts es (next_number p (two (looks.Acknowledged number))) l.1

-- what holds of these numbers between two steps
pub record IsBetween (p : Numbers) : Type 0 where
  pub clear_is : p.first.clear ≡ true → p.second.acked ≡ p.first.pushed
  pub due_is : p.second.due ≢ 0 → (p.second.due ≡ p.first.pushed) × (p.second.due ≢ p.second.acked)

between_found : (p : Numbers) (number : ℕ) → IsBetween p → number ≡ p.first.pushed → IsBetween (next_number p (two (looks.Found number)))
between_found p number b is = record { clear_is = b.clear_is; due_is = by_case (number == p.second.acked) refl }
  where
    by_case : (same : Bool) → (number == p.second.acked) ≡ same → (if same then 0 else number) ≢ 0 → ((if same then 0 else number) ≡ p.first.pushed) × ((if same then 0 else number) ≢ p.second.acked)
    by_case true e h = absurd (h refl)
    by_case false e h = (is, (λ g. true≢false (sym (eq-eqb number p.second.acked g) ∙ e)))

seen_here : (clear : Bool) (number pushed : ℕ) → (clear ≡ true → number ≡ pushed) → (clear || (number == pushed)) ≡ (number == pushed)
seen_here true number pushed h = sym (eq-eqb number pushed (h refl))
seen_here false number pushed h = refl

-- the last state was seen acknowledged as the steps say
pub seen_counts : (es : List (Event MutatorStep ObserverStep)) (p : Numbers) → IsBetween p → Legal may_step next_number p es → seen_after p.first.pushed p.first.clear (ones es) ≡ (mutated p.first (ones es)).clear
seen_counts [] p b l = refl
seen_counts (one (steps.Saw number) ∷ es) p b l =
    ap (λ s. seen_after p.first.pushed s (ones es)) (seen_here p.first.clear number p.first.pushed (λ c. l.0 ∙ b.clear_is c))
    ∙ seen_counts es (next_number p (one (steps.Saw number))) (record { clear_is = λ c. sym l.0 ∙ eqb-true number p.first.pushed c; due_is = b.due_is }) l.1
seen_counts (one (steps.Pushed number) ∷ es) p b l =
    ap (λ n. seen_after n false (ones es)) (sym l.0.0)
    ∙ seen_counts es (next_number p (one (steps.Pushed number))) (record { clear_is = λ c. absurd (true≢false (sym c)); due_is = λ d. absurd ((b.due_is d).1 ((b.due_is d).0 ∙ sym l.0.1)) }) l.1
seen_counts (two (looks.Found number) ∷ es) p b l = seen_counts es (next_number p (two (looks.Found number))) (between_found p number b l.0.0) l.1
seen_counts (two (looks.Acknowledged number) ∷ es) p b l =
    seen_counts es (next_number p (two (looks.Acknowledged number)))
    (record { clear_is = λ c. l.0.0 ∙ (b.due_is (λ z. l.0.1 (l.0.0 ∙ z))).0; due_is = λ d. absurd (d refl) }) l.1
