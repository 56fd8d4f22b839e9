-- The order of the queue cut behind a push: what the observer did before it could see the pushed state stands before the push, or it is what it learnt, which may as well stand at the end.
use Rattle.std.proofs.Common.{◌≡◌, ◌≢◌, ⊎_elim, inl, inr, ℕ, ◌+◌, ◌<◌, ◌≤◌, List, [], ◌∷◌, ◌++◌, length, length-append, append-nil, append_assoc, fold, get_or, refl, sym, ap, subst, ◌∙◌, arith}
use Rattle.af_play_law.proofs.Common.{Ack, Event, FastState, HasStateHistory, IsSane, Legal, MutatorPoint, ObserverEvent, ObserverPoint, Push, SawAck, SawNext, ServerState, add_one, point_after, cases_eq, fold-append, history_sane, legal, legal_at, mutated, mutator_next, mutator_start, next, observed, observer_next, observer_start, one, ones, ones_swap, point_of, split_at, start_of_queue, swap, swap_order, two, twos, twos_swap}
use Rattle.af_model.specs.declared.states.MutatorEvent.TheVariants as mutator
use Rattle.af_model.specs.declared.states.ObserverEvent.TheVariants as observer
use Rattle.af_told_law.proofs.SharedMeets.{twos_append}
use Rattle.af_play_law.specs.Polls.{ComesBehind, Items, Polled, PollsStandBeforePush, Pushed}
use Rattle.af_play_law.proofs.PollsAt.{Events, Point, counts, looks_at, point_is}
use Rattle.af_play_law.proofs.PushesRise.{Numbered, either_cuts, no_fewer, no_fewer_then, numbered, numbered_in}
use Rattle.af_play_law.proofs.QueueGoesOn.{one_on}

abbrev tail_of : {A : Type 0} → List A → List A
tail_of [] = []
tail_of (x ∷ xs) = xs

-- ## An order cut at an event of the first party

module _ {A B : Type 0} where
  swap_twice : (es : List (Event A B)) → swap_order (swap_order es) ≡ es
  swap_twice [] = refl
  swap_twice (one a ∷ es) = ap (λ (l : List (Event A B)). one a ∷ l) (swap_twice es)
  swap_twice (two b ∷ es) = ap (λ (l : List (Event A B)). two b ∷ l) (swap_twice es)

  swap_append : (xs ys : List (Event A B)) → swap_order (xs ++ ys) ≡ swap_order xs ++ swap_order ys
  swap_append [] ys = refl
  swap_append (e ∷ xs) ys = ap (λ (l : List (Event B A)). swap e ∷ l) (swap_append xs ys)

module _ {A B : Type 0} where
  record CutOne (es : List (Event A B)) (xs : List A) (a : A) : Type 0 where
    before : List (Event A B)
    behind : List (Event A B)
    whole : es ≡ before ++ one a ∷ behind
    first : ones before ≡ xs

  cut_one : (es : List (Event A B)) (xs : List A) (a : A) (rest : List A) → ones es ≡ xs ++ a ∷ rest → CutOne es xs a
  cut_one es xs a rest is =
      let s = split_at (swap_order es) xs a rest (twos_swap es ∙ is) in
      record { before = swap_order s.before; behind = swap_order s.behind; whole = sym (swap_twice es) ∙ ap swap_order s.whole ∙ swap_append s.before (two a ∷ s.behind); first = ones_swap s.before ∙ s.first }

-- ## What an observer saw and learnt

-- no look saw a state later than n, and no meeting told of more than so many events
abbrev pub Within : ℕ → ℕ → Polled → Type 0
Within n count [] = Unit {0}
Within n count (SawNext k x items ∷ os) = (k ≤ n) × Within n count os
Within n count (Ack k items ∷ os) = Within n count os
Within n count (observer.Learn c ∷ os) = (c ≤ count) × Within n count os

within_back : (n count : ℕ) (xs ys : Polled) → Within n count (xs ++ ys) → Within n count ys
within_back n count [] ys w = w
within_back n count (SawNext k x items ∷ xs) ys w = within_back n count xs ys w.1
within_back n count (Ack k items ∷ xs) ys w = within_back n count xs ys w
within_back n count (observer.Learn c ∷ xs) ys w = within_back n count xs ys w.1

pub count_of : (m : MutatorPoint ServerState) (ms : Pushed) → (fold mutator_next m ms).count ≡ m.count + length ms
count_of m [] = omega arith
count_of m (e ∷ ms) = let now = counts m e in let rest = count_of (mutator_next m e) ms in omega (arith, now, rest)

within_in : (p : Point) (es : Events) (n count : ℕ) → Legal legal next p es → (fold mutator_next p.mutator (ones es)).pushed ≤ n → p.mutator.count + length (ones es) ≤ count → Within n count (twos es)
within_in p [] n count l few short = tt
within_in p (one e ∷ es) n count l few short = within_in (next p (one e)) es n count l.1 few (let now = counts p.mutator e in omega (arith, now, short))
within_in p (two (SawNext k x items) ∷ es) n count l few short =
    let low = no_fewer p.mutator (ones es) (numbered_in p (two (SawNext k x items) ∷ es) l) in
    ((let is = l.0.0 in omega (arith, is, low, few)), within_in (next p (two (SawNext k x items))) es n count l.1 few short)
within_in p (two (Ack k items) ∷ es) n count l few short = within_in (next p (two (Ack k items))) es n count l.1 few short
within_in p (two (observer.Learn c) ∷ es) n count l few short =
    ((let is = l.0.0 in omega (arith, is, short)), within_in (next p (two (observer.Learn c))) es n count l.1 few short)

-- in a history the looks and the meetings are within the mutator's list
pub within : (first : FastState) (ms : Pushed) (os : Polled) → HasStateHistory first ms os → Within (mutated first ms).pushed (length ms) os
within first ms os h = subst (λ (w : Pushed × Polled). Within (mutated first w.0).pushed (length w.0) w.1) (λ j. (h.of_one j, h.of_two j))
    (within_in (start_of_queue first) h.order (mutated first (ones h.order)).pushed (length (ones h.order)) h.is_legal (omega arith) (omega arith))

-- ## Behind a push

-- the observer did nothing but learn of so many events
abbrev Learns : ℕ → Polled → Type 0
Learns count [] = Unit {0}
Learns count (SawNext k x items ∷ os) = ⊥
Learns count (Ack k items ∷ os) = ⊥
Learns count (observer.Learn c ∷ os) = (c ≤ count) × Learns count os

-- behind a push of a state later than n an observer that sees no later one than n, and that owes no acknowledgement, does nothing but learn
only_learns : (p : Point) (es : Events) (w rest : Polled) (n count : ℕ) → Legal legal next p es → twos es ≡ w ++ rest → Within n count w → n < p.mutator.pushed → p.observer.due ≡ 0 → Learns count w
only_learns p es [] rest n count l is sees more owes = tt
only_learns p [] (b ∷ w) rest n count l is sees more owes = absurd (let z : 0 ≡ length (b ∷ (w ++ rest)) = ap length is in omega (arith, z))
only_learns p (one (Push k x items) ∷ es) (b ∷ w) rest n count l is sees more owes = only_learns (next p (one (Push k x items))) es (b ∷ w) rest n count l.1 is sees (let now = l.0.0 in omega (arith, now, more)) owes
only_learns p (one (SawAck a items) ∷ es) (b ∷ w) rest n count l is sees more owes = only_learns (next p (one (SawAck a items))) es (b ∷ w) rest n count l.1 is sees more owes
only_learns p (one (mutator.Learn c) ∷ es) (b ∷ w) rest n count l is sees more owes = only_learns (next p (one (mutator.Learn c))) es (b ∷ w) rest n count l.1 is sees more owes
only_learns p (two (SawNext k x items) ∷ es) (b ∷ w) rest n count l is sees more owes =
    let same : SawNext k x items ≡ b = ap (λ (l : Polled). get_or l 0 b) is in
    let s : Within n count (SawNext k x items ∷ w) = subst (λ (d : ObserverEvent ServerState). Within n count (d ∷ w)) (sym same) sees in
    absurd (let now = l.0.0 in let low = s.0 in omega (arith, now, low, more))
only_learns p (two (Ack k items) ∷ es) (b ∷ w) rest n count l is sees more owes = absurd (l.0.1 (l.0.0 ∙ owes))
only_learns p (two (observer.Learn c) ∷ es) (b ∷ w) rest n count l is sees more owes =
    let same : observer.Learn c ≡ b = ap (λ (l : Polled). get_or l 0 b) is in
    let s : Within n count (observer.Learn c ∷ w) = subst (λ (d : ObserverEvent ServerState). Within n count (d ∷ w)) (sym same) sees in
    let rest_learns : Learns count w = only_learns (next p (two (observer.Learn c))) es w rest n count l.1 (ap tail_of is) s.1 more refl in
    subst (λ (d : ObserverEvent ServerState). Learns count (d ∷ w)) same (s.0, rest_learns)

-- what was learnt of no more than all events of the mutator may be learnt at the end
learns_on : (first : FastState) (ms : Pushed) (os w : Polled) → HasStateHistory first ms os → (observed os).due ≡ 0 → Learns (length ms) w → HasStateHistory first ms (os ++ w)
learns_on first ms os [] h owes l = subst (HasStateHistory first ms) (sym (append-nil os)) h
learns_on first ms os (SawNext k x items ∷ w) h owes l = absurd l
learns_on first ms os (Ack k items ∷ w) h owes l = absurd l
learns_on first ms os (observer.Learn c ∷ w) h owes l =
    let many = count_of (mutator_start first) ms in
    let low : c ≤ (mutated first ms).count = (let a = l.0 in omega (arith, a, many)) in
    let settled : (observed (os ++ observer.Learn c ∷ [])).due ≡ 0 = ap (λ (o : ObserverPoint ServerState). o.due) (fold-append observer_next observer_start os (observer.Learn c ∷ [])) in
    subst (HasStateHistory first ms) (append_assoc os (observer.Learn c ∷ []) w)
    (learns_on first ms (os ++ observer.Learn c ∷ []) w (one_on first ms os (observer.Learn c) h (low, owes)) settled l.1)

-- an observer owes nothing if the mutator may push
none_owed : (p : Point) (k : ℕ) (y : FastState) (sent : Items) → IsSane p → legal p (one (Push k y sent)) → p.observer.due ≡ 0
none_owed p k y sent sane l = ⊎_elim
    (λ (is : p.observer.due ≡ 0). is)
    (λ (ne : p.observer.due ≢ 0). absurd (let d = sane.due ne in let a = d.0 in let b = d.1 in let all = l.1 in omega (arith, a, b, all)))
    (cases_eq p.observer.due 0)

-- ## The cut

module _ (first : FastState) (ms looks : Pushed) (k : ℕ) (y : FastState) (sent : Items) (behind : Pushed) (es ls : Polled)
    (whole : HasStateHistory first (((ms ++ looks) ++ Push k y sent ∷ []) ++ behind) (es ++ ls)) (before : HasStateHistory first ms es) (late : ComesBehind (length (ms ++ looks)) k ls) where
  abbrev xs : Pushed
  xs = ms ++ looks

  cut : CutOne whole.order xs (Push k y sent)
  cut = cut_one whole.order xs (Push k y sent) behind (whole.of_one ∙ append_assoc xs (Push k y sent ∷ []) behind)

  -- what stands before the push
  abbrev front : Polled
  front = twos cut.before

  abbrev p : Point
  p = point_after legal next (start_of_queue first) cut.before

  l : Legal legal next (start_of_queue first) cut.before × legal p (one (Push k y sent)) × Legal legal next (next p (one (Push k y sent))) cut.behind
  l = legal_at legal next (start_of_queue first) cut.before (one (Push k y sent)) cut.behind (subst (Legal legal next (start_of_queue first)) cut.whole whole.is_legal)

  abbrev until : HasStateHistory first xs front
  until = record { order = cut.before; is_legal = l.0; of_one = cut.first; of_two = refl }

  p_is : p ≡ point_of first xs front
  p_is = point_is first xs front until

  may : legal (point_of first xs front) (one (Push k y sent))
  may = subst (λ (q : Point). legal q (one (Push k y sent))) p_is l.1

  owes : p.observer.due ≡ 0
  owes = ap (λ (q : Point). q.observer.due) p_is ∙ none_owed (point_of first xs front) k y sent (history_sane first xs front until) may

  pushed : HasStateHistory first (xs ++ Push k y sent ∷ []) front
  pushed = add_one legal next (start_of_queue first) xs front (Push k y sent) until l.1

  parts : es ++ ls ≡ front ++ twos cut.behind
  parts = sym whole.of_two ∙ ap twos cut.whole ∙ twos_append cut.before (one (Push k y sent) ∷ cut.behind)

  -- all that was pushed before is earlier than k
  earlier : (xs' rest : Pushed) → xs ≡ xs' ++ rest → (mutated first xs').pushed < k
  earlier xs' rest is =
      let low = no_fewer_then first xs' rest (subst (λ (l : Pushed). Numbered 0 l) is (numbered first xs front until)) in
      let same = ap (λ (l : Pushed). (mutated first l).pushed) is in
      let now = may.0 in
      omega (arith, low, same, now)

  -- nothing that comes behind stands before the push
  not_before : (w : Polled) → front ≡ es ++ w → ls ≡ w ++ twos cut.behind → w ≡ []
  not_before [] is rest = refl
  not_before (b ∷ w) is rest =
      let at = looks_at first xs es b w (subst (HasStateHistory first xs) is until) in
      absurd (by_event b at.front at.back at.parts at.may (subst (ComesBehind (length xs) k) rest late))
    where
      by_event : (b : ObserverEvent ServerState) (f g : Pushed) → xs ≡ f ++ g → legal (point_of first f es) (two b) → ComesBehind (length xs) k (b ∷ (w ++ twos cut.behind)) → ⊥
      by_event (SawNext j x items) f g is may late = let e = earlier f g is in let n = may.0 in omega (arith, e, n, late)
      by_event (Ack j items) f g is may late = late
      by_event (observer.Learn c) f g is may late =
          let few = may.0 in let many = count_of (mutator_start first) f in let long = ap (λ (l : Pushed). length l) is in let sum = length-append f g in
          omega (arith, few, many, long, sum, late)

  -- what else was done by then is learnt at the end
  learnt_at_end : (w : Polled) → es ≡ front ++ w → twos cut.behind ≡ w ++ ls → HasStateHistory first (xs ++ Push k y sent ∷ []) es
  learnt_at_end w is rest =
      let sees : Within (mutated first ms).pushed (length ms) w = within_back (mutated first ms).pushed (length ms) front w (subst (Within (mutated first ms).pushed (length ms)) is (within first ms es before)) in
      let more : (mutated first ms).pushed < k = earlier ms looks refl in
      let learns : Learns (length ms) w = only_learns (next p (one (Push k y sent))) cut.behind w ls (mutated first ms).pushed (length ms) l.2 rest sees more owes in
      let long = length-append ms looks in let longer = length-append xs (Push k y sent ∷ []) in
      subst (HasStateHistory first (xs ++ Push k y sent ∷ [])) (sym is)
      (learns_on first (xs ++ Push k y sent ∷ []) front w pushed (ap (λ (q : Point). q.observer.due) (sym p_is) ∙ owes) (more_count (length ms) (length (xs ++ Push k y sent ∷ [])) w (omega (arith, long, longer)) learns))
    where
      more_count : (m n : ℕ) (w : Polled) → m ≤ n → Learns m w → Learns n w
      more_count m n [] low l = tt
      more_count m n (SawNext k x items ∷ w) low l = absurd l
      more_count m n (Ack k items ∷ w) low l = absurd l
      more_count m n (observer.Learn c ∷ w) low l = ((let a = l.0 in omega (arith, a, low)), more_count m n w low l.1)

  pub cut_behind : HasStateHistory first (xs ++ Push k y sent ∷ []) es
  cut_behind = elim (either_cuts es ls front (twos cut.behind) parts) as (λ _. HasStateHistory first (xs ++ Push k y sent ∷ []) es) [
    | inl c ↦ subst (HasStateHistory first (xs ++ Push k y sent ∷ [])) (c.longer ∙ ap (λ (w : Polled). es ++ w) (not_before c.between c.longer c.rest) ∙ append-nil es) pushed
    | inr c ↦ learnt_at_end c.between c.longer c.rest
  ]

pub stand_before_push : PollsStandBeforePush
stand_before_push first ms looks k y sent behind es ls whole before late = cut_behind first ms looks k y sent behind es ls whole before late
