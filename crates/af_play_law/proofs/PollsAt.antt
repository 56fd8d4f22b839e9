-- What a look of the observer finds, wherever it stands in an order of the queue.
use Rattle.std.proofs.Common.{◌≡◌, ◌≢◌, ⊎_elim, ℕ, ◌+◌, ◌≤◌, ◌==◌, if◌then◌else◌, Bool, true≢false, List, [], ◌∷◌, ◌++◌, length, Option, Some, None, IfSome, is_some, unwrap_or, refl, sym, ap, subst, ◌∙◌, arith}
use Rattle.af_play_law.proofs.Common.{Event, FastState, HasStateHistory, IsSane, Legal, MutatorEvent, MutatorPoint, ObserverEvent, QueuePoint, ServerState, Stands, point_after, cases_eq, eq-eqb, history_sane, learnt_before, legal, legal_at, mutated, mutator_next, ne_eqb, next, observed, ones, ones_append, point_of, split_at, start_of_queue, two}
use Rattle.af_model.specs.declared.states.MutatorEvent.TheVariants as mutator
use Rattle.af_model.specs.declared.states.ObserverEvent.TheVariants as observer
use Rattle.af_stateq.proofs.Exact.{after_ones, after_twos}
use Rattle.af_play_law.specs.Polls.{Items, Polled, Pushed}

abbrev pub Point : Type 0
Point = QueuePoint ServerState

abbrev pub Events : Type 0
Events = List (Event (MutatorEvent ServerState) (ObserverEvent ServerState))

-- ## An event of the observer

pub counts : (m : MutatorPoint ServerState) (e : MutatorEvent ServerState) → (mutator_next m e).count ≡ m.count + 1
counts m (mutator.Push k x items) = refl
counts m (mutator.SawAck a items) = refl
counts m (mutator.Learn c) = refl

-- the point that an order of these lists leaves
pub point_is : (first : FastState) (ms : Pushed) (os : Polled) (h : HasStateHistory first ms os) → point_after legal next (start_of_queue first) h.order ≡ point_of first ms os
point_is first ms os h = λ j. record { mutator = (after_ones (start_of_queue first) h.order ∙ ap (mutated first) h.of_one) j; observer = (after_twos (start_of_queue first) h.order ∙ ap observed h.of_two) j }

-- In an order of ms with a list in which the event b stands behind os, a front of ms stands before b. The front has all of which the observer had learnt, the two have a history, and by what they leave b is legal
pub record LooksAt (first : FastState) (ms : Pushed) (os : Polled) (b : ObserverEvent ServerState) : Type 0 where
  pub front : Pushed
  pub back : Pushed
  pub parts : ms ≡ front ++ back
  pub history : HasStateHistory first front os
  pub may : legal (point_of first front os) (two b)
  pub learnt : (c : ℕ) → Stands (observer.Learn c) os → c ≤ length front

pub looks_at : (first : FastState) (ms : Pushed) (os : Polled) (b : ObserverEvent ServerState) (rest : Polled) → HasStateHistory first ms (os ++ b ∷ rest) → LooksAt first ms os b
looks_at first ms os b rest h =
    let cut = split_at h.order os b rest h.of_two in
    let l = legal_at legal next (start_of_queue first) cut.before (two b) cut.behind (subst (Legal legal next (start_of_queue first)) cut.whole h.is_legal) in
    let history : HasStateHistory first (ones cut.before) os = record { order = cut.before; is_legal = l.0; of_one = refl; of_two = cut.first } in
    record {
      front = ones cut.before;
      back = ones cut.behind;
      parts = sym h.of_one ∙ ap ones cut.whole ∙ ones_append cut.before (two b ∷ cut.behind);
      history = history;
      may = subst (λ (p : Point). legal p (two b)) (point_is first (ones cut.before) os history) l.1;
      learnt = (λ c s. learnt_before legal next (λ (p : Point). p.mutator.count) observer.Learn (λ p e. counts p.mutator e) (λ p e. refl) (λ p n may. may.0) (start_of_queue first) cut.before c refl l.0 (subst (Stands (observer.Learn c)) (sym cut.first) s));
    }

-- ## A look

-- if a look shows a state, that is the last one, with its items, and the next one after that acknowledged
shown : (k a : ℕ) (y : FastState) (sent items : Items) (x : Option FastState) → a ≤ k → k ≤ a + 1 → x ≡ (if k == a then None else Some y) → items ≡ (if k == a then [] else sent) → IfSome x (λ z. (z ≡ y) × (items ≡ sent) × (a + 1 ≡ k))
shown k a y sent items None low level e f = tt
shown k a y sent items (Some z) low level e f = ⊎_elim
    (λ (same : k ≡ a). absurd (true≢false (ap is_some (e ∙ ap (λ (b : Bool). if b then None else Some y) (eq-eqb k a same)))))
    (λ (ne : k ≢ a). (
      ap (λ (o : Option FastState). unwrap_or o z) (e ∙ ap (λ (b : Bool). if b then None else Some y) (ne_eqb k a ne)),
      f ∙ ap (λ (b : Bool). if b then [] else sent) (ne_eqb k a ne),
      omega (arith, low, level, ne),
    ))
    (cases_eq k a)

-- Of a look behind the observer's events os: it finds the last state pushed in the front that stands before it, and if it shows one, that and the items that went with it
pub record PollsAt (first : FastState) (ms : Pushed) (os : Polled) (k : ℕ) (x : Option FastState) (items : Items) : Type 0 where
  pub at : LooksAt first ms os (observer.SawNext k x items)
  pub number : k ≡ (mutated first at.front).pushed
  pub shows : IfSome x (λ z. (z ≡ (mutated first at.front).last) × (items ≡ (mutated first at.front).items) × ((observed os).acked + 1 ≡ k))

pub polls_at : (first : FastState) (ms : Pushed) (os : Polled) (k : ℕ) (x : Option FastState) (items : Items) (rest : Polled) → HasStateHistory first ms (os ++ observer.SawNext k x items ∷ rest) → PollsAt first ms os k x items
polls_at first ms os k x items rest h =
    let at = looks_at first ms os (observer.SawNext k x items) rest h in
    let sane : IsSane (point_of first at.front os) = history_sane first at.front os at.history in
    let may = at.may in
    record {
      at = at;
      number = may.0;
      shows = shown k (observed os).acked (mutated first at.front).last (mutated first at.front).items items x (let a = sane.low in let n = may.0 in omega (arith, a, n)) (let a = sane.level in let n = may.0 in omega (arith, a, n)) may.1 may.2;
    }
