-- What the two lists of a queue say of each other: no more states were acknowledged than pushed, and no look saw more acknowledged than were.
use Rattle.std.proofs.Common.{ℕ, ◌≤◌, List, [], ◌∷◌, ◌++◌, Option, ap, subst, ◌∙◌, arith}
use Rattle.af_told_law.proofs.Common.{Event, FastState, HasStateHistory, Legal, MutatorEvent, ObserverEvent, ObserverPoint, QueuePoint, SawAck, ServerState, after_twos, legal, mutated, next, observed, one, ones, point_after, start_of_queue, two}
use Rattle.af_model.specs.declared.states.MutatorEvent.TheVariants.{Push}
use Rattle.af_model.specs.declared.states.MutatorEvent.TheVariants as mutator
use Rattle.af_told_law.proofs.QueueLooks.{IsSane, grown_after, history_sane, sane_next, sane_start}

-- no look at the acknowledgement saw a number above n
abbrev pub SawUpTo : ℕ → List (MutatorEvent ServerState) → Type 0
SawUpTo n [] = Unit {0}
SawUpTo n (Push k x items ∷ ms) = SawUpTo n ms
SawUpTo n (SawAck a items ∷ ms) = (a ≤ n) × SawUpTo n ms
SawUpTo n (mutator.Learn c ∷ ms) = SawUpTo n ms

saw_after : (p : QueuePoint ServerState) (es : List (Event (MutatorEvent ServerState) (ObserverEvent ServerState))) → IsSane p → Legal legal next p es → SawUpTo (point_after legal next p es).observer.acked (ones es)
saw_after p [] h l = tt
saw_after p (two e ∷ es) h l = saw_after (next p (two e)) es (sane_next p (two e) h l.0) l.1
saw_after p (one (Push k x items) ∷ es) h l = saw_after (next p (one (Push k x items))) es (sane_next p (one (Push k x items)) h l.0) l.1
saw_after p (one (mutator.Learn c) ∷ es) h l = saw_after (next p (one (mutator.Learn c))) es (sane_next p (one (mutator.Learn c)) h l.0) l.1
saw_after p (one (SawAck a items) ∷ es) h l =
    let q : QueuePoint ServerState = next p (one (SawAck a items)) in
    let sane = sane_next p (one (SawAck a items)) h l.0 in
    let more = (grown_after q es sane l.1).few in
    ((let b = l.0.0 in omega (arith, more, b)), saw_after q es sane l.1)

module _ (first : FastState) (ms : List (MutatorEvent ServerState)) (os : List (ObserverEvent ServerState)) (h : HasStateHistory first ms os) where
  -- no more was acknowledged than pushed
  pub few_acked : (observed os).acked ≤ (mutated first ms).pushed
  few_acked = (history_sane first ms os h).low

  -- no look saw more acknowledged than was acknowledged
  pub few_seen : SawUpTo (observed os).acked ms
  few_seen = subst (λ (x : ℕ × List (MutatorEvent ServerState)). SawUpTo x.0 x.1) (λ i. (ap (λ (o : ObserverPoint ServerState). o.acked) (after_twos (start_of_queue first) h.order ∙ ap observed h.of_two) i, h.of_one i))
      (saw_after (start_of_queue first) h.order (sane_start first) h.is_legal)

-- if no look of a list saw a number above n, this look of the list saw none above n
pub saw_one : (n : ℕ) (before : List (MutatorEvent ServerState)) (a : ℕ) (items : List (Option ServerState)) (rest : List (MutatorEvent ServerState)) → SawUpTo n (before ++ SawAck a items ∷ rest) → a ≤ n
saw_one n [] a items rest all = all.0
saw_one n (Push k x more ∷ before) a items rest all = saw_one n before a items rest all
saw_one n (SawAck b more ∷ before) a items rest all = saw_one n before a items rest all.1
saw_one n (mutator.Learn c ∷ before) a items rest all = saw_one n before a items rest all
