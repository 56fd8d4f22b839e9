-- What the looks of a normal mixer's turn that goes on brought, by the history of the queue after it: the items that the observer gave back last.
use Rattle.std.proofs.Common.{◌≡◌, ◌≢◌, ◌⊎◌, inl, inr, ⊎_elim, ℕ, ◌+◌, ◌-◌, ◌≤◌, ◌<◌, ◌==◌, ◌&&◌, ◌||◌, not, Bool, true, false, true≢false, if◌then◌else◌, is_some, List, [], ◌∷◌, ◌++◌, append_assoc, Option, Some, None, refl, sym, ap, subst, ◌∙◌, arith}
use Rattle.af_told_law.proofs.Common.{Busy, Clean, HasStateHistory, IsInOrder, IsLegal, MutatorEvent, MutatorPoint, NormalKept, NormalState, ObserverEvent, ObserverPoint, Outside, Polls, Push, Pushed, Pushes, ServerState, SessionState, StreamNames, Turn, after_edits, after_push, after_takes, and_parts, append_cancel_left, at, cases_eq, eq-eqb, fold-append, going, commands_exit, is_pushed, kept_of, le-ltb, learnt, lt-ltb, mutated, mutator_list, mutator_next, mutator_start, ne_eqb, not-true, number_seen, observed, observer_next, observer_start, push_list, setup_of, slots, turn_after, turn_of}
use Rattle.af_model.specs.declared.states.MutatorEvent.TheVariants as mutator
use Rattle.af_model.specs.declared.states.ObserverEvent.TheVariants as observer
use Rattle.af_told_law.proofs.Places.{StreamsGo}
use Rattle.af_told_law.specs.Tells.{is_coming, is_going, items_given, mutated_by, none_comes}
use Rattle.af_told_law.proofs.AckPlaces.{none_of, first_look}
use Rattle.af_told_law.proofs.QueueLooks.{IsSane, Looked, history_sane, looked_at, point_of}
use Rattle.af_told_law.specs.Between.{InReach}

module _ (x : SessionState) (n : NormalState) (o : Outside) (legal : IsLegal o x.normal n) (runs : (turn_of n.entry).ended ≡ false) (goes : StreamsGo o x.normal n (turn_of n.entry))
    (order : IsInOrder x.fast) (step : InReach x.normal.mutator.past x.fast.observer.past) (before : HasStateHistory x.normal.mutator.past.first x.normal.mutator.past.events x.fast.observer.past.events) (c d : ℕ)
    (later : HasStateHistory x.normal.mutator.past.first (n.mutator.past.events ++ mutator.Learn c ∷ []) (x.fast.observer.past.events ++ observer.Learn d ∷ [])) where
  abbrev e : Turn
  e = turn_of n.entry

  abbrev k : NormalKept
  k = kept_of x.normal

  abbrev m : Pushes ServerState StreamNames
  m = x.normal.mutator.past

  abbrev f : Polls ServerState StreamNames
  f = x.fast.observer.past

  abbrev t : MutatorPoint ServerState
  t = mutated_by x.normal

  abbrev edits : NormalKept
  edits = after_edits (setup_of x.normal) (learnt o) e k

  abbrev os : List (ObserverEvent ServerState)
  os = f.events ++ observer.Learn d ∷ []

  lives : x.normal.ended ≡ false
  lives = by_end x.normal.ended refl
    where
      by_end : (b : Bool) → x.normal.ended ≡ b → x.normal.ended ≡ false
      by_end true is = absurd (true≢false (sym (legal.legal.ends ∙ ap (λ (b : Bool). b || (commands_exit k.last && e.ack)) is) ∙ runs))
      by_end false is = is

  -- ## The lists

  running : (back again sent : List (Option ServerState)) → mutator_list (setup_of x.normal) (learnt o) k e back again sent ≡ mutator.SawAck (number_seen k e.ack) back ∷ push_list edits e.push again sent
  running back again sent =
      ap (λ (b : Bool). if b then [] else mutator.SawAck (number_seen k e.ack) back ∷ going e (push_list edits e.push again sent)) lives
      ∙ ap (λ (b : Bool). mutator.SawAck (number_seen k e.ack) back ∷ (if b then [] else push_list edits e.push again sent)) runs

  list_is : n.mutator.past.events ≡ m.events ++ mutator.SawAck (number_seen k e.ack) goes.back ∷ push_list edits e.push goes.again goes.sent
  list_is = goes.mutator ∙ ap (λ (es : List (MutatorEvent ServerState)). m.events ++ es) (running goes.back goes.again goes.sent)

  -- the items of the look are those of either list
  pub back_same : goes.back ≡ legal.lists.back
  back_same = (first_look (number_seen k e.ack) goes.back legal.lists.back _ _ (append_cancel_left m.events _ _
      (sym list_is ∙ legal.lists.mutator ∙ ap (λ (es : List (MutatorEvent ServerState)). m.events ++ es) (running legal.lists.back legal.lists.again legal.lists.sent)))).0

  whole : HasStateHistory m.first (m.events ++ mutator.SawAck (number_seen k e.ack) goes.back ∷ (push_list edits e.push goes.again goes.sent ++ mutator.Learn c ∷ [])) os
  whole = subst (λ (es : List (MutatorEvent ServerState)). HasStateHistory m.first es os)
      (ap (λ (es : List (MutatorEvent ServerState)). es ++ mutator.Learn c ∷ []) list_is ∙ append_assoc m.events (mutator.SawAck (number_seen k e.ack) goes.back ∷ push_list edits e.push goes.again goes.sent) (mutator.Learn c ∷ []))
      later

  polled_is : observed os ≡ observer_next (observed f.events) (observer.Learn d)
  polled_is = fold-append observer_next observer_start f.events (observer.Learn d ∷ [])

  acked_is : (observed os).acked ≡ f.number
  acked_is = ap (λ (p : ObserverPoint ServerState). p.acked) polled_is ∙ order.observer.told.acked

  given_is : (observed os).given ≡ items_given x.fast
  given_is = ap (λ (p : ObserverPoint ServerState). p.given) polled_is

  pushed_is : t.pushed ≡ m.number
  pushed_is = step.tells.pushed m.first

  pub sane : IsSane (point_of m.first m.events f.events)
  sane = history_sane m.first m.events f.events before

  -- no more than one state is on its way
  pub level : m.number ≤ f.number + 1
  level = let l = sane.level in let a = order.observer.told.acked in let p = pushed_is in omega (arith, l, a, p)

  -- ## The look

  look : Looked m.first m.events os (number_seen k e.ack) goes.back
  look = looked_at m.first m.events os (number_seen k e.ack) goes.back (push_list edits e.push goes.again goes.sent ++ mutator.Learn c ∷ []) whole

  number_is : (b : Bool) → e.ack ≡ b → number_seen k e.ack ≡ (if b then m.number else m.number - 1)
  number_is b is = ap (λ (b : Bool). if b then m.number else m.number - 1) is

  -- if the look saw the last state acknowledged, the observer has that
  pub all_polled : e.ack ≡ true → f.number ≡ m.number
  all_polled ack = let low = look.few in let few = step.few in let seen = number_is true ack in omega (arith, low, few, seen, acked_is)

  -- the items that the observer gave back came, if that wasn't seen before
  pub back_given : e.ack ≡ true → t.clear ≡ false → goes.back ≡ items_given x.fast
  back_given ack off =
      let all : number_seen k e.ack ≡ (observed os).acked = number_is true ack ∙ sym (acked_is ∙ all_polled ack) in
      let last : (number_seen k e.ack == t.pushed) ≡ true = eq-eqb (number_seen k e.ack) t.pushed (number_is true ack ∙ sym pushed_is) in
      look.brings all ∙ (λ j. if not (off j) && last j then given_is j else [])

  pub back_seen : e.ack ≡ true → t.clear ≡ true → goes.back ≡ []
  back_seen ack on =
      let all : number_seen k e.ack ≡ (observed os).acked = number_is true ack ∙ sym (acked_is ∙ all_polled ack) in
      look.brings all ∙ (λ j. if not (on j) && (number_seen k e.ack == t.pushed) then (observed os).given else [])

  older : e.ack ≡ false → number_seen k e.ack ≢ t.pushed
  older off = λ same. let some = (legal.legal.goes_on runs).ack off in let seen = number_is false off in let p = pushed_is in omega (arith, some, seen, p, same)

  -- if the look saw no acknowledgement, nothing came
  pub back_none : e.ack ≡ false → goes.back ≡ []
  back_none off = (look.none (older off)).0

  pub unseen : e.ack ≡ false → t.clear ≡ false
  unseen off = (look.none (older off)).1

  -- ## The look of the push

  kept_pushed : (turn_after (setup_of x.normal) (learnt o) k e).pushed ≡ (after_push e.push edits).pushed
  unfolding turn_after
  kept_pushed = ap (λ (b : Bool). (if b then record k { ended = true } else after_takes (setup_of x.normal) e.mixes (after_push e.push edits)).pushed) runs

  edits_pushed : is_pushed e.push ≡ true → edits.pushed ≡ m.number
  edits_pushed is =
      let now : (after_push e.push edits).pushed ≡ m.number + 1 = sym kept_pushed ∙ sym (ap (λ (l : NormalKept). l.pushed) legal.leaves) ∙ (goes.queue.shown is).0 in
      by_push e.push is now
    where
      by_push : (push : Push) → is_pushed push ≡ true → (after_push push edits).pushed ≡ m.number + 1 → edits.pushed ≡ m.number
      by_push (Pushed number) is now = omega (arith, now)
      by_push Clean is now = absurd (true≢false (sym is))
      by_push (Busy seen expected) is now = absurd (true≢false (sym is))

  abbrev looked : List (MutatorEvent ServerState)
  looked = m.events ++ mutator.SawAck (number_seen k e.ack) goes.back ∷ []

  looked_then : mutated m.first looked ≡ mutator_next t (mutator.SawAck (number_seen k e.ack) goes.back)
  looked_then = fold-append mutator_next (mutator_start m.first) m.events (mutator.SawAck (number_seen k e.ack) goes.back ∷ [])

  -- the look of the push brings what the observer gave back, if the first look didn't see that yet
  pub again_given : e.ack ≡ false → is_pushed e.push ≡ true → (f.number ≡ m.number) × (goes.again ≡ items_given x.fast)
  again_given off is = by_push e.push is whole
    where
      some : 0 < m.number
      some = (legal.legal.goes_on runs).ack off

      by_look : (rest : List (MutatorEvent ServerState)) → HasStateHistory m.first (looked ++ mutator.SawAck edits.pushed goes.again ∷ rest) os → (f.number ≡ m.number) × (goes.again ≡ items_given x.fast)
      by_look rest h =
          let second : Looked m.first looked os edits.pushed goes.again = looked_at m.first looked os edits.pushed goes.again rest h in
          let all : f.number ≡ m.number = (let low = second.few in let few = step.few in let same = edits_pushed is in omega (arith, low, few, same, acked_is)) in
          let clear : (mutated m.first looked).clear ≡ false = ap (λ (p : MutatorPoint ServerState). p.clear) looked_then ∙ ne_eqb (number_seen k e.ack) t.pushed (older off) in
          let last : (edits.pushed == (mutated m.first looked).pushed) ≡ true = eq-eqb edits.pushed (mutated m.first looked).pushed (edits_pushed is ∙ sym pushed_is ∙ sym (ap (λ (p : MutatorPoint ServerState). p.pushed) looked_then)) in
          (all, second.brings (edits_pushed is ∙ sym all ∙ sym acked_is) ∙ (λ j. if not (clear j) && last j then given_is j else []))

      by_push : (push : Push) → is_pushed push ≡ true → HasStateHistory m.first (m.events ++ mutator.SawAck (number_seen k e.ack) goes.back ∷ (push_list edits push goes.again goes.sent ++ mutator.Learn c ∷ [])) os
          → (f.number ≡ m.number) × (goes.again ≡ items_given x.fast)
      by_push Clean so h = absurd (true≢false (sym so))
      by_push (Busy seen expected) so h = absurd (true≢false (sym so))
      by_push (Pushed number) so h = by_look (mutator.Push number edits.draft goes.sent ∷ mutator.Learn c ∷ [])
          (subst (λ (es : List (MutatorEvent ServerState)). HasStateHistory m.first es os)
          (ap (λ (b : Bool). m.events ++ mutator.SawAck (number_seen k e.ack) goes.back ∷ (((if b then [] else mutator.SawAck edits.pushed goes.again ∷ []) ++ mutator.Push number edits.draft goes.sent ∷ []) ++ mutator.Learn c ∷ []))
          (ne_eqb edits.pushed 0 (λ none. let same = edits_pushed is in omega (arith, none, same, some)))
          ∙ sym (append_assoc m.events (mutator.SawAck (number_seen k e.ack) goes.back ∷ []) (mutator.SawAck edits.pushed goes.again ∷ mutator.Push number edits.draft goes.sent ∷ mutator.Learn c ∷ [])))
          h)

  -- ## What is on its way back

  -- if items are on their way back, the observer has all states, and that wasn't seen
  pub coming_parts : is_coming x.normal x.fast ≡ true → (f.number ≡ m.number) × (t.clear ≡ false)
  coming_parts coming =
      let parts = and_parts (not (is_going x.normal x.fast)) (not t.clear) coming in (
        ⊎_elim
            (λ (same : f.number ≡ m.number). same)
            (λ (other : f.number ≢ m.number). absurd (true≢false (sym (lt-ltb f.number m.number (let few = step.few in omega (arith, few, other))) ∙ not-true (is_going x.normal x.fast) parts.0)))
            (cases_eq f.number m.number),
        not-true t.clear parts.1,
      )

  pub coming_from : f.number ≡ m.number → t.clear ≡ false → is_coming x.normal x.fast ≡ true
  coming_from all off = (λ j. not (le-ltb f.number m.number (let few : m.number ≤ f.number = omega (arith, all) in few) j) && not (off j))

  -- if an item waits, or is in hand and none came for its slot, none is on its way back, once that was seen or a state was pushed
  none_again : e.ack ≡ false → is_pushed e.push ≡ true → (j : ℕ) → j < slots → (is_some (at x.normal.mutator.pending j) ≡ true) ⊎ (is_some (at x.normal.mutator.returned j) ≡ true) → at goes.again j ≡ None
  none_again off is j low either = none_of (at goes.again j) (λ p here. true≢false (sym (goes.stands.brings j low (ap is_some here)).2 ∙ goes.stands.still off j low either))

  pub waiting_none : (e.ack ≡ true) ⊎ (is_pushed e.push ≡ true) → (j : ℕ) → j < slots → is_some (at x.normal.mutator.pending j) ≡ true → none_comes x.normal x.fast j
  waiting_none either j low some coming = by_ack e.ack refl either
    where
      by_ack : (b : Bool) → e.ack ≡ b → (e.ack ≡ true) ⊎ (is_pushed e.push ≡ true) → at (items_given x.fast) j ≡ None
      by_ack true ack _ = ap (λ (is : List (Option ServerState)). at is j) (sym (back_given ack (coming_parts coming).1)) ∙ goes.stands.waits j low some
      by_ack false off (inl ack) = absurd (true≢false (sym ack ∙ off))
      by_ack false off (inr is) = ap (λ (is : List (Option ServerState)). at is j) (sym (again_given off is).1) ∙ none_again off is j low (inl some)

  pub handed_none : (e.ack ≡ true) ⊎ (is_pushed e.push ≡ true) → (j : ℕ) → j < slots → is_some (at x.normal.mutator.returned j) ≡ true → at goes.back j ≡ None → none_comes x.normal x.fast j
  handed_none either j low some none coming = by_ack e.ack refl either
    where
      by_ack : (b : Bool) → e.ack ≡ b → (e.ack ≡ true) ⊎ (is_pushed e.push ≡ true) → at (items_given x.fast) j ≡ None
      by_ack true ack _ = ap (λ (is : List (Option ServerState)). at is j) (sym (back_given ack (coming_parts coming).1)) ∙ none
      by_ack false off (inl ack) = absurd (true≢false (sym ack ∙ off))
      by_ack false off (inr is) = ap (λ (is : List (Option ServerState)). at is j) (sym (again_given off is).1) ∙ none_again off is j low (inr some)

  -- an item that came by a look was on its way back
  pub back_coming : (j : ℕ) (p : ServerState) → at goes.back j ≡ Some p → (is_coming x.normal x.fast ≡ true) × (at (items_given x.fast) j ≡ Some p)
  back_coming j p here = by_ack e.ack refl
    where
      nothing : goes.back ≡ [] → ⊥
      nothing none = true≢false (sym (ap is_some here) ∙ ap (λ (is : List (Option ServerState)). is_some (at is j)) none)

      by_clear : (b : Bool) → t.clear ≡ b → e.ack ≡ true → (is_coming x.normal x.fast ≡ true) × (at (items_given x.fast) j ≡ Some p)
      by_clear true on ack = absurd (nothing (back_seen ack on))
      by_clear false off ack = (coming_from (all_polled ack) off, ap (λ (is : List (Option ServerState)). at is j) (sym (back_given ack off)) ∙ here)

      by_ack : (b : Bool) → e.ack ≡ b → (is_coming x.normal x.fast ≡ true) × (at (items_given x.fast) j ≡ Some p)
      by_ack true ack = by_clear t.clear refl ack
      by_ack false off = absurd (nothing (back_none off))

  pub again_coming : (j : ℕ) (p : ServerState) → j < slots → at goes.again j ≡ Some p → (is_coming x.normal x.fast ≡ true) × (at (items_given x.fast) j ≡ Some p)
  again_coming j p low here =
      let b = goes.stands.brings j low (ap is_some here) in
      let g = again_given b.0 b.1 in
      (coming_from g.0 (unseen b.0), ap (λ (is : List (Option ServerState)). at is j) (sym g.1) ∙ here)
