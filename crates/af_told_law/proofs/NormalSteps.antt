-- What a turn of the normal mixer leaves of its end of the queue, and where the slots of states lead after the turn.
use Rattle.std.proofs.Common.{◌≡◌, ◌≢◌, ℕ, zero, suc, ◌-◌, ◌<◌, ◌≤◌, ◌==◌, ◌&&◌, ◌||◌, inl, inr, ⊎_elim, Bool, true, false, true≢false, if◌then◌else◌, List, [], ◌∷◌, ◌++◌, length, fold, Option, refl, sym, ap, subst, ◌∙◌, append_assoc, arith}
use Rattle.af_told_law.proofs.Common.{Busy, CarriesNone, Clean, Command, FastState, IsLegal, Learnt, LegalPush, Links, MutatorEvent, MutatorPoint, NormalKept, NormalState, Outside, Push, Pushed, SawAck, ServerState, Setup, Turn, after_ack, after_edits, after_push, after_takes, after_tracks, cases_eq, code_of, draft_commanded as with_command, edited, edited_to, fold-append, going, commands_exit, kept_of, learnt, lend, let_go, must_enter, must_leave, mutated, mutator_list, mutator_next, mutator_start, number_seen, ordered, push_list, setup_of, track_at, turn_after, turn_of}
use Rattle.af_life.specs.Edits.{mutated as edits_of}
use Rattle.af_model.specs.declared.states.MutatorEvent.TheVariants.{Push as PushOf}
use Rattle.af_model.specs.declared.states.MutatorEvent.TheVariants as mutator
use Rattle.af_normal.specs.Order.{IsInOrder}
use Rattle.af_told_law.specs.Leads.{Leads, Tells}
use Rattle.af_told_law.proofs.Leads.{IsLast, turn_leads}
use Rattle.af_told_law.proofs.QueueSeen.{SawUpTo, saw_one}

abbrev Items : Type 0
Items = List (Option ServerState)

-- ## The edits push nothing

pub record SamePush (m n : NormalKept) : Type 0 where
  pub pushed : n.pushed ≡ m.pushed
  pub last : n.last ≡ m.last

same_push : (m : NormalKept) → SamePush m m
same_push m = record { pushed = refl; last = refl }

then_push : (l m n : NormalKept) → SamePush l m → SamePush m n → SamePush l n
then_push l m n a b = record { pushed = b.pushed ∙ a.pushed; last = b.last ∙ a.last }

either_push : (m : NormalKept) (b : Bool) (p q : NormalKept) → SamePush m p → SamePush m q → SamePush m (if b then p else q)
either_push m true p q a b = a
either_push m false p q a b = b

module _ (c : Setup) (k : Learnt) where
  edited_push : (i : ℕ) (m : NormalKept) → SamePush m (edited c k i m)
  unfolding edited let_go lend
  edited_push i m = either_push m (must_leave (track_at m.tracks i)) _ _ (record { pushed = refl; last = refl }) (either_push m (must_enter (track_at m.tracks i)) _ m (record { pushed = refl; last = refl }) (same_push m))

  edits_push : (n : ℕ) (m : NormalKept) → SamePush m (edited_to c k m n)
  edits_push zero m = same_push m
  edits_push (suc n) m = then_push m (edited_to c k m n) (edited c k n (edited_to c k m n)) (edits_push n m) (edited_push n (edited_to c k m n))

  ordered_push : (command : Command) (m : NormalKept) → SamePush m (ordered command m)
  unfolding ordered
  ordered_push command m = either_push m (code_of command == code_of m.draft.command) m (record m { draft = with_command command m.draft; dirty = true }) (same_push m) (record { pushed = refl; last = refl })

  mutated_push : (room : ℕ) (m : NormalKept) → SamePush m (edits_of c k room m)
  unfolding edits_of
  mutated_push room m = then_push m (edited_to c k m (length m.tracks)) _ (edits_push (length m.tracks) m) (ordered_push _ (edited_to c k m (length m.tracks)))

  acked_push : (ack : Bool) (m : NormalKept) → SamePush m (after_ack ack m)
  acked_push true m = record { pushed = refl; last = refl }
  acked_push false m = same_push m

  pub all_push : (m : NormalKept) (e : Turn) → SamePush m (after_edits c k e m)
  all_push m e = let acked = acked_push e.ack m in let edits = mutated_push e.room (after_tracks c k e (after_ack e.ack m)) in
      record { pushed = edits.pushed ∙ acked.pushed; last = edits.last ∙ acked.last }

-- ## What the list says

-- a point of the queue's mutator says what is kept
record PointTells (p : MutatorPoint ServerState) (m : NormalKept) : Type 0 where
  pushed : p.pushed ≡ m.pushed
  last : 0 < m.pushed → p.last ≡ m.last

module _ (p : MutatorPoint ServerState) (m : NormalKept) (tells : PointTells p m) (again sent : Items) where
  push_tells : (push : Push) → LegalPush m push → PointTells (fold mutator_next p (push_list m push again sent)) (after_push push m)
  push_tells Clean legal = record { pushed = tells.pushed; last = tells.last }
  push_tells (Busy seen expected) legal = record { pushed = tells.pushed; last = tells.last }
  push_tells (Pushed number) legal = by_first (m.pushed == 0)
    where
      by_first : (b : Bool) → PointTells (fold mutator_next p ((if b then [] else SawAck m.pushed again ∷ []) ++ PushOf number m.draft sent ∷ [])) (after_push (Pushed number) m)
      by_first true = record { pushed = legal.1; last = (λ some. refl) }
      by_first false = record { pushed = legal.1; last = (λ some. refl) }

module _ (links : Links) (x y : NormalState) (order : IsInOrder links x) (o : Outside) (legal : IsLegal o x y) where
  abbrev c : Setup
  c = setup_of x

  abbrev m : NormalKept
  m = kept_of x

  abbrev e : Turn
  e = turn_of y.entry

  abbrev edits : NormalKept
  edits = after_edits c (learnt o) e m

  abbrev list : List (MutatorEvent ServerState)
  list = mutator_list c (learnt o) m e legal.lists.back legal.lists.again legal.lists.sent

  ended_kept : e.ended ≡ true → turn_after c (learnt o) m e ≡ record m { ended = true }
  unfolding turn_after
  ended_kept ended = ap (λ (b : Bool). if b then record m { ended = true } else after_takes c e.mixes (after_push e.push edits)) ended

  going_kept : e.ended ≡ false → turn_after c (learnt o) m e ≡ after_takes c e.mixes (after_push e.push edits)
  unfolding turn_after
  going_kept runs = ap (λ (b : Bool). if b then record m { ended = true } else after_takes c e.mixes (after_push e.push edits)) runs

  was_running : e.ended ≡ false → m.ended ≡ false
  was_running runs = by_end m.ended refl
    where
      by_end : (b : Bool) → m.ended ≡ b → m.ended ≡ false
      by_end true is = absurd (true≢false (sym (legal.legal.ends ∙ ap (λ (b : Bool). b || (commands_exit m.last && e.ack)) is) ∙ runs))
      by_end false is = is

  -- the list of a turn that goes on
  running_list : e.ended ≡ false → list ≡ SawAck (number_seen m e.ack) legal.lists.back ∷ push_list edits e.push legal.lists.again legal.lists.sent
  running_list runs =
      ap (λ (b : Bool). if b then [] else SawAck (number_seen m e.ack) legal.lists.back ∷ going e (push_list edits e.push legal.lists.again legal.lists.sent)) (was_running runs)
      ∙ ap (λ (b : Bool). SawAck (number_seen m e.ack) legal.lists.back ∷ (if b then [] else push_list edits e.push legal.lists.again legal.lists.sent)) runs

  module _ (p : MutatorPoint ServerState) (tells : PointTells p m) where
    ended_tells : e.ended ≡ true → PointTells (fold mutator_next p list) (turn_after c (learnt o) m e)
    ended_tells ended = subst (PointTells (fold mutator_next p list)) (sym (ended_kept ended)) (by_list m.ended (ap (λ (b : Bool). if b then [] else push_list edits e.push legal.lists.again legal.lists.sent) ended))
      where
        by_list : (b : Bool) → going e (push_list edits e.push legal.lists.again legal.lists.sent) ≡ [] → PointTells (fold mutator_next p (if b then [] else SawAck (number_seen m e.ack) legal.lists.back ∷ going e (push_list edits e.push legal.lists.again legal.lists.sent))) (record m { ended = true })
        by_list true none = record { pushed = tells.pushed; last = tells.last }
        by_list false none = subst (λ (es : List (MutatorEvent ServerState)). PointTells (fold mutator_next p (SawAck (number_seen m e.ack) legal.lists.back ∷ es)) (record m { ended = true })) (sym none) (record { pushed = tells.pushed; last = tells.last })

    going_tells : e.ended ≡ false → PointTells (fold mutator_next p list) (turn_after c (learnt o) m e)
    going_tells runs =
        let same = all_push c (learnt o) m e in
        let q : MutatorPoint ServerState = mutator_next p (SawAck (number_seen m e.ack) legal.lists.back) in
        let first : PointTells q edits = record { pushed = tells.pushed ∙ sym same.pushed; last = (λ some. tells.last (subst (λ (n : ℕ). 0 < n) same.pushed some) ∙ sym same.last) } in
        let pushed = push_tells q edits first legal.lists.again legal.lists.sent e.push (legal.legal.goes_on runs).push in
        subst (λ (z : List (MutatorEvent ServerState) × NormalKept). PointTells (fold mutator_next p z.0) z.1) (λ j. (sym (running_list runs) j, sym (going_kept runs) j)) (record { pushed = pushed.pushed; last = pushed.last })

    all_tells : PointTells (fold mutator_next p list) (turn_after c (learnt o) m e)
    all_tells = by_end e.ended refl
      where
        by_end : (b : Bool) → e.ended ≡ b → PointTells (fold mutator_next p list) (turn_after c (learnt o) m e)
        by_end true ended = ended_tells ended
        by_end false runs = going_tells runs

  -- what the mutator keeps is what its list says
  pub turn_tells : Tells x.mutator.past → Tells y.mutator.past
  turn_tells t = record {
    pushed = (λ first. ap (λ (p : MutatorPoint ServerState). p.pushed) (then_list first) ∙ (all_tells (mutated first x.mutator.past.events) (point first)).pushed ∙ sym (ap (λ (n : NormalKept). n.pushed) legal.leaves));
    last = (λ some first. ap (λ (p : MutatorPoint ServerState). p.last) (then_list first)
        ∙ (all_tells (mutated first x.mutator.past.events) (point first)).last (subst (λ (n : ℕ). 0 < n) (ap (λ (n : NormalKept). n.pushed) legal.leaves) some)
        ∙ sym (ap (λ (n : NormalKept). n.last) legal.leaves));
  }
    where
      then_list : (first : FastState) → mutated first y.mutator.past.events ≡ fold mutator_next (mutated first x.mutator.past.events) list
      then_list first = ap (mutated first) legal.lists.mutator ∙ fold-append mutator_next (mutator_start first) x.mutator.past.events list

      point : (first : FastState) → PointTells (mutated first x.mutator.past.events) m
      point first = record { pushed = t.pushed first; last = (λ some. t.last some first) }

  -- ## With an observer that has polled up to some number
  module _ (state : FastState) (number : ℕ) (few : number ≤ x.mutator.past.number) (same : 0 < x.mutator.past.number → number ≡ x.mutator.past.number → state ≡ x.mutator.past.last) where
    -- if the observer has polled as many states as were pushed, it has the last of them
    pub turn_same : 0 < y.mutator.past.number → number ≡ y.mutator.past.number → state ≡ y.mutator.past.last
    turn_same some all = by_end e.ended refl
      where
        pushed : y.mutator.past.number ≡ (turn_after c (learnt o) m e).pushed
        pushed = ap (λ (n : NormalKept). n.pushed) legal.leaves

        last : y.mutator.past.last ≡ (turn_after c (learnt o) m e).last
        last = ap (λ (n : NormalKept). n.last) legal.leaves

        by_push : (push : Push) → (after_push push edits).pushed ≡ number → 0 < number → state ≡ (after_push push edits).last
        by_push Clean is more = let kept = all_push c (learnt o) m e in same (subst (λ (n : ℕ). 0 < n) (sym is ∙ kept.pushed) more) (sym is ∙ kept.pushed) ∙ sym kept.last
        by_push (Busy seen expected) is more = let kept = all_push c (learnt o) m e in same (subst (λ (n : ℕ). 0 < n) (sym is ∙ kept.pushed) more) (sym is ∙ kept.pushed) ∙ sym kept.last
        by_push (Pushed n) is more = absurd (let kept = all_push c (learnt o) m e in let p = kept.pushed in omega (arith, is, p, few))

        by_end : (b : Bool) → e.ended ≡ b → state ≡ y.mutator.past.last
        by_end true ended =
            let kept = ended_kept ended in
            let n : y.mutator.past.number ≡ x.mutator.past.number = pushed ∙ ap (λ (k : NormalKept). k.pushed) kept in
            same (subst (λ (k : ℕ). 0 < k) n some) (all ∙ n) ∙ sym (last ∙ ap (λ (k : NormalKept). k.last) kept)
        by_end false runs =
            let kept = going_kept runs in
            let n : y.mutator.past.number ≡ (after_push e.push edits).pushed = pushed ∙ ap (λ (k : NormalKept). k.pushed) kept in
            by_push e.push (sym (all ∙ n)) (subst (λ (k : ℕ). 0 < k) (sym all) some) ∙ sym (last ∙ ap (λ (k : NormalKept). k.last) kept)

    -- if the turn saw the last state acknowledged, the observer has that state, or none
    module _ (none : number ≡ 0 → CarriesNone state) (told : ℕ) (saw : SawUpTo number (y.mutator.past.events ++ mutator.Learn told ∷ [])) where
      saw_last : e.ended ≡ false → e.ack ≡ true → IsLast state m
      saw_last runs ack =
          let rest : List (MutatorEvent ServerState) = push_list edits e.push legal.lists.again legal.lists.sent in
          let whole : y.mutator.past.events ++ mutator.Learn told ∷ [] ≡ x.mutator.past.events ++ SawAck (number_seen m e.ack) legal.lists.back ∷ (rest ++ mutator.Learn told ∷ []) =
          ap (λ (es : List (MutatorEvent ServerState)). es ++ mutator.Learn told ∷ []) (legal.lists.mutator ∙ ap (λ (es : List (MutatorEvent ServerState)). x.mutator.past.events ++ es) (running_list runs))
          ∙ append_assoc x.mutator.past.events (SawAck (number_seen m e.ack) legal.lists.back ∷ rest) (mutator.Learn told ∷ []) in
          let below : number_seen m e.ack ≤ number = saw_one number x.mutator.past.events (number_seen m e.ack) legal.lists.back (rest ++ mutator.Learn told ∷ []) (subst (SawUpTo number) whole saw) in
          let seen : number_seen m e.ack ≡ x.mutator.past.number = ap (λ (b : Bool). if b then m.pushed else m.pushed - 1) ack in
          let all : number ≡ x.mutator.past.number = omega (arith, below, seen, few) in
          ⊎_elim
          (λ (zero_is : number ≡ 0). inr (none zero_is))
          (λ (some : number ≢ 0). inl (same (omega (arith, some, all)) all))
          (cases_eq number 0)

      -- the slots still lead away after the turn
      pub turned_leads : Leads state m → Leads state (kept_of y)
      turned_leads leads = subst (Leads state) (sym legal.leaves)
          (turn_leads c order.tied.sizes.scales (learnt o) state m e (let l = order.tied.sizes.settings in omega (arith, l)) order.tied.sound saw_last leads)
