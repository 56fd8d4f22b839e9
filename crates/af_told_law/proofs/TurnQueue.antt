-- What a turn of the normal mixer does at its end of the queue is told by the run, and known again after it.
use Rattle.std.proofs.Common.{◌≡◌, ◌≢◌, ℕ, ◌+◌, ◌-◌, ◌<◌, ◌≤◌, ◌==◌, ◌&&◌, ◌||◌, not, Bool, true, false, true≢false, if◌then◌else◌, map, List, [], ◌∷◌, ◌++◌, length, Option, refl, sym, ap, subst, ◌∙◌, append-nil, arith}
use Rattle.af_told_law.proofs.Common.{Busy, Clean, FastState, Item, KeepsMutator, Learnt, LegalPush, MutatorEvent, NormalKept, NormalState, Outside, Push, Pushed, QueueTold, Run, ServerState, Setup, Turn, after_edits, brought_by, eq-eqb, going, initial, is_look_at, is_pushed, items_of, kept_of, learnt, length-append, list_any, list_any-append, map-append, marked, marked_event, mutator_does, mutator_list, ne_eqb, number_seen, ones, or_false, or_true, push_list, setup_of, state_at, state_more, unwrap_or, was_seen}
use Rattle.af_model.specs.declared.states.MutatorEvent.TheVariants as mutator
use Rattle.af_told_law.specs.QueueTurned.{QueueKnown}
use Rattle.af_judge.proofs.QueueSteps.{ones_more}

-- The mutator looked and perhaps pushed: its list grew so, with these items. A look that first sees the last state acknowledged brings those of the slots that went off with it, and a push sends those of the slots that are new in its state
pub record MutatorGoes (o : Outside) (x y : NormalState) (e : Turn) : Type 0 where
  pub back : List (Option ServerState)
  pub again : List (Option ServerState)
  pub sent : List (Option ServerState)
  pub list : y.mutator.past.events ≡ x.mutator.past.events ++ mutator_list (setup_of x) (learnt o) (kept_of x) e back again sent
  pub marks_back : marked back ≡ (if e.ack && not x.mutator.past.clear then items_of x.mutator.past.before x.mutator.past.last else [])
  pub marks_again : marked again ≡ (if is_pushed e.push && not e.ack then items_of x.mutator.past.before x.mutator.past.last else [])
  pub marks_sent : is_pushed e.push ≡ true → marked sent ≡ items_of y.mutator.past.last x.mutator.past.last
  pub older : e.ack ≡ false → x.mutator.past.clear ≡ false
  pub shown : is_pushed e.push ≡ true → (y.mutator.past.before ≡ x.mutator.past.last) × (y.mutator.past.clear ≡ false)
  pub still : is_pushed e.push ≡ false → (y.mutator.past.before ≡ x.mutator.past.before) × (y.mutator.past.clear ≡ e.ack)

abbrev Events : Type 0
Events = List (MutatorEvent Item)

-- the list of a turn with its items marked
marked_push : (m : NormalKept) (push : Push) (again sent : List (Option ServerState)) → map marked_event (push_list m push again sent) ≡ push_list m push (marked again) (marked sent)
marked_push m Clean again sent = refl
marked_push m (Busy seen expected) again sent = refl
marked_push m (Pushed number) again sent = by_first (m.pushed == 0)
  where
    by_first : (b : Bool) → map marked_event ((if b then [] else mutator.SawAck m.pushed again ∷ []) ++ mutator.Push number m.draft sent ∷ []) ≡ (if b then [] else mutator.SawAck m.pushed (marked again) ∷ []) ++ mutator.Push number m.draft (marked sent) ∷ []
    by_first true = refl
    by_first false = refl

pub marked_list : (c : Setup) (k : Learnt) (m : NormalKept) (e : Turn) (back again sent : List (Option ServerState)) → map marked_event (mutator_list c k m e back again sent) ≡ mutator_list c k m e (marked back) (marked again) (marked sent)
marked_list c k m e back again sent = by_end m.ended e.ended
  where
    by_end : (b d : Bool) → map marked_event (if b then [] else mutator.SawAck (number_seen m e.ack) back ∷ (if d then [] else push_list (after_edits c k e m) e.push again sent))
        ≡ (if b then [] else mutator.SawAck (number_seen m e.ack) (marked back) ∷ (if d then [] else push_list (after_edits c k e m) e.push (marked again) (marked sent)))
    by_end true d = refl
    by_end false true = refl
    by_end false false = ap (λ (l : Events). mutator.SawAck (number_seen m e.ack) (marked back) ∷ l) (marked_push (after_edits c k e m) e.push again sent)

-- what isn't pushed doesn't matter
sent_unpushed : (m : NormalKept) (push : Push) (again sent other : List (Option Item)) → is_pushed push ≡ false → push_list m push again sent ≡ push_list m push again other
sent_unpushed m Clean again sent other h = refl
sent_unpushed m (Busy seen expected) again sent other h = refl
sent_unpushed m (Pushed number) again sent other h = absurd (true≢false h)

-- ## States

pub state_first : (frames : ℕ) (states more : List FastState) (k : ℕ) → k ≤ length states → state_at frames (states ++ more) k ≡ state_at frames states k
state_first frames states more k low = ap (λ (o : Option FastState). unwrap_or o (initial frames)) (state_more states more k low)

-- ## Looks

module _ (k : ℕ) (told : QueueTold) (es : Events) where
  seen_parts : was_seen k (mutator_does es told) ≡ (was_seen k told || list_any (is_look_at k) es)
  seen_parts = ap (list_any (is_look_at k)) (ones_more told es) ∙ list_any-append (is_look_at k) (ones told) es

-- no look of a push list sees the number k, if that is later than the last one
pub unseen_push : (m : NormalKept) (push : Push) (again sent : List (Option Item)) (k : ℕ) → LegalPush m push → m.pushed < k → list_any (is_look_at k) (push_list m push again sent) ≡ false
unseen_push m Clean again sent k legal more = refl
unseen_push m (Busy seen expected) again sent k legal more = ap (λ (b : Bool). b || false) (ne_eqb (m.pushed - 1) k (λ is. omega (arith, is, more)))
unseen_push m (Pushed number) again sent k legal more = by_first (m.pushed == 0)
  where
    by_first : (b : Bool) → list_any (is_look_at k) ((if b then [] else mutator.SawAck m.pushed again ∷ []) ++ mutator.Push number m.draft sent ∷ []) ≡ false
    by_first true = refl
    by_first false = ap (λ (b : Bool). b || false) (ne_eqb m.pushed k (λ is. omega (arith, is, more)))

-- if nothing is pushed, no look of the push list sees the last one
pub unseen_last : (m : NormalKept) (push : Push) (again sent : List (Option Item)) → LegalPush m push → is_pushed push ≡ false → list_any (is_look_at m.pushed) (push_list m push again sent) ≡ false
unseen_last m Clean again sent legal none = refl
unseen_last m (Busy seen expected) again sent legal none = ap (λ (b : Bool). b || false) (ne_eqb (m.pushed - 1) m.pushed (λ is. let some = legal.1 in omega (arith, is, some)))
unseen_last m (Pushed number) again sent legal none = absurd (true≢false none)

-- ## The turn

module _ (frames : ℕ) (run : Run) (o p : Outside) (x y : NormalState) (e : Turn) (goes : MutatorGoes o x y e) (known : QueueKnown frames run x) (keeps : KeepsMutator run x.mutator.past.events)
    (number : x.mutator.past.number ≡ length run.states) (last : x.mutator.past.last ≡ state_at frames run.states (length run.states)) (lives : x.ended ≡ false) (some : e.ack ≡ false → 0 < length run.states) where
  abbrev c : Setup
  c = setup_of x

  abbrev m : NormalKept
  m = kept_of x

  abbrev many : ℕ
  many = length run.states

  abbrev before_last : List (Option Item)
  before_last = items_of (state_at frames run.states (many - 1)) (state_at frames run.states many)

  items_are : 0 < many → items_of x.mutator.past.before x.mutator.past.last ≡ before_last
  items_are more = λ i. items_of (known.before more i) (last i)

  -- if the last state isn't known acknowledged, there is one
  some_pushed : ((many == 0) || was_seen many run.queue) ≡ false → 0 < many
  some_pushed unseen = by_zero (many == 0) refl unseen
    where
      by_zero : (b : Bool) → (many == 0) ≡ b → (b || was_seen many run.queue) ≡ false → 0 < many
      by_zero true is h = absurd (true≢false h)
      by_zero false is h = let ne : many ≢ 0 = grind arith in omega (arith, ne)

  -- what the look at the acknowledgement brings
  back_told : marked goes.back ≡ brought_by frames run.states (number_seen m e.ack) run.queue
  back_told = goes.marks_back ∙ by_clear x.mutator.past.clear ((many == 0) || was_seen many run.queue) known.clear refl
    where
      by_ack : (d : Bool) → e.ack ≡ d → (if d && true then before_last else []) ≡ (if (number_seen m d == many) && true then before_last else [])
      by_ack true is = ap (λ (q : Bool). if q && true then before_last else []) (sym (ap (λ (n : ℕ). n == many) number ∙ eq-eqb many many refl))
      by_ack false is = ap (λ (q : Bool). if q && true then before_last else []) (sym (ne_eqb (x.mutator.past.number - 1) many (λ same. let few = some is in omega (arith, number, same, few))))

      none_if : (q : Bool) (l : List (Option Item)) → (if q && false then l else []) ≡ []
      none_if true l = refl
      none_if false l = refl

      by_clear : (b d : Bool) → b ≡ d → ((many == 0) || was_seen many run.queue) ≡ d → (if e.ack && not b then items_of x.mutator.past.before x.mutator.past.last else []) ≡ (if (number_seen m e.ack == many) && not d then before_last else [])
      by_clear true true is seen = none_if e.ack _ ∙ sym (none_if (number_seen m e.ack == many) before_last)
      by_clear false false is seen = ap (λ (l : List (Option Item)). if e.ack && true then l else []) (items_are (some_pushed seen)) ∙ by_ack e.ack refl
      by_clear true false is seen = absurd (true≢false is)
      by_clear false true is seen = absurd (true≢false (sym is))

  -- what the push's own look brings
  again_told : marked goes.again ≡ (if is_pushed e.push && not e.ack then brought_by frames run.states many run.queue else [])
  again_told = goes.marks_again ∙ by_ack (is_pushed e.push) e.ack refl
    where
      by_ack : (b d : Bool) → e.ack ≡ d → (if b && not d then items_of x.mutator.past.before x.mutator.past.last else []) ≡ (if b && not d then brought_by frames run.states many run.queue else [])
      by_ack false d is = refl
      by_ack true true is = refl
      by_ack true false is =
          let unseen : ((many == 0) || was_seen many run.queue) ≡ false = sym known.clear ∙ goes.older is in
          items_are (some_pushed unseen)
          ∙ sym (ap (λ (q : Bool). if q && not ((many == 0) || was_seen many run.queue) then before_last else []) (eq-eqb many many refl) ∙ ap (λ (q : Bool). if not q then before_last else []) unseen)

  -- the list with the items that the run tells
  module _ (draft : is_pushed e.push ≡ true → y.mutator.past.last ≡ (after_edits c (learnt p) e m).draft)
      (alike : (back again sent : List (Option Item)) → mutator_list c (learnt o) m e back again sent ≡ mutator_list c (learnt p) m e back again sent) where
    abbrev told : Events
    told = mutator_list c (learnt p) m e (brought_by frames run.states (number_seen m e.ack) run.queue) (if is_pushed e.push && not e.ack then brought_by frames run.states many run.queue else [])
        (items_of (after_edits c (learnt p) e m).draft (state_at frames run.states many))

    sent_told : (back again : List (Option Item)) → mutator_list c (learnt p) m e back again (marked goes.sent) ≡ mutator_list c (learnt p) m e back again (items_of (after_edits c (learnt p) e m).draft (state_at frames run.states many))
    sent_told back again = by_push (is_pushed e.push) refl
      where
        by_push : (b : Bool) → is_pushed e.push ≡ b → mutator_list c (learnt p) m e back again (marked goes.sent) ≡ mutator_list c (learnt p) m e back again (items_of (after_edits c (learnt p) e m).draft (state_at frames run.states many))
        by_push true is = ap (λ (l : List (Option Item)). mutator_list c (learnt p) m e back again l) (goes.marks_sent is ∙ (λ i. items_of (draft is i) (last i)))
        by_push false is = ap (λ (l : Events). if m.ended then [] else mutator.SawAck (number_seen m e.ack) back ∷ going e l) (sent_unpushed (after_edits c (learnt p) e m) e.push again (marked goes.sent) (items_of (after_edits c (learnt p) e m).draft (state_at frames run.states many)) is)

    -- the mutator's list is that of the run
    pub list_told : map marked_event y.mutator.past.events ≡ ones (mutator_does told run.queue)
    list_told =
        ap (map marked_event) goes.list
        ∙ map-append marked_event x.mutator.past.events (mutator_list c (learnt o) m e goes.back goes.again goes.sent)
        ∙ ap (λ (l : Events). l ++ map marked_event (mutator_list c (learnt o) m e goes.back goes.again goes.sent)) keeps
        ∙ ap (λ (l : Events). ones run.queue ++ l) (marked_list c (learnt o) m e goes.back goes.again goes.sent
        ∙ alike (marked goes.back) (marked goes.again) (marked goes.sent)
        ∙ (λ i. mutator_list c (learnt p) m e (back_told i) (again_told i) (marked goes.sent))
        ∙ sent_told _ _)
        ∙ sym (ones_more run.queue told)

    -- ## What is known after the turn

    module _ (kept : m ≡ run.normal) (push : e.ended ≡ false → LegalPush (after_edits c (learnt p) e m) e.push) (still_end : e.ended ≡ true → (is_pushed e.push ≡ false) × (e.ack ≡ true)) (pushed_edits : (after_edits c (learnt p) e m).pushed ≡ m.pushed) (after : Run)
        (states : after.states ≡ run.states ++ (if is_pushed e.push then (after_edits c (learnt p) e m).draft ∷ [] else [])) (queue : after.queue ≡ mutator_does told run.queue) where
      abbrev came : List (Option Item)
      came = if is_pushed e.push && not e.ack then brought_by frames run.states many run.queue else []

      abbrev went : List (Option Item)
      went = items_of (after_edits c (learnt p) e m).draft (state_at frames run.states many)

      rest : Events
      rest = going e (push_list (after_edits c (learnt p) e m) e.push came went)

      told_is : told ≡ mutator.SawAck (number_seen m e.ack) (brought_by frames run.states (number_seen m e.ack) run.queue) ∷ rest
      unfolding rest
      told_is = ap (λ (b : Bool). if b then [] else mutator.SawAck (number_seen m e.ack) (brought_by frames run.states (number_seen m e.ack) run.queue)
          ∷ going e (push_list (after_edits c (learnt p) e m) e.push came went)) lives

      unseen_rest : (k : ℕ) → many < k → list_any (is_look_at k) rest ≡ false
      unfolding rest
      unseen_rest k more = by_end e.ended refl
        where
          by_end : (b : Bool) → e.ended ≡ b → list_any (is_look_at k) (if b then [] else push_list (after_edits c (learnt p) e m) e.push came went) ≡ false
          by_end true is = refl
          by_end false is = unseen_push (after_edits c (learnt p) e m) e.push came went k (push is) (omega (arith, pushed_edits, number, more))

      unseen_now : is_pushed e.push ≡ false → list_any (is_look_at many) rest ≡ false
      unfolding rest
      unseen_now none = by_end e.ended refl
        where
          by_end : (b : Bool) → e.ended ≡ b → list_any (is_look_at many) (if b then [] else push_list (after_edits c (learnt p) e m) e.push came went) ≡ false
          by_end true is = refl
          by_end false is = subst (λ (k : ℕ). list_any (is_look_at k) (push_list (after_edits c (learnt p) e m) e.push came went) ≡ false) (pushed_edits ∙ number) (unseen_last (after_edits c (learnt p) e m) e.push came went (push is) none)

      seen_after : (k : ℕ) → was_seen k after.queue ≡ (was_seen k run.queue || ((number_seen m e.ack == k) || list_any (is_look_at k) rest))
      seen_after k = ap (was_seen k) queue ∙ seen_parts k run.queue told ∙ ap (λ (l : Events). was_seen k run.queue || list_any (is_look_at k) l) told_is

      beyond_after : (k : ℕ) → many < k → was_seen k after.queue ≡ false
      beyond_after k more =
          let low : (number_seen m e.ack == k) ≡ false = ne_eqb (number_seen m e.ack) k (few e.ack) in
          seen_after k ∙ (λ i. known.beyond k more i || (low i || unseen_rest k more i))
        where
          few : (b : Bool) → number_seen m b ≡ k → ⊥
          few true is = omega (arith, number, is, more)
          few false is = omega (arith, number, is, more)

      known_by : (b : Bool) → is_pushed e.push ≡ b → QueueKnown frames after y
      known_by false none =
          let same : after.states ≡ run.states = states ∙ ap (λ (b : Bool). run.states ++ (if b then (after_edits c (learnt p) e m).draft ∷ [] else [])) none ∙ append-nil run.states in
          let still = goes.still none in
          subst (λ (l : List FastState). QueueKnown frames (record after { states = l }) y) (sym same) (record {
            clear = still.1 ∙ by_ack e.ack refl ∙ ap (λ (b : Bool). (many == 0) || b) (sym (seen_after many));
            beyond = beyond_after;
            before = (λ more. still.0 ∙ known.before more);
          })
        where
          by_ack : (b : Bool) → e.ack ≡ b → b ≡ ((many == 0) || (was_seen many run.queue || ((number_seen m b == many) || list_any (is_look_at many) rest)))
          by_ack true is =
              let hit : (x.mutator.past.number == many) ≡ true = ap (λ (n : ℕ). n == many) number ∙ eq-eqb many many refl in
              sym (ap (λ (d : Bool). (many == 0) || (was_seen many run.queue || (d || list_any (is_look_at many) rest))) hit ∙ ap (λ (d : Bool). (many == 0) || d) (or_true (was_seen many run.queue)) ∙ or_true (many == 0))
          by_ack false is =
              let missed : (x.mutator.past.number - 1 == many) ≡ false = ne_eqb (x.mutator.past.number - 1) many (λ same. let few = some is in omega (arith, number, same, few)) in
              let unseen : ((many == 0) || was_seen many run.queue) ≡ false = sym known.clear ∙ goes.older is in
              sym ((λ i. (many == 0) || (was_seen many run.queue || (missed i || unseen_now none i))) ∙ ap (λ (d : Bool). (many == 0) || d) (or_false (was_seen many run.queue)) ∙ unseen)
      known_by true pushes =
          let more : after.states ≡ run.states ++ (after_edits c (learnt p) e m).draft ∷ [] = states ∙ ap (λ (b : Bool). run.states ++ (if b then (after_edits c (learnt p) e m).draft ∷ [] else [])) pushes in
          let long : length (run.states ++ (after_edits c (learnt p) e m).draft ∷ []) ≡ many + 1 = length-append run.states ((after_edits c (learnt p) e m).draft ∷ []) in
          let shown = goes.shown pushes in
          subst (λ (l : List FastState). QueueKnown frames (record after { states = l }) y) (sym more) (record {
            clear = shown.1 ∙ sym (ap (λ (n : ℕ). (n == 0) || was_seen n after.queue) long ∙ (λ i. ne_eqb (many + 1) 0 (λ is. omega (arith, is)) i || beyond_after (many + 1) (omega arith) i));
            beyond = (λ k low. beyond_after k (omega (arith, long, low)));
            before = (λ more. shown.0 ∙ last ∙ sym (state_first frames run.states ((after_edits c (learnt p) e m).draft ∷ []) many (omega arith)) ∙ ap (state_at frames (run.states ++ (after_edits c (learnt p) e m).draft ∷ [])) (let n : many ≡ length (run.states ++ (after_edits c (learnt p) e m).draft ∷ []) - 1 = omega (arith, long) in n));
          })

      -- the queue is known again
      pub known_after : QueueKnown frames after y
      known_after = known_by (is_pushed e.push) refl
