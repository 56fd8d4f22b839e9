-- What is kept of the queue follows each step of a round.
use Rattle.std.specs.Prelude.{if◌then◌else◌, ◌==◌, ◌↔◌}
use Rattle.std.proofs.Common.{◌≡◌, ◌⊎◌, inl, inr, ℕ, ◌-◌, ◌≤◌, ◌||◌, Bool, true, false, List, [], ◌∷◌, ◌++◌, length, Option, refl, sym, ap, ◌∙◌, subst, arith, append-nil, length-append}
use Rattle.af_judge.proofs.Common.{EntrySeen, FastState, HasQueueHistory, Item, Learnt, MutatorEvent, NormalKept, Push, RoundSeen, Run, Session, Setup, Turn, TurnFound, after_edits, after_push, cycle_frames, draft_after, each_track, ends, going, is_pushed, items_of, learnt, leb-false, leb-true, met, mutator_does, mutator_list, nat_le, new_run, number_seen, observer_does, outside_of, poll_events, push_list, pushed_by, setup_of, state_at, turn_after, was_seen, with_calls, with_ends, with_load, with_mix, with_poll, with_turn}
use Rattle.af_base.specs.declared.state.Push.TheVariants as pushing
use Rattle.af_model.specs.declared.states.MutatorEvent.TheVariants as mutator
use Rattle.af_judge.specs.declared.queue_judge.MutatorStep.{MutatorStep}
use Rattle.af_judge.specs.declared.queue_judge.MutatorStep.TheVariants as steps
use Rattle.af_judge.specs.QueueNumbers.{HasRoundOrder, QueueKept, met as met_kept, poll_steps, push_steps, queue_begins, turn_steps, with_looks, with_steps}
use Rattle.af_judge.specs.QueueTold.{Follow}
use Rattle.af_judge.specs.SharedTold.{QueueFollows, QueueGoes}
use Rattle.af_judge.proofs.Words.{QueueLost, QueueOf}
use Rattle.af_judge.proofs.NormalKept.{goes_on_so, rests_so}
use Rattle.af_judge.proofs.QueueFollows.{follows_exact, follows_first, follows_meeting, follows_poll, follows_turn, loses_poll, lost_exact, lost_none, pushed_if, stays_lost}
use Rattle.af_judge.proofs.QueueSteps.{brought_again, brought_if, looked, push_told}
use Rattle.af_judge.proofs.TurnEdits.{turn_changes}

-- ## Before the first round

pub queue_first : (s : Session) → QueueGoes s (new_run s) queue_begins
queue_first s = follows_first (cycle_frames s)

-- ## Steps that leave the queue

pub queue_mixed : (s : Session) (e : EntrySeen) (run : Run) (q : QueueKept) → QueueOf s run q → QueueOf s (with_mix s e run) q
unfolding with_mix
queue_mixed s e run q h = h

pub goes_mixed : (s : Session) (e : EntrySeen) (run : Run) (q : QueueKept) → QueueGoes s run q → QueueGoes s (with_mix s e run) q
unfolding with_mix
goes_mixed s e run q h = h

pub goes_called : (s : Session) (round : RoundSeen) (run : Run) (q : QueueKept) → QueueGoes s run q → QueueGoes s (with_calls round run) q
unfolding with_calls
goes_called s round run q h = h

pub queue_loaded : (s : Session) (e : Turn) (run : Run) (q : QueueKept) → QueueOf s run q → QueueOf s (with_load e run) q
unfolding with_load
queue_loaded s e run q h = h

pub goes_ended : (s : Session) (run : Run) (q : QueueKept) → QueueGoes s run q → QueueGoes s (with_ends run) q
unfolding with_ends
goes_ended s run q h = by_case run.normal.ended
  where
    by_case : (ended : Bool) → QueueGoes s (if ended then each_track (λ track t. record t { client = ends t.client }) run else run) q
    by_case true = h
    by_case false = h

-- ## Polls

-- a poll that finds a state that was pushed
pub goes_polled : (s : Session) (k : ℕ) (run : Run) (q : QueueKept) → k ≤ length run.states → QueueGoes s run q → QueueGoes s (with_poll s k run) (with_looks (poll_steps run.current k) q)
unfolding with_poll
goes_polled s k run q low h =
    by_case (nat_le k (length run.states)) refl
  where
    by_case : (b : Bool) → nat_le k (length run.states) ≡ b → QueueFollows (cycle_frames s) run.states (if b then k else run.current) (observer_does (poll_events (cycle_frames s) run.states run.current k) run.queue) (with_looks (poll_steps run.current k) q)
    by_case true e = follows_poll (cycle_frames s) run.states run.current run.queue q h k low
    by_case false e = let beyond = leb-false k (length run.states) e in absurd (omega (arith, low, beyond))

-- what is kept of the queue follows any poll
pub queue_polled : (s : Session) (k : ℕ) (run : Run) (q : QueueKept) → QueueOf s run q → QueueOf s (with_poll s k run) (with_looks (poll_steps run.current k) q)
unfolding with_poll
queue_polled s k run q (inr h) = inr (stays_lost (length run.states) run.queue q (poll_events (cycle_frames s) run.states run.current k) (poll_steps run.current k) h)
queue_polled s k run q (inl h) = by_case (nat_le k (length run.states)) refl
  where
    by_case : (b : Bool) → nat_le k (length run.states) ≡ b → QueueFollows (cycle_frames s) run.states (if b then k else run.current) (observer_does (poll_events (cycle_frames s) run.states run.current k) run.queue) (with_looks (poll_steps run.current k) q)
        ⊎ QueueLost (length run.states) (observer_does (poll_events (cycle_frames s) run.states run.current k) run.queue) (with_looks (poll_steps run.current k) q)
    by_case true e = inl (follows_poll (cycle_frames s) run.states run.current run.queue q h k (leb-true k (length run.states) e))
    by_case false e = inr (loses_poll (cycle_frames s) run.states run.current run.queue q h k (leb-false k (length run.states) e))

-- ## Turns

-- a turn that ended pushes nothing
abbrev pub PushesOpen : Turn → Type 0
PushesOpen e = e.ended ≡ true → e.push ≡ pushing.Clean

push_list_is : (m : NormalKept) (last : ℕ) (push : Push) (again sent : List (Option Item)) → m.pushed ≡ last → push_list m push again sent ≡ push_told last push m.draft again sent
push_list_is m last pushing.Clean again sent is = refl
push_list_is m last (pushing.Busy x y) again sent is = ap (λ n. mutator.SawAck (n - 1) again ∷ []) is
push_list_is m last (pushing.Pushed number) again sent is = ap (λ n. (if n == 0 then [] else mutator.SawAck n again ∷ []) ++ mutator.Push number m.draft sent ∷ []) is

module _ (c : Setup) (k : Learnt) (m : NormalKept) (e : Turn) (last : ℕ) (going_on : m.ended ≡ false) (pushed : m.pushed ≡ last) (opens : PushesOpen e) where
  push_by : (again sent : List (Option Item)) (ended : Bool) → e.ended ≡ ended → (if ended then [] else push_list (after_edits c k e m) e.push again sent) ≡ push_told last e.push (after_edits c k e m).draft again sent
  push_by again sent true is = ap (λ p. push_told last p (after_edits c k e m).draft again sent) (sym (opens is))
  push_by again sent false is = push_list_is (after_edits c k e m) last e.push again sent ((turn_changes c k e m).pushed ∙ pushed)

  -- what a turn tells, by the number of states pushed before it
  pub told_by_last : (back : ℕ → List (Option Item)) (again sent : List (Option Item))
      → mutator_list c k m e (back (number_seen m e.ack)) again sent ≡ mutator.SawAck (looked last e.ack) (back (looked last e.ack)) ∷ push_told last e.push (after_edits c k e m).draft again sent
  told_by_last back again sent =
      ap (λ b. if b then [] else mutator.SawAck (number_seen m e.ack) (back (number_seen m e.ack)) ∷ going e (push_list (after_edits c k e m) e.push again sent)) going_on
      ∙ (λ j. mutator.SawAck (looked (pushed j) e.ack) (back (looked (pushed j) e.ack)) ∷ push_by again sent e.ended refl j)

  pub steps_by_last : turn_steps last e.ended e.ack e.push ≡ steps.Saw (looked last e.ack) ∷ push_steps last e.push
  steps_by_last = by_case e.ended refl
    where
      by_case : (ended : Bool) → e.ended ≡ ended → steps.Saw (looked last e.ack) ∷ (if ended then [] else push_steps last e.push) ≡ steps.Saw (looked last e.ack) ∷ push_steps last e.push
      by_case true is = ap (λ p. steps.Saw (looked last e.ack) ∷ push_steps last p) (sym (opens is))
      by_case false is = refl

-- any turn of a mixer that hadn't ended, legal or not
pub queue_turned : (s : Session) (f : TurnFound) (e : Turn) (run : Run) (q : QueueKept) → run.normal.ended ≡ false → run.normal.pushed ≡ length run.states → PushesOpen e → QueueGoes s run q
    → QueueGoes s (with_turn s f e run) (with_steps (turn_steps (length run.states) e.ended e.ack e.push) q)
unfolding with_turn
queue_turned s f e run q going_on pushed opens h =
    let c = setup_of s in
    let k = learnt (outside_of c f e) in
    let frames = cycle_frames s in
    let last = length run.states in
    let draft = (after_edits c k e run.normal).draft in
    let was = (last == 0) || was_seen last run.queue in
    let back = items_of (state_at frames run.states (last - 1)) (state_at frames run.states last) in
    let events = told_by_last c k run.normal e last going_on pushed opens (λ a. brought_if last a was back) (brought_again last e.ack e.push was back) (items_of draft (state_at frames run.states last)) in
    let here = follows_turn frames run.states run.current run.queue q h e.ack e.push draft in
    subst (λ (l : List (MutatorEvent Item) × List MutatorStep). QueueFollows frames (run.states ++ pushed_if (is_pushed e.push) draft) run.current (mutator_does l.0 run.queue) (with_steps l.1 q))
    (λ j. (sym events j, sym (steps_by_last c k run.normal e last going_on pushed opens) j)) here

-- there are as many states as the mixer pushed
push_counts : (push : Push) (m : NormalKept) (last : ℕ) (draft : FastState) (states : List FastState) → m.pushed ≡ length states → (after_push push m).pushed ≡ length (states ++ pushed_if (is_pushed push) draft)
push_counts pushing.Clean m last draft states is = is ∙ ap (λ l. length l) (sym (append-nil states))
push_counts (pushing.Busy x y) m last draft states is = is ∙ ap (λ l. length l) (sym (append-nil states))
push_counts (pushing.Pushed number) m last draft states is = (let l = length-append states (draft ∷ []) in omega (arith, is, l))

pub pushed_turned : (s : Session) (f : TurnFound) (e : Turn) (run : Run) → PushesOpen e → run.normal.pushed ≡ length run.states → (with_turn s f e run).normal.pushed ≡ length (with_turn s f e run).states
unfolding with_turn
pushed_turned s f e run opens is = by_case e.ended refl
  where
    by_case : (ended : Bool) → e.ended ≡ ended
        → (turn_after (setup_of s) (learnt (outside_of (setup_of s) f e)) run.normal e).pushed ≡ length (run.states ++ pushed_by (setup_of s) (outside_of (setup_of s) f e) run.normal e)
    by_case true ends =
        ap (λ (m : NormalKept). m.pushed) (rests_so (setup_of s) (learnt (outside_of (setup_of s) f e)) run.normal e ends)
        ∙ (is ∙ (ap (λ l. length l) (sym (append-nil run.states)) ∙ ap (λ p. length (run.states ++ pushed_if (is_pushed p) (draft_after (setup_of s) (outside_of (setup_of s) f e) run.normal e))) (sym (opens ends))))
    by_case false open_is =
        ap (λ (m : NormalKept). m.pushed) (goes_on_so (setup_of s) (learnt (outside_of (setup_of s) f e)) run.normal e open_is)
        ∙ push_counts e.push (after_edits (setup_of s) (learnt (outside_of (setup_of s) f e)) e run.normal) 0 (draft_after (setup_of s) (outside_of (setup_of s) f e) run.normal e) run.states ((turn_changes (setup_of s) (learnt (outside_of (setup_of s) f e)) e run.normal).pushed ∙ is)

-- ## Meetings

-- the judge's answer is that of the run
pub queue_judged : (s : Session) (run : Run) (q : QueueKept) → Follow (state_at (cycle_frames s) run.states) → QueueOf s run q → HasRoundOrder q ↔ HasQueueHistory (cycle_frames s) (met s run).queue
unfolding met
queue_judged s run q f (inl h) = follows_exact (cycle_frames s) run.states run.current run.queue q f h
queue_judged s run q f (inr h) = lost_exact (cycle_frames s) (length run.states) run.queue q h

-- what is kept of the queue follows the run after the meeting
pub queue_met : (s : Session) (run : Run) (q : QueueKept) → Follow (state_at (cycle_frames s) run.states) → QueueOf s run q → HasRoundOrder q → QueueGoes s (met s run) (met_kept q)
unfolding met
queue_met s run q f (inl h) r = follows_meeting (cycle_frames s) run.states run.current run.queue q f h r
queue_met s run q f (inr h) r = absurd (lost_none (length run.states) run.queue q h r)
