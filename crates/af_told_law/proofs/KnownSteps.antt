-- What is known of the queue and of the report stays known while no turn of the normal mixer is made.
use Rattle.std.proofs.Common.{◌≡◌, ℕ, ◌-◌, ◌<◌, ◌==◌, ◌||◌, Bool, true, false, if◌then◌else◌, fold, inr, List, [], ◌∷◌, length, refl, sym, ap, subst, ◌∙◌, arith}
use Rattle.af_told_law.proofs.Common.{EntrySeen, FastState, Frame, IsNewSession, Item, NormalState, ObserverEvent, QueueTold, RoundSeen, Run, ScriptData, Session, SessionState, SharedState, calls_alone, cycle_alone, cycle_frames, is_look_at, list_any, list_any-append, met, new_run, observer_does, ones, or_false, queue_met, session_of, state_at, was_seen, with_ends, with_mix, with_poll}
use Rattle.af_model.specs.declared.states.MutatorEvent.TheVariants as mutator
use Rattle.af_judge.proofs.QueueSteps.{ones_met, ones_stay}
use Rattle.af_told_law.specs.QueueTurned.{QueueKnown, ReportMet}

abbrev Looks : QueueTold → QueueTold → Type 0
Looks told more = (k : ℕ) → was_seen k more ≡ was_seen k told

-- what is known of the queue stays known by the same states and looks
pub known_same : (frames : ℕ) (run after : Run) (m n : NormalState) → after.states ≡ run.states → Looks run.queue after.queue → n.mutator.past.clear ≡ m.mutator.past.clear → n.mutator.past.before ≡ m.mutator.past.before
    → QueueKnown frames run m → QueueKnown frames after n
known_same frames run after m n states looks clear before known = record {
  clear = clear ∙ known.clear ∙ (λ i. (length (sym states i) == 0) || was_seen (length (sym states i)) run.queue) ∙ ap (λ (b : Bool). (length after.states == 0) || b) (sym (looks (length after.states)));
  beyond = (λ k low. looks k ∙ known.beyond k (subst (λ (l : List FastState). length l < k) states low));
  before = (λ more. before ∙ known.before (subst (λ (l : List FastState). 0 < length l) states more) ∙ (λ i. state_at frames (sym states i) (length (sym states i) - 1)));
}

-- ## Looks in a list

looks_met : (told : QueueTold) → Looks told (queue_met told)
looks_met told k = ap (list_any (is_look_at k)) (ones_met told _ _) ∙ list_any-append (is_look_at k) (ones told) (mutator.Learn _ ∷ []) ∙ or_false (was_seen k told)

looks_observed : (told : QueueTold) (es : List (ObserverEvent Item)) → Looks told (observer_does es told)
looks_observed told es k = ap (list_any (is_look_at k)) (ones_stay told es)

-- ## Steps of a run

-- a step of a run leaves the states as they are, and adds no look of the mutator
pub record Quiet (run after : Run) : Type 0 where
  pub states : after.states ≡ run.states
  pub looks : Looks run.queue after.queue

pub quiet_then : (a b c : Run) → Quiet a b → Quiet b c → Quiet a c
quiet_then a b c x y = record { states = y.states ∙ x.states; looks = (λ k. y.looks k ∙ x.looks k) }

pub quiet_met : (s : Session) (run : Run) → Quiet run (met s run)
unfolding met
quiet_met s run = record { states = refl; looks = looks_met run.queue }

pub quiet_ends : (run : Run) → Quiet run (with_ends run)
unfolding with_ends
quiet_ends run = by_end run.normal.ended
  where
    by_end : (b : Bool) → Quiet run (if b then record run { tracks = (with_ends (record run { normal = record run.normal { ended = true } })).tracks } else run)
    by_end true = record { states = refl; looks = (λ k. refl) }
    by_end false = record { states = refl; looks = (λ k. refl) }

pub quiet_poll : (s : Session) (k : ℕ) (run : Run) → Quiet run (with_poll s k run)
unfolding with_poll
quiet_poll s k run = record { states = refl; looks = looks_observed run.queue _ }

pub quiet_mix : (s : Session) (e : EntrySeen) (run : Run) → Quiet run (with_mix s e run)
unfolding with_mix
quiet_mix s e run = record { states = refl; looks = (λ k. refl) }

pub quiet_cycles : (s : Session) (entries : List EntrySeen) (run : Run) → Quiet run (fold (cycle_alone s) run entries)
quiet_cycles s [] run = record { states = refl; looks = (λ k. refl) }
quiet_cycles s (e ∷ entries) run =
    let polled : Run = with_poll s e.entry.state run in
    quiet_then run (cycle_alone s run e) (fold (cycle_alone s) (cycle_alone s run e) entries)
    (quiet_then run polled (cycle_alone s run e) (quiet_poll s e.entry.state run) (quiet_then polled (met s polled) (cycle_alone s run e) (quiet_met s polled) (quiet_mix s e (met s polled))))
    (quiet_cycles s entries (cycle_alone s run e))

pub quiet_calls : (i : ℕ) (round : RoundSeen) (run : Run) → Quiet run (calls_alone i round run)
quiet_calls i round run = record { states = refl; looks = (λ k. refl) }

-- after a round the ends of the report met last
pub report_ends : (s : Session) (run : Run) → ReportMet (with_ends (met s run))
unfolding met with_ends
report_ends s run = by_end run.normal.ended
  where
    by_end : (b : Bool) → ReportMet (if b then record (met s run) { tracks = (with_ends (record (met s run) { normal = record run.normal { ended = true } })).tracks } else met s run)
    by_end true = inr (run.report, refl)
    by_end false = inr (run.report, refl)

-- ## At the start

pub known_new : (script : ScriptData) (files : List (List Frame)) (shared : SharedState) (x : SessionState) → IsNewSession script shared x → QueueKnown (cycle_frames (session_of script files)) (new_run (session_of script files)) x.normal
known_new script files shared x new = record {
  clear = new.ends.mutator.silent.1;
  beyond = (λ k low. refl);
  before = (λ more. absurd (omega arith));
}
