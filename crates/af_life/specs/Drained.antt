-- When a track is reported drained, and what that promises.
use Rattle.std.specs.Prelude.{◌≡◌, ℕ, ◌≤◌, ◌<◌, ◌==◌, ◌&&◌, not, max, Bool, true, false, if◌then◌else◌, is_some, MatchBool, List, [], ◌∷◌, ◌++◌, length, Option, Some, None}
use Rattle.std.specs.Int.{bit_at}
use Rattle.af_base.specs.declared.turn.CommandLook.{CommandLook}
use Rattle.af_base.specs.Turn.{Turn, TrackSeen}
use Rattle.af_life.specs.declared.track.Known.{Known}
use Rattle.af_life.specs.declared.track.Life.{Life}
use Rattle.af_life.specs.State.{new_life, is_among}
use Rattle.af_life.specs.Commands.{by_command, starts, stoppable}
use Rattle.af_life.specs.Reports.{by_report}
use Rattle.af_life.specs.declared.kept.TrackKept.{TrackKept}
use Rattle.af_life.specs.Kept.{Setup, NormalKept, Outside, Learnt, track_at, track_in}
use Rattle.af_life.specs.Heard.{learnt, heard, ready}
use Rattle.af_life.specs.Obeys.{slot_for, shows_command, is_shut, after_look, goes_on}
use Rattle.af_life.specs.Turn.{turn_after, LegalTurn}
use Rattle.af_life.specs.TurnEvents.{tracks_at}

-- a status with the mark of a drained track was stored
abbrev pub reports_drained : TrackSeen → Bool
reports_drained turn = elim turn.status as (λ status. Bool) [ None ↦ false | Some word ↦ bit_at word 4 == 1 ]

-- ## The steps of a life

-- what makes a life another: a command, a report, or a look that finds the command block shut
pub data LifeStep : Type 0 where
  told : ℕ → ℕ → LifeStep
  heard_of : Known → LifeStep
  cut : LifeStep

abbrev pub after_step : LifeStep → Life → Life
after_step (told code argument) life = by_command code argument life
after_step (heard_of known) life = by_report known life
after_step cut life = record life { ended = true; member = false }

-- the life after these steps, the newest first
abbrev pub life_of : List LifeStep → Life
life_of [] = new_life
life_of (step ∷ steps) = after_step step (life_of steps)

-- the command is a STOP that puts the life on its way to a stop
abbrev pub stops : ℕ → Life → Bool
stops code life = (code == 4) && (not life.ended && (life.member && is_among stoppable life.state))

-- the last command that put the life on its way to a stop was a STOP at this count, and no START has changed the life since
abbrev pub StoppedAt : ℕ → List LifeStep → Type 0
StoppedAt count [] = ⊥
StoppedAt count (told code argument ∷ steps) =
    MatchBool (stops code (life_of steps)) (argument ≡ count) (MatchBool (starts code (life_of steps)) ⊥ (StoppedAt count steps))
StoppedAt count (heard_of known ∷ steps) = StoppedAt count steps
StoppedAt count (cut ∷ steps) = StoppedAt count steps

-- the greatest consumed count that was heard of
abbrev pub most_heard : List LifeStep → ℕ
most_heard [] = 0
most_heard (told code argument ∷ steps) = most_heard steps
most_heard (heard_of known ∷ steps) = max known.consumed (most_heard steps)
most_heard (cut ∷ steps) = most_heard steps

-- ## The steps of a track in some turns

-- what a turn saw, and its entry
abbrev pub Turned : Type 0
Turned = Outside × Turn

-- the steps of the looks up to one that ends them, after steps before, the newest first
abbrev pub looks_steps : Option ℕ → ℕ → List CommandLook → TrackKept → List LifeStep → List LifeStep
looks_steps given flush_seen [] s before = before
looks_steps given flush_seen (look ∷ looks) s before =
    let t = after_look given flush_seen look s in
    let steps = (if shows_command look.seen then told look.code look.argument ∷ [] else if is_shut look.seen then cut ∷ [] else []) ++ before in
    if goes_on look t then looks_steps given flush_seen looks t steps else steps

-- the steps of the track i in a turn, the newest first: its commands, and then the report
unfoldable pub track_steps : Setup → Learnt → NormalKept → Turn → ℕ → List LifeStep → List LifeStep
track_steps c k m e i before = let tracks = tracks_at c k m e i in let s = track_at tracks i in let h = heard k i s in let r = ready k i s in
    if e.ended then before else if s.life.ended then before
    else heard_of h.known ∷ (if is_some r.awaits then before else looks_steps (slot_for c tracks i) h.flush_seen (track_in e i).looks r before)

-- the mixer after some turns, the newest first
abbrev pub kept_after : Setup → NormalKept → List Turned → NormalKept
kept_after c m [] = m
kept_after c m (t ∷ turns) = turn_after c (learnt t.0) (kept_after c m turns) t.1

-- the steps of the track i in some turns
abbrev pub steps_of : Setup → NormalKept → List Turned → ℕ → List LifeStep
steps_of c m [] i = []
steps_of c m (t ∷ turns) i = track_steps c (learnt t.0) (kept_after c m turns) t.1 i (steps_of c m turns i)

-- each turn is legal where it stands
abbrev pub AreLegal : Setup → NormalKept → List Turned → Type 0
AreLegal c m [] = Unit {0}
AreLegal c m (t ∷ turns) = LegalTurn c t.0 (kept_after c m turns) t.1 × AreLegal c m turns

-- no turn has heard of more than the track's server has consumed by its end
abbrev pub HeardWithin : Setup → NormalKept → List Turned → ℕ → ℕ → Type 0
HeardWithin c m turns i consumed = most_heard (steps_of c m turns i) ≤ consumed

-- A track that the last of some legal turns reports drained: its STOP's count is one that its server has reached, and no START has changed it since
abbrev pub DrainedIsReached : Setup → NormalKept → Turned → List Turned → ℕ → ℕ → Type 0
DrainedIsReached c m turn turns i consumed =
    i < length m.tracks → (track_at m.tracks i).life ≡ new_life → AreLegal c m (turn ∷ turns) → HeardWithin c m (turn ∷ turns) i consumed
    → reports_drained (track_in turn.1 i) ≡ true
    → (count : ℕ) × StoppedAt count (steps_of c m (turn ∷ turns) i) × (count ≤ consumed)
