-- In a legal round each track that is reported drained was stopped at a count that its mixer has heard to be consumed.
use Rattle.std.proofs.Common.{◌≡◌, ℕ, ◌<◌, Bool, true, List, [], ◌∷◌, length, Option, Some, None, refl, sym, ap, ◌∙◌, subst, arith}
use Rattle.af_audit.proofs.Common.{AreLegal, DrainedIsReached, IsDrainedBy, LegalRound, LegalTurn, LegalTurnBy, LifeStep, Marks, NormalKept, RoundSeen, Run, Session, Setup, TrackKept, Turn, TurnFound, Turned, after_round, at_new, found_in, kept_after, learnt, length-map, length-replicate, most_heard, new_normal, new_run, no, outside_of, reports_drained, setup_of, spec_setting, steps_of, track_at, track_count, track_in, track_steps, turn_after}
use Rattle.af_life.specs.Kept.{new_track}
use Rattle.af_audit.proofs.MixerTurns.{mixer_after, round_normal, turn_legal}
use Rattle.af_audit.specs.Drained.{says_drained, round_steps}

-- ## The turns so far

-- what holds of every list of legal turns
abbrev pub Reaches : Type 0
Reaches = (c : Setup) (m : NormalKept) (turn : Turned) (turns : List Turned) (i consumed : ℕ) → DrainedIsReached c m turn turns i consumed

-- legal turns that led to this mixer, with the steps of the track
pub record AreTurns (s : Session) (track : ℕ) (run : Run) (steps : List LifeStep) : Type 0 where
  pub turns : List Turned
  pub legal : AreLegal (setup_of s) (new_normal (setup_of s)) turns
  pub mixer : kept_after (setup_of s) (new_normal (setup_of s)) turns ≡ run.normal
  pub made : steps_of (setup_of s) (new_normal (setup_of s)) turns track ≡ steps

pub new_turns : (s : Session) (track : ℕ) → AreTurns s track (new_run s) []
new_turns s track = record { turns = []; legal = tt; mixer = refl; made = refl }

pub track_new : (s : Session) (track : ℕ) → track < track_count s → (track < length (new_normal (setup_of s)).tracks) × (track_at (new_normal (setup_of s)).tracks track ≡ new_track)
track_new s track low = (
  (let a : length (new_normal (setup_of s)).tracks ≡ length (setup_of s).settings = length-replicate (length (setup_of s).settings) new_track in let b : length (setup_of s).settings ≡ track_count s = length-map s.script.tracks spec_setting in omega (arith, a, b, low)),
  at_new (length (setup_of s).settings) track,
)

module _ (s : Session) (marks : Marks) (run : Run) (track : ℕ) (steps : List LifeStep) (h : AreTurns s track run steps) where
  abbrev c : Setup
  c = setup_of s

  abbrev start : NormalKept
  start = new_normal c

  -- a turn that is legal by what it found
  module _ (f : TurnFound) (e : Turn) (by : LegalTurnBy c marks f run.normal e) where
    abbrev turn : Turned
    turn = (by.outside, e)

    abbrev now_steps : List LifeStep
    now_steps = track_steps c (learnt (outside_of c f e)) run.normal e track steps

    same_learnt : learnt by.outside ≡ learnt (outside_of c f e)
    same_learnt = ap learnt by.found

    same_steps : track_steps c (learnt by.outside) (kept_after c start h.turns) e track (steps_of c start h.turns track) ≡ now_steps
    same_steps = λ i. track_steps c (same_learnt i) (h.mixer i) e track (h.made i)

    now_legal : AreLegal c start (turn ∷ h.turns)
    now_legal = (subst (λ (m : NormalKept). LegalTurn c by.outside m e) (sym h.mixer) by.legal, h.legal)

    now_mixer : kept_after c start (turn ∷ h.turns) ≡ turn_after c (learnt (outside_of c f e)) run.normal e
    now_mixer = λ i. turn_after c (same_learnt i) (h.mixer i) e

    pub turn_turns : (after : Run) → after.normal ≡ turn_after c (learnt (outside_of c f e)) run.normal e → AreTurns s track after now_steps
    turn_turns after same = record { turns = turn ∷ h.turns; legal = now_legal; mixer = now_mixer ∙ sym same; made = same_steps }

    -- if the track's status says drained, the steps so far have drained it
    pub turn_drained : Reaches → track < track_count s → reports_drained (track_in e track) ≡ true → IsDrainedBy now_steps
    turn_drained reached low drained =
        let new = track_new s track low in
        subst IsDrainedBy same_steps (reached c start turn h.turns track (most_heard (steps_of c start (turn ∷ h.turns) track)) new.0 (ap (λ (t : TrackKept). t.life) new.1) now_legal (omega arith) drained)

  -- a step that leaves the mixer alone
  pub same_turns : (after : Run) → after.normal ≡ run.normal → AreTurns s track after steps
  same_turns after same = record { turns = h.turns; legal = h.legal; mixer = h.mixer ∙ sym same; made = h.made }

module _ (cut : Bool) (s : Session) (marks : Marks) (run : Run) (round : RoundSeen) (legal : LegalRound cut s marks run round) (track : ℕ) (steps : List LifeStep) (h : AreTurns s track run steps) where
  by_turn : (o : Option Turn) → round.turn ≡ o → (after_round s run round).normal ≡ mixer_after s run round o → AreTurns s track (after_round s run round) (round_steps s run round o track steps)
  by_turn None is same = same_turns s marks run track steps h (after_round s run round) same
  by_turn (Some e) is same = turn_turns s marks run track steps h (found_in s run round e) e (turn_legal cut s marks run round legal e is) (after_round s run round) same

  pub round_turns : AreTurns s track (after_round s run round) (round_steps s run round round.turn track steps)
  round_turns = by_turn round.turn refl (round_normal s run round)

  drained_by : Reaches → track < track_count s → (o : Option Turn) → round.turn ≡ o → says_drained o track ≡ true → IsDrainedBy (round_steps s run round o track steps)
  drained_by reached low None is says = no says
  drained_by reached low (Some e) is says = turn_drained s marks run track steps h (found_in s run round e) e (turn_legal cut s marks run round legal e is) reached low says

  pub round_drained : Reaches → track < track_count s → says_drained round.turn track ≡ true → IsDrainedBy (round_steps s run round round.turn track steps)
  round_drained reached low = drained_by reached low round.turn refl
