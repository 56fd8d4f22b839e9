-- What a judge keeps of the normal mixer.
use Rattle.std.specs.Prelude.{◌≡◌, ◌+◌, if◌then◌else◌, Bool, true, List, [], ◌∷◌, ◌++◌}
use Rattle.af_base.specs.declared.state.FastState.{FastState}
use Rattle.af_base.specs.Turn.{Turn}
use Rattle.af_life.specs.Kept.{Setup, Learnt}
use Rattle.af_life.specs.Plain.{Plain}
use Rattle.af_life.specs.Small.{IsSmall, turn_weight}
use Rattle.af_life.specs.Turn.{after_edits, turn_after}
use Rattle.af_runs.specs.Told.{is_pushed}

-- the normal mixer: what it is made of, the mixer as a plain value, the state pushed last, all states pushed, and whether it made its hands
pub record NormalJudged : Type 0 where
  pub setup : Setup
  pub plain : Plain
  pub last : FastState
  pub states : List FastState
  pub handed : Bool

-- a normal mixer's parts belong together, and its numbers are small
pub record IsJudged (j : NormalJudged) : Type 0 where
  pub setup : j.setup ≡ j.plain.setup
  pub last : j.last ≡ j.plain.kept.last
  pub small : IsSmall j.plain.turns j.plain.setup j.plain.kept

-- what a turn that went on leaves
pub record Follows (j : NormalJudged) (k : Learnt) (e : Turn) (after : NormalJudged) : Type 0 where
  pub kept : after.plain.kept ≡ turn_after j.plain.setup k j.plain.kept e
  pub setup : after.setup ≡ j.setup
  pub handed : after.handed ≡ j.handed
  pub turns : after.plain.turns ≡ j.plain.turns + turn_weight e
  pub states : after.states ≡ j.states ++ (if is_pushed e.push then (after_edits j.plain.setup k e j.plain.kept).draft ∷ [] else [])

-- what a turn that has ended leaves
pub record Ends (j after : NormalJudged) : Type 0 where
  pub kept : after.plain.kept ≡ record j.plain.kept { ended = true }
  pub setup : after.setup ≡ j.setup
  pub handed : after.handed ≡ true
  pub states : after.states ≡ j.states
