-- Words that lemmas alone speak of.
use Rattle.af_base.specs.Turn.{turn_of}
use Rattle.af_life.specs.Kept.{Outside}
use Rattle.af_model.specs.Journals.{RoundSeen}
use Rattle.af_normal.specs.LegalTurned.{IsLegal}
use Rattle.af_runs.specs.Rounds.{found_in}
use Rattle.af_runs.specs.Runs.{Run}
use Rattle.af_runs.specs.Sessions.{Session}
use Rattle.af_session.specs.Together.{SessionState}
use Rattle.af_told_law.specs.NormalLaws.{HearsFound}
use Rattle.std.specs.Prelude.{◌≡◌, ℕ, ◌<◌, true}
use Rattle.af_base.specs.declared.state.FastState.{FastState}
use Rattle.af_base.specs.Log.{slots}
use Rattle.af_model.specs.Cycles.{cycle_by}
use Rattle.af_model.specs.StateQueue.{slot_of, carries}
use Rattle.af_judge.specs.StatesKept.{SameSlots}
use Rattle.af_base.specs.declared.log.Cycle.TheVariants as cycle

-- The slot of a track whose proxy is away, in the draft x before a turn and in the state y that the turn pushes: y carries the slot only if x did, as the same, and the track in no other; and y is a mix if it carries the slot
pub record SlotStaysAway (x y : FastState) (i slot : ℕ) : Type 0 where
  pub low : (0 < slot) × (slot < slots)
  pub track : (slot_of x slot).track ≡ i
  pub before : carries y slot ≡ true → carries x slot ≡ true
  pub only : (j : ℕ) → j < slots → carries y j ≡ true → (slot_of y j).track ≡ i → j ≡ slot
  pub same : SameSlots y x
  pub mixes : carries y slot ≡ true → (done cold : ℕ) → cycle_by done cold y.command ≡ cycle.Mixed

-- Of the proxies that aren't home the report which the normal mixer loaded says what the run foresees: the entries of a state that the turn itself pushes counted by the draft before it
abbrev pub HearsForeseen : Session → Run → SessionState → SessionState → RoundSeen → Type 0
HearsForeseen s run x u round = (o : Outside) → IsLegal o x.normal u.normal → HearsFound x.normal u.normal o (found_in s run round (turn_of u.normal.entry))
