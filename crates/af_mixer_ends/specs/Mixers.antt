-- What contracts see of the ends of the two mixers, and what their calls come to.
use Rattle.std.specs.Prelude.{◌≡◌, ◌≢◌, ◌⊎◌, ℕ, ◌+◌, ◌<◌, ◌≤◌, Bool, true, false, List, length, Result, Ok, Err}
use Rattle.af_base.specs.declared.frame.Frame.{Frame}
use Rattle.af_base.specs.declared.log.Cycle.{Cycle}
use Rattle.af_base.specs.declared.log.Cycle.TheVariants as cycle
use Rattle.af_base.specs.declared.log.CycleEntry.{CycleEntry}
use Rattle.af_base.specs.Turn.{turn_of}
use Rattle.af_ends.specs.declared.error.EndError.{EndError}
use Rattle.af_ends.specs.declared.error.EndError.TheVariants.{Argument, Memory, Dead, Corrupt, Limit}
use Rattle.af_engine.specs.Shares.{SharedState, AreLinksOf}
use Rattle.af_fast.specs.Mixer.{MixerState, IsInOrderAfter, IsLinked, IsSound, emptied, most_entries}
use Rattle.af_fast.specs.Mixing.{Adopts, MixesOnceAfter}
use Rattle.af_life.specs.Kept.{Outside}
use Rattle.af_link.specs.declared.links.Links.{Links}
use Rattle.af_normal.specs.LegalTurned.{IsLegal}
use Rattle.af_normal.specs.Order.{IsInOrder as IsNormalInOrder, most_turns}
use Rattle.af_normal.specs.State.{NormalState}
use Rattle.af_normal.specs.TurnMade.{TurnMade, answer_of}
use Rattle.af_normal.specs.declared.turn.Turn.{Turn}
use Rattle.af_normal.specs.declared.turn.Turn.TheVariants.{Spent}

-- ## The normal mixer

-- what all ends share, and the normal mixer
pub record NormalEndState : Type 0 where
  pub shared : SharedState
  pub mixer : NormalState

-- it is in order over each links that lead to what is shared
abbrev pub IsNormalEnd : SharedState → NormalState → Type 0
IsNormalEnd shared m = (links : Links) → AreLinksOf shared links → IsNormalInOrder links m

-- one turn more was made: the entry tells the answer, the mixer did what the entry shows, and that is legal by what it saw
pub record TurnsOnce (m : NormalState) (answer : Turn) (m' : NormalState) : Type 0 where
  pub next : m'.turns ≡ m.turns + 1
  pub told : answer ≡ answer_of (turn_of m'.entry)
  pub made : TurnMade answer m m'
  pub legal : (o : Outside) × IsLegal o m m'

-- A turn is made, unless as many were made before as a life has: then Spent is answered, and nothing is done
pub record Turns (m : NormalState) (answer : Turn) (m' : NormalState) : Type 0 where
  pub makes : m.turns < most_turns → TurnsOnce m answer m'
  pub spent : most_turns ≤ m.turns → (answer ≡ Spent) × (m' ≡ m)

-- ## The fast mixer

-- what all ends share, and the fast mixer
pub record FastEndState : Type 0 where
  pub shared : SharedState
  pub mixer : MixerState

-- It is in order, whatever it has forgotten, and each links that lead to what is shared are those that it was made with. It has so many frames a cycle and so many entries a log, at least one, and no state is adopted that a mix is still to use
pub record IsFastEnd (shared : SharedState) (frames cycles : ℕ) (m : MixerState) : Type 0 where
  pub order : IsSound m
  pub linked : (links : Links) → AreLinksOf shared links → IsLinked links m
  pub turn : m.adopted ≡ false
  pub sizes : (m.frames ≡ frames) × (m.cycles ≡ cycles)
  pub some : 1 ≤ cycles

-- a poll and a mix, which goes on from all entries of the mixer's life
abbrev pub Cycles : MixerState → List Frame → Cycle → MixerState → List Frame → Type 0
Cycles m out answer m' out' = (middle : MixerState) × Adopts m middle × ((earlier : List CycleEntry) → IsInOrderAfter earlier m → MixesOnceAfter earlier middle out answer m' out')

-- the log is full, and Exit was not answered
abbrev pub IsFull : MixerState → Type 0
IsFull m = (m.exited ≡ false) × (length m.log.entries ≡ m.cycles)

-- The log is forgotten where it is full. Where a whole log more could go beyond the entries of a life, it stays full
abbrev pub MakesRoom : MixerState → Bool → MixerState → Type 0
MakesRoom m true m' = ((IsFull m → ⊥) × (m' ≡ m)) ⊎ (IsFull m × (m' ≡ emptied m))
MakesRoom m false m' = IsFull m × (most_entries < m.count + m.cycles) × (m' ≡ m)

-- the answer tells of a full log
abbrev pub IsSpent : Result Cycle EndError → Type 0
IsSpent (Ok (cycle.Spent n)) = Unit {0}
IsSpent _ = ⊥

-- A cycle, by its answer. Where the log is full it is forgotten first. The slice has another length, or a whole log more could go beyond the entries of a life
abbrev pub CyclesOn : MixerState → List Frame → Result Cycle EndError → MixerState → List Frame → Type 0
CyclesOn m out (Ok answer) m' out' = (length out ≡ m.frames) × (middle : MixerState) × MakesRoom m true middle × Cycles middle out answer m' out'
CyclesOn m out (Err Argument) m' out' = (length out ≢ m.frames) × (m' ≡ m) × (out' ≡ out)
CyclesOn m out (Err Limit) m' out' = (length out ≡ m.frames) × MakesRoom m false m' × (out' ≡ out)
CyclesOn m out (Err Memory) m' out' = ⊥
CyclesOn m out (Err Dead) m' out' = ⊥
CyclesOn m out (Err Corrupt) m' out' = ⊥
