-- A turn of the fast mixer in a session: cycles one after the other, in each of which all parties meet between the poll and the mix.
use Rattle.std.specs.Prelude.{◌≡◌, ℕ, zero, suc, ◌+◌, ◌≤◌, ◌++◌, true, false, List, [], length, All}
use Rattle.af_base.specs.declared.frame.Frame.{Frame}
use Rattle.af_base.specs.declared.log.Cycle.{Cycle}
use Rattle.af_base.specs.declared.log.CycleEntry.{CycleEntry}
use Rattle.af_base.specs.Log.{Logged}
use Rattle.af_base.specs.Roomy.{Roomy}
use Rattle.af_model.specs.Cycles.{is_mixed}
use Rattle.af_fast.specs.Mixer.{MixerState, IsInOrder as IsFastInOrder}
use Rattle.af_fast.specs.Mixing.{Adopts, MixesOnce}
use Rattle.af_session.specs.Met.{Met}
use Rattle.af_tally.specs.Sound.{Grows, IsMixed}
use Rattle.af_runs.specs.Pcm.{written}
use Rattle.af_session.specs.Together.{AreTogether, SessionState, StayTogether}

-- One cycle among the parties: the fast mixer polls, all meet, and it mixes into a buffer. The parties are in order and together all the while. Nothing else changes
pub record IsCycle (s : SessionState) (out : List Frame) (answer : Cycle) (s' : SessionState) (out' : List Frame) : Type 0 where
  pub polled : MixerState
  pub met : SessionState
  pub adopts : Adopts s.fast polled
  pub meets : Met (record s { fast = polled }) met
  pub mixes : MixesOnce met.fast out answer s'.fast out'
  pub sizes : (s'.fast.frames ≡ met.fast.frames) × (s'.fast.cycles ≡ met.fast.cycles)
  pub others : s' ≡ record met { fast = s'.fast }
  pub order : IsFastInOrder polled × IsFastInOrder met.fast × IsFastInOrder s'.fast
  pub together : StayTogether s (record s { fast = polled }) met
  pub mixed : AreTogether together.links s'

-- one cycle among the parties with some buffer that has the frames of a cycle, and the bytes of what was mixed
pub record WritesCycle (s : SessionState) (answer : Cycle) (bytes : List ℕ) (s' : SessionState) : Type 0 where
  pub before : List Frame
  pub after : List Frame
  pub long : length before ≡ s.fast.frames
  pub cycle : IsCycle s before answer s' after
  pub bytes_are : bytes ≡ written answer after

-- So many steps one after the other, each as Once says, with the bytes that they wrote, or fewer if one of them mixes nothing: it is the last
abbrev pub StepsOn : {S : Type 0} → (S → Cycle → List ℕ → S → Type 0) → ℕ → S → List ℕ → S → Type 0
StepsOn Once zero s bytes s' = (bytes ≡ []) × (s' ≡ s)
StepsOn {S} Once (suc left) s bytes s' = (answer : Cycle) × (next : S) × (front : List ℕ) × (back : List ℕ) × Once s answer front next × (bytes ≡ front ++ back)
    × (is_mixed answer ≡ true → StepsOn Once left next back s') × (is_mixed answer ≡ false → (back ≡ []) × (s' ≡ next))

-- so many cycles among the parties, or fewer if one of them mixes nothing
abbrev pub IsFastTurn : ℕ → SessionState → List ℕ → SessionState → Type 0
IsFastTurn count s bytes s' = StepsOn WritesCycle count s bytes s'

-- What a turn of at most so many cycles adds to the log: mixes, and then perhaps one other entry. The sound grows by the same bytes
pub record TurnAdds (len count : ℕ) (log log' : Logged) (bytes : List ℕ) : Type 0 where
  pub mixes : List CycleEntry
  pub last : List CycleEntry
  pub all_mixed : All IsMixed mixes
  pub one : length last ≤ 1
  pub few : length mixes + length last ≤ count
  pub grows : Grows len log log' (mixes ++ last) bytes

-- a turn of at most so many cycles that put its bytes behind others
pub record Turned (count : ℕ) (s s' : SessionState) (bytes bytes' : Roomy ℕ) : Type 0 where
  pub added : List ℕ
  pub written_is : bytes' ≡ record bytes { items = bytes.items ++ added }
  pub turn : IsFastTurn count s added s'
  pub adds : TurnAdds s.fast.frames count s.fast.log s'.fast.log added
