-- What contracts see of a static buffer whose two ends are in one hand, and what holds between its calls.
use Rattle.std.specs.Prelude.{◌≡◌, ℕ, List, [], ◌∷◌, ◌++◌, length}
use Rattle.af_base.specs.declared.frame.Frame.{Frame}
use Rattle.af_model.specs.declared.newest.WriterEvent.{WriterEvent}
use Rattle.af_model.specs.declared.newest.WriterEvent.TheVariants as writes
use Rattle.af_model.specs.declared.newest.ReaderEvent.{ReaderEvent}
use Rattle.af_model.specs.declared.newest.ReaderEvent.TheVariants as reads
use Rattle.af_latest.specs.Laws.{last_of, stores}
use Rattle.af_static.specs.declared.setting.Setting.{Setting}
use Rattle.af_static.specs.declared.head.Head.{Head}
use Rattle.af_static.specs.Ends.{Kept, Sets, Plays, IsPlayerOf}
use Rattle.af_static.specs.Loops.{opening}

-- a static buffer in one hand: its frames, how many settings were made and the last of them, the setting that the last call used, and the head
pub record HandState : Type 0 where
  pub frames : List Frame
  pub made : ℕ
  pub newest : Setting
  pub used : Setting
  pub head : Head

abbrev pub hand_of : Kept → Sets → Plays → HandState
hand_of shared s p = record { frames = shared.frames; made = stores s.events; newest = last_of opening s.events; used = p.setting; head = p.head }

-- the two ends are of this buffer, and the player has learnt all that was set
pub record IsInStep (shared : Kept) (s : Sets) (p : Plays) : Type 0 where
  pub setter : s.cell ≡ shared.cell
  pub player : IsPlayerOf shared p
  pub writers : List (WriterEvent Setting)
  pub readers : List (ReaderEvent Setting)
  pub writers_are : s.events ≡ writers ++ writes.Learn (length readers) ∷ []
  pub readers_are : p.events ≡ readers ++ reads.Learn (length writers) ∷ []
