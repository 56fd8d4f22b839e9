-- What contracts see of the two ends of a static buffer, and of what they share.
use Rattle.std.specs.Prelude.{◌≡◌, ℕ, List, length}
use Rattle.atomic_table.specs.Seated.{TableId}
use Rattle.af_base.specs.declared.frame.Frame.{Frame}
use Rattle.af_model.specs.declared.newest.WriterEvent.{WriterEvent}
use Rattle.af_model.specs.declared.newest.ReaderEvent.{ReaderEvent}
use Rattle.af_static.specs.declared.setting.Setting.{Setting}
use Rattle.af_static.specs.declared.head.Head.{Head}

-- a static buffer: the cell of the settings, and the frames
pub record Kept : Type 0 where
  pub cell : TableId
  pub frames : List Frame

-- the cell that a setter sets, and its events
pub record Sets : Type 0 where
  pub cell : TableId
  pub events : List (WriterEvent Setting)

-- the cell that a player sees, the number of the buffer's frames, its events, the setting that it saw last, and its head
pub record Plays : Type 0 where
  pub cell : TableId
  pub size : ℕ
  pub events : List (ReaderEvent Setting)
  pub setting : Setting
  pub head : Head

-- the player was made with this buffer and its cell
abbrev pub IsPlayerOf : Kept → Plays → Type 0
IsPlayerOf shared p = (p.cell ≡ shared.cell) × (p.size ≡ length shared.frames)
