-- How settings are numbered, and that no call uses an older one than it must.
use Rattle.std.specs.Prelude.{◌≡◌, ℕ, ◌+◌, ◌≤◌, max, List, [], ◌∷◌, Some}
use Rattle.af_model.specs.declared.newest.WriterEvent.{WriterEvent}
use Rattle.af_model.specs.declared.newest.WriterEvent.TheVariants.{Store}
use Rattle.af_model.specs.declared.newest.WriterEvent.TheVariants as writes
use Rattle.af_model.specs.declared.newest.ReaderEvent.{ReaderEvent}
use Rattle.af_model.specs.declared.newest.ReaderEvent.TheVariants.{Load}
use Rattle.af_model.specs.declared.newest.ReaderEvent.TheVariants as reads
use Rattle.af_latest.specs.Ends.{Stores}
use Rattle.af_latest.specs.Laws.{stored_by, stores}
use Rattle.af_static.specs.declared.setting.Setting.{Setting}
use Rattle.af_static.specs.Loops.{opening}

-- the settings have the numbers that follow a number, one by one
abbrev pub AreNumbered : ℕ → List (WriterEvent Setting) → Type 0
AreNumbered last [] = Unit {0}
AreNumbered last (Store s ∷ ws) = (s.number ≡ last + 1) × AreNumbered (last + 1) ws
AreNumbered last (writes.Learn count ∷ ws) = AreNumbered last ws

-- each call shows the setting of the number that its load has, which is no older than one before it, or than what was learnt before it
abbrev pub NumbersNeverFall : List (WriterEvent Setting) → ℕ → List (ReaderEvent Setting) → Type 0
NumbersNeverFall ws low [] = Unit {0}
NumbersNeverFall ws low (Load n s ∷ rs) = (s.number ≡ n) × (low ≤ s.number) × NumbersNeverFall ws s.number rs
NumbersNeverFall ws low (reads.Learn count ∷ rs) = NumbersNeverFall ws (max low (stored_by ws count)) rs

-- the cell began with the opening setting, and so many settings were made, numbered from 1
pub record IsSetter (w : Stores Setting) (made : ℕ) : Type 0 where
  pub first : w.first ≡ Some opening
  pub numbered : AreNumbered 0 w.events
  pub count : stores w.events ≡ made
