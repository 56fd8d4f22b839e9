-- The sound of a log: the bytes of the mix of each Mixed entry, in order.
use Rattle.std.specs.Prelude.{◌≡◌, ℕ, ◌++◌, true, List, All}
use Rattle.af_base.specs.declared.frame.Frame.{Frame}
use Rattle.af_base.specs.declared.log.CycleEntry.{CycleEntry}
use Rattle.af_base.specs.Log.{Logged}
use Rattle.af_runs.specs.Pcm.{LieWithin, entries_pcm}
use Rattle.af_model.specs.Cycles.{is_mixed}

-- the sound of a log
abbrev pub pcm_of : ℕ → Logged → List ℕ
pcm_of len log = entries_pcm len log.frames log.entries

-- the frames that the slots of each mix name lie in the log
abbrev pub IsWhole : Logged → Type 0
IsWhole log = All (LieWithin log.frames) log.entries

-- the entry is that of a mix
abbrev pub IsMixed : CycleEntry → Type 0
IsMixed entry = is_mixed entry.cycle ≡ true

-- A log grew by these entries and by some frames. The sound that it had stays, and just these bytes come after it: those of the new entries
pub record Grows (len : ℕ) (log log' : Logged) (more : List CycleEntry) (bytes : List ℕ) : Type 0 where
  pub entries : log'.entries ≡ log.entries ++ more
  pub frames : (taken : List Frame) × (log'.frames ≡ log.frames ++ taken)
  pub whole : IsWhole log'
  pub bytes_are : bytes ≡ entries_pcm len log'.frames more
  pub sound : pcm_of len log' ≡ pcm_of len log ++ bytes
