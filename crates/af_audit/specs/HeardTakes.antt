-- The takes of an entry that are heard.
use Rattle.std.specs.Prelude.{ℕ, zero, suc, ◌+◌, ◌==◌, if◌then◌else◌, List, [], ◌∷◌}
use Rattle.af_base.specs.declared.frame.Frame.{Frame}
use Rattle.af_base.specs.declared.log.CycleEntry.{CycleEntry}
use Rattle.af_base.specs.Log.{count_seen, entry_slot, slot_take}
use Rattle.af_base.specs.Mix.{Take}

-- the takes of n slots, from the slot i on, without those of the slots that took no frames and are silent
abbrev pub heard_takes : List Frame → CycleEntry → ℕ → ℕ → List Take
heard_takes frames entry i zero = []
heard_takes frames entry i (suc n) = if count_seen (entry_slot entry i).seen == 0 then heard_takes frames entry (i + 1) n else slot_take frames entry i ∷ heard_takes frames entry (i + 1) n
