-- The lines of entries as their log has them: each slot names the place of its frames in the log.
use Rattle.std.specs.Prelude.{ℕ, ◌==◌, if◌then◌else◌, List, [], ◌∷◌, map, flat_map, slice_index_or}
use Rattle.std.specs.Int.{bit_at}
use Rattle.std.specs.List.{range_with_len}
use Rattle.af_base.specs.declared.frame.Frame.{Frame}
use Rattle.af_base.specs.declared.log.CycleEntry.{CycleEntry}
use Rattle.af_base.specs.Log.{entry_slot, frames_taken, kind_of, slots}
use Rattle.af_base.specs.Sample.{packed_word}
use Rattle.af_model.specs.Cycles.{is_mixed}
use Rattle.af_journal.specs.declared.line.Line.TheVariants as line
use Rattle.af_journal.specs.Lines.{Written, numbers}
use Rattle.af_journal.specs.Texts.{words_after}
use Rattle.af_runs.specs.Fronts.{is_shown}

-- a slot that shows something
abbrev pub logged_shown : List Frame → CycleEntry → ℕ → List Written
logged_shown frames entry i =
    let slot = entry_slot entry i in
    numbers (line.Slot i (slice_index_or entry.scales i 0) (bit_at entry.mono i == 1) slot.gains slot.flush slot.rear slot.seen) ∷ words_after (map packed_word (frames_taken frames slot))

-- a slot of an entry
abbrev pub logged_slot : List Frame → CycleEntry → ℕ → List Written
logged_slot frames entry i = if is_shown (entry_slot entry i).seen then logged_shown frames entry i else []

-- the slots of an entry
unfoldable pub logged_slots : List Frame → CycleEntry → List Written
logged_slots frames entry = flat_map (logged_slot frames entry) (range_with_len 0 slots)

-- an entry
abbrev pub logged_entry : List Frame → CycleEntry → List Written
logged_entry frames entry = numbers (line.Entry entry.state (kind_of entry.cycle)) ∷ (if is_mixed entry.cycle then logged_slots frames entry else [])

-- the entries of a round, if there are some
abbrev pub logged_fast : List Frame → List CycleEntry → List Written
logged_fast frames [] = []
logged_fast frames (entry ∷ entries) = numbers line.Fast ∷ flat_map (logged_entry frames) (entry ∷ entries)
