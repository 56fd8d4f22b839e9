-- The PCM of a journal: the bytes of the mix of each Mixed entry, in order.
use Rattle.std.specs.Prelude.{◌≡◌, ℕ, ◌+◌, ◌<◌, ◌≤◌, if◌then◌else◌, true, List, [], map, length}
use Rattle.std.specs.List.{flat_map}
use Rattle.af_base.specs.declared.frame.Frame.{Frame}
use Rattle.af_base.specs.declared.log.Cycle.{Cycle}
use Rattle.af_base.specs.declared.log.CycleEntry.{CycleEntry}
use Rattle.af_base.specs.Log.{count_seen, entry_slot, slots, takes_of}
use Rattle.af_base.specs.Mix.{mix}
use Rattle.af_base.specs.Sample.{pcm_bytes}
use Rattle.af_model.specs.Cycles.{is_mixed}
use Rattle.af_model.specs.Journals.{JournalData, entries_of, frames_of}

-- the frames that each slot of a mix names lie in the log
abbrev pub LieWithin : List Frame → CycleEntry → Type 0
LieWithin frames entry = is_mixed entry.cycle ≡ true → (i : ℕ) → i < slots → (entry_slot entry i).first + count_seen (entry_slot entry i).seen ≤ length frames

-- the bytes of a cycle that wrote these frames: none if it didn't mix
abbrev pub written : Cycle → List Frame → List ℕ
written cycle out = if is_mixed cycle then pcm_bytes out else []

-- the bytes of an entry at a length, in frames: those of its mix, from the frames of its log
abbrev pub entry_pcm : ℕ → List Frame → CycleEntry → List ℕ
entry_pcm len frames entry = written entry.cycle (mix (takes_of frames entry) len)

-- the bytes of some entries, one after the other
abbrev pub entries_pcm : ℕ → List Frame → List CycleEntry → List ℕ
entries_pcm len frames entries = flat_map (entry_pcm len frames) entries

-- the PCM of a journal with so many frames in a cycle: that of the entries of its rounds, by the frames that they took
abbrev pub journal_pcm : ℕ → JournalData → List ℕ
journal_pcm len j = entries_pcm len (frames_of (entries_of j.rounds)) (map (λ e. e.entry) (entries_of j.rounds))
