-- What the calls of a cycle do.
use Rattle.std.specs.Prelude.{◌≡◌, ℕ, ◌+◌, ◌<◌, ◌++◌, ◌∷◌, [], true, false, if◌then◌else◌, List, length, map, Option, Some}
use Rattle.af_base.specs.declared.frame.Frame.{Frame}
use Rattle.af_base.specs.declared.log.Cycle.{Cycle}
use Rattle.af_base.specs.declared.log.Cycle.TheVariants as cycle
use Rattle.af_base.specs.declared.log.CycleEntry.{CycleEntry}
use Rattle.af_base.specs.declared.report.Report.{Report}
use Rattle.af_base.specs.declared.report.SlotReport.{SlotReport}
use Rattle.af_base.specs.declared.state.FastState.{FastState}
use Rattle.af_base.specs.Log.{slots, entry_slot, frames_taken, takes_of}
use Rattle.af_base.specs.Mix.{mix}
use Rattle.af_base.specs.Sample.{packed_word}
use Rattle.af_model.specs.declared.newest.WriterEvent.TheVariants.{Store}
use Rattle.af_model.specs.Cycles.{LegalCycle, is_mixed, is_exit, is_cold, cold_of, taken_before}
use Rattle.af_model.specs.Reports.{IsNextReport, report_at, slot_report}
use Rattle.af_model.specs.StateQueue.{carries}
use Rattle.af_model.specs.declared.plain_calls.Poll.{Poll}
use Rattle.af_stateq.specs.Answers.{WasPolled}
use Rattle.af_stateq.specs.Mutates.{at}
use Rattle.af_link.specs.Reports.{WriterSide}
use Rattle.af_fast.specs.Known.{known}
use Rattle.af_fast.specs.Mixer.{MixerState, adopted_states, all_entries, is_over}
use Rattle.af_fast.specs.Slots.{SlotPlayed, found}

-- a mixer polls for a state, unless it is over
pub record Adopts (m m' : MixerState) : Type 0 where
  pub rests : is_over m ≡ true → m' ≡ record m { adopted = true }
  pub polls : is_over m ≡ false → (poll : Poll) × (before : ℕ) × (after : ℕ) × WasPolled m.observer poll m'.observer before after
  pub same : m' ≡ record m { observer = m'.observer; adopted = true }

-- The ends took what the entry shows, and just this is in the log. In a mix it is the pipe's and the tracks' frames, each slot's at the place that its entry gives. Otherwise nothing was done
pub record Takes (m m' : MixerState) (entry : CycleEntry) : Type 0 where
  pub observer : m'.observer ≡ record m.observer { items = m'.observer.items }
  pub grown : (more : List Frame) × (m'.log.frames ≡ m.log.frames ++ more)
  pub total : length m'.log.frames ≡ length m.log.frames + taken_before entry slots
  pub still : is_mixed entry.cycle ≡ false → (m'.observer ≡ m.observer) × (m'.pipe ≡ m.pipe)
  pub piped : is_mixed entry.cycle ≡ true → m'.pipe.pass.part.frames ≡ m.pipe.pass.part.frames ++ map packed_word (frames_taken m'.log.frames (entry_slot entry 0))
  pub tracks : is_mixed entry.cycle ≡ true → (x : FastState) → m.observer.current ≡ Some x → (i : ℕ) → i < slots → carries x i ≡ true → SlotPlayed m.frames (at m.observer.items i) (at m'.observer.items i) m'.log.frames (entry_slot entry i)

-- One entry is added, with the number of the adopted state. It is legal after all entries of the mixer's life, of which these were forgotten, the ends took what it shows, and the report after it is stored
pub record AddsCycleAfter (earlier : List CycleEntry) (m m' : MixerState) (entry : CycleEntry) : Type 0 where
  pub state : entry.state ≡ m.observer.past.number
  pub legal : LegalCycle m.frames (adopted_states m) (all_entries earlier m) (length m.log.frames) (found m.observer m.pipe) (found m'.observer m'.pipe) entry
  pub entries : m'.log.entries ≡ m.log.entries ++ entry ∷ []
  pub takes : Takes m m' entry
  pub report : (report : Report) × (m'.writer.events ≡ m.writer.events ++ Store report ∷ []) × IsNextReport m.frames (adopted_states m) (all_entries earlier m) entry (known m'.observer) m.reports report

-- one entry is added by a mixer that has forgotten nothing
abbrev pub AddsCycle : MixerState → MixerState → CycleEntry → Type 0
AddsCycle m m' entry = AddsCycleAfter [] m m' entry

-- what a mixed entry writes: its mix; else the buffer is as it was
abbrev pub Writes : MixerState → CycleEntry → List Frame → List Frame → Type 0
Writes m entry out out' = (is_mixed entry.cycle ≡ true → out' ≡ mix (takes_of m.log.frames entry) (length out)) × (is_mixed entry.cycle ≡ false → out' ≡ out)

-- An Exit that was answered is answered again, and then the end of the log. Else the answer is what the added entry is
pub record MixesOnceAfter (earlier : List CycleEntry) (m : MixerState) (out : List Frame) (answer : Cycle) (m' : MixerState) (out' : List Frame) : Type 0 where
  pub exited : m.exited ≡ true → (answer ≡ cycle.Exit) × (m' ≡ record m { adopted = false }) × (out' ≡ out)
  pub spent : m.exited ≡ false → length m.log.entries ≡ m.cycles → (answer ≡ cycle.Spent m.cycles) × (m' ≡ record m { adopted = false }) × (out' ≡ out)
  pub adds : is_over m ≡ false → (entry : CycleEntry) × (answer ≡ entry.cycle) × AddsCycleAfter earlier m m' entry × Writes m' entry out out'

-- a call of mix by a mixer that has forgotten nothing
abbrev pub MixesOnce : MixerState → List Frame → Cycle → MixerState → List Frame → Type 0
MixesOnce m out answer m' out' = MixesOnceAfter [] m out answer m' out'

-- a mixer with one entry more, under a state
abbrev pub notes : Option FastState → CycleEntry → WriterSide → List SlotReport → MixerState → MixerState
notes state entry writer reports m = record m {
  writer = writer;
  log = record m.log { entries = m.log.entries ++ entry ∷ [] };
  exited = is_exit entry.cycle;
  cold = if is_cold entry.cycle then cold_of state else m.cold;
  last = state;
  count = m.count + 1;
  reports = reports;
}

-- the report after an entry under a state is stored
pub record StoresReport (state : Option FastState) (entry : CycleEntry) (m m' : MixerState) : Type 0 where
  pub report : Report
  pub stored : m'.writer.events ≡ m.writer.events ++ Store report ∷ []
  pub number : report.cycle ≡ m.count + 1
  pub slots_are : report.slots ≡ m'.reports
  pub whole : length m'.reports ≡ slots
  pub each : (i : ℕ) → i < slots → report_at m'.reports i ≡ slot_report m.frames state m.last entry (known m.observer i) i (report_at m.reports i)
