-- What contracts see of a fast mixer, and when it is in order.
use Rattle.std.specs.Prelude.{◌≡◌, ℕ, ◌+◌, ◌-◌, ◌*◌, ◌^◌, ◌≤◌, ◌<◌, ◌==◌, ◌||◌, Bool, true, false, List, [], ◌++◌, length, replicate, Option, None}
use Rattle.af_base.specs.declared.log.CycleEntry.{CycleEntry}
use Rattle.af_base.specs.declared.report.Report.{Report}
use Rattle.af_base.specs.declared.report.SlotReport.{SlotReport}
use Rattle.af_base.specs.declared.state.FastState.{FastState}
use Rattle.af_base.specs.Log.{slots, Logged}
use Rattle.af_model.specs.Cycles.{state_of, last_used, has_exit, cold_done, UseUpTo}
use Rattle.af_model.specs.Reports.{no_slot, no_report, report_at}
use Rattle.af_model.specs.StateQueue.{carries}
use Rattle.af_model.specs.declared.newest.WriterEvent.{WriterEvent}
use Rattle.af_latest.specs.Laws.{last_of, stores}
use Rattle.af_server.specs.Order.{ServerState}
use Rattle.af_stateq.specs.Laws.{polled_states}
use Rattle.af_stateq.specs.Observes.{Observes, InOrder}
use Rattle.af_stateq.specs.Shelved.{no_state, nothing}
use Rattle.af_link.specs.PipeEnds.{OutSide, out_made}
use Rattle.af_link.specs.Reports.{WriterSide}
use Rattle.af_link.specs.Linked.{AreLinked}
use Rattle.af_link.specs.declared.links.Links.{Links}
use Rattle.af_link.specs.declared.names.StreamNames.{StreamNames}
use Rattle.af_fast.specs.Fits.{stream_fits}

-- a mixer: the observer, the ends of the report and of the pipe, the log, the frames of a cycle, for how many entries the log has room, whether a state was adopted that no mix has used yet, whether Exit was answered, the cold generation performed last, the state that the last entry used, how many entries were added in all, and the last report of each slot
pub record MixerState : Type 0 where
  pub observer : Observes ServerState StreamNames
  pub writer : WriterSide
  pub pipe : OutSide
  pub log : Logged
  pub frames : ℕ
  pub cycles : ℕ
  pub adopted : Bool
  pub exited : Bool
  pub cold : ℕ
  pub last : Option FastState
  pub count : ℕ
  pub reports : List SlotReport

-- the states adopted so far
abbrev pub adopted_states : MixerState → List FastState
adopted_states m = polled_states no_state m.observer.past.events

-- the entries of a mixer's life: those that it forgot, and then those of its log
abbrev pub all_entries : List CycleEntry → MixerState → List CycleEntry
all_entries earlier m = earlier ++ m.log.entries

-- the most entries of a life, since a report counts looks in 32 bits
abbrev pub most_entries : ℕ
most_entries = 4294967295

-- the same mixer with an empty log, which has the same room
abbrev pub emptied : MixerState → MixerState
emptied m = record m { log = record m.log { entries = []; frames = [] } }

-- a mixer is over: Exit was answered, or the log is full
abbrev pub is_over : MixerState → Bool
is_over m = m.exited || (length m.log.entries == m.cycles)

-- the log has the sizes that it was made with, and room for all entries and frames that are still to come
pub record LogHasRoom (frames cycles : ℕ) (log : Logged) : Type 0 where
  pub sized : (1 ≤ frames) × (frames ≤ 2 ^ 21) × (cycles ≤ 100000)
  pub entries : (length log.entries ≤ cycles) × (log.room ≡ cycles)
  pub rest : length log.frames + slots * ((cycles - length log.entries) * frames) ≤ log.frame_room

-- The number of the state adopted is that of the state of the last entry or the next one, and the latter only if a mix is still to use it
pub record UsesStates (number : ℕ) (entries : List CycleEntry) (adopted over : Bool) : Type 0 where
  pub used : UseUpTo (last_used entries) entries
  pub low : last_used entries ≤ number
  pub high : number ≤ last_used entries + 1
  pub still : adopted ≡ false → number ≡ last_used entries
  pub ended : over ≡ true → number ≡ last_used entries
  pub few : last_used entries ≤ length entries

-- the kept values are those of the entries: whether Exit was answered, the cold generation performed last, and the state that the last entry used
pub record KeepsEntries (states : List FastState) (entries : List CycleEntry) (exited : Bool) (cold : ℕ) (last : Option FastState) : Type 0 where
  pub exited_is : exited ≡ has_exit entries
  pub cold_is : cold ≡ cold_done states entries
  pub last_is : last ≡ state_of states (last_used entries)

-- the counts of the reports are below a bound
abbrev pub AreFew : ℕ → List SlotReport → Type 0
AreFew bound reports = (i : ℕ) → i < slots → ((report_at reports i).fulls < bound) × ((report_at reports i).partials < bound) × ((report_at reports i).empties < bound)

-- as many reports were stored as there are entries. The last is that of the last entry, and its counts are those of entries
pub record Reported (entries : ℕ) (events : List (WriterEvent Report)) (reports : List SlotReport) : Type 0 where
  pub many : stores events ≡ entries
  pub number : (last_of no_report events).cycle ≡ entries
  pub slots_are : (last_of no_report events).slots ≡ reports
  pub whole : length reports ≡ slots
  pub few : AreFew (entries + 1) reports

-- no slot has an item
abbrev pub CarriesNone : FastState → Type 0
CarriesNone x = (i : ℕ) → i < slots → carries x i ≡ false

-- these entries were forgotten: all entries are counted, a whole log can be counted behind those, and has room for its frames
pub record HasForgotten (earlier : List CycleEntry) (count frames cycles : ℕ) (log : Logged) : Type 0 where
  pub counted : count ≡ length (earlier ++ log.entries)
  pub most : length earlier + cycles ≤ most_entries
  pub room : slots * (cycles * frames) ≤ log.frame_room

-- The kept values are those that the lists of its parts give, if it has forgotten these entries, and each item that the observer holds fits the track of its slot
pub record IsInOrderAfter (earlier : List CycleEntry) (m : MixerState) : Type 0 where
  pub observer : InOrder stream_fits m.observer
  pub begins : m.observer.past.number ≡ 0 → CarriesNone m.observer.past.state
  pub room : LogHasRoom m.frames m.cycles m.log
  pub uses : UsesStates m.observer.past.number (all_entries earlier m) m.adopted (is_over m)
  pub keeps : KeepsEntries (adopted_states m) (all_entries earlier m) m.exited m.cold m.last
  pub reports : Reported (length (all_entries earlier m)) m.writer.events m.reports
  pub forgotten : HasForgotten earlier m.count m.frames m.cycles m.log

-- a mixer that has forgotten nothing is in order
abbrev pub IsInOrder : MixerState → Type 0
IsInOrder m = IsInOrderAfter [] m

-- a mixer is in order, whatever it has forgotten
pub record IsSound (m : MixerState) : Type 0 where
  pub earlier : List CycleEntry
  pub order : IsInOrderAfter earlier m

-- a mixer stays in order, and forgets nothing more
abbrev pub StaysInOrder : MixerState → MixerState → Type 0
StaysInOrder m m' = (earlier : List CycleEntry) → IsInOrderAfter earlier m → IsInOrderAfter earlier m'

-- a mixer's ends were made together with these links
abbrev pub IsLinked : Links → MixerState → Type 0
IsLinked links m = AreLinked links m.observer.past.key m.observer.past.queue m.writer.cell (out_made m.pipe)

-- nothing was done on the three ends
pub record IsUnused (observer : Observes ServerState StreamNames) (writer : WriterSide) (pipe : OutSide) : Type 0 where
  pub observed : (observer.past.number ≡ 0) × (observer.past.events ≡ []) × (observer.current ≡ None) × (observer.items ≡ nothing)
  pub stored : writer.events ≡ []
  pub taken : pipe.pass.part.events ≡ []

-- a new mixer over its ends
abbrev pub made_of : Observes ServerState StreamNames → WriterSide → OutSide → ℕ → ℕ → MixerState
made_of observer writer pipe cycles frames = record {
  observer = observer;
  writer = writer;
  pipe = pipe;
  log = record { entries = []; frames = []; room = cycles; frame_room = slots * (cycles * frames) };
  frames = frames;
  cycles = cycles;
  adopted = false;
  exited = false;
  cold = 0;
  last = None;
  count = 0;
  reports = replicate slots no_slot;
}
