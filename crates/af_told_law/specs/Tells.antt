-- What ties the parties of a session to the run that their journal tells so far.
use Rattle.std.specs.Prelude.{◌≡◌, ℕ, ◌<◌, ◌&&◌, nat_lt, not, is_some, Bool, true, false, List, [], ◌∷◌, length, map, slice_get, Option, Some, None}
use Rattle.af_base.specs.declared.report.Report.{Report}
use Rattle.af_base.specs.Log.{slots}
use Rattle.af_fast.specs.Mixer.{MixerState}
use Rattle.af_life.specs.Kept.{is_home, pipe_size, slot_number, track_at}
use Rattle.af_model.specs.declared.newest.WriterEvent.{WriterEvent}
use Rattle.af_model.specs.declared.newest.WriterEvent.TheVariants as writes
use Rattle.af_model.specs.declared.states.ObserverEvent.{ObserverEvent}
use Rattle.af_model.specs.declared.states.ObserverEvent.TheVariants as observer
use Rattle.af_model.specs.Cycles.{last_used}
use Rattle.af_model.specs.Draft.{initial}
use Rattle.af_model.specs.Order.{ones, twos}
use Rattle.af_model.specs.Reports.{no_slot, report_at}
use Rattle.af_model.specs.StateQueue.{MutatorPoint, mutated, observed}
use Rattle.af_normal.specs.LegalTurned.{hand_events}
use Rattle.af_normal.specs.Mixing.{stream_at}
use Rattle.af_normal.specs.State.{NormalState, kept_of, setup_of as mixer_setup}
use Rattle.af_party.specs.Parties.{PartyState, track_of}
use Rattle.af_runs.specs.Blocks.{BlockTold, hand_list}
use Rattle.af_runs.specs.KeptLists.{KeepsMutator, KeepsPipe, KeepsReader, marked}
use Rattle.af_runs.specs.Runs.{Run, TrackTold, fast_ended, frames_before, last_report, sides_of, told_at}
use Rattle.af_runs.specs.Sessions.{Session, cycle_frames, setup_of, track_count}
use Rattle.af_runs.specs.Told.{Item, state_at}
use Rattle.af_server.specs.Order.{ServerState}
use Rattle.af_stateq.specs.Laws.{pushed_states}
use Rattle.af_stateq.specs.Mutates.{at}
use Rattle.af_engine.specs.Met.{item_at, slot_for}
use Rattle.af_session.specs.Rounds.{Given, file_at, ops_at}
use Rattle.af_session.specs.Together.{SessionState}
use Rattle.af_base.specs.declared.event.ServerEvent.{ServerEvent}
use Rattle.af_told_law.specs.Deeds.{Deeds, GoOn, ServerDone, TrackDid, done_on}

-- ## The proxies of a track

-- the proxy has these sizes, and did and took this
pub record TellsServer (k : ServerDone) (s : ServerState) : Type 0 where
  pub shape : s.pass.part.shape ≡ k.shape
  pub events : s.pass.part.events ≡ k.events
  pub taken : s.pass.part.frames ≡ k.taken

-- the proxy, if there is one, has these sizes, and did and took this
abbrev pub IfThere : ServerDone → Option ServerState → Type 0
IfThere k o = (s : ServerState) → o ≡ Some s → TellsServer k s

-- a state was pushed that the observer hasn't polled
abbrev pub is_going : NormalState → MixerState → Bool
is_going m f = nat_lt f.observer.past.number m.mutator.past.number

-- the point that the mutator's list leaves
abbrev pub mutated_by : NormalState → MutatorPoint ServerState
mutated_by m = mutated m.mutator.past.first m.mutator.past.events

-- the observer has polled all states, and the mutator hasn't seen the last one acknowledged
abbrev pub is_coming : NormalState → MixerState → Bool
is_coming m f = not (is_going m f) && not (mutated_by m).clear

-- the items that went with the last push, and those that were given back with the last acknowledgement
abbrev pub items_sent : NormalState → List (Option ServerState)
items_sent m = (mutated_by m).items

abbrev pub items_given : MixerState → List (Option ServerState)
items_given f = (observed f.observer.past.events).given

-- the slot of the observer's state that carries the proxy of a track
abbrev pub held_slot : MixerState → ℕ → Option ℕ
held_slot f i = slot_for f.observer.past.state i

-- nothing comes back for this slot
abbrev pub none_comes : NormalState → MixerState → ℕ → Type 0
none_comes m f slot = is_coming m f ≡ true → at (items_given f) slot ≡ None

-- The stream proxy of a track that has this slot, and isn't home: the observer holds it; or else it went with the last push, or was given back; or else it waits for a push, or is in the mutator's hand
pub record TellsAway (m : NormalState) (f : MixerState) (i slot : ℕ) (k : ServerDone) : Type 0 where
  pub held : IfThere k (item_at f.observer.items (held_slot f i))
  pub goes : held_slot f i ≡ None → is_going m f ≡ true → IfThere k (at (items_sent m) slot)
  pub comes : held_slot f i ≡ None → is_coming m f ≡ true → IfThere k (at (items_given f) slot)
  pub waits : held_slot f i ≡ None → none_comes m f slot → IfThere k (at m.mutator.pending slot)
  pub back : held_slot f i ≡ None → none_comes m f slot → IfThere k (at m.mutator.returned slot)

-- a stream's proxy, home or away, did this, and its hand did what is told
pub record TellsStream (m : NormalState) (f : MixerState) (i : ℕ) (b : BlockTold) (deed : List ServerEvent) : Type 0 where
  pub home : IfThere (done_on b deed) (stream_at m.streams i)
  pub away : is_home (track_at m.tracks i).holder ≡ false → TellsAway m f i (slot_number (track_at m.tracks i)) (done_on b deed)
  pub hand : hand_events m.hands i ≡ hand_list b

-- a command proxy did this, and keeps its hand, which did nothing
pub record TellsCommands (b : BlockTold) (deed : List ServerEvent) (s : ServerState) : Type 0 where
  pub server : TellsServer (done_on b deed) s
  pub whole : s.pass.has_hand ≡ true
  pub none : hand_list b ≡ []

-- what the clients are given
abbrev pub given_of : Session → Given
given_of s = record { tracks = s.script.tracks; files = s.files }

-- the run tells a track: its client p with both proxies, whose servers did this
pub record TellsTrack (s : Session) (m : NormalState) (f : MixerState) (d : Deeds) (i : ℕ) (t : TrackTold) (p : PartyState) : Type 0 where
  pub client : sides_of t ≡ track_of (ops_at (given_of s) i) (file_at (given_of s) i) p
  pub stream : TellsStream m f i t.stream (d.streams i)
  pub commands : (c : ServerState) → slice_get m.commands i ≡ Some c → TellsCommands t.commands (d.commands i) c
  pub did : TrackDid d i t

-- ## The two mixers

-- a poll with its items marked
abbrev pub marked_poll : ObserverEvent ServerState → ObserverEvent Item
marked_poll (observer.SawNext k x items) = observer.SawNext k x (marked items)
marked_poll (observer.Ack k items) = observer.Ack k (marked items)
marked_poll (observer.Learn count) = observer.Learn count

-- the reports that were stored
abbrev pub reports_stored : List (WriterEvent Report) → List Report
reports_stored [] = []
reports_stored (writes.Store report ∷ events) = report ∷ reports_stored events
reports_stored (writes.Learn count ∷ events) = reports_stored events

-- the ends of the queue, the report and the pipe did what the run tells
pub record TellsShared (s : Session) (run : Run) (m : NormalState) (f : MixerState) : Type 0 where
  pub first : m.mutator.past.first ≡ initial (cycle_frames s)
  pub mutator : KeepsMutator run m.mutator.past.events
  pub observer : map marked_poll f.observer.past.events ≡ twos run.queue
  pub reader : KeepsReader run m.reader.events
  pub writer : f.writer.events ≡ ones run.report
  pub puts : KeepsPipe run m.pipe.pass.part.events m.pipe.pass.part.frames
  pub takes : f.pipe.pass.part.events ≡ twos run.pipe.told
  pub taken : f.pipe.pass.part.frames ≡ run.pipe.taken
  pub size : f.pipe.pass.part.shape.frames ≡ pipe_size (setup_of s)

-- the run tells what the normal mixer keeps, its hands, and the states that it pushed, of which it keeps the number and the last
pub record TellsNormal (s : Session) (run : Run) (m : NormalState) : Type 0 where
  pub setup : mixer_setup m ≡ setup_of s
  pub kept : kept_of m ≡ run.normal
  pub hands : (i : ℕ) → i < track_count s → is_some (slice_get m.hands i) ≡ run.handed
  pub states : pushed_states m.mutator.past.events ≡ run.states
  pub number : m.mutator.past.number ≡ length run.states
  pub last : m.mutator.past.last ≡ state_at (cycle_frames s) run.states (length run.states)

-- while no entry used a state the slots of the last report are empty
abbrev pub IsFresh : Run → Type 0
IsFresh run = last_used run.entries ≡ 0 → (i : ℕ) → i < slots → report_at (last_report run.reports).slots i ≡ no_slot

-- the run tells the state that the fast mixer adopted, its log, and the reports that it stored, which are empty at first
pub record TellsFast (s : Session) (run : Run) (f : MixerState) : Type 0 where
  pub frames : f.frames ≡ cycle_frames s
  pub cycles : f.cycles ≡ s.script.cycles
  pub current : f.observer.past.number ≡ run.current
  pub state : f.observer.past.state ≡ state_at (cycle_frames s) run.states run.current
  pub entries : f.log.entries ≡ run.entries
  pub logged : length f.log.frames ≡ frames_before run
  pub exited : f.exited ≡ fast_ended run
  pub reports : reports_stored f.writer.events ≡ run.reports
  pub fresh : IsFresh run

-- ## All

-- the run tells what the parties are and did, the servers by these lists
pub record Tells (s : Session) (run : Run) (d : Deeds) (x : SessionState) : Type 0 where
  pub count : (length run.tracks ≡ track_count s) × (length x.clients ≡ track_count s)
  pub tracks : (i : ℕ) (p : PartyState) → slice_get x.clients i ≡ Some p → TellsTrack s x.normal x.fast d i (told_at run i) p
  pub shared : TellsShared s run x.normal x.fast
  pub normal : TellsNormal s run x.normal
  pub fast : TellsFast s run x.fast

-- what a step leaves, from servers that did this
pub record Leaves (s : Session) (before : Deeds) (after : Run) (y : SessionState) : Type 0 where
  pub deeds : Deeds
  pub goes : GoOn before deeds
  pub told : Tells s after deeds y

-- ## Polls

-- ## Mixes
