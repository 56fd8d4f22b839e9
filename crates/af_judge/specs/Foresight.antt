-- What the fast mixer would report after further entries, of which none is told.
use Rattle.std.specs.Prelude.{ℕ, zero, suc, if◌then◌else◌, fold, List, [], ◌++◌, map, Some, None, slice_get, slice_set, slice_index_or}
use Rattle.std.specs.List.{range_with_len}
use Rattle.af_base.specs.declared.event.ServerEvent.{ServerEvent}
use Rattle.af_base.specs.declared.log.CycleEntry.{CycleEntry}
use Rattle.af_base.specs.declared.log.SlotEntry.{SlotEntry}
use Rattle.af_base.specs.declared.state.FastState.{FastState}
use Rattle.af_base.specs.Log.{slots, entry_slot}
use Rattle.af_life.specs.declared.kept.Heard.{Heard}
use Rattle.af_life.specs.Heard.{known_by}
use Rattle.af_model.specs.Cycles.{Listed, cycle_events, kept}
use Rattle.af_model.specs.StateQueue.{slot_of}
use Rattle.af_runs.specs.Fronts.{front_of}
use Rattle.af_runs.specs.Runs.{shows_slot}
use Rattle.af_runs.specs.Sessions.{command_shape}
use Rattle.af_judge.specs.declared.server_judge.ServerJudge.{ServerJudge}
use Rattle.af_judge.specs.declared.track_judge.TrackJudge.{TrackJudge}
use Rattle.af_judge.specs.Blocks.{listed_in}
use Rattle.af_judge.specs.Reporting.{Telling, entry_added, polled_in, state_in, told_at_slot}
use Rattle.af_judge.specs.Servers.{server_at}

-- what is kept of a server
abbrev pub server_of : Listed → ServerJudge
server_of s = server_at s.shape (kept s)

-- a server that did some events more
abbrev pub did_more : List ServerEvent → Listed → Listed
did_more events s = record s { events = s.events ++ events }

-- a server after it was played in a slot
abbrev pub looked_by : ℕ → SlotEntry → Listed → Listed
looked_by asked slot s = did_more (cycle_events asked s slot (front_of asked s slot)) s

-- the server of a track, and one that isn't there
abbrev pub no_server : Listed
no_server = record { shape = command_shape; events = [] }

abbrev pub server_in : List Listed → ℕ → Listed
server_in servers track = slice_index_or servers track no_server

-- the server of a track changed
abbrev pub server_changed : ℕ → (Listed → Listed) → List Listed → List Listed
server_changed track change servers = elim (slice_get servers track) as (λ o. List Listed) [ None ↦ servers | Some s ↦ slice_set servers track (change s) ]

-- a slot that an entry plays
abbrev pub slot_foreseen : ℕ → FastState → CycleEntry → ℕ → List Listed → List Listed
slot_foreseen asked x entry i servers = if shows_slot x entry i then server_changed (slot_of x i).track (looked_by asked (entry_slot entry i)) servers else servers

-- the first slots, one after the other
unfoldable pub slots_foreseen : ℕ → FastState → CycleEntry → ℕ → List Listed → List Listed
slots_foreseen asked x entry zero servers = servers
slots_foreseen asked x entry (suc i) servers = slot_foreseen asked x entry i (slots_foreseen asked x entry i servers)

-- what is heard of the slots of a state
abbrev pub heard_foreseen : List Listed → FastState → List Heard
heard_foreseen servers x = map (λ i. known_by (server_in servers (slot_of x i).track)) (range_with_len 0 slots)

-- the servers as they would be, and what the mixer would have told
pub record Foreseen : Type 0 where
  pub servers : List Listed
  pub told : Telling

abbrev pub foreseen : List Listed → Telling → Foreseen
foreseen servers told = record { servers = servers; told = told }

-- the servers and the mixer after one entry more
abbrev pub entry_foreseen : List FastState → CycleEntry → Foreseen → Foreseen
entry_foreseen states entry f =
    let t = polled_in states entry.state f.told in
    let x = state_in t states entry.state in
    let servers = slots_foreseen t.asked x entry slots f.servers in
    record { servers = servers; told = entry_added states (told_at_slot (heard_foreseen servers x)) entry t }

-- the servers and the mixer after some entries more
abbrev pub entries_foreseen : List FastState → List CycleEntry → Foreseen → Foreseen
entries_foreseen states entries f = fold (λ g entry. entry_foreseen states entry g) f entries

-- the servers of the streams of some tracks
abbrev pub servers_at : List TrackJudge → List Listed
servers_at tracks = map (λ t. listed_in t.stream) tracks
