-- A run: what all parties kept after some rounds, as a journal tells it. Nothing here asks whether a turn was legal.
use Rattle.std.specs.Prelude.{ℕ, ◌+◌, ◌-◌, ◌==◌, ◌&&◌, ◌||◌, not, nat_le, nat_lt, min, max, Bool, true, false, if◌then◌else◌, fold, find, unwrap_or, is_some, List, [], ◌∷◌, ◌++◌, map, flat_map, drop, length, sum_by, Option, Some, None, slice_index_or}
use Rattle.std.specs.List.{range_with_len, list_any, list_all}
use Rattle.af_base.specs.declared.event.ClientCall.{ClientCall}
use Rattle.af_base.specs.declared.event.ServerEvent.TheVariants as server
use Rattle.af_base.specs.declared.log.CycleEntry.{CycleEntry}
use Rattle.af_base.specs.declared.report.Report.{Report}
use Rattle.af_base.specs.declared.report.SlotReport.{SlotReport}
use Rattle.af_base.specs.declared.state.FastState.{FastState}
use Rattle.af_base.specs.Log.{slots, entry_slot}
use Rattle.af_base.specs.Sample.{packed_word}
use Rattle.af_base.specs.Turn.{Turn}
use Rattle.af_life.specs.Kept.{Setup, pipe_size, NormalKept, Outside, new_normal, track_at, track_in, is_home}
use Rattle.af_life.specs.Heard.{learnt}
use Rattle.af_life.specs.Looks.{words_taken}
use Rattle.af_life.specs.Plays.{put_by}
use Rattle.af_life.specs.Turn.{after_edits, turn_after}
use Rattle.af_life.specs.TurnEvents.{tracks_at, going, takes_from, command_list, hand_events_of, stream_list, pipe_list, number_seen, mutator_list}
use Rattle.af_model.specs.declared.newest.WriterEvent.TheVariants.{Store}
use Rattle.af_model.specs.declared.newest.ReaderEvent.TheVariants.{Load}
use Rattle.af_model.specs.Cycles.{Listed, kept, state_of, last_used, has_exit, is_mixed, takes_shown, cycle_events}
use Rattle.af_model.specs.Journals.{EntrySeen, RoundSeen, slot_frames, taken_by}
use Rattle.af_model.specs.Order.{one, two}
use Rattle.af_model.specs.Point.{wrapped}
use Rattle.af_model.specs.Reports.{ServerKnown, slot_report, no_report, report_at}
use Rattle.af_model.specs.ServerCalls.{flushes_by}
use Rattle.af_model.specs.StateQueue.{slot_of, carries}
use Rattle.af_script.specs.Ops.{power_above}
use Rattle.af_runs.specs.Blocks.{BlockTold, new_block, client_list, listed, client_does, server_does, hand_does, took, meets, meets_flag}
use Rattle.af_runs.specs.Clients.{Client, new_client, ends}
use Rattle.af_runs.specs.ClientTurns.{Side, Track, after_calls}
use Rattle.af_runs.specs.Found.{TurnFound, outside_of}
use Rattle.af_runs.specs.Fronts.{front_of, is_shown}
use Rattle.af_runs.specs.Sessions.{Session, spec_of, track_count, cycle_frames, setup_of, stream_shape, command_shape, file_words}
use Rattle.af_runs.specs.Told.{QueueTold, ReportTold, PipeTold, state_at, brought_by, items_of, is_pushed, mutator_does, observer_does, poll_events, queue_met, report_met, pipe_met}

-- ## What is kept

-- a track of a run: the words of its file's frames, its client, and its two blocks
pub record TrackTold : Type 0 where
  pub file : List ℕ
  pub client : Client
  pub stream : BlockTold
  pub commands : BlockTold

-- a run: each track, the normal mixer, whether it made its hands, the states pushed, the number of the state adopted last, the entries and the reports stored, and what the ends of the queue, the report and the pipe did
pub record Run : Type 0 where
  pub tracks : List TrackTold
  pub normal : NormalKept
  pub handed : Bool
  pub states : List FastState
  pub current : ℕ
  pub entries : List CycleEntry
  pub reports : List Report
  pub queue : QueueTold
  pub report : ReportTold
  pub pipe : PipeTold

-- a track before the first round
abbrev pub new_told_track : Session → ℕ → TrackTold
new_told_track s track = record { file = file_words s track; client = new_client (spec_of s track).ops; stream = new_block (stream_shape s.script.version (spec_of s track)); commands = new_block command_shape }

-- a run before its first round
abbrev pub new_run : Session → Run
new_run s = record {
  tracks = map (new_told_track s) (range_with_len 0 (track_count s));
  normal = new_normal (setup_of s);
  handed = false;
  states = [];
  current = 0;
  entries = [];
  reports = [];
  queue = [];
  report = [];
  pipe = record { told = []; put = []; taken = [] };
}

-- the track of a number, and one that isn't there
abbrev pub no_track : TrackTold
no_track = record { file = []; client = new_client []; stream = new_block command_shape; commands = new_block command_shape }

abbrev pub told_at : Run → ℕ → TrackTold
told_at run track = slice_index_or run.tracks track no_track

-- each track changed by its number, from this number on
abbrev pub changed_from : (ℕ → TrackTold → TrackTold) → ℕ → List TrackTold → List TrackTold
changed_from change number [] = []
changed_from change number (t ∷ ts) = change number t ∷ changed_from change (number + 1) ts

abbrev pub each_track : (ℕ → TrackTold → TrackTold) → Run → Run
each_track change run = record run { tracks = changed_from change 0 run.tracks }

-- ## The clients

-- the client's side of a block
abbrev pub client_side : BlockTold → Side
client_side b = record { shape = b.shape; events = client_list b; released = b.released }

-- the track as its client has it
abbrev pub sides_of : TrackTold → Track
sides_of t = record { file = t.file; client = t.client; stream = client_side t.stream; commands = client_side t.commands }

-- a block whose client's side has become this one: the client did what its list has more
abbrev pub with_side : Side → BlockTold → BlockTold
with_side side b = record (client_does (drop (length (client_list b)) side.events) b) { released = side.released }

-- a track whose client made these calls in a turn
abbrev pub called_in_turn : List ClientCall → TrackTold → TrackTold
called_in_turn calls t = let after = after_calls (sides_of t) calls in record t {
  client = after.client;
  stream = with_side after.stream t.stream;
  commands = with_side after.commands t.commands;
}

-- the calls of a track's client in a round
abbrev pub calls_in : RoundSeen → ℕ → List ClientCall
calls_in round track = slice_index_or round.calls track []

-- each client made its calls
unfoldable pub with_calls : RoundSeen → Run → Run
with_calls round run = each_track (λ track t. called_in_turn (calls_in round track) t) run

-- ## The fast mixer

-- the state of a number: number 0 counts as the one adopted last, and one that isn't pushed yet as the normal mixer's draft
abbrev pub state_for : Session → Run → ℕ → FastState
state_for s run k = unwrap_or (state_of run.states k) (if k == 0 then state_at (cycle_frames s) run.states run.current else run.normal.draft)

-- the fast mixer polls and finds the state of a number, which it adopts if it was pushed
unfoldable pub with_poll : Session → ℕ → Run → Run
with_poll s k run = record run { queue = observer_does (poll_events (cycle_frames s) run.states run.current k) run.queue; current = if nat_le k (length run.states) then k else run.current }

-- the state carries the slot, and the entry shows it
abbrev pub shows_slot : FastState → CycleEntry → ℕ → Bool
shows_slot x entry i = carries x i && is_shown (entry_slot entry i).seen

-- the slot that plays a track
abbrev pub slot_playing : FastState → CycleEntry → ℕ → Option ℕ
slot_playing x entry track = find (λ i. shows_slot x entry i && ((slot_of x i).track == track)) (range_with_len 0 slots)

-- a stream block whose server was played in a slot: its gains, its look, and what follows, with the words of the frames taken
abbrev pub played : ℕ → EntrySeen → ℕ → BlockTold → BlockTold
played asked e i b =
    let slot = entry_slot e.entry i in
    took (map packed_word (slot_frames e i)) (server_does (cycle_events asked (listed b) slot (front_of asked (listed b) slot)) b)

-- a track after an entry under the state x
abbrev pub mixed_track : Session → FastState → EntrySeen → ℕ → TrackTold → TrackTold
mixed_track s x e track t = elim (slot_playing x e.entry track) as (λ o. TrackTold) [ None ↦ t | Some i ↦ record t { stream = played (cycle_frames s) e i t.stream } ]

-- the pipe after an entry: a mix sees rear and front, and takes what it shows
abbrev pub mixed_pipe : EntrySeen → PipeTold → PipeTold
mixed_pipe e p =
    let slot = entry_slot e.entry 0 in
    if is_mixed e.entry.cycle
    then record p { told = p.told ++ map two (server.SawRear slot.rear ∷ server.SawFront (wrapped (length p.taken)) ∷ takes_shown slot.seen); taken = p.taken ++ map packed_word (slot_frames e 0) }
    else p

-- what the report tells of a server: the consumed count, which ends at 2 ^ 63 - 1, the number of flushes by the last one that was noticed, and whether it is shut
abbrev pub known_of : Listed → ServerKnown
known_of s = let k = kept s in record { consumed = min 9223372036854775807 k.consumed; flush_seen = flushes_by s.shape.wrap k.noticed; shut = is_some k.shut }

-- the stream block of the track of a slot
abbrev pub stream_of : Run → FastState → ℕ → BlockTold
stream_of run x i = (told_at run (slot_of x i).track).stream

-- a slot of the report after an entry. Of a state that isn't pushed yet only what the entry shows is told; any other slot keeps what it had
abbrev pub next_slot : Session → Run → CycleEntry → List SlotReport → ℕ → SlotReport
next_slot s run entry before i =
    let x = state_for s run entry.state in
    let y = state_for s run (last_used run.entries) in
    if is_some (state_of run.states entry.state) || shows_slot x entry i
    then slot_report (cycle_frames s) (Some x) (Some y) entry (known_of (listed (stream_of run x i))) i (report_at before i)
    else report_at before i

-- the last report stored
abbrev pub last_report : List Report → Report
last_report reports = fold (λ last report. report) no_report reports

-- the report after an entry, of a run in which the entry's looks were made
abbrev pub next_report : Session → Run → CycleEntry → Report
next_report s run entry = record { cycle = length run.entries + 1; slots = map (next_slot s run entry (last_report run.reports).slots) (range_with_len 0 slots) }

-- the looks of an entry by the state that was polled
abbrev pub with_looks : Session → EntrySeen → Run → Run
with_looks s e run = record (each_track (mixed_track s (state_for s run e.entry.state) e) run) { pipe = mixed_pipe e run.pipe }

-- the fast mixer's entry after its poll: its looks; then the entry is added, and the report stored
unfoldable pub with_mix : Session → EntrySeen → Run → Run
with_mix s e run = let looked = with_looks s e run in let report = next_report s looked e.entry in record looked {
  entries = looked.entries ++ e.entry ∷ [];
  reports = looked.reports ++ report ∷ [];
  report = looked.report ++ one (Store report) ∷ [];
}

-- a whole cycle
abbrev pub with_cycle : Session → Run → EntrySeen → Run
with_cycle s run e = with_mix s e (with_poll s e.entry.state run)

abbrev pub with_cycles : Session → List EntrySeen → Run → Run
with_cycles s entries run = fold (with_cycle s) run entries

-- how many frames the log has
abbrev pub frames_before : Run → ℕ
frames_before run = sum_by taken_by run.entries

-- ## The normal mixer

-- the report of a number, from 0; for a number past the last one that one
abbrev pub report_of : List Report → ℕ → Report
report_of reports n = if n == 0 then no_report else slice_index_or reports (n - 1) (last_report reports)

-- the most entries of a round
abbrev pub most_round_cycles : ℕ
most_round_cycles = 16

-- The number of the report that a turn loads: it is the last one before the round, or one of the round's first 16 entries. So what a turn finds rests on no entry beyond those that a legal round may have
abbrev pub load_of : Run → Turn → ℕ
load_of run e = min (max (length run.entries) e.cycle) (length run.entries + most_round_cycles)

-- What a turn finds that comes before these entries. An entry of the state that the turn itself pushes counts in the report by the draft before the turn, as far as it shows its slots
abbrev pub found_before : Session → Run → List EntrySeen → Turn → TurnFound
found_before s run entries e = record {
  report = report_of (with_cycles s entries run).reports (load_of run e);
  streams = λ track. (told_at run track).stream;
  commands = λ track. (told_at run track).commands;
}

-- a stream block after a turn: DISABLED by the hand, INVALID if the track was found shut at home, and the look and the take for the buffer
abbrev pub stream_turned : Setup → Outside → NormalKept → Turn → ℕ → BlockTold → BlockTold
stream_turned c o m e i b =
    took (going e (map packed_word (flat_map (λ take. take.frames) (takes_from e.mixes i))))
    (server_does (stream_list c o e (tracks_at c (learnt o) m e i) i) (hand_does (hand_events_of e i) b))

-- a command block after a turn: the looks, INVALID if the track was found shut, and the status
abbrev pub commands_turned : Setup → Outside → NormalKept → Turn → ℕ → BlockTold → BlockTold
commands_turned c o m e i b = took (going e (words_taken (track_in e i).looks)) (server_does (command_list c o e (tracks_at c (learnt o) m e i) i) b)

abbrev pub turned_track : Setup → Outside → NormalKept → Turn → ℕ → TrackTold → TrackTold
turned_track c o m e i t = record t { stream = stream_turned c o m e i t.stream; commands = commands_turned c o m e i t.commands }

-- the number of cells of the pipe
abbrev pub pipe_cells : Setup → ℕ
pipe_cells c = power_above 16 (pipe_size c)

-- the pipe after a turn: the room is seen, and a buffer put
abbrev pub pipe_turned : Setup → Turn → PipeTold → PipeTold
pipe_turned c e p = record p { told = p.told ++ map one (pipe_list c (pipe_cells c) (length p.put) e); put = p.put ++ going e (map packed_word (put_by c e.mixes)) }

-- the draft after a turn's edits
abbrev pub draft_after : Setup → Outside → NormalKept → Turn → FastState
draft_after c o m e = (after_edits c (learnt o) e m).draft

-- the state that a turn pushes, if it pushes one
abbrev pub pushed_by : Setup → Outside → NormalKept → Turn → List FastState
pushed_by c o m e = if is_pushed e.push then draft_after c o m e ∷ [] else []

-- the queue after a turn: the look at the acknowledgement, and the push with its own look. The first look that sees the last state acknowledged brings its items, and a push sends those of the slots that are new in its state
abbrev pub queue_turned : ℕ → Setup → Outside → NormalKept → Turn → List FastState → QueueTold → QueueTold
queue_turned frames c o m e states told =
    let back = brought_by frames states (number_seen m e.ack) told in
    let again = (if is_pushed e.push && not e.ack then brought_by frames states (length states) told else []) in
    let sent = items_of (draft_after c o m e) (state_at frames states (length states)) in
    mutator_does (mutator_list c (learnt o) m e back again sent) told

-- a run after a turn of the normal mixer, by what it found
unfoldable pub with_turn : Session → TurnFound → Turn → Run → Run
with_turn s f e run =
    let c = setup_of s in
    let o = outside_of c f e in
    record run {
      tracks = changed_from (turned_track c o run.normal e) 0 run.tracks;
      normal = turn_after c (learnt o) run.normal e;
      handed = true;
      states = run.states ++ pushed_by c o run.normal e;
      queue = queue_turned (cycle_frames s) c o run.normal e run.states run.queue;
      pipe = pipe_turned c e run.pipe;
    }

-- the report that a turn loaded, once all reports of its round are there
unfoldable pub with_load : Turn → Run → Run
with_load e run = record run { report = run.report ++ map two (going e (Load e.cycle (report_of run.reports e.cycle) ∷ [])) }

-- ## The meetings

-- the observer holds the stream proxy of a track: the state adopted last carries it
abbrev pub observer_holds : Session → Run → ℕ → Bool
observer_holds s run track =
    let x = state_at (cycle_frames s) run.states run.current in
    list_any (λ i. carries x i && ((slot_of x i).track == track)) (range_with_len 0 slots)

-- the stream proxy of a track takes part in a meeting: it is home, or the observer holds it
abbrev pub takes_part : Session → Run → ℕ → Bool
takes_part s run track = is_home (track_at run.normal.tracks track).holder || observer_holds s run track

-- A stream block after a meeting, in which its proxy takes part or not, and its hand once it is there: if all three meet, first client and server, then client and hand
abbrev pub stream_met : Bool → Bool → BlockTold → BlockTold
stream_met true true b = meets_flag (meets b)
stream_met true false b = meets b
stream_met false true b = meets_flag b
stream_met false false b = b

abbrev pub track_met : Session → Run → ℕ → TrackTold → TrackTold
track_met s run track t = record t { stream = stream_met (takes_part s run track) run.handed t.stream; commands = meets t.commands }

-- each pair of parties meets
unfoldable pub met : Session → Run → Run
met s run = record (each_track (track_met s run) run) { queue = queue_met run.queue; report = report_met run.report; pipe = pipe_met run.pipe }

-- once the normal mixer has ended, every client has
unfoldable pub with_ends : Run → Run
with_ends run = if run.normal.ended then each_track (λ track t. record t { client = ends t.client }) run else run

-- ## The ends

abbrev pub fast_ended : Run → Bool
fast_ended run = has_exit run.entries

-- the parties: the clients by their tracks, then the normal mixer, then the fast mixer
abbrev pub normal_party : Session → ℕ
normal_party s = track_count s

abbrev pub fast_party : Session → ℕ
fast_party s = track_count s + 1

-- the party of a number has ended
abbrev pub has_ended : Session → Run → ℕ → Bool
has_ended s run party = if nat_lt party (normal_party s) then (told_at run party).client.ended else if party == normal_party s then run.normal.ended else fast_ended run

abbrev pub all_ended : Session → Run → Bool
all_ended s run = list_all (has_ended s run) (range_with_len 0 (fast_party s + 1))
