-- The definitions of runs at work on small values: each is computed.
use Rattle.af_runs.proofs.Common.{CommandLook, CycleEntry, EntrySeen, FastState, Frame, List, None, ScriptData, Seen, Some, Turn, [], absent, attached, cells_of, draft_commanded, cycle_events, false, initial, kept, length, map, negsuc, no_slot, pos, refl, replicate, report_at, true, twos, ℕ}
use Rattle.std.specs.Prelude.{◌≡◌, ◌∷◌, ◌++◌}
use Rattle.af_base.specs.declared.event.ClientCall.TheVariants as call
use Rattle.af_base.specs.declared.event.ClientEvent.TheVariants as client
use Rattle.af_base.specs.declared.event.ServerEvent.TheVariants as server
use Rattle.af_base.specs.declared.log.Cycle.TheVariants as cycle
use Rattle.af_base.specs.declared.log.SlotEntry.{SlotEntry}
use Rattle.af_base.specs.declared.report.Report.{Report}
use Rattle.af_base.specs.declared.seen.Seen.TheVariants as seen
use Rattle.af_base.specs.declared.state.Command.TheVariants.{MixWrite}
use Rattle.af_base.specs.declared.state.Push.TheVariants as pushing
use Rattle.af_model.specs.declared.shape.Shape.{Shape}
use Rattle.af_script.specs.declared.op.Op.TheVariants as op
use Rattle.af_runs.specs.Blocks.{BlockTold, new_block, client_list, server_list, listed, client_does, server_does, meets}
use Rattle.af_runs.specs.Fronts.{front_of, lawful_front, fronts_by}
use Rattle.af_base.specs.declared.event.ServerEvent.{ServerEvent}
use Rattle.af_runs.proofs.Words.{AnswerAlike, shows, sure_count}
use Rattle.af_runs.proofs.Words as alike
use Rattle.af_runs.specs.Pcm.{journal_pcm}
use Rattle.af_runs.specs.Runs.{Run, new_run, with_calls, with_poll, with_mix, with_cycle, each_track, called_in_turn, told_at, found_before, met, last_report, takes_part, known_of, stream_met}
use Rattle.af_runs.specs.Sessions.{Session}

-- ## A cycle of a run

abbrev frames : List Frame
frames = record { left = pos 1000; right = negsuc 999 } ∷ record { left = pos 2000; right = negsuc 1999 } ∷ []

abbrev slot : SlotEntry
slot = record { gains = 268439552; flush = 0; rear = 2; seen = seen.Frames 2; first = 0 }

abbrev submix : SlotEntry
submix = record { gains = 268439552; flush = 0; rear = 0; seen = seen.Empty; first = 0 }

-- an entry of a submix and one slot
abbrev entry_with : ℕ → SlotEntry → CycleEntry
entry_with k s = record { state = k; cycle = cycle.Mixed; slots = submix ∷ s ∷ replicate 30 absent; scales = 4096 ∷ 4096 ∷ replicate 30 0; mono = 0 }

abbrev entry : EntrySeen
entry = record { entry = entry_with 1 slot; frames = frames }

abbrev script : ScriptData
script = record { version = 1; frames = 2; normal = 1; cycles = 10; tracks = record { fast = true; frames = 8; mono = false; base = 0; scale = 4096; file = []; ops = op.OpenTrack ∷ op.Start ∷ op.Write 2 ∷ op.Remove ∷ [] } ∷ []; turns = [] }

abbrev session : Session
session = record { script = script; files = frames ∷ [] }

-- the first state pushed carries track 0 in slot 1
abbrev mixing : FastState
mixing = draft_commanded MixWrite (attached 1 false 4096 0 (initial 2))

-- the client has put two frames, and all have met
abbrev put : Run
put = met session (record (each_track (λ track t. called_in_turn (call.Put 0 2 ∷ []) t) (with_calls (record { calls = (call.Sent 0 1 0 ∷ call.Sent 0 2 0 ∷ []) ∷ []; turn = None; entries = [] }) (new_run session))) { states = mixing ∷ [] })

met_client : client_list (told_at put 0).stream ≡ client.SawFlags 0 ∷ client.SawFront 0 ∷ client.Release 2 ∷ client.Learn 0 ∷ []
unfolding with_calls met cells_of
met_client = refl

met_server : server_list (told_at put 0).stream ≡ server.Learn 3 ∷ []
unfolding with_calls met cells_of
met_server = refl

-- the stream proxy is home, and the first state isn't adopted
is_there : takes_part session put 0 ≡ true
unfolding with_calls met cells_of
is_there = refl

abbrev cycled : Run
cycled = with_cycle session put entry

played : server_list (told_at cycled 0).stream ≡ server.Learn 3 ∷ server.SawGain 268439552 ∷ server.SawFlush 0 ∷ server.SawRear 2 ∷ server.SawFront 0 ∷ server.Take 2 ∷ []
unfolding with_calls met cells_of with_poll with_mix
played = refl

taken : (told_at cycled 0).stream.taken ≡ 4229432296 ∷ 4163897296 ∷ []
unfolding with_calls met cells_of with_poll with_mix
taken = refl

piped : twos cycled.pipe.told ≡ server.Learn 0 ∷ server.SawRear 0 ∷ server.SawFront 0 ∷ []
unfolding with_calls met cells_of with_poll with_mix
piped = refl

reported : report_at (last_report cycled.reports).slots 1 ≡ (record { consumed = 2; shut = false; generation = 1; flush_seen = 0; fulls = 1; partials = 0; empties = 0 })
unfolding with_calls met cells_of with_poll with_mix
reported = refl

-- a meeting, the poll of a new state and its acknowledgement
observed : length (twos cycled.queue) ≡ 3
unfolding with_calls met cells_of with_poll with_mix
observed = refl

pcm : journal_pcm 2 (record { tracks = 1; rounds = record { calls = [] ∷ []; turn = None; entries = entry ∷ [] } ∷ [] }) ≡ 232 ∷ 3 ∷ 24 ∷ 252 ∷ 208 ∷ 7 ∷ 48 ∷ 248 ∷ []
pcm = refl

-- ## A report with two entries of a state that is pushed later in the round

-- slot 1 had shown ten times nothing
abbrev ten : Report
ten = record { cycle = 1; slots = no_slot ∷ record { consumed = 0; shut = false; generation = 1; flush_seen = 0; fulls = 0; partials = 0; empties = 10 } ∷ replicate 30 no_slot }

abbrev empty_slot : SlotEntry
empty_slot = record { gains = 0; flush = 0; rear = 2; seen = seen.Empty; first = 0 }

abbrev long : Run
long = record put { normal = record put.normal { draft = mixing }; current = 1; entries = entry_with 1 empty_slot ∷ []; reports = ten ∷ [] }

abbrev four : List EntrySeen
four = map (λ k. record { entry = entry_with k empty_slot; frames = [] }) (1 ∷ 1 ∷ 2 ∷ 2 ∷ [])

abbrev late_turn : Turn
late_turn = record { ended = false; room = 8; ack = true; cycle = 5; tracks = []; push = pushing.Clean; mixes = [] }

-- all four count, to 14
all_count : (report_at (found_before session long four late_turn).report.slots 1).empties ≡ 14
unfolding with_calls met cells_of with_poll with_mix
all_count = refl

-- ## A report with an entry of a state whose push was busy before

-- the proxy is lent by the draft, and no state was pushed
abbrev waiting : Run
waiting = record put { normal = record put.normal { draft = mixing }; states = [] }

abbrev first_late : EntrySeen
first_late = record { entry = entry_with 1 slot; frames = frames }

abbrev first_turn : Turn
first_turn = record { ended = false; room = 8; ack = true; cycle = 1; tracks = []; push = pushing.Clean; mixes = [] }

-- the entry counts by the draft, whose item it shows
draft_counts : report_at (found_before session waiting (first_late ∷ []) first_turn).report.slots 1 ≡ (record { consumed = 2; shut = false; generation = 1; flush_seen = 0; fulls = 1; partials = 0; empties = 0 })
unfolding with_calls met cells_of with_poll with_mix
draft_counts = refl

-- ## A report behind the entries that a round may have

-- of eighteen entries sixteen count
abbrev eighteen : List EntrySeen
eighteen = replicate 18 (record { entry = entry_with 1 empty_slot; frames = [] })

abbrev far_turn : Turn
far_turn = record { ended = false; room = 8; ack = true; cycle = 19; tracks = []; push = pushing.Clean; mixes = [] }

sixteen_count : (report_at (found_before session long eighteen far_turn).report.slots 1).empties ≡ 26
unfolding with_calls met cells_of with_poll with_mix
sixteen_count = refl

-- ## Fronts that an answer leaves open

abbrev shape : Shape
shape = record { frames = 4; cells = 4; base = 0; wrap = 0 }

abbrev look : Seen → SlotEntry
look answer = record { gains = 0; flush = 0; rear = 2; seen = answer; first = 0 }

-- a cycle of one frame, as it is told
abbrev one_frame : Seen → BlockTold → BlockTold
one_frame answer b = server_does (cycle_events 1 (listed b) (look answer) (front_of 1 (listed b) (look answer))) b

-- two frames were put, and all have met; then they were taken one by one
abbrev emptied : BlockTold
emptied = one_frame (seen.Frames 1) (one_frame (seen.Frames 1) (meets (client_does (client.SawFlags 0 ∷ client.SawFront 0 ∷ client.Release 2 ∷ []) (new_block shape))))

-- the client overwrites front by 0, and two more looks show all that was asked for
abbrev poked : BlockTold
poked = one_frame (seen.Frames 1) (one_frame (seen.Frames 1) (client_does (client.Poke 0 0 ∷ []) emptied))

-- the own front is then 4, two past the rear, and neither look shut the server
not_shut : (kept (listed poked)).shut ≡ None
not_shut = refl

all_taken : (kept (listed poked)).consumed ≡ 4
all_taken = refl

then_empty : server_list (one_frame seen.Empty poked) ≡ server_list poked ++ server.SawGain 0 ∷ server.SawFlush 0 ∷ server.SawRear 2 ∷ server.SawFront 2 ∷ server.Tally 1 ∷ server.SetFlags 1 ∷ []
then_empty = refl

-- the third and the fourth frame were seen from the front 2 and from the front 1: that of the list lies outside for the fourth
fronts_told : front_of 1 (listed emptied) (look (seen.Frames 1)) ≡ 2
fronts_told = refl

fronts_outside : front_of 1 (listed (one_frame (seen.Frames 1) emptied)) (look (seen.Frames 1)) ≡ 1
fronts_outside = refl

-- on a block without a poke it is the server's own, by which no look answers so
lawful_outside : lawful_front 1 (listed (one_frame (seen.Frames 1) emptied)) (look (seen.Frames 1)) ≡ 3
lawful_outside = refl

-- an answer that tells the front
told_by_count : front_of 3 (listed emptied) (look (seen.Frames 1)) ≡ 1
told_by_count = refl

-- ## Flush words that carry positions

abbrev by_position : Shape
by_position = record { frames = 4; cells = 4; base = 0; wrap = 16 }

abbrev flush_look : ℕ → ℕ → Seen → SlotEntry
flush_look flush rear answer = record { gains = 0; flush = flush; rear = rear; seen = answer; first = 0 }

-- three frames, a flush, and one frame more: the flush drops three
dropped_three : server_list (server_does (cycle_events 4 (listed (new_block by_position)) (flush_look 19 4 (seen.Flushed 3)) (front_of 4 (listed (new_block by_position)) (flush_look 19 4 (seen.Flushed 3)))) (new_block by_position))
    ≡ server.SawGain 0 ∷ server.SawFlush 19 ∷ server.SawRear 4 ∷ server.SawFront 0 ∷ server.Drop 3 ∷ []
dropped_three = refl

-- a server that took four frames
abbrev took_four : BlockTold
took_four = server_does (server.SawFlush 0 ∷ server.SawRear 4 ∷ server.SawFront 0 ∷ server.Take 4 ∷ []) (new_block by_position)

-- a flush at 0 that drops nothing: the own front 4 is the rear
dropped_none : front_of 4 (listed took_four) (flush_look 16 4 (seen.Flushed 0)) ≡ 4
dropped_none = refl

-- with the own front past the rear 2, by which words don't fit the block, it is told with the rear
dropped_outside : front_of 4 (listed took_four) (flush_look 16 2 (seen.Flushed 0)) ≡ 2
dropped_outside = refl

-- a look that finds the block shut doesn't notice its new flush word 33: what is told is the one flush before
abbrev shut_by_flush : BlockTold
shut_by_flush = server_does (server.SawFlush 33 ∷ server.SawRear 99 ∷ server.SawFront 4 ∷ []) (server_does (server.SawFlush 16 ∷ server.SawRear 4 ∷ server.SawFront 4 ∷ server.Drop 4 ∷ []) (new_block by_position))

is_shut : (kept (listed shut_by_flush)).shut ≡ Some (4, 99)
is_shut = refl

told_one : (known_of (listed shut_by_flush)).flush_seen ≡ 1
told_one = refl

-- ## Command blocks

abbrev command_look : CommandLook
command_look = record { flush = 0; rear = 2; seen = seen.Frames 2; code = 1; argument = 0 }

-- one command was sent; the front is overwritten after the look that took it, and two more looks show a command
command_fronts : fronts_by front_of (record { shape = record { frames = 128; cells = 128; base = 0; wrap = 0 }; events = [] }) (command_look ∷ command_look ∷ command_look ∷ []) ≡ 0 ∷ 2 ∷ 0 ∷ []
command_fronts = refl

-- ## Meetings of a stream block

-- before the normal mixer's first turn no hand is there
without_hand : stream_met true false (new_block shape) ≡ meets (new_block shape)
without_hand = refl

-- ## Lists of a poked block

-- a look of one frame, by this front
abbrev look_events : ℕ → List ServerEvent
look_events front = server.SawFlush 0 ∷ server.SawRear 2 ∷ server.SawFront front ∷ server.Take 1 ∷ []

-- what a server may have seen otherwise comes after the meeting
sure : sure_count poked ≡ 1
sure = refl

-- the first look after the poke saw the front 0, and is told with 2
looks_alike : AnswerAlike shape 0 (look_events 0) (look_events 2)
looks_alike = shows 0 0 2 0 2 1 [] [] refl tt (alike.ends 0)
