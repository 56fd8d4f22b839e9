-- A round of a run: in which order it is told, when each party's turn is legal, and which histories stand after it.
use Rattle.std.specs.Prelude.{◌≡◌, ◌⊎◌, ℕ, ◌+◌, ◌<◌, ◌≤◌, ◌==◌, ◌&&◌, nat_le, Bool, true, false, MatchBool, MatchOption, List, [], ◌∷◌, ◌++◌, length, take, drop, Option, Some, None}
use Rattle.std.specs.List.{prefix_len}
use Rattle.af_base.specs.declared.state.FastState.{FastState}
use Rattle.af_base.specs.Log.{slots, entry_slot}
use Rattle.af_base.specs.Turn.{Turn}
use Rattle.af_life.specs.Kept.{pipe_size}
use Rattle.af_model.specs.Cycles.{Found, LegalCycle, cycle_events, is_mixed}
use Rattle.af_model.specs.Journals.{EntrySeen, RoundSeen}
use Rattle.af_model.specs.Order.{twos}
use Rattle.af_model.specs.StateQueue.{slot_of, carries}
use Rattle.af_runs.specs.Blocks.{BlockTold, Marks, listed, is_tame, HasBlockHistory}
use Rattle.af_runs.specs.ClientTurns.{LegalClientTurn}
use Rattle.af_runs.specs.Found.{TurnFound, LegalTurnBy}
use Rattle.af_runs.specs.Fronts.{lawful_front}
use Rattle.af_runs.specs.Runs.{Run, most_round_cycles, told_at, sides_of, calls_in, with_calls, state_for, with_poll, with_mix, with_cycle, with_cycles, frames_before, stream_of, found_before, with_turn, with_load, takes_part, met, with_ends, fast_ended, all_ended}
use Rattle.af_runs.specs.Sessions.{Session, track_count, cycle_frames, setup_of}
use Rattle.af_runs.specs.Told.{HasQueueHistory, HasReportHistory, HasPipeTold}

-- ## The order in which a round is told: the clients' calls, the entries of states pushed before, the normal mixer's turn, the entries of a state that it pushes, the load of the report, and the meetings

-- the entry's state was pushed before the round
abbrev pub is_early : Run → EntrySeen → Bool
is_early run e = nat_le e.entry.state (length run.states)

-- how many entries come before the turn
abbrev pub early_count : Run → RoundSeen → ℕ
early_count run round = prefix_len (is_early run) round.entries

abbrev pub early_of : Run → RoundSeen → List EntrySeen
early_of run round = take (early_count run round) round.entries

abbrev pub late_of : Run → RoundSeen → List EntrySeen
late_of run round = drop (early_count run round) round.entries

-- the run before the normal mixer's turn
abbrev pub before_turn : Session → Run → RoundSeen → Run
before_turn s run round = with_cycles s (early_of run round) (with_calls round run)

-- what the turn of the normal mixer finds: the stream blocks as the entries before it left them, and the report among those of all entries
abbrev pub found_in : Session → Run → RoundSeen → Turn → TurnFound
found_in s run round e = record (found_before s (with_calls round run) round.entries e) { streams = λ track. (told_at (before_turn s run round) track).stream }

-- the run after that turn, if one was made
abbrev pub turned : Session → (Turn → TurnFound) → Option Turn → Run → Run
turned s found None run = run
turned s found (Some e) run = with_turn s (found e) e run

abbrev pub after_turn : Session → Run → RoundSeen → Run
after_turn s run round = turned s (found_in s run round) round.turn (before_turn s run round)

-- the load comes when all reports of the round are there
abbrev pub loaded : Option Turn → Run → Run
loaded None run = run
loaded (Some e) run = with_load e run

-- the run after all turns
abbrev pub all_played : Session → Run → RoundSeen → Run
all_played s run round = loaded round.turn (with_cycles s (late_of run round) (after_turn s run round))

-- the run after the meetings
abbrev pub met_after : Session → Run → RoundSeen → Run
met_after s run round = met s (all_played s run round)

-- the run after the round
abbrev pub after_round : Session → Run → RoundSeen → Run
after_round s run round = with_ends (met_after s run round)

-- ## The fast mixer's turn

-- there are some entries: each but the last is Mixed, and the last is one of which this holds
abbrev pub AreMixedBut : (EntrySeen → Type 0) → List EntrySeen → Type 0
AreMixedBut Last [] = ⊥
AreMixedBut Last (e ∷ []) = Last e
AreMixedBut Last (e ∷ next ∷ entries) = (is_mixed e.entry.cycle ≡ true) × AreMixedBut Last (next ∷ entries)

-- A turn has so many cycles, or fewer if the last isn't Mixed. If `full` says so it may also end since the log is full
abbrev pub IsFastTurn : ℕ → Bool → List EntrySeen → Type 0
IsFastTurn cycles full entries = (length entries ≤ cycles) × AreMixedBut (λ last. (length entries ≡ cycles) ⊎ (is_mixed last.entry.cycle ≡ false) ⊎ (full ≡ true)) entries

-- what an entry finds: the list of the pipe's end, and the servers of the slots of its state
abbrev pub found_for : Run → FastState → Found
found_for run x = record { pipe = twos run.pipe.told; servers = λ i. listed (stream_of run x i) }

-- An entry is legal after what was told, in which the mixer has polled already. The pipe's front is the number of frames taken; on a lawful block a front that an answer leaves open is the server's own, and on another it may be any
pub record LegalEntry (s : Session) (marks : Marks) (run : Run) (e : EntrySeen) : Type 0 where
  pub after : Found
  pub cycle : LegalCycle (cycle_frames s) run.states run.entries (frames_before run) (found_for run (state_for s run e.entry.state)) after e.entry
  pub pipe : after.pipe ≡ twos (with_mix s e run).pipe.told
  pub lawful : is_mixed e.entry.cycle ≡ true → (i : ℕ) → i < slots → carries (state_for s run e.entry.state) i ≡ true → marks.streams (slot_of (state_for s run e.entry.state) i).track ≡ true
      → (let k = listed (stream_of run (state_for s run e.entry.state) i) in let slot = entry_slot e.entry i in
      (after.servers i).events ≡ k.events ++ cycle_events (cycle_frames s) k slot (lawful_front (cycle_frames s) k slot))

-- each entry is legal after those before it
abbrev pub LegalEntries : Session → Marks → Run → List EntrySeen → Type 0
LegalEntries s marks run [] = Unit {0}
LegalEntries s marks run (e ∷ entries) = LegalEntry s marks (with_poll s e.entry.state run) e × LegalEntries s marks (with_cycle s run e) entries

-- the log is full after the round
abbrev pub fills : Session → Run → RoundSeen → Bool
fills s run round = length run.entries + length round.entries == s.script.cycles

-- The fast mixer's turn is one of 16 cycles, and each entry is legal. One that has ended makes none. `cut` says whether the turn may end since the log is full
abbrev pub LegalFastTurn : Bool → Session → Marks → Run → RoundSeen → Type 0
LegalFastTurn cut s marks run round = MatchBool (fast_ended run) (round.entries ≡ [])
    (IsFastTurn most_round_cycles (cut && fills s run round) round.entries × LegalEntries s marks (with_calls round run) (early_of run round) × LegalEntries s marks (after_turn s run round) (late_of run round))

-- ## The normal mixer's turn

-- the turn of a round follows from the rules and from what it finds; a mixer that has ended makes none
abbrev pub LegalTurnIn : Session → Marks → (Turn → TurnFound) → Run → RoundSeen → Type 0
LegalTurnIn s marks found run round = MatchBool run.normal.ended (round.turn ≡ None) (MatchOption round.turn ⊥ (λ e. LegalTurnBy (setup_of s) marks (found e) run.normal e))

abbrev pub LegalNormalTurn : Session → Marks → Run → RoundSeen → Type 0
LegalNormalTurn s marks run round = LegalTurnIn s marks (found_in s run round) run round

-- ## Histories

-- A block has a history, with the frames that were taken, at each meeting of all its parties that comes before its first poke. A hand that isn't there yet is no party
abbrev pub KeepsHistory : Bool → BlockTold → Type 0
KeepsHistory took_part b = took_part ≡ true → is_tame b ≡ true → HasBlockHistory b

-- the two blocks of a track after the meetings. All parties of a command block meet in every round
pub record TrackHistories (s : Session) (run : Run) (track : ℕ) : Type 0 where
  pub stream : KeepsHistory (takes_part s run track) (told_at run track).stream
  pub commands : KeepsHistory true (told_at run track).commands

-- the queue, the report and the pipe after the meetings
pub record SharedHistories (s : Session) (run : Run) : Type 0 where
  pub queue : HasQueueHistory (cycle_frames s) run.queue
  pub report : HasReportHistory run.report
  pub pipe : HasPipeTold (pipe_size (setup_of s)) run.pipe

-- ## The round

-- a round may follow: not all parties had ended, the log had room, and has no more entries than the script allows
pub record MayFollow (s : Session) (run : Run) (round : RoundSeen) : Type 0 where
  pub going : all_ended s run ≡ false
  pub room : length run.entries < s.script.cycles
  pub within : length run.entries + length round.entries ≤ s.script.cycles

-- each party's turn is legal
pub record AreLegalTurns (cut : Bool) (s : Session) (marks : Marks) (run : Run) (round : RoundSeen) : Type 0 where
  pub clients : (track : ℕ) → track < track_count s → LegalClientTurn (sides_of (told_at run track)) (calls_in round track)
  pub normal : LegalNormalTurn s marks run round
  pub fast : LegalFastTurn cut s marks run round

-- after the meetings each block, and the queue, the report and the pipe, have their histories
pub record HaveHistories (s : Session) (run : Run) : Type 0 where
  pub blocks : (track : ℕ) → track < track_count s → TrackHistories s run track
  pub shared : SharedHistories s run

-- the round is legal after those that led to this run
pub record LegalRound (cut : Bool) (s : Session) (marks : Marks) (run : Run) (round : RoundSeen) : Type 0 where
  pub follows : MayFollow s run round
  pub turns : AreLegalTurns cut s marks run round
  pub histories : HaveHistories s (met_after s run round)
