-- What the fast mixer does in a round: which states its entries use, and what it takes of a track that they carry.
use Rattle.std.proofs.Common.{◌≡◌, ℕ, ◌+◌, ◌-◌, ◌*◌, ◌≤◌, ◌<◌, min, true, false, List, [], ◌∷◌, length, take, Some, None}
use Rattle.af_base.specs.declared.event.ServerEvent.TheVariants as server
use Rattle.af_enough_law.proofs.Common.{SlotReport, Seen, MixWrite, FastState, FastTrack, slots, entry_slot, count_seen, IsClientList, kept, state_of, last_used, is_mixed, initial, drops_none, flushes_of, EntrySeen, RoundSeen, ones, twos, report_at, slot_of, carries, BlockTold, client_list, server_list, listed, is_tame, before_turn, after_turn, after_round, Run, told_at, last_report, known_of, takes_part, fast_ended, Session, track_count, cycle_frames}
use Rattle.af_base.specs.declared.seen.Seen.TheVariants as seen
use Rattle.af_model.specs.declared.newest.ReaderEvent.TheVariants as reads
use Rattle.af_model.specs.declared.states.ObserverEvent.TheVariants as observer
use Rattle.af_model.specs.StateQueue.{mutated}
use Rattle.af_enough_law.specs.Seen.{Stands, frames_put, frames_taken, stored}

-- ## The states that are used

-- the fast mixer has learnt of all states pushed so far: at a meeting it learnt of so many events of the other end, which pushed them all
pub record KnowsStates (s : Session) (run : Run) : Type 0 where
  pub count : ℕ
  pub learnt : Stands (observer.Learn count) (twos run.queue)
  pub within : count ≤ length (ones run.queue)
  pub pushed : (mutated (initial (cycle_frames s)) (take count (ones run.queue))).pushed ≡ length run.states

-- as many pushes were told as there are states
abbrev pub CountsStates : Session → Run → Type 0
CountsStates s run = (mutated (initial (cycle_frames s)) (ones run.queue)).pushed ≡ length run.states

-- each entry uses a state of a number from the first of these to the second
abbrev pub AllUse : ℕ → ℕ → List EntrySeen → Type 0
AllUse low high [] = Unit {0}
AllUse low high (e ∷ entries) = (low ≤ e.entry.state) × (e.entry.state ≤ high) × AllUse low high entries

-- a state is pushed before the round, and P holds of the last one and of each one that is pushed in it
abbrev pub AllStates : Run → Run → (FastState → Type 0) → Type 0
AllStates run after P = (1 ≤ length run.states) × ((k : ℕ) (x : FastState) → length run.states ≤ k → state_of after.states k ≡ Some x → P x)

-- each entry is Mixed
abbrev pub AllMixed : List EntrySeen → Type 0
AllMixed [] = Unit {0}
AllMixed (e ∷ entries) = (is_mixed e.entry.cycle ≡ true) × AllMixed entries

-- all entries of a round are Mixed, and there are 16
pub record MixesAll (round : RoundSeen) : Type 0 where
  pub mixed : AllMixed round.entries
  pub count : length round.entries ≡ 16

-- ## A slot

-- the state mixes, and carries this track in this slot and in no other
pub record Plays (i : ℕ) (item : FastTrack) (x : FastState) : Type 0 where
  pub mixes : x.command ≡ MixWrite
  pub carried : carries x i ≡ true
  pub is : slot_of x i ≡ item
  pub only : (j : ℕ) → j < slots → carries x j ≡ true → (slot_of x j).track ≡ item.track → j ≡ i

-- the state carries this track in this slot and in no other, whatever it makes
pub record HasItem (i : ℕ) (item : FastTrack) (x : FastState) : Type 0 where
  pub carried : carries x i ≡ true
  pub is : slot_of x i ≡ item
  pub only : (j : ℕ) → j < slots → carries x j ≡ true → (slot_of x j).track ≡ item.track → j ≡ i

-- how many frames the entries took in a slot
abbrev pub taken_in : ℕ → List EntrySeen → ℕ
taken_in i [] = 0
taken_in i (e ∷ entries) = count_seen (entry_slot e.entry i).seen + taken_in i entries

-- how many frames the entries asked for
abbrev pub asked_in : ℕ → List EntrySeen → ℕ
asked_in asked [] = 0
asked_in asked (e ∷ entries) = asked + asked_in asked entries

-- a look showed frames, or nothing
abbrev pub IsShown : Seen → Type 0
IsShown (seen.Frames count) = 1 ≤ count
IsShown seen.Empty = Unit {0}
IsShown _ = ⊥

abbrev pub AllShown : ℕ → List EntrySeen → Type 0
AllShown i [] = Unit {0}
AllShown i (e ∷ entries) = IsShown (entry_slot e.entry i).seen × AllShown i entries

-- the server dropped nothing so far, and isn't shut
pub record IsOpen (b : BlockTold) : Type 0 where
  pub none : drops_none (server_list b) ≡ true
  pub unshut : (kept (listed b)).shut ≡ None

-- the server has learnt of all that was released so far: at a meeting it learnt of so many events of the client, which released it all
pub record KnowsReleased (b : BlockTold) : Type 0 where
  pub count : ℕ
  pub learnt : Stands (server.Learn count) (server_list b)
  pub within : count ≤ length (client_list b)
  pub released : frames_put (take count (client_list b)) ≡ frames_put (client_list b)

-- the frames released and not taken
abbrev pub frames_left_in : BlockTold → ℕ
frames_left_in b = frames_put (client_list b) - frames_taken (server_list b)

-- A track flows in a slot by a round: the states that may be used carry it there, its proxy takes part in the meeting after the round, and the normal mixer's turn adds nothing to its server's list
pub record FlowsIn (s : Session) (run : Run) (round : RoundSeen) (track i : ℕ) (item : FastTrack) : Type 0 where
  pub named : track < track_count s
  pub there : track < length run.tracks
  pub slot : i < slots
  pub item_is : item.track ≡ track
  pub states : AllStates run (after_round s run round) (Plays i item)
  pub fast : fast_ended run ≡ false
  pub knows_states : KnowsStates s run
  pub knows_released : KnowsReleased (told_at run track).stream
  pub is_open : IsOpen (told_at run track).stream
  pub few : (told_at run track).stream.shape.frames ≤ 65536
  pub part : takes_part s (after_round s run round) track ≡ true
  pub tame : is_tame (told_at (after_round s run round) track).stream ≡ true
  pub spelled : (let b = (told_at (after_round s run round) track).stream in IsClientList b.shape.frames b.shape.cells b.shape.base (client_list b))
  pub no_flush : flushes_of (client_list (told_at (after_round s run round) track).stream) ≡ 0
  pub lent : server_list (told_at (after_turn s run round) track).stream ≡ server_list (told_at (before_turn s run round) track).stream

-- what a round takes of a track in a slot: at least all that was released before it and not taken, or 16 times the frames of a cycle
pub record Flowed (s : Session) (run : Run) (round : RoundSeen) (track i : ℕ) : Type 0 where
  pub mixes : MixesAll round
  pub shown : AllShown i round.entries
  pub taken : frames_taken (server_list (told_at (after_round s run round) track).stream) ≡ frames_taken (server_list (told_at run track).stream) + taken_in i round.entries
  pub within : frames_taken (server_list (told_at (after_round s run round) track).stream) ≤ frames_put (client_list (told_at (after_round s run round) track).stream)
  pub enough : min (frames_left_in (told_at run track).stream) (16 * cycle_frames s) ≤ taken_in i round.entries
  pub is_open : IsOpen (told_at (after_round s run round) track).stream

-- ## The report of a slot

-- what the last report stored says of a slot
abbrev pub slot_told : Run → ℕ → SlotReport
slot_told run i = report_at (last_report run.reports).slots i

-- the last report says of a slot that it is of this item, how many frames were consumed, and whether the server is shut
pub record IsTold (run : Run) (track i : ℕ) (item : FastTrack) : Type 0 where
  pub generation : (slot_told run i).generation ≡ item.generation
  pub consumed : (slot_told run i).consumed ≡ (known_of (listed (told_at run track).stream)).consumed
  pub shut : (slot_told run i).shut ≡ (known_of (listed (told_at run track).stream)).shut

-- the state used last carries the slot
pub record LastCarries (run : Run) (i : ℕ) : Type 0 where
  pub state : FastState
  pub is : state_of run.states (last_used run.entries) ≡ Some state
  pub carried : carries state i ≡ true

-- how many looks showed frames, and how many showed none
abbrev pub heard_by : Seen → ℕ
heard_by (seen.Frames count) = 1
heard_by _ = 0

abbrev pub silent_by : Seen → ℕ
silent_by seen.Empty = 1
silent_by _ = 0

abbrev pub heard_in : ℕ → List EntrySeen → ℕ
heard_in i [] = 0
heard_in i (e ∷ entries) = heard_by (entry_slot e.entry i).seen + heard_in i entries

abbrev pub silent_in : ℕ → List EntrySeen → ℕ
silent_in i [] = 0
silent_in i (e ∷ entries) = silent_by (entry_slot e.entry i).seen + silent_in i entries

-- what some entries add to the counts of a slot
pub record Counted (run later : Run) (i : ℕ) (entries : List EntrySeen) : Type 0 where
  pub heard : (slot_told later i).fulls + (slot_told later i).partials ≡ (slot_told run i).fulls + (slot_told run i).partials + heard_in i entries
  pub silent : (slot_told later i).empties ≡ (slot_told run i).empties + silent_in i entries

-- the report after a round: it tells of the slot, and if the state used last before the round carried the slot too, the counts go on
pub record Reported (s : Session) (run : Run) (round : RoundSeen) (track i : ℕ) (item : FastTrack) : Type 0 where
  pub told : IsTold (after_round s run round) track i item
  pub carries_on : LastCarries (after_round s run round) i
  pub counted : LastCarries run i → Counted run (after_round s run round) i round.entries

-- ## The report that is loaded

-- as many stores were told as there are reports
abbrev pub CountsReports : Run → Type 0
CountsReports run = stored (ones run.report) ≡ length run.reports

-- the normal mixer has learnt of all reports so far: at a meeting it learnt of so many events of the other end, which stored them all
pub record KnowsReports (run : Run) : Type 0 where
  pub count : ℕ
  pub learnt : Stands (reads.Learn count) (twos run.report)
  pub within : count ≤ length (ones run.report)
  pub all : stored (take count (ones run.report)) ≡ length run.reports

-- What a later report says of a slot: the slot is of this item, and no count fell
pub record Since (before now : SlotReport) (item : FastTrack) : Type 0 where
  pub generation : now.generation ≡ item.generation
  pub heard : before.fulls + before.partials ≤ now.fulls + now.partials
  pub silent : before.empties ≤ now.empties
  pub consumed : before.consumed ≤ now.consumed
