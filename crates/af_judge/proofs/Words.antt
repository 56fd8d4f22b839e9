-- Words that lemmas alone speak of.
use Rattle.std.specs.Prelude.{◌≡◌, ℕ, ◌≤◌, List, length, ◌<◌, Bool, true, MatchBool, ◌+◌, [], ◌∷◌, ◌^◌, slice_get, Some, ◌⊎◌, if◌then◌else◌}
use Rattle.af_life.specs.Heard.{known_by}
use Rattle.af_life.specs.Kept.{nothing_heard, Setup, Learnt, NormalKept, asked, track_in}
use Rattle.af_runs.specs.Blocks.{Marks, listed}
use Rattle.af_runs.specs.Found.{TurnFound}
use Rattle.af_judge.specs.declared.track_judge.TrackJudge.{TrackJudge}
use Rattle.af_judge.specs.Blocks.{listed_in}
use Rattle.af_judge.specs.NormalTold.{IsTrackAt}
use Rattle.af_runs.specs.Runs.{Run, told_at}
use Rattle.std.specs.List.{AllByRecursion}
use Rattle.af_base.specs.declared.report.Report.{Report}
use Rattle.af_base.specs.Log.{count_seen, slots, entry_slot, frames_taken}
use Rattle.af_base.specs.Turn.{Turn, TakeSeen, ended_turn}
use Rattle.af_life.specs.Turn.{ends_now}
use Rattle.af_model.specs.Cycles.{Listed}
use Rattle.af_judge.specs.Servers.{LooksRightly}
use Rattle.af_judge.specs.NormalLooks.{AllAnswer}
use Rattle.af_judge.specs.NormalTurns.{Begins, Serves}
use Rattle.af_base.specs.declared.frame.Frame.{Frame}
use Rattle.af_model.specs.JournalForm.{IsEntry}
use Rattle.af_model.specs.Journals.{EntrySeen, taken_by, slot_frames}
use Rattle.af_base.specs.declared.state.FastState.{FastState}
use Rattle.af_runs.specs.Sessions.{Session, cycle_frames, track_count, setup_of}
use Rattle.af_runs.specs.Told.{state_at, Item, QueueTold}
use Rattle.af_judge.specs.Entries.{CarriesApart, CarriesWithin}
use Rattle.af_model.specs.declared.states.ObserverEvent.{ObserverEvent}
use Rattle.af_model.specs.Order.{ones, twos}
use Rattle.af_life.specs.Plays.{put_by}
use Rattle.af_judge.specs.declared.queue_judge.ObserverStep.{ObserverStep}
use Rattle.af_judge.specs.PipeKept.{PipeKept, front_by_room, saw_front, with_put}
use Rattle.af_judge.specs.QueueNumbers.{QueueKept}
use Rattle.af_judge.specs.SharedTold.{QueueGoes, pushes_in, pushes_told}
use Rattle.af_model.specs.declared.states.MutatorEvent.TheVariants as mutator
use Rattle.af_model.specs.declared.states.ObserverEvent.TheVariants as observer
use Rattle.af_judge.specs.declared.queue_judge.ObserverStep.TheVariants as looks

-- the frames of an entry's slots stand in the log where its slots say so
pub record StandsIn (frames : List Frame) (e : EntrySeen) : Type 0 where
  pub same : (i : ℕ) → i < slots → frames_taken frames (entry_slot e.entry i) ≡ slot_frames e i
  pub many : (i : ℕ) → i < slots → length (slot_frames e i) ≡ count_seen (entry_slot e.entry i).seen

-- the server of the stream block of each track is kept, with its mark
pub record StreamOf (marks : Marks) (run : Run) (n : ℕ) (t : TrackJudge) : Type 0 where
  pub server : listed_in t.stream ≡ listed (told_at run n).stream
  pub lawful : marks.streams n ≡ t.stream.lawful
  pub wrap : (told_at run n).stream.shape.wrap ≤ 2 ^ 31

-- each track of the run is there, with that server
pub record StreamsOf (marks : Marks) (run : Run) (tracks : List TrackJudge) : Type 0 where
  pub many : length tracks ≡ length run.tracks
  pub each : (n : ℕ) (t : TrackJudge) → slice_get tracks n ≡ Some t → StreamOf marks run n t

-- each of some entries has its form from this place in the log's frames on, and its frames stand there
abbrev pub AreFormed : List Frame → ℕ → List EntrySeen → Type 0
AreFormed frames place [] = Unit {0}
AreFormed frames place (e ∷ es) = StandsIn frames e × IsEntry place e.entry × AreFormed frames (place + taken_by e.entry) es

-- these tracks are what a turn finds in a run
pub record Finds (marks : Marks) (f : TurnFound) (tracks : List TrackJudge) : Type 0 where
  pub streams : (i : ℕ) (t : TrackJudge) → IsTrackAt tracks i t → listed (f.streams i) ≡ listed_in t.stream
  pub commands : (i : ℕ) (t : TrackJudge) → IsTrackAt tracks i t → listed (f.commands i) ≡ listed_in t.commands
  pub lawful_streams : (i : ℕ) (t : TrackJudge) → IsTrackAt tracks i t → marks.streams i ≡ t.stream.lawful
  pub lawful_commands : (i : ℕ) (t : TrackJudge) → IsTrackAt tracks i t → marks.commands i ≡ t.commands.lawful
  pub beyond : (i : ℕ) → length tracks ≤ i → known_by (listed (f.streams i)) ≡ nothing_heard

-- the blocks that a turn finds: which are lawful in the whole journal, and each server
pub record BlocksFound : Type 0 where
  pub lawful_streams : ℕ → Bool
  pub lawful_commands : ℕ → Bool
  pub streams : ℕ → Listed
  pub commands : ℕ → Listed

-- what is learnt by a report and by the blocks found
abbrev pub learnt_by : Report → BlocksFound → Learnt
learnt_by loaded b = record { report = loaded; own = λ i. known_by (b.streams i) }

-- the look of a take answers as its words say, all frames shown are taken, and its place is 0
pub record TakeAnswers (c : Setup) (b : BlocksFound) (take : TakeSeen) : Type 0 where
  pub looks : LooksRightly (b.lawful_streams take.track) (asked c) (b.streams take.track) take.slot
  pub frames : length take.frames ≡ count_seen take.slot.seen
  pub place : take.slot.first ≡ 0

-- a turn that went on answers right
pub record TurnAnswers (c : Setup) (loaded : Report) (b : BlocksFound) (m : NormalKept) (e : Turn) : Type 0 where
  pub begins : Begins c loaded m e
  pub serves : Serves c (learnt_by loaded b) m e
  pub looks : (i : ℕ) → i < length m.tracks → AllAnswer (b.lawful_commands i) (b.commands i) (track_in e i).looks
  pub takes : AllByRecursion (TakeAnswers c b) e.mixes

-- a turn is right
abbrev pub IsRightTurn : Setup → Report → BlocksFound → NormalKept → Turn → Type 0
IsRightTurn c loaded b m e = MatchBool e.ended ((ends_now m e.ack ≡ true) × (e ≡ ended_turn)) (TurnAnswers c loaded b m e)

-- a state carries each track in one slot at most, and no track that isn't there
pub record CarriesFit (s : Session) (x : FastState) : Type 0 where
  pub apart : CarriesApart x
  pub within : CarriesWithin (track_count s) x

-- each state of a run, and the draft, carries each track in one slot at most, and no track that isn't there
pub record StatesFit (s : Session) (run : Run) : Type 0 where
  pub pushed : (k : ℕ) → CarriesFit s (state_at (cycle_frames s) run.states k)
  pub draft : CarriesFit s run.normal.draft

-- some look finds a state beyond so many
abbrev pub FindsBeyond : ℕ → List ObserverStep → Type 0
FindsBeyond states [] = ⊥
FindsBeyond states (looks.Found number ∷ ls) = (states < number) ⊎ FindsBeyond states ls
FindsBeyond states (looks.Acknowledged number ∷ ls) = FindsBeyond states ls

-- some event is a look that finds a state beyond so many
abbrev pub SeesBeyond : ℕ → List (ObserverEvent Item) → Type 0
SeesBeyond states [] = ⊥
SeesBeyond states (observer.SawNext k x items ∷ es) = (states < k) ⊎ SeesBeyond states es
SeesBeyond states (observer.Ack k items ∷ es) = SeesBeyond states es
SeesBeyond states (observer.Learn count ∷ es) = SeesBeyond states es

-- a poll found a state that wasn't pushed: neither the ends' lists nor the steps kept have a legal order
pub record QueueLost (states : ℕ) (told : QueueTold) (q : QueueKept) : Type 0 where
  pub sees : SeesBeyond states (twos told)
  pub pushes : pushes_told (ones told) ≤ states
  pub finds : FindsBeyond states q.looks
  pub pushed : q.mutator.pushed + pushes_in q.steps ≤ states

-- what is kept of the queue of a run, whatever its polls found
abbrev pub QueueOf : Session → Run → QueueKept → Type 0
QueueOf s run q = QueueGoes s run q ⊎ QueueLost (length run.states) run.queue q

-- the pipe after a turn: the room is seen, and a buffer put. One that ended leaves it
abbrev pub pipe_noted : Session → Turn → PipeKept → PipeKept
pipe_noted s e p = if e.ended then p else with_put (put_by (setup_of s) e.mixes) (saw_front (front_by_room p.size (length p.put) e.room) p)

-- the turn found the blocks of the run
pub record FoundIn (f : TurnFound) (run : Run) : Type 0 where
  pub streams : (i : ℕ) → f.streams i ≡ (told_at run i).stream
  pub commands : (i : ℕ) → f.commands i ≡ (told_at run i).commands
