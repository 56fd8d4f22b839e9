-- What a judge keeps of a run while all parties were clear, and what it finds of a round.
use Rattle.std.specs.Prelude.{◌≡◌, ℕ, ◌+◌, ◌<◌, ◌≤◌, ◌^◌, ◌==◌, nat_lt, Bool, true, false, if◌then◌else◌, List, [], length, map, take, slice_index_or, Option, Some, None}
use Rattle.af_base.specs.declared.event.ClientCall.{ClientCall}
use Rattle.af_base.specs.declared.frame.Frame.{Frame}
use Rattle.af_base.specs.Sample.{packed_word}
use Rattle.af_base.specs.declared.report.Report.{Report}
use Rattle.af_judge.specs.declared.track_judge.TrackJudge.{TrackJudge}
use Rattle.af_judge.specs.Blocks.{new_judged}
use Rattle.af_judge.specs.FastKept.{fast_begins}
use Rattle.af_judge.specs.NormalTold.{IsTrackAt}
use Rattle.af_judge.specs.Entries.{FastOf}
use Rattle.af_judge.specs.RunTold.{KeepsTracks, NormalOf}
use Rattle.af_judge.specs.SharedTold.{BesideQueue, QueueGoes}
use Rattle.af_judge.specs.StatesKept.{StatesKept}
use Rattle.af_judge.specs.Tracks.{AreSpelled, KeepsTrack, SameServers}
use Rattle.af_life.specs.Kept.{new_normal, pipe_size}
use Rattle.af_model.specs.Cycles.{UseUpTo}
use Rattle.af_model.specs.Journals.{RoundSeen}
use Rattle.af_runs.specs.Blocks.{Marks}
use Rattle.af_runs.specs.Clients.{new_client}
use Rattle.af_runs.specs.ClientTurns.{LegalClientTurn, Track, after_calls, new_side}
use Rattle.af_runs.specs.LegalRuns.{is_lawful_block, run_from}
use Rattle.af_runs.specs.Rounds.{after_round}
use Rattle.af_runs.specs.Runs.{Run, fast_party, new_run, pipe_cells, sides_of, told_at}
use Rattle.af_runs.specs.Sessions.{Session, command_shape, file_words, no_spec, script_setup, stream_shape, track_count}
use Rattle.af_script.specs.Data.{ScriptData}
use Rattle.af_script.specs.declared.track.TrackSpec.{TrackSpec}
use Rattle.af_audit.specs.Verdicts.{AllBefore, AllClear, IsClear, IsFirstFault}
use Rattle.af_audit.specs.declared.run_judge.Found.{Found}
use Rattle.af_audit.specs.declared.run_judge.RunJudge.{RunJudge}

-- ## Least ones

-- the least number below a bound of which `Holds` isn't true; None if it is true of all
abbrev pub LeastBelow : (ℕ → Type 0) → ℕ → Option ℕ → Type 0
LeastBelow Holds bound None = (i : ℕ) → i < bound → Holds i
LeastBelow Holds bound (Some i) = (i < bound) × (Holds i → ⊥) × ((before : ℕ) → before < i → Holds before)

-- the least number found, after one more number that is right or not
abbrev pub found_after : Option ℕ → Bool → ℕ → Option ℕ
found_after (Some x) right at = Some x
found_after None true at = None
found_after None false at = Some at

-- ## The ends

-- the client of a track has ended
abbrev pub client_ended : List TrackJudge → ℕ → Bool
client_ended tracks track = slice_index_or (map (λ t. t.client.client.ended) tracks) track true

-- a party has ended
abbrev pub party_ended : RunJudge → List TrackJudge → ℕ → Bool
party_ended j tracks party = if nat_lt party (length tracks) then client_ended tracks party else if party == length tracks then j.normal.plain.kept.ended else j.fast.ended

-- ## What is found of a round

-- the lesser of two clients
abbrev pub lesser : Option ℕ → Option ℕ → Option ℕ
lesser None b = b
lesser (Some x) None = Some x
lesser (Some x) (Some y) = if nat_lt y x then Some y else Some x

-- the least mixer that isn't clear
abbrev pub least_mixer : ℕ → Bool → Bool → Option ℕ
least_mixer tracks false _ = Some tracks
least_mixer tracks true false = Some (tracks + 1)
least_mixer tracks true true = None

-- the least client found, and else the least mixer
abbrev pub least_party : ℕ → Bool → Bool → Option ℕ → Option ℕ
least_party tracks normal fast (Some track) = Some track
least_party tracks normal fast None = least_mixer tracks normal fast

-- the least party at fault: client 0 for a round behind the end of all parties
abbrev pub least_found : Bool → ℕ → Found → Option ℕ
least_found over tracks f = if over then Some 0 else least_party tracks f.normal f.fast (lesser f.caller f.met)

-- ## What is kept of a run

-- a track of a number as its client has it: the words of its file, lists of a client that keeps to its calls, and blocks that are small enough
pub record IsFit (s : Session) (n : ℕ) (t : Track) : Type 0 where
  pub file : t.file ≡ file_words s n
  pub spelled : AreSpelled t
  pub stream : t.stream.shape.frames ≤ 65536
  pub commands : t.commands.shape.frames ≤ 65536

-- each track of a run is fit
abbrev pub AreFit : Session → Run → Type 0
AreFit s run = (n : ℕ) → n < track_count s → IsFit s n (sides_of (told_at run n))

-- the run after the first rounds
abbrev pub run_before : Session → List RoundSeen → ℕ → Run
run_before s rounds n = run_from s (new_run s) (take n rounds)

-- The tracks as their clients have them and as they are judged, the normal mixer and its states, the fast mixer, and what both share. Each poll found a state that was pushed, each turn so far was legal, and no report was loaded since the last meeting
pub record KeepsRun (s : Session) (marks : Marks) (j : RunJudge) (tracks : List TrackJudge) (run : Run) : Type 0 where
  pub of_tracks : KeepsTracks s marks (λ i. Unit {0}) tracks run
  pub fit : AreFit s run
  pub normal : NormalOf s run j.normal
  pub states : StatesKept s run.normal run.states
  pub earlier : List Report
  pub fast : FastOf s earlier run j.fast
  pub draft : j.fast.told.draft ≡ run.normal.draft
  pub used : UseUpTo (length run.states) run.entries
  pub queue : QueueGoes s run j.fast.queue
  pub beside : BesideQueue s run j.report j.fast.pipe
  pub unloaded : j.report.loaded ≡ None
  pub cycles : j.cycles ≡ s.script.cycles

-- The least party of a round that isn't clear is found, or none. If none is found, what the judge keeps is kept of the run after the round
pub record JudgesRound (cut : Bool) (s : Session) (marks : Marks) (run : Run) (round : RoundSeen) (j : RunJudge) (tracks : List TrackJudge) (found : Option ℕ) : Type 0 where
  pub least : LeastBelow (IsClear cut s marks run round) (fast_party s + 1) found
  pub kept : found ≡ None → KeepsRun s marks j tracks (after_round s run round)

-- what is found of some rounds is their first fault, or they have none
abbrev pub FindsFault : Session → Marks → Run → List RoundSeen → Option (ℕ × ℕ) → Type 0
FindsFault s marks run rounds None = AllClear s marks run rounds
FindsFault s marks run rounds (Some at) = IsFirstFault false s marks run rounds at.0 at.1

-- the first of some rounds that isn't clear is found, with its least party, or none. If none is found, what the judge keeps is kept of the run after these rounds
abbrev pub FindsUnclear : Bool → Session → Marks → Run → List RoundSeen → RunJudge → List TrackJudge → Option (ℕ × ℕ) → Type 0
FindsUnclear cut s marks run rounds j tracks None = AllBefore cut s marks run rounds × KeepsRun s marks j tracks (run_from s run rounds)
FindsUnclear cut s marks run rounds j tracks (Some at) = IsFirstFault cut s marks run rounds at.0 at.1

-- ## Before the first round

-- a track of a script, whose blocks are marked by the pokes of the journal
pub record IsNewTrack (script : ScriptData) (rounds : List RoundSeen) (i : ℕ) (t : TrackJudge) : Type 0 where
  pub client : (words : List ℕ) → (let spec = slice_index_or script.tracks i no_spec in KeepsTrack spec.ops t (record { file = words; client = new_client spec.ops; stream = new_side (stream_shape script.version spec); commands = new_side command_shape }))
  pub stream : t.stream ≡ new_judged (stream_shape script.version (slice_index_or script.tracks i no_spec)) (is_lawful_block false rounds i)
  pub commands : t.commands ≡ new_judged command_shape (is_lawful_block true rounds i)
  pub wrap : (stream_shape script.version (slice_index_or script.tracks i no_spec)).wrap ≤ 2 ^ 31
  pub few : (slice_index_or script.tracks i no_spec).frames ≤ 65536

-- the first tracks are new tracks of a script
abbrev pub AreNewTracks : ScriptData → List RoundSeen → ℕ → List TrackJudge → Type 0
AreNewTracks script rounds count tracks = (i : ℕ) (t : TrackJudge) → i < count → IsTrackAt tracks i t → IsNewTrack script rounds i t

-- the mixers of a script, before the first round
pub record IsNewJudge (script : ScriptData) (j : RunJudge) : Type 0 where
  pub setup : j.normal.setup ≡ script_setup script
  pub kept : j.normal.plain.kept ≡ new_normal (script_setup script)
  pub states : j.normal.states ≡ []
  pub handed : j.normal.handed ≡ false
  pub fast : j.fast ≡ fast_begins script.frames (pipe_size (script_setup script)) (pipe_cells (script_setup script))
  pub report : j.report ≡ record { met = 0; loaded = None }
  pub cycles : j.cycles ≡ script.cycles

-- ## The calls of a round

-- each track has the file of its number, and is kept
pub record AreSides (specs : List TrackSpec) (files : List (List Frame)) (tracks : List TrackJudge) (run : ℕ → Track) : Type 0 where
  pub file : (i : ℕ) → i < length tracks → (run i).file ≡ map packed_word (slice_index_or files i [])
  pub kept : (i : ℕ) (t : TrackJudge) → IsTrackAt tracks i t → KeepsTrack (slice_index_or specs i no_spec).ops t (run i)

-- The calls of the first clients are judged: the least client is found whose turn isn't legal, and if a track's turn was legal, what is kept of the track is that after the turn. The servers and the other tracks are as before
pub record CallsJudged (count : ℕ) (specs : List TrackSpec) (files : List (List Frame)) (calls : ℕ → List ClientCall) (before after : List TrackJudge) (found : Option ℕ) : Type 0 where
  pub servers : (i : ℕ) (t k : TrackJudge) → i < count → IsTrackAt before i t → IsTrackAt after i k → SameServers t k
  pub others : (i : ℕ) (t : TrackJudge) → count ≤ i → IsTrackAt after i t → IsTrackAt before i t
  pub turns : (run : ℕ → Track) → AreSides specs files before run → LeastBelow (λ i. LegalClientTurn (run i) (calls i)) count found
  pub kept : (run : ℕ → Track) → AreSides specs files before run → (i : ℕ) (k : TrackJudge) → i < count → IsTrackAt after i k → LegalClientTurn (run i) (calls i) → KeepsTrack (slice_index_or specs i no_spec).ops k (after_calls (run i) (calls i))
