-- Which journals are legal runs, cut runs and runs so far of a script and files.
use Rattle.std.specs.Prelude.{◌≡◌, ℕ, ◌&&◌, Bool, true, false, not, List, [], ◌∷◌, length}
use Rattle.std.specs.List.{list_any}
use Rattle.af_base.specs.declared.event.ClientCall.{ClientCall}
use Rattle.af_base.specs.declared.event.ClientCall.TheVariants as call
use Rattle.af_base.specs.declared.frame.Frame.{Frame}
use Rattle.af_model.specs.JournalForm.{IsJournal}
use Rattle.af_model.specs.Journals.{RoundSeen, JournalData}
use Rattle.af_script.specs.Data.{ScriptData}
use Rattle.af_runs.specs.Blocks.{Marks}
use Rattle.af_runs.specs.Rounds.{LegalRound, after_round}
use Rattle.af_runs.specs.Runs.{Run, new_run, calls_in, all_ended}
use Rattle.af_runs.specs.Sessions.{Session}

-- ## Which blocks are lawful

-- the call pokes the command block, or else the stream block
abbrev pub is_poke_on : Bool → ClientCall → Bool
is_poke_on true (call.Poke true word value) = true
is_poke_on false (call.Poke false word value) = true
is_poke_on _ _ = false

-- a block is lawful if its client never pokes it in the whole journal
abbrev pub is_lawful_block : Bool → List RoundSeen → ℕ → Bool
is_lawful_block commands rounds track = not (list_any (λ round. list_any (is_poke_on commands) (calls_in round track)) rounds)

-- which stream blocks and which command blocks are lawful
abbrev pub marks_of : List RoundSeen → Marks
marks_of rounds = record { streams = is_lawful_block false rounds; commands = is_lawful_block true rounds }

-- a track is lawful if both its blocks are
abbrev pub is_lawful_track : List RoundSeen → ℕ → Bool
is_lawful_track rounds track = is_lawful_block false rounds track && is_lawful_block true rounds track

-- ## Rounds

-- what is played: a script and its files
abbrev pub session_of : ScriptData → List (List Frame) → Session
session_of script files = record { script = script; files = files }

-- the run after some rounds
abbrev pub run_from : Session → Run → List RoundSeen → Run
run_from s run [] = run
run_from s run (round ∷ rounds) = run_from s (after_round s run round) rounds

-- the run that a journal tells
abbrev pub run_of : ScriptData → List (List Frame) → JournalData → Run
run_of script files j = let s = session_of script files in run_from s (new_run s) j.rounds

-- each round is legal after those before it
abbrev pub LegalRounds : Bool → Session → Marks → Run → List RoundSeen → Type 0
LegalRounds cut s marks run [] = Unit {0}
LegalRounds cut s marks run (round ∷ rounds) = LegalRound cut s marks run round × LegalRounds cut s marks (after_round s run round) rounds

-- ## Journals

-- A journal of the script's tracks, each round of which is legal: a run so far. If it may be cut off, the last turn of the fast mixer may have ended since the log is full. After no round before the last have all parties ended
pub record HasLegalRounds (cut : Bool) (script : ScriptData) (files : List (List Frame)) (j : JournalData) : Type 0 where
  pub tracks : j.tracks ≡ length script.tracks
  pub form : IsJournal j
  pub rounds : LegalRounds cut (session_of script files) (marks_of j.rounds) (new_run (session_of script files)) j.rounds

-- a legal run: after the last round, and after none before it, all parties have ended
pub record IsLegalRun (script : ScriptData) (files : List (List Frame)) (j : JournalData) : Type 0 where
  pub rounds : HasLegalRounds false script files j
  pub ends : all_ended (session_of script files) (run_of script files j) ≡ true

-- a cut run: after the last round, and after none before it, the log is full, and some party hasn't ended
pub record IsCutRun (script : ScriptData) (files : List (List Frame)) (j : JournalData) : Type 0 where
  pub rounds : HasLegalRounds true script files j
  pub full : length (run_of script files j).entries ≡ script.cycles
  pub going : all_ended (session_of script files) (run_of script files j) ≡ false
