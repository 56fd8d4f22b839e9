-- The verdict on a journal and its PCM: the first round, and in it the least party, whose turn or history isn't legal; then the first byte that isn't that of the mix.
use Rattle.std.specs.Prelude.{◌≡◌, ◌≢◌, ℕ, zero, suc, ◌+◌, ◌<◌, ◌≤◌, ◌==◌, nat_lt, Bool, true, false, MatchBool, List, [], ◌∷◌, length, take, slice_get}
use Rattle.af_base.specs.declared.frame.Frame.{Frame}
use Rattle.af_model.specs.Journals.{RoundSeen, JournalData}
use Rattle.af_script.specs.Data.{ScriptData}
use Rattle.af_audit.specs.declared.verdict.Verdict.{Verdict}
use Rattle.af_audit.specs.declared.verdict.Verdict.TheVariants.{Legal, Refused}
use Rattle.af_audit.specs.declared.verdict.Refusal.TheVariants as refused
use Rattle.af_runs.specs.Blocks.{Marks}
use Rattle.af_runs.specs.ClientTurns.{LegalClientTurn}
use Rattle.af_runs.specs.LegalRuns.{LegalRounds, marks_of, run_from, session_of}
use Rattle.af_runs.specs.Pcm.{journal_pcm}
use Rattle.af_runs.specs.Rounds.{LegalNormalTurn, LegalFastTurn, TrackHistories, SharedHistories, met_after, after_round}
use Rattle.af_runs.specs.Runs.{Run, new_run, told_at, sides_of, calls_in, normal_party, fast_party, has_ended, all_ended}
use Rattle.af_runs.specs.Sessions.{Session}

-- ## A party in a round: the clients by their tracks, then the normal mixer, then the fast mixer

-- A client answers for its turn and for the histories of its two blocks. Client 0 answers for a round after the end of all parties
pub record ClientIsClear (s : Session) (run : Run) (round : RoundSeen) (track : ℕ) : Type 0 where
  pub going : track ≡ 0 → all_ended s run ≡ false
  pub turn : LegalClientTurn (sides_of (told_at run track)) (calls_in round track)
  pub histories : TrackHistories s (met_after s run round) track

-- the normal mixer answers for its turn and for the histories of the queue, the report and the pipe
pub record NormalIsClear (s : Session) (marks : Marks) (run : Run) (round : RoundSeen) : Type 0 where
  pub turn : LegalNormalTurn s marks run round
  pub histories : SharedHistories s (met_after s run round)

-- the fast mixer answers for its turn, for an entry beyond those that the script allows, and for a round after a full log. `cut` says whether its turn may end since the log is full
pub record FastIsClear (cut : Bool) (s : Session) (marks : Marks) (run : Run) (round : RoundSeen) : Type 0 where
  pub turn : LegalFastTurn cut s marks run round
  pub within : length run.entries + length round.entries ≤ s.script.cycles
  pub room : length run.entries < s.script.cycles

-- a party has no fault in a round
abbrev pub IsClear : Bool → Session → Marks → Run → RoundSeen → ℕ → Type 0
IsClear cut s marks run round party = MatchBool (nat_lt party (normal_party s)) (ClientIsClear s run round party) (MatchBool (party == normal_party s) (NormalIsClear s marks run round) (FastIsClear cut s marks run round))

-- no party has a fault in a round
abbrev pub AreClear : Bool → Session → Marks → Run → RoundSeen → Type 0
AreClear cut s marks run round = (party : ℕ) → party ≤ fast_party s → IsClear cut s marks run round party

-- ## The rounds of a run, which `cut` says to be cut off or not

-- each party is clear in each of these rounds, after which the run may go on
abbrev pub AllBefore : Bool → Session → Marks → Run → List RoundSeen → Type 0
AllBefore cut s marks run [] = Unit {0}
AllBefore cut s marks run (round ∷ rounds) = AreClear cut s marks run round × AllBefore cut s marks (after_round s run round) rounds

-- after its last round all parties of a run have ended; one that is cut off has its log full, and some party hasn't ended
abbrev pub MayEnd : Bool → Session → Run → Type 0
MayEnd false s run = all_ended s run ≡ true
MayEnd true s run = (length run.entries ≡ s.script.cycles) × (all_ended s run ≡ false)

-- the rounds of a run are legal, and it may end after them
abbrev pub IsRun : Bool → Session → Marks → Run → List RoundSeen → Type 0
IsRun cut s marks run rounds = LegalRounds cut s marks run rounds × MayEnd cut s (run_from s run rounds)

-- ## The first fault

-- the least of all numbers up to the last one of which `Holds` isn't true
pub record IsLeastWithout (Holds : ℕ → Type 0) (last party : ℕ) : Type 0 where
  pub is_party : party ≤ last
  pub fails : Holds party → ⊥
  pub least : (before : ℕ) → before < party → Holds before

-- no party has a fault in any round, and after the last round all have ended
abbrev pub AllClear : Session → Marks → Run → List RoundSeen → Type 0
AllClear s marks run [] = all_ended s run ≡ true
AllClear s marks run (round ∷ rounds) = AreClear false s marks run round × AllClear s marks (after_round s run round) rounds

-- The first fault is in the round of this number, from 0, and there it is that of this party. After the last round it is that of the least party that hasn't ended
abbrev pub IsFirstFault : Bool → Session → Marks → Run → List RoundSeen → ℕ → ℕ → Type 0
IsFirstFault cut s marks run [] number party = (number ≡ 0) × IsLeastWithout (λ p. has_ended s run p ≡ true) (fast_party s) party
IsFirstFault cut s marks run (round ∷ rounds) zero party = IsLeastWithout (IsClear cut s marks run round) (fast_party s) party
IsFirstFault cut s marks run (round ∷ rounds) (suc number) party = AreClear cut s marks run round × IsFirstFault cut s marks (after_round s run round) rounds number party

-- two lists of bytes are the same up to this place, and not there: the bytes differ, or one list ends
pub record FirstDiffer (a b : List ℕ) (at : ℕ) : Type 0 where
  pub same : take at a ≡ take at b
  pub inside : (at ≤ length a) × (at ≤ length b)
  pub differ : slice_get a at ≢ slice_get b at

-- ## The verdict

-- no party of the journal has a fault
abbrev pub HasNoFault : ScriptData → List (List Frame) → JournalData → Type 0
HasNoFault script files j = let s = session_of script files in AllClear s (marks_of j.rounds) (new_run s) j.rounds

-- The verdict is right: no party has a fault, the first fault is that of this party in this round, or the sound differs first at this byte. It is never about a text
abbrev pub IsVerdict : ScriptData → List (List Frame) → JournalData → List ℕ → Verdict → Type 0
IsVerdict script files j pcm Legal = HasNoFault script files j × (pcm ≡ journal_pcm script.frames j)
IsVerdict script files j pcm (Refused (refused.Text line)) = ⊥
IsVerdict script files j pcm (Refused (refused.Round round party)) =
    let s = session_of script files in IsFirstFault false s (marks_of j.rounds) (new_run s) j.rounds round party
IsVerdict script files j pcm (Refused (refused.Pcm at)) = HasNoFault script files j × FirstDiffer (journal_pcm script.frames j) pcm at
