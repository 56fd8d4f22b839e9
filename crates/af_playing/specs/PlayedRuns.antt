-- What the rounds of all parties come to.
use Rattle.std.specs.Prelude.{◌≡◌, ◌⊎◌, ℕ, ◌<◌, ◌≤◌, ◌==◌, ◌&&◌, ◌++◌, Bool, true, false, List, [], ◌∷◌, length, Result, Ok, Err, IsErrOf}
use Rattle.std.specs.List.{list_all}
use Rattle.af_base.specs.declared.frame.Frame.{Frame}
use Rattle.af_enough.specs.Enough.{HasEnoughCycles}
use Rattle.af_io.specs.Causes.{Rose}
use Rattle.af_io.specs.Files.{Files, SameFiles, LeavesFront}
use Rattle.af_io.specs.declared.store.StoreError.{StoreError}
use Rattle.af_io.specs.declared.store.StoreError.TheVariants as store
use Rattle.af_model.specs.JournalForm.{IsJournal}
use Rattle.af_model.specs.Journals.{JournalData, RoundNoted, journal_of}
use Rattle.af_script.specs.Data.{ScriptData}
use Rattle.af_audit.specs.Drained.{EachDrainedTrackReachedItsStop}
use Rattle.af_audit.specs.Emptied.{PipeIsEmptied}
use Rattle.af_audit.specs.Fates.{EachFrameHasOneFate}
use Rattle.af_audit.specs.Settled.{SettledMeansKept}
use Rattle.af_audit.specs.Spared.{EachLawfulBlockIsSpared}
use Rattle.af_runs.specs.LegalRuns.{IsCutRun, IsLegalRun}
use Rattle.af_session.specs.NewSession.{IsNewSession}
use Rattle.af_party.specs.Parties.{PartyState}
use Rattle.af_session.specs.Ends.{EndsState, ends_from}
use Rattle.af_rendering.specs.declared.rendering.Played.{Played}
use Rattle.af_playing.specs.declared.answering.PlayFault.{PlayFault}
use Rattle.af_playing.specs.declared.answering.PlayFault.TheVariants as fault
use Rattle.af_session.specs.Rounds.{Given}
use Rattle.af_engine.specs.Shares.{SharedState}
use Rattle.af_side_by_side.specs.SideBySide.{IsRoundOfAll}
use Rattle.af_tally.specs.Sound.{pcm_of}
use Rattle.af_session.specs.Together.{SessionState}

-- ## When a run goes on

-- every client has ended, and both mixers have
abbrev pub all_ended : SessionState → Bool
all_ended s = s.normal.ended && (s.fast.exited && list_all (λ (p : PartyState). p.client.ended) s.clients)

-- the log has all the entries that it may have
abbrev pub is_full : SessionState → Bool
is_full s = length s.fast.log.entries == s.fast.cycles

-- a run goes on: some party has not ended, and the log has room
pub record GoesOn (s : SessionState) : Type 0 where
  pub some : all_ended s ≡ false
  pub room : is_full s ≡ false

-- ## Runs

-- The rounds of all parties, one after the other, from s to t, each of which finds that the run goes on: with what the journal notes, and the bytes of the sound
abbrev pub IsRunOfAll : Given → SessionState → List RoundNoted → List ℕ → SessionState → Type 0
IsRunOfAll g s [] bytes t = (bytes ≡ []) × (t ≡ s)
IsRunOfAll g s (r ∷ rs) bytes t = (front : List ℕ) × (back : List ℕ) × (m : SessionState) × GoesOn s × (bytes ≡ front ++ back) × IsRoundOfAll g s r front m × IsRunOfAll g m rs back t

-- these rounds were played from s to t, and the sound of the log grew by just their bytes
pub record RunsOfAll (g : Given) (s : SessionState) (rounds : List RoundNoted) (t : SessionState) : Type 0 where
  pub bytes : List ℕ
  pub run : IsRunOfAll g s rounds bytes t
  pub sound : pcm_of s.fast.frames t.fast.log ≡ pcm_of s.fast.frames s.fast.log ++ bytes

-- The parties t have played these rounds since they were made of the script, with the files; their bytes are the sound of the log
pub record Plays (script : ScriptData) (files : List (List Frame)) (rounds : List RoundNoted) (t : SessionState) : Type 0 where
  pub shared : SharedState
  pub start : SessionState
  pub new : IsNewSession script shared start
  pub bytes : List ℕ
  pub run : IsRunOfAll (record { tracks = script.tracks; files = files }) start rounds bytes t
  pub sound : bytes ≡ pcm_of script.frames t.fast.log

-- ## What is left and handed back

-- no file has changed, or only the file of this name, which holds a front of the sound of some first rounds
abbrev pub LeavesRun : ScriptData → List (List Frame) → List ℕ → Files → Files → Type 0
LeavesRun script files name old new = SameFiles old new
    ⊎ ((rounds : List RoundNoted) × (t : SessionState) × Plays script files rounds t × LeavesFront old name (pcm_of script.frames t.fast.log) new)

-- The journal and the ends of parties that have played rounds since they were made, no more rounds than there are cycles. The journal has these rounds, the entries of the fast mixer's log, and the form of a journal. `ended` says whether all parties have ended; if not, the log has all of its entries
pub record HandsBackRun (ended : Bool) (script : ScriptData) (files : List (List Frame)) (journal : JournalData) (ends : EndsState) : Type 0 where
  pub parties : SessionState
  pub rounds : List RoundNoted
  pub played : Plays script files rounds parties
  pub journal_is : journal ≡ journal_of (record { tracks = length script.tracks; rounds = rounds }) parties.fast.log
  pub form : IsJournal journal
  pub ends_are : ends ≡ ends_from parties
  pub count : length ends.clients ≡ length script.tracks
  pub few : length rounds ≤ script.cycles
  pub all : all_ended parties ≡ ended
  pub cut : ended ≡ false → is_full parties ≡ true

-- What is promised of the journal of a play in which all have ended, whoever made it: it is that of a legal run, in which each frame that a lawful client released has one fate, each lawful block is spared, each track reported drained has reached its stop, what is released after a START was seen settled is kept from the flushes before it, and nothing is left in the pipe
pub record KeepsPromises (script : ScriptData) (files : List (List Frame)) (journal : JournalData) : Type 0 where
  pub legal : IsLegalRun script files journal
  pub fates : EachFrameHasOneFate script files journal
  pub unshut : EachLawfulBlockIsSpared script files journal
  pub drained : EachDrainedTrackReachedItsStop script files journal
  pub settled : SettledMeansKept script files journal
  pub emptied : PipeIsEmptied script files journal

-- the journal alone keeps the promises of a play that is done; or, if not all parties have ended, it is that of a run cut off with its log full, of a script that hasn't enough cycles by the rule
abbrev pub IsLegalJournal : Bool → ScriptData → List (List Frame) → JournalData → Type 0
IsLegalJournal true script files journal = KeepsPromises script files journal
IsLegalJournal false script files journal = IsCutRun script files journal × (HasEnoughCycles script → ⊥)

-- ## Why a run was not played to its end

-- the fault of a play, by the store's refusal
abbrev pub fault_of : StoreError → PlayFault
fault_of store.Failed = fault.Store
fault_of store.Memory = fault.Memory

-- the count of the store's faults never falls, and rises exactly if the answer is Store
pub record HasStoreCause {T : Type 0} (before now : ℕ) (result : Result T PlayFault) : Type 0 where
  pub later : before ≤ now
  pub failed : IsErrOf result fault.Store → Rose before now
  pub only : before < now → IsErrOf result fault.Store

-- what is so of the journal and the ends of a run that was cut off
abbrev pub AtLimit : (JournalData → EndsState → Type 0) → PlayFault → Type 0
AtLimit P (fault.CycleLimit journal ends) = P journal ends
AtLimit P fault.Store = Unit {0}
AtLimit P fault.Memory = Unit {0}

-- what is so after a fault of the store, and after a refused allocation
abbrev pub AtFault : Type 0 → PlayFault → Type 0
AtFault P (fault.CycleLimit journal ends) = Unit {0}
AtFault P fault.Store = P
AtFault P fault.Memory = P

-- what is so of the journal and the ends that a play hands back, whether it was played to its end or cut off
abbrev pub HandedBack : (JournalData → EndsState → Type 0) → Result Played PlayFault → Type 0
HandedBack P (Ok played) = P played.journal played.ends
HandedBack P (Err fault) = AtLimit P fault
