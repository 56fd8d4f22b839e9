-- A script that was played in rounds, its journal and its line.
use Rattle.std.proofs.Common.{◌≡◌, ◌∙◌, ◌≤◌, ℕ, Bool, true, false, List, Some, Ok, Err, IfOk, Result, String, length, string_bytes, ap, arith, inl, inr, refl, subst, sym}
use Rattle.af_commands.proofs.Common.{Ending, EndsState, Files, Global, HandsBackRun, HoldsAtMeetings, IsLegalJournal, IsOneReading, IsScript, JournalData, KeepsFiles, KeepsPlay, LeavesFront, LeavesRun, Limit, Memory, OfRounds, Over, PlayFault, Played, Refused, SameFiles, Session as Loaded, SetsFile, Stop, Store, Summary, done_alone, entries_seen, files_are, journal_of, journal_pcm, limit_line, play_job, rounds_seen, run_of, summary_by, text_of, with_file}
use Rattle.af_model.proofs.Basics.{same_rounds}
use Rattle.af_journal.proofs.OneJournal.{read-back}
use Rattle.af_playing.specs.declared.answering.PlayFault.TheVariants as fault
use Rattle.af_playing.proofs.RoundsSoFar.{are_rounds, sounds}
use Rattle.af_commands.specs.Ends.{Makes}
use Rattle.af_commands.specs.Plays.{IsPlay, IsPlayed, IsSomePlayLine, LeavesRounds, LeavesText, run_line}
use Rattle.af_commands.specs.Sessions.{summary_line}
use Rattle.af_commands.specs.Told.{Tells, TellsText}

-- a legal journal, and what follows of it up to the meetings
pub record IsKept (ended : Bool) (l : Loaded) (journal : JournalData) : Type 0 where
  pub legal : IsLegalJournal ended l.script l.files journal
  pub met : HoldsAtMeetings l.script l.files journal

-- a play in which all parties have ended keeps the promises of its journal
pub promises : (l : Loaded) (accepted : IsScript l.script) → OfRounds HoldsAtMeetings → (p : Played) → KeepsPlay l.script l.files (Ok p) → IsKept true l p.journal
promises l accepted follows p keeps = record {
  legal = keeps.done.promises;
  met = follows false l.script l.files p.journal accepted keeps.done.promises.legal.rounds;
}

-- a play that was cut off keeps the promises of its journal
pub cut_short : (l : Loaded) (accepted : IsScript l.script) → OfRounds HoldsAtMeetings → (journal : JournalData) (ends : EndsState) → KeepsPlay l.script l.files (Err (fault.CycleLimit journal ends)) → IsKept false l journal
cut_short l accepted follows journal ends keeps = record { legal = (keeps.limit.cut_run, keeps.enough); met = follows true l.script l.files journal accepted keeps.limit.cut_run.rounds }

-- the text of a run's journal is read as this journal alone
pub read_alone : (ended : Bool) (l : Loaded) (journal : JournalData) (ends : EndsState) → HandsBackRun ended l.script l.files journal ends → IsOneReading (length l.script.tracks) (text_of journal) journal
read_alone ended l journal ends back = subst (λ (tracks : ℕ). IsOneReading tracks (text_of journal) journal) (ap (λ (j : JournalData). j.tracks) back.journal_is) (read-back journal back.form)

module _ (ended : Bool) (l : Loaded) (journal : JournalData) (ends : EndsState) (back : HandsBackRun ended l.script l.files journal ends) (legal : IsKept ended l journal) where
  abbrev bytes : List ℕ
  bytes = journal_pcm l.script.frames journal

  pub few_rounds : length journal.rounds ≤ l.script.cycles
  few_rounds =
      let log = back.parties.fast.log in
      let count : length journal.rounds ≡ length (rounds_seen (entries_seen log.frames log.entries) back.rounds) = ap (λ (j : JournalData). length j.rounds) back.journal_is in
      let same = same_rounds (entries_seen log.frames log.entries) back.rounds in
      let few = back.few in
      omega (arith, count, same, few)

  abbrev pub is_play : (line : List ℕ) → line ≡ run_line ended l.script l.files journal → IsPlay ended l.script l.files bytes (text_of journal) line
  is_play line is = record { journal = journal; legal = legal.legal; met = legal.met; few = few_rounds; bytes_are = refl; text_is = refl; read = read_alone ended l journal ends back; line_is = is }

  module _ (target name : List ℕ) (old mid : Files) (set : SetsFile old target (Some bytes) mid) where
    made : with_file old (record { name = target; bytes = bytes }) ≡ mid
    made = files_are mid (with_file old (record { name = target; bytes = bytes })) (λ other. sym (set other))

    -- both files are whole
    pub played : (line : List ℕ) (new : Files) → line ≡ run_line ended l.script l.files journal → SetsFile mid name (Some (text_of journal)) new → IsPlayed ended l.script l.files target name line old new
    played line new is text =
        (bytes, text_of journal, is_play line is, subst (λ (files : Files). SetsFile files name (Some (text_of journal)) new) (sym made) text)

    -- the text is not whole, or all that is left to do is to print
    pub text_left : (new : Files) → LeavesFront mid name (text_of journal) new → LeavesText l.script l.files target name old new
    text_left new left = (
      ended,
      bytes,
      text_of journal,
      run_line ended l.script l.files journal,
      is_play (run_line ended l.script l.files journal) refl,
      subst (λ (files : Files). LeavesFront files name (text_of journal) new) (sym made) left,
    )

-- ## A run in which all parties have ended

module _ (l : Loaded) (journal : JournalData) (ends : EndsState) (back : HandsBackRun true l.script l.files journal ends) (legal : IsKept true l journal) (summary : Summary) (summary_is : summary ≡ summary_by l.script journal (run_of l.script l.files journal)) where
  pub line_told : (line : List ℕ) → line ≡ summary_line summary → line ≡ run_line true l.script l.files journal
  line_told line is = is ∙ ap summary_line summary_is

  pub some_play_line : (line : List ℕ) → line ≡ summary_line summary → IsSomePlayLine line
  some_play_line line is = (l.script, l.files, journal_pcm l.script.frames journal, text_of journal, is_play true l journal ends back legal line (line_told line is))

  module _ (target name : List ℕ) (old mid new : Files) (set : SetsFile old target (Some (journal_pcm l.script.frames journal)) mid) (text : SetsFile mid name (Some (text_of journal)) new) where
    pub Makes-rounds : (line : String Global) → string_bytes line ≡ summary_line summary → Makes (Ok line) (Ok (play_job target name l)) old new
    Makes-rounds line is = played true l journal ends back legal target name old mid set (string_bytes line) new (line_told (string_bytes line) is) text

-- ## A run that was cut off

pub Makes-cut : (l : Loaded) (journal : JournalData) (ends : EndsState) → HandsBackRun false l.script l.files journal ends → IsKept false l journal → (target name : List ℕ) (old mid new : Files)
    → SetsFile old target (Some (journal_pcm l.script.frames journal)) mid → SetsFile mid name (Some (text_of journal)) new
    → (cycles : ℕ) → cycles ≡ l.script.cycles → Makes (Err (Over (Limit cycles))) (Ok (play_job target name l)) old new
Makes-cut l journal ends back legal target name old mid new set text cycles is =
    (is, played false l journal ends back legal target name old mid set (limit_line cycles) new (ap limit_line is) text)

-- ## What a play answers

-- what is left of the sound of some first rounds is left of that of their journal, and stays if no file changes
pub leaves_rounds : (l : Loaded) (target : List ℕ) (old mid new : Files) → LeavesRun l.script l.files target old mid → SameFiles mid new → LeavesRounds l.script l.files target old new
leaves_rounds l target old mid new left same = subst (λ (files : Files). LeavesRounds l.script l.files target old files) (sym (files_are mid new same)) (by_journal left)
  where
    by_journal : LeavesRun l.script l.files target old mid → LeavesRounds l.script l.files target old mid
    by_journal (inl none) = inl none
    by_journal (inr (rounds, t, played, front)) = inr (
      journal_of (record { tracks = length l.script.tracks; rounds = rounds }) t.fast.log,
      are_rounds l.script l.files rounds t played,
      subst (λ (bytes : List ℕ). LeavesFront old target bytes mid) (sym (sounds l.script l.files rounds t played)) front,
    )

module _ (l : Loaded) (accepted : IsScript l.script) (follows : OfRounds HoldsAtMeetings) (cycles : ℕ) where
  pub some_play_told : (played : Result Played PlayFault) (result : Result (String Global) Stop) → KeepsPlay l.script l.files played → Tells cycles played result → IfOk result (λ line. IsSomePlayLine (string_bytes line))
  some_play_told (Ok p) (Ok line) keeps told = some_play_line l p.journal p.ends keeps.done.played (promises l accepted follows p keeps) p.summary (keeps.done.summary ∙ (done_alone l.script l.files p keeps.done).summary) (string_bytes line) told
  some_play_told (Err (fault.CycleLimit journal ends)) (Ok line) keeps none = absurd none
  some_play_told (Err fault.Store) (Ok line) keeps clash = let none : ⊥ = cc in absurd none
  some_play_told (Err fault.Memory) (Ok line) keeps clash = let none : ⊥ = cc in absurd none
  some_play_told played (Err stop) keeps told = tt

  module _ (cycles_are : cycles ≡ l.script.cycles) (target name : List ℕ) (old mid new : Files) where
    pub Makes-told : (played : Result Played PlayFault) (result : Result (String Global) Stop) → KeepsPlay l.script l.files played → KeepsFiles l.script l.files target old mid played
        → Tells cycles played result → TellsText name played result mid new → Makes result (Ok (play_job target name l)) old new
    Makes-told (Ok p) (Ok line) keeps kept told text = Makes-rounds l p.journal p.ends keeps.done.played (promises l accepted follows p keeps) p.summary (keeps.done.summary ∙ (done_alone l.script l.files p keeps.done).summary) target name old mid new kept.written text line told
    Makes-told (Ok p) (Err (Refused refusal)) keeps kept none text = absurd none
    Makes-told (Ok p) (Err (Over over)) keeps kept none text = absurd none
    Makes-told (Ok p) (Err Store) keeps kept told text = inl (inr (inr (text_left true l p.journal p.ends keeps.done.played (promises l accepted follows p keeps) target name old mid kept.written new text)))
    Makes-told (Ok p) (Err Memory) keeps kept told text = inl (inr (inr (text_left true l p.journal p.ends keeps.done.played (promises l accepted follows p keeps) target name old mid kept.written new text)))
    Makes-told (Err (fault.CycleLimit journal ends)) (Ok line) keeps kept none text = absurd none
    Makes-told (Err (fault.CycleLimit journal ends)) (Err (Refused refusal)) keeps kept none text = absurd none
    Makes-told (Err (fault.CycleLimit journal ends)) (Err (Over over)) keeps kept is text =
        subst (λ (o : Ending). Makes (Err (Over o)) (Ok (play_job target name l)) old new) (sym is)
        (Makes-cut l journal ends keeps.limit.played (cut_short l accepted follows journal ends keeps) target name old mid new kept.cut text cycles cycles_are)
    Makes-told (Err (fault.CycleLimit journal ends)) (Err Store) keeps kept told text = inl (inr (inr (text_left false l journal ends keeps.limit.played (cut_short l accepted follows journal ends keeps) target name old mid kept.cut new text)))
    Makes-told (Err (fault.CycleLimit journal ends)) (Err Memory) keeps kept told text = inl (inr (inr (text_left false l journal ends keeps.limit.played (cut_short l accepted follows journal ends keeps) target name old mid kept.cut new text)))
    Makes-told (Err fault.Store) result keeps kept is same =
        subst (λ (r : Result (String Global) Stop). Makes r (Ok (play_job target name l)) old new) (sym is) (inl (inr (inl (leaves_rounds l target old mid new kept.left same))))
    Makes-told (Err fault.Memory) result keeps kept is same =
        subst (λ (r : Result (String Global) Stop). Makes r (Ok (play_job target name l)) old new) (sym is) (inl (inr (inl (leaves_rounds l target old mid new kept.left same))))
