-- A script that was played in rounds with a log: its journal, its log and its line.
use Rattle.std.proofs.Common.{◌≡◌, ◌∙◌, ◌⊎◌, ℕ, ◌≤◌, true, false, List, [], ◌∷◌, ◌++◌, Some, Ok, Err, Result, String, string_bytes, ap, inl, inr, refl, subst, sym}
use Rattle.af_commands.proofs.Common.{AppendsLogOfPlay, Ending, EndsState, Files, Global, HandsBackRun, HoldsAtMeetings, IsScript, JournalData, KeepsFiles, KeepsPlay, LeavesFront, Limit, Memory, OfRounds, Over, PlayFault, Played, Refused, Session as Loaded, SetsFile, Stop, Store, Summary, done_alone, files_are, journal_pcm, limit_line, run_of, summary_by, text_of, trace_job, with_file, with_files}
use Rattle.af_nblog.specs.declared.entries.Note.{Note}
use Rattle.af_nblog.specs.LogText.{log_text}
use Rattle.af_playing.specs.declared.answering.PlayFault.TheVariants as fault
use Rattle.af_side_by_side.specs.Logging.{IsLogOf}
use Rattle.af_commands.specs.Ends.{Makes}
use Rattle.af_commands.specs.Plays.{run_line, LeavesPlay}
use Rattle.af_commands.specs.Sessions.{summary_line}
use Rattle.af_commands.specs.Told.{Tells, TellsTexts}
use Rattle.af_commands.specs.Traces.{IsTrace, IsTraced, LeavesLog}
use Rattle.af_commands.proofs.PlayedRounds.{IsKept, cut_short, is_play, leaves_rounds, line_told, played, promises, text_left}

-- a list that was empty holds what was appended to it
appended : (held new empty more : List ℕ) → held ≡ new → new ≡ empty ++ more → empty ≡ [] → held ≡ more
appended held new empty more is grown none = is ∙ grown ∙ ap (λ (xs : List ℕ). xs ++ more) none

module _ (l : Loaded) (room : ℕ) (journal : JournalData) (ends : EndsState) (back : HandsBackRun true l.script l.files journal ends) (legal : IsKept true l journal) (notes : List Note) (refused : ℕ) (log_of : IsLogOf l.script.frames room journal notes refused) (kept : 32 ≤ room → refused ≡ 0) where
  abbrev bytes : List ℕ
  bytes = journal_pcm l.script.frames journal

  abbrev told : List ℕ
  told = log_text notes refused

  is_trace : (line : List ℕ) → line ≡ run_line true l.script l.files journal → IsTrace l.script l.files room bytes (text_of journal) told line
  is_trace line is = record { play = is_play true l journal ends back legal line is; notes = notes; refused = refused; log_of = log_of; log_is = refl; all_kept = kept }

  module _ (target name log : List ℕ) (old mid next : Files) (set : SetsFile old target (Some bytes) mid) (text : SetsFile mid name (Some (text_of journal)) next) where
    both : with_files old (record { name = target; bytes = bytes } ∷ record { name = name; bytes = text_of journal } ∷ []) ≡ next
    both =
        ap (λ (files : Files). with_file files (record { name = name; bytes = text_of journal })) (files_are mid (with_file old (record { name = target; bytes = bytes })) (λ other. sym (set other)))
        ∙ files_are next (with_file mid (record { name = name; bytes = text_of journal })) (λ other. sym (text other))

    -- all three files are whole
    traced : (line : List ℕ) (new : Files) → line ≡ run_line true l.script l.files journal → SetsFile next log (Some told) new → IsTraced l.script l.files room target name log line old new
    traced line new is wrote = (bytes, text_of journal, told, is_trace line is, subst (λ (files : Files). SetsFile files log (Some told) new) (sym both) wrote)

    -- the log is not whole
    log_left : (new : Files) → LeavesFront next log told new → LeavesLog l.script l.files room target name log old new
    log_left new left = (
      bytes,
      text_of journal,
      told,
      run_line true l.script l.files journal,
      is_trace (run_line true l.script l.files journal) refl,
      subst (λ (files : Files). LeavesFront files log told new) (sym both) left,
    )

    pub Makes-traced : (summary : Summary) → summary ≡ summary_by l.script journal (run_of l.script l.files journal) → (new : Files) → SetsFile next log (Some told) new → (line : String Global) → string_bytes line ≡ summary_line summary → Makes (Ok line) (Ok (trace_job target name log room l)) old new
    Makes-traced summary summary_is new wrote line is = traced (string_bytes line) new (line_told l journal ends back legal summary summary_is (string_bytes line) is) wrote

-- ## If no log is written

-- a run that was cut off makes its sound and its journal, and no log
pub Makes-cut_log : (l : Loaded) (room : ℕ) (journal : JournalData) (ends : EndsState) → HandsBackRun false l.script l.files journal ends → IsKept false l journal → (target name log : List ℕ) (old mid new : Files)
    → SetsFile old target (Some (journal_pcm l.script.frames journal)) mid → SetsFile mid name (Some (text_of journal)) new
    → (cycles : ℕ) → cycles ≡ l.script.cycles → Makes (Err (Over (Limit cycles))) (Ok (trace_job target name log room l)) old new
Makes-cut_log l room journal ends back legal target name log old mid new set text cycles is =
    (is, played false l journal ends back legal target name old mid set (limit_line cycles) new (ap limit_line is) text)

-- ## What a play with a log answers

module _ (l : Loaded) (accepted : IsScript l.script) (follows : OfRounds HoldsAtMeetings) (room : ℕ) (target name log : List ℕ) (old mid new : Files) where
  -- the journal is not whole, or the log is not
  trace_left : (p : Played) → KeepsPlay l.script l.files (Ok p) → SetsFile old target (Some (journal_pcm l.script.frames p.journal)) mid → (notes : List Note) (refused : ℕ) → IsLogOf l.script.frames room p.journal notes refused → (32 ≤ room → refused ≡ 0) → (held : List ℕ) → held ≡ log_text notes refused
      → LeavesFront mid name (text_of p.journal) new ⊎ ((next : Files) × SetsFile mid name (Some (text_of p.journal)) next × LeavesFront next log held new)
      → LeavesPlay l.script l.files target name old new ⊎ LeavesLog l.script l.files room target name log old new
  trace_left p keeps set notes refused log_of kept held is (inl left) = inl (inr (text_left true l p.journal p.ends keeps.done.played (promises l accepted follows p keeps) target name old mid set new left))
  trace_left p keeps set notes refused log_of kept held is (inr (next, text, left)) =
      inr (log_left l room p.journal p.ends keeps.done.played (promises l accepted follows p keeps) notes refused log_of kept target name log old mid next set text new
      (subst (λ (xs : List ℕ). LeavesFront next log xs new) is left))

  module _ (held grown empty : List ℕ) (held_is : held ≡ grown) (none : empty ≡ []) (cycles : ℕ) (cycles_are : cycles ≡ l.script.cycles) where
    pub Makes-logged : (played : Result Played PlayFault) (result : Result (String Global) Stop) → KeepsPlay l.script l.files played → KeepsFiles l.script l.files target old mid played
        → AppendsLogOfPlay l.script.frames room played empty grown
        → Tells cycles played result → TellsTexts name log held played result mid new → Makes result (Ok (trace_job target name log room l)) old new
    Makes-logged (Ok p) (Ok line) keeps kept logged line_is (next, text, wrote) =
        Makes-traced l room p.journal p.ends keeps.done.played (promises l accepted follows p keeps) logged.0 logged.1 logged.2 logged.4 target name log old mid next kept.written text p.summary (keeps.done.summary ∙ (done_alone l.script l.files p keeps.done).summary) new
        (subst (λ (xs : List ℕ). SetsFile next log (Some xs) new) (appended held grown empty (log_text logged.0 logged.1) held_is logged.3 none) wrote) line line_is
    Makes-logged (Ok p) (Err (Refused refusal)) keeps kept logged wrong texts = absurd wrong
    Makes-logged (Ok p) (Err (Over over)) keeps kept logged wrong texts = absurd wrong
    Makes-logged (Ok p) (Err Store) keeps kept logged stopped texts =
        inl (inr (trace_left p keeps kept.written logged.0 logged.1 logged.2 logged.4 held (appended held grown empty (log_text logged.0 logged.1) held_is logged.3 none) texts))
    Makes-logged (Ok p) (Err Memory) keeps kept logged stopped texts =
        inl (inr (trace_left p keeps kept.written logged.0 logged.1 logged.2 logged.4 held (appended held grown empty (log_text logged.0 logged.1) held_is logged.3 none) texts))
    Makes-logged (Err (fault.CycleLimit journal ends)) (Ok line) keeps kept logged wrong text = absurd wrong
    Makes-logged (Err (fault.CycleLimit journal ends)) (Err (Refused refusal)) keeps kept logged wrong text = absurd wrong
    Makes-logged (Err (fault.CycleLimit journal ends)) (Err (Over over)) keeps kept logged is text =
        subst (λ (o : Ending). Makes (Err (Over o)) (Ok (trace_job target name log room l)) old new) (sym is)
        (Makes-cut_log l room journal ends keeps.limit.played (cut_short l accepted follows journal ends keeps) target name log old mid new kept.cut text cycles cycles_are)
    Makes-logged (Err (fault.CycleLimit journal ends)) (Err Store) keeps kept logged stopped text =
        inl (inr (inl (inr (text_left false l journal ends keeps.limit.played (cut_short l accepted follows journal ends keeps) target name old mid kept.cut new text))))
    Makes-logged (Err (fault.CycleLimit journal ends)) (Err Memory) keeps kept logged stopped text =
        inl (inr (inl (inr (text_left false l journal ends keeps.limit.played (cut_short l accepted follows journal ends keeps) target name old mid kept.cut new text))))
    Makes-logged (Err fault.Store) result keeps kept logged is same =
        subst (λ (r : Result (String Global) Stop). Makes r (Ok (trace_job target name log room l)) old new) (sym is) (inl (inr (inl (inl (leaves_rounds l target old mid new kept.left same)))))
    Makes-logged (Err fault.Memory) result keeps kept logged is same =
        subst (λ (r : Result (String Global) Stop). Makes r (Ok (trace_job target name log room l)) old new) (sym is) (inl (inr (inl (inl (leaves_rounds l target old mid new kept.left same)))))
