-- What a play keeps, by how it was answered.
use Rattle.std.proofs.Common.{◌≡◌, ◌⊎◌, ℕ, Bool, true, false, List, Some, Result, Ok, Err, IfErr, IfOk, OnErr, OnOk, IsErrAnd, inl, inr, refl, sym, ap, subst, ◌∙◌}
use Rattle.af_playing.proofs.Common.{EndsState, Files, Frame, HasCause, IsLegalRun, IsScript, JournalData, Played, RoundsNoted, ScriptData, SessionState, SetsFile, Stage, ends_from, journal_of, journal_pcm, journal_sounds, on_ok, pcm_of, steps_told, summary_told}
use Rattle.af_audit.specs.Drained.{EachDrainedTrackReachedItsStop}
use Rattle.af_audit.proofs.EmptiedTold.{pipe-is-emptied}
use Rattle.af_audit.proofs.FatesTold.{frames-have-fates}
use Rattle.af_audit.proofs.SettledTold.{settled}
use Rattle.af_audit.proofs.SparedTold.{lawful-blocks-are-spared}
use Rattle.af_base.specs.declared.want.Memory.{Memory}
use Rattle.af_playing.proofs.InTime.{never_cut_off}
use Rattle.af_playing.specs.declared.answering.PlayFault.{PlayFault}
use Rattle.af_playing.specs.declared.answering.PlayFault.TheVariants as fault
use Rattle.af_playing.specs.PlayKept.{Answers, IsCutPlay, IsDonePlay, KeepsFiles, KeepsPlay, TookFew}
use Rattle.af_playing.specs.PlayedRuns.{AtLimit, HandedBack, HandsBackRun, HasStoreCause, KeepsPromises, LeavesRun, all_ended}
use Rattle.af_playing.proofs.Words.{is_limit}
use Rattle.af_playing.specs.PlayedStages.{HasPlayed}
use Rattle.af_playing.proofs.PlayCauses.{cause_behind}
use Rattle.af_playing.proofs.PlayAnswers.{at_fault, cause_cut, cut_by, cut_off, handed, hands_back, if_ok_always, if_ok_three, leaves, limit_two, never_limited, off_limit}

-- ## If nothing is handed back

module _ (script : ScriptData) (files : List (List Frame)) where
  -- nothing is promised of an error that is no limit
  pub keeps_none : (r : Result Played PlayFault) (f : PlayFault) → is_limit f ≡ false → IsErrAnd r (λ x. x ≡ f) → KeepsPlay script files r
  keeps_none (Ok p) f calm is = absurd is
  keeps_none (Err x) f calm is =
      let never : is_limit x ≡ false = ap is_limit is ∙ calm in
      record {
        done = tt;
        limit = off_limit {T = Played} (Err x) (IsCutPlay script files) never;
        enough = (λ enough. off_limit {T = Played} (Err x) (λ (j : JournalData) (e : EndsState). ⊥) never);
      }

  -- nothing is promised of the steps then
  pub steps_none : (steps : List (ℕ × ℕ)) (r : Result Played PlayFault) (f : PlayFault) → is_limit f ≡ false → IsErrAnd r (λ x. x ≡ f) → HandedBack (TookFew script.frames steps) r
  steps_none steps (Ok p) f calm is = absurd is
  steps_none steps (Err x) f calm is = off_limit {T = Played} (Err x) (TookFew script.frames steps) (ap is_limit is ∙ calm)

  -- after an error that is no limit the file is left
  pub files_none : (name : List ℕ) (old new : Files) (r : Result Played PlayFault) (f : PlayFault) → is_limit f ≡ false → IsErrAnd r (λ x. x ≡ f) → LeavesRun script files name old new → KeepsFiles script files name old new r
  files_none name old new (Ok p) f calm is left = absurd is
  files_none name old new (Err x) f calm is left =
      let never : is_limit x ≡ false = ap is_limit is ∙ calm in
      record {
        written = tt;
        cut = off_limit {T = Played} (Err x) (λ (j : JournalData) (e : EndsState). SetsFile old name (Some (journal_pcm script.frames j)) new) never;
        left = at_fault {T = Played} (Err x) (LeavesRun script files name old new) left;
        left_whole = tt;
      }

-- ## By the stage that was played

-- the promises of a play that is done follow from its legal journal
promises_kept : (script : ScriptData) (files : List (List Frame)) → IsScript script → ((journal : JournalData) → IsLegalRun script files journal → EachDrainedTrackReachedItsStop script files journal) → (j : JournalData) → IsLegalRun script files j → KeepsPromises script files j
promises_kept script files is law j legal = record {
  legal = legal;
  fates = frames-have-fates script files j legal;
  unshut = lawful-blocks-are-spared script files j is legal;
  drained = law j legal;
  settled = settled script files j is legal;
  emptied = pipe-is-emptied script files j is legal;
}

module _ (script : ScriptData) (files : List (List Frame)) (noted : RoundsNoted) (s : Stage) (r : Result Played PlayFault) (have : HasPlayed script files noted s) (a : Answers script files noted s r) where
  abbrev t : SessionState
  t = s.parties

  abbrev j : JournalData
  j = journal_of noted t.fast.log

  run : (ended : Bool) → all_ended t ≡ ended → (x : JournalData) (e : EndsState) → x ≡ j → e ≡ ends_from t → HandsBackRun ended script files x e
  run ended all x e journal ends = hands_back ended script files t noted x e have.all have.noted.tracks have.noted.form have.noted.count have.few have.over all journal ends

  handed_on : (P : JournalData → EndsState → Type 0) → P j (ends_from t) → HandedBack P r
  handed_on P p = handed P r (all_ended t ≡ false) j (ends_from t) p a.journal a.ends a.cut

  played_on : IfOk r (λ (p : Played). HandsBackRun true script files p.journal p.ends)
  played_on = if_ok_three (λ (p : Played). all_ended t ≡ true) (λ (p : Played). p.journal ≡ j) (λ (p : Played). p.ends ≡ ends_from t) (λ (p : Played). HandsBackRun true script files p.journal p.ends) r
      (λ p ended journal ends. run true ended p.journal p.ends journal ends) a.ended a.journal a.ends

  limited : IfErr r (AtLimit (HandsBackRun false script files))
  limited = cut_off (HandsBackRun false script files) r (all_ended t ≡ false) j (ends_from t) (λ ended. run false ended j (ends_from t) refl refl) a.cut

  -- the steps that the tally noted are handed back
  pub steps_kept : (steps : List (ℕ × ℕ)) → steps ≡ s.room.tally.steps → HandedBack (TookFew script.frames steps) r
  steps_kept steps same = handed_on (TookFew script.frames steps) (steps_told script.frames noted t.fast.log t.normal.mutator.past.events s.room.tally j (ends_from t) steps have.noted.whole refl refl have.noted.tally same)

  pub keeps : IsScript script → ((journal : JournalData) → IsLegalRun script files journal → EachDrainedTrackReachedItsStop script files journal) → KeepsPlay script files r
  keeps is law = record {
    done = if_ok_three (λ (p : Played). HandsBackRun true script files p.journal p.ends) (λ (p : Played). IsLegalRun script files p.journal) (λ (p : Played). p.summary ≡ summary_told script.frames p.journal p.ends) (IsDonePlay script files) r
        (λ p back legal summary. record { played = back; promises = promises_kept script files is law p.journal legal; summary = summary }) played_on a.legal a.summary;
    limit = limit_two r (HandsBackRun false script files) (cut_by script files) (IsCutPlay script files) (λ journal ends back cut. record { played = back; cut_run = cut }) limited a.cut_run;
    enough = (λ enough. never_limited r (HandsBackRun false script files) (never_cut_off script files is enough) limited);
  }

  module _ (name : List ℕ) (old new : Files) (set : SetsFile old name (Some (pcm_of script.frames t.fast.log)) new) where
    sounds : SetsFile old name (Some (journal_pcm script.frames j)) new
    sounds = subst (λ (xs : List ℕ). SetsFile old name (Some xs) new) (sym (journal_sounds script.frames noted t.fast.log have.noted.whole)) set

    left : LeavesRun script files name old new
    left = leaves script files name old new noted t have.all set

    pub files_kept : KeepsFiles script files name old new r
    files_kept = record {
      written = on_ok (λ (p : Played). p.journal ≡ j) (λ (p : Played). SetsFile old name (Some (journal_pcm script.frames p.journal)) new) r
          (λ p journal. subst (λ (x : JournalData). SetsFile old name (Some (journal_pcm script.frames x)) new) (sym journal) sounds) a.journal;
      cut = cut_off (λ (x : JournalData) (e : EndsState). SetsFile old name (Some (journal_pcm script.frames x)) new) r (all_ended t ≡ false) j (ends_from t) (λ ended. sounds) a.cut;
      left = at_fault r (LeavesRun script files name old new) left;
      left_whole = if_ok_always (LeavesRun script files name old new) r left;
    }

  pub cause_kept : (x : Unit {0}) (before now : ℕ) → HasCause {T = Unit {0}} before now (Ok x) → HasStoreCause before now r
  cause_kept x before now cause = cause_cut r (all_ended t ≡ false) j (ends_from t) x before now cause a.cut

-- ## Behind the text of a log

-- what was played is handed on, or an allocation was refused after all parties had ended
abbrev pub IsHandedOn : Result Played PlayFault → Result Played PlayFault → Type 0
IsHandedOn played r = (r ≡ played) ⊎ ((p : Played) × (played ≡ Ok p) × IsErrAnd r (λ f. f ≡ fault.Memory))

-- the text of the log was written, or an allocation for it was refused
module _ (told : Result (Unit {0}) Memory) (played r : Result Played PlayFault) (same : IfOk told (λ _. r ≡ played)) (memory : IfErr told (λ _. r ≡ Err fault.Memory)) where
  pub handed_by : OnErr told (IfErr played (λ _. ⊥)) → IsHandedOn played r
  handed_by = by_told told played same memory
    where
      by_told : (x : Result (Unit {0}) Memory) (y : Result Played PlayFault) → IfOk x (λ _. r ≡ y) → IfErr x (λ _. r ≡ Err fault.Memory) → OnErr x (IfErr y (λ _. ⊥)) → IsHandedOn y r
      by_told (Ok x) y is want never = inl is
      by_told (Err e) (Ok p) is want never = inr (p, refl, subst (λ (z : Result Played PlayFault). IsErrAnd z (λ f. f ≡ fault.Memory)) (sym want) refl)
      by_told (Err e) (Err f) is want never = absurd never

  pub told_by : (Q : Played → Type 0) → OnOk told (IfOk played Q) → IfOk r Q
  told_by Q = by_told told same memory
    where
      by_told : (x : Result (Unit {0}) Memory) → IfOk x (λ _. r ≡ played) → IfErr x (λ _. r ≡ Err fault.Memory) → OnOk x (IfOk played Q) → IfOk r Q
      by_told (Ok x) is want q = subst (λ (z : Result Played PlayFault). IfOk z Q) (sym is) q
      by_told (Err e) is want q = subst (λ (z : Result Played PlayFault). IfOk z Q) (sym want) tt

  pub kept_by : (E : Type 0) → IfErr played (λ _. E) → OnErr told E → OnErr r E
  kept_by E none = by_told told same memory
    where
      as_played : (y : Result Played PlayFault) → IfErr y (λ _. E) → OnErr y E
      as_played (Ok p) e = tt
      as_played (Err f) e = e

      by_told : (x : Result (Unit {0}) Memory) → IfOk x (λ _. r ≡ played) → IfErr x (λ _. r ≡ Err fault.Memory) → OnErr x E → OnErr r E
      by_told (Ok x) is want e = subst (λ (z : Result Played PlayFault). OnErr z E) (sym is) (as_played played none)
      by_told (Err w) is want e = subst (λ (z : Result Played PlayFault). OnErr z E) (sym want) e

module _ (script : ScriptData) (files : List (List Frame)) (played r : Result Played PlayFault) where
  pub keeps_on : IsHandedOn played r → KeepsPlay script files played → KeepsPlay script files r
  keeps_on (inl same) keeps = subst (KeepsPlay script files) (sym same) keeps
  keeps_on (inr (p, is, memory)) keeps = keeps_none script files r fault.Memory refl memory

  pub steps_on : (steps : List (ℕ × ℕ)) → IsHandedOn played r → HandedBack (TookFew script.frames steps) played → HandedBack (TookFew script.frames steps) r
  steps_on steps (inl same) few = subst (HandedBack (TookFew script.frames steps)) (sym same) few
  steps_on steps (inr (p, is, memory)) few = steps_none script files steps r fault.Memory refl memory

  pub files_on : (name : List ℕ) (old new : Files) → IsHandedOn played r → KeepsFiles script files name old new played → KeepsFiles script files name old new r
  files_on name old new (inl same) keeps = subst (KeepsFiles script files name old new) (sym same) keeps
  files_on name old new (inr (p, is, memory)) keeps =
      files_none script files name old new r fault.Memory refl memory (subst (λ (x : Result Played PlayFault). IfOk x (λ _. LeavesRun script files name old new)) is keeps.left_whole)

  pub cause_on : (before now : ℕ) → IsHandedOn played r → HasStoreCause before now played → HasStoreCause before now r
  cause_on before now (inl same) cause = subst (HasStoreCause before now) (sym same) cause
  cause_on before now (inr (p, is, memory)) cause = cause_behind r p before now (subst (HasStoreCause before now) is cause) memory
