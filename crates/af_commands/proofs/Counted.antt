-- The steps of the cycles of what a command played.
use Rattle.std.proofs.Common.{◌≡◌, ◌≢◌, ℕ, Bool, true, false, if◌then◌else◌, List, Option, Some, Result, Ok, Err, IfOk, String, refl, sym, ap, subst, ◌∙◌}
use Rattle.af_commands.proofs.Common.{ComesTo, Ending, EndsState, File, Files, Global, HandedBack, IsScript, IsToldAlone, Job, JournalData, Judged, KeepsPlay, Limit, Meets, Memory, Outcome, Over, PlayFault, Played, Refusal, Refused, Script, Session as Loaded, SetsFile, Stop, Store, StoreError, TookFew, Usage, cut_alone, done_alone, ended_status, journal_pcm, play_job, render_told, run_of, session_job, shown_from, status_of, text_of, trace_job}
use Rattle.std.specs.Str.{bytes_eq}
use Rattle.std.proofs.lemmas.Slice.Eq.{bytes_eq-Decides}
use Rattle.af_io.specs.declared.store.StoreError.TheVariants as outside
use Rattle.af_playing.specs.declared.answering.PlayFault.TheVariants as fault
use Rattle.af_tally.specs.Steps.{AreFew}
use Rattle.af_tally.specs.Summaries.{Shown}
use Rattle.af_commands.specs.Counted.{CountsOn, CountsSteps}
use Rattle.af_commands.specs.Told.{Tells, TellsRender, TellsText, TellsTexts}

-- ## Files

-- a file that was set holds what it was set to
set_holds : (old new : Files) (name : List ℕ) (content : Option (List ℕ)) → SetsFile old name content new → new name ≡ content
set_holds old new name content set = set name ∙ ap (λ (b : Bool). if b then content else old name) ((bytes_eq-Decides name name).1 refl)

-- a file of another name stays
other_stays : (old new : Files) (name other : List ℕ) (content : Option (List ℕ)) → name ≢ other → SetsFile old name content new → new other ≡ old other
other_stays old new name other content apart set = by_test (bytes_eq name other) refl
  where
    by_test : (b : Bool) → bytes_eq name other ≡ b → new other ≡ old other
    by_test true is = absurd (apart ((bytes_eq-Decides name other).0 is))
    by_test false is = set other ∙ ap (λ (b : Bool). if b then content else old other) is

-- ## Renders

module _ (l : Loaded) (accepted : IsScript l.script) (target : List ℕ) (told : Type 0) (old new : Files) (steps : List (ℕ × ℕ)) where
  pub Counts-rendered : (played : Result Outcome StoreError) (result : Result (String Global) Stop) → told
      → IfOk played (λ o. (journal : JournalData) × ComesTo l.script l.files journal o.summary o.ends steps × (told → SetsFile old target (Some (journal_pcm l.script.frames journal)) new))
      → TellsRender played result → CountsOn result (Ok (session_job target l)) new steps
  Counts-rendered (Ok o) (Ok line) tells came is =
      let alone = render_told l.script l.files came.0 o.ends accepted came.1.back in
      (came.0, alone.run, set_holds old new target (Some (journal_pcm l.script.frames came.0)) (came.2 tells), subst (λ (run : Shown). AreFew run steps) alone.shown came.1.few)
  Counts-rendered (Ok o) (Err stop) tells came is = subst (λ (s : Stop). CountsOn {X = String Global} (Err s) (Ok (session_job target l)) new steps) (sym is) tt
  Counts-rendered (Err outside.Failed) result tells came is = subst (λ (r : Result (String Global) Stop). CountsOn r (Ok (session_job target l)) new steps) (sym is) tt
  Counts-rendered (Err outside.Memory) result tells came is = subst (λ (r : Result (String Global) Stop). CountsOn r (Ok (session_job target l)) new steps) (sym is) tt

-- ## Plays

-- the steps by a journal and the ends are those by the journal alone
few_alone : (l : Loaded) (steps : List (ℕ × ℕ)) (j : JournalData) (e : EndsState) → IsToldAlone l.script l.files j e → TookFew l.script.frames steps j e → AreFew (shown_from l.script j (run_of l.script l.files j)) steps
few_alone l steps j e alone few = subst (λ (run : Shown). AreFew run steps) alone.shown few

module _ (l : Loaded) (cycles : ℕ) (target name : List ℕ) (old new : Files) (steps : List (ℕ × ℕ)) where
  pub Counts-told : (played : Result Played PlayFault) (result : Result (String Global) Stop) → KeepsPlay l.script l.files played → HandedBack (TookFew l.script.frames steps) played
      → Tells cycles played result → TellsText name played result old new → CountsOn result (Ok (play_job target name l)) new steps
  Counts-told (Ok p) (Ok line) keeps few told text =
      let alone = done_alone l.script l.files p keeps.done in
      (p.journal, set_holds old new name (Some (text_of p.journal)) text, few_alone l steps p.journal p.ends alone few)
  Counts-told (Ok p) (Err (Refused refusal)) keeps few told text = tt
  Counts-told (Ok p) (Err (Over over)) keeps few none text = absurd none
  Counts-told (Ok p) (Err Store) keeps few told text = tt
  Counts-told (Ok p) (Err Memory) keeps few told text = tt
  Counts-told (Err (fault.CycleLimit j e)) (Ok line) keeps few none text = absurd none
  Counts-told (Err (fault.CycleLimit j e)) (Err (Refused refusal)) keeps few told text = tt
  Counts-told (Err (fault.CycleLimit j e)) (Err (Over (Limit n))) keeps few told text =
      let alone = cut_alone l.script l.files j e keeps.limit in
      (j, set_holds old new name (Some (text_of j)) text, few_alone l steps j e alone few)
  Counts-told (Err (fault.CycleLimit j e)) (Err (Over (Judged refusal))) keeps few told text = tt
  Counts-told (Err (fault.CycleLimit j e)) (Err Store) keeps few told text = tt
  Counts-told (Err (fault.CycleLimit j e)) (Err Memory) keeps few told text = tt
  Counts-told (Err fault.Store) result keeps few is same = subst (λ (r : Result (String Global) Stop). CountsOn r (Ok (play_job target name l)) new steps) (sym is) tt
  Counts-told (Err fault.Memory) result keeps few is same = subst (λ (r : Result (String Global) Stop). CountsOn r (Ok (play_job target name l)) new steps) (sym is) tt

  module _ (log text : List ℕ) (room : ℕ) where
    pub Counts-logged : (played : Result Played PlayFault) (result : Result (String Global) Stop) → KeepsPlay l.script l.files played → HandedBack (TookFew l.script.frames steps) played
        → Tells cycles played result → TellsTexts name log text played result old new → CountsOn result (Ok (trace_job target name log room l)) new steps
    Counts-logged (Ok p) (Ok line) keeps few told (mid, set, wrote) = (
      p.journal,
      (λ apart. other_stays mid new log name (Some text) apart wrote ∙ set_holds old mid name (Some (text_of p.journal)) set),
      few_alone l steps p.journal p.ends (done_alone l.script l.files p keeps.done) few,
    )
    Counts-logged (Ok p) (Err (Refused refusal)) keeps few told texts = tt
    Counts-logged (Ok p) (Err (Over over)) keeps few none texts = absurd none
    Counts-logged (Ok p) (Err Store) keeps few told texts = tt
    Counts-logged (Ok p) (Err Memory) keeps few told texts = tt
    Counts-logged (Err (fault.CycleLimit j e)) (Ok line) keeps few none texts = absurd none
    Counts-logged (Err (fault.CycleLimit j e)) (Err (Refused refusal)) keeps few told texts = tt
    Counts-logged (Err (fault.CycleLimit j e)) (Err (Over (Limit n))) keeps few told texts =
        let alone = cut_alone l.script l.files j e keeps.limit in
        (j, (λ apart. set_holds old new name (Some (text_of j)) texts), few_alone l steps j e alone few)
    Counts-logged (Err (fault.CycleLimit j e)) (Err (Over (Judged refusal))) keeps few told texts = tt
    Counts-logged (Err (fault.CycleLimit j e)) (Err Store) keeps few told texts = tt
    Counts-logged (Err (fault.CycleLimit j e)) (Err Memory) keeps few told texts = tt
    Counts-logged (Err fault.Store) result keeps few is same = subst (λ (r : Result (String Global) Stop). CountsOn r (Ok (trace_job target name log room l)) new steps) (sym is) tt
    Counts-logged (Err fault.Memory) result keeps few is same = subst (λ (r : Result (String Global) Stop). CountsOn r (Ok (trace_job target name log room l)) new steps) (sym is) tt

-- ## Before anything was played

-- a step that was refused, or stopped by the outside, is no end at a limit
pub Counts-stopped : {X Y : Type 0} (T : Type 0) (view : X → Y) (e : Stop) (told : Result Y Refusal) (asked : Result Job Refusal) (files : Files) (steps : List (ℕ × ℕ)) → Meets view (Err e) told → CountsOn {X = T} (Err e) asked files steps
Counts-stopped T view (Refused refusal) told asked files steps is = tt
Counts-stopped T view (Over over) told asked files steps is = absurd is
Counts-stopped T view Store told asked files steps is = tt
Counts-stopped T view Memory told asked files steps is = tt

-- ## By the status

-- a work that is over leaves its count to the status
pub Counts-ended : (T : Type 0) (e : Stop) (ending : Ending) (asked : Result Job Refusal) (files : Files) (steps : List (ℕ × ℕ)) → e ≡ Over ending → CountsOn {X = T} (Err e) asked files steps → CountsSteps (ended_status ending) asked files steps
Counts-ended T e ending asked files steps is counts = by_ending ending (subst (λ (s : Stop). CountsOn {X = T} (Err s) asked files steps) is counts)
  where
    by_ending : (over : Ending) → CountsOn {X = T} (Err (Over over)) asked files steps → CountsSteps (ended_status over) asked files steps
    by_ending (Limit n) counted = counted
    by_ending (Judged refusal) counted = tt

-- nothing is counted of what is refused
pub Counts-refused : (refusal : Refusal) (asked : Result Job Refusal) (files : Files) (steps : List (ℕ × ℕ)) → CountsSteps (status_of refusal) asked files steps
Counts-refused Usage asked files steps = tt
Counts-refused (Script fault) asked files steps = tt
Counts-refused (File fault) asked files steps = tt
