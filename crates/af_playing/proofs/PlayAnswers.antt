-- What a play answers, by what was played.
use Rattle.std.proofs.Common.{◌≡◌, ◌⊎◌, ◌≤◌, ℕ, Bool, true, false, List, length, Some, Result, Ok, Err, IfErr, IfOk, OnErr, OnOk, IsErrOf, is_err, inl, inr, refl, sym, ap, subst, ◌∙◌}
use Rattle.af_playing.proofs.Common.{EndsState, Files, Frame, HasCause, IsCutRun, IsJournal, JournalData, Played, RoundsNoted, ScriptData, SessionState, SetsFile, StoreError, ends_from, journal_of, left_whole, no_fault, pcm_of}
use Rattle.af_io.specs.declared.store.StoreError.TheVariants as store
use Rattle.af_playing.proofs.Basics.{no_want}
use Rattle.af_playing.specs.declared.answering.PlayFault.{PlayFault}
use Rattle.af_playing.specs.declared.answering.PlayFault.TheVariants as fault
use Rattle.af_playing.specs.PlayedRuns.{AtFault, AtLimit, HandedBack, HandsBackRun, HasStoreCause, LeavesRun, Plays, all_ended, fault_of, is_full}
use Rattle.af_playing.proofs.Words.{is_limit}
use Rattle.af_playing.proofs.PlayCauses.{cause_ok}

-- ## Answers

pub if_ok_always : {T E : Type 0} (P : Type 0) (r : Result T E) → P → IfOk r (λ _. P)
if_ok_always P (Ok x) p = p
if_ok_always P (Err e) p = tt

pub if_ok_three : {T E : Type 0} (A B C D : T → Type 0) (r : Result T E) → ((x : T) → A x → B x → C x → D x) → IfOk r A → IfOk r B → IfOk r C → IfOk r D
if_ok_three A B C D (Ok x) f a b c = f x a b c
if_ok_three A B C D (Err e) f a b c = tt

-- if a result is Ok, what is so of Ok is so of its value
pub when_ok : {T E : Type 0} (P : T → Type 0) (r : Result T E) → is_err r ≡ false → IfOk r P → (x : T) × (r ≡ Ok x) × P x
when_ok P (Ok x) is p = (x, refl, p)
when_ok P (Err e) is p = absurd (let e : ⊥ = cc in e)

pub ok_when : {T E : Type 0} (P : T → Type 0) (r : Result T E) (x : T) → r ≡ Ok x → P x → IfOk r P
ok_when P r x is p = subst (λ y. IfOk y P) (sym is) p

-- if a result is an error, anything is so of Ok
pub none_ok : {T E : Type 0} (P : T → Type 0) (r : Result T E) → is_err r ≡ true → IfOk r P
none_ok P (Ok x) is = absurd (let e : ⊥ = cc in e)
none_ok P (Err e) is = tt

pub none_err : {T E : Type 0} (P : E → Type 0) (r : Result T E) → is_err r ≡ false → IfErr r P
none_err P (Ok x) is = tt
none_err P (Err e) is = absurd (let e : ⊥ = cc in e)

pub if_err_always : {T E : Type 0} (P : Type 0) (r : Result T E) → P → IfErr r (λ _. P)
if_err_always P (Ok x) p = tt
if_err_always P (Err e) p = p

pub on_ok_from : {T E : Type 0} (A B : Type 0) (r : Result T E) → (A → B) → IfOk r (λ _. A) → OnOk r B
on_ok_from A B (Ok x) f a = f a
on_ok_from A B (Err e) f a = tt

pub on_err_from : {T E : Type 0} (A : Type 0) (r : Result T E) → A → OnErr r A
on_err_from A (Ok x) a = tt
on_err_from A (Err e) a = a

-- ## Refused allocations and faults of the store

pub limits_not : (e : StoreError) → is_limit (fault_of e) ≡ false
limits_not store.Failed = refl
limits_not store.Memory = refl

module _ {T : Type 0} (r : Result T PlayFault) where
  -- if an error is no limit, anything is so at the limit
  pub off_limit : (P : JournalData → EndsState → Type 0) → IfErr r (λ f. is_limit f ≡ false) → IfErr r (AtLimit P)
  off_limit P = by_answer r
    where
      by_fault : (f : PlayFault) → is_limit f ≡ false → AtLimit P f
      by_fault fault.Store is = tt
      by_fault fault.Memory is = tt
      by_fault (fault.CycleLimit journal ends) is = absurd (let e : ⊥ = cc in e)

      by_answer : (x : Result T PlayFault) → IfErr x (λ f. is_limit f ≡ false) → IfErr x (AtLimit P)
      by_answer (Ok y) is = tt
      by_answer (Err f) is = by_fault f is

  -- if no limit can be, there is none
  pub never_limited : (P : JournalData → EndsState → Type 0) → ((journal : JournalData) (ends : EndsState) → P journal ends → ⊥) → IfErr r (AtLimit P) → IfErr r (AtLimit (λ journal ends. ⊥))
  never_limited P never = by_answer r
    where
      by_fault : (f : PlayFault) → AtLimit P f → AtLimit (λ journal ends. ⊥) f
      by_fault fault.Store is = tt
      by_fault fault.Memory is = tt
      by_fault (fault.CycleLimit journal ends) is = never journal ends is

      by_answer : (x : Result T PlayFault) → IfErr x (AtLimit P) → IfErr x (AtLimit (λ journal ends. ⊥))
      by_answer (Ok y) is = tt
      by_answer (Err f) is = by_fault f is

  -- what follows from two things that are so at the limit is so at the limit
  pub limit_two : (P Q R : JournalData → EndsState → Type 0) → ((journal : JournalData) (ends : EndsState) → P journal ends → Q journal ends → R journal ends) → IfErr r (AtLimit P) → IfErr r (AtLimit Q) → IfErr r (AtLimit R)
  limit_two P Q R follows = by_answer r
    where
      by_fault : (f : PlayFault) → AtLimit P f → AtLimit Q f → AtLimit R f
      by_fault fault.Store p q = tt
      by_fault fault.Memory p q = tt
      by_fault (fault.CycleLimit journal ends) p q = follows journal ends p q

      by_answer : (x : Result T PlayFault) → IfErr x (AtLimit P) → IfErr x (AtLimit Q) → IfErr x (AtLimit R)
      by_answer (Ok y) p q = tt
      by_answer (Err f) p q = by_fault f p q

  -- what is so in any case is so after a fault
  pub at_fault : (P : Type 0) → P → IfErr r (AtFault P)
  at_fault P p = by_answer r
    where
      by_fault : (f : PlayFault) → AtFault P f
      by_fault fault.Store = p
      by_fault fault.Memory = p
      by_fault (fault.CycleLimit journal ends) = tt

      by_answer : (x : Result T PlayFault) → IfErr x (AtFault P)
      by_answer (Ok y) = tt
      by_answer (Err f) = by_fault f

-- ## A run that was played to its end, or to the end of the log

no_store : {T : Type 0} (j : JournalData) (e : EndsState) → IsErrOf {T = T} {E = PlayFault} (Err (fault.CycleLimit j e)) fault.Store → ⊥
no_store {T} j e h = let x : ⊥ = cc in x

-- an answer that is an error comes if not all had ended: the play was cut off, with this journal and these ends, or an allocation was refused
abbrev pub IsCut : Result Played PlayFault → Type 0 → JournalData → EndsState → Type 0
IsCut r A j e = IfErr r (λ f. A × ((f ≡ fault.CycleLimit j e) ⊎ (f ≡ fault.Memory)))

pub cut_off : (P : JournalData → EndsState → Type 0) (r : Result Played PlayFault) (A : Type 0) (j : JournalData) (e : EndsState) → (A → P j e) → IsCut r A j e → IfErr r (AtLimit P)
cut_off P (Ok p) A j e h is = tt
cut_off P (Err f) A j e h (more, inl is) = subst (AtLimit P) (sym is) (h more)
cut_off P (Err f) A j e h (more, inr is) = subst (AtLimit P) (sym is) tt

cause_limit : (A : Type 0) (j : JournalData) (e : EndsState) (x : Unit {0}) (before now : ℕ) → HasCause {T = Unit {0}} before now (Ok x) → HasStoreCause {T = Played} before now (Err (fault.CycleLimit j e))
cause_limit A j e x before now cause = record {
  later = cause.later;
  failed = (λ h. absurd (no_store {T = Played} j e h));
  only = (λ lt. absurd (no_fault x (cause.only lt)));
}

cause_want : (x : Unit {0}) (before now : ℕ) → HasCause {T = Unit {0}} before now (Ok x) → HasStoreCause {T = Played} before now (Err fault.Memory)
cause_want x before now cause = record {
  later = cause.later;
  failed = (λ h. absurd (no_want {T = Played} h));
  only = (λ lt. absurd (no_fault x (cause.only lt)));
}

pub cause_cut : (r : Result Played PlayFault) (A : Type 0) (j : JournalData) (e : EndsState) (x : Unit {0}) (before now : ℕ) → HasCause {T = Unit {0}} before now (Ok x) → IsCut r A j e → HasStoreCause before now r
cause_cut (Ok p) A j e x before now cause is = cause_ok p x before now cause
cause_cut (Err f) A j e x before now cause (more, inl is) = subst (λ (y : PlayFault). HasStoreCause {T = Played} before now (Err y)) (sym is) (cause_limit A j e x before now cause)
cause_cut (Err f) A j e x before now cause (more, inr is) = subst (λ (y : PlayFault). HasStoreCause {T = Played} before now (Err y)) (sym is) (cause_want x before now cause)

-- the journal and the ends of what was played are handed back
pub hands_back : (ended : Bool) (script : ScriptData) (files : List (List Frame)) (t : SessionState) (noted : RoundsNoted) (j : JournalData) (e : EndsState) → Plays script files noted.rounds t → noted.tracks ≡ length script.tracks
    → IsJournal (journal_of noted t.fast.log) → length t.clients ≡ length script.tracks → length noted.rounds ≤ script.cycles → (all_ended t ≡ false → is_full t ≡ true) → all_ended t ≡ ended → j ≡ journal_of noted t.fast.log → e ≡ ends_from t → HandsBackRun ended script files j e
hands_back ended script files t noted j e played tracks form count few over is journal ends = record {
  parties = t;
  rounds = noted.rounds;
  played = played;
  journal_is = journal ∙ ap (λ (n : ℕ). journal_of (record { tracks = n; rounds = noted.rounds }) t.fast.log) tracks;
  form = subst IsJournal (sym journal) form;
  ends_are = ends;
  count = ap (λ (x : EndsState). length x.clients) ends ∙ count;
  few = few;
  all = is;
  cut = (λ more. over (is ∙ more));
}

-- what is so of the journal and the ends of a run is so of what is handed back
pub handed : (P : JournalData → EndsState → Type 0) (r : Result Played PlayFault) (A : Type 0) (j : JournalData) (e : EndsState) → P j e → IfOk r (λ p. p.journal ≡ j) → IfOk r (λ p. p.ends ≡ e) → IsCut r A j e → HandedBack P r
handed P (Ok p) A j e is journal ends cut = subst (λ (x : JournalData × EndsState). P x.0 x.1) (λ i. (sym journal i, sym ends i)) is
handed P (Err f) A j e is journal ends (more, inl cut) = subst (AtLimit P) (sym cut) is
handed P (Err f) A j e is journal ends (more, inr want) = subst (AtLimit P) (sym want) tt

-- the journal is that of a run that was cut off
abbrev pub cut_by : ScriptData → List (List Frame) → JournalData → EndsState → Type 0
cut_by script files j e = IsCutRun script files j

-- ## The file

-- the file is left as after some first rounds: the sound of all rounds is such a sound
pub leaves : (script : ScriptData) (files : List (List Frame)) (name : List ℕ) (old new : Files) (noted : RoundsNoted) (t : SessionState) → Plays script files noted.rounds t → SetsFile old name (Some (pcm_of script.frames t.fast.log)) new → LeavesRun script files name old new
leaves script files name old new noted t played written = inr (noted.rounds, t, played, left_whole old new name (pcm_of script.frames t.fast.log) written)
