-- Bytes that wait to go out behind what a file has of a sound.
use Rattle.std.proofs.Common.{◌≡◌, ◌⊎◌, ⊎_elim, ℕ, ◌++◌, Bool, List, [], Some, true, length, take, inr, sym, ap, subst, ◌∙◌, append-nil}
use Rattle.af_rendering.proofs.Common.{Files, KeepsSound, LeavesFront, MixerState, SetsFile, Tallied, pcm_of}
use Rattle.std.proofs.Math.Seq.{take-append_seam}
use Rattle.af_rendering.specs.Rendered.{HoldsBut}
use Rattle.af_rendering.specs.Rounds.{Asks}

module _ (base files : Files) (name sound : List ℕ) where
  -- no bytes wait behind a whole sound
  pub none_wait : (waiting : List ℕ) → waiting ≡ [] → SetsFile base name (Some sound) files → HoldsBut waiting base name sound files
  none_wait waiting none set = (sound, ap (λ (xs : List ℕ). sound ++ xs) none ∙ append-nil sound, set)

  -- a file has all of a sound of which no bytes wait
  pub all_out : (waiting : List ℕ) → waiting ≡ [] → HoldsBut waiting base name sound files → SetsFile base name (Some sound) files
  all_out waiting none held =
      let whole = sym (append-nil held.0) ∙ ap (λ (xs : List ℕ). held.0 ++ xs) (sym none) ∙ held.1 in
      subst (λ (xs : List ℕ). SetsFile base name (Some xs) files) whole held.2

  -- what a file has of a sound is a front of it
  pub front_held : (waiting : List ℕ) → HoldsBut waiting base name sound files → LeavesFront base name sound files
  front_held waiting held =
      let front : take (length held.0) sound ≡ held.0 = ap (take (length held.0)) (sym held.1) ∙ take-append_seam held.0 waiting in
      inr (length held.0, subst (λ (xs : List ℕ). SetsFile base name (Some xs) files) (sym front) held.2)

-- the bytes of a round wait behind those that waited, and the sound has them
pub wait_on : (base files : Files) (name : List ℕ) (m m' : MixerState) (frames : ℕ) → m.frames ≡ frames → (bytes bytes' : List ℕ) → KeepsSound m m' bytes bytes' → HoldsBut bytes base name (pcm_of frames m.log) files → HoldsBut bytes' base name (pcm_of frames m'.log) files
wait_on base files name m m' frames same bytes bytes' keeps held =
    let was : HoldsBut bytes base name (pcm_of m.frames m.log) files = subst (λ (n : ℕ). HoldsBut bytes base name (pcm_of n m.log) files) (sym same) held in
    subst (λ (n : ℕ). HoldsBut bytes' base name (pcm_of n m'.log) files) same (was.0, keeps was.0 was.1, was.2)

-- bytes that wait, or none, are the end of a sound that ended with them
pub ends_on : (m m' : MixerState) → m'.frames ≡ m.frames → (bytes bytes' rest : List ℕ) → KeepsSound m m' bytes bytes' → (rest ≡ bytes') ⊎ (rest ≡ []) → (front : List ℕ) × (front ++ bytes ≡ pcm_of m.frames m.log)
    → (front : List ℕ) × (front ++ rest ≡ pcm_of m'.frames m'.log)
ends_on m m' same bytes bytes' rest keeps sent (front, whole) = subst (λ (n : ℕ). (xs : List ℕ) × (xs ++ rest ≡ pcm_of n m'.log)) (sym same) (⊎_elim
    (λ (is : rest ≡ bytes'). (front, ap (λ (xs : List ℕ). front ++ xs) is ∙ keeps front whole))
    (λ (none : rest ≡ []). (pcm_of m.frames m'.log, ap (λ (xs : List ℕ). pcm_of m.frames m'.log ++ xs) none ∙ append-nil (pcm_of m.frames m'.log)))
    sent)

-- what a round asks and gives that is played since one more was asked for
pub round_asked : {between : Tallied → Type 0} {going over pre room played : Type 0} {post : Bool → Type 0} {tally : Tallied} {answer : Bool} → Asks between going over pre post → (between tally → going → room → played) → between tally → post answer → answer ≡ true → room → played
round_asked asks plays so answered on room = plays so (((asks _ so).1 _ answered).0 on) room
