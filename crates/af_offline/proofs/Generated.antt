-- The files of a generated session, as they are when it is played.
use Rattle.std.proofs.Common.{◌≡◌, ℕ, zero, suc, ◌+◌, ◌<◌, ◌≤◌, nat_le, Bool, true, false, List, [], ◌∷◌, ◌++◌, Some, Result, Ok, Err, map, drop, refl, sym, ap, subst, ◌∙◌, arith}
use Rattle.af_offline.proofs.Common.{Files, LeavesFront, LeavesFronts, NamedFile, SetsFile, SetsFiles, generated_name, generated_script, leb-false, leb-true, printed_script, range_with_len, take-append-drop, with_files}
use Rattle.std.specs.Str.{bytes_eq}
use Rattle.std.proofs.lemmas.List.FromFn.{map-range_with_len_more, take-map-range_with_len}
use Rattle.af_io.specs.Causes.{HasCause}
use Rattle.af_io.specs.declared.store.StoreError.{StoreError}
use Rattle.af_io.specs.declared.store.StoreError.TheVariants.{Failed}
use Rattle.af_io.proofs.Outputs.{with_files-append, LeavesFronts-first, LeavesFronts-next, LeavesFronts-whole, SetsFiles-more}
use Rattle.af_offline.specs.Generated.{drawn_files, generated_file, generated_files}
use Rattle.af_words.specs.Requests.{is_drawn}
use Rattle.af_words.proofs.DrawnNames.{none_is}

-- ## Files that are written one after the other

-- a track's file, with its name
abbrev drawn_file : ℕ → ℕ → NamedFile
drawn_file number track = record { name = generated_name track; bytes = generated_file number track }

-- the text of the script, in a file of this name
abbrev script_file : List ℕ → NamedFile
script_file name = record { name = name; bytes = printed_script generated_script }

pub drawn_files-none : (number : ℕ) → drawn_files number 0 ≡ []
unfolding drawn_files
drawn_files-none number = refl

drawn_files-more : (number track : ℕ) → drawn_files number (track + 1) ≡ drawn_files number track ++ drawn_file number track ∷ []
unfolding drawn_files
drawn_files-more number track = map-range_with_len_more (drawn_file number) 0 track track (omega arith)

drawn_files-front : (number track : ℕ) → track ≤ 8 → drawn_files number 8 ≡ drawn_files number track ++ drop track (drawn_files number 8)
unfolding drawn_files
drawn_files-front number track few =
    let all : List NamedFile = map (drawn_file number) (range_with_len 0 8) in
    sym (take-append-drop track all) ∙ ap (λ (front : List NamedFile). front ++ drop track all) (take-map-range_with_len (drawn_file number) 0 8 track few)

-- the count of faults stays if a call has its answer
pub count_stays : {X : Type 0} (x : X) (before now : ℕ) → HasCause before now (Ok x) → now ≡ before
count_stays {X} x before now cause = go (nat_le now before) refl
  where
    go : (b : Bool) → nat_le now before ≡ b → now ≡ before
    go true is = let le : now ≤ before = leb-true now before is in let later = cause.later in omega (arith, le, later)
    go false is = let clash : ◌≡◌ {A = Result X StoreError} (Ok x) (Err Failed) = cause.only (leb-false now before is) in cc

-- one more file is written
pub drawn_more : (number track : ℕ) (old mid new : Files) → SetsFiles old (drawn_files number track) mid → SetsFile mid (generated_name track) (Some (generated_file number track)) new → SetsFiles old (drawn_files number (track + 1)) new
drawn_more number track old mid new before set =
    subst (λ (files : List NamedFile). SetsFiles old files new) (sym (drawn_files-more number track)) (SetsFiles-more old (drawn_files number track) mid (drawn_file number track) new before set)

-- some first files are whole
pub drawn_before : (number track : ℕ) (old mid : Files) → track ≤ 8 → SetsFiles old (drawn_files number track) mid → LeavesFronts old (drawn_files number 8) mid
drawn_before number track old mid few before =
    subst (λ (files : List NamedFile). LeavesFronts old files mid) (sym (drawn_files-front number track few))
    (LeavesFronts-first old (drawn_files number track) (drop track (drawn_files number 8)) mid (LeavesFronts-whole old (drawn_files number track) mid before))

-- some first files are whole, and the next one may not be
pub drawn_up_to : (number track : ℕ) (old mid new : Files) → track < 8 → SetsFiles old (drawn_files number track) mid → LeavesFront mid (generated_name track) (generated_file number track) new → LeavesFronts old (drawn_files number 8) new
drawn_up_to number track old mid new few before left =
    let here : LeavesFronts old (drawn_files number (track + 1)) new =
    subst (λ (files : List NamedFile). LeavesFronts old files new) (sym (drawn_files-more number track)) (LeavesFronts-next old (drawn_files number track) mid (drawn_file number track) [] new before left) in
    subst (λ (files : List NamedFile). LeavesFronts old files new) (sym (drawn_files-front number (track + 1) (omega (arith, few))))
    (LeavesFronts-first old (drawn_files number (track + 1)) (drop (track + 1) (drawn_files number 8)) new here)

-- the script is written behind the tracks' files
pub script_more : (number : ℕ) (name : List ℕ) (old mid new : Files) → SetsFiles old (drawn_files number 8) mid → SetsFile mid name (Some (printed_script generated_script)) new → SetsFiles old (generated_files number name) new
script_more number name old mid new before set = SetsFiles-more old (drawn_files number 8) mid (script_file name) new before set

pub script_next : (number : ℕ) (name : List ℕ) (old mid new : Files) → SetsFiles old (drawn_files number 8) mid → LeavesFront mid name (printed_script generated_script) new → LeavesFronts old (generated_files number name) new
script_next number name old mid new before left = LeavesFronts-next old (drawn_files number 8) mid (script_file name) [] new before left

pub script_missing : (number : ℕ) (name : List ℕ) (old new : Files) → LeavesFronts old (drawn_files number 8) new → LeavesFronts old (generated_files number name) new
script_missing number name old new left = LeavesFronts-first old (drawn_files number 8) (script_file name ∷ []) new left

pub script_unwritten : (number : ℕ) (name : List ℕ) (old mid : Files) → SetsFiles old (drawn_files number 8) mid → LeavesFronts old (generated_files number name) mid
script_unwritten number name old mid before = script_missing number name old mid (LeavesFronts-whole old (drawn_files number 8) mid before)

-- ## The files when they are read

drawn_there : (old : Files) (number track : ℕ) → track < 8 → with_files old (drawn_files number 8) (generated_name track) ≡ Some (generated_file number track)
unfolding drawn_files
drawn_there old number zero few = refl
drawn_there old number (suc zero) few = refl
drawn_there old number (suc (suc zero)) few = refl
drawn_there old number (suc (suc (suc zero))) few = refl
drawn_there old number (suc (suc (suc (suc zero)))) few = refl
drawn_there old number (suc (suc (suc (suc (suc zero))))) few = refl
drawn_there old number (suc (suc (suc (suc (suc (suc zero)))))) few = refl
drawn_there old number (suc (suc (suc (suc (suc (suc (suc zero))))))) few = refl
drawn_there old number (suc (suc (suc (suc (suc (suc (suc (suc n)))))))) few = absurd (omega arith)

script_apart : (files : Files) (script name : List ℕ) → bytes_eq script name ≡ false → with_files files (script_file script ∷ []) name ≡ files name
script_apart files script name other = rw other refl

-- behind the script the tracks' files are there
pub file_there : (old : Files) (number : ℕ) (script : List ℕ) (track : ℕ) → is_drawn script ≡ false → track < 8 → with_files old (generated_files number script) (generated_name track) ≡ Some (generated_file number track)
file_there old number script track free few =
    ap (λ (files : Files). files (generated_name track)) (with_files-append old (drawn_files number 8) (script_file script ∷ []))
    ∙ script_apart (with_files old (drawn_files number 8)) script (generated_name track) (none_is (λ i. bytes_eq script (generated_name i)) track 8 free few)
    ∙ drawn_there old number track few
