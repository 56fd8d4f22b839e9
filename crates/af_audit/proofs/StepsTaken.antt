-- The commands among the steps of a track's life are those that the looks of its turns took, and the STOP that stopped it last has its number among them.
use Rattle.std.proofs.Common.{◌≡◌, ◌⊎◌, inl, inr, ℕ, zero, suc, ◌+◌, ◌==◌, Bool, true, false, if◌then◌else◌, is_some, List, [], ◌∷◌, ◌++◌, length, slice_get, Option, Some, refl, sym, ap, ◌∙◌, append-nil, append_assoc, length-append, eqb-true, arith}
use Rattle.af_audit.proofs.Common.{CommandLook, IsServed, Learnt, LegalTrack, LifeStep, MatchBool, NormalKept, Setup, StoppedAt, TrackKept, TrackSeen, Turn, after_look, are_due, both_first, cut, goes_on, going, heard, heard_of, is_shut, life_of, look_steps, looks_steps, most_looks, no, none-some, nothing_seen, ready, shows_command, starts, stops, told, track_at, track_in, track_steps, tracks_at, words_taken}
use Rattle.af_life.specs.Obeys.{slot_for}
use Rattle.af_audit.specs.Drained.{commands_in, stop_number}
use Rattle.af_audit.proofs.StartWords.{words_join, words_of}

-- ## The commands among steps

-- the commands among steps, the oldest first
abbrev pub told_in : List LifeStep → List (ℕ × ℕ)
told_in [] = []
told_in (told code argument ∷ steps) = told_in steps ++ (code, argument) ∷ []
told_in (heard_of known ∷ steps) = told_in steps
told_in (cut ∷ steps) = told_in steps

-- the words of the commands among steps
abbrev pub steps_words : List LifeStep → List ℕ
steps_words steps = words_of (told_in steps)

-- ## The looks of a turn

-- the words of a command that a look shows
abbrev pub look_words : CommandLook → List ℕ
look_words look = if shows_command look.seen then look.code ∷ look.argument ∷ [] else []

look_told : (look : CommandLook) (before : List LifeStep) → steps_words (look_steps look ++ before) ≡ steps_words before ++ look_words look
look_told look before = by (shows_command look.seen) (is_shut look.seen)
  where
    by : (b d : Bool) → steps_words ((if b then told look.code look.argument ∷ [] else if d then cut ∷ [] else []) ++ before) ≡ steps_words before ++ (if b then look.code ∷ look.argument ∷ [] else [])
    by true d = words_join (told_in before) ((look.code, look.argument) ∷ [])
    by false true = sym (append-nil (steps_words before))
    by false false = sym (append-nil (steps_words before))

pub no_more : (looks : List CommandLook) → (length looks == 0) ≡ true → looks ≡ []
no_more [] h = refl
no_more (look ∷ looks) h = absurd (let e : suc (length looks) ≡ 0 = eqb-true (suc (length looks)) 0 h in omega (arith, e))

looks_told : (n : ℕ) (given : Option ℕ) (flush_seen : ℕ) (looks : List CommandLook) (s : TrackKept) (before : List LifeStep) → are_due n given flush_seen looks s ≡ true
    → steps_words (looks_steps given flush_seen looks s before) ≡ steps_words before ++ words_taken looks
looks_told n given flush_seen [] s before due = sym (append-nil (steps_words before))
looks_told zero given flush_seen (look ∷ looks) s before due = no due
looks_told (suc n) given flush_seen (look ∷ looks) s before due =
    let t : TrackKept = after_look given flush_seen look s in
    let steps : List LifeStep = look_steps look ++ before in
    by t steps (goes_on look t) due (look_told look before) (looks_told n given flush_seen looks t steps)
  where
    by : (t : TrackKept) (steps : List LifeStep) (b : Bool) → (if b then are_due n given flush_seen looks t else length looks == 0) ≡ true → steps_words steps ≡ steps_words before ++ look_words look
        → (are_due n given flush_seen looks t ≡ true → steps_words (looks_steps given flush_seen looks t steps) ≡ steps_words steps ++ words_taken looks)
        → steps_words (if b then looks_steps given flush_seen looks t steps else steps) ≡ steps_words before ++ (look_words look ++ words_taken looks)
    by t steps true rest first more = more rest ∙ ap (λ (l : List ℕ). l ++ words_taken looks) first ∙ append_assoc (steps_words before) (look_words look) (words_taken looks)
    by t steps false rest first more = first ∙ ap (λ (l : List ℕ). steps_words before ++ l) (sym (append-nil (look_words look)) ∙ ap (λ (l : List ℕ). look_words look ++ l) (sym (ap words_taken (no_more looks rest))))

-- ## A turn

module _ (c : Setup) (k : Learnt) (m : NormalKept) (e : Turn) (i : ℕ) (before : List LifeStep) where
  abbrev looks : List CommandLook
  looks = (track_in e i).looks

  abbrev s : TrackKept
  s = track_at (tracks_at c k m e i) i

  abbrev after_looks : List LifeStep
  after_looks = looks_steps (slot_for c (tracks_at c k m e i) i) (heard k i s).flush_seen looks (ready k i s) before

  nothing : (steps : List LifeStep) → steps ≡ before → looks ≡ [] → steps_words steps ≡ steps_words before ++ words_taken looks
  nothing steps is none = ap steps_words is ∙ sym (append-nil (steps_words before)) ∙ ap (λ (ls : List CommandLook). steps_words before ++ words_taken ls) (sym none)

  looks_none : looks ≡ [] → after_looks ≡ before
  looks_none none = ap (λ (ls : List CommandLook). looks_steps (slot_for c (tracks_at c k m e i) i) (heard k i s).flush_seen ls (ready k i s) before) none

  -- the commands among the steps of a legal turn are those that its looks took
  pub turn_told : (e.ended ≡ false → (looks ≡ []) ⊎ LegalTrack c k (track_in e i) (tracks_at c k m e i) i) → steps_words (track_steps c k m e i before) ≡ steps_words before ++ going e (words_taken looks)
  unfolding track_steps
  turn_told legal = by_end e.ended refl
    where
      by_wait : (waits : Bool) → (looks ≡ []) ⊎ MatchBool waits (looks ≡ []) (are_due most_looks (slot_for c (tracks_at c k m e i) i) (heard k i s).flush_seen looks (ready k i s) ≡ true)
          → steps_words (if waits then before else after_looks) ≡ steps_words before ++ words_taken looks
      by_wait true (inl none) = nothing before refl none
      by_wait false (inl none) = nothing after_looks (looks_none none) none
      by_wait true (inr none) = nothing before refl none
      by_wait false (inr due) = looks_told most_looks (slot_for c (tracks_at c k m e i) i) (heard k i s).flush_seen looks (ready k i s) before due

      by_life : (gone : Bool) → (looks ≡ []) ⊎ MatchBool gone (track_in e i ≡ nothing_seen) (IsServed (slot_for c (tracks_at c k m e i) i) (heard k i s) (track_in e i) (ready k i s))
          → steps_words (if gone then before else heard_of (heard k i s).known ∷ (if is_some (ready k i s).awaits then before else after_looks)) ≡ steps_words before ++ words_taken looks
      by_life true (inl none) = nothing before refl none
      by_life true (inr same) = nothing before refl (ap (λ (seen : TrackSeen). seen.looks) same)
      by_life false (inl none) = by_wait (is_some (ready k i s).awaits) (inl none)
      by_life false (inr served) = by_wait (is_some (ready k i s).awaits) (inr served.looks)

      by_end : (b : Bool) → e.ended ≡ b → steps_words (if b then before else if s.life.ended then before else heard_of (heard k i s).known ∷ (if is_some (ready k i s).awaits then before else after_looks)) ≡ steps_words before ++ (if b then [] else words_taken looks)
      by_end true is = sym (append-nil (steps_words before))
      by_end false is = by_life s.life.ended (legal is)

-- ## The number of the STOP

count_told : (steps : List LifeStep) → length (told_in steps) ≡ commands_in steps
count_told [] = refl
count_told (told code argument ∷ steps) = length-append (told_in steps) ((code, argument) ∷ []) ∙ ap (λ (n : ℕ). n + 1) (count_told steps)
count_told (heard_of known ∷ steps) = count_told steps
count_told (cut ∷ steps) = count_told steps

module _ {A : Type 0} where
  last_at : (xs : List A) (x : A) → slice_get (xs ++ x ∷ []) (length xs) ≡ Some x
  last_at [] x = refl
  last_at (y ∷ xs) x = last_at xs x

  still_at : (xs ys : List A) (n : ℕ) (x : A) → slice_get xs n ≡ Some x → slice_get (xs ++ ys) n ≡ Some x
  still_at [] ys n x is = absurd (none-some x is)
  still_at (y ∷ xs) ys zero x is = is
  still_at (y ∷ xs) ys (suc n) x is = still_at xs ys n x is

-- the command of the STOP's number is a STOP of that count
pub stop_told : (count : ℕ) (steps : List LifeStep) → StoppedAt count steps → slice_get (told_in steps) (stop_number steps) ≡ Some (4, count)
stop_told count [] h = absurd h
stop_told count (heard_of known ∷ steps) h = stop_told count steps h
stop_told count (cut ∷ steps) h = stop_told count steps h
stop_told count (told code argument ∷ steps) h = by_stop (stops code (life_of steps)) refl h (stop_told count steps)
  where
    by_start : (b : Bool) → MatchBool b ⊥ (StoppedAt count steps) → (StoppedAt count steps → slice_get (told_in steps) (stop_number steps) ≡ Some (4, count)) → slice_get (told_in steps ++ (code, argument) ∷ []) (stop_number steps) ≡ Some (4, count)
    by_start true h before = absurd h
    by_start false h before = still_at (told_in steps) ((code, argument) ∷ []) (stop_number steps) (4, count) (before h)

    by_stop : (b : Bool) → stops code (life_of steps) ≡ b → MatchBool b (argument ≡ count) (MatchBool (starts code (life_of steps)) ⊥ (StoppedAt count steps))
        → (StoppedAt count steps → slice_get (told_in steps) (stop_number steps) ≡ Some (4, count))
        → slice_get (told_in steps ++ (code, argument) ∷ []) (if b then commands_in steps else stop_number steps) ≡ Some (4, count)
    by_stop true is same before =
        let code_is : code ≡ 4 = eqb-true code 4 (both_first (code == 4) _ is) in
        ap (slice_get (told_in steps ++ (code, argument) ∷ [])) (sym (count_told steps)) ∙ last_at (told_in steps) (code, argument) ∙ (λ j. Some (code_is j, same j))
    by_stop false is h before = by_start (starts code (life_of steps)) h before
