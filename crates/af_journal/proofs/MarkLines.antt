-- The lines of a text are noted one after the other.
use Rattle.std.proofs.Common.{◌≡◌, ◌⊎◌, inl, inr, ℕ, ◌+◌, ◌<◌, ◌≤◌, ◌==◌, ◌&&◌, ◌||◌, Bool, true, false, cond, replicate, List, [], ◌∷◌, ◌++◌, length, slice_index_or, Option, Some, None, refl, ap, ◌∙◌, sym, subst, arith, length-append}
use Rattle.af_journal.proofs.Common.{All-nil, AllByRecursion, ClientCall, FitsCall, cases_lt, get_or-replicate, get_or_append_left, get_or_push, is_poke_on, length-replicate, list_any, or_both, or_false, same_Some}
use Rattle.af_journal.specs.declared.line.Line.{Line}
use Rattle.af_journal.specs.Lines.{Written, numbers, words, line_bytes}
use Rattle.af_journal.specs.LineReading.{call_at, line_at, marked_at, turn_line_at}
use Rattle.af_journal.specs.Pokes.{MarksAll, Notes, PokeJust, caller_after, is_poke_line, pokes}
use Rattle.af_journal.specs.Ranges.{IsWritten}
use Rattle.af_journal.specs.Readings.{cut}
use Rattle.af_journal.specs.Texts.{text_of_lines}
use Rattle.af_journal.proofs.Leaving.{all-more}
use Rattle.af_journal.proofs.LineLaws.{line-again}
use Rattle.af_journal.proofs.OneText.{cut-line}
use Rattle.std.specs.Prelude.{All}

-- ## The line that is noted

-- of some lines that are left the first, as its bytes are read, and the others
pub record OneLine (part after : List ℕ) (left : List Written) : Type 0 where
  pub first : Written
  pub others : List Written
  pub is : left ≡ first ∷ others
  pub fit : IsWritten first
  pub fits : AllByRecursion IsWritten others
  pub spells : part ≡ line_bytes first
  pub rest : after ≡ text_of_lines others

pub one_line : (text part after : List ℕ) (left : List Written) → AllByRecursion IsWritten left → text ≡ text_of_lines left → cut text ≡ Some (part, after) → OneLine part after left
one_line text part after [] fits is e = absurd (let h = sym e ∙ ap cut is in cc)
one_line text part after (w ∷ ws) fits is e =
    let p : ◌≡◌ {A = List ℕ × List ℕ} (part, after) (line_bytes w, text_of_lines ws) = same_Some _ _ (sym e ∙ ap cut is ∙ cut-line w ws fits.0) in
    record { first = w; others = ws; is = refl; fit = fits.0; fits = fits.1; spells = ap (λ (r : List ℕ × List ℕ). r.0) p; rest = ap (λ (r : List ℕ × List ℕ). r.1) p }

-- nothing is left of a text without an LF
pub none_left : (text : List ℕ) (left : List Written) → AllByRecursion IsWritten left → text ≡ text_of_lines left → cut text ≡ None → left ≡ []
none_left text [] fits is e = refl
none_left text (w ∷ ws) fits is e = absurd (let h = sym e ∙ ap cut is ∙ cut-line w ws fits.0 in cc)

-- a line of words is no line of numbers
words-are_none : (us : List ℕ) → line_at (line_bytes (words us)) ≡ None
unfolding marked_at turn_line_at call_at
words-are_none us = refl

-- ## What is left to be noted

-- the marks of one kind of block, if these lines are left of all
pub record MarksSome (commands : Bool) (own : ℕ) (ws left : List Written) (marks now : List Bool) : Type 0 where
  pub many : length now ≡ length marks
  pub each : (track : ℕ) → track < length marks → (slice_index_or now track false || pokes commands track own left) ≡ (slice_index_or marks track false || pokes commands track 0 ws)

-- the marks of both
pub record MarksLeft (own : ℕ) (ws : List Written) (rest : List ℕ) (streams commands streams_now commands_now : List Bool) : Type 0 where
  pub left : List Written
  pub fits : AllByRecursion IsWritten left
  pub rest_is : rest ≡ text_of_lines left
  pub of_streams : MarksSome false own ws left streams streams_now
  pub of_commands : MarksSome true own ws left commands commands_now

pub marks_begin : (ws : List Written) (text : List ℕ) (streams commands : List Bool) → AllByRecursion IsWritten ws → text ≡ text_of_lines ws → MarksLeft 0 ws text streams commands streams commands
marks_begin ws text streams commands fits is = record { left = ws; fits = fits; rest_is = is; of_streams = record { many = refl; each = λ track lt. refl }; of_commands = record { many = refl; each = λ track lt. refl } }

some-numbers : (commands : Bool) (own : ℕ) (l : Line) (ws left : List Written) (marks now next : List Bool) → MarksSome commands own ws (numbers l ∷ left) marks now → Notes commands own l now next → MarksSome commands (caller_after own l) ws left marks next
some-numbers commands own l ws left marks now next m n = record {
  many = n.many ∙ m.many;
  each = λ track lt.
      let rest = pokes commands track (caller_after own l) left in
      ap (λ b. b || rest) (n.each track (let h = m.many in omega (arith, lt, h)))
      ∙ or_both (slice_index_or now track false) ((own == track) && is_poke_line commands l) rest
      ∙ m.each track lt;
}

-- what a line is noted as
abbrev pub IsNoted : Option Line → ℕ → ℕ → List Bool → List Bool → List Bool → List Bool → Type 0
IsNoted None own next streams commands new_streams new_commands = (next ≡ own) × (new_streams ≡ streams) × (new_commands ≡ commands)
IsNoted (Some l) own next streams commands new_streams new_commands = (next ≡ caller_after own l) × Notes false own l streams new_streams × Notes true own l commands new_commands

pub noted_as : (o : Option Line) (own next : ℕ) (streams commands new_streams new_commands : List Bool) → (o ≡ None → (next ≡ own) × (new_streams ≡ streams) × (new_commands ≡ commands))
    → ((l : Line) → o ≡ Some l → (next ≡ caller_after own l) × Notes false own l streams new_streams × Notes true own l commands new_commands) → IsNoted o own next streams commands new_streams new_commands
noted_as None own next streams commands new_streams new_commands none some = none refl
noted_as (Some l) own next streams commands new_streams new_commands none some = some l refl

one-more : (w : Written) (ws others : List Written) (own next : ℕ) (after : List ℕ) (streams commands s c s' c' : List Bool) → IsWritten w → AllByRecursion IsWritten others → after ≡ text_of_lines others
    → MarksSome false own ws (w ∷ others) streams s → MarksSome true own ws (w ∷ others) commands c → IsNoted (line_at (line_bytes w)) own next s c s' c' → MarksLeft next ws after streams commands s' c'
one-more (numbers l) ws others own next after streams commands s c s' c' fit fits is a b n =
    let noted = subst (λ o. IsNoted o own next s c s' c') (line-again l fit) n in
    subst (λ k. MarksLeft k ws after streams commands s' c') (sym noted.0) (record {
      left = others;
      fits = fits;
      rest_is = is;
      of_streams = some-numbers false own l ws others streams s s' a noted.1;
      of_commands = some-numbers true own l ws others commands c c' b noted.2;
    })
one-more (words us) ws others own next after streams commands s c s' c' fit fits is a b n =
    let noted = subst (λ o. IsNoted o own next s c s' c') (words-are_none us) n in
    subst (λ (x : ℕ × List Bool × List Bool). MarksLeft x.0 ws after streams commands x.1 x.2) (λ i. (sym noted.0 i, sym noted.1 i, sym noted.2 i)) (record {
      left = others;
      fits = fits;
      rest_is = is;
      of_streams = record { many = a.many; each = a.each };
      of_commands = record { many = b.many; each = b.each };
    })

-- a line was noted
pub marks_more : (ws : List Written) (own next : ℕ) (rest part after : List ℕ) (streams commands s c s' c' : List Bool) → MarksLeft own ws rest streams commands s c → cut rest ≡ Some (part, after)
    → IsNoted (line_at part) own next s c s' c' → MarksLeft next ws after streams commands s' c'
marks_more ws own next rest part after streams commands s c s' c' m e n =
    let o = one_line rest part after m.left m.fits m.rest_is e in
    one-more o.first ws o.others own next after streams commands s c s' c' o.fit o.fits o.rest
    (subst (λ left. MarksSome false own ws left streams s) o.is m.of_streams) (subst (λ left. MarksSome true own ws left commands c) o.is m.of_commands)
    (subst (λ part. IsNoted (line_at part) own next s c s' c') o.spells n)

some-all : (commands : Bool) (own : ℕ) (ws : List Written) (marks now : List Bool) → MarksSome commands own ws [] marks now → MarksAll commands 0 ws marks now
some-all commands own ws marks now m = record { many = m.many; each = λ track lt. sym (or_false (slice_index_or now track false)) ∙ m.each track lt }

-- all lines were noted
pub marks_end : (ws : List Written) (own : ℕ) (rest : List ℕ) (streams commands s c : List Bool) → MarksLeft own ws rest streams commands s c → cut rest ≡ None → MarksAll false 0 ws streams s × MarksAll true 0 ws commands c
marks_end ws own rest streams commands s c m e =
    let none = none_left rest m.left m.fits m.rest_is e in
    (some-all false own ws streams s (subst (λ left. MarksSome false own ws left streams s) none m.of_streams), some-all true own ws commands c (subst (λ left. MarksSome true own ws left commands c) none m.of_commands))

-- ## Clients

-- the calls of one client more
pub just-more : (n : ℕ) (poked : Bool → ℕ → Bool) (clients : List (List ClientCall)) (calls : List ClientCall) → PokeJust n poked clients → All FitsCall calls → list_any (is_poke_on false) calls ≡ poked false n → list_any (is_poke_on true) calls ≡ poked true n → PokeJust (n + 1) poked (clients ++ calls ∷ [])
just-more n poked clients calls j fit stream command = record {
  many = length-append clients (calls ∷ []) ∙ ap (λ k. k + 1) j.many;
  numbers = all-more (λ calls. All FitsCall calls) clients calls j.numbers fit;
  each = λ commands track lt. by_place commands track (cases_lt track n) lt;
}
  where
    own : (commands : Bool) → list_any (is_poke_on commands) calls ≡ poked commands n
    own false = stream
    own true = command

    by_place : (commands : Bool) (track : ℕ) → (track < n) ⊎ (n ≤ track) → track < n + 1 → list_any (is_poke_on commands) (slice_index_or (clients ++ calls ∷ []) track []) ≡ poked commands track
    by_place commands track (inl low) lt = let many = j.many in ap (list_any (is_poke_on commands)) (get_or_append_left clients (calls ∷ []) [] track (omega (arith, low, many))) ∙ j.each commands track low
    by_place commands track (inr high) lt =
        let is : n ≡ track = omega (arith, high, lt) in
        let many = j.many in
        ap (list_any (is_poke_on commands)) (get_or_push clients calls [] track (omega (arith, is, many))) ∙ own commands ∙ ap (poked commands) is

pub just-none : (poked : Bool → ℕ → Bool) → PokeJust 0 poked []
just-none poked = record { many = refl; numbers = All-nil (λ calls. All FitsCall calls); each = λ commands track lt. absurd (omega (arith, lt)) }

-- what was marked of none is poked just so
pub marks_just : (tracks : ℕ) (ws : List Written) (streams commands s c : List Bool) (clients : List (List ClientCall)) → streams ≡ replicate tracks false → commands ≡ replicate tracks false → MarksAll false 0 ws streams s × MarksAll true 0 ws commands c
    → PokeJust (length s) (λ block track. slice_index_or (cond block c s) track false) clients → PokeJust tracks (λ block track. pokes block track 0 ws) clients
marks_just tracks ws streams commands s c clients none also marks j =
    let long : length streams ≡ tracks = ap length none ∙ length-replicate tracks false in
    let long_too : length commands ≡ tracks = ap length also ∙ length-replicate tracks false in
    let many = marks.0.many in
    record { many = j.many ∙ (many ∙ long); numbers = j.numbers; each = λ block track lt. j.each block track (omega (arith, lt, many, long)) ∙ by_block block track lt long long_too }
  where
    unset : (marks : List Bool) (track : ℕ) → marks ≡ replicate tracks false → track < tracks → slice_index_or marks track false ≡ false
    unset marks track is lt = ap (λ m. slice_index_or m track false) is ∙ get_or-replicate tracks track false false lt

    by_block : (block : Bool) (track : ℕ) → track < tracks → length streams ≡ tracks → length commands ≡ tracks → slice_index_or (cond block c s) track false ≡ pokes block track 0 ws
    by_block false track lt long long_too = marks.0.each track (omega (arith, lt, long)) ∙ ap (λ b. b || pokes false track 0 ws) (unset streams track none lt)
    by_block true track lt long long_too = marks.1.each track (omega (arith, lt, long_too)) ∙ ap (λ b. b || pokes true track 0 ws) (unset commands track also lt)
