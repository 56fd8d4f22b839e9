-- What a reader leaves of a text, line by line.
use Rattle.std.proofs.Common.{◌≡◌, ℕ, ◌+◌, ◌<◌, ◌≤◌, ◌^◌, ◌==◌, subst, List, [], ◌∷◌, ◌++◌, length, drop, get_or, Some, refl, ap, ◌∙◌, sym, arith, All, append_assoc, append-nil, length-append}
use Rattle.af_journal.proofs.Common.{All-append, All-cons, All-nil, AreWords, CommandLook, Seen, flat_map, flat_map-append}
use Rattle.af_journal.proofs.Basics.{fit-append}
use Rattle.af_journal.specs.declared.line.Line.{Line}
use Rattle.af_journal.specs.declared.line.Line.TheVariants as line
use Rattle.af_journal.specs.Lines.{Written, hex_word, numbers, words, line_bytes, with_lf}
use Rattle.af_journal.specs.LineReading.{line_at, packed_at}
use Rattle.af_journal.specs.Ranges.{IsLine, IsWritten}
use Rattle.af_journal.specs.Readings.{cut}
use Rattle.af_journal.specs.Taken.{Leaves}
use Rattle.af_journal.specs.Texts.{command_words, each_from, look_lines, text_of_lines, words_after}
use Rattle.af_journal.proofs.Hex.{packed-sound}
use Rattle.af_journal.proofs.LineLaws.{line-sound}
use Rattle.af_journal.proofs.Parts.{cut-sound}
use Rattle.af_journal.proofs.Texts.{each-more, text-append}

-- no lines
pub leaves-none : (a : List ℕ) → Leaves a [] a
leaves-none a = record { text = refl; fits = tt }

-- some lines, and then some more
pub leaves-then : (a b d : List ℕ) (first more : List Written) → Leaves a first b → Leaves b more d → Leaves a (first ++ more) d
leaves-then a b d first more one two = record {
  text = one.text ∙ ap (λ l. text_of_lines first ++ l) two.text ∙ sym (append_assoc (text_of_lines first) (text_of_lines more) d) ∙ ap (λ l. l ++ d) (sym (text-append first more));
  fits = fit-append first more one.fits two.fits;
}

-- equal lines leave the same
pub leaves-as : (a b : List ℕ) (lines same : List Written) → lines ≡ same → Leaves a lines b → Leaves a same b
leaves-as a b lines same e l = subst (λ ls. Leaves a ls b) e l

-- what is left is no longer
pub leaves-length : (a b : List ℕ) (lines : List Written) → Leaves a lines b → length b ≤ length a
leaves-length a b lines l = omega (arith, ap length l.text, length-append (text_of_lines lines) b)

-- the first line
pub leaves-line : (bytes part after : List ℕ) (l : Line) → cut bytes ≡ Some (part, after) → line_at part ≡ Some l → Leaves bytes (numbers l ∷ []) after
leaves-line bytes part after l c e = record {
  text = (cut-sound bytes (part, after) c).whole ∙ ap (λ p. p ++ 10 ∷ after) (line-sound part l e).spelled
      ∙ sym (append_assoc (line_bytes (numbers l)) (10 ∷ []) after)
      ∙ ap (λ x. x ++ after) (sym (append-nil (with_lf (line_bytes (numbers l)))));
  fits = ((line-sound part l e).fits, tt);
}

pub line-fits : (part : List ℕ) (l : Line) → line_at part ≡ Some l → IsLine l
line-fits part l e = (line-sound part l e).fits

-- some words
pub words-some : (ws : List ℕ) → 1 ≤ length ws → AreWords ws → IsWritten (words ws)
words-some [] some fit = absurd (omega arith)
words-some (w ∷ ws) some fit = fit

-- a line of words
pub leaves-words : (bytes part after digits ws : List ℕ) → cut bytes ≡ Some (part, after) → part ≡ 104 ∷ 32 ∷ digits → digits ≡ flat_map hex_word ws → 1 ≤ length ws → AreWords ws → Leaves bytes (words ws ∷ []) after
leaves-words bytes part after digits ws c p d some fit = record {
  text = (cut-sound bytes (part, after) c).whole ∙ ap (λ x. x ++ 10 ∷ after) (p ∙ ap (λ x. 104 ∷ 32 ∷ x) d)
      ∙ sym (append_assoc (line_bytes (words ws)) (10 ∷ []) after)
      ∙ ap (λ x. x ++ after) (sym (append-nil (with_lf (line_bytes (words ws)))));
  fits = (words-some ws some fit, tt);
}

-- the words of frames
pub leaves-frames : (a b ws us : List ℕ) → us ≡ ws → 1 ≤ length ws → Leaves a (words ws ∷ []) b → Leaves a (words_after us) b
leaves-frames a b [] us same some l = absurd (omega arith)
leaves-frames a b (w ∷ ws) us same some l = leaves-as a b (words (w ∷ ws) ∷ []) (words_after us) (ap words_after (sym same)) l

-- the words of a list that are words, and one more
pub words-fit : (ws : List ℕ) (w : ℕ) → AreWords ws → w < 2 ^ 32 → AreWords (ws ++ w ∷ [])
words-fit [] w fit h = (h, tt)
words-fit (x ∷ xs) w fit h = (fit.0, words-fit xs w fit.1 h)

-- the digits of one word
pub word-first : (xs : List ℕ) (w : ℕ) → 8 ≤ length xs
    → packed_at (get_or xs 0 0) (get_or xs 1 0) (get_or xs 2 0) (get_or xs 3 0) (get_or xs 4 0) (get_or xs 5 0) (get_or xs 6 0) (get_or xs 7 0) ≡ Some w
    → xs ≡ hex_word w ++ drop 8 xs
word-first [] w h e = absurd (omega arith)
word-first (a ∷ []) w h e = absurd (omega arith)
word-first (a ∷ b ∷ []) w h e = absurd (omega arith)
word-first (a ∷ b ∷ c ∷ []) w h e = absurd (omega arith)
word-first (a ∷ b ∷ c ∷ d ∷ []) w h e = absurd (omega arith)
word-first (a ∷ b ∷ c ∷ d ∷ x ∷ []) w h e = absurd (omega arith)
word-first (a ∷ b ∷ c ∷ d ∷ x ∷ y ∷ []) w h e = absurd (omega arith)
word-first (a ∷ b ∷ c ∷ d ∷ x ∷ y ∷ z ∷ []) w h e = absurd (omega arith)
word-first (a ∷ b ∷ c ∷ d ∷ x ∷ y ∷ z ∷ u ∷ rest) w h e = ap (λ l. l ++ rest) (packed-sound a b c d x y z u w e).0

-- a word is one
pub packed-small : (xs : List ℕ) (w : ℕ) → 8 ≤ length xs
    → packed_at (get_or xs 0 0) (get_or xs 1 0) (get_or xs 2 0) (get_or xs 3 0) (get_or xs 4 0) (get_or xs 5 0) (get_or xs 6 0) (get_or xs 7 0) ≡ Some w
    → w < 2 ^ 32
packed-small [] w h e = absurd (omega arith)
packed-small (a ∷ []) w h e = absurd (omega arith)
packed-small (a ∷ b ∷ []) w h e = absurd (omega arith)
packed-small (a ∷ b ∷ c ∷ []) w h e = absurd (omega arith)
packed-small (a ∷ b ∷ c ∷ d ∷ []) w h e = absurd (omega arith)
packed-small (a ∷ b ∷ c ∷ d ∷ x ∷ []) w h e = absurd (omega arith)
packed-small (a ∷ b ∷ c ∷ d ∷ x ∷ y ∷ []) w h e = absurd (omega arith)
packed-small (a ∷ b ∷ c ∷ d ∷ x ∷ y ∷ z ∷ []) w h e = absurd (omega arith)
packed-small (a ∷ b ∷ c ∷ d ∷ x ∷ y ∷ z ∷ u ∷ rest) w h e = (packed-sound a b c d x y z u w e).1

-- one packed word more is read
pub words-more : (digits xs ws : List ℕ) (w : ℕ) → digits ≡ flat_map hex_word ws ++ xs → xs ≡ hex_word w ++ drop 8 xs → digits ≡ flat_map hex_word (ws ++ w ∷ []) ++ drop 8 xs
words-more digits xs ws w one two =
    one ∙ ap (λ l. flat_map hex_word ws ++ l) two ∙ sym (append_assoc (flat_map hex_word ws) (hex_word w) (drop 8 xs))
    ∙ ap (λ l. l ++ drop 8 xs) (ap (λ l. flat_map hex_word ws ++ l) (sym (append-nil (hex_word w))) ∙ sym (flat_map-append hex_word ws (w ∷ [])))

-- one more item of some that follow one another is read
pub leaves-more : {X : Type 0} (f : X → List Written) (a b d : List ℕ) (xs : List X) (x : X) → Leaves a (flat_map f xs) b → Leaves b (f x) d → Leaves a (flat_map f (xs ++ x ∷ [])) d
leaves-more f a b d xs x one two =
    leaves-as a d (flat_map f xs ++ f x) (flat_map f (xs ++ x ∷ [])) (ap (λ l. flat_map f xs ++ l) (sym (append-nil (f x))) ∙ sym (flat_map-append f xs (x ∷ []))) (leaves-then a b d (flat_map f xs) (f x) one two)

-- one more item of some that are numbered is read
pub leaves-each : {X : Type 0} (f : ℕ → X → List Written) (a b d : List ℕ) (xs : List X) (x : X) (n : ℕ) → length xs ≡ n → Leaves a (each_from f 0 xs) b → Leaves b (f n x) d → Leaves a (each_from f 0 (xs ++ x ∷ [])) d
leaves-each f a b d xs x n count one two =
    leaves-as a d (each_from f 0 xs ++ f n x) (each_from f 0 (xs ++ x ∷ [])) (ap (λ i. each_from f 0 xs ++ f i x) (let e : n ≡ 0 + length xs = omega (arith, count) in e) ∙ sym (each-more f 0 xs x)) (leaves-then a b d (each_from f 0 xs) (f n x) one two)

pub all-more : {X : Type 0} (P : X → Type 0) (xs : List X) (x : X) → All P xs → P x → All P (xs ++ x ∷ [])
all-more P xs x all p = All-append P xs (x ∷ []) all (All-cons P x [] p (All-nil P))

-- a look and its words
pub leaves-look : (a b d : List ℕ) (track own flush rear : ℕ) (answer : Seen) (l : CommandLook) → own ≡ track → (l.flush ≡ flush) × (l.rear ≡ rear) × (l.seen ≡ answer)
    → Leaves a (numbers (line.Look own flush rear answer) ∷ []) b → Leaves b (words_after (command_words l)) d → Leaves a (look_lines track l) d
leaves-look a b d track own flush rear answer l same is one two =
    leaves-as a d (numbers (line.Look own flush rear answer) ∷ words_after (command_words l)) (look_lines track l) (λ k. numbers (line.Look (same k) (sym is.0 k) (sym is.1 k) (sym is.2 k)) ∷ words_after (command_words l))
    (leaves-then a b d (numbers (line.Look own flush rear answer) ∷ []) (words_after (command_words l)) one two)
