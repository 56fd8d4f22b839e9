-- Hexadecimal digits that are read in rows.
use Rattle.std.proofs.Common.{◌≡◌, ℕ, suc, ◌+◌, ◌*◌, ◌/◌, ◌%◌, ◌<◌, ◌≤◌, ◌^◌, ◌==◌, ◌&&◌, List, [], ◌∷◌, ◌++◌, Option, Some, None, Bool, true, false, cond, length, map, take, get_or, option_map, refl, ap, ◌∙◌, sym, subst, arith}
use Rattle.af_journal.proofs.Common.{AreWords, Frame, IsFrame, append-nil, append_assoc, be_bytes_4, flat_map, flat_map-append, from_be_bytes, is_some, length-append, list_all, list_all-append, list_all_at, map_last, nat_tests, packed_word, small, take_more, to_be_bytes, w32}
use Rattle.af_journal.specs.Hexadecimal.{AreSpelled, is_hex}
use Rattle.af_journal.specs.Lines.{hex_byte, hex_digit, hex_word}
use Rattle.af_journal.specs.LineReading.{◌>>=◌, byte_at, hex_at, packed_at, words_at}
use Rattle.af_journal.proofs.Leaving.{all-more, words-fit}

-- ## One digit

hex_by : (xs : List ℕ) (k : ℕ) (b : Bool) → is_hex (get_or xs k 0) ≡ b → list_all is_hex xs ≡ true → k < length xs → is_hex (get_or xs k 0) ≡ true
hex_by xs k true e all lt = e
hex_by xs k false e all lt = let none = list_all_at is_hex xs k 0 lt e in cc

-- a digit among digits
pub hex-at : (xs : List ℕ) (k : ℕ) → list_all is_hex xs ≡ true → k < length xs → is_hex (get_or xs k 0) ≡ true
hex-at xs k all lt = hex_by xs k (is_hex (get_or xs k 0)) refl all lt

-- a byte is a digit exactly if it has a number
some_by : (c : ℕ) → is_some (hex_at c) ≡ is_hex c
some_by c = grind (arith, nat_tests)

high_of : (a b : ℕ) → b < 16 → (a * 16 + b) / 16 ≡ a
high_of a b h = grind arith

low_of : (a b : ℕ) → b < 16 → (a * 16 + b) % 16 ≡ b
low_of a b h = grind arith

-- the digits of the byte that two numbers make
pub pair-digits : (high low a b : ℕ) → low < 16 → hex_digit high ≡ a → hex_digit low ≡ b → hex_byte (high * 16 + low) ≡ a ∷ b ∷ []
pair-digits high low a b small p q = λ i. (ap hex_digit (high_of high low small) ∙ p) i ∷ (ap hex_digit (low_of high low small) ∙ q) i ∷ []

-- the same, by the places of the digits
pub pair-at : (xs : List ℕ) (byte at k n : ℕ) → hex_byte byte ≡ get_or xs (at + 2 * k) 0 ∷ get_or xs (at + 2 * k + 1) 0 ∷ [] → at + 2 * k ≡ n → hex_byte byte ≡ get_or xs n 0 ∷ get_or xs (n + 1) 0 ∷ []
pair-at xs byte at k n e is = e ∙ ap (λ m. get_or xs m 0 ∷ get_or xs (m + 1) 0 ∷ []) is

pub word-bytes : (p q r s w : ℕ) → p < 256 → q < 256 → r < 256 → s < 256 → w ≡ from_be_bytes w32 (p ∷ q ∷ r ∷ s ∷ []) → to_be_bytes w32 w ≡ p ∷ q ∷ r ∷ s ∷ []
word-bytes p q r s w a b c d e = be_bytes_4 (p ∷ q ∷ r ∷ s ∷ []) w refl (small p q r s a b c d) e

-- ## One frame more

-- two digits more
taken-pair : (xs before pair : List ℕ) (n m : ℕ) → m ≡ n + 2 → m ≤ length xs → take n xs ≡ before → pair ≡ get_or xs n 0 ∷ get_or xs (n + 1) 0 ∷ [] → take m xs ≡ before ++ pair
taken-pair xs before pair n m is le was spelled =
    let next : m ≡ n + 1 + 1 = omega arith in
    ap (λ k. take k xs) next ∙ take_more xs (n + 1) 0 (omega arith)
    ∙ ap (λ l. l ++ get_or xs (n + 1) 0 ∷ []) (take_more xs n 0 (omega arith) ∙ ap (λ l. l ++ get_or xs n 0 ∷ []) was)
    ∙ append_assoc before (get_or xs n 0 ∷ []) (get_or xs (n + 1) 0 ∷ [])
    ∙ ap (λ l. before ++ l) (sym spelled)

-- eight digits more, those of four bytes
taken-word : (xs before : List ℕ) (n m p q r s : ℕ) → m ≡ n + 8 → m ≤ length xs → take n xs ≡ before
    → hex_byte p ≡ get_or xs n 0 ∷ get_or xs (n + 1) 0 ∷ []
    → hex_byte q ≡ get_or xs (n + 2) 0 ∷ get_or xs (n + 2 + 1) 0 ∷ []
    → hex_byte r ≡ get_or xs (n + 4) 0 ∷ get_or xs (n + 4 + 1) 0 ∷ []
    → hex_byte s ≡ get_or xs (n + 6) 0 ∷ get_or xs (n + 6 + 1) 0 ∷ []
    → take m xs ≡ before ++ flat_map hex_byte (p ∷ q ∷ r ∷ s ∷ [])
taken-word xs before n m p q r s is le was a b d e =
    let one = taken-pair xs before (hex_byte p) n (n + 2) refl (omega arith) was a in
    let two = taken-pair xs (before ++ hex_byte p) (hex_byte q) (n + 2) (n + 4) (omega arith) (omega arith) one b in
    let three = taken-pair xs ((before ++ hex_byte p) ++ hex_byte q) (hex_byte r) (n + 4) (n + 6) (omega arith) (omega arith) two d in
    let four = taken-pair xs (((before ++ hex_byte p) ++ hex_byte q) ++ hex_byte r) (hex_byte s) (n + 6) m (omega arith) le three e in
    four
    ∙ append_assoc ((before ++ hex_byte p) ++ hex_byte q) (hex_byte r) (hex_byte s)
    ∙ append_assoc (before ++ hex_byte p) (hex_byte q) (hex_byte r ++ hex_byte s)
    ∙ append_assoc before (hex_byte p) (hex_byte q ++ (hex_byte r ++ hex_byte s))

-- the digits of one frame more
more-digits : (frames : List Frame) (f : Frame) → flat_map hex_word (map packed_word (frames ++ f ∷ [])) ≡ flat_map hex_word (map packed_word frames) ++ hex_word (packed_word f)
more-digits frames f =
    ap (flat_map hex_word) (map_last packed_word frames f)
    ∙ flat_map-append hex_word (map packed_word frames) (packed_word f ∷ [])
    ∙ ap (λ l. flat_map hex_word (map packed_word frames) ++ l) (append-nil (hex_word (packed_word f)))

-- the digits of a word whose bytes are these
word-digits : (word p q r s : ℕ) → to_be_bytes w32 word ≡ p ∷ q ∷ r ∷ s ∷ [] → hex_word word ≡ flat_map hex_byte (p ∷ q ∷ r ∷ s ∷ [])
unfolding hex_word
word-digits word p q r s is = ap (flat_map hex_byte) is

-- a frame whose word eight digits spell
pub spelled-more : (xs : List ℕ) (frames : List Frame) (f : Frame) (n m p q r s : ℕ) → m ≡ n + 8 → m ≤ length xs → AreSpelled n xs frames
    → to_be_bytes w32 (packed_word f) ≡ p ∷ q ∷ r ∷ s ∷ [] → IsFrame f → packed_word f < 2 ^ 32
    → hex_byte p ≡ get_or xs n 0 ∷ get_or xs (n + 1) 0 ∷ []
    → hex_byte q ≡ get_or xs (n + 2) 0 ∷ get_or xs (n + 2 + 1) 0 ∷ []
    → hex_byte r ≡ get_or xs (n + 4) 0 ∷ get_or xs (n + 4 + 1) 0 ∷ []
    → hex_byte s ≡ get_or xs (n + 6) 0 ∷ get_or xs (n + 6 + 1) 0 ∷ []
    → AreSpelled m xs (frames ++ f ∷ [])
spelled-more xs frames f n m p q r s is le was bytes frame small a b d e = record {
  words = more-digits frames f ∙ ap (λ l. flat_map hex_word (map packed_word frames) ++ l) (word-digits (packed_word f) p q r s bytes)
      ∙ sym (taken-word xs (flat_map hex_word (map packed_word frames)) n m p q r s is le (sym was.words) a b d e);
  count = omega (arith, was.count, length-append frames (f ∷ []));
  samples = all-more IsFrame frames f was.samples frame;
  fits = subst AreWords (sym (map_last packed_word frames f)) (words-fit (map packed_word frames) (packed_word f) was.fits small);
}

-- ## How many words there are

-- eight digits make a word exactly if each has a number
chain : (a b c d e f g h : Option ℕ)
    → is_some ((a >>= λ x. b >>= λ y. Some (x * 16 + y)) >>= λ p. (c >>= λ x. d >>= λ y. Some (x * 16 + y)) >>= λ q. (e >>= λ x. f >>= λ y. Some (x * 16 + y)) >>= λ r. (g >>= λ x. h >>= λ y. Some (x * 16 + y)) >>= λ s. Some (from_be_bytes w32 (p ∷ q ∷ r ∷ s ∷ [])))
    ≡ (is_some a && (is_some b && (is_some c && (is_some d && (is_some e && (is_some f && (is_some g && (is_some h && true))))))))
chain None b c d e f g h = refl
chain (Some a) None c d e f g h = refl
chain (Some a) (Some b) None d e f g h = refl
chain (Some a) (Some b) (Some c) None e f g h = refl
chain (Some a) (Some b) (Some c) (Some d) None f g h = refl
chain (Some a) (Some b) (Some c) (Some d) (Some e) None g h = refl
chain (Some a) (Some b) (Some c) (Some d) (Some e) (Some f) None h = refl
chain (Some a) (Some b) (Some c) (Some d) (Some e) (Some f) (Some g) None = refl
chain (Some a) (Some b) (Some c) (Some d) (Some e) (Some f) (Some g) (Some h) = refl

word_some : (a b c d e f g h : ℕ) → is_some (packed_at a b c d e f g h) ≡ list_all is_hex (a ∷ b ∷ c ∷ d ∷ e ∷ f ∷ g ∷ h ∷ [])
unfolding packed_at byte_at
word_some a b c d e f g h =
    chain (hex_at a) (hex_at b) (hex_at c) (hex_at d) (hex_at e) (hex_at f) (hex_at g) (hex_at h)
    ∙ (λ i. some_by a i && (some_by b i && (some_by c i && (some_by d i && (some_by e i && (some_by f i && (some_by g i && (some_by h i && true))))))))

word_then : (o : Option ℕ) (r : Option (List ℕ)) → option_map length (o >>= λ w. r >>= λ ws. Some (w ∷ ws)) ≡ cond (is_some o) (option_map suc (option_map length r)) None
word_then (Some w) (Some ws) = refl
word_then (Some w) None = refl
word_then None r = refl

both_tests : (whole first rest : Bool) (m n : ℕ) → n ≡ suc m → cond first (option_map suc (cond (whole && rest) (Some m) None)) None ≡ cond (whole && (first && rest)) (Some n) None
both_tests true true true m n e = ap Some (sym e)
both_tests true true false m n e = refl
both_tests true false rest m n e = refl
both_tests false true rest m n e = refl
both_tests false false rest m n e = refl

-- so many words stand in digits, if they are some and of whole words
count_words : (xs : List ℕ) → option_map length (words_at xs) ≡ cond ((length xs % 8 == 0) && list_all is_hex xs) (Some (length xs / 8)) None
count_words [] = refl
count_words (a ∷ []) = refl
count_words (a ∷ b ∷ []) = refl
count_words (a ∷ b ∷ c ∷ []) = refl
count_words (a ∷ b ∷ c ∷ d ∷ []) = refl
count_words (a ∷ b ∷ c ∷ d ∷ e ∷ []) = refl
count_words (a ∷ b ∷ c ∷ d ∷ e ∷ f ∷ []) = refl
count_words (a ∷ b ∷ c ∷ d ∷ e ∷ f ∷ g ∷ []) = refl
count_words (a ∷ b ∷ c ∷ d ∷ e ∷ f ∷ g ∷ h ∷ rest) =
    let first = a ∷ b ∷ c ∷ d ∷ e ∷ f ∷ g ∷ h ∷ [] in
    let whole : (8 + length rest) % 8 ≡ length rest % 8 = omega arith in
    let one : (8 + length rest) / 8 ≡ suc (length rest / 8) = omega arith in
    let long : length (first ++ rest) ≡ 8 + length rest = omega arith in
    word_then (packed_at a b c d e f g h) (words_at rest)
    ∙ ap (λ t. cond t (option_map suc (option_map length (words_at rest))) None) (word_some a b c d e f g h)
    ∙ ap (λ (o : Option ℕ). cond (list_all is_hex first) (option_map suc o) None) (count_words rest)
    ∙ both_tests (length rest % 8 == 0) (list_all is_hex first) (list_all is_hex rest) (length rest / 8) (length (first ++ rest) / 8) (ap (λ n. n / 8) long ∙ one)
    ∙ ap (λ t. cond (t && (list_all is_hex first && list_all is_hex rest)) (Some (length (first ++ rest) / 8)) None) (ap (λ n. n == 0) (sym (ap (λ n. n % 8) long ∙ whole)))
    ∙ ap (λ t. cond ((length (first ++ rest) % 8 == 0) && t) (Some (length (first ++ rest) / 8)) None) (sym (list_all-append is_hex first rest))

-- whole words, of digits alone
pub count_some : (xs : List ℕ) → length xs % 8 ≡ 0 → list_all is_hex xs ≡ true → option_map length (words_at xs) ≡ Some (length xs / 8)
count_some xs whole all =
    count_words xs ∙ ap (λ t. cond (t && list_all is_hex xs) (Some (length xs / 8)) None) (ap (λ n. n == 0) whole)
    ∙ ap (λ t. cond t (Some (length xs / 8)) None) all

-- another byte stands among them
pub count_other : (xs : List ℕ) → length xs % 8 ≡ 0 → list_all is_hex xs ≡ false → option_map length (words_at xs) ≡ None
count_other xs whole some =
    count_words xs ∙ ap (λ t. cond (t && list_all is_hex xs) (Some (length xs / 8)) None) (ap (λ n. n == 0) whole)
    ∙ ap (λ t. cond t (Some (length xs / 8)) None) some

not_whole : (n : ℕ) → (n ≡ 0 → ⊥) → (n == 0) ≡ false
not_whole n h = grind (arith, nat_tests)

-- the last word has fewer digits
pub count_part : (xs : List ℕ) → (length xs % 8 ≡ 0 → ⊥) → option_map length (words_at xs) ≡ None
count_part xs part = count_words xs ∙ ap (λ t. cond (t && list_all is_hex xs) (Some (length xs / 8)) None) (not_whole (length xs % 8) part)
