-- Words as a document writes them: in plain quotes, with no escape.
use Rattle.std.proofs.Common.{◌≡◌, ℕ, ◌^◌, ◌<◌, ◌≤◌, ◌==◌, ◌&&◌, ◌||◌, not, Bool, true, false, List, [], ◌∷◌, ◌++◌, codes, decimal, refl, sym, ap, ◌∙◌, arith, if◌then◌else◌, IsUtf8, IsAscii}
use Rattle.af_script.proofs.Common.{IsAscii-cons, IsAscii-nil, IsUtf8-from_ascii, IsUtf8-from_is_utf8, and_parts, is_ascii_digit, is_utf8, list_all, list_any, nat_tests}
use Rattle.std.proofs.lemmas.List.Folds.{list_all-append}
use Rattle.toml_writer.specs.Text.{is_control, has, needs_escape, quotes_after, escaped, encoding_of, encoded, basic, string_text}
use Rattle.af_script.specs.Bounds.{most_tracks}
use Rattle.af_script.specs.Text.{is_name_byte, begins_name, is_name}
use Rattle.af_script.specs.Form.{HasOpNumbers, IsTurn}
use Rattle.af_script.specs.Printing.{op_text, turn_text, kind_text, quoted}
use Rattle.af_script.specs.declared.op.Op.{Op}
use Rattle.af_script.specs.declared.op.Op.TheVariants.{OpenTrack, Start, Pause, Stop, Flush, Drain, Remove, Yield, Gain, Write, Poke}
use Rattle.af_script.specs.declared.op.TurnSpec.{TurnSpec}
use Rattle.af_script.specs.declared.op.TurnSpec.TheVariants.{Client, Normal, Fast}
use Rattle.af_script.proofs.PrintedWords.{decimal-digits, words-le}

-- a byte of a name, or a space
unfoldable pub is_word_byte : ℕ → Bool
is_word_byte c = is_name_byte c || c == 32

abbrev pub IsWord : List ℕ → Type 0
IsWord text = list_all is_word_byte text ≡ true

-- what such a byte is not

record Plain (c : ℕ) : Type 0 where
  low : 32 ≤ c
  high : c < 127
  quote : (c == 34) ≡ false
  backslash : (c == 92) ≡ false

plain : (c : ℕ) → is_word_byte c ≡ true → Plain c
unfolding is_word_byte
plain c word = record {
  low = grind (arith, nat_tests);
  high = grind (arith, nat_tests);
  quote = grind (arith, nat_tests);
  backslash = grind (arith, nat_tests);
}

any-none : (p : ℕ → Bool) → ((c : ℕ) → is_word_byte c ≡ true → p c ≡ false) → (s : List ℕ) → IsWord s → list_any p s ≡ false
any-none p none [] all = refl
any-none p none (c ∷ s) all =
    let (here, more) = and_parts (is_word_byte c) (list_all is_word_byte s) all in
    rw (none c here) (any-none p none s more)

no_control : (c : ℕ) → is_word_byte c ≡ true → is_control c ≡ false
no_control c word =
    let p = plain c word in
    let low : 32 ≤ c = p.low in
    let high : c < 127 = p.high in
    grind (arith, nat_tests)

no_backslash : (c : ℕ) → is_word_byte c ≡ true → (c == 92) ≡ false
no_backslash c word = (plain c word).backslash

no_quote : (c : ℕ) → is_word_byte c ≡ true → (c == 34) ≡ false
no_quote c word = (plain c word).quote

no_feed : (c : ℕ) → is_word_byte c ≡ true → (c == 10) ≡ false
no_feed c word = let low : 32 ≤ c = (plain c word).low in grind (arith, nat_tests)

no_escape : (c : ℕ) → is_word_byte c ≡ true → needs_escape false 0 c ≡ false
unfolding needs_escape
no_escape c word =
    let p = plain c word in
    let low : 32 ≤ c = p.low in
    let high : c < 127 = p.high in
    let q : (c == 34) ≡ false = p.quote in
    let b : (c == 92) ≡ false = p.backslash in
    grind (arith, nat_tests)

no_count : (c : ℕ) → is_word_byte c ≡ true → quotes_after false 0 c ≡ 0
unfolding quotes_after
no_count c word = let q : (c == 34) ≡ false = no_quote c word in rw q refl

escaped-word : (s : List ℕ) → IsWord s → escaped false 0 s ≡ s
unfolding escaped
escaped-word [] all = refl
escaped-word (c ∷ s) all =
    let (here, more) = and_parts (is_word_byte c) (list_all is_word_byte s) all in
    rw (no_escape c here, no_count c here) (ap (λ t. c ∷ t) (escaped-word s more))

encoding-word : (s : List ℕ) → IsWord s → encoding_of s ≡ basic
unfolding encoding_of
encoding-word s all =
    let control : list_any is_control s ≡ false = any-none is_control no_control s all in
    let backslash : has 92 s ≡ false = any-none (λ c. c == 92) no_backslash s all in
    let quote : has 34 s ≡ false = any-none (λ c. c == 34) no_quote s all in
    let feed : has 10 s ≡ false = any-none (λ c. c == 10) no_feed s all in
    rw (control, backslash, quote, feed) refl

-- a word stands in quotes as it is
pub quoted-word : (s : List ℕ) → IsWord s → string_text s ≡ quoted s
unfolding string_text
quoted-word s all = ap (λ e. encoded e s) (encoding-word s all) ∙ ap (λ t. 34 ∷ t ++ 34 ∷ []) (escaped-word s all)

-- words are text

word-ascii : (s : List ℕ) → IsWord s → IsAscii s
word-ascii [] all = IsAscii-nil
word-ascii (c ∷ s) all =
    let (here, more) = and_parts (is_word_byte c) (list_all is_word_byte s) all in
    let high : c < 127 = (plain c here).high in
    IsAscii-cons c s (omega arith) (word-ascii s more)

pub word-utf8 : (s : List ℕ) → IsWord s → IsUtf8 s
word-utf8 s all = IsUtf8-from_ascii s (word-ascii s all)

-- what is printed consists of words

digit-byte : (c : ℕ) → is_ascii_digit c ≡ true → is_word_byte c ≡ true
unfolding is_word_byte
digit-byte c digit = rw digit refl

name-byte : (c : ℕ) → is_name_byte c ≡ true → is_word_byte c ≡ true
unfolding is_word_byte
name-byte c name = rw name refl

all-word : (p : ℕ → Bool) → ((c : ℕ) → p c ≡ true → is_word_byte c ≡ true) → (s : List ℕ) → list_all p s ≡ true → IsWord s
all-word p each [] all = refl
all-word p each (c ∷ s) all =
    let (here, more) = and_parts (p c) (list_all p s) all in
    rw (each c here) (all-word p each s more)

pub decimal-word : (n : ℕ) → n < 2 ^ 64 → IsWord (decimal n)
decimal-word n small = all-word is_ascii_digit digit-byte (decimal n) (decimal-digits n small)

pub name-word : (s : List ℕ) → is_name s ≡ true → IsWord s
name-word s name = all-word is_name_byte name-byte s (and_parts _ (list_all is_name_byte s) name).1

append-word : (s t : List ℕ) → IsWord s → IsWord t → IsWord (s ++ t)
append-word s t here there = list_all-append is_word_byte s t ∙ rw (here, there) refl

pair-word : (word : List ℕ) (l r : ℕ) → IsWord word → l < 2 ^ 64 → r < 2 ^ 64 → IsWord (word ++ (decimal l ++ (codes " " ++ decimal r)))
unfolding is_word_byte
pair-word word l r is small_l small_r =
    append-word word (decimal l ++ (codes " " ++ decimal r)) is (append-word (decimal l) (codes " " ++ decimal r) (decimal-word l small_l) (append-word (codes " ") (decimal r) refl (decimal-word r small_r)))

pub op-word : (frames : ℕ) (op : Op) → HasOpNumbers frames op → IsWord (op_text op)
unfolding is_word_byte
op-word frames OpenTrack h = refl
op-word frames Start h = refl
op-word frames Pause h = refl
op-word frames Stop h = refl
op-word frames Flush h = refl
op-word frames Drain h = refl
op-word frames Remove h = refl
op-word frames Yield h = refl
op-word frames (Gain l r) (le_l, le_r) = pair-word (codes "gain ") l r refl (omega arith) (omega arith)
op-word frames (Write n) (low, high) = append-word (codes "write ") (decimal n) refl (decimal-word n (omega arith))
op-word frames (Poke false w v) (word, value) = let bound = words-le frames in pair-word (codes "poke stream ") w v refl (omega (arith, bound)) (omega arith)
op-word frames (Poke true w v) (word, value) = pair-word (codes "poke command ") w v refl (omega arith) (omega arith)

pub turn-word : (tracks : ℕ) (turn : TurnSpec) → tracks ≤ most_tracks → IsTurn tracks turn → IsWord (turn_text turn)
unfolding is_word_byte
turn-word tracks (Client track) few below = append-word (codes "c ") (decimal track) refl (decimal-word track (omega arith))
turn-word tracks Normal few is = refl
turn-word tracks (Fast cycles) few (low, high) = append-word (codes "f ") (decimal cycles) refl (decimal-word cycles (omega arith))

pub kind-word : (fast : Bool) → IsWord (kind_text fast)
unfolding is_word_byte
kind-word true = refl
kind-word false = refl
