-- What is written for an op or a turn is read as that op or turn.
use Rattle.std.proofs.Common.{◌≡◌, ℕ, zero, suc, ◌+◌, ◌-◌, ◌^◌, ◌<◌, ◌≤◌, ◌==◌, ◌&&◌, not, nat_le, Bool, true, false, List, [], ◌∷◌, ◌++◌, length, get_or, take, drop, add-one, Option, Some, None, codes, decimal, refl, sym, ap, ◌∙◌, arith, if◌then◌else◌}
use Rattle.af_script.proofs.Common.{after_first, and_parts, before_first, drop_at, is_ascii_digit, list_all, nat_tests, option_and_then, option_map, position_or_len, take_at}
use Rattle.std.specs.Fmt.{digits}
use Rattle.std.proofs.lemmas.Fmt.{first_decimal, digits_decimal, digits_value-decimal}
use Rattle.std.proofs.Math.Nat.{pow-le-pow_right}
use Rattle.af_script.specs.Bounds.{most_gain, most_write, most_value, most_fast, most_tracks, header_words, command_frames}
use Rattle.af_script.specs.Text.{has_no_leading_zero, within, number_within, pair_within}
use Rattle.af_script.specs.Ops.{power_above, cells_of, words_of, gain_of, write_of, poke_stream, poke_command, op_of, client_turn_of, fast_of, turn_of}
use Rattle.af_script.specs.Form.{HasOpNumbers, IsTurn}
use Rattle.af_script.specs.Printing.{op_text, turn_text}
use Rattle.af_script.specs.declared.op.Op.{Op}
use Rattle.af_script.specs.declared.op.Op.TheVariants.{OpenTrack, Start, Pause, Stop, Flush, Drain, Remove, Yield, Gain, Write, Poke}
use Rattle.af_script.specs.declared.op.TurnSpec.{TurnSpec}
use Rattle.af_script.specs.declared.op.TurnSpec.TheVariants.{Client, Normal, Fast}
use Rattle.af_script.proofs.Numbers.{numerals}

-- numbers

leads : (ds : List ℕ) → 48 < get_or ds 0 0 → has_no_leading_zero ds ≡ true
leads [] some = absurd (omega arith)
leads (c ∷ []) some = refl
leads (c ∷ d ∷ rest) some = grind (arith, nat_tests)

decimal-leads : (n : ℕ) → n < 2 ^ 64 → has_no_leading_zero (decimal n) ≡ true
unfolding digits
decimal-leads zero small = refl
decimal-leads (suc n) small = leads (decimal (suc n)) (first_decimal (suc n) (omega arith) small)

pub decimal-digits : (n : ℕ) → n < 2 ^ 64 → list_all is_ascii_digit (decimal n) ≡ true
decimal-digits n small = digits_decimal numerals n small

within-is : (low high n : ℕ) → low ≤ n → n ≤ high → within low high n ≡ Some n
within-is low high n l h = grind (arith, nat_tests)

number_within-decimal : (low high n : ℕ) → low ≤ n → n ≤ high → n < 2 ^ 64 → number_within low high (decimal n) ≡ Some n
number_within-decimal low high n l h small =
    rw (decimal-leads n small, decimal-digits n small, digits_value-decimal numerals n small) (within-is low high n l h)

-- two numbers with one space between them

apart : (c : ℕ) → is_ascii_digit c ≡ true → (c == 32) ≡ false
apart c digit = grind (arith, nat_tests)

space_at : (ds rest : List ℕ) → list_all is_ascii_digit ds ≡ true → position_or_len (λ c. c == 32) (ds ++ 32 ∷ rest) ≡ length ds
space_at [] rest all = refl
space_at (c ∷ ds) rest all =
    let (here, more) = and_parts (is_ascii_digit c) (list_all is_ascii_digit ds) all in
    let e : position_or_len (λ c. c == 32) (ds ++ 32 ∷ rest) ≡ length ds = space_at ds rest more in
    rw (apart c here) (omega arith)

drop_past : (ds : List ℕ) (c : ℕ) (rest : List ℕ) → drop (suc (length ds)) (ds ++ c ∷ rest) ≡ rest
drop_past [] c rest = refl
drop_past (d ∷ ds) c rest = drop_past ds c rest

front : (ds rest : List ℕ) → list_all is_ascii_digit ds ≡ true → before_first (λ c. c == 32) (ds ++ 32 ∷ rest) ≡ ds
front ds rest all = ap (λ n. take n (ds ++ 32 ∷ rest)) (space_at ds rest all) ∙ take_at ds (32 ∷ rest) (length ds) refl

back : (ds rest : List ℕ) → list_all is_ascii_digit ds ≡ true → after_first (λ c. c == 32) (ds ++ 32 ∷ rest) ≡ rest
back ds rest all = ap (λ n. drop (n + 1) (ds ++ 32 ∷ rest)) (space_at ds rest all) ∙ ap (λ n. drop n (ds ++ 32 ∷ rest)) (add-one (length ds)) ∙ drop_past ds 32 rest

pair_by : (first second l r : ℕ) (text left right : List ℕ) → before_first (λ c. c == 32) text ≡ left → after_first (λ c. c == 32) text ≡ right → number_within 0 first left ≡ Some l → number_within 0 second right ≡ Some r → pair_within first second text ≡ Some (l, r)
pair_by first second l r text left right is_left is_right here there =
    let e : number_within 0 first (before_first (λ c. c == 32) text) ≡ Some l = ap (number_within 0 first) is_left ∙ here in
    let f : number_within 0 second (after_first (λ c. c == 32) text) ≡ Some r = ap (number_within 0 second) is_right ∙ there in
    ap (option_and_then (λ m. option_map (λ n. (m, n)) (number_within 0 second (after_first (λ c. c == 32) text)))) e
    ∙ ap (option_map (λ n. (l, n))) f

pair_within-decimals : (first second l r : ℕ) → l ≤ first → r ≤ second → l < 2 ^ 64 → r < 2 ^ 64 → pair_within first second (decimal l ++ 32 ∷ decimal r) ≡ Some (l, r)
pair_within-decimals first second l r le_l le_r small_l small_r =
    let text : List ℕ = decimal l ++ 32 ∷ decimal r in
    pair_by first second l r text (decimal l) (decimal r)
    (front (decimal l) (decimal r) (decimal-digits l small_l))
    (back (decimal l) (decimal r) (decimal-digits l small_l))
    (number_within-decimal 0 first l (omega arith) le_l small_l)
    (number_within-decimal 0 second r (omega arith) le_r small_r)

-- the words of a block

power-le : (k n : ℕ) → power_above k n ≤ 2 ^ k
power-le zero n = omega arith
power-le (suc k) n = power-by k n (nat_le n (2 ^ k)) (power-le k n)
  where
    power-by : (k n : ℕ) (test : Bool) → power_above k n ≤ 2 ^ k → (if test then power_above k n else 2 ^ suc k) ≤ 2 ^ suc k
    power-by k n true le = let more : 2 ^ k ≤ 2 ^ suc k = pow-le-pow_right (omega arith) (omega arith) in omega arith
    power-by k n false le = omega arith

pub words-le : (frames : ℕ) → words_of frames ≤ 8199
unfolding cells_of
words-le frames = let le : power_above 13 frames ≤ 2 ^ 13 = power-le 13 frames in omega arith

-- ops

pub op_of-text : (frames : ℕ) (op : Op) → HasOpNumbers frames op → op_of frames (op_text op) ≡ Some op
op_of-text frames OpenTrack h = refl
op_of-text frames Start h = refl
op_of-text frames Pause h = refl
op_of-text frames Stop h = refl
op_of-text frames Flush h = refl
op_of-text frames Drain h = refl
op_of-text frames Remove h = refl
op_of-text frames Yield h = refl
op_of-text frames (Gain l r) (le_l, le_r) =
    let e : pair_within most_gain most_gain (decimal l ++ 32 ∷ decimal r) ≡ Some (l, r) = pair_within-decimals most_gain most_gain l r le_l le_r (omega arith) (omega arith) in
    let f : gain_of (op_text (Gain l r)) ≡ Some (Gain l r) = ap (option_map (λ pair. Gain pair.0 pair.1)) e in
    rw f refl
op_of-text frames (Write n) (low, high) =
    let e : number_within 1 most_write (decimal n) ≡ Some n = number_within-decimal 1 most_write n low high (omega arith) in
    let f : write_of (op_text (Write n)) ≡ Some (Write n) = ap (option_map Write) e in
    rw f refl
op_of-text frames (Poke false w v) (word, value) =
    let bound : words_of frames ≤ 8199 = words-le frames in
    let last : ℕ = words_of frames - 1 in
    let e : pair_within last most_value (decimal w ++ 32 ∷ decimal v) ≡ Some (w, v) = pair_within-decimals last most_value w v (omega arith) value (omega arith) (omega arith) in
    let f : poke_stream frames (op_text (Poke false w v)) ≡ Some (Poke false w v) = ap (option_map (λ pair. Poke false pair.0 pair.1)) e in
    rw f refl
op_of-text frames (Poke true w v) (word, value) =
    let e : pair_within 134 most_value (decimal w ++ 32 ∷ decimal v) ≡ Some (w, v) = pair_within-decimals 134 most_value w v (omega arith) value (omega arith) (omega arith) in
    let f : poke_command (op_text (Poke true w v)) ≡ Some (Poke true w v) = ap (option_map (λ pair. Poke true pair.0 pair.1)) e in
    rw f refl

-- turns

pub turn_of-text : (tracks : ℕ) (turn : TurnSpec) → tracks ≤ most_tracks → IsTurn tracks turn → turn_of tracks (turn_text turn) ≡ Some turn
turn_of-text tracks (Client track) few below =
    let e : number_within 0 (tracks - 1) (decimal track) ≡ Some track = number_within-decimal 0 (tracks - 1) track (omega arith) (omega arith) (omega arith) in
    let f : client_turn_of tracks (turn_text (Client track)) ≡ Some (Client track) = ap (option_map Client) e in
    rw f refl
turn_of-text tracks Normal few is = refl
turn_of-text tracks (Fast cycles) few (low, high) =
    let e : number_within 1 most_fast (decimal cycles) ≡ Some cycles = number_within-decimal 1 most_fast cycles low high (omega arith) in
    let f : fast_of (turn_text (Fast cycles)) ≡ Some (Fast cycles) = ap (option_map Fast) e in
    rw f refl
