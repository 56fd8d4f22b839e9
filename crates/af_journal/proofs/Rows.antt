-- Rows of bytes and digits, made place by place, and what they spell.
use Rattle.std.proofs.Common.{◌≡◌, ℕ, ◌+◌, ◌-◌, ◌*◌, ◌/◌, ◌%◌, ◌<◌, List, [], ◌∷◌, ◌++◌, length, map, take, drop, get_or, set, refl, ap, ◌∙◌, sym, arith}
use Rattle.af_journal.proofs.Common.{Frame, append-nil, append_assoc, flat_map, flat_map-append, length-set, map-append, packed_word, slice_range, take-add, take-append-drop, take-set_at, take_more, to_be_bytes, w32}
use Rattle.af_journal.specs.Lines.{hex_byte, hex_digit, hex_word}

-- ## Stores one after the other

-- one item more is stored in a row
store-more : (row front : List ℕ) (n m a : ℕ) → m ≡ n + 1 → n < length row → take n row ≡ front → take m (set row n a) ≡ front ++ a ∷ []
store-more row front n m a is lt was = take-set_at row n m a is lt ∙ ap (λ l. l ++ a ∷ []) was

-- two
two-more : (row front : List ℕ) (n m a b : ℕ) → m ≡ n + 2 → n + 1 < length row → take n row ≡ front → take m (set (set row n a) (n + 1) b) ≡ front ++ a ∷ b ∷ []
two-more row front n m a b is lt was =
    let long = length-set row n a in
    store-more (set row n a) (front ++ a ∷ []) (n + 1) m b (omega arith) (omega arith) (store-more row front n (n + 1) a refl (omega arith) was)
    ∙ append_assoc front (a ∷ []) (b ∷ [])

-- four
four-more : (row front : List ℕ) (n m a b c d : ℕ) → m ≡ n + 4 → n + 3 < length row → take n row ≡ front
    → take m (set (set (set (set row n a) (n + 1) b) (n + 2) c) (n + 3) d) ≡ front ++ a ∷ b ∷ c ∷ d ∷ []
four-more row front n m a b c d is lt was =
    let two = set (set row n a) (n + 1) b in
    let first = length-set row n a in
    let second = length-set (set row n a) (n + 1) b in
    let third = length-set two (n + 2) c in
    store-more (set two (n + 2) c) (front ++ a ∷ b ∷ c ∷ []) (n + 3) m d (omega arith) (omega arith)
    (store-more two (front ++ a ∷ b ∷ []) (n + 2) (n + 3) c (omega arith) (omega arith) (two-more row front n (n + 2) a b refl (omega arith) was) ∙ append_assoc front (a ∷ b ∷ []) (c ∷ []))
    ∙ append_assoc front (a ∷ b ∷ c ∷ []) (d ∷ [])

-- ## What f gives of one more

more-of : {X : Type 0} (f : X → List ℕ) (xs : List X) (i : ℕ) (d : X) → i < length xs → flat_map f (take (i + 1) xs) ≡ flat_map f (take i xs) ++ f (get_or xs i d)
more-of f xs i d lt =
    ap (flat_map f) (take_more xs i d lt)
    ∙ flat_map-append f (take i xs) (get_or xs i d ∷ [])
    ∙ ap (λ l. flat_map f (take i xs) ++ l) (append-nil (f (get_or xs i d)))

-- the digits of one byte more
pub row-more : (bytes row : List ℕ) (i high low : ℕ) → i < length bytes → 2 * i + 1 < length row
    → high ≡ hex_digit (get_or bytes i 0 / 16) → low ≡ hex_digit (get_or bytes i 0 % 16) → take (2 * i) row ≡ flat_map hex_byte (take i bytes)
    → take (2 * (i + 1)) (set (set row (2 * i) high) (2 * i + 1) low) ≡ flat_map hex_byte (take (i + 1) bytes)
row-more bytes row i high low lt room h l was =
    two-more row (flat_map hex_byte (take i bytes)) (2 * i) (2 * (i + 1)) high low (omega arith) room was
    ∙ ap (λ d. flat_map hex_byte (take i bytes) ++ d ∷ low ∷ []) h
    ∙ ap (λ d. flat_map hex_byte (take i bytes) ++ hex_digit (get_or bytes i 0 / 16) ∷ d ∷ []) l
    ∙ sym (more-of hex_byte bytes i 0 lt)

-- the bytes of a frame
abbrev frame_digits : Frame → List ℕ
frame_digits frame = to_be_bytes w32 (packed_word frame)

each-word : (frames : List Frame) → flat_map frame_digits frames ≡ flat_map (to_be_bytes w32) (map packed_word frames)
each-word [] = refl
each-word (frame ∷ frames) = ap (λ l. frame_digits frame ++ l) (each-word frames)

-- the bytes of one frame more
pub bytes-more : (frames : List Frame) (bytes word : List ℕ) (i : ℕ) (frame : Frame) → i < length frames → 4 * i + 3 < length bytes
    → word ≡ to_be_bytes w32 (packed_word (get_or frames i frame)) → take (4 * i) bytes ≡ flat_map (to_be_bytes w32) (map packed_word (take i frames))
    → take (4 * (i + 1)) (set (set (set (set bytes (4 * i) (get_or word 0 0)) (4 * i + 1) (get_or word 1 0)) (4 * i + 2) (get_or word 2 0)) (4 * i + 3) (get_or word 3 0))
    ≡ flat_map (to_be_bytes w32) (map packed_word (take (i + 1) frames))
bytes-more frames bytes word i frame lt room is was =
    let front = flat_map (to_be_bytes w32) (map packed_word (take i frames)) in
    four-more bytes front (4 * i) (4 * (i + 1)) (get_or word 0 0) (get_or word 1 0) (get_or word 2 0) (get_or word 3 0) (omega arith) room was
    ∙ ap (λ (l : List ℕ). front ++ get_or l 0 0 ∷ get_or l 1 0 ∷ get_or l 2 0 ∷ get_or l 3 0 ∷ []) is
    ∙ ap (λ l. l ++ frame_digits (get_or frames i frame)) (sym (each-word (take i frames)))
    ∙ sym (more-of frame_digits frames i frame lt)
    ∙ each-word (take (i + 1) frames)

-- ## Words

-- the digits of a word's bytes are those of the word
digits-of-bytes : (words : List ℕ) → flat_map hex_byte (flat_map (to_be_bytes w32) words) ≡ flat_map hex_word words
unfolding hex_word
digits-of-bytes [] = refl
digits-of-bytes (word ∷ words) = flat_map-append hex_byte (to_be_bytes w32 word) (flat_map (to_be_bytes w32) words) ∙ ap (λ l. hex_word word ++ l) (digits-of-bytes words)

-- a word's eight digits
pub eight-digits : (word : ℕ) (bytes : List ℕ) (a b c d e f g h : ℕ) → bytes ≡ to_be_bytes w32 word
    → a ≡ hex_digit (get_or bytes 0 0 / 16) → b ≡ hex_digit (get_or bytes 0 0 % 16) → c ≡ hex_digit (get_or bytes 1 0 / 16) → d ≡ hex_digit (get_or bytes 1 0 % 16)
    → e ≡ hex_digit (get_or bytes 2 0 / 16) → f ≡ hex_digit (get_or bytes 2 0 % 16) → g ≡ hex_digit (get_or bytes 3 0 / 16) → h ≡ hex_digit (get_or bytes 3 0 % 16)
    → a ∷ b ∷ c ∷ d ∷ e ∷ f ∷ g ∷ h ∷ [] ≡ hex_word word
unfolding hex_word
eight-digits word bytes a b c d e f g h is pa pb pc pd pe pf pg ph =
    let high = λ (k : ℕ). ap (λ (l : List ℕ). hex_digit (get_or l k 0 / 16)) is in
    let low = λ (k : ℕ). ap (λ (l : List ℕ). hex_digit (get_or l k 0 % 16)) is in
    λ i. (pa ∙ high 0) i ∷ (pb ∙ low 0) i ∷ (pc ∙ high 1) i ∷ (pd ∙ low 1) i ∷ (pe ∙ high 2) i ∷ (pf ∙ low 2) i ∷ (pg ∙ high 3) i ∷ (ph ∙ low 3) i ∷ []

-- eight words more
pub eight-more : (frames : List Frame) (before text bytes digits : List ℕ) (row : ℕ)
    → text ≡ before ++ flat_map hex_word (map packed_word (take (8 * row) frames))
    → bytes ≡ flat_map (to_be_bytes w32) (map packed_word (slice_range frames (8 * row) (8 * row + 8))) → digits ≡ flat_map hex_byte bytes
    → text ++ digits ≡ before ++ flat_map hex_word (map packed_word (take (8 * (row + 1)) frames))
eight-more frames before text bytes digits row was are spelled =
    let eight = slice_range frames (8 * row) (8 * row + 8) in
    let next : 8 * (row + 1) ≡ 8 * row + 8 = omega arith in
    let long : 8 * row + 8 - 8 * row ≡ 8 = omega arith in
    let front = flat_map hex_word (map packed_word (take (8 * row) frames)) in
    let all : take (8 * (row + 1)) frames ≡ take (8 * row) frames ++ eight =
    ap (λ n. take n frames) next ∙ take-add (8 * row) 8 frames ∙ ap (λ n. take (8 * row) frames ++ take n (drop (8 * row) frames)) (sym long) in
    let each : flat_map hex_word (map packed_word (take (8 * (row + 1)) frames)) ≡ front ++ flat_map hex_word (map packed_word eight) =
    ap (λ l. flat_map hex_word (map packed_word l)) all
    ∙ ap (flat_map hex_word) (map-append packed_word (take (8 * row) frames) eight)
    ∙ flat_map-append hex_word (map packed_word (take (8 * row) frames)) (map packed_word eight) in
    let some : digits ≡ flat_map hex_word (map packed_word eight) = spelled ∙ ap (flat_map hex_byte) are ∙ digits-of-bytes (map packed_word eight) in
    ap (λ l. l ++ digits) was ∙ append_assoc before front digits ∙ ap (λ l. before ++ (front ++ l)) some ∙ ap (λ l. before ++ l) (sym each)

-- some frames and the rest
pub both-parts : (frames first rest : List Frame) (n : ℕ) → first ≡ take n frames → rest ≡ drop n frames
    → flat_map hex_word (map packed_word first) ++ flat_map hex_word (map packed_word rest) ≡ flat_map hex_word (map packed_word frames)
both-parts frames first rest n is other =
    sym (flat_map-append hex_word (map packed_word first) (map packed_word rest))
    ∙ ap (flat_map hex_word) (sym (map-append packed_word first rest))
    ∙ ap (λ l. flat_map hex_word (map packed_word l)) (ap (λ l. l ++ rest) is ∙ ap (λ l. take n frames ++ l) other ∙ take-append-drop n frames)
