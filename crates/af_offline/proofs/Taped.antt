-- A recording by the words of frames, beside that of the frames.
use Rattle.std.proofs.Common.{◌≡◌, ℕ, zero, suc, ◌+◌, ◌-◌, ◌*◌, ◌/◌, ◌%◌, ◌≤◌, ◌<◌, min, Bool, true, false, nat_le, List, [], ◌∷◌, ◌++◌, length, take, drop, map, refl, sym, ap, ap₂, ◌∙◌, arith, append_assoc, length-append, length-drop}
use Rattle.af_offline.proofs.Common.{Frame, drop-map, drop_all, flat_map, frame_bytes, leb-false, leb-true, length-map, map-append, packed_word, pcm_bytes, take-append-drop, take-map, take_all}
use Rattle.std.proofs.Common.{of_z, w16}
use Rattle.af_words.specs.declared.request.Sizes.{Sizes}
use Rattle.af_offline.specs.Recorded.{Recording, empty, supplied, read_up_to, period, periods, recording_of, frames_heard}
use Rattle.af_offline.specs.Captured.{word_bytes}

-- ---- the bytes of words

four : (a b c d : ℕ) → a < 256 → b < 256 → c < 256 → d < 256 → word_bytes (a + 256 * (b + 256 * (c + 256 * (d + 256 * 0)))) ≡ a ∷ b ∷ c ∷ d ∷ []
four a b c d p q r s =
    let w : ℕ = a + 256 * (b + 256 * (c + 256 * (d + 256 * 0))) in
    let e : w % 256 ≡ a = omega arith in
    let f : w / 256 % 256 ≡ b = omega arith in
    let g : w / 65536 % 256 ≡ c = omega arith in
    let h : w / 16777216 % 256 ≡ d = omega arith in
    rw (e, f, g, h) refl

frame_word : (frame : Frame) → word_bytes (packed_word frame) ≡ frame_bytes frame
frame_word frame =
    four (of_z w16 frame.left % 256) (of_z w16 frame.left / 256 % 256) (of_z w16 frame.right % 256) (of_z w16 frame.right / 256 % 256) (omega arith) (omega arith) (omega arith) (omega arith)

pub bytes_of_words : (frames : List Frame) → flat_map word_bytes (map packed_word frames) ≡ pcm_bytes frames
bytes_of_words [] = refl
bytes_of_words (frame ∷ frames) = ap₂ (λ (x y : List ℕ). x ++ y) (frame_word frame) (bytes_of_words frames)

pub words_append : (xs ys : List ℕ) → flat_map word_bytes (xs ++ ys) ≡ flat_map word_bytes xs ++ flat_map word_bytes ys
words_append [] ys = refl
words_append (x ∷ xs) ys = ap (λ (bytes : List ℕ). word_bytes x ++ bytes) (words_append xs ys) ∙ sym (append_assoc (word_bytes x) (flat_map word_bytes xs) (flat_map word_bytes ys))

-- ---- one period after the other

module _ {X : Type 0} where
  pub take_least : (n : ℕ) (xs : List X) → take (min (length xs) n) xs ≡ take n xs
  take_least n xs = go (nat_le (length xs) n) refl
    where
      go : (b : Bool) → nat_le (length xs) n ≡ b → take (min (length xs) n) xs ≡ take n xs
      go true e =
          let le : length xs ≤ n = leb-true (length xs) n e in
          let m : min (length xs) n ≡ length xs = omega arith in
          ap (λ (k : ℕ). take k xs) m ∙ take_all (length xs) xs (omega arith) ∙ sym (take_all n xs le)
      go false e =
          let lt : n < length xs = leb-false (length xs) n e in
          let m : min (length xs) n ≡ n = omega arith in
          ap (λ (k : ℕ). take k xs) m

  pub drop_least : (n : ℕ) (xs : List X) → drop (min (length xs) n) xs ≡ drop n xs
  drop_least n xs = go (nat_le (length xs) n) refl
    where
      go : (b : Bool) → nat_le (length xs) n ≡ b → drop (min (length xs) n) xs ≡ drop n xs
      go true e =
          let le : length xs ≤ n = leb-true (length xs) n e in
          let m : min (length xs) n ≡ length xs = omega arith in
          ap (λ (k : ℕ). drop k xs) m ∙ drop_all (length xs) xs (omega arith) ∙ sym (drop_all n xs le)
      go false e =
          let lt : n < length xs = leb-false (length xs) n e in
          let m : min (length xs) n ≡ n = omega arith in
          ap (λ (k : ℕ). drop k xs) m

-- so many periods come to the whole
pub record IsOn (sizes : Sizes) (rest : List ℕ) (r whole : Recording ℕ) : Type 0 where
  pub count : ℕ
  pub enough : length rest ≤ count
  pub is : periods sizes count rest r ≡ whole

pub one_on : (sizes : Sizes) (rest : List ℕ) (r whole : Recording ℕ) → 1 ≤ sizes.supply → 1 ≤ length rest → IsOn sizes rest r whole → IsOn sizes (drop sizes.supply rest) (period sizes (take sizes.supply rest) r) whole
one_on sizes rest r whole some more on = go on.count rest on.enough more on.is
  where
    go : (count : ℕ) (words : List ℕ) → length words ≤ count → 1 ≤ length words → periods sizes count words r ≡ whole → IsOn sizes (drop sizes.supply words) (period sizes (take sizes.supply words) r) whole
    go zero words enough more is = absurd (omega arith)
    go (suc count) [] enough more is = absurd (omega arith)
    go (suc count) (w ∷ words) enough more is = record { count = count; enough = omega (arith, length-drop sizes.supply (w ∷ words)); is = is }

-- the words of the next frames, and of those behind them
pub next_words : (n : ℕ) (frames : List Frame) → map packed_word (take (min (length frames) n) frames) ≡ take n (map packed_word frames)
next_words n frames = ap (map packed_word) (take_least n frames) ∙ sym (take-map packed_word n frames)

pub words_behind : (n : ℕ) (frames : List Frame) → map packed_word (drop (min (length frames) n) frames) ≡ drop n (map packed_word frames)
words_behind n frames = ap (map packed_word) (drop_least n frames) ∙ sym (drop-map packed_word n frames)

-- ---- the recording of the frames

abbrev pub in_words : Recording Frame → Recording ℕ
in_words r = record { read = map packed_word r.read; queued = map packed_word r.queued; lost = r.lost }

supplied_words : (room : ℕ) (frames : List Frame) (r : Recording Frame) → supplied room (map packed_word frames) (in_words r) ≡ in_words (supplied room frames r)
supplied_words room frames r =
    let put : ℕ = min (length frames) (room - length r.queued) in
    let many : length (map packed_word frames) ≡ length frames = length-map frames packed_word in
    let had : length (map packed_word r.queued) ≡ length r.queued = length-map r.queued packed_word in
    let same : map packed_word r.queued ++ take put (map packed_word frames) ≡ map packed_word (r.queued ++ take put frames) =
    ap (λ (x : List ℕ). map packed_word r.queued ++ x) (take-map packed_word put frames) ∙ sym (map-append packed_word r.queued (take put frames)) in
    ap₂ (λ (n m : ℕ). record { read = map packed_word r.read; queued = map packed_word r.queued ++ take (min n (room - m)) (map packed_word frames); lost = r.lost + (n - min n (room - m)) }) many had
    ∙ ap (λ (x : List ℕ). record { read = map packed_word r.read; queued = x; lost = r.lost + (length frames - put) }) same

read_words : (count : ℕ) (r : Recording Frame) → read_up_to count (in_words r) ≡ in_words (read_up_to count r)
read_words count r =
    ap₂ (λ (x y : List ℕ). record { read = x; queued = y; lost = r.lost })
    (ap (λ (x : List ℕ). map packed_word r.read ++ x) (take-map packed_word count r.queued) ∙ sym (map-append packed_word r.read (take count r.queued)))
    (drop-map packed_word count r.queued)

period_words : (sizes : Sizes) (frames : List Frame) (r : Recording Frame) → period sizes (map packed_word frames) (in_words r) ≡ in_words (period sizes frames r)
period_words sizes frames r = ap (read_up_to sizes.read) (supplied_words sizes.room frames r) ∙ read_words sizes.read (supplied sizes.room frames r)

periods_words : (sizes : Sizes) (count : ℕ) (frames : List Frame) (r : Recording Frame) → periods sizes count (map packed_word frames) (in_words r) ≡ in_words (periods sizes count frames r)
periods_words sizes zero frames r = refl
periods_words sizes (suc count) [] r = refl
periods_words sizes (suc count) (f ∷ fs) r =
    ap₂ (λ (rest next : List ℕ). periods sizes count rest (period sizes next (in_words r))) (drop-map packed_word sizes.supply (f ∷ fs)) (take-map packed_word sizes.supply (f ∷ fs))
    ∙ ap (periods sizes count (map packed_word (drop sizes.supply (f ∷ fs)))) (period_words sizes (take sizes.supply (f ∷ fs)) r)
    ∙ periods_words sizes count (drop sizes.supply (f ∷ fs)) (period sizes (take sizes.supply (f ∷ fs)) r)

pub recorded_words : (sizes : Sizes) (frames : List Frame) → periods sizes (length frames) (map packed_word frames) empty ≡ in_words (recording_of sizes frames)
recorded_words sizes frames = periods_words sizes (length frames) frames empty

pub heard_words : (sizes : Sizes) (frames : List Frame) → frames_heard (in_words (recording_of sizes frames)) ≡ map packed_word (frames_heard (recording_of sizes frames))
heard_words sizes frames = sym (map-append packed_word (recording_of sizes frames).read (recording_of sizes frames).queued)

-- ---- what the program does

-- a supply puts the first frames that there is room for
pub supply_state : (size room put lost before : ℕ) (read queued : List ℕ) (frames : List Frame) → size ≡ room → put ≡ min (length frames) (size - length queued) → put + lost ≡ length frames
    → ◌≡◌ {A = Recording ℕ} (record { read = read; queued = queued ++ map packed_word (take put frames); lost = before + lost }) (supplied room (map packed_word frames) (record { read = read; queued = queued; lost = before }))
supply_state size room put lost before read queued frames same is sum =
    let many : length (map packed_word frames) ≡ length frames = length-map frames packed_word in
    let p : put ≡ min (length (map packed_word frames)) (room - length queued) = omega arith in
    let l : before + lost ≡ before + (length (map packed_word frames) - min (length (map packed_word frames)) (room - length queued)) = omega arith in
    let w : map packed_word (take put frames) ≡ take (min (length (map packed_word frames)) (room - length queued)) (map packed_word frames) =
    sym (take-map packed_word put frames) ∙ ap (λ (n : ℕ). take n (map packed_word frames)) p in
    ap₂ (λ (x : List ℕ) (n : ℕ). record { read = read; queued = queued ++ x; lost = n }) w l

-- the bytes of what was read
pub read_bytes : (bytes read queued : List ℕ) (into : List Frame) (count : ℕ) → bytes ≡ flat_map word_bytes read → map packed_word (take count into) ≡ take count queued
    → bytes ++ pcm_bytes (take count into) ≡ flat_map word_bytes (read ++ take count queued)
read_bytes bytes read queued into count had same =
    ap₂ (λ (x y : List ℕ). x ++ y) had (sym (bytes_of_words (take count into)) ∙ ap (flat_map word_bytes) same) ∙ sym (words_append read (take count queued))

-- a read moves frames, and loses none
pub read_count : (read queued : List ℕ) (count : ℕ) → length (read ++ take count queued) + length (drop count queued) ≡ length read + length queued
read_count read queued count =
    let a = length-append read (take count queued) in
    let b = length-append (take count queued) (drop count queued) in
    let c : length (take count queued ++ drop count queued) ≡ length queued = ap length (take-append-drop count queued) in
    omega arith
