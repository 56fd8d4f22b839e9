-- One draw after another.
use Rattle.std.proofs.Common.{◌≡◌, ℕ, zero, suc, ◌+◌, ◌*◌, List, [], ◌++◌, length, refl, sym, ap, ◌∙◌, arith, append_assoc, append-nil, add-one}
use Rattle.af_offline.proofs.Common.{sample_bytes}
use Rattle.af_offline.specs.Generated.{next_draw, drawn, sample_of, drawn_bytes, generated_file}
use Rattle.std.specs.Prelude.{◌%◌, ◌/◌}

drawn-more : (x count : ℕ) → drawn x (suc count) ≡ next_draw (drawn x count)
unfolding drawn
drawn-more x zero = refl
drawn-more x (suc count) = drawn-more (next_draw x) count

-- one more draw
pub drawn_next : (x count : ℕ) → drawn x (count + 1) ≡ next_draw (drawn x count)
drawn_next x count = ap (drawn x) (add-one count) ∙ drawn-more x count

pub drawn_none : (x : ℕ) → drawn x 0 ≡ x
unfolding drawn
drawn_none x = refl

-- some draws, and then others
pub drawn_behind : (x first count : ℕ) → drawn (drawn x first) count ≡ drawn x (first + count)
unfolding drawn
drawn_behind x zero count = ap (drawn x) (let same : count ≡ 0 + count = omega arith in same)
drawn_behind x (suc first) count = drawn_behind (next_draw x) first count ∙ ap (drawn x) (let same : suc (first + count) ≡ suc first + count = omega arith in same)

drawn_bytes-more : (x count : ℕ) → drawn_bytes x (suc count) ≡ drawn_bytes x count ++ sample_bytes (sample_of (next_draw (drawn x count)))
unfolding drawn drawn_bytes
drawn_bytes-more x zero = append-nil (sample_bytes (sample_of (next_draw x)))
drawn_bytes-more x (suc count) =
    let first : List ℕ = sample_bytes (sample_of (next_draw x)) in
    ap (λ (bytes : List ℕ). first ++ bytes) (drawn_bytes-more (next_draw x) count)
    ∙ sym (append_assoc first (drawn_bytes (next_draw x) count) (sample_bytes (sample_of (next_draw (drawn (next_draw x) count)))))

pub drawn_bytes_next : (x count : ℕ) → drawn_bytes x (count + 1) ≡ drawn_bytes x count ++ sample_bytes (sample_of (next_draw (drawn x count)))
drawn_bytes_next x count = ap (drawn_bytes x) (add-one count) ∙ drawn_bytes-more x count

pub drawn_bytes_none : (x : ℕ) → drawn_bytes x 0 ≡ []
unfolding drawn_bytes
drawn_bytes_none x = refl

-- each sample has two bytes
drawn_length : (x count : ℕ) → length (drawn_bytes x count) ≡ 2 * count
unfolding drawn_bytes
drawn_length x zero = omega arith
drawn_length x (suc count) =
    let more : length (drawn_bytes (next_draw x) count) ≡ 2 * count = drawn_length (next_draw x) count in
    omega (arith, more)

pub file_length : (number track : ℕ) → length (generated_file number track) ≡ 2 * (100000 * (1 + track % 2))
unfolding generated_file
file_length number track = drawn_length (drawn number (100000 * (track + track / 2))) (100000 * (1 + track % 2))

-- the next track's file begins where a track's file ends
drawn_track : (number track : ℕ) → drawn (drawn number (100000 * (track + track / 2))) (100000 * (1 + track % 2)) ≡ drawn number (100000 * ((track + 1) + (track + 1) / 2))
drawn_track number track =
    drawn_behind number (100000 * (track + track / 2)) (100000 * (1 + track % 2))
    ∙ ap (drawn number) (let same : (100000 * (track + track / 2)) + (100000 * (1 + track % 2)) ≡ (100000 * ((track + 1) + (track + 1) / 2)) = omega arith in same)

-- what is drawn from where the files before it ended is the track's file
pub file_is : (number track state : ℕ) (bytes : List ℕ) → state ≡ drawn number (100000 * (track + track / 2)) → bytes ≡ drawn_bytes state (100000 * (1 + track % 2)) → bytes ≡ generated_file number track
unfolding generated_file
file_is number track state bytes at is = is ∙ ap (λ (x : ℕ). drawn_bytes x (100000 * (1 + track % 2))) at

-- the state behind a track's file is where the next one begins
pub state_is : (number track state after : ℕ) → state ≡ drawn number (100000 * (track + track / 2)) → after ≡ drawn state (100000 * (1 + track % 2)) → after ≡ drawn number (100000 * ((track + 1) + (track + 1) / 2))
state_is number track state after at is = is ∙ ap (λ (x : ℕ). drawn x (100000 * (1 + track % 2))) at ∙ drawn_track number track
