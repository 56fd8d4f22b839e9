-- The steps of a cycle by the tracks of its state.
use Rattle.std.proofs.Common.{◌≡◌, ℕ, zero, suc, ◌+◌, ◌*◌, ◌≤◌, Bool, true, false, if◌then◌else◌, refl, ap, ◌∙◌, arith}
use Rattle.af_fast.proofs.Common.{FastState, carries, mul-add, mul-le-mul_left, mul_comm, slots, suc-mul, tracks_below, tracks_of}

one_each : (each total after before bound : ℕ) (b : Bool) → before ≤ bound + total * each → (b ≡ true → after ≤ before + each) → (b ≡ false → after ≡ before) → after ≤ bound + (total + (if b then 1 else 0)) * each
one_each each total after before bound true few on off =
    let more : suc total * each ≡ total * each + each = suc-mul total each in
    let same : (total + 1) * each ≡ suc total * each = ap (λ n. n * each) (let e : total + 1 ≡ suc total = omega arith in e) in
    omega (arith, few, on refl, more, same)
one_each each total after before bound false few on off =
    let same : (total + 0) * each ≡ total * each = ap (λ n. n * each) (let e : total + 0 ≡ total = omega arith in e) in
    omega (arith, few, off refl, same)

-- the steps are within their bound after one slot more was played
pub slot_counted : (x : FastState) (i each after before bound : ℕ) → before ≤ bound + tracks_below x i * each → (carries x i ≡ true → after ≤ before + each) → (carries x i ≡ false → after ≡ before) → after ≤ bound + tracks_below x (suc i) * each
slot_counted x i each after before bound few on off = one_each each (tracks_below x i) after before bound (carries x i) few on off

at_most_one : (b : Bool) → (if b then 1 else 0) ≤ 1
at_most_one true = omega arith
at_most_one false = omega arith

-- slot 0 has no track, so there are fewer tracks than slots
few_below : (x : FastState) (i : ℕ) → tracks_below x (suc i) ≤ i
few_below x zero = omega arith
few_below x (suc i) = omega (arith, few_below x i, at_most_one (carries x (suc i)))

-- the tracks below the number of slots are all tracks of a state
pub all_below : (x : FastState) → tracks_below x slots ≡ tracks_of x
unfolding tracks_of
all_below x = refl

pub few_tracks : (x : FastState) → tracks_of x + 1 ≤ slots
few_tracks x = omega (arith, few_below x 31, all_below x)

-- the bound for some tracks is within that for more tracks
pub within_more : (tracks most frames : ℕ) → tracks + 1 ≤ most → (tracks + 1) * frames ≤ most * frames
within_more tracks most frames few =
    let le : frames * (tracks + 1) ≤ frames * most = mul-le-mul_left frames few in
    omega (arith, le, mul_comm frames (tracks + 1), mul_comm frames most)

-- the steps of a mix are those of the pipe, of each track, and of the report
pub mixed_few : (tracks frames before between after : ℕ) → between ≤ before + (frames + 3) + tracks * (frames + 7) → after ≡ between + 1 → after ≤ before + (tracks + 1) * frames + 7 * tracks + 4
mixed_few tracks frames before between after few stored =
    let whole : tracks * (frames + 7) ≡ tracks * frames + tracks * 7 = mul-add tracks frames 7 in
    let next : (tracks + 1) * frames ≡ tracks * frames + frames = ap (λ n. n * frames) (let e : tracks + 1 ≡ suc tracks = omega arith in e) ∙ suc-mul tracks frames in
    omega (arith, few, stored, whole, next)

-- the bound for at most seven tracks
pub seven_so : (x : FastState) (frames before after : ℕ) → tracks_of x ≤ 7 → after ≤ before + (tracks_of x + 1) * frames + 7 * tracks_of x + 6 → after ≤ before + 8 * frames + 65
seven_so x frames before after few bound = omega (arith, bound, within_more (tracks_of x) 8 frames (omega arith))

-- the bound for any number of tracks
pub most_so : (x : FastState) (frames before after : ℕ) → after ≤ before + (tracks_of x + 1) * frames + 7 * tracks_of x + 6 → after ≤ before + slots * (frames + 8) + 1
most_so x frames before after bound = omega (arith, bound, few_tracks x, within_more (tracks_of x) slots frames (few_tracks x))
