-- A row of frames is so many steps, and what is heard of it.
use Rattle.std.proofs.Common.{◌≡◌, ℕ, zero, suc, ◌+◌, ◌-◌, ◌*◌, ◌<◌, ◌≤◌, inl, inr, ℤ, pos, ◌+ℤ◌, ◌*ℤ◌, Bool, false, not, ◌&&◌, ◌==◌, if◌then◌else◌, List, [], ◌∷◌, ◌++◌, length, take, drop, refl, sym, ap, ◌∙◌, arith, length-append}
use Rattle.std.proofs.lemmas.Bool.{lt-ltb, le-ltb, cases_lt}
use Rattle.std.proofs.lemmas.Bool.Decides.{nat_tests}
use Rattle.std.proofs.lemmas.Int.{ints}
use Rattle.std.proofs.lemmas.List.{get_or_append_left, get_or-append-add, get_or-take, get_or_past, length-take-le, length-drop}
use Rattle.std.proofs.lemmas.List.FromFn.{fill_by_all, get_or-map-range_with_len, length-map-range_with_len}
use Rattle.std.proofs.Math.Seq.{drop-cons}
use Rattle.af_base.specs.declared.frame.Frame.{Frame}
use Rattle.af_base.specs.Gain.{gain_used, left_half, right_half}
use Rattle.af_base.specs.Mix.{frame_at, silence, mixed_frame, mixed_sample, right_sample}
use Rattle.af_static.specs.declared.head.Head.{Head}
use Rattle.af_static.specs.Loops.{IsRow, jumped, moved, spent, loop_frames, head_moved, take_at, output}
use Rattle.af_static.specs.Played.{IsPlayedTo, IsSilentFrom, IsDone}

-- ## Steps

abbrev head_at : Head → ℕ → Head
head_at h position = record { position = position; start = h.start; end = h.end; left = h.left }

pub first_step : (frames : List Frame) (h : Head) (steps : ℕ) → h.position < length frames → loop_frames frames h (suc steps) ≡ frame_at frames h.position ∷ loop_frames frames (moved h 1) steps
first_step frames h steps ahead = ap (λ (b : Bool). if b then frame_at frames h.position ∷ loop_frames frames (if b then moved h 1 else h) steps else []) (lt-ltb h.position (length frames) ahead)

pub first_moves : (n : ℕ) (h : Head) (steps : ℕ) → h.position < n → head_moved n h (suc steps) ≡ head_moved n (moved h 1) steps
first_moves n h steps ahead = ap (λ (b : Bool). head_moved n (if b then moved h 1 else h) steps) (lt-ltb h.position n ahead)

no_jump : (left place stop : ℕ) → (0 < left → place < stop) → (not (left == 0) && place == stop) ≡ false
no_jump left place stop before = grind (arith, nat_tests)

abbrev back_at_start : Head → Head
back_at_start h = record { position = h.start; start = h.start; end = h.end; left = spent h.left }

-- one frame on, before the end of a row
passes : (n : ℕ) (h : Head) (more : ℕ) → IsRow n h (suc (suc more)) → moved h 1 ≡ head_at h (h.position + 1)
passes n h more row =
    let before : 0 < h.left → h.position + 1 < h.end = λ some. (let e = row.looped some in omega arith) in
    ap (λ (b : Bool). if b then back_at_start h else head_at h (h.position + 1)) (no_jump h.left (h.position + 1) h.end before)

later_row : (n : ℕ) (h : Head) (more : ℕ) → IsRow n h (suc (suc more)) → IsRow n (head_at h (h.position + 1)) (suc more)
later_row n h more row = record { inside = (let e = row.inside in omega arith); looped = λ some. (let e = row.looped some in omega arith) }

same_end : (h : Head) (more : ℕ) → moved (head_at h (h.position + 1)) (suc more) ≡ moved h (suc (suc more))
same_end h more =
    let place : h.position + 1 + suc more ≡ h.position + suc (suc more) = omega arith in
    ap (λ (p : ℕ). jumped (head_at h p)) place

first_of_row : (frames : List Frame) (j run : ℕ) → j < length frames → take (suc run) (drop j frames) ≡ frame_at frames j ∷ take run (drop (suc j) frames)
first_of_row frames j run inside = ap (take (suc run)) (drop-cons frames j silence inside)

row_frames : (frames : List Frame) (run steps rest : ℕ) (h : Head) → 0 < run → steps ≡ run + rest → IsRow (length frames) h run → loop_frames frames h steps ≡ take run (drop h.position frames) ++ loop_frames frames (moved h run) rest
row_frames frames zero steps rest h some is row = absurd (omega arith)
row_frames frames (suc run) zero rest h some is row = absurd (omega arith)
row_frames frames (suc zero) (suc steps) rest h some is row =
    let inside = row.inside in
    let ahead : h.position < length frames = omega arith in
    let same : steps ≡ rest = omega arith in
    first_step frames h steps ahead
    ∙ ap (λ (s : ℕ). frame_at frames h.position ∷ loop_frames frames (moved h 1) s) same
    ∙ ap (λ (fs : List Frame). fs ++ loop_frames frames (moved h 1) rest) (sym (first_of_row frames h.position 0 ahead))
row_frames frames (suc (suc run)) (suc steps) rest h some is row =
    let inside = row.inside in
    let ahead : h.position < length frames = omega arith in
    let more : steps ≡ suc run + rest = omega arith in
    let place : h.position + 1 ≡ suc h.position = omega arith in
    first_step frames h steps ahead
    ∙ ap (λ (g : Head). frame_at frames h.position ∷ loop_frames frames g steps) (passes (length frames) h run row)
    ∙ ap (λ (fs : List Frame). frame_at frames h.position ∷ fs) (row_frames frames (suc run) steps rest (head_at h (h.position + 1)) (omega arith) more (later_row (length frames) h run row))
    ∙ ap (λ (g : Head). frame_at frames h.position ∷ (take (suc run) (drop (h.position + 1) frames) ++ loop_frames frames g rest)) (same_end h run)
    ∙ ap (λ (j : ℕ). frame_at frames h.position ∷ (take (suc run) (drop j frames) ++ loop_frames frames (moved h (suc (suc run))) rest)) place
    ∙ ap (λ (fs : List Frame). fs ++ loop_frames frames (moved h (suc (suc run))) rest) (sym (first_of_row frames h.position (suc run) ahead))

row_moves : (n run steps rest : ℕ) (h : Head) → 0 < run → steps ≡ run + rest → IsRow n h run → head_moved n h steps ≡ head_moved n (moved h run) rest
row_moves n zero steps rest h some is row = absurd (omega arith)
row_moves n (suc run) zero rest h some is row = absurd (omega arith)
row_moves n (suc zero) (suc steps) rest h some is row =
    let inside = row.inside in
    let ahead : h.position < n = omega arith in
    let same : steps ≡ rest = omega arith in
    first_moves n h steps ahead ∙ ap (λ (s : ℕ). head_moved n (moved h 1) s) same
row_moves n (suc (suc run)) (suc steps) rest h some is row =
    let inside = row.inside in
    let ahead : h.position < n = omega arith in
    let more : steps ≡ suc run + rest = omega arith in
    first_moves n h steps ahead
    ∙ ap (λ (g : Head). head_moved n g steps) (passes n h run row)
    ∙ row_moves n (suc run) steps rest (head_at h (h.position + 1)) (omega arith) more (later_row n h run row)
    ∙ ap (λ (g : Head). head_moved n g rest) (same_end h run)

-- ## The end of the buffer

pub none_left : (frames : List Frame) (h : Head) (steps : ℕ) → length frames ≤ h.position → loop_frames frames h steps ≡ []
none_left frames h zero past = refl
none_left frames h (suc steps) past = ap (λ (b : Bool). if b then frame_at frames h.position ∷ loop_frames frames (if b then moved h 1 else h) steps else []) (le-ltb h.position (length frames) past)

pub stays : (n : ℕ) (h : Head) (steps : ℕ) → n ≤ h.position → head_moved n h steps ≡ h
stays n h zero past = refl
stays n h (suc steps) past = ap (λ (b : Bool). head_moved n (if b then moved h 1 else h) steps) (le-ltb h.position n past) ∙ stays n h steps past

-- ## What is heard

abbrev heard_of : ℕ × ℕ → Frame → Frame
heard_of gains frame = record {
  left = mixed_sample (frame.left *ℤ pos (gain_used (left_half (gains.0 + 65536 * gains.1)) 4096) +ℤ pos 0);
  right = mixed_sample (right_sample false frame *ℤ pos (gain_used (right_half (gains.0 + 65536 * gains.1)) 4096) +ℤ pos 0);
}

heard_at : (gains : ℕ × ℕ) (frames : List Frame) (k : ℕ) → mixed_frame (take_at gains frames ∷ []) k ≡ heard_of gains (frame_at frames k)
heard_at gains frames k = refl

pub same_mix : (gains : ℕ × ℕ) (xs ys : List Frame) (i j : ℕ) → frame_at xs i ≡ frame_at ys j → mixed_frame (take_at gains xs ∷ []) i ≡ mixed_frame (take_at gains ys ∷ []) j
same_mix gains xs ys i j is = heard_at gains xs i ∙ ap (heard_of gains) is ∙ sym (heard_at gains ys j)

zero_times : (gain : ℕ) → pos 0 *ℤ pos gain +ℤ pos 0 ≡ pos 0
zero_times gain = omega (arith, ints)

abbrev pair_of : ℤ → ℤ → Frame
pair_of left right = record { left = mixed_sample left; right = mixed_sample right }

silence_is_heard : (gains : ℕ × ℕ) → heard_of gains silence ≡ silence
silence_is_heard gains =
    ap (λ (l : ℤ). pair_of l (pos 0 *ℤ pos (gain_used (right_half (gains.0 + 65536 * gains.1)) 4096) +ℤ pos 0)) (zero_times (gain_used (left_half (gains.0 + 65536 * gains.1)) 4096))
    ∙ ap (pair_of (pos 0)) (zero_times (gain_used (right_half (gains.0 + 65536 * gains.1)) 4096))

-- ## Calls

sub_nothing : (places : ℕ) → places - 0 ≡ places
sub_nothing places = omega arith

pub begins : (frames : List Frame) (gains : ℕ × ℕ) (first : Head) (places : ℕ) (out : List Frame) → IsPlayedTo 0 frames gains first places first out
begins frames gains first places out = record {
  inside = omega arith;
  mixed = λ k below. absurd (omega arith);
  to_come = λ k. let here : 0 + k ≡ k = omega arith in ap (frame_at (loop_frames frames first places)) here ∙ ap (λ (s : ℕ). frame_at (loop_frames frames first s) k) (sym (sub_nothing places));
  count = (let same = ap (λ (s : ℕ). length (loop_frames frames first s)) (sub_nothing places) in omega arith);
  head = ap (head_moved (length frames) first) (sym (sub_nothing places));
}

-- a row that was heard at its place
record IsRowAt (at run : ℕ) (gains : ℕ × ℕ) (row old new : List Frame) : Type 0 where
  before : (k : ℕ) → k < at → frame_at new k ≡ frame_at old k
  here : (k : ℕ) → k < run → frame_at new (at + k) ≡ mixed_frame (take_at gains row ∷ []) k

row_placed : (at run : ℕ) (gains : ℕ × ℕ) (row old heard behind : List Frame) → at ≤ length old → heard ≡ output gains row run → IsRowAt at run gains row old (take at old ++ (heard ++ behind))
row_placed at run gains row old heard behind inside is =
    let size : length (take at old) ≡ at = length-take-le at old inside in
    let long : length heard ≡ run = ap length is ∙ length-map-range_with_len (mixed_frame (take_at gains row ∷ [])) 0 run in
    record {
      before = λ k below. (let left : k < length (take at old) = omega arith in get_or_append_left (take at old) (heard ++ behind) silence k left ∙ get_or-take at old k silence below);
      here = λ k below. (let left : k < length heard = omega arith in
          ap (λ (m : ℕ). frame_at (take at old ++ (heard ++ behind)) (m + k)) (sym size)
          ∙ get_or-append-add (take at old) (heard ++ behind) k silence
          ∙ get_or_append_left heard behind silence k left
          ∙ ap (λ (fs : List Frame). frame_at fs k) is
          ∙ get_or-map-range_with_len (mixed_frame (take_at gains row ∷ [])) 0 run k k silence below (omega arith));
    }

row_played : (at run : ℕ) (frames : List Frame) (gains : ℕ × ℕ) (first h : Head) (places : ℕ) (old new : List Frame) → 0 < run → at + run ≤ places → IsRow (length frames) h run → IsRowAt at run gains (take run (drop h.position frames)) old new
    → IsPlayedTo at frames gains first places h old → IsPlayedTo (at + run) frames gains first places (moved h run) new
row_played at run frames gains first h places old new some fits row heard was =
    let all : List Frame = loop_frames frames first places in
    let next : List Frame = take run (drop h.position frames) in
    let rest : List Frame = loop_frames frames (moved h run) (places - (at + run)) in
    let split : loop_frames frames h (places - at) ≡ next ++ rest = row_frames frames run (places - at) (places - (at + run)) h some (omega arith) row in
    let inside = row.inside in
    let room : run ≤ length (drop h.position frames) = omega (arith, length-drop h.position frames) in
    let size : length next ≡ run = length-take-le run (drop h.position frames) room in
    record {
      inside = fits;
      mixed = λ k below. elim (cases_lt k at) [
        | inl before ↦ heard.before k before ∙ was.mixed k before
        | inr behind ↦
            let place : k ≡ at + (k - at) = omega arith in
            let short : k - at < run = omega arith in
            let left : k - at < length next = omega arith in
            ap (frame_at new) place
            ∙ heard.here (k - at) short
            ∙ same_mix gains next all (k - at) k
            (sym (get_or_append_left next rest silence (k - at) left)
            ∙ ap (λ (fs : List Frame). frame_at fs (k - at)) (sym split)
            ∙ sym (was.to_come (k - at))
            ∙ ap (frame_at all) (sym place))
      ];
      to_come = λ k.
          let place : at + run + k ≡ at + (run + k) = omega arith in
          ap (frame_at all) place
          ∙ was.to_come (run + k)
          ∙ ap (λ (fs : List Frame). frame_at fs (run + k)) split
          ∙ ap (λ (i : ℕ). frame_at (next ++ rest) (i + k)) (sym size)
          ∙ get_or-append-add next rest k silence;
      count = (let counted = was.count in omega (arith, ap length split, length-append next rest));
      head = was.head ∙ row_moves (length frames) run (places - at) (places - (at + run)) h some (omega arith) row;
    }

-- a row of the buffer that was written over so many places
pub row_written : (at run wide wide_out : ℕ) (frames : List Frame) (gains : ℕ × ℕ) (first h : Head) (places : ℕ) (old heard : List Frame) → 0 < run → at + run ≤ places → places ≡ length old → wide ≡ run → wide_out ≡ run → IsRow (length frames) h run
    → heard ≡ output gains (take wide (drop h.position frames)) (length (take wide_out (drop at old)))
    → IsPlayedTo at frames gains first places h old → IsPlayedTo (at + run) frames gains first places (moved h run) (take at old ++ (heard ++ drop wide_out (drop at old)))
row_written at run wide wide_out frames gains first h places old heard some fits same read written row is was =
    let inside : at ≤ length old = omega arith in
    let room : run ≤ length (drop at old) = omega (arith, length-drop at old) in
    let row_is : heard ≡ output gains (take run (drop h.position frames)) run =
    is
    ∙ ap (λ (n : ℕ). output gains (take n (drop h.position frames)) (length (take wide_out (drop at old)))) read
    ∙ ap (λ (n : ℕ). output gains (take run (drop h.position frames)) n) (ap (λ (n : ℕ). length (take n (drop at old))) written ∙ length-take-le run (drop at old) room) in
    row_played at run frames gains first h places old (take at old ++ (heard ++ drop wide_out (drop at old))) some fits row
    (row_placed at run gains (take run (drop h.position frames)) old heard (drop wide_out (drop at old)) inside row_is) was

pub all_silent : (gains : ℕ × ℕ) (old new : List Frame) (places : ℕ) → length new ≡ places → IsSilentFrom 0 old new → new ≡ output gains [] places
all_silent gains old new places same silent =
    fill_by_all (mixed_frame (take_at gains [] ∷ [])) new places silence same
    (λ k inside. silent.behind k (omega arith) (omega arith)
    ∙ sym (silence_is_heard gains)
    ∙ ap (heard_of gains) (sym (get_or_past [] k silence (omega arith)))
    ∙ sym (heard_at gains [] k))

done_by : (at : ℕ) (frames : List Frame) (gains : ℕ × ℕ) (first h : Head) (places : ℕ) (old new : List Frame) → loop_frames frames h (places - at) ≡ [] → head_moved (length frames) h (places - at) ≡ h → (at < places → length frames ≤ h.position) → length new ≡ places → IsSilentFrom at old new → IsPlayedTo at frames gains first places h old → IsDone at frames gains first h places new
done_by at frames gains first h places old new none stay ended same silent was =
    let all : List Frame = loop_frames frames first places in
    let past : (j : ℕ) → frame_at all (at + j) ≡ silence = λ j. was.to_come j ∙ ap (λ (fs : List Frame). frame_at fs j) none ∙ get_or_past [] j silence (omega arith) in
    record {
      out = fill_by_all (mixed_frame (take_at gains all ∷ [])) new places silence same
          (λ k inside. elim (cases_lt k at) [
            | inl before ↦ silent.before k before ∙ was.mixed k before
            | inr behind ↦
                let place : at + (k - at) ≡ k = omega arith in
                silent.behind k behind (omega arith)
                ∙ sym (silence_is_heard gains)
                ∙ ap (heard_of gains) (sym (past (k - at)) ∙ ap (frame_at all) place)
                ∙ sym (heard_at gains all k)
          ]);
      filled = (let counted = was.count in omega (arith, ap length none));
      head = sym (was.head ∙ stay);
      short = ended;
    }

pub done : (at : ℕ) (frames : List Frame) (gains : ℕ × ℕ) (first h : Head) (places : ℕ) (old new : List Frame) → (at < places → length frames ≤ h.position) → length new ≡ places → IsSilentFrom at old new → IsPlayedTo at frames gains first places h old → IsDone at frames gains first h places new
done at frames gains first h places old new ended same silent was =
    elim (cases_lt at places) [
      | inl less ↦ done_by at frames gains first h places old new (none_left frames h (places - at) (ended less)) (stays (length frames) h (places - at) (ended less)) ended same silent was
      | inr full ↦
          let nothing : places - at ≡ 0 = omega arith in
          done_by at frames gains first h places old new (ap (loop_frames frames h) nothing) (ap (head_moved (length frames) h) nothing) ended same silent was
    ]
