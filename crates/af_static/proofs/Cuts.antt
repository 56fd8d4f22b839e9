-- Two calls that are alike play what one call of all their places would.
use Rattle.std.proofs.Common.{◌≡◌, ℕ, zero, suc, ◌+◌, ◌-◌, ◌<◌, ◌≤◌, ◌⊎◌, inl, inr, Bool, true, false, if◌then◌else◌, List, [], ◌∷◌, ◌++◌, length, refl, sym, ap, ◌∙◌, arith, append_assoc, append-nil, length-append}
use Rattle.std.proofs.lemmas.Bool.{cases_lt}
use Rattle.std.proofs.lemmas.List.{get_or_append_left, get_or-append_right, get_or_past}
use Rattle.std.proofs.lemmas.List.FromFn.{fill_by_all, get_or-map-range_with_len, length-map-range_with_len}
use Rattle.af_base.specs.declared.frame.Frame.{Frame}
use Rattle.af_base.specs.Mix.{frame_at, mixed_frame, silence}
use Rattle.af_static.specs.declared.setting.Setting.{Setting}
use Rattle.af_static.specs.declared.head.Head.{Head}
use Rattle.af_static.specs.Loops.{head_moved, loop_frames, head_after, head_heard, is_valid, moved, output, step, take_at, taken}
use Rattle.af_static.specs.Calls.{AreOneCall, Call, Standing, standing_after, filled_of, head_in, outputs_of, used_in, with_places}
use Rattle.af_static.proofs.Rows.{first_moves, first_step, none_left, same_mix, stays}
use Rattle.af_static.proofs.Calling.{heard_once, used_again}

-- ## Frames

-- frames in two parts: if the first has fewer than there are places, nothing is left for the second
record IsCut (whole one two : List Frame) (places : ℕ) : Type 0 where
  parts : whole ≡ one ++ two
  most : length one ≤ places
  short : length one < places → two ≡ []

module _ (frames : List Frame) (more : ℕ) where
  -- the steps behind a first one
  on_cut : (steps : ℕ) (h : Head) → IsCut (loop_frames frames (moved h 1) (steps + more)) (loop_frames frames (moved h 1) steps) (loop_frames frames (head_moved (length frames) (moved h 1) steps) more) steps
      → (h.position < length frames) ⊎ (length frames ≤ h.position)
      → IsCut (loop_frames frames h (suc (steps + more))) (loop_frames frames h (suc steps)) (loop_frames frames (head_moved (length frames) h (suc steps)) more) (suc steps)
  on_cut steps h on (inl ahead) =
      let first = first_step frames h steps ahead in
      let moves = first_moves (length frames) h steps ahead in
      let longer = ap length first in
      let most = on.most in
      record {
        parts = first_step frames h (steps + more) ahead
            ∙ ap (λ (fs : List Frame). frame_at frames h.position ∷ fs) on.parts
            ∙ (λ i. sym first i ++ loop_frames frames (sym moves i) more);
        most = omega arith;
        short = λ less. ap (λ (g : Head). loop_frames frames g more) moves ∙ on.short (omega arith);
      }
  on_cut steps h on (inr past) =
      let none = none_left frames h (suc steps) past in
      let nothing = ap (λ (g : Head). loop_frames frames g more) (stays (length frames) h (suc steps) past) ∙ none_left frames h more past in
      let empty = ap length none in
      record {
        parts = none_left frames h (suc (steps + more)) past ∙ (λ i. sym none i ++ sym nothing i);
        most = omega arith;
        short = λ less. nothing;
      }

  -- so many steps, and more behind them
  steps_cut : (steps : ℕ) (h : Head) → IsCut (loop_frames frames h (steps + more)) (loop_frames frames h steps) (loop_frames frames (head_moved (length frames) h steps) more) steps
  steps_cut zero h =
      let none : 0 + more ≡ more = omega arith in
      record { parts = ap (loop_frames frames h) none; most = omega arith; short = λ less. absurd (omega arith) }
  steps_cut (suc steps) h =
      let place : suc steps + more ≡ suc (steps + more) = omega arith in
      let on = on_cut steps h (steps_cut steps (moved h 1)) (cases_lt h.position (length frames)) in
      record { parts = ap (loop_frames frames h) place ∙ on.parts; most = on.most; short = on.short }

  -- the same if nothing is played
  cut_as : (b : Bool) (places : ℕ) (h : Head)
      → IsCut (if b then loop_frames frames h (places + more) else []) (if b then loop_frames frames h places else []) (if b then loop_frames frames (if b then head_moved (length frames) h places else h) more else []) places
  cut_as true places h = steps_cut places h
  cut_as false places h = record { parts = refl; most = omega arith; short = λ less. refl }

  taken_cut : (s : Setting) (h : Head) (places : ℕ) → IsCut (taken frames s h (places + more)) (taken frames s h places) (taken frames s (head_after (length frames) s h places) more) places
  taken_cut s h places = cut_as (is_valid (length frames) s) places h

-- ## The head

after_more : (n more steps : ℕ) (h : Head) → head_moved n h (steps + more) ≡ head_moved n (head_moved n h steps) more
after_more n more zero h = let none : 0 + more ≡ more = omega arith in ap (head_moved n h) none
after_more n more (suc steps) h = let place : suc steps + more ≡ suc (steps + more) = omega arith in ap (head_moved n h) place ∙ after_more n more steps (step n h)

head_more : (n : ℕ) (s : Setting) (h : Head) (places more : ℕ) → head_after n s (head_after n s h places) more ≡ head_after n s h (places + more)
head_more n s h places more = go (is_valid n s)
  where
    go : (b : Bool) → (if b then head_moved n (if b then head_moved n h places else h) more else (if b then head_moved n h places else h)) ≡ (if b then head_moved n h (places + more) else h)
    go true = sym (after_more n more places h)
    go false = refl

-- ## What is heard

output_at : (gains : ℕ × ℕ) (frames : List Frame) (places k : ℕ) → k < places → frame_at (output gains frames places) k ≡ mixed_frame (take_at gains frames ∷ []) k
output_at gains frames places k inside = get_or-map-range_with_len (mixed_frame (take_at gains frames ∷ [])) 0 places k k silence inside (omega arith)

length-output : (gains : ℕ × ℕ) (frames : List Frame) (places : ℕ) → length (output gains frames places) ≡ places
length-output gains frames places = length-map-range_with_len (mixed_frame (take_at gains frames ∷ [])) 0 places

module _ (gains : ℕ × ℕ) (whole one two : List Frame) (places more : ℕ) (cut : IsCut whole one two places) where
  all_one : two ≡ [] → one ≡ whole
  all_one none = sym (cut.parts ∙ ap (λ (fs : List Frame). one ++ fs) none ∙ append-nil one)

  before : (k : ℕ) → k < places → frame_at one k ≡ frame_at whole k
  before k inside = elim (cases_lt k (length one)) [
    | inl there ↦ sym (ap (λ (fs : List Frame). frame_at fs k) cut.parts ∙ get_or_append_left one two silence k there)
    | inr past ↦ ap (λ (fs : List Frame). frame_at fs k) (all_one (cut.short (omega arith)))
  ]

  behind : (k : ℕ) → places ≤ k → frame_at two (k - places) ≡ frame_at whole k
  behind k past = elim (cases_lt (length one) places) [
    | inl less ↦
        let none = cut.short less in
        ap (λ (fs : List Frame). frame_at fs (k - places)) none
        ∙ sym (get_or_past one k silence (omega arith))
        ∙ ap (λ (fs : List Frame). frame_at fs k) (all_one none)
    | inr full ↦
        let most = cut.most in
        let same : length one ≡ places = omega arith in
        sym (ap (λ (fs : List Frame). frame_at fs k) cut.parts ∙ get_or-append_right one two places k silence same past)
  ]

  -- both parts are heard as the whole
  outputs_cut : output gains one places ++ output gains two more ≡ output gains whole (places + more)
  outputs_cut =
      let first = output gains one places in
      let second = output gains two more in
      let long : length first ≡ places = length-output gains one places in
      let rest : length second ≡ more = length-output gains two more in
      fill_by_all (mixed_frame (take_at gains whole ∷ [])) (first ++ second) (places + more) silence (length-append first second ∙ (λ i. long i + rest i))
      (λ k inside. elim (cases_lt k places) [
        | inl early ↦
            get_or_append_left first second silence k (omega arith)
            ∙ output_at gains one places k early
            ∙ same_mix gains one whole k k (before k early)
        | inr late ↦
            get_or-append_right first second places k silence long late
            ∙ output_at gains two more (k - places) (omega arith)
            ∙ same_mix gains two whole (k - places) k (behind k late)
      ])

  counts_cut : length one + length two ≡ length whole
  counts_cut = sym (ap length cut.parts ∙ length-append one two)

-- ## Calls

pub one_call : (frames : List Frame) (s : Standing) (call : Call) (more : ℕ) (calls : List Call) → AreOneCall frames s call more calls
one_call frames s call more calls =
    let n : ℕ = length frames in
    let used : Setting = used_in n s call in
    let head : Head = head_in n s call in
    let next : Head = head_after n used head call.places in
    let between : Standing = standing_after n s call in
    let again : Call = with_places call more in
    let whole : Call = with_places call (call.places + more) in
    let same : used_in n between again ≡ used = used_again n s call more in
    let goes_on : head_in n between again ≡ next = ap (λ (x : Setting). head_heard n used next x) same ∙ heard_once n used next in
    let cut = taken_cut frames more used head call.places in
    let one : List Frame = taken frames used head call.places in
    let two : List Frame = taken frames used next more in
    let left : standing_after n between again ≡ standing_after n s whole = (λ i. record { used = same i; head = ((λ j. head_after n (same j) (goes_on j) more) ∙ head_more n used head call.places more) i }) in
    record {
      outputs = (λ i. output call.gains one call.places ++ (output call.gains (taken frames (same i) (goes_on i) more) more ++ outputs_of frames (left i) calls))
          ∙ sym (append_assoc (output call.gains one call.places) (output call.gains two more) (outputs_of frames (standing_after n s whole) calls))
          ∙ ap (λ (fs : List Frame). fs ++ outputs_of frames (standing_after n s whole) calls) (outputs_cut call.gains (taken frames used head (call.places + more)) one two call.places more cut);
      filled = (λ i. length one + (length (taken frames (same i) (goes_on i) more) + filled_of frames (left i) calls))
          ∙ sums (length one) (length two) (filled_of frames (standing_after n s whole) calls)
          ∙ ap (λ (k : ℕ). k + filled_of frames (standing_after n s whole) calls) (counts_cut call.gains (taken frames used head (call.places + more)) one two call.places more cut);
    }
  where
    sums : (a b c : ℕ) → a + (b + c) ≡ a + b + c
    sums a b c = omega arith
