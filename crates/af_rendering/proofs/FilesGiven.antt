-- The test of the files of a script.
use Rattle.std.proofs.Common.{◌≡◌, ◌≢◌, ℕ, ◌+◌, ◌-◌, ◌<◌, ◌≤◌, List, [], ◌∷◌, ◌++◌, length, take, drop, get_or, refl, sym, ap, subst, ◌∙◌, ⊎_elim, arith}
use Rattle.af_rendering.proofs.Common.{Frame, Given, Op, TrackSpec, cases_eq, file_at, frames_to_come, get_or_default, ops_at, ops_of, slice_get_read, take-append-drop, take_all, take_more}
use Rattle.af_script.specs.declared.op.Op.TheVariants as op
use Rattle.af_rendering.specs.Rendered.{IsFileFor}

-- ## Ops

writes_first : (o : Op) (ops : List Op) → frames_to_come (o ∷ ops) ≡ frames_to_come (o ∷ []) + frames_to_come ops
writes_first (op.Write count) ops = omega arith
writes_first _ ops = omega arith

writes_both : (xs ys : List Op) → frames_to_come (xs ++ ys) ≡ frames_to_come xs + frames_to_come ys
writes_both [] ys = omega arith
writes_both (x ∷ xs) ys =
    let all = writes_first x (xs ++ ys) in
    let front = writes_first x xs in
    let rest = writes_both xs ys in
    omega (arith, all, front, rest)

writes_more : (d : Op) (ops : List Op) (i : ℕ) → i < length ops → frames_to_come (take (i + 1) ops) ≡ frames_to_come (take i ops) + frames_to_come (get_or ops i d ∷ [])
writes_more d ops i lt = ap frames_to_come (take_more ops i d lt) ∙ writes_both (take i ops) (get_or ops i d ∷ [])

writes_front : (ops : List Op) (i : ℕ) → frames_to_come (take i ops) ≤ frames_to_come ops
writes_front ops i =
    let whole = ap frames_to_come (take-append-drop i ops) in
    let parts = writes_both (take i ops) (drop i ops) in
    omega (arith, whole, parts)

-- so many frames are left before an op, and after it as many less those that it writes
pub writes_step : (d : Op) (ops : List Op) (i count left most : ℕ) → i < length ops → count ≡ frames_to_come (get_or ops i d ∷ []) → frames_to_come (take i ops) + left ≡ most → count ≤ left
    → frames_to_come (take (i + 1) ops) + (left - count) ≡ most
writes_step d ops i count left most lt is so_far le = let more = writes_more d ops i lt in omega (arith, more, is, so_far, le)

-- if an op asks for more frames than are left, all ops ask for more than the most
pub writes_over : (d : Op) (ops : List Op) (i count left most : ℕ) → i < length ops → count ≡ frames_to_come (get_or ops i d ∷ []) → frames_to_come (take i ops) + left ≡ most → left < count
    → frames_to_come ops ≤ most → ⊥
writes_over d ops i count left most lt is so_far over le =
    let more = writes_more d ops i lt in
    let all = writes_front ops (i + 1) in
    omega (arith, more, all, is, so_far, over, le)

-- if no op is left, all ops ask for no more than the most
pub writes_end : (ops : List Op) (i left most : ℕ) → length ops ≤ i → frames_to_come (take i ops) + left ≡ most → frames_to_come ops ≤ most
writes_end ops i left most le so_far = let all = ap frames_to_come (take_all i ops le) in omega (arith, all, so_far)

-- ## Files

-- what is read at a place is what is given there
module _ (g : Given) (i : ℕ) (t : TrackSpec) (ops : List Op) (pcm file : List Frame) (lt : i < length g.tracks) (count : length g.files ≡ length g.tracks)
    (t_is : t ≡ get_or g.tracks i t) (ops_are : ops ≡ (get_or g.tracks i t).ops) (pcm_is : pcm ≡ get_or g.files i pcm) (file_is : file ≡ pcm) where
  ops_here : ops ≡ ops_at g i
  ops_here = ops_are ∙ ap (λ (x : TrackSpec). x.ops) (sym t_is) ∙ sym (ap ops_of (slice_get_read g.tracks (length g.tracks) i t refl lt t_is))

  file_here : file ≡ file_at g i
  file_here = file_is ∙ pcm_is ∙ get_or_default g.files i pcm [] (omega (arith, lt, count))

  pub serves_there : IsFileFor ops file → IsFileFor (ops_at g i) (file_at g i)
  serves_there serves = subst (λ (x : List Op × List Frame). IsFileFor x.0 x.1) (λ k. (ops_here k, file_here k)) serves

  pub served_here : IsFileFor (ops_at g i) (file_at g i) → IsFileFor ops file
  served_here serves = subst (λ (x : List Op × List Frame). IsFileFor x.0 x.1) (λ k. (sym ops_here k, sym file_here k)) serves

-- if the first tracks have their files and one more track has its own, all of these have theirs
pub files_step : (g : Given) (i : ℕ) → ((k : ℕ) → k < i → IsFileFor (ops_at g k) (file_at g k)) → IsFileFor (ops_at g i) (file_at g i) → (k : ℕ) → k < i + 1 → IsFileFor (ops_at g k) (file_at g k)
files_step g i below here k lt = ⊎_elim
    (λ (e : k ≡ i). subst (λ (n : ℕ). IsFileFor (ops_at g n) (file_at g n)) (sym e) here)
    (λ (ne : k ≢ i). below k (omega (arith, lt, ne)))
    (cases_eq k i)
