-- A log that grew out of an empty one has no frames beside those that its entries took.
use Rattle.std.proofs.Common.{◌≡◌, ℕ, ◌+◌, List, [], ◌∷◌, ◌++◌, length, take, drop, refl, sym, ap, ◌∙◌, take-append-drop, arith}
use Rattle.af_told_law.proofs.Common.{CycleEntry, Frame, Logged, entries_seen, frames_of, length-drop, sum_by, sum_by-append, taken_by}
use Rattle.af_told_law.proofs.LogMore.{GrowsBy}

-- if there are as many frames as entries took, they are dealt out whole
frames_dealt : (frames : List Frame) (entries : List CycleEntry) → length frames ≡ sum_by taken_by entries → frames_of (entries_seen frames entries) ≡ frames
frames_dealt [] [] same = refl
frames_dealt (f ∷ fs) [] same = absurd (omega (arith, same))
frames_dealt frames (e ∷ es) same =
    let left = length-drop (taken_by e) frames in
    let sum : sum_by taken_by (e ∷ es) ≡ (0 + taken_by e) + sum_by taken_by es = sum_by-append taken_by (e ∷ []) es in
    ap (λ (l : List Frame). take (taken_by e) frames ++ l) (frames_dealt (drop (taken_by e) frames) es (omega (arith, left, same, sum))) ∙ take-append-drop (taken_by e) frames

pub dealt_whole : (few : ℕ) (a b : Logged) → a.entries ≡ [] → a.frames ≡ [] → GrowsBy few a b → frames_of (entries_seen b.frames b.entries) ≡ b.frames
dealt_whole few a b none empty grows =
    let entries : b.entries ≡ grows.more = grows.entries ∙ ap (λ (l : List CycleEntry). l ++ grows.more) none in
    let frames : b.frames ≡ grows.taken = grows.frames ∙ ap (λ (l : List Frame). l ++ grows.taken) empty in
    frames_dealt b.frames b.entries (ap length frames ∙ grows.sized ∙ ap (sum_by taken_by) (sym entries))
