-- Words with their places.
use Rattle.std.specs.Prelude.{◌≡◌, ◌+◌, ◌<◌, ◌≤◌, ◌∷◌, ◌++◌}
use Rattle.std.proofs.Common.{ap, sym, ◌∙◌, subst, arith, append_assoc, get_or}
use Rattle.af_judge.proofs.Common.{All, All-head, All-more, All-tail, Frame, List, Some, [], length, length-map, length-take, map, map-append, min, packed_word, refl, slice_get, suc, take, take_more, zero, ℕ}
use Rattle.af_judge.specs.declared.words_judge.Taken.{Taken}
use Rattle.af_judge.specs.Blocks.{IsReleased, placed_from}
use Rattle.af_judge.specs.Servers.{most_counted}

capped : (place n : ℕ) → min most_counted (min most_counted place + n) ≡ min most_counted (place + n)
capped place n = omega arith

-- one word more is placed
pub placed_more : (place : ℕ) (words : List ℕ) (word : ℕ) → placed_from place (words ++ word ∷ []) ≡ placed_from place words ++ record { at = min most_counted (place + length words); word = word } ∷ []
placed_more place [] word = ap (λ (n : ℕ). let ts : List Taken = record { at = min most_counted n; word = word } ∷ [] in ts) (let e : place ≡ place + 0 = omega arith in e)
placed_more place (w ∷ words) word =
    ap (λ (ts : List Taken). record { at = min most_counted place; word = w } ∷ ts)
    (placed_more (place + 1) words word ∙ ap (λ (n : ℕ). placed_from (place + 1) words ++ record { at = min most_counted n; word = word } ∷ []) (let e : place + 1 + length words ≡ place + suc (length words) = omega arith in e))

-- a place that is capped
pub placed_capped : (place : ℕ) (words : List ℕ) → placed_from (min most_counted place) words ≡ placed_from place words
placed_capped place [] = refl
placed_capped place (w ∷ words) =
    ap (λ (x : ℕ × List Taken). record { at = x.0; word = w } ∷ x.1)
    (λ i. (
      (let e : min most_counted (min most_counted place) ≡ min most_counted place = omega arith in e) i,
      (sym (placed_capped (min most_counted place + 1) words) ∙ (ap (λ n. placed_from n words) (capped place 1) ∙ placed_capped (place + 1) words)) i,
    ))

-- ## Words known to be released at their places

-- one word more is known
pub known_more : (released : List ℕ) (taken : List Taken) (at : ℕ) (t : Taken) → at < length taken → t ≡ get_or taken at t → All (IsReleased released) (take at taken) → IsReleased released t → All (IsReleased released) (take (at + 1) taken)
known_more released taken at t inside is known one = All-more (IsReleased released) taken at t inside known (subst (IsReleased released) is one)

-- if all are, the first that isn't has the number of all
pub all_ends : (released : List ℕ) (taken : List Taken) (n : ℕ) → n ≤ length taken → ((t : Taken) → slice_get taken n ≡ Some t → IsReleased released t → ⊥) → All (IsReleased released) taken → n ≡ length taken
all_ends released [] n within ends all = omega (arith, within)
all_ends released (t ∷ taken) zero within ends all = absurd (ends t refl (All-head (IsReleased released) t taken all))
all_ends released (t ∷ taken) (suc n) within ends all = ap suc (all_ends released taken n (omega (arith, within)) ends (All-tail (IsReleased released) t taken all))

-- ## The frames of a take

-- one frame more
pub frames_more : (place n sat word : ℕ) (sofar : List Taken) (frames : List Frame) (d : Frame) → n < length frames → sat ≡ min (place + n) most_counted → word ≡ packed_word (get_or frames n d)
    → (sofar ++ placed_from place (map packed_word (take n frames))) ++ record { at = sat; word = word } ∷ [] ≡ sofar ++ placed_from place (map packed_word (take (n + 1) frames))
frames_more place n sat word sofar frames d inside sat_is word_is =
    let words = map packed_word (take n frames) in
    let long : length words ≡ n = length-map (take n frames) packed_word ∙ (length-take n frames ∙ (let e : min n (length frames) ≡ n = omega arith in e)) in
    let more : map packed_word (take (n + 1) frames) ≡ words ++ word ∷ [] =
    ap (map packed_word) (take_more frames n d inside) ∙ (map-append packed_word (take n frames) (get_or frames n d ∷ []) ∙ ap (λ (w : ℕ). words ++ w ∷ []) (sym word_is)) in
    let here : sat ≡ min most_counted (place + length words) = (let l = long in omega (arith, sat_is, l)) in
    append_assoc sofar (placed_from place words) (record { at = sat; word = word } ∷ [])
    ∙ ap (λ (ts : List Taken). sofar ++ ts) (ap (λ (x : ℕ). placed_from place words ++ record { at = x; word = word } ∷ []) here ∙ (sym (placed_more place words word) ∙ ap (placed_from place) (sym more)))
