-- Cells loaded in order.
use Rattle.std.proofs.Common.{◌≡◌, ℕ, ◌+◌, ◌-◌, ◌*◌, ◌%◌, ◌^◌, ◌≤◌, ◌<◌, Bool, if◌then◌else◌, List, [], ◌∷◌, ◌++◌, length, take, map, set, refl, sym, ap, ◌∙◌, arith, eq-eqb, length-take-le, length-append, append_assoc, mod-eq_of_lt}
use Rattle.af_cblk.proofs.Common.{Frame, Shape, length-map, map-append, mod-add-mod, packed_word, take_more_set, wrapped}
use Rattle.std.proofs.Math.Seq.{take-append_seam}
use borrow.Rule.Slice.PartMut.{put_mid, post_of}
use Rattle.af_cblk.specs.declared.view.ServerPart.{ServerPart}
use Rattle.af_cblk.specs.Parts.{saw_cell, saw_next, next_position}
use Rattle.af_cblk.specs.Shape.{IsShape}
use Rattle.af_cblk.specs.Sides.{ServerSide, ServerIs}
use Rattle.af_cblk.proofs.Sized.{IsSized, sized}
use Rattle.af_cblk.proofs.Numbers.{same_cell}

-- one more cell in order
saw_one : (s : ServerPart) (place word : ℕ) → place ≡ wrapped (next_position s) % s.shape.cells → saw_cell s place word ≡ saw_next s (word ∷ [])
saw_one s place word is = ap (λ (b : Bool). record s { loaded = if b then s.loaded ++ word ∷ [] else s.loaded }) (eq-eqb place (wrapped (s.front + length s.loaded) % s.shape.cells) is)

-- the place of a cell behind another, before the last one
next_place : (x i c m place : ℕ) → m * c ≡ 2 ^ 32 → place ≡ wrapped x % c → place + i < c → place + i ≡ wrapped (x + i) % c
next_place x i c m place whole is inside =
    let at : x % c ≡ place = sym (same_cell x m c whole) ∙ sym is in
    sym (same_cell (x + i) m c whole ∙ sym (mod-add-mod x c i) ∙ ap (λ (z : ℕ). (z + i) % c) at ∙ mod-eq_of_lt inside)

-- where the next cell lies after some more words
moved : (s : ServerPart) (words : List ℕ) → next_position (saw_next s words) ≡ next_position s + length words
moved s words = let long = length-append s.loaded words in omega arith

-- a run goes on by one cell
pub run_on : (k : Shape) (p q r : ServerSide) (into : List Frame) (i first word : ℕ) (frame : Frame) → IsShape k → p.part.shape ≡ k → ServerIs (saw_next p.part (map packed_word (take i into))) p q → i < length into
    → first ≡ 7 + wrapped (next_position p.part) % k.cells → first + i < 7 + k.cells → packed_word frame ≡ word → ServerIs (saw_cell q.part (first + i - 7) word) q r
    → ServerIs (saw_next p.part (map packed_word (take (i + 1) (set into i frame)))) p r
run_on k p q r into i first word frame shape same before here first_is inside packed saw =
    let words : List ℕ = map packed_word (take i into) in
    let s : ServerPart = saw_next p.part words in
    let size : IsSized k = sized k shape in
    let count : length words ≡ i = length-map (take i into) packed_word ∙ length-take-le i into (omega arith) in
    let start : ℕ = wrapped (next_position p.part) % k.cells in
    let place : first + i - 7 ≡ start + i = omega arith in
    let within : start + i < k.cells = omega arith in
    let next : start + i ≡ wrapped (next_position p.part + i) % k.cells = next_place (next_position p.part) i k.cells size.3.0 start size.3.1 refl within in
    let on : next_position s ≡ next_position p.part + i = moved p.part words ∙ ap (λ (n : ℕ). next_position p.part + n) count in
    let is : first + i - 7 ≡ wrapped (next_position s) % s.shape.cells =
    place ∙ next ∙ ap (λ (n : ℕ). wrapped n % k.cells) (sym on) ∙ ap (λ (z : Shape). wrapped (next_position s) % z.cells) (sym same) in
    let more : (p.part.loaded ++ words) ++ word ∷ [] ≡ p.part.loaded ++ map packed_word (take (i + 1) (set into i frame)) =
    append_assoc p.part.loaded words (word ∷ [])
    ∙ ap (λ (l : List ℕ). p.part.loaded ++ l) (ap (λ (w : ℕ). words ++ w ∷ []) (sym packed) ∙ sym (map-append packed_word (take i into) (frame ∷ [])) ∙ ap (map packed_word) (sym (take_more_set into i frame here))) in
    saw ∙ ap (λ (x : ServerSide). record x { part = saw_cell x.part (first + i - 7) word }) before ∙ ap (λ (x : ServerPart). record p { part = x }) (saw_one s (first + i - 7) word is) ∙ ap (λ (l : List ℕ). record p { part = record p.part { loaded = l } }) more

-- a run follows on the cells before it
pub runs_join : (p q r : ServerSide) (into part : List Frame) (done count k : ℕ) → ServerIs (saw_next p.part (map packed_word (take done into))) p q → ServerIs (saw_next q.part (map packed_word part)) q r
    → length part ≡ count → done ≤ length into → ServerIs (saw_next p.part (map packed_word (take (done + count) (put_mid done k into part)))) p r
runs_join p q r into part done count k before saw long inside =
    let front : List Frame = take done into in
    let seam : length (front ++ part) ≡ done + count = (let a = length-append front part in let b = length-take-le done into inside in omega arith) in
    let both : take (done + count) (put_mid done k into part) ≡ front ++ part =
    ap (λ (n : ℕ). take n (put_mid done k into part)) (sym seam) ∙ ap (take (length (front ++ part))) (sym (append_assoc front part (post_of done k into))) ∙ take-append_seam (front ++ part) (post_of done k into) in
    let more : (p.part.loaded ++ map packed_word front) ++ map packed_word part ≡ p.part.loaded ++ map packed_word (take (done + count) (put_mid done k into part)) =
    append_assoc p.part.loaded (map packed_word front) (map packed_word part)
    ∙ ap (λ (l : List ℕ). p.part.loaded ++ l) (sym (map-append packed_word front part) ∙ ap (map packed_word) (sym both)) in
    saw ∙ ap (λ (x : ServerSide). record x { part = saw_next x.part (map packed_word part) }) before ∙ ap (λ (l : List ℕ). record p { part = record p.part { loaded = l } }) more

-- where the next cells of a run begin
pub run_follows : (k : Shape) (p q : ServerSide) (into : List Frame) (done first : ℕ) → IsShape k → p.part.shape ≡ k → ServerIs (saw_next p.part (map packed_word (take done into))) p q
    → first ≡ 7 + wrapped (next_position p.part) % k.cells → done ≤ length into → first + done < 7 + k.cells → first + done ≡ 7 + wrapped (next_position q.part) % k.cells
run_follows k p q into done first shape same before first_is inside within =
    let words : List ℕ = map packed_word (take done into) in
    let size : IsSized k = sized k shape in
    let start : ℕ = wrapped (next_position p.part) % k.cells in
    let count : length words ≡ done = length-map (take done into) packed_word ∙ length-take-le done into inside in
    let on : next_position q.part ≡ next_position p.part + done = ap (λ (x : ServerSide). next_position x.part) before ∙ moved p.part words ∙ ap (λ (n : ℕ). next_position p.part + n) count in
    let next : start + done ≡ wrapped (next_position p.part + done) % k.cells = next_place (next_position p.part) done k.cells size.3.0 start size.3.1 refl (omega arith) in
    let place : first + done ≡ 7 + (start + done) = omega arith in
    place ∙ ap (λ (n : ℕ). 7 + n) (next ∙ ap (λ (n : ℕ). wrapped n % k.cells) (sym on))
