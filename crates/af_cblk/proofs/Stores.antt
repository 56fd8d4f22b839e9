-- Cells stored in order.
use Rattle.std.proofs.Common.{◌≡◌, ℕ, suc, ◌+◌, ◌-◌, ◌*◌, ◌/◌, ◌%◌, ◌^◌, ◌≤◌, ◌<◌, List, [], ◌∷◌, ◌++◌, length, get_or, take, drop, map, sym, ap, ◌∙◌, subst, arith, div-add-mod', length-take-le, mod-lt, mod-eq_of_lt, take-add}
use Rattle.af_cblk.proofs.Common.{Frame, add-mod_right, length-map, map-append, mod-add-mod, mul-add-mod_self_right, packed_word, take-map, take_more, wrapped}
use Rattle.af_cblk.specs.declared.view.ClientPart.{ClientPart}
use Rattle.af_cblk.specs.Parts.{ahead, released, room, number_at, with_run}
use Rattle.af_cblk.proofs.ClientSteps.{number_is}
use Rattle.af_cblk.proofs.Numbers.{same_cell, ahead_of, past}
use Rattle.af_cblk.proofs.Sized.{IsSized}

-- the cell at which a cell's number lies
forth : (r j c : ℕ) → j < c → (r + (j + (c - r % c)) % c) % c ≡ j
forth r j c less =
    let low : r % c < c = mod-lt r (omega arith) in
    let d : ℕ = c - r % c in
    let gap : r % c + d ≡ c = omega arith in
    let whole : r / c * c + r % c ≡ r = div-add-mod' r c in
    let u : ℕ = r / c * c in
    let v : ℕ = r % c in
    let m : ℕ = (j + d) % c in
    let order : r + m ≡ m + r = omega arith in
    let sum : (j + d) + r ≡ u + (j + c) = (let w : u + v ≡ r = whole in let g : v + d ≡ c = gap in omega arith) in
    ap (λ (z : ℕ). z % c) order ∙ mod-add-mod (j + d) c r ∙ ap (λ (z : ℕ). z % c) sum ∙ mul-add-mod_self_right (r / c) c (j + c) ∙ add-mod_right j c ∙ mod-eq_of_lt less

-- the position of a cell inside the room
pub position_of : (c : ClientPart) (j : ℕ) → IsSized c.shape → j < c.shape.cells → number_at c j < length c.frames + room c → (p : ℕ) × (p < 2 ^ 32) × (j ≡ p % c.shape.cells) × (ahead (released c) p < room c)
position_of c j size here inside =
    let cells : ℕ = c.shape.cells in
    let r : ℕ = released c in
    let n : ℕ = (j + (cells - r % cells)) % cells in
    let less : n < room c = omega arith in
    let small : n < 2 ^ 32 = (let a = size.1 in let b = size.2 in omega arith) in
    (wrapped (r + n), mod-lt (r + n) (omega arith), sym (same_cell (r + n) size.3.0 cells size.3.1 ∙ forth r j cells here), subst (λ (z : ℕ). z < room c) (sym (ahead_of r n small)) less)

-- the number of a cell behind another, inside the room
pub number_behind : (c : ClientPart) (j i : ℕ) → IsSized c.shape → number_at c j + i < length c.frames + room c → number_at c (j + i) ≡ number_at c j + i
number_behind c j i size inside =
    let cells : ℕ = c.shape.cells in
    let d : ℕ = cells - released c % cells in
    let n : ℕ = (j + d) % cells in
    let below : n + i < cells = (let a = size.1 in omega arith) in
    let order : j + i + d ≡ j + d + i = omega arith in
    let same : (j + i + d) % cells ≡ n + i = ap (λ (z : ℕ). z % cells) order ∙ sym (mod-add-mod (j + d) cells i) ∙ mod-eq_of_lt below in
    let number : length c.frames + (n + i) ≡ length c.frames + n + i = omega arith in
    ap (λ (z : ℕ). length c.frames + z) same ∙ number

-- the number of the cell of a position past the client's
pub number_past : (c : ClientPart) (done position first : ℕ) → IsSized c.shape → position ≡ wrapped (released c) → done < room c → first ≡ 7 + (position + done) % 2 ^ 32 % c.shape.cells → number_at c (first - 7) ≡ length c.frames + done
number_past c done position first size position_is inside first_is =
    let at : ℕ = (position + done) % 2 ^ 32 in
    let small : done < 2 ^ 32 = (let a = size.1 in let b = size.2 in omega arith) in
    let far : ahead (released c) at ≡ done = ap (λ (z : ℕ). ahead (released c) ((z + done) % 2 ^ 32)) position_is ∙ ap (λ (z : ℕ). ahead (released c) z) (past (released c) done) ∙ ahead_of (released c) done small in
    let place : first - 7 ≡ at % c.shape.cells = omega arith in
    ap (number_at c) place ∙ number_is c size at (mod-lt (position + done) (omega arith)) (subst (λ (z : ℕ). z < room c) (sym far) inside) ∙ ap (λ (z : ℕ). length c.frames + z) far

-- words stored one behind the other are stored together
with_run-append : (stored : List (ℕ × ℕ)) (x : ℕ) (front more : List ℕ) → with_run (with_run stored x front) (x + length front) more ≡ with_run stored x (front ++ more)
with_run-append stored x [] more = let e : x + 0 ≡ x = omega arith in ap (λ (n : ℕ). with_run stored n more) e
with_run-append stored x (word ∷ words) more =
    let e : x + suc (length words) ≡ suc x + length words = omega arith in
    ap (λ (n : ℕ). with_run (with_run ((x, word) ∷ stored) (suc x) words) n more) e ∙ with_run-append ((x, word) ∷ stored) (suc x) words more

-- the number of the next cell, once those before it are stored
pub number_next : (p q : ClientPart) (stored : List (ℕ × ℕ)) (done j k : ℕ) → IsSized p.shape → q ≡ (record p { stored = stored }) → k ≡ j + done → number_at p j + done < length p.frames + room p → number_at q k ≡ number_at p j + done
number_next p q stored done j k size before place inside = ap (λ (c : ClientPart). number_at c k) before ∙ ap (number_at p) place ∙ number_behind p j done size inside

-- what is stored takes no room
pub room_left : (p q : ClientPart) (stored : List (ℕ × ℕ)) (more k number : ℕ) → q ≡ (record p { stored = stored }) → number_at q k ≡ number → number + more ≤ length p.frames + room p → number_at q k + more ≤ length q.frames + room q
room_left p q stored more k number before is fits = let same : length q.frames + room q ≡ length p.frames + room p = ap (λ (c : ClientPart). length c.frames + room c) before in omega arith

-- words that follow on those of the frames stored before
pub stores_join : (p q r : ClientPart) (frames : List Frame) (more all : List ℕ) (done x n : ℕ) → q ≡ (record p { stored = with_run p.stored x (map packed_word (take done frames)) })
    → r ≡ (record q { stored = with_run q.stored n more }) → n ≡ x + done → done ≤ length frames → map packed_word (take done frames) ++ more ≡ all
    → r ≡ (record p { stored = with_run p.stored x all })
stores_join p q r frames more all done x n before stored n_is inside join =
    let front : List ℕ = map packed_word (take done frames) in
    let long : length front ≡ done = length-map (take done frames) packed_word ∙ length-take-le done frames inside in
    stored
    ∙ ap (λ (c : ClientPart). record c { stored = with_run c.stored n more }) before
    ∙ ap (λ (z : ℕ). record p { stored = with_run (with_run p.stored x front) z more }) (n_is ∙ ap (λ (z : ℕ). x + z) (sym long))
    ∙ ap (λ (l : List (ℕ × ℕ)). record p { stored = l }) (with_run-append p.stored x front more)
    ∙ ap (λ (l : List ℕ). record p { stored = with_run p.stored x l }) join

-- the words of the first frames, and of the next one
pub word_joins : (frames : List Frame) (i word : ℕ) → i < length frames → word ≡ get_or (map packed_word frames) i 0 → map packed_word (take i frames) ++ word ∷ [] ≡ map packed_word (take (i + 1) frames)
word_joins frames i word less is =
    let words : List ℕ = map packed_word frames in
    let within : i < length words = subst (λ (n : ℕ). i < n) (sym (length-map frames packed_word)) less in
    ap (λ (l : List ℕ). l ++ word ∷ []) (sym (take-map packed_word i frames)) ∙ ap (λ (w : ℕ). take i words ++ w ∷ []) is ∙ sym (take_more words i 0 within) ∙ take-map packed_word (i + 1) frames

-- the words of the first frames, and of some more
pub words_join : (frames : List Frame) (done count all : ℕ) → done + count ≡ all → map packed_word (take done frames) ++ map packed_word (take count (drop done frames)) ≡ map packed_word (take all frames)
words_join frames done count all is =
    sym (map-append packed_word (take done frames) (take count (drop done frames))) ∙ ap (map packed_word) (sym (take-add done count frames)) ∙ ap (λ (n : ℕ). map packed_word (take n frames)) is
