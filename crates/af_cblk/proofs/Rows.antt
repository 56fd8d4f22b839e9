-- Lists that grow or change at one place.
use Rattle.std.proofs.Common.{◌≡◌, ℕ, zero, suc, ◌+◌, ◌<◌, ◌≤◌, List, [], ◌∷◌, ◌++◌, length, get_or, set, take, drop, sym, refl, ap, ◌∙◌, subst, arith, get_or-set_same, get_or-set_other, length-append, length-drop, take_all, get_or-drop}
use Rattle.af_cblk.proofs.Common.{TrackPoint, take-append-le, take_more}
use mathlib.Core.Logic.{dite}
use native.Mathlib.Decide.{ℕ_discrete}
use Rattle.af_cblk.specs.Parts.{Has, word_at, run_of}
use Rattle.af_cblk.specs.Rule.{words_of}

-- what holds of each number of a list holds after one is set
pub small_set : (xs : List ℕ) (i a n : ℕ) → a < n → i < length xs → ((j : ℕ) → get_or xs j 0 < n) → (j : ℕ) → get_or (set xs i a) j 0 < n
small_set xs i a n fits here all j =
    dite (ℕ_discrete j i)
    (λ is. subst (λ (z : ℕ). z < n) (sym (ap (λ (z : ℕ). get_or (set xs i a) z 0) is ∙ get_or-set_same xs i a 0 here)) fits)
    (λ not. subst (λ (z : ℕ). z < n) (sym (get_or-set_other xs i j a 0 not)) (all j))

seven : (j : ℕ) → 7 + j ≡ suc (suc (suc (suc (suc (suc (suc j))))))
seven j = omega arith

pub set_cell : (p : TrackPoint) (tally : ℕ) (cells : List ℕ) (j a : ℕ) → set (words_of p tally cells) (7 + j) a ≡ words_of p tally (set cells j a)
set_cell p tally cells j a = ap (λ (i : ℕ). set (words_of p tally cells) i a) (seven j)

pub get_cell : (p : TrackPoint) (tally : ℕ) (cells : List ℕ) (j : ℕ) → get_or (words_of p tally cells) (7 + j) 0 ≡ get_or cells j 0
get_cell p tally cells j = ap (λ (i : ℕ). get_or (words_of p tally cells) i 0) (seven j)

pub run_length : (stored : List (ℕ × ℕ)) (x count : ℕ) → length (run_of stored x count) ≡ count
run_length stored x zero = refl
run_length stored x (suc count) = ap suc (run_length stored (suc x) count)

pub run_at : (stored : List (ℕ × ℕ)) (x count i : ℕ) → i < count → get_or (run_of stored x count) i 0 ≡ word_at stored (x + i)
run_at stored x zero i h = absurd (omega arith)
run_at stored x (suc count) zero h = let e : x ≡ x + zero = omega arith in ap (λ (q : ℕ). word_at stored q) e
run_at stored x (suc count) (suc i) h =
    let e : suc x + i ≡ x + suc i = omega arith in
    run_at stored (suc x) count i (omega arith) ∙ ap (λ (q : ℕ). word_at stored q) e

-- reads in the old part and in the new part of a list that grew
pub get_front : (xs ys : List ℕ) (i : ℕ) → i < length xs → get_or (xs ++ ys) i 0 ≡ get_or xs i 0
get_front [] ys i h = absurd (omega arith)
get_front (x ∷ xs) ys zero h = refl
get_front (x ∷ xs) ys (suc i) h = get_front xs ys i (omega arith)

drop_front : (d : ℕ) (xs ys : List ℕ) → d ≤ length xs → drop d (xs ++ ys) ≡ drop d xs ++ ys
drop_front zero xs ys h = refl
drop_front (suc d) [] ys h = absurd (omega arith)
drop_front (suc d) (x ∷ xs) ys h = drop_front d xs ys (omega arith)

-- a part of the old list is the same part of the longer one
pub part_front : (d n : ℕ) (xs ys : List ℕ) → d + n ≤ length xs → take n (drop d (xs ++ ys)) ≡ take n (drop d xs)
part_front d n xs ys h =
    let low : d ≤ length xs = omega arith in
    ap (λ (l : List ℕ). take n l) (drop_front d xs ys low) ∙ take-append-le n (drop d xs) ys (let e = length-drop d xs in omega arith)

-- a run of numbers that were stored ends where they do
pub run_fits : (stored : List (ℕ × ℕ)) (base from count most : ℕ) → ((x : ℕ) → Has stored x → base + x < most) → base + from ≤ most
    → ((i : ℕ) → i < count → Has stored (from + i)) → base + from + count ≤ most
run_fits stored base from zero most all low has = omega arith
run_fits stored base from (suc n) most all low has = let last = all (from + n) (has n (omega arith)) in omega arith

pub set_back : (xs : List ℕ) (i : ℕ) → set xs i (get_or xs i 0) ≡ xs
set_back [] i = refl
set_back (x ∷ xs) zero = refl
set_back (x ∷ xs) (suc i) = ap (λ (l : List ℕ). x ∷ l) (set_back xs i)

pub take_none : (n : ℕ) → n ≤ 0 → (l : List ℕ) → take n [] ≡ take n l
take_none zero few l = refl
take_none (suc n) few l = absurd (omega arith)

pub take_pushed : (xs : List ℕ) (x n : ℕ) → length xs + 1 ≡ n → take n (xs ++ x ∷ []) ≡ xs ++ x ∷ []
take_pushed xs x n e = take_all n (xs ++ x ∷ []) (let l = length-append xs (x ∷ []) in omega arith)

-- one more read in order
pub read_on : (loaded frames : List ℕ) (d n w : ℕ) → length loaded + 1 ≡ n → d + n ≤ length frames → w ≡ get_or frames (d + length loaded) 0
    → take (length loaded) loaded ≡ take (length loaded) (drop d frames) → take n (loaded ++ w ∷ []) ≡ take n (drop d frames)
read_on loaded frames d n w one fits is before =
    let i : ℕ = length loaded in
    let long : i < length (drop d frames) = (let e = length-drop d frames in omega arith) in
    take_pushed loaded w n one
    ∙ ap (λ (l : List ℕ). l ++ w ∷ []) (sym (take_all i loaded (omega arith)) ∙ before)
    ∙ ap (λ (z : ℕ). take i (drop d frames) ++ z ∷ []) (is ∙ sym (get_or-drop d frames i 0))
    ∙ sym (take_more (drop d frames) i 0 long)
    ∙ ap (λ (z : ℕ). take z (drop d frames)) one
