-- Words that are taken in runs: those released from a place on.
use Rattle.std.proofs.Common.{◌≡◌, ℕ, zero, suc, ◌+◌, ◌<◌, ◌≤◌, min, List, [], ◌∷◌, ◌++◌, length, take, drop, All, Some, slice_get, refl, sym, ap, ◌∙◌, subst, arith, length-drop, length-take-le}
use Rattle.af_judge.proofs.Common.{All-append, All-cons, All-head, All-nil, All-tail, drop-append-le, same_slot, take-append-le, take_all}
use Rattle.af_judge.specs.declared.words_judge.Run.{Run}
use Rattle.af_judge.specs.declared.words_judge.Taken.{Taken}
use Rattle.af_judge.specs.Blocks.{IsReleased, LiesWithin, placed_from, run_words, runs_words}
use Rattle.af_judge.specs.Servers.{most_counted}
use Rattle.af_judge.proofs.Placed.{all_ends}

-- ## Lists

abbrev head-of : ℕ → List ℕ → ℕ
head-of d [] = d
head-of d (x ∷ xs) = x

head-same : {x y : ℕ} {xs ys : List ℕ} → x ∷ xs ≡ y ∷ ys → x ≡ y
head-same {x} e = ap (head-of x) e

tail-same : {x y : ℕ} {xs ys : List ℕ} → x ∷ xs ≡ y ∷ ys → xs ≡ ys
tail-same e = ap (drop 1) e

-- ## Words at their places

pub slice_get-inside : (xs : List ℕ) (n w : ℕ) → slice_get xs n ≡ Some w → n < length xs
slice_get-inside [] n w is = absurd (let e = is in let x : ⊥ = cc in x)
slice_get-inside (x ∷ xs) zero w is = omega arith
slice_get-inside (x ∷ xs) (suc n) w is = (let a = slice_get-inside xs n w is in omega (arith, a))

pub drop-here : (xs : List ℕ) (n w : ℕ) → slice_get xs n ≡ Some w → drop n xs ≡ w ∷ drop (n + 1) xs
drop-here [] n w is = absurd (let e = is in let x : ⊥ = cc in x)
drop-here (x ∷ xs) zero w is = ap (λ (y : ℕ). y ∷ xs) (same_slot x w is)
drop-here (x ∷ xs) (suc n) w is = drop-here xs n w is ∙ ap (λ (m : ℕ). w ∷ drop m (x ∷ xs)) (let e : suc (n + 1) ≡ suc n + 1 = omega arith in e)

-- a list has an item at each place within it
there-is : (xs : List ℕ) (n : ℕ) → n < length xs → (w : ℕ) × (slice_get xs n ≡ Some w)
there-is [] n inside = absurd (let x : ⊥ = omega (arith, inside) in x)
there-is (x ∷ xs) zero inside = (x, refl)
there-is (x ∷ xs) (suc n) inside = there-is xs n (omega (arith, inside))

pub released-placed : (released : List ℕ) (place : ℕ) (words : List ℕ) → length released < most_counted → place + length words ≤ length released → take (length words) (drop place released) ≡ words → All (IsReleased released) (placed_from place words)
released-placed released place [] short within is = All-nil (IsReleased released)
released-placed released place (w ∷ words) short within is =
    let found = there-is released place (omega (arith, within)) in
    let both : found.0 ∷ take (length words) (drop (place + 1) released) ≡ w ∷ words = ap (take (suc (length words))) (sym (drop-here released place found.0 found.1)) ∙ is in
    let t : Taken = record { at = min most_counted place; word = w } in
    let at : min most_counted place ≡ place = omega (arith, within, short) in
    let here : IsReleased released t = subst (λ (n : ℕ). slice_get released n ≡ Some w) (sym at) (found.1 ∙ ap Some (head-same both)) in
    All-cons (IsReleased released) t (placed_from (place + 1) words) here (released-placed released (place + 1) words short (omega (arith, within)) (tail-same both))

-- ## Words released later

run-stays : (released more : List ℕ) (r : Run) → LiesWithin released r → run_words (released ++ more) r ≡ run_words released r
run-stays released more r within =
    let long : r.count ≤ length (drop r.at released) = (let a = length-drop r.at released in omega (arith, a, within)) in
    ap (placed_from r.at) (ap (take r.count) (drop-append-le r.at released more (omega (arith, within))) ∙ take-append-le r.count (drop r.at released) more long)

-- the words of runs stay what they are
pub runs-stay : (released more : List ℕ) (runs : List Run) → All (LiesWithin released) runs → runs_words (released ++ more) runs ≡ runs_words released runs
runs-stay released more [] within = refl
runs-stay released more (r ∷ runs) within =
    let one = run-stays released more r (All-head (LiesWithin released) r runs within) in
    let rest = runs-stay released more runs (All-tail (LiesWithin released) r runs within) in
    λ i. one i ++ rest i

-- ## All words taken

run-released : (released : List ℕ) (r : Run) → length released < most_counted → LiesWithin released r → All (IsReleased released) (run_words released r)
run-released released r short within =
    let piece = take r.count (drop r.at released) in
    let long : length piece ≡ r.count = length-take-le r.count (drop r.at released) (let a = length-drop r.at released in omega (arith, a, within)) in
    released-placed released r.at piece short (omega (arith, long, within)) (ap (λ (n : ℕ). take n (drop r.at released)) long)

runs-released : (released : List ℕ) (runs : List Run) → length released < most_counted → All (LiesWithin released) runs → All (IsReleased released) (runs_words released runs)
runs-released released [] short within = All-nil (IsReleased released)
runs-released released (r ∷ runs) short within =
    All-append (IsReleased released) (run_words released r) (runs_words released runs) (run-released released r short (All-head (LiesWithin released) r runs within))
    (runs-released released runs short (All-tail (LiesWithin released) r runs within))

behind : (released : List ℕ) (xs ys : List Taken) → All (IsReleased released) (xs ++ ys) → All (IsReleased released) ys
behind released [] ys all = all
behind released (x ∷ xs) ys all = behind released xs ys (All-tail (IsReleased released) x (xs ++ ys) all)

-- all words taken were released at their places, if those by themselves were, and only then
pub all-taken : (released : List ℕ) (runs : List Run) (taken : List Taken) → length released < most_counted → All (LiesWithin released) runs → All (IsReleased released) taken → All (IsReleased released) (runs_words released runs ++ taken)
all-taken released runs taken short within all = All-append (IsReleased released) (runs_words released runs) taken (runs-released released runs short within) all

pub taken-all : (released : List ℕ) (runs : List Run) (taken : List Taken) → All (IsReleased released) (runs_words released runs ++ taken) → All (IsReleased released) taken
taken-all released runs taken all = behind released (runs_words released runs) taken all

-- so they are if so many are known as there are by themselves
pub all-known : (released r : List ℕ) (runs : List Run) (taken t : List Taken) (n len : ℕ) → r ≡ released → t ≡ taken → length released < most_counted → All (LiesWithin released) runs → len ≡ length taken → len ≤ n
    → All (IsReleased r) (take n t) → All (IsReleased released) (runs_words released runs ++ taken)
all-known released r runs taken t n len is same short within long all known =
    let here : All (IsReleased released) (take n taken) = subst (λ (x : List ℕ × List Taken). All (IsReleased x.0) (take n x.1)) (λ i. (is i, same i)) known in
    all-taken released runs taken short within (subst (All (IsReleased released)) (take_all n taken (omega (arith, long, all))) here)

-- and not if the first one that isn't is one of them
pub not-known : (released r : List ℕ) (runs : List Run) (taken t : List Taken) (n len : ℕ) → r ≡ released → t ≡ taken → len ≡ length taken → n < len → n ≤ length t
    → ((s : Taken) → slice_get t n ≡ Some s → IsReleased r s → ⊥) → All (IsReleased released) (runs_words released runs ++ taken) → ⊥
not-known released r runs taken t n len is same long less within ends all =
    let there : All (IsReleased r) t = subst (λ (x : List ℕ × List Taken). All (IsReleased x.0) x.1) (λ i. (sym is i, sym same i)) (taken-all released runs taken all) in
    let last : n ≡ length t = all_ends r t n within ends there in
    let size : length t ≡ length taken = ap length same in
    omega (arith, last, size, long, less)
