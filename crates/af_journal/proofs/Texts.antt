-- How texts of lines are joined.
use Rattle.std.proofs.Common.{◌≡◌, ℕ, suc, ◌+◌, ◌<◌, List, [], ◌∷◌, ◌++◌, length, take, drop, slice_index_or, ap, sym, ◌∙◌, arith}
use Rattle.af_journal.proofs.Common.{append-nil, append_assoc, flat_map, flat_map-append, get_or-drop, length-drop, length-take-le, map-id, map-range_with_len_more, range_with_len, take_more}
use Rattle.af_journal.specs.Lines.{Written, line_bytes, with_lf}
use Rattle.af_journal.specs.Texts.{GoesOn, each_from, text_of_lines}

-- the text of some lines and some more
pub text-append : (first more : List Written) → text_of_lines (first ++ more) ≡ text_of_lines first ++ text_of_lines more
text-append first more = flat_map-append (λ l. with_lf (line_bytes l)) first more

-- some lines, and then some more
pub goes-then : (a b d : List ℕ) (first more : List Written) → GoesOn a first b → GoesOn b more d → GoesOn a (first ++ more) d
goes-then a b d first more one two = two ∙ ap (λ l. l ++ text_of_lines more) one ∙ append_assoc a (text_of_lines first) (text_of_lines more) ∙ ap (λ l. a ++ l) (sym (text-append first more))

-- the lines of one item more
pub each-more : {X : Type 0} (f : ℕ → X → List Written) (track : ℕ) (xs : List X) (x : X) → each_from f track (xs ++ x ∷ []) ≡ each_from f track xs ++ f (track + length xs) x
each-more f track [] x = append-nil (f track x) ∙ ap (λ i. f i x) (let e : track ≡ track + 0 = omega arith in e)
each-more f track (y ∷ ys) x =
    ap (λ l. f track y ++ l) (each-more f (track + 1) ys x)
    ∙ sym (append_assoc (f track y) (each_from f (track + 1) ys) (f (track + 1 + length ys) x))
    ∙ ap (λ i. (f track y ++ each_from f (track + 1) ys) ++ f i x) (let e : track + 1 + length ys ≡ track + suc (length ys) = omega arith in e)

-- the lines of the first items of a list, with its next one
pub each-next : {X : Type 0} (f : ℕ → X → List Written) (xs : List X) (i : ℕ) (d : X) → i < length xs → each_from f 0 (take (i + 1) xs) ≡ each_from f 0 (take i xs) ++ f i (slice_index_or xs i d)
each-next f xs i d lt =
    ap (each_from f 0) (take_more xs i d lt)
    ∙ each-more f 0 (take i xs) (slice_index_or xs i d)
    ∙ ap (λ n. each_from f 0 (take i xs) ++ f n (slice_index_or xs i d)) (let h = length-take-le i xs (omega arith) in let g : 0 + length (take i xs) ≡ i = omega arith in g)

-- what f gives for one number more
pub range-more : (f : ℕ → List Written) (n : ℕ) → flat_map f (range_with_len 0 (n + 1)) ≡ flat_map f (range_with_len 0 n) ++ f n
range-more f n =
    ap (flat_map f) (sym (map-id (range_with_len 0 (n + 1))) ∙ map-range_with_len_more (λ i. i) 0 n n (let e : 0 + n ≡ n = omega arith in e) ∙ ap (λ l. l ++ n ∷ []) (map-id (range_with_len 0 n)))
    ∙ flat_map-append f (range_with_len 0 n) (n ∷ [])
    ∙ ap (λ l. flat_map f (range_with_len 0 n) ++ l) (append-nil (f n))

-- what f gives for the next of some that begin at a place
pub part-more : {X : Type 0} (f : X → List Written) (xs : List X) (first i : ℕ) (d : X) → first + i < length xs → flat_map f (take (i + 1) (drop first xs)) ≡ flat_map f (take i (drop first xs)) ++ f (slice_index_or xs (first + i) d)
part-more f xs first i d lt = let rest = drop first xs in
    let inside : i < length rest = let e = length-drop first xs in omega arith in
    ap (flat_map f) (take_more rest i d inside)
    ∙ flat_map-append f (take i rest) (slice_index_or rest i d ∷ [])
    ∙ ap (λ l. flat_map f (take i rest) ++ l) (append-nil (f (slice_index_or rest i d)))
    ∙ ap (λ x. flat_map f (take i rest) ++ f x) (get_or-drop first xs i d)
