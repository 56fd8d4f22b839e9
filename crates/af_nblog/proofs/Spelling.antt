-- Eight words spell a note, and a note's words spell it.
use Rattle.std.proofs.Common.{◌≡◌, ℕ, zero, suc, ◌+◌, ◌*◌, ◌^◌, ◌<◌, ◌≤◌, List, [], ◌∷◌, ◌++◌, length, map, take, drop, get_or, refl, sym, ap, ◌∙◌, subst, arith}
use Rattle.af_nblog.proofs.Common.{Frame, packed_word, take-append-drop}
use Rattle.af_nblog.specs.declared.entries.Note.{Note}
use Rattle.af_nblog.specs.Notes.{low_half, high_half, joined, words_of, notes_in}
use Rattle.af_nblog.specs.NoteEnds.{AreInOrder}

-- ## Halves

halves : (n : ℕ) → joined (low_half n) (high_half n) ≡ n
halves n = omega arith

low_of : (a b : ℕ) → a < 2 ^ 32 → low_half (joined a b) ≡ a
low_of a b small = omega arith

high_of : (a b : ℕ) → a < 2 ^ 32 → high_half (joined a b) ≡ b
high_of a b small = omega arith

-- a note made of words has these words
pub words_back : (a b c d kind fulls partials empties : ℕ) → a < 2 ^ 32 → c < 2 ^ 32
    → words_of (record { place = joined a b; state = joined c d; kind = kind; fulls = fulls; partials = partials; empties = empties }) ≡ a ∷ b ∷ c ∷ d ∷ kind ∷ fulls ∷ partials ∷ empties ∷ []
words_back a b c d kind fulls partials empties small few =
    let p = low_of a b small in
    let q = high_of a b small in
    let r = low_of c d few in
    let s = high_of c d few in
    ap (λ (x : (ℕ × ℕ) × (ℕ × ℕ)). x.0.0 ∷ x.0.1 ∷ x.1.0 ∷ x.1.1 ∷ kind ∷ fulls ∷ partials ∷ empties ∷ []) (λ i. ((p i, q i), (r i, s i)))

-- ## Lists of words

module _ {A : Type 0} where
  -- a list with its first eight elements told apart
  record Eight (xs : List A) : Type 0 where
    a : A
    b : A
    c : A
    d : A
    e : A
    f : A
    g : A
    h : A
    rest : List A
    is : xs ≡ a ∷ b ∷ c ∷ d ∷ e ∷ f ∷ g ∷ h ∷ rest
    count : length xs ≡ length rest + 8

  eight : (xs : List A) → 8 ≤ length xs → Eight xs
  eight [] l = absurd (omega arith)
  eight (a ∷ []) l = absurd (omega arith)
  eight (a ∷ b ∷ []) l = absurd (omega arith)
  eight (a ∷ b ∷ c ∷ []) l = absurd (omega arith)
  eight (a ∷ b ∷ c ∷ d ∷ []) l = absurd (omega arith)
  eight (a ∷ b ∷ c ∷ d ∷ e ∷ []) l = absurd (omega arith)
  eight (a ∷ b ∷ c ∷ d ∷ e ∷ f ∷ []) l = absurd (omega arith)
  eight (a ∷ b ∷ c ∷ d ∷ e ∷ f ∷ g ∷ []) l = absurd (omega arith)
  eight (a ∷ b ∷ c ∷ d ∷ e ∷ f ∷ g ∷ h ∷ rest) l = record { a = a; b = b; c = c; d = d; e = e; f = f; g = g; h = h; rest = rest; is = refl; count = omega arith }

  none_left : (xs : List A) → length xs ≡ 0 → xs ≡ []
  none_left [] l = refl
  none_left (x ∷ xs) l = absurd (omega arith)

-- the words of eight frames, each read by itself
pub eight_words : (frames : List Frame) (z0 z1 z2 z3 z4 z5 z6 z7 : Frame) → length frames ≡ 8
    → map packed_word frames
    ≡ packed_word (get_or frames 0 z0)
    ∷ packed_word (get_or frames 1 z1)
    ∷ packed_word (get_or frames 2 z2)
    ∷ packed_word (get_or frames 3 z3)
    ∷ packed_word (get_or frames 4 z4)
    ∷ packed_word (get_or frames 5 z5)
    ∷ packed_word (get_or frames 6 z6)
    ∷ packed_word (get_or frames 7 z7)
    ∷ []
eight_words frames z0 z1 z2 z3 z4 z5 z6 z7 l =
    let s : Eight frames = eight frames (omega arith) in
    let more = s.count in
    let end : s.rest ≡ [] = none_left s.rest (omega arith) in
    let is : frames ≡ s.a ∷ s.b ∷ s.c ∷ s.d ∷ s.e ∷ s.f ∷ s.g ∷ s.h ∷ [] = s.is ∙ ap (λ (xs : List Frame). s.a ∷ s.b ∷ s.c ∷ s.d ∷ s.e ∷ s.f ∷ s.g ∷ s.h ∷ xs) end in
    subst
    (λ (xs : List Frame). map packed_word xs
    ≡ packed_word (get_or xs 0 z0)
    ∷ packed_word (get_or xs 1 z1)
    ∷ packed_word (get_or xs 2 z2)
    ∷ packed_word (get_or xs 3 z3)
    ∷ packed_word (get_or xs 4 z4)
    ∷ packed_word (get_or xs 5 z5)
    ∷ packed_word (get_or xs 6 z6)
    ∷ packed_word (get_or xs 7 z7)
    ∷ [])
    (sym is)
    refl

-- ## Notes

-- the words of a note spell it
pub spelled_back : (note : Note) → notes_in (words_of note) ≡ note ∷ []
unfolding notes_in
spelled_back note =
    let p = halves note.place in
    let q = halves note.state in
    ap (λ (x : ℕ × ℕ). (record note { place = x.0; state = x.1 }) ∷ []) (λ i. (p i, q i))

-- no words spell no note
pub none_spelled : notes_in [] ≡ []
unfolding notes_in
none_spelled = refl

-- whole notes, and what follows them
pub notes_append : (k : ℕ) (xs ys : List ℕ) → length xs ≡ 8 * k → notes_in (xs ++ ys) ≡ notes_in xs ++ notes_in ys
unfolding notes_in
notes_append zero [] ys l = refl
notes_append zero (x ∷ xs) ys l = absurd (omega arith)
notes_append (suc k) xs ys l =
    let s : Eight xs = eight xs (omega arith) in
    let more = s.count in
    let rest : length s.rest ≡ 8 * k = omega arith in
    subst (λ (zs : List ℕ). notes_in (zs ++ ys) ≡ notes_in zs ++ notes_in ys) (sym s.is)
    (ap (λ (ns : List Note). (record { place = joined s.a s.b; state = joined s.c s.d; kind = s.e; fulls = s.f; partials = s.g; empties = s.h }) ∷ ns) (notes_append k s.rest ys rest))

-- one note more
pub one_more : (k : ℕ) (words : List ℕ) (note : Note) → length words ≡ 8 * k → notes_in (words ++ words_of note) ≡ notes_in words ++ note ∷ []
one_more k words note whole = notes_append k words (words_of note) whole ∙ ap (λ (ns : List Note). notes_in words ++ ns) (spelled_back note)

-- words taken that are a beginning of those put spell notes that are a beginning of those put
pub in_order : (k : ℕ) (put taken : List ℕ) → length taken ≡ 8 * k → taken ≡ take (length taken) put → AreInOrder (notes_in put) (notes_in taken)
in_order k put taken whole begins =
    let n : ℕ = length taken in
    let left : List ℕ = drop n put in
    let all : taken ++ left ≡ put = ap (λ (ws : List ℕ). ws ++ left) begins ∙ take-append-drop n put in
    record { left = notes_in left; together = sym (notes_append k taken left whole) ∙ ap notes_in all }
