-- The commands of a block as pairs of a code and an argument, and which of them may follow one another.
use Rattle.std.proofs.Common.{◌≡◌, ℕ, zero, suc, ◌+◌, ◌*◌, ◌<◌, ◌≤◌, ◌==◌, ◌++◌, false, List, [], ◌∷◌, length, get_or, unwrap_or, Option, Some, refl, ap, subst, arith}
use Rattle.af_audit.proofs.Common.{OPEN, REMOVE, START, slice_get}

-- the words of some commands
abbrev pub words_of : List (ℕ × ℕ) → List ℕ
words_of [] = []
words_of (c ∷ cs) = c.0 ∷ c.1 ∷ words_of cs

pub words_join : (xs ys : List (ℕ × ℕ)) → words_of (xs ++ ys) ≡ words_of xs ++ words_of ys
words_join [] ys = refl
words_join (x ∷ xs) ys = ap (λ (l : List ℕ). x.0 ∷ x.1 ∷ l) (words_join xs ys)

abbrev tail_of : List ℕ → List ℕ
tail_of [] = []
tail_of (x ∷ xs) = xs

-- commands whose words begin those of others begin them
pub words_front : (cs sent : List (ℕ × ℕ)) (more : List ℕ) → words_of sent ≡ words_of cs ++ more → (rest : List (ℕ × ℕ)) × (sent ≡ cs ++ rest)
words_front [] sent more e = (sent, refl)
words_front (c ∷ cs) [] more e = let n : 0 ≡ length (c.0 ∷ c.1 ∷ words_of cs ++ more) = ap length e in absurd (omega (arith, n))
words_front (c ∷ cs) (d ∷ sent) more e =
    let code : d.0 ≡ c.0 = ap (λ (l : List ℕ). get_or l 0 d.0) e in
    let argument : d.1 ≡ c.1 = ap (λ (l : List ℕ). get_or l 0 d.1) (ap tail_of e) in
    let r = words_front cs sent more (ap (λ (l : List ℕ). tail_of (tail_of l)) e) in
    (r.0, λ i. (code i, argument i) ∷ r.1 i)

-- ## Order

-- the first of the commands, if there is one, is an OPEN
abbrev pub OpensFirst : List (ℕ × ℕ) → Type 0
OpensFirst [] = Unit {0}
OpensFirst (c ∷ cs) = c.0 ≡ OPEN

-- none of the commands is a REMOVE
abbrev pub NoneRemoves : List (ℕ × ℕ) → Type 0
NoneRemoves [] = Unit {0}
NoneRemoves (c ∷ cs) = ((c.0 == REMOVE) ≡ false) × NoneRemoves cs

-- none of the commands but the last one is a REMOVE
abbrev pub RemovesLast : List (ℕ × ℕ) → Type 0
RemovesLast [] = Unit {0}
RemovesLast (c ∷ []) = Unit {0}
RemovesLast (c ∷ d ∷ cs) = ((c.0 == REMOVE) ≡ false) × RemovesLast (d ∷ cs)

-- commands that begin with an OPEN, and end with a REMOVE if they have one
pub record IsOrderly (cs : List (ℕ × ℕ)) : Type 0 where
  pub opens : OpensFirst cs
  pub removes : RemovesLast cs

opens_front : (xs ys : List (ℕ × ℕ)) → OpensFirst (xs ++ ys) → OpensFirst xs
opens_front [] ys h = tt
opens_front (x ∷ xs) ys h = h

removes_front : (xs ys : List (ℕ × ℕ)) → RemovesLast (xs ++ ys) → RemovesLast xs
removes_front [] ys h = tt
removes_front (x ∷ []) ys h = tt
removes_front (x ∷ y ∷ xs) ys h = (h.0, removes_front (y ∷ xs) ys h.1)

pub orderly_front : (xs ys : List (ℕ × ℕ)) → IsOrderly (xs ++ ys) → IsOrderly xs
orderly_front xs ys h = record { opens = opens_front xs ys h.opens; removes = removes_front xs ys h.removes }

-- what stands before another command is no REMOVE
pub none_before : (xs : List (ℕ × ℕ)) (c : ℕ × ℕ) (ys : List (ℕ × ℕ)) → RemovesLast (xs ++ c ∷ ys) → NoneRemoves xs
none_before [] c ys h = tt
none_before (x ∷ []) c ys h = (h.0, tt)
none_before (x ∷ y ∷ xs) c ys h = (h.0, none_before (y ∷ xs) c ys h.1)

pub none_split : (xs ys : List (ℕ × ℕ)) → NoneRemoves (xs ++ ys) → NoneRemoves xs × NoneRemoves ys
none_split [] ys h = (tt, h)
none_split (x ∷ xs) ys h = let r = none_split xs ys h.1 in ((h.0, r.0), r.1)

pub none_join : (xs ys : List (ℕ × ℕ)) → NoneRemoves xs → NoneRemoves ys → NoneRemoves (xs ++ ys)
none_join [] ys h g = g
none_join (x ∷ xs) ys h g = (h.0, none_join xs ys h.1 g)

pub removes_more : (xs : List (ℕ × ℕ)) (c : ℕ × ℕ) → NoneRemoves xs → RemovesLast (xs ++ c ∷ [])
removes_more [] c h = tt
removes_more (x ∷ []) c h = (h.0, tt)
removes_more (x ∷ y ∷ xs) c h = (h.0, removes_more (y ∷ xs) c h.1)

pub opens_more : (xs ys : List (ℕ × ℕ)) → 1 ≤ length xs → OpensFirst xs → OpensFirst (xs ++ ys)
opens_more [] ys some h = absurd (omega (arith, some))
opens_more (x ∷ xs) ys some h = h

-- ## The flush counts of STARTs

-- each START among the commands has a flush count of at most so many
abbrev pub StartsSeen : ℕ → List (ℕ × ℕ) → Type 0
StartsSeen most [] = Unit {0}
StartsSeen most (c ∷ cs) = (c.0 ≡ START → c.1 ≤ most) × StartsSeen most cs

pub seen_join : (most : ℕ) (xs ys : List (ℕ × ℕ)) → StartsSeen most xs → StartsSeen most ys → StartsSeen most (xs ++ ys)
seen_join most [] ys h g = g
seen_join most (x ∷ xs) ys h g = (h.0, seen_join most xs ys h.1 g)

pub seen_more : (few most : ℕ) (xs : List (ℕ × ℕ)) → few ≤ most → StartsSeen few xs → StartsSeen most xs
seen_more few most [] low h = tt
seen_more few most (x ∷ xs) low h = ((λ is. let a = h.0 is in omega (arith, a, low)), seen_more few most xs low h.1)

-- the START of a number has a flush count of at most so many, by the words of the commands
pub start_seen : (most : ℕ) (done : List (ℕ × ℕ)) (rest : List ℕ) (number count : ℕ) → number < length done → slice_get (words_of done ++ rest) (2 * number) ≡ Some START → slice_get (words_of done ++ rest) (2 * number + 1) ≡ Some count
    → StartsSeen most done → count ≤ most
start_seen most [] rest number count low code argument h = absurd (omega (arith, low))
start_seen most (c ∷ done) rest zero count low code argument h =
    let a = h.0 (ap (λ (o : Option ℕ). unwrap_or o c.0) code) in
    let same : c.1 ≡ count = ap (λ (o : Option ℕ). unwrap_or o c.1) argument in
    omega (arith, a, same)
start_seen most (c ∷ done) rest (suc number) count low code argument h =
    let first : 2 * suc number ≡ suc (suc (2 * number)) = omega arith in
    let second : 2 * suc number + 1 ≡ suc (suc (2 * number + 1)) = omega arith in
    start_seen most done rest number count (omega (arith, low))
    (subst (λ (n : ℕ). slice_get (c.0 ∷ c.1 ∷ words_of done ++ rest) n ≡ Some START) first code)
    (subst (λ (n : ℕ). slice_get (c.0 ∷ c.1 ∷ words_of done ++ rest) n ≡ Some count) second argument) h.1
