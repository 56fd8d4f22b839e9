-- The words that a client sent are those of a course.
use Rattle.std.proofs.Common.{◌≡◌, ℕ, zero, suc, ◌+◌, ◌-◌, ◌*◌, ◌≤◌, ◌==◌, if◌then◌else◌, ◌||◌, Bool, true, false, List, [], ◌∷◌, ◌++◌, length, length-append, get_or, take, refl, sym, ap, ◌∙◌, arith, eqb-true}
use Rattle.af_enough_law.proofs.Common.{both_first, both_right, take-append_seam, take_most}
use Rattle.af_enough_law.proofs.Basics.{course_long}
use Rattle.af_enough_law.proofs.Courses.{code_at, argument_at, course}
use Rattle.af_enough_law.proofs.Argued.{is_argued, all_argued}
use Rattle.af_enough_law.proofs.Doing.{codes_of}
use Rattle.af_enough_law.proofs.Turning.{words_of}

-- the codes of so many commands from this one on
abbrev pub codes_from : ℕ → ℕ → List ℕ
codes_from told zero = []
codes_from told (suc more) = code_at told ∷ codes_from (suc told) more

-- the argument of the STOP among these commands, if so many were sent before
abbrev pub stop_in : ℕ → List (ℕ × ℕ) → ℕ
stop_in told [] = 0
stop_in told (one ∷ sent) = if told == 2 then one.1 else stop_in (suc told) sent

codes_tail : List ℕ → List ℕ
codes_tail [] = []
codes_tail (x ∷ xs) = xs

not_stop : (code argument : ℕ) → (code == 4) ≡ false → is_argued (code, argument) ≡ true → argument ≡ 0
not_stop code argument other h = eqb-true argument 0 (ap (λ (b : Bool). b || (argument == 0)) (sym other) ∙ h)

-- commands with these codes, of which none but a STOP has an argument, are those of a course
pub words_course : (count told more : ℕ) (sent : List (ℕ × ℕ)) → codes_of sent ≡ codes_from told more → all_argued sent ≡ true → (told ≤ 2 → 3 ≤ told + more → stop_in told sent ≡ count) → words_of sent ≡ course count told more
unfolding codes_tail
words_course count told zero [] codes argued stop = refl
words_course count told zero (one ∷ sent) codes argued stop = absurd (let e = ap length codes in omega arith)
words_course count told (suc more) [] codes argued stop = absurd (let e = ap length codes in omega arith)
words_course count told (suc more) (one ∷ sent) codes argued stop =
    let code : one.0 ≡ code_at told = ap (λ (l : List ℕ). get_or l 0 0) codes in
    let first : is_argued one ≡ true = both_first (is_argued one) (all_argued sent) argued in
    let argument : one.1 ≡ argument_at count told = by told code first stop in
    let rest : words_of sent ≡ course count (suc told) more = words_course count (suc told) more sent (ap codes_tail codes) (both_right (is_argued one) (all_argued sent) argued) (λ low high. later told stop low (omega (arith, high))) in
    λ j. code j ∷ argument j ∷ rest j
  where
    by : (told : ℕ) → one.0 ≡ code_at told → is_argued one ≡ true → (told ≤ 2 → 3 ≤ told + suc more → stop_in told (one ∷ sent) ≡ count) → one.1 ≡ argument_at count told
    by zero code h stop = not_stop one.0 one.1 (ap (λ (c : ℕ). c == 4) code) h
    by (suc zero) code h stop = not_stop one.0 one.1 (ap (λ (c : ℕ). c == 4) code) h
    by (suc (suc zero)) code h stop = stop (omega arith) (omega arith)
    by (suc (suc (suc told))) code h stop = not_stop one.0 one.1 (ap (λ (c : ℕ). c == 4) code) h

    later : (told : ℕ) → (told ≤ 2 → 3 ≤ told + suc more → stop_in told (one ∷ sent) ≡ count) → suc told ≤ 2 → 3 ≤ told + suc more → stop_in (suc told) sent ≡ count
    later zero stop low high = stop (omega arith) high
    later (suc zero) stop low high = stop (omega arith) high
    later (suc (suc told)) stop low high = absurd (omega (arith, low))

-- ## A front of a course

pub course_join : (count told a b : ℕ) → course count told (a + b) ≡ course count told a ++ course count (told + a) b
course_join count told zero b = let none : 0 + b ≡ b = omega arith in let same : told ≡ told + 0 = omega arith in λ j. course count (same j) (none j)
course_join count told (suc a) b =
    let one : suc a + b ≡ suc (a + b) = omega arith in
    let same : suc told + a ≡ told + suc a = omega arith in
    ap (course count told) one
    ∙ ap (λ (ws : List ℕ). code_at told ∷ argument_at count told ∷ ws) (course_join count (suc told) a b ∙ ap (λ (n : ℕ). course count (suc told) a ++ course count n b) same)

-- the words after those taken before are the next of the course, if both begin a course
pub next_words : (count j more : ℕ) (before words : List ℕ) → before ≡ course count 0 j → before ++ words ≡ course count 0 (j + more) → words ≡ course count j more
unfolding codes_tail
next_words count j more before words first whole =
    let same : course count 0 j ++ words ≡ course count 0 j ++ course count j more = ap (λ (ws : List ℕ). ws ++ words) (sym first) ∙ whole ∙ course_join count 0 j more ∙ ap (λ (n : ℕ). course count 0 j ++ course count n more) (let e : 0 + j ≡ j = omega arith in e) in
    cancel (course count 0 j) words (course count j more) same
  where
    cancel : (xs ys zs : List ℕ) → xs ++ ys ≡ xs ++ zs → ys ≡ zs
    cancel [] ys zs e = e
    cancel (x ∷ xs) ys zs e = cancel xs ys zs (ap codes_tail e)

-- a front of a course with so many words is that of so many commands
pub course_front : (count told a b : ℕ) → take (2 * a) (course count told (a + b)) ≡ course count told a
course_front count told a b = let size : 2 * a ≡ length (course count told a) = sym (course_long count told a) in
    ap (take (2 * a)) (course_join count told a b) ∙ ap (λ (n : ℕ). take n (course count told a ++ course count (told + a) b)) size ∙ take-append_seam (course count told a) (course count (told + a) b)

-- ## What a turn takes of a course

take_same : (n : ℕ) (xs : List ℕ) → take n xs ≡ take (length (take n xs)) xs
take_same zero xs = refl
take_same (suc n) [] = refl
take_same (suc n) (x ∷ xs) = ap (λ (ys : List ℕ). x ∷ ys) (take_same n xs)

-- Words that are taken after those of so many commands, if all that were taken begin a course, are those of its next commands
pub taken_words : (count j more k n : ℕ) (before words released : List ℕ) → released ≡ course count 0 k → before ≡ course count 0 j → before ++ words ≡ take n released → length words ≡ 2 * more → (words ≡ course count j more) × (j + more ≤ k)
taken_words count j more k n before words released all first whole size =
    let a = length-append before words in
    let b = ap length first ∙ course_long count 0 j in
    let c = ap length all ∙ course_long count 0 k in
    let most = take_most n released in
    let long : length (take n released) ≡ 2 * (j + more) = let e = ap length whole in omega arith in
    let within : j + more ≤ k = omega arith in
    let sum : k ≡ (j + more) + (k - (j + more)) = omega arith in
    let front : before ++ words ≡ course count 0 (j + more) =
    whole ∙ take_same n released ∙ ap (λ (m : ℕ). take m released) long ∙ ap (take (2 * (j + more))) (all ∙ ap (course count 0) sum) ∙ course_front count 0 (j + more) (k - (j + more)) in
    (next_words count j more before words first front, within)
