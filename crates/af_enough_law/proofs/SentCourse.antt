-- The words that a client on its way sent are the first of a course, and which STOP it is doesn't change.
use Rattle.std.proofs.Common.{◌≡◌, ℕ, zero, suc, ◌≤◌, ◌<◌, List, [], ◌∷◌, ◌++◌, length, get_or, take, refl, sym, ap, ◌∙◌, arith, length-append}
use Rattle.af_enough_law.proofs.Common.{Life, Mode, Op, Track, TrackKept, Want, take_most}
use Rattle.af_enough_law.proofs.Basics.{course_long}
use Rattle.af_enough_law.proofs.Courses.{course, Course, absent, idle, playing, stopping, drained, stopped, over, Follows}
use Rattle.af_enough_law.proofs.Playing.{Doing, opening, starting, settling, setting, writing, clearing, clearing_more, stopping as stopping_due, draining, removing}
use Rattle.af_enough_law.proofs.Argued.{AreArgued}
use Rattle.af_enough_law.proofs.CourseWords.{codes_from, stop_in, words_course}
use Rattle.af_enough_law.proofs.Doing.{codes_sent, codes_of}
use Rattle.af_enough_law.proofs.Turning.{Stands, on, gone_for_good, words_of}

-- ## The commands by their words

rest_words : List ℕ → List ℕ
rest_words [] = []
rest_words (x ∷ []) = []
rest_words (x ∷ y ∷ xs) = xs

-- commands with the same words are the same
pub same_commands : (xs ys : List (ℕ × ℕ)) → words_of xs ≡ words_of ys → xs ≡ ys
unfolding rest_words
same_commands [] [] is = refl
same_commands [] (y ∷ ys) is = absurd (let e : 0 ≡ suc (suc (length (words_of ys))) = ap length is in omega (arith, e))
same_commands (x ∷ xs) [] is = absurd (let e : suc (suc (length (words_of xs))) ≡ 0 = ap length is in omega (arith, e))
same_commands (x ∷ xs) (y ∷ ys) is =
    let code : x.0 ≡ y.0 = ap (λ (l : List ℕ). get_or l 0 0) is in
    let argument : x.1 ≡ y.1 = ap (λ (l : List ℕ). get_or l 1 0) is in
    let rest = same_commands xs ys (ap rest_words is) in
    λ j. (code j, argument j) ∷ rest j

-- ## What was sent

-- the codes sent are the first ones of a course
doing_codes : (due : List Want) (ops : List Op) (m : Mode) → Doing due ops m → (k : ℕ) × (codes_sent due m ≡ codes_from 0 k) × (k ≤ 4)
doing_codes _ _ _ (opening ops way) = (0, refl, omega arith)
doing_codes _ _ _ (starting ops way) = (1, refl, omega arith)
doing_codes _ _ _ (settling ops way) = (2, refl, omega arith)
doing_codes _ _ _ (setting left right gains ops way) = (2, refl, omega arith)
doing_codes _ _ _ (writing count ops some way) = (2, refl, omega arith)
doing_codes _ _ _ (clearing ops way) = (2, refl, omega arith)
doing_codes _ _ _ (clearing_more count ops some way) = (2, refl, omega arith)
doing_codes _ _ _ stopping_due = (2, refl, omega arith)
doing_codes _ _ _ draining = (3, refl, omega arith)
doing_codes _ _ _ removing = (3, refl, omega arith)

-- so much of a course was sent
pub record SentCourse (released : List ℕ) : Type 0 where
  pub count : ℕ
  pub sent : ℕ
  pub few : sent ≤ 4
  pub words : released ≡ course count 0 sent

course_of : (released : List ℕ) (sent : List (ℕ × ℕ)) (k : ℕ) → released ≡ words_of sent → codes_of sent ≡ codes_from 0 k → k ≤ 4 → (t : Track) → t.commands.released ≡ released → AreArgued t → SentCourse released
course_of released sent k words codes few t same argued =
    let alike : argued.sent ≡ sent = same_commands argued.sent sent (sym argued.words ∙ same ∙ words) in
    record {
      count = stop_in 0 argued.sent;
      sent = k;
      few = few;
      words = words ∙ ap words_of (sym alike) ∙ words_course (stop_in 0 argued.sent) 0 k argued.sent (ap codes_of alike ∙ codes) argued.argued (λ low high. refl);
    }

-- What a client on its way, or gone, has sent
pub sent_course : (t : Track) (most total : ℕ) → Stands t most total → AreArgued t → SentCourse t.commands.released
sent_course t most total (on due ops m is left) argued = let codes = doing_codes due ops m left.doing in course_of t.commands.released left.sent codes.0 left.words (left.codes ∙ codes.1) codes.2 t refl argued
sent_course t most total (gone_for_good ended sent words codes) argued = course_of t.commands.released sent 4 words codes (omega arith) t refl argued

-- ## Which STOP it is

get_take : (n i d : ℕ) (xs : List ℕ) → i < length (take n xs) → get_or (take n xs) i d ≡ get_or xs i d
get_take zero i d xs low = absurd (let z : ⊥ = omega (arith, low) in z)
get_take (suc n) i d [] low = refl
get_take (suc n) zero d (x ∷ xs) low = refl
get_take (suc n) (suc i) d (x ∷ xs) low = get_take n i d xs (omega (arith, low))

sixth : (count k : ℕ) → 3 ≤ k → (words : List ℕ) → get_or (course count 0 k ++ words) 5 0 ≡ count
sixth count (suc (suc (suc k))) h words = refl
sixth count zero h words = absurd (let z : ⊥ = omega (arith, h) in z)
sixth count (suc zero) h words = absurd (let z : ⊥ = omega (arith, h) in z)
sixth count (suc (suc zero)) h words = absurd (let z : ⊥ = omega (arith, h) in z)

pub with_none : (count k : ℕ) → 3 ≤ k → get_or (course count 0 k) 5 0 ≡ count
with_none count (suc (suc (suc k))) h = refl
with_none count zero h = absurd (let z : ⊥ = omega (arith, h) in z)
with_none count (suc zero) h = absurd (let z : ⊥ = omega (arith, h) in z)
with_none count (suc (suc zero)) h = absurd (let z : ⊥ = omega (arith, h) in z)

-- words taken that have a STOP are of the course whose front they are
pub same_stop : (before after told k n : ℕ) (words : List ℕ) → 3 ≤ told → course before 0 told ++ words ≡ take n (course after 0 k) → before ≡ after
same_stop before after told k n words some is =
    let a = course_long before 0 told in
    let b = course_long after 0 k in
    let c = length-append (course before 0 told) words in
    let d = ap length is in
    let e = take_most n (course after 0 k) in
    let long : 3 ≤ k = omega (arith, a, b, c, d, e, some) in
    let low : 5 < length (take n (course after 0 k)) = omega (arith, a, c, d, some) in
    sym (sixth before told some words) ∙ ap (λ (l : List ℕ). get_or l 5 0) is ∙ get_take n 5 0 (course after 0 k) low ∙ with_none after k long

-- the first two commands of each course are the same
pub course_any : (before after told : ℕ) → told ≤ 2 → course before 0 told ≡ course after 0 told
course_any before after zero low = refl
course_any before after (suc zero) low = refl
course_any before after (suc (suc zero)) low = refl
course_any before after (suc (suc (suc told))) low = absurd (let z : ⊥ = omega (arith, low) in z)

life_any : (before after told : ℕ) (l : Life) → told ≤ 2 → Course before told l → Course after told l
life_any before after told l low absent = absent
life_any before after told l low idle = idle
life_any before after told l low (playing retries some few) = playing retries some few
life_any before after told l low (stopping retries) = absurd (let z : ⊥ = omega (arith, low) in z)
life_any before after told l low (drained retries) = absurd (let z : ⊥ = omega (arith, low) in z)
life_any before after told l low (stopped retries) = absurd (let z : ⊥ = omega (arith, low) in z)
life_any before after told l low (over life e) = absurd (let z : ⊥ = omega (arith, low) in z)

-- a track that took no STOP yet follows any course
pub follows_any : (before after told : ℕ) (s : TrackKept) → told ≤ 2 → Follows before told s → Follows after told s
follows_any before after told s low f = record { course = life_any before after told s.life low f.course; settled = f.settled; awaits = f.awaits; status = f.status }
