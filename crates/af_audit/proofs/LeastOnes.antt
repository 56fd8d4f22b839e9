-- The least party at fault, by what is found of a round.
use Rattle.std.proofs.Common.{◌≡◌, ℕ, ◌+◌, ◌<◌, ◌≤◌, Bool, true, false, true≢false, List, [], ◌∷◌, nat_lt, if◌then◌else◌, unwrap_or, Option, Some, None, arith, refl, sym, ap, ◌∙◌}
use Rattle.af_audit.proofs.Common.{Marks, RoundSeen, Run, Session, all_more, fast_party, has_ended, nat_tests}
use Rattle.af_audit.specs.declared.run_judge.Found.{Found}
use Rattle.af_audit.specs.RunKept.{LeastBelow, least_found, least_mixer, least_party, lesser}
use Rattle.af_audit.proofs.Words.{FindsFaults}
use Rattle.af_audit.specs.Verdicts.{AreClear, IsClear, IsFirstFault, IsLeastWithout}

-- the least number below a bound is the least one up to the number before
pub least_without : (Holds : ℕ → Type 0) (last i : ℕ) → LeastBelow Holds (last + 1) (Some i) → IsLeastWithout Holds last i
least_without Holds last i h = record { is_party = (let a = h.0 in omega (arith, a)); fails = h.1; least = h.2 }

-- the least number is the same if what holds is the same
pub least_same : (P Q : ℕ → Type 0) (bound : ℕ) (o : Option ℕ) → ((i : ℕ) → i < bound → P i → Q i) → ((i : ℕ) → i < bound → Q i → P i) → LeastBelow P bound o → LeastBelow Q bound o
least_same P Q bound None to from h = λ i lt. to i lt (h i lt)
least_same P Q bound (Some i) to from h = (h.0, (λ q. h.1 (from i h.0 q)), (λ b lt. to b (let a = h.0 in omega (arith, a, lt)) (h.2 b lt)))

-- the least number of which one of two doesn't hold
pub least_first : (P Q : ℕ → Type 0) (bound x : ℕ) (b : Option ℕ) → LeastBelow P bound (Some x) → LeastBelow Q bound b → ((y : ℕ) → b ≡ Some y → x ≤ y) → LeastBelow (λ i. P i × Q i) bound (Some x)
least_first P Q bound x None p q low = (p.0, (λ h. p.1 h.0), (λ i lt. (p.2 i lt, q i (let a = p.0 in omega (arith, a, lt)))))
least_first P Q bound x (Some y) p q low = (p.0, (λ h. p.1 h.0), (λ i lt. (p.2 i lt, q.2 i (let a = low y refl in omega (arith, a, lt)))))

pub least_second : (P Q : ℕ → Type 0) (bound x y : ℕ) → LeastBelow P bound (Some x) → LeastBelow Q bound (Some y) → y < x → LeastBelow (λ i. P i × Q i) bound (Some y)
least_second P Q bound x y p q less = (q.0, (λ h. q.1 h.1), (λ i lt. (p.2 i (omega (arith, less, lt)), q.2 i lt)))

pub least_only : (P Q : ℕ → Type 0) (bound : ℕ) (b : Option ℕ) → LeastBelow P bound None → LeastBelow Q bound b → LeastBelow (λ i. P i × Q i) bound b
least_only P Q bound None p q = λ i lt. (p i lt, q i lt)
least_only P Q bound (Some y) p q = (q.0, (λ h. q.1 h.1), (λ i lt. (p i (let a = q.0 in omega (arith, a, lt)), q.2 i lt)))

-- the lesser of two least numbers is the least of which one of the two doesn't hold
pub least_lesser : (P Q : ℕ → Type 0) (bound : ℕ) (a b : Option ℕ) → LeastBelow P bound a → LeastBelow Q bound b → LeastBelow (λ i. P i × Q i) bound (lesser a b)
least_lesser P Q bound None b p q = least_only P Q bound b p q
least_lesser P Q bound (Some x) None p q = least_first P Q bound x None p q (λ y e. none-some y e)
  where
    none-some : (y : ℕ) → None ≡ Some y → x ≤ y
    none-some y e = absurd (let h = e in let x : ⊥ = cc in x)
least_lesser P Q bound (Some x) (Some y) p q = by_case (nat_lt y x) refl
  where
    some-same : (w : ℕ) → Some y ≡ Some w → y ≡ w
    some-same w e = ap (λ (o : Option ℕ). unwrap_or o y) e

    by_case : (less : Bool) → nat_lt y x ≡ less → LeastBelow (λ i. P i × Q i) bound (if less then Some y else Some x)
    by_case true is = least_second P Q bound x y p q (grind (arith, nat_tests, is))
    by_case false is = least_first P Q bound x (Some y) p q (λ w e. let low : x ≤ y = grind (arith, nat_tests, is) in let s = some-same w e in omega (arith, low, s))

module _ (Clear Turn Met : ℕ → Type 0) (tracks : ℕ) (f : Found) where
  -- client 0 is at fault in a round behind the end of all parties
  pub least_over : FindsFaults Clear Turn Met true tracks f → LeastBelow Clear (tracks + 2) (Some 0)
  least_over h = ((let x : 0 < tracks + 2 = omega arith in x), h.behind refl, (λ b lt. absurd (omega (arith, lt))))

  -- the client found is the least party at fault
  pub least_client : (i : ℕ) → FindsFaults Clear Turn Met false tracks f → LeastBelow (λ p. Turn p × Met p) tracks (Some i) → LeastBelow Clear (tracks + 2) (Some i)
  least_client i h l = (
    (let a = l.0 in omega (arith, a)),
    (λ clear. l.1 (h.turn i l.0 clear, h.met i l.0 clear)),
    (λ b lt. let both = l.2 b lt in h.going refl b (let a = l.0 in omega (arith, a, lt)) both.0 both.1),
  )

  clients_clear : FindsFaults Clear Turn Met false tracks f → LeastBelow (λ p. Turn p × Met p) tracks None → (p : ℕ) → p < tracks → Clear p
  clients_clear h l p lt = let both = l p lt in h.going refl p lt both.0 both.1

  -- the normal mixer is the least party at fault if no client is
  pub least_normal : FindsFaults Clear Turn Met false tracks f → LeastBelow (λ p. Turn p × Met p) tracks None → f.normal ≡ false → LeastBelow Clear (tracks + 2) (Some tracks)
  least_normal h l wrong =
      let clear = clients_clear h l in
      ((let x : tracks < tracks + 2 = omega arith in x), (λ c. true≢false (sym ((h.normal_is clear).1 c) ∙ wrong)), clear)

  -- all parties before the fast mixer are clear if no client was found and the normal mixer is clear
  before_fast : FindsFaults Clear Turn Met false tracks f → LeastBelow (λ p. Turn p × Met p) tracks None → f.normal ≡ true → (p : ℕ) → p < tracks + 1 → Clear p
  before_fast h l right = let clear = clients_clear h l in all_more Clear tracks clear ((h.normal_is clear).0 right)

  pub least_fast : FindsFaults Clear Turn Met false tracks f → LeastBelow (λ p. Turn p × Met p) tracks None → f.normal ≡ true → f.fast ≡ false → LeastBelow Clear (tracks + 2) (Some (tracks + 1))
  least_fast h l right wrong =
      let clear = before_fast h l right in
      ((let x : tracks + 1 < tracks + 2 = omega arith in x), (λ c. true≢false (sym ((h.fast_is clear).1 c) ∙ wrong)), clear)

  pub least_none : FindsFaults Clear Turn Met false tracks f → LeastBelow (λ p. Turn p × Met p) tracks None → f.normal ≡ true → f.fast ≡ true → LeastBelow Clear (tracks + 2) None
  least_none h l right also =
      let clear = before_fast h l right in
      λ i lt. all_more Clear (tracks + 1) clear ((h.fast_is clear).0 also) i (omega (arith, lt))

  mixer : (normal fast : Bool) → f.normal ≡ normal → f.fast ≡ fast → FindsFaults Clear Turn Met false tracks f → LeastBelow (λ p. Turn p × Met p) tracks None → LeastBelow Clear (tracks + 2) (least_mixer tracks normal fast)
  mixer false fast n k h l = least_normal h l n
  mixer true false n k h l = least_fast h l n k
  mixer true true n k h l = least_none h l n k

  party : (o : Option ℕ) → FindsFaults Clear Turn Met false tracks f → LeastBelow (λ p. Turn p × Met p) tracks o → LeastBelow Clear (tracks + 2) (least_party tracks f.normal f.fast o)
  party None h l = mixer f.normal f.fast refl refl h l
  party (Some i) h l = least_client i h l

  -- what is found has the least party that isn't clear
  pub found_least : (over : Bool) → FindsFaults Clear Turn Met over tracks f → LeastBelow Clear (tracks + 2) (least_found over tracks f)
  found_least true h = least_over h
  found_least false h = party (lesser f.caller f.met) h (least_lesser Turn Met tracks f.caller f.met h.caller_is h.met_is)

-- a round in which no party is found has no fault
pub all_clear : (cut : Bool) (s : Session) (marks : Marks) (run : Run) (round : RoundSeen) → LeastBelow (IsClear cut s marks run round) (fast_party s + 1) None → AreClear cut s marks run round
all_clear cut s marks run round h = λ party low. h party (omega (arith, low))

-- a party found in the first round is the first fault
pub fault_here : (cut : Bool) (s : Session) (marks : Marks) (run : Run) (round : RoundSeen) (rounds : List RoundSeen) (party : ℕ) → LeastBelow (IsClear cut s marks run round) (fast_party s + 1) (Some party) → IsFirstFault cut s marks run (round ∷ rounds) 0 party
fault_here cut s marks run round rounds party h = least_without (IsClear cut s marks run round) (fast_party s) party h

-- after the last round the least party that hasn't ended is at fault
pub fault_at_end : (cut : Bool) (s : Session) (marks : Marks) (run : Run) (party : ℕ) → LeastBelow (λ p. has_ended s run p ≡ true) (fast_party s + 1) (Some party) → IsFirstFault cut s marks run [] 0 party
fault_at_end cut s marks run party h = (refl, least_without (λ p. has_ended s run p ≡ true) (fast_party s) party h)
