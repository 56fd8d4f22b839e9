-- If the commands that were taken begin those that were sent, the STOP that stopped a life last is the command of the same number that was sent.
use Rattle.std.proofs.Common.{◌≡◌, ℕ, zero, suc, List, [], ◌∷◌, length, take, get_or, slice_get, Some, refl, sym, ap, ◌∙◌, subst, arith}
use Rattle.af_audit.proofs.Common.{BlockTold, LifeStep, StoppedAt, none-some, same_Some}
use Rattle.af_audit.specs.Drained.{IsStopSent, Sent, stop_number}
use Rattle.af_audit.proofs.Sending.{AreRight, IsRight, words_sent}
use Rattle.af_audit.proofs.StepsTaken.{steps_words, stop_told, told_in}
use Rattle.af_audit.proofs.StartWords.{words_of}

-- ## Words that begin those of others

-- the command of a number, with this code and this argument
record IsAt (sent : List Sent) (n code argument : ℕ) : Type 0 where
  one : Sent
  is_there : slice_get sent n ≡ Some one
  code_is : one.code ≡ code
  argument_is : one.argument ≡ argument

behind_two : List ℕ → List ℕ
behind_two (x ∷ y ∷ rest) = rest
behind_two _ = []

sent_at : (told : List (ℕ × ℕ)) (sent : List Sent) (m : ℕ) → words_of told ≡ take m (words_sent sent) → (n code argument : ℕ) → slice_get told n ≡ Some (code, argument) → IsAt sent n code argument
unfolding behind_two
sent_at [] sent m begins n code argument is = absurd (none-some (code, argument) is)
sent_at (x ∷ told) [] zero begins n code argument is = absurd (let l = ap length begins in omega (arith, l))
sent_at (x ∷ told) [] (suc m) begins n code argument is = absurd (let l = ap length begins in omega (arith, l))
sent_at (x ∷ told) (one ∷ sent) zero begins n code argument is = absurd (let l = ap length begins in omega (arith, l))
sent_at (x ∷ told) (one ∷ sent) (suc zero) begins n code argument is = absurd (let l = ap length begins in omega (arith, l))
sent_at (x ∷ told) (one ∷ sent) (suc (suc m)) begins zero code argument is =
    let same : x ≡ (code, argument) = same_Some x (code, argument) is in
    record {
      one = one;
      is_there = refl;
      code_is = sym (ap (λ (l : List ℕ). get_or l 0 0) begins) ∙ ap (λ (y : ℕ × ℕ). y.0) same;
      argument_is = sym (ap (λ (l : List ℕ). get_or l 1 0) begins) ∙ ap (λ (y : ℕ × ℕ). y.1) same;
    }
sent_at (x ∷ told) (one ∷ sent) (suc (suc m)) begins (suc n) code argument is =
    let r = sent_at told sent m (ap behind_two begins) n code argument is in
    record { one = r.one; is_there = r.is_there; code_is = r.code_is; argument_is = r.argument_is }

right_at : (sent : List Sent) (n : ℕ) (one : Sent) → AreRight sent → slice_get sent n ≡ Some one → IsRight one
right_at [] n one h is = absurd (none-some one is)
right_at (x ∷ sent) zero one h is = subst IsRight (same_Some x one is) h.0
right_at (x ∷ sent) (suc n) one h is = right_at sent n one h.1 is

-- ## What is kept of a command block

-- The words released are those of the commands sent, and those taken are those of the commands obeyed
pub record SentSo (b : BlockTold) (steps : List LifeStep) (sent : List Sent) : Type 0 where
  pub released : b.released ≡ words_sent sent
  pub right : AreRight sent
  pub taken : b.taken ≡ steps_words steps

-- if the words taken begin the words released, the STOP was sent
pub stop_sent : (b : BlockTold) (steps : List LifeStep) (sent : List Sent) (count n : ℕ) → SentSo b steps sent → b.taken ≡ take n b.released → StoppedAt count steps → IsStopSent count steps sent
stop_sent b steps sent count n h first stopped =
    let begins : steps_words steps ≡ take n (words_sent sent) = sym h.taken ∙ first ∙ ap (take n) h.released in
    let at = sent_at (told_in steps) sent n begins (stop_number steps) 4 count (stop_told count steps stopped) in
    record {
      released = at.one.released;
      is_sent = at.is_there ∙ (λ i. Some (record { code = at.code_is i; argument = at.argument_is i; released = at.one.released }));
      is_released = sym at.argument_is ∙ right_at sent (stop_number steps) at.one h.right at.is_there at.code_is;
    }
