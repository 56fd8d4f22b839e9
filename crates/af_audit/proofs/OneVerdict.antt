-- There is no second right verdict on a journal and its PCM.
use Rattle.std.specs.Prelude.{◌≡◌, ◌⊎◌, ◌+◌, ◌<◌, ◌≤◌, ◌∷◌}
use Rattle.std.proofs.Common.{arith, subst, sym, ap, ◌∙◌, inl, inr}
use Rattle.af_audit.proofs.Common.{Bool, Frame, JournalData, List, Marks, RoundSeen, Run, ScriptData, Session, [], after_round, all_ended, both_first, both_right, false, fast_party, has_ended, journal_pcm, list_all, marks_of, new_run, range_with_len, refl, session_of, slice_get, suc, take, true, zero, ℕ}
use Rattle.af_audit.specs.declared.verdict.Verdict.TheVariants.{Legal, Refused}
use Rattle.af_audit.specs.declared.verdict.Refusal.TheVariants as refused
use Rattle.af_audit.proofs.Words.{OneVerdict}
use Rattle.af_audit.specs.Verdicts.{AllClear, IsClear, IsFirstFault, IsLeastWithout, FirstDiffer}

-- two numbers, of which neither is less
order_of : (m n : ℕ) → (m < n) ⊎ ((n < m) ⊎ (m ≡ n))
order_of m n = grind arith

-- there is one least number without a property
one_least : (Holds : ℕ → Type 0) (last p q : ℕ) → IsLeastWithout Holds last p → IsLeastWithout Holds last q → p ≡ q
one_least Holds last p q a b = elim (order_of p q) [ inl less ↦ absurd (a.fails (b.least p less)) | inr other ↦ elim other [ inl more ↦ absurd (b.fails (a.least q more)) | inr same ↦ same ] ]

-- each number of a range passes, if all do
passes : (P : ℕ → Bool) (from count i : ℕ) → list_all P (range_with_len from count) ≡ true → i < count → P (from + i) ≡ true
passes P from zero i h low = absurd (omega (arith, low))
passes P from (suc count) zero h low = subst (λ n. P n ≡ true) (omega arith) (both_first (P from) _ h)
passes P from (suc count) (suc i) h low = subst (λ n. P n ≡ true) (omega arith) (passes P (from + 1) count i (both_right (P from) _ h) (omega (arith, low)))

-- if all parties have ended, each of them has
pub each_ended : (s : Session) (run : Run) (party : ℕ) → all_ended s run ≡ true → party ≤ fast_party s → has_ended s run party ≡ true
each_ended s run party h low = subst (λ n. has_ended s run n ≡ true) (omega arith) (passes (has_ended s run) 0 (fast_party s + 1) party h (omega (arith, low)))

-- if no party has a fault, there is no first one
clear-no_fault : (s : Session) (marks : Marks) (run : Run) (rounds : List RoundSeen) (number party : ℕ) → AllClear s marks run rounds → IsFirstFault false s marks run rounds number party → ⊥
clear-no_fault s marks run [] number party clear fault = fault.1.fails (each_ended s run party clear fault.1.is_party)
clear-no_fault s marks run (round ∷ rounds) zero party clear fault = fault.fails (clear.0 party fault.is_party)
clear-no_fault s marks run (round ∷ rounds) (suc number) party clear fault = clear-no_fault s marks (after_round s run round) rounds number party clear.1 fault.1

-- there is one first fault
one_fault : (s : Session) (marks : Marks) (run : Run) (rounds : List RoundSeen) (m n p q : ℕ) → IsFirstFault false s marks run rounds m p → IsFirstFault false s marks run rounds n q → (m ≡ n) × (p ≡ q)
one_fault s marks run [] m n p q a b = (a.0 ∙ sym b.0, one_least (λ p. has_ended s run p ≡ true) (fast_party s) p q a.1 b.1)
one_fault s marks run (round ∷ rounds) zero zero p q a b = (refl, one_least (IsClear false s marks run round) (fast_party s) p q a b)
one_fault s marks run (round ∷ rounds) zero (suc n) p q a b = absurd (a.fails (b.0 p a.is_party))
one_fault s marks run (round ∷ rounds) (suc m) zero p q a b = absurd (b.fails (a.0 q b.is_party))
one_fault s marks run (round ∷ rounds) (suc m) (suc n) p q a b = let same = one_fault s marks (after_round s run round) rounds m n p q a.1 b.1 in (ap (λ k. suc k) same.0, same.1)

before : (xs : List ℕ) (at i : ℕ) → i < at → slice_get (take at xs) i ≡ slice_get xs i
before xs zero i low = absurd (omega (arith, low))
before [] (suc at) i low = refl
before (x ∷ xs) (suc at) zero low = refl
before (x ∷ xs) (suc at) (suc i) low = before xs at i (omega (arith, low))

-- lists that are the same up to a place are the same before it
same-before : (a b : List ℕ) (at i : ℕ) → take at a ≡ take at b → i < at → slice_get a i ≡ slice_get b i
same-before a b at i same low = sym (before a at i low) ∙ (ap (λ xs. slice_get xs i) same ∙ before b at i low)

-- there is one first place at which two lists differ
one_place : (a b : List ℕ) (m n : ℕ) → FirstDiffer a b m → FirstDiffer a b n → m ≡ n
one_place a b m n x y = elim (order_of m n) [ inl less ↦ absurd (x.differ (same-before a b n m y.same less)) | inr other ↦ elim other [ inl more ↦ absurd (y.differ (same-before a b m n x.same more)) | inr same ↦ same ] ]

-- a list doesn't differ from itself
no_place : (a b : List ℕ) (n : ℕ) → b ≡ a → FirstDiffer a b n → ⊥
no_place a b n same x = x.differ (ap (λ xs. slice_get xs n) (sym same))

pub one_verdict : (script : ScriptData) (files : List (List Frame)) (j : JournalData) (pcm : List ℕ) → OneVerdict script files j pcm
one_verdict script files j pcm Legal Legal a b = refl
one_verdict script files j pcm Legal (Refused (refused.Text line)) a b = absurd b
one_verdict script files j pcm Legal (Refused (refused.Round round party)) a b = absurd (clear-no_fault _ _ _ j.rounds round party a.0 b)
one_verdict script files j pcm Legal (Refused (refused.Pcm at)) a b = absurd (no_place (journal_pcm script.frames j) pcm at a.1 b.1)
one_verdict script files j pcm (Refused (refused.Text line)) v a b = absurd a
one_verdict script files j pcm (Refused (refused.Round round party)) Legal a b = absurd (clear-no_fault _ _ _ j.rounds round party b.0 a)
one_verdict script files j pcm (Refused (refused.Round round party)) (Refused (refused.Text line)) a b = absurd b
one_verdict script files j pcm (Refused (refused.Round round party)) (Refused (refused.Round number other)) a b =
    let s = session_of script files in
    let same = one_fault s (marks_of j.rounds) (new_run s) j.rounds round number party other a b in
    ap (λ n. Refused (refused.Round n party)) same.0 ∙ ap (λ p. Refused (refused.Round number p)) same.1
one_verdict script files j pcm (Refused (refused.Round round party)) (Refused (refused.Pcm at)) a b = absurd (clear-no_fault _ _ _ j.rounds round party b.0 a)
one_verdict script files j pcm (Refused (refused.Pcm at)) Legal a b = absurd (no_place (journal_pcm script.frames j) pcm at b.1 a.1)
one_verdict script files j pcm (Refused (refused.Pcm at)) (Refused (refused.Text line)) a b = absurd b
one_verdict script files j pcm (Refused (refused.Pcm at)) (Refused (refused.Round round party)) a b = absurd (clear-no_fault _ _ _ j.rounds round party a.0 b)
one_verdict script files j pcm (Refused (refused.Pcm at)) (Refused (refused.Pcm place)) a b = ap (λ n. Refused (refused.Pcm n)) (one_place (journal_pcm script.frames j) pcm at place a.1 b.1)
