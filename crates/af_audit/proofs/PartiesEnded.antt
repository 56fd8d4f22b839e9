-- Which party has ended, by what is kept and in the run.
use Rattle.std.proofs.Common.{◌≡◌, ℕ, zero, suc, ◌+◌, ◌<◌, ◌==◌, ◌&&◌, nat_lt, Bool, true, false, true≢false, if◌then◌else◌, List, length, Option, Some, None, arith, refl, sym, ap, subst, ◌∙◌}
use Rattle.af_audit.proofs.Common.{Client, KeepsTracks, Marks, Run, Session, TrackJudge, all_ended, fast_ended, fast_party, has_ended, is_none, is_some, list_all, nat_tests, never_true, normal_party, not, range_with_len, told_at}
use Rattle.std.proofs.lemmas.List as lists
use Rattle.af_audit.specs.declared.run_judge.RunJudge.{RunJudge}
use Rattle.af_audit.specs.RunKept.{LeastBelow, client_ended, party_ended}
use Rattle.af_audit.proofs.LeastOnes.{least_same}
use Rattle.af_audit.proofs.OneVerdict.{each_ended}
use Rattle.af_audit.proofs.TrackThere.{track_there}

-- all numbers of a range pass, if each does
range_all : (P : ℕ → Bool) (from count : ℕ) → ((i : ℕ) → i < count → P (from + i) ≡ true) → list_all P (range_with_len from count) ≡ true
range_all P from zero each = refl
range_all P from (suc count) each = both-true (P from) (list_all P (range_with_len (from + 1) count))
    (subst (λ n. P n ≡ true) (let e : from + 0 ≡ from = omega arith in e) (each 0 (let x : 0 < suc count = omega arith in x)))
    (range_all P (from + 1) count (λ i lt. subst (λ n. P n ≡ true) (let e : from + suc i ≡ (from + 1) + i = omega arith in e) (each (suc i) (omega (arith, lt)))))
  where
    both-true : (a b : Bool) → a ≡ true → b ≡ true → (a && b) ≡ true
    both-true true b h k = k
    both-true false b h k = h

-- a bit says whether none is found, if its opposite says whether one is
pub none_of : (o : Option ℕ) (b : Bool) → is_some o ≡ not b → b ≡ is_none o
none_of None true h = refl
none_of None false h = absurd (true≢false (sym h))
none_of (Some x) true h = absurd (true≢false h)
none_of (Some x) false h = refl

module _ (s : Session) (marks : Marks) (j : RunJudge) (tracks : List TrackJudge) (run : Run) (keeps : KeepsTracks s marks (λ i. Unit {0}) tracks run) (normal : j.normal.plain.kept.ended ≡ run.normal.ended) (fast : j.fast.ended ≡ fast_ended run) where
  -- a client has ended as in the run
  client-same : (p : ℕ) → p < length tracks → client_ended tracks p ≡ (told_at run p).client.ended
  client-same p lt =
      let one = track_there tracks p lt in
      lists.get_or-map (λ (t : TrackJudge). t.client.client.ended) tracks p one.0 true lt ∙ (ap (λ (t : TrackJudge). t.client.client.ended) (sym one.1.1) ∙ ap (λ (c : Client). c.ended) (keeps.whole p one.0 one.1 tt).client.client)

  -- each party has ended as in the run
  party-same : (p : ℕ) → party_ended j tracks p ≡ has_ended s run p
  party-same p = by_case (nat_lt p (length tracks)) refl
    where
      by_case : (b : Bool) → nat_lt p (length tracks) ≡ b → party_ended j tracks p ≡ has_ended s run p
      by_case true is =
          let lt : p < length tracks = grind (arith, nat_tests, is) in
          ap (λ (b : Bool). if b then client_ended tracks p else if p == length tracks then j.normal.plain.kept.ended else j.fast.ended) is
          ∙ (client-same p lt ∙ sym (ap (λ (b : Bool). if b then (told_at run p).client.ended else if p == normal_party s then run.normal.ended else fast_ended run) (ap (nat_lt p) (sym keeps.all) ∙ is)))
      by_case false is =
          ap (λ (b : Bool). if b then client_ended tracks p else if p == length tracks then j.normal.plain.kept.ended else j.fast.ended) is
          ∙ ((λ i. if p == keeps.all i then normal i else fast i)
          ∙ sym (ap (λ (b : Bool). if b then (told_at run p).client.ended else if p == normal_party s then run.normal.ended else fast_ended run) (ap (nat_lt p) (sym keeps.all) ∙ is)))

  -- the least party that hasn't ended
  pub going_least : (found : Option ℕ) → LeastBelow (λ p. party_ended j tracks p ≡ true) (length tracks + 2) found → LeastBelow (λ p. has_ended s run p ≡ true) (fast_party s + 1) found
  going_least found least =
      let bound : length tracks + 2 ≡ fast_party s + 1 = (let all = keeps.all in omega (arith, all)) in
      subst (λ (n : ℕ). LeastBelow (λ p. has_ended s run p ≡ true) n found) bound
      (least_same (λ p. party_ended j tracks p ≡ true) (λ p. has_ended s run p ≡ true) (length tracks + 2) found (λ p lt h. sym (party-same p) ∙ h) (λ p lt h. party-same p ∙ h) least)

  -- all have ended, if none is found that goes on
  pub none_going : LeastBelow (λ p. party_ended j tracks p ≡ true) (length tracks + 2) None → all_ended s run ≡ true
  none_going least = range_all (has_ended s run) 0 (fast_party s + 1) (λ i lt. subst (λ (k : ℕ). has_ended s run k ≡ true) (let e : i ≡ 0 + i = omega arith in e) (going_least None least i lt))

  -- all have ended exactly if none is found that goes on
  pub all_is : (found : Option ℕ) → LeastBelow (λ p. party_ended j tracks p ≡ true) (length tracks + 2) found → all_ended s run ≡ is_none found
  all_is None least = none_going least
  all_is (Some party) least =
      let going = going_least (Some party) least in
      never_true (all_ended s run) (λ all. going.1 (each_ended s run party all (let a = going.0 in omega (arith, a))))
