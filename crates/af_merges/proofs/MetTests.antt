-- Whether each Met is kept after one step more, from where each is kept.
use Rattle.std.proofs.Common.{◌≡◌, ℕ, zero, suc, ◌+◌, ◌-◌, ◌<◌, ◌≤◌, List, [], ◌∷◌, length, drop, Bool, true, false, ◌&&◌, ◌||◌, nat_le, refl, ap, ◌∙◌, arith}
use Rattle.af_merges.proofs.Common.{HandEvent, and_parts, nat_tests, slice_get}
use Rattle.af_base.specs.declared.event.HandEvent.TheVariants as hand
use Rattle.af_merges.specs.Stages.{keeps_event, keeps_mets, known_by, event_before}
use Rattle.af_merges.specs.MergePieces.{names_at_least, knows_no_more}

front_met : (known place i k : ℕ) → place ≤ k → ((nat_le k (place + 1) || nat_le known i) && (nat_le i known || nat_le place k)) ≡ true
    → ((nat_le k (place + 1) || nat_le known (i + 1)) && (nat_le (i + 1) known || nat_le place k)) ≡ true
front_met known place i k h e = grind (arith, nat_tests)

back_met : (known place i k : ℕ) → k < place
    → ((nat_le k (place + 1) || nat_le known (i + 1)) && (nat_le (i + 1) known || nat_le place k)) ≡ nat_le (i + 1) known
back_met known place i k h = grind (arith, nat_tests)

-- past the next event of the hand only the Mets count
back : (hs : List HandEvent) (place i k : ℕ) → k < place → keeps_mets hs place (i + 1) k ≡ names_at_least (i + 1) hs
back [] place i k h = refl
back (hand.SetFlags bits ∷ hs) place i k h = back hs (place + 1) i k (omega arith)
back (hand.Met known ∷ hs) place i k h =
    let a = back_met known place i k h in
    let b = back hs (place + 1) i k (omega arith) in
    λ j. a j && b j

-- one more client event
pub client-kept : (hs : List HandEvent) (place i k d : ℕ) → place + d ≡ k + 1 → keeps_mets hs place i k ≡ true
    → keeps_mets hs place (i + 1) k ≡ names_at_least (i + 1) (drop d hs)
client-kept hs place i k zero e kept = back hs place i k (omega arith)
client-kept [] place i k (suc d) e kept = refl
client-kept (hand.SetFlags bits ∷ hs) place i k (suc d) e kept = client-kept hs (place + 1) i k d (omega arith) kept
client-kept (hand.Met known ∷ hs) place i k (suc d) e kept =
    let both = and_parts (keeps_event (hand.Met known) place i k) (keeps_mets hs (place + 1) i k) kept in
    let a = front_met known place i k (omega arith) both.0 in
    let b = client-kept hs (place + 1) i k d (omega arith) both.1 in
    λ j. a j && b j

-- the next event of the hand
far_met : (known place i k : ℕ) → place + 1 < k → ((nat_le k (place + 1) || nat_le known i) && (nat_le i known || nat_le place k)) ≡ true
    → ((nat_le (k + 1) (place + 1) || nat_le known i) && (nat_le i known || nat_le place (k + 1))) ≡ true
far_met known place i k h e = grind (arith, nat_tests)

past_met : (known place i k : ℕ) → k ≤ place → ((nat_le k (place + 1) || nat_le known i) && (nat_le i known || nat_le place k)) ≡ true
    → ((nat_le (k + 1) (place + 1) || nat_le known i) && (nat_le i known || nat_le place (k + 1))) ≡ true
past_met known place i k h e = grind (arith, nat_tests)

pub past : (hs : List HandEvent) (place i k : ℕ) → k ≤ place → keeps_mets hs place i k ≡ true → keeps_mets hs place i (k + 1) ≡ true
past [] place i k h e = refl
past (hand.SetFlags bits ∷ hs) place i k h e = past hs (place + 1) i k (omega arith) e
past (hand.Met known ∷ hs) place i k h e =
    let both = and_parts (keeps_event (hand.Met known) place i k) (keeps_mets hs (place + 1) i k) e in
    let a = past_met known place i k h both.0 in
    let b = past hs (place + 1) i k (omega arith) both.1 in
    λ j. a j && b j

next_near : (known place i n : ℕ) → n ≡ place + 1 → ((nat_le n (place + 1) || nat_le known i) && (nat_le i known || nat_le place n)) ≡ true
    → ((nat_le (n + 1) (place + 1) || nat_le known i) && (nat_le i known || nat_le place (n + 1))) ≡ nat_le known i
next_near known place i n s e = grind (arith, nat_tests)

and_true_right : (a b : Bool) → b ≡ true → (a && b) ≡ a
and_true_right true b h = h
and_true_right false b h = refl

-- one more event of the hand
pub hand-kept : (hs : List HandEvent) (place i n k : ℕ) → n ≡ place + k → keeps_mets hs place i n ≡ true → keeps_mets hs place i (n + 1) ≡ known_by i (event_before hs k)
hand-kept hs place i n zero s e = past hs place i n (omega arith) e
hand-kept [] place i n (suc k) s e = refl
hand-kept (hand.SetFlags bits ∷ hs) place i n (suc zero) s e = past hs (place + 1) i n (omega arith) e
hand-kept (hand.Met known ∷ hs) place i n (suc zero) s e =
    let both = and_parts (keeps_event (hand.Met known) place i n) (keeps_mets hs (place + 1) i n) e in
    and_true_right (keeps_event (hand.Met known) place i (n + 1)) (keeps_mets hs (place + 1) i (n + 1)) (past hs (place + 1) i n (omega arith) both.1)
    ∙ next_near known place i n (omega arith) both.0
hand-kept (hand.SetFlags bits ∷ hs) place i n (suc (suc k)) s e = hand-kept hs (place + 1) i n (suc k) (omega arith) e
hand-kept (hand.Met known ∷ hs) place i n (suc (suc k)) s e =
    let both = and_parts (keeps_event (hand.Met known) place i n) (keeps_mets hs (place + 1) i n) e in
    let a = far_met known place i n (omega arith) both.0 in
    let b = hand-kept hs (place + 1) i n (suc k) (omega arith) both.1 in
    λ j. a j && b j

old_far : (known place i n : ℕ) → place + 1 < n → ((nat_le n (place + 1) || nat_le known i) && (nat_le i known || nat_le place n)) ≡ true → nat_le known i ≡ true
old_far known place i n h e = grind (arith, nat_tests)

-- if the hand's list is used up
pub knows-last : (hs : List HandEvent) (place i n k : ℕ) → length hs ≡ k → n ≡ place + k → keeps_mets hs place i n ≡ true → knows_no_more hs i ≡ known_by i (event_before hs k)
knows-last [] place i n zero l s e = refl
knows-last [] place i n (suc k) l s e = absurd (omega arith)
knows-last (h ∷ hs) place i n zero l s e = absurd (omega arith)
knows-last (hand.SetFlags bits ∷ []) place i n (suc zero) l s e = refl
knows-last (hand.Met known ∷ []) place i n (suc zero) l s e = and_true_right (nat_le known i) true refl
knows-last (h ∷ g ∷ hs) place i n (suc zero) l s e = absurd (omega arith)
knows-last (hand.SetFlags bits ∷ hs) place i n (suc (suc k)) l s e = knows-last hs (place + 1) i n (suc k) (omega arith) (omega arith) e
knows-last (hand.Met known ∷ hs) place i n (suc (suc k)) l s e =
    let both = and_parts (keeps_event (hand.Met known) place i n) (keeps_mets hs (place + 1) i n) e in
    let a = old_far known place i n (omega arith) both.0 in
    let b = knows-last hs (place + 1) i n (suc k) (omega arith) (omega arith) both.1 in
    λ j. a j && b j

pub before_is : (hs : List HandEvent) (k : ℕ) → 0 < k → event_before hs k ≡ slice_get hs (k - 1)
before_is hs zero h = absurd (omega arith)
before_is hs (suc k) h = ap (slice_get hs) (omega arith)

pub drop_past : {X : Type 0} (n : ℕ) (xs : List X) → length xs ≤ n → drop n xs ≡ []
drop_past zero [] h = refl
drop_past zero (x ∷ xs) h = absurd (omega arith)
drop_past (suc n) [] h = refl
drop_past (suc n) (x ∷ xs) h = drop_past n xs (omega arith)
