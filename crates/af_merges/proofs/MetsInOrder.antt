-- What the Mets of a list ask, and what has stood in an order.
use Rattle.std.proofs.Common.{◌≡◌, ℕ, ◌+◌, ◌≤◌, max, List, [], ◌∷◌, ◌++◌, length, true, ◌&&◌, ◌||◌, nat_le, refl, subst, arith}
use Rattle.af_merges.proofs.Common.{HandEvent, Moment, and_parts, both_true, by_client, by_hand, by_server, hand_of, is_within, max_le, met_by, met_in, nat_tests, within_is}
use Rattle.af_base.specs.declared.event.HandEvent.TheVariants as hand
use Rattle.af_merges.specs.Stages.{keeps_event, keeps_mets}
use Rattle.af_merges.specs.MergePieces.{names_at_least, knows_no_more}
use Rattle.af_merges.proofs.Mets.{keeps-append}
use Rattle.af_merges.proofs.MetTests.{past}
use Rattle.af_merges.proofs.Extends.{keeps-front, knows-front}

pub keeps-back : (a b : List HandEvent) (place i k : ℕ) → keeps_mets (a ++ b) place i k ≡ true → keeps_mets b (place + length a) i k ≡ true
keeps-back [] b place i k e = subst (λ n. keeps_mets b n i k ≡ true) (omega arith) e
keeps-back (h ∷ a) b place i k e =
    let both = and_parts (keeps_event h place i k) (keeps_mets (a ++ b) (place + 1) i k) e in
    subst (λ n. keeps_mets b n i k ≡ true) (omega arith) (keeps-back a b (place + 1) i k both.1)

pub met-stood : (known place i k : ℕ) → nat_le known i ≡ true → ((nat_le k (place + 1) || nat_le known i) && (nat_le i known || nat_le place k)) ≡ true
    → ((nat_le (k + 1) (place + 1) || nat_le known i) && (nat_le i known || nat_le place (k + 1))) ≡ true
met-stood known place i k h e = grind (arith, nat_tests)

-- what was met has stood, so one more event of the hand is kept
pub keeps-stood : (hs : List HandEvent) (place i k : ℕ) → knows_no_more hs i ≡ true → keeps_mets hs place i k ≡ true → keeps_mets hs place i (k + 1) ≡ true
keeps-stood [] place i k h e = refl
keeps-stood (hand.SetFlags bits ∷ hs) place i k h e = keeps-stood hs (place + 1) i k h e
keeps-stood (hand.Met known ∷ hs) place i k h e =
    let both = and_parts (keeps_event (hand.Met known) place i k) (keeps_mets hs (place + 1) i k) e in
    let know = and_parts (nat_le known i) (knows_no_more hs i) h in
    both_true _ (keeps_mets hs (place + 1) i (k + 1)) (met-stood known place i k know.0 both.0) (keeps-stood hs (place + 1) i k know.1 both.1)

-- one more event of the hand, if what was met before it has stood
pub hand-more : (a b : List HandEvent) (i : ℕ) → knows_no_more a i ≡ true → keeps_mets (a ++ b) 0 i (length a) ≡ true → keeps_mets (a ++ b) 0 i (length a + 1) ≡ true
hand-more a b i h e =
    keeps-append a b 0 i (length a + 1) (keeps-stood a 0 i (length a) h (keeps-front a b 0 i (length a) e))
    (past b (0 + length a) i (length a) (omega arith) (keeps-back a b 0 i (length a) e))

pub max_left : (a b i : ℕ) → max a b ≤ i → a ≤ i
max_left a b i h = omega arith

pub max_right : (a b i : ℕ) → max a b ≤ i → b ≤ i
max_right a b i h = omega arith

-- the last event beside the ones before it
pub knows-push : (hs : List HandEvent) (e : HandEvent) (i : ℕ) → knows_no_more hs i ≡ true → met_by e ≤ i → knows_no_more (hs ++ e ∷ []) i ≡ true
knows-push [] (hand.SetFlags bits) i h m = refl
knows-push [] (hand.Met known) i h m = both_true (nat_le known i) true (is_within known i m) refl
knows-push (hand.SetFlags bits ∷ hs) e i h m = knows-push hs e i h m
knows-push (hand.Met known ∷ hs) e i h m =
    let both = and_parts (nat_le known i) (knows_no_more hs i) h in
    both_true (nat_le known i) (knows_no_more (hs ++ e ∷ []) i) both.0 (knows-push hs e i both.1 m)

pub knows-end : (hs : List HandEvent) (e : HandEvent) (i : ℕ) → knows_no_more (hs ++ e ∷ []) i ≡ true → met_by e ≤ i
knows-end [] (hand.SetFlags bits) i h = omega arith
knows-end [] (hand.Met known) i h = within_is known i (and_parts (nat_le known i) true h).0
knows-end (hand.SetFlags bits ∷ hs) e i h = knows-end hs e i h
knows-end (hand.Met known ∷ hs) e i h = knows-end hs e i (and_parts (nat_le known i) (knows_no_more (hs ++ e ∷ []) i) h).1

pub knows-met : (order : List Moment) (i : ℕ) → met_in order ≤ i → knows_no_more (hand_of order) i ≡ true
knows-met [] i h = refl
knows-met (by_client e ∷ order) i h = knows-met order i h
knows-met (by_server e ∷ order) i h = knows-met order i h
knows-met (by_hand e ∷ order) i h =
    knows-push (hand_of order) e i (knows-met order i (max_right (met_by e) (met_in order) i h)) (max_left (met_by e) (met_in order) i h)

pub met-known : (order : List Moment) (i : ℕ) → knows_no_more (hand_of order) i ≡ true → met_in order ≤ i
met-known [] i h = omega arith
met-known (by_client e ∷ order) i h = met-known order i h
met-known (by_server e ∷ order) i h = met-known order i h
met-known (by_hand e ∷ order) i h =
    max_le (met_by e) (met_in order) i (knows-end (hand_of order) e i h) (met-known order i (knows-front (hand_of order) (e ∷ []) i h))

pub names-zero : (hs : List HandEvent) → names_at_least 0 hs ≡ true
names-zero [] = refl
names-zero (hand.SetFlags bits ∷ hs) = names-zero hs
names-zero (hand.Met known ∷ hs) = both_true (nat_le 0 known) (names_at_least 0 hs) (is_within 0 known (omega arith)) (names-zero hs)

pub names-fewer : (hs : List HandEvent) (i j : ℕ) → i ≤ j → names_at_least j hs ≡ true → names_at_least i hs ≡ true
names-fewer [] i j h e = refl
names-fewer (hand.SetFlags bits ∷ hs) i j h e = names-fewer hs i j h e
names-fewer (hand.Met known ∷ hs) i j h e =
    let both = and_parts (nat_le j known) (names_at_least j hs) e in
    let low : i ≤ known = let b = within_is j known both.0 in omega arith in
    both_true (nat_le i known) (names_at_least i hs) (is_within i known low) (names-fewer hs i j h both.1)
