-- If the Mets of a list rise, all name at least what the first one names.
use Rattle.std.proofs.Common.{◌≡◌, ℕ, zero, suc, List, [], ◌∷◌, drop, Bool, true, false, ◌&&◌, nat_le, refl, arith}
use Rattle.af_merges.proofs.Common.{HandEvent, and_parts, both_true, nat_tests}
use Rattle.af_base.specs.declared.event.HandEvent.TheVariants as hand
use Rattle.af_merges.specs.MergePieces.{names_at_least}
use Rattle.af_merges.specs.Rising.{rises_from, first_names}

lower : (a b c : ℕ) → nat_le a b ≡ true → nat_le b c ≡ true → nat_le a c ≡ true
lower a b c p q = grind (arith, nat_tests)

names-rising : (hs : List HandEvent) (n low : ℕ) → nat_le n low ≡ true → rises_from low hs ≡ true → names_at_least n hs ≡ true
names-rising [] n low p r = refl
names-rising (hand.SetFlags bits ∷ hs) n low p r = names-rising hs n low p r
names-rising (hand.Met known ∷ hs) n low p r =
    let both = and_parts (nat_le low known) (rises_from known hs) r in
    let here = lower n low known p both.0 in
    both_true (nat_le n known) (names_at_least n hs) here (names-rising hs n known here both.1)

and_first : (a b : Bool) → (a ≡ true → b ≡ true) → (a && b) ≡ a
and_first true b h = h refl
and_first false b h = refl

pub names-first : (hs : List HandEvent) (n low : ℕ) → rises_from low hs ≡ true → names_at_least n hs ≡ first_names n hs
names-first [] n low r = refl
names-first (hand.SetFlags bits ∷ hs) n low r = names-first hs n low r
names-first (hand.Met known ∷ hs) n low r =
    let both = and_parts (nat_le low known) (rises_from known hs) r in
    and_first (nat_le n known) (names_at_least n hs) (λ p. names-rising hs n known p both.1)

rises-lower : (hs : List HandEvent) (low high : ℕ) → nat_le low high ≡ true → rises_from high hs ≡ true → rises_from low hs ≡ true
rises-lower [] low high p r = refl
rises-lower (hand.SetFlags bits ∷ hs) low high p r = rises-lower hs low high p r
rises-lower (hand.Met known ∷ hs) low high p r =
    let both = and_parts (nat_le high known) (rises_from known hs) r in
    both_true (nat_le low known) (rises_from known hs) (lower low high known p both.0) both.1

zero_le : (n : ℕ) → nat_le 0 n ≡ true
zero_le n = grind (arith, nat_tests)

rises-tail : (h : HandEvent) (hs : List HandEvent) (low : ℕ) → rises_from low (h ∷ hs) ≡ true → rises_from 0 hs ≡ true
rises-tail (hand.SetFlags bits) hs low r = rises-lower hs 0 low (zero_le low) r
rises-tail (hand.Met known) hs low r = rises-lower hs 0 known (zero_le known) (and_parts (nat_le low known) (rises_from known hs) r).1

pub rises-drop : (hs : List HandEvent) (low d : ℕ) → rises_from low hs ≡ true → rises_from 0 (drop d hs) ≡ true
rises-drop hs low zero r = rises-lower hs 0 low (zero_le low) r
rises-drop [] low (suc d) r = refl
rises-drop (h ∷ hs) low (suc d) r = rises-drop hs 0 d (rises-tail h hs low r)
