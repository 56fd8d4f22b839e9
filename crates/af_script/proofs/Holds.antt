-- What holds of the values that steps find.
use Rattle.std.proofs.Common.{◌≡◌, ℕ, suc, ◌+◌, ◌≤◌, ◌&&◌, nat_le, ℤ, pos, negsuc, Bool, true, false, List, ◌∷◌, length, Option, Some, None, Result, Ok, Err, refl, ap, arith, if◌then◌else◌}
use Rattle.af_script.proofs.Common.{All, All-cons, All-nil, Data, IfSome, Items, Members, after_first, as_integer, before_first, digits_value, item, nat_tests, no_items, ok_or, option_and_then, option_map}
use Rattle.std.specs.Prelude.{◌==◌}
use Rattle.af_script.specs.Text.{within, is_number, number_within, after_text, number_after, pair_within, pair_after}
use Rattle.af_script.specs.Tree.{value_at, count_of}
use Rattle.af_script.specs.Results.{◌>>=◌}
use Rattle.af_script.specs.Reading.{in_range_if, number_in, default_if_none, number_or, each_in}
use Rattle.af_script.specs.declared.fault.ScriptFault.{ScriptFault}
use Rattle.af_script.specs.declared.fault.ScriptFault.TheVariants as fault
use Rattle.af_script.specs.declared.fault.KeyId.{KeyId}

-- a fact about the value, if one was found
abbrev pub Holds : {X : Type 0} → (X → Type 0) → Result X ScriptFault → Type 0
Holds P (Ok x) = P x
Holds P (Err found) = Unit {0}

pub then_holds : {X Y : Type 0} (P : X → Type 0) (Q : Y → Type 0) (r : Result X ScriptFault) (next : X → Result Y ScriptFault) → Holds P r → ((x : X) → P x → Holds Q (next x)) → Holds Q (r >>= next)
then_holds P Q (Ok x) next holds later = later x holds
then_holds P Q (Err found) next holds later = tt

pub test_holds : {Y : Type 0} (Q : Y → Type 0) (test : Bool) (r : Result Y ScriptFault) (found : ScriptFault) → (test ≡ true → Holds Q r) → Holds Q (if test then r else Err found)
test_holds Q true r found holds = holds refl
test_holds Q false r found holds = tt

pub some_holds : {X : Type 0} (P : X → Type 0) (o : Option X) (found : ScriptFault) → IfSome o P → Holds P (ok_or o found)
some_holds P None found holds = tt
some_holds P (Some x) found holds = holds

-- a number in a range
abbrev pub IsIn : ℕ → ℕ → ℕ → Type 0
IsIn low high n = (low ≤ n) × (n ≤ high)

is_in : (low high n : ℕ) → (nat_le low n && nat_le n high) ≡ true → IsIn low high n
is_in low high n e = (grind (arith, nat_tests), grind (arith, nat_tests))

number-holds : (t : ℕ) (id : KeyId) (low high : ℕ) (o : Option ℤ) → Holds (IsIn low high) (in_range_if t id low high o)
number-holds t id low high None = tt
number-holds t id low high (Some (pos n)) = test_holds (IsIn low high) (nat_le low n && nat_le n high) (Ok n) (fault.Range t id (pos n)) (is_in low high n)
number-holds t id low high (Some (negsuc n)) = tt

pub number_in-holds : (t : ℕ) (id : KeyId) (low high : ℕ) (tree : Members) → Holds (IsIn low high) (number_in t id low high tree)
number_in-holds t id low high tree = number-holds t id low high (option_and_then as_integer (value_at id tree))

default-holds : (high default : ℕ) (o : Option Data) (r : Result ℕ ScriptFault) → default ≤ high → Holds (IsIn 0 high) r → Holds (λ n. n ≤ high) (default_if_none default o r)
default-holds high default None r fits holds = fits
default-holds high default (Some d) (Ok n) fits holds = holds.1
default-holds high default (Some d) (Err found) fits holds = tt

pub number_or-holds : (t : ℕ) (id : KeyId) (high default : ℕ) (tree : Members) → default ≤ high → Holds (λ n. n ≤ high) (number_or t id high default tree)
number_or-holds t id high default tree fits =
    default-holds high default (value_at id tree) (number_in t id 0 high tree) fits (number_in-holds t id 0 high tree)

-- each item that was read
pub each-holds : {X : Type 0} (P : X → Type 0) (read : ℕ → Data → Result X ScriptFault) → ((i : ℕ) (d : Data) → Holds P (read i d)) → (i : ℕ) (items : Items) → Holds (All P) (each_in read i items)
each-holds P read holds i no_items = All-nil P
each-holds P read holds i (item d rest) =
    then_holds P (All P) (read i d) (λ x. each_in read (i + 1) rest >>= (λ xs. Ok (x ∷ xs))) (holds i d)
    (λ x here. then_holds (All P) (All P) (each_in read (i + 1) rest) (λ xs. Ok (x ∷ xs)) (each-holds P read holds (i + 1) rest) (λ xs later. All-cons P x xs here later))

pub each-length : {X : Type 0} (read : ℕ → Data → Result X ScriptFault) (i : ℕ) (items : Items) → Holds (λ (xs : List X). length xs ≡ count_of items) (each_in read i items)
each-length read i no_items = refl
each-length {X} read i (item d rest) =
    then_holds (λ (x : X). Unit {0}) (λ (xs : List X). length xs ≡ suc (count_of rest)) (read i d) (λ x. each_in read (i + 1) rest >>= (λ xs. Ok (x ∷ xs))) (any (read i d))
    (λ x here. then_holds (λ (xs : List X). length xs ≡ count_of rest) (λ (xs : List X). length xs ≡ suc (count_of rest)) (each_in read (i + 1) rest) (λ xs. Ok (x ∷ xs)) (each-length read (i + 1) rest) (λ xs len. ap suc len))
  where
    any : {X : Type 0} (r : Result X ScriptFault) → Holds (λ (x : X). Unit {0}) r
    any (Ok x) = tt
    any (Err found) = tt

-- numbers of ops and turns

within-holds : (low high n : ℕ) (test : Bool) → (nat_le low n && nat_le n high) ≡ test → IfSome (if test then Some n else None) (IsIn low high)
within-holds low high n true e = is_in low high n e
within-holds low high n false e = tt

number_test : (test : Bool) (low high : ℕ) (o : Option ℕ) → ((n : ℕ) → IfSome (within low high n) (IsIn low high)) → IfSome (if test then option_and_then (within low high) o else None) (IsIn low high)
number_test true low high None holds = tt
number_test true low high (Some n) holds = holds n
number_test false low high o holds = tt

pub number_within-holds : (low high : ℕ) (text : List ℕ) → IfSome (number_within low high text) (IsIn low high)
number_within-holds low high text =
    number_test (is_number text) low high (Some (digits_value 10 text)) (λ n. within-holds low high n (nat_le low n && nat_le n high) refl)

pub and_then-holds : {X Y : Type 0} (P : Y → Type 0) (o : Option X) (f : X → Option Y) → ((x : X) → IfSome (f x) P) → IfSome (option_and_then f o) P
and_then-holds P None f holds = tt
and_then-holds P (Some x) f holds = holds x

pub map-holds : {X Y : Type 0} (P : X → Type 0) (Q : Y → Type 0) (o : Option X) (f : X → Y) → IfSome o P → ((x : X) → P x → Q (f x)) → IfSome (option_map f o) Q
map-holds P Q None f holds later = tt
map-holds P Q (Some x) f holds later = later x holds

pub number_after-holds : (word : List ℕ) (low high : ℕ) (text : List ℕ) → IfSome (number_after word low high text) (IsIn low high)
number_after-holds word low high text = and_then-holds (IsIn low high) (after_text word text) (number_within low high) (number_within-holds low high)

abbrev pub AreIn : ℕ → ℕ → ℕ × ℕ → Type 0
AreIn first second pair = (pair.0 ≤ first) × (pair.1 ≤ second)

pair-holds : (first second : ℕ) (a b : Option ℕ) → IfSome a (IsIn 0 first) → IfSome b (IsIn 0 second) → IfSome (option_and_then (λ left. option_map (λ right. (left, right)) b) a) (AreIn first second)
pair-holds first second None b ha hb = tt
pair-holds first second (Some left) None ha hb = tt
pair-holds first second (Some left) (Some right) ha hb = (ha.1, hb.1)

pub pair_after-holds : (word : List ℕ) (first second : ℕ) (text : List ℕ) → IfSome (pair_after word first second text) (AreIn first second)
pair_after-holds word first second text =
    and_then-holds (AreIn first second) (after_text word text) (pair_within first second)
    (λ rest. pair-holds first second (number_within 0 first (before_first (λ c. c == 32) rest)) (number_within 0 second (after_first (λ c. c == 32) rest))
    (number_within-holds 0 first (before_first (λ c. c == 32) rest)) (number_within-holds 0 second (after_first (λ c. c == 32) rest)))
