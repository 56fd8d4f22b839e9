-- The grammar and the steps say the same of all bytes.
use Rattle.std.proofs.Common.{◌≡◌, ◌↔◌, inl, inr, ℕ, List, [], ◌∷◌, ◌++◌, Option, Some, None, Result, Ok, Err, refl, sym, ap, ◌∙◌}
use Rattle.af_script.proofs.Common.{All, All-cons, All-head, All-nil, All-tail, Members, ok_or}
use Rattle.af_script.specs.Ops.{or_else}
use Rattle.af_script.specs.Tree.{tree_of}
use Rattle.af_script.specs.Data.{ScriptData}
use Rattle.af_script.specs.Results.{◌>>=◌, Reads}
use Rattle.af_script.specs.Reading.{script_in, script_of}
use Rattle.af_script.specs.Meaning.{script_meant}
use Rattle.af_script.specs.Places.{Place, fault_at, places}
use Rattle.af_script.specs.Grammar.{HasNoFault, IsFirstFault, IsAccepted, IsRefused, FollowsGrammar}
use Rattle.af_script.specs.declared.fault.ScriptFault.{ScriptFault}
use Rattle.af_script.specs.declared.fault.ScriptFault.TheVariants as fault
use Rattle.af_script.specs.declared.fault.ReadError.{ReadError}
use Rattle.af_script.specs.declared.fault.ReadError.TheVariants.{Fault, Memory}
use Rattle.af_script.proofs.First.{first_of, judged}
use Rattle.af_script.proofs.Scripts.{script_in-tied}

-- one place more at the front
one_more : (p : Place) (ps : List Place) (found : ScriptFault) → fault_at p ≡ None → IsFirstFault ps found → IsFirstFault (p ∷ ps) found
one_more p ps found none first = record {
  before = p ∷ first.before;
  place = first.place;
  after = first.after;
  order = ap (λ qs. p ∷ qs) first.order;
  none_before = All-cons HasNoFault p first.before none first.none_before;
  here = first.here;
}

first-by : (p : Place) (ps : List Place) (found : ScriptFault) (o : Option ScriptFault) → fault_at p ≡ o → or_else o (first_of ps) ≡ Some found → (first_of ps ≡ Some found → IsFirstFault ps found) → IsFirstFault (p ∷ ps) found
first-by p ps found None is e later = one_more p ps found is (later e)
first-by p ps found (Some here) is e later = record { before = []; place = p; after = ps; order = refl; none_before = All-nil HasNoFault; here = is ∙ e }

first-found : (ps : List Place) (found : ScriptFault) → first_of ps ≡ Some found → IsFirstFault ps found
first-found [] found e = absurd (cc)
first-found (p ∷ ps) found e = first-by p ps found (fault_at p) refl e (first-found ps found)

none-by : (p : Place) (ps : List Place) (o : Option ScriptFault) → fault_at p ≡ o → or_else o (first_of ps) ≡ None → (first_of ps ≡ None → All HasNoFault ps) → All HasNoFault (p ∷ ps)
none-by p ps None is e later = All-cons HasNoFault p ps is (later e)
none-by p ps (Some here) is e later = absurd (cc)

none-found : (ps : List Place) → first_of ps ≡ None → All HasNoFault ps
none-found [] e = All-nil HasNoFault
none-found (p ∷ ps) e = none-by p ps (fault_at p) refl e (none-found ps)

none_of : (ps : List Place) → All HasNoFault ps → first_of ps ≡ None
none_of [] all = refl
none_of (p ∷ ps) all = rw (All-head HasNoFault p ps all) (none_of ps (All-tail HasNoFault p ps all))

first_before : (before : List Place) (p : Place) (rest : List Place) (found : ScriptFault) → All HasNoFault before → fault_at p ≡ Some found → first_of (before ++ p ∷ rest) ≡ Some found
first_before [] p rest found all here = rw here refl
first_before (q ∷ before) p rest found all here = rw (All-head HasNoFault q before all) (first_before before p rest found (All-tail HasNoFault q before all) here)

first-is : (ps : List Place) (found : ScriptFault) → IsFirstFault ps found → first_of ps ≡ Some found
first-is ps found first = ap first_of first.order ∙ first_before first.before first.place first.after found first.none_before first.here

-- an answer, by the faults of a tree

judged-Ok : {X : Type 0} (p : Option ScriptFault) (x y : X) → judged p x ≡ Ok y → (p ≡ None) × (y ≡ x)
judged-Ok None x y e = (refl, (cc))
judged-Ok (Some found) x y e = absurd (cc)

judged-Err : {X : Type 0} (p : Option ScriptFault) (x : X) (found : ScriptFault) → judged p x ≡ Err found → p ≡ Some found
judged-Err None x found e = absurd (cc)
judged-Err (Some here) x found e = (cc)

tree_ok : (bytes : List ℕ) (t : Option Members) (s : ScriptData) → tree_of bytes ≡ t → (ok_or t fault.Toml >>= script_in) ≡ Ok s → IsAccepted bytes s
tree_ok bytes None s is e = absurd (cc)
tree_ok bytes (Some tree) s is e =
    let (none, same) = judged-Ok (first_of (places tree)) (script_meant tree) s (sym (script_in-tied tree) ∙ e) in
    record { tree = tree; document = is; no_fault = none-found (places tree) none; meaning = same }

tree_err : (bytes : List ℕ) (t : Option Members) (found : ScriptFault) → tree_of bytes ≡ t → (ok_or t fault.Toml >>= script_in) ≡ Err found → IsRefused bytes found
tree_err bytes None found is e = inl (record { none = is; toml = (cc) })
tree_err bytes (Some tree) found is e =
    inr (record { tree = tree; document = is; first = first-found (places tree) found (judged-Err (first_of (places tree)) (script_meant tree) found (sym (script_in-tied tree) ∙ e)) })

in_tree : (bytes : List ℕ) (tree : Members) → tree_of bytes ≡ Some tree → script_of bytes ≡ judged (first_of (places tree)) (script_meant tree)
in_tree bytes tree is = ap (λ t. ok_or t fault.Toml >>= script_in) is ∙ script_in-tied tree

accepted_is : (bytes : List ℕ) (s : ScriptData) → IsAccepted bytes s → script_of bytes ≡ Ok s
accepted_is bytes s a =
    in_tree bytes a.tree a.document
    ∙ ap (λ p. judged p (script_meant a.tree)) (none_of (places a.tree) a.no_fault)
    ∙ ap Ok (sym a.meaning)

refused_is : (bytes : List ℕ) (found : ScriptFault) → IsRefused bytes found → script_of bytes ≡ Err found
refused_is bytes found (inl r) = ap (λ t. ok_or t fault.Toml >>= script_in) r.none ∙ ap Err (sym r.toml)
refused_is bytes found (inr r) =
    in_tree bytes r.tree r.document ∙ ap (λ p. judged p (script_meant r.tree)) (first-is (places r.tree) found r.first)

-- the script is the answer exactly if the bytes are accepted, and a fault exactly if it is the first
pub accepted : (bytes : List ℕ) (s : ScriptData) → (script_of bytes ≡ Ok s) ↔ IsAccepted bytes s
accepted bytes s = (tree_ok bytes (tree_of bytes) s refl, accepted_is bytes s)

pub refused : (bytes : List ℕ) (found : ScriptFault) → (script_of bytes ≡ Err found) ↔ IsRefused bytes found
refused bytes found = (tree_err bytes (tree_of bytes) found refl, refused_is bytes found)

pub follows : (bytes : List ℕ) (r : Result ScriptData ReadError) → Reads (λ s. s) r (script_of bytes) → FollowsGrammar bytes r
follows bytes (Ok s) reads = tree_ok bytes (tree_of bytes) s refl reads
follows bytes (Err (Fault found)) reads = tree_err bytes (tree_of bytes) found refl reads
follows bytes (Err Memory) reads = tt
