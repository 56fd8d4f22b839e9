-- The ops of a track as they are written: each may stand where it is, and the reader adds the `remove` that is left out.
use Rattle.std.proofs.Common.{◌≡◌, ◌⊎◌, inl, inr, ℕ, zero, suc, ◌+◌, ◌<◌, ◌≤◌, ◌==◌, not, Bool, true, false, List, [], ◌∷◌, ◌++◌, length, take, refl, sym, ap, ◌∙◌, subst, arith}
use Rattle.af_script.proofs.Common.{cases_lt, length-take-le, nat_tests, positive_not_zero, take_all}
use Rattle.af_script.specs.Bounds.{most_ops}
use Rattle.af_script.specs.Ops.{may_stand, is_remove, ends_with_remove, closed, end_with_remove, are_whole}
use Rattle.af_script.specs.Printing.{written_ops}
use Rattle.af_script.specs.declared.op.Op.{Op}
use Rattle.af_script.specs.declared.op.Op.TheVariants.{OpenTrack, Start, Pause, Stop, Flush, Drain, Remove, Yield, Gain, Write, Poke}

-- an op that may stand at any place but the first
record Other (op : Op) : Type 0 where
  stands : (first last : Bool) → may_stand first last op ≡ not first
  goes : (rest : List Op) → end_with_remove (op ∷ rest) ≡ end_with_remove rest
  keeps : is_remove op ≡ false

abbrev Kinds : Op → Type 0
Kinds op = (op ≡ OpenTrack) ⊎ ((op ≡ Remove) ⊎ Other op)

kinds : (op : Op) → Kinds op
kinds OpenTrack = inl refl
kinds Remove = inr (inl refl)
kinds Start = inr (inr (record { stands = λ first last. refl; goes = λ rest. refl; keeps = refl }))
kinds Pause = inr (inr (record { stands = λ first last. refl; goes = λ rest. refl; keeps = refl }))
kinds Stop = inr (inr (record { stands = λ first last. refl; goes = λ rest. refl; keeps = refl }))
kinds Flush = inr (inr (record { stands = λ first last. refl; goes = λ rest. refl; keeps = refl }))
kinds Drain = inr (inr (record { stands = λ first last. refl; goes = λ rest. refl; keeps = refl }))
kinds Yield = inr (inr (record { stands = λ first last. refl; goes = λ rest. refl; keeps = refl }))
kinds (Gain l r) = inr (inr (record { stands = λ first last. refl; goes = λ rest. refl; keeps = refl }))
kinds (Write n) = inr (inr (record { stands = λ first last. refl; goes = λ rest. refl; keeps = refl }))
kinds (Poke b w v) = inr (inr (record { stands = λ first last. refl; goes = λ rest. refl; keeps = refl }))

-- each op from an index on may stand where it is
abbrev pub StandFrom : ℕ → ℕ → List Op → Type 0
StandFrom count i [] = Unit {0}
StandFrom count i (op ∷ ops) = (may_stand (i == 0) (i + 1 == count) op ≡ true) × StandFrom count (i + 1) ops

same : (i count : ℕ) → i + 1 ≡ count → (i + 1 == count) ≡ true
same i count e = grind (arith, nat_tests)

-- a list that ends with its only `remove`
whole-stand : (count i : ℕ) (ops : List Op) → 0 < i → i + length ops ≡ count → end_with_remove ops ≡ true → StandFrom count i ops
whole-stand count i [] some len ends = tt
whole-stand count i (op ∷ ops) some len ends = by op ops len ends (kinds op) (λ more. whole-stand count (i + 1) ops (omega arith) (omega arith) more)
  where
    by : (op : Op) (ops : List Op) → i + length (op ∷ ops) ≡ count → end_with_remove (op ∷ ops) ≡ true → Kinds op → (end_with_remove ops ≡ true → StandFrom count (i + 1) ops) → StandFrom count i (op ∷ ops)
    by op ops len ends (inl e) next = absurd (let wrong : false ≡ true = subst (λ (o : Op). end_with_remove (o ∷ ops) ≡ true) e ends in cc)
    by op [] len ends (inr (inl e)) next =
        let f : may_stand (i == 0) (i + 1 == count) Remove ≡ true = rw (positive_not_zero i some, same i count (omega arith)) refl in
        (subst (λ (o : Op). may_stand (i == 0) (i + 1 == count) o ≡ true) (sym e) f, tt)
    by op (o ∷ ops) len ends (inr (inl e)) next = absurd (let wrong : false ≡ true = subst (λ (p : Op). end_with_remove (p ∷ o ∷ ops) ≡ true) e ends in cc)
    by op ops len ends (inr (inr k)) next =
        (k.stands (i == 0) (i + 1 == count) ∙ ap not (positive_not_zero i some), next (sym (k.goes ops) ∙ ends))

-- all but the last of such a list
front-stand : (count i k : ℕ) (ops : List Op) → 0 < i → length ops ≡ suc k → end_with_remove ops ≡ true → StandFrom count i (take k ops)
front-stand count i zero ops some len ends = tt
front-stand count i (suc k) [] some len ends = tt
front-stand count i (suc k) (op ∷ ops) some len ends = by op ops len ends (kinds op) (λ more. front-stand count (i + 1) k ops (omega arith) (omega arith) more)
  where
    by : (op : Op) (ops : List Op) → length (op ∷ ops) ≡ suc (suc k) → end_with_remove (op ∷ ops) ≡ true → Kinds op → (end_with_remove ops ≡ true → StandFrom count (i + 1) (take k ops)) → StandFrom count i (op ∷ take k ops)
    by op ops len ends (inl e) next = absurd (let wrong : false ≡ true = subst (λ (o : Op). end_with_remove (o ∷ ops) ≡ true) e ends in cc)
    by op [] len ends (inr (inl e)) next = absurd (omega arith)
    by op (o ∷ ops) len ends (inr (inl e)) next = absurd (let wrong : false ≡ true = subst (λ (p : Op). end_with_remove (p ∷ o ∷ ops) ≡ true) e ends in cc)
    by op ops len ends (inr (inr k')) next =
        (k'.stands (i == 0) (i + 1 == count) ∙ ap not (positive_not_zero i some), next (sym (k'.goes ops) ∙ ends))

record Cut (ops front : List Op) : Type 0 where
  back : front ++ Remove ∷ [] ≡ ops
  open_end : ends_with_remove front ≡ false

last_is : (op : Op) → end_with_remove (op ∷ []) ≡ true → Kinds op → Remove ∷ [] ≡ op ∷ []
last_is op ends (inl e) = absurd (let wrong : false ≡ true = subst (λ (o : Op). end_with_remove (o ∷ []) ≡ true) e ends in cc)
last_is op ends (inr (inl e)) = ap (λ o. o ∷ []) (sym e)
last_is op ends (inr (inr k)) = absurd (let wrong : false ≡ true = sym (k.goes []) ∙ ends in cc)

longer : (op : Op) (front : List Op) → is_remove op ≡ false → ends_with_remove front ≡ false → ends_with_remove (op ∷ front) ≡ false
longer op [] other open_end = other
longer op (o ∷ front) other open_end = open_end

front-cut : (k : ℕ) (ops : List Op) → length ops ≡ suc k → end_with_remove ops ≡ true → Cut ops (take k ops)
front-cut k [] len ends = absurd (omega arith)
front-cut zero (op ∷ []) len ends = record { back = last_is op ends (kinds op); open_end = refl }
front-cut zero (op ∷ o ∷ ops) len ends = absurd (omega arith)
front-cut (suc k) (op ∷ ops) len ends = by op ops len ends (kinds op) (λ more. front-cut k ops (omega arith) more)
  where
    by : (op : Op) (ops : List Op) → length (op ∷ ops) ≡ suc (suc k) → end_with_remove (op ∷ ops) ≡ true → Kinds op → (end_with_remove ops ≡ true → Cut ops (take k ops)) → Cut (op ∷ ops) (op ∷ take k ops)
    by op ops len ends (inl e) next = absurd (let wrong : false ≡ true = subst (λ (o : Op). end_with_remove (o ∷ ops) ≡ true) e ends in cc)
    by op [] len ends (inr (inl e)) next = absurd (omega arith)
    by op (o ∷ ops) len ends (inr (inl e)) next = absurd (let wrong : false ≡ true = subst (λ (p : Op). end_with_remove (p ∷ o ∷ ops) ≡ true) e ends in cc)
    by op ops len ends (inr (inr k')) next =
        let cut = next (sym (k'.goes ops) ∙ ends) in
        record { back = ap (λ os. op ∷ os) cut.back; open_end = longer op (take k ops) k'.keeps cut.open_end }

-- such a list is closed
whole-ends : (ops : List Op) → end_with_remove ops ≡ true → ends_with_remove ops ≡ true
whole-ends [] ends = ends
whole-ends (op ∷ []) ends = ap ends_with_remove (sym (last_is op ends (kinds op)))
whole-ends (op ∷ o ∷ ops) ends = by (kinds op) (λ more. whole-ends (o ∷ ops) more)
  where
    by : Kinds op → (end_with_remove (o ∷ ops) ≡ true → ends_with_remove (o ∷ ops) ≡ true) → ends_with_remove (o ∷ ops) ≡ true
    by (inl e) next = absurd (let wrong : false ≡ true = subst (λ (p : Op). end_with_remove (p ∷ o ∷ ops) ≡ true) e ends in cc)
    by (inr (inl e)) next = absurd (let wrong : false ≡ true = subst (λ (p : Op). end_with_remove (p ∷ o ∷ ops) ≡ true) e ends in cc)
    by (inr (inr k)) next = next (sym (k.goes (o ∷ ops)) ∙ ends)

-- ## What is written

pub record Stands (ops written : List Op) : Type 0 where
  pub some : 0 < length written
  pub few : length written ≤ most_ops
  pub stand : StandFrom (length written) 0 written
  pub closes : closed written ≡ ops

ends-after : (op : Op) (ops : List Op) → end_with_remove ops ≡ true → ends_with_remove (op ∷ ops) ≡ true
ends-after op [] ends = absurd (let wrong : false ≡ true = ends in cc)
ends-after op (o ∷ ops) ends = whole-ends (o ∷ ops) ends

short : (ops : List Op) → length (OpenTrack ∷ ops) ≤ most_ops → end_with_remove ops ≡ true → Stands (OpenTrack ∷ ops) (OpenTrack ∷ ops)
short ops few ends = record {
  some = omega arith;
  few = few;
  stand = (refl, whole-stand (length (OpenTrack ∷ ops)) 1 ops (omega arith) (omega arith) ends);
  closes = let e : ends_with_remove (OpenTrack ∷ ops) ≡ true = ends-after OpenTrack ops ends in rw e refl;
}

long : (ops : List Op) → length ops ≡ most_ops → end_with_remove ops ≡ true → Stands (OpenTrack ∷ ops) (OpenTrack ∷ take 4095 ops)
long ops len ends =
    let cut = front-cut 4095 ops (omega arith) ends in
    let count : length (take 4095 ops) ≡ 4095 = length-take-le 4095 ops (omega arith) in
    record {
      some = omega arith;
      few = omega arith;
      stand = (refl, front-stand (length (OpenTrack ∷ take 4095 ops)) 1 4095 ops (omega arith) (omega arith) ends);
      closes = let e : ends_with_remove (OpenTrack ∷ take 4095 ops) ≡ false = longer OpenTrack (take 4095 ops) refl cut.open_end in rw e (ap (λ os. OpenTrack ∷ os) cut.back);
    }

opened : (ops : List Op) → length (OpenTrack ∷ ops) ≤ most_ops + 1 → end_with_remove ops ≡ true → Stands (OpenTrack ∷ ops) (written_ops (OpenTrack ∷ ops))
opened ops few ends =
    elim (cases_lt most_ops (length (OpenTrack ∷ ops))) [
      | inl more ↦ long ops (omega arith) ends
      | inr fits ↦ subst (Stands (OpenTrack ∷ ops)) (sym (take_all most_ops (OpenTrack ∷ ops) fits)) (short ops fits ends)
    ]

-- the ops that are written are those of the track, but maybe its `remove`
pub ops-stand : (ops : List Op) → are_whole ops ≡ true → length ops ≤ most_ops + 1 → Stands ops (written_ops ops)
ops-stand [] whole few = absurd (let wrong : false ≡ true = whole in cc)
ops-stand (OpenTrack ∷ ops) whole few = opened ops few whole
ops-stand (Start ∷ ops) whole few = absurd (let wrong : false ≡ true = whole in cc)
ops-stand (Pause ∷ ops) whole few = absurd (let wrong : false ≡ true = whole in cc)
ops-stand (Stop ∷ ops) whole few = absurd (let wrong : false ≡ true = whole in cc)
ops-stand (Flush ∷ ops) whole few = absurd (let wrong : false ≡ true = whole in cc)
ops-stand (Drain ∷ ops) whole few = absurd (let wrong : false ≡ true = whole in cc)
ops-stand (Remove ∷ ops) whole few = absurd (let wrong : false ≡ true = whole in cc)
ops-stand (Yield ∷ ops) whole few = absurd (let wrong : false ≡ true = whole in cc)
ops-stand (Gain l r ∷ ops) whole few = absurd (let wrong : false ≡ true = whole in cc)
ops-stand (Write n ∷ ops) whole few = absurd (let wrong : false ≡ true = whole in cc)
ops-stand (Poke b w v ∷ ops) whole few = absurd (let wrong : false ≡ true = whole in cc)
