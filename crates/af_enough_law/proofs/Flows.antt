-- How many rounds the ops of a track take at most, in numbers.
use Rattle.std.proofs.Common.{◌≡◌, ℕ, ◌+◌, ◌*◌, ◌≤◌, List, [], ◌∷◌, arith}
use Rattle.af_enough_law.proofs.Common.{Op, div_ceil, div_ceil_times, op_cost, sum_by, sum_by-cons}
use Rattle.af_script.specs.declared.op.Op.TheVariants as op
use Rattle.af_enough_law.proofs.Playing.{IsWay, way_ops, way_frames}

-- the most rounds that an op takes
abbrev pub op_rounds : ℕ → Op → ℕ
op_rounds q (op.Write count) = 1 + 2 * div_ceil count q
op_rounds q (op.Gain left right) = 1
op_rounds q op.Stop = 1
op_rounds q _ = 0

abbrev pub way_rounds : ℕ → List Op → ℕ
way_rounds q [] = 0
way_rounds q (o ∷ ops) = op_rounds q o + way_rounds q ops

pub portions : (count q : ℕ) → 1 ≤ q → count ≤ q * div_ceil count q
portions count q some = let bounds = div_ceil_times count q (omega arith) in let turned : div_ceil count q * q ≡ q * div_ceil count q = search arith in omega (arith, bounds.0, turned)

-- what is left of a track's ops takes so many rounds
pub way_within : (q gains : ℕ) (ops : List Op) → 1 ≤ q → IsWay gains ops → 2 * way_frames ops + q * way_ops ops ≤ q * way_rounds q ops
way_within q gains (op.Gain left right ∷ ops) some way =
    let rest = way_within q (gains + 1) ops some way.1 in
    let a : q * way_ops (op.Gain left right ∷ ops) ≡ q + q * way_ops ops = search arith in
    let b : q * way_rounds q (op.Gain left right ∷ ops) ≡ q + q * way_rounds q ops = search arith in
    omega (arith, rest, a, b)
way_within q gains (op.Write count ∷ ops) some way =
    let rest = way_within q 0 ops some way.1 in
    let frames = portions count q some in
    let a : q * way_ops (op.Write count ∷ ops) ≡ q + q * way_ops ops = search arith in
    let b : q * way_rounds q (op.Write count ∷ ops) ≡ q + 2 * (q * div_ceil count q) + q * way_rounds q ops = search arith in
    omega (arith, rest, frames, a, b)
way_within q gains (op.Stop ∷ op.Drain ∷ op.Remove ∷ []) some way = omega arith
way_within q gains _ some way = absurd way

-- the cost of the ops is more than that
pub way_costs : (q gains : ℕ) (ops : List Op) → IsWay gains ops → way_rounds q ops + 23 ≤ sum_by (op_cost q) ops
way_costs q gains (op.Gain left right ∷ ops) way = let rest = way_costs q (gains + 1) ops way.1 in let cost = sum_by-cons (op_cost q) (op.Gain left right) ops in omega arith
way_costs q gains (op.Write count ∷ ops) way = let rest = way_costs q 0 ops way.1 in let cost = sum_by-cons (op_cost q) (op.Write count) ops in omega arith
way_costs q gains (op.Stop ∷ op.Drain ∷ op.Remove ∷ []) way = omega arith
way_costs q gains _ way = absurd way
