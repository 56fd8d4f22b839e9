use Rattle.std.proofs.Common.{◌≡◌, ℕ, suc, ◌+◌, ◌-◌, ◌++◌, List, [], map, take, sym, ap, ◌∙◌, append-nil, arith}
use Rattle.af_fast.proofs.Common.{Take, grown, take_of}
use Rattle.af_fast.specs.Heard.{heard_takes}
use Rattle.af_fast.proofs.HeardMix.{one_then}
use Rattle.af_fast.proofs.heard.add_all.Goals as goal

pub loop-slot-init : goal.loop-slot-init
loop-slot-init c = record {
  few = omega arith;
  takes = ap (heard_takes c.args.frames.now c.args.entry.now 0) (let e : c.args.used - 0 ≡ c.args.used = omega arith in e);
}

pub loop-slot-preserved : goal.loop-slot-preserved
loop-slot-preserved c =
    let i : ℕ = c.loop-slot.slot in
    let n : ℕ = c.args.used - (i + 1) in
    let here : List Take = map take_of (take c.loop-slot.heard c.loop-slot.parts) in
    let left : suc n ≡ c.args.used - i = omega arith in
    let then = one_then c.args.frames.now c.args.entry.now i n ∙ ap (heard_takes c.args.frames.now c.args.entry.now i) left in
    record {
      few = c.add_heard-heard.ensures.few;
      takes = grown here (heard_takes c.args.frames.now c.args.entry.now i 1) (heard_takes c.args.frames.now c.args.entry.now (i + 1) n) (map take_of (take c.add_heard-heard.result c.add_heard-heard.new.parts)) (heard_takes c.args.frames.now c.args.entry.now i (c.args.used - i)) (sym c.add_heard-heard.ensures.takes) then
          ∙ c.loop-slot.invariant.takes;
    }

-- the takes that are heard are all there are, once nothing is left
all_are : (takes rest all : List Take) → rest ≡ [] → takes ++ rest ≡ all → takes ≡ all
all_are takes rest all none are = sym (append-nil takes) ∙ ap (λ (ts : List Take). takes ++ ts) (sym none) ∙ are

pub returns-clause-takes : goal.returns-clause-takes
returns-clause-takes c =
    let left : c.args.used - c.loop-slot.slot ≡ 0 = omega arith in
    all_are (map take_of (take c.loop-slot.heard c.loop-slot.parts)) (heard_takes c.args.frames.now c.args.entry.now c.loop-slot.slot (c.args.used - c.loop-slot.slot)) (heard_takes c.args.frames.now c.args.entry.now 0 c.args.used)
    (ap (heard_takes c.args.frames.now c.args.entry.now c.loop-slot.slot) left) c.loop-slot.invariant.takes
