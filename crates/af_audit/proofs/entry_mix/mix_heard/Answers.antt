use Rattle.std.proofs.Common.{◌≡◌, ℕ, suc, ◌+◌, ◌-◌, ◌≤◌, ◌++◌, List, [], length, map, take, All, refl, sym, ap, subst, ◌∙◌, append-nil, arith}
use Rattle.af_audit.proofs.Common.{Part, Take, grown, mix, slots, take_of}
use Rattle.af_audit.specs.HeardTakes.{heard_takes}
use Rattle.af_audit.proofs.HeardMix.{mix_all, one_then, parts_fit}
use Rattle.af_audit.proofs.entry_mix.mix_heard.Goals as goal

pub loop-slot-preserved : goal.loop-slot-preserved
loop-slot-preserved c =
    let i : ℕ = c.loop-slot.slot in
    let n : ℕ = slots - (i + 1) in
    let here : List Take = map take_of (take c.loop-slot.heard c.loop-slot.parts) in
    let left : suc n ≡ slots - i = omega arith in
    let then = one_then c.args.frames.now c.args.entry.now i n ∙ ap (heard_takes c.args.frames.now c.args.entry.now i) left in
    record {
      few = c.add_heard-heard.ensures.few;
      takes = grown here (heard_takes c.args.frames.now c.args.entry.now i 1) (heard_takes c.args.frames.now c.args.entry.now (i + 1) n) (map take_of (take c.add_heard-heard.result c.add_heard-heard.new.parts)) (heard_takes c.args.frames.now c.args.entry.now i (slots - i)) (sym c.add_heard-heard.ensures.takes) then
          ∙ c.loop-slot.invariant.takes;
    }

-- the takes that are heard are all there are, once all slots were looked at
all_are : (takes all : List Take) (rest : ℕ → List Take) (i : ℕ) → i ≡ slots → rest slots ≡ [] → takes ++ rest i ≡ all → takes ≡ all
all_are takes all rest i last none are = sym (append-nil takes) ∙ ap (λ (ts : List Take). takes ++ ts) (sym none ∙ ap rest (sym last)) ∙ are

pub mix-requires-clause-fits : goal.mix-requires-clause-fits
mix-requires-clause-fits c =
    let heard : List Part = take c.loop-slot.heard c.loop-slot.parts in
    let are = all_are (map take_of heard) (heard_takes c.args.frames.now c.args.entry.now 0 slots) (λ k. heard_takes c.args.frames.now c.args.entry.now k (slots - k)) c.loop-slot.slot (omega arith) refl c.loop-slot.invariant.takes in
    subst (λ (n : ℕ). All (λ (part : Part). (length part.frames.now ≤ n) × (part.scale ≤ 4096)) heard) (sym c.requires.lengths) (parts_fit c.args.frames.now c.args.entry.now (length c.args.out.now) c.requires.within c.requires.scaled heard are)

pub returns : goal.returns
returns c =
    let heard : List Part = take c.loop-slot.heard c.loop-slot.parts in
    let are = all_are (map take_of heard) (heard_takes c.args.frames.now c.args.entry.now 0 slots) (λ k. heard_takes c.args.frames.now c.args.entry.now k (slots - k)) c.loop-slot.slot (omega arith) refl c.loop-slot.invariant.takes in
    c.mix.ensures ∙ ap (λ (ts : List Take). mix ts (length c.args.out.now)) are ∙ mix_all c.args.frames.now c.args.entry.now (length c.args.out.now)
