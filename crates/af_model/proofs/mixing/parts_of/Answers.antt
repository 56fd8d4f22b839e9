use Rattle.std.proofs.Common.{◌≡◌, ℕ, map, length, List, slice_index_or, slice_set, replicate, refl, sym, ap, subst, ◌∙◌, length-set, arith}
use Rattle.af_model.proofs.Common.{Take, fill_by_all, length-map, map-set, no_part, slot_take, slots, take_of}
use Rattle.std.proofs.lemmas.List.Edits.{fill_by_more}
use Rattle.af_base.specs.declared.plain.Part.{Part}
use Rattle.af_model.proofs.mixing.parts_of.Goals as goal

pub loop-slot-init : goal.loop-slot-init
loop-slot-init c = record {
  whole = refl;
  each = λ k lt.
      let first : k ≡ 0 = omega arith in
      subst (λ (i : ℕ). slice_index_or (replicate slots (take_of c.slot_part-parts.result)) i (take_of no_part) ≡ slot_take c.args.frames.now c.args.entry.now i) (sym first) c.slot_part-parts.ensures;
}

pub loop-slot-preserved : goal.loop-slot-preserved
loop-slot-preserved c =
    let slot : ℕ = c.loop-slot.slot in
    let parts : List Part = c.loop-slot.parts in
    let takes : List Take = map take_of parts in
    let long : length takes ≡ slots = length-map parts take_of ∙ c.loop-slot.invariant.whole in
    let more : map take_of (slice_set parts slot c.slot_part.result) ≡ slice_set takes slot (slot_take c.args.frames.now c.args.entry.now slot) =
    map-set take_of parts slot c.slot_part.result ∙ ap (slice_set takes slot) c.slot_part.ensures in
    record {
      whole = length-set parts slot c.slot_part.result ∙ c.loop-slot.invariant.whole;
      each = λ k lt.
          ap (λ (l : List Take). slice_index_or l k (take_of no_part)) more
          ∙ fill_by_more (slot_take c.args.frames.now c.args.entry.now) takes slot (take_of no_part) (omega (arith, long)) c.loop-slot.invariant.each k lt;
    }

pub returns : goal.returns
returns c =
    fill_by_all (slot_take c.args.frames.now c.args.entry.now) (map take_of c.loop-slot.parts) slots (take_of no_part)
    (length-map c.loop-slot.parts take_of ∙ c.loop-slot.invariant.whole)
    (λ k inside. c.loop-slot.invariant.each k (omega arith))
