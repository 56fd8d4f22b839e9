use Rattle.std.proofs.Common.{◌≡◌, ◌+◌, ℕ, List, subst, sym, arith}
use Rattle.std.specs.List.{flat_map, range_with_len}
use Rattle.af_base.specs.Log.{slots}
use Rattle.af_tally.specs.Summaries.{Look, slot_looks, looks_by}
use Rattle.af_tally.specs.Tallies.{Notes}
use Rattle.af_tally.proofs.Tallying.{notes_more, one_slot_more}
use Rattle.af_tally.proofs.tally.Tally.note_slots.Goals as goal

pub loop-slot-preserved : goal.loop-slot-preserved
loop-slot-preserved c =
    let k = c.loop-slot.slot in
    let old = c.args.self.now in
    let entry = c.args.entry.now in
    let state = c.args.state.now in
    subst (λ (looks : List Look). Notes (k + 1) looks old c.note_slot.new.self) (sym (one_slot_more entry state k))
    (notes_more k 1 (flat_map (slot_looks entry state) (range_with_len 0 k)) (slot_looks entry state k) old c.loop-slot.self c.note_slot.new.self c.loop-slot.invariant c.note_slot.ensures)

pub returns : goal.returns
unfolding looks_by
returns c =
    let all : c.loop-slot.slot ≡ slots = omega arith in
    subst (λ (n : ℕ). Notes n (flat_map (slot_looks c.args.entry.now c.args.state.now) (range_with_len 0 n)) c.args.self.now c.loop-slot.self) all c.loop-slot.invariant
