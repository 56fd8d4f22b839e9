use Rattle.std.proofs.Common.{◌≡◌, ℕ, Bool, ◌==◌, ◌&&◌, ◌||◌, sym, ap, ◌∙◌, arith}
use Rattle.af_judge.proofs.Common.{carries, list_any, range_with_len, slot_of}
use Rattle.af_judge.proofs.Ranges.{any_more}
use Rattle.af_judge.proofs.SlotsIn.{any_end}
use Rattle.af_judge.proofs.fast_judge.carries_track.Goals as goal

pub loop-slot-preserved : goal.loop-slot-preserved
loop-slot-preserved c =
    let p : ℕ → Bool = λ i. carries c.args.state.now i && ((slot_of c.args.state.now i).track == c.args.track) in
    c.either-found.ensures ∙ ((λ j. c.loop-slot.invariant j || c.carries_in.ensures j) ∙ sym (any_more p c.loop-slot.slot))

pub returns : goal.returns
returns c =
    let p : ℕ → Bool = λ i. carries c.args.state.now i && ((slot_of c.args.state.now i).track == c.args.track) in
    let used = c.slots_in-slot-end.result in
    let all : c.loop-slot.slot ≡ used = omega arith in
    c.loop-slot.invariant ∙ (ap (λ n. list_any p (range_with_len 0 n)) all ∙ sym (any_end c.args.state.now c.args.track used c.slots_in-slot-end.ensures.few c.slots_in-slot-end.ensures.rest))
