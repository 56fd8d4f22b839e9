use Rattle.std.proofs.Common.{◌≡◌, ℕ, List, length, take, map, ap, ◌∙◌, arith, length-take-le}
use Rattle.af_record.proofs.Common.{Frame, Made, length-map, packed_word}
use Rattle.af_record.specs.Ends.{CaptureState, ListenerState}
use Rattle.af_record.proofs.Exact.{put_exact}
use Rattle.af_record.proofs.in_hand.supply_met.Goals as goal

pub returns-clause-put : goal.returns-clause-put
returns-clause-put g c =
    let frames : List Frame = c.args.frames.now in
    let put : ℕ = c.supply-supplied.result.put in
    let sum = c.supply-supplied.ensures.sum in
    let words : List ℕ = map packed_word (take put frames) in
    let many : length words ≡ put = length-map (take put frames) packed_word ∙ length-take-le put frames (omega arith) in
    put_exact c.args.block.now c.args.capture.now c.args.listener.now c.requires.step c.supply-supplied.new.self c.meet_record.new.from c.meet_record.new.to (length frames) put c.supply-supplied.result.lost words
    c.supply-supplied.ensures.looked c.supply-supplied.ensures.put many sum c.supply-supplied.ensures.stopped.0 (ap (λ (m : Made). m.shape.frames) c.supply-supplied.ensures.made)
    (ap (λ (x : CaptureState). x.pass.part) c.meet_record.ensures.from) (ap (λ (x : ListenerState). x.pass.part) c.meet_record.ensures.to)
    c.meet_record.ensures.order c.meet_record.ensures.calm.alive c.meet_record.ensures.rooms
