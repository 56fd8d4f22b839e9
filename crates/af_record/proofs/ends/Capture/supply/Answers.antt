use Rattle.std.proofs.Common.{◌≡◌, ℕ, ◌+◌, ◌-◌, List, ◌++◌, length, take, map, ap, ◌∙◌, arith, length-append, length-take-le}
use Rattle.af_record.proofs.Common.{Frame, length-map, packed_word}
use Rattle.af_record.specs.Ends.{CaptureState}
use Rattle.af_record.proofs.Histories.{came_more}
use Rattle.af_record.proofs.ends.Capture.supply.Goals as goal

pub invariant_of-self : goal.invariant_of-self
invariant_of-self g c =
    let k = c.self.invariant in
    let e = c.put_all-put.ensures in
    let frames : List Frame = c.args.frames.now in
    let put : ℕ = c.put_all-put.result in
    let more : length c.put_all-put.new.client.pass.part.frames ≡ length c.self.inside.client.pass.part.frames + length (map packed_word (take put frames)) =
    ap length e.put ∙ length-append c.self.inside.client.pass.part.frames (map packed_word (take put frames)) in
    let many : length (map packed_word (take put frames)) ≡ put = length-map (take put frames) packed_word ∙ length-take-le put frames e.few in
    let a = k.supplied_is in
    let b = k.released_is in
    let d = e.released in
    let few = e.few in
    record { in_order = e.order; writes = e.writes; released_is = omega arith; supplied_is = omega arith }

pub returns-clause-history : goal.returns-clause-history
returns-clause-history g c = λ ss came.
    let frames : List Frame = c.args.frames.now in
    let put : ℕ = c.put_all-put.result in
    let sum : put + (length frames - put) ≡ length frames = (let a = c.put_all-put.ensures.few in omega arith) in
    came_more ss c.args.self.now (record { pass = c.put_all-put.new.client.pass; supplied = c.self.inside.supplied + length frames; overrun = c.self.inside.lost + (length frames - put) }) frames put (length frames - put) sum
    (c.put_all-put.ensures.put ∙ ap (λ (x : CaptureState). x.pass.part.frames ++ map packed_word (take put frames)) c.self.view_is)
    (ap (λ (x : CaptureState). x.supplied + length frames) c.self.view_is)
    (ap (λ (x : CaptureState). x.overrun + (length frames - put)) c.self.view_is)
    came
