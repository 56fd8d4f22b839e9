use Rattle.std.proofs.Common.{◌≡◌, ℕ, ◌≤◌, List, ◌++◌, length, take, map, ap, ◌∙◌, arith, length-take-le}
use Rattle.af_record.proofs.Common.{Frame, length-map, packed_word}
use Rattle.af_record.specs.Ends.{CaptureState, ListenerState}
use Rattle.af_record.proofs.Exact.{count_exact, read_exact}
use Rattle.af_record.proofs.in_hand.read_met.Goals as goal

pub returns-clause-count : goal.returns-clause-count
returns-clause-count g c =
    count_exact c.args.block.now c.args.capture.now c.args.listener.now c.requires.step c.meet_record.new.from c.read-count.new.self c.meet_record.new.to (length c.args.into.now) c.read-count.result c.read-count.ensures.count
    (ap (λ (x : CaptureState). x.pass.part) c.meet_record.ensures.from) (ap (λ (x : ListenerState). x.pass.part) c.meet_record.ensures.to)
    c.meet_record.ensures.order c.meet_record.ensures.calm.unflushed c.meet_record.ensures.rears c.meet_record.ensures.fronts

pub returns-clause-frames : goal.returns-clause-frames
returns-clause-frames g c =
    let into : List Frame = c.read-count.new.into in
    let count : ℕ = c.read-count.result in
    let words : List ℕ = map packed_word (take count into) in
    let few : count ≤ length into = (let a = c.read-count.ensures.few in let b = c.read-count.auto.into in omega arith) in
    let many : length words ≡ count = length-map (take count into) packed_word ∙ length-take-le count into few in
    read_exact c.args.block.now c.args.capture.now c.args.listener.now c.requires.step c.meet_record.new.from c.read-count.new.self c.meet_record.new.to count words c.read-count.ensures.frames many
    (ap (λ (x : CaptureState). x.pass.part) c.meet_record.ensures.from) (ap (λ (x : ListenerState). x.pass.part) c.meet_record.ensures.to)
    c.meet_record.ensures.order

pub returns-clause-read : goal.returns-clause-read
returns-clause-read g c =
    let into : List Frame = c.read-count.new.into in
    let count : ℕ = c.read-count.result in
    let words : List ℕ = map packed_word (take count into) in
    let few : count ≤ length into = (let a = c.read-count.ensures.few in let b = c.read-count.auto.into in omega arith) in
    let many : length words ≡ count = length-map (take count into) packed_word ∙ length-take-le count into few in
    ap (λ (x : ListenerState). x.pass.part.frames) c.meet_record.ensures.to
    ∙ c.read-count.ensures.frames
    ∙ ap (λ (x : List ℕ). c.args.listener.now.pass.part.frames ++ x)
    (read_exact c.args.block.now c.args.capture.now c.args.listener.now c.requires.step c.meet_record.new.from c.read-count.new.self c.meet_record.new.to count words c.read-count.ensures.frames many
    (ap (λ (x : CaptureState). x.pass.part) c.meet_record.ensures.from) (ap (λ (x : ListenerState). x.pass.part) c.meet_record.ensures.to)
    c.meet_record.ensures.order)
