use Rattle.std.proofs.Common.{◌≡◌, ℕ, List, ◌++◌, length, min, take, drop, ap, ap₂, sym, ◌∙◌, arith}
use Rattle.af_offline.proofs.Common.{HandState, flat_map}
use Rattle.af_offline.specs.Captured.{word_bytes}
use Rattle.af_offline.proofs.Taped.{read_bytes, take_least, drop_least}
use Rattle.af_offline.proofs.capture.read_once.Goals as goal

-- a read of fewer frames than there are places takes all that is queued
least : (count places queued : ℕ) → count ≡ min places queued → count ≡ min queued places
least count places queued is = omega arith

pub returns-clause-hand : goal.returns-clause-hand
returns-clause-hand c =
    let hand = c.args.hand.now in
    let places : ℕ = length c.args.places.now in
    let is = least c.read-count.result places (length hand.queued) c.read-count.ensures.count in
    c.read-count.ensures.state
    ∙ ap₂ (λ (x y : List ℕ). record { size = hand.size; queued = x; read = hand.read ++ y; supplied = hand.supplied })
    (ap (λ (n : ℕ). drop n hand.queued) is ∙ drop_least places hand.queued)
    (ap (λ (n : ℕ). take n hand.queued) is ∙ take_least places hand.queued)

pub returns-clause-bytes : goal.returns-clause-bytes
returns-clause-bytes c = λ had.
    c.in_ok-bytes_of.ensures.ok
    ∙ read_bytes c.args.bytes.now.items c.args.hand.now.read c.args.hand.now.queued c.read-count.new.into c.read-count.result had c.read-count.ensures.frames
    ∙ ap (λ (h : HandState). flat_map word_bytes h.read) (sym c.read-count.ensures.state)
