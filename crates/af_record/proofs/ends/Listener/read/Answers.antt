use Rattle.std.proofs.Common.{◌≡◌, ℕ, ◌+◌, ◌≤◌, List, length, take, map, ◌++◌, ap, ◌∙◌, arith, length-take-le}
use Rattle.af_record.proofs.Common.{Frame, length-map, packed_word}
use Rattle.af_record.specs.Ends.{ListenerState}
use Rattle.af_record.proofs.Histories.{read_on}
use Rattle.af_record.proofs.ends.Listener.read.Goals as goal

pub returns-clause-history : goal.returns-clause-history
returns-clause-history g c = λ rs read.
    let e = c.take_shown-count.ensures in
    let into : List Frame = c.take_shown-count.new.into in
    let count : ℕ = c.take_shown-count.result in
    let words : List ℕ = map packed_word (take count into) in
    let few : count ≤ length into = (let a = e.count.1 in let b = c.take_shown-count.auto.into in omega arith) in
    let many : length words ≡ count = length-map (take count into) packed_word ∙ length-take-le count into few in
    let frames : c.take_shown-count.new.server.pass.part.frames ≡ c.args.self.now.pass.part.frames ++ words =
    e.frames ∙ ap (λ (x : List ℕ). x ++ words) (c.look-look.ensures.frames.0 ∙ ap (λ (x : ListenerState). x.pass.part.frames) c.self.view_is) in
    let total : c.self.inside.total + c.from.result ≡ c.args.self.now.total + count = ap (λ (n : ℕ). c.self.inside.total + n) c.from.ensures ∙ ap (λ (x : ListenerState). x.total + count) c.self.view_is in
    read_on rs c.args.self.now (record { pass = c.take_shown-count.new.server.pass; total = c.self.inside.total + c.from.result }) words count frames total many read
