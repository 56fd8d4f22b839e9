use Rattle.std.proofs.Common.{arith, ◌≡◌, ℕ, ◌-◌, ◌%◌, ◌≤◌, min, map, take, length, ap, ◌∙◌, sym, subst}
use Rattle.af_client.proofs.Common.{packed_word, released, wrapped}
use Rattle.af_client.specs.Order.{ClientState}
use Rattle.af_client.specs.Calls.{SameBut}
use Rattle.af_client.proofs.Opened.{same_end, before_end, put_is, put_rear, words_are}
use Rattle.af_client.proofs.Stores.{stored_first}
use Rattle.af_client.proofs.client.Client.put.Goals as goal

pub returns-clause-count : goal.returns-clause-count
returns-clause-count g c =
    let rear : c.self.inside.rear ≡ wrapped (released c.args.self.now.pass.part) = ap (λ (x : ClientState). x.rear) c.self.view_is ∙ c.requires.rear in
    let cell = same_end c.args.block.now.shape c.self.inside.rear (released c.args.self.now.pass.part) c.cells.ensures.shape rear in
    let a = c.cells.ensures.value in
    let b = c.cells-2.ensures.value in
    let d = c.min-most.ensures in
    let e = c.min-count.ensures in
    e ∙ ap (λ (z : ℕ). min (length c.args.frames.now) z) (
    d ∙ ap (λ (x : ℕ × ℕ). min c.args.room (x.0 - c.self.inside.rear % x.1)) (λ i. (a i, b i))
    ∙ ap (λ (z : ℕ). min c.args.room (c.args.block.now.shape.cells - z)) cell
    )

pub returns-clause-put : goal.returns-clause-put
returns-clause-put g c =
    let few : c.min-count.result ≤ length c.args.frames.now = (let e = c.min-count.ensures in omega arith) in
    let same : SameBut c.args.self.now.pass.part c.store_frames.new.pass.part = c.store_frames.ensures.same ∙ ap (λ (x : ClientState). record x.pass.part { stored = c.store_frames.new.pass.part.stored }) c.self.view_is in
    let stored = stored_first c.store_frames.new.pass.part c.args.frames.now c.min-count.result few c.store_frames.ensures.stored in
    put_is c.args.self.now.pass.part c.store_frames.new.pass.part c.store_rear.new.pass.part c.min-count.result c.args.frames.now same stored few c.store_rear.ensures.released

pub returns-clause-rear : goal.returns-clause-rear
returns-clause-rear g c =
    let few : c.min-count.result ≤ length c.args.frames.now = (let e = c.min-count.ensures in omega arith) in
    let rear : c.self.inside.rear ≡ wrapped (released c.args.self.now.pass.part) = ap (λ (x : ClientState). x.rear) c.self.view_is ∙ c.requires.rear in
    put_rear c.args.self.now.pass.part c.store_rear.new.pass.part c.self.inside.rear c.min-count.result (map packed_word (take c.min-count.result c.args.frames.now)) rear (words_are c.min-count.result c.args.frames.now few) (returns-clause-put g c)

pub returns-clause-some : goal.returns-clause-some
returns-clause-some g c = λ roomy some.
    let rear : c.self.inside.rear ≡ wrapped (released c.args.self.now.pass.part) = ap (λ (x : ClientState). x.rear) c.self.view_is ∙ c.requires.rear in
    let a = c.cells.ensures.value in
    let b = c.cells-2.ensures.value in
    let end : 1 ≤ c.args.block.now.shape.cells - c.self.inside.rear % c.args.block.now.shape.cells = before_end c.args.block.now.shape c.self.inside.rear c.cells.ensures.shape in
    let far : 1 ≤ c.cells.result - c.self.inside.rear % c.cells-2.result = subst (λ (x : ℕ × ℕ). 1 ≤ x.0 - c.self.inside.rear % x.1) (λ i. (sym a i, sym b i)) end in
    let d = c.min-most.ensures in
    let e = c.min-count.ensures in
    omega arith
