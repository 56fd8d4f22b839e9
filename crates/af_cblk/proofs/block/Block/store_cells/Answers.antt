use Rattle.std.proofs.Common.{arith, ◌≡◌, ◌+◌, ◌-◌, ◌%◌, ◌^◌, ◌<◌, ◌≤◌, ℕ, length, map, take, drop, length-drop, length-take-le, sym, ap, ◌∙◌, subst}
use Rattle.af_cblk.proofs.Common.{Shape, packed_word}
use Rattle.af_cblk.specs.declared.view.ClientPart.{ClientPart}
use Rattle.af_cblk.specs.Parts.{number_at, room}
use Rattle.af_cblk.specs.Shape.{IsShape}
use Rattle.af_cblk.specs.Sides.{Made}
use Rattle.af_cblk.proofs.Sized.{IsSized, sized}
use Rattle.af_cblk.proofs.Stores.{number_past, room_left, stores_join, words_join}
use Rattle.af_cblk.proofs.block.Block.store_cells.Goals as goal

pub store_run-requires-clause-room : goal.store_run-requires-clause-room
store_run-requires-clause-room g c =
    let p : ClientPart = c.args.pass.now.part in
    let q : ClientPart = c.loop-done.pass.part in
    let frames = c.args.frames.now in
    let i = c.loop-done.invariant in
    let done : ℕ = c.loop-done.done in
    let count : ℕ = c.min-count.result in
    let first : ℕ = c.cell_of-first.result in
    let same : p.shape ≡ c.args.self.now.shape = ap (λ (m : Made). m.shape) c.requires.made in
    let size : IsSized p.shape = sized p.shape (subst IsShape (sym same) c.cells.ensures.shape) in
    let less : done < length frames = c.loop-done-test.true in
    let few : done + count ≤ length frames = (let a = c.min-count.ensures in omega arith) in
    let start : first ≡ 7 + (c.args.position + done) % 2 ^ 32 % p.shape.cells = c.cell_of-first.ensures ∙ ap (λ (k : Shape). 7 + (c.args.position + done) % 2 ^ 32 % k.cells) (sym same) in
    let inside : done < room p = (let a = c.requires.room in omega arith) in
    let number : number_at q (first - 7) ≡ length p.frames + done = ap (λ (x : ClientPart). number_at x (first - 7)) i.1 ∙ number_past p done c.args.position first size c.requires.next inside start in
    let rest : length (drop done frames) ≡ length frames - done = length-drop done frames in
    let long : length (take (done + count - done) (drop done frames)) ≡ done + count - done = length-take-le (done + count - done) (drop done frames) (omega arith) in
    room_left p q _ (length (take (done + count - done) (drop done frames))) (first - 7) _ i.1 number (let a = c.requires.room in omega arith)

pub loop-done-preserved : goal.loop-done-preserved
loop-done-preserved g c =
    let p : ClientPart = c.args.pass.now.part in
    let q : ClientPart = c.loop-done.pass.part in
    let frames = c.args.frames.now in
    let i = c.loop-done.invariant in
    let e = c.store_run.ensures in
    let done : ℕ = c.loop-done.done in
    let count : ℕ = c.min-count.result in
    let first : ℕ = c.cell_of-first.result in
    let same : p.shape ≡ c.args.self.now.shape = ap (λ (m : Made). m.shape) c.requires.made in
    let size : IsSized p.shape = sized p.shape (subst IsShape (sym same) c.cells.ensures.shape) in
    let less : done < length frames = c.loop-done-test.true in
    let few : done + count ≤ length frames = (let a = c.min-count.ensures in omega arith) in
    let start : first ≡ 7 + (c.args.position + done) % 2 ^ 32 % p.shape.cells = c.cell_of-first.ensures ∙ ap (λ (k : Shape). 7 + (c.args.position + done) % 2 ^ 32 % k.cells) (sym same) in
    let inside : done < room p = (let a = c.requires.room in omega arith) in
    let number : number_at q (first - 7) ≡ length p.frames + done = ap (λ (x : ClientPart). number_at x (first - 7)) i.1 ∙ number_past p done c.args.position first size c.requires.next inside start in
    let part = take (done + count - done) (drop done frames) in (
      e.made ∙ sym c.requires.made,
      stores_join p q c.store_run.new.pass.part frames (map packed_word part) (map packed_word (take (done + count) frames)) done (length p.frames) _ i.1 e.stored number i.3 (words_join frames done (done + count - done) (done + count) (omega arith)),
      omega arith,
      few,
    )
