use Rattle.std.proofs.Common.{arith, ◌≡◌, ◌+◌, ◌-◌, ◌<◌, ◌≤◌, ℕ, ◌∷◌, [], length, map, take, get_or, sym, ap, ◌∙◌, subst}
use Rattle.af_cblk.proofs.Common.{get_or-map, packed_word}
use Rattle.af_cblk.specs.declared.view.ClientPart.{ClientPart}
use Rattle.af_cblk.specs.Parts.{number_at, room}
use Rattle.af_cblk.specs.Shape.{IsShape}
use Rattle.af_cblk.specs.Sides.{Made}
use Rattle.af_cblk.proofs.Sized.{IsSized, sized}
use Rattle.af_cblk.proofs.Stores.{number_next, room_left, stores_join, word_joins}
use Rattle.af_cblk.proofs.block.Block.store_few.Goals as goal

pub store_word-requires-clause-room : goal.store_word-requires-clause-room
store_word-requires-clause-room g c =
    let p : ClientPart = c.args.pass.now.part in
    let i = c.loop-i.invariant in
    let at : ℕ = c.loop-i.i in
    let first : ℕ = c.args.first in
    let size : IsSized p.shape = sized p.shape (subst IsShape (sym (ap (λ (m : Made). m.shape) c.requires.made)) c.requires.shape) in
    let less : at < length c.args.frames.now = (let a = c.loop-i-test.true in let b = c.loop-i.auto.i-end in omega arith) in
    let place : first + at - 7 ≡ (first - 7) + at = (let a = c.requires.within.0 in omega arith) in
    let fits : number_at p (first - 7) + at + 1 ≤ length p.frames + room p = (let a = c.requires.room in omega arith) in
    let number = number_next p c.loop-i.pass.part _ at (first - 7) (first + at - 7) size i.1 place (omega arith) in
    let left = room_left p c.loop-i.pass.part _ 1 (first + at - 7) _ i.1 number fits in
    omega arith

pub loop-i-preserved : goal.loop-i-preserved
loop-i-preserved g c =
    let p : ClientPart = c.args.pass.now.part in
    let frames = c.args.frames.now in
    let i = c.loop-i.invariant in
    let e = c.store_word.ensures in
    let at : ℕ = c.loop-i.i in
    let first : ℕ = c.args.first in
    let size : IsSized p.shape = sized p.shape (subst IsShape (sym (ap (λ (m : Made). m.shape) c.requires.made)) c.requires.shape) in
    let less : at < length frames = (let a = c.loop-i-test.true in let b = c.loop-i.auto.i-end in omega arith) in
    let place : first + at - 7 ≡ (first - 7) + at = (let a = c.requires.within.0 in omega arith) in
    let inside : number_at p (first - 7) + at < length p.frames + room p = (let a = c.requires.room in omega arith) in
    let number = number_next p c.loop-i.pass.part _ at (first - 7) (first + at - 7) size i.1 place inside in
    let word : c.pack.result ≡ get_or (map packed_word frames) at 0 = c.pack.ensures ∙ sym (get_or-map packed_word frames at _ 0 less) in (
      e.made ∙ sym c.requires.made,
      stores_join p c.loop-i.pass.part c.store_word.new.pass.part frames (c.pack.result ∷ []) (map packed_word (take (at + 1) frames)) at (number_at p (first - 7)) _ i.1 e.stored number (omega arith) (word_joins frames at c.pack.result less word),
      (let a = e.steps in let b = i.2 in omega arith),
    )
