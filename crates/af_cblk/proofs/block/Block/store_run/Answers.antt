use Rattle.std.proofs.Common.{arith, ◌≡◌, ◌+◌, ◌-◌, ◌<◌, ◌≤◌, ℕ, length, map, take, drop, length-drop, length-take-le, take_all, sym, ap, ◌∙◌, subst}
use Rattle.af_cblk.proofs.Common.{packed_word}
use Rattle.af_cblk.specs.declared.view.ClientPart.{ClientPart}
use Rattle.af_cblk.specs.Parts.{number_at, room}
use Rattle.af_cblk.specs.Shape.{IsShape}
use Rattle.af_cblk.specs.Sides.{Made}
use Rattle.af_cblk.proofs.Sized.{IsSized, sized}
use Rattle.af_cblk.proofs.Stores.{number_next, room_left, stores_join, words_join}
use Rattle.af_cblk.proofs.block.Block.store_run.Goals as goal

pub store_few-requires-clause-room : goal.store_few-requires-clause-room
store_few-requires-clause-room g c =
    let p : ClientPart = c.args.pass.now.part in
    let frames = c.args.frames.now in
    let i = c.loop-done.invariant in
    let done : ℕ = c.loop-done.done in
    let first : ℕ = c.args.first in
    let size : IsSized p.shape = sized p.shape (subst IsShape (sym (ap (λ (m : Made). m.shape) c.requires.made)) c.requires.shape) in
    let more : done + 8 ≤ length frames = (let a = c.loop-done-test.true in let b = i.3 in omega arith) in
    let place : first + done - 7 ≡ (first - 7) + done = (let a = c.requires.within.0 in omega arith) in
    let rest : length (drop done frames) ≡ length frames - done = length-drop done frames in
    let long : length (take (done + 8 - done) (drop done frames)) ≡ done + 8 - done = length-take-le (done + 8 - done) (drop done frames) (omega arith) in
    let fits : number_at p (first - 7) + done + 8 ≤ length p.frames + room p = (let a = c.requires.room in omega arith) in
    let number = number_next p c.loop-done.pass.part _ done (first - 7) (first + done - 7) size i.1 place (omega arith) in
    room_left p c.loop-done.pass.part _ (length (take (done + 8 - done) (drop done frames))) (first + done - 7) _ i.1 number (omega arith)

pub loop-done-preserved : goal.loop-done-preserved
loop-done-preserved g c =
    let p : ClientPart = c.args.pass.now.part in
    let frames = c.args.frames.now in
    let i = c.loop-done.invariant in
    let e = c.store_few.ensures in
    let done : ℕ = c.loop-done.done in
    let first : ℕ = c.args.first in
    let size : IsSized p.shape = sized p.shape (subst IsShape (sym (ap (λ (m : Made). m.shape) c.requires.made)) c.requires.shape) in
    let more : done + 8 ≤ length frames = (let a = c.loop-done-test.true in let b = i.3 in omega arith) in
    let place : first + done - 7 ≡ (first - 7) + done = (let a = c.requires.within.0 in omega arith) in
    let inside : number_at p (first - 7) + done < length p.frames + room p = (let a = c.requires.room in omega arith) in
    let number = number_next p c.loop-done.pass.part _ done (first - 7) (first + done - 7) size i.1 place inside in
    let part = take (done + 8 - done) (drop done frames) in (
      e.made ∙ sym c.requires.made,
      stores_join p c.loop-done.pass.part c.store_few.new.pass.part frames (map packed_word part) (map packed_word (take (done + 8) frames)) done (number_at p (first - 7)) _ i.1 e.stored number i.3
          (words_join frames done (done + 8 - done) (done + 8) (omega arith)),
      omega arith,
      more,
    )

pub store_few-requires-then-done-frames-clause-room : goal.store_few-requires-then-done-frames-clause-room
store_few-requires-then-done-frames-clause-room g c =
    let p : ClientPart = c.args.pass.now.part in
    let frames = c.args.frames.now in
    let i = c.loop-done.invariant in
    let done : ℕ = c.loop-done.done in
    let first : ℕ = c.args.first in
    let size : IsSized p.shape = sized p.shape (subst IsShape (sym (ap (λ (m : Made). m.shape) c.requires.made)) c.requires.shape) in
    let less : done < length frames = c.if-done-frames.true in
    let place : first + done - 7 ≡ (first - 7) + done = (let a = c.requires.within.0 in omega arith) in
    let rest : length (drop done frames) ≡ length frames - done = length-drop done frames in
    let long : length (take (length frames - done) (drop done frames)) ≡ length frames - done = length-take-le (length frames - done) (drop done frames) (omega arith) in
    let fits : number_at p (first - 7) + length frames ≤ length p.frames + room p = c.requires.room in
    let number = number_next p c.loop-done.pass.part _ done (first - 7) (first + done - 7) size i.1 place (omega arith) in
    room_left p c.loop-done.pass.part _ (length (take (length frames - done) (drop done frames))) (first + done - 7) _ i.1 number (omega arith)

pub returns-then-done-frames-clause-stored : goal.returns-then-done-frames-clause-stored
returns-then-done-frames-clause-stored g c =
    let p : ClientPart = c.args.pass.now.part in
    let frames = c.args.frames.now in
    let i = c.loop-done.invariant in
    let done : ℕ = c.loop-done.done in
    let first : ℕ = c.args.first in
    let size : IsSized p.shape = sized p.shape (subst IsShape (sym (ap (λ (m : Made). m.shape) c.requires.made)) c.requires.shape) in
    let less : done < length frames = c.if-done-frames.true in
    let place : first + done - 7 ≡ (first - 7) + done = (let a = c.requires.within.0 in omega arith) in
    let inside : number_at p (first - 7) + done < length p.frames + room p = (let a = c.requires.room in omega arith) in
    let number = number_next p c.loop-done.pass.part _ done (first - 7) (first + done - 7) size i.1 place inside in
    let part = take (length frames - done) (drop done frames) in
    stores_join p c.loop-done.pass.part c.store_few-then-done-frames.new.pass.part frames (map packed_word part) (map packed_word frames) done (number_at p (first - 7)) _ i.1 c.store_few-then-done-frames.ensures.stored number i.3
    (words_join frames done (length frames - done) (length frames) (omega arith) ∙ ap (map packed_word) (take_all (length frames) frames (omega arith)))
