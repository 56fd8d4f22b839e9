use Rattle.std.proofs.Common.{arith, ◌≡◌, ℕ, ◌≤◌, List, length, map, ap, ◌∙◌, sym, subst}
use Rattle.std.proofs.lemmas.List.{length-map}
use Rattle.std.proofs.Math.Seq.{take-length}
use Rattle.af_base.specs.declared.frame.Frame.{Frame}
use Rattle.af_base.specs.Sample.{packed_word}
use Rattle.af_client.specs.Calls.{PutOn, SameBut}
use Rattle.af_client.proofs.Opened.{put_is}
use Rattle.af_link.specs.PipeEnds.{InSide}
use Rattle.af_link.proofs.Puts.{release_keeps}
use Rattle.af_link.proofs.ends.PipeIn.release.Goals as goal

pub overflow_cast-count : goal.overflow_cast-count
overflow_cast-count g c =
    let a = c.requires.room in
    let b : c.args.self.now.room ≡ c.self.inside.room = ap (λ (s : InSide). s.room) (sym c.self.view_is) in
    let d = c.self.invariant.room_is in
    let e = c.self.invariant.shape.few in
    omega arith

pub invariant_of-self : goal.invariant_of-self
invariant_of-self g c =
    let p = c.self.inside.pass.part in
    let q = c.store_rear.new.pass.part in
    let frames = c.args.frames.now in
    let n : ℕ = length frames in
    let words : List ℕ = map packed_word frames in
    let put : PutOn p n words q =
    subst (λ (fs : List Frame). PutOn p n (map packed_word fs) q) (take-length frames)
    (put_is p c.store_frames.new.pass.part q n frames c.store_frames.ensures.same c.store_frames.ensures.stored (omega arith) c.store_rear.ensures.released) in
    let fits : n ≤ c.self.inside.room = (let a = c.requires.room in let b : c.args.self.now.room ≡ c.self.inside.room = ap (λ (s : InSide). s.room) (sym c.self.view_is) in omega arith) in
    release_keeps p q c.self.inside.rear c.self.inside.room n words c.self.invariant fits (length-map frames packed_word) put

pub returns-clause-put : goal.returns-clause-put
returns-clause-put g c =
    let p = c.args.self.now.pass.part in
    let q = c.store_rear.new.pass.part in
    let frames = c.args.frames.now in
    let n : ℕ = length frames in
    let same : SameBut p c.store_frames.new.pass.part = c.store_frames.ensures.same ∙ ap (λ (s : InSide). record s.pass.part { stored = c.store_frames.new.pass.part.stored }) c.self.view_is in
    subst (λ (fs : List Frame). PutOn p n (map packed_word fs) q) (take-length frames)
    (put_is p c.store_frames.new.pass.part q n frames same c.store_frames.ensures.stored (omega arith) c.store_rear.ensures.released)
