use Rattle.std.proofs.Common.{◌≡◌, ℕ, ◌+◌, ◌-◌, ◌%◌, ◌^◌, length, ap, ◌∙◌, sym, mod-eq_of_lt}
use Rattle.af_model.specs.Point.{wrapped}
use Rattle.af_cblk.specs.Sides.{Made}
use Rattle.af_link.specs.PipeEnds.{InSide, room_of}
use Rattle.af_link.proofs.Puts.{look_keeps}
use Rattle.af_link.proofs.ends.PipeIn.room.Goals as goal

pub invariant_of-self : goal.invariant_of-self
invariant_of-self g c =
    let k = c.self.invariant in
    let p = c.self.inside.pass.part in
    let q = c.load_front-front.new.pass.part in
    let rear : ℕ = c.self.inside.rear in
    let front : ℕ = c.load_front-front.result in
    let saw = c.load_front-front.ensures.saw.0 in
    let size : c.frames.result ≡ p.shape.frames = c.frames.ensures.value ∙ sym (ap (λ (m : Made). m.shape.frames) c.requires) ∙ sym (ap (λ (s : InSide). s.pass.part.shape.frames) c.self.view_is) in
    let room : c.frames.result - (rear + (2 ^ 32 - front)) % 2 ^ 32 ≡ room_of q =
    ap (λ (n : ℕ). n - (rear + (2 ^ 32 - front)) % 2 ^ 32) size ∙ ap (λ (z : ℕ). p.shape.frames - (z + (2 ^ 32 - front)) % 2 ^ 32) k.rear_is
    ∙ ap (λ (z : ℕ). p.shape.frames - (wrapped (length p.frames) + (2 ^ 32 - z)) % 2 ^ 32) (sym (mod-eq_of_lt c.load_front-front.type_inv)) ∙ sym (ap room_of saw) in
    look_keeps p q rear c.self.inside.room (c.frames.result - (rear + (2 ^ 32 - front)) % 2 ^ 32) front k saw room
