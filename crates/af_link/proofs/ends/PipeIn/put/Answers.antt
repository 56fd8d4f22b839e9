use Rattle.std.proofs.Common.{arith, rules, ◌≡◌, ℕ, ◌+◌, ◌≤◌, [], ◌∷◌, ◌++◌, length, ap, ◌∙◌, sym, length-append}
use Rattle.af_base.specs.declared.event.ClientEvent.TheVariants as client
use Rattle.af_model.specs.Point.{wrapped}
use Rattle.af_model.specs.PipeHistory.{releases_of}
use Rattle.af_model.specs.declared.shape.Shape.{Shape}
use Rattle.af_cblk.specs.Sides.{Made}
use Rattle.af_link.specs.PipeEnds.{InSide}
use Rattle.af_link.proofs.Releases.{put_whole, put_parts, whole_put, parts_put, reach}
use Rattle.af_link.proofs.ends.PipeIn.put.Goals as goal

pub returns-then-is_empty-2-clause-put : goal.returns-then-is_empty-2-clause-put
returns-then-is_empty-2-clause-put g c =
    let p = c.args.self.now.pass.part in
    let k : Shape = c.args.block.now.shape in
    let put : ℕ = length p.frames in
    let n : ℕ = length c.args.frames.now in
    let some : 1 ≤ n = search rules in
    let rear : c.self.inside.rear ≡ wrapped put = c.self.invariant.rear_is ∙ ap (λ (s : InSide). wrapped (length s.pass.part.frames)) c.self.view_is in
    let m_is = reach k c.cells.result c.cells-2.result c.self.inside.rear put n c.min.result c.cells.ensures.shape c.cells.ensures.value c.cells-2.ensures.value rear c.min.ensures in
    let none : length c.split_at.result.1.now ≡ 0 = search rules in
    let cut = put_whole k.cells put c.min.result c.args.frames.now c.split_at.result.0.now c.split_at.result.1.now some m_is c.split_at.ensures.front c.split_at.ensures.back none in
    let same : k.cells ≡ p.shape.cells = ap (λ (m : Made). m.shape.cells) (sym c.requires.made) in
    let releases : releases_of p.shape.cells put n ≡ client.Release (length c.split_at.result.0.now) ∷ [] = ap (λ (z : ℕ). releases_of z put n) (sym same) ∙ cut.1 in
    whole_put p c.release.new.self.pass.part c.args.frames.now c.split_at.result.0.now cut.0 releases c.release.ensures.put

pub returns-then-is_empty-2-clause-steps : goal.returns-then-is_empty-2-clause-steps
returns-then-is_empty-2-clause-steps g c =
    let p = c.args.self.now.pass.part in
    let k : Shape = c.args.block.now.shape in
    let put : ℕ = length p.frames in
    let n : ℕ = length c.args.frames.now in
    let some : 1 ≤ n = search rules in
    let rear : c.self.inside.rear ≡ wrapped put = c.self.invariant.rear_is ∙ ap (λ (s : InSide). wrapped (length s.pass.part.frames)) c.self.view_is in
    let m_is = reach k c.cells.result c.cells-2.result c.self.inside.rear put n c.min.result c.cells.ensures.shape c.cells.ensures.value c.cells-2.ensures.value rear c.min.ensures in
    let none : length c.split_at.result.1.now ≡ 0 = search rules in
    let cut = put_whole k.cells put c.min.result c.args.frames.now c.split_at.result.0.now c.split_at.result.1.now some m_is c.split_at.ensures.front c.split_at.ensures.back none in
    let count : length (releases_of k.cells put n) ≡ 1 = ap length cut.1 in
    let whole : length c.split_at.result.0.now ≡ n = ap length cut.0 in
    let e = c.release.ensures.steps in
    omega arith

pub returns-clause-put : goal.returns-clause-put
returns-clause-put g c =
    let p = c.args.self.now.pass.part in
    let k : Shape = c.args.block.now.shape in
    let put : ℕ = length p.frames in
    let n : ℕ = length c.args.frames.now in
    let some : 1 ≤ n = search rules in
    let rear : c.self.inside.rear ≡ wrapped put = c.self.invariant.rear_is ∙ ap (λ (s : InSide). wrapped (length s.pass.part.frames)) c.self.view_is in
    let m_is = reach k c.cells.result c.cells-2.result c.self.inside.rear put n c.min.result c.cells.ensures.shape c.cells.ensures.value c.cells-2.ensures.value rear c.min.ensures in
    let more : 1 ≤ length c.split_at.result.1.now = search rules in
    let cut = put_parts k.cells put c.min.result c.args.frames.now c.split_at.result.0.now c.split_at.result.1.now some m_is c.split_at.ensures.front c.split_at.ensures.back more in
    let same : k.cells ≡ p.shape.cells = ap (λ (m : Made). m.shape.cells) (sym c.requires.made) in
    let releases : releases_of p.shape.cells put n ≡ client.Release (length c.split_at.result.0.now) ∷ client.Release (length c.split_at.result.1.now) ∷ [] = ap (λ (z : ℕ). releases_of z put n) (sym same) ∙ cut.1 in
    parts_put p c.release.new.self.pass.part c.release-2.new.self.pass.part c.args.frames.now c.split_at.result.0.now c.split_at.result.1.now cut.0 releases c.release.ensures.put c.release-2.ensures.put

pub returns-clause-steps : goal.returns-clause-steps
returns-clause-steps g c =
    let p = c.args.self.now.pass.part in
    let k : Shape = c.args.block.now.shape in
    let put : ℕ = length p.frames in
    let n : ℕ = length c.args.frames.now in
    let some : 1 ≤ n = search rules in
    let rear : c.self.inside.rear ≡ wrapped put = c.self.invariant.rear_is ∙ ap (λ (s : InSide). wrapped (length s.pass.part.frames)) c.self.view_is in
    let m_is = reach k c.cells.result c.cells-2.result c.self.inside.rear put n c.min.result c.cells.ensures.shape c.cells.ensures.value c.cells-2.ensures.value rear c.min.ensures in
    let more : 1 ≤ length c.split_at.result.1.now = search rules in
    let cut = put_parts k.cells put c.min.result c.args.frames.now c.split_at.result.0.now c.split_at.result.1.now some m_is c.split_at.ensures.front c.split_at.ensures.back more in
    let count : length (releases_of k.cells put n) ≡ 2 = ap length cut.1 in
    let whole : length (c.split_at.result.0.now ++ c.split_at.result.1.now) ≡ n = ap length cut.0 in
    let sum : length (c.split_at.result.0.now ++ c.split_at.result.1.now) ≡ length c.split_at.result.0.now + length c.split_at.result.1.now = length-append c.split_at.result.0.now c.split_at.result.1.now in
    let e = c.release.ensures.steps in
    let f = c.release-2.ensures.steps in
    omega arith
