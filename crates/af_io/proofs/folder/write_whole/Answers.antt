use Rattle.std.proofs.Common.{◌≡◌, ◌-◌, ◌≤◌, length, List, ℕ, take, drop, sym, subst, arith}
use Rattle.std.proofs.lemmas.List.{take_all, length-drop}
use Rattle.std.proofs.Math.Seq.{take-add}
use Rattle.std.specs.Io.KnownBytes.{Appends as AppendsKnown}
use Rattle.af_io.proofs.Whole.{Appends-more}
use Rattle.af_io.proofs.folder.write_whole.Goals as goal

pub loop-written-preserved : goal.loop-written-preserved
loop-written-preserved g c =
    let bytes = c.args.bytes.now in
    let at = c.loop-written.written in
    let rest : take (length bytes - at) (drop at bytes) ≡ drop at bytes = take_all (length bytes - at) (drop at bytes) (omega (arith, length-drop at bytes)) in
    let room : c.in_ok-count.count ≤ length (drop at bytes) = subst (λ (xs : List ℕ). c.in_ok-count.count ≤ length xs) rest c.in_ok-count.ensures.bound in
    let taken = subst (λ (xs : List ℕ). AppendsKnown (g.W.Write.contents c.loop-written.to) (g.W.Write.contents c.write.new.self) (take c.in_ok-count.count xs)) rest c.in_ok-count.ensures.bytes in
    let more = Appends-more _ _ _ (take at bytes) (take c.in_ok-count.count (drop at bytes)) c.loop-written.invariant.front taken in
    record {
      within = omega (arith, length-drop at bytes, room);
      front = subst (λ (done : List ℕ). AppendsKnown (g.W.Write.contents c.args.to.now) (g.W.Write.contents c.write.new.self) done) (sym (take-add at c.in_ok-count.count bytes)) more;
    }
