use Rattle.std.specs.Prelude.{◌↔◌}
use Rattle.std.proofs.Common.{◌≡◌, inl, inr, ℕ, suc, ◌+◌, ◌<◌, List, subst, sym, refl, ap, ◌∙◌, arith}
use Rattle.af_judge.proofs.Common.{IsTrue, below_or_at}
use Rattle.af_judge.specs.declared.track_judge.TrackJudge.{TrackJudge}
use Rattle.af_judge.specs.FastKept.{AreSlotsRight, IsSlotRight, slot_played, slots_played}
use Rattle.af_judge.proofs.SlotsIn.{played_end, right_end}
use Rattle.af_judge.proofs.fast_judge.FastJudge.play_slots.Goals as goal

none_below : (i : ℕ) → i < 0 → ⊥
none_below i h = absurd (omega arith)

pub loop-slot-init : goal.loop-slot-init
unfolding slots_played
loop-slot-init c = record { played = refl; right = (λ h i low. absurd (none_below i low), λ are. refl) }

pub loop-slot-preserved : goal.loop-slot-preserved
unfolding slots_played
loop-slot-preserved c =
    let slot : ℕ = c.loop-slot.slot in
    let asked = c.args.self.now.told.asked in
    let x = c.args.state.now in
    let frames = c.args.log.now.frames in
    let entry = c.args.entry.now in
    let first = c.args.tracks.now in
    let inv = c.loop-slot.invariant in
    let next : suc slot ≡ slot + 1 = omega arith in
    let Right : ℕ → List TrackJudge → Type 0 = λ i ts. IsSlotRight asked x entry i ts in
    record {
      played = c.in_ok-played.ensures.told ∙ (ap (λ ts. slot_played asked x frames entry slot ts) inv.played ∙ ap (λ n. slots_played asked x frames entry n first) next);
      right = (
        λ h i low.
            (let b = c.both-right.ensures.0 h in
            elim (below_or_at i slot low) [
              | inl below ↦ inv.right.0 b.0 i below
              | inr same ↦ subst (λ k. Right k (slots_played asked x frames entry k first)) (sym same) (subst (λ ts. Right slot ts) inv.played (c.in_ok-played.ensures.right.0 b.1))
            ]),
        λ are. c.both-right.ensures.1 (inv.right.1 (λ i low. are i (omega (arith, low))), c.in_ok-played.ensures.right.1 (subst (λ ts. Right slot ts) (sym inv.played) (are slot (omega arith)))),
      );
    }

pub returns-clause-told : goal.returns-clause-told
returns-clause-told c =
    let used = c.slots_in-slot-end.result in
    let all : c.loop-slot.slot ≡ used = omega arith in
    subst (λ n. c.loop-slot.tracks ≡ slots_played c.args.self.now.told.asked c.args.state.now c.args.log.now.frames c.args.entry.now n c.args.tracks.now) all c.loop-slot.invariant.played
    ∙ sym (played_end c.args.self.now.told.asked c.args.state.now c.args.log.now.frames c.args.entry.now used c.args.tracks.now c.slots_in-slot-end.ensures.few c.slots_in-slot-end.ensures.rest)

pub returns-clause-right : goal.returns-clause-right
returns-clause-right c =
    let used = c.slots_in-slot-end.result in
    let all : c.loop-slot.slot ≡ used = omega arith in
    let are = subst (λ n. IsTrue c.loop-slot.right ↔ AreSlotsRight c.args.self.now.told.asked c.args.state.now c.args.log.now.frames c.args.entry.now n c.args.tracks.now) all c.loop-slot.invariant.right in
    let end = right_end c.args.self.now.told.asked c.args.state.now c.args.log.now.frames c.args.entry.now used c.args.tracks.now c.slots_in-slot-end.ensures.few c.slots_in-slot-end.ensures.rest in
    (λ h. end.0 (are.0 h), λ r. are.1 (end.1 r))
