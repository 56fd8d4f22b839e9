use Rattle.std.proofs.Common.{◌≡◌, ◌+◌, ◌*◌, ◌<◌, sym, ap, ◌∙◌, subst, length, arith}
use Rattle.af_life.specs.Kept.{NormalKept, track_at, slot_number}
use Rattle.af_life.specs.Small.{IsEdited, most_tracks}
use Rattle.af_life.specs.Plain.{Plain, learnt_of}
use Rattle.af_life.proofs.Lives.{edits_len}
use Rattle.af_life.proofs.Smalls.{edits_small}
use Rattle.af_life.proofs.plain.PlainMixer.edit_all.Goals as goal

-- there are as many tracks as at first
there : (c : goal.After-edit-arg-in-loop-i-1) → (length c.loop-i.self.kept.tracks ≡ length c.args.self.now.kept.tracks) × (c.loop-i.i < length c.args.self.now.kept.tracks)
there c =
    let first = ap (λ (p : Plain). length p.kept.tracks) c.self.view_is in
    let below = c.loop-i-test.true in
    let count = c.len-i-end.ensures in (
      ap (λ (p : Plain). length p.kept.tracks) c.loop-i.invariant ∙ edits_len c.args.self.now.setup (learnt_of c.args.report.now c.args.own.now) c.args.self.now.kept c.loop-i.i,
      omega arith,
    )

-- the numbers are those of some edits
small : (c : goal.After-edit-arg-in-loop-i-1) → IsEdited c.requires.small.0 c.requires.small.1 (most_tracks * c.args.self.now.turns + c.loop-i.i) c.args.self.now.turns c.loop-i.self.kept
small c = subst (λ (x : NormalKept). IsEdited c.requires.small.0 c.requires.small.1 (most_tracks * c.args.self.now.turns + c.loop-i.i) c.args.self.now.turns x) (sym (ap (λ (p : Plain). p.kept) c.loop-i.invariant))
    (edits_small c.requires.small.0 c.requires.small.1 c.args.self.now.setup (learnt_of c.args.report.now c.args.own.now) (most_tracks * c.args.self.now.turns) c.args.self.now.turns c.args.self.now.kept c.requires.small.2 c.loop-i.i)

pub edit-requires-clause-track : goal.edit-requires-clause-track
edit-requires-clause-track c = let t = there c in let s = ap (λ (p : Plain). length p.setup.settings) c.loop-i.invariant in let w = c.requires.sizes in
    (omega (arith, t.0, t.1), omega (arith, t.1, w.0), omega (arith, t.1, w.1, w.2))

pub edit-requires-clause-slot : goal.edit-requires-clause-slot
edit-requires-clause-slot c = ((small c).tracks c.loop-i.i).slot

pub edit-requires-clause-room : goal.edit-requires-clause-room
edit-requires-clause-room c = let t = there c in let w = c.requires.sizes in let n = c.requires.turns in
    let g = (small c).draft.generations (slot_number (track_at c.loop-i.self.kept.tracks c.loop-i.i)) in let h = (small c).draft.changes in
    (omega (arith, t.1, w.1, w.2, g), omega (arith, t.1, w.1, w.2, h))
