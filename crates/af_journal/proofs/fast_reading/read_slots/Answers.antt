use Rattle.std.proofs.Common.{rules, ◌≡◌, ◌∙◌, ◌+◌, sym, ap, subst, ℕ, ◌<◌, List, Vec, Global, length}
use Rattle.af_journal.proofs.Common.{CycleEntry, Frame, slots}
use Rattle.af_journal.proofs.MixReading.{IsMixFront, front-below, front-more, front-none, front-same, front-skip, mix-whole}
use Rattle.af_journal.specs.declared.left.Left.{Left}
use Rattle.af_journal.specs.Mixes.{got_lines, got_of}
use Rattle.af_journal.specs.Taken.{Leaves}
use Rattle.af_journal.proofs.fast_reading.read_slots.Goals as goal
use Rattle.af_journal.proofs.fast_reading.read_slots.Goals.{then-may_be_of+in_ok-got, else-may_be_of}

pub loop-slot-init : goal.loop-slot-init
loop-slot-init c =
    let frames = c.args.frames.now.items in let rest = c.args.left.now.rest.now in
    subst (λ (e : CycleEntry). IsMixFront c.args.state (length frames) 0 frames frames rest rest e) (sym c.still_entry-entry.ensures) (front-none c.args.state frames rest)

pub with_mark-requires : goal.with_mark-requires
with_mark-requires c = record { slot = search rules; below = front-below c.args.state (length c.args.frames.now.items) c.loop-slot.slot c.args.frames.now.items c.loop-slot.frames.items c.args.left.now.rest.now c.loop-slot.left.rest.now c.loop-slot.entry c.loop-slot.invariant }

pub loop-slot-preserved : goal.loop-slot-preserved
loop-slot-preserved c =
    let before = c.args.frames.now.items in
    let start = c.args.left.now.rest.now in
    let l = c.loop-slot in
    let n = c.if-may_be_of in
    let lt : l.slot < slots = search rules in
    elim n.branch [
      | then-may_be_of+in_ok-got w ↦
          let read = w.in_ok-got.ensures in
          let g = got_of w.in_ok-got.got read.0 in
          let rest = ap (λ (x : Left). x.rest.now) w.left-is in
          front-more c.args.state l.slot before l.frames.items n.frames.items start l.left.rest.now n.left.rest.now l.entry n.entry g
          l.invariant lt read.1 (ap (λ (v : Vec Frame Global). v.items) w.frames-is ∙ read.2) (subst (λ (r : List ℕ). Leaves l.left.rest.now (got_lines l.slot g) r) (sym rest) read.3)
          (ap (λ (e : CycleEntry). e.slots) w.entry-is) (ap (λ (e : CycleEntry). e.scales) w.entry-is) (ap (λ (e : CycleEntry). e.mono) w.entry-is ∙ w.with_mark.ensures) (ap (λ (e : CycleEntry). e.state) w.entry-is) (ap (λ (e : CycleEntry). e.cycle) w.entry-is)
      | else-may_be_of w ↦
          front-same c.args.state (length before) (l.slot + 1) before l.frames.items n.frames.items start l.left.rest.now n.left.rest.now l.entry n.entry
          (ap (λ (v : Vec Frame Global). v.items) w.frames-is) (ap (λ (x : Left). x.rest.now) w.left-is) w.entry-is
          (front-skip c.args.state l.slot before l.frames.items start l.left.rest.now l.entry l.invariant lt)
    ]

pub returns : goal.returns
returns c =
    let frames = c.args.frames.now.items in
    let done : c.loop-slot.slot ≡ slots = search rules in
    let m = subst (λ (n : ℕ). IsMixFront c.args.state (length frames) n frames c.loop-slot.frames.items c.args.left.now.rest.now c.loop-slot.left.rest.now c.loop-slot.entry) done c.loop-slot.invariant in
    (m.gots, m.count, m.are, mix-whole c.args.state (length frames) frames c.loop-slot.frames.items c.args.left.now.rest.now c.loop-slot.left.rest.now c.loop-slot.entry m, m.frames_are, m.lines)
