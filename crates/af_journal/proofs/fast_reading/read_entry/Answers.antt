use Rattle.std.proofs.Common.{sym, subst, List, refl}
use Rattle.af_journal.proofs.Common.{CycleEntry, Frame}
use Rattle.af_base.specs.declared.log.Cycle.TheVariants as cycle
use Rattle.af_journal.specs.Taken.{AddsEntry, Leaves, more_lines}
use Rattle.af_journal.proofs.MixReading.{still-adds}
use Rattle.af_journal.proofs.fast_reading.read_entry.Goals as goal

pub returns-in-1-clause-entry : goal.returns-in-1-clause-entry
returns-in-1-clause-entry c =
    let frames = c.args.frames.now.items in let rest = c.args.left.now.rest.now in
    subst (λ (e : CycleEntry). (taken : List Frame) × AddsEntry frames (record { entry = e; frames = taken }) frames × Leaves rest (more_lines (record { entry = e; frames = taken })) rest) (sym c.still_entry.ensures)
    (still-adds frames rest c.args.state cycle.Idle refl refl)

pub returns-in-2-clause-entry : goal.returns-in-2-clause-entry
returns-in-2-clause-entry c =
    let frames = c.args.frames.now.items in let rest = c.args.left.now.rest.now in
    subst (λ (e : CycleEntry). (taken : List Frame) × AddsEntry frames (record { entry = e; frames = taken }) frames × Leaves rest (more_lines (record { entry = e; frames = taken })) rest) (sym c.still_entry-in-2.ensures)
    (still-adds frames rest c.args.state cycle.Cold refl refl)

pub returns-in_default-clause-entry : goal.returns-in_default-clause-entry
returns-in_default-clause-entry c =
    let frames = c.args.frames.now.items in let rest = c.args.left.now.rest.now in
    subst (λ (e : CycleEntry). (taken : List Frame) × AddsEntry frames (record { entry = e; frames = taken }) frames × Leaves rest (more_lines (record { entry = e; frames = taken })) rest) (sym c.still_entry-in_default.ensures)
    (still-adds frames rest c.args.state cycle.Exit refl refl)
