use Rattle.std.proofs.Common.{rules, ◌≡◌, true, slice_index_or, ◌==◌}
use Rattle.af_journal.proofs.Common.{bit_at, entry_slot}
use Rattle.af_journal.specs.Stages.{is_submix}
use Rattle.af_journal.proofs.MixReading.{mix-adds, mix-state}
use Rattle.af_journal.proofs.fast_reading.read_mix.Goals as goal

pub returns-then-has_submix-clause-state : goal.returns-then-has_submix-clause-state
returns-then-has_submix-clause-state c = let r = c.in_ok-entry.ensures in mix-state c.args.state c.in_ok-entry.entry r.0 r.3

pub returns-then-has_submix-clause-entry : goal.returns-then-has_submix-clause-entry
returns-then-has_submix-clause-entry c =
    let r = c.in_ok-entry.ensures in
    let e = c.in_ok-entry.entry in
    let is : is_submix (slice_index_or e.scales 0 0) (bit_at e.mono 0 == 1) (entry_slot e 0).gains (entry_slot e 0).flush (entry_slot e 0).seen ≡ true = search rules in
    mix-adds c.args.state c.args.frames.now.items c.read_slots.new.frames.items c.args.left.now.rest.now c.read_slots.new.left.rest.now e r.0 r.1 r.2 r.3 r.4 r.5 is
