use Rattle.std.proofs.Common.{◌≡◌, List, subst, sym, rules}
use Rattle.af_journal.proofs.Common.{flat_map, range_with_len, slots}
use Rattle.af_journal.specs.Lines.{Written}
use Rattle.af_journal.specs.Texts.{GoesOn}
use Rattle.af_journal.specs.Logged.{logged_slot, logged_slots}
use Rattle.af_journal.proofs.Texts.{goes-then, range-more}
use Rattle.af_journal.proofs.fast.add_slots.Goals as goal

pub loop-slot-preserved : goal.loop-slot-preserved
loop-slot-preserved c = let f = logged_slot c.args.frames.now c.args.entry.now in let i = c.loop-slot.slot in
    let added : GoesOn c.loop-slot.text.bytes.items (f i) c.add_slot.new.text.bytes.items = search rules in
    subst (λ (lines : List Written). GoesOn c.args.text.now.bytes.items lines c.add_slot.new.text.bytes.items) (sym (range-more f i))
    (goes-then c.args.text.now.bytes.items c.loop-slot.text.bytes.items c.add_slot.new.text.bytes.items (flat_map f (range_with_len 0 i)) (f i) c.loop-slot.invariant added)

pub returns : goal.returns
unfolding logged_slots
returns c = let f = logged_slot c.args.frames.now c.args.entry.now in
    let all : c.loop-slot.slot ≡ slots = search rules in
    subst (λ n. GoesOn c.args.text.now.bytes.items (flat_map f (range_with_len 0 n)) c.loop-slot.text.bytes.items) all c.loop-slot.invariant
