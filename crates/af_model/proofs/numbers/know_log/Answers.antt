use Rattle.std.proofs.Common.{◌≡◌, ◌<◌, length, subst, arith, rules}
use Rattle.af_model.proofs.Common.{All, All-more, entry_at, no_entry, take_all}
use Rattle.af_model.specs.Numbers.{FitsEntry}
use Rattle.af_model.proofs.numbers.know_log.Goals as goal

pub loop-i-preserved : goal.loop-i-preserved
loop-i-preserved c =
    let is : c.in-Some.entry.now ≡ entry_at c.args.log.now.entries c.loop-i.i = search rules in
    let inside : c.loop-i.i < length c.args.log.now.entries = search rules in
    All-more FitsEntry c.args.log.now.entries c.loop-i.i no_entry inside c.loop-i.invariant (subst FitsEntry is c.know_entry.ensures)

pub returns : goal.returns
returns c = subst (All FitsEntry) (take_all c.loop-i.i c.args.log.now.entries (omega (arith, c.len-i-end.ensures, c.loop-i-test.false, c.loop-i.auto.i-end))) c.loop-i.invariant
