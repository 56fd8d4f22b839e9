use Rattle.std.proofs.Common.{sym, ◌∙◌, arith}
use Rattle.af_judge.proofs.Common.{CommandLook}
use Rattle.af_base.specs.declared.seen.Seen.TheVariants as seen
use Rattle.af_judge.proofs.LooksDue.{none_beyond, one_on, one_after, stops_there, all_made, settles_more}
use Rattle.af_judge.proofs.due_looks.Ready.are_due.Goals as goal

-- a look at nothing
no_look : CommandLook
no_look = record { flush = 0; rear = 0; seen = seen.Absent; code = 0; argument = 0 }

pub returns-then-made-eq-MOST_LOOKS : goal.returns-then-made-eq-MOST_LOOKS
returns-then-made-eq-MOST_LOOKS c = sym (none_beyond c.args.self.given c.args.self.heard.flush_seen c.args.looks.now c.args.self.track c.loop-made.made no_look c.loop-made-test.true c.if-made-eq-MOST_LOOKS.true c.loop-made.invariant.all)

pub returns-then-not-goes_on : goal.returns-then-not-goes_on
returns-then-not-goes_on c =
    let i = c.loop-made.invariant in
    let few = i.few in let other = c.if-made-eq-MOST_LOOKS.false in
    sym (stops_there c.args.self.given c.args.self.heard.flush_seen c.args.looks.now c.args.self.track c.loop-made.made _ c.loop-made-test.true c.loop-made.track c.after_look-track.result i.all i.is c.after_look-track.ensures (omega (arith, few, other))
    (sym c.goes_on.ensures ∙ c.if-not-goes_on.true))

pub loop-made-preserved : goal.loop-made-preserved
loop-made-preserved c =
    let i = c.loop-made.invariant in
    let few = i.few in let other = c.if-made-eq-MOST_LOOKS.false in
    let low = i.settled in let one = settles_more c.args.self.given c.args.self.heard.flush_seen _ c.loop-made.track c.after_look-track.result c.after_look-track.ensures in
    record {
      few = omega (arith, few, other);
      all = one_on c.args.self.given c.args.self.heard.flush_seen c.args.looks.now c.args.self.track c.loop-made.made _ c.loop-made-test.true c.loop-made.track c.after_look-track.result i.all i.is c.after_look-track.ensures (sym c.goes_on.ensures ∙ c.if-not-goes_on.false);
      is = one_after c.args.self.given c.args.self.heard.flush_seen c.args.looks.now c.args.self.track c.loop-made.made _ c.loop-made-test.true c.loop-made.track c.after_look-track.result i.all i.is c.after_look-track.ensures;
      settled = omega (arith, low, one);
    }

pub returns : goal.returns
returns c = sym (all_made c.args.self.given c.args.self.heard.flush_seen c.args.looks.now c.args.self.track c.loop-made.made c.loop-made-test.false c.loop-made.invariant.few c.loop-made.invariant.all)
