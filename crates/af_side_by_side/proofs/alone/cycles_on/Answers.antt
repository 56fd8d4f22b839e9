use Rattle.std.proofs.Common.{◌≡◌, ℕ, ◌++◌, false, true, List, [], length, refl, sym, ◌∙◌, arith}
use Rattle.af_side_by_side.proofs.Common.{CyclesOnce, goes_first, goes_on, goes_over, goes_whole, in_room_first, in_room_fits, in_room_more, is_mixed, most_cycles, written}
use Rattle.af_side_by_side.proofs.ScribeTurns.{cycle_adds_up_to_one, no_shorter, noted_more, noted_none}
use Rattle.af_side_by_side.proofs.alone.cycles_on.Goals as goal

pub loop-i-init : goal.loop-i-init
loop-i-init c =
    let m = c.args.fast.now in
    record {
      can = c.requires.can;
      turn = ([], in_room_first m c.args.room.now, goes_first (CyclesOnce c.args.links.now) most_cycles m);
      longer = omega arith;
      scribe = c.requires.log;
      logged = noted_none (length m.log.entries) m c.args.scribe.now refl;
    }

-- ## A cycle

pub cycle_logged-cycle-requires : goal.cycle_logged-cycle-requires
cycle_logged-cycle-requires c =
    let inv = c.loop-i.invariant in
    record {
      can = inv.can;
      room = in_room_fits c.args.fast.now c.loop-i.fast c.loop-i.i inv.turn.0 c.args.room.now c.loop-i.room inv.turn.1 most_cycles c.requires.room
          (omega (arith, c.loop-i-test.true));
      log = inv.scribe;
    }

pub loop-i-preserved : goal.loop-i-preserved
loop-i-preserved c =
    let l = c.loop-i in
    let call = c.cycle_logged-cycle in
    let did = call.ensures in
    let more : List ℕ = written call.result call.new.room.buffer.items in
    let turn = l.invariant.turn in
    let cycle : CyclesOnce c.args.links.now l.fast call.result more call.new.fast = did.cycle in
    let mixed : is_mixed call.result ≡ true = sym c.is_mixed.ensures ∙ c.if-not-is_mixed.false in
    let adds = cycle_adds_up_to_one c.args.links.now l.fast call.new.fast call.result more cycle in
    record {
      can = did.can;
      turn = (
        turn.0 ++ more,
        in_room_more c.args.fast.now l.fast l.i turn.0 c.args.room.now l.room turn.1 call.new.fast call.new.room call.result c.requires.room.buffer cycle.sizes
            did.noted did.kept did.bytes,
        goes_on (CyclesOnce c.args.links.now) most_cycles c.args.fast.now l.i l.fast call.new.fast call.result turn.0 more turn.2 cycle mixed,
      );
      longer = (let here = no_shorter l.fast call.new.fast adds in let before = l.invariant.longer in omega (arith, here, before));
      scribe = did.scribe;
      logged = noted_more (length c.args.fast.now.log.entries) l.fast call.new.fast c.args.scribe.now l.scribe call.new.scribe l.invariant.longer cycle.sizes.0
          adds l.invariant.logged did.logged;
    }

-- ## After the last

pub returns-then-not-is_mixed : goal.returns-then-not-is_mixed
returns-then-not-is_mixed c =
    let l = c.loop-i in
    let call = c.cycle_logged-cycle in
    let did = call.ensures in
    let more : List ℕ = written call.result call.new.room.buffer.items in
    let turn = l.invariant.turn in
    let cycle : CyclesOnce c.args.links.now l.fast call.result more call.new.fast = did.cycle in
    let dry : is_mixed call.result ≡ false = sym c.is_mixed.ensures ∙ c.if-not-is_mixed.true in
    let over = goes_over (CyclesOnce c.args.links.now) most_cycles c.args.fast.now l.i l.fast call.new.fast call.result turn.0 more turn.2 cycle dry
    (omega arith) in
    let all = in_room_more c.args.fast.now l.fast l.i turn.0 c.args.room.now l.room turn.1 call.new.fast call.new.room call.result c.requires.room.buffer
    cycle.sizes did.noted did.kept did.bytes in
    record {
      can = did.can;
      sizes = all.sizes;
      turned = (turn.0 ++ more, all.bytes, over);
      noted = all.noted;
      kept = all.kept;
      scribe = did.scribe;
      logged = noted_more (length c.args.fast.now.log.entries) l.fast call.new.fast c.args.scribe.now l.scribe call.new.scribe l.invariant.longer cycle.sizes.0
          (cycle_adds_up_to_one c.args.links.now l.fast call.new.fast call.result more cycle) l.invariant.logged did.logged;
    }

pub returns : goal.returns
returns c =
    let inv = c.loop-i.invariant in
    let turn = inv.turn in
    let whole = goes_whole (CyclesOnce c.args.links.now) most_cycles c.args.fast.now c.loop-i.i c.loop-i.fast turn.0 (omega arith) turn.2 in
    record {
      can = inv.can;
      sizes = turn.1.sizes;
      turned = (turn.0, turn.1.bytes, whole);
      noted = turn.1.noted;
      kept = turn.1.kept;
      scribe = inv.scribe;
      logged = inv.logged;
    }
