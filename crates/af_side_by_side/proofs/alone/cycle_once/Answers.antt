use Rattle.std.proofs.Common.{[], refl, sym, subst, ◌∙◌, arith}
use Rattle.af_side_by_side.proofs.Common.{IsTally, IsWhole, MixerState, Shown, noted_from, polled_keeps, room_same}
use Rattle.af_session.proofs.Following.{shown_adopted}
use Rattle.af_side_by_side.proofs.alone.cycle_once.Goals as goal

pub mix_in-requires : goal.mix_in-requires
mix_in-requires g c =
    let polled = polled_keeps c.args.fast.now c.adopt.new.self c.adopt.ensures.adopts in
    record {
      can = record { linked = c.adopt.ensures.linked; order = c.adopt.ensures.order [] c.requires.can.order; polled = polled.3; whole = subst IsWhole (sym polled.0) c.requires.can.whole };
      poll = omega (arith, c.adopt.ensures.steps, c.start-steps.ensures);
      room = room_same c.args.fast.now c.adopt.new.self c.args.room.now polled.0 polled.1 c.requires.room;
    }

pub returns : goal.returns
returns g c =
    let m : MixerState = c.args.fast.now in
    let p : MixerState = c.adopt.new.self in
    let adopts = c.adopt.ensures.adopts in
    let did = c.mix_in.ensures in
    let polled = polled_keeps m p adopts in
    let order = c.requires.can.order in
    let tally = c.args.room.now.tally in
    record {
      can = did.can;
      cycle = record {
        polled = p;
        adopts = adopts;
        polled_in = (c.adopt.ensures.order [] order, c.adopt.ensures.linked);
        before = c.args.room.now.buffer.items;
        after = c.mix_in.new.room.buffer.items;
        long = c.requires.room.buffer;
        mixes = did.mixes;
        mixed_in = (did.can.order, did.can.linked);
        sizes = (did.sizes.0 ∙ polled.1, did.sizes.1 ∙ polled.2);
        bytes_are = refl;
      };
      bytes = did.bytes;
      noted = noted_from m p c.mix_in.new.fast tally c.mix_in.new.room.tally polled.0
          (λ first tracks rounds is. did.noted.follows first tracks rounds
          (subst (λ (run : Shown). IsTally run tally) (sym (shown_adopted first tracks rounds m p order adopts)) is)) did.noted;
      kept = did.kept;
    }
