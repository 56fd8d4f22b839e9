use Rattle.std.proofs.Common.{[], refl, sym, subst, ◌∙◌, arith}
use Rattle.af_session.proofs.Common.{IsInOrder, IsWhole, SessionState}
use Rattle.af_session.specs.Together.{AreTogether}
use Rattle.af_session.proofs.FastAdds.{met_keeps, polled_keeps}
use Rattle.af_session.proofs.Following.{follows_cycle}
use Rattle.af_session.proofs.RoomsKept.{noted_from, room_same}
use Rattle.af_session.proofs.fast_turns.fast_cycle.Goals as goal

pub meet-requires : goal.meet-requires
meet-requires g c = let t = c.requires.together in record { normal = t.normal; fast = (c.adopt.ensures.order [] t.fast.0, c.adopt.ensures.linked); count = t.count; tracks = t.tracks; clients = t.clients }

-- the polled mixer has the sizes and the log that it had, and stays so in the meetings
pub mix_in-requires : goal.mix_in-requires
mix_in-requires g c =
    let s : SessionState = record { clients = c.args.clients.now; normal = c.args.normal.now; fast = c.args.fast.now } in
    let met : SessionState = record { clients = c.meet.new.clients; normal = c.meet.new.normal; fast = c.meet.new.fast } in
    let polled = polled_keeps s.fast c.adopt.new.self c.adopt.ensures.adopts in
    let kept = met_keeps (record s { fast = c.adopt.new.self }) met c.meet.ensures.met in
    let t = c.meet.ensures.together in
    record {
      can = record { linked = t.fast.1; order = t.fast.0; polled = kept.3 ∙ polled.3; whole = subst IsWhole (sym (kept.0 ∙ polled.0)) c.requires.whole };
      poll = omega (arith, c.adopt.ensures.steps, c.start-taken.ensures);
      room = room_same s.fast met.fast c.args.room.now (kept.0 ∙ polled.0) (kept.1 ∙ polled.1) c.requires.room;
    }

pub returns : goal.returns
returns g c =
    let s : SessionState = record { clients = c.args.clients.now; normal = c.args.normal.now; fast = c.args.fast.now } in
    let met : SessionState = record { clients = c.meet.new.clients; normal = c.meet.new.normal; fast = c.meet.new.fast } in
    let after : SessionState = record met { fast = c.mix_in.new.fast } in
    let did = c.mix_in.ensures in
    let log = (met_keeps (record s { fast = c.adopt.new.self }) met c.meet.ensures.met).0 ∙ (polled_keeps s.fast c.adopt.new.self c.adopt.ensures.adopts).0 in
    let t = c.requires.together in
    let u = c.meet.ensures.together in
    let polled : IsInOrder c.adopt.new.self = c.adopt.ensures.order [] t.fast.0 in
    let mixed : AreTogether c.args.links.now after =
    record { normal = u.normal; fast = (did.can.order, did.can.linked); count = u.count; tracks = u.tracks; clients = u.clients } in
    let turned : AreTogether c.args.links.now (record s { fast = c.adopt.new.self }) =
    record { normal = t.normal; fast = (polled, c.adopt.ensures.linked); count = t.count; tracks = t.tracks; clients = t.clients } in
    record {
      together = mixed;
      between = did.can.between;
      cycle = record {
        polled = c.adopt.new.self;
        met = met;
        adopts = c.adopt.ensures.adopts;
        meets = c.meet.ensures.met;
        mixes = did.mixes;
        sizes = did.sizes;
        others = refl;
        order = (polled, u.fast.0, did.can.order);
        together = record { links = c.args.links.now; before = t; turned = turned; met = u };
        mixed = mixed;
      };
      bytes = did.bytes;
      noted = noted_from s.fast met.fast after.fast c.args.room.now.tally c.mix_in.new.room.tally log
          (follows_cycle s c.adopt.new.self met after.fast c.args.room.now.tally c.mix_in.new.room.tally t.fast.0 polled c.adopt.ensures.adopts
          c.meet.ensures.met did.noted.follows) did.noted;
      kept = did.kept;
    }
