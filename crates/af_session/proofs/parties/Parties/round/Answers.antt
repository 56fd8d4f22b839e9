use Rattle.std.proofs.Common.{◌+◌, ◌∙◌, sym}
use Rattle.af_session.proofs.Common.{SessionState, round_told}
use Rattle.af_session.proofs.CarriedOn.{carried_on}
use Rattle.af_session.proofs.FollowingRounds.{told_met}
use Rattle.af_session.proofs.parties.Parties.round.Goals as goal

pub meet_all-requires : goal.meet_all-requires
meet_all-requires g c = record { ready = (c.requires.ready.0 + 1, c.play.ensures.ready c.requires.ready.0 c.requires.ready.2) }

pub returns-clause-carried : goal.returns-clause-carried
returns-clause-carried g c =
    let was : SessionState = c.args.self.now in
    let n = c.requires.ready.0 in
    let before = c.play.ensures.ready n c.requires.ready.2 in
    let after = c.meet_all.ensures.ready (n + 1) before in
    let long = sym after.given.0 ∙ before.given.0 in
    let did = c.play.ensures in
    carried_on was c.play.new.self c.meet_all.new.self c.end_clients.new.self c.meet_all.ensures.met long c.end_clients.ensures c.args.rig.now (round_told c.args.turn was c.play.new.self) (round_told c.args.turn was c.end_clients.new.self) c.args.room.now c.play.new.room
    (told_met c.args.turn was c.play.new.self c.meet_all.new.self c.end_clients.new.self c.meet_all.ensures.met long c.end_clients.ensures)
    before.together.fast.0
    c.meet_all.ensures.ready
    (record { ready = did.ready; sizes = did.sizes; kept = did.kept; tally = did.tally; places = did.places })

pub returns-clause-round : goal.returns-clause-round
returns-clause-round g c =
    let n = c.requires.ready.0 in
    let before = c.play.ensures.ready n c.requires.ready.2 in
    let after = c.meet_all.ensures.ready (n + 1) before in
    let played = c.play.ensures.turns in (
      played.0,
      played.1,
      played.2,
      record {
        turned = c.play.new.self;
        met = c.meet_all.new.self;
        turns = played.3;
        meets = c.meet_all.ensures.met;
        ends = c.end_clients.ensures;
        together = record { links = c.args.rig.now.links; before = c.requires.ready.2.together; turned = before.together; met = after.together };
      },
    )
