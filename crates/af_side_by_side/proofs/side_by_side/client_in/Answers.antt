use Rattle.std.proofs.Common.{ap, sym, ◌∙◌}
use Rattle.af_side_by_side.proofs.Common.{Given, IsGiven, PartyState, given_of, is_given, legal_turn, work_asked, work_left}
use Rattle.af_side_by_side.proofs.side_by_side.client_in.Given.{Over}
use Rattle.af_side_by_side.proofs.side_by_side.client_in.Goals.{After-frames-file}
use Rattle.af_side_by_side.proofs.side_by_side.client_in.Goals as goal

-- the client is given the ops and the file of its track
asked : (g : Over) (c : After-frames-file g) → IsGiven (given_of c.args.rig.now) c.args.client.now.track c.as_slice-ops.result.now c.frames-file.result.now
asked g c = is_given (given_of c.args.rig.now) c.args.client.now.track c.client.inside.track c.index-rig-track.result c.as_slice-ops.result.now
    c.index-rig-track-2.result c.frames-file.result.now (ap (λ (q : PartyState). q.track) c.client.view_is) c.requires.can.track
    c.index-rig-track.is c.as_slice-ops.ensures.ops c.index-rig-track-2.is (c.frames-file.ensures ∙ sym c.index-rig-track-2.is)

pub turn-requires : goal.turn-requires
turn-requires g c =
    let can = c.requires.can in
    let is = asked g (goal.at.turn-requires g c).After-frames-file in
    let work = work_asked (given_of c.args.rig.now) c.args.client.now.track c.as_slice-ops.result.now c.frames-file.result.now is c.args.client.now can.work in
    record { clients = can.clients; work = work; few = can.few }

pub returns : goal.returns
returns g c =
    let given : Given = given_of c.args.rig.now in
    let was = c.args.client.now in
    let is = asked g (goal.at.returns g c).After-frames-file in
    let did = c.turn.ensures in
    let turn = legal_turn given was.track c.as_slice-ops.result.now c.frames-file.result.now is was c.turn.new.self did.legal did.turned in
    record {
      played = record { legal = turn.0; turned = turn.1 };
      track = did.track;
      clients = did.clients;
      work = work_left given was.track c.as_slice-ops.result.now c.frames-file.result.now is c.turn.new.self did.work;
      few = did.few;
    }
