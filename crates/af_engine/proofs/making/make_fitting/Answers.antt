use Rattle.std.proofs.Common.{List, length, sym, subst}
use Rattle.af_engine.proofs.Common.{AreNewTracks, EndStates, IsNewTrack, Made, SharedState}
use Rattle.af_engine.proofs.Begins.{settings_are, scales_fit, are_new, together, new_engine}
use Rattle.af_engine.proofs.making.make_fitting.Goals as goal

pub make_mixers-requires-clause-scales : goal.make_mixers-requires-clause-scales
make_mixers-requires-clause-scales c =
    let specs = c.args.spec.now.tracks.now in
    let made = c.in_ok-made.made in
    scales_fit specs made.tracks.settings (settings_are specs made.streams.items made.commands.items made.clients.items made.tracks c.in_ok-made.ensures) c.requires.tracks

pub returns : goal.returns
returns c =
    let spec = c.args.spec.now in
    let specs = spec.tracks.now in
    let made = c.in_ok-made.made in
    let shared : SharedState = c.in_ok-shared.shared in
    let ends = c.in_ok-shared.ends in
    let mixers = c.in_ok-mixers.mixers in
    let are = c.in_ok-mixers.ensures in
    let blocks = c.in_ok-shared.ensures.blocks in
    let e : EndStates = record { mutator = ends.mutator; reader = ends.reader; from = ends.from; observer = ends.observer; writer = ends.writer; to = ends.to } in
    let ts : AreNewTracks IsNewTrack (length specs) specs shared.streams shared.commands made.clients.items made.tracks =
    subst (λ (x : List Made × List Made). AreNewTracks IsNewTrack (length specs) specs x.0 x.1 made.clients.items made.tracks) (λ i. (sym blocks.0 i, sym blocks.1 i)) c.in_ok-made.ensures in
    record {
      new = new_engine spec shared made.clients.items made.tracks e mixers.normal mixers.fast ts c.in_ok-shared.ensures.ends are.normal are.fast.0;
      together = (λ links l.
          let new = are_new specs shared made.clients.items made.tracks ts links l spec.frames spec.normal e c.in_ok-shared.ensures.ends in
          together specs shared made.clients.items made.tracks ts links l spec.frames spec.normal e c.in_ok-shared.ensures.ends spec.cycles mixers.normal mixers.fast are.normal (are.order links new) are.fast.0 are.fast.1);
    }
