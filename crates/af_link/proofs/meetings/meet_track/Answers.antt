use Rattle.std.proofs.Common.{◌≡◌, ap, ◌∙◌}
use Rattle.af_cblk.specs.Parts.{client_met}
use Rattle.af_cblk.specs.Sides.{ClientSide}
use Rattle.af_client.proofs.Kept.{met_keeps}
use Rattle.af_link.proofs.meetings.meet_track.Goals as goal

pub returns-clause-ready : goal.returns-clause-ready
returns-clause-ready g c =
    let old = c.args.client.now in
    let theirs = c.args.server.now.pass.part.events in
    let is : c.meet.new.client.part ≡ client_met old.pass.part theirs = c.meet.ensures.client ∙ ap (λ (p : ClientSide). client_met p.part theirs) c.pass.ensures.value in
    ((c.meet.ensures.made, met_keeps old.pass.part c.meet.new.client.part old.rear old.flushes old.released old.shut theirs c.requires.ready.0.1 is), c.meet.ensures.ready)
