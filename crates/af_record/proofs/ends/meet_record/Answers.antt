use Rattle.std.proofs.Common.{◌≡◌, ◌+◌, true, length, sym, ap, ◌∙◌}
use Rattle.af_record.proofs.Common.{ClientState, Made, ServerState, is_lawful, nothing_put}
use Rattle.af_record.proofs.Puts.{writes_met}
use Rattle.af_record.proofs.OneRead.{reads_met}
use Rattle.af_record.proofs.TapeOrders.{supplies_lawful}
use Rattle.af_record.proofs.BothMet.{met_history, met_calm}
use Rattle.af_record.proofs.Fronts.{sees_taken}
use Rattle.af_record.proofs.Histories.{capture_history}
use Rattle.af_record.proofs.Rears.{sees_put}
use Rattle.af_record.proofs.Rooms.{sees_room}
use Rattle.af_record.proofs.ends.meet_record.Goals as goal

pub invariant_of-from : goal.invariant_of-from
invariant_of-from g c =
    let k = c.from.invariant in
    let is = c.meet_track.ensures.client in
    let theirs = c.to.inside.server.pass.part.events in
    record {
      in_order = c.meet_track.ensures.ready.0.1;
      writes = writes_met c.from.inside.client.pass.part c.meet_track.new.client.pass.part theirs k.writes (ap (λ (x : ClientState). x.pass.part) is);
      released_is = ap (λ (x : ClientState). x.released) is ∙ k.released_is ∙ sym (ap (λ (x : ClientState). length x.pass.part.frames) is);
      supplied_is = k.supplied_is ∙ sym (ap (λ (x : ClientState). length x.pass.part.frames + c.from.inside.lost) is);
    }

pub invariant_of-to : goal.invariant_of-to
invariant_of-to g c =
    let k = c.to.invariant in
    let is = c.meet_track.ensures.server in
    record {
      in_order = c.meet_track.ensures.ready.1.1;
      reads = reads_met c.to.inside.server.pass.part c.meet_track.new.server.pass.part (length c.from.inside.client.pass.part.events) (ap (λ (x : ServerState). x.pass.part) is) k.reads;
      hand = ap (λ (x : ServerState). x.pass.has_hand) is ∙ k.hand;
      total_is = k.total_is ∙ sym (ap (λ (x : ServerState). length x.pass.part.frames) is);
    }

pub returns-clause-order : goal.returns-clause-order
returns-clause-order g c =
    let ready = c.meet_track.ensures.ready in
    let lawful : is_lawful c.from.inside.client.pass.part.events ≡ true = supplies_lawful _ nothing_put _ c.from.invariant.writes.list in
    let told = c.meet_track.ensures.history lawful in
    met_history c.args.block.now.shape c.meet_track.new.client.pass.part c.meet_track.new.server.pass.part c.meet_track.new.server.shown told.0
    (ap (λ (m : Made). m.shape) ready.0.0) (ap (λ (m : Made). m.shape) ready.1.0) (invariant_of-from g c).writes (invariant_of-to g c).reads ready.1.1.spelled (told.1 c.to.invariant.hand) told.2

pub returns-clause-calm : goal.returns-clause-calm
returns-clause-calm g c =
    let ready = c.meet_track.ensures.ready in
    let lawful : is_lawful c.from.inside.client.pass.part.events ≡ true = supplies_lawful _ nothing_put _ c.from.invariant.writes.list in
    let told = c.meet_track.ensures.history lawful in
    met_calm c.args.block.now.shape c.meet_track.new.client.pass.part c.meet_track.new.server.pass.part c.meet_track.new.server.shown told.0
    (ap (λ (m : Made). m.shape) ready.0.0) (ap (λ (m : Made). m.shape) ready.1.0) (invariant_of-from g c).writes (invariant_of-to g c).reads ready.1.1.spelled (told.1 c.to.invariant.hand) told.2
    (sym ready.1.1.shut_is ∙ c.meet_track.ensures.unshut lawful)

pub returns-clause-history : goal.returns-clause-history
returns-clause-history g c = λ ss rs came read. capture_history ss rs _ _ (returns-clause-order g c).begins came read

pub returns-clause-rears : goal.returns-clause-rears
returns-clause-rears g c = sees_put _ _ _ _ _ (returns-clause-order g c)

pub returns-clause-fronts : goal.returns-clause-fronts
returns-clause-fronts g c = sees_taken _ _ _ _ _ (returns-clause-order g c)

pub returns-clause-rooms : goal.returns-clause-rooms
returns-clause-rooms g c = sees_room _ _ _ _ _ (returns-clause-order g c)
