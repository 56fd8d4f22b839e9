use Rattle.std.proofs.Common.{◌≡◌, true, Result, List, sym, subst}
use Rattle.af_base.specs.declared.event.ClientEvent.{ClientEvent}
use Rattle.af_model.specs.History.{is_lawful}
use Rattle.af_cblk.specs.declared.view.ClientPart.{ClientPart}
use Rattle.af_client.specs.Sends.{sent_call}
use Rattle.af_client.proofs.Kept.{lawful_call}
use Rattle.af_mixer_ends.specs.declared.error.CommandError.{CommandError}
use Rattle.af_mixer_ends.specs.Tracks.{Sends}
use Rattle.af_mixer_ends.proofs.Told.{calm, told_sends}
use Rattle.af_mixer_ends.proofs.sending.send_in.Goals as goal

pub returns-clause-ready : goal.returns-clause-ready
returns-clause-ready g c =
    let p : ClientPart = c.args.command.now.pass.part in
    let answer = sent_call c.args.code c.args.argument c.send.result in
    let lawful = subst (λ (es : List ClientEvent). is_lawful es ≡ true) (sym c.send.ensures.does.1) (lawful_call p.shape.frames p.shape.base p.events answer (calm c.args.code c.args.argument c.send.result) c.requires.ready.0.1) in
    ((c.send.ensures.ready, lawful), c.requires.ready.1)

pub returns-clause-sends : goal.returns-clause-sends
returns-clause-sends g c =
    subst (λ (r : Result (Unit {0}) CommandError). Sends c.args.command.now c.args.code c.args.argument r c.send.new.self) (sym c.told.ensures)
    (told_sends c.args.command.now c.args.code c.args.argument c.send.result c.send.new.self c.send.ensures.does c.send.ensures.releases (c.send.ensures.kept.0, c.send.ensures.kept.1) (c.send.ensures.lawful c.requires.ready.0.1))
