use Rattle.std.proofs.Common.{◌≡◌, true, refl, sym, subst}
use Rattle.af_base.specs.declared.event.ClientEvent.TheVariants as client
use Rattle.af_model.specs.History.{is_lawful}
use Rattle.af_model.proofs.Counts.{lawful_more}
use Rattle.af_cblk.specs.declared.view.ClientPart.{ClientPart}
use Rattle.af_block_tests.proofs.relay.stir.Goals as goal

pub returns-then-flushes-lt60000-clause-lawful : goal.returns-then-flushes-lt60000-clause-lawful
returns-then-flushes-lt60000-clause-lawful g c = λ ok.
    let first : is_lawful c.set_gains.new.self.pass.part.events ≡ true =
    subst (λ (x : ClientPart). is_lawful x.events ≡ true) (sym c.set_gains.ensures.set) (lawful_more c.args.client.now.pass.part.events (client.SetGain c.args.gains) refl ok) in
    subst (λ (x : ClientPart). is_lawful x.events ≡ true) (sym c.flush.ensures.flushed) (lawful_more c.set_gains.new.self.pass.part.events client.Flush refl first)

pub returns-else-flushes-lt60000-clause-lawful : goal.returns-else-flushes-lt60000-clause-lawful
returns-else-flushes-lt60000-clause-lawful g c = λ ok.
    subst (λ (x : ClientPart). is_lawful x.events ≡ true) (sym c.set_gains.ensures.set) (lawful_more c.args.client.now.pass.part.events (client.SetGain c.args.gains) refl ok)
