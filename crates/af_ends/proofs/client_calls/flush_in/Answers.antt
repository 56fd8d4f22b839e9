use Rattle.std.proofs.Common.{◌≡◌, true, refl, sym, subst}
use Rattle.af_base.specs.declared.event.ClientEvent.TheVariants as client
use Rattle.af_model.specs.History.{is_lawful}
use Rattle.af_model.proofs.Counts.{lawful_more}
use Rattle.af_cblk.specs.declared.view.ClientPart.{ClientPart}
use Rattle.af_ends.proofs.client_calls.flush_in.Goals as goal

pub returns-clause-ready : goal.returns-clause-ready
returns-clause-ready g c =
    (c.flush.ensures.ready, subst (λ (x : ClientPart). is_lawful x.events ≡ true) (sym c.flush.ensures.flushed) (lawful_more c.args.client.now.pass.part.events (client.Flush) refl c.requires.ready.1))
