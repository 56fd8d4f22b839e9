use Rattle.std.proofs.Common.{ℕ, ◌+◌, ◌<◌, refl, false, sym, ap, subst}
use Rattle.af_client.proofs.Common.{Made}
use Rattle.af_base.specs.declared.event.ClientCall.TheVariants as call
use Rattle.af_base.specs.declared.event.ClientEvent.TheVariants as client
use Rattle.af_client.proofs.Kept.{quiet_keeps}
use Rattle.af_client.proofs.client.Client.poke.Goals as goal

pub returns-clause-ready : goal.returns-clause-ready
returns-clause-ready g c =
    let word : c.args.word < 7 + c.args.self.now.pass.part.shape.cells = subst (λ (n : ℕ). c.args.word < 7 + n) (ap (λ (x : Made). x.shape.cells) (sym c.requires.ready.0)) c.requires.word in
    (c.poke.ensures.made, quiet_keeps c.args.self.now _ c.poke.new.pass (call.Poke false c.args.word c.args.value) (client.Poke c.args.word c.args.value) c.requires.ready.1 word refl refl refl c.self.view_is c.poke.ensures.poked)
