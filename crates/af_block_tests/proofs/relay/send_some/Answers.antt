use Rattle.std.proofs.Common.{◌≡◌, true, List, sym, subst}
use Rattle.af_base.specs.declared.event.ClientCall.TheVariants as call
use Rattle.af_base.specs.declared.event.ClientEvent.{ClientEvent}
use Rattle.af_model.specs.History.{is_lawful}
use Rattle.af_cblk.specs.declared.view.ClientPart.{ClientPart}
use Rattle.af_client.proofs.Kept.{lawful_call}
use Rattle.af_block_tests.proofs.relay.send_some.Goals as goal

pub returns-in-Put-clause-lawful : goal.returns-in-Put-clause-lawful
returns-in-Put-clause-lawful g c = λ ok.
    let p : ClientPart = c.args.client.now.pass.part in
    subst (λ (es : List ClientEvent). is_lawful es ≡ true) (sym c.in-Put.ensures.does.1) (lawful_call p.shape.frames p.shape.base p.events (call.Put c.in-Put.front c.in-Put.count) (λ e. e) ok)

pub returns-in-Full-clause-lawful : goal.returns-in-Full-clause-lawful
returns-in-Full-clause-lawful g c = λ ok.
    let p : ClientPart = c.args.client.now.pass.part in
    subst (λ (es : List ClientEvent). is_lawful es ≡ true) (sym c.in-Full.ensures.does.1) (lawful_call p.shape.frames p.shape.base p.events (call.Full c.in-Full.front) (λ e. e) ok)

pub returns-in-Dead-clause-lawful : goal.returns-in-Dead-clause-lawful
returns-in-Dead-clause-lawful g c = λ ok.
    let p : ClientPart = c.args.client.now.pass.part in
    subst (λ (es : List ClientEvent). is_lawful es ≡ true) (sym c.in-Dead.ensures.does.1) (lawful_call p.shape.frames p.shape.base p.events (call.Dead c.in-Dead.flags) (λ e. e) ok)
