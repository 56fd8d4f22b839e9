use Rattle.std.proofs.Common.{rules, arith, ◌≡◌, ℕ, ◌+◌, ◌-◌, ◌%◌, ◌<◌, ◌≤◌, true, MatchOption, Option, None, refl, sym, ap, ◌∙◌, subst}
use Rattle.af_client.proofs.Common.{ClientPart, Made, client_did, client_saw_front, filled, is_lawful, lawful_more, released, wrapped}
use Rattle.af_base.specs.declared.event.ClientEvent.TheVariants as client
use Rattle.af_client.specs.Order.{ClientState}
use Rattle.af_client.specs.Calls.{saw_both}
use Rattle.af_client.proofs.Stores.{filled-word}
use Rattle.af_client.proofs.Opened.{recorded-none}
use Rattle.af_client.proofs.client.Client.open.Goals as goal

pub returns-then-filled-frames-clause-opens : goal.returns-then-filled-frames-clause-opens
returns-then-filled-frames-clause-opens g c =
    let old : ClientState = c.args.self.now in
    let none : old.shut ≡ None = search rules in
    let flags = c.load_flags-flags in
    let found = c.load_front-front in
    let p : ClientPart = old.pass.part in
    let m : ClientPart = flags.new.pass.part in
    let q : ClientPart = found.new.pass.part in
    let unset : ℕ = flags.result in
    let first : m ≡ client_did p (client.SawFlags 0) =
    flags.ensures.saw ∙ ap (λ (x : ClientPart × ℕ). client_did x.0 (client.SawFlags x.1)) (λ i. ((c.self.view_is i).pass.part, recorded-none unset c.if-flags-ne0.false i)) in
    let both : q ≡ saw_both p found.result = found.ensures.saw.0 ∙ ap (λ (x : ClientPart). client_saw_front x found.result) first in
    let rear : c.self.inside.rear ≡ old.rear = ap (λ (x : ClientState). x.rear) c.self.view_is in
    let rear_is : c.self.inside.rear ≡ wrapped (released m) = rear ∙ c.requires.ready.1.rear_is ∙ ap (λ (x : ClientPart). wrapped (released x)) (sym first) in
    let many : filled q ≡ (c.self.inside.rear + (4294967296 - found.result)) % 4294967296 = filled-word m q c.self.inside.rear found.result rear_is found.type_inv found.ensures.saw.0 in
    let size : c.frames.result ≡ p.shape.frames = c.frames.ensures.value ∙ ap (λ (x : Made). x.shape.frames) (sym c.requires.ready.0) in
    let beyond : p.shape.frames < filled q = (let a = c.if-filled-frames.true in omega arith) in
    let sizes : q.shape.frames ≡ p.shape.frames = ap (λ (x : ClientPart). x.shape.frames) both in
    let never : is_lawful p.events ≡ true → ⊥ = (λ ok.
    let ok' : is_lawful m.events ≡ true = subst (λ (x : ClientPart). is_lawful x.events ≡ true) (sym first) (lawful_more p.events (client.SawFlags 0) refl ok) in
    let low : filled q ≤ q.shape.frames = found.ensures.saw.1 ok' in
    omega arith) in
    (refl, subst (λ (o : Option (ℕ × ℕ)). MatchOption o ((q ≡ saw_both p found.result) × (c.self.inside.rear ≡ old.rear) × (p.shape.frames < filled q) × (is_lawful p.events ≡ true → ⊥)) (λ words. (words ≡ (found.result, c.self.inside.rear)) × (q ≡ p))) (sym none) (both, rear, beyond, never))
