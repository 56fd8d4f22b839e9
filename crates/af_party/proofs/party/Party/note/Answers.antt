use Rattle.std.proofs.Common.{◌≡◌, ◌/◌, ◌∷◌, ℕ, ap, ◌∙◌, subst}
use Rattle.af_party.proofs.Common.{after_answer, client_of}
use Rattle.af_party.specs.Parties.{PartyState}
use Rattle.af_party.proofs.party.Party.note.Goals as goal

pub returns-clause-noted : goal.returns-clause-noted
returns-clause-noted c = λ first wants.
    let ops = c.args.ops.now in
    let P : PartyState → Type 0 = λ p. p.client.due ≡ first ∷ wants → client_of ops c.note.new.self ≡ after_answer (p.command.released / 2) first wants (client_of ops p.client) c.args.call in
    subst P c.self.view_is (λ is. c.note.ensures first wants is ∙ ap (λ (n : ℕ). after_answer (n / 2) first wants (client_of ops c.self.inside.client) c.args.call) c.released.ensures)
