use Rattle.std.proofs.Common.{sym, ◌∙◌, refl, subst, None}
use Rattle.af_party.proofs.Common.{client_of, halted_none}
use Rattle.af_party.specs.Parties.{PartyState}
use Rattle.af_party.specs.Turning.{WantsNext}
use Rattle.af_party.proofs.Legal.{wants_next}
use Rattle.af_party.proofs.party.Party.wanted.Goals as goal

pub returns-then-is_halted-clause-wants : goal.returns-then-is_halted-clause-wants
returns-then-is_halted-clause-wants c =
    let ops = c.args.ops.now in
    let P : PartyState → Type 0 = λ p. WantsNext (client_of ops p.client) None (client_of ops p.client) in
    subst P c.self.view_is (halted_none (client_of ops c.self.inside.client) (sym c.is_halted.ensures ∙ c.if-is_halted.true), refl)

pub returns-clause-wants : goal.returns-clause-wants
returns-clause-wants c =
    let ops = c.args.ops.now in
    let P : PartyState → Type 0 = λ p. WantsNext (client_of ops p.client) c.next.result (client_of ops c.begin.new.self) in
    subst P c.self.view_is
    (wants_next c.next.result (client_of ops c.self.inside.client) (client_of ops c.begin.new.self) (c.next.ensures ops) c.begin.ensures (sym c.is_halted.ensures ∙ c.if-is_halted.false))
