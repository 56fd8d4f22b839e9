use Rattle.std.proofs.Common.{◌≡◌, ◌∙◌, ◌||◌, Bool, false, not, refl, sym, ap, arith}
use Rattle.af_audit.proofs.Common.{RoundSeen, calls_in, is_poke_on, list_any, no_round, round_at, take_all}
use Rattle.std.proofs.lemmas.List.Folds.{list_any_more}
use Rattle.af_audit.proofs.run_judge.is_lawful.Goals as goal

pub loop-round-init : goal.loop-round-init
loop-round-init c = refl

pub loop-round-preserved : goal.loop-round-preserved
loop-round-preserved c =
    let rounds = c.args.journal.now.rounds in
    let at = c.loop-round.round in
    let P : RoundSeen → Bool = λ round. list_any (is_poke_on c.args.commands) (calls_in round c.args.track) in
    let many = c.rounds-round-end.ensures in
    let more = c.loop-round-test.true in
    let here : P (round_at c.args.journal.now at) ≡ false = sym (ap (list_any (is_poke_on c.args.commands)) c.client.ensures) ∙ (sym c.has_poke_on.ensures ∙ c.if-has_poke_on.false) in
    list_any_more P rounds at no_round (omega (arith, many, more)) ∙ (ap (λ (b : Bool). b || P (round_at c.args.journal.now at)) c.loop-round.invariant ∙ here)

pub returns : goal.returns
returns c =
    let rounds = c.args.journal.now.rounds in
    let at = c.loop-round.round in
    let P : RoundSeen → Bool = λ round. list_any (is_poke_on c.args.commands) (calls_in round c.args.track) in
    let many = c.rounds-round-end.ensures in
    let end = c.loop-round-test.false in
    sym (ap not (sym (ap (list_any P) (take_all at rounds (omega (arith, many, end)))) ∙ c.loop-round.invariant))
