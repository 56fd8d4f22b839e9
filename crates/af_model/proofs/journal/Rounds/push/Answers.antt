use Rattle.std.proofs.Common.{◌≡◌, ◌+◌, [], ◌∷◌, ◌++◌, map, ap, sym, subst, ◌∙◌, rules, arith, List}
use Rattle.af_model.proofs.Common.{map-append}
use Rattle.af_model.proofs.Basics.{cycles_more}
use Rattle.af_model.specs.declared.journal.Round.{Round}
use Rattle.af_model.specs.Journals.{cycles_of}
use Rattle.af_model.specs.Noting.{round_noted, Follow}
use Rattle.af_model.proofs.Journals.{follow-more}
use Rattle.af_model.proofs.journal.Rounds.push.Goals as goal

pub invariant_of-self-2 : goal.invariant_of-self-2
invariant_of-self-2 c =
    let more : Round = record { calls = c.args.calls; turn = c.args.turn; first = c.self.inside.cycles; cycles = c.args.cycles } in
    let now : c.push.new.self.items ≡ c.self.inside.rounds.items ++ more ∷ [] = search rules in
    let noted = cycles_more (map round_noted c.self.inside.rounds.items) (round_noted more) in
    let first : more.first ≡ 0 + cycles_of (map round_noted c.self.inside.rounds.items) = let e = c.self.invariant.1 in omega arith in
    let joined : map round_noted (c.self.inside.rounds.items ++ more ∷ []) ≡ map round_noted c.self.inside.rounds.items ++ round_noted more ∷ [] = map-append round_noted c.self.inside.rounds.items (more ∷ []) in (
      subst (λ (l : List Round). Follow 0 l) (sym now) (follow-more 0 c.self.inside.rounds.items more c.self.invariant.0 first),
      ap (λ n. n + c.args.cycles) c.self.invariant.1 ∙ sym noted ∙ ap cycles_of (sym joined) ∙ ap (λ (l : List Round). cycles_of (map round_noted l)) (sym now),
    )
