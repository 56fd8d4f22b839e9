use Rattle.std.proofs.Common.{◌≡◌, ◌<◌, ◌≤◌, ⊎_elim, sym}
use Rattle.std.proofs.lemmas.Bool.{cases_lt}
use Rattle.af_base.specs.Turn.{turn_of}
use Rattle.af_normal.specs.Order.{most_turns}
use Rattle.af_normal.specs.declared.turn.Turn.TheVariants.{Ended, Spent}
use Rattle.af_normal_tests.proofs.AfterEnd.{ended_by, ends_by_answer}
use Rattle.af_normal_tests.proofs.end_tests.stays_ended.Goals as goal

not_spent : Ended ≡ Spent → ⊥
not_spent e = cc

pub turn_after_the_end-requires-clause-ended : goal.turn_after_the_end-requires-clause-ended
turn_after_the_end-requires-clause-ended g c =
    let told = c.in-Ended.ensures in
    let few : c.args.mixer.now.turns < most_turns = ⊎_elim (λ (lt : c.args.mixer.now.turns < most_turns). lt) (λ (le : most_turns ≤ c.args.mixer.now.turns). absurd (not_spent (told.spent le).0)) (cases_lt c.args.mixer.now.turns most_turns) in
    let legal = told.legal few in
    let after = c.turn.new.self in
    ended_by legal.0 c.args.mixer.now after legal.1 (ends_by_answer (turn_of after.entry) (sym (told.answer few)))
