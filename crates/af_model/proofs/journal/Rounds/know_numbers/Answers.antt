use Rattle.std.proofs.Common.{◌<◌, ◌^◌, ℕ, ap, subst}
use Rattle.af_model.specs.Journals.{RoundsNoted}
use Rattle.af_model.proofs.NumbersFit.{ranges_dealt}
use Rattle.af_model.proofs.journal.Rounds.know_numbers.Goals as goal

pub returns : goal.returns
returns c = ranges_dealt c.args.self.now c.args.log.now (subst (λ (n : ℕ). n < 2 ^ 32) (ap (λ (r : RoundsNoted). r.tracks) c.self.view_is) c.know_word.ensures) c.know_rounds.ensures c.know_log.ensures
