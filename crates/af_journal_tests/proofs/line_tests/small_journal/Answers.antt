use Rattle.std.proofs.Common.{◌≡◌, subst, sym, rules, ◌∙◌}
use Rattle.af_model.specs.Journals.{journal_of}
use Rattle.af_model.specs.JournalForm.{IsJournal}
use Rattle.af_model.specs.Numbers.{HasRanges}
use Rattle.af_journal_tests.proofs.Small.{one_still, small-form, two_rounds}
use Rattle.af_journal_tests.proofs.line_tests.small_journal.Goals as goal

pub new-requires-4-clause-form : goal.new-requires-4-clause-form
new-requires-4-clause-form c = let first = c.push-2.new.self.items in
    let noted : c.push-4.new.self ≡ two_rounds first = search rules in
    let log : c.push-5.new.self ≡ one_still c.push-5.new.self = search rules in
    let both : journal_of c.push-4.new.self c.push-5.new.self ≡ journal_of (two_rounds first) (one_still c.push-5.new.self) = (λ k. journal_of (noted k) (log k)) in
    subst IsJournal (sym both) (small-form first c.push-5.new.self (subst HasRanges both c.know_numbers.ensures))
