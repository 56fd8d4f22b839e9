use Rattle.std.proofs.Common.{length, ap, ◌∙◌, sym}
use Rattle.af_model.proofs.Basics.{same_rounds}
use Rattle.af_model.specs.Journals.{JournalData, entries_seen}
use Rattle.af_model.proofs.journal.Journal.rounds.Goals as goal

pub returns : goal.returns
returns c = let log = c.self.inside.log in
    c.len.ensures ∙ sym (same_rounds (entries_seen log.frames log.entries) c.self.inside.noted.rounds) ∙ ap (λ (j : JournalData). length j.rounds) c.self.view_is
