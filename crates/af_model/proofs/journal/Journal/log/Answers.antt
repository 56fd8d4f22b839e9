use Rattle.std.proofs.Common.{map, ap, ◌∙◌, sym}
use Rattle.af_model.proofs.Basics.{all_dealt, same_length}
use Rattle.af_model.specs.Journals.{EntrySeen, JournalData, entries_of, entries_seen, frames_of}
use Rattle.af_model.proofs.Journals.{same-entries}
use Rattle.af_model.proofs.journal.Journal.log.Goals as goal

pub returns-clause-entries : goal.returns-clause-entries
returns-clause-entries c = let log = c.self.inside.log in let seen = entries_seen log.frames log.entries in
    ap (λ (j : JournalData). map (λ (e : EntrySeen). e.entry) (entries_of j.rounds)) (sym c.self.view_is)
    ∙ ap (map (λ (e : EntrySeen). e.entry)) (all_dealt seen c.self.inside.noted.rounds (c.self.invariant.0.0 ∙ sym (same_length log.frames log.entries)))
    ∙ same-entries log.frames log.entries

pub returns-clause-frames : goal.returns-clause-frames
returns-clause-frames c = let log = c.self.inside.log in let seen = entries_seen log.frames log.entries in
    ap (λ (j : JournalData). frames_of (entries_of j.rounds)) (sym c.self.view_is)
    ∙ ap frames_of (all_dealt seen c.self.inside.noted.rounds (c.self.invariant.0.0 ∙ sym (same_length log.frames log.entries)))
    ∙ c.self.invariant.0.1
