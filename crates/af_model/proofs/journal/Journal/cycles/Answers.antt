use Rattle.std.proofs.Common.{◌<◌, ◌≤◌, ℕ, length, take, ap, sym, subst, ◌∙◌, arith}
use Rattle.af_model.proofs.Basics.{same_length, same_rounds}
use Rattle.af_model.specs.Journals.{JournalData, RoundNoted, cycles_of, entries_of, entries_seen, round_at}
use Rattle.af_model.proofs.Journals.{first-count, same-count}
use Rattle.af_model.proofs.journal.Journal.cycles.Goals as goal

pub round-round-requires : goal.round-round-requires
round-round-requires c = let log = c.self.inside.log in
    subst (λ (n : ℕ). c.args.round < n) (ap (λ (j : JournalData). length j.rounds) (sym c.self.view_is) ∙ same_rounds (entries_seen log.frames log.entries) c.self.inside.noted.rounds) c.requires.round

pub returns-clause-first : goal.returns-clause-first
returns-clause-first c = let log = c.self.inside.log in let noted = c.self.inside.noted in let seen = entries_seen log.frames log.entries in
    let enough : cycles_of noted.rounds ≤ length seen = let e = same_length log.frames log.entries in let f = c.self.invariant.0.0 in omega arith in
    c.round-round.ensures.first ∙ sym (first-count seen noted.rounds c.args.round enough)
    ∙ ap (λ (j : JournalData). length (entries_of (take c.args.round j.rounds))) c.self.view_is

pub returns-clause-count : goal.returns-clause-count
returns-clause-count c = let log = c.self.inside.log in let noted = c.self.inside.noted in let seen = entries_seen log.frames log.entries in
    let enough : cycles_of noted.rounds ≤ length seen = let e = same_length log.frames log.entries in let f = c.self.invariant.0.0 in omega arith in
    ap (λ (r : RoundNoted). r.cycles) c.round-round.ensures.noted ∙ sym (same-count seen noted.rounds c.args.round enough)
    ∙ ap (λ (j : JournalData). length (round_at j c.args.round).entries) c.self.view_is
