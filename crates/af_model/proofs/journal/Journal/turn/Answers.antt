use Rattle.std.proofs.Common.{◌≡◌, ◌<◌, ℕ, length, ap, sym, subst, ◌∙◌, rules}
use Rattle.af_model.proofs.Common.{option_map, turn_of}
use Rattle.af_model.proofs.Basics.{same_rounds}
use Rattle.af_model.specs.Journals.{JournalData, RoundNoted, entries_seen, round_at}
use Rattle.af_model.proofs.Journals.{same-turn}
use Rattle.af_model.proofs.journal.Journal.turn.Goals as goal

pub round-requires : goal.round-requires
round-requires c = let log = c.self.inside.log in
    subst (λ (n : ℕ). c.args.round < n) (ap (λ (j : JournalData). length j.rounds) (sym c.self.view_is) ∙ same_rounds (entries_seen log.frames log.entries) c.self.inside.noted.rounds) c.requires.round

pub returns : goal.returns
returns c = let log = c.self.inside.log in let noted = c.self.inside.noted in
    let same : option_map turn_of c.round.result.now.turn ≡ (round_at c.args.self.now c.args.round).turn =
    ap (λ (r : RoundNoted). r.turn) c.round.ensures.noted ∙ sym (same-turn (entries_seen log.frames log.entries) noted.rounds c.args.round)
    ∙ ap (λ (j : JournalData). (round_at j c.args.round).turn) c.self.view_is in
    search (rules, same)
