use Rattle.std.proofs.Common.{ℕ, ap}
use Rattle.af_nblog.specs.declared.entries.Note.{Note}
use Rattle.af_nblog.proofs.entries.note_of.Goals as goal

noted : ℕ → ℕ → ℕ × ℕ × ℕ × ℕ → Note
noted place state x = record { place = place; state = state; kind = x.0; fulls = x.1; partials = x.2; empties = x.3 }

pub returns : goal.returns
unfolding noted
returns c =
    ap (noted c.args.place c.args.entry.now.state)
    (λ i. (c.kind.ensures i, c.count_fulls.ensures.value i, c.count_partials.ensures.value i, c.count_empties.ensures.value i))
