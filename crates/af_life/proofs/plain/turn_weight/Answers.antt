use Rattle.std.proofs.Common.{◌≡◌, ℕ, refl, List, [], ◌∷◌, length, map, ap, sym, ◌∙◌, ◌+◌, ◌-◌, ◌/◌}
use Rattle.af_life.proofs.Common.{fold, max, track_seen}
use Rattle.af_base.specs.declared.turn.TrackTurn.{TrackTurn}
use Rattle.af_life.specs.Small.{turn_weight}
use Rattle.af_life.proofs.plain.turn_weight.Goals as goal

seen_longest : (turns : List TrackTurn) (a : ℕ) → fold (λ most seen. max most (length seen.looks)) a (map track_seen turns) ≡ fold (λ most seen. max most (length seen.looks.items)) a turns
seen_longest [] a = refl
seen_longest (t ∷ turns) a = seen_longest turns (max a (length t.looks.items))

pub returns : goal.returns
unfolding turn_weight
returns c = ap (λ (n : ℕ). 1 + n / 64)
    (c.saturating_sub.ensures
    ∙ ap (λ (n : ℕ). n - 1) (c.longest.ensures ∙ ap (λ (turns : List TrackTurn). fold (λ most seen. max most (length seen.looks.items)) 0 turns) c.as_slice.ensures ∙ sym (seen_longest c.args.entry.now.tracks.items 0)))
