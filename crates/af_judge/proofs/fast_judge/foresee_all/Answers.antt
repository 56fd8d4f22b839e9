use Rattle.std.proofs.Common.{◌≡◌, ℕ, ◌<◌, List, drop, get_or, length, length-drop, map, take, sym, ap, ◌∙◌, arith}
use Rattle.af_judge.proofs.Common.{CycleEntry, fold_more, get_or-drop, no_entry}
use Rattle.af_judge.specs.Foresight.{Foreseen, entries_foreseen, entry_foreseen, foreseen, server_of}
use Rattle.af_judge.proofs.fast_judge.foresee_all.Goals as goal

pub loop-at-preserved : goal.loop-at-preserved
loop-at-preserved c =
    let states = c.args.states.now in
    let first = c.args.later.first in
    let entries = c.args.log.now.entries in
    let at : ℕ = c.loop-at.at in
    let es : List CycleEntry = drop first entries in
    let low : at < length es = omega (arith, length-drop first entries, c.in-Some.ensures.0) in
    let entry_is : c.in-Some.entry.now ≡ get_or es at no_entry = c.in-Some.ensures.1 ∙ sym (get_or-drop first entries at no_entry) in
    record {
      servers = (λ ss is.
          (let f : Foreseen = entries_foreseen states (take at es) (foreseen ss c.args.told.now) in
          let step = fold_more (λ g e. entry_foreseen states e g) (foreseen ss c.args.told.now) es at no_entry low in
          c.foresee.ensures.servers f.servers (c.loop-at.invariant.servers ss is)
          ∙ ((λ j. map server_of (entry_foreseen states (entry_is j) (foreseen f.servers (c.loop-at.invariant.told ss is j))).servers)
          ∙ ap (λ (g : Foreseen). map server_of g.servers) (sym step))));
      told = (λ ss is.
          (let f : Foreseen = entries_foreseen states (take at es) (foreseen ss c.args.told.now) in
          let step = fold_more (λ g e. entry_foreseen states e g) (foreseen ss c.args.told.now) es at no_entry low in
          c.foresee.ensures.told f.servers (c.loop-at.invariant.servers ss is)
          ∙ ((λ j. (entry_foreseen states (entry_is j) (foreseen f.servers (c.loop-at.invariant.told ss is j))).told)
          ∙ ap (λ (g : Foreseen). g.told) (sym step))));
    }
