use Rattle.std.proofs.Common.{◌≡◌, ◌<◌, ◌^◌, ℕ, List, ap, sym, subst, ◌∙◌}
use Rattle.af_rendering.proofs.Common.{All, All-map, PartyState, SessionState, released_by}
use Rattle.af_rendering.proofs.rendering.sum_up.Goals as goal

pub summary-requires-clause-small : goal.summary-requires-clause-small
summary-requires-clause-small c =
    let clients : List PartyState = c.args.parties.now.clients in
    let is : c.as_slice.result.now ≡ released_by clients =
    c.as_slice.ensures ∙ c.push_released.ensures ∙ ap released_by (c.deref.ensures.value ∙ ap (λ (s : SessionState). s.clients) c.parties.view_is) in
    subst (All (λ (n : ℕ). n < 2 ^ 58)) (sym is) (All-map (λ (n : ℕ). n < 2 ^ 58) (λ (p : PartyState). p.stream.released) clients c.requires.small)
