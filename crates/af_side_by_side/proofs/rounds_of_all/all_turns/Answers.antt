use Rattle.std.proofs.Common.{◌≡◌, All, ap, sym, subst, ◌∙◌}
use Rattle.af_side_by_side.proofs.Common.{CanTurn, SessionState, given_of}
use Rattle.af_side_by_side.proofs.rounds_of_all.all_turns.Goals as goal

-- what the session says of its parties is so of the parts lent
pub turns_at_once-requires-clause-clients : goal.turns_at_once-requires-clause-clients
turns_at_once-requires-clause-clients g c = λ κs lives.
    let rig = c.args.rig.now in
    let here : c.args.parties.now.clients ≡ c.deref_mut.result.now = sym (c.deref_mut.ensures.value ∙ ap (λ (s : SessionState). s.clients) c.parties.view_is) in
    subst (All (CanTurn rig.links (given_of rig))) here c.requires.clients
