use Rattle.std.proofs.Common.{◌≡◌, Option, subst, rules}
use Rattle.af_model.proofs.Common.{All, All-map, MatchOption, Turn, option_map, turn_of}
use Rattle.af_model.specs.Numbers.{FitsTurn, FitsCall}
use Rattle.af_model.proofs.journal.know_round.Goals as goal

pub returns : goal.returns
returns c =
    let calls = All-map (λ calls. All FitsCall calls) (λ calls. calls.items) c.args.round.now.calls.items (subst (All (λ calls. All FitsCall calls.items)) c.as_slice.ensures.value c.know_clients.ensures) in
    let same : option_map (λ e. turn_of e.now) c.as_ref.result ≡ option_map turn_of c.args.round.now.turn = search rules in
    (calls, subst (λ (t : Option Turn). MatchOption t (Unit {0}) FitsTurn) same c.know_turns.ensures)
