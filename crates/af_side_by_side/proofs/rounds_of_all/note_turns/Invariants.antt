use Rattle.std.proofs.Common.{map}
use Rattle.af_side_by_side.proofs.Common.{IsTally, Keeps, PartyState, Shown, with_all_calls}
use Rattle.af_side_by_side.proofs.rounds_of_all.note_turns.Given as goal

abbrev pub invariant-loop-i : goal.invariant-loop-i
invariant-loop-i l = record {
  tally : (run : Shown) → IsTally run l.fn.tally → IsTally (with_all_calls (map (λ (p : PartyState). p.calls.items) l.parties.clients) l.i run) l.tally;
  keeps : Keeps 0 0 l.fn.tally l.tally;
}
