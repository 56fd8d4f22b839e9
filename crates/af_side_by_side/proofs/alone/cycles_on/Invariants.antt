use Rattle.std.proofs.Common.{ℕ, ◌≤◌, List, length}
use Rattle.af_side_by_side.proofs.Common.{CanCycle, CyclesOnce, GoesTo, HasLogged, InRoom, IsScribe, most_cycles}
use Rattle.af_side_by_side.proofs.alone.cycles_on.Given as goal

abbrev pub invariant-loop-i : goal.invariant-loop-i
invariant-loop-i l = record {
  can : CanCycle l.links l.fast;
  turn : (front : List ℕ) × InRoom l.initial.fast l.fast l.i front l.initial.room l.room
      × GoesTo (CyclesOnce l.links) most_cycles l.initial.fast l.i l.fast front;
  longer : length l.initial.fast.log.entries ≤ length l.fast.log.entries;
  scribe : IsScribe l.log (length l.fast.log.entries) l.scribe;
  logged : HasLogged (length l.initial.fast.log.entries) l.fast l.initial.scribe l.scribe;
}
