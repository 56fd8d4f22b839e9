use Rattle.std.proofs.Common.{◌≡◌, ◌≤◌, ◌^◌, max, drop}
use Rattle.af_enough.specs.Enough.{greatest_cost}
use Rattle.af_enough.proofs.enough.greatest_cost.Given as goal

-- the greatest cost so far and that of the tracks that are left make that of all
abbrev pub invariant-loop-track : goal.invariant-loop-track
invariant-loop-track l = record {
  greatest : max l.greatest (greatest_cost l.script (drop l.track-index l.script.tracks)) ≡ greatest_cost l.script l.script.tracks;
  small : l.greatest ≤ 2 ^ 51;
}
