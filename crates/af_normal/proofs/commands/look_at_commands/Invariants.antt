use Rattle.std.proofs.Common.{◌≡◌, ◌+◌, ◌≤◌, true, length}
use Rattle.af_normal.proofs.Common.{IsServerOf, after_all, all_go_on}
use Rattle.af_normal.specs.Commands.{LooksMade}
use Rattle.af_normal.proofs.commands.look_at_commands.Given as goal

abbrev pub invariant-loop-made : goal.invariant-loop-made
invariant-loop-made g l = record {
  ready : IsServerOf l.block l.server;
  looks : LooksMade l.fn.server l.looks.items l.server;
  all : all_go_on l.given l.flush_seen l.looks.items l.fn.track ≡ true;
  track : l.track ≡ after_all l.given l.flush_seen l.fn.track l.looks.items;
  count : length l.looks.items ≡ l.made;
  room : l.looks.room ≡ l.fn.looks.room;
  few : l.track.settled ≤ l.fn.track.settled + l.made;
}
