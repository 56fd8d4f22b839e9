use Rattle.std.proofs.Common.{◌≡◌, ◌+◌, ◌*◌, ◌≤◌, length}
use Rattle.af_party.specs.Asking.{HasBlocks}
use Rattle.af_party.specs.Parties.{track_of}
use Rattle.af_party.specs.Works.{CanWork}
use Rattle.af_party.proofs.Legal.{AreMade}
use Rattle.af_party.proofs.party.Party.call_on.Given as goal

abbrev pub invariant-loop : goal.invariant-loop
invariant-loop g l = record {
  blocks : HasBlocks l.stream l.command l.self;
  work : CanWork l.ops (length l.file) l.self;
  track : l.self.track ≡ l.initial.self.track;
  made : AreMade (track_of l.ops l.file l.initial.self) l.self.calls.items (track_of l.ops l.file l.self);
  count : length l.self.calls.items ≡ l.counter;
  few : l.self.command.released ≤ l.initial.self.command.released + 2 * l.counter;
}
