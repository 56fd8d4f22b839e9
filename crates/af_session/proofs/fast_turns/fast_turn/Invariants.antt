use Rattle.std.proofs.Common.{◌≡◌, ℕ, false, List}
use Rattle.af_session.proofs.Common.{IsWhole, WritesCycle}
use Rattle.af_session.specs.Together.{AreTogether}
use Rattle.af_session.proofs.FastChains.{GoesTo}
use Rattle.af_session.proofs.RoomsKept.{InRoom}
use Rattle.af_session.proofs.fast_turns.fast_turn.Given as goal

abbrev pub invariant-loop-i : goal.invariant-loop-i
invariant-loop-i g l = record {
  together : AreTogether l.links (record { clients = l.clients; normal = l.normal; fast = l.fast });
  between : l.fast.adopted ≡ false;
  whole : IsWhole l.fast.log;
  turn : (front : List ℕ) × InRoom l.initial.fast l.fast l.i front l.initial.room l.room
      × GoesTo WritesCycle l.count (record { clients = l.initial.clients; normal = l.initial.normal; fast = l.initial.fast }) l.i
      (record { clients = l.clients; normal = l.normal; fast = l.fast }) front;
}

abbrev pub ghosts-fast_cycle : goal.ghosts-fast_cycle
ghosts-fast_cycle g a = record { name = a.blank.name; parts = a.blank.parts }
