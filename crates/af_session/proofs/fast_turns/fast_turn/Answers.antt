use Rattle.std.proofs.Common.{◌≡◌, ◌+◌, ℕ, ◌++◌, false, true, List, [], length, refl, sym, ◌∙◌, arith}
use Rattle.af_session.proofs.Common.{Cycle, HasAdded, HasNotedOn, IsCycle, KeepsRoom, Room, SessionState, WritesCycle, is_mixed, written}
use Rattle.af_session.proofs.FastAdds.{cycle_sizes, cycle_whole, turned_by}
use Rattle.af_session.proofs.FastChains.{goes_first, goes_on, goes_over, goes_whole}
use Rattle.af_session.proofs.RoomsKept.{InRoom, in_room_first, in_room_fits, in_room_more}
use Rattle.af_session.proofs.fast_turns.fast_turn.Goals as goal

pub loop-i-init : goal.loop-i-init
loop-i-init g c =
    let first : SessionState = record { clients = c.args.clients.now; normal = c.args.normal.now; fast = c.args.fast.now } in
    record {
      together = c.requires.together;
      between = c.requires.between;
      whole = c.requires.whole;
      turn = ([], in_room_first c.args.fast.now c.args.room.now, goes_first WritesCycle c.args.count first);
    }

-- ## A cycle

pub fast_cycle-cycle-requires-clause-room : goal.fast_cycle-cycle-requires-clause-room
fast_cycle-cycle-requires-clause-room g c =
    let turn = c.loop-i.invariant.turn in
    in_room_fits c.args.fast.now c.loop-i.fast c.loop-i.i turn.0 c.args.room.now c.loop-i.room turn.1 c.args.count c.requires.room
    (omega (arith, c.loop-i-test.true))

-- one cycle more: what it wrote, and what all cycles leave of the room
one_more : (first now next : SessionState) (i : ℕ) (front : List ℕ) (room room' room'' : Room) (answer : Cycle) → length room.buffer.items ≡ first.fast.frames
    → InRoom first.fast now.fast i front room room'
    → IsCycle now room'.buffer.items answer next room''.buffer.items → HasNotedOn now.fast next.fast room'.tally room''.tally → KeepsRoom room' room''
    → HasAdded room' (written answer room''.buffer.items) room''
    → WritesCycle now answer (written answer room''.buffer.items) next
    × InRoom first.fast next.fast (i + 1) (front ++ written answer room''.buffer.items) room room''
one_more first now next i front room room' room'' answer long so_far cycle noted kept bytes = (
  record { before = room'.buffer.items; after = room''.buffer.items; long = so_far.kept.buffer ∙ long ∙ sym so_far.sizes.0; cycle = cycle; bytes_are = refl },
  in_room_more first.fast now.fast i front room room' so_far next.fast room'' answer long
      (cycle_sizes now next room'.buffer.items room''.buffer.items answer cycle) noted kept bytes,
)

pub loop-i-preserved : goal.loop-i-preserved
loop-i-preserved g c =
    let first : SessionState = record { clients = c.args.clients.now; normal = c.args.normal.now; fast = c.args.fast.now } in
    let now : SessionState = record { clients = c.loop-i.clients; normal = c.loop-i.normal; fast = c.loop-i.fast } in
    let call = c.fast_cycle-cycle in
    let did = call.ensures in
    let next : SessionState = record { clients = call.new.clients; normal = call.new.normal; fast = call.new.fast } in
    let more : List ℕ = written call.result call.new.room.buffer.items in
    let turn = c.loop-i.invariant.turn in
    let one = one_more first now next c.loop-i.i turn.0 c.args.room.now c.loop-i.room call.new.room call.result c.requires.room.buffer turn.1 did.cycle
    did.noted did.kept did.bytes in
    let mixed : is_mixed call.result ≡ true = sym c.is_mixed.ensures ∙ c.if-not-is_mixed.false in
    record {
      together = did.together;
      between = did.between;
      whole = cycle_whole now next call.result more c.loop-i.invariant.whole one.0;
      turn = (turn.0 ++ more, one.1, goes_on WritesCycle c.args.count first c.loop-i.i now next call.result turn.0 more turn.2 one.0 mixed);
    }

-- ## After the last

pub returns-then-not-is_mixed : goal.returns-then-not-is_mixed
returns-then-not-is_mixed g c =
    let first : SessionState = record { clients = c.args.clients.now; normal = c.args.normal.now; fast = c.args.fast.now } in
    let now : SessionState = record { clients = c.loop-i.clients; normal = c.loop-i.normal; fast = c.loop-i.fast } in
    let call = c.fast_cycle-cycle in
    let did = call.ensures in
    let next : SessionState = record { clients = call.new.clients; normal = call.new.normal; fast = call.new.fast } in
    let more : List ℕ = written call.result call.new.room.buffer.items in
    let turn = c.loop-i.invariant.turn in
    let one = one_more first now next c.loop-i.i turn.0 c.args.room.now c.loop-i.room call.new.room call.result c.requires.room.buffer turn.1 did.cycle
    did.noted did.kept did.bytes in
    let dry : is_mixed call.result ≡ false = sym c.is_mixed.ensures ∙ c.if-not-is_mixed.true in
    let over = goes_over WritesCycle c.args.count first c.loop-i.i now next call.result turn.0 more turn.2 one.0 dry (omega arith) in
    record {
      together = did.together;
      between = did.between;
      sizes = one.1.sizes;
      turned = turned_by c.args.count first next c.args.room.now.bytes call.new.room.bytes (turn.0 ++ more) c.requires.whole one.1.bytes over;
      noted = one.1.noted;
      kept = one.1.kept;
    }

pub returns : goal.returns
returns g c =
    let first : SessionState = record { clients = c.args.clients.now; normal = c.args.normal.now; fast = c.args.fast.now } in
    let now : SessionState = record { clients = c.loop-i.clients; normal = c.loop-i.normal; fast = c.loop-i.fast } in
    let inv = c.loop-i.invariant in
    let turn = inv.turn in
    let whole = goes_whole WritesCycle c.args.count first c.loop-i.i now turn.0 (omega arith) turn.2 in
    record {
      together = inv.together;
      between = inv.between;
      sizes = turn.1.sizes;
      turned = turned_by c.args.count first now c.args.room.now.bytes c.loop-i.room.bytes turn.0 c.requires.whole turn.1.bytes whole;
      noted = turn.1.noted;
      kept = turn.1.kept;
    }
