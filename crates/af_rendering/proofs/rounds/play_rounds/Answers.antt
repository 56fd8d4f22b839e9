use Rattle.std.proofs.Common.{◌≡◌, ◌∙◌, ℕ, [], ap, sym, arith}
use Rattle.std.proofs.lemmas.Result.{on_ok_weaker}
use Rattle.af_rendering.proofs.Common.{LeavesFront, Roomy, SessionState, pcm_of}
use Rattle.af_session.specs.declared.room.Room.{Room}
use Rattle.af_session.proofs.RoomsKept.{kept_on}
use Rattle.af_rendering.proofs.Outgoing.{on_err, on_ok, stays_at}
use Rattle.af_rendering.proofs.Waiting.{all_out, ends_on, front_held, round_asked, wait_on}
use Rattle.af_rendering.proofs.rounds.play_rounds.Goals as goal

-- it may be asked whether one more is to be played
pub goes_on-requires : goal.goes_on-requires
goes_on-requires g c = let inv = c.loop-kept.invariant in (c.requires.asks _ _ _ inv.between).0

-- what is asked for stands at the round
pub round-requires : goal.round-requires
round-requires g c =
    let inv = c.loop-kept.invariant in
    (round_asked (c.requires.asks _ _) (c.requires.plays _ _ _) inv.between c.goes_on.ensures c.loop-kept-test.true inv.room).0

pub loop-kept-smaller : goal.loop-kept-smaller
loop-kept-smaller g c =
    let inv = c.loop-kept.invariant in
    ((round_asked (c.requires.asks _ _) (c.requires.plays _ _ _) inv.between c.goes_on.ensures c.loop-kept-test.true inv.room).1 _ _ _ _ c.in_ok-round.ensures).fewer

pub returns-in_err-round-clause-came : goal.returns-in_err-round-clause-came
returns-in_err-round-clause-came g c =
    let inv = c.loop-kept.invariant in
    ((round_asked (c.requires.asks _ _) (c.requires.plays _ _ _) inv.between c.goes_on.ensures c.loop-kept-test.true inv.room).1 _ _ _ _ c.round.ensures).came

pub returns-in_err-round-clause-sizes : goal.returns-in_err-round-clause-sizes
returns-in_err-round-clause-sizes g c =
    let inv = c.loop-kept.invariant in
    let did = (round_asked (c.requires.asks _ _) (c.requires.plays _ _ _) inv.between c.goes_on.ensures c.loop-kept-test.true inv.room).1 _ _ _ _ c.round.ensures in
    kept_on c.args.room.now c.loop-kept.room _ inv.kept did.room

-- the bytes of the round wait behind those that waited
pub returns-in_err-round-clause-left : goal.returns-in_err-round-clause-left
returns-in_err-round-clause-left g c = λ told.
    let inv = c.loop-kept.invariant in
    let did = (round_asked (c.requires.asks _ _) (c.requires.plays _ _ _) inv.between c.goes_on.ensures c.loop-kept-test.true inv.room).1 _ _ _ _ c.round.ensures in
    let next : SessionState = c.round.new.arg3 in
    let room : Room = c.round.new.arg4 in
    let base = g.S.Store.files c.args.store.now in
    let files = g.S.Store.files c.loop-kept.store in
    let name = c.args.target.now.name.now in
    let frames : ℕ = c.args.parties.now.fast.frames in
    let held = wait_on base files name c.loop-kept.parties.fast next.fast frames inv.frames c.loop-kept.room.bytes.items room.bytes.items did.sound (inv.written told) in
    let left : LeavesFront base name (pcm_of frames next.fast.log) files = front_held base files name (pcm_of frames next.fast.log) room.bytes.items held in
    on_err c.from_residual-in_err-round.result left

pub overflow_mul-most : goal.overflow_mul-most
overflow_mul-most g c =
    let inv = c.loop-kept.invariant in
    let did = (round_asked (c.requires.asks _ _) (c.requires.plays _ _ _) inv.between c.goes_on.ensures c.loop-kept-test.true inv.room).1 _ _ _ _ c.round.ensures in
    omega (arith, c.len-most.ensures, did.room.buffer, inv.room.buffer, inv.room.small)

pub loop-kept-preserved : goal.loop-kept-preserved
loop-kept-preserved g c =
    let inv = c.loop-kept.invariant in
    let did = (round_asked (c.requires.asks _ _) (c.requires.plays _ _ _) inv.between c.goes_on.ensures c.loop-kept-test.true inv.room).1 _ _ _ _ c.in_ok-round.ensures in
    let next : SessionState = c.round.new.arg3 in
    let room : Room = c.round.new.arg4 in
    let sent = c.in_ok-send_beyond.ensures in
    let base = g.S.Store.files c.args.store.now in
    let frames : ℕ = c.args.parties.now.fast.frames in
    record {
      between = did.between;
      came = did.came;
      room = record {
        small = omega (arith, inv.room.small, did.sizes.0);
        buffer = did.room.buffer ∙ inv.room.buffer ∙ sym did.sizes.0;
        bytes = omega (arith, sent.room, did.room.bytes, inv.room.bytes, did.sizes.0);
        ends = ends_on c.loop-kept.parties.fast next.fast did.sizes.0 c.loop-kept.room.bytes.items room.bytes.items c.send_beyond.new.bytes.items did.sound sent.all inv.room.ends;
        waits = omega (arith, sent.few, c.len-most.ensures, did.room.buffer, inv.room.buffer, did.sizes.0);
      };
      frames = did.sizes.0 ∙ inv.frames;
      kept = kept_on c.args.room.now c.loop-kept.room _ inv.kept (record { buffer = did.room.buffer; bytes = sent.room ∙ did.room.bytes; released = did.room.released });
      tells = (λ told. sent.tells (inv.tells told));
      stays = sym (stays_at (g.S.Store.faults c.loop-kept.store) (g.S.Store.faults c.send_beyond.new.store) c.in_ok-send_beyond.field-0 sent.cause) ∙ inv.stays;
      written = (λ told.
          let held = wait_on base (g.S.Store.files c.loop-kept.store) c.args.target.now.name.now c.loop-kept.parties.fast next.fast frames inv.frames c.loop-kept.room.bytes.items room.bytes.items did.sound (inv.written told) in
          (sent.sent (inv.tells told) base (pcm_of frames next.fast.log) held).0);
    }

pub returns-in_err-send_beyond-clause-came : goal.returns-in_err-send_beyond-clause-came
returns-in_err-send_beyond-clause-came g c =
    let inv = c.loop-kept.invariant in
    ((round_asked (c.requires.asks _ _) (c.requires.plays _ _ _) inv.between c.goes_on.ensures c.loop-kept-test.true inv.room).1 _ _ _ _ c.in_ok-round.ensures).came

pub returns-in_err-send_beyond-clause-sizes : goal.returns-in_err-send_beyond-clause-sizes
returns-in_err-send_beyond-clause-sizes g c =
    let inv = c.loop-kept.invariant in
    let did = (round_asked (c.requires.asks _ _) (c.requires.plays _ _ _) inv.between c.goes_on.ensures c.loop-kept-test.true inv.room).1 _ _ _ _ c.in_ok-round.ensures in
    kept_on c.args.room.now c.loop-kept.room _ inv.kept (record { buffer = did.room.buffer; bytes = c.in_err-send_beyond.ensures.room ∙ did.room.bytes; released = did.room.released })

pub returns-in_err-send_beyond-clause-left : goal.returns-in_err-send_beyond-clause-left
returns-in_err-send_beyond-clause-left g c = λ told.
    let inv = c.loop-kept.invariant in
    let did = (round_asked (c.requires.asks _ _) (c.requires.plays _ _ _) inv.between c.goes_on.ensures c.loop-kept-test.true inv.room).1 _ _ _ _ c.in_ok-round.ensures in
    let next : SessionState = c.round.new.arg3 in
    let room : Room = c.round.new.arg4 in
    let base = g.S.Store.files c.args.store.now in
    let name = c.args.target.now.name.now in
    let frames : ℕ = c.args.parties.now.fast.frames in
    let sound = pcm_of frames next.fast.log in
    let held = wait_on base (g.S.Store.files c.loop-kept.store) name c.loop-kept.parties.fast next.fast frames inv.frames c.loop-kept.room.bytes.items room.bytes.items did.sound (inv.written told) in
    let left : LeavesFront base name sound (g.S.Store.files c.send_beyond.new.store) = (c.in_err-send_beyond.ensures.sent (inv.tells told) base sound held).1 in
    on_err c.from_residual-in_err-send_beyond.result left

pub returns-clause-over : goal.returns-clause-over
returns-clause-over g c =
    let inv = c.loop-kept.invariant in
    on_ok c.send_waiting.result (inv.between, ((c.requires.asks _ _ _ inv.between).1 _ c.goes_on.ensures).1 c.loop-kept-test.false)

-- no byte waits any more
pub returns-clause-written : goal.returns-clause-written
returns-clause-written g c = λ told.
    let inv = c.loop-kept.invariant in
    let base = g.S.Store.files c.args.store.now in
    let sound = pcm_of c.args.parties.now.fast.frames c.loop-kept.parties.fast.log in
    let none : c.send_waiting.new.bytes.items ≡ [] = ap (λ (b : Roomy ℕ). b.items) c.send_waiting.ensures.none in
    on_ok_weaker c.send_waiting.result (all_out base (g.S.Store.files c.send_waiting.new.store) c.args.target.now.name.now sound c.send_waiting.new.bytes.items none)
    (c.send_waiting.ensures.sent (inv.tells told) base sound (inv.written told)).0
