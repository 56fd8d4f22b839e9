use Rattle.std.proofs.Common.{◌<◌, ◌≤◌, ℕ, length, ap, refl, arith}
use Rattle.af_rendering.proofs.Common.{Roomy, SessionState}
use Rattle.af_rendering.proofs.ComeSoFar.{is_turn, keeps_sound, played_more, room_behind, still_turn}
use Rattle.af_rendering.proofs.playing.play_turn.Goals as goal

few_turns : (n most : ℕ) → n < most → most ≤ 100000 → n < 100000
few_turns n most lt few = omega (arith, lt, few)

pub round_in-requires-clause-turn : goal.round_in-requires-clause-turn
round_in-requires-clause-turn c =
    is_turn c.args.script.now c.args.rig.now c.args.played.now c.args.parties.now c.args.room.now.tally c.requires.far c.turns.result.now c.turns.ensures.value _ c.requires.more c.turns.ensures.script.turns

pub round_in-requires-clause-room : goal.round_in-requires-clause-room
round_in-requires-clause-room c =
    let few = few_turns c.args.played.now (length c.args.script.now.turns) c.requires.more c.turns.ensures.script.turn_count in
    room_behind c.args.parties.now c.args.room.now c.requires.room (c.args.played.now, few, c.requires.far.places)

pub round_in-requires-clause-ready : goal.round_in-requires-clause-ready
round_in-requires-clause-ready c =
    let few = few_turns c.args.played.now (length c.args.script.now.turns) c.requires.more c.turns.ensures.script.turn_count in
    (c.args.played.now, few, c.requires.far.ready)

pub know_round-requires : goal.know_round-requires
know_round-requires c =
    still_turn c.args.script.now c.args.rig.now c.args.played.now c.args.parties.now c.args.room.now.tally c.requires.far c.turns.result.now c.turns.ensures.value _ c.requires.more c.round_in.new.parties c.args.room.now c.round_in.new.room refl c.round_in.ensures.carried
    c.turns.ensures.script.turns

pub returns : goal.returns
returns c =
    let n : ℕ = c.args.played.now in
    let s : SessionState = c.args.parties.now in
    let t : SessionState = c.round_in.new.parties in
    let round = c.round_in.ensures.round in
    let on = c.round_in.ensures.carried in
    record {
      one = refl;
      far = played_more c.args.script.now c.args.rig.now n s c.args.room.now.tally c.requires.far c.turns.result.now c.turns.ensures.value _ c.requires.more t c.args.room.now c.round_in.new.room refl on round.0 round.1 round.3
          (c.know_round.ensures.frames s) (c.know_round.ensures.numbers s);
      sizes = on.sizes;
      room = on.kept;
      sound = keeps_sound c.args.script.now c.args.rig.now n s c.args.room.now.tally c.requires.far c.turns.result.now c.turns.ensures.value _ c.requires.more t c.args.room.now c.round_in.new.room refl on round.0 round.1 round.3
          c.args.room.now.bytes.items c.round_in.new.room.bytes.items (ap (λ (b : Roomy ℕ). b.items) round.2);
    }
