use Rattle.std.proofs.Common.{◌≡◌, ℕ, List, ◌++◌, length, refl, sym, ap, subst, ◌∙◌, arith}
use Rattle.af_session.proofs.Common.{Frame, MixerState, MixesOnce, Room, Roomy, with_items_is, written}
use Rattle.af_session.proofs.FastAdds.{mix_adds, mix_does}
use Rattle.af_session.proofs.fast_turns.mix_in.Goals as goal

pub push_written-requires : goal.push_written-requires
push_written-requires g c =
    let m : MixerState = c.args.fast.now in
    let room : Room = c.args.room.now in
    let after : List Frame = c.mix_noted-cycle.new.buffer in
    let long : length after ≡ length room.buffer.items = c.mix_noted-cycle.ensures.length ∙ ap length c.deref_mut.ensures.value in
    let back = with_items_is room.buffer after (let o = room.buffer.ok.0 in omega arith) in
    let wide : length c.deref.result.now ≡ m.frames = ap length (c.deref.ensures.value ∙ back) ∙ long ∙ c.requires.room.buffer in
    let fits = c.requires.room.bytes in
    omega (arith, wide, fits)

pub returns : goal.returns
returns g c =
    let m : MixerState = c.args.fast.now in
    let room : Room = c.args.room.now in
    let bytes : Roomy ℕ = room.bytes in
    let mixed = c.mix_noted-cycle in
    let did = mixed.ensures in
    let after : List Frame = mixed.new.buffer in
    let lent : c.deref_mut.result.now ≡ room.buffer.items = c.deref_mut.ensures.value in
    let long : length after ≡ length room.buffer.items = did.length ∙ ap length lent in
    let back = with_items_is room.buffer after (let o = room.buffer.ok.0 in omega arith) in
    let adds = mix_adds m mixed.new.fast c.deref_mut.result.now after mixed.result (ap length lent ∙ c.requires.room.buffer) c.requires.can.whole
    (mix_does m mixed.new.fast c.deref_mut.result.now after mixed.result did.mixes) in
    record {
      can = record { linked = did.linked; order = did.order; between = did.turn; whole = adds.grows.whole };
      sizes = did.sizes;
      mixes = subst (λ (x : List Frame × List Frame). MixesOnce m x.0 mixed.result mixed.new.fast x.1) (λ i. (lent i, sym back i)) did.mixes;
      bytes = c.push_written.ensures ∙ ap (λ (xs : List Frame). record bytes { items = bytes.items ++ written mixed.result xs }) c.deref.ensures.value;
      noted = record { follows = did.tally; places = did.places };
      kept = record { buffer = ap length back ∙ long; bytes = ap (λ (b : Roomy ℕ). b.room) c.push_written.ensures; released = refl };
    }
