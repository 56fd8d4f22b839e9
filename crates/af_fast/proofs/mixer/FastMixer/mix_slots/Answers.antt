use Rattle.std.proofs.Common.{List, length, sym, subst, ap, ◌∙◌, arith}
use Rattle.af_fast.proofs.Common.{Frame, IsState, SlotEntry, count_seen, mix, takes_of}
use Rattle.af_fast.specs.Mixer.{MixerState}
use Rattle.af_fast.proofs.Parts.{scale_few}
use Rattle.af_fast.proofs.mixer.FastMixer.mix_slots.Goals as goal

pub mix_heard-requires-clause-none : goal.mix_heard-requires-clause-none
mix_heard-requires-clause-none g c = λ i le lt.
    ap (λ (s : SlotEntry). count_seen s.seen) (c.play_slots-used.ensures.plays.mixes.others i (omega (arith, le, c.play_slots-used.ensures.used)) lt (c.play_slots-used.ensures.quiet i le))

pub mix_heard-requires-clause-within : goal.mix_heard-requires-clause-within
mix_heard-requires-clause-within g c = λ i lt.
    omega (arith, c.play_slots-used.ensures.plays.within i lt, c.self.invariant, c.requires.out, ap length c.deref_mut.ensures.value, ap (λ (y : MixerState). y.frames) c.self.view_is)

pub mix_heard-requires-clause-scaled : goal.mix_heard-requires-clause-scaled
mix_heard-requires-clause-scaled g c = λ i lt.
    omega (arith, c.play_slots-used.ensures.plays.mixes.scales i lt, scale_few c.self.inside.observer.past.state i (subst (λ (y : MixerState). IsState y.observer.past.state) (sym c.self.view_is) c.requires.order.state) lt)

pub returns-clause-mixes : goal.returns-clause-mixes
returns-clause-mixes g c = c.mix_heard.ensures ∙ ap (λ (frames : List Frame). mix (takes_of frames c.play_slots-used.new.entry) (length c.args.out.now)) c.frames.ensures
