use Rattle.std.proofs.Common.{◌≡◌, sym, ap, ◌∙◌, subst, List, map}
use Rattle.af_judge.proofs.Common.{Frame, IfOk, NormalTake, Part, take_all, take_of, take_seen}
use Rattle.af_base.specs.Part.{take_of as part_of}
use Rattle.af_judge.proofs.NormalKept.{put_is}
use Rattle.af_judge.proofs.mixer_setup.MixerSetup.put.Goals as goal

pub returns : goal.returns
returns c =
    let P : List Frame → Type 0 = λ x. IfOk c.mix_of.result (λ frames. frames.items ≡ x) in
    subst P (put_is c.args.self.now c.args.takes.now c.as_slice.result.now c.asked.result
    (ap (λ (xs : List Part). map part_of xs) c.as_slice.ensures.value ∙ c.loop-take.invariant ∙ ap (λ (xs : List NormalTake). map (λ (t : NormalTake). take_of c.args.self.now (take_seen t)) xs) (take_all c.loop-take.take-index c.args.takes.now c.loop-take-test.false))
    c.asked.ensures (sym c.is_empty.ensures ∙ c.if-is_empty.false)) c.mix_of.ensures
