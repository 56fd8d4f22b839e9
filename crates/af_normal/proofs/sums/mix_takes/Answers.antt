use Rattle.std.proofs.Common.{◌≡◌, ◌<◌, ◌≤◌, ℕ, length, map, take, All, List, slice_index_or, replicate, refl, sym, ap, subst, ◌∙◌, length-set, arith}
use Rattle.af_normal.proofs.Common.{Part, Setting, Take, mix, no_part, take_of as take_of_part}
use Rattle.af_normal.proofs.Given.{no_take, setup_of, given, put_is, read_take, given_more, parts_are, parts_fit}
use Rattle.af_normal.proofs.sums.mix_takes.Goals as goal

pub loop-i-init : goal.loop-i-init
loop-i-init c = record {
  whole = refl;
  each = λ k lt.
      let first : k ≡ 0 = omega arith in
      subst (λ (n : ℕ). take_of_part (slice_index_or (replicate 32 c.part_of-parts.result) n no_part) ≡ given c.args.settings.now (slice_index_or c.args.takes.now n no_take)) (sym first)
      (c.part_of-parts.ensures (setup_of c.args.settings.now) refl
      ∙ ap (given c.args.settings.now) (read_take c.args.takes.now 0 c.index-takes-0.result c.requires.some.0 c.index-takes-0.is));
}

pub loop-i-preserved : goal.loop-i-preserved
loop-i-preserved c = record {
  whole = length-set c.loop-i.parts c.loop-i.i c.part_of.result ∙ c.loop-i.invariant.whole;
  each =
      let inside : c.loop-i.i < length c.loop-i.parts = (let few = c.requires.some in let whole = c.loop-i.invariant.whole in let on = c.loop-i-test.true in omega arith) in
      let there : c.loop-i.i < length c.args.takes.now = (let on = c.loop-i-test.true in omega arith) in
      given_more c.args.settings.now c.args.takes.now c.loop-i.parts c.loop-i.i c.part_of.result inside c.loop-i.invariant.each
      (c.part_of.ensures (setup_of c.args.settings.now) refl ∙ ap (given c.args.settings.now) (read_take c.args.takes.now c.loop-i.i c.index-takes-i.result there c.index-takes-i.is));
}

pub mix-requires-clause-fits : goal.mix-requires-clause-fits
mix-requires-clause-fits c =
    let long : length c.args.takes.now ≤ length c.loop-i.parts = (let few = c.requires.some in let whole = c.loop-i.invariant.whole in omega arith) in
    subst (λ (n : ℕ). All (λ (part : Part). (length part.frames.now ≤ n) × (part.scale ≤ 4096)) (take (length c.args.takes.now) c.loop-i.parts)) (sym c.requires.lengths)
    (parts_fit c.args.settings.now c.args.takes.now c.loop-i.parts long
    (λ k lt. c.loop-i.invariant.each k (let off = c.loop-i-test.false in omega arith)) (length c.args.out.now) c.requires.fit c.requires.scales)

pub returns : goal.returns
returns c = λ setup same sized.
    let long : length c.args.takes.now ≤ length c.loop-i.parts = (let few = c.requires.some in let whole = c.loop-i.invariant.whole in omega arith) in
    c.mix.ensures
    ∙ ap (λ (ts : List Take). mix ts (length c.args.out.now))
    (parts_are c.args.settings.now c.args.takes.now c.loop-i.parts long (λ k lt. c.loop-i.invariant.each k (let off = c.loop-i-test.false in omega arith)))
    ∙ ap (λ (settings : List Setting). mix (map (given settings) c.args.takes.now) (length c.args.out.now)) (sym same)
    ∙ ap (λ (n : ℕ). mix (map (given setup.settings) c.args.takes.now) n) (sym sized)
    ∙ sym (put_is setup c.args.takes.now c.requires.some.0)
