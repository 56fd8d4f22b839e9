use Rattle.std.proofs.Common.{◌≡◌, ℕ, ◌-◌, ◌≤◌, List, length, take, drop, map, min, ap, sym, ◌∙◌, subst, arith, length-drop, length-take}
use Rattle.af_offline.proofs.Common.{Frame, length-map, packed_word, take_all}
use Rattle.af_offline.specs.Captured.{state_of}
use Rattle.af_offline.specs.Recorded.{Recording, period, periods}
use Rattle.af_offline.proofs.Taped.{IsOn, one_on, next_words, words_behind}
use Rattle.af_offline.proofs.capture.Tape.supply_all.Goals as goal

pub loop-rest-preserved : goal.loop-rest-preserved
loop-rest-preserved c =
    let sizes = c.args.sizes in
    let rest : List Frame = c.loop-rest.rest.now in
    let len : ℕ = c.min-len.result in
    let state : Recording ℕ = state_of c.loop-rest.self in
    let whole : Recording ℕ = periods sizes (length c.args.frames.now) (map packed_word c.args.frames.now) (state_of c.args.self.now) in
    let is : len ≡ min (length rest) sizes.supply = c.min-len.ensures in
    let many : length (map packed_word rest) ≡ length rest = length-map rest packed_word in
    let some = c.loop-rest.invariant.tape.sound.supply.0 in
    let more : 1 ≤ length rest = grind arith in
    let on = one_on sizes (map packed_word rest) state whole some (omega arith) c.loop-rest.invariant.on in
    let tail : take (length rest - len) (drop len rest) ≡ drop len rest = take_all (length rest - len) (drop len rest) (omega (arith, length-drop len rest)) in
    let left : drop sizes.supply (map packed_word rest) ≡ map packed_word (take (length rest - len) (drop len rest)) =
    sym (ap (map packed_word) (tail ∙ ap (λ (n : ℕ). drop n rest) is) ∙ words_behind sizes.supply rest) in
    let now : period sizes (take sizes.supply (map packed_word rest)) state ≡ state_of c.period.new.self =
    sym (c.in_ok-period.ensures.state ∙ ap (λ (words : List ℕ). period sizes words state) (ap (λ (n : ℕ). map packed_word (take n rest)) is ∙ next_words sizes.supply rest)) in
    record {
      tape = c.in_ok-period.ensures.tape;
      on = subst (λ (x : List ℕ × Recording ℕ). IsOn sizes x.0 x.1 whole) (λ i. (left i, now i)) on;
      supplied = (let a = c.in_ok-period.ensures.supplied in let b = c.loop-rest.invariant.supplied in let d = ap length tail in let e = length-drop len rest in let f = length-take len rest in omega arith);
    }
