use Rattle.std.proofs.Common.{◌≡◌, ◌+◌, ap, ◌∙◌}
use Rattle.af_static.specs.InStep.{HandState}
use Rattle.af_offline.proofs.Rolling.{hand_set, set_setting}
use Rattle.af_offline.proofs.looping.set_once.Goals as goal

pub returns-clause-setting : goal.returns-clause-setting
returns-clause-setting c =
    let turns = c.args.turns in
    let hand = c.in_ok-hand.ensures in
    let number : c.set.result ≡ 1 = c.set.ensures.number ∙ ap (λ (h : HandState). h.made + 1) hand in
    let state : c.set.new.self ≡ hand_set turns c.args.frames.now = c.set.ensures.state ∙ (λ i. record {
      frames = (hand i).frames;
      made = number i;
      newest = record { number = number i; start = turns.start; end = turns.end; count = turns.count };
      used = (hand i).used;
      head = (hand i).head;
    }) in
    (ap (λ (h : HandState). h.newest) state, set_setting turns c.args.frames.now c.set.new.self state)
