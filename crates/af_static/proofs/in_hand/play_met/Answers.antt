use Rattle.std.proofs.Common.{length, ap, ◌∙◌}
use Rattle.af_latest.specs.Laws.{last_of, stores}
use Rattle.af_static.specs.Ends.{Plays}
use Rattle.af_static.specs.Loops.{opening}
use Rattle.af_static.proofs.Numbering.{stores_met}
use Rattle.af_static.proofs.Newest.{last_met, used_exact}
use Rattle.af_static.proofs.in_hand.play_met.Goals as goal

pub returns-clause-used : goal.returns-clause-used
returns-clause-used g c =
    used_exact c.args.shared.now c.args.setter.now c.meet_static.new.setter c.args.player.now c.mix_next-unrolled.new.self c.meet_static.new.player c.requires.step
    (λ e. let l = c.mix_next-unrolled.ensures.load e in (l.0, l.1)) (λ e. (c.mix_next-unrolled.ensures.shut e).0)
    c.meet_static.ensures.setter.1 (ap (λ (p : Plays). p.events) c.meet_static.ensures.player) (ap (λ (p : Plays). p.setting) c.meet_static.ensures.player) c.meet_static.ensures.history

pub returns-clause-newest : goal.returns-clause-newest
returns-clause-newest g c = (
  ap (last_of opening) c.meet_static.ensures.setter.1 ∙ last_met (length c.mix_next-unrolled.new.self.events) c.args.setter.now.events,
  ap stores c.meet_static.ensures.setter.1 ∙ stores_met (length c.mix_next-unrolled.new.self.events) c.args.setter.now.events,
)
