use Rattle.std.proofs.Common.{List, length, sym, ap, ◌∙◌, subst}
use Rattle.af_model.specs.declared.newest.WriterEvent.{WriterEvent}
use Rattle.af_latest.specs.Laws.{stores}
use Rattle.af_latest.proofs.NeverFalls.{never_older}
use Rattle.af_static.specs.declared.setting.Setting.{Setting}
use Rattle.af_static.specs.Calls.{HasPlayed, loaded}
use Rattle.af_static.specs.Loops.{opening}
use Rattle.af_static.specs.Numbers.{AreNumbered}
use Rattle.af_static.proofs.Numbering.{numbered_met, stores_met, numbers_never_fall}
use Rattle.af_static.proofs.Calling.{loaded_met}
use Rattle.af_static.proofs.ends.meet_static.Goals as goal

pub invariant_of-setter : goal.invariant_of-setter
invariant_of-setter g c =
    let k = c.setter.invariant in
    record {
      first = c.meet_latest.ensures.together.1 ∙ k.first;
      numbered = subst (λ (ws : List (WriterEvent Setting)). AreNumbered 0 ws) (sym c.meet_latest.ensures.writer) (numbered_met 0 (length c.player.inside.reader.events) c.setter.inside.writer.events k.numbered);
      count = ap stores c.meet_latest.ensures.writer ∙ stores_met (length c.player.inside.reader.events) c.setter.inside.writer.events ∙ k.count;
    }

pub returns-clause-never_older : goal.returns-clause-never_older
returns-clause-never_older g c =
    let h = c.meet_latest.ensures.history opening c.setter.invariant.first in
    numbers_never_fall c.meet_latest.new.writer.events c.meet_latest.new.reader.events (invariant_of-setter g c).numbered h
    (never_older opening c.meet_latest.new.writer.events c.meet_latest.new.reader.events h)

pub returns-clause-played : goal.returns-clause-played
returns-clause-played g c frames calls played count was =
    let had = subst (HasPlayed frames calls played count) (sym c.player.view_is) was in
    record { all = had.all; loads = ap loaded c.meet_latest.ensures.reader ∙ loaded_met (length c.setter.inside.writer.events) c.player.inside.reader.events ∙ had.loads }
