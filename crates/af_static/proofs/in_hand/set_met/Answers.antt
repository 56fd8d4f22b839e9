use Rattle.std.proofs.Common.{List, length, ap, ◌++◌, ◌∷◌, [], ◌∙◌}
use Rattle.af_model.specs.declared.newest.WriterEvent.{WriterEvent}
use Rattle.af_model.specs.declared.newest.WriterEvent.TheVariants as writes
use Rattle.af_latest.specs.Laws.{last_of, stores}
use Rattle.af_static.specs.declared.setting.Setting.{Setting}
use Rattle.af_static.specs.Loops.{opening}
use Rattle.af_static.proofs.Numbering.{stores_met}
use Rattle.af_static.proofs.Newest.{last_set}
use Rattle.af_static.proofs.in_hand.set_met.Goals as goal

pub returns-clause-number : goal.returns-clause-number
returns-clause-number g c =
    (c.set-number.ensures.number.0, ap stores c.meet_static.ensures.setter.1 ∙ stores_met (length c.args.player.now.events) c.set-number.new.self.events ∙ c.set-number.ensures.number.1)

pub returns-clause-newest : goal.returns-clause-newest
returns-clause-newest g c =
    ap (last_of opening) (c.meet_static.ensures.setter.1 ∙ ap (λ (ws : List (WriterEvent Setting)). ws ++ writes.Learn (length c.args.player.now.events) ∷ []) c.set-number.ensures.list)
    ∙ last_set (length c.args.player.now.events) (record { number = c.set-number.result; start = c.args.numbers.0; end = c.args.numbers.1; count = c.args.numbers.2 }) c.args.setter.now.events
