use Rattle.std.proofs.Common.{ap, ◌∙◌}
use Rattle.af_script.proofs.Common.{get_member, table_get, table_view}
use Rattle.af_script.proofs.tree.value_at.Goals as goal

pub returns : goal.returns
returns c =
    table_get c.get.result c.text.result.now c.args.table.now.entries c.get.ensures.value
    ∙ ap (λ key. get_member key (table_view c.args.table.now)) c.text.ensures
