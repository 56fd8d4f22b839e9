use Rattle.std.proofs.Common.{List, subst, sym}
use Rattle.af_base.specs.declared.state.FastState.{FastState}
use Rattle.af_cblk.specs.Sides.{Made}
use Rattle.af_model.specs.StateQueue.{slot_of}
use Rattle.af_link.specs.Names.{IsStreamOf}
use Rattle.af_fast_tests.proofs.table_tests.Table.take_back.Goals as goal

pub put_server-requires-clause-stream : goal.put_server-requires-clause-stream
put_server-requires-clause-stream c =
    subst (λ (y : List Made × FastState). IsStreamOf y.0 (slot_of y.1 c.args.slot).track c.in-Some.server) (λ i. (c.requires.ready.names.2 i, sym c.draft.ensures.draft i))
    (c.in-Some.ensures.fits c.requires.ready.names.0 c.requires.ready.names.1)
