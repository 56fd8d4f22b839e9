use Rattle.std.proofs.Common.{rules}
use Rattle.af_commands.proofs.Common.{output_job, record_asked}
use Rattle.af_commands.proofs.Made.{Makes-delivered, Makes-stopped, Makes-undelivered}
use Rattle.af_commands.proofs.offline.record_file.Goals as goal

pub returns-in_err-output-clause-made : goal.returns-in_err-output-clause-made
returns-in_err-output-clause-made g c = λ told.
    let stopped =
    Makes-stopped (output_job c.args.target.now) c.in_err-output.field-0.0 (record_asked (g.S.Store.files c.args.store.now) c.args.input.now c.args.target.now c.args.sizes)
    (g.S.Store.files c.args.store.now) (g.S.Store.files c.record_output.new.store) (c.in_err-output.ensures.made c.args.target.now told) (c.in_err-output.ensures.same told) in
    search (rules, stopped)

pub returns-in_err-deliver-clause-made : goal.returns-in_err-deliver-clause-made
returns-in_err-deliver-clause-made g c = λ told.
    let cut =
    Makes-undelivered c.in_ok-output.output c.in_err-deliver.field-0.0 (record_asked (g.S.Store.files c.args.store.now) c.args.input.now c.args.target.now c.args.sizes) c.args.target.now
    (g.S.Store.files c.args.store.now) (g.S.Store.files c.record_output.new.store) (g.S.Store.files c.deliver.new.store)
    (c.in_ok-output.ensures.made c.args.target.now told) (c.in_ok-output.ensures.same told) (c.in_err-deliver.ensures.left (c.in_ok-output.ensures.tells told)) in
    search (rules, cut)

pub returns-clause-made : goal.returns-clause-made
returns-clause-made g c = λ told.
    Makes-delivered c.in_ok-output.output _ (record_asked (g.S.Store.files c.args.store.now) c.args.input.now c.args.target.now c.args.sizes) c.args.target.now
    (g.S.Store.files c.args.store.now) (g.S.Store.files c.record_output.new.store) (g.S.Store.files c.deliver.new.store)
    (c.in_ok-output.ensures.made c.args.target.now told) (c.in_ok-output.ensures.same told) c.in_ok-deliver.ensures.line (c.in_ok-deliver.ensures.written (c.in_ok-output.ensures.tells told))
