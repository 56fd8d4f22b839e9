use Rattle.std.proofs.Common.{rules}
use Rattle.af_commands.specs.Told.{Tells, TellsCause, TellsTexts}
use Rattle.af_commands.proofs.PlayedFaults.{TellsCause-logged, TellsCause-unlogged, Tells-unlogged, stopped}
use Rattle.af_commands.proofs.Told.{TellsTexts-logged, TellsTexts-stopped, TellsTexts-unlogged}
use Rattle.af_commands.proofs.tracing.tell_with_log.Goals as goal

pub returns-in_err-line-clause-files : goal.returns-in_err-line-clause-files
returns-in_err-line-clause-files g c = λ told.
    let stopped = TellsTexts-stopped c.args.cycles c.args.name.now c.args.log.now c.args.text.now c.args.played.now c.in_err-line.field-0.0 (g.S.Store.files c.args.store.now) (g.S.Store.files c.tell.new.store)
    c.in_err-line.ensures.told (c.in_err-line.ensures.files told) in
    search (rules, stopped)

pub returns-in_err-write_file-clause-told : goal.returns-in_err-write_file-clause-told
returns-in_err-write_file-clause-told g c =
    let e = c.in_err-write_file.field-0.0 in
    stopped (λ x. Tells c.args.cycles c.args.played.now x) c.from_residual-in_err-write_file.result e
    (Tells-unlogged c.args.cycles c.in_ok-line.line c.args.played.now e c.in_ok-line.ensures.told) c.from_residual-in_err-write_file.ensures.1

pub returns-in_err-write_file-clause-files : goal.returns-in_err-write_file-clause-files
returns-in_err-write_file-clause-files g c = λ told.
    let e = c.in_err-write_file.field-0.0 in
    let old = g.S.Store.files c.args.store.now in
    let mid = g.S.Store.files c.tell.new.store in
    let new = g.S.Store.files c.write_file.new.store in
    stopped (λ x. TellsTexts c.args.name.now c.args.log.now c.args.text.now c.args.played.now x old new) c.from_residual-in_err-write_file.result e
    (TellsTexts-unlogged c.args.cycles c.args.name.now c.args.log.now c.args.text.now c.in_ok-line.line old mid new c.args.played.now e c.in_ok-line.ensures.told (c.in_ok-line.ensures.files told)
    (c.in_err-write_file.ensures.left (c.in_ok-line.ensures.tells told))) c.from_residual-in_err-write_file.ensures.1

pub returns-in_err-write_file-clause-cause : goal.returns-in_err-write_file-clause-cause
returns-in_err-write_file-clause-cause g c =
    let e = c.in_err-write_file.field-0.0 in
    let before = g.S.Store.faults c.args.store.now in
    let mid = g.S.Store.faults c.tell.new.store in
    let now = g.S.Store.faults c.write_file.new.store in
    stopped (λ x. TellsCause before now c.args.played.now x) c.from_residual-in_err-write_file.result e
    (TellsCause-unlogged c.args.cycles c.in_ok-line.line before mid now c.args.played.now e c.in_ok-line.ensures.told c.in_ok-line.ensures.cause c.in_err-write_file.ensures.cause) c.from_residual-in_err-write_file.ensures.1

pub returns-clause-files : goal.returns-clause-files
returns-clause-files g c = λ told.
    TellsTexts-logged c.args.cycles c.args.name.now c.args.log.now c.args.text.now c.in_ok-line.line (g.S.Store.files c.args.store.now) (g.S.Store.files c.tell.new.store) (g.S.Store.files c.write_file.new.store) c.args.played.now
    c.in_ok-line.ensures.told (c.in_ok-line.ensures.files told) (c.in_ok-write_file.ensures.written (c.in_ok-line.ensures.tells told))

pub returns-clause-cause : goal.returns-clause-cause
returns-clause-cause g c =
    TellsCause-logged c.args.cycles c.in_ok-line.line (g.S.Store.faults c.args.store.now) (g.S.Store.faults c.tell.new.store) (g.S.Store.faults c.write_file.new.store) c.args.played.now c.in_ok-write_file.field-0
    c.in_ok-line.ensures.told c.in_ok-line.ensures.cause c.in_ok-write_file.ensures.cause
