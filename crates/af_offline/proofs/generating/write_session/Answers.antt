use Rattle.std.proofs.Common.{Some, subst, rules}
use Rattle.af_offline.proofs.Common.{LeavesFront, ScriptData, SetsFile, printed_script}
use Rattle.af_offline.proofs.Generated.{script_missing, script_more, script_next, script_unwritten}
use Rattle.af_offline.proofs.generating.write_session.Goals as goal

pub returns-in_err-write_drawn-clause-left : goal.returns-in_err-write_drawn-clause-left
returns-in_err-write_drawn-clause-left g c = λ told.
    let left = script_missing c.args.number c.args.name.now (g.S.Store.files c.args.store.now) (g.S.Store.files c.write_drawn.new.store) (c.in_err-write_drawn.ensures.left told) in
    search (rules, left)

pub returns-in_err-script-clause-left : goal.returns-in_err-script-clause-left
returns-in_err-script-clause-left g c = λ told.
    let left = script_unwritten c.args.number c.args.name.now (g.S.Store.files c.args.store.now) (g.S.Store.files c.write_drawn.new.store) (c.in_ok-write_drawn.ensures.written told) in
    search (rules, left)

pub returns-in_err-write_script-clause-left : goal.returns-in_err-write_script-clause-left
returns-in_err-write_script-clause-left g c = λ told.
    let name = c.args.name.now in
    let mid = g.S.Store.files c.write_drawn.new.store in
    let new = g.S.Store.files c.write_script.new.store in
    let front = subst (λ (script : ScriptData). LeavesFront mid name (printed_script script) new) c.in_ok-script.ensures (c.in_err-write_script.ensures.left (c.in_ok-write_drawn.ensures.tells told)) in
    let left = script_next c.args.number name (g.S.Store.files c.args.store.now) mid new (c.in_ok-write_drawn.ensures.written told) front in
    search (rules, left)

pub returns-clause-written : goal.returns-clause-written
returns-clause-written g c = λ told.
    let name = c.args.name.now in
    let mid = g.S.Store.files c.write_drawn.new.store in
    let new = g.S.Store.files c.write_script.new.store in
    script_more c.args.number name (g.S.Store.files c.args.store.now) mid new (c.in_ok-write_drawn.ensures.written told)
    (subst (λ (script : ScriptData). SetsFile mid name (Some (printed_script script)) new) c.in_ok-script.ensures (c.in_ok-write_script.ensures.written (c.in_ok-write_drawn.ensures.tells told)))
