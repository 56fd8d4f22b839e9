use Rattle.std.proofs.Common.{List, ℕ, [], append-nil, sym, rules}
use Rattle.af_offline.proofs.Common.{AddsFront, LeavesFront}
use Rattle.af_io.proofs.Steps.{AddsFront-append, LeavesFront-added}
use Rattle.af_offline.proofs.outputs.write_file.Goals as goal

pub returns-in_err-append-clause-left : goal.returns-in_err-append-clause-left
returns-in_err-append-clause-left g c = λ told.
    let whole : List ℕ = c.args.bytes.now in
    let before = g.S.Store.files c.args.store.now in
    let made = g.S.Store.files c.create.new.self in
    let after = g.S.Store.files c.append.new.self in
    let front : AddsFront made c.args.name.now whole after =
    AddsFront-append (Unit {0}) c.in_err-append.field-0.0 c.args.name.now whole made after (c.in_err-append.ensures.appended (c.in_ok-create.ensures.tells told)) in
    let left : LeavesFront before c.args.name.now whole after =
    LeavesFront-added before made after c.args.name.now [] whole [] whole (sym (append-nil whole)) (c.in_ok-create.ensures.created told) front in
    search (rules, left)
