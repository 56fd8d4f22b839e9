use Rattle.std.proofs.Common.{rules, ◌≡◌, length}
use Rattle.af_rendering.proofs.Outgoing.{nothing_sent, sent_all, sent_front}
use Rattle.af_rendering.proofs.rounds.send_out.Goals as goal

pub returns-then-is_empty-clause-sent : goal.returns-then-is_empty-clause-sent
returns-then-is_empty-clause-sent g c = λ told out base set.
    let none : length c.args.bytes.now ≡ 0 = search rules in
    (nothing_sent base (g.S.Store.files c.args.store.now) c.args.name.now out c.args.bytes.now none set, tt)

pub returns-clause-sent : goal.returns-clause-sent
returns-clause-sent g c = λ told out base set.
    let old = g.S.Store.files c.args.store.now in
    let new = g.S.Store.files c.append.new.self in
    let adds = c.append.ensures.appended told in
    (sent_all c.append.result base old new c.args.name.now out c.args.bytes.now set adds, sent_front c.append.result base old new c.args.name.now out c.args.bytes.now set adds)
