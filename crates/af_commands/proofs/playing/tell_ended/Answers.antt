use Rattle.af_commands.proofs.Told.{WritesText-line}
use Rattle.af_commands.proofs.playing.tell_ended.Goals as goal

pub returns-clause-files : goal.returns-clause-files
returns-clause-files g c = λ told.
    let p = c.args.played.now in
    WritesText-line p.summary c.args.name.now p.journal c.line_of.result (g.S.Store.files c.args.store.now) (g.S.Store.files c.write_journal.new.store) c.line_of.ensures (c.in_ok-write_journal.ensures.written told)
