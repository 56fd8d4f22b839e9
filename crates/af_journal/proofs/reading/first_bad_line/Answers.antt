use Rattle.std.proofs.Common.{rules, ◌≡◌, ◌<◌, ◌^◌, sym, subst, length}
use Rattle.af_journal.specs.declared.stage.Stage.TheVariants.{Nothing}
use Rattle.af_journal.specs.Readings.{first_refused, parts_of}
use Rattle.af_journal.proofs.InOrder.{Found, read_all}
use Rattle.af_journal.proofs.Readable.{line_from, reading_from}
use Rattle.af_journal.proofs.reading.first_bad_line.Goals as goal

pub returns-clause-reading : goal.returns-clause-reading
returns-clause-reading c =
    let text = c.args.bytes.now in let tracks = length c.args.script.now.tracks in
    let few : tracks < 2 ^ 32 = search rules in
    let same : c.first_refused.result ≡ first_refused tracks Nothing 1 (parts_of text) = search rules in
    reading_from tracks text c.first_refused.result few (subst (Found tracks text) (sym same) (read_all tracks text))

pub returns-clause-line : goal.returns-clause-line
returns-clause-line c =
    let text = c.args.bytes.now in let tracks = length c.args.script.now.tracks in
    let few : tracks < 2 ^ 32 = search rules in
    let same : c.first_refused.result ≡ first_refused tracks Nothing 1 (parts_of text) = search rules in
    line_from tracks text c.first_refused.result few (subst (Found tracks text) (sym same) (read_all tracks text))
