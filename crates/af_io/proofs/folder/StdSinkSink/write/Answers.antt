use Rattle.af_io.proofs.Whole.{WritesFront-appends, WritesFront-tells}
use Rattle.af_io.proofs.folder.StdSinkSink.write.Goals as goal

pub returns-clause-written : goal.returns-clause-written
returns-clause-written g c = λ told. WritesFront-appends _ _ c.args.bytes.now c.write_whole-written.result c.write_whole-written.ensures.front c.write_whole-written.ensures.system told

pub returns-clause-tells : goal.returns-clause-tells
returns-clause-tells g c = λ told. WritesFront-tells _ _ c.args.bytes.now c.write_whole-written.result c.write_whole-written.ensures.front told
