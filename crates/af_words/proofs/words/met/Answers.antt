use Rattle.af_words.proofs.PlayerWords.{both_of}
use Rattle.af_words.proofs.words.met.Goals as goal

pub returns : goal.returns
returns c = both_of _ _ _ _ c.subcommand.result _ c.subcommand.ensures.name c.subcommand.ensures.rows
