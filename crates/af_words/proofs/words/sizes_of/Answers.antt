use Rattle.af_script.specs.Text.{is_number}
use Rattle.af_words.proofs.Spelled.{spells}
use Rattle.af_words.proofs.words.sizes_of.Goals as goal

pub returns-clause-sound : goal.returns-clause-sound
returns-clause-sound c = record {
  room = spells 1 8192 c.in_ok-room.room c.args.room.now (is_number c.args.room.now) c.in_ok-room.ensures;
  supply = spells 1 1024 c.in_ok-supply.supply c.args.supply.now (is_number c.args.supply.now) c.in_ok-supply.ensures;
  read = spells 1 1024 c.in_ok-read.read c.args.read.now (is_number c.args.read.now) c.in_ok-read.ensures;
}
