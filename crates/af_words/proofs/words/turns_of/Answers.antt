use Rattle.af_script.specs.Text.{is_number}
use Rattle.af_words.proofs.Spelled.{spells}
use Rattle.af_words.proofs.words.turns_of.Goals as goal

pub returns-clause-sound : goal.returns-clause-sound
returns-clause-sound c = record {
  places = spells 1 1024 c.in_ok-places.places c.args.places.now (is_number c.args.places.now) c.in_ok-places.ensures;
  calls = spells 1 2048 c.in_ok-calls.calls c.args.calls.now (is_number c.args.calls.now) c.in_ok-calls.ensures;
}
