use Rattle.std.proofs.Common.{◌≡◌, length}
use Rattle.af_script.specs.Reading.{turn_of_words}
use Rattle.af_script.proofs.Each.{ReadSoFar}
use Rattle.af_script.proofs.script.each_turn.Given as goal

abbrev pub invariant-loop-index : goal.invariant-loop-index
invariant-loop-index l = record {
  so_far : ReadSoFar (turn_of_words l.tracks) l.values l.turns.items l.index;
  count : length l.turns.items ≡ l.index;
}
