use Rattle.std.proofs.Common.{◌≡◌, ◌++◌, length}
use Rattle.af_journal.proofs.Common.{AreWords, flat_map}
use Rattle.af_journal.specs.Lines.{hex_word}
use Rattle.af_journal.proofs.left.words_of.Given as goal

abbrev pub invariant-words : goal.invariant-words
invariant-words l = record {
  digits : l.digits ≡ flat_map hex_word l.words.items ++ l.rest;
  fits : AreWords l.words.items;
}

abbrev pub decreases-words : goal.decreases-words
decreases-words l = length l.rest
