use Rattle.std.proofs.Common.{refl, ap, ◌∙◌}
use Rattle.af_nblog.proofs.Common.{ClientPart, ServerPart}
use Rattle.af_nblog.specs.Notes.{notes_in}
use Rattle.af_nblog.proofs.Spelling.{none_spelled}
use Rattle.af_nblog.proofs.Noting.{new_noting}
use Rattle.af_nblog.proofs.NotesRead.{new_reading}
use Rattle.af_nblog.proofs.Rounds.{new_between}
use Rattle.af_nblog.proofs.ends.ring.Goals as goal

pub invariant_of-writer : goal.invariant_of-writer
invariant_of-writer c =
    let made = c.in_ok-block in
    new_noting made.puts.pass.part made.block.shape c.args.room made.ensures.puts.0 made.ensures.size.0 c.requires.some made.ensures.size.3

pub invariant_of-result : goal.invariant_of-result
invariant_of-result c =
    let made = c.in_ok-block in
    new_reading made.takes.pass.part made.block.shape made.ensures.takes.0

pub returns-clause-empty : goal.returns-clause-empty
returns-clause-empty c =
    let made = c.in_ok-block in (
      ap (λ (p : ClientPart). notes_in p.frames) made.ensures.puts.0 ∙ none_spelled,
      refl,
      ap (λ (s : ServerPart). notes_in s.frames) made.ensures.takes.0 ∙ none_spelled,
    )

pub returns-clause-between : goal.returns-clause-between
returns-clause-between c =
    let made = c.in_ok-block in
    new_between c.args.room made.puts.pass made.takes.pass 0 made.block.shape made.ensures.puts.0 made.ensures.takes.0
