use Rattle.std.proofs.Common.{◌∙◌, ◌+◌, get_or}
use Rattle.af_journal.proofs.Common.{packed_word}
use Rattle.af_journal.proofs.Spelling.{word-bytes}
use Rattle.af_journal.proofs.hexadecimal.frame_at.Goals as goal

pub returns-clause-word : goal.returns-clause-word
returns-clause-word c =
    let bytes = c.args.bytes.now in
    let at = c.args.at in
    let fits = c.type_inv.bytes in
    word-bytes (get_or bytes at 0) (get_or bytes (at + 1) 0) (get_or bytes (at + 2) 0) (get_or bytes (at + 3) 0) (packed_word c.unpack.result)
    (fits at).fits (fits (at + 1)).fits (fits (at + 2)).fits (fits (at + 3)).fits (c.unpack.ensures.packed ∙ c.from_be_bytes.ensures)
