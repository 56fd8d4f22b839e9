-- Basic lemmas that several files here, and of the crates above, cite.
use Rattle.std.proofs.Common.{◌≡◌}
use Rattle.af_io.specs.Files.{Files, SameFiles}

-- files of which none has changed
pub files_are : (old mid : Files) → SameFiles old mid → mid ≡ old
files_are old mid same = λ i name. same name i
