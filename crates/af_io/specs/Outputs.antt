-- Several files that are made, one after the other.
use Rattle.std.specs.Prelude.{◌⊎◌, ℕ, List, [], ◌∷◌, Some, if◌then◌else◌}
use Rattle.std.specs.Str.{bytes_eq}
use Rattle.af_io.specs.Files.{Files, SameFiles, LeavesFront}

-- a file's name, and all the bytes that it is to hold
pub record NamedFile : Type 0 where
  pub name : List ℕ
  pub bytes : List ℕ

-- the files after this one was made
abbrev pub with_file : Files → NamedFile → Files
with_file files made other = if bytes_eq made.name other then Some made.bytes else files other

-- the files after all of these were made, one after the other
abbrev pub with_files : Files → List NamedFile → Files
with_files files [] = files
with_files files (made ∷ rest) = with_files (with_file files made) rest

-- all of these files were made, and no other file has changed
abbrev pub SetsFiles : Files → List NamedFile → Files → Type 0
SetsFiles old files new = SameFiles (with_files old files) new

-- Files were made up to a fault: some first ones are whole, the next is as before or holds a front of its bytes (empty, too), and no other file has changed.
abbrev pub LeavesFronts : Files → List NamedFile → Files → Type 0
LeavesFronts old [] new = SameFiles old new
LeavesFronts old (made ∷ rest) new = LeavesFront old made.name made.bytes new ⊎ LeavesFronts (with_file old made) rest new
