-- Files that are made one after the other.
use Rattle.std.proofs.Common.{◌≡◌, List, [], ◌∷◌, ◌++◌, Some, refl, sym, inl, inr, subst}
use Rattle.af_io.proofs.Basics.{files_are}
use Rattle.af_io.specs.Files.{Files, SameFiles, SetsFile, LeavesFront}
use Rattle.af_io.specs.Outputs.{NamedFile, with_file, with_files, SetsFiles, LeavesFronts}

-- nothing was made
pub LeavesFronts-none : (old : Files) (files : List NamedFile) (new : Files) → SameFiles old new → LeavesFronts old files new
LeavesFronts-none old [] new same = same
LeavesFronts-none old (made ∷ rest) new same = inl (inl same)

-- the files were made up to a place where the next one may not be whole
pub LeavesFronts-at : (old : Files) (done : List NamedFile) (next : NamedFile) (rest : List NamedFile) (new : Files) → LeavesFront (with_files old done) next.name next.bytes new → LeavesFronts old (done ++ next ∷ rest) new
LeavesFronts-at old [] next rest new left = inl left
LeavesFronts-at old (made ∷ done) next rest new left = inr (LeavesFronts-at (with_file old made) done next rest new left)

-- some first files were made up to a fault
pub LeavesFronts-first : (old : Files) (first rest : List NamedFile) (new : Files) → LeavesFronts old first new → LeavesFronts old (first ++ rest) new
LeavesFronts-first old [] rest new same = LeavesFronts-none old rest new same
LeavesFronts-first old (made ∷ first) rest new (inl left) = inl left
LeavesFronts-first old (made ∷ first) rest new (inr later) = inr (LeavesFronts-first (with_file old made) first rest new later)

-- all files were made
pub LeavesFronts-whole : (old : Files) (files : List NamedFile) (new : Files) → SetsFiles old files new → LeavesFronts old files new
LeavesFronts-whole old [] new same = same
LeavesFronts-whole old (made ∷ rest) new set = inr (LeavesFronts-whole (with_file old made) rest new set)

-- some first files were made, and then the others up to a fault
pub LeavesFronts-behind : (old : Files) (first rest : List NamedFile) (new : Files) → LeavesFronts (with_files old first) rest new → LeavesFronts old (first ++ rest) new
LeavesFronts-behind old [] rest new left = left
LeavesFronts-behind old (made ∷ first) rest new left = inr (LeavesFronts-behind (with_file old made) first rest new left)

-- some first files, and then others
pub with_files-append : (old : Files) (first rest : List NamedFile) → with_files old (first ++ rest) ≡ with_files (with_files old first) rest
with_files-append old [] rest = refl
with_files-append old (made ∷ first) rest = with_files-append (with_file old made) first rest

-- one more file was made
pub SetsFiles-more : (old : Files) (done : List NamedFile) (mid : Files) (next : NamedFile) (new : Files) → SetsFiles old done mid → SetsFile mid next.name (Some next.bytes) new → SetsFiles old (done ++ next ∷ []) new
SetsFiles-more old done mid next new before set =
    let here : SetsFile (with_files old done) next.name (Some next.bytes) new = subst (λ (files : Files). SetsFile files next.name (Some next.bytes) new) (files_are (with_files old done) mid before) set in
    subst (λ (files : Files). SameFiles files new) (sym (with_files-append old done (next ∷ []))) here

-- the next file may not be whole
pub LeavesFronts-next : (old : Files) (done : List NamedFile) (mid : Files) (next : NamedFile) (rest : List NamedFile) (new : Files) → SetsFiles old done mid → LeavesFront mid next.name next.bytes new → LeavesFronts old (done ++ next ∷ rest) new
LeavesFronts-next old done mid next rest new before left =
    LeavesFronts-at old done next rest new (subst (λ (files : Files). LeavesFront files next.name next.bytes new) (files_are (with_files old done) mid before) left)
