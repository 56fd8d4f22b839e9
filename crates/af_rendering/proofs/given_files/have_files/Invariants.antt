use Rattle.std.proofs.Common.{◌<◌, ℕ}
use Rattle.af_rendering.proofs.Common.{file_at, ops_at}
use Rattle.af_rendering.specs.Rendered.{IsFileFor}
use Rattle.af_rendering.proofs.given_files.have_files.Given as goal

abbrev pub invariant-loop-i : goal.invariant-loop-i
invariant-loop-i l = (k : ℕ) → k < l.i → IsFileFor (ops_at (record { tracks = l.tracks; files = l.files }) k) (file_at (record { tracks = l.tracks; files = l.files }) k)
