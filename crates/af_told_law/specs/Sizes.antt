-- How large the blocks of a session and of a run may be.
use Rattle.std.specs.Prelude.{ℕ, ◌<◌, ◌≤◌, length}
use Rattle.af_runs.specs.Runs.{Run, TrackTold, told_at}

-- a track whose blocks have no more frames than a block may have
abbrev pub IsTrackSmall : TrackTold → Type 0
IsTrackSmall t = (t.stream.shape.frames ≤ 65536) × (t.commands.shape.frames ≤ 65536)

abbrev pub IsSmallRun : Run → Type 0
IsSmallRun run = (n : ℕ) → n < length run.tracks → IsTrackSmall (told_at run n)
