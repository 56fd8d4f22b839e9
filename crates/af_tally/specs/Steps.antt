-- How many word steps the cycles of a run may take.
use Rattle.std.specs.Prelude.{ℕ, ◌+◌, ◌*◌, ◌≤◌, List, Option, Some, None}
use Rattle.std.specs.List.{AllZip}
use Rattle.af_base.specs.declared.state.FastState.{FastState}
use Rattle.af_model.specs.Tracks.{tracks_of}
use Rattle.af_tally.specs.Summaries.{EntryUsed, Shown}

-- how many tracks the state has that a cycle uses: none if it uses no state
abbrev pub tracks_used : Option FastState → ℕ
tracks_used None = 0
tracks_used (Some x) = tracks_of x

-- the most steps of a cycle of so many frames with this state: with m tracks (m + 1) * frames + 7 * m + 6
abbrev pub most_steps : ℕ → Option FastState → ℕ
most_steps frames state = (tracks_used state + 1) * frames + 7 * tracks_used state + 6

-- the most steps that a note of an entry takes
abbrev pub most_note : ℕ
most_note = 10

-- these steps are no more than the cycle of this entry may take, and those of its note no more than a note may
abbrev pub IsFew : ℕ → EntryUsed → ℕ × ℕ → Type 0
IsFew frames used steps = (steps.0 ≤ most_steps frames used.state) × (steps.1 ≤ most_note)

-- these are the steps of the cycles of a run, one after the other, each with those of its note, and none took more than it may
abbrev pub AreFew : Shown → List (ℕ × ℕ) → Type 0
AreFew run steps = AllZip (IsFew run.frames) run.entries steps
