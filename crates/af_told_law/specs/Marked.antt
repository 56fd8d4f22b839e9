-- Rounds and runs in which no lawful block is poked.
use Rattle.std.specs.Prelude.{◌≡◌, ℕ, ◌<◌, true, false, List, [], length, slice_index_or}
use Rattle.std.specs.List.{list_any}
use Rattle.af_base.specs.declared.event.ClientCall.{ClientCall}
use Rattle.af_runs.specs.Blocks.{Marks, is_tame}
use Rattle.af_runs.specs.LegalRuns.{is_poke_on}
use Rattle.af_runs.specs.Runs.{Run, TrackTold, told_at}
use Rattle.af_told_law.specs.Sizes.{IsTrackSmall}

-- by the calls of a round no block is poked that the marks call lawful
abbrev pub IsRoundMarked : Marks → List (List ClientCall) → Type 0
IsRoundMarked marks calls = (i : ℕ) → (marks.streams i ≡ true → list_any (is_poke_on false) (slice_index_or calls i []) ≡ false) × (marks.commands i ≡ true → list_any (is_poke_on true) (slice_index_or calls i []) ≡ false)

-- a track whose blocks have no more frames than a block may have, and weren't poked so far if the marks call them lawful in the whole journal
pub record IsTrackMarked (marks : Marks) (n : ℕ) (t : TrackTold) : Type 0 where
  pub stream : marks.streams n ≡ true → is_tame t.stream ≡ true
  pub commands : marks.commands n ≡ true → is_tame t.commands ≡ true
  pub few : IsTrackSmall t

abbrev pub IsMarkedRun : Marks → Run → Type 0
IsMarkedRun marks run = (n : ℕ) → n < length run.tracks → IsTrackMarked marks n (told_at run n)
