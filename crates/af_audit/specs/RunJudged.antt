-- What a judge keeps of a run, whatever the journal.
use Rattle.std.specs.Prelude.{◌≡◌, ℕ, ◌≤◌, length}
use Rattle.af_judge.specs.NormalJudged.{IsJudged}
use Rattle.af_audit.specs.declared.run_judge.RunJudge.{RunJudge}

-- the normal mixer's parts belong together, and it has so many tracks, 32 at most
pub record IsReady (j : RunJudge) (count : ℕ) : Type 0 where
  pub judged : IsJudged j.normal
  pub kept : length j.normal.plain.kept.tracks ≡ count
  pub few : count ≤ 32
