use Rattle.std.proofs.Common.{◌-◌, ◌<◌, ◌≤◌, ℕ, length, take}
use Rattle.af_rendering.specs.Rendered.{Rendered}
use Rattle.af_rendering.specs.SoFar.{HasPlayedTo}
use Rattle.af_rendering.proofs.staging.Stage.play_turns.Given as goal

-- the turns so far, of this script and these files
abbrev pub ghosts-play_rounds : goal.ghosts-play_rounds
ghosts-play_rounds g a =
    let script = a.goes_on.now.0.now in
    record {
      between = λ n t tally. HasPlayedTo script a.round.now.1.now n t tally;
      came = λ t. (n : ℕ) × Rendered script a.round.now.1.now.files.now (take n script.turns) t;
      going = λ n t. n < length script.turns;
      over = λ n t. length script.turns ≤ n;
      left = λ n t. length script.turns - n;
    }
