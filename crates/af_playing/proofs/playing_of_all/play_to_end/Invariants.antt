use Rattle.std.proofs.Common.{◌≡◌, ◌-◌, List, length, true, false}
use Rattle.af_playing.proofs.Common.{RoundNoted}
use Rattle.af_playing.specs.PlayedRuns.{GoesOn, Plays, all_ended, is_full}
use Rattle.af_playing.specs.PlayedStages.{HasPlayedRounds, kept_in}
use Rattle.af_playing.proofs.playing_of_all.play_to_end.Given as goal

-- the rounds so far, of the script of this piece and its files
abbrev pub ghosts-play_rounds : goal.ghosts-play_rounds
ghosts-play_rounds g a =
    let piece = a.goes_on.now.0.now in
    record {
      between = λ noted t tally. HasPlayedRounds piece.script.now (kept_in piece.room) a.round.now.2.now noted t tally;
      came = λ t. (rounds : List RoundNoted) × Plays piece.script.now a.round.now.2.now.files.now rounds t;
      going = λ noted t. GoesOn t;
      over = λ noted t. all_ended t ≡ false → is_full t ≡ true;
      left = λ noted t. piece.script.now.cycles - length noted.rounds.rounds;
    }
