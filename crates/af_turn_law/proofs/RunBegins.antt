-- Before the first round all is ready, so that the turns of a run from its beginning are those of a turn run.
use Rattle.std.proofs.Common.{◌≡◌, ℕ, zero, suc, true, false, List, [], ◌∷◌, length, map, refl, sym, subst}
use Rattle.af_turn_law.proofs.Common.{AreTurns, Marks, RoundSeen, Session, TurnSpec, length-replicate, new_run, new_track as first_track, no_track, range_with_len, setup_of, slice_index_or, sound_new, takes_part, track_count}
use Rattle.af_script.specs.Form.{IsScript}
use Rattle.af_runs.specs.Runs.{new_told_track}
use Rattle.af_judge.proofs.StatesRuns.{scales_of}
use Rattle.af_turn_law.specs.ListTurns.{AreListTurns, FindShutUnseen}
use Rattle.af_turn_law.proofs.BlockSteps.{Ready, new_ready}
use Rattle.af_turn_law.proofs.RunShared.{shared_new}
use Rattle.af_turn_law.proofs.TurnsForced.{TurnsReady, turns_forced}

-- nothing was done on any block
new_told : (s : Session) (ns : List ℕ) (n : ℕ) → ((slice_index_or (map (new_told_track s) ns) n no_track).stream.told ≡ []) × ((slice_index_or (map (new_told_track s) ns) n no_track).commands.told ≡ [])
new_told s [] n = (refl, refl)
new_told s (m ∷ ns) zero = (refl, refl)
new_told s (m ∷ ns) (suc n) = new_told s ns n

pub turns_new : (s : Session) → TurnsReady s (new_run s)
turns_new s = record {
  blocks = record {
    streams = λ n low tame. subst (Ready (takes_part s (new_run s) n) false) (sym (new_told s (range_with_len 0 (track_count s)) n).0) (new_ready (takes_part s (new_run s) n) false);
    commands = λ n low. subst (Ready true false) (sym (new_told s (range_with_len 0 (track_count s)) n).1) (new_ready true false);
  };
  shared = shared_new s;
  normal = record { sound = sound_new (setup_of s); long = length-replicate (length (setup_of s).settings) first_track; new = λ e. refl };
}

pub forced_run : (s : Session) (marks : Marks) (turns : List TurnSpec) (rounds : List RoundSeen) → IsScript s.script → AreListTurns s marks (new_run s) turns rounds → FindShutUnseen s (new_run s) turns rounds → AreTurns s marks (new_run s) turns rounds
forced_run s marks turns rounds script are unseen = turns_forced s marks (scales_of s script) turns rounds (new_run s) (turns_new s) are unseen
