-- What is kept of a track's command block through a turn run: what its client sent, what its mixer settled, and which flush counts its stream's server had seen by then.
use Rattle.std.proofs.Common.{ℕ, ◌<◌, ◌≤◌, Some, refl, arith, []}
use Rattle.af_journal_laws.proofs.Common.{CommandsAt, IsScript, IsTurn, LegalTurnBy, Marks, Run, Session, TellsSo, Turn, at_more, calls_alone, ends_at, flushes, found_before, grows_ends, grows_loaded, grows_met, grows_mix, loaded_at, met, met_at_so, new_run, new_settles, of_run, run_told, setup_of, track_count, turn_at, with_ends, with_load, with_mix, with_poll, with_turn}
use Rattle.af_audit.proofs.Growing.{RunGrows}
use Rattle.af_journal_laws.proofs.Own.{called_at, grows_calls_alone, grows_polled, grows_turn, mixed_at, polled_at}
use Rattle.af_journal_laws.proofs.TellsAlone.{heard_alone, tells_kept}
use Rattle.af_journal_laws.proofs.Walk.{IsKept}

-- what is kept of a run: what the mixer hears of a track, and the commands of its block
pub record SettlesAlone (s : Session) (n : ℕ) (run : Run) : Type 0 where
  pub tells : TellsSo flushes s n run
  pub commands : CommandsAt (of_run flushes run n) n run

module _ (s : Session) (script : IsScript s.script) (marks : Marks) (tracks n : ℕ) where
  abbrev At : Run → ℕ → Type 0
  At run most = CommandsAt most n run

  tells : IsKept s marks tracks (TellsSo flushes s n)
  tells = tells_kept flushes s script marks tracks n

  -- a step that keeps the block, whatever was seen by then
  settles_step : (a b : Run) → RunGrows a b → TellsSo flushes s n b → ((most : ℕ) → of_run flushes a n ≤ most → At a most → At b most) → SettlesAlone s n a → SettlesAlone s n b
  settles_step a b grows now step h =
      let more = run_told flushes a b grows n in
      record { tells = now; commands = step (of_run flushes b n) more (at_more (of_run flushes a n) (of_run flushes b n) n a more h.commands) }

  settles_turn : (e : Turn) (run : Run) → IsTurn tracks e → LegalTurnBy (setup_of s) marks (found_before s run [] e) run.normal e → SettlesAlone s n run → SettlesAlone s n (with_turn s (found_before s run [] e) e run)
  settles_turn e run form legal h =
      let f = found_before s run [] e in
      let heard_so = heard_alone flushes s script marks tracks n e run h.tells in
      settles_step run (with_turn s f e run) (grows_turn s e run) (tells.turn e run form legal h.tells) (λ most more at. turn_at most n s marks f e run refl legal (omega (arith, heard_so, more)) at) h

  pub settles_kept : IsKept s marks tracks (SettlesAlone s n)
  settles_kept = record {
    quiet = record {
      polled = λ k run h. settles_step run (with_poll s k run) (grows_polled s k run) (tells.quiet.polled k run h.tells) (λ most more at. polled_at most n s marks k run at) h;
      mixed = λ e run legal h. settles_step run (with_mix s e run) (grows_mix s e run) (tells.quiet.mixed e run legal h.tells) (λ most more at. mixed_at most n s marks e run at) h;
      loads = λ e run h. settles_step run (with_load e run) (grows_loaded s (Some e) run) (tells.quiet.loads e run h.tells) (λ most more at. loaded_at most n (Some e) run at) h;
      meets = λ run h. settles_step run (met s run) (grows_met s run) (tells.quiet.meets run h.tells) (λ most more at. met_at_so most n s run at) h;
      ended = λ run h. settles_step run (with_ends run) (grows_ends s run) (tells.quiet.ended run h.tells) (λ most more at. ends_at most n run at) h;
    };
    calls = λ track round run legal h. settles_step run (calls_alone track round run) (grows_calls_alone track round run) (tells.calls track round run legal h.tells) (λ most more at. called_at most n s marks track round run legal at) h;
    turn = settles_turn;
  }

  pub new_settles_alone : n < track_count s → SettlesAlone s n (new_run s)
  new_settles_alone low = let h = new_settles s script n low in record { tells = h.tells; commands = h.commands }
