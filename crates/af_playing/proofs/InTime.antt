-- A play of a script with enough cycles has ended once its log is full, so it is never cut off.
use Rattle.std.proofs.Common.{◌≡◌, true, false, true≢false, List, length, refl, sym, ◌∙◌, arith}
use Rattle.af_playing.proofs.Common.{EndsState, Frame, IsScript, JournalData, RoundsNoted, ScriptData, Stage, true_from_ne_false}
use Rattle.af_enough.specs.Enough.{HasEnoughCycles}
use Rattle.af_play_law.proofs.InTime.{plays_end}
use Rattle.af_playing.specs.InTime.{EndsInTime}
use Rattle.af_playing.specs.PlayedRuns.{HandsBackRun, all_ended}
use Rattle.af_playing.specs.PlayedStages.{HasPlayed}
use Rattle.af_playing.proofs.RoundsTold.{rounds_told, seen}

module _ (script : ScriptData) (files : List (List Frame)) where
  pub ends_in_time : EndsInTime script files
  ends_in_time is enough rounds t p full =
      let filled : length t.fast.log.entries ≡ t.fast.cycles = search (arith, full) in
      plays_end script files p.shared p.start t (seen script files rounds t p) is enough p.new (rounds_told script files rounds t p) filled

  -- a stage that was played to its end, or to the end of the log, has ended
  pub played_out : (rounds : RoundsNoted) (s : Stage) → HasPlayed script files rounds s → IsScript script → HasEnoughCycles script → all_ended s.parties ≡ true
  played_out rounds s have is enough = true_from_ne_false (all_ended s.parties) (λ goes. true≢false (sym (ends_in_time is enough rounds.rounds s.parties have.all (have.over goes)) ∙ goes))

  -- no run is handed back as cut off
  pub never_cut_off : IsScript script → HasEnoughCycles script → (j : JournalData) (e : EndsState) → HandsBackRun false script files j e → ⊥
  never_cut_off is enough j e h = true≢false (sym (ends_in_time is enough h.rounds h.parties h.played (h.cut refl)) ∙ h.all)
