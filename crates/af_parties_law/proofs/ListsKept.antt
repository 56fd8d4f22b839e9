-- The ends of a play keep the lists of the run that its journal records.
use Rattle.std.proofs.Common.{Bool, List, sym, subst}
use Rattle.af_parties_law.proofs.Common.{EndsState, Frame, JournalData, KeepsLists, ScriptData, run_of}
use Rattle.af_play_law.proofs.KeptTold.{plays_keep}
use Rattle.af_playing.specs.PlayedRuns.{HandsBackRun}
use Rattle.af_playing.proofs.RoundsTold.{rounds_told, seen}

-- the ends of a play keep these lists, whether all parties have ended or not
pub lists_kept : (ended : Bool) (script : ScriptData) (files : List (List Frame)) (j : JournalData) (e : EndsState) → HandsBackRun ended script files j e → KeepsLists (run_of script files j) e
lists_kept ended script files j e h =
    let kept = plays_keep script files h.played.shared h.played.start h.parties (seen script files h.rounds h.parties h.played) h.played.new (rounds_told script files h.rounds h.parties h.played) in
    subst (λ (y : JournalData × EndsState). KeepsLists (run_of script files y.0) y.1) (λ i. (sym h.journal_is i, sym h.ends_are i)) kept
