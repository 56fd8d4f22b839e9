-- The journal of a play in which all have ended is by itself that of a legal run, whatever the threads did.
use Rattle.std.proofs.Common.{◌≡◌, true, List, length, sym, subst}
use Rattle.af_playing.proofs.Common.{EndsState, Frame, IsJournal, IsLegalRun, JournalData, RoundSeen, ScriptData}
use Rattle.af_audit.proofs.RunEnds.{legal_at_the_end}
use Rattle.af_play_law.specs.PlayLaws.{PlaysAreToldAlone}
use Rattle.af_playing.specs.PlayedRuns.{HandsBackRun}
use Rattle.af_playing.proofs.RoundsTold.{rounds_told, seen}

module _ (script : ScriptData) (files : List (List Frame)) (j : JournalData) (e : EndsState) (h : HandsBackRun true script files j e) where
  pub play_legal : PlaysAreToldAlone → IsLegalRun script files j
  play_legal law =
      let rounds : List RoundSeen = seen script files h.rounds h.parties h.played in
      let is : j ≡ record { tracks = length script.tracks; rounds = rounds } = h.journal_is in
      let told = law script files h.played.shared h.played.start h.parties rounds h.played.new (rounds_told script files h.rounds h.parties h.played) h.all (subst IsJournal is h.form) in
      subst (IsLegalRun script files) (sym is) (legal_at_the_end script files (record { tracks = length script.tracks; rounds = rounds }) told.so_far told.ended)
