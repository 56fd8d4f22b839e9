-- What a judge's turn of the normal mixer ensures, and which run it is a turn of.
use Rattle.std.specs.Prelude.{◌≡◌, true, false, List, length}
use Rattle.af_base.specs.declared.report.Report.{Report}
use Rattle.af_base.specs.Turn.{Turn, ended_turn}
use Rattle.af_life.specs.Plain.{learnt_of}
use Rattle.af_judge.specs.declared.track_judge.TrackJudge.{TrackJudge}
use Rattle.af_judge.specs.NormalJudged.{Ends, Follows, IsJudged, NormalJudged}
use Rattle.af_judge.specs.NormalTold.{IsTold, all_known}

-- the judge's turn of an entry, by the report that it loaded: what it leaves of the tracks and of the mixer
pub record TurnJudged (report : Report) (e : Turn) (before after : List TrackJudge) (j next : NormalJudged) : Type 0 where
  pub judged : IsJudged next
  pub same : (next.setup ≡ j.setup) × (next.handed ≡ true) × (length after ≡ length before)
  pub follows : e.ended ≡ false → Follows (record j { handed = true }) (learnt_of report (all_known before)) e next
  pub ends : e ≡ ended_turn → Ends j next × (after ≡ before)
  pub told : e.ended ≡ false → IsTold j.plain.setup (learnt_of report (all_known before)) j.plain.kept e before after
