-- What a journal that a play hands back records of its run, and the ends with it.
use Rattle.std.proofs.Common.{Bool, List}
use Rattle.af_parties_law.proofs.Common.{EndsState, Frame, JournalData, ScriptData}
use Rattle.af_parties_law.specs.Telling.{PlaysRecordTheirRuns}
use Rattle.af_parties_law.proofs.ListsKept.{lists_kept}
use Rattle.af_parties_law.proofs.NeverOlder.{none_older}
use Rattle.af_parties_law.proofs.RunPushed.{pushes_stand_once}
use Rattle.af_parties_law.proofs.RunReleased.{released_as_told}
use Rattle.af_parties_law.proofs.RunSpelled.{calls_stand_once}

pub its_run : (ended : Bool) (script : ScriptData) (files : List (List Frame)) (j : JournalData) (e : EndsState) → PlaysRecordTheirRuns ended script files j e
its_run ended script files j e back = record {
  calls = calls_stand_once ended script files j e back;
  released = released_as_told ended script files j e back;
  pushes = pushes_stand_once ended script files j e back;
  never_older = none_older ended script files j e back;
  kept = lists_kept ended script files j e back;
}
