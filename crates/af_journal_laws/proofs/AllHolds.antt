-- All that follows up to the meetings, from legal rounds and from turn runs.
use Rattle.std.proofs.Common.{Bool, List}
use Rattle.af_journal_laws.proofs.Common.{Frame, HasLegalRounds, IsScript, IsTurnRun, JournalData, ScriptData}
use Rattle.af_journal_laws.specs.Drained.{EachDrainedTrackHasStopped, EachDrainedTrackHasStoppedAlone}
use Rattle.af_journal_laws.specs.Laws.{HoldsAtMeetings, HoldsAtMeetingsAlone}
use Rattle.af_journal_laws.proofs.AliveMet.{met-calls-live, met-calls-live-alone}
use Rattle.af_journal_laws.proofs.FatesMet.{met-frames-have-fates, met-frames-have-fates-alone}
use Rattle.af_journal_laws.proofs.SettledSoFar.{settled-so-far, settled-so-far-alone}
use Rattle.af_journal_laws.proofs.SparedMet.{met-blocks-are-spared}
use Rattle.af_journal_laws.proofs.Turns.{met-blocks-are-spared-alone}

-- what follows from every journal of legal rounds
abbrev pub OfRounds : (ScriptData → List (List Frame) → JournalData → Type 0) → Type 0
OfRounds Holds = (cut : Bool) (script : ScriptData) (files : List (List Frame)) (j : JournalData) → IsScript script → HasLegalRounds cut script files j → Holds script files j

-- what follows from every turn run
abbrev pub OfTurnRuns : (ScriptData → List (List Frame) → JournalData → Type 0) → Type 0
OfTurnRuns Holds = (script : ScriptData) (files : List (List Frame)) (j : JournalData) → IsScript script → IsTurnRun script files j → Holds script files j

pub holds-at-meetings : OfRounds EachDrainedTrackHasStopped → OfRounds HoldsAtMeetings
holds-at-meetings drained cut script files j is legal = record {
  spared = met-blocks-are-spared cut script files j is legal;
  fates = met-frames-have-fates cut script files j is legal;
  alive = met-calls-live cut script files j is legal;
  drained = drained cut script files j is legal;
  settled = settled-so-far cut script files j is legal;
}

pub holds-at-meetings-alone : OfTurnRuns EachDrainedTrackHasStoppedAlone → OfTurnRuns HoldsAtMeetingsAlone
holds-at-meetings-alone drained script files j is run = record {
  spared = met-blocks-are-spared-alone script files j is run;
  fates = met-frames-have-fates-alone script files j is run;
  alive = met-calls-live-alone script files j is run;
  drained = drained script files j is run;
  settled = settled-so-far-alone script files j is run;
}
