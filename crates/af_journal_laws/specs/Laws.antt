-- What follows of each track's frames and blocks up to the meetings of their proxies, for every journal that a command makes.
use Rattle.std.specs.Prelude.{List}
use Rattle.af_base.specs.declared.frame.Frame.{Frame}
use Rattle.af_model.specs.Journals.{JournalData}
use Rattle.af_script.specs.Data.{ScriptData}
use Rattle.af_audit.specs.Drained.{EachDrainedTrackReachedItsStop}
use Rattle.af_audit.specs.Fates.{EachFrameHasOneFate}
use Rattle.af_audit.specs.Settled.{SettledMeansKept}
use Rattle.af_audit.specs.Spared.{EachLawfulBlockIsSpared}
use Rattle.af_journal_laws.specs.Alive.{NoMetCallIsDead, NoMetCallIsDeadAlone}
use Rattle.af_journal_laws.specs.Alone.{EachMetBlockIsSparedAlone}
use Rattle.af_journal_laws.specs.Drained.{EachDrainedTrackHasStopped, EachDrainedTrackHasStoppedAlone}
use Rattle.af_journal_laws.specs.Fates.{EachMetFrameHasOneFate, EachMetFrameHasOneFateAlone}
use Rattle.af_journal_laws.specs.Meetings.{EachProxyMeetsLast}
use Rattle.af_journal_laws.specs.Settled.{EachSettledStartKeeps, EachSettledStartKeepsAlone}
use Rattle.af_journal_laws.specs.Spared.{EachMetBlockIsSpared}

-- the laws on rounds of all parties, ended or cut off: what holds up to each meeting of the proxies of a block without a poke, and what drained and settled mean in the rounds so far
pub record HoldsAtMeetings (script : ScriptData) (files : List (List Frame)) (j : JournalData) : Type 0 where
  pub spared : EachMetBlockIsSpared script files j
  pub fates : EachMetFrameHasOneFate script files j
  pub alive : NoMetCallIsDead script files j
  pub drained : EachDrainedTrackHasStopped script files j
  pub settled : EachSettledStartKeeps script files j

-- the laws on turn runs: what holds up to each meeting of the proxies of a block without a poke, and what drained and settled mean in the rounds so far
pub record HoldsAtMeetingsAlone (script : ScriptData) (files : List (List Frame)) (j : JournalData) : Type 0 where
  pub spared : EachMetBlockIsSparedAlone script files j
  pub fates : EachMetFrameHasOneFateAlone script files j
  pub alive : NoMetCallIsDeadAlone script files j
  pub drained : EachDrainedTrackHasStoppedAlone script files j
  pub settled : EachSettledStartKeepsAlone script files j

-- in a legal run what holds up to its last meeting holds of the whole journal
pub record HoldsToTheEnd (script : ScriptData) (files : List (List Frame)) (j : JournalData) : Type 0 where
  pub last : EachProxyMeetsLast script files j
  pub spared : EachMetBlockIsSpared script files j → EachLawfulBlockIsSpared script files j
  pub fates : EachMetFrameHasOneFate script files j → EachFrameHasOneFate script files j
  pub drained : EachDrainedTrackHasStopped script files j → EachDrainedTrackReachedItsStop script files j
  pub settled : EachSettledStartKeeps script files j → SettledMeansKept script files j
