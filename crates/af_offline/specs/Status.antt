-- How steps and commands end.
use Rattle.std.specs.Prelude.{◌≡◌, ◌⊎◌, ℕ, ◌<◌, ◌≤◌, Option, None, is_some, IsTrue, Result, Ok, Err, IsErrOf}
use Rattle.af_io.specs.Causes.{Rose}
use Rattle.af_io.specs.declared.store.StoreError.{StoreError}
use Rattle.af_io.specs.declared.store.StoreError.TheVariants as outside
use Rattle.af_offline.specs.declared.status.Ending.{Ending}
use Rattle.af_offline.specs.declared.status.Ending.TheVariants as ending
use Rattle.af_offline.specs.declared.status.Status.{Status}
use Rattle.af_offline.specs.declared.status.Status.TheVariants as status
use Rattle.af_offline.specs.declared.status.Refusal.{Refusal}
use Rattle.af_offline.specs.declared.status.Refusal.TheVariants.{Usage, Script, File}
use Rattle.af_offline.specs.declared.status.Stop.{Stop}
use Rattle.af_offline.specs.declared.status.Stop.TheVariants.{Refused, Over, Store, Memory}
use Rattle.af_words.specs.Requests.{Request, Play, Verify, Trace}

abbrev pub code_of : Status → ℕ
code_of status.Done = 0
code_of status.Usage = 2
code_of (status.ScriptFault fault) = 3
code_of (status.TrackFault fault) = 4
code_of status.StoreFault = 5
code_of (status.CycleLimit cycles) = 6
code_of (status.Refused refusal) = 7
code_of status.Memory = 8

abbrev pub status_of : Refusal → Status
status_of Usage = status.Usage
status_of (Script fault) = status.ScriptFault fault
status_of (File fault) = status.TrackFault fault

-- the status of a work that is over and isn't done
abbrev pub ended_status : Ending → Status
ended_status (ending.Limit cycles) = status.CycleLimit cycles
ended_status (ending.Judged refusal) = status.Refused refusal

abbrev pub stop_of : StoreError → Stop
stop_of outside.Failed = Store
stop_of outside.Memory = Memory

-- a step answers as defined, unless the store or the sink failed or memory ran out
abbrev pub Meets : {X Y : Type 0} → (X → Y) → Result X Stop → Result Y Refusal → Type 0
Meets view (Ok x) told = told ≡ Ok (view x)
Meets view (Err (Refused refusal)) told = told ≡ Err refusal
Meets view (Err (Over over)) told = ⊥
Meets view (Err Store) told = Unit {0}
Meets view (Err Memory) told = Unit {0}

-- the count of faults never falls, and rises exactly if the step stops by the store
pub record HasFault {X : Type 0} (before now : ℕ) (result : Result X Stop) : Type 0 where
  pub later : before ≤ now
  pub fault : IsErrOf result Store → Rose before now
  pub only : before < now → IsErrOf result Store

-- neither of two counts falls, and one of them rises exactly if the step stops by the store or the sink
pub record HasEitherFault {X : Type 0} (before now other_before other_now : ℕ) (result : Result X Stop) : Type 0 where
  pub later : before ≤ now
  pub other_later : other_before ≤ other_now
  pub fault : IsErrOf result Store → Rose before now ⊎ Rose other_before other_now
  pub only : before < now → IsErrOf result Store
  pub other_only : other_before < other_now → IsErrOf result Store

-- The counts of the store's and the sink's faults never fall, and one of them rises exactly if the answer is StoreFault.
pub record CountsFaults (before now other_before other_now : ℕ) (ended : Status) : Type 0 where
  pub later : before ≤ now
  pub other_later : other_before ≤ other_now
  pub fault : ended ≡ status.StoreFault → Rose before now ⊎ Rose other_before other_now
  pub only : before < now → ended ≡ status.StoreFault
  pub other_only : other_before < other_now → ended ≡ status.StoreFault

-- a play is asked for
abbrev pub IsPlayRequest : Request → Type 0
IsPlayRequest (Play script target journal) = Unit {0}
IsPlayRequest (Trace script target journal log room) = Unit {0}
IsPlayRequest request = ⊥

-- a journal is to be judged
abbrev pub IsVerifyRequest : Request → Type 0
IsVerifyRequest (Verify script sound journal) = Unit {0}
IsVerifyRequest request = ⊥

-- an ending belongs to its request: a limit to a play, and a refusal of the judge to a verification
abbrev pub SuitsEnding : Ending → Request → Type 0
SuitsEnding (ending.Limit cycles) request = IsPlayRequest request
SuitsEnding (ending.Judged refusal) request = IsVerifyRequest request

-- a stop by the store or the sink, or since memory ran out
abbrev pub StopsOutside : Stop → Type 0
StopsOutside (Refused refusal) = ⊥
StopsOutside (Over over) = ⊥
StopsOutside Store = Unit {0}
StopsOutside Memory = Unit {0}

-- a step that neither finds fault with the words nor comes to another end
abbrev pub IsNoUsage : {X : Type 0} → Result X Stop → Type 0
IsNoUsage (Err (Refused Usage)) = ⊥
IsNoUsage (Err (Over over)) = ⊥
IsNoUsage result = Unit {0}

-- a step of a request: a play alone is cut off at a limit, and what is verified alone is refused by its judge
abbrev pub SuitsRequest : {X : Type 0} → Result X Stop → Request → Type 0
SuitsRequest (Err (Over over)) request = SuitsEnding over request
SuitsRequest result request = IsNoUsage result

-- the words are refused exactly if they name nothing
abbrev pub RefusesWords : {X Y : Type 0} → Result X Stop → Option Y → Type 0
RefusesWords (Ok _) names = IsTrue (is_some names)
RefusesWords (Err (Refused Usage)) names = names ≡ None
RefusesWords (Err (Refused refusal)) names = IsTrue (is_some names)
RefusesWords (Err (Over over)) names = IsTrue (is_some names)
RefusesWords (Err _) names = Unit {0}

-- The answer is Usage exactly if the words don't fit. A sink that failed or memory that ran out may stand in its place.
abbrev pub JudgesWords : {X : Type 0} → Status → Option X → Type 0
JudgesWords status.Usage names = names ≡ None
JudgesWords status.StoreFault names = Unit {0}
JudgesWords status.Memory names = Unit {0}
JudgesWords ended names = IsTrue (is_some names)
