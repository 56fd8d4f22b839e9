-- How a command ends: what becomes of the files, and what is printed.
use Rattle.std.specs.Prelude.{◌≡◌, ◌⊎◌, ℕ, true, false, List, ◌++◌, take, String, string_bytes, Option, Some, None, Result, Ok, Err}
use Rattle.std.specs.declared.alloc.Global.{Global}
use Rattle.af_enough.specs.Enough.{HasEnoughCycles}
use Rattle.af_io.specs.Files.{Files, SameFiles, SetsFile, LeavesFront}
use Rattle.af_io.specs.Outputs.{with_files, LeavesFronts}
use Rattle.af_audit.specs.declared.verdict.Refusal.{Refusal as JournalRefusal}
use Rattle.af_audit.specs.declared.verdict.Verdict.TheVariants as verdict
use Rattle.af_offline.specs.declared.status.Ending.{Ending}
use Rattle.af_offline.specs.declared.status.Ending.TheVariants.{Limit, Judged}
use Rattle.af_offline.specs.declared.status.Status.{Status}
use Rattle.af_offline.specs.declared.status.Status.TheVariants as status
use Rattle.af_offline.specs.declared.status.Refusal.{Refusal}
use Rattle.af_offline.specs.declared.status.Refusal.TheVariants.{Usage, Script, File}
use Rattle.af_offline.specs.declared.status.Stop.{Stop}
use Rattle.af_offline.specs.declared.status.Stop.TheVariants.{Refused, Over, Store}
use Rattle.af_offline.specs.Recorded.{Counts}
use Rattle.af_offline.specs.Looped.{Rolls}
use Rattle.af_words.specs.Requests.{Request, Render, Record, Loop, Generate, Play, Verify, Trace}
use Rattle.af_offline.specs.Asked.{Job, Work, Exact, Session, Rounds, Judge, Traced}
use Rattle.af_commands.specs.Plays.{IsPlayed, IsSomePlayLine, LeavesPlay}
use Rattle.af_commands.specs.Traces.{IsTraced, LeavesLog}
use Rattle.af_commands.specs.Sessions.{IsSession, IsSomeSessionLine, LeavesTurns}
use Rattle.af_offline.specs.Line.{counts_text, ending_text, legal_text, limit_line, rolls_text, refusal_text}
use Rattle.af_offline.specs.Status.{status_of, SuitsEnding}
use Rattle.af_offline.specs.Verified.{IsJudged}

-- ## The output

-- What is made of a work with this line: the output holds its bytes, or the sound of one turn run; or the two files of a play are those of one run in which all parties have ended. No other file has changed. If a sound and a journal are judged, they are legal, and no file has changed.
abbrev pub MakesWork : Work → List ℕ → List ℕ → Files → Files → Type 0
MakesWork (Exact bytes told) target line old new = (line ≡ told) × SetsFile old target (Some bytes) new
MakesWork (Session script files) target line old new = (bytes : List ℕ) × IsSession script files bytes line × SetsFile old target (Some bytes) new
MakesWork (Rounds script files journal) target line old new = IsPlayed true script files target journal line old new
MakesWork (Judge script files pcm text) target line old new = (line ≡ legal_text) × IsJudged script files pcm text verdict.Legal × SameFiles old new
MakesWork (Traced script files journal log room) target line old new = IsTraced script files room target journal log line old new

-- the files that are made first are whole, the output holds what is asked for with this line, and no other file has changed
abbrev pub IsMadeWith : Job → List ℕ → Files → Files → Type 0
IsMadeWith job line old new = MakesWork job.work job.target line (with_files old job.first) new

-- the files that are made first are whole, the output holds what is asked for with some line, and no other file has changed
abbrev pub IsWritten : Job → Files → Files → Type 0
IsWritten job old new = (line : List ℕ) × IsMadeWith job line old new

-- The two files of a play are those of one run that was cut off at its limit of so many cycles, and no other file has changed. Or a sound and a journal are refused with this refusal, and no file has changed
abbrev pub EndsWork : Ending → Work → List ℕ → Files → Files → Type 0
EndsWork (Limit cycles) (Rounds script files journal) target old new = (cycles ≡ script.cycles) × IsPlayed false script files target journal (limit_line cycles) old new
EndsWork (Limit cycles) (Traced script files journal log room) target old new = (cycles ≡ script.cycles) × IsPlayed false script files target journal (limit_line cycles) old new
EndsWork (Limit cycles) (Session script files) target old new = ⊥
EndsWork (Limit cycles) (Exact bytes line) target old new = ⊥
EndsWork (Limit cycles) (Judge script files pcm text) target old new = ⊥
EndsWork (Judged refusal) (Rounds script files journal) target old new = ⊥
EndsWork (Judged refusal) (Traced script files journal log room) target old new = ⊥
EndsWork (Judged refusal) (Session script files) target old new = ⊥
EndsWork (Judged refusal) (Exact bytes line) target old new = ⊥
EndsWork (Judged refusal) (Judge script files pcm text) target old new = IsJudged script files pcm text (verdict.Refused refusal) × SameFiles old new

-- what is asked for came to this ending
abbrev pub IsEnded : Ending → Result Job Refusal → Files → Files → Type 0
IsEnded ending (Ok job) old new = EndsWork ending job.work job.target (with_files old job.first) new
IsEnded ending (Err refusal) old new = ⊥

-- no file has changed; or only the output, which holds a front of the bytes, or of the sound of some first turns of a script; or the files are what a play leaves
abbrev pub LeavesWork : Work → List ℕ → Files → Files → Type 0
LeavesWork (Exact bytes line) target old new = LeavesFront old target bytes new
LeavesWork (Session script files) target old new = LeavesTurns script files target old new
LeavesWork (Rounds script files journal) target old new = LeavesPlay script files target journal old new
LeavesWork (Judge script files pcm text) target old new = SameFiles old new
LeavesWork (Traced script files journal log room) target old new = LeavesPlay script files target journal old new ⊎ LeavesLog script files room target journal log old new

-- the status of what is asked for
abbrev pub asked_status : Result Job Refusal → Status
asked_status (Ok job) = status.Done
asked_status (Err refusal) = status_of refusal

-- the whole work was done: its files hold what is asked for, and no other file has changed. If it is refused, no file has changed
abbrev pub IsWhole : Result Job Refusal → Files → Files → Type 0
IsWhole (Ok job) old new = IsWritten job old new
IsWhole (Err refusal) old new = SameFiles old new

-- the files are whole, and this is the line: the work is made, or it came to another end
abbrev pub IsOverWith : Job → List ℕ → Files → Files → Type 0
IsOverWith job line old new = IsMadeWith job line old new ⊎ ((ending : Ending) × (line ≡ ending_text ending) × EndsWork ending job.work job.target (with_files old job.first) new)

-- nothing is left to do but to print; if the work is refused, no file has changed
abbrev pub IsOver : Result Job Refusal → Files → Files → Type 0
IsOver (Ok job) old new = (line : List ℕ) × IsOverWith job line old new
IsOver (Err refusal) old new = SameFiles old new

-- The work was cut off: while the files that are made first were made, or, with these whole, while the output was, which `LeavesWork` says, or after that. If the work is refused, no file has changed
abbrev pub IsCutOff : Result Job Refusal → Files → Files → Type 0
IsCutOff (Ok job) old new = (LeavesFronts old job.first new ⊎ LeavesWork job.work job.target (with_files old job.first) new) ⊎ IsWritten job old new
IsCutOff (Err refusal) old new = SameFiles old new

-- What becomes of the files. A fault of the outside, or an allocation that was refused, may cut the work off. The limit of its cycles may cut a play off. What is judged may be refused.
abbrev pub Works : Status → Result Job Refusal → Files → Files → Type 0
Works status.StoreFault asked old new = IsCutOff asked old new
Works status.Memory asked old new = IsCutOff asked old new
Works (status.CycleLimit cycles) asked old new = IsEnded (Limit cycles) asked old new
Works (status.Refused refusal) asked old new = IsEnded (Judged refusal) asked old new
Works ended asked old new = (ended ≡ asked_status asked) × IsWhole asked old new

-- ## The line

-- a front of the line was printed
abbrev pub PrintsFront : List ℕ → List ℕ → List ℕ → Type 0
PrintsFront line before after = (count : ℕ) × (after ≡ before ++ take count line)

-- the line of what is asked for was printed: a line that may be made with the bytes of the output, or the line of the refusal
abbrev pub PrintsWhole : Result Job Refusal → Files → Files → List ℕ → List ℕ → Type 0
PrintsWhole (Ok job) old new before after = (line : List ℕ) × IsMadeWith job line old new × (after ≡ before ++ line)
PrintsWhole (Err refusal) old new before after = after ≡ before ++ refusal_text refusal

-- a front of the line of what is asked for was printed, and the output is whole
abbrev pub PrintsCut : Result Job Refusal → Files → Files → List ℕ → List ℕ → Type 0
PrintsCut (Ok job) old new before after = (line : List ℕ) × IsOverWith job line old new × PrintsFront line before after
PrintsCut (Err refusal) old new before after = PrintsFront (refusal_text refusal) before after

-- What is printed: the line; nothing or a front of it after a fault of the outside; nothing if memory ran out.
abbrev pub Prints : Status → Result Job Refusal → Files → Files → List ℕ → List ℕ → Type 0
Prints status.StoreFault asked old new before after = (after ≡ before) ⊎ PrintsCut asked old new before after
Prints status.Memory asked old new before after = after ≡ before
Prints (status.CycleLimit cycles) asked old new before after = after ≡ before ++ ending_text (Limit cycles)
Prints (status.Refused refusal) asked old new before after = after ≡ before ++ ending_text (Judged refusal)
Prints ended asked old new before after = PrintsWhole asked old new before after

-- this line was printed, or a front of it, or nothing
abbrev pub PrintsLine : {X : Type 0} → Result X Stop → List ℕ → List ℕ → List ℕ → Type 0
PrintsLine (Ok _) line before after = after ≡ before ++ line
PrintsLine (Err Store) line before after = PrintsFront line before after
PrintsLine (Err stop) line before after = after ≡ before

-- ## The work before the printing of a refusal

-- the output was made, and this line is to be printed; or the work stopped at a refusal, with nothing done, or came to another end, or was cut off
abbrev pub Makes : Result (String Global) Stop → Result Job Refusal → Files → Files → Type 0
Makes (Ok line) (Ok job) old new = IsMadeWith job (string_bytes line) old new
Makes (Ok line) (Err refusal) old new = ⊥
Makes (Err (Refused refusal)) asked old new = (asked ≡ Err refusal) × SameFiles old new
Makes (Err (Over ending)) asked old new = IsEnded ending asked old new
Makes (Err _) asked old new = IsCutOff asked old new

-- how the work ends: it may stop at a refusal, with nothing done and nothing printed, or come to another end, or be cut off
abbrev pub Renders : {X : Type 0} → Result X Stop → Result Job Refusal → Files → Files → Type 0
Renders (Ok _) (Ok job) old new = IsWritten job old new
Renders (Ok _) (Err refusal) old new = ⊥
Renders (Err (Refused refusal)) asked old new = (asked ≡ Err refusal) × SameFiles old new
Renders (Err (Over ending)) asked old new = IsEnded ending asked old new
Renders (Err _) asked old new = IsCutOff asked old new

-- what the work has printed by its end
abbrev pub Printed : {X : Type 0} → Result X Stop → Result Job Refusal → Files → Files → List ℕ → List ℕ → Type 0
Printed (Ok _) asked old new before after = PrintsWhole asked old new before after
Printed (Err Store) asked old new before after = (after ≡ before) ⊎ PrintsCut asked old new before after
Printed (Err _) asked old new before after = after ≡ before

-- after a fault of the outside the store has failed, or the work is whole and the sink has failed
abbrev pub WholeUnless : {X : Type 0} → Type 0 → Result X Stop → Result Job Refusal → Files → Files → Type 0
WholeUnless failed (Err Store) asked old new = failed ⊎ IsOver asked old new
WholeUnless failed result asked old new = Unit {0}

-- ## The line alone

-- a line that a command prints when it is done: of a turn run of some script, of some counts, of some rolls, of a run of all parties, or the line of what is legal
abbrev pub IsDoneLine : Request → List ℕ → Type 0
IsDoneLine (Render script target) line = IsSomeSessionLine line
IsDoneLine (Record input target sizes) line = (counts : Counts) × (line ≡ counts_text counts)
IsDoneLine (Loop input target turns) line = (rolls : Rolls) × (line ≡ rolls_text rolls)
IsDoneLine (Generate number script target) line = IsSomeSessionLine line
IsDoneLine (Play script target journal) line = IsSomePlayLine line
IsDoneLine (Verify script sound journal) line = line ≡ legal_text
IsDoneLine (Trace script target journal log room) line = IsSomePlayLine line

-- a line that the command which the words ask for prints when it is done
abbrev pub IsAskedLine : Option Request → List ℕ → Type 0
IsAskedLine None line = ⊥
IsAskedLine (Some request) line = IsDoneLine request line

-- a command is asked for that may come to this end
abbrev pub AsksEnding : Ending → Option Request → Type 0
AsksEnding ending None = ⊥
AsksEnding ending (Some request) = SuitsEnding ending request

-- a line that the program prints: of what the words ask for, of a refusal, or of another end
abbrev pub IsLine : Option Request → List ℕ → Type 0
IsLine asked line = IsAskedLine asked line ⊎ ((refusal : Refusal) × (line ≡ refusal_text refusal)) ⊎ ((ending : Ending) × AsksEnding ending asked × (line ≡ ending_text ending))

-- What is printed, by the status and the words alone: a line of the command, the line of the refusal, a front of some line after a fault of the outside, nothing if memory ran out.
abbrev pub PrintsOwnLine : Status → Option Request → List ℕ → List ℕ → Type 0
PrintsOwnLine status.Done asked before after = (line : List ℕ) × IsAskedLine asked line × (after ≡ before ++ line)
PrintsOwnLine status.Usage asked before after = after ≡ before ++ refusal_text Usage
PrintsOwnLine (status.ScriptFault fault) asked before after = after ≡ before ++ refusal_text (Script fault)
PrintsOwnLine (status.TrackFault fault) asked before after = after ≡ before ++ refusal_text (File fault)
PrintsOwnLine status.StoreFault asked before after = (line : List ℕ) × IsLine asked line × PrintsFront line before after
PrintsOwnLine status.Memory asked before after = after ≡ before
PrintsOwnLine (status.CycleLimit cycles) asked before after = AsksEnding (Limit cycles) asked × (after ≡ before ++ ending_text (Limit cycles))
PrintsOwnLine (status.Refused refusal) asked before after = AsksEnding (Judged refusal) asked × (after ≡ before ++ ending_text (Judged refusal))

-- what the work has printed by its end, by that end alone: a line of the command, or a front of it, or nothing
abbrev pub PrintsSomeLine : {X : Type 0} → Result X Stop → Option Request → List ℕ → List ℕ → Type 0
PrintsSomeLine (Ok _) asked before after = (line : List ℕ) × IsAskedLine asked line × (after ≡ before ++ line)
PrintsSomeLine (Err Store) asked before after = (line : List ℕ) × IsLine asked line × PrintsFront line before after
PrintsSomeLine (Err (Over ending)) asked before after = AsksEnding ending asked × (after ≡ before)
PrintsSomeLine (Err stop) asked before after = after ≡ before

-- the work may be cut off at a limit of so many cycles: only a play, at the limit of its script, and never one whose script has enough cycles by the rule
abbrev pub MayBeCut : ℕ → Work → Type 0
MayBeCut cycles (Rounds script files journal) = (cycles ≡ script.cycles) × (HasEnoughCycles script → ⊥)
MayBeCut cycles (Traced script files journal log room) = (cycles ≡ script.cycles) × (HasEnoughCycles script → ⊥)
MayBeCut cycles (Session script files) = ⊥
MayBeCut cycles (Exact bytes line) = ⊥
MayBeCut cycles (Judge script files pcm text) = ⊥

-- what is asked for may be cut off at a limit of so many cycles
abbrev pub AskedMayBeCut : ℕ → Result Job Refusal → Type 0
AskedMayBeCut cycles (Ok job) = MayBeCut cycles job.work
AskedMayBeCut cycles (Err refusal) = ⊥

-- the work judges a journal, which is refused with this refusal
abbrev pub RefusesWork : JournalRefusal → Work → Type 0
RefusesWork refusal (Judge script files pcm text) = IsJudged script files pcm text (verdict.Refused refusal)
RefusesWork refusal (Rounds script files journal) = ⊥
RefusesWork refusal (Session script files) = ⊥
RefusesWork refusal (Exact bytes line) = ⊥
RefusesWork refusal (Traced script files journal log room) = ⊥

-- what is asked for judges a journal, which is refused with this refusal
abbrev pub RefusesAsked : JournalRefusal → Result Job Refusal → Type 0
RefusesAsked refusal (Ok job) = RefusesWork refusal job.work
RefusesAsked refusal (Err other) = ⊥

-- what may come in place of the status of what is asked for: memory may run out; a play may be cut off at its limit, if its script hasn't enough cycles; what is judged may be refused
abbrev pub MayEnd : Status → Result Job Refusal → Type 0
MayEnd status.Memory asked = Unit {0}
MayEnd (status.CycleLimit cycles) asked = AskedMayBeCut cycles asked
MayEnd (status.Refused refusal) asked = RefusesAsked refusal asked
MayEnd ended asked = ⊥

-- The status is that of what is asked for: Done if script and files are accepted, and else that of the refusal. Or it is one that may come in place of that status.
abbrev pub EndsAsAsked : Status → Result Job Refusal → Type 0
EndsAsAsked ended asked = (ended ≡ asked_status asked) ⊎ MayEnd ended asked
