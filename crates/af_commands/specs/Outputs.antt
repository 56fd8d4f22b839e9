-- What a play and a trace are asked for, by the files that they write.
use Rattle.std.specs.Prelude.{ℕ, List, Result}
use Rattle.af_commands.specs.declared.playing.PlayOutput.{PlayOutput}
use Rattle.af_commands.specs.declared.tracing.TraceOutput.{TraceOutput}
use Rattle.af_io.specs.Files.{Files}
use Rattle.af_offline.specs.Asked.{Job, play_asked, play_job, trace_asked, trace_job}
use Rattle.af_offline.specs.declared.status.Refusal.{Refusal}
use Rattle.af_runs.specs.Sessions.{Session}

-- what was loaded is played into these files
abbrev pub play_into : PlayOutput → Session → Job
play_into output l = play_job output.target.now output.journal.now l

-- the script of this name is played into these files, or is refused
abbrev pub play_asked_into : PlayOutput → Files → List ℕ → Result Job Refusal
play_asked_into output files script = play_asked files script output.target.now output.journal.now

-- what was loaded is played into these files, with a log
abbrev pub trace_into : TraceOutput → Session → Job
trace_into output l = trace_job output.target.now output.journal.now output.log.now output.room l

-- the script of this name is played into these files, with a log, or is refused
abbrev pub trace_asked_into : TraceOutput → Files → List ℕ → Result Job Refusal
trace_asked_into output files script = trace_asked files script output.target.now output.journal.now output.log.now output.room
