-- How many word steps the cycles took of what a command played.
use Rattle.std.specs.Prelude.{◌≡◌, ◌≢◌, ℕ, List, Some, Result, Ok, Err}
use Rattle.af_io.specs.Files.{Files}
use Rattle.af_journal.specs.Texts.{text_of}
use Rattle.af_model.specs.Journals.{JournalData}
use Rattle.af_offline.specs.Asked.{Job, Work, Exact, Session, Rounds, Judge, Traced}
use Rattle.af_offline.specs.declared.status.Ending.TheVariants.{Limit}
use Rattle.af_offline.specs.declared.status.Refusal.{Refusal}
use Rattle.af_offline.specs.declared.status.Status.{Status}
use Rattle.af_offline.specs.declared.status.Status.TheVariants as status
use Rattle.af_offline.specs.declared.status.Stop.{Stop}
use Rattle.af_offline.specs.declared.status.Stop.TheVariants.{Over}
use Rattle.af_render_law.specs.RenderLaws.{run_told}
use Rattle.af_rendering.specs.Alone.{shown_from}
use Rattle.af_runs.specs.LegalRuns.{run_of}
use Rattle.af_runs.specs.Pcm.{journal_pcm}
use Rattle.af_runs.specs.TurnRuns.{IsTurnRun}
use Rattle.af_tally.specs.Steps.{AreFew}

-- These are the steps of the cycles of one journal, one after the other, each with those of its note: of a turn run whose sound the output holds, or of the run whose journal's text stands in its file, unless the log was written over it. No cycle took more than it may
abbrev pub CountsWork : Work → List ℕ → Files → List (ℕ × ℕ) → Type 0
CountsWork (Exact bytes line) target files steps = Unit {0}
CountsWork (Session script played) target files steps = (j : JournalData) × IsTurnRun script played j × (files target ≡ Some (journal_pcm script.frames j)) × AreFew (shown_from script j (run_told script played j)) steps
CountsWork (Rounds script played journal) target files steps = (j : JournalData) × (files journal ≡ Some (text_of j)) × AreFew (shown_from script j (run_of script played j)) steps
CountsWork (Judge script played pcm text) target files steps = Unit {0}
CountsWork (Traced script played journal log room) target files steps = (j : JournalData) × (log ≢ journal → files journal ≡ Some (text_of j)) × AreFew (shown_from script j (run_of script played j)) steps

-- these are the steps of the cycles of what was asked for
abbrev pub CountsAsked : Result Job Refusal → Files → List (ℕ × ℕ) → Type 0
CountsAsked (Ok job) files steps = CountsWork job.work job.target files steps
CountsAsked (Err refusal) files steps = Unit {0}

-- these are the steps of the cycles of what was asked for, if it was done, or cut off at its limit
abbrev pub CountsSteps : Status → Result Job Refusal → Files → List (ℕ × ℕ) → Type 0
CountsSteps status.Done asked files steps = CountsAsked asked files steps
CountsSteps (status.CycleLimit cycles) asked files steps = CountsAsked asked files steps
CountsSteps ended asked files steps = Unit {0}

-- the same of an answer before the line is printed
abbrev pub CountsOn : {X : Type 0} → Result X Stop → Result Job Refusal → Files → List (ℕ × ℕ) → Type 0
CountsOn (Ok _) asked files steps = CountsAsked asked files steps
CountsOn (Err (Over (Limit cycles))) asked files steps = CountsAsked asked files steps
CountsOn (Err stop) asked files steps = Unit {0}
