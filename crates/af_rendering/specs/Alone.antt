-- What a journal alone shows, and its summary, by the run that it leads to.
use Rattle.std.specs.Prelude.{length, map}
use Rattle.af_model.specs.Journals.{JournalData, entries_of, frames_of}
use Rattle.af_runs.specs.Runs.{Run}
use Rattle.af_script.specs.Data.{ScriptData}
use Rattle.af_session.specs.Shown.{shows}
use Rattle.af_tally.specs.declared.summary.Summary.{Summary}
use Rattle.af_tally.specs.Summaries.{Shown, summary_of}

-- what a journal's calls, turns and entries show, with the states pushed in this run
abbrev pub shown_from : ScriptData → JournalData → Run → Shown
shown_from script j run =
    let seen = entries_of j.rounds in
    shows run.states script.frames j.tracks (map (λ r. r.calls) j.rounds) (map (λ r. r.turn) j.rounds) (frames_of seen) (map (λ e. e.entry) seen)

-- the summary of what a journal shows, with the frames released in this run
abbrev pub summary_by : ScriptData → JournalData → Run → Summary
summary_by script j run = summary_of (shown_from script j run) (map (λ t. length t.stream.released) run.tracks)
