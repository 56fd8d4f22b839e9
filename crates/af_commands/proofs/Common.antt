-- The names of other crates that the proofs of this one cite, passed on from one place. Declares nothing.
pub use Rattle.af_base.specs.declared.frame.Frame.{Frame}
pub use Rattle.af_io.proofs.Basics.{files_are}
pub use Rattle.af_io.specs.Causes.{HasCause, Rose}
pub use Rattle.af_io.specs.Files.{Appends, Files, LeavesFront, SameFiles, SetsFile}
pub use Rattle.af_io.specs.Outputs.{SetsFiles, with_file, with_files}
pub use Rattle.af_io.specs.declared.store.StoreError.{StoreError}
pub use Rattle.af_journal.specs.Readings.{IsOneReading}
pub use Rattle.af_journal.specs.Texts.{text_of}
pub use Rattle.af_journal_laws.proofs.AllHolds.{OfRounds, OfTurnRuns}
pub use Rattle.af_journal_laws.specs.Laws.{HoldsAtMeetings, HoldsAtMeetingsAlone}
pub use Rattle.af_model.specs.Journals.{JournalData, entries_seen, journal_of, rounds_seen}
pub use Rattle.af_offline.specs.Asked.{Exact, Job, Judge, Rounds, Traced, Work, asked_of, generated_job, job_of, loaded_of, loop_asked, most_file, play_asked, play_job, record_asked, render_asked, session_job, session_in, trace_asked, trace_job, track_file_in, tracks_in}
pub use Rattle.af_offline.specs.Asking.{output_job}
pub use Rattle.af_offline.specs.Line.{ending_text, limit_line, refusal_text}
pub use Rattle.af_offline.specs.Loading.{AreFilesFor, AreServed, loaded_view}
pub use Rattle.af_offline.specs.Status.{HasFault, IsNoUsage, StopsOutside, IsPlayRequest, JudgesWords, Meets, RefusesWords, SuitsRequest, ended_status, status_of, stop_of}
pub use Rattle.af_offline.specs.declared.status.Ending.{Ending}
pub use Rattle.af_offline.specs.declared.status.Ending.TheVariants.{Judged, Limit}
pub use Rattle.af_offline.specs.declared.status.Refusal.{Refusal}
pub use Rattle.af_offline.specs.declared.status.Refusal.TheVariants.{File, Script, Usage}
pub use Rattle.af_offline.specs.declared.status.Stop.{Stop}
pub use Rattle.af_offline.specs.declared.status.Stop.TheVariants.{Memory, Over, Refused, Store}
pub use Rattle.af_parties_law.proofs.ToldAlone.{cut_alone, done_alone}
pub use Rattle.af_parties_law.specs.PlayedAlone.{IsToldAlone}
pub use Rattle.af_playing.specs.PlayKept.{AppendsLogOfPlay, KeepsFiles, KeepsPlay, TookFew}
pub use Rattle.af_playing.specs.PlayedRuns.{HandedBack, HandsBackRun, HasStoreCause, IsLegalJournal, LeavesRun}
pub use Rattle.af_playing.specs.declared.answering.PlayFault.{PlayFault}
pub use Rattle.af_render_law.proofs.RendersTold.{render_told}
pub use Rattle.af_rendering.specs.Alone.{shown_from, summary_by}
pub use Rattle.af_rendering.specs.Rendered.{ComesTo, HandsBack, HaveFiles, IsFileFor, LeavesSound}
pub use Rattle.af_rendering.specs.declared.rendering.Outcome.{Outcome}
pub use Rattle.af_rendering.specs.declared.rendering.Played.{Played}
pub use Rattle.af_runs.specs.LegalRuns.{run_of}
pub use Rattle.af_runs.specs.Pcm.{journal_pcm}
pub use Rattle.af_runs.specs.Sessions.{Session}
pub use Rattle.af_script.specs.Data.{ScriptData}
pub use Rattle.af_script.specs.Form.{IsScript}
pub use Rattle.af_script.specs.Generated.{generated_name, generated_script}
unfoldable pub use Rattle.af_script.specs.Generated.{generated_ops, generated_track, generated_tracks, repeated}
pub use Rattle.af_script.specs.declared.track.TrackSpec.{TrackSpec}
pub use Rattle.af_session.specs.Ends.{EndsState}
pub use Rattle.af_tally.specs.declared.summary.Summary.{Summary}
pub use Rattle.af_words.specs.Requests.{Play, Request, Trace, is_drawn, request_of}
pub use Rattle.std.specs.declared.alloc.Global.{Global}
