-- The names of other crates that the proofs of this one cite, passed on from one place. Declares nothing.
pub use Rattle.af_audit.specs.Verdicts.{AllClear, AreClear, FastIsClear, HasNoFault, IsClear, IsFirstFault, IsLeastWithout, IsVerdict, NormalIsClear}
pub use Rattle.af_audit.specs.declared.verdict.Verdict.{Verdict}
pub use Rattle.af_base.specs.Sample.{frame_bytes, packed_word, pcm_bytes, sample_bytes}
pub use Rattle.af_base.specs.declared.frame.Frame.{Frame}
pub use Rattle.af_io.proofs.Basics.{files_are}
pub use Rattle.af_io.specs.Files.{AddsFront, Files, LeavesFront, SameFiles, SetsFile}
pub use Rattle.af_io.specs.Outputs.{LeavesFronts, NamedFile, SetsFiles, with_files}
pub use Rattle.af_journal.specs.Beginnings.{IsFrontOf}
pub use Rattle.af_journal.specs.Judged.{EndsBeyond, first_of_round, has_more, is_beyond, judged_of, most_judged}
pub use Rattle.af_model.specs.Journals.{EntrySeen, JournalData, RoundSeen}
pub use Rattle.af_party.specs.Works.{frames_to_come}
pub use Rattle.af_record.specs.InStep.{HandState}
pub use Rattle.af_runs.specs.Blocks.{Marks}
pub use Rattle.af_runs.specs.LegalRuns.{marks_of, session_of}
pub use Rattle.af_runs.specs.Rounds.{IsFastTurn, LegalEntries, after_round, after_turn, early_of, fills, found_in, late_of}
pub use Rattle.af_runs.specs.Runs.{Run, fast_ended, fast_party, most_round_cycles, new_run, normal_party, with_calls}
pub use Rattle.af_runs.specs.Sessions.{Session, setup_of}
pub use Rattle.af_script.specs.Data.{ScriptData}
pub use Rattle.af_script.specs.Generated.{generated_name, generated_script}
pub use Rattle.af_script.specs.Printing.{printed_script}
pub use Rattle.af_script.specs.declared.op.Op.{Op}
pub use Rattle.af_static.specs.Calls.{Call, CallsPlay, after_calls, filled_of, outputs_of, standing_in}
pub use Rattle.af_static.specs.Loops.{at_first, is_valid, opening, shut_by}
pub use Rattle.af_static.specs.declared.setting.Setting.{Setting}
pub use Rattle.std.proofs.lemmas.Bool.{le-leb, leb-false, leb-true, true≢false}
pub use Rattle.std.proofs.lemmas.List.{drop-map, drop_all, drop_more, length-map, map-append, replicate_more, take-append-drop, take-map, take_all, take_more}
pub use Rattle.std.specs.List.{flat_map, list_any, range_with_len}
