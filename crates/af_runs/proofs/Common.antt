-- The names of other crates that the proofs of this one cite, passed on from one place. Declares nothing.
pub use Rattle.af_base.specs.Log.{absent, count_seen, entry_slot}
pub use Rattle.af_base.specs.Turn.{TrackSeen, Turn}
pub use Rattle.af_base.specs.declared.frame.Frame.{Frame}
pub use Rattle.af_base.specs.declared.log.CycleEntry.{CycleEntry}
pub use Rattle.af_base.specs.declared.seen.Seen.{Seen}
pub use Rattle.af_base.specs.declared.state.FastState.{FastState}
pub use Rattle.af_base.specs.declared.turn.CommandLook.{CommandLook}
pub use Rattle.af_life.specs.Edits.{comes_home}
unfoldable pub use Rattle.af_life.specs.Edits.{edited, mutated, next_command, ordered, welcomed}
pub use Rattle.af_life.specs.Kept.{NormalKept, Outside, Setup}
pub use Rattle.af_life.specs.Obeys.{is_shut, shows_command}
unfoldable pub use Rattle.af_life.specs.Obeys.{after_look}
pub use Rattle.af_model.specs.Cycles.{IsSeen, cycle_events, kept, state_of, still_entry, taken_before}
pub use Rattle.af_model.specs.Draft.{attached, draft_commanded, initial}
pub use Rattle.af_model.specs.Journals.{EntrySeen, JournalData, RoundSeen, entries_of, no_round}
unfoldable pub use Rattle.af_model.specs.Journals.{taken_by}
pub use Rattle.af_model.specs.Order.{one, two, twos}
pub use Rattle.af_model.specs.Reports.{no_report, no_slot, report_at}
pub use Rattle.af_script.specs.Data.{ScriptData}
unfoldable pub use Rattle.af_script.specs.Ops.{cells_of}
pub use Rattle.af_script.specs.declared.op.Op.{Op}
pub use Rattle.std.proofs.lemmas.Bool.{cases_eq, le-leb}
pub use Rattle.std.proofs.lemmas.List.{drop_more, get_or_default, length-append}
pub use Rattle.std.specs.Prelude.{All, Bool, List, MatchBool, MatchOption, None, Option, Some, [], drop, false, length, map, negsuc, pos, refl, replicate, slice_index_or, suc, take, true, zero, ℕ}
