-- The names of other crates that the proofs of this one cite, passed on from one place. Declares nothing.
pub use Rattle.af_base.proofs.Basics.{and_none, both, clear_other, clear_same, equal_is, equal_turned, is_equal, less_differs, neither, never_false, never_true, no, none_and, not_both, set_other, set_same, zero_is}
pub use Rattle.af_base.specs.Log.{count_seen, slots}
pub use Rattle.af_base.specs.Turn.{TakeSeen, TrackSeen, Turn, take_seen, track_seen, turn_of}
pub use Rattle.af_base.specs.declared.report.SlotReport.{SlotReport}
pub use Rattle.af_base.specs.declared.state.Command.{Command}
pub use Rattle.af_base.specs.declared.state.FastState.{FastState}
pub use Rattle.af_base.specs.declared.state.FastTrack.{FastTrack}
pub use Rattle.af_base.specs.declared.state.Push.{Push}
pub use Rattle.af_base.specs.declared.state.Push.TheVariants.{Busy, Clean, Pushed}
pub use Rattle.af_base.specs.declared.turn.CommandLook.{CommandLook}
pub use Rattle.af_base.specs.declared.turn.NormalTake.{NormalTake}
pub use Rattle.af_model.proofs.Basics.{both_first, not_true}
pub use Rattle.af_model.specs.Cycles.{Listed, LooksBy}
pub use Rattle.af_model.specs.Draft.{attached, detached, initial}
pub use Rattle.af_model.specs.StateQueue.{IsState, carries, slot_of}
pub use Rattle.std.proofs.lemmas.Bool.{cases_eq}
pub use Rattle.std.proofs.lemmas.List.{get_or-replicate, get_or-set_other, get_or-set_same, get_or_default, length-map, length-replicate, length-set}
pub use Rattle.std.proofs.lemmas.List.Elements.{All-from_get_or, All-from_recursion, All-get_or, recursion_from_All}
pub use Rattle.std.specs.List.{All, AllByRecursion, filter, find, fold, list_any, range_with_len}
pub use Rattle.std.specs.Prelude.{Option, is_some, max, nat_le, not, slice_index_or, slice_set}
