-- The names of other crates that the proofs of this one cite, passed on from one place. Declares nothing.
pub use Rattle.af_base.proofs.Basics.{and_false, neither, some_same}
pub use Rattle.af_base.specs.Log.{Logged, absent, count_seen, entry_at, entry_slot, frames_taken, slot_take, slots, takes_of}
pub use Rattle.af_base.specs.Mix.{Take, frame_at, left_part, left_sum, mix, mixed_frame, mixed_sample, right_part, right_sample, right_sum}
pub use Rattle.af_base.specs.Part.{take_of}
pub use Rattle.af_base.specs.Sample.{IsFrame, packed_word}
pub use Rattle.af_base.specs.declared.frame.Frame.{Frame}
pub use Rattle.af_base.specs.declared.log.CycleEntry.{CycleEntry}
pub use Rattle.af_base.specs.declared.log.SlotEntry.{SlotEntry}
pub use Rattle.af_base.specs.declared.plain.Part.{Part}
pub use Rattle.af_base.specs.declared.report.Report.{Report}
pub use Rattle.af_base.specs.declared.report.SlotReport.{SlotReport}
pub use Rattle.af_base.specs.declared.seen.Seen.{Seen}
pub use Rattle.af_base.specs.declared.state.FastState.{FastState}
pub use Rattle.af_cblk.specs.Sides.{Made, server_made}
pub use Rattle.af_gain.proofs.Basics.{grown, silent_right}
pub use Rattle.af_latest.specs.Laws.{last_of, stores}
pub use Rattle.af_link.specs.Names.{IsStreamOf}
pub use Rattle.af_link.specs.PipeEnds.{OutSide}
pub use Rattle.af_link.specs.Reports.{WriterSide, last_cycle}
pub use Rattle.af_link.specs.declared.names.StreamNames.{StreamNames}
pub use Rattle.af_model.proofs.Basics.{one_few, same_before}
pub use Rattle.af_model.proofs.EntrySlots.{slot_filled, slot_kept, taken_added, taken_kept, taken_stay, with_slot}
pub use Rattle.af_model.proofs.UsedStates.{UseUpTo-more, UseUpTo-push, cold_done-before, cold_done-push, has_exit-push, last_used-push}
pub use Rattle.af_model.specs.Cycles.{Mixes, SubmixSlot, TrackSlot, UseUpTo, cold_done, cold_of, cycle_of, is_cold, is_exit, is_mixed, is_mono, last_used, mix_scale, mono_marks, place_of, state_of, still_entry, taken_before}
pub use Rattle.af_model.specs.Reports.{IsNextReport, ServerKnown, carried, counted_look, is_empty, is_full, is_partial, no_report, no_slot, report_at, slot_report}
pub use Rattle.af_model.specs.StateQueue.{IsState, carries, has, slot_of}
pub use Rattle.af_model.specs.Tracks.{tracks_below}
unfoldable pub use Rattle.af_model.specs.Tracks.{tracks_of}
pub use Rattle.af_model.specs.declared.newest.WriterEvent.{WriterEvent}
pub use Rattle.af_model.specs.declared.newest.WriterEvent.TheVariants.{Store}
pub use Rattle.af_model.specs.declared.states.ObserverEvent.{ObserverEvent}
pub use Rattle.af_model.specs.declared.states.ObserverEvent.TheVariants.{Ack, SawNext}
pub use Rattle.af_server.specs.Order.{IsServerOf, ServerState}
pub use Rattle.af_stateq.specs.Laws.{polled_states}
pub use Rattle.af_stateq.specs.Mutates.{at}
pub use Rattle.af_stateq.specs.Observes.{InOrder, Observes}
pub use Rattle.af_stateq.specs.Shelved.{no_state, nothing}
pub use Rattle.std.proofs.Math.Nat.{add-zero, div-eq_of_lt, mul-add, mul-le-mul_left, mul-suc, mul_comm, pow-le-pow_right, suc-mul}
pub use Rattle.std.proofs.lemmas.Bool.{cases_eq, cases_lt, eqb-true}
pub use Rattle.std.proofs.lemmas.List.{drop_at, get_or-map, get_or-replicate, get_or-set_other, get_or-set_same, length-append, length-map}
pub use Rattle.std.proofs.lemmas.List.Edits.{fill_by_more}
pub use Rattle.std.proofs.lemmas.List.Elements.{All-cons, All-drop, All-nil}
pub use Rattle.std.specs.Int.{bit_at}
pub use Rattle.std.specs.Int.Bits.{bit_or, or_zero_r}
