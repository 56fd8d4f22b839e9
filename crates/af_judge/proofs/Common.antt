-- The names of other crates that the proofs of this one cite, passed on from one place. Declares nothing.
pub use Rattle.af_base.proofs.Basics.{all_more, and_false, and_true, below_is, below_or_at, both, is_not_below, less_differs, map_last, no, none_more, not_below_is, on_ok, or_assoc, or_both, or_false, or_nothing, or_right, or_true, same_slot, take_step, within_or_beyond}
pub use Rattle.af_base.specs.Log.{absent, count_seen, entry_at, entry_slot, frames_taken, no_entry, slots}
pub use Rattle.af_base.specs.Mix.{Take, mix, mixed_frame}
pub use Rattle.af_base.specs.Sample.{packed_word}
pub use Rattle.af_base.specs.Turn.{TakeSeen, TrackSeen, Turn, ended_turn, take_seen, track_seen, turn_of}
pub use Rattle.af_base.specs.declared.event.ClientCall.{ClientCall}
pub use Rattle.af_base.specs.declared.event.ClientEvent.{ClientEvent}
pub use Rattle.af_base.specs.declared.event.HandEvent.{HandEvent}
pub use Rattle.af_base.specs.declared.event.ServerEvent.{ServerEvent}
pub use Rattle.af_base.specs.declared.frame.Frame.{Frame}
pub use Rattle.af_base.specs.declared.log.CycleEntry.{CycleEntry}
pub use Rattle.af_base.specs.declared.log.SlotEntry.{SlotEntry}
pub use Rattle.af_base.specs.declared.plain.Part.{Part}
pub use Rattle.af_base.specs.declared.report.Report.{Report}
pub use Rattle.af_base.specs.declared.report.SlotReport.{SlotReport}
pub use Rattle.af_base.specs.declared.seen.Seen.{Seen}
pub use Rattle.af_base.specs.declared.state.Command.{Command}
pub use Rattle.af_base.specs.declared.state.FastState.{FastState}
pub use Rattle.af_base.specs.declared.state.FastTrack.{FastTrack}
pub use Rattle.af_base.specs.declared.state.Push.{Push}
pub use Rattle.af_base.specs.declared.state.Push.TheVariants.{Busy, Clean, Pushed}
pub use Rattle.af_base.specs.declared.turn.CommandLook.{CommandLook}
pub use Rattle.af_base.specs.declared.turn.NormalTake.{NormalTake}
pub use Rattle.af_base.specs.declared.turn.TrackTurn.{TrackTurn}
pub use Rattle.af_life.proofs.Basics.{at_here, at_other, at_set, away_holds, inside, lent_away, scale_fits, sound_ordered, takes_len, welcomed_at}
pub use Rattle.af_life.proofs.Lives.{acked_len, edits_len, not_yet, served_len, turn_len}
pub use Rattle.af_life.proofs.LooksSoFar.{after_all, are_due-go}
pub use Rattle.af_life.specs.Edits.{after_ack, after_push, comes_home, edited_to, entered, lent_by, must_enter, must_leave, next_command}
unfoldable pub use Rattle.af_life.specs.Edits.{edited, lend, let_go, mutated, ordered, welcomed}
pub use Rattle.af_life.specs.Heard.{heard, known_by, learnt, ready}
pub use Rattle.af_life.specs.Kept.{Learnt, NormalKept, Outside, Setup, asked, is_home, is_lent, is_returning, new_normal, new_track, nothing_heard, nothing_seen, number_of, pipe_size, seen_at, setting_of, slot_number, track_at, track_in}
pub use Rattle.af_life.specs.Looks.{HasWords, LegalLooks, all_command_events, as_slot, command_events, did, takes_command, words_taken}
pub use Rattle.af_life.specs.Obeys.{are_due, ended, goes_on, holds, shows_command, slot_for}
pub use Rattle.af_life.proofs.Words.{all_go_on}
pub use Rattle.af_life.specs.Plain.{Plain, learnt_of}
pub use Rattle.af_life.specs.Plays.{LegalTake, after_take, after_takes, is_mixed_here, mixed_here, put_by, take_of, tracks_due}
pub use Rattle.af_life.specs.Reports.{told_by_report}
unfoldable pub use Rattle.af_life.specs.Reports.{by_report}
pub use Rattle.af_life.specs.Serves.{HasDueLooks, IsServed, LegalTrack, after_commands, is_found_shut, served_to, status_due, stored_over}
unfoldable pub use Rattle.af_life.specs.Serves.{after_part, served}
pub use Rattle.af_life.specs.Sound.{IsSound}
pub use Rattle.af_life.specs.Turn.{GoesOn, LegalTurn, after_edits, after_tracks, ends_now}
unfoldable pub use Rattle.af_life.specs.Turn.{turn_after}
pub use Rattle.af_life.specs.TurnEvents.{command_list, going, invalid, mix_events, mutator_list, number_seen, pipe_list, push_list, status_events, stream_list, takes_from, tracks_at}
pub use Rattle.af_life.specs.declared.kept.Heard.{Heard}
pub use Rattle.af_life.specs.declared.kept.Holder.{Holder}
pub use Rattle.af_life.specs.declared.kept.Holder.TheVariants.{Home, Lent, Returning}
pub use Rattle.af_life.specs.declared.kept.Setting.{Setting}
pub use Rattle.af_life.specs.declared.kept.TrackKept.{TrackKept}
pub use Rattle.af_life.specs.declared.track.Known.{Known}
pub use Rattle.af_life.specs.declared.track.Life.{Life}
pub use Rattle.af_merges.specs.Merges.{HasLegalOrder, Merged, with_pieces}
pub use Rattle.af_model.proofs.Basics.{both_first, client_taken, flushes-append, keeps, not_true, same_before, state_next}
pub use Rattle.af_model.proofs.Logic.{ahead-between, both_right}
pub use Rattle.af_model.proofs.Splits.{legal_at, ones_append}
pub use Rattle.af_model.proofs.UsedStates.{UseUpTo-more, UseUpTo-push, cold_done-before}
pub use Rattle.af_model.specs.ClientCalls.{ClientKept, IsClientList, client_begins, client_call_events, client_events_of, client_keeps, client_kept}
pub use Rattle.af_model.specs.Cycles.{Found, IsSeen, Listed, LooksBy, Mixes, TrackSlot, UseUpTo, events_behind_look, cold_done, cold_of, cycle_events, cycle_of, has_exit, is_cold, is_exit, is_mixed, kept, last_used, mix_scale, mono_marks, state_of, submix_slot, taken_before, takes_shown, tally}
pub use Rattle.af_model.specs.Draft.{detached, initial}
pub use Rattle.af_model.specs.Fates.{InTurn, drops_none}
pub use Rattle.af_model.specs.History.{HasHistory, IsLegal, May, Moment, by_client, by_hand, by_server, client_of, clients_at, flush_in, flushes_of, hand_of, is_lawful, is_no_poke, met_in, server_of, taken_of, with_taken}
pub use Rattle.af_model.specs.JournalForm.{AreEntries, IsEntry, IsJournal, IsOpenTurn, IsTake, IsTurn, TracksRise}
pub use Rattle.af_model.specs.Journals.{EntrySeen, JournalData, RoundSeen, entries_of, frames_of, no_round, round_at, slot_frames}
unfoldable pub use Rattle.af_model.specs.Journals.{taken_by}
pub use Rattle.af_model.specs.NewestValue.{CellPoint, legal_value, next_value}
pub use Rattle.af_model.specs.Order.{Event, HasOrder, Legal, point_after, one, ones, two, twos}
pub use Rattle.af_model.specs.PipeHistory.{HasPipeHistory, IsPutList, IsTakeList, PipePoint, PutKept, after_put, is_taking, may_put, nothing_put, releases_of, room_by}
pub use Rattle.af_model.specs.Point.{ClientMay, ServerMay, after_client, after_hand, after_server, drop_end, start, wrapped}
pub use Rattle.af_model.specs.Reports.{ServerKnown, counted_look, no_report, no_slot, report_at}
pub use Rattle.af_model.specs.Room.{ahead, outside}
pub use Rattle.af_model.specs.ServerCalls.{ServerKept, dropped_by, drops_of, flush_position, is_noticed, look_at, look_events, past_front, server_begins, server_keeps, server_kept}
pub use Rattle.af_model.specs.Spelled.{own_front}
pub use Rattle.af_model.specs.StateQueue.{AreOf, IsState, MutatorPoint, ObserverPoint, QueuePoint, brought, carries, has, slot_of}
pub use Rattle.af_model.specs.declared.newest.ReaderEvent.{ReaderEvent}
pub use Rattle.af_model.specs.declared.newest.WriterEvent.{WriterEvent}
pub use Rattle.af_model.specs.declared.point.TrackPoint.{TrackPoint}
pub use Rattle.af_model.specs.declared.shape.Shape.{Shape}
pub use Rattle.af_model.specs.declared.states.MutatorEvent.{MutatorEvent}
pub use Rattle.af_model.specs.declared.states.ObserverEvent.{ObserverEvent}
pub use Rattle.af_runs.proofs.Basics.{answer-some, calls-entries, cycle_entries, end_begun, halted_none, loaded-entries, met-entries, shown_if, state_more, stays_out, taken_up, turned-entries}
pub use Rattle.af_runs.proofs.StatesFor.{state_among, state_known}
pub use Rattle.af_runs.specs.Blocks.{BlockTold, HasBlockHistory, Marks, client_does, client_list, hand_does, hand_list, listed, meets, meets_flag, new_block, server_does, server_list, took}
pub use Rattle.af_runs.specs.ClientTurns.{AnswersOn, AreCalls, IsMade, IsWanted, LegalClientTurn, Side, Track, after_call, after_calls, argument_of, asked_by, called, commands_sent, is_of_commands, is_send, most_calls, new_side, released_by, wanted_of, with_call}
pub use Rattle.af_runs.specs.Clients.{Client, after_answer, asked_first, at_next_turn, begins, begun, ends, new_client, next_want, rest_of, wants_of}
pub use Rattle.af_runs.specs.Found.{LegalTurnBy, TurnFound, outside_of, outside_with, take_front}
pub use Rattle.af_runs.specs.Fronts.{behind, flushed_front, front_by_answer, front_of, fronts_by, is_own_inside, is_shown, lawful_front, leaves_open}
pub use Rattle.af_runs.specs.Rounds.{AreMixedBut, IsFastTurn, KeepsHistory, LegalEntries, LegalEntry, LegalFastTurn, LegalNormalTurn, SharedHistories, TrackHistories, after_round, after_turn, all_played, before_turn, early_count, early_of, fills, found_for, found_in, is_early, late_of, loaded, met_after, turned}
pub use Rattle.af_runs.specs.Runs.{Run, TrackTold, commands_turned, draft_after, changed_from, each_track, fast_ended, frames_before, known_of, last_report, mixed_track, new_run, next_report, no_track, pipe_cells, played, shows_slot, pushed_by, report_of, client_side, sides_of, state_for, stream_met, stream_of, stream_turned, takes_part, told_at, track_met, turned_track, with_cycle, with_cycles, with_looks, with_side}
unfoldable pub use Rattle.af_runs.specs.Runs.{met, with_calls, with_ends, with_load, with_mix, with_poll, with_turn}
pub use Rattle.af_runs.specs.Sessions.{Session, command_shape, cycle_frames, setup_of, spec_of, spec_setting, track_count}
pub use Rattle.af_runs.specs.Told.{HasPipeTold, HasQueueHistory, HasReportHistory, Item, PipeTold, QueueTold, ReportTold, is_look_at, is_pushed, items_of, mutator_does, observer_does, poll_events, queue_met, report_met, state_at, was_seen}
pub use Rattle.af_runs.specs.declared.want.Want.{Want}
pub use Rattle.af_script.specs.declared.op.Op.{Op}
pub use Rattle.std.proofs.Math.ListN.{drop_of_length-le, get_or-eq_default}
pub use Rattle.std.proofs.Math.Seq.{drop-append-add, drop-append_seam, take-add, take-append_seam}
pub use Rattle.std.proofs.lemmas.Bool.{cases_eq, cases_lt, eqb-false, eqb-true, leb-false, leb-true, ne_eqb}
pub use Rattle.std.proofs.lemmas.Bool.Decides.{nat_tests}
pub use Rattle.std.proofs.lemmas.Grind.{common_steps, fold-append, get_or-set_at, take-set_at}
pub use Rattle.std.proofs.lemmas.List.{append-nil, append_cancel_left, drop-append-le, drop-map, drop_all, drop_at, get_or-append_right, get_or-drop, get_or-map, get_or-replicate, get_or-set_other, get_or-set_same, get_or_append_left, get_or_default, get_or_past, length-append, length-drop, length-map, length-replicate, length-set, length-take, length-take-le, map-append, map-set, take-append-drop, take-append-le, take-map, take_all, take_at, take_more}
pub use Rattle.std.proofs.lemmas.List.Elements.{All-append, All-cons, All-head, All-map, All-more, All-nil, All-tail, All-weaker, filter-append, recursion_from_All}
pub use Rattle.std.proofs.lemmas.List.Folds.{list_all-append, list_any-append}
pub use Rattle.std.proofs.lemmas.List.FromFn.{fill_by_all, get_or-map-range_with_len, length-map-range_with_len}
pub use Rattle.std.proofs.lemmas.List.Sums.{fold_more, sum_by-append, sum_by-cons}
pub use Rattle.std.proofs.lemmas.Option.{get_or_from_slice_get, slice_get-get_or, slice_get-map, slice_get_cases, slice_get_past, slice_get_within}
pub use Rattle.std.specs.List.{AllByRecursion, filter, find, flat_map, list_all, list_any, prefix_len, range_with_len, sum_by}
pub use Rattle.std.specs.Prelude.{All, Bool, IfOk, IsTrue, List, MatchBool, MatchOption, None, OnErr, OnOk, Option, Some, [], drop, false, fold, is_some, length, map, max, min, nat_le, option_map, refl, slice_get, slice_index_or, slice_set, suc, take, true, unwrap_or, zero, ℕ}
