-- The names of other crates that the proofs of this one cite, passed on from one place. Declares nothing.
pub use Rattle.af_base.proofs.Basics.{and_false, and_none, and_off, below_is, below_or_not, both, both_true, by_false, by_test, either_false, either_none, equal_is, few_or_two, is_not_below, is_within, neither, neither_is, never_true, no, none_some, not_zero, or_nothing, or_right, or_true, rest_enters, same_slot, some_same, take_most, three, true_or_false, within_or_beyond}
pub use Rattle.af_base.specs.Command.{code_of}
pub use Rattle.af_base.specs.Log.{absent, count_seen, entry_slot, slots}
pub use Rattle.af_base.specs.Turn.{TakeSeen, TrackSeen, Turn, ended_turn}
pub use Rattle.af_base.specs.declared.event.ClientCall.{ClientCall}
pub use Rattle.af_base.specs.declared.event.ClientEvent.{ClientEvent}
pub use Rattle.af_base.specs.declared.event.HandEvent.{HandEvent}
pub use Rattle.af_base.specs.declared.event.ServerEvent.{ServerEvent}
pub use Rattle.af_base.specs.declared.frame.Frame.{Frame}
pub use Rattle.af_base.specs.declared.log.Cycle.{Cycle}
pub use Rattle.af_base.specs.declared.log.CycleEntry.{CycleEntry}
pub use Rattle.af_base.specs.declared.log.SlotEntry.{SlotEntry}
pub use Rattle.af_base.specs.declared.report.Report.{Report}
pub use Rattle.af_base.specs.declared.report.SlotReport.{SlotReport}
pub use Rattle.af_base.specs.declared.seen.Seen.{Seen}
pub use Rattle.af_base.specs.declared.state.Command.{Command}
pub use Rattle.af_base.specs.declared.state.Command.TheVariants.{ColdIdle, Exit, HotIdle, Initial, Mix, MixWrite, Write}
pub use Rattle.af_base.specs.declared.state.FastState.{FastState}
pub use Rattle.af_base.specs.declared.state.FastTrack.{FastTrack}
pub use Rattle.af_base.specs.declared.state.Push.{Push}
pub use Rattle.af_base.specs.declared.state.Push.TheVariants.{Busy, Clean, Pushed}
pub use Rattle.af_base.specs.declared.turn.CommandLook.{CommandLook}
pub use Rattle.af_enough.specs.Enough.{HasEnoughCycles, all_play_through, enough_rounds, greatest_cost, most_gains, op_cost, play_through, portion, track_cost}
pub use Rattle.af_judge.proofs.Basics.{begins_ended, calls_pipe, calls_states, client_append, each_at, each_long, ends_part, ends_pipe, ends_states, hand_puts, if_true, legal_cut, loaded_pipe, loaded_states, met_many, met_normal, met_states, new_at, new_long, not_lent, or_left, push_draft, push_tracks, report_ends, server_append, server_put, some_is, status_client, status_hand, tally_none, told_each}
pub use Rattle.af_judge.proofs.BlocksTold.{client-client, client-hand, client-server, hand-client, server-client}
pub use Rattle.af_judge.proofs.QueueSteps.{ones_met, ones_more, ones_stay, twos_met, twos_more, twos_stay}
pub use Rattle.af_judge.proofs.Spelled.{spelled_turn}
pub use Rattle.af_judge.proofs.StatesRuns.{ends_same, scales_of}
pub use Rattle.af_judge.proofs.TracksTold.{shapes_called, sides_called}
pub use Rattle.af_judge.specs.Tracks.{AreSpelled, IsSpelled}
pub use Rattle.af_life.proofs.Basics.{at_here, at_new, at_other, at_set, each_set, lent_away, out_of, ready_life, set_each, takes_len, welcomed_at}
pub use Rattle.af_life.proofs.DraftBits.{attached_else, detached_else, detached_here, initial_none, slot_else, slot_here}
pub use Rattle.af_life.proofs.Lives.{acked_len, edits_len, not_yet, served_len, turn_len}
pub use Rattle.af_life.proofs.SoundEdits.{apart, comer_holds, comer_inside, comer_slot, leaver_slot}
pub use Rattle.af_life.proofs.SoundLives.{Goes, goes_served}
pub use Rattle.af_life.proofs.SoundSlots.{sound_served}
pub use Rattle.af_life.proofs.SoundTurns.{sound_acked, sound_edits, sound_new, sound_turn}
pub use Rattle.af_life.specs.Commands.{Row, commands, first_effect}
unfoldable pub use Rattle.af_life.specs.Commands.{by_command, starts}
pub use Rattle.af_life.specs.Edits.{LegalPush, after_ack, after_push, comes_home, edited_to, entered, commands_exit, is_over, lent_by, must_enter, must_leave}
unfoldable pub use Rattle.af_life.specs.Edits.{edited, lend, let_go, mutated, next_command, ordered, welcomed}
pub use Rattle.af_life.specs.Heard.{counts_in, grown, heard, heard_at_home, heard_elsewhere, heard_with, is_reached, is_reported, learnt, ready, slot_reported}
unfoldable pub use Rattle.af_life.specs.Heard.{heard_by, noted, settled_at}
pub use Rattle.af_life.specs.Kept.{Learnt, NormalKept, Outside, Setup, asked, is_home, is_lent, is_returning, new_normal, new_track, no_counts, nothing_seen, number_of, pipe_size, plays, seen_at, setting_of, slot_number, track_at, track_in}
pub use Rattle.af_life.specs.Looks.{HasWords, LegalLooks, all_command_events, as_slot, command_events, did, takes_command, words_taken}
pub use Rattle.af_life.specs.Obeys.{after_looks, are_due, ended, free_slot, goes_on, is_shut, must_wait, opens, shows_command, slot_for, told}
unfoldable pub use Rattle.af_life.specs.Obeys.{after_look, obeyed}
pub use Rattle.af_life.specs.Plays.{LegalTake, after_take, after_takes, look_counted, is_mixed_here, mixed_here, put_by, take_of, tracks_due}
pub use Rattle.af_life.specs.Reports.{Case, first_told, no_retries_left, reports, retries_after}
unfoldable pub use Rattle.af_life.specs.Reports.{by_report, runs_dry, told_by_report}
pub use Rattle.af_life.specs.Serves.{HasDueLooks, IsServed, after_report, is_found_shut, most_looks, served_to, state_code, status_due, stored_over}
unfoldable pub use Rattle.af_life.specs.Serves.{after_part, served, status_word}
pub use Rattle.af_life.specs.Sound.{IsSlotted, IsSound}
pub use Rattle.af_life.specs.State.{is_among}
pub use Rattle.af_life.specs.Turn.{GoesOn, after_edits, after_tracks}
unfoldable pub use Rattle.af_life.specs.Turn.{turn_after}
pub use Rattle.af_life.specs.TurnEvents.{command_events_of, command_list, front_by_room, going, invalid, mix_events, mutator_list, number_seen, pipe_list, push_list, status_events, stream_list, takes_from, tracks_at}
pub use Rattle.af_life.specs.declared.kept.Counts.{Counts}
pub use Rattle.af_life.specs.declared.kept.Heard.{Heard}
pub use Rattle.af_life.specs.declared.kept.Holder.{Holder}
pub use Rattle.af_life.specs.declared.kept.Holder.TheVariants.{Home, Lent, Returning}
pub use Rattle.af_life.specs.declared.kept.Setting.{Setting}
pub use Rattle.af_life.specs.declared.kept.TrackKept.{TrackKept}
pub use Rattle.af_life.specs.declared.state.LifeState.{LifeState}
pub use Rattle.af_life.specs.declared.state.LifeState.TheVariants.{Absent, Active, Flushed, Idle, Paused, Pausing, Resuming, Stopped, Stopping1, Stopping2}
pub use Rattle.af_life.specs.declared.track.Known.{Known}
pub use Rattle.af_life.specs.declared.track.Life.{Life}
pub use Rattle.af_model.proofs.Basics.{both_first, both_lawful, client_taken, flushes-append, not_true}
pub use Rattle.af_model.proofs.Counts.{flushes_are}
pub use Rattle.af_model.proofs.Fates.{in_turn, taken_begins}
pub use Rattle.af_model.proofs.Logic.{ahead-between, both_right, outside-some}
pub use Rattle.af_model.proofs.Orders.{ones_one, twos_one}
pub use Rattle.af_model.proofs.RoomKept.{AllFit, all_fit, fit_split, room_in, room_kept}
pub use Rattle.af_model.proofs.Splits.{legal_at, ones_append, split_at}
pub use Rattle.af_model.proofs.UsedStates.{last_used-push}
pub use Rattle.af_model.specs.ClientCalls.{ClientKept, IsClientList, IsInvalid, IsOutside, client_begins, client_call_events, client_events_of, client_keeps, client_kept, filled_by}
pub use Rattle.af_model.specs.Cycles.{IsSeen, Listed, LooksBy, cold_done, cycle_by, cycle_events, cycle_of, has_exit, is_mixed, kept, last_used, shown, state_of, still_entry, takes_shown, tally}
pub use Rattle.af_model.specs.Draft.{draft_commanded, detached, initial}
pub use Rattle.af_model.specs.Fates.{drops_none, keeps_all}
pub use Rattle.af_model.specs.History.{HasHistory, IsLegal, Moment, after, by_client, by_hand, by_server, client_of, flush_in, flushes_of, hand_of, is_lawful, server_of}
pub use Rattle.af_model.specs.Journals.{EntrySeen, JournalData, RoundSeen}
pub use Rattle.af_model.specs.Order.{Event, HasOrder, Legal, one, ones, two, twos}
pub use Rattle.af_model.specs.PipeHistory.{PipePoint, releases_of}
pub use Rattle.af_model.specs.Point.{ClientMay, ServerMay, after_client, after_hand, after_server, flush_number, flush_word, start, wrapped}
pub use Rattle.af_model.specs.Reports.{ServerKnown, carried, counted_look, is_empty, is_full, is_partial, no_report, no_slot, one_if, report_at, slot_report}
pub use Rattle.af_model.specs.Room.{ahead, outside}
pub use Rattle.af_model.specs.ServerCalls.{ServerKept, dropped_by, drops_of, flushes_by, is_noticed, look_at, look_events, server_begins, server_keeps, server_kept}
pub use Rattle.af_model.specs.Spelled.{own_front}
pub use Rattle.af_model.specs.StateQueue.{MutatorPoint, ObserverPoint, QueuePoint, carries, mutator_next, mutator_start, observed, observer_next, observer_start, slot_of}
pub use Rattle.af_model.specs.declared.newest.ReaderEvent.{ReaderEvent}
pub use Rattle.af_model.specs.declared.newest.WriterEvent.{WriterEvent}
pub use Rattle.af_model.specs.declared.point.TrackPoint.{TrackPoint}
pub use Rattle.af_model.specs.declared.shape.Shape.{Shape}
pub use Rattle.af_model.specs.declared.states.MutatorEvent.{MutatorEvent}
pub use Rattle.af_model.specs.declared.states.ObserverEvent.{ObserverEvent}
pub use Rattle.af_runs.proofs.Basics.{shown_if, state_more, state_some}
pub use Rattle.af_runs.proofs.RunGrows.{AreFewer, match_bool-map, rounds-fewer}
pub use Rattle.af_runs.proofs.StatesFor.{known_some, polled_known, polled_other, polled_pushed, polled_waits, state_beyond, state_known}
pub use Rattle.af_runs.specs.Blocks.{BlockTold, HasBlockHistory, Marks, client_does, client_list, hand_does, hand_list, is_tame, listed, meets, meets_flag, server_does, server_list}
pub use Rattle.af_runs.specs.ClientTurns.{AnswersOn, AreCalls, IsMade, IsWanted, LegalClientTurn, Side, Track, after_call, after_calls, argument_of, commands_sent, is_clear, is_of_commands, is_send, is_status, is_write, most_calls, released_by, side_of, wanted_of, with_call}
pub use Rattle.af_runs.specs.Clients.{Client, after_answer, after_clear, after_send, after_status, after_write, asked_first, at_next_turn, begins, begun, ends, is_last, more, new_client, next_want, rest_of, rested, settled_in, state_in, wants_of}
pub use Rattle.af_runs.specs.Found.{LegalTurnBy, TurnFound, outside_of, take_front}
pub use Rattle.af_runs.specs.Fronts.{behind, front_by_answer, front_of, fronts_by, is_own_inside, is_shown, lawful_front, leaves_open}
pub use Rattle.af_runs.specs.LegalRuns.{IsCutRun, LegalRounds, is_lawful_block, is_poke_on, marks_of, run_from, session_of}
pub use Rattle.af_runs.specs.Rounds.{AreMixedBut, IsFastTurn, LegalEntries, LegalEntry, LegalRound, after_round, after_turn, all_played, before_turn, early_count, early_of, fills, found_in, is_early, late_of, loaded, met_after, turned}
pub use Rattle.af_runs.specs.Runs.{Run, TrackTold, all_ended, called_in_turn, calls_in, changed_from, commands_turned, draft_after, each_track, fast_ended, fast_party, found_before, has_ended, known_of, last_report, load_of, mixed_pipe, mixed_track, most_round_cycles, new_run, next_slot, no_track, normal_party, observer_holds, pipe_cells, played, pushed_by, report_of, sides_of, slot_playing, state_for, stream_met, stream_of, stream_turned, takes_part, told_at, track_met, turned_track, with_cycle, with_cycles, with_looks, with_side}
unfoldable pub use Rattle.af_runs.specs.Runs.{met, with_calls, with_ends, with_load, with_mix, with_poll, with_turn}
pub use Rattle.af_runs.specs.Sessions.{Session, cycle_frames, no_spec, setup_of, spec_of, spec_setting, track_count}
pub use Rattle.af_runs.specs.Told.{HasQueueHistory, Item, PipeTold, QueueTold, brought_by, is_pushed, items_of, mutator_does, observer_does, poll_events, state_at}
pub use Rattle.af_runs.specs.TurnRuns.{calls_alone, cycle_alone, made_alone, met_alone}
pub use Rattle.af_runs.specs.declared.want.ClientCommand.{ClientCommand}
pub use Rattle.af_runs.specs.declared.want.Mode.{Mode}
pub use Rattle.af_runs.specs.declared.want.Want.{Want}
pub use Rattle.af_script.specs.Data.{ScriptData}
pub use Rattle.af_script.specs.Form.{HasOpNumbers, IsScript, IsTrack}
pub use Rattle.af_script.specs.declared.op.Op.{Op}
pub use Rattle.af_script.specs.declared.op.TurnSpec.{TurnSpec}
pub use Rattle.af_script.specs.declared.track.TrackSpec.{TrackSpec}
pub use Rattle.std.proofs.Math.Nat.{add-mod_right, div-add-mod, mod-lt, mul-le-mul, mul-le-mul_left, mul-mod_right, zero-mod}
pub use Rattle.std.proofs.Math.Seq.{take-append_seam}
pub use Rattle.std.proofs.lemmas.Bool.{cases_eq, le-leb, leb-true, true_from_ne_false}
pub use Rattle.std.proofs.lemmas.Bool.Decides.{nat_tests}
pub use Rattle.std.proofs.lemmas.Grind.{div_ceil_times, fold-append, get_or-set_at}
pub use Rattle.std.proofs.lemmas.List.{append-nil, get_or-replicate, length-append, length-map, length-replicate, length-set, length-take-le, take-append-drop, take-append-le}
pub use Rattle.std.proofs.lemmas.List.Elements.{All-get_or, recursion_from_All}
pub use Rattle.std.proofs.lemmas.List.FromFn.{get_or-map-range_with_len, length-map-range_with_len}
pub use Rattle.std.proofs.lemmas.List.Sums.{sum_by-cons}
pub use Rattle.std.specs.Int.{div_ceil}
pub use Rattle.std.specs.List.{AllByRecursion, find, flat_map, list_all, list_any, prefix_len, range_with_len, sum_by}
pub use Rattle.std.specs.Prelude.{Bool, MatchBool, MatchOption, [], max, min, slice_index_or, slice_set}
