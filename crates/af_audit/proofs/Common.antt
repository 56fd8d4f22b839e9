-- The names of other crates that the proofs of this one cite, passed on from one place. Declares nothing.
pub use Rattle.af_base.proofs.Basics.{all_more, below_is, below_or_at, beyond_is, both, both_true, equal_is, get_front, is_below, is_equal, is_not_below, itself, le-power, max_le, neither, never_true, no, none_of, not_below_is, positive_is, rest_enters}
pub use Rattle.af_base.specs.Command.{code_of}
pub use Rattle.af_base.specs.Log.{absent, count_seen, entry_at, entry_slot, no_entry, slot_take, slots, takes_of}
pub use Rattle.af_base.specs.Mix.{Take, frame_at, left_part, left_sum, mix, mixed_frame, mixed_sample, right_part, right_sample, right_sum}
pub use Rattle.af_base.specs.Part.{take_of}
pub use Rattle.af_base.specs.Sample.{packed_word}
pub use Rattle.af_base.specs.Turn.{TakeSeen, TrackSeen, Turn, ended_turn, turn_of}
pub use Rattle.af_base.specs.declared.event.ClientCall.{ClientCall}
pub use Rattle.af_base.specs.declared.event.ClientEvent.{ClientEvent}
pub use Rattle.af_base.specs.declared.event.HandEvent.{HandEvent}
pub use Rattle.af_base.specs.declared.event.ServerEvent.{ServerEvent}
pub use Rattle.af_base.specs.declared.frame.Frame.{Frame}
pub use Rattle.af_base.specs.declared.log.CycleEntry.{CycleEntry}
pub use Rattle.af_base.specs.declared.log.SlotEntry.{SlotEntry}
pub use Rattle.af_base.specs.declared.plain.Part.{Part}
pub use Rattle.af_base.specs.declared.report.Report.{Report}
pub use Rattle.af_base.specs.declared.report.SlotReport.{SlotReport}
pub use Rattle.af_base.specs.declared.seen.Seen.{Seen}
pub use Rattle.af_base.specs.declared.state.Command.{Command}
pub use Rattle.af_base.specs.declared.state.Command.TheVariants.{ColdIdle, Exit, MixWrite}
pub use Rattle.af_base.specs.declared.state.FastState.{FastState}
pub use Rattle.af_base.specs.declared.state.FastTrack.{FastTrack}
pub use Rattle.af_base.specs.declared.state.Push.{Push}
pub use Rattle.af_base.specs.declared.state.Push.TheVariants.{Busy, Clean, Pushed}
pub use Rattle.af_base.specs.declared.turn.CommandLook.{CommandLook}
pub use Rattle.af_gain.proofs.Basics.{grown, silent_right}
pub use Rattle.af_judge.proofs.Basics.{begins_ended, calls_pipe, calls_states, client_append, each_at, each_long, ends_pipe, if_true, legal_cut, loaded_pipe, met_many, met_normal, new_at, not_lent, nothing_from, same_track, server_append, shape_met, status_client, status_hand, tally_none, there_is, told_each}
pub use Rattle.af_judge.proofs.BlocksMeet.{met_at, track_judged, track_spelled, tracks_met}
pub use Rattle.af_judge.proofs.BlocksTold.{block_begins, client-server, hand-client, server-client}
pub use Rattle.af_judge.proofs.EntriesFollow.{KeepsPlaying, cycles_beside, entries_in, entries_keep}
pub use Rattle.af_judge.proofs.EntryTold.{SameBeside, cycle_beside, fits_same}
pub use Rattle.af_judge.proofs.EntryTracks.{plays_track}
pub use Rattle.af_judge.proofs.FastBeside.{calls_same, ends_same, fast_met, fast_new, fast_round, fast_same, fast_told_same, loaded_same, turned_same}
pub use Rattle.af_judge.proofs.FastClear.{IsFastLegal, early_used, fast_judged, round_entries, round_used}
pub use Rattle.af_judge.proofs.JournalEntries.{formed_front, formed_rest, round_entries_at, round_formed}
pub use Rattle.af_judge.proofs.LooksAnswer.{Alike, alike, looks_alike, step_alike}
pub use Rattle.af_judge.proofs.QueueRun.{goes_called, goes_ended, queue_first, queue_loaded, queue_turned}
pub use Rattle.af_judge.proofs.SharedEntries.{AreOfPushed, entries_beside, entries_go, entries_queue, form_opens}
pub use Rattle.af_judge.proofs.SharedFollows.{beside_called, beside_ended, beside_first, beside_loaded, beside_met, beside_turned, queue_met_so, shared_judged}
pub use Rattle.af_judge.proofs.StatesKept.{at_each, at_last, drafts_same}
pub use Rattle.af_judge.proofs.StatesRuns.{RunKept, before_same, fits_of, kept_after_turn, kept_before, kept_new, kept_round, scales_of}
pub use Rattle.af_judge.proofs.TracksTold.{keeps_of, shapes_called, sides_called, turn_told}
pub use Rattle.af_judge.specs.Blocks.{BlockJudged, IsBlockOf, new_judged}
pub use Rattle.af_judge.specs.BlocksMet.{AreShort, BothKeep, blocks_met}
pub use Rattle.af_judge.specs.Entries.{AreNumbered, CarriesApart, FastOf}
pub use Rattle.af_judge.specs.EntriesTold.{AreEntriesRight, MayEnter, Playing, entries_leave, playing}
pub use Rattle.af_judge.proofs.Words.{AreFormed}
pub use Rattle.af_judge.specs.FastKept.{FastKept, carries_track, fast_begins, number_found}
pub use Rattle.af_judge.specs.Foresight.{entries_foreseen, foreseen, servers_at}
pub use Rattle.af_judge.specs.NormalJudged.{IsJudged, NormalJudged}
pub use Rattle.af_judge.specs.NormalTold.{IsRight, IsTrackAt}
pub use Rattle.af_judge.specs.PipeKept.{PipeKept, front_by_room, saw_front, with_meeting, with_put}
pub use Rattle.af_judge.specs.QueueNumbers.{turn_steps, with_steps}
pub use Rattle.af_judge.specs.ReportKept.{ReportKept}
pub use Rattle.af_judge.specs.RunTold.{IsServedBlock, IsServedTrack, KeepsTracks, NormalOf}
pub use Rattle.af_judge.proofs.Words.{StatesFit}
pub use Rattle.af_judge.specs.SharedTold.{AreRight, BesideQueue, QueueGoes}
pub use Rattle.af_judge.proofs.Words.{QueueOf}
pub use Rattle.af_judge.specs.StatesKept.{SameSlots, StatesKept}
pub use Rattle.af_judge.specs.Tracks.{AreSpelled, IsSpelled, IsTrackOf, KeepsTrack, SameServers}
pub use Rattle.af_judge.specs.TurnJudged.{TurnJudged}
pub use Rattle.af_judge.specs.declared.track_judge.TrackJudge.{TrackJudge}
pub use Rattle.af_life.proofs.Basics.{at_new, at_set, ready_life, set_each, slot_of_away, welcomed_at}
pub use Rattle.af_life.proofs.Lives.{acked_len, look_steps, not_yet, served_len, turn_len}
pub use Rattle.af_life.proofs.SoundLives.{goes_served, grew_command, grew_report, is_absent, opened}
pub use Rattle.af_life.proofs.SoundSlots.{sound_served}
pub use Rattle.af_life.proofs.SoundTurns.{sound_acked}
pub use Rattle.af_life.specs.Commands.{Row, applies, commands, first_effect}
unfoldable pub use Rattle.af_life.specs.Commands.{by_command, starts}
pub use Rattle.af_life.specs.Drained.{AreLegal, DrainedIsReached, LifeStep, StoppedAt, Turned, cut, heard_of, kept_after, life_of, looks_steps, most_heard, reports_drained, steps_of, stops, told}
pub use Rattle.af_life.proofs.Words.{IsDrainedBy}
unfoldable pub use Rattle.af_life.specs.Drained.{track_steps}
pub use Rattle.af_life.specs.Edits.{after_ack, after_push, comes_home, commanded_by, edited_to, entered, commands_exit, is_over, lent_by, must_enter, must_leave}
unfoldable pub use Rattle.af_life.specs.Edits.{edited, lend, let_go, mutated, next_command, ordered, welcomed}
pub use Rattle.af_life.specs.Heard.{counts_in, heard, heard_at_home, heard_elsewhere, heard_with, is_reached, is_reported, known_by, learnt, ready, slot_reported}
unfoldable pub use Rattle.af_life.specs.Heard.{heard_by, noted, settled_at}
pub use Rattle.af_life.specs.Kept.{Learnt, NormalKept, Outside, Setup, asked, is_home, is_returning, new_normal, no_counts, nothing_heard, nothing_seen, pipe_size, seen_at, setting_of, slot_number, track_at, track_in}
pub use Rattle.af_life.specs.Looks.{LegalLooks, all_command_events, as_slot, command_events, did, takes_command, words_taken}
pub use Rattle.af_life.specs.Obeys.{after_looks, are_due, ended, goes_on, is_shut, must_wait, opens, shows_command}
unfoldable pub use Rattle.af_life.specs.Obeys.{after_look, obeyed}
pub use Rattle.af_life.specs.Plays.{LegalTake, after_take, after_takes, look_counted, is_mixed_here, mixed_here, put_by, tracks_due}
pub use Rattle.af_life.specs.Serves.{HasDueLooks, IsServed, LegalTrack, after_report, is_found_shut, most_looks, served_to, state_code, status_due, stored_over}
unfoldable pub use Rattle.af_life.specs.Serves.{after_part, served, status_word}
pub use Rattle.af_life.specs.Sound.{IsSound}
pub use Rattle.af_life.specs.Turn.{LegalTurn, after_edits, after_tracks}
unfoldable pub use Rattle.af_life.specs.Turn.{turn_after}
pub use Rattle.af_life.specs.TurnEvents.{command_events_of, command_list, going, hand_events_of, invalid, mix_events, pipe_list, status_events, stream_list, takes_from, tracks_at}
pub use Rattle.af_life.specs.declared.command.TheConstants.{OPEN, REMOVE, START}
pub use Rattle.af_life.specs.declared.kept.Heard.{Heard}
pub use Rattle.af_life.specs.declared.kept.Holder.TheVariants.{Home, Lent, Returning}
pub use Rattle.af_life.specs.declared.kept.TrackKept.{TrackKept}
pub use Rattle.af_life.specs.declared.state.LifeState.{LifeState}
pub use Rattle.af_life.specs.declared.state.LifeState.TheVariants.{Absent, Active, Flushed, Idle, Paused, Pausing, Resuming, Stopped, Stopping1, Stopping2}
pub use Rattle.af_life.specs.declared.track.Life.{Life}
pub use Rattle.af_model.proofs.Basics.{both_first, both_lawful, flushes-append, hand_flush, kept_more, lawful_first, no_flush, none_as, not_true, state_next, three}
pub use Rattle.af_model.proofs.Counts.{flushes_are, lawful_more}
pub use Rattle.af_model.proofs.Fates.{drop_released, drops_more, in_turn, taken_begins}
pub use Rattle.af_model.proofs.Logic.{ahead-between, both_right, outside-some}
pub use Rattle.af_model.proofs.RoomKept.{AllFit, AllFollowRear, FollowsRear, all_fit, fit_split, never_corrupt, never_shut, room_in, saw_rear}
pub use Rattle.af_model.specs.ClientCalls.{ClientAnswers, ClientKept, client_begins, client_call_events, client_events_of, client_keeps, client_kept, filled_by}
pub use Rattle.af_model.specs.Cycles.{Listed, LooksBy, UseUpTo, cycle_events, cycle_of, has_exit, is_mixed, kept, last_used, state_of, still_entry, takes_shown, tally}
pub use Rattle.af_model.specs.Draft.{attached, draft_commanded}
pub use Rattle.af_model.specs.Fates.{InTurn, drops_none, keeps_all}
pub use Rattle.af_model.specs.History.{HasHistory, IsLegal, May, Moment, after, by_client, by_hand, by_server, client_of, flushes_of, is_lawful, point, server_of}
pub use Rattle.af_model.specs.JournalForm.{IsJournal, IsRound, IsTurn, TracksRise}
pub use Rattle.af_model.specs.Journals.{EntrySeen, JournalData, RoundSeen, calls_at, entries_of, frames_of, no_round, round_at, slot_frames, taken_by}
pub use Rattle.af_model.specs.Order.{Event, Legal, one, ones, two, twos}
pub use Rattle.af_model.specs.PipeHistory.{HasPipeHistory, PipePoint, releases_of, room_by}
pub use Rattle.af_model.specs.Point.{ClientMay, ServerMay, after_client, after_hand, after_server, drop_end, flush_number, start, wrapped}
pub use Rattle.af_model.specs.Reports.{counted_look, no_report, no_slot, report_at, slot_report}
pub use Rattle.af_model.specs.Room.{ahead, outside}
pub use Rattle.af_model.specs.ServerCalls.{ServerKept, dropped_by, drops_of, flushes_by, is_noticed, look_at, look_events, server_begins, server_keeps, server_kept}
pub use Rattle.af_model.specs.StateQueue.{carries, slot_of}
pub use Rattle.af_model.specs.declared.point.TrackPoint.{TrackPoint}
pub use Rattle.af_model.specs.declared.shape.Shape.{Shape}
pub use Rattle.af_runs.proofs.Basics.{cycle_entries, entries_inside}
pub use Rattle.af_runs.proofs.StatesFor.{polled_waits, state_among, state_known}
pub use Rattle.af_runs.specs.Blocks.{BlockTold, HasBlockHistory, Marks, client_does, client_list, hand_does, is_tame, listed, meets, meets_flag, new_block, server_does, server_list, took}
pub use Rattle.af_runs.specs.ClientTurns.{AnswersOn, AreCalls, IsMade, IsWanted, LegalClientTurn, Side, Track, after_call, after_calls, answered, argument_of, asked_by, commands_sent, is_flush, is_of_commands, is_send, most_calls, new_side, released_by, wanted_of, with_call}
pub use Rattle.af_runs.specs.Clients.{Client, after_answer, after_clear, after_put, after_send, after_sent, after_status, after_write, asked_first, at_next_turn, begins, begun, ends, is_active, is_last, is_stoppable, is_stopped, mode_after, more, new_client, rest_of, rested, settled_in, state_in, waits, wants_of}
pub use Rattle.af_runs.specs.Found.{LegalTurnBy, TurnFound, outside_of, take_front}
pub use Rattle.af_runs.specs.Fronts.{front_of, fronts_by, is_shown}
pub use Rattle.af_runs.specs.LegalRuns.{IsCutRun, IsLegalRun, LegalRounds, is_lawful_block, is_lawful_track, is_poke_on, marks_of, run_from, run_of, session_of}
pub use Rattle.af_runs.specs.Pcm.{entries_pcm, journal_pcm}
pub use Rattle.af_runs.specs.Rounds.{AreMixedBut, IsFastTurn, LegalEntries, LegalEntry, LegalFastTurn, LegalNormalTurn, LegalRound, SharedHistories, TrackHistories, after_round, after_turn, all_played, before_turn, early_count, early_of, fills, found_in, is_early, late_of, loaded, met_after, turned}
pub use Rattle.af_runs.specs.Runs.{Run, TrackTold, all_ended, called_in_turn, calls_in, commands_turned, each_track, fast_ended, fast_party, frames_before, has_ended, observer_holds, known_of, last_report, load_of, mixed_track, most_round_cycles, new_run, new_told_track, next_report, next_slot, no_track, normal_party, pipe_cells, played, shows_slot, report_of, client_side, sides_of, slot_playing, state_for, stream_met, stream_of, takes_part, told_at, turned_track, with_cycle, with_cycles, with_looks}
unfoldable pub use Rattle.af_runs.specs.Runs.{met, with_calls, with_ends, with_load, with_mix, with_poll, with_turn}
pub use Rattle.af_runs.specs.Sessions.{Session, command_shape, cycle_frames, file_words, no_spec, script_setup, setup_of, spec_of, spec_setting, stream_shape, track_count}
pub use Rattle.af_runs.specs.Told.{HasPipeTold, PipeTold, is_pushed, state_at}
pub use Rattle.af_runs.specs.declared.want.ClientCommand.{ClientCommand}
pub use Rattle.af_runs.specs.declared.want.Want.{Want}
pub use Rattle.af_script.specs.Data.{ScriptData}
pub use Rattle.af_script.specs.Form.{IsScript, IsTrack}
pub use Rattle.af_script.specs.Ops.{are_whole, power_above}
unfoldable pub use Rattle.af_script.specs.Ops.{cells_of}
pub use Rattle.af_script.specs.declared.op.Op.{Op}
pub use Rattle.af_script.specs.declared.track.TrackSpec.{TrackSpec}
pub use Rattle.std.proofs.Math.Nat.{mod-eq_of_lt, mod-lt, mul-le-mul, mul-le-mul_left, pow-succ', zero-div}
pub use Rattle.std.proofs.Math.Seq.{get_or-append_seam, take-add}
pub use Rattle.std.proofs.lemmas.Bool.{cases_eq, cases_lt, eqb-true, leb-false, leb-true}
pub use Rattle.std.proofs.lemmas.Bool.Decides.{nat_tests}
pub use Rattle.std.proofs.lemmas.Grind.{fold-append, get_or-set_at}
pub use Rattle.std.proofs.lemmas.List.{drop-drop, drop-map, drop-take, get_or-drop, get_or-map, get_or-replicate, get_or-set_other, get_or-set_same, get_or-take, get_or_append_left, get_or_default, get_or_past, length-drop, length-map, length-replicate, length-set, length-take-le, map-append, take-append-drop, take-map, take-take, take_all}
pub use Rattle.std.proofs.lemmas.List.Elements.{All-cons, All-get_or, All-head, All-nil, All-tail}
pub use Rattle.std.proofs.lemmas.List.FromFn.{get_or-map-range_with_len, length-map-range_with_len}
pub use Rattle.std.proofs.lemmas.Nat.{div-mul-add}
pub use Rattle.std.proofs.lemmas.Option.{none-some, same_Some}
pub use Rattle.std.specs.List.{AllByRecursion, flat_map, list_all, list_any, prefix_len, range_with_len, sum_by}
pub use Rattle.std.specs.Prelude.{All, Bool, IsTrue, List, MatchBool, MatchOption, Option, [], bit_and, false, filter, find, fold, is_none, is_some, length, nat_le, nat_lt, not, refl, replicate, slice_get, slice_index_or, slice_set, suc, take, true, unwrap_or, zero, ℕ}
