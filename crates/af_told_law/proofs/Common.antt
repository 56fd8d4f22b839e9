-- The names of other crates that the proofs of this one cite, passed on from one place. Declares nothing.
pub use Rattle.af_base.proofs.Basics.{and_off, both, get_set_other, get_set_same, half, is_not_below, le-power, neither, no, not_below_is, or_false, or_right, or_true, range_end, some_at}
pub use Rattle.af_base.specs.Command.{code_of}
pub use Rattle.af_base.specs.Log.{Logged, absent, count_seen, entry_slot, frames_taken, slots}
pub use Rattle.af_base.specs.Sample.{packed_word}
pub use Rattle.af_base.specs.Turn.{TakeSeen, TrackSeen, Turn, ended_turn, track_seen, turn_of}
pub use Rattle.af_base.specs.declared.event.ClientCall.{ClientCall}
pub use Rattle.af_base.specs.declared.event.ClientEvent.{ClientEvent}
pub use Rattle.af_base.specs.declared.event.HandEvent.{HandEvent}
pub use Rattle.af_base.specs.declared.event.ServerEvent.{ServerEvent}
pub use Rattle.af_base.specs.declared.frame.Frame.{Frame}
pub use Rattle.af_base.specs.declared.log.Cycle.{Cycle}
pub use Rattle.af_base.specs.declared.log.CycleEntry.{CycleEntry}
pub use Rattle.af_base.specs.declared.log.SlotEntry.{SlotEntry}
pub use Rattle.af_base.specs.declared.report.Report.{Report}
pub use Rattle.af_base.specs.declared.report.SlotReport.{SlotReport}
pub use Rattle.af_base.specs.declared.seen.Seen.{Seen}
pub use Rattle.af_base.specs.declared.state.Command.{Command}
pub use Rattle.af_base.specs.declared.state.FastState.{FastState}
pub use Rattle.af_base.specs.declared.state.FastTrack.{FastTrack}
pub use Rattle.af_base.specs.declared.state.Push.{Push}
pub use Rattle.af_base.specs.declared.state.Push.TheVariants.{Busy, Clean, Pushed}
pub use Rattle.af_base.specs.declared.turn.CommandLook.{CommandLook}
pub use Rattle.af_cblk.specs.Rule.{StartsWith}
pub use Rattle.af_cblk.specs.Sides.{HandSide, Made, client_made, server_made}
pub use Rattle.af_cblk.specs.declared.view.ClientPart.{ClientPart}
pub use Rattle.af_cblk.specs.declared.view.ServerPart.{ServerPart}
pub use Rattle.af_client.proofs.Kept.{kept-more}
pub use Rattle.af_client.specs.Order.{ClientState, client_kept_of}
pub use Rattle.af_engine.specs.Met.{MeetsAway, MeetsFlag, Spot, SpotMet, is_slot_of, item_at, or_else, proxies_of, slot_below, spot_of}
unfoldable pub use Rattle.af_engine.specs.Met.{slot_for}
pub use Rattle.af_engine.specs.Shares.{SharedState}
pub use Rattle.af_enough_law.proofs.TracksKept.{IsQuietlyKept, met_keeps, mix_keeps, poll_keeps, round_alone_keeps}
pub use Rattle.af_fast.specs.Known.{known, known_at}
pub use Rattle.af_fast.specs.Mixer.{CarriesNone, IsInOrder, MixerState, adopted_states, is_over}
pub use Rattle.af_fast.specs.Mixing.{AddsCycle, Adopts, MixesOnce, Takes, Writes}
pub use Rattle.af_fast.specs.Slots.{SlotPlayed, found}
pub use Rattle.af_judge.proofs.Basics.{ahead_behind, ahead_itself, ahead_word, each_at, each_long, met_many, new_at, push_tracks, shape_met, told_each}
pub use Rattle.af_judge.proofs.BlocksTold.{client-client, client-hand, client-server, hand-client, server-client}
pub use Rattle.af_latest.specs.Laws.{last_of, stores}
pub use Rattle.af_life.proofs.Basics.{at_here, at_new, at_other, at_set, away_holds, returning_away, set_each, slot_of_away, welcomed_at}
pub use Rattle.af_life.proofs.Lives.{acked_len, mutation_len, not_yet, served_len}
pub use Rattle.af_life.proofs.SoundEdits.{apart, away_slot, comer_holds, comer_home, comer_inside, comer_slot, leaver_away, leaver_slot, sound_go, sound_lend}
pub use Rattle.af_life.proofs.SoundLives.{goes_served}
pub use Rattle.af_life.proofs.SoundSlots.{sound_served}
pub use Rattle.af_life.proofs.SoundTurns.{Sound, sound_acked, sound_edits}
pub use Rattle.af_life.specs.Edits.{LegalPush, after_ack, after_push, comes_home, commanded_by, commands_exit, edited_to, entered, lent_by, must_enter, must_leave, next_command}
unfoldable pub use Rattle.af_life.specs.Edits.{edited, lend, let_go, ordered, welcomed}
pub use Rattle.af_life.specs.Heard.{counts_in, heard, heard_at_home, heard_elsewhere, heard_with, is_reported, known_by, learnt, ready, settled_at, slot_reported}
unfoldable pub use Rattle.af_life.specs.Heard.{heard_by, noted}
pub use Rattle.af_life.specs.Kept.{Learnt, NormalKept, Outside, Setup, asked, is_home, is_lent, is_returning, new_normal, new_track, no_counts, nothing_heard, nothing_seen, number_of, pipe_size, plays, seen_at, setting_of, slot_number, track_at, track_in}
pub use Rattle.af_life.specs.Looks.{LegalLooks, all_command_events, as_slot, command_events, did, takes_command, words_taken}
pub use Rattle.af_life.specs.Obeys.{holds, shows_command}
pub use Rattle.af_life.specs.Plays.{LegalTake, after_take, after_takes, is_mixed_here, look_counted, mixed_here, put_by, tracks_due}
pub use Rattle.af_life.specs.Serves.{IsServed, LegalTrack, after_part, is_found_shut, served_to}
unfoldable pub use Rattle.af_life.specs.Serves.{served}
pub use Rattle.af_life.specs.Sound.{IsSound}
pub use Rattle.af_life.specs.Turn.{GoesOn, LegalTurn, after_edits, after_tracks}
unfoldable pub use Rattle.af_life.specs.Turn.{turn_after}
pub use Rattle.af_life.specs.TurnEvents.{command_events_of, command_list, front_by_room, going, hand_events_of, invalid, mix_events, mutator_list, number_seen, pipe_list, push_list, status_events, stream_list, takes_from, tracks_at}
pub use Rattle.af_life.specs.declared.kept.Heard.{Heard}
pub use Rattle.af_life.specs.declared.kept.Holder.TheVariants.{Home, Lent, Returning}
pub use Rattle.af_life.specs.declared.kept.TrackKept.{TrackKept}
pub use Rattle.af_link.specs.PipeEnds.{OutSide, SeesTaken}
pub use Rattle.af_link.specs.declared.links.Links.{Links}
pub use Rattle.af_link.specs.declared.names.StreamNames.{StreamNames}
pub use Rattle.af_model.proofs.Basics.{both_first, both_lawful, kept_more, lawful_first, not_true, same_before, same_length, state_next}
pub use Rattle.af_model.proofs.Splits.{legal_at, ones_append}
pub use Rattle.af_model.specs.ClientCalls.{ClientKept, IsClientList, client_call_events, client_kept}
pub use Rattle.af_model.specs.Cycles.{Found, IsSeen, LegalCycle, Listed, LooksBy, Mixes, SubmixSlot, TrackSlot, UseUpTo, cold_done, cold_of, cycle_events, cycle_of, events_behind_look, has_exit, is_cold, is_mixed, kept, last_used, place_of, state_of, still_entry, taken_before, takes_shown}
pub use Rattle.af_model.specs.Draft.{detached, draft_commanded, initial}
pub use Rattle.af_model.specs.History.{Moment, by_hand, by_server, client_of, hand_of, is_lawful, server_of}
pub use Rattle.af_model.specs.Journals.{EntrySeen, RoundNoted, RoundSeen, entries_seen, frames_of, rounds_seen, slot_frames}
unfoldable pub use Rattle.af_model.specs.Journals.{taken_by}
pub use Rattle.af_model.specs.Order.{Event, Legal, one, ones, point_after, two, twos}
pub use Rattle.af_model.specs.PipeHistory.{HasPipeHistory, PipePoint, releases_of, room_by}
pub use Rattle.af_model.specs.Point.{wrapped}
pub use Rattle.af_model.specs.Reports.{IsNextReport, ServerKnown, carried, counted_look, no_report, no_slot, report_at, slot_report}
pub use Rattle.af_model.specs.Room.{ahead, outside}
pub use Rattle.af_model.specs.ServerCalls.{IsServerList, ServerKept, dropped_by, flush_position, flushes_by, is_noticed, look_at, look_events, past_front, server_begins, server_keeps, server_kept}
pub use Rattle.af_model.specs.Spelled.{AllSeeOwn, own_front}
pub use Rattle.af_model.specs.StateQueue.{AreOf, HasStateHistory, MutatorPoint, ObserverPoint, QueuePoint, carries, has, legal, mutated, mutator_next, mutator_start, next, observed, observer_next, observer_start, slot_of, start_of_queue, word}
pub use Rattle.af_model.specs.declared.newest.ReaderEvent.{ReaderEvent}
pub use Rattle.af_model.specs.declared.newest.ReaderEvent.TheVariants.{Load}
pub use Rattle.af_model.specs.declared.newest.WriterEvent.{WriterEvent}
pub use Rattle.af_model.specs.declared.newest.WriterEvent.TheVariants.{Store}
pub use Rattle.af_model.specs.declared.plain_calls.Poll.{Poll}
pub use Rattle.af_model.specs.declared.plain_calls.Poll.TheVariants.{New, Nothing, Same}
pub use Rattle.af_model.specs.declared.shape.Shape.{Shape}
pub use Rattle.af_model.specs.declared.states.MutatorEvent.{MutatorEvent}
pub use Rattle.af_model.specs.declared.states.MutatorEvent.TheVariants.{SawAck}
pub use Rattle.af_model.specs.declared.states.ObserverEvent.{ObserverEvent}
pub use Rattle.af_model.specs.declared.states.ObserverEvent.TheVariants.{Ack, SawNext}
pub use Rattle.af_normal.proofs.LegalBegins.{BegunBy, begun_by}
pub use Rattle.af_normal.proofs.LegalPlays.{StreamTakes, mix_of, words_of}
pub use Rattle.af_normal.proofs.OrderDone.{stays_all}
pub use Rattle.af_normal.proofs.OrderServed.{StaysPut, out_put, stay_put}
pub use Rattle.af_normal.proofs.OrderStages.{acked_kept, acked_list, acked_same, tied_acked, tied_learnt}
pub use Rattle.af_normal.specs.Coming.{Welcomes, WelcomesTo, has_back, takes_back}
pub use Rattle.af_normal.specs.Editing.{Lends, LetsGo, lends, lets_go}
pub use Rattle.af_normal.specs.LegalTurned.{GoesOnFrom, Grows, IsLegal, hand_events, home_stream, in_hand, in_queue, served_tracks}
pub use Rattle.af_normal.specs.Meeting.{AreClientsOf, Meets, MeetsAll, MeetsStream, client_knows}
pub use Rattle.af_normal.specs.Mixing.{stream_at}
pub use Rattle.af_normal.specs.Mutating.{EditsTo, EditsTrack, begun, due_command, finished}
pub use Rattle.af_normal.specs.Order.{IsOut, IsTied}
pub use Rattle.af_normal.specs.Serving.{Adds, StreamAdds}
pub use Rattle.af_normal.specs.State.{NormalState, kept_of, setup_of}
pub use Rattle.af_normal.specs.TurnMade.{Does, GoesOnBy, Stops, TurnMade, TurnsBy, answer_of, mixing_of}
pub use Rattle.af_normal.specs.Turning.{Begins, HandsTo, HasHands, SeesAck, learnt_by, listed_at, with_mutator, without_hand}
pub use Rattle.af_normal.specs.declared.turn.Turn.TheVariants.{Ended, Spent, Turned}
pub use Rattle.af_party.specs.Parties.{PartyState, side_of_proxy, track_of}
pub use Rattle.af_runs.proofs.Basics.{shown_if, state_more, stays_out, taken_up}
pub use Rattle.af_runs.proofs.StatesFor.{state_adopted, state_known}
pub use Rattle.af_runs.specs.Blocks.{BlockTold, HasBlockHistory, Marks, client_list, hand_does, is_tame, listed, meets, meets_flag, new_block, server_list}
pub use Rattle.af_runs.specs.ClientTurns.{Side, Track, after_call, after_calls, is_of_commands}
pub use Rattle.af_runs.specs.Clients.{ends, new_client}
pub use Rattle.af_runs.specs.Found.{LegalTurnBy, TurnFound, outside_of, take_front}
pub use Rattle.af_runs.specs.Fronts.{behind, flushed_front, front_by_answer, front_of, fronts_by, is_own_inside, is_shown, lawful_front, leaves_open}
pub use Rattle.af_runs.specs.KeptLists.{KeepsClient, KeepsMutator, marked, marked_event}
pub use Rattle.af_runs.specs.LegalRuns.{is_poke_on, marks_of, session_of}
pub use Rattle.af_runs.specs.Rounds.{AreMixedBut, HaveHistories, KeepsHistory, LegalEntry, SharedHistories, TrackHistories, found_for, loaded, turned}
pub use Rattle.af_runs.specs.Runs.{Run, TrackTold, called_in_turn, calls_in, changed_from, client_side, commands_turned, each_track, found_before, frames_before, known_of, last_report, mixed_pipe, mixed_track, most_round_cycles, new_run, next_report, next_slot, no_track, pipe_cells, pipe_turned, played, report_of, sides_of, state_for, stream_met, stream_of, stream_turned, takes_part, told_at, track_met, turned_track, with_looks, with_side}
unfoldable pub use Rattle.af_runs.specs.Runs.{met, with_ends, with_load, with_mix, with_poll, with_turn}
pub use Rattle.af_runs.specs.Sessions.{Session, command_shape, cycle_frames, no_spec, spec_of, spec_setting, stream_shape, track_count}
pub use Rattle.af_runs.specs.Told.{Item, PipeTold, QueueTold, ReportTold, brought_by, is_look_at, is_pushed, items_of, mutator_does, observer_does, poll_events, queue_met, report_met, state_at, was_seen}
pub use Rattle.af_runs.specs.TurnRuns.{calls_alone, cycle_alone, made_alone, met_alone, turn_alone}
pub use Rattle.af_script.specs.Data.{ScriptData}
pub use Rattle.af_script.specs.declared.op.TurnSpec.{TurnSpec}
pub use Rattle.af_script.specs.declared.track.TrackSpec.{TrackSpec}
pub use Rattle.af_server.specs.Order.{ServerState, server_kept_of}
pub use Rattle.af_session.specs.FastTurns.{IsCycle, IsFastTurn, WritesCycle}
pub use Rattle.af_session.specs.Met.{Met, TrackMet}
pub use Rattle.af_session.specs.NewSession.{IsNewSession}
pub use Rattle.af_session.specs.Rounds.{ClientTurned, Given, IsRound, IsTurnRun, NormalTurned, Turns, end_party, fast_round, file_at, normal_round, ops_at, ops_of, still_round}
pub use Rattle.af_session.specs.Together.{AreTogether, SessionState}
pub use Rattle.af_stateq.proofs.Exact.{after_ones, after_twos, sees_the_last}
pub use Rattle.af_stateq.proofs.Prefix.{polled_in_order}
pub use Rattle.af_stateq.specs.Answers.{Brings, SeesIt, TakesIt, WasAcked, WasPolled, WasPushed, sees_same, shows}
pub use Rattle.af_stateq.specs.Ends.{Polls, Pushes, acknowledged, pushes, saw, took}
pub use Rattle.af_stateq.specs.Laws.{is_push, polled_states, pushed_states}
pub use Rattle.af_stateq.specs.Mutates.{InSlot, Mutates, at, is_out}
pub use Rattle.af_stateq.specs.Observes.{IsSettled, Observes}
pub use Rattle.af_stateq.specs.Shelved.{no_state}
pub use Rattle.std.proofs.lemmas.Bool.{and_from, and_parts, cases_eq, cases_lt, eq-eqb, eqb-false, eqb-true, false_from_ne_true, le-leb, le-ltb, lt-ltb, ltb-true, ne_eqb, not-true}
pub use Rattle.std.proofs.lemmas.Grind.{fold-append}
pub use Rattle.std.proofs.lemmas.List.{append_cancel_left, drop-append-le, drop-drop, drop-take, ext_get_or, get_or-replicate, get_or-set_other, get_or_past, length-append, length-drop, length-map, length-replicate, map-append, set-get_or, take-append-le, take-take}
pub use Rattle.std.proofs.lemmas.List.Folds.{list_any-append}
pub use Rattle.std.proofs.lemmas.List.FromFn.{get_or-map-range_with_len, length-map-range_with_len}
pub use Rattle.std.proofs.lemmas.List.Sums.{sum_by-append}
pub use Rattle.std.proofs.lemmas.Option.{get_or_from_slice_get, none-some, same_Some, slice_get-map, slice_get_cases, slice_get_within}
pub use Rattle.std.specs.List.{AllByRecursion, flat_map, list_any, range_with_len}
pub use Rattle.std.specs.Option.{option_map}
pub use Rattle.std.specs.Prelude.{All, MatchBool, MatchOption, drop, max, min, slice_get, slice_index_or, slice_set, sum_by, unwrap_or}
