-- The names of other crates that the proofs of this one cite, passed on from one place. Declares nothing.
pub use Rattle.af_base.proofs.Basics.{and_false, both, both_true, by_false, few, is_below, is_beyond, is_not_below, is_within, neither_is}
pub use Rattle.af_base.specs.Log.{absent, count_seen, entry_slot, slots}
pub use Rattle.af_base.specs.Sample.{IsFrame, packed_word}
pub use Rattle.af_base.specs.Turn.{TakeSeen, TrackSeen, Turn}
pub use Rattle.af_base.specs.declared.event.ClientCall.{ClientCall}
pub use Rattle.af_base.specs.declared.event.ClientEvent.{ClientEvent}
pub use Rattle.af_base.specs.declared.event.HandEvent.{HandEvent}
pub use Rattle.af_base.specs.declared.event.ServerEvent.{ServerEvent}
pub use Rattle.af_base.specs.declared.frame.Frame.{Frame}
pub use Rattle.af_base.specs.declared.log.CycleEntry.{CycleEntry}
pub use Rattle.af_base.specs.declared.log.SlotEntry.{SlotEntry}
pub use Rattle.af_base.specs.declared.seen.Seen.{Seen}
pub use Rattle.af_base.specs.declared.state.FastState.{FastState}
pub use Rattle.af_base.specs.declared.turn.CommandLook.{CommandLook}
pub use Rattle.af_enough_law.proofs.MoreTold.{told_more}
pub use Rattle.af_enough_law.proofs.RunTracks.{ends_blocks}
pub use Rattle.af_judge.proofs.Basics.{each_at, each_long, ends_part, hand_puts, new_at, new_long, server_put}
pub use Rattle.af_judge.proofs.StatesRuns.{RunKept, SameNormal, ends_same, fits_of, kept_beside, kept_new, kept_turn, load_same, met_same}
pub use Rattle.af_judge.specs.Entries.{CarriesApart, CarriesWithin}
pub use Rattle.af_life.specs.Edits.{LegalPush, after_ack, commands_exit, mutated}
pub use Rattle.af_life.specs.Heard.{heard, known_by, learnt, ready}
pub use Rattle.af_life.specs.Kept.{Learnt, NormalKept, Outside, Setup, asked, is_home, nothing_seen, pipe_size, seen_at, track_at, track_in}
pub use Rattle.af_life.specs.Looks.{HasWords, LegalLooks, all_command_events, as_slot, command_events, did, takes_command, words_taken}
pub use Rattle.af_life.specs.Obeys.{are_due, goes_on, shows_command}
pub use Rattle.af_life.specs.Plays.{LegalTake, put_by, tracks_due}
pub use Rattle.af_life.specs.Serves.{HasDueLooks, IsServed, LegalTrack, after_commands, is_found_shut, most_looks, served, served_to, status_due, stored_over}
pub use Rattle.af_life.specs.Turn.{GoesOn, LegalTurn, after_edits, ends_now}
pub use Rattle.af_life.specs.TurnEvents.{command_events_of, command_list, front_by_room, going, hand_events_of, invalid, mix_events, mutator_list, number_seen, pipe_list, push_list, status_events, stream_list, takes_from, tracks_at}
pub use Rattle.af_life.specs.declared.kept.TrackKept.{TrackKept}
pub use Rattle.af_model.specs.ClientCalls.{ClientAnswers, ClientKept, IsOutside, client_events_of, client_kept, filled_by, put_count}
pub use Rattle.af_model.specs.Cycles.{Listed, LooksBy, Mixes, events_behind_look, cold_done, cycle_events, cycle_of, is_mixed, kept, place_of, state_of, still_entry, submix_slot, taken_before, takes_shown, tally}
pub use Rattle.af_model.specs.Draft.{initial}
pub use Rattle.af_model.specs.History.{IsLegal, Moment, after, by_client, by_hand, by_server, client_of, flushes_of, is_lawful, server_of, taken_of, with_taken}
pub use Rattle.af_model.specs.JournalForm.{AreEntries, IsOpenTurn, IsRound, IsTake, IsTurn, TracksRise}
pub use Rattle.af_model.specs.Journals.{EntrySeen, JournalData, RoundSeen, entries_of, slot_frames}
unfoldable pub use Rattle.af_model.specs.Journals.{taken_by}
pub use Rattle.af_model.specs.Order.{Event, Legal, one, two, twos}
pub use Rattle.af_model.specs.Point.{ClientMay, ServerMay, after_client, after_hand, after_server, drop_end, flush_word, start, wrapped}
pub use Rattle.af_model.specs.Reports.{no_report}
pub use Rattle.af_model.specs.ServerCalls.{dropped_by, drops_of, look_at, look_events}
pub use Rattle.af_model.specs.StateQueue.{QueuePoint, carries, slot_of}
pub use Rattle.af_model.specs.declared.newest.ReaderEvent.TheVariants.{Load}
pub use Rattle.af_model.specs.declared.point.TrackPoint.{TrackPoint}
pub use Rattle.af_model.specs.declared.shape.Shape.{Shape}
pub use Rattle.af_runs.proofs.StatesFor.{state_among, state_known}
pub use Rattle.af_runs.specs.Blocks.{BlockTold, IsHistoryAsTold, Marks, client_list, listed, meets, new_block, server_does, took}
pub use Rattle.af_runs.specs.ClientTurns.{AnswersOn, AreCalls, IsMade, LegalClientTurn, Side, Track, after_call, after_calls, argument_of, is_clear, is_flush, is_of_commands, is_send, is_status, is_write, most_calls, released_by, side_of, wanted_of}
pub use Rattle.af_runs.specs.Clients.{command_code, ends}
pub use Rattle.af_runs.specs.Found.{LegalTurnBy, TurnFound, outside_of, outside_with, take_front}
pub use Rattle.af_runs.specs.Fronts.{front_by_answer, front_of, fronts_by, is_own_inside, lawful_front, leaves_open}
pub use Rattle.af_runs.specs.LegalRuns.{is_poke_on, marks_of, session_of}
pub use Rattle.af_runs.specs.Rounds.{AreMixedBut, IsFastTurn, LegalEntry, found_for, loaded, turned}
pub use Rattle.af_runs.specs.Runs.{Run, TrackTold, called_in_turn, calls_in, commands_turned, changed_from, each_track, fast_ended, found_before, frames_before, mixed_track, most_round_cycles, new_run, no_track, pipe_turned, played, shows_slot, queue_turned, report_of, sides_of, slot_playing, state_for, stream_met, stream_of, stream_turned, takes_part, told_at, track_met, turned_track}
unfoldable pub use Rattle.af_runs.specs.Runs.{met, with_ends, with_load, with_mix, with_poll, with_turn}
pub use Rattle.af_runs.specs.Sessions.{Session, cycle_frames, file_words, no_spec, setup_of, track_count}
pub use Rattle.af_runs.specs.Told.{IsPipeAsTold, IsQueueAsTold, IsReportAsTold, Item, PipeTold, QueueTold, items_of, pipe_met, poll_events, state_at}
pub use Rattle.af_runs.specs.TurnRuns.{AreTurns, IsMadeBy, IsTurnRun, LegalAlone, OnlyCalls, calls_alone, cycle_alone, made_alone, met_alone, run_alone}
pub use Rattle.af_runs.specs.declared.want.Want.{Want}
pub use Rattle.af_script.specs.Form.{IsScript}
pub use Rattle.af_script.specs.declared.op.TurnSpec.{TurnSpec}
pub use Rattle.std.proofs.lemmas.Bool.{cases_eq, cases_lt}
pub use Rattle.std.proofs.lemmas.List.{append_cancel_left, drop-take, drop_at, ext_get_or, get_or_past, length-drop, length-map, length-take, map-append, take-take, take_all, take_at, take_min}
pub use Rattle.std.proofs.lemmas.List.Elements.{All-head, All-nil, All-tail}
pub use Rattle.std.specs.List.{AllByRecursion, flat_map, list_all, list_any, range_with_len}
pub use Rattle.std.specs.Prelude.{MatchBool, MatchOption, bit_and, slice_index_or, slice_set}
