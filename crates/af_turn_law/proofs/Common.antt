-- The names of other crates that the proofs of this one cite, passed on from one place. Declares nothing.
pub use Rattle.af_base.proofs.Basics.{either, either_false, is_within, no, none_and, or_right}
pub use Rattle.af_base.specs.Log.{entry_slot, slots}
pub use Rattle.af_base.specs.Turn.{TakeSeen, TrackSeen, Turn}
pub use Rattle.af_base.specs.declared.event.ClientEvent.{ClientEvent}
pub use Rattle.af_base.specs.declared.event.HandEvent.{HandEvent}
pub use Rattle.af_base.specs.declared.event.ServerEvent.{ServerEvent}
pub use Rattle.af_base.specs.declared.seen.Seen.{Seen}
pub use Rattle.af_base.specs.declared.state.FastState.{FastState}
pub use Rattle.af_base.specs.declared.turn.CommandLook.{CommandLook}
pub use Rattle.af_judge.proofs.Basics.{each_at, each_long, met_many, or_left, push_tracks, report_ends, told_each}
pub use Rattle.af_judge.proofs.QueueSteps.{ones_more, twos_stay, twos_more, ones_stay, ones_met, twos_met}
pub use Rattle.af_life.proofs.Basics.{at_new, at_other, at_set, welcomed_at}
pub use Rattle.af_life.proofs.Lives.{acked_len, not_yet, served_len, turn_len}
pub use Rattle.af_life.proofs.SoundLives.{IsGiven, goes_served, grew_report}
pub use Rattle.af_life.proofs.SoundSlots.{sound_served}
pub use Rattle.af_life.proofs.SoundTurns.{Sound, sound_acked, sound_new, sound_turn}
pub use Rattle.af_life.specs.Edits.{after_ack, after_push, comes_home, edited_to, must_enter, must_leave}
unfoldable pub use Rattle.af_life.specs.Edits.{edited, lend, let_go, mutated, ordered, welcomed}
pub use Rattle.af_life.specs.Heard.{heard, learnt, ready}
unfoldable pub use Rattle.af_life.specs.Heard.{heard_by}
pub use Rattle.af_life.specs.Kept.{Learnt, NormalKept, Outside, Setup, asked, is_home, is_lent, new_normal, new_track, nothing_seen, pipe_size, plays, seen_at, track_at, track_in}
pub use Rattle.af_life.specs.Obeys.{after_looks, are_due, ended, goes_on, is_shut, obeyed, shows_command, slot_for}
unfoldable pub use Rattle.af_life.specs.Obeys.{after_look}
pub use Rattle.af_life.specs.Plays.{after_take, after_takes, look_counted, is_mixed_here, mixed_here, put_by, tracks_due}
pub use Rattle.af_life.specs.Reports.{Case, by_report, first_told, no_retries_left, reports}
unfoldable pub use Rattle.af_life.specs.Reports.{told_by_report}
pub use Rattle.af_life.specs.Serves.{HasDueLooks, IsServed, LegalTrack, after_commands, is_found_shut, served_to}
unfoldable pub use Rattle.af_life.specs.Serves.{after_part, served}
pub use Rattle.af_life.specs.Turn.{GoesOn, after_edits, after_tracks}
unfoldable pub use Rattle.af_life.specs.Turn.{turn_after}
pub use Rattle.af_life.specs.TurnEvents.{command_events_of, command_list, front_by_room, going, hand_events_of, invalid, mix_events, mutator_list, number_seen, pipe_list, push_list, status_events, stream_list, takes_from, tracks_at}
pub use Rattle.af_life.specs.declared.kept.Holder.TheVariants.{Home, Lent, Returning}
pub use Rattle.af_life.specs.declared.kept.Setting.{Setting}
pub use Rattle.af_life.specs.declared.kept.TrackKept.{TrackKept}
pub use Rattle.af_model.proofs.Basics.{at_few, both_first, client_taken, hand_met, lawful_first}
pub use Rattle.af_model.specs.Cycles.{Listed, cycle_events, is_mixed, kept, takes_shown, tally}
pub use Rattle.af_model.specs.Draft.{initial}
pub use Rattle.af_model.specs.History.{IsLegal, Moment, after, by_client, by_hand, by_server, client_of, clients_at, hand_of, is_lawful, met_by, met_in, server_of, taken_of, with_taken}
pub use Rattle.af_model.specs.Journals.{EntrySeen, RoundSeen, slot_frames}
pub use Rattle.af_model.specs.Order.{Event, Legal, one, ones, two, twos}
pub use Rattle.af_model.specs.PipeHistory.{PipePoint, releases_of}
pub use Rattle.af_model.specs.Point.{ClientMay, HandMay, ServerMay, after_client, after_hand, after_server, start, wrapped}
pub use Rattle.af_model.specs.StateQueue.{QueuePoint, carries, slot_of}
pub use Rattle.af_model.specs.declared.point.TrackPoint.{TrackPoint}
pub use Rattle.af_model.specs.declared.shape.Shape.{Shape}
pub use Rattle.af_model.specs.declared.states.ObserverEvent.{ObserverEvent}
pub use Rattle.af_runs.specs.Blocks.{BlockTold, HasBlockHistory, IsHistoryAsTold, Marks, client_list, is_tame, listed, server_list}
pub use Rattle.af_runs.specs.ClientTurns.{Side, Track, after_call, after_calls, called, is_of_commands, released_by}
pub use Rattle.af_runs.specs.Clients.{ends}
pub use Rattle.af_runs.specs.Found.{LegalTurnBy, TurnFound, outside_of}
pub use Rattle.af_runs.specs.Rounds.{HaveHistories, LegalEntry, LegalTurnIn, loaded, turned}
pub use Rattle.af_runs.specs.Runs.{Run, TrackTold, calls_in, changed_from, each_track, fast_ended, found_before, observer_holds, mixed_pipe, mixed_track, new_run, next_report, no_track, played, client_side, sides_of, state_for, stream_met, takes_part, told_at, turned_track, with_looks}
unfoldable pub use Rattle.af_runs.specs.Runs.{met, with_ends, with_load, with_mix, with_poll, with_turn}
pub use Rattle.af_runs.specs.Sessions.{Session, cycle_frames, setup_of, track_count}
pub use Rattle.af_runs.specs.Told.{HasPipeTold, HasQueueHistory, HasReportHistory, IsPipeAsTold, IsQueueAsTold, IsReportAsTold, Item, PipeTold, QueueTold, ReportTold, items_of, observer_does, poll_events, state_at}
pub use Rattle.af_runs.specs.TurnRuns.{AreTurns, IsMadeBy, LegalAlone, SeesAllBefore, calls_alone, cycle_alone, made_alone, met_alone, turn_alone}
pub use Rattle.af_script.specs.declared.op.TurnSpec.{TurnSpec}
pub use Rattle.std.proofs.lemmas.Bool.{cases_eq, cases_lt}
pub use Rattle.std.proofs.lemmas.Grind.{fold-append, get_or-set_at}
pub use Rattle.std.proofs.lemmas.List.{drop_at, get_or_past, length-replicate, same_from_push}
pub use Rattle.std.specs.List.{find, flat_map, list_any, range_with_len}
pub use Rattle.std.specs.Prelude.{slice_index_or, slice_set}
