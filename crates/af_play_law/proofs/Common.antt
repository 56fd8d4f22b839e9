-- The names of other crates that the proofs of this one cite, passed on from one place. Declares nothing.
pub use Rattle.af_audit.proofs.DoneTracks.{IsDone}
pub use Rattle.af_audit.proofs.LateRuns.{FirstLate, carried_some, shown_carried}
pub use Rattle.af_audit.proofs.MixerEnds.{EndsHome, all_home, new_ends, turn_ends}
pub use Rattle.af_base.proofs.Basics.{and_none, at_seam, beyond_is, either, no, or_right, some_at, zip_long}
pub use Rattle.af_base.specs.Log.{Logged, count_seen, entry_slot, slots}
pub use Rattle.af_base.specs.Sample.{packed_word}
pub use Rattle.af_base.specs.Turn.{Turn, turn_of}
pub use Rattle.af_base.specs.declared.event.ClientCall.{ClientCall}
pub use Rattle.af_base.specs.declared.event.ClientEvent.{ClientEvent}
pub use Rattle.af_base.specs.declared.event.ServerEvent.{ServerEvent}
pub use Rattle.af_base.specs.declared.frame.Frame.{Frame}
pub use Rattle.af_base.specs.declared.log.Cycle.{Cycle}
pub use Rattle.af_base.specs.declared.log.CycleEntry.{CycleEntry}
pub use Rattle.af_base.specs.declared.report.Report.{Report}
pub use Rattle.af_base.specs.declared.seen.Seen.{Seen}
pub use Rattle.af_base.specs.declared.state.FastState.{FastState}
pub use Rattle.af_cblk.specs.Rule.{StartsWith}
pub use Rattle.af_cblk.specs.Sides.{Made, client_made}
pub use Rattle.af_engine.specs.Met.{EndsMet, item_at}
pub use Rattle.af_enough_law.proofs.Basics.{ends_normal, not_over, stays_home, taken-append}
pub use Rattle.af_enough_law.proofs.FewerMarks.{legal_for_less}
pub use Rattle.af_enough_law.proofs.Standing.{learnt_before, ones_swap, swap, swap_order, twos_swap}
pub use Rattle.af_enough_law.specs.Seen.{Stands, frames_taken}
pub use Rattle.af_fast.specs.Mixer.{IsInOrder, MixerState, adopted_states, is_over}
pub use Rattle.af_fast.specs.Mixing.{AddsCycle, Adopts, MixesOnce, Takes}
pub use Rattle.af_judge.proofs.Basics.{each_at, each_long, met_many, met_normal, or_left, shape_met, told_each}
pub use Rattle.af_judge.proofs.BlocksMeet.{met_at}
pub use Rattle.af_judge.proofs.Carried.{carried_new, carried_turn, draft_stays}
pub use Rattle.af_judge.proofs.StatesRuns.{after_same, before_same}
pub use Rattle.af_judge.specs.StatesKept.{Carried, CarriesBy, IsLent}
pub use Rattle.af_latest.specs.Laws.{last_of, stores}
pub use Rattle.af_life.proofs.Lives.{acked_len, not_yet, turn_len}
pub use Rattle.af_life.specs.Edits.{after_ack, commands_exit}
unfoldable pub use Rattle.af_life.specs.Edits.{next_command}
pub use Rattle.af_life.specs.Heard.{learnt}
pub use Rattle.af_life.specs.Kept.{Learnt, NormalKept, Outside, Setup, is_home, is_lent, number_of, pipe_size, plays, slot_number, track_at}
pub use Rattle.af_life.specs.Turn.{after_edits, turn_after}
pub use Rattle.af_life.specs.TurnEvents.{front_by_room, going, hand_events_of, mutator_list, number_seen, push_list, stream_list, tracks_at}
pub use Rattle.af_life.specs.declared.kept.Setting.{Setting}
pub use Rattle.af_life.specs.declared.kept.TrackKept.{TrackKept}
pub use Rattle.af_link.specs.PipeEnds.{OutSide, SeesTaken}
pub use Rattle.af_link.specs.Reports.{ReaderSide}
pub use Rattle.af_link.specs.declared.links.Links.{Links}
pub use Rattle.af_link.specs.declared.names.StreamNames.{StreamNames}
pub use Rattle.af_model.proofs.Orders.{add_one, add_two}
pub use Rattle.af_model.proofs.Splits.{legal_at, ones_append, split_at}
pub use Rattle.af_model.proofs.UsedStates.{has_exit-push, last_used-push}
pub use Rattle.af_model.specs.Cycles.{Mixes, cold_done, cycle_by, cycle_of, has_exit, is_mixed, last_used, place_of, state_of, taken_before, takes_shown}
pub use Rattle.af_model.specs.History.{is_lawful}
pub use Rattle.af_model.specs.Journals.{EntrySeen, RoundSeen, entries_seen}
unfoldable pub use Rattle.af_model.specs.Journals.{taken_by}
pub use Rattle.af_model.specs.Order.{Event, Legal, point_after, one, ones, two, twos}
pub use Rattle.af_model.specs.PipeHistory.{HasPipeHistory, PipePoint, releases_of, room_by}
pub use Rattle.af_model.specs.Reports.{ServerKnown, counted_look, no_report, no_slot, report_at}
pub use Rattle.af_model.specs.StateQueue.{AreOf, HasStateHistory, MutatorPoint, ObserverPoint, QueuePoint, carries, legal, mutated, mutator_next, mutator_start, next, observed, observer_next, observer_start, slot_of, start_of_queue}
pub use Rattle.af_model.specs.declared.newest.ReaderEvent.{ReaderEvent}
pub use Rattle.af_model.specs.declared.newest.ReaderEvent.TheVariants.{Load}
pub use Rattle.af_model.specs.declared.newest.WriterEvent.{WriterEvent}
pub use Rattle.af_model.specs.declared.newest.WriterEvent.TheVariants.{Store}
pub use Rattle.af_model.specs.declared.plain_calls.Poll.{Poll}
pub use Rattle.af_model.specs.declared.plain_calls.Poll.TheVariants.{New, Nothing, Same}
pub use Rattle.af_model.specs.declared.shape.Shape.{Shape}
pub use Rattle.af_model.specs.declared.states.MutatorEvent.{MutatorEvent}
pub use Rattle.af_model.specs.declared.states.MutatorEvent.TheVariants.{Push, SawAck}
pub use Rattle.af_model.specs.declared.states.ObserverEvent.{ObserverEvent}
pub use Rattle.af_model.specs.declared.states.ObserverEvent.TheVariants.{Ack, SawNext}
pub use Rattle.af_normal.specs.LegalTurned.{IsLegal}
pub use Rattle.af_normal.specs.Mixing.{stream_at}
pub use Rattle.af_normal.specs.State.{NormalState, kept_of}
pub use Rattle.af_normal.specs.TurnMade.{TurnMade, answer_of}
pub use Rattle.af_party.specs.Parties.{PartyState, track_of}
pub use Rattle.af_told_law.proofs.QueueSeen.{SawUpTo, few_acked, few_seen}
pub use Rattle.af_told_law.proofs.Quiet.{turn_quiet}
pub use Rattle.af_told_law.specs.Leads.{HasLearnt, InStep, LeadAway, Leads}
pub use Rattle.af_runs.proofs.Basics.{calls-entries, cycle_entries, shown_if}
pub use Rattle.af_runs.proofs.RunGrows.{AreFewer}
pub use Rattle.af_runs.specs.Blocks.{BlockTold, Marks, client_list, hand_does, is_tame, listed, server_list}
pub use Rattle.af_runs.specs.ClientTurns.{LegalClientTurn, Track, after_calls}
pub use Rattle.af_runs.specs.Clients.{ends}
pub use Rattle.af_runs.specs.Found.{LegalTurnBy, TurnFound, outside_of}
pub use Rattle.af_runs.specs.LegalRuns.{LegalRounds, marks_of, run_from, session_of}
pub use Rattle.af_runs.specs.Rounds.{AreLegalTurns, AreMixedBut, IsFastTurn, LegalEntries, LegalEntry, LegalFastTurn, LegalNormalTurn, MayFollow, after_round, after_turn, all_played, before_turn, early_count, early_of, fills, found_in, is_early, late_of, loaded, met_after, turned}
pub use Rattle.af_runs.specs.Runs.{Run, TrackTold, all_ended, called_in_turn, calls_in, changed_from, each_track, fast_ended, fast_party, has_ended, observer_holds, known_of, last_report, load_of, mixed_track, new_run, next_report, next_slot, no_track, pipe_cells, played, report_of, sides_of, slot_playing, state_for, stream_met, stream_of, takes_part, told_at, turned_track, with_cycle, with_cycles, with_looks}
unfoldable pub use Rattle.af_runs.specs.Runs.{met, with_calls, with_ends, with_load, with_mix, with_poll, with_turn}
pub use Rattle.af_runs.specs.Sessions.{Session, cycle_frames, script_setup, setup_of, track_count}
pub use Rattle.af_runs.specs.Told.{ReportTold, is_look_at, is_pushed, report_met, state_at}
pub use Rattle.af_runs.specs.TurnRuns.{calls_alone}
pub use Rattle.af_server.specs.Order.{ServerState}
pub use Rattle.af_session.proofs.FollowingRounds.{ends_keep}
pub use Rattle.af_session.specs.Rounds.{ClientTurned, file_at, ops_at}
pub use Rattle.af_session.specs.Together.{AreTogether, SessionState}
pub use Rattle.af_side_by_side.specs.Alone.{CyclesOn, CyclesOnce, FastTurned, most_cycles}
pub use Rattle.af_side_by_side.specs.SideBySide.{ClientPlayed, TurnPlayed}
pub use Rattle.af_stateq.specs.Answers.{TakesIt, WasPolled, sees_same}
pub use Rattle.af_stateq.specs.Ends.{Polls, Pushes, acknowledged, took}
pub use Rattle.af_stateq.specs.Laws.{is_push}
pub use Rattle.af_stateq.specs.Observes.{Observes}
pub use Rattle.af_told_law.proofs.Basics.{commands_stay, met_deed, no_exit, own_met, same_last}
pub use Rattle.af_told_law.proofs.KnownSteps.{Quiet, known_new, known_same, quiet_ends, quiet_met, quiet_then, report_ends}
pub use Rattle.af_told_law.proofs.MarkedRuns.{new_marked, round_marked}
pub use Rattle.af_told_law.proofs.NewTold.{new_told, no_deeds}
pub use Rattle.af_told_law.proofs.QueueLooks.{IsSane, history_sane, point_of}
pub use Rattle.af_told_law.proofs.TameRuns.{met_marked, small_told}
pub use Rattle.af_told_law.specs.Between.{IsQuiet, StandsBefore, StandsBetween}
pub use Rattle.af_told_law.specs.Deeds.{Deeds, GoOn, SawOwnBy, SawOwnOf, commands_by, done_on, stream_by}
pub use Rattle.af_told_law.proofs.AllMeet.{MetTold}
pub use Rattle.af_told_law.proofs.TrackMeets.{deeds_met}
pub use Rattle.af_told_law.specs.Marked.{IsMarkedRun, IsRoundMarked, IsTrackMarked}
pub use Rattle.af_told_law.specs.MixLaws.{TookCounted, entry_told}
pub use Rattle.af_told_law.specs.NormalLaws.{FindsBlocks, HeardAlike, PartsTold, ShowsFront, TurnShown, did_by}
pub use Rattle.af_told_law.specs.QueueTurned.{QueueKnown, ReportMet}
pub use Rattle.af_told_law.specs.Sizes.{IsSmallRun, IsTrackSmall}
pub use Rattle.af_told_law.specs.Tells.{Leaves, Tells, TellsServer, TellsStream, TellsTrack, given_of, held_slot, items_sent, mutated_by, reports_stored}
pub use Rattle.af_told_law.proofs.PollNew.{FindsLast}
pub use Rattle.af_turn_law.proofs.Basics.{tame_met}
pub use Rattle.std.proofs.Math.Seq.{drop-append_seam}
pub use Rattle.std.proofs.lemmas.Bool.{and_from, and_parts, cases_eq, cases_lt, eq-eqb, eqb-true, false_from_ne_true, leb-false, leb-true, ne_eqb}
pub use Rattle.std.proofs.lemmas.List.{append_cancel_left, length-drop, length-map, length-take, map-append, take-append-drop}
pub use Rattle.std.proofs.lemmas.List.Sums.{fold-append}
pub use Rattle.std.proofs.lemmas.Option.{none-some, same_Some, slice_get_within}
pub use Rattle.std.specs.Bool.{MatchBool}
pub use Rattle.std.specs.List.{AllByRecursion, AllZip, list_all, list_any, prefix_len, range_with_len}
pub use Rattle.std.specs.Prelude.{MatchOption, max, min, slice_get, slice_index_or, unwrap_or}
