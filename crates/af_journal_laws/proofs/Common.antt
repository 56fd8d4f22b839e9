-- The names of other crates that the proofs of this one cite, passed on from one place. Declares nothing.
pub use Rattle.af_audit.proofs.CommandRounds.{CommandsAt, CommandsSo, at_more, called_so, ends_at, loaded_at, met_at_so, turn_at}
pub use Rattle.af_audit.proofs.EntryParts.{legal_parts}
pub use Rattle.af_audit.proofs.FatesTold.{fates_told, new_history, new_there, normal_ended, told_new}
pub use Rattle.af_audit.proofs.FewRounds.{HasFew, each_few, ends_have, load_has, met_has, mix_has, told_flushes, turn_has}
pub use Rattle.af_audit.proofs.Growing.{grows_ends, grows_loaded, grows_met, grows_mix, grows_turned, run_told, track_told}
pub use Rattle.af_audit.proofs.Grown.{Grows, RunGrows, TrackGrows, called_grows, each_grows, ends_grow, grows_twice, load_grows, meet_grows, mix_grows, rounds_grow, run_none, run_twice, track_none, turn_grows}
pub use Rattle.af_audit.proofs.Heard.{TellsSo, from_played, heard_low, heard_told, new_tells, tells_round}
pub use Rattle.af_audit.proofs.Measure.{Measure, of_run}
pub use Rattle.af_audit.proofs.RearsSeen.{server_unshut}
pub use Rattle.af_audit.proofs.SentTold.{commands_at}
pub use Rattle.af_audit.proofs.SettledRounds.{flushes, new_settles}
pub use Rattle.af_audit.proofs.SidesKept.{fit_called, played_many, sides_mixed, sides_turned}
pub use Rattle.af_audit.proofs.SparedTold.{ends_many, new_fit, new_trim}
pub use Rattle.af_audit.proofs.StopSent.{SentSo, stop_sent}
pub use Rattle.af_audit.proofs.TakenRecorded.{recorded_in, taken_met}
pub use Rattle.af_audit.proofs.TrackStands.{TrackStands, hand-server, server-server, stands_called, stands_ended, stands_met, stands_mixed, stands_turned, told_more}
pub use Rattle.af_audit.proofs.TrackUnshut.{IsTrim, IsUnshut, block_on, trim_called, trim_ended, trim_met, trim_mixed, trim_turned, unshut_called, unshut_ended, unshut_met, unshut_mixed, unshut_turned}
pub use Rattle.af_audit.proofs.TracksSeen.{seen_legal, track_legal}
pub use Rattle.af_audit.specs.Drained.{HasReachedStop, Sent, consumed_of, says_drained, sent_by_all, sent_in}
pub use Rattle.af_audit.specs.Fates.{DropsByFlush, HasFates, recorded, recorded_by, recorded_by_all, recorded_by_turn}
pub use Rattle.af_audit.specs.RunKept.{IsFit}
pub use Rattle.af_audit.specs.Spared.{IsSpared, IsSparedIn, is_spared_by, is_spared_by_all, is_spared_by_turn, is_spared_in_turn, none_corrupt_on}
pub use Rattle.af_base.proofs.Basics.{both_true, neither, no, or_assoc}
pub use Rattle.af_base.specs.Log.{entry_slot}
pub use Rattle.af_base.specs.Turn.{TakeSeen, TrackSeen, Turn}
pub use Rattle.af_base.specs.declared.event.ClientCall.{ClientCall}
pub use Rattle.af_base.specs.declared.event.ClientEvent.{ClientEvent}
pub use Rattle.af_base.specs.declared.event.HandEvent.{HandEvent}
pub use Rattle.af_base.specs.declared.event.ServerEvent.{ServerEvent}
pub use Rattle.af_base.specs.declared.frame.Frame.{Frame}
pub use Rattle.af_base.specs.declared.state.FastState.{FastState}
pub use Rattle.af_judge.proofs.Basics.{each_at, each_long, met_many, or_left, shape_met, told_each}
pub use Rattle.af_judge.proofs.BlocksMeet.{met_at, track_spelled}
pub use Rattle.af_judge.proofs.EntriesFollow.{cycles_beside}
pub use Rattle.af_judge.proofs.TracksTold.{sides_called}
pub use Rattle.af_judge.specs.Tracks.{AreSpelled, IsSpelled}
pub use Rattle.af_life.specs.Drained.{LifeStep, StoppedAt, most_heard}
pub use Rattle.af_life.proofs.Words.{IsDrainedBy}
pub use Rattle.af_life.specs.Heard.{heard, learnt, ready, slot_reported}
pub use Rattle.af_life.specs.Kept.{Learnt, NormalKept, Outside, Setup, asked, is_home, nothing_seen, slot_number, track_at, track_in}
pub use Rattle.af_life.specs.Looks.{all_command_events, command_events, did, takes_command, words_taken}
pub use Rattle.af_life.specs.Obeys.{is_shut, shows_command}
pub use Rattle.af_life.specs.Turn.{LegalTurn, turn_after}
pub use Rattle.af_life.specs.TurnEvents.{command_events_of, command_list, going, invalid, mix_events, status_events, stream_list, takes_from, tracks_at}
pub use Rattle.af_life.specs.declared.kept.TrackKept.{TrackKept}
pub use Rattle.af_model.proofs.Basics.{both_first, not_true}
pub use Rattle.af_model.proofs.Logic.{both_right}
pub use Rattle.af_model.proofs.RoomKept.{AllFit, AllFollowRear, all_fit, fit_split, never_corrupt, never_shut, rear_split, sees_in}
pub use Rattle.af_model.specs.ClientCalls.{ClientAnswers, client_begins, client_call_events, client_kept}
pub use Rattle.af_model.specs.Cycles.{Listed, LooksBy, events_behind_look, cycle_events, kept, tally}
pub use Rattle.af_model.specs.History.{IsLegal, Moment, after, by_client, by_hand, by_server, client_of, flushes_of, hand_of, server_of}
pub use Rattle.af_model.specs.JournalForm.{IsRound, IsTurn, TracksRise}
pub use Rattle.af_model.specs.Journals.{EntrySeen, JournalData, RoundSeen, slot_frames}
pub use Rattle.af_model.specs.Point.{ClientMay, after_client, after_hand, after_server, start}
pub use Rattle.af_model.specs.ServerCalls.{ServerKept, drops_of, look_events, server_begins, server_keeps, server_kept}
pub use Rattle.af_model.specs.declared.shape.Shape.{Shape}
pub use Rattle.af_runs.specs.Blocks.{BlockTold, HasBlockHistory, Marks, client_does, client_list, hand_list, is_tame, listed, meets, server_list}
pub use Rattle.af_runs.specs.ClientTurns.{AnswersOn, AreCalls, IsMade, LegalClientTurn, Side, Track, after_call, after_calls, asked_by, is_of_commands, most_calls, released_by}
pub use Rattle.af_runs.specs.Clients.{ends, state_in}
pub use Rattle.af_runs.specs.Found.{LegalTurnBy, TurnFound, outside_of}
pub use Rattle.af_runs.specs.LegalRuns.{HasLegalRounds, IsLegalRun, LegalRounds, is_lawful_block, is_lawful_track, is_poke_on, marks_of, run_from, run_of, session_of}
pub use Rattle.af_runs.specs.Rounds.{LegalEntries, LegalEntry, LegalRound, after_round, after_turn, all_played, before_turn, early_of, fills, found_in, late_of, loaded, met_after, turned}
pub use Rattle.af_runs.specs.Runs.{Run, TrackTold, called_in_turn, calls_in, each_track, fast_ended, found_before, observer_holds, load_of, mixed_track, new_run, no_track, played, client_side, sides_of, slot_playing, state_for, stream_met, takes_part, told_at, track_met, turned_track, with_cycle, with_cycles}
unfoldable pub use Rattle.af_runs.specs.Runs.{met, with_calls, with_ends, with_load, with_mix, with_poll, with_turn}
pub use Rattle.af_runs.specs.Sessions.{Session, command_shape, cycle_frames, file_words, setup_of, spec_of, stream_shape, track_count}
pub use Rattle.af_runs.specs.TurnRuns.{AreTurns, IsMadeBy, IsTurnRun, LegalAlone, OnlyCalls, SeesAllBefore, calls_alone, cycle_alone, made_alone, met_alone, run_alone}
pub use Rattle.af_script.specs.Data.{ScriptData}
pub use Rattle.af_script.specs.Form.{IsScript}
pub use Rattle.af_script.specs.declared.op.TurnSpec.{TurnSpec}
pub use Rattle.std.proofs.lemmas.Bool.Decides.{nat_tests}
pub use Rattle.std.proofs.lemmas.List.Elements.{All-cons, All-head, All-nil, All-tail}
pub use Rattle.std.specs.List.{list_all, list_any}
pub use Rattle.std.specs.Prelude.{MatchBool, MatchOption, [], bit_and, bit_or}
