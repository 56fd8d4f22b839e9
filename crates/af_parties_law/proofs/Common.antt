-- The names of other crates that the proofs of this one cite, passed on from one place. Declares nothing.
pub use Rattle.af_audit.specs.Spared.{is_corrupt, none_corrupt}
pub use Rattle.af_base.proofs.Basics.{both_true, get_set_other, get_set_same}
pub use Rattle.af_base.specs.Log.{Logged, entry_slot, slots}
pub use Rattle.af_base.specs.Turn.{TakeSeen, TrackSeen, Turn, turn_of}
pub use Rattle.af_base.specs.declared.event.ClientCall.{ClientCall}
pub use Rattle.af_base.specs.declared.event.ClientEvent.{ClientEvent}
pub use Rattle.af_base.specs.declared.event.ServerEvent.{ServerEvent}
pub use Rattle.af_base.specs.declared.frame.Frame.{Frame}
pub use Rattle.af_base.specs.declared.log.Cycle.{Cycle}
pub use Rattle.af_base.specs.declared.log.CycleEntry.{CycleEntry}
pub use Rattle.af_base.specs.declared.log.SlotEntry.{SlotEntry}
pub use Rattle.af_base.specs.declared.state.FastState.{FastState}
pub use Rattle.af_base.specs.declared.state.Push.{Push}
pub use Rattle.af_base.specs.declared.state.Push.TheVariants.{Busy, Clean, Pushed}
pub use Rattle.af_base.specs.declared.turn.CommandLook.{CommandLook}
pub use Rattle.af_cblk.specs.Sides.{HandSide, Made, client_made, server_made}
pub use Rattle.af_cblk.specs.declared.view.ClientPart.{ClientPart}
pub use Rattle.af_client.proofs.Kept.{IsPoke, lawful_call}
pub use Rattle.af_client.specs.Order.{ClientState, client_kept_of}
pub use Rattle.af_engine.proofs.MetSlots.{only_slot, slot_is}
pub use Rattle.af_engine.specs.Met.{ItemStays, MeetsAway, Spot, SpotMet, is_slot_of, item_at, proxies_of, slot_for, spot_of}
pub use Rattle.af_engine.specs.Shares.{SharedState}
pub use Rattle.af_entry_law.proofs.ClientRuns.{Words, called_at, called_long, round_words, run_words, track_words, turn_words, words_after}
pub use Rattle.af_fast.specs.Mixer.{IsInOrder, MixerState, is_over}
pub use Rattle.af_fast.specs.Mixing.{AddsCycle, MixesOnce, Writes}
pub use Rattle.af_life.proofs.Lives.{acked_len, served_len}
pub use Rattle.af_life.proofs.SoundSlots.{sound_served}
pub use Rattle.af_life.proofs.SoundTurns.{sound_acked, sound_mutated}
pub use Rattle.af_life.specs.Edits.{LegalPush, after_ack, after_push}
pub use Rattle.af_life.specs.Heard.{heard, learnt}
pub use Rattle.af_life.specs.Kept.{NormalKept, Outside, Setup, asked, is_home, slot_number, track_at, track_in}
pub use Rattle.af_life.specs.Looks.{LegalLooks, all_command_events, as_slot, command_events, did, takes_command, words_taken}
pub use Rattle.af_life.specs.Obeys.{is_shut}
pub use Rattle.af_life.specs.Plays.{LegalTake, after_take, after_takes, is_mixed_here}
pub use Rattle.af_life.specs.Sound.{IsSound}
pub use Rattle.af_life.specs.Turn.{GoesOn, LegalTurn, after_edits, after_tracks}
unfoldable pub use Rattle.af_life.specs.Turn.{turn_after}
pub use Rattle.af_life.specs.TurnEvents.{command_events_of, command_list, going, invalid, mix_events, mutator_list, number_seen, push_list, status_events, stream_list, takes_from, tracks_at}
pub use Rattle.af_life.specs.declared.kept.TrackKept.{TrackKept}
pub use Rattle.af_link.specs.declared.links.Links.{Links}
pub use Rattle.af_link.specs.declared.names.StreamNames.{StreamNames}
pub use Rattle.af_model.proofs.Basics.{both_first, kept_more, lawful_first, not_true}
pub use Rattle.af_model.proofs.Logic.{both_right}
pub use Rattle.af_model.specs.ClientCalls.{ClientKept, client_begins, client_call_events, client_keeps, client_kept}
pub use Rattle.af_model.specs.Cycles.{Listed, LooksBy, cycle_events, events_behind_look, is_mixed, kept, last_used, state_of}
pub use Rattle.af_model.specs.History.{is_lawful}
pub use Rattle.af_model.specs.Journals.{EntrySeen, JournalData, RoundNoted, RoundSeen, RoundsNoted, cycles_of, entries_of, entries_seen, frames_of, journal_of, rounds_seen}
pub use Rattle.af_model.specs.ServerCalls.{ServerKept, is_noticed, look_at, look_events, server_keeps, server_kept}
pub use Rattle.af_model.specs.Spelled.{ClientStep, Kind, client_spells, client_step_events, commands, is_on, met_server, stream}
pub use Rattle.af_model.specs.StateQueue.{carries, slot_of}
pub use Rattle.af_model.specs.declared.shape.Shape.{Shape}
pub use Rattle.af_normal.proofs.OrderDone.{stays_all}
pub use Rattle.af_normal.specs.LegalTurned.{GoesOnFrom, IsLegal}
pub use Rattle.af_normal.specs.Meeting.{MeetsStream, client_knows}
pub use Rattle.af_normal.specs.Mixing.{stream_at}
pub use Rattle.af_normal.specs.State.{NormalState, kept_of, setup_of}
pub use Rattle.af_party.specs.Parties.{PartyState, track_of}
pub use Rattle.af_rendering.proofs.JournalSound.{dealt, same_entries}
pub use Rattle.af_rendering.specs.declared.rendering.Played.{Played}
pub use Rattle.af_runs.proofs.Basics.{absent_at}
pub use Rattle.af_runs.specs.Blocks.{Marks}
pub use Rattle.af_runs.specs.ClientTurns.{LegalClientTurn, Side, Track, after_call, after_calls, called, is_of_commands, with_call}
pub use Rattle.af_runs.specs.LegalRuns.{HasLegalRounds, LegalRounds, marks_of, run_from, run_of, session_of}
pub use Rattle.af_runs.specs.Runs.{Run, TrackTold, calls_in, new_run, new_told_track, pushed_by}
pub use Rattle.af_runs.specs.Sessions.{Session, file_words, script_setup, track_count}
pub use Rattle.af_script.specs.Data.{ScriptData}
pub use Rattle.af_script.specs.declared.op.TurnSpec.{TurnSpec}
pub use Rattle.af_server.specs.Order.{ServerState, server_kept_of}
pub use Rattle.af_server.specs.Slot.{listed}
pub use Rattle.af_session.proofs.FastAdds.{cycle_sizes, cycle_whole, polled_keeps}
pub use Rattle.af_session.proofs.Following.{shown_added, shown_adopted, shown_met, shown_still, uses_stay}
pub use Rattle.af_session.proofs.FollowingRounds.{calls_more, empty_at, ends_keep, no_call, shows_tracks, turns_more}
pub use Rattle.af_session.specs.Ends.{EndsState}
pub use Rattle.af_session.specs.FastTurns.{IsCycle, IsFastTurn, WritesCycle}
pub use Rattle.af_session.specs.Met.{Met, TrackMet}
pub use Rattle.af_session.specs.NewSession.{IsNewSession, tracks_of}
pub use Rattle.af_session.proofs.Words.{IsTrackAt}
pub use Rattle.af_session.specs.Rounds.{Given, IsRound, NormalTurned, fast_round, file_at, no_calls, normal_round, ops_at, still_round, with_ends}
pub use Rattle.af_session.specs.Shown.{calls_over, released_by, shown_at, shown_by, turn_in, use_of}
unfoldable pub use Rattle.af_session.specs.Shown.{shows}
pub use Rattle.af_session.specs.Together.{AreTogether, SessionState}
pub use Rattle.af_side_by_side.proofs.ReadyOfAll.{zip_at}
pub use Rattle.af_side_by_side.specs.Alone.{CyclesOn, CyclesOnce, FastTurned, most_cycles}
pub use Rattle.af_side_by_side.specs.SideBySide.{ClientPlayed, IsRoundOfAll, NormalPlayed, TurnPlayed, turn_noted}
pub use Rattle.af_stateq.specs.Ends.{Polls}
pub use Rattle.af_stateq.specs.Laws.{polled_states, pushed_states}
pub use Rattle.af_stateq.specs.Mutates.{at}
pub use Rattle.af_stateq.specs.Observes.{Observes}
pub use Rattle.af_tally.specs.Summaries.{EntryUsed, Shown, calls_of, entry_looks, has_no_poke, is_poke, slot_looks, summary_of, take_look, turn_looks}
unfoldable pub use Rattle.af_tally.specs.Summaries.{looks_by}
pub use Rattle.af_told_law.proofs.MetOpen.{clients_ended, clients_met}
pub use Rattle.af_told_law.proofs.NormalSteps.{all_push}
pub use Rattle.af_told_law.specs.KeptEnds.{KeepsLists}
pub use Rattle.std.proofs.lemmas.Bool.{and_from, and_parts, cases_eq, eqb-true}
pub use Rattle.std.proofs.lemmas.Grind.{fold-append}
pub use Rattle.std.proofs.lemmas.List.{get_or-set_other, get_or-set_same, length-map, length-replicate, map-append}
pub use Rattle.std.proofs.lemmas.List.Concat.{flat_map-cons}
pub use Rattle.std.proofs.lemmas.List.Folds.{list_all-append}
pub use Rattle.std.proofs.lemmas.List.FromFn.{fill_by_all, get_or-map-range_with_len, length-range_with_len, map-range_with_len_more}
pub use Rattle.std.proofs.lemmas.Option.{get_or_from_slice_get, none-some, same_Some, slice_get-get_or, slice_get-map, slice_get_cases, slice_get_within}
pub use Rattle.std.specs.Bool.{MatchBool}
pub use Rattle.std.specs.List.{AllByRecursion, flat_map, list_all, range_with_len}
pub use Rattle.std.specs.Prelude.{slice_index_or}
