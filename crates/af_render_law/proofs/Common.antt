-- The names of other crates that the proofs of this one cite, passed on from one place. Declares nothing.
pub use Rattle.af_audit.proofs.SidesKept.{sides_mixed, sides_turned}
pub use Rattle.af_audit.proofs.TrackStands.{hand-server, server-server, told_more}
pub use Rattle.af_audit.proofs.TrackUnshut.{IsTrim, IsUnshut, trim_called, trim_ended, trim_met, trim_mixed, trim_turned, unshut_mixed}
pub use Rattle.af_base.proofs.Basics.{neither, never_true, no, none_and, some_at}
pub use Rattle.af_base.specs.Log.{Logged, absent, entry_slot, slots}
pub use Rattle.af_base.specs.Turn.{TakeSeen, TrackSeen, Turn, turn_of}
pub use Rattle.af_base.specs.declared.event.ClientCall.{ClientCall}
pub use Rattle.af_base.specs.declared.event.ClientEvent.{ClientEvent}
pub use Rattle.af_base.specs.declared.event.HandEvent.{HandEvent}
pub use Rattle.af_base.specs.declared.event.ServerEvent.{ServerEvent}
pub use Rattle.af_base.specs.declared.frame.Frame.{Frame}
pub use Rattle.af_base.specs.declared.log.Cycle.{Cycle}
pub use Rattle.af_base.specs.declared.log.CycleEntry.{CycleEntry}
pub use Rattle.af_base.specs.declared.log.SlotEntry.{SlotEntry}
pub use Rattle.af_base.specs.declared.state.FastState.{FastState}
pub use Rattle.af_base.specs.declared.turn.CommandLook.{CommandLook}
pub use Rattle.af_cblk.specs.Sides.{HandSide, Made, client_made}
pub use Rattle.af_cblk.specs.declared.view.ClientPart.{ClientPart}
pub use Rattle.af_client.specs.Order.{ClientState}
pub use Rattle.af_engine.specs.Met.{MeetsAway, Spot, SpotMet, item_at, proxies_of, slot_for, spot_of}
pub use Rattle.af_fast.specs.Mixer.{IsInOrder, MixerState, is_over}
pub use Rattle.af_judge.proofs.Basics.{each_long, met_many, push_tracks, report_ends, told_each}
pub use Rattle.af_judge.proofs.BlocksTold.{client-client, client-hand, client-server, server-client}
pub use Rattle.af_life.proofs.SoundLives.{Grew, grew_command, grew_report, is_absent, opened}
pub use Rattle.af_life.proofs.SoundTurns.{Sound, sound_acked}
pub use Rattle.af_life.specs.Edits.{after_ack, after_push, comes_home, edited_to, must_enter, must_leave}
unfoldable pub use Rattle.af_life.specs.Edits.{edited, lend, let_go, mutated, ordered, welcomed}
pub use Rattle.af_life.specs.Heard.{heard, is_reached, is_reported, learnt, ready, slot_reported}
unfoldable pub use Rattle.af_life.specs.Heard.{noted, settled_at}
pub use Rattle.af_life.specs.Kept.{Learnt, NormalKept, Outside, Setup, asked, is_home, nothing_seen, number_of, pipe_size, plays, seen_at, track_at, track_in}
pub use Rattle.af_life.specs.Obeys.{after_looks, are_due, commanded, ended, goes_on, is_shut, must_wait, opens, shows_command, told}
unfoldable pub use Rattle.af_life.specs.Obeys.{after_look, obeyed}
pub use Rattle.af_life.specs.Plays.{after_take, after_takes, is_mixed_here, mixed_here, put_by, tracks_due}
pub use Rattle.af_life.specs.Reports.{Case, reports}
unfoldable pub use Rattle.af_life.specs.Reports.{by_report}
pub use Rattle.af_life.specs.Serves.{IsServed, LegalTrack, after_commands, is_found_shut, most_looks, served_to}
unfoldable pub use Rattle.af_life.specs.Serves.{after_part, served}
pub use Rattle.af_life.specs.Turn.{GoesOn, LegalTurn, after_edits, after_tracks}
unfoldable pub use Rattle.af_life.specs.Turn.{turn_after}
pub use Rattle.af_life.specs.TurnEvents.{going, hand_events_of, invalid, mix_events, stream_list, takes_from, tracks_at}
pub use Rattle.af_life.specs.declared.kept.Heard.{Heard}
pub use Rattle.af_life.specs.declared.kept.Setting.{Setting}
pub use Rattle.af_life.specs.declared.kept.TrackKept.{TrackKept}
pub use Rattle.af_life.specs.declared.track.Life.{Life}
pub use Rattle.af_link.specs.declared.links.Links.{Links}
pub use Rattle.af_link.specs.declared.names.StreamNames.{StreamNames}
pub use Rattle.af_model.proofs.Basics.{both_first, lawful_first}
pub use Rattle.af_model.specs.Cycles.{Listed, LooksBy, cycle_events, cycle_of, is_mixed, kept, state_of, still_entry, tally}
pub use Rattle.af_model.specs.History.{Moment, after, by_client, by_hand, by_server, client_of, hand_of, is_lawful, server_of}
pub use Rattle.af_model.specs.JournalForm.{TracksRise}
pub use Rattle.af_model.specs.Journals.{EntrySeen, JournalData, RoundNoted, RoundSeen, cycles_of, entries_of, entries_seen, frames_of, journal_of, rounds_seen}
unfoldable pub use Rattle.af_model.specs.Journals.{taken_by}
pub use Rattle.af_model.specs.ServerCalls.{ServerKept, drops_of, look_events, server_begins, server_keeps, server_kept}
pub use Rattle.af_model.specs.StateQueue.{HasStateHistory, carries, observed, slot_of}
pub use Rattle.af_model.specs.declared.newest.ReaderEvent.TheVariants.{Load}
pub use Rattle.af_model.specs.declared.shape.Shape.{Shape}
pub use Rattle.af_normal.specs.LegalTurned.{IsLegal, hand_events}
pub use Rattle.af_normal.specs.Mixing.{stream_at}
pub use Rattle.af_normal.specs.State.{NormalState, kept_of}
pub use Rattle.af_normal.specs.TurnMade.{TurnMade, answer_of}
pub use Rattle.af_party.specs.Parties.{PartyState}
pub use Rattle.af_told_law.proofs.MetOpen.{clients_ended}
pub use Rattle.af_told_law.proofs.QueueSteps.{Finds, finds, finds_none, learnt_by, step_met, tells_met}
pub use Rattle.af_told_law.proofs.Quiet.{turn_quiet}
pub use Rattle.af_rendering.proofs.RoundForms.{round_notes}
pub use Rattle.af_rendering.specs.Alone.{shown_from, summary_by}
pub use Rattle.af_told_law.specs.Leads.{InStep, LeadAway, LeadLent, Leads}
pub use Rattle.af_rendering.specs.Rendered.{HandsBack, Renders}
pub use Rattle.af_runs.specs.Blocks.{BlockTold, HasBlockHistory, Marks, client_list, is_tame, listed, meets, server_list}
pub use Rattle.af_runs.specs.ClientTurns.{LegalClientTurn, Side, Track, after_calls}
pub use Rattle.af_runs.specs.Clients.{ends}
pub use Rattle.af_runs.specs.Found.{LegalTurnBy, TurnFound, outside_of}
pub use Rattle.af_runs.specs.Fronts.{front_of, is_shown}
pub use Rattle.af_runs.specs.LegalRuns.{marks_of, session_of}
pub use Rattle.af_runs.specs.Rounds.{HaveHistories, LegalEntry, LegalTurnIn, loaded, turned}
pub use Rattle.af_runs.specs.Runs.{Run, TrackTold, called_in_turn, calls_in, changed_from, each_track, fast_ended, found_before, mixed_track, new_run, new_told_track, no_track, pipe_cells, played, report_of, client_side, sides_of, state_for, stream_met, takes_part, told_at, track_met, turned_track, with_side}
unfoldable pub use Rattle.af_runs.specs.Runs.{met, with_ends, with_load, with_mix, with_poll, with_turn}
pub use Rattle.af_runs.specs.Sessions.{Session, cycle_frames, no_spec, setup_of, track_count}
pub use Rattle.af_runs.specs.TurnRuns.{AreTurns, IsMadeBy, IsTurnRun, LegalAlone, OnlyCalls, calls_alone, cycle_alone, made_alone, met_alone, run_alone, turn_alone}
pub use Rattle.af_script.specs.Data.{ScriptData}
pub use Rattle.af_script.specs.Form.{IsScript, IsTrack, IsTurn}
pub use Rattle.af_script.specs.Ops.{fast_cycles}
pub use Rattle.af_script.specs.declared.op.TurnSpec.{TurnSpec}
pub use Rattle.af_server.specs.Order.{ServerState}
pub use Rattle.af_session.proofs.FollowingRounds.{ends_keep}
pub use Rattle.af_session.specs.Ends.{EndsState, ends_from}
pub use Rattle.af_session.specs.FastTurns.{IsCycle, IsFastTurn, WritesCycle}
pub use Rattle.af_session.specs.Met.{Met}
pub use Rattle.af_session.specs.Rounds.{ClientTurned, Given, IsRound, NormalTurned, client_round, fast_round, no_calls, normal_round, still_round}
pub use Rattle.af_session.specs.Shown.{released_by, shown_by, shows, summary_told}
pub use Rattle.af_session.specs.Together.{AreTogether, SessionState}
pub use Rattle.af_stateq.specs.Ends.{Polls, Pushes}
pub use Rattle.af_stateq.specs.Observes.{Observes}
pub use Rattle.af_told_law.proofs.Basics.{met_deed, own_join, own_met, same_last}
pub use Rattle.af_told_law.proofs.FastForm.{AreTurn, form_seen, mixed_entry}
pub use Rattle.af_told_law.proofs.FastGrows.{adds, frames_grow, frames_more, one_more, same_frames, still_on, still_room, still_runs, taken, taken_long}
pub use Rattle.af_told_law.proofs.KnownSteps.{Quiet, known_new, known_same, quiet_calls, quiet_cycles, quiet_ends, quiet_met, quiet_then}
pub use Rattle.af_told_law.proofs.LogMore.{GrowsBy, all_asked, asked_by, entries_grown, round_grows, run_grows}
pub use Rattle.af_told_law.proofs.MarkedRuns.{AreRoundsMarked, marks_free, new_marked, round_marked}
pub use Rattle.af_told_law.proofs.MeetsShow.{AreSmall, SawOwn, SeesOwn, meetings_show}
pub use Rattle.af_told_law.proofs.PartsTold.{parts_told}
pub use Rattle.af_told_law.proofs.SlotHeld.{found_carries, is_held}
pub use Rattle.af_told_law.proofs.SmallRuns.{new_small, round_small}
pub use Rattle.af_told_law.proofs.TameRuns.{met_marked, mix_marked, poll_marked, small_told}
pub use Rattle.af_told_law.specs.Between.{IsQuiet, StandsBefore, StandsBetween}
pub use Rattle.af_told_law.specs.Deeds.{Deeds, SawOwnBy, SawOwnOf, done_on, stream_by}
pub use Rattle.af_told_law.proofs.EndsKept.{tame_marks}
pub use Rattle.af_told_law.proofs.AllMeet.{MetTold}
pub use Rattle.af_told_law.proofs.TrackMeets.{deeds_met}
pub use Rattle.af_told_law.specs.Marked.{IsMarkedRun, IsRoundMarked}
pub use Rattle.af_told_law.specs.MixLaws.{MixesAreTold, entry_told}
pub use Rattle.af_told_law.specs.NormalLaws.{HearsFound, PartsAreTold, PartsTold, ShowsFront, TurnShown, did_by}
pub use Rattle.af_told_law.specs.QueueTurned.{QueueKnown, ReportMet}
pub use Rattle.af_told_law.specs.Sizes.{IsSmallRun}
pub use Rattle.af_told_law.specs.Tells.{Leaves, Tells, TellsServer, given_of, held_slot}
pub use Rattle.af_turn_law.proofs.RunBegins.{forced_run, turns_new}
pub use Rattle.af_turn_law.proofs.RunPolls.{AllFind, all_find, pushed_in, same_current}
pub use Rattle.af_turn_law.specs.Acting.{FindsShutUnseen, SawNoInvalid, SeesNoInvalid}
pub use Rattle.af_turn_law.proofs.TurnActs.{ActsWhereMet}
pub use Rattle.af_turn_law.specs.ListTurns.{AreListTurns, FindShutUnseen}
pub use Rattle.std.proofs.Math.Seq.{drop-append_seam}
pub use Rattle.std.proofs.lemmas.Bool.{MatchBool-at_false, MatchBool-at_true, cases_eq}
pub use Rattle.std.proofs.lemmas.Grind.{fold-append, get_or-set_at}
pub use Rattle.std.proofs.lemmas.List.{get_or-replicate, get_or-set_other, length-append, length-map, length-replicate, length-take}
pub use Rattle.std.proofs.lemmas.List.Elements.{All-append, All-cons, All-get_or, All-head, All-nil, All-push, All-tail, All-take, filter_passes, recursion_from_All}
pub use Rattle.std.proofs.lemmas.Option.{get_or_from_slice_get, none-some, same_Some, slice_get_within}
pub use Rattle.std.specs.List.{AllByRecursion, find, flat_map, list_any, range_with_len}
pub use Rattle.std.specs.Prelude.{All, List, Some, drop, false, length, slice_get, slice_index_or, slice_set, ℕ}
