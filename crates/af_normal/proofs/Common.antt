-- The names of other crates that the proofs of this one cite, passed on from one place. Declares nothing.
pub use Rattle.af_base.proofs.Basics.{and_none, and_true, at_last, both, both_true, by_bool, by_test, get_set_other, get_set_same, never_true, no, none_and, or_false, or_true, range_end, some_at, some_same, zero_is}
pub use Rattle.af_base.specs.Command.{code_of}
pub use Rattle.af_base.specs.Log.{absent, count_seen, slots}
pub use Rattle.af_base.specs.Mix.{Take, mix}
pub use Rattle.af_base.specs.Part.{no_part, take_of}
pub use Rattle.af_base.specs.Roomy.{Roomy}
pub use Rattle.af_base.specs.Sample.{packed_word}
pub use Rattle.af_base.specs.Turn.{TakeSeen, TrackSeen, Turn, ended_turn, take_seen, track_seen, turn_of}
pub use Rattle.af_base.specs.declared.event.HandEvent.{HandEvent}
pub use Rattle.af_base.specs.declared.event.ServerEvent.{ServerEvent}
pub use Rattle.af_base.specs.declared.frame.Frame.{Frame}
pub use Rattle.af_base.specs.declared.log.SlotEntry.{SlotEntry}
pub use Rattle.af_base.specs.declared.plain.Part.{Part}
pub use Rattle.af_base.specs.declared.report.Report.{Report}
pub use Rattle.af_base.specs.declared.report.SlotReport.{SlotReport}
pub use Rattle.af_base.specs.declared.seen.Seen.{Seen}
pub use Rattle.af_base.specs.declared.state.Command.{Command}
pub use Rattle.af_base.specs.declared.state.FastState.{FastState}
pub use Rattle.af_base.specs.declared.state.FastTrack.{FastTrack}
pub use Rattle.af_base.specs.declared.state.Push.{Push}
pub use Rattle.af_base.specs.declared.state.Push.TheVariants.{Busy, Clean, Pushed}
pub use Rattle.af_base.specs.declared.turn.CommandLook.{CommandLook}
pub use Rattle.af_base.specs.declared.turn.NormalTake.{NormalTake}
pub use Rattle.af_base.specs.declared.turn.TrackTurn.{TrackTurn}
pub use Rattle.af_base.specs.declared.turn.TurnEntry.{TurnEntry}
pub use Rattle.af_cblk.specs.Rule.{StartsWith}
pub use Rattle.af_cblk.specs.Sides.{HandSide, Made, client_made, hand_made, server_made}
pub use Rattle.af_client.specs.Order.{ClientState, IsClientOf}
pub use Rattle.af_life.proofs.Basics.{at_here, at_new, at_other, at_set, away_holds, due_len, inside, out_of, returning_away, scale_fits, set_each, slot_of_away, sound_ordered, takes_len}
pub use Rattle.af_life.proofs.Lives.{acked_len, served_len}
pub use Rattle.af_life.proofs.LooksSoFar.{after_all, after_looks-go, are_due-go}
pub use Rattle.af_life.proofs.SmallTurns.{acked, turn_small}
pub use Rattle.af_life.proofs.Smalls.{new_small, set_all}
pub use Rattle.af_life.specs.Edits.{LegalPush, after_ack, after_push, comes_home, commanded_by, edited_to, entered, commands_exit, lent_by, must_enter, must_leave, next_command}
unfoldable pub use Rattle.af_life.specs.Edits.{edited, lend, let_go, mutated, ordered, welcomed}
pub use Rattle.af_life.specs.Heard.{counts_in, heard, heard_by, heard_with, is_reached, is_reported, known_by, learnt, ready, slot_reported}
unfoldable pub use Rattle.af_life.specs.Heard.{noted, settled_at}
pub use Rattle.af_life.specs.Kept.{Learnt, NormalKept, Outside, Setup, asked, is_home, is_returning, new_normal, new_track, no_counts, nothing_heard, nothing_seen, number_of, pipe_size, plays, seen_at, setting_of, slot_number, track_at, track_in}
pub use Rattle.af_life.specs.Looks.{LegalLooks, all_command_events, as_slot, command_events, words_taken}
pub use Rattle.af_life.specs.Obeys.{after_looks, are_due, ended, goes_on, holds, is_shut, must_wait, shows_command, slot_for}
pub use Rattle.af_life.proofs.Words.{all_go_on}
unfoldable pub use Rattle.af_life.specs.Obeys.{after_look, obeyed}
pub use Rattle.af_life.specs.Plays.{LegalTake, after_take, after_takes, look_counted, is_mixed_here, put_by, tracks_due}
unfoldable pub use Rattle.af_life.specs.Reports.{by_report}
pub use Rattle.af_life.specs.Serves.{IsServed, LegalTrack, is_found_shut, most_looks, served_to, status_word, with_served}
unfoldable pub use Rattle.af_life.specs.Serves.{after_part, served}
pub use Rattle.af_life.specs.Small.{AreUpTo, IsSmall, most_tracks}
pub use Rattle.af_life.proofs.Words.{IsSmallTurn}
pub use Rattle.af_life.specs.Sound.{IsSound}
pub use Rattle.af_life.specs.Turn.{GoesOn, LegalTurn, after_edits, after_tracks}
unfoldable pub use Rattle.af_life.specs.Turn.{turn_after}
pub use Rattle.af_life.specs.TurnEvents.{command_list, going, hand_events_of, invalid, mix_events, mutator_list, number_seen, push_list, status_events, stream_list, takes_from, tracks_at}
pub use Rattle.af_life.specs.declared.kept.Heard.{Heard}
pub use Rattle.af_life.specs.declared.kept.Holder.{Holder}
pub use Rattle.af_life.specs.declared.kept.Holder.TheVariants.{Home, Returning}
pub use Rattle.af_life.specs.declared.kept.Setting.{Setting}
pub use Rattle.af_life.specs.declared.kept.TrackKept.{TrackKept}
pub use Rattle.af_life.specs.declared.track.Life.{Life}
pub use Rattle.af_link.specs.Names.{IsStreamOf}
pub use Rattle.af_link.specs.PipeEnds.{InSide}
pub use Rattle.af_link.specs.Reports.{ReaderSide}
pub use Rattle.af_link.specs.declared.links.Links.{Links}
pub use Rattle.af_link.specs.declared.names.StreamNames.{StreamNames}
pub use Rattle.af_model.proofs.Basics.{both_first, not_true, one_few}
pub use Rattle.af_model.specs.Cycles.{IsSeen, Listed, LooksBy, cycle_events, kept}
pub use Rattle.af_model.specs.Draft.{draft_commanded, initial}
pub use Rattle.af_model.specs.PipeHistory.{releases_of, room_by}
pub use Rattle.af_model.specs.Reports.{is_empty, is_full, is_partial, no_report, report_at}
pub use Rattle.af_model.specs.ServerCalls.{ServerKept, flushes_by, look_at, look_events, server_begins, server_keeps, server_kept, shown_by}
pub use Rattle.af_model.specs.StateQueue.{carries, no_fast_track, slot_of, word}
pub use Rattle.af_model.specs.declared.newest.ReaderEvent.TheVariants.{Load}
pub use Rattle.af_model.specs.declared.shape.Shape.{Shape}
pub use Rattle.af_server.specs.Order.{IsInOrder, IsServerOf, ServerState}
pub use Rattle.af_server.specs.Slot.{listed}
pub use Rattle.af_stateq.specs.Answers.{SeesIt, WasAcked, WasPushed, shows}
pub use Rattle.af_stateq.specs.Ends.{Pushes, saw}
pub use Rattle.af_stateq.specs.Mutates.{InDraft, InSlot, IsJoined, Mutates, at, is_out}
pub use Rattle.std.proofs.lemmas.Bool.{cases_eq, cases_lt, eq-eqb, eqb-true}
pub use Rattle.std.proofs.lemmas.Grind.{fold-append}
pub use Rattle.std.proofs.lemmas.List.{drop-append-le, ext_get_or, get_or-map, get_or_default, length-map, length-replicate, length-reverse, map-append, nil_from_length, reverse-append, reverse-reverse, set-get_or, take-append-drop, take-append-le, with_items_is}
pub use Rattle.std.proofs.lemmas.List.Elements.{All-append, All-from_get_or, All-get_or, All-head, All-nil, All-push, All-tail, All-weaker, filter-append}
pub use Rattle.std.proofs.lemmas.Option.{get_or_from_slice_get, none-some, slice_get-get_or, slice_get_past, slice_get_within}
pub use Rattle.std.specs.List.{AllByRecursion, flat_map, range_with_len}
pub use Rattle.std.specs.Prelude.{false, filter, fold, map, nat_le, slice_get, slice_index_or, slice_set}
pub use Rattle.std.specs.Vec.{with_items}
