-- The names of other crates, and of the specs of this one, that the proofs of this one cite, passed on from one place. Declares nothing.
pub use Rattle.af_base.proofs.Basics.{at_before, at_last, get_set_same, some_at}
pub use Rattle.af_base.specs.Log.{Logged, count_seen, entry_at, entry_slot, no_entry, slots, takes_of}
pub use Rattle.af_base.specs.Mix.{Take, mix}
pub use Rattle.af_base.specs.Roomy.{Roomy}
pub use Rattle.af_base.specs.Sample.{IsFrame, frame_bytes, packed_word, pcm_bytes}
pub use Rattle.af_base.specs.Turn.{TakeSeen, Turn, take_seen, track_seen, turn_of}
pub use Rattle.af_base.specs.declared.event.ClientCall.{ClientCall}
pub use Rattle.af_base.specs.declared.frame.Frame.{Frame}
pub use Rattle.af_base.specs.declared.log.Cycle.{Cycle}
pub use Rattle.af_base.specs.declared.log.CycleEntry.{CycleEntry}
pub use Rattle.af_base.specs.declared.state.FastState.{FastState}
pub use Rattle.af_base.specs.declared.turn.NormalTake.{NormalTake}
pub use Rattle.af_base.specs.declared.turn.TurnEntry.{TurnEntry}
pub use Rattle.af_cblk.specs.Shape.{IsShape, most_flushes}
pub use Rattle.af_cblk.specs.Sides.{HandSide, Made, client_made}
pub use Rattle.af_client.specs.Order.{ClientState}
pub use Rattle.af_engine.proofs.MetTracks.{MetSoFar, all_at_set, all_met, met_more}
pub use Rattle.af_engine.specs.Engines.{AreTogether, EngineState}
pub use Rattle.af_engine.specs.Met.{MeetsAway, Spot, SpotMet, proxies_of, spot_of}
pub use Rattle.af_engine.specs.MixerSpecs.{IsEngineTrack, IsMakeCause, IsMixerSpec, setting_of, setup_of}
pub use Rattle.af_engine.specs.NewEngine.{IsNewEngine, tracks_of}
pub use Rattle.af_engine.specs.NewTracks.{IsCommandShape, IsNewClient, IsNewLine, IsNewTrack, IsStreamShape}
pub use Rattle.af_engine.specs.declared.ends.TrackEnds.{TrackEnds}
pub use Rattle.af_engine.specs.declared.spec.MixerSpec.{MixerSpec}
pub use Rattle.af_fast.specs.Mixer.{CarriesNone, IsInOrder, IsLinked, MixerState, adopted_states, is_over, made_of}
pub use Rattle.af_fast.specs.Mixing.{AddsCycle, Adopts, MixesOnce, Writes}
pub use Rattle.af_life.specs.Kept.{Outside, Setup, new_normal}
pub use Rattle.af_link.specs.declared.links.Links.{Links}
pub use Rattle.af_model.specs.Cycles.{UseUpTo, cold_done, is_mixed, last_used, state_of, taken_before}
pub use Rattle.af_model.specs.Journals.{RoundNoted}
pub use Rattle.af_model.specs.declared.shape.Shape.{Shape}
pub use Rattle.af_normal.specs.Meeting.{AreClientsOf, MeetsStream, client_knows}
pub use Rattle.af_normal.specs.Order.{most_turns}
pub use Rattle.af_normal.specs.State.{NormalState}
pub use Rattle.af_normal.specs.TurnMade.{TurnMade, answer_of}
pub use Rattle.af_party.specs.Parties.{PartyState, side_of_proxy, track_of}
pub use Rattle.af_party.specs.Works.{CanWork, IsFitting, IsFittingOp, flushes_due, flushes_to_come, frames_due, frames_to_come}
pub use Rattle.af_runs.proofs.Basics.{state_more, taken_up}
pub use Rattle.af_runs.specs.ClientTurns.{LegalClientTurn, Side, after_calls, new_side}
pub use Rattle.af_runs.specs.Pcm.{LieWithin, entries_pcm, entry_pcm, written}
pub use Rattle.af_runs.specs.Sessions.{command_shape, script_setup, spec_setting, stream_shape}
pub use Rattle.af_script.specs.Form.{HasOpNumbers, IsScript, IsTrack}
unfoldable pub use Rattle.af_script.specs.Ops.{cells_of}
pub use Rattle.af_script.specs.declared.op.Op.{Op}
pub use Rattle.af_script.specs.declared.track.TrackSpec.{TrackSpec}
pub use Rattle.af_server.specs.Order.{ServerState}
pub use Rattle.af_session.specs.FastTurns.{IsCycle, IsFastTurn, StepsOn, TurnAdds, Turned, WritesCycle}
pub use Rattle.af_session.specs.Met.{Met, TrackMet}
pub use Rattle.af_session.specs.NewTracks.{AreNewClients, AreNewTracks, IsClientOf, IsNewParty, engine_track, first_track}
pub use Rattle.af_session.specs.Rooms.{CarriesOn, HasAdded, HasNotedOn, HasPlacesAt, HasRoom, IsReadyOn, KeepsRoom, KeepsSizes, given_of}
pub use Rattle.af_session.specs.Rounds.{Given, IsReady, Turns, calls_in, client_round, end_party, fast_round, file_at, normal_round, ops_at, ops_of, round_told, still_round, with_ends}
pub use Rattle.af_session.specs.Shown.{Follows, FollowsRound, HasPlaces, calls_over, frames_written, shown_at, turn_in, use_of}
unfoldable pub use Rattle.af_session.specs.Shown.{shows}
pub use Rattle.af_session.specs.Together.{SessionState}
pub use Rattle.af_session.specs.declared.room.Room.{Room}
pub use Rattle.af_stateq.specs.Laws.{polled_states}
pub use Rattle.af_tally.proofs.Sounding.{grows_not, grows_on, log_grows, map_same, same_if, takes_stay}
pub use Rattle.af_tally.specs.Sound.{Grows, IsMixed, IsWhole}
pub use Rattle.af_tally.specs.Steps.{most_steps, tracks_used}
pub use Rattle.af_tally.specs.Summaries.{EntryUsed, Shown, with_calls, with_entry, with_turn, with_written}
pub use Rattle.af_tally.specs.Tallies.{IsTally, Keeps, Tallied}
pub use Rattle.std.proofs.lemmas.Bool.{cases_eq}
pub use Rattle.std.proofs.lemmas.List.{get_or-set_other, get_or-set_same, get_or_default, get_or_push, length-append, length-map, length-replicate, length_push, map-append, take_all, with_items_is}
pub use Rattle.std.proofs.lemmas.List.Concat.{flat_map-append, flat_map-cons}
pub use Rattle.std.proofs.lemmas.List.Elements.{All-append, All-cons, All-head, All-map, All-more, All-nil, All-tail}
pub use Rattle.std.proofs.lemmas.Option.{get_or_from_slice_get, none-some, same_Some, slice_get-get_or, slice_get-map, slice_get_cases, slice_get_read, slice_get_within}
pub use Rattle.std.specs.List.{flat_map, range_with_len}
pub use Rattle.std.specs.Prelude.{All, slice_index_or}
pub use Rattle.std.specs.Vec.Iter.{into_iter_items}
