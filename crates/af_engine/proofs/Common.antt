-- The names of other crates, and of the specs of this one, that the proofs of this one cite, passed on from one place. Declares nothing.
pub use Rattle.af_base.proofs.Basics.{at_before, at_last, get_set_other, get_set_same, some_same}
pub use Rattle.af_base.specs.Log.{slots}
pub use Rattle.af_base.specs.declared.state.FastState.{FastState}
pub use Rattle.af_cblk.specs.Rule.{StartsWith}
pub use Rattle.af_cblk.specs.Sides.{HandSide, Made, client_made, hand_made, server_made}
pub use Rattle.af_client.specs.Order.{ClientState}
pub use Rattle.af_engine.specs.Engines.{AreTogether}
pub use Rattle.af_engine.specs.Met.{ClientMet, EndsMet, ItemStays, MeetsAway, Proxies, Spot, SpotMet, TrackMet, TracksMet, ends_of, is_slot_of, item_at, or_else, proxies_of, slot_below, spot_of}
unfoldable pub use Rattle.af_engine.specs.Met.{slot_for}
pub use Rattle.af_engine.specs.MixerSpecs.{IsCause, IsEngineTrack, IsMixerSpec, IsOutside}
pub use Rattle.af_engine.specs.NewEnds.{AreNewEnds, EndStates}
pub use Rattle.af_engine.specs.NewTracks.{AreNewTracks, IsNewTrack, IsTrackAt}
pub use Rattle.af_engine.specs.Shares.{AreLinksOf, SharedState}
pub use Rattle.af_engine.specs.declared.ends.TrackEnds.{TrackEnds}
pub use Rattle.af_engine.specs.declared.spec.EngineTrack.{EngineTrack}
pub use Rattle.af_engine.specs.declared.spec.MixerSpec.{MixerSpec}
pub use Rattle.af_fast.specs.Meets.{AreOfBlockOf, HaveHistories, MeetsHeld, Others, mixer_met, server_met}
pub use Rattle.af_fast.specs.Mixer.{CarriesNone, IsInOrder, IsLinked, MixerState, made_of}
pub use Rattle.af_link.specs.Names.{IsStreamOf}
pub use Rattle.af_link.specs.PipeEnds.{OutSide, out_made}
pub use Rattle.af_link.specs.declared.links.Links.{Links}
pub use Rattle.af_link.specs.declared.names.StreamNames.{StreamNames}
pub use Rattle.af_model.specs.StateQueue.{carries, slot_of}
pub use Rattle.af_normal.specs.Making.{AreNew, IsMade, TrackList, setting_of, with_track}
pub use Rattle.af_normal.specs.Meeting.{AreClientsOf, MeetsAll, MeetsStream, MeetsTrack, ends_met, observer_met, out_met, queue_met, writer_met}
pub use Rattle.af_normal.specs.Mixing.{stream_at}
pub use Rattle.af_normal.specs.State.{NormalState, kept_of, setup_of}
pub use Rattle.af_server.specs.Order.{ServerState}
pub use Rattle.af_stateq.specs.Mutates.{at}
pub use Rattle.af_stateq.specs.Observes.{Observes}
pub use Rattle.std.proofs.lemmas.Bool.{and_from, and_left, and_parts, cases_eq, eq-eqb, eqb-true}
pub use Rattle.std.proofs.lemmas.List.{get_or_append_left, get_or_at, length-append, length-map, length-replicate, same_lists}
pub use Rattle.std.proofs.lemmas.Option.{get_or_from_slice_get, none-some, same_Some, slice_get-get_or, slice_get-map, slice_get_within}
pub use Rattle.std.specs.Prelude.{All, slice_get, slice_index_or, ℕ}
