-- The names of other crates that the proofs of this one cite, passed on from one place. Declares nothing.
pub use Rattle.af_base.proofs.Basics.{both_true, is_not_below}
pub use Rattle.af_base.specs.Log.{count_seen}
pub use Rattle.af_base.specs.Sample.{packed_word}
pub use Rattle.af_base.specs.declared.event.ClientEvent.{ClientEvent}
pub use Rattle.af_base.specs.declared.event.ServerEvent.{ServerEvent}
pub use Rattle.af_base.specs.declared.frame.Frame.{Frame}
pub use Rattle.af_base.specs.declared.seen.Seen.{Seen}
pub use Rattle.af_cblk.specs.Parts.{client_met, server_did}
pub use Rattle.af_cblk.specs.Sides.{Made, client_made}
pub use Rattle.af_cblk.specs.declared.view.ClientPart.{ClientPart}
pub use Rattle.af_cblk.specs.declared.view.ServerPart.{ServerPart}
pub use Rattle.af_client.specs.Order.{ClientState, IsInOrder, client_kept_of}
pub use Rattle.af_model.proofs.Basics.{both_first, flushes-append}
pub use Rattle.af_model.proofs.Fates.{begins, in_turn}
pub use Rattle.af_model.proofs.Logic.{ahead-between, both_right}
pub use Rattle.af_model.specs.History.{HasHistory, IsLegal, Moment, by_client, by_hand, by_server, client_of, flushes_of, hand_of, is_lawful, server_of}
pub use Rattle.af_model.specs.Order.{Event, Legal, point_after, one, ones, two, twos}
pub use Rattle.af_model.specs.PipeHistory.{PipePoint, PutKept, after_put, next_in_pipe, nothing_put, room_by, start_of_pipe}
pub use Rattle.af_model.specs.Point.{ClientMay, ServerMay, after_client, after_server, wrapped}
pub use Rattle.af_model.specs.Room.{ahead}
pub use Rattle.af_model.specs.ServerCalls.{IsServerList, ServerKept, drops_of, look_at, look_events, looks, meets, reads_gains, rests, server_begins, server_keeps, server_kept, sets_flags, sets_status, takes, tallies}
pub use Rattle.af_model.specs.declared.point.TrackPoint.{TrackPoint}
pub use Rattle.af_model.specs.declared.shape.Shape.{Shape}
pub use Rattle.af_server.specs.Order.{ServerState, server_kept_of}
pub use Rattle.std.proofs.Math.Seq.{take-add, take-append_seam}
pub use Rattle.std.proofs.lemmas.List.{drop-take, drop_at, length-drop, length-map, map-append, take-append-drop, take_all}
pub use Rattle.std.proofs.lemmas.List.Folds.{list_all-append}
pub use Rattle.std.specs.List.{list_all}
