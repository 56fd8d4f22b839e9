-- The names of other crates that the proofs of this one cite, passed on from one place. Declares nothing.
pub use Rattle.af_base.specs.Sample.{packed_word}
pub use Rattle.af_base.specs.declared.event.ClientEvent.{ClientEvent}
pub use Rattle.af_base.specs.declared.event.ServerEvent.{ServerEvent}
pub use Rattle.af_base.specs.declared.frame.Frame.{Frame}
pub use Rattle.af_cblk.specs.Parts.{ahead, client_saw_front}
pub use Rattle.af_cblk.specs.Rule.{new_client, new_server}
pub use Rattle.af_cblk.specs.Shape.{IsShape}
pub use Rattle.af_cblk.specs.Sides.{ClientSide, Made, ServerIs, ServerSide}
pub use Rattle.af_cblk.specs.declared.view.ClientPart.{ClientPart}
pub use Rattle.af_cblk.specs.declared.view.ServerPart.{ServerPart}
pub use Rattle.af_link.specs.PipeEnds.{HasPut, InSide, OutSide, room_of, taken_by}
pub use Rattle.af_model.specs.Order.{Event, Legal, point_after, one, ones, two, twos}
pub use Rattle.af_model.specs.PipeHistory.{HasPipeHistory, PipePoint, legal_in_pipe, next_in_pipe, releases_of, room_by, start_of_pipe}
pub use Rattle.af_model.specs.Point.{wrapped}
pub use Rattle.af_model.specs.declared.shape.Shape.{Shape}
pub use Rattle.std.proofs.lemmas.Bool.{and_parts}
pub use Rattle.std.proofs.lemmas.List.{append-nil, length-map, take-append-drop}
pub use Rattle.std.proofs.lemmas.List.Folds.{list_all-append}
pub use Rattle.std.specs.List.{list_all}
