-- The names of other crates that the proofs of this one cite, passed on from one place. Declares nothing.
pub use Rattle.af_base.proofs.Basics.{is_below, is_not_below, max_le}
pub use Rattle.af_base.specs.Sample.{packed_word}
pub use Rattle.af_base.specs.declared.event.ClientEvent.{ClientEvent}
pub use Rattle.af_base.specs.declared.event.HandEvent.{HandEvent}
pub use Rattle.af_base.specs.declared.event.ServerEvent.{ServerEvent}
pub use Rattle.af_base.specs.declared.frame.Frame.{Frame}
pub use Rattle.af_model.proofs.Basics.{at_few, flushes-append, none_as}
pub use Rattle.af_model.proofs.Counts.{flushes_are, lawful_before, lawful_more, poke_is_not}
pub use Rattle.af_model.proofs.Fates.{drop_flat, drop_low, drop_placed, drop_released, in_turn}
pub use Rattle.af_model.proofs.Grows.{client_adds, client_releases, hand_adds, server_adds}
pub use Rattle.af_model.specs.History.{HasHistory, Moment, client_of, clients_at, flush_in, flushes_of, is_lawful, met_by, met_in, point, server_of, taken_of, with_taken}
pub use Rattle.af_model.specs.Point.{ClientMay, HandMay, ServerMay, after_client, after_hand, after_server, drop_end, flush_number, flush_word, wrapped}
pub use Rattle.af_model.specs.ServerCalls.{LooksInOrder, ServerKept, flush_position, past_front, server_begins, server_keeps}
pub use Rattle.af_model.specs.declared.point.TrackPoint.{TrackPoint}
pub use Rattle.af_model.specs.declared.shape.Shape.{Shape}
pub use Rattle.atomic_table.proofs.Lists.{at_set, one_turn, set_else}
pub use Rattle.atomic_table.specs.Table.{Allows, Joins, Me, Splits, keeps, opening, step}
pub use Rattle.std.proofs.Math.Nat.{add-mod_right, add-mul, div-le_self, le-div_iff_mul-le, mod-add-mod, mul-add-mod_self_right}
pub use Rattle.std.proofs.lemmas.List.{get_or-map, length-map, map-append, take-append-le, take-map, take_more, take_more_set}
pub use Rattle.std.proofs.lemmas.Nat.{and_le_l, and_mask, or_of_32}
