-- The names of other crates that the proofs of this one cite, passed on from one place. Declares nothing.
pub use Rattle.af_base.proofs.Basics.{all_one, at_before, at_seam, both_true, equal_is, is_equal, is_within, max_le, take_step, within_is}
pub use Rattle.af_base.specs.declared.event.ClientEvent.{ClientEvent}
pub use Rattle.af_base.specs.declared.event.HandEvent.{HandEvent}
pub use Rattle.af_base.specs.declared.event.ServerEvent.{ServerEvent}
pub use Rattle.af_model.specs.History.{HasHistory, IsLegal, Moment, after, by_client, by_hand, by_server, client_of, clients_at, hand_of, met_by, met_in, server_of}
pub use Rattle.af_model.specs.Point.{ClientMay, HandMay, ServerMay, after_client, after_hand, after_server, drop_end, flush_word, start, wrapped}
pub use Rattle.af_model.specs.declared.point.TrackPoint.{TrackPoint}
pub use Rattle.std.proofs.Math.Seq.{take-length}
pub use Rattle.std.proofs.lemmas.Bool.{and_parts, cases_lt, false≢true}
pub use Rattle.std.proofs.lemmas.Bool.Decides.{nat_tests}
pub use Rattle.std.proofs.lemmas.List.{length-take-le, take-append-drop, take-append-le, take_all, take_more}
pub use Rattle.std.proofs.lemmas.List.Elements.{All-contains, Contains-append_left, Contains-get_or, Contains-push, Contains-push_cases}
pub use Rattle.std.proofs.lemmas.Option.{MatchOption-at_some, cond_some, option_and_then_some, same_Some, slice_get_read, slice_get_within}
pub use Rattle.std.specs.List.{All, Contains, slice_get}
pub use Rattle.std.specs.Option.{IfSome, option_and_then}
