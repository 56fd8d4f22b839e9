-- The names of other crates that the proofs of this one cite, passed on from one place. Declares nothing.
pub use Rattle.af_base.proofs.Basics.{and_false, and_true, both, clear_other, clear_same, never_true, no_items, not_both, set_other, set_same, some_same}
pub use Rattle.af_base.specs.declared.state.FastState.{FastState}
pub use Rattle.af_base.specs.declared.state.FastTrack.{FastTrack}
pub use Rattle.af_base.specs.declared.state.Push.TheVariants.{Busy, Clean, Pushed}
pub use Rattle.af_model.proofs.Basics.{not_true, same_before, state_next}
pub use Rattle.af_model.proofs.PartySteps.{both_change, one_changes, stand_one, stand_two, two_changes, two_comes, two_leaves}
pub use Rattle.af_model.specs.Draft.{attached, detached, initial}
pub use Rattle.af_model.specs.Order.{Event, Legal, point_after, one, ones, two, twos}
pub use Rattle.af_model.specs.PlainQueue.{QueueState, allowed_step, answers_of, held_of, is_allowed, is_placed, is_shelf, left, let_go, moved, moved_from, new_queue, place_at, readiness, returned_of, shown, state_after}
pub use Rattle.af_model.specs.StateQueue.{AllFit, AreOf, FitAt, HasStateHistory, IsState, MutatorPoint, ObserverPoint, QueuePoint, brought, carries, has, legal, mutated, mutator_next, mutator_start, next, no_fast_track, observed, observer_next, observer_start, slot_of, slots, start_of_queue}
pub use Rattle.af_model.specs.declared.plain_calls.Move.{Move}
pub use Rattle.af_model.specs.declared.plain_calls.Move.TheVariants.{SeeAck, Send, Take}
pub use Rattle.af_model.specs.declared.plain_calls.Place.{Place}
pub use Rattle.af_model.specs.declared.plain_calls.Place.TheVariants.{Coming, Going, Held, Nowhere, Pending, Returned}
pub use Rattle.af_model.specs.declared.plain_calls.QueueAnswer.{QueueAnswer}
pub use Rattle.af_model.specs.declared.plain_calls.QueueCall.{QueueCall}
pub use Rattle.af_model.specs.declared.states.MutatorEvent.{MutatorEvent}
pub use Rattle.af_model.specs.declared.states.MutatorEvent.TheVariants.{Push, SawAck}
pub use Rattle.af_model.specs.declared.states.ObserverEvent.{ObserverEvent}
pub use Rattle.af_model.specs.declared.states.ObserverEvent.TheVariants.{Ack, SawNext}
pub use Rattle.atomic_table.proofs.Lists.{drop_at, set_else, set_here}
pub use Rattle.atomic_table.specs.Table.{Act, Allows, Joins, Splits, State, Step, Valid, carried_after, chain, gives, homes_after, keeps, opening, rest, step, stepped, takes, turned}
pub use Rattle.std.proofs.Math.Seq.{get_or-append_seam, map-set_same, set-append_seam}
pub use Rattle.std.proofs.lemmas.List.{append-nil, drop-set-lt, get_or-map, get_or-replicate, get_or-set_other, get_or-set_same, get_or_default, length-map, length-replicate, map-append, map-set, replicate-append-replicate, set-get_or}
pub use Rattle.std.proofs.lemmas.List.Sums.{fold-append}
pub use Rattle.std.proofs.lemmas.Nat.{one_shl}
pub use Rattle.std.specs.Int.{bit_at}
pub use Rattle.std.specs.Prelude.{None, replicate, vec_capacity}
pub use Rattle.std.specs.Vec.Iter.{into_iter_items, into_iter_len}
