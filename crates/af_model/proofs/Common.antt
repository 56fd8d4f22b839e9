-- The names of other crates that the proofs of this one cite, passed on from one place. Declares nothing.
pub use Rattle.af_base.proofs.Basics.{both_true, is_below, is_not_below, no, positive_is}
pub use Rattle.af_base.specs.Log.{Logged, absent, count_seen, entry_at, entry_slot, frames_taken, no_entry, slot_take, slots, takes_of}
pub use Rattle.af_base.specs.Mix.{Take, frame_at, mix, mixed_frame, silence}
pub use Rattle.af_base.specs.Part.{no_part, take_of}
pub use Rattle.af_base.specs.Turn.{Turn, take_seen, track_seen, turn_of}
pub use Rattle.af_base.specs.declared.event.ClientCall.{ClientCall}
pub use Rattle.af_base.specs.declared.event.ClientEvent.{ClientEvent}
pub use Rattle.af_base.specs.declared.event.HandEvent.{HandEvent}
pub use Rattle.af_base.specs.declared.event.ServerEvent.{ServerEvent}
pub use Rattle.af_base.specs.declared.frame.Frame.{Frame}
pub use Rattle.af_base.specs.declared.log.CycleEntry.{CycleEntry}
pub use Rattle.af_base.specs.declared.log.SlotEntry.{SlotEntry}
pub use Rattle.af_base.specs.declared.seen.Seen.{Seen}
pub use Rattle.af_base.specs.declared.state.FastState.{FastState}
pub use Rattle.af_base.specs.declared.turn.NormalTake.{NormalTake}
pub use Rattle.af_base.specs.declared.turn.TrackTurn.{TrackTurn}
pub use Rattle.std.proofs.lemmas.Bool.{and_from, and_parts, cases_eq}
pub use Rattle.std.proofs.lemmas.Grind.{fold-append}
pub use Rattle.std.proofs.lemmas.List.{append-nil, append_cancel_left, drop-append-le, ext_get_or, get_or-map, get_or-replicate, get_or-set_other, get_or-set_same, length-append, length-drop, length-map, length-take, length-take-le, map-append, map-set, set-set, take-append-drop, take-append-le, take_all}
pub use Rattle.std.proofs.lemmas.List.Elements.{All-cons, All-drop, All-get_or, All-head, All-map, All-more, All-nil, All-tail, All-take}
pub use Rattle.std.proofs.lemmas.List.FromFn.{fill_by_all}
pub use Rattle.std.specs.Option.{option_map}
pub use Rattle.std.specs.Prelude.{All, MatchOption, slice_index_or, vec_capacity, ℕ}
