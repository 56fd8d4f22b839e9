-- The names of other crates that the proofs of this one cite, passed on from one place. Declares nothing.
pub use Rattle.af_base.specs.Sample.{packed_word}
pub use Rattle.af_base.specs.declared.event.ServerEvent.{ServerEvent}
pub use Rattle.af_base.specs.declared.seen.Seen.{Seen}
pub use Rattle.af_cblk.proofs.Numbers.{ahead_below, ahead_of}
pub use Rattle.af_cblk.specs.Parts.{dropped, front_stored, server_did, took}
pub use Rattle.af_cblk.specs.Sides.{Made, ServerIs, ServerSide}
pub use Rattle.af_cblk.specs.declared.view.ServerPart.{ServerPart}
pub use Rattle.af_model.proofs.Basics.{kept_more, three}
pub use Rattle.af_model.specs.Cycles.{IsSeen, TrackSlot, events_behind_look, cycle_events, kept}
pub use Rattle.af_model.specs.Room.{ahead, outside}
pub use Rattle.af_model.specs.ServerCalls.{IsServerList, ServerKept, begins, dropped_by, drops_of, flush_position, flushes_by, is_noticed, look_at, look_events, looks, meets, reads_gains, rests, server_keeps, server_kept, sets_flags, sets_status, shown_by, takes, tallies}
pub use Rattle.af_model.specs.declared.shape.Shape.{Shape}
