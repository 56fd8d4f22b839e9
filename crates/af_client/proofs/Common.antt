-- The names of other crates that the proofs of this one cite, passed on from one place. Declares nothing.
pub use Rattle.af_base.specs.Sample.{packed_word}
pub use Rattle.af_base.specs.declared.event.ClientCall.{ClientCall}
pub use Rattle.af_base.specs.declared.event.ClientEvent.{ClientEvent}
pub use Rattle.af_base.specs.declared.frame.Frame.{Frame}
pub use Rattle.af_cblk.specs.Parts.{Has, client_did, client_flushed, client_met, client_saw_front, filled, next_stored, rear_stored, recorded, released, run_of, with_run, word_at}
pub use Rattle.af_cblk.specs.Shape.{IsShape}
pub use Rattle.af_cblk.specs.Sides.{ClientSide, Made}
pub use Rattle.af_cblk.specs.declared.view.ClientPart.{ClientPart}
pub use Rattle.af_model.proofs.Counts.{lawful_before, lawful_more}
pub use Rattle.af_model.specs.ClientCalls.{ClientKept, IsClientList, begins, calls, client_begins, client_call_events, client_events_of, client_keeps, client_kept, meets}
pub use Rattle.af_model.specs.History.{flush_in, flushes_of, is_lawful}
pub use Rattle.af_model.specs.Point.{wrapped}
pub use Rattle.af_model.specs.Room.{ahead, outside}
pub use Rattle.af_model.specs.declared.shape.Shape.{Shape}
pub use Rattle.std.proofs.lemmas.List.{length-map, take-map}
