-- The names of other crates that the proofs of this one cite, passed on from one place. Declares nothing.
pub use Rattle.af_base.proofs.Basics.{four}
pub use Rattle.af_base.specs.Gain.{gains_used}
pub use Rattle.af_base.specs.Mix.{Take, frame_at, from_unity, left_part, left_sum, mix, mixed_frame, mixed_sample, nearest_sample, right_part, right_sample, right_sum, silence}
pub use Rattle.af_base.specs.Part.{no_part, take_of}
pub use Rattle.af_base.specs.declared.frame.Frame.{Frame}
pub use Rattle.std.proofs.Math.Facts.{Fits-of_z, to_z-neg}
pub use Rattle.std.proofs.lemmas.Int.{int_wrap_fits, ints, to_z-of_z, to_z_pos, unsigned_abs-mul, wrapping_add-bits}
pub use Rattle.std.proofs.lemmas.List.{get_or-append_right, get_or-drop, get_or-map, get_or-take, get_or_append_left, get_or_default, get_or_past, length-append, length-map, map_more, map_push, take_more, take_more_set}
pub use Rattle.std.proofs.lemmas.List.Elements.{All-append, All-drop, All-take, All-weaker}
pub use Rattle.std.proofs.lemmas.List.FromFn.{fill_by_all}
