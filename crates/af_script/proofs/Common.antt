-- The names of other crates that the proofs of this one cite, passed on from one place. Declares nothing.
pub use Rattle.af_base.proofs.Basics.{both, half, is_within, le-power, not_none, positive_not_zero, within_is}
pub use Rattle.std.proofs.lemmas.Bool.{and_parts, cases_lt}
pub use Rattle.std.proofs.lemmas.Bool.Decides.{nat_tests}
pub use Rattle.std.proofs.lemmas.List.{drop_at, length-take-le, take_all, take_at, take_min}
pub use Rattle.std.proofs.lemmas.List.Elements.{All-append, All-cons, All-head, All-nil, All-tail, All-take}
pub use Rattle.std.proofs.lemmas.Str.{IsUtf8-append, IsUtf8-from_ascii, IsUtf8-from_is_utf8, is_utf8-from_IsUtf8}
pub use Rattle.std.proofs.lemmas.Str.Ascii.{IsAscii-cons, IsAscii-nil}
pub use Rattle.std.specs.Char.{is_ascii_digit}
pub use Rattle.std.specs.Int.{IsPowerOfTwo, w64}
pub use Rattle.std.specs.List.{after_first, before_first, cons_option, flat_map, list_all, list_any, position_or_len, range_with_len}
pub use Rattle.std.specs.Prelude.{All, IfSome, IsCharBoundary, MatchOption, Option, is_some, ok_or, option_and_then, option_map, pos, slice_get, unwrap_or}
pub use Rattle.std.specs.Str.{IsUtf8, bytes_eq, is_utf8}
pub use Rattle.std.specs.Str.Parse.{ParsesUnsigned, digits_value}
pub use Rattle.toml.proofs.Views.{Entry, items_view-drop, table_get}
pub use Rattle.toml.specs.Data.{Data, Items, Members, array, as_integer, as_str, as_table, boolean, datetime, depth, float, get_member, has_valid_dates, integer, is_sorted, item, items_are_sorted, items_depth, items_have_valid_dates, member, members_are_sorted, members_depth, members_have_valid_dates, no_items, no_members, string, table}
pub use Rattle.toml.specs.Parse.{parse_document}
pub use Rattle.toml.specs.View.{items_view, members_view, table_view, view}
pub use Rattle.toml.specs.declared.value.Value.{Value}
