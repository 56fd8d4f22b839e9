-- The names of other crates that the proofs of this one cite, passed on from one place. Declares nothing.
pub use Rattle.af_base.proofs.Basics.{and_false, below_is, both, byte_small, equal_is, few, is_equal, is_within, itself, map_last, neither, no_items, none_of, not_below_is, not_first, not_zero, on_ok, or_both, or_false, positive_is, small, some_is, zero_is}
pub use Rattle.af_base.specs.Log.{Logged, absent, count_seen, entry_at, entry_slot, frames_taken, kind_of, no_entry, slots}
pub use Rattle.af_base.specs.Sample.{IsFrame, packed_word}
pub use Rattle.af_base.specs.Turn.{TakeSeen, TrackSeen, Turn, ended_turn, take_seen, track_seen, turn_of}
pub use Rattle.af_base.specs.declared.event.ClientCall.{ClientCall}
pub use Rattle.af_base.specs.declared.frame.Frame.{Frame}
pub use Rattle.af_base.specs.declared.log.Cycle.{Cycle}
pub use Rattle.af_base.specs.declared.log.CycleEntry.{CycleEntry}
pub use Rattle.af_base.specs.declared.log.SlotEntry.{SlotEntry}
pub use Rattle.af_base.specs.declared.seen.Seen.{Seen}
pub use Rattle.af_base.specs.declared.state.Push.{Push}
pub use Rattle.af_base.specs.declared.turn.CommandLook.{CommandLook}
pub use Rattle.af_base.specs.declared.turn.TrackTurn.{TrackTurn}
pub use Rattle.af_model.proofs.Basics.{not_true, one_few}
pub use Rattle.af_model.specs.Cycles.{IsSeen, is_mixed, place_of, shown, still_entry, taken_before}
pub use Rattle.af_model.specs.JournalForm.{AreEntries, IsAbsent, IsCommandLook, IsEntry, IsJournal, IsMixed, IsOpenTurn, IsRound, IsSubmix, IsTake, IsTurn, IsWhole, TracksRise, is_spent}
pub use Rattle.af_model.specs.Journals.{EntrySeen, JournalData, RoundNoted, RoundSeen, RoundsNoted, cycles_of, entries_of, entries_seen, frames_of, journal_of, no_round, round_at, rounds_seen, slot_frames}
unfoldable pub use Rattle.af_model.specs.Journals.{taken_by}
pub use Rattle.af_model.specs.Numbers.{AreWords, FitsCall, FitsEntry, FitsLook, FitsPush, FitsRound, FitsSlot, FitsTake, FitsTrack, FitsTurn, seen_words}
pub use Rattle.af_model.specs.Reports.{one_if}
pub use Rattle.af_runs.proofs.Basics.{entries_inside, shown_if, taken_up}
pub use Rattle.af_runs.specs.Fronts.{is_shown}
pub use Rattle.af_runs.specs.LegalRuns.{is_lawful_block, is_poke_on, marks_of}
pub use Rattle.af_runs.specs.Pcm.{LieWithin}
pub use Rattle.af_runs.specs.Runs.{calls_in}
pub use Rattle.std.proofs.Math.Nat.{mul_assoc, pow-suc}
pub use Rattle.std.proofs.Math.Seq.{take-add}
pub use Rattle.std.proofs.lemmas.Bool.{cases_eq, cases_lt, eq-eqb, eqb-true, ne_eqb, true≢false}
pub use Rattle.std.proofs.lemmas.Bool.Decides.{nat_tests}
pub use Rattle.std.proofs.lemmas.Fmt.{contents_after_writes, decimal_by_steps, decimal_digit, decimal_step, length-decimal-le}
pub use Rattle.std.proofs.lemmas.Grind.{common_steps, take-set_at}
pub use Rattle.std.proofs.lemmas.Int.{of_z-to_z, to_z-of_z}
pub use Rattle.std.proofs.lemmas.List.{append-nil, append_assoc, drop-append-le, drop-drop, drop-map, drop_at, ext_get_or, get_or-drop, get_or-map, get_or-replicate, get_or-set_other, get_or-set_same, get_or_append_left, get_or_push, length-append, length-drop, length-map, length-replicate, length-set, length-take-le, map-append, map-id, take-append-drop, take-append-le, take-map, take_all, take_at, take_more}
pub use Rattle.std.proofs.lemmas.List.Concat.{flat_map-append}
pub use Rattle.std.proofs.lemmas.List.Elements.{All-append, All-cons, All-drop, All-head, All-nil, All-tail, All-take}
pub use Rattle.std.proofs.lemmas.List.Folds.{list_all-append, list_all_at, list_any-append, list_any_at}
pub use Rattle.std.proofs.lemmas.List.FromFn.{get_or-map-range_with_len, length-map-range_with_len, map-range_with_len_more}
pub use Rattle.std.proofs.lemmas.Nat.{be_bytes_4, from_be_bytes-to_be_bytes_4}
pub use Rattle.std.proofs.lemmas.Nat.Bits.{bit_at-lt, bit_at-suc, bit_at_lowest}
pub use Rattle.std.proofs.lemmas.Option.{none-some, option_and_then_some, same_Some}
pub use Rattle.std.specs.Fmt.{decimal}
pub use Rattle.std.specs.Int.{bit_at, byte_at, cast_signed, cast_unsigned, from_be_bytes, to_be_bytes, w16, w32}
pub use Rattle.std.specs.List.{All, AllByRecursion, flat_map, join_with_byte, list_all, list_any, onto_first, range_with_len, slice_range}
pub use Rattle.std.specs.Option.{is_some, option_and_then, option_map}
