-- The names of other crates, and of the specs of this one, that the proofs of this one cite, passed on from one place. Declares nothing.
pub use Rattle.af_base.proofs.Basics.{some_at, zip_long}
pub use Rattle.af_base.specs.Log.{Logged, entry_at, no_entry, slots}
pub use Rattle.af_base.specs.Roomy.{Roomy}
pub use Rattle.af_base.specs.Turn.{Turn, turn_of}
pub use Rattle.af_base.specs.declared.event.ClientCall.{ClientCall}
pub use Rattle.af_base.specs.declared.frame.Frame.{Frame}
pub use Rattle.af_base.specs.declared.log.Cycle.{Cycle}
pub use Rattle.af_base.specs.declared.log.CycleEntry.{CycleEntry}
pub use Rattle.af_cblk.specs.Sides.{Made}
pub use Rattle.af_fast.specs.Mixer.{MixerState, adopted_states}
pub use Rattle.af_link.specs.declared.links.Links.{Links}
pub use Rattle.af_model.specs.Cycles.{is_mixed}
pub use Rattle.af_model.specs.Journals.{JournalData, RoundNoted}
pub use Rattle.af_nblog.specs.NoteEnds.{AreInOrder, NotedBy, ReaderState, WriterState, accepted, kept, note_steps, read, reader_made, refusals, writer_made}
pub use Rattle.af_nblog.specs.NoteRounds.{HasDrained, HasNoted, IsBetween}
pub use Rattle.af_nblog.specs.Notes.{note_of}
pub use Rattle.af_nblog.specs.declared.entries.Note.{Note}
pub use Rattle.af_nblog.specs.declared.writing.Noted.{Noted}
pub use Rattle.af_nblog.specs.declared.writing.Noted.TheVariants.{Refused, Sent}
pub use Rattle.af_normal.specs.State.{NormalState, setup_of}
pub use Rattle.af_party.specs.Parties.{PartyState}
pub use Rattle.af_party.specs.Works.{CanWork}
pub use Rattle.af_runs.specs.Pcm.{written}
pub use Rattle.af_session.proofs.ClientRounds.{IsGiven, is_given, legal_turn, work_asked, work_left}
pub use Rattle.af_session.proofs.FastAdds.{AddsOne, MixDoes, met_keeps, mix_adds, mix_does, mix_enters, mix_idles, none_added, polled_keeps, steps_add}
pub use Rattle.af_session.proofs.FastChains.{GoesTo, goes_first, goes_on, goes_over, goes_whole}
pub use Rattle.af_session.proofs.FollowingRounds.{AllCalls, calls, calls_more, places_more, shown_round, shows_tracks, states, turns, turns_more, turns_still}
pub use Rattle.af_session.proofs.Ready.{ready_on}
pub use Rattle.af_session.proofs.RoomsKept.{InRoom, in_room_first, in_room_fits, in_room_more, keeps_itself, noted_from, noted_so_far, room_same}
pub use Rattle.af_session.specs.Rooms.{CanCycle, HasAdded, KeepsRoom, StaysReadyOn, given_of}
pub use Rattle.af_session.specs.Rounds.{Given, IsReady, end_party, file_at, ops_at, with_ends}
pub use Rattle.af_session.specs.Shown.{Follows, FollowsRound, HasPlaces, calls_over, shown_at}
unfoldable pub use Rattle.af_session.specs.Shown.{shows}
pub use Rattle.af_session.specs.Together.{AreTogether, SessionState}
pub use Rattle.af_session.specs.declared.room.Room.{Room}
pub use Rattle.af_side_by_side.specs.Alone.{CyclesOn, CyclesOnce, FastTurned, most_cycles}
pub use Rattle.af_side_by_side.specs.Logging.{AreEnds, AuditorState, HasAudited, HasBothLogged, HasEnds, HasLogOf, HasLogged, HasMetLog, IsAuditor, IsLogged, IsScribe, LoggingState, Logs, LogsPlay, NotesMet, ScribeState, count_refused, no_log, notes_kept}
pub use Rattle.af_side_by_side.specs.SideBySide.{AllPlayed, CanMixOn, CanTurn, ClientPlayed, HasCycledOn, HasMixedOn, HasTurned, NormalPlayed, TurnPlayed, all_noted, with_all_calls, with_turn_if}
pub use Rattle.af_tally.specs.Sound.{IsWhole, pcm_of}
pub use Rattle.af_tally.specs.Summaries.{Shown, calls_of, with_calls, with_turn}
pub use Rattle.af_tally.specs.Tallies.{IsTally, Keeps, Tallied}
pub use Rattle.std.proofs.Math.Seq.{drop-append_seam}
pub use Rattle.std.proofs.lemmas.List.{append-nil, drop-append-le, get_or-set_other, get_or-set_same, get_or_push, length-append, length-drop, length-map, length_push, map-append, same_lists}
pub use Rattle.std.proofs.lemmas.List.Elements.{All-append, All-cons, All-nil}
pub use Rattle.std.proofs.lemmas.Option.{get_or_from_slice_get, slice_get-get_or, slice_get-map, slice_get_within}
pub use Rattle.std.specs.Bool.{MatchBool}
pub use Rattle.std.specs.List.{AllZip, flat_map, range_with_len}
pub use Rattle.std.specs.Prelude.{slice_index_or}
