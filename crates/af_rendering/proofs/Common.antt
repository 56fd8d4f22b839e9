-- The names of other crates that the proofs of this one cite, passed on from one place. Declares nothing.
pub use Rattle.af_base.proofs.Basics.{get_set_same}
pub use Rattle.af_base.specs.Log.{Logged}
pub use Rattle.af_base.specs.Roomy.{Roomy}
pub use Rattle.af_base.specs.Sample.{IsFrame}
pub use Rattle.af_base.specs.Turn.{Turn, turn_of}
pub use Rattle.af_base.specs.declared.event.ClientCall.{ClientCall}
pub use Rattle.af_base.specs.declared.frame.Frame.{Frame}
pub use Rattle.af_base.specs.declared.log.Cycle.{Cycle}
pub use Rattle.af_base.specs.declared.log.CycleEntry.{CycleEntry}
pub use Rattle.af_base.specs.declared.state.FastState.{FastState}
pub use Rattle.af_engine.specs.Shares.{SharedState}
pub use Rattle.af_fast.specs.Mixer.{IsInOrder, MixerState, is_over}
pub use Rattle.af_fast.specs.Mixing.{MixesOnce}
pub use Rattle.af_io.proofs.Steps.{AddsFront-append, LeavesFront-added, LeavesFront-created, SetsFile-adds}
pub use Rattle.af_io.specs.Causes.{HasCause}
pub use Rattle.af_io.specs.Files.{AppendsTo, Files, LeavesFront, SetsFile}
pub use Rattle.af_io.specs.declared.store.StoreError.{StoreError}
pub use Rattle.af_life.specs.Turn.{LegalTurn}
pub use Rattle.af_link.specs.declared.links.Links.{Links}
pub use Rattle.af_model.proofs.Basics.{all_dealt, cycles_more, same_length}
pub use Rattle.af_model.proofs.EntriesMore.{AreWhole, none_whole}
pub use Rattle.af_model.specs.Cycles.{is_mixed, last_used}
pub use Rattle.af_model.specs.JournalForm.{AreEntries, IsJournal, IsWhole}
pub use Rattle.af_model.specs.Journals.{EntrySeen, JournalData, RoundNoted, RoundSeen, RoundsNoted, cycles_of, entries_of, entries_seen, frames_of, journal_of, rounds_seen, taken_by}
pub use Rattle.af_model.specs.Numbers.{FitsEntry, HasRanges}
pub use Rattle.af_model.specs.declared.states.MutatorEvent.{MutatorEvent}
pub use Rattle.af_model.specs.declared.states.ObserverEvent.{ObserverEvent}
pub use Rattle.af_normal.specs.State.{NormalState, kept_of, setup_of}
pub use Rattle.af_party.specs.Parties.{PartyState}
pub use Rattle.af_party.specs.Works.{CanWork, frames_to_come}
pub use Rattle.af_runs.specs.Pcm.{entries_pcm, journal_pcm}
pub use Rattle.af_script.specs.Data.{ScriptData}
pub use Rattle.af_script.specs.Form.{IsScript, IsTurn}
pub use Rattle.af_script.specs.declared.op.Op.{Op}
pub use Rattle.af_script.specs.declared.op.TurnSpec.{TurnSpec}
pub use Rattle.af_script.specs.declared.track.TrackSpec.{TrackSpec}
pub use Rattle.af_server.specs.Order.{ServerState}
pub use Rattle.af_session.proofs.FastAdds.{met_keeps, polled_keeps, turn_adds, whole_new}
pub use Rattle.af_session.proofs.Following.{shows_more}
pub use Rattle.af_session.proofs.FollowingRounds.{empty_at, ends_keep, no_call, shows_tracks}
pub use Rattle.af_session.specs.Ends.{EndsState}
pub use Rattle.af_session.specs.FastTurns.{IsFastTurn, WritesCycle}
pub use Rattle.af_session.specs.Met.{Met}
pub use Rattle.af_session.specs.NewSession.{IsNewSession, tracks_of}
pub use Rattle.af_session.specs.Noted.{NotesFrames, NotesNumbers}
pub use Rattle.af_session.specs.Rooms.{CarriesOn, HasPlacesAt, HasRoundRoom, IsNewRoom, IsReadyOn, KeepsRoom, KeepsSound, given_of}
pub use Rattle.af_session.specs.Rounds.{Given, IsReady, IsRound, IsTurnRun, NormalTurned, Turns, calls_in, client_round, end_party, fast_round, file_at, no_calls, normal_round, ops_at, ops_of, round_told, still_round}
pub use Rattle.af_session.specs.Shown.{FollowsRound, HasPlaces, calls_over, released_by, shown_at, shown_by, shown_in, summary_told}
unfoldable pub use Rattle.af_session.specs.Shown.{shows}
pub use Rattle.af_session.specs.Together.{AreTogether, SessionState}
pub use Rattle.af_session.specs.declared.rig.Rig.{Rig}
pub use Rattle.af_session.specs.declared.room.Room.{Room}
pub use Rattle.af_stateq.specs.Laws.{polled_states, pushed_states}
pub use Rattle.af_tally.specs.Sound.{pcm_of}
pub use Rattle.af_tally.specs.Summaries.{Shown, nothing_shown, summary_of}
pub use Rattle.af_tally.specs.Tallies.{IsTally, Tallied}
pub use Rattle.std.proofs.lemmas.Bool.{cases_eq}
pub use Rattle.std.proofs.lemmas.List.{get_or_default, length-append, length-map, length-replicate, length-set, take-append-drop, take_all, take_more}
pub use Rattle.std.proofs.lemmas.List.Elements.{All-append, All-cons, All-head, All-map, All-nil, All-tail}
pub use Rattle.std.proofs.lemmas.List.FromFn.{fill_by_all}
pub use Rattle.std.proofs.lemmas.Option.{same_Some, slice_get-get_or, slice_get-map, slice_get_read, slice_get_within}
pub use Rattle.std.proofs.lemmas.Result.{IfOk-from_err, on_err_weaker, on_ok_weaker}
pub use Rattle.std.specs.List.{range_with_len}
pub use Rattle.std.specs.Prelude.{All}
