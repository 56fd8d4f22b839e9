-- The names of other crates that the proofs of this one cite, passed on from one place. Declares nothing.
pub use Rattle.af_base.proofs.Basics.{no, on_ok, or_true, zip_long}
pub use Rattle.af_base.specs.Log.{Logged}
pub use Rattle.af_base.specs.Roomy.{Roomy}
pub use Rattle.af_base.specs.Sample.{IsFrame}
pub use Rattle.af_base.specs.Turn.{Turn, turn_of}
pub use Rattle.af_base.specs.declared.event.ClientCall.{ClientCall}
pub use Rattle.af_base.specs.declared.frame.Frame.{Frame}
pub use Rattle.af_base.specs.declared.log.Cycle.{Cycle}
pub use Rattle.af_base.specs.declared.log.CycleEntry.{CycleEntry}
pub use Rattle.af_base.specs.declared.state.FastState.{FastState}
pub use Rattle.af_base.specs.declared.state.Push.{Push}
pub use Rattle.af_base.specs.declared.state.Push.TheVariants.{Busy, Clean, Pushed}
pub use Rattle.af_engine.specs.Met.{EndsMet}
pub use Rattle.af_engine.specs.Shares.{AreLinksOf, SharedState}
pub use Rattle.af_fast.specs.Mixer.{MixerState, adopted_states, is_over}
pub use Rattle.af_fast.specs.Mixing.{AddsCycle, MixesOnce}
pub use Rattle.af_io.specs.Causes.{HasCause}
pub use Rattle.af_io.specs.Files.{Files, LeavesFront, SetsFile}
pub use Rattle.af_io.specs.declared.store.StoreError.{StoreError}
pub use Rattle.af_life.specs.Edits.{after_push, commands_exit}
pub use Rattle.af_life.specs.Heard.{learnt}
pub use Rattle.af_life.specs.Kept.{NormalKept, Outside, Setup, new_normal}
pub use Rattle.af_life.specs.Plays.{after_takes}
pub use Rattle.af_life.specs.Turn.{LegalTurn, after_edits}
unfoldable pub use Rattle.af_life.specs.Turn.{turn_after}
pub use Rattle.af_life.specs.TurnEvents.{going, mutator_list, number_seen, push_list}
pub use Rattle.af_link.specs.declared.links.Links.{Links}
pub use Rattle.af_model.specs.Cycles.{cold_done, cycle_by, cycle_of, has_exit, is_mixed, state_of}
pub use Rattle.af_model.specs.JournalForm.{IsJournal, IsTurn, IsWhole}
pub use Rattle.af_model.specs.Journals.{EntrySeen, JournalData, RoundNoted, RoundSeen, RoundsNoted, cycles_of, entries_of, entries_seen, journal_of, rounds_seen}
pub use Rattle.af_model.specs.Numbers.{HasRanges}
pub use Rattle.af_model.specs.StateQueue.{HasStateHistory}
pub use Rattle.af_model.specs.declared.states.MutatorEvent.{MutatorEvent}
pub use Rattle.af_model.specs.declared.states.ObserverEvent.{ObserverEvent}
pub use Rattle.af_normal.specs.State.{NormalState, kept_of, setup_of}
pub use Rattle.af_party.specs.Parties.{PartyState}
pub use Rattle.af_play_law.specs.PlayRuns.{PlaysOn}
pub use Rattle.af_rendering.proofs.Basics.{no_fault, other_error}
pub use Rattle.af_rendering.proofs.FirstRound.{empty_first, frames_first, ready_first, silent_first}
pub use Rattle.af_rendering.proofs.JournalSound.{dealt, journal_form, journal_sounds, journal_whole, same_entries}
pub use Rattle.af_rendering.proofs.NotedRounds.{cause_never, cause_on, few_noted, left_whole, then_memory}
pub use Rattle.af_rendering.proofs.Outgoing.{on_err, stays_at}
pub use Rattle.af_told_law.proofs.NormalSteps.{all_push}
pub use Rattle.af_told_law.proofs.Quiet.{push_clean, turn_quiet}
pub use Rattle.af_told_law.specs.Between.{IsQuiet}
pub use Rattle.af_rendering.proofs.RoundForms.{Notes, noted_more, noted_none}
pub use Rattle.af_rendering.specs.SoFar.{AreNoted}
pub use Rattle.af_rendering.proofs.ShownWhole.{AreInStep, in_step_met, in_step_new, places_first, released_few, steps_told, tally_first, tally_pushed}
pub use Rattle.af_rendering.specs.declared.rendering.Played.{Played}
pub use Rattle.af_rendering.specs.declared.staging.Stage.{Stage}
pub use Rattle.af_runs.specs.Blocks.{Marks}
pub use Rattle.af_runs.specs.LegalRuns.{IsCutRun, IsLegalRun, marks_of, session_of}
pub use Rattle.af_runs.specs.Pcm.{journal_pcm}
pub use Rattle.af_runs.specs.Runs.{new_run}
pub use Rattle.af_runs.specs.Sessions.{Session, script_setup}
pub use Rattle.af_script.specs.Data.{ScriptData}
pub use Rattle.af_script.specs.Form.{IsScript}
pub use Rattle.af_script.specs.declared.track.TrackSpec.{TrackSpec}
pub use Rattle.af_server.specs.Order.{ServerState}
pub use Rattle.af_session.proofs.FastAdds.{polled_keeps}
pub use Rattle.af_session.proofs.FollowingRounds.{ends_keep}
pub use Rattle.af_session.specs.Ends.{EndsState, ends_from}
pub use Rattle.af_session.specs.NewSession.{IsNewSession}
pub use Rattle.af_session.specs.Noted.{HasFrames, NotesFrames}
pub use Rattle.af_session.specs.Rooms.{CarriesOn, HasPlacesAt, HasRoundRoom, IsReadyOn, KeepsRoom, KeepsSizes, KeepsSound, given_of}
pub use Rattle.af_session.specs.Rounds.{Given, IsReady, end_party, with_ends}
pub use Rattle.af_session.specs.Shown.{shown_at, shown_in, summary_told}
pub use Rattle.af_session.specs.Together.{AreTogether, SessionState}
pub use Rattle.af_session.specs.declared.rig.Rig.{Rig}
pub use Rattle.af_session.specs.declared.room.Room.{Room}
pub use Rattle.af_side_by_side.specs.Alone.{CyclesOn, CyclesOnce, FastTurned, most_cycles}
pub use Rattle.af_side_by_side.specs.Logging.{BeginsLog, HasLogOf, IsLogOf, LoggingState, LogsPlay, TellsLog, count_refused, notes_kept}
pub use Rattle.af_side_by_side.specs.SideBySide.{ClientPlayed, IsRoundOfAll, NormalPlayed, TurnPlayed, all_noted}
pub use Rattle.af_stateq.specs.Laws.{polled_states, pushed_states}
pub use Rattle.af_stateq.specs.Observes.{AreTold, Observes}
pub use Rattle.af_tally.specs.Sound.{pcm_of}
pub use Rattle.af_tally.specs.Summaries.{nothing_shown}
pub use Rattle.af_tally.specs.Tallies.{IsTally, Tallied}
pub use Rattle.af_told_law.proofs.LogMore.{GrowsBy, entries_grown, grows_none, grows_then, mix_grows}
pub use Rattle.std.proofs.lemmas.Bool.{MatchBool-at_false, MatchBool-at_true, eqb-false, true_from_ne_false}
pub use Rattle.std.proofs.lemmas.List.{length-append, length-drop, length-map, length-take}
pub use Rattle.std.proofs.lemmas.List.Concat.{flat_map-cons}
pub use Rattle.std.proofs.lemmas.Option.{get_or_from_slice_get, slice_get-map}
pub use Rattle.std.specs.Bool.{MatchBool}
pub use Rattle.std.specs.List.{AllByRecursion, list_all}
pub use Rattle.std.specs.Prelude.{All, slice_index_or}
