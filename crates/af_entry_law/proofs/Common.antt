-- The names of other crates that the proofs of this one cite, passed on from one place. Declares nothing.
pub use Rattle.af_base.proofs.Basics.{no}
pub use Rattle.af_base.specs.Turn.{TakeSeen, TrackSeen, Turn}
pub use Rattle.af_base.specs.declared.state.FastState.{FastState}
pub use Rattle.af_base.specs.declared.turn.CommandLook.{CommandLook}
pub use Rattle.af_life.specs.Edits.{after_ack, after_push, comes_home, edited_to, entered, commands_exit, lent_by, must_enter, must_leave}
unfoldable pub use Rattle.af_life.specs.Edits.{edited, lend, let_go, mutated, next_command, ordered, welcomed}
pub use Rattle.af_life.specs.Heard.{counts_in, heard, is_reached, is_reported, learnt, ready, slot_reported}
unfoldable pub use Rattle.af_life.specs.Heard.{noted, settled_at}
pub use Rattle.af_life.specs.Kept.{Learnt, NormalKept, Outside, Setup, asked, is_home, no_counts, nothing_seen, pipe_size, plays, seen_at, setting_of, slot_number, track_at}
pub use Rattle.af_life.specs.Obeys.{after_looks, are_due, ended, goes_on, holds, is_shut, must_wait, opens, shows_command, slot_for, told}
unfoldable pub use Rattle.af_life.specs.Obeys.{after_look, obeyed}
pub use Rattle.af_life.specs.Plays.{after_take, after_takes}
unfoldable pub use Rattle.af_life.specs.Reports.{by_report, told_by_report}
pub use Rattle.af_life.specs.Serves.{HasDueLooks, IsServed, LegalTrack, after_commands, is_found_shut, most_looks, served_to, state_code, status_due, stored_over}
unfoldable pub use Rattle.af_life.specs.Serves.{after_part, served, status_word}
pub use Rattle.af_life.specs.Turn.{GoesOn, LegalTurn, after_edits, after_tracks}
unfoldable pub use Rattle.af_life.specs.Turn.{turn_after}
pub use Rattle.af_life.specs.declared.kept.TrackKept.{TrackKept}
pub use Rattle.af_life.specs.declared.track.Life.{Life}
pub use Rattle.af_model.specs.Journals.{EntrySeen, RoundSeen}
pub use Rattle.af_runs.specs.Blocks.{Marks, meets}
pub use Rattle.af_runs.specs.Clients.{ends}
pub use Rattle.af_runs.specs.Found.{LegalTurnBy, TurnFound, outside_of}
pub use Rattle.af_runs.specs.Rounds.{LegalNormalTurn, after_round, after_turn, before_turn, early_of, found_in, late_of, loaded, turned}
pub use Rattle.af_runs.specs.Runs.{Run, TrackTold, called_in_turn, calls_in, draft_after, changed_from, each_track, mixed_track, played, pushed_by, client_side, state_for, stream_met, takes_part, track_met, turned_track, with_cycle, with_cycles}
unfoldable pub use Rattle.af_runs.specs.Runs.{met, with_calls, with_ends, with_load, with_mix, with_poll, with_turn}
pub use Rattle.af_runs.specs.Sessions.{Session, cycle_frames, setup_of}
pub use Rattle.std.proofs.lemmas.Option.{none-some, same_Some}
pub use Rattle.std.specs.List.{AllByRecursion, find, list_all, list_any, range_with_len}
pub use Rattle.std.specs.Prelude.{MatchOption, slice_set}
