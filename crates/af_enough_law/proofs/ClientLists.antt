-- The client's list of a stream block through a round: its client's calls alone add to it, up to the meeting.
use Rattle.std.proofs.Common.{◌≡◌, ℕ, List, [], ◌∷◌, refl, ◌∙◌, Option, Some, None}
use Rattle.af_enough_law.proofs.Common.{EntrySeen, NormalKept, RoundSeen, Run, Session, TrackTold, Turn, TurnFound, after_turn, called_in_turn, calls_in, client_list, cycle_frames, early_of, found_in, hand-client, hand_does, late_of, learnt, mixed_track, outside_of, played, server-client, setup_of, slot_playing, state_for, stream_list, tracks_at, with_calls, with_cycle, with_poll}
use Rattle.af_life.specs.TurnEvents.{hand_events_of}
use Rattle.af_enough_law.proofs.RunTracks.{mixed_by, turned_by, played_track}
use Rattle.af_enough_law.proofs.FastSteps.{played_client as played_list}

-- ## The client's list of a stream block is its client's alone

module _ (s : Session) where
  mixed_if : (e : EntrySeen) (t : TrackTold) (o : Option ℕ) → let u : TrackTold = elim o as (λ o. TrackTold) [ None ↦ t | Some i ↦ record t { stream = played (cycle_frames s) e i t.stream } ] in client_list u.stream ≡ client_list t.stream
  mixed_if e t None = refl
  mixed_if e t (Some i) = played_list (cycle_frames s) e i t.stream

  pub mixed_list : (run : Run) (es : List EntrySeen) (i : ℕ) (t : TrackTold) → client_list (mixed_by s run es i t).stream ≡ client_list t.stream
  unfolding mixed_by
  mixed_list run [] i t = refl
  mixed_list run (e ∷ es) i t = let x = state_for s (with_poll s e.entry.state run) e.entry.state in
      mixed_list (with_cycle s run e) es i (mixed_track s x e i t) ∙ mixed_if e t (slot_playing x e.entry i)

  pub turned_list : (found : Turn → TurnFound) (o : Option Turn) (m : NormalKept) (i : ℕ) (t : TrackTold) → client_list (turned_by s found o m i t).stream ≡ client_list t.stream
  unfolding turned_by
  turned_list found None m i t = refl
  turned_list found (Some e) m i t = let o = outside_of (setup_of s) (found e) e in
      server-client (hand_does (hand_events_of e i) t.stream).told (stream_list (setup_of s) o e (tracks_at (setup_of s) (learnt o) m e i) i) ∙ hand-client t.stream.told (hand_events_of e i)

  module _ (run : Run) (round : RoundSeen) where
    pub played_client_list : (i : ℕ) (t : TrackTold) → client_list (played_track s run round i t).stream ≡ client_list (called_in_turn (calls_in round i) t).stream
    unfolding played_track
    played_client_list i t =
        let early = mixed_by s (with_calls round run) (early_of run round) i (called_in_turn (calls_in round i) t) in
        mixed_list (after_turn s run round) (late_of run round) i (turned_by s (found_in s run round) round.turn run.normal i early)
        ∙ turned_list (found_in s run round) round.turn run.normal i early ∙ mixed_list (with_calls round run) (early_of run round) i (called_in_turn (calls_in round i) t)
