-- The blocks of a run keep their sizes: they have no more frames than a block may have, in the first run and after each round.
use Rattle.std.proofs.Common.{◌≡◌, ℕ, ◌<◌, ◌≤◌, List, sym, subst, arith}
use Rattle.af_told_law.proofs.Common.{Frame, IsNewSession, RoundSeen, Run, ScriptData, Session, SessionState, Shape, SharedState, TrackSpec, TurnSpec, get_or-map-range_with_len, get_or_from_slice_get, length-map-range_with_len, met_alone, new_run, no_spec, no_track, session_of, shape_met, spec_of, track_count, with_ends, IsQuietlyKept, round_alone_keeps}
use Rattle.af_runs.specs.Runs.{new_told_track}
use Rattle.af_told_law.specs.Sizes.{IsSmallRun, IsTrackSmall}

-- ## What a round does

-- no step changes a size
small_kept : IsQuietlyKept (λ n. IsTrackSmall)
small_kept = record {
  slot_plays = λ asked e slot n t h. h;
  turns = λ c o m e n t h. h;
  all_meet = λ part handed n t h. (subst (λ (k : Shape). k.frames ≤ 65536) (sym (shape_met part handed t.stream)) h.0, h.1);
  client_ends = λ n t h. h;
}

-- a round of one party leaves the blocks as small
pub round_small : (s : Session) (run : Run) (turn : TurnSpec) (round : RoundSeen) → IsSmallRun run → IsSmallRun (with_ends (met_alone s run turn round))
round_small s run turn round h = round_alone_keeps (λ n. IsTrackSmall) small_kept s run turn round (λ track is low h. h) h

-- ## The first run

module _ (script : ScriptData) (files : List (List Frame)) (shared : SharedState) (x : SessionState) (new : IsNewSession script shared x) where
  abbrev here : Session
  here = session_of script files

  track_small : (i : ℕ) → i < track_count here → IsTrackSmall (new_told_track here i)
  track_small i low =
      let at_place = new.tracks.each i low in
      let spec_is : at_place.spec ≡ spec_of here i = sym (get_or_from_slice_get script.tracks i at_place.spec no_spec at_place.spec_at) in
      (subst (λ (spec : TrackSpec). spec.frames ≤ 65536) spec_is at_place.new.stream_line.sound.few, omega arith)

  -- the first run of a new session is small
  pub new_small : IsSmallRun (new_run here)
  new_small n low =
      let below : n < track_count here = (let l = length-map-range_with_len (new_told_track here) 0 (track_count here) in omega (arith, low, l)) in
      subst IsTrackSmall (sym (get_or-map-range_with_len (new_told_track here) 0 (track_count here) n n no_track below (omega arith))) (track_small n below)
