-- What mixing one track changes, and what it leaves.
use Rattle.std.proofs.Common.{◌≡◌, ℕ, ◌<◌, ◌≢◌, Bool, false, List, length, map, is_some, slice_index_or, slice_set, Option, Some, None, MatchOption, sym, ap, subst, ◌∙◌, get_or-set_other, get_or-set_same, arith, ⊎_elim}
use Rattle.af_normal.proofs.Common.{IsServerOf, Made, NormalTake, ServerState, TrackKept, by_bool, cases_eq, look_counted, get_or-map, is_mixed_here, length-map, new_track, take_seen, track_at}
use Rattle.std.proofs.Math.Seq.{map-set_same}
use Rattle.af_normal.specs.Mixing.{Mixing, TakesOf, MixesTrack, stream_at}
use Rattle.af_normal.specs.AllMixed.{AreHome, AreServersOf}

-- the tracks, the proxies and the takes of the program
abbrev pub mixing : List TrackKept → List (Option ServerState) → List NormalTake → Mixing
mixing tracks streams takes = record { tracks = tracks; streams = streams; takes = map take_seen takes }

module _ (asked i : ℕ) (x y : Mixing) where
  pub by_track : (R : Type 0) → (TakesOf asked i x y → R) → (y ≡ x → R) → MixesTrack asked i x y → R
  by_track R f g m = by_bool (is_mixed_here (track_at x.tracks i)) (TakesOf asked i x y) (y ≡ x) R f g m

  -- the other tracks, and their proxies, are as they were
  pub other_track : (k : ℕ) → k ≢ i → MixesTrack asked i x y → track_at y.tracks k ≡ track_at x.tracks k
  other_track k ne m = by_track (track_at y.tracks k ≡ track_at x.tracks k)
      (λ t. ap (λ (z : Mixing). track_at z.tracks k) t.then
      ∙ get_or-set_other x.tracks t.take.track k _ new_track (λ e. ne (e ∙ t.takes.track)))
      (λ e. ap (λ (z : Mixing). track_at z.tracks k) e) m

  pub other_stream : (k : ℕ) → k ≢ i → MixesTrack asked i x y → stream_at y.streams k ≡ stream_at x.streams k
  other_stream k ne m = by_track (stream_at y.streams k ≡ stream_at x.streams k)
      (λ t. ap (λ (z : Mixing). stream_at z.streams k) t.then ∙ get_or-set_other x.streams i k (Some t.after) None ne)
      (λ e. ap (λ (z : Mixing). stream_at z.streams k) e) m

  -- no proxy comes or goes
  pub same_there : MixesTrack asked i x y → map is_some y.streams ≡ map is_some x.streams
  same_there m = by_track (map is_some y.streams ≡ map is_some x.streams)
      (λ t. ap (λ (z : Mixing). map is_some z.streams) t.then
      ∙ map-set_same is_some x.streams i (Some t.after) None (sym (ap is_some t.is_home)))
      (λ e. ap (λ (z : Mixing). map is_some z.streams) e) m

  -- another track isn't mixed elsewhere afterwards
  pub same_mixed : (k : ℕ) → k < length x.tracks → MixesTrack asked i x y → is_mixed_here (track_at y.tracks k) ≡ is_mixed_here (track_at x.tracks k)
  same_mixed k lt m = ⊎_elim
      (λ (e : k ≡ i). by_track (is_mixed_here (track_at y.tracks k) ≡ is_mixed_here (track_at x.tracks k))
      (λ t. let at : t.take.track ≡ k = t.takes.track ∙ sym e in
      let s : TrackKept = track_at x.tracks t.take.track in
      let now : TrackKept = record s { own = look_counted asked t.take.slot.seen s.own } in
      ap (λ (z : Mixing). is_mixed_here (track_at z.tracks k)) t.then
      ∙ ap (λ (n : ℕ). is_mixed_here (track_at (slice_set x.tracks t.take.track now) n)) (sym at)
      ∙ ap is_mixed_here (get_or-set_same x.tracks t.take.track now new_track (subst (λ (n : ℕ). n < length x.tracks) (sym at) lt))
      ∙ ap (λ (n : ℕ). is_mixed_here (track_at x.tracks n)) at)
      (λ e. ap (λ (z : Mixing). is_mixed_here (track_at z.tracks k)) e) m)
      (λ (ne : k ≢ i). ap is_mixed_here (other_track k ne m))
      (cases_eq k i)

  some_at : (streams : List (Option ServerState)) (k : ℕ) → k < length streams → slice_index_or (map is_some streams) k false ≡ is_some (stream_at streams k)
  some_at streams k lt = get_or-map is_some streams k None false lt

  pub still_home : length x.streams ≡ length x.tracks → length y.tracks ≡ length x.tracks → AreHome x.tracks x.streams → MixesTrack asked i x y → AreHome y.tracks y.streams
  still_home long same home m = λ k lt here.
      let inside : k < length x.tracks = omega (arith, same) in
      let wide : length y.streams ≡ length x.streams = sym (length-map y.streams is_some) ∙ ap length (same_there m) ∙ length-map x.streams is_some in
      sym (some_at y.streams k (omega (arith, wide)))
      ∙ ap (λ (bs : List Bool). slice_index_or bs k false) (same_there m)
      ∙ some_at x.streams k (omega arith)
      ∙ home k inside (sym (same_mixed k inside m) ∙ here)

  pub still_servers : (blocks : List Made) → AreServersOf blocks x.streams → ((block : Made) → MatchOption (stream_at y.streams i) (Unit {0}) (IsServerOf (slice_index_or blocks i block)))
      → MixesTrack asked i x y → AreServersOf blocks y.streams
  still_servers blocks before here m = λ k block lt.
      let wide : length y.streams ≡ length x.streams = sym (length-map y.streams is_some) ∙ ap length (same_there m) ∙ length-map x.streams is_some in
      ⊎_elim
      (λ (e : k ≡ i). subst (λ (n : ℕ). MatchOption (stream_at y.streams n) (Unit {0}) (IsServerOf (slice_index_or blocks n block))) (sym e) (here block))
      (λ (ne : k ≢ i). subst (λ (s : Option ServerState). MatchOption s (Unit {0}) (IsServerOf (slice_index_or blocks k block))) (sym (other_stream k ne m)) (before k block (omega (arith, wide))))
      (cases_eq k i)
