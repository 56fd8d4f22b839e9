-- The stream blocks of all tracks follow an entry as the run tells it.
use Rattle.std.proofs.Common.{◌≡◌, ℕ, zero, suc, ◌^◌, ◌<◌, ◌≤◌, Bool, true, false, if◌then◌else◌, unwrap_or, refl, sym, ap, ◌∙◌, subst, List, length, length-set, map, Option, Some, None, arith}
use Rattle.af_judge.proofs.Common.{BlockTold, CycleEntry, EntrySeen, FastState, Frame, Marks, Run, Session, Shape, TrackTold, cycle_frames, entry_slot, frames_taken, get_or_from_slice_get, mixed_track, no_track, packed_word, played, shows_slot, sides_of, slice_get, slice_get-get_or, slice_get_within, slice_set, slot_of, slots, spec_of, state_for, told_at, with_looks}
use Rattle.af_judge.proofs.Basics.{each_at, each_long}
use Rattle.af_runs.specs.Runs.{slot_playing}
use Rattle.af_judge.specs.declared.track_judge.TrackJudge.{TrackJudge}
use Rattle.af_judge.specs.Blocks.{BlockJudged, IsBlockOf, played_told}
use Rattle.af_judge.specs.Entries.{CarriesApart}
use Rattle.af_judge.proofs.Words.{StandsIn, StreamsOf}
use Rattle.af_judge.specs.FastKept.{slots_played, stream_changed}
use Rattle.af_judge.specs.Judging.{ClientJudged, IsKeptOf}
use Rattle.af_judge.specs.NormalTold.{IsTrackAt}
use Rattle.af_judge.specs.RunTold.{IsServedBlock, IsServedTrack, KeepsTracks}
use Rattle.af_judge.specs.Tracks.{IsTrackOf}
use Rattle.af_judge.proofs.EntryLegal.{there}
use Rattle.af_judge.proofs.EntryTracks.{mixed_sides, track_mixed}

changed-long : (n : ℕ) (change : BlockJudged → BlockJudged) (tracks : List TrackJudge) → length (stream_changed n change tracks) ≡ length tracks
changed-long n change tracks = by_there (slice_get tracks n)
  where
    by_there : (o : Option TrackJudge) → length (elim o as (λ o. List TrackJudge) [ None ↦ tracks | Some t ↦ slice_set tracks n (record t { stream = change t.stream }) ]) ≡ length tracks
    by_there None = refl
    by_there (Some t) = length-set tracks n (record t { stream = change t.stream })

played-long : (asked : ℕ) (x : FastState) (frames : List Frame) (entry : CycleEntry) (k : ℕ) (tracks : List TrackJudge) → length (slots_played asked x frames entry k tracks) ≡ length tracks
unfolding slots_played
played-long asked x frames entry zero tracks = refl
played-long asked x frames entry (suc k) tracks = by_case (shows_slot x entry k) ∙ played-long asked x frames entry k tracks
  where
    by_case : (b : Bool) → (let before = slots_played asked x frames entry k tracks in
        length (if b then stream_changed (slot_of x k).track (played_told asked (entry_slot entry k) (map packed_word (frames_taken frames (entry_slot entry k)))) before else before) ≡ length before)
    by_case true = changed-long (slot_of x k).track (played_told asked (entry_slot entry k) (map packed_word (frames_taken frames (entry_slot entry k)))) (slots_played asked x frames entry k tracks)
    by_case false = refl

-- the number of tracks is as it was
pub looks_long : (s : Session) (r : Run) (e : EntrySeen) → length (with_looks s e r).tracks ≡ length r.tracks
looks_long s r e = each_long (mixed_track s (state_for s r e.entry.state) e) 0 r.tracks

-- a track of a number, and the other way
pub track_there : (tracks : List TrackJudge) (n : ℕ) (t : TrackJudge) → IsTrackAt tracks n t → slice_get tracks n ≡ Some t
track_there tracks n t at = slice_get-get_or tracks n t at.0 ∙ sym (ap Some at.1)

pub track_at_place : (tracks : List TrackJudge) (n : ℕ) (t : TrackJudge) → slice_get tracks n ≡ Some t → IsTrackAt tracks n t
track_at_place tracks n t is = (slice_get_within tracks n t is, sym (get_or_from_slice_get tracks n t t is))

-- the server of the stream block of each is kept
pub streams_of : (s : Session) (marks : Marks) (W : ℕ → Type 0) (tracks : List TrackJudge) (r : Run) → KeepsTracks s marks W tracks r → StreamsOf marks r tracks
streams_of s marks W tracks r keeps = record {
  many = keeps.many;
  each = λ n t is.
      let h = keeps.served n t (track_at_place tracks n t is) in
      record { server = λ j. record { shape = h.stream.shape j; events = h.stream.server j }; lawful = h.lawful_stream; wrap = h.wrap_stream };
}

-- a track before and after the looks of an entry
record Mixed (s : Session) (r : Run) (e : EntrySeen) (n : ℕ) (tracks : List TrackJudge) (t : TrackJudge) : Type 0 where
  before : TrackJudge
  at : IsTrackAt tracks n before
  told : told_at (with_looks s e r) n ≡ mixed_track s (state_for s r e.entry.state) e n (told_at r n)
  client : t.client ≡ before.client
  commands : t.commands ≡ before.commands
  lawful : t.stream.lawful ≡ before.stream.lawful
  served : IsServedBlock before.stream (told_at r n).stream → IsServedBlock t.stream (mixed_track s (state_for s r e.entry.state) e n (told_at r n)).stream
  stream : IsBlockOf before.stream (told_at r n).stream → IsBlockOf t.stream (mixed_track s (state_for s r e.entry.state) e n (told_at r n)).stream

module _ (s : Session) (marks : Marks) (W : ℕ → Type 0) (r : Run) (e : EntrySeen) (frames : List Frame) (tracks : List TrackJudge) (apart : CarriesApart (state_for s r e.entry.state)) (stands : StandsIn frames e) where
  abbrev x : FastState
  x = state_for s r e.entry.state

  abbrev after : List TrackJudge
  after = slots_played (cycle_frames s) x frames e.entry slots tracks

  mixed-of : length tracks ≡ length r.tracks → (n : ℕ) (t : TrackJudge) → IsTrackAt after n t → Mixed s r e n tracks t
  mixed-of m n t at =
      let long : length after ≡ length tracks = played-long (cycle_frames s) x frames e.entry slots tracks in
      let low : n < length tracks = let w = at.0 in omega (arith, w, long) in
      let old = there tracks n low in
      let mixed = track_mixed s x e frames tracks n old.track (told_at r n) apart stands old.is in
      let same : mixed.track ≡ t = ap (λ (o : Option TrackJudge). unwrap_or o t) (sym mixed.is ∙ track_there after n t at) in
      subst (Mixed s r e n tracks) same (record {
        before = old.track;
        at = track_at_place tracks n old.track old.is;
        told = each_at (mixed_track s x e) 0 r.tracks n n no_track (omega (arith, low, m)) (omega arith);
        client = mixed.client;
        commands = mixed.commands;
        lawful = mixed.lawful;
        served = mixed.served;
        stream = mixed.stream;
      })

  -- no shape changes, and no command block
  wrap-same : (n : ℕ) (b : TrackTold) → (mixed_track s x e n b).stream.shape ≡ b.stream.shape
  wrap-same n b = by_slot (slot_playing x e.entry n)
    where
      by_slot : (o : Option ℕ) → (elim o as (λ o. TrackTold) [ None ↦ b | Some i ↦ record b { stream = played (cycle_frames s) e i b.stream } ]).stream.shape ≡ b.stream.shape
      by_slot None = refl
      by_slot (Some i) = refl

  commands-same : (n : ℕ) (b : TrackTold) → (mixed_track s x e n b).commands ≡ b.commands
  commands-same n b = by_slot (slot_playing x e.entry n)
    where
      by_slot : (o : Option ℕ) → (elim o as (λ o. TrackTold) [ None ↦ b | Some i ↦ record b { stream = played (cycle_frames s) e i b.stream } ]).commands ≡ b.commands
      by_slot None = refl
      by_slot (Some i) = refl

  served-of : (n : ℕ) (t : TrackJudge) (m : Mixed s r e n tracks t) → IsServedTrack marks n m.before (told_at r n) → IsServedTrack marks n t (told_at (with_looks s e r) n)
  served-of n t m h = subst (IsServedTrack marks n t) (sym m.told) (record {
    stream = m.served h.stream;
    commands = subst (IsServedBlock t.commands) (sym (commands-same n (told_at r n))) (subst (λ (j : BlockJudged). IsServedBlock j (told_at r n).commands) (sym m.commands) h.commands);
    lawful_stream = h.lawful_stream ∙ sym m.lawful;
    lawful_commands = h.lawful_commands ∙ ap (λ (j : BlockJudged). j.lawful) (sym m.commands);
    wrap_stream = subst (λ (k : Shape). k.wrap ≤ 2 ^ 31) (sym (wrap-same n (told_at r n))) h.wrap_stream;
    wrap_commands = subst (λ (b : BlockTold). b.shape.wrap ≤ 2 ^ 31) (sym (commands-same n (told_at r n))) h.wrap_commands;
  })

  whole-of : (n : ℕ) (t : TrackJudge) (m : Mixed s r e n tracks t) → IsTrackOf (spec_of s n).ops m.before (told_at r n) → IsTrackOf (spec_of s n).ops t (told_at (with_looks s e r) n)
  whole-of n t m h = subst (IsTrackOf (spec_of s n).ops t) (sym m.told) (record {
    client = subst (IsKeptOf (spec_of s n).ops t.client) (sym (mixed_sides s x e n (told_at r n))) (subst (λ (j : ClientJudged). IsKeptOf (spec_of s n).ops j (sides_of (told_at r n))) (sym m.client) h.client);
    stream = m.stream h.stream;
    commands = subst (IsBlockOf t.commands) (sym (commands-same n (told_at r n))) (subst (λ (j : BlockJudged). IsBlockOf j (told_at r n).commands) (sym m.commands) h.commands);
  })

  -- each track that is kept of a run is kept of it after the looks of an entry
  pub tracks_mixed : KeepsTracks s marks W tracks r → KeepsTracks s marks W after (with_looks s e r)
  tracks_mixed keeps =
      let long : length after ≡ length tracks = played-long (cycle_frames s) x frames e.entry slots tracks in
      record {
        many = long ∙ (keeps.many ∙ sym (looks_long s r e));
        all = long ∙ keeps.all;
        served = λ n t at. let m = mixed-of keeps.many n t at in served-of n t m (keeps.served n m.before m.at);
        whole = λ n t at w. let m = mixed-of keeps.many n t at in whole-of n t m (keeps.whole n m.before m.at w);
      }
