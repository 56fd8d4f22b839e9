-- The tracks that a judge keeps follow an entry as the run tells it.
use Rattle.std.proofs.Common.{◌≡◌, ◌⊎◌, inl, inr, ℕ, zero, suc, ◌+◌, ◌<◌, ◌≤◌, ◌==◌, ◌&&◌, Bool, true, false, true≢false, if◌then◌else◌, is_some, unwrap_or, refl, sym, ap, ◌∙◌, subst, List, length, length-set, map, Option, Some, None, eqb-true, arith}
use Rattle.af_judge.proofs.Common.{ClientEvent, CycleEntry, EntrySeen, FastState, Frame, Session, Track, TrackTold, both as both-true, carries, cases_eq, count_seen, cycle_events, cycle_frames, entry_slot, eqb-false, find, frames_taken, front_of, get_or-set_other, get_or-set_same, get_or_from_slice_get, length-map, listed, mixed_track, packed_word, played, shows_slot, range_with_len, server_does, sides_of, slice_get, slice_get-get_or, slice_get_within, slice_set, slot_of, slots, took}
use Rattle.af_runs.specs.Runs.{slot_playing}
use Rattle.af_judge.specs.declared.track_judge.TrackJudge.{TrackJudge}
use Rattle.af_judge.specs.Blocks.{BlockJudged, IsBlockOf, played_told}
use Rattle.af_judge.specs.Entries.{CarriesApart}
use Rattle.af_judge.proofs.Words.{StandsIn}
use Rattle.af_judge.specs.FastKept.{slot_played, slots_played, stream_changed}
use Rattle.af_judge.specs.RunTold.{IsServedBlock}
use Rattle.af_judge.proofs.BlocksTold.{server-client}
use Rattle.af_judge.proofs.ServedSteps.{played_served}
use Rattle.af_judge.proofs.StepsTold.{played_kept}

-- ## One track changed

module _ (n : ℕ) (change : BlockJudged → BlockJudged) (tracks : List TrackJudge) where
  changed_same : (t : TrackJudge) → slice_get tracks n ≡ Some t → slice_get (stream_changed n change tracks) n ≡ Some (record t { stream = change t.stream })
  changed_same t is =
      let v : TrackJudge = record t { stream = change t.stream } in
      let low : n < length tracks = slice_get_within tracks n t is in
      let long : n < length (slice_set tracks n v) = let l = length-set tracks n v in omega (arith, low, l) in
      ap (λ (o : Option TrackJudge). slice_get (elim o as (λ o. List TrackJudge) [ None ↦ tracks | Some t ↦ slice_set tracks n (record t { stream = change t.stream }) ]) n) is
      ∙ (slice_get-get_or (slice_set tracks n v) n v long ∙ ap Some (get_or-set_same tracks n v v low))

  changed_other : (m : ℕ) (t : TrackJudge) → (m ≡ n → ⊥) → slice_get tracks m ≡ Some t → slice_get (stream_changed n change tracks) m ≡ Some t
  changed_other m t apart is = by_there (slice_get tracks n)
    where
      by_there : (o : Option TrackJudge) → slice_get (elim o as (λ o. List TrackJudge) [ None ↦ tracks | Some t ↦ slice_set tracks n (record t { stream = change t.stream }) ]) m ≡ Some t
      by_there None = is
      by_there (Some u) =
          let v : TrackJudge = record u { stream = change u.stream } in
          let low : m < length tracks = slice_get_within tracks m t is in
          let long : m < length (slice_set tracks n v) = let l = length-set tracks n v in omega (arith, low, l) in
          slice_get-get_or (slice_set tracks n v) m t long ∙ ap Some (get_or-set_other tracks n m v t apart ∙ get_or_from_slice_get tracks m t t is)

-- ## The slots, one after the other

-- the slot plays the track
abbrev pub plays_track : FastState → CycleEntry → ℕ → ℕ → Bool
plays_track x entry n i = shows_slot x entry i && ((slot_of x i).track == n)

module _ (asked : ℕ) (x : FastState) (frames : List Frame) (entry : CycleEntry) (n : ℕ) where
  -- a track played in a slot
  abbrev played_in : ℕ → TrackJudge → TrackJudge
  played_in i t = record t { stream = played_told asked (entry_slot entry i) (map packed_word (frames_taken frames (entry_slot entry i))) t.stream }

  abbrev change_in : ℕ → BlockJudged → BlockJudged
  change_in i = played_told asked (entry_slot entry i) (map packed_word (frames_taken frames (entry_slot entry i)))

  slot_other : (i : ℕ) (tracks : List TrackJudge) (t : TrackJudge) → plays_track x entry n i ≡ false → slice_get tracks n ≡ Some t → slice_get (slot_played asked x frames entry i tracks) n ≡ Some t
  slot_other i tracks t unplayed is = by_case (shows_slot x entry i) unplayed
    where
      by_case : (b : Bool) → (b && ((slot_of x i).track == n)) ≡ false → slice_get (if b then stream_changed (slot_of x i).track (change_in i) tracks else tracks) n ≡ Some t
      by_case true e = changed_other (slot_of x i).track (change_in i) tracks n t (λ same. eqb-false (slot_of x i).track n e (sym same)) is
      by_case false e = is

  slot_same : (i : ℕ) (tracks : List TrackJudge) (t : TrackJudge) → plays_track x entry n i ≡ true → slice_get tracks n ≡ Some t → slice_get (slot_played asked x frames entry i tracks) n ≡ Some (played_in i t)
  slot_same i tracks t shows is =
      let both = both-true (shows_slot x entry i) ((slot_of x i).track == n) shows in
      let same : n ≡ (slot_of x i).track = sym (eqb-true (slot_of x i).track n both.1) in
      ap (λ (b : Bool). slice_get (if b then stream_changed (slot_of x i).track (change_in i) tracks else tracks) n) both.0
      ∙ subst (λ (m : ℕ). slice_get (stream_changed m (change_in i) tracks) n ≡ Some (played_in i t)) same (changed_same n (change_in i) tracks t is)

  -- a track that no slot plays is as it was
  pub not_played : (k : ℕ) (tracks : List TrackJudge) (t : TrackJudge) → ((i : ℕ) → i < k → plays_track x entry n i ≡ false) → slice_get tracks n ≡ Some t → slice_get (slots_played asked x frames entry k tracks) n ≡ Some t
  unfolding slots_played
  not_played zero tracks t none is = is
  not_played (suc k) tracks t none is = slot_other k (slots_played asked x frames entry k tracks) t (none k (omega arith)) (not_played k tracks t (λ i lt. none i (omega (arith, lt))) is)

  not-so : (b : Bool) → (b ≡ true → ⊥) → b ≡ false
  not-so true h = absurd (h refl)
  not-so false h = refl

  -- a track that a slot plays is played once
  pub played_once : (i k : ℕ) (tracks : List TrackJudge) (t : TrackJudge) → i < k → plays_track x entry n i ≡ true → ((j : ℕ) → j < k → plays_track x entry n j ≡ true → j ≡ i) → slice_get tracks n ≡ Some t
      → slice_get (slots_played asked x frames entry k tracks) n ≡ Some (played_in i t)
  unfolding slots_played
  played_once i zero tracks t lt shows only is = absurd (let e : ⊥ = omega (arith, lt) in e)
  played_once i (suc k) tracks t lt shows only is = by_case (cases_eq i k) (λ low. played_once i k tracks t low shows (λ j less p. only j (omega (arith, less)) p) is)
    where
      before : (j : ℕ) → j < k → i ≡ k → plays_track x entry n j ≡ false
      before j low same = not-so (plays_track x entry n j) (λ p. let e = only j (omega (arith, low)) p in omega (arith, e, low, same))

      by_case : (i ≡ k) ⊎ (i ≡ k → ⊥) → (i < k → slice_get (slots_played asked x frames entry k tracks) n ≡ Some (played_in i t)) → slice_get (slot_played asked x frames entry k (slots_played asked x frames entry k tracks)) n ≡ Some (played_in i t)
      by_case (inl same) more = subst (λ (j : ℕ). slice_get (slot_played asked x frames entry k (slots_played asked x frames entry k tracks)) n ≡ Some (played_in j t)) (sym same)
          (slot_same k (slots_played asked x frames entry k tracks) t (subst (λ (j : ℕ). plays_track x entry n j ≡ true) same shows) (not_played k tracks t (λ j low. before j low same) is))
      by_case (inr apart) more = slot_other k (slots_played asked x frames entry k tracks) (played_in i t) (not-so (plays_track x entry n k) (λ p. apart (sym (only k (omega arith) p))))
          (more (let e : i < k = omega (arith, lt, apart) in e))

-- ## The slot that plays a track

record FoundAt (p : ℕ → Bool) (a n k : ℕ) : Type 0 where
  holds : p k ≡ true
  low : a ≤ k
  high : k < a + n

found-at : (p : ℕ → Bool) (a n k : ℕ) → find p (range_with_len a n) ≡ Some k → FoundAt p a n k
found-at p a zero k e = absurd (true≢false (sym (ap is_some e)))
found-at p a (suc n) k e = by_first (p a) refl (found-at p (a + 1) n k) e
  where
    by_first : (b : Bool) → p a ≡ b → (find p (range_with_len (a + 1) n) ≡ Some k → FoundAt p (a + 1) n k) → (if b then Some a else find p (range_with_len (a + 1) n)) ≡ Some k → FoundAt p a (suc n) k
    by_first true is later f = let same : a ≡ k = ap (λ (o : Option ℕ). unwrap_or o a) f in record { holds = subst (λ (j : ℕ). p j ≡ true) same is; low = omega (arith, same); high = omega (arith, same) }
    by_first false is later f = let more = later f in let l = more.low in let h = more.high in record { holds = more.holds; low = omega (arith, l); high = omega (arith, h) }

none-found : (p : ℕ → Bool) (a n : ℕ) → find p (range_with_len a n) ≡ None → (k : ℕ) → a ≤ k → k < a + n → p k ≡ false
none-found p a zero e k low high = absurd (let x : ⊥ = omega (arith, low, high) in x)
none-found p a (suc n) e k low high = by_first (p a) refl e (cases_eq a k) (λ f less. none-found p (a + 1) n f k less (omega (arith, high)))
  where
    by_first : (b : Bool) → p a ≡ b → (if b then Some a else find p (range_with_len (a + 1) n)) ≡ None → (a ≡ k) ⊎ (a ≡ k → ⊥) → (find p (range_with_len (a + 1) n) ≡ None → a + 1 ≤ k → p k ≡ false) → p k ≡ false
    by_first true is f c more = absurd (true≢false (ap is_some f))
    by_first false is f (inl same) more = subst (λ (j : ℕ). p j ≡ false) same is
    by_first false is f (inr apart) more = more f (let x : a + 1 ≤ k = omega (arith, low, apart) in x)

-- ## A track

-- a track after an entry is kept of the track that the entry leaves in the run, as it was kept before
pub record TrackMixed (s : Session) (x : FastState) (e : EntrySeen) (n : ℕ) (before : TrackJudge) (b : TrackTold) (after : List TrackJudge) : Type 0 where
  pub track : TrackJudge
  pub is : slice_get after n ≡ Some track
  pub client : track.client ≡ before.client
  pub commands : track.commands ≡ before.commands
  pub lawful : track.stream.lawful ≡ before.stream.lawful
  pub served : IsServedBlock before.stream b.stream → IsServedBlock track.stream (mixed_track s x e n b).stream
  pub stream : IsBlockOf before.stream b.stream → IsBlockOf track.stream (mixed_track s x e n b).stream

pub track_mixed : (s : Session) (x : FastState) (e : EntrySeen) (frames : List Frame) (tracks : List TrackJudge) (n : ℕ) (t : TrackJudge) (b : TrackTold) → CarriesApart x → StandsIn frames e → slice_get tracks n ≡ Some t
    → TrackMixed s x e n t b (slots_played (cycle_frames s) x frames e.entry slots tracks)
track_mixed s x e frames tracks n t b apart stands is = by_slot (slot_playing x e.entry n) refl
  where
    by_slot : (o : Option ℕ) → slot_playing x e.entry n ≡ o → TrackMixed s x e n t b (slots_played (cycle_frames s) x frames e.entry slots tracks)
    by_slot None o =
        let left : (mixed_track s x e n b).stream ≡ b.stream = ap (λ (q : Option ℕ). (elim q as (λ o. TrackTold) [ None ↦ b | Some i ↦ record b { stream = played (cycle_frames s) e i b.stream } ]).stream) o in
        record {
          track = t;
          is = not_played (cycle_frames s) x frames e.entry n slots tracks t (λ i lt. none-found (plays_track x e.entry n) 0 slots o i (omega arith) lt) is;
          client = refl;
          commands = refl;
          lawful = refl;
          served = subst (IsServedBlock t.stream) (sym left);
          stream = subst (IsBlockOf t.stream) (sym left);
        }
    by_slot (Some i) o =
        let at = found-at (plays_track x e.entry n) 0 slots i o in
        let here = both-true (shows_slot x e.entry i) ((slot_of x i).track == n) at.holds in
        let asked = cycle_frames s in
        let slot = entry_slot e.entry i in
        let words = map packed_word (frames_taken frames slot) in
        let long : length words ≡ count_seen slot.seen = length-map (frames_taken frames slot) packed_word ∙ (ap (λ (fs : List Frame). length fs) (stands.same i at.high) ∙ stands.many i at.high) in
        let left : took words (server_does (cycle_events asked (listed b.stream) slot (front_of asked (listed b.stream) slot)) b.stream) ≡ (mixed_track s x e n b).stream =
        ap (λ (fs : List Frame). took (map packed_word fs) (server_does (cycle_events asked (listed b.stream) slot (front_of asked (listed b.stream) slot)) b.stream)) (stands.same i at.high)
        ∙ sym (ap (λ (q : Option ℕ). (elim q as (λ o. TrackTold) [ None ↦ b | Some i ↦ record b { stream = played asked e i b.stream } ]).stream) o) in
        record {
          track = played_in asked x frames e.entry n i t;
          is = played_once asked x frames e.entry n i slots tracks t at.high at.holds
              (λ j low p. let there = both-true (shows_slot x e.entry j) ((slot_of x j).track == n) p in
              apart j i low at.high (both-true (carries x j) _ there.0).0 (both-true (carries x i) _ here.0).0 (eqb-true (slot_of x j).track n there.1 ∙ sym (eqb-true (slot_of x i).track n here.1))) is;
          client = refl;
          commands = refl;
          lawful = refl;
          served = λ kept. subst (IsServedBlock (played_in asked x frames e.entry n i t).stream) left (played_served t.stream b.stream asked slot words kept long);
          stream = λ kept. subst (IsBlockOf (played_in asked x frames e.entry n i t).stream) left (played_kept t.stream b.stream asked slot words kept long);
        }

-- the client's side of the track is as it was
pub mixed_sides : (s : Session) (x : FastState) (e : EntrySeen) (n : ℕ) (b : TrackTold) → sides_of (mixed_track s x e n b) ≡ sides_of b
mixed_sides s x e n b = by_slot (slot_playing x e.entry n)
  where
    by_slot : (o : Option ℕ) → sides_of (elim o as (λ o. TrackTold) [ None ↦ b | Some i ↦ record b { stream = played (cycle_frames s) e i b.stream } ]) ≡ sides_of b
    by_slot None = refl
    by_slot (Some i) =
        let slot = entry_slot e.entry i in
        let same = server-client b.stream.told (cycle_events (cycle_frames s) (listed b.stream) slot (front_of (cycle_frames s) (listed b.stream) slot)) in
        ap (λ (es : List ClientEvent). let t : Track = record (sides_of b) { stream = record { shape = b.stream.shape; events = es; released = b.stream.released } } in t) same
