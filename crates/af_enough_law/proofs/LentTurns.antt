-- A turn does nothing to the server of a stream whose proxy is away, of a track that has a slot.
use Rattle.std.proofs.Common.{◌≡◌, ℕ, zero, suc, ◌+◌, ◌<◌, ◌==◌, ◌&&◌, not, nat_le, if◌then◌else◌, is_some, Bool, true, false, true≢false, Option, List, [], ◌∷◌, ◌++◌, length, map, filter, get_or, refl, sym, ap, ◌∙◌, arith, append-nil, eqb-true}
use Rattle.af_enough_law.proofs.Common.{BlockTold, GoesOn, Holder, Learnt, Marks, NormalKept, Outside, RoundSeen, Run, ServerEvent, Session, Setup, TakeSeen, TrackKept, TrackTold, Turn, acked_len, after_ack, after_edits, after_push, after_takes, after_tracks, after_turn, asked as buffer, before_turn, cycle_events, edits_len, flat_map, found_in, hand_does, invalid, is_home, is_mixed_here, learnt, mix_events, mixed_here, not_yet, outside_of, plays, push_tracks, range_with_len, served_len, server_list, setup_of, stream_list, takes_from, told_at, track_at, track_in, tracks_at, turn_after, turned}
use Rattle.af_enough_law.proofs.Basics.{before_normal}
use Rattle.af_life.specs.TurnEvents.{hand_events_of}
use Rattle.af_enough_law.proofs.NormalRounds.{TurnMade}
use Rattle.af_enough_law.proofs.FastSteps.{server_does-server, hand_does-server}
use Rattle.af_enough_law.proofs.Following.{greeted_in}
use Rattle.af_enough_law.proofs.RunTracks.{before_long, turn_track}
use Rattle.af_enough_law.proofs.Served.{greeted_at, own_all, ordered_tracks}

-- ## No take

first_or : ℕ → List ℕ → ℕ
first_or d xs = get_or xs 0 d

tail_numbers : List ℕ → List ℕ
tail_numbers [] = []
tail_numbers (x ∷ xs) = xs

-- there is no take of a track that is out
module _ (p : ℕ → Bool) (i : ℕ) (out : p i ≡ false) where
  none_of : (a n : ℕ) (takes : List TakeSeen) → map (λ take. take.track) takes ≡ filter p (range_with_len a n) → takes_from takes i ≡ []
  unfolding first_or tail_numbers
  none_of a n [] is = refl
  none_of a zero (t ∷ takes) is = absurd (let e = ap length is in let z : ⊥ = omega (arith, e) in z)
  none_of a (suc n) (t ∷ takes) is = by (p a) refl is (λ e. none_of (a + 1) n takes e) (λ e. none_of (a + 1) n (t ∷ takes) e)
    where
      by_track : (b : Bool) → (t.track == i) ≡ b → p a ≡ true → t.track ≡ a → takes_from takes i ≡ [] → (if b then t ∷ takes_from takes i else takes_from takes i) ≡ []
      by_track true same holds at rest = absurd (true≢false (sym holds ∙ ap p (sym at ∙ eqb-true t.track i same) ∙ out))
      by_track false other holds at rest = rest

      by : (b : Bool) → p a ≡ b → map (λ (take : TakeSeen). take.track) (t ∷ takes) ≡ (if b then a ∷ filter p (range_with_len (a + 1) n) else filter p (range_with_len (a + 1) n)) → (map (λ (take : TakeSeen). take.track) takes ≡ filter p (range_with_len (a + 1) n) → takes_from takes i ≡ [])
          → (map (λ (take : TakeSeen). take.track) (t ∷ takes) ≡ filter p (range_with_len (a + 1) n) → takes_from (t ∷ takes) i ≡ []) → takes_from (t ∷ takes) i ≡ []
      by true holds e after rest = by_track (t.track == i) refl holds (ap (first_or 0) e) (after (ap tail_numbers e))
      by false holds e after rest = rest e

-- a turn takes nothing from a track that isn't mixed here
none_taken : (c : Setup) (o : Outside) (m : NormalKept) (e : Turn) (i : ℕ) → GoesOn c o m e → is_mixed_here (track_at (after_edits c (learnt o) e m).tracks i) ≡ false → takes_from e.mixes i ≡ []
none_taken c o m e i goes out = by (nat_le (buffer c) e.room) goes.due
  where
    by : (b : Bool) → map (λ (take : TakeSeen). take.track) e.mixes ≡ (if b then mixed_here (after_edits c (learnt o) e m).tracks else []) → takes_from e.mixes i ≡ []
    by true due = let tracks : List TrackKept = (after_edits c (learnt o) e m).tracks in none_of (λ j. is_mixed_here (track_at tracks j)) i out 0 (length tracks) e.mixes due
    by false due = none_of (λ j. false) i refl 0 0 e.mixes due

-- the edits leave the slot that the turn leaves
slot_edited : (c : Setup) (k : Learnt) (m : NormalKept) (e : Turn) (i : ℕ) → i < length m.tracks → e.ended ≡ false → (track_at (turn_after c k m e).tracks i).slot ≡ (track_at (after_edits c k e m).tracks i).slot
unfolding turn_after
slot_edited c k m e i lt runs =
    let x : NormalKept = after_edits c k e m in
    let served_m : NormalKept = after_tracks c k e (after_ack e.ack m) in
    let a = acked_len e.ack m in
    let b = served_len c k e.tracks (after_ack e.ack m).tracks (length (after_ack e.ack m).tracks) in
    let d = edits_len c k served_m (length served_m.tracks) in
    let f = ap length (push_tracks e.push x ∙ ordered_tracks c k e.room served_m) in
    ap (λ (b : Bool). (track_at (if b then record m { ended = true } else after_takes c e.mixes (after_push e.push x)).tracks i).slot) runs
    ∙ ap (λ (s : TrackKept). s.slot) (own_all (buffer c) e.mixes (after_push e.push x).tracks i (omega (arith, lt, a, b, d, f)))
    ∙ ap (λ (xs : List TrackKept). (track_at xs i).slot) (push_tracks e.push x)

-- ## The round

-- The list of the server of a stream is as it was before the turn, if its proxy is away, and the track has a slot after the turn
pub turn_leaves : (s : Session) (marks : Marks) (run : Run) (round : RoundSeen) (t : TurnMade s marks run round) (i : ℕ) → i < length run.tracks → i < length run.normal.tracks → t.turn.ended ≡ false → is_home (greeted_in run.normal t.turn i).holder ≡ false
    → is_some (track_at (turn_after (setup_of s) (learnt t.by.outside) run.normal t.turn).tracks i).slot ≡ true → server_list (told_at (after_turn s run round) i).stream ≡ server_list (told_at (before_turn s run round) i).stream
turn_leaves s marks run round t i low there runs away slot =
    let c : Setup = setup_of s in
    let e : Turn = t.turn in
    let now : Run = before_turn s run round in
    let o : Outside = outside_of c (found_in s run round e) e in
    let k : Learnt = learnt o in
    let acked = acked_len e.ack run.normal in
    let before : BlockTold = (told_at now i).stream in
    let tracks : List TrackKept = tracks_at c k run.normal e i in
    let here : track_at tracks i ≡ greeted_in run.normal e i = not_yet c k e.tracks (after_ack e.ack run.normal).tracks i i (omega arith) ∙ greeted_at e.ack run.normal i in
    let out : is_mixed_here (track_at (after_edits c (learnt t.by.outside) e run.normal).tracks i) ≡ false =
    ap (λ (p : Option ℕ). not (is_some p) && plays (track_at (after_edits c (learnt t.by.outside) e run.normal).tracks i).life) (sym (slot_edited c (learnt t.by.outside) run.normal e i there runs))
    ∙ ap (λ (b : Bool). not b && plays (track_at (after_edits c (learnt t.by.outside) e run.normal).tracks i).life) slot in
    let none : takes_from e.mixes i ≡ [] = none_taken c t.by.outside run.normal e i (t.by.legal.goes_on runs) out in
    let mixed : mix_events c o e.mixes i ≡ [] = ap (flat_map (λ (take : TakeSeen). cycle_events (buffer c) (o.streams i) take.slot (o.stream_front i))) none in
    let events : stream_list c o e tracks i ≡ [] =
    ap (λ (b : Bool). if b then [] else (if is_home (track_at tracks i).holder then invalid k (track_in e i) tracks i else []) ++ mix_events c o e.mixes i) runs
    ∙ ap (λ (h : Holder). (if is_home h then invalid k (track_in e i) tracks i else []) ++ mix_events c o e.mixes i) (ap (λ (x : TrackKept). x.holder) here)
    ∙ ap (λ (b : Bool). (if b then invalid k (track_in e i) tracks i else []) ++ mix_events c o e.mixes i) away
    ∙ mixed in
    let long = before_long s run round in
    ap (λ (p : Option Turn). server_list (told_at (turned s (found_in s run round) p now) i).stream) t.is
    ∙ ap (λ (x : TrackTold). server_list x.stream) (turn_track s (found_in s run round e) e now i (omega (arith, low, long)))
    ∙ server_does-server (stream_list c o e (tracks_at c k now.normal e i) i) (hand_does (hand_events_of e i) before)
    ∙ ap (λ (l : List ServerEvent). l ++ stream_list c o e (tracks_at c k now.normal e i) i) (hand_does-server (hand_events_of e i) before)
    ∙ ap (λ (m : NormalKept). server_list before ++ stream_list c o e (tracks_at c k m e i) i) (before_normal s run round)
    ∙ ap (λ (l : List ServerEvent). server_list before ++ l) events ∙ append-nil (server_list before)
