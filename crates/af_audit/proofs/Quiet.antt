-- A turn does nothing to the stream block of a track whose proxy is away.
use Rattle.std.proofs.Common.{◌≡◌, inl, inr, ℕ, zero, suc, ◌==◌, ◌&&◌, not, if◌then◌else◌, is_some, Bool, true, false, List, [], ◌∷◌, ◌++◌, length, map, refl, sym, ap, ◌∙◌, subst, eqb-true, arith}
use Rattle.af_audit.proofs.Common.{AllByRecursion, Command, FastState, IsSound, Learnt, LegalTurn, NormalKept, Outside, Returning, Setup, TakeSeen, TrackKept, TrackSeen, Turn, after_ack, after_edits, after_tracks, asked as buffer, at_set, code_of, draft_commanded as with_command, cycle_events, edited, edited_to, entered, filter, flat_map, goes_served, invalid, is_home, is_mixed_here, learnt, lend, lent_by, let_go, mix_events, mixed_here, must_enter, must_leave, mutated, nat_le, no, not_yet, ordered, range_with_len, seen_at, served, served_to, slice_set, slot_of_away, sound_acked, sound_served, stream_list, takes_from, track_at, track_in, tracks_at}
use Rattle.af_life.specs.Kept.{plays}

abbrev HasSlot : ℕ → List TrackKept → Type 0
HasSlot n tracks = is_some (track_at tracks n).slot ≡ true

set_slot : (n : ℕ) (tracks : List TrackKept) (i : ℕ) (t : TrackKept) → (is_some (track_at tracks i).slot ≡ true → is_some t.slot ≡ true) → HasSlot n tracks → HasSlot n (slice_set tracks i t)
set_slot n tracks i t f h = elim (at_set tracks i t n) as (λ x. HasSlot n (slice_set tracks i t)) [
  | inl p ↦ ap (λ (x : TrackKept). is_some x.slot) p.1 ∙ f (ap (λ (j : ℕ). is_some (track_at tracks j).slot) (sym p.0) ∙ h)
  | inr q ↦ ap (λ (x : TrackKept). is_some x.slot) q ∙ h
]

either_slot : (n : ℕ) (b : Bool) (m o : NormalKept) → HasSlot n m.tracks → HasSlot n o.tracks → HasSlot n (if b then m else o).tracks
either_slot n true m o h g = h
either_slot n false m o h g = g

module _ (c : Setup) (k : Learnt) (n : ℕ) where
  served_slot : (seen : List TrackSeen) (draft : FastState) (tracks : List TrackKept) (j : ℕ) → IsSound tracks draft → HasSlot n tracks → HasSlot n (served_to c k seen tracks j)
  served_slot seen draft tracks zero sound h = h
  served_slot seen draft tracks (suc j) sound h =
      let now : List TrackKept = served_to c k seen tracks j in
      let there = sound_served c k seen draft tracks j sound in
      let goes = goes_served c k (seen_at seen j).looks now j (there.slotted j).unopened in
      set_slot n now j (served c k (seen_at seen j).looks now j)
      (λ some. elim goes.slot as (λ x. is_some (served c k (seen_at seen j).looks now j).slot ≡ true) [ inl e ↦ ap is_some e ∙ some | inr g ↦ no (sym g.0 ∙ some) ])
      (served_slot seen draft tracks j sound h)

  edited_slot : (i : ℕ) (m : NormalKept) → HasSlot n m.tracks → HasSlot n (edited c k i m).tracks
  unfolding edited let_go lend
  edited_slot i m h = either_slot n (must_leave (track_at m.tracks i)) (let_go i m) (if must_enter (track_at m.tracks i) then lend c i (k.own i) m else m)
      (set_slot n m.tracks i (record (track_at m.tracks i) { holder = Returning }) (λ some. some) h)
      (either_slot n (must_enter (track_at m.tracks i)) (lend c i (k.own i) m) m
      (set_slot n m.tracks i (lent_by (entered c i m) (k.own i) (track_at m.tracks i)) (λ some. some) h) h)

  edits_slot : (m : NormalKept) (j : ℕ) → HasSlot n m.tracks → HasSlot n (edited_to c k m j).tracks
  edits_slot m zero h = h
  edits_slot m (suc j) h = edited_slot j (edited_to c k m j) (edits_slot m j h)

  ordered_slot : (command : Command) (m : NormalKept) → HasSlot n m.tracks → HasSlot n (ordered command m).tracks
  unfolding ordered
  ordered_slot command m h = either_slot n (code_of command == code_of m.draft.command) m (record m { draft = with_command command m.draft; dirty = true }) h h

  mutated_slot : (room : ℕ) (m : NormalKept) → HasSlot n m.tracks → HasSlot n (mutated c k room m).tracks
  unfolding mutated
  mutated_slot room m h = ordered_slot _ (edited_to c k m (length m.tracks)) (edits_slot m (length m.tracks) h)

  -- a track that is away when it is served has its slot after the edits
  away_slot : (m : NormalKept) (e : Turn) → IsSound m.tracks m.draft → is_home (track_at (tracks_at c k m e n) n).holder ≡ false → HasSlot n (after_edits c k e m).tracks
  away_slot m e sound away =
      let acked : NormalKept = after_ack e.ack m in
      let s : IsSound acked.tracks acked.draft = sound_acked e.ack m sound in
      let same : track_at (tracks_at c k m e n) n ≡ track_at acked.tracks n = not_yet c k e.tracks acked.tracks n n (omega arith) in
      let has : HasSlot n acked.tracks = slot_of_away (track_at acked.tracks n) (s.slotted n) (ap (λ (t : TrackKept). is_home t.holder) (sym same) ∙ away) in
      mutated_slot e.room (after_tracks c k e acked) (served_slot e.tracks acked.draft acked.tracks (length acked.tracks) s has)

-- ## No look for the buffer

all_passing : (p : ℕ → Bool) (xs : List ℕ) → AllByRecursion (λ i. p i ≡ true) (filter p xs)
all_passing p [] = tt
all_passing p (x ∷ xs) = by (p x) refl (all_passing p xs)
  where
    by : (b : Bool) → p x ≡ b → AllByRecursion (λ i. p i ≡ true) (filter p xs) → AllByRecursion (λ i. p i ≡ true) (if b then x ∷ filter p xs else filter p xs)
    by true is rest = (is, rest)
    by false is rest = rest

none_taken : (P : ℕ → Type 0) (n : ℕ) (takes : List TakeSeen) → AllByRecursion P (map (λ take. take.track) takes) → (P n → ⊥) → takes_from takes n ≡ []
none_taken P n [] all never = refl
none_taken P n (take ∷ takes) all never = by (take.track == n) refl (none_taken P n takes all.1 never)
  where
    by : (b : Bool) → (take.track == n) ≡ b → filter (λ (take : TakeSeen). take.track == n) takes ≡ [] → (if b then take ∷ filter (λ (take : TakeSeen). take.track == n) takes else filter (λ (take : TakeSeen). take.track == n) takes) ≡ []
    by true is rest = absurd (never (subst P (eqb-true take.track n is) all.0))
    by false is rest = rest

module _ (c : Setup) (n : ℕ) (m : NormalKept) (e : Turn) (sound : IsSound m.tracks m.draft) where
  due_without : (o : Outside) → LegalTurn c o m e → e.ended ≡ false → is_home (track_at (tracks_at c (learnt o) m e n) n).holder ≡ false → takes_from e.mixes n ≡ []
  due_without o legal runs away =
      let tracks : List TrackKept = (after_edits c (learnt o) e m).tracks in
      let has : HasSlot n tracks = away_slot c (learnt o) n m e sound away in
      none_taken (λ i. is_mixed_here (track_at tracks i) ≡ true) n e.mixes
      (subst (AllByRecursion (λ i. is_mixed_here (track_at tracks i) ≡ true)) (sym (legal.goes_on runs).due) (all_due tracks (nat_le (buffer c) e.room)))
      (λ here. no (ap (λ (b : Bool). not b && plays (track_at tracks n).life) (sym has) ∙ here))
    where
      all_due : (tracks : List TrackKept) (b : Bool) → AllByRecursion (λ i. is_mixed_here (track_at tracks i) ≡ true) (if b then mixed_here tracks else [])
      all_due tracks true = all_passing (λ i. is_mixed_here (track_at tracks i)) (range_with_len 0 (length tracks))
      all_due tracks false = tt

  -- the server of its stream block does nothing in the turn
  pub stream_quiet : (o told : Outside) → LegalTurn c o m e → learnt o ≡ learnt told → is_home (track_at (tracks_at c (learnt told) m e n) n).holder ≡ false → stream_list c told e (tracks_at c (learnt told) m e n) n ≡ []
  stream_quiet o told legal same away = by_end e.ended refl
    where
      by_end : (b : Bool) → e.ended ≡ b → (if b then [] else ((if is_home (track_at (tracks_at c (learnt told) m e n) n).holder then invalid (learnt told) (track_in e n) (tracks_at c (learnt told) m e n) n else []) ++ mix_events c told e.mixes n)) ≡ []
      by_end true is = refl
      by_end false is =
          let none : takes_from e.mixes n ≡ [] = due_without o legal is (ap (λ (k : Learnt). is_home (track_at (tracks_at c k m e n) n).holder) same ∙ away) in
          (λ i. (if away i then invalid (learnt told) (track_in e n) (tracks_at c (learnt told) m e n) n else []) ++ flat_map (λ (take : TakeSeen). cycle_events (buffer c) (told.streams n) take.slot (told.stream_front n)) (none i))
