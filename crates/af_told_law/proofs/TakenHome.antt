-- A track that a turn mixes has no slot, so that its stream proxy is home once the acknowledgement was seen.
use Rattle.std.proofs.Common.{◌≡◌, ◌⊎◌, inl, inr, ℕ, zero, suc, ◌<◌, ◌==◌, ◌&&◌, not, nat_le, Bool, true, false, true≢false, if◌then◌else◌, is_some, map, filter, List, [], ◌∷◌, length, refl, sym, ap, ◌∙◌, subst, eqb-true, arith}
use Rattle.af_told_law.proofs.Common.{AllByRecursion, Command, FastState, IsSound, Learnt, NormalKept, Returning, Setup, TakeSeen, TrackKept, TrackSeen, Turn, acked_len, after_ack, after_edits, after_tracks, asked, at_set, code_of, draft_commanded as with_command, edited, edited_to, entered, goes_served, is_home, is_mixed_here, lend, lent_by, let_go, mixed_here, must_enter, must_leave, mutation_len, new_track, ordered, plays, range_with_len, seen_at, served, served_len, served_to, slice_set, slot_of_away, sound_acked, sound_served, takes_from, track_at, tracks_due}
use Rattle.af_life.specs.Edits.{mutated}

-- ## A slot stays

abbrev HasSlot : ℕ → List TrackKept → Type 0
HasSlot n tracks = is_some (track_at tracks n).slot ≡ true

set_has : (n : ℕ) (tracks : List TrackKept) (i : ℕ) (t : TrackKept) → (is_some (track_at tracks i).slot ≡ true → is_some t.slot ≡ true) → HasSlot n tracks → HasSlot n (slice_set tracks i t)
set_has n tracks i t keeps has = elim (at_set tracks i t n) as (λ _. HasSlot n (slice_set tracks i t)) [
  | inl here ↦ ap (λ (x : TrackKept). is_some x.slot) here.1 ∙ keeps (ap (λ (j : ℕ). is_some (track_at tracks j).slot) (sym here.0) ∙ has)
  | inr same ↦ ap (λ (x : TrackKept). is_some x.slot) same ∙ has
]

either_has : (n : ℕ) (b : Bool) (m o : NormalKept) → HasSlot n m.tracks → HasSlot n o.tracks → HasSlot n (if b then m else o).tracks
either_has n true m o g h = g
either_has n false m o g h = h

module _ (c : Setup) (k : Learnt) (n : ℕ) where
  served_has : (seen : List TrackSeen) (draft : FastState) (tracks : List TrackKept) (j : ℕ) → IsSound tracks draft → HasSlot n tracks → HasSlot n (served_to c k seen tracks j)
  served_has seen draft tracks zero sound has = has
  served_has seen draft tracks (suc j) sound has =
      let now : List TrackKept = served_to c k seen tracks j in
      let goes = goes_served c k (seen_at seen j).looks now j ((sound_served c k seen draft tracks j sound).slotted j).unopened in
      set_has n now j (served c k (seen_at seen j).looks now j)
      (λ some. elim goes.slot as (λ _. is_some (served c k (seen_at seen j).looks now j).slot ≡ true) [
        | inl e ↦ ap is_some e ∙ some
        | inr given ↦ absurd (true≢false (sym some ∙ given.0))
      ])
      (served_has seen draft tracks j sound has)

  edited_has : (i : ℕ) (m : NormalKept) → HasSlot n m.tracks → HasSlot n (edited c k i m).tracks
  unfolding edited let_go lend
  edited_has i m has = either_has n (must_leave (track_at m.tracks i)) (let_go i m) (if must_enter (track_at m.tracks i) then lend c i (k.own i) m else m)
      (set_has n m.tracks i (record (track_at m.tracks i) { holder = Returning }) (λ some. some) has)
      (either_has n (must_enter (track_at m.tracks i)) (lend c i (k.own i) m) m (set_has n m.tracks i (lent_by (entered c i m) (k.own i) (track_at m.tracks i)) (λ some. some) has) has)

  edits_has : (m : NormalKept) (j : ℕ) → HasSlot n m.tracks → HasSlot n (edited_to c k m j).tracks
  edits_has m zero has = has
  edits_has m (suc j) has = edited_has j (edited_to c k m j) (edits_has m j has)

  ordered_has : (command : Command) (m : NormalKept) → HasSlot n m.tracks → HasSlot n (ordered command m).tracks
  unfolding ordered
  ordered_has command m has = either_has n (code_of command == code_of m.draft.command) m (record m { draft = with_command command m.draft; dirty = true }) has has

  mutated_has : (room : ℕ) (m : NormalKept) → HasSlot n m.tracks → HasSlot n (mutated c k room m).tracks
  unfolding mutated
  mutated_has room m has = ordered_has _ (edited_to c k m (length m.tracks)) (edits_has m (length m.tracks) has)

-- ## Who is mixed

mixed_passes : (p : ℕ → Bool) (ns : List ℕ) → AllByRecursion (λ n. p n ≡ true) (filter p ns)
mixed_passes p [] = tt
mixed_passes p (n ∷ ns) = by_first (p n) refl (mixed_passes p ns)
  where
    by_first : (b : Bool) → p n ≡ b → AllByRecursion (λ i. p i ≡ true) (filter p ns) → AllByRecursion (λ i. p i ≡ true) (if b then n ∷ filter p ns else filter p ns)
    by_first true is rest = (is, rest)
    by_first false is rest = rest

never_taken : (P : ℕ → Type 0) (n : ℕ) (takes : List TakeSeen) → AllByRecursion P (map (λ (take : TakeSeen). take.track) takes) → (P n → ⊥) → takes_from takes n ≡ []
never_taken P n [] all never = refl
never_taken P n (take ∷ takes) all never = by_track (take.track == n) refl (never_taken P n takes all.1 never)
  where
    by_track : (b : Bool) → (take.track == n) ≡ b → takes_from takes n ≡ [] → (if b then take ∷ takes_from takes n else takes_from takes n) ≡ []
    by_track true is rest = absurd (never (subst P (eqb-true take.track n is) all.0))
    by_track false is rest = rest

-- a number is below the length, or no track's
in_or_new : (tracks : List TrackKept) (i : ℕ) → (i < length tracks) ⊎ (track_at tracks i ≡ new_track)
in_or_new [] i = inr refl
in_or_new (t ∷ tracks) zero = inl (omega arith)
in_or_new (t ∷ tracks) (suc i) = elim (in_or_new tracks i) as (λ _. (suc i < length (t ∷ tracks)) ⊎ (track_at tracks i ≡ new_track)) [
  | inl low ↦ inl (omega (arith, low))
  | inr new ↦ inr new
]

-- either nothing was taken from the track, or its proxy is home
pub taken_home : (c : Setup) (k : Learnt) (m : NormalKept) (e : Turn) (i : ℕ) → IsSound m.tracks m.draft → map (λ (take : TakeSeen). take.track) e.mixes ≡ tracks_due c e.room (after_edits c k e m).tracks
    → (takes_from e.mixes i ≡ []) ⊎ ((i < length m.tracks) × (is_home (track_at (after_ack e.ack m).tracks i).holder ≡ true))
taken_home c k m e i sound due = elim (in_or_new edits i) as (λ _. (takes_from e.mixes i ≡ []) ⊎ ((i < length m.tracks) × (is_home (track_at acked.tracks i).holder ≡ true))) [
  | inl low ↦ by_home (is_home (track_at acked.tracks i).holder) refl (omega (arith, low, same_length))
  | inr new ↦ inl (none (λ here. true≢false (sym here ∙ ap is_mixed_here new)))
]
  where
    acked : NormalKept
    acked = after_ack e.ack m

    edits : List TrackKept
    edits = (after_edits c k e m).tracks

    same_length : length edits ≡ length m.tracks
    same_length = mutation_len c k e.room (after_tracks c k e acked) ∙ served_len c k e.tracks acked.tracks (length acked.tracks) ∙ acked_len e.ack m

    all_due : (b : Bool) → AllByRecursion (λ n. is_mixed_here (track_at edits n) ≡ true) (if b then mixed_here edits else [])
    all_due true = mixed_passes (λ n. is_mixed_here (track_at edits n)) (range_with_len 0 (length edits))
    all_due false = tt

    none : (is_mixed_here (track_at edits i) ≡ true → ⊥) → takes_from e.mixes i ≡ []
    none never = never_taken (λ n. is_mixed_here (track_at edits n) ≡ true) i e.mixes (subst (AllByRecursion (λ n. is_mixed_here (track_at edits n) ≡ true)) (sym due) (all_due (nat_le (asked c) e.room))) never

    away_none : is_home (track_at acked.tracks i).holder ≡ false → takes_from e.mixes i ≡ []
    away_none away =
        let there : IsSound acked.tracks acked.draft = sound_acked e.ack m sound in
        let has : HasSlot i edits = mutated_has c k i e.room (after_tracks c k e acked) (served_has c k i e.tracks acked.draft acked.tracks (length acked.tracks) there (slot_of_away (track_at acked.tracks i) (there.slotted i) away)) in
        none (λ here. true≢false (sym here ∙ ap (λ (b : Bool). not b && plays (track_at edits i).life) has))

    by_home : (b : Bool) → is_home (track_at acked.tracks i).holder ≡ b → i < length m.tracks → (takes_from e.mixes i ≡ []) ⊎ ((i < length m.tracks) × (is_home (track_at acked.tracks i).holder ≡ true))
    by_home true is low = inr (low, is)
    by_home false is low = inl (away_none is)

-- what holds of each track that was taken from holds of each take
pub each_take : (P : ℕ → Type 0) (takes : List TakeSeen) → ((i : ℕ) → (takes_from takes i ≡ []) ⊎ P i) → AllByRecursion (λ (take : TakeSeen). P take.track) takes
each_take P [] all = tt
each_take P (take ∷ takes) all = (first, each_take P takes later)
  where
    no_empty : (b : Bool) → b ≡ true → (if b then take ∷ takes_from takes take.track else takes_from takes take.track) ≡ [] → ⊥
    no_empty true is e = absurd (let l = ap length e in omega (arith, l))
    no_empty false is e = absurd (true≢false (sym is))

    itself : (n : ℕ) → (n == n) ≡ true
    itself n = grind arith

    first : P take.track
    first = elim (all take.track) as (λ _. P take.track) [
      | inl none ↦ absurd (no_empty (take.track == take.track) (itself take.track) none)
      | inr here ↦ here
    ]

    rest_none : (i : ℕ) (b : Bool) → (if b then take ∷ takes_from takes i else takes_from takes i) ≡ [] → takes_from takes i ≡ []
    rest_none i true e = absurd (let l = ap length e in omega (arith, l))
    rest_none i false e = e

    later : (i : ℕ) → (takes_from takes i ≡ []) ⊎ P i
    later i = elim (all i) as (λ _. (takes_from takes i ≡ []) ⊎ P i) [
      | inl none ↦ inl (rest_none i (take.track == i) none)
      | inr here ↦ inr here
    ]
