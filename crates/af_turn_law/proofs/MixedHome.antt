-- A track that a turn of the normal mixer mixes has no slot, so that its stream proxy was home before the turn and is home after it.
use Rattle.std.proofs.Common.{◌≡◌, ◌⊎◌, inl, inr, ℕ, zero, suc, ◌≤◌, ◌==◌, ◌&&◌, not, nat_le, Bool, true, false, true≢false, if◌then◌else◌, is_some, fold, map, filter, List, [], ◌∷◌, length, All, Option, refl, sym, ap, ◌∙◌, subst, eqb-true}
use Rattle.af_turn_law.proofs.Common.{FastState, Home, IsGiven, Learnt, NormalKept, Setting, Setup, Sound, TakeSeen, TrackKept, TrackSeen, Turn, after_ack, after_edits, after_push, after_take, after_takes, after_tracks, asked, at_set, comes_home, edited, edited_to, goes_served, is_home, is_mixed_here, lend, let_go, mixed_here, must_enter, must_leave, mutated, ordered, plays, push_tracks, range_with_len, seen_at, served, served_to, slice_set, slot_for, sound_acked, sound_served, sound_turn, track_at, tracks_due, turn_after, welcomed}
use Rattle.af_life.specs.Sound.{IsSound}

abbrev slot_at : List TrackKept → ℕ → Option ℕ
slot_at tracks i = (track_at tracks i).slot

-- ## What keeps every slot

either_slot : (b : Bool) (s t : TrackKept) → s.slot ≡ t.slot → (if b then s else t).slot ≡ t.slot
either_slot true s t e = e
either_slot false s t e = refl

welcome_slots : (last : FastState) (tracks : List TrackKept) (i : ℕ) → slot_at (map (welcomed last) tracks) i ≡ slot_at tracks i
unfolding welcomed
welcome_slots last [] i = refl
welcome_slots last (s ∷ tracks) zero = either_slot (comes_home last s) (record s { holder = Home }) s refl
welcome_slots last (s ∷ tracks) (suc i) = welcome_slots last tracks i

ack_slots : (ack : Bool) (m : NormalKept) (i : ℕ) → slot_at (after_ack ack m).tracks i ≡ slot_at m.tracks i
ack_slots true m i = welcome_slots m.last m.tracks i
ack_slots false m i = refl

set_slots : (tracks : List TrackKept) (k : ℕ) (s : TrackKept) (i : ℕ) → s.slot ≡ slot_at tracks k → slot_at (slice_set tracks k s) i ≡ slot_at tracks i
set_slots [] k s i e = refl
set_slots (x ∷ tracks) zero s zero e = e
set_slots (x ∷ tracks) zero s (suc i) e = refl
set_slots (x ∷ tracks) (suc k) s zero e = refl
set_slots (x ∷ tracks) (suc k) s (suc i) e = set_slots tracks k s i e

either_slots : (b : Bool) (m n : NormalKept) (i : ℕ) (o : Option ℕ) → slot_at m.tracks i ≡ o → slot_at n.tracks i ≡ o → slot_at (if b then m else n).tracks i ≡ o
either_slots true m n i o e f = e
either_slots false m n i o e f = f

edit_slots : (c : Setup) (k : Learnt) (n : ℕ) (m : NormalKept) (i : ℕ) → slot_at (edited c k n m).tracks i ≡ slot_at m.tracks i
unfolding edited let_go lend
edit_slots c k n m i =
    either_slots (must_leave (track_at m.tracks n)) (let_go n m) _ i _ (set_slots m.tracks n _ i refl)
    (either_slots (must_enter (track_at m.tracks n)) (lend c n (k.own n) m) m i _ (set_slots m.tracks n _ i refl) refl)

edits_slots : (c : Setup) (k : Learnt) (m : NormalKept) (n i : ℕ) → slot_at (edited_to c k m n).tracks i ≡ slot_at m.tracks i
edits_slots c k m zero i = refl
edits_slots c k m (suc n) i = edit_slots c k n (edited_to c k m n) i ∙ edits_slots c k m n i

mutation_slots : (c : Setup) (k : Learnt) (room : ℕ) (m : NormalKept) (i : ℕ) → slot_at (mutated c k room m).tracks i ≡ slot_at m.tracks i
unfolding mutated ordered
mutation_slots c k room m i = let edits : NormalKept = edited_to c k m (length m.tracks) in
    either_slots _ edits _ i _ (edits_slots c k m (length m.tracks) i) (edits_slots c k m (length m.tracks) i)

takes_slots : (many : ℕ) (takes : List TakeSeen) (tracks : List TrackKept) (i : ℕ) → slot_at (fold (after_take many) tracks takes) i ≡ slot_at tracks i
takes_slots many [] tracks i = refl
takes_slots many (take ∷ takes) tracks i = takes_slots many takes (after_take many tracks take) i ∙ set_slots tracks take.track _ i refl

-- a track that has no slot once it was served had none before
served_none : (c : Setup) (k : Learnt) (seen : List TrackSeen) (draft : FastState) (tracks : List TrackKept) (n i : ℕ) → IsSound tracks draft → is_some (slot_at (served_to c k seen tracks n) i) ≡ false → is_some (slot_at tracks i) ≡ false
served_none c k seen draft tracks zero i sound none = none
served_none c k seen draft tracks (suc n) i sound none =
    let now = served_to c k seen tracks n in
    let before : is_some (slot_at now i) ≡ false = elim (at_set now n (served c k (seen_at seen n).looks now n) i) as (λ _. is_some (slot_at now i) ≡ false) [
      | inl here ↦ (let goes = goes_served c k (seen_at seen n).looks now n ((sound_served c k seen draft tracks n sound).slotted n).unopened in
          subst (λ j. is_some (slot_at now j) ≡ false) (sym here.0) (none_before (slot_for c now n) (track_at now n) (served c k (seen_at seen n).looks now n) goes.slot (sym (ap (λ (t : TrackKept). is_some t.slot) here.1) ∙ none)))
      | inr same ↦ sym (ap (λ (t : TrackKept). is_some t.slot) same) ∙ none
    ] in
    served_none c k seen draft tracks n i sound before
  where
    none_before : (given : Option ℕ) (s t : TrackKept) → (t.slot ≡ s.slot) ⊎ IsGiven given s t → is_some t.slot ≡ false → is_some s.slot ≡ false
    none_before given s t (inl e) none = sym (ap is_some e) ∙ none
    none_before given s t (inr g) none = g.0

-- ## Who is mixed

abbrev AllHold : (ℕ → Bool) → List ℕ → Type 0
AllHold p [] = Unit {0}
AllHold p (n ∷ ns) = (p n ≡ true) × AllHold p ns

filter_hold : (p : ℕ → Bool) (ns : List ℕ) → AllHold p (filter p ns)
filter_hold p [] = tt
filter_hold p (n ∷ ns) = by_first (p n) refl (filter_hold p ns)
  where
    by_first : (b : Bool) → p n ≡ b → AllHold p (filter p ns) → AllHold p (if b then n ∷ filter p ns else filter p ns)
    by_first true is rest = (is, rest)
    by_first false is rest = rest

-- either nothing was taken from the track, or the test holds of it
taken_holds : (p : ℕ → Bool) (n : ℕ) (takes : List TakeSeen) → AllHold p (map (λ take. take.track) takes) → (filter (λ take. take.track == n) takes ≡ []) ⊎ (p n ≡ true)
taken_holds p n [] h = inl refl
taken_holds p n (take ∷ takes) h = by_track (take.track == n) refl (taken_holds p n takes h.1)
  where
    by_track : (b : Bool) → (take.track == n) ≡ b → (filter (λ take. take.track == n) takes ≡ []) ⊎ (p n ≡ true) → ((if b then take ∷ filter (λ take. take.track == n) takes else filter (λ take. take.track == n) takes) ≡ []) ⊎ (p n ≡ true)
    by_track true is rest = inr (subst (λ j. p j ≡ true) (eqb-true take.track n is) h.0)
    by_track false is rest = rest

due_hold : (c : Setup) (room : ℕ) (tracks : List TrackKept) → AllHold (λ i. is_mixed_here (track_at tracks i)) (tracks_due c room tracks)
due_hold c room tracks = by_room (nat_le (asked c) room)
  where
    by_room : (b : Bool) → AllHold (λ i. is_mixed_here (track_at tracks i)) (if b then mixed_here tracks else [])
    by_room true = filter_hold (λ i. is_mixed_here (track_at tracks i)) (range_with_len 0 (length tracks))
    by_room false = tt

no_slot : (s : TrackKept) → is_mixed_here s ≡ true → is_some s.slot ≡ false
no_slot s h = by_flags (is_some s.slot) (plays s.life) h
  where
    by_flags : (a b : Bool) → (not a && b) ≡ true → a ≡ false
    by_flags true b h = absurd (true≢false (sym h))
    by_flags false b h = refl

-- the stream proxy of a track that is mixed is home before and after the turn
pub mixed_home : (c : Setup) (scales : All (λ (s : Setting). s.scale ≤ 4096) c.settings) (k : Learnt) (m : NormalKept) (e : Turn) (n : ℕ) → length m.tracks ≤ length c.settings → Sound m → e.ended ≡ false
    → map (λ (take : TakeSeen). take.track) e.mixes ≡ tracks_due c e.room (after_edits c k e m).tracks
    → (filter (λ (take : TakeSeen). take.track == n) e.mixes ≡ []) ⊎ ((is_home (track_at m.tracks n).holder ≡ true) × (is_home (track_at (turn_after c k m e).tracks n).holder ≡ true))
unfolding turn_after
mixed_home c scales k m e n few sound runs due =
    elim (taken_holds (λ i. is_mixed_here (track_at (after_edits c k e m).tracks i)) n e.mixes (subst (AllHold (λ i. is_mixed_here (track_at (after_edits c k e m).tracks i))) (sym due) (due_hold c e.room (after_edits c k e m).tracks))) [
      | inl none ↦ inl none
      | inr here ↦ inr (before here, after here)
    ]
  where
    acked : NormalKept
    acked = after_ack e.ack m

    edits : NormalKept
    edits = after_edits c k e m

    before : is_mixed_here (track_at edits.tracks n) ≡ true → is_home (track_at m.tracks n).holder ≡ true
    before here =
        let last : is_some (slot_at (served_to c k e.tracks acked.tracks (length acked.tracks)) n) ≡ false =
        sym (ap is_some (mutation_slots c k e.room (after_tracks c k e acked) n)) ∙ no_slot (track_at edits.tracks n) here in
        (sound.slotted n).homely (sym (ap is_some (ack_slots e.ack m n)) ∙ served_none c k e.tracks acked.draft acked.tracks (length acked.tracks) n (sound_acked e.ack m sound) last)

    by_end : (b : Bool) → b ≡ false → slot_at (let x : NormalKept = if b then record m { ended = true } else after_takes c e.mixes (after_push e.push edits) in x.tracks) n ≡ slot_at edits.tracks n
    by_end true is = absurd (true≢false is)
    by_end false is = takes_slots (asked c) e.mixes (after_push e.push edits).tracks n ∙ ap (λ ts. slot_at ts n) (push_tracks e.push edits)

    after : is_mixed_here (track_at edits.tracks n) ≡ true → is_home (track_at (turn_after c k m e).tracks n).holder ≡ true
    after here = ((sound_turn c scales k m e few sound).slotted n).homely (ap is_some (by_end e.ended runs) ∙ no_slot (track_at edits.tracks n) here)
