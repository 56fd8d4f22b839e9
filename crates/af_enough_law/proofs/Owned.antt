-- Each slot that the draft carries is that of a track that is lent.
use Rattle.std.proofs.Common.{◌≡◌, ◌≢◌, inl, inr, ℕ, zero, suc, ◌≤◌, ◌&&◌, not, if◌then◌else◌, Bool, true, false, true≢false, All, List, [], ◌∷◌, length, map, fold, refl, sym, ap, ◌∙◌, subst, arith, ⊎_elim, ◌<◌}
use Rattle.af_enough_law.proofs.Common.{Busy, Clean, Command, FastState, Holder, Home, IsSound, Learnt, Lent, NormalKept, Push, Pushed, Returning, Setting, Setup, TakeSeen, TrackKept, TrackSeen, Turn, acked_len, after_ack, after_edits, after_push, after_take, after_takes, after_tracks, asked as buffer, at_here, at_other, at_set, attached_else, carries, cases_eq, comer_inside, comer_slot, comes_home, draft_commanded as with_command, look_counted, detached, detached_else, detached_here, edited, edited_to, entered, goes_served, is_lent, is_returning, leaver_slot, lend, lent_away, lent_by, let_go, must_enter, must_leave, mutated, no, number_of, ordered, seen_at, served, served_len, served_to, setting_of, slice_set, slot_number, sound_acked, sound_edits, sound_served, track_at, turn_after, welcomed, welcomed_at, slots}

-- a track that is lent has this slot
pub record IsOwned (tracks : List TrackKept) (slot : ℕ) : Type 0 where
  pub owner : ℕ
  pub lent : is_lent (track_at tracks owner).holder ≡ true
  pub slot_is : slot_number (track_at tracks owner) ≡ slot

-- each slot that the draft carries is that of a track that is lent
abbrev pub AreOwned : List TrackKept → FastState → Type 0
AreOwned tracks draft = (slot : ℕ) → slot < slots → carries draft slot ≡ true → IsOwned tracks slot

-- each lent track stays lent with its slot
abbrev StayLent : List TrackKept → List TrackKept → Type 0
StayLent before after = (i : ℕ) → is_lent (track_at before i).holder ≡ true → (is_lent (track_at after i).holder ≡ true) × (slot_number (track_at after i) ≡ slot_number (track_at before i))

stay_owned : (before after : List TrackKept) (draft : FastState) → StayLent before after → AreOwned before draft → AreOwned after draft
stay_owned before after draft stays h slot lt carried = let o = h slot lt carried in let s = stays o.owner o.lent in record { owner = o.owner; lent = s.0; slot_is = s.1 ∙ o.slot_is }

set_stays : (tracks : List TrackKept) (n : ℕ) (t : TrackKept) → (is_lent (track_at tracks n).holder ≡ true → (is_lent t.holder ≡ true) × (slot_number t ≡ slot_number (track_at tracks n))) → StayLent tracks (slice_set tracks n t)
set_stays tracks n t h i lent = elim (at_set tracks n t i) as (λ x. (is_lent (track_at (slice_set tracks n t) i).holder ≡ true) × (slot_number (track_at (slice_set tracks n t) i) ≡ slot_number (track_at tracks i))) [
  | inl p ↦ let s = h (ap (λ (j : ℕ). is_lent (track_at tracks j).holder) (sym p.0) ∙ lent) in (ap (λ (x : TrackKept). is_lent x.holder) p.1 ∙ s.0, ap slot_number p.1 ∙ s.1 ∙ ap (λ (j : ℕ). slot_number (track_at tracks j)) (sym p.0))
  | inr q ↦ (ap (λ (x : TrackKept). is_lent x.holder) q ∙ lent, ap slot_number q)
]

module _ (c : Setup) where
  welcomed_stays : (last : FastState) (s : TrackKept) → is_lent s.holder ≡ true → (is_lent (welcomed last s).holder ≡ true) × (slot_number (welcomed last s) ≡ slot_number s)
  unfolding welcomed
  welcomed_stays last s lent = by_test (comes_home last s) (stays_off s.holder lent)
    where
      stays_off : (h : Holder) → is_lent h ≡ true → is_returning h ≡ false
      stays_off Home e = no e
      stays_off Lent e = refl
      stays_off Returning e = no e

      by_test : (b : Bool) → is_returning s.holder ≡ false → (is_lent (if comes_home last s then record s { holder = Home } else s).holder ≡ true) × (slot_number (if comes_home last s then record s { holder = Home } else s) ≡ slot_number s)
      by_test b off = let none : comes_home last s ≡ false = ap (λ (x : Bool). x && not (carries last (slot_number s))) off in
          subst (λ (x : Bool). (is_lent (if x then record s { holder = Home } else s).holder ≡ true) × (slot_number (if x then record s { holder = Home } else s) ≡ slot_number s)) (sym none) (lent, refl)

  acked_owned : (ack : Bool) (m : NormalKept) → AreOwned m.tracks m.draft → AreOwned (after_ack ack m).tracks (after_ack ack m).draft
  acked_owned true m h = stay_owned m.tracks (map (welcomed m.last) m.tracks) m.draft
      (λ i lent. subst (λ (x : TrackKept). (is_lent x.holder ≡ true) × (slot_number x ≡ slot_number (track_at m.tracks i))) (sym (welcomed_at m.last m.tracks i)) (welcomed_stays m.last (track_at m.tracks i) lent)) h
  acked_owned false m h = h

  served_owned : (k : Learnt) (seen : List TrackSeen) (draft : FastState) (tracks : List TrackKept) (n : ℕ) → IsSound tracks draft → AreOwned tracks draft → AreOwned (served_to c k seen tracks n) draft
  served_owned k seen draft tracks zero sound h = h
  served_owned k seen draft tracks (suc n) sound h =
      let now : List TrackKept = served_to c k seen tracks n in
      let there = sound_served c k seen draft tracks n sound in
      let goes = goes_served c k (seen_at seen n).looks now n (there.slotted n).unopened in
      stay_owned now (slice_set now n (served c k (seen_at seen n).looks now n)) draft
      (set_stays now n (served c k (seen_at seen n).looks now n) (λ lent. (
        ap is_lent goes.holder ∙ lent,
        elim goes.slot as (λ x. slot_number (served c k (seen_at seen n).looks now n) ≡ slot_number (track_at now n)) [
          | inl e ↦ ap number_of e
          | inr g ↦ absurd (true≢false (sym ((there.slotted n).homely g.0) ∙ lent_away (track_at now n).holder lent))
        ],
      ))) (served_owned k seen draft tracks n sound h)

  by_bool : (b : Bool) (m n : NormalKept) → (b ≡ true → AreOwned m.tracks m.draft) → (b ≡ false → AreOwned n.tracks n.draft) → AreOwned (if b then m else n).tracks (if b then m else n).draft
  by_bool true m n f g = f refl
  by_bool false m n f g = g refl

  edited_owned : (k : Learnt) (i : ℕ) (m : NormalKept) → IsSound m.tracks m.draft → AreOwned m.tracks m.draft → AreOwned (edited c k i m).tracks (edited c k i m).draft
  unfolding edited let_go lend
  edited_owned k i m sound h = by_bool (must_leave (track_at m.tracks i)) (let_go i m) (if must_enter (track_at m.tracks i) then lend c i (k.own i) m else m)
      (λ e slot lt carried.
      let low = leaver_slot m sound i e in
      let other : slot ≢ slot_number s = λ same. true≢false (sym carried ∙ ap (carries (detached (slot_number s) m.draft)) same ∙ detached_here (slot_number s) m.draft low.0 low.1) in
      let o = h slot lt (sym (detached_else (slot_number s) m.draft low.0 low.1 slot lt other) ∙ carried) in
      let ne : o.owner ≢ i = λ same. other (sym o.slot_is ∙ ap (λ (j : ℕ). slot_number (track_at m.tracks j)) same) in
      let at = at_other m.tracks i (record s { holder = Returning }) o.owner ne in
      record { owner = o.owner; lent = ap (λ (x : TrackKept). is_lent x.holder) at ∙ o.lent; slot_is = ap slot_number at ∙ o.slot_is })
      (λ f. by_bool (must_enter (track_at m.tracks i)) (lend c i (k.own i) m) m
      (λ e slot lt carried.
      let low = comer_slot m sound c i (k.own i) e in
      let t : TrackKept = lent_by (entered c i m) (k.own i) s in
      let here = at_here m.tracks i t (comer_inside m sound c i (k.own i) e) in
      ⊎_elim
      (λ (same : slot ≡ slot_number s). record { owner = i; lent = ap (λ (x : TrackKept). is_lent x.holder) here; slot_is = ap slot_number here ∙ sym same })
      (λ (other : slot ≢ slot_number s).
      let o = h slot lt (sym (attached_else (slot_number s) (setting_of c i).mono (setting_of c i).scale i m.draft low.0 low.1 sound.state slot other) ∙ carried) in
      let ne : o.owner ≢ i = λ same. other (sym o.slot_is ∙ ap (λ (j : ℕ). slot_number (track_at m.tracks j)) same) in
      let at = at_other m.tracks i t o.owner ne in
      record { owner = o.owner; lent = ap (λ (x : TrackKept). is_lent x.holder) at ∙ o.lent; slot_is = ap slot_number at ∙ o.slot_is })
      (cases_eq slot (slot_number s)))
      (λ e. h))
    where
      s : TrackKept
      s = track_at m.tracks i

  edits_owned : (scales : All (λ (x : Setting). x.scale ≤ 4096) c.settings) (k : Learnt) (m : NormalKept) (n : ℕ) → length m.tracks ≤ length c.settings → IsSound m.tracks m.draft → AreOwned m.tracks m.draft → AreOwned (edited_to c k m n).tracks (edited_to c k m n).draft
  edits_owned scales k m zero few sound h = h
  edits_owned scales k m (suc n) few sound h = edited_owned k n (edited_to c k m n) (sound_edits c scales k n m few sound) (edits_owned scales k m n few sound h)

  ordered_owned : (command : Command) (m : NormalKept) → AreOwned m.tracks m.draft → AreOwned (ordered command m).tracks (ordered command m).draft
  unfolding ordered
  ordered_owned command m h = by_bool _ m (record m { draft = with_command command m.draft; dirty = true }) (λ e. h) (λ e. h)

  mutated_owned : (scales : All (λ (x : Setting). x.scale ≤ 4096) c.settings) (k : Learnt) (room : ℕ) (m : NormalKept) → length m.tracks ≤ length c.settings → IsSound m.tracks m.draft → AreOwned m.tracks m.draft → AreOwned (mutated c k room m).tracks (mutated c k room m).draft
  unfolding mutated
  mutated_owned scales k room m few sound h = ordered_owned _ (edited_to c k m (length m.tracks)) (edits_owned scales k m (length m.tracks) few sound h)

  pushed_owned : (push : Push) (m : NormalKept) → AreOwned m.tracks m.draft → AreOwned (after_push push m).tracks (after_push push m).draft
  pushed_owned (Pushed number) m h = h
  pushed_owned Clean m h = h
  pushed_owned (Busy seen expected) m h = h

  takes_owned : (draft : FastState) (takes : List TakeSeen) (tracks : List TrackKept) → AreOwned tracks draft → AreOwned (fold (after_take (buffer c)) tracks takes) draft
  takes_owned draft [] tracks h = h
  takes_owned draft (take ∷ takes) tracks h = takes_owned draft takes (after_take (buffer c) tracks take)
      (stay_owned tracks (after_take (buffer c) tracks take) draft (set_stays tracks take.track (record (track_at tracks take.track) { own = look_counted (buffer c) take.slot.seen (track_at tracks take.track).own }) (λ lent. (lent, refl))) h)

  -- a turn keeps whose the slots are that the draft carries
  pub owned_turn : (scales : All (λ (x : Setting). x.scale ≤ 4096) c.settings) (k : Learnt) (m : NormalKept) (e : Turn) → length m.tracks ≤ length c.settings → IsSound m.tracks m.draft → AreOwned m.tracks m.draft → AreOwned (turn_after c k m e).tracks (turn_after c k m e).draft
  unfolding turn_after
  owned_turn scales k m e few sound h =
      let acked : NormalKept = after_ack e.ack m in
      let there : NormalKept = after_tracks c k e acked in
      let long : length there.tracks ≡ length m.tracks = served_len c k e.tracks acked.tracks (length acked.tracks) ∙ acked_len e.ack m in
      let acked_sound : IsSound acked.tracks acked.draft = sound_acked e.ack m sound in
      let served_sound : IsSound there.tracks there.draft = sound_served c k e.tracks acked.draft acked.tracks (length acked.tracks) acked_sound in
      let owned : AreOwned there.tracks there.draft = served_owned k e.tracks acked.draft acked.tracks (length acked.tracks) acked_sound (acked_owned e.ack m h) in
      let x : NormalKept = after_push e.push (after_edits c k e m) in
      let pushed : AreOwned x.tracks x.draft = pushed_owned e.push (after_edits c k e m) (mutated_owned scales k e.room there (omega arith) served_sound owned) in
      by_bool e.ended (record m { ended = true }) (after_takes c e.mixes x) (λ f. h) (λ f. takes_owned x.draft e.mixes x.tracks pushed)
