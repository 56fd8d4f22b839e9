-- The draft has the item of each track whose proxy is not at home.
use Rattle.std.proofs.Common.{◌≡◌, ◌≢◌, inl, inr, ℕ, zero, suc, ◌≤◌, ◌&&◌, if◌then◌else◌, Bool, true, false, true≢false, All, Option, List, [], ◌∷◌, length, fold, refl, sym, ap, ◌∙◌, subst, arith}
use Rattle.af_enough_law.proofs.Common.{Busy, Clean, Command, FastState, FastTrack, Goes, Holder, Home, IsSlotted, IsSound, Learnt, Lent, NormalKept, Push, Pushed, Returning, Setting, Setup, TakeSeen, TrackKept, TrackSeen, Turn, acked_len, after_ack, after_edits, after_push, after_take, after_takes, after_tracks, apart, asked as buffer, at_new, comer_holds, comer_inside, comer_slot, comes_home, draft_commanded as with_command, look_counted, each_set, edited, edited_to, entered, goes_served, is_home, is_lent, lend, lent_by, let_go, must_enter, must_leave, mutated, new_normal, no, number_of, ordered, seen_at, served, served_len, served_to, set_each, setting_of, slot_else, slot_here, slot_number, slot_of, sound_acked, sound_edits, sound_served, track_at, turn_after, welcomed, welcomed_at}
use Rattle.af_life.specs.Obeys.{slot_for}

-- the item of a track: what its slot has while its proxy is away
abbrev pub item_of : Setup → ℕ → TrackKept → FastTrack
item_of c i s = record { generation = s.generation; track = i; mono = (setting_of c i).mono; scale = (setting_of c i).scale }

-- the slot of a track that isn't home is its item
abbrev pub IsItem : Setup → FastState → ℕ → TrackKept → Type 0
IsItem c draft i s = is_home s.holder ≡ false → slot_of draft (slot_number s) ≡ item_of c i s

-- the slot of each track that isn't home is its item
abbrev pub AreItems : Setup → NormalKept → Type 0
AreItems c m = (i : ℕ) → IsItem c m.draft i (track_at m.tracks i)

-- a track with the same holder, slot and generation
same_item : (c : Setup) (draft : FastState) (i : ℕ) (s t : TrackKept) → t.holder ≡ s.holder → (is_home s.holder ≡ false → t.slot ≡ s.slot) → t.generation ≡ s.generation → IsItem c draft i s → IsItem c draft i t
same_item c draft i s t holder slot generation h away =
    let was : is_home s.holder ≡ false = ap is_home (sym holder) ∙ away in
    ap (λ (o : Option ℕ). slot_of draft (number_of o)) (slot was) ∙ h was ∙ ap (λ (g : ℕ). record { generation = g; track = i; mono = (setting_of c i).mono; scale = (setting_of c i).scale }) (sym generation)

module _ (c : Setup) where
  welcomed_item : (last draft : FastState) (i : ℕ) (s : TrackKept) → IsItem c draft i s → IsItem c draft i (welcomed last s)
  unfolding welcomed
  welcomed_item last draft i s h = by_test (comes_home last s)
    where
      by_test : (b : Bool) → IsItem c draft i (if b then record s { holder = Home } else s)
      by_test true = λ away. absurd (true≢false away)
      by_test false = h

  acked_items : (ack : Bool) (m : NormalKept) → AreItems c m → AreItems c (after_ack ack m)
  acked_items true m h i = subst (IsItem c m.draft i) (sym (welcomed_at m.last m.tracks i)) (welcomed_item m.last m.draft i (track_at m.tracks i) (h i))
  acked_items false m h i = h i

  -- the slot of a track stays, but for one that an OPEN gives to a track at home
  goes_item : (given : Option ℕ) (draft : FastState) (i : ℕ) (s t : TrackKept) → IsSlotted s → Goes given s t → IsItem c draft i s → IsItem c draft i t
  goes_item given draft i s t slotted goes = same_item c draft i s t goes.holder (λ away. elim goes.slot as (λ x. t.slot ≡ s.slot) [ inl e ↦ e | inr g ↦ absurd (true≢false (sym (slotted.homely g.0) ∙ away)) ]) goes.generation

  served_items : (k : Learnt) (seen : List TrackSeen) (draft : FastState) (tracks : List TrackKept) (n : ℕ) → IsSound tracks draft → ((i : ℕ) → IsItem c draft i (track_at tracks i)) → (i : ℕ) → IsItem c draft i (track_at (served_to c k seen tracks n) i)
  served_items k seen draft tracks zero sound h = h
  served_items k seen draft tracks (suc n) sound h =
      let now : List TrackKept = served_to c k seen tracks n in
      let there = sound_served c k seen draft tracks n sound in
      let items = served_items k seen draft tracks n sound h in
      set_each (IsItem c draft) now n (served c k (seen_at seen n).looks now n) (goes_item (slot_for c now n) draft n (track_at now n) (served c k (seen_at seen n).looks now n) (there.slotted n) (goes_served c k (seen_at seen n).looks now n (there.slotted n).unopened) (items n)) items

  by_bool : (b : Bool) (m n : NormalKept) → (b ≡ true → AreItems c m) → (b ≡ false → AreItems c n) → AreItems c (if b then m else n)
  by_bool true m n f g = f refl
  by_bool false m n f g = g refl

  edited_items : (k : Learnt) (i : ℕ) (m : NormalKept) → IsSound m.tracks m.draft → AreItems c m → AreItems c (edited c k i m)
  unfolding edited let_go lend
  edited_items k i m sound h = by_bool (must_leave (track_at m.tracks i)) (let_go i m) (if must_enter (track_at m.tracks i) then lend c i (k.own i) m else m)
      (λ e. set_each (IsItem c (let_go i m).draft) m.tracks i (record (track_at m.tracks i) { holder = Returning }) (λ away. h i (left e)) h)
      (λ f. by_bool (must_enter (track_at m.tracks i)) (lend c i (k.own i) m) m
      (λ e. each_set (IsItem c (entered c i m)) m.tracks i (lent_by (entered c i m) (k.own i) (track_at m.tracks i)) (comer_inside m sound c i (k.own i) e)
      (λ away. ap (λ (t : FastTrack). record t { generation = (slot_of (entered c i m) (slot_number (track_at m.tracks i))).generation }) (slot_here (slot_number (track_at m.tracks i)) (setting_of c i).mono (setting_of c i).scale i m.draft (comer_slot m sound c i (k.own i) e).0 (comer_slot m sound c i (k.own i) e).1 sound.state))
      (λ (j : ℕ) (ne : j ≢ i). λ away. slot_else (slot_number (track_at m.tracks i)) (setting_of c i).mono (setting_of c i).scale i m.draft (comer_slot m sound c i (k.own i) e).0 (comer_slot m sound c i (k.own i) e).1 sound.state (slot_number (track_at m.tracks j)) (apart m sound i j ne (comer_holds m sound c i (k.own i) e) away) ∙ h j away))
      (λ e. h))
    where
      left : must_leave (track_at m.tracks i) ≡ true → is_home (track_at m.tracks i).holder ≡ false
      left e = away_of (track_at m.tracks i).holder _ e
        where
          away_of : (o : Holder) (b : Bool) → (is_lent o && b) ≡ true → is_home o ≡ false
          away_of Home b e = no e
          away_of Lent b e = refl
          away_of Returning b e = no e

  edits_items : (scales : All (λ (x : Setting). x.scale ≤ 4096) c.settings) (k : Learnt) (m : NormalKept) (n : ℕ) → length m.tracks ≤ length c.settings → IsSound m.tracks m.draft → AreItems c m → AreItems c (edited_to c k m n)
  edits_items scales k m zero few sound h = h
  edits_items scales k m (suc n) few sound h = edited_items k n (edited_to c k m n) (sound_edits c scales k n m few sound) (edits_items scales k m n few sound h)

  ordered_items : (command : Command) (m : NormalKept) → AreItems c m → AreItems c (ordered command m)
  unfolding ordered
  ordered_items command m h = by_bool _ m (record m { draft = with_command command m.draft; dirty = true }) (λ e. h) (λ e. h)

  mutated_items : (scales : All (λ (x : Setting). x.scale ≤ 4096) c.settings) (k : Learnt) (room : ℕ) (m : NormalKept) → length m.tracks ≤ length c.settings → IsSound m.tracks m.draft → AreItems c m → AreItems c (mutated c k room m)
  unfolding mutated
  mutated_items scales k room m few sound h = ordered_items _ (edited_to c k m (length m.tracks)) (edits_items scales k m (length m.tracks) few sound h)

  pushed_items : (push : Push) (m : NormalKept) → AreItems c m → AreItems c (after_push push m)
  pushed_items (Pushed number) m h i = h i
  pushed_items Clean m h i = h i
  pushed_items (Busy seen expected) m h i = h i

  takes_items : (draft : FastState) (takes : List TakeSeen) (tracks : List TrackKept) → ((i : ℕ) → IsItem c draft i (track_at tracks i)) → (i : ℕ) → IsItem c draft i (track_at (fold (after_take (buffer c)) tracks takes) i)
  takes_items draft [] tracks h = h
  takes_items draft (take ∷ takes) tracks h = takes_items draft takes (after_take (buffer c) tracks take)
      (set_each (IsItem c draft) tracks take.track (record (track_at tracks take.track) { own = look_counted (buffer c) take.slot.seen (track_at tracks take.track).own }) (h take.track) h)

  -- a turn keeps the items in the draft
  pub items_turn : (scales : All (λ (x : Setting). x.scale ≤ 4096) c.settings) (k : Learnt) (m : NormalKept) (e : Turn) → length m.tracks ≤ length c.settings → IsSound m.tracks m.draft → AreItems c m → AreItems c (turn_after c k m e)
  unfolding turn_after
  items_turn scales k m e few sound h =
      let acked : NormalKept = after_ack e.ack m in
      let there : NormalKept = after_tracks c k e acked in
      let long : length there.tracks ≡ length m.tracks = served_len c k e.tracks acked.tracks (length acked.tracks) ∙ acked_len e.ack m in
      let acked_sound : IsSound acked.tracks acked.draft = sound_acked e.ack m sound in
      let served_sound : IsSound there.tracks there.draft = sound_served c k e.tracks acked.draft acked.tracks (length acked.tracks) acked_sound in
      let items : AreItems c there = served_items k e.tracks acked.draft acked.tracks (length acked.tracks) acked_sound (acked_items e.ack m h) in
      let pushed : AreItems c (after_push e.push (after_edits c k e m)) = pushed_items e.push (after_edits c k e m) (mutated_items scales k e.room there (omega arith) served_sound items) in
      by_bool e.ended (record m { ended = true }) (after_takes c e.mixes (after_push e.push (after_edits c k e m))) (λ f. h)
      (λ f. takes_items (after_push e.push (after_edits c k e m)).draft e.mixes (after_push e.push (after_edits c k e m)).tracks pushed)

  -- the draft has the items before the first turn
  pub items_new : AreItems c (new_normal c)
  items_new i = subst (IsItem c (new_normal c).draft i) (sym (at_new (length c.settings) i)) (λ away. absurd (true≢false away))
