-- A turn of the plain mixer keeps what holds of its slots and its draft, whatever it saw.
use Rattle.std.proofs.Common.{◌≡◌, ℕ, zero, suc, ◌≤◌, Bool, true, false, if◌then◌else◌, true≢false, sym, refl, ap, subst, ◌∙◌, List, [], ◌∷◌, length, fold, inl, replicate, All, arith}
use Rattle.af_life.proofs.Common.{Busy, Clean, Command, FastState, IsState, Push, Pushed, TakeSeen, Turn, and_none, both_first, initial, no}
use Rattle.af_life.proofs.Basics.{at_new, either, has_slot, returning_away, scale_fits, set_each, slot_is, sound_ordered, welcomed_at}
use Rattle.af_life.proofs.Lives.{acked_len, edits_len, served_len}
use Rattle.af_life.specs.Edits.{after_ack, after_push, comes_home, edited, edited_to, lend, let_go, must_enter, must_leave, mutated, ordered, welcomed}
use Rattle.af_life.specs.Kept.{Learnt, NormalKept, Setup, asked, is_home, is_returning, new_normal, new_track, track_at}
use Rattle.af_life.specs.Obeys.{holds}
use Rattle.af_life.specs.Plays.{after_take, after_takes, look_counted}
use Rattle.af_life.specs.Sound.{IsDrafted, IsSlotted, IsSound}
use Rattle.af_life.specs.Turn.{after_edits, after_tracks, turn_after}
use Rattle.af_life.specs.declared.kept.Holder.TheVariants.{Home}
use Rattle.af_life.specs.declared.kept.Setting.{Setting}
use Rattle.af_life.specs.declared.kept.TrackKept.{TrackKept}
use Rattle.af_life.proofs.DraftBits.{initial_state}
use Rattle.af_life.proofs.SoundSlots.{alone_set, sound_served}
use Rattle.af_life.proofs.SoundEdits.{comer_inside, sound_go, sound_lend}

-- ## What comes home

module _ (last draft : FastState) (i : ℕ) (s : TrackKept) where
  welcomed_slotted : IsSlotted s → IsSlotted (welcomed last s)
  unfolding welcomed
  welcomed_slotted h = either IsSlotted (comes_home last s) (record s { holder = Home }) s (λ e. record { slot = h.slot; unopened = h.unopened; homely = (λ f. refl) }) h

  welcomed_drafted : IsDrafted draft i s → IsDrafted draft i (welcomed last s)
  unfolding welcomed
  welcomed_drafted h = either (IsDrafted draft i) (comes_home last s) (record s { holder = Home }) s (λ e. record { lent = no; returning = no; own = (λ f. absurd (true≢false f)) }) h

  welcomed_holds : (k : ℕ) → holds k (welcomed last s) ≡ true → holds k s ≡ true
  unfolding welcomed
  welcomed_holds k = either (λ t. holds k t ≡ true → holds k s ≡ true) (comes_home last s) (record s { holder = Home }) s
      (λ e h. let parts = has_slot k (record s { holder = Home }) h in
      slot_is k s parts.0 parts.1 (and_none s.life.ended (is_home s.holder) (returning_away s.holder (both_first (is_returning s.holder) _ e))))
      (λ h. h)

pub sound_acked : (ack : Bool) (m : NormalKept) → IsSound m.tracks m.draft → IsSound (after_ack ack m).tracks (after_ack ack m).draft
sound_acked false m h = h
sound_acked true m h = record {
  slotted = (λ i. subst IsSlotted (sym (welcomed_at m.last m.tracks i)) (welcomed_slotted m.last m.draft i (track_at m.tracks i) (h.slotted i)));
  drafted = (λ i. subst (IsDrafted m.draft i) (sym (welcomed_at m.last m.tracks i)) (welcomed_drafted m.last m.draft i (track_at m.tracks i) (h.drafted i)));
  alone = (λ i j k a b. h.alone i j k
      (welcomed_holds m.last m.draft i (track_at m.tracks i) k (sym (ap (holds k) (welcomed_at m.last m.tracks i)) ∙ a))
      (welcomed_holds m.last m.draft j (track_at m.tracks j) k (sym (ap (holds k) (welcomed_at m.last m.tracks j)) ∙ b)));
  state = h.state;
}

-- ## The looks that count

module _ (asked : ℕ) (draft : FastState) where
  sound_take : (tracks : List TrackKept) (take : TakeSeen) → IsSound tracks draft → IsSound (after_take asked tracks take) draft
  sound_take tracks take h =
      let i : ℕ = take.track in
      let s : TrackKept = track_at tracks i in
      let t : TrackKept = record s { own = look_counted asked take.slot.seen s.own } in record {
        slotted = set_each (λ (j : ℕ) (x : TrackKept). IsSlotted x) tracks i t (record { slot = (h.slotted i).slot; unopened = (h.slotted i).unopened; homely = (h.slotted i).homely }) h.slotted;
        drafted = set_each (IsDrafted draft) tracks i t (record { lent = (h.drafted i).lent; returning = (h.drafted i).returning; own = (h.drafted i).own }) h.drafted;
        alone = alone_set tracks i t h.alone (λ n e. inl e);
        state = h.state;
      }

  pub sound_takes : (takes : List TakeSeen) (tracks : List TrackKept) → IsSound tracks draft → IsSound (fold (after_take asked) tracks takes) draft
  sound_takes [] tracks h = h
  sound_takes (take ∷ takes) tracks h = sound_takes takes (after_take asked tracks take) (sound_take tracks take h)

-- ## The edits

abbrev pub Sound : NormalKept → Type 0
Sound m = IsSound m.tracks m.draft

by_bool : (b : Bool) (m n : NormalKept) → (b ≡ true → Sound m) → (b ≡ false → Sound n) → Sound (if b then m else n)
by_bool true m n f g = f refl
by_bool false m n f g = g refl

module _ (c : Setup) (scales : All (λ (s : Setting). s.scale ≤ 4096) c.settings) (k : Learnt) where
  sound_edited : (i : ℕ) (m : NormalKept) → length m.tracks ≤ length c.settings → Sound m → Sound (edited c k i m)
  unfolding edited let_go lend
  sound_edited i m few h = by_bool (must_leave (track_at m.tracks i)) _ _ (λ e. sound_go m h i e)
      (λ stays. by_bool (must_enter (track_at m.tracks i)) _ m
      (λ e. sound_lend m h c i (k.own i) e (scale_fits c i scales (let l = comer_inside m h c i (k.own i) e in omega arith)))
      (λ f. h))

  pub sound_edits : (n : ℕ) (m : NormalKept) → length m.tracks ≤ length c.settings → Sound m → Sound (edited_to c k m n)
  sound_edits zero m few h = h
  sound_edits (suc n) m few h = sound_edited n (edited_to c k m n) (let l = edits_len c k m n in omega arith) (sound_edits n m few h)

  pub sound_command : (command : Command) (m : NormalKept) → Sound m → Sound (ordered command m)
  unfolding ordered
  sound_command command m h = by_bool _ m _ (λ e. h) (λ e. sound_ordered m.tracks m.draft command h)

  pub sound_mutated : (room : ℕ) (m : NormalKept) → length m.tracks ≤ length c.settings → Sound m → Sound (mutated c k room m)
  unfolding mutated
  sound_mutated room m few h = sound_command _ (edited_to c k m (length m.tracks)) (sound_edits (length m.tracks) m few h)

  sound_pushed : (push : Push) (m : NormalKept) → Sound m → Sound (after_push push m)
  sound_pushed (Pushed number) m h = h
  sound_pushed Clean m h = h
  sound_pushed (Busy seen expected) m h = h

  -- ## The whole turn

  goes_sound : (m : NormalKept) (e : Turn) → length m.tracks ≤ length c.settings → Sound m → Sound (after_takes c e.mixes (after_push e.push (after_edits c k e m)))
  goes_sound m e few h =
      let acked : NormalKept = after_ack e.ack m in
      let served : NormalKept = after_tracks c k e (after_ack e.ack m) in
      let long : length served.tracks ≡ length m.tracks = served_len c k e.tracks (after_ack e.ack m).tracks (length (after_ack e.ack m).tracks) ∙ acked_len e.ack m in
      let s : Sound served = sound_served c k e.tracks (after_ack e.ack m).draft (after_ack e.ack m).tracks (length (after_ack e.ack m).tracks) (sound_acked e.ack m h) in
      let p : Sound (after_push e.push (after_edits c k e m)) = sound_pushed e.push (after_edits c k e m) (sound_mutated e.room served (omega arith) s) in
      sound_takes (asked c) (after_push e.push (after_edits c k e m)).draft e.mixes (after_push e.push (after_edits c k e m)).tracks p

  pub sound_turn : (m : NormalKept) (e : Turn) → length m.tracks ≤ length c.settings → Sound m → Sound (turn_after c k m e)
  unfolding turn_after
  sound_turn m e few h = by_bool e.ended (record m { ended = true }) _ (λ f. h) (λ f. goes_sound m e few h)

-- ## Before the first turn

pub new_sound : (n frames : ℕ) (draft : FastState) → draft ≡ initial frames → IsSound (replicate n new_track) draft
new_sound n frames draft e = record {
  slotted = (λ i. subst IsSlotted (sym (at_new n i)) (record { slot = no; unopened = (λ h. refl); homely = (λ h. refl) }));
  drafted = (λ i. subst (IsDrafted draft i) (sym (at_new n i)) (record { lent = no; returning = no; own = (λ h. absurd (true≢false h)) }));
  alone = (λ i j k h g. no (sym (ap (holds k) (at_new n i)) ∙ h));
  state = subst IsState (sym e) (initial_state frames);
}

-- the mixer is sound before the first turn
pub sound_new : (c : Setup) → Sound (new_normal c)
sound_new c = new_sound (length c.settings) c.frames (new_normal c).draft refl
