-- The edits of the draft keep what holds of slots and draft.
use Rattle.std.proofs.Common.{◌≡◌, ◌≢◌, ℕ, ◌<◌, ◌≤◌, ◌&&◌, Bool, true, false, true≢false, sym, refl, ap, subst, ◌∙◌, inl, length}
use Rattle.af_life.proofs.Common.{FastState, FastTrack, and_none, both, carries, detached, no, none_and, not_true, slice_set, slot_of, slots}
use Rattle.af_life.proofs.Basics.{away_holds, each_set, has_slot, inside, lent_away, returning_away, set_each, slot_is, slot_of_away}
use Rattle.af_life.specs.Edits.{entered, lent_by, must_enter, must_leave}
use Rattle.af_life.specs.Kept.{NormalKept, Setup, is_home, setting_of, slot_number, track_at}
use Rattle.af_life.specs.Obeys.{holds}
use Rattle.af_life.specs.Sound.{IsDrafted, IsSlotted, IsSound}
use Rattle.af_life.specs.declared.kept.Heard.{Heard}
use Rattle.af_life.specs.declared.kept.Holder.TheVariants.{Home, Returning}
use Rattle.af_life.specs.declared.kept.TrackKept.{TrackKept}
use Rattle.af_life.proofs.DraftBits.{attached_here, attached_else, slot_here, slot_else, attached_state, detached_here, detached_else, detached_state}
use Rattle.af_life.proofs.SoundSlots.{alone_set}

module _ (m : NormalKept) (sound : IsSound m.tracks m.draft) where
  -- the slot of a track that isn't home
  pub away_slot : (i : ℕ) → is_home (track_at m.tracks i).holder ≡ false → (1 ≤ slot_number (track_at m.tracks i)) × (slot_number (track_at m.tracks i) < slots)
  away_slot i away = (sound.slotted i).slot (slot_of_away (track_at m.tracks i) (sound.slotted i) away)

  -- is not that of another track
  pub apart : (i j : ℕ) → j ≢ i → holds (slot_number (track_at m.tracks i)) (track_at m.tracks i) ≡ true → is_home (track_at m.tracks j).holder ≡ false → slot_number (track_at m.tracks j) ≢ slot_number (track_at m.tracks i)
  apart i j ne here away same = ne (sound.alone j i (slot_number (track_at m.tracks i)) (subst (λ (k : ℕ). holds k (track_at m.tracks j) ≡ true) same (away_holds (track_at m.tracks j) (sound.slotted j) away)) here)

  -- a draft that has at another slot what it had before
  abbrev SameAt : FastState → ℕ → Type 0
  SameAt draft k = (carries draft k ≡ carries m.draft k) × (slot_of draft k ≡ slot_of m.draft k)

  still_drafted : (draft : FastState) (j : ℕ) → (is_home (track_at m.tracks j).holder ≡ false → SameAt draft (slot_number (track_at m.tracks j))) → IsDrafted draft j (track_at m.tracks j)
  still_drafted draft j same = let s : TrackKept = track_at m.tracks j in let d = sound.drafted j in record {
    lent = (λ h. (same (lent_away s.holder h)).0 ∙ d.lent h);
    returning = (λ h. (same (returning_away s.holder h)).0 ∙ d.returning h);
    own = (λ away. subst (λ (t : FastTrack). (t.track ≡ j) × (t.generation ≡ s.generation)) (sym (same away).1) (d.own away));
  }

  -- ## A proxy comes home

  pub sound_home : (i : ℕ) → is_home (track_at m.tracks i).holder ≡ false → IsSound (slice_set m.tracks i (record (track_at m.tracks i) { holder = Home })) m.draft
  sound_home i away = record {
    slotted = set_each (λ (j : ℕ) (x : TrackKept). IsSlotted x) m.tracks i (record (track_at m.tracks i) { holder = Home }) (record { slot = (sound.slotted i).slot; unopened = (sound.slotted i).unopened; homely = (λ h. refl) }) sound.slotted;
    drafted = set_each (IsDrafted m.draft) m.tracks i (record (track_at m.tracks i) { holder = Home }) (record { lent = no; returning = no; own = (λ h. absurd (true≢false h)) }) sound.drafted;
    alone = alone_set m.tracks i (record (track_at m.tracks i) { holder = Home }) sound.alone
        (λ (k : ℕ) h. let parts = has_slot k (record (track_at m.tracks i) { holder = Home }) h in
        inl (slot_is k (track_at m.tracks i) parts.0 parts.1 (and_none (track_at m.tracks i).life.ended (is_home (track_at m.tracks i).holder) away)));
    state = sound.state;
  }

  -- ## A track leaves

  module _ (i : ℕ) (leaves : must_leave (track_at m.tracks i) ≡ true) where
    pub leaver_away : is_home (track_at m.tracks i).holder ≡ false
    leaver_away = lent_away (track_at m.tracks i).holder (both _ _ leaves).0

    pub leaver_slot : (1 ≤ slot_number (track_at m.tracks i)) × (slot_number (track_at m.tracks i) < slots)
    leaver_slot = away_slot i leaver_away

    pub leaver_carried : carries m.draft (slot_number (track_at m.tracks i)) ≡ true
    leaver_carried = (sound.drafted i).lent (both _ _ leaves).0

    pub leaver_inside : i < length m.tracks
    leaver_inside = inside m.tracks i (slot_of_away (track_at m.tracks i) (sound.slotted i) leaver_away)

    abbrev less : FastState
    less = detached (slot_number (track_at m.tracks i)) m.draft

    pub sound_go : IsSound (slice_set m.tracks i (record (track_at m.tracks i) { holder = Returning })) (detached (slot_number (track_at m.tracks i)) m.draft)
    sound_go = record {
      slotted = set_each (λ (j : ℕ) (x : TrackKept). IsSlotted x) m.tracks i (record (track_at m.tracks i) { holder = Returning })
          (record { slot = (sound.slotted i).slot; unopened = (sound.slotted i).unopened; homely = (λ none. absurd (true≢false (sym ((sound.slotted i).homely none) ∙ leaver_away))) }) sound.slotted;
      drafted = each_set (IsDrafted less) m.tracks i (record (track_at m.tracks i) { holder = Returning }) leaver_inside
          (record { lent = no; returning = (λ h. detached_here (slot_number (track_at m.tracks i)) m.draft leaver_slot.0 leaver_slot.1); own = (λ h. (sound.drafted i).own leaver_away) })
          (λ (j : ℕ) (ne : j ≢ i). still_drafted less j (λ away. (
            detached_else (slot_number (track_at m.tracks i)) m.draft leaver_slot.0 leaver_slot.1 (slot_number (track_at m.tracks j)) (away_slot j away).1
                (apart i j ne (away_holds (track_at m.tracks i) (sound.slotted i) leaver_away) away),
            refl,
          )));
      alone = alone_set m.tracks i (record (track_at m.tracks i) { holder = Returning }) sound.alone
          (λ (k : ℕ) h. let parts = has_slot k (record (track_at m.tracks i) { holder = Returning }) h in
          inl (slot_is k (track_at m.tracks i) parts.0 parts.1 (and_none (track_at m.tracks i).life.ended (is_home (track_at m.tracks i).holder) leaver_away)));
      state = detached_state (slot_number (track_at m.tracks i)) m.draft leaver_slot.0 leaver_slot.1 sound.state;
    }

  -- ## A track enters

  module _ (c : Setup) (i : ℕ) (own : Heard) (enters : must_enter (track_at m.tracks i) ≡ true) where
    pub comer_slot : (1 ≤ slot_number (track_at m.tracks i)) × (slot_number (track_at m.tracks i) < slots)
    comer_slot = (sound.slotted i).slot (both _ _ (both _ _ enters).1).0

    pub comer_home : is_home (track_at m.tracks i).holder ≡ true
    comer_home = (both _ _ enters).0

    pub comer_inside : i < length m.tracks
    comer_inside = inside m.tracks i (both _ _ (both _ _ enters).1).0

    comer_lives : (track_at m.tracks i).life.ended ≡ false
    comer_lives = not_true (track_at m.tracks i).life.ended (both (track_at m.tracks i).life.member _ (both _ _ (both _ _ enters).1).1).1

    comer_open : ((track_at m.tracks i).life.ended && is_home (track_at m.tracks i).holder) ≡ false
    comer_open = none_and (track_at m.tracks i).life.ended (is_home (track_at m.tracks i).holder) comer_lives

    pub comer_holds : holds (slot_number (track_at m.tracks i)) (track_at m.tracks i) ≡ true
    comer_holds = slot_is (slot_number (track_at m.tracks i)) (track_at m.tracks i) (both _ _ (both _ _ enters).1).0 refl comer_open

    abbrev more : FastState
    more = entered c i m

    abbrev k : ℕ
    k = slot_number (track_at m.tracks i)

    abbrev mono : Bool
    mono = (setting_of c i).mono

    abbrev scale : ℕ
    scale = (setting_of c i).scale

    pub sound_lend : (setting_of c i).scale ≤ 4096 → IsSound (slice_set m.tracks i (lent_by (entered c i m) own (track_at m.tracks i))) (entered c i m)
    sound_lend fine = record {
      slotted = set_each (λ (j : ℕ) (x : TrackKept). IsSlotted x) m.tracks i (lent_by more own (track_at m.tracks i))
          (record { slot = (sound.slotted i).slot; unopened = (sound.slotted i).unopened; homely = (λ none. absurd (true≢false (sym (both _ _ (both _ _ enters).1).0 ∙ none))) }) sound.slotted;
      drafted = each_set (IsDrafted more) m.tracks i (lent_by more own (track_at m.tracks i)) comer_inside
          (record {
            lent = (λ h. attached_here k mono scale i m.draft comer_slot.0 comer_slot.1 sound.state);
            returning = no;
            own = (λ h. (ap (λ (t : FastTrack). t.track) (slot_here k mono scale i m.draft comer_slot.0 comer_slot.1 sound.state), refl));
          })
          (λ (j : ℕ) (ne : j ≢ i). still_drafted more j (λ away. let other = apart i j ne comer_holds away in (
            attached_else k mono scale i m.draft comer_slot.0 comer_slot.1 sound.state (slot_number (track_at m.tracks j)) other,
            slot_else k mono scale i m.draft comer_slot.0 comer_slot.1 sound.state (slot_number (track_at m.tracks j)) other,
          )));
      alone = alone_set m.tracks i (lent_by more own (track_at m.tracks i)) sound.alone
          (λ (n : ℕ) h. let parts = has_slot n (lent_by more own (track_at m.tracks i)) h in inl (slot_is n (track_at m.tracks i) parts.0 parts.1 comer_open));
      state = attached_state k mono scale i m.draft comer_slot.0 comer_slot.1 sound.state fine;
    }
