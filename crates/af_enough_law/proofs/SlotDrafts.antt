-- A turn leaves a slot of the draft as it was, or attaches it anew, with a higher generation; so a proxy that it lends has a generation that no state before had.
use Rattle.std.proofs.Common.{◌≡◌, ◌≢◌, ℕ, zero, suc, ◌+◌, ◌≤◌, ◌<◌, if◌then◌else◌, Bool, true, false, true≢false, All, length, refl, sym, ap, ◌∙◌, subst, arith, ⊎_elim}
use Rattle.af_enough_law.proofs.Common.{Command, FastState, FastTrack, IsSound, Learnt, NormalKept, Setting, Setup, TrackKept, Turn, acked_len, after_ack, after_edits, after_tracks, attached_else, carries, cases_eq, comer_slot, draft_commanded as with_command, detached, detached_else, detached_here, edited, edited_to, entered, is_lent, leaver_slot, lend, let_go, must_enter, must_leave, mutated, ordered, served_len, setting_of, slot_else, slot_here, slot_number, slot_of, slots, sound_acked, sound_edits, sound_served, track_at, turn_after}
use Rattle.af_enough_law.proofs.Ends.{IsInOrder}
use Rattle.af_enough_law.proofs.Orders.{lent_carried}
use Rattle.af_enough_law.proofs.RestTurns.{draft_after_turn}

-- a slot of a later draft is the one that it was, and is carried only if it was, or it is attached anew
pub data SlotStays (before after : FastState) (n : ℕ) : Type 0 where
  kept : slot_of after n ≡ slot_of before n → (carries after n ≡ true → carries before n ≡ true) → SlotStays before after n
  anew : (slot_of before n).generation + 1 ≤ (slot_of after n).generation → SlotStays before after n

-- the generation of a slot never falls
pub generation_rises : (before after : FastState) (n : ℕ) → SlotStays before after n → (slot_of before n).generation ≤ (slot_of after n).generation
generation_rises before after n (kept same on) = let g = ap (λ (t : FastTrack). t.generation) same in omega (arith, g)
generation_rises before after n (anew more) = omega (arith, more)

stays_both : (a b c : FastState) (n : ℕ) → SlotStays a b n → SlotStays b c n → SlotStays a c n
stays_both a b c n (kept same on) (kept again still) = kept (again ∙ same) (λ h. on (still h))
stays_both a b c n (kept same on) (anew more) = anew (let g = ap (λ (t : FastTrack). t.generation) same in omega (arith, g, more))
stays_both a b c n (anew more) later = anew (let g = generation_rises b c n later in omega (arith, g, more))

still : (a : FastState) (n : ℕ) → SlotStays a a n
still a n = kept refl (λ h. h)

-- ## The edits

by_bool : (x : FastState) (n : ℕ) (b : Bool) (m k : NormalKept) → (b ≡ true → SlotStays x m.draft n) → (b ≡ false → SlotStays x k.draft n) → SlotStays x (if b then m else k).draft n
by_bool x n true m k f g = f refl
by_bool x n false m k f g = g refl

module _ (c : Setup) (n : ℕ) (low : n < slots) where
  edited_slot : (k : Learnt) (i : ℕ) (m : NormalKept) → IsSound m.tracks m.draft → SlotStays m.draft (edited c k i m).draft n
  unfolding edited let_go lend
  edited_slot k i m sound = by_bool m.draft n (must_leave s) (let_go i m) (if must_enter s then lend c i (k.own i) m else m)
      (λ e. let at = leaver_slot m sound i e in kept refl (λ h. ⊎_elim
      (λ (same : n ≡ slot_number s). absurd (true≢false (sym h ∙ ap (carries (detached (slot_number s) m.draft)) same ∙ detached_here (slot_number s) m.draft at.0 at.1)))
      (λ (other : n ≢ slot_number s). sym (detached_else (slot_number s) m.draft at.0 at.1 n low other) ∙ h)
      (cases_eq n (slot_number s))))
      (λ f. by_bool m.draft n (must_enter s) (lend c i (k.own i) m) m
      (λ e. let at = comer_slot m sound c i (k.own i) e in ⊎_elim
      (λ (same : n ≡ slot_number s).
      let g : (slot_of (entered c i m) (slot_number s)).generation ≡ (slot_of m.draft (slot_number s)).generation + 1 = ap (λ (t : FastTrack). t.generation) (slot_here (slot_number s) (setting_of c i).mono (setting_of c i).scale i m.draft at.0 at.1 sound.state) in
      let h : (slot_of (entered c i m) n).generation ≡ (slot_of m.draft n).generation + 1 = ap (λ (j : ℕ). (slot_of (entered c i m) j).generation) same ∙ g ∙ ap (λ (j : ℕ). (slot_of m.draft j).generation + 1) (sym same) in
      anew (omega (arith, h)))
      (λ (other : n ≢ slot_number s). kept (slot_else (slot_number s) (setting_of c i).mono (setting_of c i).scale i m.draft at.0 at.1 sound.state n other)
      (λ h. sym (attached_else (slot_number s) (setting_of c i).mono (setting_of c i).scale i m.draft at.0 at.1 sound.state n other) ∙ h))
      (cases_eq n (slot_number s)))
      (λ e. still m.draft n))
    where
      s : TrackKept
      s = track_at m.tracks i

  edits_slot : (scales : All (λ (x : Setting). x.scale ≤ 4096) c.settings) (k : Learnt) (m : NormalKept) (count : ℕ) → length m.tracks ≤ length c.settings → IsSound m.tracks m.draft → SlotStays m.draft (edited_to c k m count).draft n
  edits_slot scales k m zero few sound = still m.draft n
  edits_slot scales k m (suc count) few sound =
      stays_both m.draft (edited_to c k m count).draft (edited_to c k m (suc count)).draft n (edits_slot scales k m count few sound) (edited_slot k count (edited_to c k m count) (sound_edits c scales k count m few sound))

  ordered_slot : (command : Command) (m : NormalKept) → SlotStays m.draft (ordered command m).draft n
  unfolding ordered
  ordered_slot command m = by_bool m.draft n _ m (record m { draft = with_command command m.draft; dirty = true }) (λ e. still m.draft n) (λ e. kept refl (λ h. h))

  mutated_slot : (scales : All (λ (x : Setting). x.scale ≤ 4096) c.settings) (k : Learnt) (room : ℕ) (m : NormalKept) → length m.tracks ≤ length c.settings → IsSound m.tracks m.draft → SlotStays m.draft (mutated c k room m).draft n
  unfolding mutated
  mutated_slot scales k room m few sound =
      let x : NormalKept = edited_to c k m (length m.tracks) in
      stays_both m.draft x.draft (mutated c k room m).draft n (edits_slot scales k m (length m.tracks) few sound) (ordered_slot _ x)

  -- What a turn leaves of a slot of the draft
  pub turn_slot : (scales : All (λ (x : Setting). x.scale ≤ 4096) c.settings) (k : Learnt) (m : NormalKept) (e : Turn) → length m.tracks ≤ length c.settings → e.ended ≡ false → IsSound m.tracks m.draft → SlotStays m.draft (turn_after c k m e).draft n
  turn_slot scales k m e few runs sound =
      let acked : NormalKept = after_ack e.ack m in
      let there : NormalKept = after_tracks c k e acked in
      let long : length there.tracks ≡ length m.tracks = served_len c k e.tracks acked.tracks (length acked.tracks) ∙ acked_len e.ack m in
      let acked_sound : IsSound acked.tracks acked.draft = sound_acked e.ack m sound in
      let served_sound : IsSound there.tracks there.draft = sound_served c k e.tracks acked.draft acked.tracks (length acked.tracks) acked_sound in
      let made : SlotStays there.draft (after_edits c k e m).draft n = mutated_slot scales k e.room there (omega (arith, long, few)) served_sound in
      subst (λ (x : FastState). SlotStays m.draft x n) (sym (draft_after_turn c k m e runs)) (subst (λ (x : FastState). SlotStays x (after_edits c k e m).draft n) (same_draft e.ack) made)
    where
      same_draft : (ack : Bool) → (after_ack ack m).draft ≡ m.draft
      same_draft true = refl
      same_draft false = refl

-- ## A proxy that is lent

-- a proxy that was home, and is lent after the turn, has a generation above the one that its slot had in the draft
pub lent_anew : (c : Setup) (m after : NormalKept) (i : ℕ) → IsInOrder m → IsInOrder after → ((n : ℕ) → n < slots → SlotStays m.draft after.draft n) → is_lent (track_at m.tracks i).holder ≡ false → is_lent (track_at after.tracks i).holder ≡ true → slot_number (track_at after.tracks i) < slots
    → (slot_of m.draft (slot_number (track_at after.tracks i))).generation + 1 ≤ (track_at after.tracks i).generation
lent_anew c m after i before next stays home lent low = by (stays n low)
  where
    n : ℕ
    n = slot_number (track_at after.tracks i)

    by : SlotStays m.draft after.draft n → (slot_of m.draft n).generation + 1 ≤ (track_at after.tracks i).generation
    by (anew more) = let g = (lent_carried after i next.sound lent).2 in omega (arith, more, g)
    by (kept same on) =
        let at = lent_carried after i next.sound lent in
        let o = before.owned n low (on at.0) in
        let owner = lent_carried m o.owner before.sound o.lent in
        let is : o.owner ≡ i = sym owner.1 ∙ ap (λ (j : ℕ). (slot_of m.draft j).track) o.slot_is ∙ ap (λ (t : FastTrack). t.track) (sym same) ∙ at.1 in
        absurd (true≢false (sym (ap (λ (j : ℕ). is_lent (track_at m.tracks j).holder) (sym is) ∙ o.lent) ∙ home))
