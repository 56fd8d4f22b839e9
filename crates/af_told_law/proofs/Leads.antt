-- Which tracks the slots of states lead to, through a turn of the normal mixer: each leads to a track whose proxy isn't home.
use Rattle.std.proofs.Common.{◌≡◌, ◌≢◌, ℕ, zero, suc, ◌<◌, ◌≤◌, ◌&&◌, ◌⊎◌, not, Bool, true, false, true≢false, if◌then◌else◌, List, length, map, refl, sym, ap, subst, ◌∙◌, ⊎_elim, arith}
use Rattle.af_told_law.proofs.Common.{All, Busy, CarriesNone, Clean, Command, FastState, FastTrack, Heard, Home, IsSound, Learnt, Lent, NormalKept, Push, Pushed, Returning, Setup, Sound, StaysPut, TrackKept, Turn, acked_len, after_ack, after_edits, after_push, after_takes, after_tracks, asked, at_here, at_set, carries, cases_eq, comer_inside, comer_slot, comes_home, detached, edited, edited_to, entered, is_home, is_lent, is_returning, leaver_slot, lend, lent_by, let_go, must_enter, must_leave, no, number_of, ordered, served_len, setting_of, slice_set, slot_number, slot_of, slots, sound_edits, stay_put, stays_all, stays_out, track_at, turn_after, welcomed, welcomed_at}
use Rattle.af_life.proofs.SoundTurns.{sound_acked}
use Rattle.af_life.proofs.SoundSlots.{sound_served}
use Rattle.af_life.proofs.Basics.{lent_away}
use Rattle.af_life.specs.declared.kept.Holder.{Holder}
use Rattle.af_life.specs.declared.kept.Setting.{Setting}
use Rattle.af_life.specs.Edits.{mutated}
use Rattle.af_stateq.proofs.Bits.{attached_else, detached_else, detached_here, slot_else, slot_here}
use Rattle.af_told_law.specs.Leads.{LeadAway, LeadLent, Leads}
use Rattle.af_base.proofs.Basics.{and_none}

-- the track of a slot of a state
abbrev led : FastState → ℕ → ℕ
led x k = (slot_of x k).track

-- ## Where the proxies and the slots of tracks that are away stay

module _ (tracks now : List TrackKept) (put : (j : ℕ) → StaysPut (track_at tracks j) (track_at now j)) where
  away_put : (x : FastState) → LeadAway x tracks → LeadAway x now
  away_put x h k lt on = let old = h k lt on in let p = put (led x k) in (ap is_home p.0 ∙ old.0, ap number_of (p.1 old.0) ∙ old.1)

  lent_put : (x : FastState) → LeadLent x tracks → LeadLent x now
  lent_put x h k lt on = let old = h k lt on in let p = put (led x k) in (ap is_lent p.0 ∙ old.0, ap number_of (p.1 (lent_away (track_at tracks (led x k)).holder old.0)) ∙ old.1)

-- ## What comes home

carried_stays : (last : FastState) (s : TrackKept) → carries last (slot_number s) ≡ true → comes_home last s ≡ false
carried_stays last s on = and_none (is_returning s.holder) (not (carries last (slot_number s))) (ap not on)

lent_stays : (last : FastState) (s : TrackKept) → is_lent s.holder ≡ true → comes_home last s ≡ false
lent_stays last s lent = ap (λ (b : Bool). b && not (carries last (slot_number s))) (not_returning s.holder lent)
  where
    not_returning : (h : Holder) → is_lent h ≡ true → is_returning h ≡ false
    not_returning Home e = refl
    not_returning Lent e = refl
    not_returning Returning e = no e

module _ (last : FastState) (tracks : List TrackKept) where
  -- a slot that the last state carries still leads away
  away_acked : LeadAway last tracks → LeadAway last (map (welcomed last) tracks)
  away_acked h k lt on =
      let old = h k lt on in
      let s : TrackKept = track_at tracks (led last k) in
      let same : track_at (map (welcomed last) tracks) (led last k) ≡ s = welcomed_at last tracks (led last k) ∙ stays_out last s (carried_stays last s (ap (carries last) old.1 ∙ on)) in
      (ap (λ (t : TrackKept). is_home t.holder) same ∙ old.0, ap slot_number same ∙ old.1)

  lent_acked : (x : FastState) → LeadLent x tracks → LeadLent x (map (welcomed last) tracks)
  lent_acked x h k lt on =
      let old = h k lt on in
      let s : TrackKept = track_at tracks (led x k) in
      let same : track_at (map (welcomed last) tracks) (led x k) ≡ s = welcomed_at last tracks (led x k) ∙ stays_out last s (lent_stays last s old.0) in
      (ap (λ (t : TrackKept). is_lent t.holder) same ∙ old.0, ap slot_number same ∙ old.1)

-- the observer's state is the last one, or carries nothing yet
abbrev pub IsLast : FastState → NormalKept → Type 0
IsLast x m = (x ≡ m.last) ⊎ CarriesNone x

leads_acked : (x : FastState) (ack : Bool) (m : NormalKept) → (ack ≡ true → IsLast x m) → Leads x m → Leads x (after_ack ack m)
leads_acked x false m seen h = h
leads_acked x true m seen h = record {
  draft = lent_acked m.last m.tracks m.draft h.draft;
  last = away_acked m.last m.tracks h.last;
  state = ⊎_elim
      (λ (e : x ≡ m.last). subst (λ (y : FastState). LeadAway y (map (welcomed m.last) m.tracks)) (sym e) (away_acked m.last m.tracks h.last))
      (λ (none : CarriesNone x) (k : ℕ) (lt : k < slots) (on : carries x k ≡ true). absurd (true≢false (sym on ∙ none k lt)))
      (seen refl);
}

-- ## The edits

module _ (m : NormalKept) (sound : IsSound m.tracks m.draft) (i : ℕ) where
  abbrev s : TrackKept
  s = track_at m.tracks i

  -- states lead away if a track is changed that is away, stays away and keeps its slot
  moved_away : (t : TrackKept) → is_home t.holder ≡ false → t.slot ≡ s.slot → (x : FastState) → LeadAway x m.tracks → LeadAway x (slice_set m.tracks i t)
  moved_away t away slot x h k lt on =
      let old = h k lt on in
      ⊎_elim
      (λ (e : (led x k ≡ i) × (track_at (slice_set m.tracks i t) (led x k) ≡ t)). (
        ap (λ (u : TrackKept). is_home u.holder) e.1 ∙ away,
        ap slot_number e.1 ∙ ap number_of slot ∙ ap (λ (j : ℕ). slot_number (track_at m.tracks j)) (sym e.0) ∙ old.1,
      ))
      (λ (e : track_at (slice_set m.tracks i t) (led x k) ≡ track_at m.tracks (led x k)). (ap (λ (u : TrackKept). is_home u.holder) e ∙ old.0, ap slot_number e ∙ old.1))
      (at_set m.tracks i t (led x k))

  -- a track that is let go
  module _ (leaves : must_leave (track_at m.tracks i) ≡ true) where
    lent_let_go : LeadLent m.draft m.tracks → LeadLent (detached (slot_number s) m.draft) (slice_set m.tracks i (record s { holder = Returning }))
    lent_let_go h k lt on =
        let slot = leaver_slot m sound i leaves in
        let other : k ≢ slot_number s = (λ (e : k ≡ slot_number s). true≢false (sym on ∙ ap (carries (detached (slot_number s) m.draft)) e ∙ detached_here (slot_number s) m.draft slot.0 slot.1)) in
        let was : carries m.draft k ≡ true = sym (detached_else (slot_number s) m.draft slot.0 slot.1 k lt other) ∙ on in
        let old = h k lt was in
        ⊎_elim
        (λ (e : (led m.draft k ≡ i) × (track_at (slice_set m.tracks i (record s { holder = Returning })) (led m.draft k) ≡ record s { holder = Returning })).
        absurd (other (sym old.1 ∙ ap (λ (j : ℕ). slot_number (track_at m.tracks j)) e.0)))
        (λ (e : track_at (slice_set m.tracks i (record s { holder = Returning })) (led m.draft k) ≡ track_at m.tracks (led m.draft k)). (ap (λ (u : TrackKept). is_lent u.holder) e ∙ old.0, ap slot_number e ∙ old.1))
        (at_set m.tracks i (record s { holder = Returning }) (led m.draft k))

    leads_let_go : (x : FastState) → Leads x m → Leads x (let_go i m)
    unfolding let_go
    leads_let_go x h = record {
      draft = lent_let_go h.draft;
      last = moved_away (record s { holder = Returning }) refl refl m.last h.last;
      state = moved_away (record s { holder = Returning }) refl refl x h.state;
    }

  -- a track that is lent
  module _ (c : Setup) (own : Heard) (enters : must_enter (track_at m.tracks i) ≡ true) where
    abbrev more : FastState
    more = entered c i m

    abbrev t : TrackKept
    t = lent_by (entered c i m) own (track_at m.tracks i)

    lent_entered : LeadLent m.draft m.tracks → LeadLent (entered c i m) (slice_set m.tracks i t)
    lent_entered h k lt on = ⊎_elim here there (cases_eq k (slot_number s))
      where
        slot : (1 ≤ slot_number s) × (slot_number s < slots)
        slot = comer_slot m sound c i own enters

        here : k ≡ slot_number s → (is_lent (track_at (slice_set m.tracks i t) (led (entered c i m) k)).holder ≡ true) × (slot_number (track_at (slice_set m.tracks i t) (led (entered c i m) k)) ≡ k)
        here e =
            let leads : led (entered c i m) k ≡ i = ap (led (entered c i m)) e ∙ ap (λ (f : FastTrack). f.track) (slot_here (slot_number s) (setting_of c i).mono (setting_of c i).scale i m.draft slot.0 slot.1 sound.state) in
            let is : track_at (slice_set m.tracks i t) (led (entered c i m) k) ≡ t = ap (track_at (slice_set m.tracks i t)) leads ∙ at_here m.tracks i t (comer_inside m sound c i own enters) in
            (ap (λ (u : TrackKept). is_lent u.holder) is, ap slot_number is ∙ sym e)

        there : k ≢ slot_number s → (is_lent (track_at (slice_set m.tracks i t) (led (entered c i m) k)).holder ≡ true) × (slot_number (track_at (slice_set m.tracks i t) (led (entered c i m) k)) ≡ k)
        there ne =
            let was : carries m.draft k ≡ true = sym (attached_else (slot_number s) (setting_of c i).mono (setting_of c i).scale i m.draft slot.0 slot.1 sound.state k ne) ∙ on in
            let old = h k lt was in
            let leads : led (entered c i m) k ≡ led m.draft k = ap (λ (f : FastTrack). f.track) (slot_else (slot_number s) (setting_of c i).mono (setting_of c i).scale i m.draft slot.0 slot.1 sound.state k ne) in
            let apart : track_at (slice_set m.tracks i t) (led m.draft k) ≡ track_at m.tracks (led m.draft k) =
            ⊎_elim
            (λ (e : (led m.draft k ≡ i) × (track_at (slice_set m.tracks i t) (led m.draft k) ≡ t)).
            absurd (ne (sym old.1 ∙ ap (λ (j : ℕ). slot_number (track_at m.tracks j)) e.0)))
            (λ (e : track_at (slice_set m.tracks i t) (led m.draft k) ≡ track_at m.tracks (led m.draft k)). e)
            (at_set m.tracks i t (led m.draft k)) in
            let is : track_at (slice_set m.tracks i t) (led (entered c i m) k) ≡ track_at m.tracks (led m.draft k) = ap (track_at (slice_set m.tracks i t)) leads ∙ apart in
            (ap (λ (u : TrackKept). is_lent u.holder) is ∙ old.0, ap slot_number is ∙ old.1)

    leads_lend : (x : FastState) → Leads x m → Leads x (lend c i own m)
    unfolding lend
    leads_lend x h = record {
      draft = lent_entered h.draft;
      last = moved_away t refl refl m.last h.last;
      state = moved_away t refl refl x h.state;
    }

by_bool : (x : FastState) (b : Bool) (m n : NormalKept) → (b ≡ true → Leads x m) → (b ≡ false → Leads x n) → Leads x (if b then m else n)
by_bool x true m n f g = f refl
by_bool x false m n f g = g refl

module _ (c : Setup) (scales : All (λ (s : Setting). s.scale ≤ 4096) c.settings) (k : Learnt) (x : FastState) where
  leads_edited : (i : ℕ) (m : NormalKept) → Sound m → Leads x m → Leads x (edited c k i m)
  unfolding edited
  leads_edited i m sound h = by_bool x (must_leave (track_at m.tracks i)) _ _ (λ e. leads_let_go m sound i e x h)
      (λ stays. by_bool x (must_enter (track_at m.tracks i)) _ m (λ e. leads_lend m sound i c (k.own i) e x h) (λ f. h))

  leads_edits : (n : ℕ) (m : NormalKept) → length m.tracks ≤ length c.settings → Sound m → Leads x m → Leads x (edited_to c k m n)
  leads_edits zero m few sound h = h
  leads_edits (suc n) m few sound h = leads_edited n (edited_to c k m n) (sound_edits c scales k n m few sound) (leads_edits n m few sound h)

  leads_ordered : (command : Command) (m : NormalKept) → Leads x m → Leads x (ordered command m)
  unfolding ordered
  leads_ordered command m h = by_bool x _ m _ (λ e. h) (λ e. record { draft = h.draft; last = h.last; state = h.state })

  leads_mutated : (room : ℕ) (m : NormalKept) → length m.tracks ≤ length c.settings → Sound m → Leads x m → Leads x (mutated c k room m)
  unfolding mutated
  leads_mutated room m few sound h = leads_ordered _ (edited_to c k m (length m.tracks)) (leads_edits (length m.tracks) m few sound h)

  leads_pushed : (push : Push) (m : NormalKept) → Leads x m → Leads x (after_push push m)
  leads_pushed (Pushed number) m h = record { draft = h.draft; last = (λ j lt on. let old = h.draft j lt on in (lent_away (track_at m.tracks (led m.draft j)).holder old.0, old.1)); state = h.state }
  leads_pushed Clean m h = h
  leads_pushed (Busy seen expected) m h = h

  goes_leads : (m : NormalKept) (e : Turn) → length m.tracks ≤ length c.settings → Sound m → (e.ack ≡ true → IsLast x m) → Leads x m → Leads x (after_takes c e.mixes (after_push e.push (after_edits c k e m)))
  goes_leads m e few sound seen h =
      let acked : NormalKept = after_ack e.ack m in
      let served : NormalKept = after_tracks c k e acked in
      let acked_sound : Sound acked = sound_acked e.ack m sound in
      let long : length served.tracks ≡ length m.tracks = served_len c k e.tracks acked.tracks (length acked.tracks) ∙ acked_len e.ack m in
      let first : Leads x acked = leads_acked x e.ack m seen h in
      let put = stay_put c k e.tracks acked.draft acked.tracks acked_sound (length acked.tracks) in
      let second : Leads x served = record {
        draft = lent_put acked.tracks served.tracks put acked.draft first.draft;
        last = away_put acked.tracks served.tracks put acked.last first.last;
        state = away_put acked.tracks served.tracks put x first.state;
      } in
      let served_sound : Sound served = sound_served c k e.tracks acked.draft acked.tracks (length acked.tracks) acked_sound in
      let pushed : NormalKept = after_push e.push (after_edits c k e m) in
      let third : Leads x pushed = leads_pushed e.push (after_edits c k e m) (leads_mutated e.room served (omega (arith, few, long)) served_sound second) in
      let stays = stays_all (asked c) e.mixes pushed.tracks in
      record {
        draft = lent_put pushed.tracks (after_takes c e.mixes pushed).tracks stays pushed.draft third.draft;
        last = away_put pushed.tracks (after_takes c e.mixes pushed).tracks stays pushed.last third.last;
        state = away_put pushed.tracks (after_takes c e.mixes pushed).tracks stays x third.state;
      }

  pub turn_leads : (m : NormalKept) (e : Turn) → length m.tracks ≤ length c.settings → Sound m → (e.ended ≡ false → e.ack ≡ true → IsLast x m) → Leads x m → Leads x (turn_after c k m e)
  unfolding turn_after
  turn_leads m e few sound seen h = by_bool x e.ended (record m { ended = true }) _ (λ ended. record { draft = h.draft; last = h.last; state = h.state }) (λ going. goes_leads m e few sound (seen going) h)
