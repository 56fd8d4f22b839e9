-- Which slots are out, while proxies are lent, come home, or neither.
use Rattle.std.proofs.Common.{◌≡◌, ◌≢◌, ℕ, ◌<◌, Bool, true, false, true≢false, sym, ap, subst, ◌∙◌, List, length, length-set, ⊎_elim, get_or-set_same, get_or-set_other, arith}
use Rattle.af_normal.proofs.Common.{IsSound, NormalKept, TrackKept, at_here, at_other, away_holds, cases_eq, is_home, is_out, no, slice_set, slot_number, slots, track_at}
use Rattle.af_normal.specs.Order.{IsOut}
use Rattle.af_life.proofs.SoundEdits.{apart}

module _ (out : List Bool) (k : ℕ) (b : Bool) where
  pub out_here : k < length out → is_out (slice_set out k b) k ≡ b
  out_here lt = get_or-set_same out k b false lt

  pub out_other : (q : ℕ) → q ≢ k → is_out (slice_set out k b) q ≡ is_out out q
  out_other q ne = get_or-set_other out k q b false ne

-- a slot is written as it was
pub out_same : (tracks : List TrackKept) (out : List Bool) (k : ℕ) (b : Bool) → k < slots → b ≡ is_out out k → IsOut tracks out → IsOut tracks (slice_set out k b)
out_same tracks out k b lt is h = record {
  at_slot = (λ q low high on. h.at_slot q low high (sym (at q) ∙ on));
  whole = length-set out k b ∙ h.whole;
  of_track = (λ i away. at (slot_number (track_at tracks i)) ∙ h.of_track i away);
}
  where
    at : (q : ℕ) → is_out (slice_set out k b) q ≡ is_out out q
    at q = ⊎_elim
        (λ (e : q ≡ k). subst (λ (n : ℕ). is_out (slice_set out k b) n ≡ is_out out n) (sym e) (out_here out k b (let w = h.whole in omega arith) ∙ is))
        (λ (ne : q ≢ k). out_other out k b q ne)
        (cases_eq q k)

module _ (m : NormalKept) (sound : IsSound m.tracks m.draft) (out : List Bool) (h : IsOut m.tracks out) (i : ℕ) (t : TrackKept) (same : slot_number t ≡ slot_number (track_at m.tracks i)) (lt : i < length m.tracks) where
  abbrev k : ℕ
  k = slot_number (track_at m.tracks i)

  abbrev Away : List TrackKept → ℕ → Type 0
  Away tracks q = (j : ℕ) × (j < length tracks) × (slot_number (track_at tracks j) ≡ q) × (is_home (track_at tracks j).holder ≡ false)

  -- the track that a slot is out for, if it is another one
  other : (q j : ℕ) → j ≢ i → j < length m.tracks → slot_number (track_at m.tracks j) ≡ q → is_home (track_at m.tracks j).holder ≡ false → Away (slice_set m.tracks i t) q
  other q j ne lj number away = (
    j,
    (let l : length (slice_set m.tracks i t) ≡ length m.tracks = length-set m.tracks i t in omega arith),
    ap slot_number (at_other m.tracks i t j ne) ∙ number,
    ap (λ (x : TrackKept). is_home x.holder) (at_other m.tracks i t j ne) ∙ away,
  )

  here : is_home t.holder ≡ false → Away (slice_set m.tracks i t) (slot_number (track_at m.tracks i))
  here away = (
    i,
    (let l : length (slice_set m.tracks i t) ≡ length m.tracks = length-set m.tracks i t in omega arith),
    ap slot_number (at_here m.tracks i t lt) ∙ same,
    ap (λ (x : TrackKept). is_home x.holder) (at_here m.tracks i t lt) ∙ away,
  )

  -- the track was away and still is
  pub out_moved : is_home (track_at m.tracks i).holder ≡ false → is_home t.holder ≡ false → IsOut (slice_set m.tracks i t) out
  out_moved was away = record {
    at_slot = (λ q low high on. let old = h.at_slot q low high on in ⊎_elim
        (λ (e : old.0 ≡ i). subst (Away (slice_set m.tracks i t)) (ap (λ (n : ℕ). slot_number (track_at m.tracks n)) (sym e) ∙ old.2) (here away))
        (λ (ne : old.0 ≢ i). other q old.0 ne old.1 old.2 old.3)
        (cases_eq old.0 i));
    whole = h.whole;
    of_track = (λ j a. ⊎_elim
        (λ (e : j ≡ i). ap (λ (n : ℕ). is_out out (slot_number (track_at (slice_set m.tracks i t) n))) e ∙ ap (λ (x : TrackKept). is_out out (slot_number x)) (at_here m.tracks i t lt) ∙ ap (is_out out) same ∙ h.of_track i was)
        (λ (ne : j ≢ i). ap (λ (x : TrackKept). is_out out (slot_number x)) (at_other m.tracks i t j ne) ∙ h.of_track j (sym (ap (λ (x : TrackKept). is_home x.holder) (at_other m.tracks i t j ne)) ∙ a))
        (cases_eq j i));
  }

  module _ (high : slot_number (track_at m.tracks i) < slots) where
    wide : slot_number (track_at m.tracks i) < length out
    wide = let w = h.whole in omega arith

    -- the track is away from now on
    pub out_more : is_home t.holder ≡ false → IsOut (slice_set m.tracks i t) (slice_set out (slot_number (track_at m.tracks i)) true)
    out_more away = record {
      at_slot = (λ q low up on. ⊎_elim
          (λ (e : q ≡ k). subst (Away (slice_set m.tracks i t)) (sym e) (here away))
          (λ (ne : q ≢ k). let old = h.at_slot q low up (sym (out_other out k true q ne) ∙ on) in ⊎_elim
          (λ (e : old.0 ≡ i). absurd (ne (sym old.2 ∙ ap (λ (n : ℕ). slot_number (track_at m.tracks n)) e)))
          (λ (nj : old.0 ≢ i). other q old.0 nj old.1 old.2 old.3)
          (cases_eq old.0 i))
          (cases_eq q k));
      whole = length-set out k true ∙ h.whole;
      of_track = (λ j a. ⊎_elim
          (λ (e : j ≡ i). ap (λ (n : ℕ). is_out (slice_set out k true) (slot_number (track_at (slice_set m.tracks i t) n))) e ∙ ap (λ (x : TrackKept). is_out (slice_set out k true) (slot_number x)) (at_here m.tracks i t lt) ∙ ap (is_out (slice_set out k true)) same ∙ out_here out k true wide)
          (λ (ne : j ≢ i). ap (λ (x : TrackKept). is_out (slice_set out k true) (slot_number x)) (at_other m.tracks i t j ne)
          ∙ still (slot_number (track_at m.tracks j)) (h.of_track j (sym (ap (λ (x : TrackKept). is_home x.holder) (at_other m.tracks i t j ne)) ∙ a)))
          (cases_eq j i));
    }
      where
        still : (q : ℕ) → is_out out q ≡ true → is_out (slice_set out (slot_number (track_at m.tracks i)) true) q ≡ true
        still q on = ⊎_elim
            (λ (e : q ≡ k). ap (is_out (slice_set out k true)) e ∙ out_here out k true wide)
            (λ (ne : q ≢ k). out_other out k true q ne ∙ on)
            (cases_eq q k)

    -- the track was away and is home from now on
    pub out_less : is_home (track_at m.tracks i).holder ≡ false → is_home t.holder ≡ true → (b : Bool) → b ≡ false → IsOut (slice_set m.tracks i t) (slice_set out (slot_number (track_at m.tracks i)) b)
    out_less was home b off = record {
      at_slot = (λ q low up on. ⊎_elim
          (λ (e : q ≡ k). no (sym (ap (is_out (slice_set out k b)) e ∙ out_here out k b wide ∙ off) ∙ on))
          (λ (ne : q ≢ k). let old = h.at_slot q low up (sym (out_other out k b q ne) ∙ on) in ⊎_elim
          (λ (e : old.0 ≡ i). absurd (ne (sym old.2 ∙ ap (λ (n : ℕ). slot_number (track_at m.tracks n)) e)))
          (λ (nj : old.0 ≢ i). other q old.0 nj old.1 old.2 old.3)
          (cases_eq old.0 i))
          (cases_eq q k));
      whole = length-set out k b ∙ h.whole;
      of_track = (λ j a. ⊎_elim
          (λ (e : j ≡ i). absurd (true≢false (sym home ∙ sym (ap (λ (x : TrackKept). is_home x.holder) (at_here m.tracks i t lt)) ∙ ap (λ (n : ℕ). is_home (track_at (slice_set m.tracks i t) n).holder) (sym e) ∙ a)))
          (λ (ne : j ≢ i). let away : is_home (track_at m.tracks j).holder ≡ false = sym (ap (λ (x : TrackKept). is_home x.holder) (at_other m.tracks i t j ne)) ∙ a in
          ap (λ (x : TrackKept). is_out (slice_set out k b) (slot_number x)) (at_other m.tracks i t j ne)
          ∙ out_other out k b (slot_number (track_at m.tracks j)) (apart m sound i j ne (away_holds (track_at m.tracks i) (sound.slotted i) was) away)
          ∙ h.of_track j away)
          (cases_eq j i));
    }
