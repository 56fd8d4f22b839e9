-- Where a proxy is that was lent in a turn.
use Rattle.std.proofs.Common.{◌≡◌, ◌≢◌, ℕ, zero, suc, ◌+◌, ◌<◌, ◌≤◌, ◌&&◌, Bool, true, false, true≢false, MatchBool, sym, refl, ap, subst, ◌∙◌, List, length, length-set, Option, Some, None, ⊎_elim, get_or-set_same, get_or-set_other, arith}
use Rattle.af_normal.proofs.Common.{Links, Returning, ServerState, TrackKept, at, at_here, at_other, away_holds, both_first, cases_eq, entered, holds, is_home, known_by, lent_by, listed, must_enter, must_leave, nothing_heard, slice_set, slot_number, slots, track_at}
use Rattle.af_normal.specs.Editing.{LetsGo, Lends}
use Rattle.af_normal.specs.Mixing.{stream_at}
use Rattle.af_normal.specs.Mutating.{EditsTrack, EditsTo}
use Rattle.af_normal.specs.Order.{IsOpen}
use Rattle.af_normal.specs.State.{NormalState, setup_of, kept_of}
use Rattle.af_life.proofs.SoundEdits.{apart, leaver_away, comer_slot, comer_inside, comer_holds}
use Rattle.af_normal.proofs.OrderStages.{edited_open}

module _ (links : Links) (edits : ℕ) (x : NormalState) (begins : IsOpen links edits x) (wide : length x.mutator.pending ≡ slots) where
  abbrev slot_at : ℕ → ℕ
  slot_at j = slot_number (track_at x.tracks j)

  -- the first i tracks were edited: each that was lent waits in its slot, and the others are as they were
  pub record Lent (i : ℕ) (y : NormalState) : Type 0 where
    pub wide_still : length y.mutator.pending ≡ slots
    pub later : (j : ℕ) → i ≤ j → track_at y.tracks j ≡ track_at x.tracks j
    pub streams : (j : ℕ) → i ≤ j → stream_at y.streams j ≡ stream_at x.streams j
    pub waits : (j : ℕ) → j < i → must_enter (track_at x.tracks j) ≡ true → at y.mutator.pending (slot_at j) ≡ stream_at x.streams j
    pub away : (j : ℕ) → j < i → must_enter (track_at x.tracks j) ≡ true → (slot_number (track_at y.tracks j) ≡ slot_at j) × (is_home (track_at y.tracks j).holder ≡ false)

  module _ (i : ℕ) (z : NormalState) (open_z : IsOpen links (edits + i) z) (b : Lent i z) where
    here : track_at z.tracks i ≡ track_at x.tracks i
    here = b.later i (omega arith)

    -- the slot of one that was lent before is another
    other_slot : (j : ℕ) → j < i → must_enter (track_at x.tracks j) ≡ true → holds (slot_number (track_at z.tracks i)) (track_at z.tracks i) ≡ true → slot_at j ≢ slot_number (track_at z.tracks i)
    other_slot j lj enters holds_i same = let a = b.away j lj enters in
        apart (kept_of z) open_z.tied.sound i j (λ e. omega arith) holds_i a.1 (a.0 ∙ same)

    -- nothing changes at other slots, and no other track
    step : (y : NormalState) (t : TrackKept) (item : Option ServerState) → holds (slot_number (track_at z.tracks i)) (track_at z.tracks i) ≡ true
        → y.tracks ≡ slice_set z.tracks i t → y.mutator.pending ≡ slice_set z.mutator.pending (slot_number (track_at z.tracks i)) item
        → ((j : ℕ) → j ≢ i → stream_at y.streams j ≡ stream_at z.streams j)
        → (must_enter (track_at x.tracks i) ≡ true → (at y.mutator.pending (slot_at i) ≡ stream_at x.streams i) × (slot_number (track_at y.tracks i) ≡ slot_at i) × (is_home (track_at y.tracks i).holder ≡ false)) → Lent (suc i) y
    step y t item holds_i tracks pending streams own = record {
      wide_still = ap (λ (items : List (Option ServerState)). length items) pending ∙ length-set z.mutator.pending (slot_number (track_at z.tracks i)) item ∙ b.wide_still;
      later = (λ j le. ap (λ (ts : List TrackKept). track_at ts j) tracks ∙ at_other z.tracks i t j (λ e. omega arith) ∙ b.later j (omega arith));
      streams = (λ j le. streams j (λ e. omega arith) ∙ b.streams j (omega arith));
      waits = (λ j lj enters. ⊎_elim
          (λ (e : j ≡ i). subst (λ (n : ℕ). at y.mutator.pending (slot_at n) ≡ stream_at x.streams n) (sym e) (own (ap (λ (n : ℕ). must_enter (track_at x.tracks n)) (sym e) ∙ enters)).0)
          (λ (ne : j ≢ i). ap (λ (items : List (Option ServerState)). at items (slot_at j)) pending
          ∙ get_or-set_other z.mutator.pending (slot_number (track_at z.tracks i)) (slot_at j) item None (other_slot j (omega arith) enters holds_i)
          ∙ b.waits j (omega arith) enters)
          (cases_eq j i));
      away = (λ j lj enters. ⊎_elim
          (λ (e : j ≡ i). subst (λ (n : ℕ). (slot_number (track_at y.tracks n) ≡ slot_at n) × (is_home (track_at y.tracks n).holder ≡ false)) (sym e)
          (let o = own (ap (λ (n : ℕ). must_enter (track_at x.tracks n)) (sym e) ∙ enters) in (o.1, o.2)))
          (λ (ne : j ≢ i). subst (λ (s : TrackKept). (slot_number s ≡ slot_at j) × (is_home s.holder ≡ false)) (sym (ap (λ (ts : List TrackKept). track_at ts j) tracks ∙ at_other z.tracks i t j ne)) (b.away j (omega arith) enters))
          (cases_eq j i));
    }

    both_not : (h l : Bool) (a b : Bool) → (l && a) ≡ true → (h && b) ≡ true → (l ≡ true → h ≡ false) → ⊥
    both_not true true a b e f g = true≢false (g refl)
    both_not false l a b e f g = true≢false (sym f)
    both_not h false a b e f g = true≢false (sym e)

    goes : (y : NormalState) → must_leave (track_at z.tracks i) ≡ true → LetsGo i z y → Lent (suc i) y
    goes y leaves l = let away_i : is_home (track_at z.tracks i).holder ≡ false = leaver_away (kept_of z) open_z.tied.sound i leaves in
        step y (record (track_at z.tracks i) { holder = Returning }) None (away_holds (track_at z.tracks i) (open_z.tied.sound.slotted i) away_i)
        (ap (λ (w : NormalState). w.tracks) l) (ap (λ (w : NormalState). w.mutator.pending) l) (λ j ne. ap (λ (w : NormalState). stream_at w.streams j) l)
        (λ enters. absurd (true≢false (sym (home_of (track_at x.tracks i) enters) ∙ ap (λ (s : TrackKept). is_home s.holder) (sym here) ∙ away_i)))
      where
        home_of : (s : TrackKept) → must_enter s ≡ true → is_home s.holder ≡ true
        home_of s e = both_first (is_home s.holder) _ e

    comes : (y : NormalState) → must_enter (track_at z.tracks i) ≡ true → Lends i z y → Lent (suc i) y
    comes y enters (server, there, l) =
        let lent : TrackKept = lent_by (entered (setup_of z) i (kept_of z)) (known_by (listed server)) (track_at z.tracks i) in
        let lt : i < length z.tracks = comer_inside (kept_of z) open_z.tied.sound (setup_of z) i nothing_heard enters in
        let low = comer_slot (kept_of z) open_z.tied.sound (setup_of z) i nothing_heard enters in
        step y lent (Some server) (comer_holds (kept_of z) open_z.tied.sound (setup_of z) i nothing_heard enters)
        (ap (λ (w : NormalState). w.tracks) l) (ap (λ (w : NormalState). w.mutator.pending) l)
        (λ j ne. ap (λ (w : NormalState). stream_at w.streams j) l ∙ get_or-set_other z.streams i j None None ne)
        (λ e. (
          ap (λ (w : NormalState). at w.mutator.pending (slot_at i)) l ∙ ap (at (slice_set z.mutator.pending (slot_number (track_at z.tracks i)) (Some server))) (sym (ap slot_number here))
              ∙ get_or-set_same z.mutator.pending (slot_number (track_at z.tracks i)) (Some server) None (let w = b.wide_still in let k = low.1 in omega arith)
              ∙ sym there ∙ b.streams i (omega arith),
          ap (λ (w : NormalState). slot_number (track_at w.tracks i)) l ∙ ap slot_number (at_here z.tracks i lent lt) ∙ ap slot_number here,
          ap (λ (w : NormalState). is_home (track_at w.tracks i).holder) l ∙ ap (λ (s : TrackKept). is_home s.holder) (at_here z.tracks i lent lt),
        ))

    stays : (y : NormalState) → must_enter (track_at z.tracks i) ≡ false → y ≡ z → Lent (suc i) y
    stays y no_entry e = subst (Lent (suc i)) (sym e) (record {
      wide_still = b.wide_still;
      later = (λ j le. b.later j (omega arith));
      streams = (λ j le. b.streams j (omega arith));
      waits = (λ j lj enters. b.waits j (before j lj enters) enters);
      away = (λ j lj enters. b.away j (before j lj enters) enters);
    })
      where
        before : (j : ℕ) → j < suc i → must_enter (track_at x.tracks j) ≡ true → j < i
        before j lj enters = ⊎_elim
            (λ (e : j ≡ i). absurd (true≢false (sym enters ∙ ap (λ (n : ℕ). must_enter (track_at x.tracks n)) e ∙ ap must_enter (sym here) ∙ no_entry)))
            (λ (ne : j ≢ i). omega arith)
            (cases_eq j i)

    next : (y : NormalState) → EditsTrack i z y → Lent (suc i) y
    next y e = by_leave (must_leave (track_at z.tracks i)) refl e
      where
        by_enter : (d : Bool) → must_enter (track_at z.tracks i) ≡ d → MatchBool d (Lends i z y) (y ≡ z) → Lent (suc i) y
        by_enter true is l = comes y is l
        by_enter false is l = stays y is l

        by_leave : (d : Bool) → must_leave (track_at z.tracks i) ≡ d → MatchBool d (LetsGo i z y) (MatchBool (must_enter (track_at z.tracks i)) (Lends i z y) (y ≡ z)) → Lent (suc i) y
        by_leave true is l = goes y is l
        by_leave false is l = by_enter (must_enter (track_at z.tracks i)) refl l

  -- which tracks are lent after the first ones were edited
  pub all_lent : (n : ℕ) (y : NormalState) → EditsTo n x y → Lent n y
  all_lent zero y e = subst (Lent 0) (sym e) (record {
    wide_still = wide;
    later = (λ j le. refl);
    streams = (λ j le. refl);
    waits = (λ j lt enters. absurd (omega arith));
    away = (λ j lt enters. absurd (omega arith));
  })
  all_lent (suc n) y (z, before, e) = next n z (edited_open links edits n x z begins before) (all_lent n z before) y e
