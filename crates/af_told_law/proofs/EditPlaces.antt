-- Where the edits of a turn leave the items of the queue, track by track.
use Rattle.std.proofs.Common.{◌≡◌, ◌≢◌, ℕ, zero, suc, ◌<◌, ◌≤◌, ◌⊎◌, inl, inr, Bool, true, false, true≢false, MatchBool, sym, refl, ap, subst, ◌∙◌, List, [], ◌∷◌, length, length-set, Option, Some, None, ⊎_elim, get_or-set_same, get_or-set_other, arith}
use Rattle.af_told_law.proofs.Common.{EditsTo, EditsTrack, IsSound, Lends, LetsGo, NormalState, Returning, ServerState, Setup, TrackKept, apart, at, at_here, at_other, away_holds, both_first, cases_eq, cases_lt, comer_holds, comer_inside, comer_slot, entered, holds, is_home, kept_of, known_by, leaver_away, lends, lent_by, lets_go, must_enter, must_leave, none-some, nothing_heard, set_each, setting_of, setup_of, slice_set, slot_number, slots, sound_go, sound_lend, stream_at, track_at}
use Rattle.af_server.specs.Slot.{listed}

-- an item that stands after one was written is that one, or stood before
pub item_set : (items : List (Option ServerState)) (k : ℕ) (v : Option ServerState) (j : ℕ) (t : ServerState) → at (slice_set items k v) j ≡ Some t → ((j ≡ k) × (v ≡ Some t)) ⊎ (at items j ≡ Some t)
item_set [] k v j t e = inr e
item_set (o ∷ items) zero v zero t e = inl (refl, e)
item_set (o ∷ items) zero v (suc j) t e = inr e
item_set (o ∷ items) (suc k) v zero t e = inr e
item_set (o ∷ items) (suc k) v (suc j) t e = ⊎_elim (λ (p : (j ≡ k) × (v ≡ Some t)). inl (ap suc p.0, p.1)) (λ (q : at items j ≡ Some t). inr q) (item_set items k v j t e)

-- a track that enters is home
entering_home : (s : TrackKept) → must_enter s ≡ true → is_home s.holder ≡ true
entering_home s e = both_first (is_home s.holder) _ e

module _ (x : NormalState) (fine : (i : ℕ) → (setting_of (setup_of x) i).scale ≤ 4096) where
  abbrev slot_at : ℕ → ℕ
  slot_at j = slot_number (track_at x.tracks j)

  -- the slot is that of one of the first i tracks, which enters
  abbrev pub LentAt : ℕ → ℕ → Type 0
  LentAt i k = (j : ℕ) × (j < i) × (must_enter (track_at x.tracks j) ≡ true) × (slot_number (track_at x.tracks j) ≡ k)

  -- The first i tracks were edited: each that entered waits in its slot, one that is away else was away before, and an item that stands at a slot stood there before, or was pending, or entered
  pub record Placed (i : ℕ) (y : NormalState) : Type 0 where
    pub setup : setup_of y ≡ setup_of x
    pub sound : IsSound y.tracks y.mutator.draft
    pub wide : length y.mutator.pending ≡ slots
    pub long : (length y.tracks ≡ length x.tracks) × (length y.streams ≡ length x.streams)
    pub later : (j : ℕ) → i ≤ j → track_at y.tracks j ≡ track_at x.tracks j
    pub later_streams : (j : ℕ) → i ≤ j → stream_at y.streams j ≡ stream_at x.streams j
    pub slot_same : (j : ℕ) → slot_number (track_at y.tracks j) ≡ slot_number (track_at x.tracks j)
    pub entered : (j : ℕ) → j < i → must_enter (track_at x.tracks j) ≡ true → (at y.mutator.pending (slot_number (track_at x.tracks j)) ≡ stream_at x.streams j) × (is_home (track_at y.tracks j).holder ≡ false) × ((r : ServerState) × (stream_at x.streams j ≡ Some r))
    pub rests : (j : ℕ) → must_enter (track_at x.tracks j) ≡ true → at y.mutator.returned (slot_number (track_at x.tracks j)) ≡ at x.mutator.returned (slot_number (track_at x.tracks j))
    pub away : (j : ℕ) → is_home (track_at y.tracks j).holder ≡ false → must_enter (track_at x.tracks j) ≡ false → is_home (track_at x.tracks j).holder ≡ false
    pub waits : (k : ℕ) (t : ServerState) → at y.mutator.pending k ≡ Some t → (at x.mutator.pending k ≡ Some t) ⊎ LentAt i k
    pub back : (k : ℕ) (t : ServerState) → at y.mutator.returned k ≡ Some t → (at x.mutator.returned k ≡ Some t) ⊎ (at x.mutator.pending k ≡ Some t)

  module _ (i : ℕ) (z : NormalState) (b : Placed i z) where
    abbrev s : TrackKept
    s = track_at z.tracks i

    here : track_at z.tracks i ≡ track_at x.tracks i
    here = b.later i (omega arith)

    more : (k : ℕ) → LentAt i k → LentAt (suc i) k
    more k l = (l.0, (let n = l.1 in omega arith), l.2, l.3)

    -- a track that enters holds its slot
    holds_now : (j : ℕ) → must_enter (track_at x.tracks j) ≡ true → holds (slot_number (track_at z.tracks j)) (track_at z.tracks j) ≡ true
    holds_now j enters = ⊎_elim
        (λ (lt : j < i). away_holds (track_at z.tracks j) (b.sound.slotted j) (b.entered j lt enters).1)
        (λ (le : i ≤ j). comer_holds (kept_of z) b.sound (setup_of z) j nothing_heard (ap must_enter (b.later j le) ∙ enters))
        (cases_lt j i)

    module _ (leaves : must_leave (track_at z.tracks i) ≡ true) where
      abbrev gone : TrackKept
      gone = record (track_at z.tracks i) { holder = Returning }

      away_i : is_home (track_at z.tracks i).holder ≡ false
      away_i = leaver_away (kept_of z) b.sound i leaves

      no_entry : must_enter (track_at x.tracks i) ≡ true → ⊥
      no_entry enters = true≢false (sym (entering_home (track_at x.tracks i) enters) ∙ ap (λ (u : TrackKept). is_home u.holder) (sym here) ∙ away_i)

      -- the slot of a track that is away is not that of one that enters
      other : (j : ℕ) → must_enter (track_at x.tracks j) ≡ true → slot_number (track_at x.tracks j) ≢ slot_number (track_at z.tracks i)
      other j enters same = apart (kept_of z) b.sound j i (λ e. no_entry (ap (λ (n : ℕ). must_enter (track_at x.tracks n)) e ∙ enters)) (holds_now j enters) away_i (sym same ∙ sym (b.slot_same j))

      not_lent : LentAt i (slot_number (track_at z.tracks i)) → ⊥
      not_lent l = other l.0 l.2 l.3

      goes : Placed (suc i) (record z { tracks = slice_set z.tracks i (record (track_at z.tracks i) { holder = Returning }); mutator = lets_go (slot_number (track_at z.tracks i)) z.mutator })
      goes = record {
        setup = b.setup;
        sound = sound_go (kept_of z) b.sound i leaves;
        wide = length-set z.mutator.pending (slot_number (track_at z.tracks i)) None ∙ b.wide;
        long = (length-set z.tracks i gone ∙ b.long.0, b.long.1);
        later = (λ j le. at_other z.tracks i gone j (λ e. omega arith) ∙ b.later j (omega arith));
        later_streams = (λ j le. b.later_streams j (omega arith));
        slot_same = set_each (λ (n : ℕ) (u : TrackKept). slot_number u ≡ slot_number (track_at x.tracks n)) z.tracks i gone (b.slot_same i) b.slot_same;
        entered = (λ j lj enters. let ne : j ≢ i = (λ e. no_entry (ap (λ (n : ℕ). must_enter (track_at x.tracks n)) (sym e) ∙ enters)) in let w = b.entered j (omega arith) enters in (
          get_or-set_other z.mutator.pending (slot_number (track_at z.tracks i)) (slot_at j) None None (other j enters) ∙ w.0,
          ap (λ (u : TrackKept). is_home u.holder) (at_other z.tracks i gone j ne) ∙ w.1,
          w.2,
        ));
        rests = (λ j enters. get_or-set_other z.mutator.returned (slot_number (track_at z.tracks i)) (slot_at j) (at z.mutator.pending (slot_number (track_at z.tracks i))) None (other j enters) ∙ b.rests j enters);
        away = set_each (λ (n : ℕ) (u : TrackKept). is_home u.holder ≡ false → must_enter (track_at x.tracks n) ≡ false → is_home (track_at x.tracks n).holder ≡ false) z.tracks i gone
            (λ h e. ap (λ (u : TrackKept). is_home u.holder) (sym here) ∙ away_i) b.away;
        waits = (λ k t e. ⊎_elim
            (λ (p : (k ≡ slot_number (track_at z.tracks i)) × (None ≡ Some t)). absurd (none-some _ p.1))
            (λ (q : at z.mutator.pending k ≡ Some t). ⊎_elim (λ (w : at x.mutator.pending k ≡ Some t). inl w) (λ (l : LentAt i k). inr (more k l)) (b.waits k t q))
            (item_set z.mutator.pending (slot_number (track_at z.tracks i)) None k t e));
        back = (λ k t e. ⊎_elim
            (λ (p : (k ≡ slot_number (track_at z.tracks i)) × (at z.mutator.pending (slot_number (track_at z.tracks i)) ≡ Some t)). ⊎_elim
            (λ (w : at x.mutator.pending (slot_number (track_at z.tracks i)) ≡ Some t). inr (ap (at x.mutator.pending) p.0 ∙ w))
            (λ (l : LentAt i (slot_number (track_at z.tracks i))). absurd (not_lent l))
            (b.waits (slot_number (track_at z.tracks i)) t p.1))
            (λ (q : at z.mutator.returned k ≡ Some t). b.back k t q)
            (item_set z.mutator.returned (slot_number (track_at z.tracks i)) (at z.mutator.pending (slot_number (track_at z.tracks i))) k t e));
      }

    module _ (enters : must_enter (track_at z.tracks i) ≡ true) (server : ServerState) (there : stream_at z.streams i ≡ Some server) where
      abbrev lent : TrackKept
      lent = lent_by (entered (setup_of z) i (kept_of z)) (known_by (listed server)) (track_at z.tracks i)

      scale : (setting_of (setup_of z) i).scale ≤ 4096
      scale = subst (λ (c : Setup). (setting_of c i).scale ≤ 4096) (sym b.setup) (fine i)

      inside : i < length z.tracks
      inside = comer_inside (kept_of z) b.sound (setup_of z) i nothing_heard enters

      low : slot_number (track_at z.tracks i) < slots
      low = (comer_slot (kept_of z) b.sound (setup_of z) i nothing_heard enters).1

      comes : Placed (suc i) (record z { tracks = slice_set z.tracks i (lent_by (lends z i (slot_number (track_at z.tracks i)) server).draft (known_by (listed server)) (track_at z.tracks i)); streams = slice_set z.streams i None; mutator = lends z i (slot_number (track_at z.tracks i)) server })
      comes = record {
        setup = b.setup;
        sound = sound_lend (kept_of z) b.sound (setup_of z) i (known_by (listed server)) enters scale;
        wide = length-set z.mutator.pending (slot_number (track_at z.tracks i)) (Some server) ∙ b.wide;
        long = (length-set z.tracks i lent ∙ b.long.0, length-set z.streams i None ∙ b.long.1);
        later = (λ j le. at_other z.tracks i lent j (λ e. omega arith) ∙ b.later j (omega arith));
        later_streams = (λ j le. get_or-set_other z.streams i j None None (λ e. omega arith) ∙ b.later_streams j (omega arith));
        slot_same = set_each (λ (n : ℕ) (u : TrackKept). slot_number u ≡ slot_number (track_at x.tracks n)) z.tracks i lent (b.slot_same i) b.slot_same;
        entered = (λ j lj e. ⊎_elim
            (λ (is : j ≡ i). subst (λ (n : ℕ). (at (slice_set z.mutator.pending (slot_number (track_at z.tracks i)) (Some server)) (slot_at n) ≡ stream_at x.streams n) × (is_home (track_at (slice_set z.tracks i lent) n).holder ≡ false) × ((r : ServerState) × (stream_at x.streams n ≡ Some r))) (sym is) (
              ap (at (slice_set z.mutator.pending (slot_number (track_at z.tracks i)) (Some server))) (sym (b.slot_same i))
                  ∙ get_or-set_same z.mutator.pending (slot_number (track_at z.tracks i)) (Some server) None (let w = b.wide in let k = low in omega arith)
                  ∙ sym there ∙ b.later_streams i (omega arith),
              ap (λ (u : TrackKept). is_home u.holder) (at_here z.tracks i lent inside),
              (server, sym (b.later_streams i (omega arith)) ∙ there),
            ))
            (λ (ne : j ≢ i). let w = b.entered j (omega arith) e in (
              get_or-set_other z.mutator.pending (slot_number (track_at z.tracks i)) (slot_at j) (Some server) None
                  (λ same. apart (kept_of z) b.sound i j ne (holds_now i (ap must_enter (sym here) ∙ enters)) w.1 (b.slot_same j ∙ same)) ∙ w.0,
              ap (λ (u : TrackKept). is_home u.holder) (at_other z.tracks i lent j ne) ∙ w.1,
              w.2,
            ))
            (cases_eq j i));
        rests = b.rests;
        away = set_each (λ (n : ℕ) (u : TrackKept). is_home u.holder ≡ false → must_enter (track_at x.tracks n) ≡ false → is_home (track_at x.tracks n).holder ≡ false) z.tracks i lent
            (λ h e. absurd (true≢false (sym (ap must_enter (sym here) ∙ enters) ∙ e))) b.away;
        waits = (λ k t e. ⊎_elim
            (λ (p : (k ≡ slot_number (track_at z.tracks i)) × (Some server ≡ Some t)). inr (i, omega arith, ap must_enter (sym here) ∙ enters, ap slot_number (sym here) ∙ sym p.0))
            (λ (q : at z.mutator.pending k ≡ Some t). ⊎_elim (λ (w : at x.mutator.pending k ≡ Some t). inl w) (λ (l : LentAt i k). inr (more k l)) (b.waits k t q))
            (item_set z.mutator.pending (slot_number (track_at z.tracks i)) (Some server) k t e));
        back = b.back;
      }

    stays : must_enter (track_at z.tracks i) ≡ false → Placed (suc i) z
    stays no_entry = record {
      setup = b.setup;
      sound = b.sound;
      wide = b.wide;
      long = b.long;
      later = (λ j le. b.later j (omega arith));
      later_streams = (λ j le. b.later_streams j (omega arith));
      slot_same = b.slot_same;
      entered = (λ j lj enters. ⊎_elim
          (λ (e : j ≡ i). absurd (true≢false (sym enters ∙ ap (λ (n : ℕ). must_enter (track_at x.tracks n)) e ∙ ap must_enter (sym here) ∙ no_entry)))
          (λ (ne : j ≢ i). b.entered j (omega arith) enters)
          (cases_eq j i));
      rests = b.rests;
      away = b.away;
      waits = (λ k t e. ⊎_elim (λ (w : at x.mutator.pending k ≡ Some t). inl w) (λ (l : LentAt i k). inr (more k l)) (b.waits k t e));
      back = b.back;
    }

    next : (y : NormalState) → EditsTrack i z y → Placed (suc i) y
    next y e = by_leave (must_leave (track_at z.tracks i)) refl e
      where
        by_enter : (d : Bool) → must_enter (track_at z.tracks i) ≡ d → MatchBool d (Lends i z y) (y ≡ z) → Placed (suc i) y
        by_enter true is l = subst (Placed (suc i)) (sym l.2) (comes is l.0 l.1)
        by_enter false is l = subst (Placed (suc i)) (sym l) (stays is)

        by_leave : (d : Bool) → must_leave (track_at z.tracks i) ≡ d → MatchBool d (LetsGo i z y) (MatchBool (must_enter (track_at z.tracks i)) (Lends i z y) (y ≡ z)) → Placed (suc i) y
        by_leave true is l = subst (Placed (suc i)) (sym l) (goes is)
        by_leave false is l = by_enter (must_enter (track_at z.tracks i)) refl l

  -- what the edits of the first tracks leave
  pub all_placed : IsSound x.tracks x.mutator.draft → length x.mutator.pending ≡ slots → (n : ℕ) (y : NormalState) → EditsTo n x y → Placed n y
  all_placed sound wide zero y e = subst (Placed 0) (sym e) (record {
    setup = refl;
    sound = sound;
    wide = wide;
    long = (refl, refl);
    later = (λ j le. refl);
    later_streams = (λ j le. refl);
    slot_same = (λ j. refl);
    entered = (λ j lt enters. absurd (omega arith));
    rests = (λ j enters. refl);
    away = (λ j h e. h);
    waits = (λ k t e. inl e);
    back = (λ k t e. inl e);
  })
  all_placed sound wide (suc n) y (z, before, e) = next n z (all_placed sound wide n z before) y e
