-- Where each stream proxy lies after a turn that goes on, by its steps.
use Rattle.std.proofs.Common.{◌≡◌, ◌≢◌, ℕ, zero, suc, ◌<◌, ◌≤◌, ◌==◌, ◌&&◌, ◌⊎◌, inl, inr, not, Bool, true, false, true≢false, is_some, All, if◌then◌else◌, refl, sym, ap, subst, ◌∙◌, List, [], ◌∷◌, length, map, Option, Some, None, ⊎_elim, arith}
use Rattle.af_told_law.proofs.Common.{Command, FastState, GoesOnBy, Home, IsTied, Links, Mutates, NormalKept, NormalState, Push, Pushes as Past, Report, ServerState, Setup, StreamNames, TrackKept, WasAcked, acked_list, after_ack, apart, at, away_holds, away_slot, begun, carries, cases_eq, code_of, comer_holds, comer_home, comer_inside, comer_slot, draft_commanded as with_command, due_command, finished, home_stream, in_queue, is_home, is_out, is_pushed, kept_of, mixing_of, must_enter, none-some, nothing_heard, number_of, served_len, setting_of, setup_of, slice_index_or, slot_number, slot_of_away, slots, stream_at, takes_from, track_at, welcomed}
use Rattle.std.proofs.lemmas.List.Elements.{All-head, All-tail}
use Rattle.af_life.specs.declared.kept.Setting.{Setting}
use Rattle.af_told_law.proofs.AckPlaces.{Acked, look_leaves, none_of}
use Rattle.af_told_law.proofs.Basics.{unpushed, went}
use Rattle.af_told_law.proofs.EditPends.{Pends, all_pend}
use Rattle.af_told_law.proofs.EditPlaces.{LentAt, Placed, all_placed}
use Rattle.af_told_law.proofs.PushPlaces.{PutOn, put_on}
use Rattle.af_told_law.proofs.TurnSteps.{back, done, k, kept_l, mix, mutated_z, mutator_l, mutator_s, out_s, put_s, put_y, setup_s, sound_s, still_s, streams_l, tied_l, turns}

-- no scale is above 1, also if there is no track
scale_at : (settings : List Setting) → All (λ (s : Setting). s.scale ≤ 4096) settings → (i : ℕ) → (slice_index_or settings i (record { fast = false; mono = false; scale = 0 })).scale ≤ 4096
scale_at [] all i = omega arith
scale_at (s ∷ settings) all zero = All-head (λ (t : Setting). t.scale ≤ 4096) s settings all
scale_at (s ∷ settings) all (suc i) = scale_at settings (All-tail (λ (t : Setting). t.scale ≤ 4096) s settings all) i

-- a track that is away after a look was so before
one_away : (last : FastState) (s : TrackKept) → is_home (welcomed last s).holder ≡ false → welcomed last s ≡ s
unfolding welcomed
one_away last s away = by_case _ away
  where
    by_case : (b : Bool) → is_home (if b then record s { holder = Home } else s).holder ≡ false → (if b then record s { holder = Home } else s) ≡ s
    by_case true e = absurd (true≢false e)
    by_case false e = refl

away_in : (last : FastState) (tracks : List TrackKept) (i : ℕ) → is_home (track_at (map (welcomed last) tracks) i).holder ≡ false → track_at (map (welcomed last) tracks) i ≡ track_at tracks i
away_in last [] i away = absurd (true≢false away)
away_in last (s ∷ tracks) zero away = one_away last s away
away_in last (s ∷ tracks) (suc i) away = away_in last tracks i away

pub away_before : (ack : Bool) (m : NormalKept) (i : ℕ) → is_home (track_at (after_ack ack m).tracks i).holder ≡ false → track_at (after_ack ack m).tracks i ≡ track_at m.tracks i
away_before true m i away = away_in m.last m.tracks i away
away_before false m i away = refl

-- a track that has a slot isn't mixed by the normal mixer
unmixed : (b d : Bool) → b ≡ true → (not b && d) ≡ false
unmixed true d e = refl
unmixed false d e = absurd (true≢false (sym e))

module _ (links : Links) (x : NormalState) (tied : IsTied links x) (enough : length x.hands ≡ length x.tracks) (empty : (x.entry.tracks.items ≡ []) × (x.entry.mixes.items ≡ []))
    (ack : Bool) (report : Report) (room : ℕ) (push : Push) (y : NormalState) (by : GoesOnBy ack report room push x y) where
  abbrev Items : Type 0
  Items = List (Option ServerState)

  abbrev home : NormalState
  home = by.home

  abbrev l : NormalState
  l = by.rest.learnt

  abbrev s : NormalState
  s = by.rest.served

  abbrev z : NormalState
  z = by.rest.edited

  abbrev p : NormalState
  p = by.rest.pushed

  abbrev ed : NormalState
  ed = by.rest.edits.edited

  pub acked : Acked ack x.mutator home.mutator (back links x tied enough empty ack report room push y by)
  acked = look_leaves links x home tied ack by.sees

  mutator_home : s.mutator ≡ home.mutator
  mutator_home = mutator_s links x tied enough empty ack report room push y by ∙ mutator_l links x tied enough empty ack report room push y by

  -- ## The edits

  pub fine : (i : ℕ) → (setting_of (setup_of (record s { mutator = begun s.mutator })) i).scale ≤ 4096
  fine i = subst (λ (c : Setup). (setting_of c i).scale ≤ 4096) (sym (setup_s links x tied enough empty ack report room push y by))
      (scale_at (setup_of l).settings (tied_l links x tied enough empty ack report room push y by).sizes.scales i)

  mutator_seen : (d : Bool) (m : Mutates ServerState StreamNames) → WasAcked x.mutator d m → (m.draft ≡ x.mutator.draft) × (m.past.last ≡ x.mutator.past.last) × (m.pending ≡ x.mutator.pending)
  mutator_seen true m w = (ap (λ (n : Mutates ServerState StreamNames). n.draft) w.1, ap (λ (n : Mutates ServerState StreamNames). n.past.last) w.1, ap (λ (n : Mutates ServerState StreamNames). n.pending) w.1)
  mutator_seen false m w = (ap (λ (n : Mutates ServerState StreamNames). n.draft) w.1.2, ap (λ (n : Mutates ServerState StreamNames). n.past.last) w.1.2, ap (λ (n : Mutates ServerState StreamNames). n.pending) w.1.2)

  pending_s : s.mutator.pending ≡ x.mutator.pending
  pending_s = ap (λ (m : Mutates ServerState StreamNames). m.pending) mutator_home ∙ (acked_list links ack x home tied by.sees).4

  wide : length s.mutator.pending ≡ slots
  wide = ap (λ (items : Items). length items) pending_s
      ∙ sym (ap (λ (items : Items). length items) (mutator_seen ack by.sees.mutator by.sees.acked).2) ∙ by.sees.held.lengths.0

  pub placed : Placed (record s { mutator = begun s.mutator }) fine (length s.tracks) ed
  placed = all_placed (record s { mutator = begun s.mutator }) fine (sound_s links x tied enough empty ack report room push y by) wide (length s.tracks) ed by.rest.edits.tracks

  -- neither the command nor the end of the mutation moves an item
  items_z : (z.mutator.pending ≡ ed.mutator.pending) × (z.mutator.returned ≡ ed.mutator.returned) × ((j : ℕ) → carries z.mutator.draft j ≡ carries ed.mutator.draft j)
  items_z = subst (λ (w : NormalState). (w.mutator.pending ≡ ed.mutator.pending) × (w.mutator.returned ≡ ed.mutator.returned) × ((j : ℕ) → carries w.mutator.draft j ≡ carries ed.mutator.draft j)) (sym by.rest.edits.leaves) (by_same (code_of (due_command room ed) == code_of ed.mutator.draft.command) (due_command room ed) ed.mutator)
    where
      by_same : (b : Bool) (command : Command) (m : Mutates ServerState StreamNames)
          → ((finished (if b then m else record m { draft = with_command command m.draft; edited = true })).pending ≡ m.pending) × ((finished (if b then m else record m { draft = with_command command m.draft; edited = true })).returned ≡ m.returned)
          × ((j : ℕ) → carries (finished (if b then m else record m { draft = with_command command m.draft; edited = true })).draft j ≡ carries m.draft j)
      by_same true command m = (refl, refl, λ j. refl)
      by_same false command m = (refl, refl, λ j. refl)

  tracks_p : p.tracks ≡ ed.tracks
  tracks_p = ap (λ (w : NormalState). w.tracks) by.rest.pushes.same ∙ ap (λ (w : NormalState). w.tracks) by.rest.edits.leaves

  pub wide_p : length p.tracks ≤ length p.streams
  wide_p =
      let tracks : length p.tracks ≡ length l.tracks = ap (λ (ts : List TrackKept). length ts) tracks_p ∙ placed.long.0
      ∙ ap (λ (ts : List TrackKept). length ts) (done links x tied enough empty ack report room push y by).tracks
      ∙ served_len (setup_of l) (k links x tied enough empty ack report room push y by) (turns links x tied enough empty ack report room push y by) l.tracks (length l.tracks) in
      let streams : length p.streams ≡ length l.streams = ap (λ (w : NormalState). length w.streams) by.rest.pushes.same ∙ ap (λ (w : NormalState). length w.streams) by.rest.edits.leaves ∙ placed.long.1
      ∙ (done links x tied enough empty ack report room push y by).long.0 in
      let even = (tied_l links x tied enough empty ack report room push y by).sizes.streams_are in omega arith

  -- what is taken moves no track
  pub track_y : (i : ℕ) → (is_home (track_at y.tracks i).holder ≡ is_home (track_at ed.tracks i).holder) × (slot_number (track_at y.tracks i) ≡ slot_number (track_at s.tracks i))
  track_y i = let put = put_y links x tied enough empty ack report room push y by wide_p i in (
    ap is_home put.0 ∙ ap (λ (ts : List TrackKept). is_home (track_at ts i).holder) tracks_p,
    ap number_of put.1 ∙ ap (λ (ts : List TrackKept). slot_number (track_at ts i)) tracks_p ∙ placed.slot_same i,
  )

  none_taken : (i : ℕ) → is_home (track_at ed.tracks i).holder ≡ false → takes_from (mixing_of by.rest.played).takes i ≡ []
  none_taken i away = (mix links x tied enough empty ack report room push y by wide_p).1.unmixed i
      (unmixed (is_some (track_at p.tracks i).slot) _ (ap (λ (ts : List TrackKept). is_some (track_at ts i).slot) tracks_p ∙ slot_of_away (track_at ed.tracks i) (placed.sound.slotted i) away))

  -- ## The push

  pub put : (again : Items) × (sent : Items) × PutOn push z p again sent
  put = put_on push z p by.rest.pushes

  pub mutator_y : y.mutator ≡ p.mutator
  mutator_y = ap (λ (w : NormalState). w.mutator) by.rest.leaves ∙ ap (λ (w : NormalState). w.mutator) by.rest.plays.same

  pub past_z : z.mutator.past ≡ home.mutator.past
  past_z = (mutated_z links x tied enough empty ack report room push y by).past ∙ ap (λ (m : Mutates ServerState StreamNames). m.past) mutator_home

  -- ## A track that is lent in the turn

  module _ (i : ℕ) (enters : must_enter (track_at s.tracks i) ≡ true) where
    abbrev slot : ℕ
    slot = slot_number (track_at s.tracks i)

    low : (1 ≤ slot_number (track_at s.tracks i)) × (slot_number (track_at s.tracks i) < slots)
    low = comer_slot (kept_of s) (sound_s links x tied enough empty ack report room push y by) (setup_of s) i nothing_heard enters

    lent : (at ed.mutator.pending (slot_number (track_at s.tracks i)) ≡ stream_at s.streams i) × (is_home (track_at ed.tracks i).holder ≡ false) × ((r : ServerState) × (stream_at s.streams i ≡ Some r))
    lent = placed.entered i (comer_inside (kept_of s) (sound_s links x tied enough empty ack report room push y by) (setup_of s) i nothing_heard enters) enters

    -- the slot of a track that is lent was out for no track
    not_out : is_out s.mutator.out (slot_number (track_at s.tracks i)) ≡ false
    not_out = by_out (is_out s.mutator.out (slot_number (track_at s.tracks i))) refl
      where
        by_out : (b : Bool) → is_out s.mutator.out (slot_number (track_at s.tracks i)) ≡ b → b ≡ false
        by_out false e = refl
        by_out true e = let whose = (out_s links x tied enough empty ack report room push y by).at_slot (slot_number (track_at s.tracks i)) low.0 low.1 e in ⊎_elim
            (λ (same : whose.0 ≡ i). absurd (true≢false (sym (comer_home (kept_of s) (sound_s links x tied enough empty ack report room push y by) (setup_of s) i nothing_heard enters) ∙ ap (λ (n : ℕ). is_home (track_at s.tracks n).holder) (sym same) ∙ whose.3)))
            (λ (ne : whose.0 ≢ i). absurd (apart (kept_of s) (sound_s links x tied enough empty ack report room push y by) i whose.0 ne
            (comer_holds (kept_of s) (sound_s links x tied enough empty ack report room push y by) (setup_of s) i nothing_heard enters) whose.3 whose.2))
            (cases_eq whose.0 i)

    pub free : (carries x.mutator.past.last (slot_number (track_at s.tracks i)) ≡ false) × (ack ≡ false → carries x.mutator.past.before (slot_number (track_at s.tracks i)) ≡ false) × (at home.mutator.returned (slot_number (track_at s.tracks i)) ≡ None)
    free = acked.free (slot_number (track_at s.tracks i)) low.1 (ap (λ (m : Mutates ServerState StreamNames). is_out m.out (slot_number (track_at s.tracks i))) (sym mutator_home) ∙ not_out)

    pub lent_away : is_home (track_at y.tracks i).holder ≡ false
    lent_away = (track_y i).0 ∙ lent.1

    -- the proxy of a track that is lent waits, and did nothing but what its serving did
    pub lent_item : (t : ServerState) × (r : ServerState) × (at (in_queue push put.1 y.mutator.pending) (slot_number (track_at s.tracks i)) ≡ Some t)
        × (home_stream ack (kept_of x) (back links x tied enough empty ack report room push y by) x i ≡ Some r) × (t.pass.part.frames ≡ r.pass.part.frames)
    lent_item = let b = still_s links x tied enough empty ack report room push y by i lent.2.0 lent.2.1 in (
      lent.2.0,
      b.before,
      ap (λ (m : Mutates ServerState StreamNames). at (in_queue push put.1 m.pending) (slot_number (track_at s.tracks i))) mutator_y
          ∙ ap (λ (items : Items). at items (slot_number (track_at s.tracks i))) (put.2.queue ∙ items_z.0) ∙ lent.0 ∙ lent.2.1,
      sym (streams_l links x tied enough empty ack report room push y by i) ∙ b.was,
      b.frames,
    )

    pub lent_untaken : takes_from (mixing_of by.rest.played).takes i ≡ []
    lent_untaken = none_taken i lent.1

    -- nothing of the slot of a track that is lent is in hand
    pub lent_rests : at y.mutator.returned (slot_number (track_at s.tracks i)) ≡ None
    lent_rests = none_of (at y.mutator.returned slot) (λ t e. ⊎_elim
        (λ (h : at put.0 slot ≡ Some t). let of = put.2.again_of slot low.1 (ap is_some h) in
        true≢false (sym of.1 ∙ ap (λ (past : Past ServerState StreamNames). carries past.before slot) (past_z ∙ acked.past) ∙ free.1 (ap (λ (past : Past ServerState StreamNames). past.clear) (sym (past_z ∙ acked.past)) ∙ of.0)))
        (λ (h : at z.mutator.returned slot ≡ Some t). none-some _ (sym (ap (at z.mutator.returned) refl ∙ ap (λ (items : Items). at items slot) items_z.1 ∙ placed.rests i enters ∙ ap (λ (m : Mutates ServerState StreamNames). at m.returned slot) mutator_home ∙ free.2) ∙ h))
        (put.2.hand slot t low.1 (ap (λ (m : Mutates ServerState StreamNames). at m.returned slot) (sym mutator_y) ∙ e)))

  -- ## Which slots have an item that waits

  -- the draft is as it was when the edits begin
  draft_s : s.mutator.draft ≡ x.mutator.draft
  draft_s = ap (λ (m : Mutates ServerState StreamNames). m.draft) (mutator_s links x tied enough empty ack report room push y by)
      ∙ ap (λ (m : NormalKept). m.draft) (kept_l links x tied enough empty ack report room push y by) ∙ same_draft ack
    where
      same_draft : (d : Bool) → (after_ack d (kept_of x)).draft ≡ x.mutator.draft
      same_draft true = refl
      same_draft false = refl

  pends_s : Pends x.mutator.past.last s.mutator
  pends_s j low = let seen = mutator_seen ack by.sees.mutator by.sees.acked in
      ap (λ (items : Items). is_some (at items j)) (pending_s ∙ sym (mutator_seen ack by.sees.mutator by.sees.acked).2) ∙ (by.sees.held.each j low).pends
      ∙ (λ q. carries ((seen.0 ∙ sym draft_s) q) j && not (carries (seen.1 q) j))

  pub pends_z : Pends x.mutator.past.last z.mutator
  pends_z j low = ap (λ (items : Items). is_some (at items j)) items_z.0
      ∙ all_pend (record s { mutator = begun s.mutator }) fine x.mutator.past.last (λ i enters. (free i enters).0) (sound_s links x tied enough empty ack report room push y by) wide pends_s (length s.tracks) ed by.rest.edits.tracks j low
      ∙ ap (λ (c : Bool). c && not (carries x.mutator.past.last j)) (sym (items_z.2 j))

  pub wide_z : length z.mutator.pending ≡ slots
  wide_z = ap (λ (items : Items). length items) items_z.0 ∙ placed.wide

  -- ## A track that stays away

  module _ (i : ℕ) (away : is_home (track_at y.tracks i).holder ≡ false) (rests : must_enter (track_at s.tracks i) ≡ false) where
    away_ed : is_home (track_at ed.tracks i).holder ≡ false
    away_ed = sym (track_y i).0 ∙ away

    away_s : is_home (track_at s.tracks i).holder ≡ false
    away_s = placed.away i away_ed rests

    pub away_l : is_home (track_at l.tracks i).holder ≡ false
    away_l = ap is_home (sym (put_s links x tied enough empty ack report room push y by i).0) ∙ away_s

    acked_away : is_home (track_at (after_ack ack (kept_of x)).tracks i).holder ≡ false
    acked_away = ap (λ (m : NormalKept). is_home (track_at m.tracks i).holder) (sym (kept_l links x tied enough empty ack report room push y by)) ∙ away_l

    -- once the turn had learnt, a track that stays away is as it was before
    was : track_at l.tracks i ≡ track_at x.tracks i
    was = ap (λ (m : NormalKept). track_at m.tracks i) (kept_l links x tied enough empty ack report room push y by) ∙ away_before ack (kept_of x) i acked_away

    pub away_x : is_home (track_at x.tracks i).holder ≡ false
    away_x = ap (λ (t : TrackKept). is_home t.holder) (sym was) ∙ away_l

    pub slot_x : slot_number (track_at x.tracks i) ≡ slot_number (track_at y.tracks i)
    slot_x = sym ((track_y i).1 ∙ ap number_of ((put_s links x tied enough empty ack report room push y by i).1 away_l) ∙ ap slot_number was)

    low_y : slot_number (track_at y.tracks i) < slots
    low_y = subst (λ (n : ℕ). n < slots) (ap slot_number was ∙ slot_x) (away_slot (kept_of l) (tied_l links x tied enough empty ack report room push y by).sound i away_l).1

    pub away_untaken : takes_from (mixing_of by.rest.played).takes i ≡ []
    away_untaken = none_taken i away_ed

    -- the slot of a track that stays away is not that of one that was lent
    not_lent : LentAt (record s { mutator = begun s.mutator }) fine (length s.tracks) (slot_number (track_at y.tracks i)) → ⊥
    not_lent t = apart (kept_of ed) placed.sound t.0 i
        (λ e. true≢false (sym t.2 ∙ ap (λ (n : ℕ). must_enter (track_at s.tracks n)) (sym e) ∙ rests))
        (away_holds (track_at ed.tracks t.0) (placed.sound.slotted t.0) (placed.entered t.0 t.1 t.2).1) away_ed
        (placed.slot_same i ∙ sym (track_y i).1 ∙ sym t.3 ∙ sym (placed.slot_same t.0))

    waited : (t : ServerState) → at ed.mutator.pending (slot_number (track_at y.tracks i)) ≡ Some t → at x.mutator.pending (slot_number (track_at y.tracks i)) ≡ Some t
    waited t e = ⊎_elim
        (λ (w : at s.mutator.pending (slot_number (track_at y.tracks i)) ≡ Some t). ap (λ (items : Items). at items (slot_number (track_at y.tracks i))) (sym pending_s) ∙ w)
        (λ (w : LentAt (record s { mutator = begun s.mutator }) fine (length s.tracks) (slot_number (track_at y.tracks i))). absurd (not_lent w))
        (placed.waits (slot_number (track_at y.tracks i)) t e)

    pub away_pending : (t : ServerState) → at y.mutator.pending (slot_number (track_at y.tracks i)) ≡ Some t → at x.mutator.pending (slot_number (track_at y.tracks i)) ≡ Some t
    away_pending t e = by_pushed (is_pushed push) refl
      where
        there : at p.mutator.pending (slot_number (track_at y.tracks i)) ≡ Some t
        there = ap (λ (m : Mutates ServerState StreamNames). at m.pending (slot_number (track_at y.tracks i))) (sym mutator_y) ∙ e

        by_pushed : (b : Bool) → is_pushed push ≡ b → at x.mutator.pending (slot_number (track_at y.tracks i)) ≡ Some t
        by_pushed true is = absurd (none-some _ (sym (put.2.none is (slot_number (track_at y.tracks i))) ∙ there))
        by_pushed false is = waited t (ap (λ (items : Items). at items (slot_number (track_at y.tracks i))) (sym items_z.0 ∙ sym put.2.queue ∙ unpushed push put.1 p.mutator.pending is) ∙ there)

    pub away_sent : is_pushed push ≡ true → (t : ServerState) → at put.1 (slot_number (track_at y.tracks i)) ≡ Some t → at x.mutator.pending (slot_number (track_at y.tracks i)) ≡ Some t
    away_sent is t e = waited t (ap (λ (items : Items). at items (slot_number (track_at y.tracks i))) (sym items_z.0 ∙ sym put.2.queue ∙ went push put.1 p.mutator.pending is) ∙ e)

    pub away_returned : (t : ServerState) → at y.mutator.returned (slot_number (track_at y.tracks i)) ≡ Some t
        → ((at x.mutator.returned (slot_number (track_at y.tracks i)) ≡ Some t) × (at (back links x tied enough empty ack report room push y by) (slot_number (track_at y.tracks i)) ≡ None)) ⊎ (at x.mutator.pending (slot_number (track_at y.tracks i)) ≡ Some t)
        ⊎ (at (back links x tied enough empty ack report room push y by) (slot_number (track_at y.tracks i)) ≡ Some t) ⊎ (at put.0 (slot_number (track_at y.tracks i)) ≡ Some t)
    away_returned t e = ⊎_elim
        (λ (h : at put.0 (slot_number (track_at y.tracks i)) ≡ Some t). inr (inr (inr h)))
        (λ (h : at z.mutator.returned (slot_number (track_at y.tracks i)) ≡ Some t). ⊎_elim
        (λ (r : at s.mutator.returned (slot_number (track_at y.tracks i)) ≡ Some t). ⊎_elim
        (λ (c : at (back links x tied enough empty ack report room push y by) (slot_number (track_at y.tracks i)) ≡ Some t). inr (inr (inl c)))
        (λ (c : (at x.mutator.returned (slot_number (track_at y.tracks i)) ≡ Some t) × (at (back links x tied enough empty ack report room push y by) (slot_number (track_at y.tracks i)) ≡ None)). inl c)
        (acked.hand (slot_number (track_at y.tracks i)) t (ap (λ (m : Mutates ServerState StreamNames). at m.returned (slot_number (track_at y.tracks i))) (sym mutator_home) ∙ r)))
        (λ (w : at s.mutator.pending (slot_number (track_at y.tracks i)) ≡ Some t). inr (inl (ap (λ (items : Items). at items (slot_number (track_at y.tracks i))) (sym pending_s) ∙ w)))
        (placed.back (slot_number (track_at y.tracks i)) t (ap (λ (items : Items). at items (slot_number (track_at y.tracks i))) (sym items_z.1) ∙ h)))
        (put.2.hand (slot_number (track_at y.tracks i)) t low_y (ap (λ (m : Mutates ServerState StreamNames). at m.returned (slot_number (track_at y.tracks i))) (sym mutator_y) ∙ e))
