-- By alike outsides a turn of the normal mixer serves and edits its tracks alike.
use Rattle.std.proofs.Common.{Bool, List, [], ap, arith, false, if◌then◌else◌, inl, inr, is_some, length, min, refl, subst, suc, sym, true, zero, ℕ, ◌&&◌, ◌<◌, ◌∙◌, ◌∷◌, ◌≡◌, ◌≤◌}
use Rattle.af_told_law.proofs.Common.{CommandLook, FastState, Heard, IsSound, Learnt, Listed, NormalKept, Outside, ServerKept, Setup, Shape, SlotReport, TrackKept, TrackSeen, Turn, acked_len, after_ack, after_edits, after_part, after_push, after_takes, after_tracks, at_set, both_first, commanded_by, counts_in, edited, edited_to, flushes_by, get_or-set_other, goes_served, heard, heard_at_home, heard_by, heard_elsewhere, heard_with, is_home, is_reported, known_by, learnt, lend, let_go, must_enter, must_leave, new_track, no_counts, not_yet, noted, plays, ready, seen_at, served, served_len, served_to, settled_at, slice_set, slot_reported, sound_acked, sound_served, track_at, tracks_at, turn_after}
use Rattle.af_life.specs.Edits.{mutated}
use Rattle.af_life.specs.Obeys.{slot_for}
use Rattle.af_told_law.proofs.Outsides.{AreAlike, LearnAlike, ListAlike, OwnAlike}

-- ## What is heard

module _ (k l : Learnt) (i : ℕ) (s : TrackKept) (elsewhere : is_home s.holder ≡ false → slot_reported k s ≡ slot_reported l s) (own : is_home s.holder ≡ true → k.own i ≡ l.own i) where
  -- the same is heard of a proxy that is home, by what it knows, and of one elsewhere, by the report
  pub heard_same : heard k i s ≡ heard l i s
  unfolding heard_by
  heard_same = by_home (is_home s.holder) refl
    where
      by_home : (b : Bool) → is_home s.holder ≡ b → (if b then heard_at_home (k.own i) s else heard_elsewhere (slot_reported k s) s) ≡ (if b then heard_at_home (l.own i) s else heard_elsewhere (slot_reported l s) s)
      by_home true is = ap (λ (h : Heard). heard_at_home h s) (own is)
      by_home false is = ap (λ (r : SlotReport). heard_elsewhere r s) (elsewhere is)

  -- of a proxy the same is noted
  noted_same : noted (slot_reported k s) s ≡ noted (slot_reported l s) s
  unfolding noted
  noted_same = by_home (is_home s.holder) refl
    where
      after : SlotReport → TrackKept
      after r = if is_reported r s then record s { reported = counts_in r } else s

      by_home : (b : Bool) → is_home s.holder ≡ b → (if b then record s { own = no_counts } else after (slot_reported k s)) ≡ (if b then record s { own = no_counts } else after (slot_reported l s))
      by_home true is = refl
      by_home false is = ap after (elsewhere is)

  pub ready_same : ready k i s ≡ ready l i s
  ready_same = λ j. settled_at (heard_same j).flush_seen (noted_same j)

-- ## The tracks are served

set_same : (xs : List TrackKept) (n : ℕ) (a b : TrackKept) → (n < length xs → a ≡ b) → slice_set xs n a ≡ slice_set xs n b
set_same [] n a b same = refl
set_same (x ∷ xs) zero a b same = ap (λ (t : TrackKept). t ∷ xs) (same (omega arith))
set_same (x ∷ xs) (suc n) a b same = ap (λ (ts : List TrackKept). x ∷ ts) (set_same xs n a b (λ low. same (omega (arith, low))))

module _ (c : Setup) (k l : Learnt) where
  served_same : (looks : List CommandLook) (tracks : List TrackKept) (i : ℕ) → (is_home (track_at tracks i).holder ≡ false → slot_reported k (track_at tracks i) ≡ slot_reported l (track_at tracks i)) → (is_home (track_at tracks i).holder ≡ true → k.own i ≡ l.own i)
      → served c k looks tracks i ≡ served c l looks tracks i
  unfolding served
  served_same looks tracks i elsewhere own = let s : TrackKept = track_at tracks i in
      (λ j. if s.life.ended then s else after_part (slot_for c tracks i) (heard_same k l i s elsewhere own j) looks (ready_same k l i s elsewhere own j))

  -- a track that is still to be served is as it was, and so is what is reported of it
  reported_yet : (seen : List TrackSeen) (tracks : List TrackKept) (n : ℕ) → LearnAlike tracks k l → n < length tracks → is_home (track_at (served_to c k seen tracks n) n).holder ≡ false
      → slot_reported k (track_at (served_to c k seen tracks n) n) ≡ slot_reported l (track_at (served_to c k seen tracks n) n)
  reported_yet seen tracks n alike low away =
      let same : track_at (served_to c k seen tracks n) n ≡ track_at tracks n = not_yet c k seen tracks n n (omega arith) in
      subst (λ (s : TrackKept). slot_reported k s ≡ slot_reported l s) (sym same) (alike.report.slots n low (sym (ap (λ (s : TrackKept). is_home s.holder) same) ∙ away))

  pub served_to_same : (seen : List TrackSeen) (tracks : List TrackKept) (n : ℕ) → LearnAlike tracks k l → served_to c k seen tracks n ≡ served_to c l seen tracks n
  served_to_same seen tracks zero alike = refl
  served_to_same seen tracks (suc n) alike =
      let now : List TrackKept = served_to c k seen tracks n in
      let before : now ≡ served_to c l seen tracks n = served_to_same seen tracks n alike in
      set_same now n (served c k (seen_at seen n).looks now n) (served c l (seen_at seen n).looks now n)
      (λ low. let long : length now ≡ length tracks = served_len c k seen tracks n in
      served_same (seen_at seen n).looks now n (reported_yet seen tracks n alike (omega (arith, low, long)))
      (λ home. alike.own n (omega (arith, low, long)) (sym (ap (λ (s : TrackKept). is_home s.holder) (not_yet c k seen tracks n n (omega arith))) ∙ home)))
      ∙ (λ j. slice_set (before j) n (served c l (seen_at seen n).looks (before j) n))

-- serving leaves each proxy where it is
pub served_holder : (c : Setup) (k : Learnt) (seen : List TrackSeen) (draft : FastState) (tracks : List TrackKept) (n i : ℕ) → IsSound tracks draft → (track_at (served_to c k seen tracks n) i).holder ≡ (track_at tracks i).holder
served_holder c k seen draft tracks zero i sound = refl
served_holder c k seen draft tracks (suc n) i sound =
    let now : List TrackKept = served_to c k seen tracks n in
    let goes = goes_served c k (seen_at seen n).looks now n ((sound_served c k seen draft tracks n sound).slotted n).unopened in
    let here : (track_at (slice_set now n (served c k (seen_at seen n).looks now n)) i).holder ≡ (track_at now i).holder = elim (at_set now n (served c k (seen_at seen n).looks now n) i) as (λ _. (track_at (slice_set now n (served c k (seen_at seen n).looks now n)) i).holder ≡ (track_at now i).holder) [
      | inl p ↦ ap (λ (s : TrackKept). s.holder) p.1 ∙ goes.holder ∙ ap (λ (j : ℕ). (track_at now j).holder) (sym p.0)
      | inr same ↦ ap (λ (s : TrackKept). s.holder) same
    ] in
    here ∙ served_holder c k seen draft tracks n i sound

-- ## The draft is edited

edit_before : (c : Setup) (k : Learnt) (m : NormalKept) (n i : ℕ) → (n ≡ i → ⊥) → track_at (edited c k n m).tracks i ≡ track_at m.tracks i
unfolding edited let_go lend
edit_before c k m n i other = by_leave (must_leave (track_at m.tracks n)) (must_enter (track_at m.tracks n))
  where
    by_leave : (a b : Bool) → track_at (if a then let_go n m else if b then lend c n (k.own n) m else m).tracks i ≡ track_at m.tracks i
    by_leave true b = get_or-set_other m.tracks n i _ new_track (λ e. other (sym e))
    by_leave false true = get_or-set_other m.tracks n i _ new_track (λ e. other (sym e))
    by_leave false false = refl

-- a track is as it was until it is edited
edits_before : (c : Setup) (k : Learnt) (m : NormalKept) (n i : ℕ) → n ≤ i → track_at (edited_to c k m n).tracks i ≡ track_at m.tracks i
edits_before c k m zero i le = refl
edits_before c k m (suc n) i le = edit_before c k (edited_to c k m n) n i (λ e. absurd (omega (arith, e, le))) ∙ edits_before c k m n i (omega (arith, le))

module _ (c : Setup) (k l : Learnt) where
  edited_same : (i : ℕ) (m : NormalKept) → (is_home (track_at m.tracks i).holder ≡ true → k.own i ≡ l.own i) → edited c k i m ≡ edited c l i m
  unfolding edited
  edited_same i m own = by_home (must_enter (track_at m.tracks i)) refl
    where
      by_home : (b : Bool) → must_enter (track_at m.tracks i) ≡ b → (if must_leave (track_at m.tracks i) then let_go i m else if b then lend c i (k.own i) m else m) ≡ (if must_leave (track_at m.tracks i) then let_go i m else if b then lend c i (l.own i) m else m)
      by_home true is = ap (λ (h : Heard). if must_leave (track_at m.tracks i) then let_go i m else lend c i h m) (own (both_first (is_home (track_at m.tracks i).holder) (is_some (track_at m.tracks i).slot && plays (track_at m.tracks i).life) is))
      by_home false is = refl

  edited_to_same : (m : NormalKept) (n : ℕ) → n ≤ length m.tracks → OwnAlike m.tracks k l → edited_to c k m n ≡ edited_to c l m n
  edited_to_same m zero few alike = refl
  edited_to_same m (suc n) few alike =
      edited_same n (edited_to c k m n) (λ home. alike n (omega (arith, few)) (sym (ap (λ (s : TrackKept). is_home s.holder) (edits_before c k m n n (omega arith))) ∙ home))
      ∙ ap (edited c l n) (edited_to_same m n (omega (arith, few)) alike)

  mutated_same : (room : ℕ) (m : NormalKept) → OwnAlike m.tracks k l → mutated c k room m ≡ mutated c l room m
  unfolding mutated
  mutated_same room m alike = ap (commanded_by c room) (edited_to_same m (length m.tracks) (omega arith) alike)

-- ## The whole turn

module _ (c : Setup) (k l : Learnt) (m : NormalKept) (e : Turn) (sound : IsSound m.tracks m.draft) (alike : LearnAlike (after_ack e.ack m).tracks k l) where
  abbrev acked : NormalKept
  acked = after_ack e.ack m

  -- the tracks are the same once those before the track i were served
  pub tracks_same : (i : ℕ) → tracks_at c k m e i ≡ tracks_at c l m e i
  tracks_same i = served_to_same c k l e.tracks acked.tracks i alike

  -- the tracks are the same once all were served
  pub after_tracks_same : after_tracks c k e acked ≡ after_tracks c l e acked
  after_tracks_same = ap (λ (ts : List TrackKept). record acked { tracks = ts }) (tracks_same (length acked.tracks))

  -- the mixer is the same once its draft was edited
  pub after_edits_same : after_edits c k e m ≡ after_edits c l e m
  after_edits_same = mutated_same c k l e.room (after_tracks c k e acked) alike_then ∙ ap (mutated c l e.room) after_tracks_same
    where
      alike_then : OwnAlike (after_tracks c k e acked).tracks k l
      alike_then i low home = alike.own i (let long : length (after_tracks c k e acked).tracks ≡ length acked.tracks = served_len c k e.tracks acked.tracks (length acked.tracks) in omega (arith, low, long))
          (ap is_home (sym (served_holder c k e.tracks acked.draft acked.tracks (length acked.tracks) i (sound_acked e.ack m sound))) ∙ home)

  -- the turn leaves the same
  pub turn_same : turn_after c k m e ≡ turn_after c l m e
  unfolding turn_after
  turn_same = ap (λ (n : NormalKept). if e.ended then record m { ended = true } else after_takes c e.mixes (after_push e.push n)) after_edits_same

  -- a proxy that is home when its track is served was so before
  at_home : (i : ℕ) → i < length m.tracks → is_home (track_at (tracks_at c k m e i) i).holder ≡ true → k.own i ≡ l.own i
  at_home i low home = alike.own i (let long : length acked.tracks ≡ length m.tracks = acked_len e.ack m in omega (arith, low, long)) (sym (ap (λ (s : TrackKept). is_home s.holder) (not_yet c k e.tracks acked.tracks i i (omega arith))) ∙ home)

  -- of a proxy that isn't home when its track is served the same is reported
  reported_then : (i : ℕ) → i < length m.tracks → is_home (track_at (tracks_at c k m e i) i).holder ≡ false → slot_reported k (track_at (tracks_at c k m e i) i) ≡ slot_reported l (track_at (tracks_at c k m e i) i)
  reported_then i low = reported_yet c k l e.tracks acked.tracks i alike (let long : length acked.tracks ≡ length m.tracks = acked_len e.ack m in omega (arith, low, long))

  -- the same is heard of a track in its part of the turn
  pub heard_then_same : (i : ℕ) → i < length m.tracks → heard k i (track_at (tracks_at c k m e i) i) ≡ heard l i (track_at (tracks_at c l m e i) i)
  heard_then_same i low = heard_same k l i (track_at (tracks_at c k m e i) i) (reported_then i low) (at_home i low) ∙ ap (λ (ts : List TrackKept). heard l i (track_at ts i)) (tracks_same i)

  pub ready_then_same : (i : ℕ) → i < length m.tracks → ready k i (track_at (tracks_at c k m e i) i) ≡ ready l i (track_at (tracks_at c l m e i) i)
  ready_then_same i low = ready_same k l i (track_at (tracks_at c k m e i) i) (reported_then i low) (at_home i low) ∙ ap (λ (ts : List TrackKept). ready l i (track_at ts i)) (tracks_same i)

-- what a proxy knows is told by its list, but for its front
known_alike : (s t : Listed) → ListAlike s t → known_by s ≡ known_by t
known_alike s t h =
    ap (λ (k : Shape). known_by (record { shape = k; events = s.events })) h.shape
    ∙ ap (λ (k : ServerKept). heard_with (min 9223372036854775807 k.consumed) (flushes_by t.shape.wrap k.noticed) (is_some k.shut) no_counts) h.alike.kept

-- what is learnt by alike outsides is alike
pub learn_alike : (m : NormalKept) (e : Turn) (o p : Outside) → AreAlike m e o p → LearnAlike (after_ack e.ack m).tracks (learnt o) (learnt p)
learn_alike m e o p alike = record {
  report = alike.report;
  own = (λ i low home. known_alike (o.streams i) (p.streams i) (alike.streams i (let long : length (after_ack e.ack m).tracks ≡ length m.tracks = acked_len e.ack m in omega (arith, low, long)) home));
}
