-- How the slots of a mix are played, one after the other.
use Rattle.std.proofs.Common.{◌≡◌, ℕ, zero, suc, ◌+◌, ◌≤◌, ◌<◌, ◌==◌, ◌⊎◌, inl, inr, Bool, true, false, true≢false, ne_eqb, if◌then◌else◌, List, ◌++◌, length, length-set, length-take-le, map, take, Option, Some, None, slice_set, refl, sym, ap, subst, ◌∙◌, append_assoc, arith}
use Rattle.af_fast.proofs.Common.{CycleEntry, FastState, Frame, Observes, Seen, ServerState, SlotEntry, StreamNames, absent, at, carries, cases_eq, count_seen, entry_slot, get_or-set_other, get_or-set_same, length-append, packed_word, place_of, slot_filled, slot_kept, slots, taken_added, taken_before, taken_kept, taken_stay, with_slot}
use Rattle.af_fast.specs.Slots.{IsQuietFrom, LogsSlot, SlotPlayed, PlayedTo}

below : (i j : ℕ) → j < suc i → (j < i) ⊎ (j ≡ i)
below i j lt = elim (cases_eq j i) [ inl e ↦ inr e | inr other ↦ inl (omega (arith, other)) ]

-- what holds of all numbers below a number, and of that number, holds up to it
up_to : (P : ℕ → Type 0) (i : ℕ) → ((j : ℕ) → j < i → P j) → P i → (j : ℕ) → j < suc i → P j
up_to P i before here j lt = elim (below i j lt) [ inl less ↦ before j less | inr e ↦ subst P (sym e) here ]

pub place_within : (n : ℕ) (answer : Seen) → place_of n answer + count_seen answer ≤ n + count_seen answer
place_within n answer = by_count (count_seen answer)
  where
    by_count : (count : ℕ) → (if count == 0 then 0 else n) + count ≤ n + count
    by_count zero = omega arith
    by_count (suc k) = elim (cases_eq (suc k) 0) [ inl e ↦ absurd (omega (arith, e)) | inr other ↦ subst (λ (b : Bool). (if b then 0 else n) + suc k ≤ n + suc k) (sym (ne_eqb (suc k) 0 other)) (omega arith) ]

module _ (asked : ℕ) (x : FastState) (place : ℕ) (o : Observes ServerState StreamNames) (first : List Frame) (entry : CycleEntry) where
  abbrev Played : Observes ServerState StreamNames → List Frame → CycleEntry → ℕ → Type 0
  Played o' frames entry' i = PlayedTo asked x place o o' first frames entry entry' i

  -- the slots are played one further, over a slot that has no track
  pub rest_step : (o' : Observes ServerState StreamNames) (frames : List Frame) (entry' : CycleEntry) (i : ℕ) → Played o' frames entry' i → 0 < i → i < slots → carries x i ≡ false → Played o' frames entry' (suc i)
  rest_step o' frames entry' i p low lt off =
      let here = p.rest i (omega arith) lt in
      let nothing : count_seen (entry_slot entry' i).seen ≡ 0 = ap (λ (s : SlotEntry). count_seen s.seen) here.1 in
      record {
        whole = p.whole;
        others = p.others;
        same = p.same;
        submix = p.submix;
        grown = p.grown;
        grown_is = p.grown_is;
        total = omega (arith, p.total, nothing);
        placed = up_to (λ j. (entry_slot entry' j).first ≡ place_of (place + taken_before entry' j) (entry_slot entry' j).seen) i p.placed
            (subst (λ (s : SlotEntry). s.first ≡ place_of (place + taken_before entry' i) s.seen) (sym here.1) refl);
        inside = up_to (λ j. (entry_slot entry' j).first + count_seen (entry_slot entry' j).seen ≤ length frames) i p.inside
            (subst (λ (s : SlotEntry). s.first + count_seen s.seen ≤ length frames) (sym here.1) (omega arith));
        within = up_to (λ j. count_seen (entry_slot entry' j).seen ≤ asked) i p.within (omega (arith, nothing));
        tracks = (λ j some lt' on. elim (below i j lt') [ inl less ↦ p.tracks j some less on | inr e ↦ absurd (true≢false (sym on ∙ ap (carries x) e ∙ off)) ]);
        quiet = (λ j some lt' no. elim (below i j lt') [ inl less ↦ p.quiet j some less no | inr e ↦ subst (λ j. (at o'.items j ≡ at o.items j) × (entry_slot entry' j ≡ absent)) (sym e) here ]);
        rest = (λ j le lt'. p.rest j (omega arith) lt');
      }

  -- the slots are played further, over slots that have no track
  pub rest_all : (o' : Observes ServerState StreamNames) (frames : List Frame) (entry' : CycleEntry) (n i : ℕ) → Played o' frames entry' i → 0 < i → i + n ≤ slots → IsQuietFrom x i → Played o' frames entry' (i + n)
  rest_all o' frames entry' zero i p low few quiet = subst (Played o' frames entry') (let e : i ≡ i + 0 = omega arith in e) p
  rest_all o' frames entry' (suc n) i p low few quiet =
      subst (Played o' frames entry') (let e : suc i + n ≡ i + suc n = omega arith in e)
      (rest_all o' frames entry' n (suc i) (rest_step o' frames entry' i p low (omega (arith, few)) (quiet i (omega arith))) (omega arith) (omega (arith, few)) (λ j le. quiet j (omega (arith, le))))

  -- the slots are played one further, over a slot that has a track
  module _ (o' o'' : Observes ServerState StreamNames) (frames frames'' : List Frame) (entry' : CycleEntry) (i : ℕ) (e : SlotEntry)
      (p : Played o' frames entry' i) (low : 0 < i) (lt : i < slots) (on : carries x i ≡ true) (long : length o'.items ≡ slots) (q : LogsSlot asked i o' o'' frames frames'' e) where
    abbrev new_items : List (Option ServerState)
    new_items = slice_set o'.items i (Some q.plays.new)

    abbrev added : List Frame
    added = take (count_seen e.seen) q.buffer

    as_many : length added ≡ count_seen e.seen
    as_many = length-take-le (count_seen e.seen) q.buffer (omega (arith, q.long, q.plays.plays.within))

    abbrev filled : CycleEntry
    filled = with_slot entry' i e

    item_here : at new_items i ≡ Some q.plays.new
    item_here = get_or-set_same o'.items i (Some q.plays.new) None (omega (arith, long))

    item_there : (j : ℕ) → (j ≡ i → ⊥) → at new_items j ≡ at o'.items j
    item_there j other = get_or-set_other o'.items i j (Some q.plays.new) None other

    slot_here : entry_slot filled i ≡ e
    slot_here = slot_filled entry' i e (omega (arith, p.whole))

    slot_there : (j : ℕ) → (j ≡ i → ⊥) → entry_slot filled j ≡ entry_slot entry' j
    slot_there j other = slot_kept entry' i j e (λ same. other (sym same))

    not_same : (j : ℕ) → j < i → j ≡ i → ⊥
    not_same j less same = omega (arith, same)

    end : length frames ≡ place + taken_before filled i
    end = p.total ∙ ap (λ n. place + n) (sym (taken_kept entry' i i e (omega arith)))

    long_frames : length (frames ++ added) ≡ length frames + count_seen e.seen
    long_frames = length-append frames added ∙ ap (λ n. length frames + n) as_many

    played_before : (j : ℕ) → 0 < j → j < i → carries x j ≡ true → SlotPlayed asked (at o.items j) (at new_items j) (frames ++ added) (entry_slot filled j)
    played_before j some less on' =
        let old = p.tracks j some less on' in
        let same = slot_there j (not_same j less) in
        let item = item_there j (not_same j less) in
        let stay = taken_stay frames added (entry_slot entry' j) (p.inside j less) in
        subst (λ (s : SlotEntry). SlotPlayed asked (at o.items j) (at new_items j) (frames ++ added) s) (sym same) (record {
          old = old.old;
          new = old.new;
          was = old.was;
          is = item ∙ old.is;
          plays = old.plays;
          frames_are = old.frames_are ∙ ap (λ (fs : List Frame). old.old.pass.part.frames ++ map packed_word fs) (sym stay);
        })

    played_here : SlotPlayed asked (at o.items i) (at new_items i) (frames ++ added) (entry_slot filled i)
    played_here = subst (λ (s : SlotEntry). SlotPlayed asked (at o.items i) (at new_items i) (frames ++ added) s) (sym slot_here) (record {
      old = q.plays.old;
      new = q.plays.new;
      was = sym (p.rest i (omega arith) lt).0 ∙ q.plays.was;
      is = item_here;
      plays = q.plays.plays.slot;
      frames_are = q.plays.plays.frames ∙ ap (λ (fs : List Frame). q.plays.old.pass.part.frames ++ map packed_word fs) (sym (taken_added frames added e as_many q.plays.plays.place_is));
    })

    step : Played (record o' { items = new_items }) (frames ++ added) filled (suc i)
    step = record {
      whole = length-set entry'.slots i e ∙ p.whole;
      others = ap (λ (y : CycleEntry). record y { slots = slice_set entry'.slots i e }) p.others;
      same = ap (λ (y : Observes ServerState StreamNames). record y { items = new_items }) p.same;
      submix = (slot_there 0 (λ same. omega (arith, same)) ∙ p.submix.0, item_there 0 (λ same. omega (arith, same)) ∙ p.submix.1);
      grown = p.grown ++ added;
      grown_is = ap (λ (fs : List Frame). fs ++ added) p.grown_is ∙ append_assoc first p.grown added;
      total = long_frames ∙ (let here = ap (λ (s : SlotEntry). count_seen s.seen) slot_here in omega (arith, end, here));
      placed = up_to (λ j. (entry_slot filled j).first ≡ place_of (place + taken_before filled j) (entry_slot filled j).seen) i
          (λ j less. subst (λ (s : SlotEntry × ℕ). s.0.first ≡ place_of (place + s.1) s.0.seen) (λ k. (sym (slot_there j (not_same j less)) k, sym (taken_kept entry' i j e (omega arith)) k)) (p.placed j less))
          (subst (λ (s : SlotEntry × ℕ). s.0.first ≡ place_of s.1 s.0.seen) (λ k. (sym slot_here k, end k)) q.plays.plays.place_is);
      inside = up_to (λ j. (entry_slot filled j).first + count_seen (entry_slot filled j).seen ≤ length (frames ++ added)) i
          (λ j less. subst (λ (s : SlotEntry). s.first + count_seen s.seen ≤ length (frames ++ added)) (sym (slot_there j (not_same j less))) (omega (arith, p.inside j less, long_frames)))
          (subst (λ (s : SlotEntry). s.first + count_seen s.seen ≤ length (frames ++ added)) (sym slot_here) (omega (arith, q.plays.plays.place_is, place_within (length frames) e.seen, long_frames)));
      within = up_to (λ j. count_seen (entry_slot filled j).seen ≤ asked) i
          (λ j less. subst (λ (s : SlotEntry). count_seen s.seen ≤ asked) (sym (slot_there j (not_same j less))) (p.within j less))
          (subst (λ (s : SlotEntry). count_seen s.seen ≤ asked) (sym slot_here) q.plays.plays.within);
      tracks = (λ j some less on'. elim (below i j less) [
        | inl before ↦ played_before j some before on'
        | inr same ↦ subst (λ k. SlotPlayed asked (at o.items k) (at new_items k) (frames ++ added) (entry_slot filled k)) (sym same) played_here
      ]);
      quiet = (λ j some less no. elim (below i j less) [
        | inl before ↦ (item_there j (not_same j before) ∙ (p.quiet j some before no).0, slot_there j (not_same j before) ∙ (p.quiet j some before no).1)
        | inr same ↦ absurd (true≢false (sym on ∙ ap (carries x) (sym same) ∙ no))
      ]);
      rest = (λ j le less.
          let other : j ≡ i → ⊥ = (λ same. omega (arith, same)) in
          let old = p.rest j (omega arith) less in
          (item_there j other ∙ old.0, slot_there j other ∙ old.1));
    }

    pub play_step : Played o'' frames'' filled (suc i)
    play_step = subst (λ (y : Observes ServerState StreamNames × List Frame). Played y.0 y.1 filled (suc i)) (λ k. (sym q.plays.is k, sym q.grown k)) step

  -- the slots are played one further, over any slot, by what its call says
  pub slot_step : (o' o'' : Observes ServerState StreamNames) (frames frames'' : List Frame) (entry' entry'' : CycleEntry) (i : ℕ) → Played o' frames entry' i → 0 < i → i < slots → length o'.items ≡ slots
      → (carries x i ≡ true → (e : SlotEntry) × LogsSlot asked i o' o'' frames frames'' e × (entry'' ≡ with_slot entry' i e))
      → (carries x i ≡ false → (o'' ≡ o') × (frames'' ≡ frames) × (entry'' ≡ entry'))
      → (b : Bool) → carries x i ≡ b → Played o'' frames'' entry'' (suc i)
  slot_step o' o'' frames frames'' entry' entry'' i p low lt long plays rests true on =
      let found = plays on in
      subst (λ (y : CycleEntry). Played o'' frames'' y (suc i)) (sym found.2) (play_step o' o'' frames frames'' entry' i found.0 p low lt on long found.1)
  slot_step o' o'' frames frames'' entry' entry'' i p low lt long plays rests false off =
      let same = rests off in
      subst (λ (y : Observes ServerState StreamNames × List Frame × CycleEntry). Played y.0 y.1 y.2 (suc i)) (λ k. (sym same.0 k, sym same.1 k, sym same.2 k)) (rest_step o' frames entry' i p low lt off)
