-- An entry of the fast mixer spares a track if the proxies that the mixer holds for it are not shut after the entry.
use Rattle.std.proofs.Common.{◌≡◌, ◌≢◌, ⊎_elim, ℕ, zero, suc, ◌+◌, ◌<◌, ◌==◌, ◌&&◌, not, Bool, true, false, true≢false, if◌then◌else◌, List, [], ◌∷◌, ◌++◌, slice_get, Option, Some, None, refl, sym, ap, subst, ◌∙◌, eqb-true, arith}
use Rattle.af_parties_law.proofs.Common.{AddsCycle, CycleEntry, FastState, IsInOrder, Made, MixerState, Observes, Polls, ServerEvent, ServerKept, ServerState, Shape, SlotEntry, StreamNames, absent_at, at, both_true, carries, cases_eq, cycle_events, entry_looks, entry_slot, flat_map, flat_map-cons, is_mixed, is_shut, kept_more, list_all-append, listed, looks_by, none-some, polled_states, range_with_len, same_Some, server_kept, server_kept_of, server_made, slot_looks, slot_of, slots, state_of}
use Rattle.af_fast.specs.Slots.{SlotPlayed}
use Rattle.af_link.specs.Names.{IsStreamOf}
use Rattle.af_stateq.specs.Shelved.{no_state}
use Rattle.af_parties_law.specs.Hostile.{none_shut}
use Rattle.af_parties_law.proofs.OpenLooks.{open_cycle}

-- ## The looks of an entry

module _ (i : ℕ) (entry : CycleEntry) (x : FastState) where
  -- a slot of another track, or one that isn't of the mask, has no look at the track
  one_slot : (k : ℕ) → (carries x k ≡ true → (slot_of x k).track ≡ i → is_shut (entry_slot entry k).seen ≡ false) → none_shut i (slot_looks entry x k) ≡ true
  one_slot k fine = by_mask (carries x k) refl
    where
      by_track : (b : Bool) → ((slot_of x k).track == i) ≡ b → carries x k ≡ true → (not (b && is_shut (entry_slot entry k).seen) && true) ≡ true
      by_track true is on = both_true (not (is_shut (entry_slot entry k).seen)) true (ap not (fine on (eqb-true (slot_of x k).track i is))) refl
      by_track false is on = refl

      by_mask : (b : Bool) → carries x k ≡ b → none_shut i (if b then record { track = (slot_of x k).track; seen = (entry_slot entry k).seen } ∷ [] else []) ≡ true
      by_mask true on = by_track ((slot_of x k).track == i) refl on
      by_mask false on = refl

  all_slots : (a n : ℕ) → ((k : ℕ) → k < a + n → carries x k ≡ true → (slot_of x k).track ≡ i → is_shut (entry_slot entry k).seen ≡ false) → none_shut i (flat_map (slot_looks entry x) (range_with_len a n)) ≡ true
  all_slots a zero fine = refl
  all_slots a (suc n) fine =
      ap (none_shut i) (flat_map-cons (slot_looks entry x) a (range_with_len (a + 1) n))
      ∙ list_all-append _ (slot_looks entry x a) (flat_map (slot_looks entry x) (range_with_len (a + 1) n))
      ∙ both_true (none_shut i (slot_looks entry x a)) _ (one_slot a (fine a (omega arith)))
      (all_slots (a + 1) n (λ k lt. fine k (omega (arith, lt))))

  pub looks_spared : ((k : ℕ) → k < slots → carries x k ≡ true → (slot_of x k).track ≡ i → is_shut (entry_slot entry k).seen ≡ false) → none_shut i (looks_by entry (Some x)) ≡ true
  unfolding looks_by
  looks_spared fine = all_slots 0 slots (λ k lt. fine k (omega (arith, lt)))

pub no_looks : (i : ℕ) (entry : CycleEntry) → none_shut i (looks_by entry None) ≡ true
unfolding looks_by
no_looks i entry = refl

-- ## A cycle

-- the proxies held for the track are not shut
abbrev pub AreUnshut : ℕ → MixerState → Type 0
AreUnshut i m = (k : ℕ) (s : ServerState) → k < slots → carries m.observer.past.state k ≡ true → (slot_of m.observer.past.state k).track ≡ i → at m.observer.items k ≡ Some s → (server_kept_of s.pass.part).shut ≡ None

module _ (m m' : MixerState) (entry : CycleEntry) (adds : AddsCycle m m' entry) (order : IsInOrder m) (order' : IsInOrder m') (names : StreamNames) (key : m.observer.past.key ≡ Some names) where
  same_past : m'.observer.past ≡ m.observer.past
  same_past = ap (λ (o : Observes ServerState StreamNames). o.past) adds.takes.observer

  state' : m'.observer.past.state ≡ m.observer.past.state
  state' = ap (λ (p : Polls ServerState StreamNames). p.state) same_past

  key' : m'.observer.past.key ≡ Some names
  key' = ap (λ (p : Polls ServerState StreamNames). p.key) same_past ∙ key

  none_current : m.observer.past.number ≡ 0 → m.observer.current ≡ None
  none_current none = sym (order.observer.told.current no_state) ∙ ap (state_of (polled_states no_state m.observer.past.events)) none

  -- the state that an entry uses is the observer's, and there is one if a slot is carried
  state_is : (x : FastState) → m.observer.current ≡ Some x → m.observer.past.state ≡ x
  state_is x current = ⊎_elim
      (λ (none : m.observer.past.number ≡ 0). absurd (none-some x (sym (none_current none) ∙ current)))
      (λ (some : m.observer.past.number ≢ 0). same_Some m.observer.past.state x (sym (order.observer.told.state (omega (arith, some))) ∙ current))
      (cases_eq m.observer.past.number 0)

  carried_current : (k : ℕ) → k < slots → carries m.observer.past.state k ≡ true → m.observer.current ≡ Some m.observer.past.state
  carried_current k lt on = ⊎_elim
      (λ (none : m.observer.past.number ≡ 0). absurd (true≢false (sym on ∙ order.begins none k lt)))
      (λ (some : m.observer.past.number ≢ 0). order.observer.told.state (omega (arith, some)))
      (cases_eq m.observer.past.number 0)

  -- a proxy that was played is of the same block as before
  same_shape : (k : ℕ) (s t : ServerState) → k < slots → at m.observer.items k ≡ Some s → at m'.observer.items k ≡ Some t → t.pass.part.shape ≡ s.pass.part.shape
  same_shape k s t lt was is =
      let old : IsStreamOf names.blocks (slot_of m.observer.past.state k).track s = order.observer.fit names key k s lt was in
      let new : IsStreamOf names.blocks (slot_of m'.observer.past.state k).track t = order'.observer.fit names key' k t lt is in
      let here : slice_get names.blocks (slot_of m.observer.past.state k).track ≡ Some (server_made t.pass) = ap (λ (x : FastState). slice_get names.blocks (slot_of x k).track) (sym state') ∙ new.made in
      ap (λ (b : Made). b.shape) (same_Some (server_made t.pass) (server_made s.pass) (sym here ∙ old.made))

  module _ (i : ℕ) (unshut : AreUnshut i m') where
    -- the look of a slot of the track, in a mix under the observer's state
    module _ (mixed : is_mixed entry.cycle ≡ true) (x : FastState) (current : m.observer.current ≡ Some x) (state : m.observer.past.state ≡ x) (k : ℕ) (lt : k < slots) (on : carries x k ≡ true) (track : (slot_of x k).track ≡ i) where
      played : SlotPlayed m.frames (at m.observer.items k) (at m'.observer.items k) m'.log.frames (entry_slot entry k)
      played = adds.takes.tracks mixed x current k lt on

      fine_slot : ((server_kept_of played.old.pass.part).shut ≡ None) × (is_shut (entry_slot entry k).seen ≡ false)
      fine_slot =
          let s : ServerState = played.old in
          let t : ServerState = played.new in
          let same = same_shape k s t lt played.was played.is in
          let now : FastState = m'.observer.past.state in
          let here : now ≡ x = state' ∙ state in
          let none = unshut k t lt (ap (λ (y : FastState). carries y k) here ∙ on) (ap (λ (y : FastState). (slot_of y k).track) here ∙ track) played.is in
          let list = played.plays.list in
          let slot = entry_slot entry k in
          let fine : (server_kept s.pass.part.shape (s.pass.part.events ++ cycle_events m.frames (listed s) slot played.plays.front)).shut ≡ None =
          subst (λ (z : Shape × List ServerEvent). (server_kept z.0 z.1).shut ≡ None) (λ j. (same j, list j)) none in
          open_cycle m.frames (listed s) slot played.plays.front played.plays.looks (sym (ap (λ (z : ServerKept). z.shut) (kept_more s.pass.part.shape s.pass.part.events _)) ∙ fine)

    -- the proxies held for the track were not shut before the cycle either
    pub unshut_before : AreUnshut i m
    unshut_before k s lt on track was = by_mix (is_mixed entry.cycle) refl
      where
        by_mix : (b : Bool) → is_mixed entry.cycle ≡ b → (server_kept_of s.pass.part).shut ≡ None
        by_mix true mixed =
            let p = played mixed m.observer.past.state (carried_current k lt on) refl k lt on track in
            let one = fine_slot mixed m.observer.past.state (carried_current k lt on) refl k lt on track in
            ap (λ (z : ServerState). (server_kept_of z.pass.part).shut) (same_Some s p.old (sym was ∙ p.was)) ∙ one.0
        by_mix false dry =
            let same : m'.observer ≡ m.observer = (adds.takes.still dry).0 in
            unshut k s lt (ap (λ (o : Observes ServerState StreamNames). carries o.past.state k) same ∙ on) (ap (λ (o : Observes ServerState StreamNames). (slot_of o.past.state k).track) same ∙ track)
            (ap (λ (o : Observes ServerState StreamNames). at o.items k) same ∙ was)

    -- the look of a slot of the track is not Shut
    look_fine : (x : FastState) → m.observer.current ≡ Some x → m.observer.past.state ≡ x → (k : ℕ) → k < slots → carries x k ≡ true → (slot_of x k).track ≡ i → is_shut (entry_slot entry k).seen ≡ false
    look_fine x current state k lt on track = by_mix (is_mixed entry.cycle) refl
      where
        by_mix : (b : Bool) → is_mixed entry.cycle ≡ b → is_shut (entry_slot entry k).seen ≡ false
        by_mix true mixed = (fine_slot mixed x current state k lt on track).1
        by_mix false dry = ap (λ (e : CycleEntry). is_shut (entry_slot e k).seen) (adds.legal.still dry) ∙ ap (λ (s : SlotEntry). is_shut s.seen) (absent_at slots k)

    -- an entry spares the track if the proxies held for it are not shut after the cycle
    pub entry_spares : none_shut i (entry_looks (record { entry = entry; state = m'.observer.current })) ≡ true
    entry_spares = ap (λ (o : Option FastState). none_shut i (looks_by entry o)) (ap (λ (o : Observes ServerState StreamNames). o.current) adds.takes.observer) ∙ by_state m.observer.current refl
      where
        by_state : (o : Option FastState) → m.observer.current ≡ o → none_shut i (looks_by entry o) ≡ true
        by_state None is = no_looks i entry
        by_state (Some x) is = looks_spared i entry x (look_fine x is (state_is x is))
