-- The proxies of the slots of a mix: each is of a track of the session, in order, and of the same block as before.
use Rattle.std.proofs.Common.{◌≡◌, ⊎_elim, ℕ, ◌<◌, ◌≤◌, true, true≢false, List, length, slice_get, Option, Some, None, refl, sym, ap, ◌∙◌}
use Rattle.af_told_law.proofs.Common.{AreTogether, FastState, Links, Made, MixerState, Observes, ServerState, SessionState, StreamNames, TrackKept, at, carries, cases_lt, get_or_past, is_home, new_track, same_Some, server_made, slot_for, slot_number, slot_of, slots, track_at}
use Rattle.af_told_law.specs.Leads.{LeadAway}
use Rattle.af_engine.proofs.Basics.{some_of}
use Rattle.af_server.specs.Order.{IsInOrder}
use Rattle.af_told_law.proofs.SlotHeld.{found_carries, found_track, none_carries}

abbrev Watching : Type 0
Watching = Observes ServerState StreamNames

module _ (links : Links) (x : SessionState) (g : MixerState) (together : AreTogether links x) (after : AreTogether links (record x { fast = g })) (lead : LeadAway x.fast.observer.past.state x.normal.tracks) (same : g.observer ≡ record x.fast.observer { items = g.observer.items }) where
  abbrev state : FastState
  state = x.fast.observer.past.state

  pub state_same : g.observer.past.state ≡ state
  state_same = ap (λ (o : Watching). o.past.state) same

  -- a track past the last one is home
  past_home : (i : ℕ) → length x.normal.tracks ≤ i → is_home (track_at x.normal.tracks i).holder ≡ true
  past_home i high = ap (λ (t : TrackKept). is_home t.holder) (get_or_past x.normal.tracks i new_track high)

  -- a slot's track is one of the session
  pub inside : (k : ℕ) → k < slots → carries state k ≡ true → (slot_of state k).track < length x.normal.tracks
  inside k low carried = ⊎_elim (λ (less : (slot_of state k).track < length x.normal.tracks). less)
      (λ (high : length x.normal.tracks ≤ (slot_of state k).track). absurd (true≢false (sym (past_home (slot_of state k).track high) ∙ (lead k low carried).0)))
      (cases_lt (slot_of state k).track (length x.normal.tracks))

  -- a slot's track is found in this slot
  pub found_slot : (k : ℕ) → k < slots → carries state k ≡ true → slot_for state (slot_of state k).track ≡ Some k
  found_slot k low carried = by_slot (slot_for state (slot_of state k).track) refl
    where
      by_slot : (o : Option ℕ) → slot_for state (slot_of state k).track ≡ o → slot_for state (slot_of state k).track ≡ Some k
      by_slot None none = absurd (none_carries state (slot_of state k).track k none low carried refl)
      by_slot (Some j) found =
          let there = found_carries state (slot_of state k).track j found in
          found ∙ ap Some (sym (lead j there.0 there.1).1 ∙ ap (λ (i : ℕ). slot_number (track_at x.normal.tracks i)) (found_track state (slot_of state k).track j found) ∙ (lead k low carried).1)

  -- the proxy of a slot after the mix
  pub held_after : (k : ℕ) → k < slots → carries state k ≡ true → (p : ServerState) × (at g.observer.items k ≡ Some p)
  held_after k low carried = some_of (at g.observer.items k) (after.fast.0.observer.held k low ∙ ap (λ (z : FastState). carries z k) state_same ∙ carried)

  pub order_after : (k : ℕ) (p : ServerState) → k < slots → at g.observer.items k ≡ Some p → IsInOrder p
  order_after k p low item = let names = after.fast.1.names in (after.fast.0.observer.fit names.0 names.1 k p low item).in_order

  made_before : (k : ℕ) (p : ServerState) → k < slots → at x.fast.observer.items k ≡ Some p → slice_get links.streams.now (slot_of state k).track ≡ Some (server_made p.pass)
  made_before k p low item = let names = together.fast.1.names in ap (λ (bs : List Made). slice_get bs (slot_of state k).track) (sym names.2) ∙ (together.fast.0.observer.fit names.0 names.1 k p low item).made

  made_after : (k : ℕ) (p : ServerState) → k < slots → at g.observer.items k ≡ Some p → slice_get links.streams.now (slot_of state k).track ≡ Some (server_made p.pass)
  made_after k p low item =
      let names = after.fast.1.names in
      ap (λ (bs : List Made). slice_get bs (slot_of state k).track) (sym names.2) ∙ ap (λ (z : FastState). slice_get names.0.blocks (slot_of z k).track) (sym state_same) ∙ (after.fast.0.observer.fit names.0 names.1 k p low item).made

  pub shape_same : (k : ℕ) (p q : ServerState) → k < slots → at x.fast.observer.items k ≡ Some p → at g.observer.items k ≡ Some q → q.pass.part.shape ≡ p.pass.part.shape
  shape_same k p q low was is = ap (λ (m : Made). m.shape) (same_Some (server_made q.pass) (server_made p.pass) (sym (made_after k q low is) ∙ made_before k p low was))
