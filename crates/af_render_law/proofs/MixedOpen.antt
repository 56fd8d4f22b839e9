-- A look that an entry makes at a stream block answers by some front; and if the block's server isn't shut after it, it wasn't before, and the look wasn't Shut.
use Rattle.std.proofs.Common.{◌≡◌, ℕ, zero, suc, ◌+◌, ◌<◌, ◌==◌, ◌&&◌, not, Bool, true, false, if◌then◌else◌, is_some, map, List, [], ◌++◌, Option, Some, None, refl, sym, ap, ◌∙◌, subst, eqb-true, arith}
use Rattle.af_render_law.proofs.Common.{BlockTold, CycleEntry, EntrySeen, FastState, IsUnshut, LegalEntry, LooksBy, Marks, Run, ServerEvent, Session, SlotEntry, Track, TrackTold, absent, both_first, by_server, carries, cycle_events, cycle_frames, cycle_of, entry_slot, find, front_of, get_or-replicate, is_mixed, is_shown, is_shut, kept, listed, mixed_track, no, no_track, number_of, played, range_with_len, server-client, server-server, server_kept, server_list, sides_mixed, slot_of, slots, state_for, state_of, still_entry, told_at, told_more, unshut_mixed}
use Rattle.af_model.specs.ClientCalls.{client_kept}
use Rattle.af_runs.specs.Runs.{shows_slot, slot_playing}
use Rattle.af_model.proofs.Logic.{both_right}
use Rattle.af_runs.proofs.StatesFor.{state_known}
use Rattle.af_model.proofs.Basics.{not_true}

-- ## The look answers

-- the number of a range that is found passes, and lies in the range
found_at : (p : ℕ → Bool) (a n k : ℕ) → find p (range_with_len a n) ≡ Some k → (p k ≡ true) × (k < a + n)
found_at p a zero k e = no (ap is_some e)
found_at p a (suc n) k e = by_first (p a) refl (found_at p (a + 1) n k) e
  where
    by_first : (b : Bool) → p a ≡ b → (find p (range_with_len (a + 1) n) ≡ Some k → (p k ≡ true) × (k < a + 1 + n)) → (if b then Some a else find p (range_with_len (a + 1) n)) ≡ Some k → (p k ≡ true) × (k < a + suc n)
    by_first true is later f = let same : a ≡ k = ap number_of f in (subst (λ j. p j ≡ true) same is, omega (arith, same))
    by_first false is later f = let more = later f in (more.0, (let h = more.1 in omega (arith, h)))

-- a look of an entry answers by some front
abbrev pub Looked : Session → EntrySeen → ℕ → BlockTold → Type 0
Looked s e i b = (front : ℕ) × LooksBy (cycle_frames s) (listed b) (entry_slot e.entry i) front

module _ (s : Session) (marks : Marks) (r : Run) (e : EntrySeen) (legal : LegalEntry s marks r e) (n i : ℕ) where
  abbrev x : FastState
  x = state_for s r e.entry.state

  not_still : i < slots → e.entry ≡ still_entry e.entry.state e.entry.cycle → is_shown (entry_slot e.entry i).seen ≡ true → ⊥
  not_still low is shown =
      let none : entry_slot e.entry i ≡ absent = ap (λ (y : CycleEntry). entry_slot y i) is ∙ get_or-replicate slots i absent absent low in
      no (sym (ap (λ (slot : SlotEntry). is_shown slot.seen) none) ∙ shown)

  slot_looked : i < slots → carries x i ≡ true → is_shown (entry_slot e.entry i).seen ≡ true → (slot_of x i).track ≡ n → Looked s e i (told_at r n).stream
  slot_looked low carried shown of_track = by_mixed (is_mixed e.entry.cycle) refl
    where
      by_state : (o : Option FastState) → state_of r.states e.entry.state ≡ o → is_mixed e.entry.cycle ≡ true → Looked s e i (told_at r n).stream
      by_state None is mixed = no (sym (ap is_mixed (legal.cycle.what ∙ ap (cycle_of _) is)) ∙ mixed)
      by_state (Some y) is mixed =
          let same : x ≡ y = state_known s r e.entry.state y is in
          let slot = (legal.cycle.mixes y is mixed).tracks i low (subst (λ (z : FastState). carries z i ≡ true) same carried) in
          (slot.front, subst (λ (t : ℕ). LooksBy (cycle_frames s) (listed (told_at r t).stream) (entry_slot e.entry i) slot.front) of_track slot.looks)

      by_mixed : (b : Bool) → is_mixed e.entry.cycle ≡ b → Looked s e i (told_at r n).stream
      by_mixed true is = by_state (state_of r.states e.entry.state) refl is
      by_mixed false is = absurd (not_still low (legal.cycle.still is) shown)

  pub entry_looked : slot_playing x e.entry n ≡ Some i → Looked s e i (told_at r n).stream
  entry_looked found =
      let at = found_at (λ j. shows_slot x e.entry j && ((slot_of x j).track == n)) 0 slots i found in
      let here = both_first (shows_slot x e.entry i) ((slot_of x i).track == n) at.0 in
      slot_looked (let h = at.1 in omega (arith, h)) (both_first (carries x i) (is_shown (entry_slot e.entry i).seen) here) (both_right (carries x i) (is_shown (entry_slot e.entry i).seen) here)
      (eqb-true (slot_of x i).track n (both_right (shows_slot x e.entry i) ((slot_of x i).track == n) at.0))

-- ## What the look leaves

module _ (s : Session) (x : FastState) (e : EntrySeen) (n i : ℕ) (b : BlockTold) (found : slot_playing x e.entry n ≡ Some i) (look : Looked s e i b) where
  -- a block with the same server, and a client that did nothing
  abbrev alone : BlockTold
  alone = record b { told = told_more [] (map by_server (server_list b)) }

  abbrev track : TrackTold
  track = record no_track { stream = alone }

  same : server_list alone ≡ server_list b
  same = server-server [] (server_list b)

  -- the events of the slot, by the server's list
  abbrev then_does : List ServerEvent → List ServerEvent
  then_does es = let l = record (listed b) { events = es } in let slot = entry_slot e.entry i in cycle_events (cycle_frames s) l slot (front_of (cycle_frames s) l slot)

  same_played : server_list (played (cycle_frames s) e i alone) ≡ server_list (played (cycle_frames s) e i b)
  same_played = server-server alone.told (then_does (server_list alone)) ∙ ap (λ es. es ++ then_does es) same ∙ sym (server-server b.told (then_does (server_list b)))

  looked : (j : ℕ) → slot_playing x e.entry n ≡ Some j → Looked s e j alone
  looked j is =
      let at : i ≡ j = ap number_of (sym found ∙ is) in
      (look.0, subst (λ k. LooksBy (cycle_frames s) (listed alone) (entry_slot e.entry k) look.0) at (subst (λ es. LooksBy (cycle_frames s) (record (listed b) { events = es }) (entry_slot e.entry i) look.0) (sym same) look.1))

  pub played_open : (server_kept b.shape (server_list (played (cycle_frames s) e i b))).shut ≡ None → ((kept (listed b)).shut ≡ None) × (is_shut (entry_slot e.entry i).seen ≡ false)
  played_open fine =
      let unshut : IsUnshut false (mixed_track s x e n track) = record {
        client = subst (λ (t : Track). (client_kept t.stream.shape.frames t.stream.shape.base t.stream.events).shut ≡ None) (sym (sides_mixed s x e n track))
            (ap (λ es. (client_kept b.shape.frames b.shape.base es).shut) (server-client [] (server_list b)));
        server = subst (λ o. (kept (listed (elim o as (λ o. TrackTold) [ None ↦ track | Some k ↦ record track { stream = played (cycle_frames s) e k alone } ]).stream)).shut ≡ None) (sym found)
            (ap (λ es. (server_kept b.shape es).shut) same_played ∙ fine);
      } in
      let before = unshut_mixed false s x e n track looked unshut in
      (ap (λ es. (server_kept b.shape es).shut) (sym same) ∙ before.0.server, spared (slot_playing x e.entry n) found (before.1 refl))
    where
      spared : (o : Option ℕ) → o ≡ Some i → elim o as (λ o. Bool) [ None ↦ true | Some k ↦ not (is_shut (entry_slot e.entry k).seen) ] ≡ true → is_shut (entry_slot e.entry i).seen ≡ false
      spared None is h = no (ap is_some is)
      spared (Some k) is h = ap (λ j. is_shut (entry_slot e.entry j).seen) (sym (ap number_of is)) ∙ not_true (is_shut (entry_slot e.entry k).seen) h
