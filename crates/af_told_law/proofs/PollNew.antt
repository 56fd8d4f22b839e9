-- A poll that takes the last state pushed leaves each proxy that is away where the run tells it.
use Rattle.std.proofs.Common.{◌≡◌, ℕ, ◌+◌, ◌<◌, ◌==◌, ◌&&◌, ◌||◌, not, Bool, true, false, true≢false, if◌then◌else◌, is_some, map, List, [], ◌∷◌, ◌++◌, Option, Some, None, refl, sym, ap, ◌∙◌, subst, arith, append_assoc}
use Rattle.af_told_law.proofs.Common.{Adopts, AreOf, AreTogether, BlockTold, FastState, FastTrack, IsSettled, IsSound, Item, Links, MixerState, New, NormalState, Nothing, ObserverEvent, ObserverPoint, Observes, Poll, Run, Same, ServerEvent, ServerState, Session, SessionState, StreamNames, TakesIt, WasPolled, acknowledged, and_parts, at, carries, cycle_frames, eq-eqb, fold-append, has, is_home, is_over, item_at, items_of, le-ltb, lt-ltb, map-append, ne_eqb, none-some, not-true, observed, observer_next, observer_start, or_right, poll_events, sees_same, slot_for, slot_number, slot_of, slots, state_at, told_at, took, track_at, with_poll}
use Rattle.af_told_law.specs.Leads.{LeadAway}
use Rattle.af_model.specs.declared.states.ObserverEvent.TheVariants as observer
use Rattle.af_told_law.proofs.Basics.{item_within}
use Rattle.af_told_law.specs.Tells.{Tells, TellsAway, TellsServer, TellsStream, is_coming, is_going, items_given, items_sent, marked_poll, mutated_by, none_comes}
use Rattle.af_told_law.proofs.PollTold.{marks_are, poll_told, stream_still}
use Rattle.af_told_law.proofs.SlotHeld.{found_carries, found_track, none_carries}
use Rattle.af_told_law.specs.Deeds.{Deeds, ServerDone, done_on}

-- the poll that led from f to g found the last state that was pushed: a new one is that, with the items that went with it, and the mutator hasn't seen it acknowledged
pub record FindsLast (m : NormalState) (f g : MixerState) : Type 0 where
  pub number : g.observer.past.number ≡ m.mutator.past.number
  pub new : (x : FastState) (came back : List (Option ServerState)) → g.observer.past ≡ acknowledged back (took x came f.observer.past) → (x ≡ m.mutator.past.last) × (came ≡ items_sent m) × ((mutated_by m).clear ≡ false)

abbrev Watching : Type 0
Watching = Observes ServerState StreamNames

module _ (m : NormalState) (f g : MixerState) (x : FastState) (came back : List (Option ServerState))
    (is : g.observer ≡ record { past = acknowledged back (took x came f.observer.past); current = Some x; previous = f.observer.current; items = g.observer.items })
    (settled : (i : ℕ) → i < slots → IsSettled x f.observer.items came g.observer.items back i) (new : AreOf x f.observer.past.state came) (old : AreOf f.observer.past.state x back)
    (lead_old : LeadAway f.observer.past.state m.tracks) (lead_new : LeadAway x m.tracks) (sound : IsSound m.tracks m.mutator.draft) (sent : came ≡ items_sent m) (clear : (mutated_by m).clear ≡ false)
    (going : is_going m f ≡ true) (gone : is_going m g ≡ false) where
  abbrev y : FastState
  y = f.observer.past.state

  state_new : g.observer.past.state ≡ x
  state_new = ap (λ (o : Watching). o.past.state) is

  given_new : items_given g ≡ back
  given_new =
      ap (λ (o : Watching). (observed o.past.events).given) is
      ∙ ap (λ (p : ObserverPoint ServerState). p.given) (fold-append observer_next observer_start (f.observer.past.events ++ observer.SawNext (f.observer.past.number + 1) (Some x) came ∷ []) (observer.Ack (f.observer.past.number + 1) back ∷ []))

  coming : is_coming m g ≡ true
  coming = λ j. not (gone j) && not (clear j)

  none_coming : is_coming m f ≡ true → ⊥
  none_coming so = true≢false (sym so ∙ (λ j. not (going j) && not (mutated_by m).clear))

  -- an item that came is held, and one that stayed
  at_came : (k : ℕ) → k < slots → has came k ≡ true → at g.observer.items k ≡ at came k
  at_came k low there = (settled k low).0 ∙ (λ j. if there j || not (carries x k) then at came k else at f.observer.items k)

  at_stayed : (k : ℕ) → k < slots → has came k ≡ false → carries x k ≡ true → at g.observer.items k ≡ at f.observer.items k
  at_stayed k low none there = (settled k low).0 ∙ (λ j. if none j || not (there j) then at came k else at f.observer.items k)

  -- an item that was given back was held
  at_given : (k : ℕ) → k < slots → carries x k ≡ false → at back k ≡ at f.observer.items k
  at_given k low off = (settled k low).1 ∙ ap (λ (b : Bool). if b then at f.observer.items k else at came k) (or_right (has came k) (not (carries x k)) (ap (λ (b : Bool). not b) off))

  module _ (i : ℕ) (b : ServerDone) (away : is_home (track_at m.tracks i).holder ≡ false) (h : TellsAway m f i (slot_number (track_at m.tracks i)) b) where
    abbrev slot : ℕ
    slot = slot_number (track_at m.tracks i)

    -- a slot by which the observer has the track is the track's
    slot_old : (k : ℕ) → slot_for y i ≡ Some k → slot ≡ k
    slot_old k found = let c = found_carries y i k found in ap (λ (j : ℕ). slot_number (track_at m.tracks j)) (sym (found_track y i k found)) ∙ (lead_old k c.0 c.1).1

    slot_new : (k : ℕ) → slot_for x i ≡ Some k → slot ≡ k
    slot_new k found = let c = found_carries x i k found in ap (λ (j : ℕ). slot_number (track_at m.tracks j)) (sym (found_track x i k found)) ∙ (lead_new k c.0 c.1).1

    -- the observer had the track, if its state carried the slot for it
    was_held : (k : ℕ) → k < slots → carries y k ≡ true → (slot_of y k).track ≡ i → (p : ServerState) → at f.observer.items k ≡ Some p → TellsServer b p
    was_held k low carried track p item = by_slot (slot_for y i) refl
      where
        by_slot : (o : Option ℕ) → slot_for y i ≡ o → TellsServer b p
        by_slot None none = absurd (none_carries y i k none low carried track)
        by_slot (Some j) found =
            let c = found_carries y i j found in
            let same : k ≡ j = sym (lead_old k low carried).1 ∙ ap (λ (n : ℕ). slot_number (track_at m.tracks n)) track ∙ slot_old j found in
            h.held p (ap (item_at f.observer.items) found ∙ ap (at f.observer.items) (sym same) ∙ item)

    held_new : (o : Option ℕ) → slot_for x i ≡ o → (p : ServerState) → item_at g.observer.items o ≡ Some p → TellsServer b p
    held_new None none p item = absurd (none-some p item)
    held_new (Some k) found p item = by_old (carries y k) refl
      where
        by_old : (c : Bool) → carries y k ≡ c → TellsServer b p
        by_old true carried =
            let c = found_carries x i k found in
            let none : has came k ≡ false = new.1 k c.0 ∙ (λ j. c.1 j && not (carried j)) in
            was_held k c.0 carried (sym (ap (λ (t : FastTrack). t.track) (new.2 k c.0 c.1 carried)) ∙ found_track x i k found) p (sym (at_stayed k c.0 none c.1) ∙ item)
        by_old false off =
            let c = found_carries x i k found in
            let some : has came k ≡ true = new.1 k c.0 ∙ (λ j. c.1 j && not (off j)) in
            h.goes (none_old (slot_for y i) refl) going p (sym (ap (λ (is : List (Option ServerState)). at is slot) sent) ∙ ap (at came) (slot_new k found) ∙ sym (at_came k c.0 some) ∙ item)
          where
            none_old : (o : Option ℕ) → slot_for y i ≡ o → slot_for y i ≡ None
            none_old None none = none
            none_old (Some j) other =
                let same : j ≡ k = sym (slot_old j other) ∙ slot_new k found in
                absurd (true≢false (sym (found_carries y i j other).1 ∙ ap (carries y) same ∙ off))

    given_back : slot_for x i ≡ None → (p : ServerState) → at back slot ≡ Some p → TellsServer b p
    given_back none p item =
        let low : slot < slots = (let w = item_within back slot p item in let n = old.0 in omega (arith, w, n)) in
        let parts = and_parts (carries y slot) (not (carries x slot)) (sym (old.1 slot low) ∙ ap is_some item) in
        let lead = lead_old slot low parts.0 in
        let one : (slot_of y slot).track ≡ i = sym ((sound.drafted (slot_of y slot).track).own lead.0).0 ∙ ap (λ (k : ℕ). (slot_of m.mutator.draft k).track) lead.1 ∙ ((sound.drafted i).own away).0 in
        was_held slot low parts.0 one p (sym (at_given slot low (not-true (carries x slot) parts.1)) ∙ item)

    -- if nothing comes back for a track's slot, the observer hadn't the track
    not_held : slot_for x i ≡ None → none_comes m g slot → (o : Option ℕ) → slot_for y i ≡ o → slot_for y i ≡ None
    not_held none comes None off = off
    not_held none comes (Some k) found = absurd (by_new (carries x k) refl)
      where
        by_new : (c : Bool) → carries x k ≡ c → ⊥
        by_new true carried =
            let c = found_carries y i k found in
            none_carries x i k none c.0 carried (ap (λ (t : FastTrack). t.track) (new.2 k c.0 carried c.1) ∙ found_track y i k found)
        by_new false off =
            let c = found_carries y i k found in
            let some : has back k ≡ true = old.1 k c.0 ∙ (λ j. c.1 j && not (off j)) in
            let nothing : at back k ≡ None = ap (at back) (sym (slot_old k found)) ∙ sym (ap (λ (is : List (Option ServerState)). at is slot) given_new) ∙ comes coming in
            true≢false (sym some ∙ ap is_some nothing)

    away_new : TellsAway m g i slot b
    away_new = record {
      held = (λ p item. held_new (slot_for x i) refl p (sym (ap (λ (z : FastState). item_at g.observer.items (slot_for z i)) state_new) ∙ item));
      goes = (λ off so. absurd (true≢false (sym so ∙ gone)));
      comes = (λ off so p item. given_back (sym (ap (λ (z : FastState). slot_for z i) state_new) ∙ off) p (sym (ap (λ (is : List (Option ServerState)). at is slot) given_new) ∙ item));
      waits = (λ off none. h.waits (not_held (sym (ap (λ (z : FastState). slot_for z i) state_new) ∙ off) none (slot_for y i) refl) (λ so. absurd (none_coming so)));
      back = (λ off none. h.back (not_held (sym (ap (λ (z : FastState). slot_for z i) state_new) ∙ off) none (slot_for y i) refl) (λ so. absurd (none_coming so)));
    }

  stream_new : (i : ℕ) (b : BlockTold) (deed : List ServerEvent) → TellsStream m f i b deed → TellsStream m g i b deed
  stream_new i b deed h = record { home = h.home; away = λ off. away_new i (done_on b deed) off (h.away off); hand = h.hand }

-- ## Any poll

module _ (links : Links) (s : Session) (run : Run) {d : Deeds} (x : SessionState) (g : MixerState) (h : Tells s run d x) (together : AreTogether links x) (lead : LeadAway x.fast.observer.past.state x.normal.tracks)
    (lead_last : LeadAway x.normal.mutator.past.last x.normal.tracks) (adopts : Adopts x.fast g) (finds : FindsLast x.normal x.fast g) where
  abbrev o : Watching
  o = x.fast.observer

  by_same : g.observer ≡ sees_same o → Tells s (with_poll s g.observer.past.number run) d (record x { fast = g })
  by_same is =
      let number : g.observer.past.number ≡ run.current = ap (λ (w : Watching). w.past.number) is ∙ h.fast.current in
      let none : poll_events (cycle_frames s) run.states run.current g.observer.past.number ≡ observer.SawNext g.observer.past.number None [] ∷ [] =
      ap (λ (b : Bool). if b then (let l : List (ObserverEvent Item) = observer.SawNext g.observer.past.number None [] ∷ [] in l)
      else observer.SawNext g.observer.past.number (Some (state_at (cycle_frames s) run.states g.observer.past.number)) (items_of (state_at (cycle_frames s) run.states g.observer.past.number) (state_at (cycle_frames s) run.states run.current))
      ∷ observer.Ack g.observer.past.number (items_of (state_at (cycle_frames s) run.states run.current) (state_at (cycle_frames s) run.states g.observer.past.number)) ∷ [])
      (eq-eqb g.observer.past.number run.current number) in
      poll_told s run x g h adopts.same finds.number
      (ap (λ (w : Watching). map marked_poll w.past.events) is ∙ map-append marked_poll o.past.events (observer.SawNext o.past.number None [] ∷ [])
      ∙ ap (λ (n : ℕ). map marked_poll o.past.events ++ observer.SawNext n None [] ∷ []) (sym (ap (λ (w : Watching). w.past.number) is)) ∙ ap (λ (l : List (ObserverEvent Item)). map marked_poll o.past.events ++ l) (sym none))
      (ap (λ (w : Watching). w.past.state) is ∙ h.fast.state ∙ ap (state_at (cycle_frames s) run.states) (sym number))
      (λ i p at_i. stream_still x.normal x.fast g is i (told_at run i).stream (d.streams i) (h.tracks i p at_i).stream)

  by_new : (z : FastState) → TakesIt o z g.observer → Tells s (with_poll s g.observer.past.number run) d (record x { fast = g })
  by_new z takes =
      let came = takes.0 in
      let back = takes.1 in
      let found = finds.new z came back (ap (λ (w : Watching). w.past) takes.2) in
      let n : ℕ = g.observer.past.number in
      let one_more : n ≡ o.past.number + 1 = ap (λ (w : Watching). w.past.number) takes.2 in
      let there : z ≡ state_at (cycle_frames s) run.states n = found.0 ∙ h.normal.last ∙ ap (state_at (cycle_frames s) run.states) (sym h.normal.number ∙ sym finds.number) in
      let other : (n == run.current) ≡ false = ne_eqb n run.current (λ (e : n ≡ run.current). let c = h.fast.current in omega (arith, e, c, one_more)) in
      let new : AreOf (state_at (cycle_frames s) run.states n) (state_at (cycle_frames s) run.states run.current) came = subst (λ (w : FastState × FastState). AreOf w.0 w.1 came) (λ j. (there j, h.fast.state j)) takes.4 in
      let old : AreOf (state_at (cycle_frames s) run.states run.current) (state_at (cycle_frames s) run.states n) back = subst (λ (w : FastState × FastState). AreOf w.1 w.0 back) (λ j. (there j, h.fast.state j)) takes.5 in
      let told : List (ObserverEvent Item) = observer.SawNext n (Some (state_at (cycle_frames s) run.states n)) (items_of (state_at (cycle_frames s) run.states n) (state_at (cycle_frames s) run.states run.current))
      ∷ observer.Ack n (items_of (state_at (cycle_frames s) run.states run.current) (state_at (cycle_frames s) run.states n)) ∷ [] in
      let events : poll_events (cycle_frames s) run.states run.current n ≡ told = ap (λ (b : Bool). if b then (let l : List (ObserverEvent Item) = observer.SawNext n None [] ∷ [] in l) else told) other in
      poll_told s run x g h adopts.same finds.number
      (ap (λ (w : Watching). map marked_poll w.past.events) takes.2
      ∙ ap (map marked_poll) (append_assoc o.past.events (observer.SawNext (o.past.number + 1) (Some z) came ∷ []) (observer.Ack (o.past.number + 1) back ∷ []))
      ∙ map-append marked_poll o.past.events (observer.SawNext (o.past.number + 1) (Some z) came ∷ observer.Ack (o.past.number + 1) back ∷ [])
      ∙ (λ j. map marked_poll o.past.events ++ observer.SawNext ((sym one_more) j) (Some (there j)) ((marks_are (state_at (cycle_frames s) run.states n) (state_at (cycle_frames s) run.states run.current) came new) j)
      ∷ observer.Ack ((sym one_more) j) ((marks_are (state_at (cycle_frames s) run.states run.current) (state_at (cycle_frames s) run.states n) back old) j) ∷ [])
      ∙ ap (λ (l : List (ObserverEvent Item)). map marked_poll o.past.events ++ l) (sym events))
      (ap (λ (w : Watching). w.past.state) takes.2 ∙ there)
      (λ i p at_i. stream_new x.normal x.fast g z came back takes.2 takes.3 takes.4 takes.5 lead (subst (λ (w : FastState). LeadAway w x.normal.tracks) (sym found.0) lead_last) together.normal.tied.sound found.1 found.2
      (lt-ltb o.past.number x.normal.mutator.past.number (let f = finds.number in omega (arith, f, one_more))) (le-ltb n x.normal.mutator.past.number (let f = finds.number in omega (arith, f))) i (told_at run i).stream (d.streams i) (h.tracks i p at_i).stream)

  by_poll : (poll : Poll) (before after : ℕ) → WasPolled o poll g.observer before after → Tells s (with_poll s g.observer.past.number run) d (record x { fast = g })
  by_poll Nothing before after was = by_same was.1
  by_poll Same before after was = by_same was.1
  by_poll (New number) before after was = by_new was.1.0 was.1.1

  -- after the poll the run with it tells the session, if the mixer wasn't over
  pub polled_told : is_over x.fast ≡ false → Tells s (with_poll s g.observer.past.number run) d (record x { fast = g })
  polled_told on = let p = adopts.polls on in by_poll p.0 p.1 p.2 p.3
