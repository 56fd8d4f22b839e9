-- The cycles of the fast mixer spare each track whose client has not poked, if the proxies held for it are not shut in the end.
use Rattle.std.proofs.Common.{◌≡◌, ℕ, zero, suc, ◌<◌, ◌==◌, ◌||◌, ◌⊎◌, inl, inr, ⊎_elim, Bool, true, false, List, [], ◌∷◌, ◌++◌, length, slice_get, Option, Some, None, refl, sym, ap, subst, ◌∙◌, eqb-true}
use Rattle.af_parties_law.proofs.Common.{AddsCycle, ClientState, Cycle, CycleEntry, EntryUsed, FastState, HandSide, IsCycle, IsFastTurn, ItemStays, Links, Made, MeetsAway, Met, MixerState, NormalKept, NormalState, Observes, PartyState, Polls, ServerState, SessionState, Shown, Spot, SpotMet, StreamNames, Writes, WritesCycle, at, both_true, carries, client_made, cycle_sizes, cycle_whole, is_mixed, is_over, item_at, kept_of, list_all, list_all-append, none-some, proxies_of, same_Some, server_kept_of, shown_added, shown_adopted, shown_at, shown_met, shown_still, slot_for, slot_is, slot_of, spot_of, stream_at}
use Rattle.af_parties_law.specs.Hostile.{is_spared_in_entry}
use Rattle.af_render_law.proofs.FastCycle.{between_mixed}
use Rattle.af_render_law.proofs.IdlePoll.{IsBetween, between_after, between_met, caught_met, same_found}
use Rattle.af_tally.specs.Sound.{IsWhole}
use Rattle.af_parties_law.proofs.EntrySpared.{AreUnshut, entry_spares, unshut_before}
use Rattle.af_parties_law.proofs.OpenCalls.{IsTame}
use Rattle.af_told_law.proofs.MetOpen.{clients_met, knows_kept, party_met}

-- the entries of a log with the states that they used
abbrev pub entries_at : FastState → MixerState → List EntryUsed
entries_at first m = (shown_at first 0 [] m).entries

-- all entries of the mixer's log spare the track
abbrev pub EntriesSpare : MixerState → ℕ → Type 0
EntriesSpare m i = (first : FastState) → list_all (is_spared_in_entry i) (entries_at first m) ≡ true

-- ## An item through the meetings

-- a proxy that learnt something, perhaps, says what shut it as it did before
abbrev SameShut : ServerState → ServerState → Type 0
SameShut s t = (server_kept_of t.pass.part).shut ≡ (server_kept_of s.pass.part).shut

module _ (a b : SessionState) (met : Met a b) (k : ℕ) (s : ServerState) (held : at a.fast.observer.items k ≡ Some s) where
  abbrev x : FastState
  x = a.fast.observer.past.state

  abbrev Kept : Type 0
  Kept = (t : ServerState) × (at b.fast.observer.items k ≡ Some t) × SameShut s t

  stays_same : at b.fast.observer.items k ≡ at a.fast.observer.items k → Kept
  stays_same e = (s, e ∙ held, refl)

  module _ (i : ℕ) (found : slot_for x i ≡ Some k) where
    abbrev before : Spot
    before = spot_of x (proxies_of a.normal a.fast) i

    abbrev after : Spot
    after = spot_of x (proxies_of b.normal b.fast) i

    was_held : before.held ≡ Some s
    was_held = ap (item_at a.fast.observer.items) found ∙ held

    is_held : after.held ≡ at b.fast.observer.items k
    is_held = ap (item_at b.fast.observer.items) found

    by_away : (block : Made) (o : Option ServerState) (h g : HandSide) (c d : ClientState) → o ≡ Some s → MeetsAway block o h c after.held g d → Kept
    by_away block None h g c d is m = absurd (none-some s is)
    by_away block (Some u) h g c d is m =
        let same : u ≡ s = same_Some u s is in
        (m.0, sym is_held ∙ m.1, ap (λ (y : ServerState). (server_kept_of y.pass.part).shut) m.2.server ∙ knows_kept u (length c.pass.part.events) ∙ ap (λ (y : ServerState). (server_kept_of y.pass.part).shut) same)

    by_stream : (block : Made) (o : Option ServerState) (c d : ClientState) → SpotMet block o before c after d → Kept
    by_stream block None c d m = by_away block before.held m.hand m.hand' c d was_held m.met
    by_stream block (Some u) c d m = stays_same (sym is_held ∙ m.1 ∙ ap (item_at a.fast.observer.items) found)

  -- the client of the slot's track is there
  module _ (i : ℕ) (track : (slot_of x k).track ≡ i) (q : PartyState) (there : slice_get b.clients i ≡ Some q) where
    by_item : ItemStays x (length a.clients) a.fast.observer.items b.fast.observer.items k → Kept
    by_item (inl same) = stays_same same
    by_item (inr (j, lt, found)) =
        let e : j ≡ i = sym (slot_is x j k found).2 ∙ track in
        let here : slot_for x i ≡ Some k = ap (slot_for x) (sym e) ∙ found in
        let was = clients_met a b met i q there in
        by_stream i here (client_made was.0.stream.pass) (stream_at a.normal.streams i) was.0.stream q.stream was.2.streamed

    pub met_item : Kept
    met_item = by_item (met.tracks.items k)

-- if the proxies held for a track are not shut after the meetings, they weren't before the meetings
pub unshut_met : (a b : SessionState) → Met a b → (i : ℕ) (q : PartyState) → slice_get b.clients i ≡ Some q → AreUnshut i b.fast → AreUnshut i a.fast
unshut_met a b met i q there unshut k s lt on track held =
    let item = met_item a b met k s held i track q there in
    let same : b.fast.observer.past.state ≡ a.fast.observer.past.state = ap (λ (m : MixerState). m.observer.past.state) met.ends.fast in
    sym item.2 ∙ unshut k item.0 lt (ap (λ (y : FastState). carries y k) same ∙ on) (ap (λ (y : FastState). (slot_of y k).track) same ∙ track) item.1

-- ## A cycle

-- the clients that have not poked find their tracks spared so far
abbrev pub FreeAt : SessionState → Type 0
FreeAt s = (i : ℕ) (p : PartyState) → slice_get s.clients i ≡ Some p → IsTame p → EntriesSpare s.fast i

-- the clients that have not poked find their tracks spared so far, if the proxies held for them are not shut
abbrev pub FreeIf : SessionState → Type 0
FreeIf s = (i : ℕ) (p : PartyState) → slice_get s.clients i ≡ Some p → IsTame p → AreUnshut i s.fast → EntriesSpare s.fast i

-- Within a turn of the fast mixer: the ends of the queue are in step, and its states lead away. The tracks are spared; or the observer has polled all, and the tracks whose proxies are not shut are spared
pub record Goes (kept : NormalKept) (s : SessionState) : Type 0 where
  pub between : IsBetween s
  pub same : kept_of s.normal ≡ kept
  pub whole : IsWhole s.fast.log
  pub spares : FreeAt s ⊎ ((s.fast.observer.past.number ≡ s.normal.mutator.past.number) × FreeIf s)

module _ (kept : NormalKept) (s next : SessionState) (answer : Cycle) (bytes : List ℕ) (w : WritesCycle s answer bytes next) (goes : Goes kept s) where
  abbrev cycle : IsCycle s w.before answer next w.after
  cycle = w.cycle

  abbrev links : Links
  links = cycle.together.links

  abbrev polled : SessionState
  polled = record s { fast = w.cycle.polled }

  abbrev met : SessionState
  met = w.cycle.met

  same_over : is_over met.fast ≡ is_over s.fast
  same_over = ap is_over cycle.meets.ends.fast ∙ ap is_over cycle.adopts.same

  -- a client that is there afterwards was there before
  client_before : (i : ℕ) (q : PartyState) → slice_get next.clients i ≡ Some q → (slice_get met.clients i ≡ Some q) × ((p : PartyState) × (slice_get s.clients i ≡ Some p) × (IsTame q → IsTame p))
  client_before i q is =
      let here : slice_get met.clients i ≡ Some q = ap (λ (x : SessionState). slice_get x.clients i) (sym cycle.others) ∙ is in
      let was = clients_met polled met cycle.meets i q here in
      let known = party_met _ _ was.0 q was.2 in
      (here, (was.0, was.1, λ tame. (known.stream.before tame.0, known.command.before tame.1)))

  -- the entries are the same after the poll and the meetings
  entries_met : (first : FastState) → entries_at first met.fast ≡ entries_at first s.fast
  entries_met first =
      ap (λ (run : Shown). run.entries) (shown_met first 0 [] polled met cycle.order.0 cycle.meets)
      ∙ ap (λ (run : Shown). run.entries) (shown_adopted first 0 [] s.fast w.cycle.polled cycle.together.before.fast.0 cycle.adopts)

  frames_met : met.fast.frames ≡ s.fast.frames
  frames_met = sym cycle.sizes.0 ∙ (cycle_sizes s next w.before w.after answer cycle).0

  pushed_on : next.normal.mutator.past.number ≡ s.normal.mutator.past.number
  pushed_on = ap (λ (x : SessionState). x.normal.mutator.past.number) cycle.others ∙ ap (λ (m : NormalState). m.mutator.past.number) cycle.meets.ends.normal

  -- what goes on in a cycle, but for what it spared
  module _ (past : next.fast.observer.past ≡ met.fast.observer.past) (between : IsBetween met) (spares : FreeAt next ⊎ ((next.fast.observer.past.number ≡ next.normal.mutator.past.number) × FreeIf next)) where
    all_goes : Goes kept next
    all_goes = record {
      between = subst IsBetween (sym cycle.others) (between_mixed met next.fast past between);
      same = ap (λ (x : SessionState). kept_of x.normal) cycle.others ∙ ap kept_of cycle.meets.ends.normal ∙ goes.same;
      whole = cycle_whole s next answer bytes goes.whole w;
      spares = spares;
    }

  -- ## No state was polled, and no entry added
  module _ (over : is_over s.fast ≡ true) where
    rested : w.cycle.polled ≡ record s.fast { adopted = true }
    rested = cycle.adopts.rests over

    still : next.fast ≡ record met.fast { adopted = false }
    still = by_exit met.fast.exited refl
      where
        by_exit : (b : Bool) → met.fast.exited ≡ b → next.fast ≡ record met.fast { adopted = false }
        by_exit true exited = (cycle.mixes.exited exited).1
        by_exit false runs = (cycle.mixes.spent runs (eqb-true (length met.fast.log.entries) met.fast.cycles (sym (ap (λ (b : Bool). b || (length met.fast.log.entries == met.fast.cycles)) runs) ∙ same_over ∙ over))).1

    same_past : next.fast.observer.past ≡ met.fast.observer.past
    same_past = ap (λ (m : MixerState). m.observer.past) still

    same_entries : (first : FastState) → entries_at first next.fast ≡ entries_at first s.fast
    same_entries first = ap (λ (run : Shown). run.entries) (shown_still first 0 [] met.fast next.fast still) ∙ entries_met first

    spares_same : (i : ℕ) → EntriesSpare s.fast i → EntriesSpare next.fast i
    spares_same i old first = ap (list_all (is_spared_in_entry i)) (same_entries first) ∙ old first

    unshut_same : (i : ℕ) (q : PartyState) → slice_get met.clients i ≡ Some q → AreUnshut i next.fast → AreUnshut i s.fast
    unshut_same i q is unshut =
        let here : AreUnshut i met.fast = subst (AreUnshut i) still unshut in
        let there : AreUnshut i w.cycle.polled = unshut_met polled met cycle.meets i q is here in
        subst (AreUnshut i) rested there

    number_same : next.fast.observer.past.number ≡ s.fast.observer.past.number
    number_same = ap (λ (o : Polls ServerState StreamNames). o.number) same_past ∙ ap (λ (m : MixerState). m.observer.past.number) cycle.meets.ends.fast ∙ ap (λ (m : MixerState). m.observer.past.number) rested

    rests_on : Goes kept next
    rests_on = all_goes same_past
        (between_after links polled met cycle.together.met cycle.meets (between_mixed s w.cycle.polled (ap (λ (m : MixerState). m.observer.past) rested) goes.between))
        (⊎_elim
        (λ (free : FreeAt s). inl (λ i q is tame. let was = client_before i q is in spares_same i (free i was.1.0 was.1.1 (was.1.2 tame))))
        (λ (h : (s.fast.observer.past.number ≡ s.normal.mutator.past.number) × FreeIf s). inr (number_same ∙ h.0 ∙ sym pushed_on, λ i q is tame unshut. let was = client_before i q is in spares_same i (h.1 i was.1.0 was.1.1 (was.1.2 tame) (unshut_same i q was.0 unshut))))
        goes.spares)

  -- ## A state was polled for, and an entry added
  module _ (runs : is_over s.fast ≡ false) where
    adds : (entry : CycleEntry) × (answer ≡ entry.cycle) × AddsCycle met.fast next.fast entry × Writes next.fast entry w.before w.after
    adds = cycle.mixes.adds (same_over ∙ runs)

    added_past : next.fast.observer.past ≡ met.fast.observer.past
    added_past = ap (λ (o : Observes ServerState StreamNames). o.past) adds.2.takes.observer

    number_all : next.fast.observer.past.number ≡ next.normal.mutator.past.number
    number_all = ap (λ (o : Polls ServerState StreamNames). o.number) added_past ∙ caught_met links s w.cycle.polled met cycle.together.met cycle.adopts runs cycle.meets goes.between ∙ sym (ap (λ (x : SessionState). x.normal.mutator.past.number) cycle.others)

    entries_more : (first : FastState) → entries_at first next.fast ≡ entries_at first s.fast ++ record { entry = adds.0; state = next.fast.observer.current } ∷ []
    entries_more first =
        ap (λ (run : Shown). run.entries) (shown_added first 0 [] met.fast next.fast adds.0 w.before w.after cycle.order.1 whole_met (w.long ∙ sym frames_met) cycle.sizes.0 adds.2 adds.3)
        ∙ ap (λ (used : List EntryUsed). used ++ record { entry = adds.0; state = next.fast.observer.current } ∷ []) (entries_met first)
      where
        whole_met : IsWhole met.fast.log
        whole_met = subst IsWhole (sym (ap (λ (m : MixerState). m.log) cycle.meets.ends.fast ∙ ap (λ (m : MixerState). m.log) cycle.adopts.same)) goes.whole

    -- if the proxies held for a track are not shut, the entry spares it, and the proxies weren't shut before the cycle
    module _ (i : ℕ) (unshut : AreUnshut i next.fast) where
      spares_one : is_spared_in_entry i (record { entry = adds.0; state = next.fast.observer.current }) ≡ true
      spares_one = let names = cycle.together.met.fast.1.names in entry_spares met.fast next.fast adds.0 adds.2 cycle.order.1 cycle.order.2 names.0 names.1 i unshut

      spares_more : EntriesSpare s.fast i → EntriesSpare next.fast i
      spares_more old first =
          ap (list_all (is_spared_in_entry i)) (entries_more first)
          ∙ list_all-append (is_spared_in_entry i) (entries_at first s.fast) (record { entry = adds.0; state = next.fast.observer.current } ∷ [])
          ∙ both_true (list_all (is_spared_in_entry i) (entries_at first s.fast)) _ (old first) (both_true (is_spared_in_entry i (record { entry = adds.0; state = next.fast.observer.current })) true spares_one refl)

      unshut_polled : (q : PartyState) → slice_get met.clients i ≡ Some q → AreUnshut i w.cycle.polled
      unshut_polled q is = let names = cycle.together.met.fast.1.names in
          unshut_met polled met cycle.meets i q is (unshut_before met.fast next.fast adds.0 adds.2 cycle.order.1 cycle.order.2 names.0 names.1 i unshut)

    free_if : FreeIf next
    free_if i q is tame unshut =
        let was = client_before i q is in
        ⊎_elim
        (λ (free : FreeAt s). spares_more i unshut (free i was.1.0 was.1.1 (was.1.2 tame)))
        (λ (h : (s.fast.observer.past.number ≡ s.normal.mutator.past.number) × FreeIf s).
        let same = same_found links s w.cycle.polled met cycle.together.met cycle.adopts runs cycle.meets goes.between h.0 in
        let before : AreUnshut i s.fast = (λ k t lt on track held. unshut_polled i unshut q was.0 k t lt
        (ap (λ (o : Observes ServerState StreamNames). carries o.past.state k) same ∙ on) (ap (λ (o : Observes ServerState StreamNames). (slot_of o.past.state k).track) same ∙ track) (ap (λ (o : Observes ServerState StreamNames). at o.items k) same ∙ held)) in
        spares_more i unshut (h.1 i was.1.0 was.1.1 (was.1.2 tame) before))
        goes.spares

    adds_on : Goes kept next
    adds_on = all_goes added_past (between_met links s w.cycle.polled met cycle.together.met cycle.adopts runs cycle.meets goes.between) (inr (number_all, free_if))

  by_over : (b : Bool) → is_over s.fast ≡ b → Goes kept next
  by_over true over = rests_on over
  by_over false runs = adds_on runs

  -- a cycle goes on
  pub cycle_goes : Goes kept next
  cycle_goes = by_over (is_over s.fast) refl

-- ## A turn

turn_rest : (kept : NormalKept) (b : Bool) (next t : SessionState) (more : Type 0) (back : List ℕ) → (b ≡ true → more) → (b ≡ false → (back ≡ []) × (t ≡ next)) → (more → Goes kept t) → Goes kept next → Goes kept t
turn_rest kept true next t more back on off then goes = then (on refl)
turn_rest kept false next t more back on off then goes = subst (Goes kept) (sym (off refl).1) goes

pub turn_goes : (kept : NormalKept) (count : ℕ) (s : SessionState) (bytes : List ℕ) (t : SessionState) → IsFastTurn count s bytes t → Goes kept s → Goes kept t
turn_goes kept zero s bytes t turn goes = subst (Goes kept) (sym turn.1) goes
turn_goes kept (suc left) s bytes t turn goes =
    let next : Goes kept turn.1 = cycle_goes kept s turn.1 turn.0 turn.2 turn.4 goes in
    turn_rest kept (is_mixed turn.0) turn.1 t (IsFastTurn left turn.1 turn.3 t) turn.3 turn.6 turn.7 (λ more. turn_goes kept left turn.1 turn.3 t more next) next
