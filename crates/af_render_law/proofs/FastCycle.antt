-- A cycle of the fast mixer is told once it is known that each front that a server saw is its own.
use Rattle.std.proofs.Common.{List, None, [], ap, arith, false, length, subst, sym, ℕ, ◌++◌, ◌<◌, ◌∙◌, ◌∷◌, ◌≡◌}
use Rattle.af_render_law.proofs.Common.{AreSmall, AreTogether, Cycle, CycleEntry, Deeds, EntrySeen, Frame, HasStateHistory, InStep, IsCycle, IsMarkedRun, LeadAway, Leaves, LegalEntry, Links, Marks, MixerState, MixesAreTold, Observes, Polls, Run, SawOwnBy, SawOwnOf, SeesOwn, ServerState, Session, SessionState, StreamNames, Tells, Track, adds, cycle_alone, deeds_met, entry_told, held_slot, is_over, met_marked, mix_marked, poll_marked, same_frames, same_last, client_side, slot_for, small_told, still_on, tame_marks, told_at, with_mix, with_poll}
use Rattle.af_runs.specs.Runs as run_of
use Rattle.af_render_law.proofs.OwnKept.{ToldBy, mixed_many, mixed_same, saw_met, saw_now, saw_polled, saw_sides}
use Rattle.af_render_law.proofs.IdlePoll.{IsBetween, between_met, caught_met}
use Rattle.af_told_law.proofs.PollFinds.{poll_met}
use Rattle.af_told_law.proofs.PipeFront.{took_counted}

-- a mix changes nothing of what stands between two turns
pub between_mixed : (x : SessionState) (g : MixerState) → g.observer.past ≡ x.fast.observer.past → IsBetween x → IsBetween (record x { fast = g })
between_mixed x g same h = record {
  step = subst (InStep x.normal.mutator.past) (sym same) h.step;
  history = subst (λ (p : Polls ServerState StreamNames). HasStateHistory x.normal.mutator.past.first x.normal.mutator.past.events p.events) (sym same) h.history;
  state = subst (λ (p : Polls ServerState StreamNames). LeadAway p.state x.normal.tracks) (sym same) h.state;
  last = h.last;
}

module _ (s : Session) (run : Run) (x next : SessionState) (out out' : List Frame) (answer : Cycle) (c : IsCycle x out answer next out') (h : ToldBy s run x) (between : IsBetween x) (marks : Marks) (tame : IsMarkedRun marks run) (on : is_over x.fast ≡ false) where
  abbrev links : Links
  links = c.together.links

  -- the run after the poll and the meetings
  abbrev pub then_met : Run
  then_met = run_of.met s (with_poll s c.polled.observer.past.number run)

  -- what the servers did up to the meetings, and that each front seen is a server's own
  abbrev met_deeds : Deeds
  met_deeds = deeds_met s (with_poll s c.polled.observer.past.number run) h.deeds

  met_saw : SawOwnBy (tame_marks then_met) then_met met_deeds
  met_saw = saw_met s (with_poll s c.polled.observer.past.number run) h.deeds (saw_polled s c.polled.observer.past.number run h.deeds h.saw)

  pub met_told : Tells s then_met met_deeds c.met
  met_told = (poll_met links s run x c.polled c.met h.told c.together.before c.together.turned c.together.met between.state between.last between.step between.history on c.adopts c.meets).0

  pub met_between : IsBetween c.met
  met_between = between_met links x c.polled c.met c.together.met c.adopts on c.meets between

  pub then_tame : IsMarkedRun marks then_met
  then_tame = met_marked marks s (with_poll s c.polled.observer.past.number run) (poll_marked marks s c.polled.observer.past.number run tame)

  same_past : next.fast.observer.past ≡ c.met.fast.observer.past
  same_past = ap (λ (o : Observes ServerState StreamNames). o.past) (adds x next out out' answer c on).2.takes.observer

  -- what stands after the mix
  pub next_between : IsBetween next
  next_between = subst IsBetween (sym c.others) (between_mixed c.met next.fast same_past met_between)

  pub next_caught : next.fast.observer.past.number ≡ next.normal.mutator.past.number
  next_caught = ap (λ (p : Polls ServerState StreamNames). p.number) same_past ∙ caught_met links x c.polled c.met c.together.met c.adopts on c.meets between ∙ sym (ap (λ (z : SessionState). z.normal.mutator.past.number) c.others)

  pub next_small : AreSmall next
  next_small = let t = small_told s then_met c.met met_told (λ i low. (then_tame i low).few) in subst AreSmall (sym c.others) (record { streams = t.streams; commands = t.commands })

  -- the entry that the cycle added
  abbrev pub entry : CycleEntry
  entry = (adds x next out out' answer c on).0

  abbrev pub seen : EntrySeen
  seen = entry_told next.fast.log.frames (length x.fast.log.frames) entry

  -- the state of the entry is the one polled
  pub state_is : c.polled.observer.past.number ≡ entry.state
  state_is = sym (ap (λ (f : MixerState). f.observer.past.number) c.meets.ends.fast) ∙ sym (adds x next out out' answer c on).2.state

  run_is : then_met ≡ run_of.met s (with_poll s entry.state run)
  run_is = ap (λ (n : ℕ). run_of.met s (with_poll s n run)) state_is

  module _ (mixes : MixesAreTold s) (own : SeesOwn next) where
    -- the session after the mix, and its entry
    abbrev mixing : SessionState
    mixing = record c.met { fast = next.fast }

    abbrev seen_by : CycleEntry → EntrySeen
    seen_by e = entry_told next.fast.log.frames (length c.met.fast.log.frames) e

    together : AreTogether links mixing
    together = subst (AreTogether links) c.others c.mixed

    mixed : (e : CycleEntry) × (answer ≡ e.cycle) × (next.fast.log.entries ≡ c.met.fast.log.entries ++ e ∷ []) × (left : Leaves s met_deeds (with_mix s (seen_by e) then_met) mixing)
        × ((i : ℕ) → held_slot c.met.fast i ≡ None → left.deeds.streams i ≡ met_deeds.streams i) × ((marks : Marks) → SawOwnBy marks then_met left.deeds → LegalEntry s marks then_met (seen_by e))
    mixed = mixes links then_met met_deeds c.met next.fast out answer out' c.together.met together met_between.state (still_on x next out out' answer c on) c.mixes c.sizes c.meets.ends.histories.queue
        (took_counted c.met.fast c.met.normal.pipe.pass.part.events c.met.normal.pipe.pass.part.frames c.meets.ends.histories.pipe) own.pipe met_told

    abbrev now : Run
    now = with_mix s (seen_by mixed.0) then_met

    -- the mix leaves the clients' sides
    same_sides : (i : ℕ) → i < length then_met.tracks → (client_side (told_at now i).stream ≡ client_side (told_at then_met i).stream) × (client_side (told_at now i).commands ≡ client_side (told_at then_met i).commands)
    same_sides i low = let same = mixed_same s (seen_by mixed.0) then_met i low in (ap (λ (y : Track). y.stream) same, ap (λ (y : Track). y.commands) same)

    -- each front seen up to here is a server's own: of a proxy that isn't held nothing more is told
    now_saw : SawOwnBy (tame_marks now) now mixed.3.deeds
    now_saw = saw_now links s now mixing together mixed.3.told (subst SeesOwn c.others own)
        (λ i low gone none tame. subst (SawOwnOf (told_at now i).stream.shape) (sym (mixed.4 i (ap (λ (p : Polls ServerState StreamNames). slot_for p.state i) (sym same_past) ∙ none)))
        ((saw_sides then_met now met_deeds (mixed_many s (seen_by mixed.0) then_met) same_sides met_saw).streams i low tame))

    then_saw : SawOwnBy marks then_met mixed.3.deeds
    then_saw =
        let many = mixed_many s (seen_by mixed.0) then_met in
        let same : (i : ℕ) → i < length now.tracks → (client_side (told_at then_met i).stream ≡ client_side (told_at now i).stream) × (client_side (told_at then_met i).commands ≡ client_side (told_at now i).commands) =
        (λ i low. let both = same_sides i (omega (arith, low, many)) in (sym both.0, sym both.1)) in
        let saw = saw_sides now then_met mixed.3.deeds (sym many) same now_saw in
        record { streams = (λ i low on. saw.streams i low ((then_tame i low).stream on)); commands = (λ i low on. saw.commands i low ((then_tame i low).commands on)) }

    same_entry : mixed.0 ≡ entry
    same_entry = same_last c.met.fast.log.entries mixed.0 entry (sym mixed.2 ∙ (adds x next out out' answer c on).2.entries)

    seen_is : entry_told next.fast.log.frames (length c.met.fast.log.frames) mixed.0 ≡ seen
    seen_is = λ j. entry_told next.fast.log.frames (length ((same_frames x next out out' answer c on) j)) (same_entry j)

    -- the cycle is legal, and told
    pub cycle_legal : LegalEntry s marks (run_of.met s (with_poll s entry.state run)) seen
    cycle_legal = subst (λ (y : Run × EntrySeen). LegalEntry s marks y.0 y.1) (λ j. (run_is j, seen_is j)) (mixed.5 marks then_saw)

    pub cycle_told : ToldBy s (cycle_alone s run seen) next
    cycle_told = subst (λ (y : Run × EntrySeen × SessionState). ToldBy s (with_mix s y.1 y.0) y.2) (λ j. (run_is j, seen_is j, sym c.others j)) (record { deeds = mixed.3.deeds; told = mixed.3.told; saw = now_saw })

    pub cycle_tame : IsMarkedRun marks (cycle_alone s run seen)
    cycle_tame = mix_marked marks s seen (run_of.met s (with_poll s entry.state run)) (subst (IsMarkedRun marks) run_is then_tame)
