-- The entry that a cycle adds is a legal one, and what it says was done.
use Rattle.std.proofs.Common.{◌≡◌, ℕ, zero, suc, ◌+◌, ◌-◌, ◌*◌, ◌<◌, ◌≤◌, ◌==◌, eq-eqb, fold, Bool, true, false, true≢false, List, [], ◌∷◌, ◌++◌, length, Option, Some, None, refl, sym, ap, subst, ◌∙◌, append-nil, length-append, if◌then◌else◌, arith}
use Rattle.af_fast.proofs.Common.{CycleEntry, FastState, Frame, InOrder, IsNextReport, Mixes, SlotReport, Store, add-zero, cycle_of, entry_at, is_mixed, neither, no_state, report_at, slot_report, slots, some_same, state_of, still_entry, suc-mul, taken_before}
use Rattle.af_base.specs.declared.log.Cycle.{Cycle}
use Rattle.af_base.specs.declared.log.Cycle.TheVariants as cycle
use Rattle.af_fast.specs.Fits.{stream_fits}
use Rattle.af_fast.specs.Known.{known}
use Rattle.af_fast.specs.Mixer.{MixerState, IsInOrderAfter, AreFew, adopted_states, all_entries, is_over, most_entries}
use Rattle.af_fast.specs.Mixing.{StoresReport, notes, AddsCycleAfter, Takes, Writes, MixesOnceAfter}
use Rattle.af_fast.specs.Slots.{PlaysSlots, found}
use Rattle.af_fast.proofs.LentState.{none_now}
use Rattle.af_fast.proofs.SlotsDone.{taken_few}
use Rattle.af_fast.proofs.Noted.{IsPlayed, now, is_now, noted_order}

pub mixed_is : (c : Cycle) → is_mixed c ≡ true → c ≡ cycle.Mixed
mixed_is cycle.Mixed e = refl
mixed_is _ e = absurd (true≢false (sym e))

still_runs : (m : MixerState) → is_over m ≡ false → m.exited ≡ false
still_runs m goes = (neither m.exited (length m.log.entries == m.cycles) goes).0

pub log_open : {earlier : List CycleEntry} (m : MixerState) → IsInOrderAfter earlier m → is_over m ≡ false → length m.log.entries < m.cycles
log_open m k goes =
    let apart : length m.log.entries ≡ m.cycles → ⊥ = (λ e. true≢false (sym (eq-eqb (length m.log.entries) m.cycles e) ∙ (neither m.exited (length m.log.entries == m.cycles) goes).1)) in
    omega (arith, apart, k.room.entries)

module _ (earlier : List CycleEntry) (m n l : MixerState) (entry : CycleEntry) (k : IsInOrderAfter earlier m) (open_log : length m.log.entries < m.cycles) (runs : m.exited ≡ false) (played : IsPlayed m n)
    (state : entry.state ≡ m.observer.past.number) (noted : l ≡ notes m.observer.current entry l.writer l.reports n) (r : StoresReport m.observer.current entry n l) (what : entry.cycle ≡ cycle_of m.cold m.observer.current) where
  abbrev all : List CycleEntry
  all = all_entries earlier m

  abbrev xs : List FastState
  xs = adopted_states m

  abbrev after : MixerState
  after = now earlier m n l entry k open_log runs played state noted r

  current_is : state_of xs entry.state ≡ m.observer.current
  current_is = ap (state_of xs) state ∙ k.observer.told.current no_state

  next_report : IsNextReport m.frames xs all entry (known n.observer) m.reports r.report
  next_report = record {
    number = r.number ∙ ap (λ (y : MixerState). y.count + 1) played.same ∙ ap (λ c. c + 1) k.forgotten.counted;
    whole = ap length r.slots_are ∙ r.whole;
    each = (λ i lt. ap (λ (rs : List SlotReport). report_at rs i) r.slots_are ∙ r.each i lt
        ∙ ap (λ (y : ℕ × Option FastState × Option FastState × SlotReport). slot_report y.0 y.1 y.2 entry (known n.observer i) i y.3)
        (λ j. (ap (λ (y : MixerState). y.frames) played.same j, sym current_is j, (ap (λ (y : MixerState). y.last) played.same ∙ k.keeps.last_is) j, ap (λ (y : MixerState). report_at y.reports i) played.same j)));
  }

  -- an entry is added legally, if the slots did what it says
  adds : ((x : FastState) → m.observer.current ≡ Some x → is_mixed entry.cycle ≡ true → Mixes m.frames x (length m.log.frames) (found m.observer m.pipe) (found n.observer n.pipe) entry)
      → (is_mixed entry.cycle ≡ false → entry ≡ still_entry entry.state entry.cycle) → Takes m after entry → AddsCycleAfter earlier m l entry
  adds mixes still takes = subst (λ (y : MixerState). AddsCycleAfter earlier m y entry) (sym (is_now earlier m n l entry k open_log runs played state noted r)) (record {
    state = state;
    legal = record {
      follows = (omega (arith, state, k.uses.low), omega (arith, state, k.uses.high));
      pushed = omega (arith, state, k.observer.told.counted no_state);
      runs = sym k.keeps.exited_is ∙ runs;
      what = what ∙ ap (λ (y : ℕ × Option FastState). cycle_of y.0 y.1) (λ i. (k.keeps.cold_is i, sym current_is i));
      still = still;
      mixes = (λ x is mixed. mixes x (sym current_is ∙ is) mixed);
    };
    entries = refl;
    takes = takes;
    report = (r.report, r.stored ∙ ap (λ (y : MixerState). y.writer.events ++ Store r.report ∷ []) played.same, next_report);
  })

  -- an entry that mixes is added legally
  pub adds_mix : (x : FastState) → m.observer.current ≡ Some x → PlaysSlots m.frames m.observer.past.number x m.observer n.observer m.pipe n.pipe m.log.frames n.log.frames entry → AddsCycleAfter earlier m l entry
  adds_mix x is p =
      let same : (y : FastState) → m.observer.current ≡ Some y → x ≡ y = (λ y is'. some_same x y (sym is ∙ is')) in
      adds
      (λ y is' mixed. subst (λ (z : FastState). Mixes m.frames z (length m.log.frames) (found m.observer m.pipe) (found n.observer n.pipe) entry) (same y is') p.mixes)
      (λ dry. absurd (true≢false (sym p.mixed ∙ dry)))
      (record {
        observer = p.same;
        grown = p.grown;
        total = p.total;
        still = (λ dry. absurd (true≢false (sym p.mixed ∙ dry)));
        piped = (λ yes'. p.piped);
        tracks = (λ yes' y is' i lt on. p.tracks i lt (subst (λ (z : FastState). Rattle.af_model.specs.StateQueue.carries z i ≡ true) (sym (same y is')) on));
      })

  -- an entry that mixes nothing is added legally
  pub adds_still : is_mixed entry.cycle ≡ false → entry ≡ still_entry entry.state entry.cycle → n ≡ record m { adopted = false } → AddsCycleAfter earlier m l entry
  adds_still dry is rests =
      let taken : taken_before entry slots ≡ 0 = ap (λ (e : CycleEntry). taken_before e slots) is in
      adds
      (λ x is' mixed. absurd (true≢false (sym mixed ∙ dry)))
      (λ _. is)
      (record {
        observer = played.observer;
        grown = ([], ap (λ (y : MixerState). y.log.frames) rests ∙ sym (append-nil m.log.frames));
        total = ap (λ (y : MixerState). length y.log.frames) rests ∙ sym (add-zero (length m.log.frames)) ∙ ap (λ a. length m.log.frames + a) (sym taken);
        still = (λ _. (ap (λ (y : MixerState). y.observer) rests, ap (λ (y : MixerState). y.pipe) rests));
        piped = (λ mixed. absurd (true≢false (sym mixed ∙ dry)));
        tracks = (λ mixed. absurd (true≢false (sym mixed ∙ dry)));
      })

-- what a call of mix comes to, if an entry is added
abbrev pub Comes : List CycleEntry → MixerState → MixerState → Cycle → CycleEntry → Type 0
Comes earlier m l answer entry = IsInOrderAfter earlier l × (answer ≡ entry.cycle) × AddsCycleAfter earlier m l entry

-- a cycle that mixes comes to its entry
pub mix_step : (earlier : List CycleEntry) (m n l : MixerState) (entry : CycleEntry) (x : FastState) (answer : Cycle) → IsInOrderAfter earlier m → is_over m ≡ false → m.observer.current ≡ Some x → answer ≡ cycle_of m.cold (Some x) → is_mixed answer ≡ true
    → n ≡ record m { adopted = false; observer = n.observer; pipe = n.pipe; log = n.log } → InOrder stream_fits n.observer → (n.log.entries ≡ m.log.entries) × (n.log.room ≡ m.log.room) × (m.log.frame_room ≤ n.log.frame_room)
    → PlaysSlots m.frames m.observer.past.number x m.observer n.observer m.pipe n.pipe m.log.frames n.log.frames entry
    → l ≡ notes (Some x) entry l.writer l.reports n → StoresReport (Some x) entry n l → Comes earlier m l answer entry
mix_step earlier m n l entry x answer k goes is answer_is mixed same order log p noted r =
    let open_log : length m.log.entries < m.cycles = log_open m k goes in
    let runs : m.exited ≡ false = still_runs m goes in
    let played : IsPlayed m n = record { same = same; observer = p.same; order = order; entries = log; few = omega (arith, p.total, taken_few m.frames entry slots p.within) } in
    let noted_so = subst (λ (y : Option FastState). l ≡ notes y entry l.writer l.reports n) (sym is) noted in
    let reports = subst (λ (y : Option FastState). StoresReport y entry n l) (sym is) r in
    let cycle_is : answer ≡ entry.cycle = mixed_is answer mixed ∙ sym (mixed_is entry.cycle p.mixed) in (
      noted_order earlier m n l entry k open_log runs played p.state noted_so reports,
      cycle_is,
      adds_mix earlier m n l entry k open_log runs played p.state noted_so reports (sym cycle_is ∙ answer_is ∙ ap (cycle_of m.cold) (sym is)) x is p,
    )

-- a cycle that mixes nothing comes to its entry
pub still_step : (earlier : List CycleEntry) (m l : MixerState) (entry : CycleEntry) (answer : Cycle) → IsInOrderAfter earlier m → is_over m ≡ false → answer ≡ cycle_of m.cold m.observer.current → is_mixed answer ≡ false
    → entry ≡ still_entry m.observer.past.number answer
    → l ≡ notes m.observer.current entry l.writer l.reports (record m { adopted = false }) → StoresReport m.observer.current entry (record m { adopted = false }) l → Comes earlier m l answer entry
still_step earlier m l entry answer k goes answer_is dry is noted r =
    let n : MixerState = record m { adopted = false } in
    let open_log : length m.log.entries < m.cycles = log_open m k goes in
    let runs : m.exited ≡ false = still_runs m goes in
    let played : IsPlayed m n = record { same = refl; observer = refl; order = k.observer; entries = (refl, refl, omega arith); few = omega arith } in
    let state = ap (λ (e : CycleEntry). e.state) is in
    let cycle_is : answer ≡ entry.cycle = sym (ap (λ (e : CycleEntry). e.cycle) is) in
    let still : entry ≡ still_entry entry.state entry.cycle = is ∙ ap (λ (y : ℕ × Cycle). still_entry y.0 y.1) (λ i. (sym state i, cycle_is i)) in (
      noted_order earlier m n l entry k open_log runs played state noted r,
      cycle_is,
      adds_still earlier m n l entry k open_log runs played state noted r (sym cycle_is ∙ answer_is) (ap is_mixed (sym cycle_is) ∙ dry) still refl,
    )

-- an entry was added, so a call of mix does nothing else
pub adds_so : {earlier : List CycleEntry} (m m' : MixerState) (out out' : List Frame) (answer : Cycle) → is_over m ≡ false → (entry : CycleEntry) × (answer ≡ entry.cycle) × AddsCycleAfter earlier m m' entry × Writes m' entry out out'
    → MixesOnceAfter earlier m out answer m' out'
adds_so m m' out out' answer goes added =
    let parts = neither m.exited (length m.log.entries == m.cycles) goes in
    record {
      exited = (λ over. absurd (true≢false (sym over ∙ parts.0)));
      spent = (λ _ full. absurd (true≢false (sym (eq-eqb (length m.log.entries) m.cycles full) ∙ parts.1)));
      adds = (λ _. added);
    }

-- what a mixer that is over answers
abbrev pub over_answer : MixerState → Cycle
over_answer m = if m.exited then cycle.Exit else cycle.Spent m.cycles

-- a mixer that is over answers so, and nothing was done
pub over_so : {earlier : List CycleEntry} (m : MixerState) (out : List Frame) (answer : Cycle) → is_over m ≡ true → answer ≡ over_answer m → MixesOnceAfter earlier m out answer (record m { adopted = false }) out
over_so m out answer over is = record {
  exited = (λ yes. (is ∙ ap (λ (b : Bool). if b then cycle.Exit else cycle.Spent m.cycles) yes, refl, refl));
  spent = (λ no _. (is ∙ ap (λ (b : Bool). if b then cycle.Exit else cycle.Spent m.cycles) no, refl, refl));
  adds = (λ goes. absurd (true≢false (sym over ∙ goes)));
}

-- the reports count no more looks than there are entries
pub few_reports : {earlier : List CycleEntry} (m : MixerState) → IsInOrderAfter earlier m → is_over m ≡ false → AreFew most_entries m.reports
few_reports {earlier} m k goes i lt =
    let few = k.reports.few i lt in
    let long = length-append earlier m.log.entries in
    let open_log = log_open m k goes in
    (omega (arith, few, long, open_log, k.forgotten.most), omega (arith, few, long, open_log, k.forgotten.most), omega (arith, few, long, open_log, k.forgotten.most))

-- one entry more can be counted
pub few_counted : {earlier : List CycleEntry} (m : MixerState) → IsInOrderAfter earlier m → is_over m ≡ false → m.count < most_entries
few_counted {earlier} m k goes = omega (arith, k.forgotten.counted, length-append earlier m.log.entries, log_open m k goes, k.forgotten.most)

-- a log that is open has room for the frames of one cycle
pub room_one : {earlier : List CycleEntry} (m : MixerState) → IsInOrderAfter earlier m → is_over m ≡ false → length m.log.frames + slots * m.frames ≤ m.log.frame_room
room_one m k goes =
    let left : ℕ = m.cycles - (length m.log.entries + 1) in
    let open_log = log_open m k goes in
    let one : (m.cycles - length m.log.entries) * m.frames ≡ left * m.frames + m.frames = ap (λ a. a * m.frames) (let e : m.cycles - length m.log.entries ≡ suc left = omega (arith, open_log) in e) ∙ suc-mul left m.frames in
    omega (arith, k.room.rest, one)

-- before the first state is pushed no state is current
pub none_current : {earlier : List CycleEntry} (m : MixerState) → IsInOrderAfter earlier m → m.observer.past.number ≡ 0 → m.observer.current ≡ None
none_current m k none = none_now m.observer k.observer none

positive : (n : ℕ) → (n ≡ 0 → ⊥) → 0 < n
positive zero never = absurd (never refl)
positive (suc n) never = omega arith

-- a state was adopted if a cycle mixes
pub mixed_some : {earlier : List CycleEntry} (m : MixerState) → IsInOrderAfter earlier m → cycle.Mixed ≡ cycle_of m.cold m.observer.current → 0 < m.observer.past.number
mixed_some m k mixed = positive m.observer.past.number (λ none. true≢false (ap is_mixed (mixed ∙ ap (cycle_of m.cold) (none_current m k none))))

-- the last of some entries is the last one that used a state
last_from : (number : ℕ) (es : List CycleEntry) (n : ℕ) → length es ≡ suc n → fold (λ (number : ℕ) (entry : CycleEntry). entry.state) number es ≡ (entry_at es n).state
last_from number [] n long = absurd (omega (arith, long))
last_from number (e ∷ []) zero long = refl
last_from number (e ∷ []) (suc n) long = absurd (omega (arith, long))
last_from number (e ∷ d ∷ es) zero long = absurd (omega (arith, long))
last_from number (e ∷ d ∷ es) (suc n) long = last_from e.state (d ∷ es) n (omega (arith, long))

last_after : (number : ℕ) (earlier es : List CycleEntry) (n : ℕ) → length es ≡ suc n → fold (λ (number : ℕ) (entry : CycleEntry). entry.state) number (earlier ++ es) ≡ (entry_at es n).state
last_after number [] es n long = last_from number es n long
last_after number (e ∷ earlier) es n long = last_after e.state earlier es n long

-- the state that the last entry used is the current one, if it has its number
pub kept_so : {earlier : List CycleEntry} (m : MixerState) (n : ℕ) (e : CycleEntry) → IsInOrderAfter earlier m → length m.log.entries ≡ suc n → e ≡ entry_at m.log.entries n → e.state ≡ m.observer.past.number → m.last ≡ m.observer.current
kept_so {earlier} m n e k long is same =
    k.keeps.last_is ∙ ap (state_of (adopted_states m)) (last_after 0 earlier m.log.entries n long ∙ ap (λ (y : CycleEntry). y.state) (sym is) ∙ same) ∙ k.observer.told.current no_state
