-- A mixer with one entry more is in order, and the entry is a legal one.
use Rattle.std.proofs.Common.{◌≡◌, ℕ, suc, ◌+◌, ◌-◌, ◌*◌, ◌<◌, ◌≤◌, ◌||◌, Bool, true, false, if◌then◌else◌, List, [], ◌∷◌, ◌++◌, length, replicate, Option, Some, None, refl, sym, ap, subst, ◌∙◌, append_assoc, arith}
use Rattle.af_fast.proofs.Common.{CycleEntry, FastState, InOrder, Observes, Report, Seen, ServerKnown, ServerState, SlotReport, Store, StreamNames, UseUpTo, UseUpTo-more, UseUpTo-push, WriterEvent, carried, carries, cold_done, cold_done-push, cold_of, counted_look, entry_slot, get_or-replicate, has_exit-push, is_cold, is_empty, is_exit, is_full, is_partial, last_of, last_used, last_used-push, length-append, no_report, no_slot, no_state, one_few, polled_states, report_at, slot_of, slot_report, slots, state_of, stores, suc-mul}
use Rattle.af_model.specs.declared.newest.WriterEvent.TheVariants as writes
use Rattle.af_fast.specs.Fits.{stream_fits}
use Rattle.af_fast.specs.Known.{known}
use Rattle.af_fast.specs.Mixer.{MixerState, UsesStates, KeepsEntries, Reported, CarriesNone, IsInOrderAfter, adopted_states, is_over}
use Rattle.af_fast.specs.Mixing.{StoresReport, notes}

last_of-push : (x : Report) (ws : List (WriterEvent Report)) (r : Report) → last_of x (ws ++ Store r ∷ []) ≡ r
last_of-push x [] r = refl
last_of-push x (Store y ∷ ws) r = last_of-push y ws r
last_of-push x (writes.Learn c ∷ ws) r = last_of-push x ws r

stores-push : (ws : List (WriterEvent Report)) (r : Report) → stores (ws ++ Store r ∷ []) ≡ stores ws + 1
stores-push [] r = refl
stores-push (Store y ∷ ws) r = let e = stores-push ws r in omega (arith, e)
stores-push (writes.Learn c ∷ ws) r = stores-push ws r

-- a count grows by one at most
abbrev IsFew : ℕ → SlotReport → Type 0
IsFew bound r = (r.fulls < bound) × (r.partials < bound) × (r.empties < bound)

look_few : (asked generation bound : ℕ) (answer : Seen) (k : ServerKnown) (r : SlotReport) → IsFew bound r → IsFew (bound + 1) (counted_look asked generation answer k r)
look_few asked generation bound answer k r few = (omega (arith, few, one_few (is_full asked answer)), omega (arith, few, one_few (is_partial asked answer)), omega (arith, few, one_few (is_empty answer)))

base_few : (b : Bool) (bound : ℕ) (r : SlotReport) → 0 < bound → IsFew bound r → IsFew bound (if b then r else no_slot)
base_few true bound r some few = few
base_few false bound r some few = (some, some, some)

more_few : (bound : ℕ) (r : SlotReport) → IsFew bound r → IsFew (bound + 1) r
more_few bound r few = (omega (arith, few), omega (arith, few), omega (arith, few))

by_carried : (b : Bool) (asked generation bound : ℕ) (answer : Seen) (k : ServerKnown) (r base : SlotReport) → IsFew bound r → IsFew bound base → IsFew (bound + 1) (if b then counted_look asked generation answer k base else r)
by_carried true asked generation bound answer k r base few few_base = look_few asked generation bound answer k base few_base
by_carried false asked generation bound answer k r base few few_base = more_few bound r few

slot_few : (asked bound : ℕ) (x y : Option FastState) (entry : CycleEntry) (k : ServerKnown) (i : ℕ) (r : SlotReport) → 0 < bound → IsFew bound r → IsFew (bound + 1) (slot_report asked x y entry k i r)
slot_few asked bound None y entry k i r some few = more_few bound r few
slot_few asked bound (Some x) y entry k i r some few =
    by_carried (carries x i) asked (slot_of x i).generation bound (entry_slot entry i).seen k r (if carried y i then r else no_slot) few (base_few (carried y i) bound r some few)

-- what a cycle did before its entry is noted: the frames in the log grew, and the observer and the pipe's end went on
pub record IsPlayed (m n : MixerState) : Type 0 where
  pub same : n ≡ record m { adopted = false; observer = n.observer; pipe = n.pipe; log = n.log }
  pub observer : n.observer ≡ record m.observer { items = n.observer.items }
  pub order : InOrder stream_fits n.observer
  pub entries : (n.log.entries ≡ m.log.entries) × (n.log.room ≡ m.log.room) × (m.log.frame_room ≤ n.log.frame_room)
  pub few : length n.log.frames ≤ length m.log.frames + slots * m.frames

module _ (earlier : List CycleEntry) (m n l : MixerState) (entry : CycleEntry) (k : IsInOrderAfter earlier m) (open_log : length m.log.entries < m.cycles) (runs : m.exited ≡ false) (played : IsPlayed m n)
    (state : entry.state ≡ m.observer.past.number) (noted : l ≡ notes m.observer.current entry l.writer l.reports n) (r : StoresReport m.observer.current entry n l) where
  abbrev es : List CycleEntry
  es = m.log.entries

  -- all entries of the mixer's life
  abbrev all : List CycleEntry
  all = earlier ++ es

  abbrev xs : List FastState
  xs = adopted_states m

  -- the mixer after its entry, by what it was before
  abbrev pub now : MixerState
  now = record m {
    observer = n.observer;
    writer = l.writer;
    pipe = n.pipe;
    log = record n.log { entries = es ++ entry ∷ [] };
    adopted = false;
    exited = is_exit entry.cycle;
    cold = if is_cold entry.cycle then cold_of m.observer.current else m.cold;
    last = m.observer.current;
    count = m.count + 1;
    reports = l.reports;
  }

  pub is_now : l ≡ now
  is_now = noted ∙ ap (λ (y : MixerState). notes m.observer.current entry l.writer l.reports y) played.same ∙ ap (λ (e : List CycleEntry). record now { log = record n.log { entries = e ++ entry ∷ [] } }) played.entries.0

  number_is : n.observer.past.number ≡ m.observer.past.number
  number_is = ap (λ y. y.past.number) played.observer

  states_are : adopted_states now ≡ xs
  states_are = ap (λ y. polled_states no_state y.past.events) played.observer

  used_is : last_used (all ++ entry ∷ []) ≡ m.observer.past.number
  used_is = last_used-push all entry ∙ state

  current_is : state_of xs (last_used (all ++ entry ∷ [])) ≡ m.observer.current
  current_is = ap (state_of xs) used_is ∙ k.observer.told.current no_state

  one_longer : length (es ++ entry ∷ []) ≡ length es + 1
  one_longer = length-append es (entry ∷ [])

  all_longer : length (all ++ entry ∷ []) ≡ length all + 1
  all_longer = length-append all (entry ∷ [])

  -- all entries of the mixer's life, with the one added
  one_more : all ++ entry ∷ [] ≡ earlier ++ (es ++ entry ∷ [])
  one_more = append_assoc earlier es (entry ∷ [])

  less_to_come : (m.cycles - length es) * m.frames ≡ (m.cycles - (length es + 1)) * m.frames + m.frames
  less_to_come = ap (λ a. a * m.frames) (let e : m.cycles - length es ≡ suc (m.cycles - (length es + 1)) = omega arith in e) ∙ suc-mul (m.cycles - (length es + 1)) m.frames

  count_is : n.count ≡ length all
  count_is = ap (λ (y : MixerState). y.count) played.same ∙ k.forgotten.counted

  uses_now : UsesStates n.observer.past.number (all ++ entry ∷ []) false (is_over now)
  uses_now = record {
    used = subst (λ a. UseUpTo a (all ++ entry ∷ [])) (sym used_is)
        (UseUpTo-push m.observer.past.number all entry (UseUpTo-more (last_used all) m.observer.past.number all k.uses.low k.uses.used) (omega (arith, state)));
    low = omega (arith, used_is, number_is);
    high = omega (arith, used_is, number_is);
    still = (λ _. number_is ∙ sym used_is);
    ended = (λ _. number_is ∙ sym used_is);
    few = omega (arith, used_is, all_longer, k.uses.high, k.uses.few);
  }

  keeps_now : KeepsEntries (adopted_states now) (all ++ entry ∷ []) now.exited now.cold now.last
  keeps_now = record {
    exited_is = sym (has_exit-push all entry ∙ ap (λ b. b || is_exit entry.cycle) (sym k.keeps.exited_is ∙ runs));
    cold_is = sym (ap (λ (y : List FastState). cold_done y (all ++ entry ∷ [])) states_are ∙ cold_done-push xs all entry
        ∙ ap (λ (y : Option FastState × ℕ). if is_cold entry.cycle then cold_of y.0 else y.1) (λ i. ((ap (state_of xs) state ∙ k.observer.told.current no_state) i, sym k.keeps.cold_is i)));
    last_is = sym (ap (λ (y : List FastState). state_of y (last_used (all ++ entry ∷ []))) states_are ∙ current_is);
  }

  reported_now : Reported (length (all ++ entry ∷ [])) l.writer.events l.reports
  reported_now =
      let before : n.writer.events ≡ m.writer.events = ap (λ (y : MixerState). y.writer.events) played.same in
      let stored : l.writer.events ≡ m.writer.events ++ Store r.report ∷ [] = r.stored ∙ ap (λ (ws : List (WriterEvent Report)). ws ++ Store r.report ∷ []) before in
      let last : last_of no_report l.writer.events ≡ r.report = ap (last_of no_report) stored ∙ last_of-push no_report m.writer.events r.report in
      record {
        many = ap stores stored ∙ stores-push m.writer.events r.report ∙ ap (λ c. c + 1) k.reports.many ∙ sym all_longer;
        number = ap (λ (y : Report). y.cycle) last ∙ r.number ∙ ap (λ c. c + 1) count_is ∙ sym all_longer;
        slots_are = ap (λ (y : Report). y.slots) last ∙ r.slots_are;
        whole = r.whole;
        few = (λ i lt.
            let before = k.reports.few i lt in
            let reports_same = ap (λ (y : MixerState). report_at y.reports i) played.same in
            let bound : length all + 1 + 1 ≡ length (all ++ entry ∷ []) + 1 = omega (arith, all_longer) in
            subst (λ (y : ℕ × SlotReport). IsFew y.0 y.1) (λ j. (bound j, sym (r.each i lt) j))
            (slot_few n.frames (length all + 1) m.observer.current n.last entry (known n.observer i) i (report_at n.reports i) (omega arith) (subst (IsFew (length all + 1)) (sym reports_same) before)));
      }

  -- what is said of all entries
  abbrev SaidOf : List CycleEntry → Type 0
  SaidOf a = UsesStates n.observer.past.number a false (is_over now) × KeepsEntries (adopted_states now) a now.exited now.cold now.last × Reported (length a) l.writer.events l.reports × (m.count + 1 ≡ length a)

  said_now : SaidOf (earlier ++ (es ++ entry ∷ []))
  said_now = subst SaidOf one_more (uses_now, keeps_now, reported_now, ap (λ c. c + 1) k.forgotten.counted ∙ sym all_longer)

  now_in_order : IsInOrderAfter earlier now
  now_in_order = record {
    observer = played.order;
    begins = subst (λ (o : Observes ServerState StreamNames). o.past.number ≡ 0 → CarriesNone o.past.state) (sym played.observer) k.begins;
    room = record {
      sized = k.room.sized;
      entries = (omega (arith, one_longer), played.entries.1 ∙ k.room.entries.1);
      rest = (let longer = ap (λ a. (m.cycles - a) * m.frames) one_longer in omega (arith, k.room.rest, less_to_come, longer, played.few, played.entries.2));
    };
    uses = said_now.0;
    keeps = said_now.1;
    reports = said_now.2;
    forgotten = record { counted = said_now.3; most = k.forgotten.most; room = omega (arith, k.forgotten.room, played.entries.2) };
  }

  pub noted_order : IsInOrderAfter earlier l
  noted_order = subst (IsInOrderAfter earlier) (sym is_now) now_in_order

-- before the first entry nothing was reported
none_few : (i : ℕ) → i < slots → IsFew 1 (report_at (replicate slots no_slot) i)
none_few i lt = subst (IsFew 1) (sym (get_or-replicate slots i no_slot no_slot lt)) (omega arith, omega arith, omega arith)

pub nothing_reported : (entries : ℕ) (events : List (WriterEvent Report)) (s : SlotReport) → entries ≡ 0 → events ≡ [] → s ≡ no_slot → Reported entries events (replicate slots s)
nothing_reported entries events s none empty is =
    subst (λ (y : ℕ × List (WriterEvent Report) × SlotReport). Reported y.0 y.1 (replicate slots y.2)) (λ i. (sym none i, sym empty i, sym is i)) (record { many = refl; number = refl; slots_are = refl; whole = refl; few = none_few })
