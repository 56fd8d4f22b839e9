-- After a poll that found the last state pushed the run with that poll tells the session.
use Rattle.std.proofs.Common.{◌≡◌, ℕ, suc, ◌+◌, ◌<◌, ◌&&◌, not, nat_le, nat_lt, Bool, true, false, true≢false, if◌then◌else◌, is_some, map, List, [], ◌∷◌, ◌++◌, length, slice_get, Option, Some, None, refl, sym, ap, ◌∙◌, arith}
use Rattle.af_told_law.proofs.Common.{AreOf, BlockTold, FastState, Item, MixerState, NormalState, ObserverEvent, ObserverPoint, Observes, PartyState, Run, ServerEvent, ServerState, Session, SessionState, StreamNames, at, carries, cycle_frames, fold-append, has, item_at, items_of, le-leb, marked, observed, observer_does, observer_next, observer_start, ones, option_map, poll_events, range_with_len, sees_same, slot_for, slot_number, slots, state_at, told_at, track_at, twos, with_poll}
use Rattle.af_model.specs.declared.states.ObserverEvent.TheVariants as observer
use Rattle.af_told_law.specs.Tells.{Tells, TellsAway, TellsStream, TellsTrack, held_slot, is_coming, is_going, items_given, marked_poll, mutated_by, none_comes, reports_stored}
use Rattle.af_told_law.specs.Deeds.{Deeds, ServerDone, done_on}
use Rattle.af_judge.proofs.QueueSteps.{ones_stay, twos_more}

-- ## Marks

mark_is : (o : Option ServerState) (b : Bool) → is_some o ≡ b → option_map (λ (p : ServerState). tt {0}) o ≡ (if b then Some (tt {0}) else None)
mark_is None true e = absurd (true≢false (sym e))
mark_is None false e = refl
mark_is (Some p) true e = refl
mark_is (Some p) false e = absurd (true≢false e)

marks_from : (items : List (Option ServerState)) (g : ℕ → Bool) (a : ℕ) → ((i : ℕ) → i < length items → has items i ≡ g (a + i)) → marked items ≡ map (λ i. if g i then Some (tt {0}) else None) (range_with_len a (length items))
marks_from [] g a same = refl
marks_from (item ∷ items) g a same =
    λ j. mark_is item (g a) (same 0 (omega arith) ∙ ap g (omega arith)) j
    ∷ marks_from items g (a + 1) (λ i low. same (suc i) (omega (arith, low)) ∙ ap g (omega arith)) j

-- the items of the slots that are new in a state are marked as the run tells it
pub marks_so : (x y : FastState) (items : List (Option ServerState)) → length items ≡ slots → ((i : ℕ) → i < slots → has items i ≡ (carries x i && not (carries y i))) → marked items ≡ items_of x y
marks_so x y items whole same =
    marks_from items (λ i. carries x i && not (carries y i)) 0 (λ i low. same i (omega (arith, low, whole)) ∙ ap (λ (j : ℕ). carries x j && not (carries y j)) (let z : i ≡ 0 + i = omega arith in z))
    ∙ ap (λ (n : ℕ). map (λ i. if carries x i && not (carries y i) then Some (tt {0}) else None) (range_with_len 0 n)) whole

pub marks_are : (x y : FastState) (items : List (Option ServerState)) → AreOf x y items → marked items ≡ items_of x y
marks_are x y items h = marks_so x y items h.0 h.1

-- ## What is told

module _ (s : Session) (run : Run) {d : Deeds} (x : SessionState) (g : MixerState) (h : Tells s run d x) (same : g ≡ record x.fast { observer = g.observer; adopted = true }) (last : g.observer.past.number ≡ x.normal.mutator.past.number)
    (list : map marked_poll g.observer.past.events ≡ map marked_poll x.fast.observer.past.events ++ poll_events (cycle_frames s) run.states run.current g.observer.past.number)
    (state : g.observer.past.state ≡ state_at (cycle_frames s) run.states g.observer.past.number) (streams : (i : ℕ) (p : PartyState) → slice_get x.clients i ≡ Some p → TellsStream x.normal g i (told_at run i).stream (d.streams i)) where
  abbrev found : ℕ
  found = g.observer.past.number

  abbrev more : List (ObserverEvent Item)
  more = poll_events (cycle_frames s) run.states run.current found

  current_is : (if nat_le found (length run.states) then found else run.current) ≡ found
  current_is = ap (λ (b : Bool). if b then found else run.current) (le-leb found (length run.states) (let n = h.normal.number in omega (arith, n, last)))

  ones_are : ones (observer_does more run.queue) ≡ ones run.queue
  ones_are = ones_stay run.queue more

  twos_are : twos (observer_does more run.queue) ≡ twos run.queue ++ more
  twos_are = twos_more run.queue more

  pub poll_told : Tells s (with_poll s found run) d (record x { fast = g })
  unfolding with_poll
  poll_told = record {
    count = h.count;
    tracks = (λ i p is. let t : TellsTrack s x.normal x.fast d i (told_at run i) p = h.tracks i p is in record { client = t.client; stream = streams i p is; commands = t.commands; did = t.did });
    shared = record {
      first = h.shared.first;
      mutator = h.shared.mutator ∙ sym ones_are;
      observer = list ∙ ap (λ (l : List (ObserverEvent Item)). l ++ more) h.shared.observer ∙ sym twos_are;
      reader = h.shared.reader;
      writer = ap (λ (f : MixerState). f.writer.events) same ∙ h.shared.writer;
      puts = record { told = h.shared.puts.told; words = h.shared.puts.words };
      takes = ap (λ (f : MixerState). f.pipe.pass.part.events) same ∙ h.shared.takes;
      taken = ap (λ (f : MixerState). f.pipe.pass.part.frames) same ∙ h.shared.taken;
      size = ap (λ (f : MixerState). f.pipe.pass.part.shape.frames) same ∙ h.shared.size;
    };
    normal = record { setup = h.normal.setup; kept = h.normal.kept; hands = h.normal.hands; states = h.normal.states; number = h.normal.number; last = h.normal.last };
    fast = record {
      frames = ap (λ (f : MixerState). f.frames) same ∙ h.fast.frames;
      cycles = ap (λ (f : MixerState). f.cycles) same ∙ h.fast.cycles;
      current = sym current_is;
      state = state ∙ ap (state_at (cycle_frames s) run.states) (sym current_is);
      entries = ap (λ (f : MixerState). f.log.entries) same ∙ h.fast.entries;
      logged = ap (λ (f : MixerState). length f.log.frames) same ∙ h.fast.logged;
      exited = ap (λ (f : MixerState). f.exited) same ∙ h.fast.exited;
      reports = ap (λ (f : MixerState). reports_stored f.writer.events) same ∙ h.fast.reports;
      fresh = h.fast.fresh;
    };
  }

-- ## Nothing new was found

module _ (m : NormalState) (f g : MixerState) (is : g.observer ≡ sees_same f.observer) where
  given_same : items_given g ≡ items_given f
  given_same =
      ap (λ (o : Observes ServerState StreamNames). (observed o.past.events).given) is
      ∙ ap (λ (p : ObserverPoint ServerState). p.given) (fold-append observer_next observer_start f.observer.past.events (observer.SawNext f.observer.past.number None [] ∷ []))

  held_same : (i : ℕ) → held_slot g i ≡ held_slot f i
  held_same i = ap (λ (o : Observes ServerState StreamNames). slot_for o.past.state i) is

  going_same : is_going m g ≡ is_going m f
  going_same = ap (λ (o : Observes ServerState StreamNames). nat_lt o.past.number m.mutator.past.number) is

  coming_same : is_coming m g ≡ is_coming m f
  coming_same = ap (λ (b : Bool). not b && not (mutated_by m).clear) going_same

  none_same : (k : ℕ) → none_comes m g k → none_comes m f k
  none_same k none coming = sym (ap (λ (is : List (Option ServerState)). at is k) given_same) ∙ none (coming_same ∙ coming)

  away_still : (i k : ℕ) (b : ServerDone) → TellsAway m f i k b → TellsAway m g i k b
  away_still i k b h = record {
    held = (λ p item. h.held p (sym (ap (λ (o : Observes ServerState StreamNames). item_at o.items (slot_for o.past.state i)) is) ∙ item));
    goes = (λ off going. h.goes (sym (held_same i) ∙ off) (sym going_same ∙ going));
    comes = (λ off coming p item. h.comes (sym (held_same i) ∙ off) (sym coming_same ∙ coming) p (sym (ap (λ (is : List (Option ServerState)). at is k) given_same) ∙ item));
    waits = (λ off none. h.waits (sym (held_same i) ∙ off) (none_same k none));
    back = (λ off none. h.back (sym (held_same i) ∙ off) (none_same k none));
  }

  pub stream_still : (i : ℕ) (b : BlockTold) (deed : List ServerEvent) → TellsStream m f i b deed → TellsStream m g i b deed
  stream_still i b deed h = record { home = h.home; away = λ gone. away_still i (slot_number (track_at m.tracks i)) (done_on b deed) (h.away gone); hand = h.hand }
