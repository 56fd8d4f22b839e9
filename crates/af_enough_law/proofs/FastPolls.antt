-- Which states the entries of a round use.
use Rattle.std.proofs.Common.{◌≡◌, ℕ, ◌+◌, ◌≤◌, ◌==◌, if◌then◌else◌, Bool, true, false, Option, Some, None, List, [], ◌∷◌, ◌++◌, length, take, drop, fold, refl, sym, ap, ◌∙◌, subst, arith, append_assoc, append-nil}
use Rattle.af_enough_law.proofs.Common.{EntrySeen, Event, FastState, HasQueueHistory, IsFastTurn, Item, Legal, LegalEntries, LegalEntry, LegalRound, Marks, MatchBool, MutatorEvent, MutatorPoint, ObserverEvent, QueuePoint, RoundSeen, Run, Session, Turn, TurnFound, after_round, after_turn, all_played, before_turn, calls_states, cycle_frames, early_of, ends_states, fast_ended, fold-append, found_in, initial, items_of, late_of, loaded, loaded_states, met, met_after, met_states, most_round_cycles, mutator_next, mutator_start, one, ones, poll_events, state_at, take-append-drop, take-append-le, turned, two, twos, with_calls, with_cycle, with_cycles, with_load, with_mix, with_poll, with_turn, twos_met, ones_met}
use Rattle.af_model.specs.declared.states.MutatorEvent.TheVariants as mutator
use Rattle.af_model.specs.declared.states.ObserverEvent.TheVariants as observer
use Rattle.af_model.specs.StateQueue as queued
use Rattle.af_model.specs.StateQueue.{mutated}
use Rattle.af_enough_law.specs.Seen.{Stands}
use Rattle.af_enough_law.proofs.FastWords.{KnowsStates, AllUse}
use Rattle.af_enough_law.proofs.FastShows.{stands-more}
use Rattle.af_enough_law.proofs.FastSteps.{cycle_queue, cycle_states, cycles_states, observed-ones, mutated-more, mutated-ones}
use Rattle.af_enough_law.proofs.SeenShared.{next_seen}

-- ## Pushes

-- each push has the next number
abbrev pub AllNext : MutatorPoint Item → List (MutatorEvent Item) → Type 0
AllNext m [] = Unit {0}
AllNext m (mutator.Push k x items ∷ es) = (k ≡ m.pushed + 1) × AllNext (mutator_next m (mutator.Push k x items)) es
AllNext m (mutator.SawAck a items ∷ es) = AllNext (mutator_next m (mutator.SawAck a items)) es
AllNext m (mutator.Learn n ∷ es) = AllNext (mutator_next m (mutator.Learn n)) es

pub all_next : (p : QueuePoint Item) (es : List (Event (MutatorEvent Item) (ObserverEvent Item))) → Legal queued.legal queued.next p es → AllNext p.mutator (ones es)
all_next p [] l = tt
all_next p (one (mutator.Push k x items) ∷ es) l = (l.0.0, all_next (queued.next p (one (mutator.Push k x items))) es l.1)
all_next p (one (mutator.SawAck a items) ∷ es) l = all_next (queued.next p (one (mutator.SawAck a items))) es l.1
all_next p (one (mutator.Learn n) ∷ es) l = all_next (queued.next p (one (mutator.Learn n))) es l.1
all_next p (two e ∷ es) l = all_next (queued.next p (two e)) es l.1

pub next_rest : (m : MutatorPoint Item) (xs ys : List (MutatorEvent Item)) → AllNext m (xs ++ ys) → AllNext m xs × AllNext (fold mutator_next m xs) ys
next_rest m [] ys l = (tt, l)
next_rest m (mutator.Push k x items ∷ xs) ys l = let r = next_rest (mutator_next m (mutator.Push k x items)) xs ys l.1 in ((l.0, r.0), r.1)
next_rest m (mutator.SawAck a items ∷ xs) ys l = next_rest (mutator_next m (mutator.SawAck a items)) xs ys l
next_rest m (mutator.Learn n ∷ xs) ys l = next_rest (mutator_next m (mutator.Learn n)) xs ys l

pushes_rise : (m : MutatorPoint Item) (es : List (MutatorEvent Item)) → AllNext m es → m.pushed ≤ (fold mutator_next m es).pushed
pushes_rise m [] l = omega arith
pushes_rise m (mutator.Push k x items ∷ es) l = let r = pushes_rise (mutator_next m (mutator.Push k x items)) es l.1 in let now : k ≡ m.pushed + 1 = l.0 in omega arith
pushes_rise m (mutator.SawAck a items ∷ es) l = pushes_rise (mutator_next m (mutator.SawAck a items)) es l
pushes_rise m (mutator.Learn n ∷ es) l = pushes_rise (mutator_next m (mutator.Learn n)) es l

-- a longer front of the pushes has a number at least as late
front_rises : (first : FastState) (all front rest : List (MutatorEvent Item)) (n : ℕ) → AllNext (mutator_start first) all → all ≡ front ++ rest → (mutated first (take n front)).pushed ≤ (mutated first front).pushed
front_rises first all front rest n l whole =
    let of_front = (next_rest (mutator_start first) front rest (subst (AllNext (mutator_start first)) whole l)).0 in
    let cut = next_rest (mutator_start first) (take n front) (drop n front) (subst (AllNext (mutator_start first)) (sym (take-append-drop n front)) of_front) in
    let rise = pushes_rise (mutated first (take n front)) (drop n front) cut.1 in
    let same : fold mutator_next (mutated first (take n front)) (drop n front) ≡ mutated first front = sym (fold-append mutator_next (mutator_start first) (take n front) (drop n front)) ∙ ap (mutated first) (take-append-drop n front) in
    subst (λ (m : MutatorPoint Item). (mutated first (take n front)).pushed ≤ m.pushed) same rise

-- a look for a state sees no earlier one than what was learnt
pub look_new : (first : FastState) (known more : List (MutatorEvent Item)) (before behind : List (ObserverEvent Item)) (k : ℕ) (x : Option FastState) (items : List (Option Item)) (n : ℕ)
    → queued.HasStateHistory first (known ++ more) (before ++ observer.SawNext k x items ∷ behind) → Stands (observer.Learn n) before → n ≤ length known → (mutated first (take n known)).pushed ≤ k
look_new first known more before behind k x items n h learnt low =
    let sees = next_seen first before behind (known ++ more) k x items h in
    let far = sees.learnt n learnt in
    let next : AllNext (mutator_start first) (known ++ more) = subst (AllNext (mutator_start first)) h.of_one (all_next (queued.start_of_queue first) h.order h.is_legal) in
    let rise = front_rises first (known ++ more) sees.front sees.rest n next sees.whole in
    let same : take n known ≡ take n sees.front = sym (take-append-le n known more low) ∙ ap (take n) sees.whole ∙ take-append-le n sees.front sees.rest far in
    subst (λ j. (mutated first (take n known)).pushed ≤ j) (sym sees.shows) (subst (λ (l : List (MutatorEvent Item)). (mutated first l).pushed ≤ (mutated first sees.front).pushed) (sym same) rise)

-- ## The queue over a round

-- both lists of the queue go on in a later run
pub record Goes (run later : Run) : Type 0 where
  pub looks : List (ObserverEvent Item)
  pub observed : twos later.queue ≡ twos run.queue ++ looks
  pub edits : List (MutatorEvent Item)
  pub mutated : ones later.queue ≡ ones run.queue ++ edits

abbrev same_goes : (run later : Run) → later.queue ≡ run.queue → Goes run later
same_goes run later same = record { looks = []; observed = ap twos same ∙ sym (append-nil (twos run.queue)); edits = []; mutated = ap ones same ∙ sym (append-nil (ones run.queue)) }

goes_both : (a b c : Run) → Goes a b → Goes b c → Goes a c
goes_both a b c f g = record {
  looks = f.looks ++ g.looks;
  observed = g.observed ∙ ap (λ l. l ++ g.looks) f.observed ∙ append_assoc (twos a.queue) f.looks g.looks;
  edits = f.edits ++ g.edits;
  mutated = g.mutated ∙ ap (λ l. l ++ g.edits) f.mutated ∙ append_assoc (ones a.queue) f.edits g.edits;
}

calls_goes : (round : RoundSeen) (run : Run) → Goes run (with_calls round run)
unfolding with_calls
calls_goes round run = same_goes run (with_calls round run) refl

cycle_goes : (s : Session) (run : Run) (e : EntrySeen) → Goes run (with_cycle s run e)
unfolding with_poll with_mix
cycle_goes s run e = record {
  looks = poll_events (cycle_frames s) run.states run.current e.entry.state;
  observed = cycle_queue s run e;
  edits = [];
  mutated = observed-ones (poll_events (cycle_frames s) run.states run.current e.entry.state) run.queue ∙ sym (append-nil (ones run.queue));
}

cycles_go : (s : Session) (es : List EntrySeen) (run : Run) → Goes run (with_cycles s es run)
cycles_go s [] run = same_goes run run refl
cycles_go s (e ∷ es) run = goes_both run (with_cycle s run e) (with_cycles s es (with_cycle s run e)) (cycle_goes s run e) (cycles_go s es (with_cycle s run e))

turn_goes : (s : Session) (f : TurnFound) (e : Turn) (run : Run) → Goes run (with_turn s f e run)
unfolding with_turn
turn_goes s f e run = record { looks = []; observed = mutated-more _ run.queue ∙ sym (append-nil (twos run.queue)); edits = _; mutated = mutated-ones _ run.queue }

turned_goes : (s : Session) (found : Turn → TurnFound) (o : Option Turn) (run : Run) → Goes run (turned s found o run)
turned_goes s found None run = same_goes run run refl
turned_goes s found (Some e) run = turn_goes s (found e) e run

load_goes : (e : Turn) (run : Run) → Goes run (with_load e run)
unfolding with_load
load_goes e run = same_goes run (with_load e run) refl

loaded_goes : (o : Option Turn) (run : Run) → Goes run (loaded o run)
loaded_goes None run = same_goes run run refl
loaded_goes (Some e) run = load_goes e run

met_goes : (s : Session) (run : Run) → Goes run (met s run)
unfolding met
met_goes s run = record {
  looks = observer.Learn (length (ones run.queue)) ∷ [];
  observed = twos_met run.queue (mutator.Learn (length (twos run.queue))) (observer.Learn (length (ones run.queue)));
  edits = mutator.Learn (length (twos run.queue)) ∷ [];
  mutated = ones_met run.queue (mutator.Learn (length (twos run.queue))) (observer.Learn (length (ones run.queue)));
}

-- the queue goes on from an entry's turn to the meeting
pub turn_met : (s : Session) (run : Run) (round : RoundSeen) → Goes (after_turn s run round) (met_after s run round)
turn_met s run round =
    let late = with_cycles s (late_of run round) (after_turn s run round) in
    goes_both (after_turn s run round) late (met_after s run round) (cycles_go s (late_of run round) (after_turn s run round))
    (goes_both late (all_played s run round) (met_after s run round) (loaded_goes round.turn late) (met_goes s (all_played s run round)))

early_met : (s : Session) (run : Run) (round : RoundSeen) → Goes (before_turn s run round) (met_after s run round)
early_met s run round = goes_both (before_turn s run round) (after_turn s run round) (met_after s run round) (turned_goes s (found_in s run round) round.turn (before_turn s run round)) (turn_met s run round)

-- ## The entries

-- a poll begins with a look
record BeginsWith (k : ℕ) (es : List (ObserverEvent Item)) : Type 0 where
  state : Option FastState
  items : List (Option Item)
  rest : List (ObserverEvent Item)
  whole : es ≡ observer.SawNext k state items ∷ rest

begins_by : (k : ℕ) (x : FastState) (xs ys : List (Option Item)) (b : Bool) → BeginsWith k (if b then observer.SawNext k None [] ∷ [] else observer.SawNext k (Some x) xs ∷ observer.Ack k ys ∷ [])
begins_by k x xs ys true = record { state = None; items = []; rest = []; whole = refl }
begins_by k x xs ys false = record { state = Some x; items = xs; rest = observer.Ack k ys ∷ []; whole = refl }

poll_begins : (frames : ℕ) (states : List FastState) (c k : ℕ) → BeginsWith k (poll_events frames states c k)
poll_begins frames states c k = begins_by k (state_at frames states k) (items_of (state_at frames states k) (state_at frames states c)) (items_of (state_at frames states c) (state_at frames states k)) (k == c)

-- what is known of the pushes when a round begins
record Known (s : Session) (known : List (MutatorEvent Item)) (n number : ℕ) (final : Run) : Type 0 where
  more : List (MutatorEvent Item)
  whole : ones final.queue ≡ known ++ more
  within : n ≤ length known
  pushed : (mutated (initial (cycle_frames s)) (take n known)).pushed ≡ number
  history : HasQueueHistory (cycle_frames s) final.queue

cut_at : {X : Type 0} (xs poll : List X) (x : X) (rest more all : List X) → poll ≡ x ∷ rest → all ≡ (xs ++ poll) ++ more → all ≡ xs ++ x ∷ (rest ++ more)
cut_at xs poll x rest more all is whole = whole ∙ append_assoc xs poll more ∙ ap (λ l. xs ++ (l ++ more)) is

entry_new : (s : Session) (known : List (MutatorEvent Item)) (n number : ℕ) (run final : Run) (e : EntrySeen) → Known s known n number final → Stands (observer.Learn n) (twos run.queue) → Goes (with_cycle s run e) final → number ≤ e.entry.state
entry_new s known n number run final e k learnt g =
    let begins = poll_begins (cycle_frames s) run.states run.current e.entry.state in
    let looks = cut_at (twos run.queue) (poll_events (cycle_frames s) run.states run.current e.entry.state) (observer.SawNext e.entry.state begins.state begins.items) begins.rest g.looks (twos final.queue) begins.whole
    (g.observed ∙ ap (λ l. l ++ g.looks) (cycle_queue s run e)) in
    let history = subst (λ (x : List (MutatorEvent Item) × List (ObserverEvent Item)). queued.HasStateHistory (initial (cycle_frames s)) x.0 x.1) (λ i. (k.whole i, looks i)) k.history in
    let low = look_new (initial (cycle_frames s)) known k.more (twos run.queue) (begins.rest ++ g.looks) e.entry.state begins.state begins.items n history learnt k.within in
    let is = k.pushed in omega arith

entry_pushed : (s : Session) (marks : Marks) (run : Run) (e : EntrySeen) (high : ℕ) → length run.states ≤ high → LegalEntry s marks (with_poll s e.entry.state run) e → e.entry.state ≤ high
unfolding with_poll
entry_pushed s marks run e high within legal = let a = legal.cycle.pushed in omega arith

entries_new : (s : Session) (marks : Marks) (known : List (MutatorEvent Item)) (n number high : ℕ) (es : List EntrySeen) (run final : Run) → Known s known n number final → Stands (observer.Learn n) (twos run.queue)
    → Goes (with_cycles s es run) final → length run.states ≤ high → LegalEntries s marks run es → AllUse number high es
entries_new s marks known n number high [] run final k learnt g within legal = tt
entries_new s marks known n number high (e ∷ es) run final k learnt g within legal =
    let next = with_cycle s run e in
    let later = goes_both next (with_cycles s es next) final (cycles_go s es next) g in
    let now = cycle_goes s run e in (
      entry_new s known n number run final e k learnt later,
      entry_pushed s marks run e high within legal.0,
      entries_new s marks known n number high es next final k (subst (Stands (observer.Learn n)) (sym now.observed) (stands-more (observer.Learn n) (twos run.queue) now.looks learnt)) g (let a = ap length (cycle_states s run e) in omega arith) legal.1,
    )

-- ## The states over a round

-- a run with more states
pub record MoreStates (run later : Run) : Type 0 where
  pub more : List FastState
  pub whole : later.states ≡ run.states ++ more

turn_states : (s : Session) (f : TurnFound) (e : Turn) (run : Run) → MoreStates run (with_turn s f e run)
unfolding with_turn
turn_states s f e run = record { more = _; whole = refl }

pub turned_states : (s : Session) (found : Turn → TurnFound) (o : Option Turn) (run : Run) → MoreStates run (turned s found o run)
turned_states s found None run = record { more = []; whole = sym (append-nil run.states) }
turned_states s found (Some e) run = turn_states s (found e) e run

-- the states after the turn are those after the round
pub round_states : (s : Session) (run : Run) (round : RoundSeen) → (after_round s run round).states ≡ (after_turn s run round).states
round_states s run round =
    ends_states (met_after s run round) ∙ met_states s (all_played s run round) ∙ loaded_states round.turn (with_cycles s (late_of run round) (after_turn s run round)) ∙ cycles_states s (late_of run round) (after_turn s run round)

pub before_states : (s : Session) (run : Run) (round : RoundSeen) → (before_turn s run round).states ≡ run.states
before_states s run round = cycles_states s (early_of run round) (with_calls round run) ∙ calls_states round run

pub turn_more : (s : Session) (run : Run) (round : RoundSeen) → MoreStates run (after_turn s run round)
turn_more s run round =
    let t = turned_states s (found_in s run round) round.turn (before_turn s run round) in
    record { more = t.more; whole = t.whole ∙ ap (λ l. l ++ t.more) (before_states s run round) }

-- ## The round

-- the fast mixer's turn by its parts
pub record FastParts (s : Session) (marks : Marks) (run : Run) (round : RoundSeen) : Type 0 where
  pub turn : IsFastTurn most_round_cycles false round.entries
  pub early : LegalEntries s marks (with_calls round run) (early_of run round)
  pub late : LegalEntries s marks (after_turn s run round) (late_of run round)

pub fast_parts : (s : Session) (marks : Marks) (run : Run) (round : RoundSeen) → LegalRound false s marks run round → fast_ended run ≡ false → FastParts s marks run round
fast_parts s marks run round legal going =
    let h = subst (λ (b : Bool). MatchBool b (round.entries ≡ []) (IsFastTurn most_round_cycles false round.entries × LegalEntries s marks (with_calls round run) (early_of run round) × LegalEntries s marks (after_turn s run round) (late_of run round))) going legal.turns.fast in
    record { turn = h.0; early = h.1; late = h.2 }

pub use-append : (low high : ℕ) (xs ys : List EntrySeen) → AllUse low high xs → AllUse low high ys → AllUse low high (xs ++ ys)
use-append low high [] ys h t = t
use-append low high (x ∷ xs) ys h t = (h.0, h.1, use-append low high xs ys h.2 t)

-- which states the entries before the turn use, and which those after it
pub record PartsUse (s : Session) (run : Run) (round : RoundSeen) : Type 0 where
  pub early : AllUse (length run.states) (length run.states) (early_of run round)
  pub late : AllUse (length run.states) (length (after_turn s run round).states) (late_of run round)

pub parts_use : (s : Session) (marks : Marks) (run : Run) (round : RoundSeen) → LegalRound false s marks run round → fast_ended run ≡ false → KnowsStates s run → PartsUse s run round
parts_use s marks run round legal going knows =
    let parts = fast_parts s marks run round legal going in
    let to_turn = goes_both run (with_calls round run) (before_turn s run round) (calls_goes round run) (cycles_go s (early_of run round) (with_calls round run)) in
    let to_late = goes_both run (before_turn s run round) (after_turn s run round) to_turn (turned_goes s (found_in s run round) round.turn (before_turn s run round)) in
    let all = goes_both run (after_turn s run round) (met_after s run round) to_late (turn_met s run round) in
    let k : Known s (ones run.queue) knows.count (length run.states) (met_after s run round) = record { more = all.edits; whole = all.mutated; within = knows.within; pushed = knows.pushed; history = legal.histories.shared.queue } in
    let first = calls_goes round run in
    record {
      early = entries_new s marks (ones run.queue) knows.count (length run.states) (length run.states) (early_of run round) (with_calls round run) (met_after s run round) k
          (subst (Stands (observer.Learn knows.count)) (sym first.observed) (stands-more _ (twos run.queue) first.looks knows.learnt)) (early_met s run round) (let a = ap length (calls_states round run) in omega arith) parts.early;
      late = entries_new s marks (ones run.queue) knows.count (length run.states) (length (after_turn s run round).states) (late_of run round) (after_turn s run round) (met_after s run round) k
          (subst (Stands (observer.Learn knows.count)) (sym to_late.observed) (stands-more _ (twos run.queue) to_late.looks knows.learnt)) (goes_both (with_cycles s (late_of run round) (after_turn s run round)) (all_played s run round) (met_after s run round) (loaded_goes round.turn (with_cycles s (late_of run round) (after_turn s run round))) (met_goes s (all_played s run round))) (omega arith) parts.late;
    }
