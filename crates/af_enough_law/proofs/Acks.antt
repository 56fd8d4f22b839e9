-- A turn sees the last state acknowledged, if that was learnt at a meeting; then its push isn't busy.
use Rattle.std.proofs.Common.{◌≡◌, ◌⊎◌, inl, inr, ℕ, ◌+◌, ◌-◌, ◌≤◌, ◌<◌, ◌==◌, ◌&&◌, ◌||◌, if◌then◌else◌, Bool, true, false, true≢false, Option, Some, List, [], ◌∷◌, ◌++◌, length, take, drop, fold, refl, sym, ap, ◌∙◌, subst, arith, append_assoc, append-nil}
use Rattle.af_enough_law.proofs.Common.{Busy, Clean, EntrySeen, Event, FastState, Item, Learnt, Legal, LegalPush, LegalRound, Marks, MutatorEvent, NormalKept, ObserverEvent, ObserverPoint, Push, Pushed, QueuePoint, RoundSeen, Run, Session, Setup, Turn, TurnFound, after_edits, after_turn, before_turn, cycle_frames, early_of, fold-append, found_in, going, initial, learnt, met_after, mutator_list, number_seen, observed, observer_next, observer_start, one, ones, outside_of, poll_events, push_list, setup_of, take-append-drop, take-append-le, turned, two, twos, with_calls, with_cycle, with_cycles, with_mix, with_poll, with_turn}
use Rattle.af_enough_law.proofs.Basics.{before_normal}
use Rattle.af_model.specs.declared.states.MutatorEvent.TheVariants as mutator
use Rattle.af_model.specs.declared.states.ObserverEvent.TheVariants as observer
use Rattle.af_model.specs.StateQueue as queued
use Rattle.af_enough_law.proofs.Drafts.{is_busy, after_pushes}
use Rattle.af_enough_law.proofs.NormalRounds.{TurnMade}
use Rattle.af_enough_law.specs.Seen.{Stands}
use Rattle.af_enough_law.proofs.FastPolls.{turn_met}
use Rattle.af_enough_law.proofs.FastShows.{stands-more}
use Rattle.af_enough_law.proofs.FastSteps.{cycle_queue, observed-ones, mutated-more, mutated-ones}
use Rattle.af_enough_law.proofs.SeenShared.{ack_seen}

-- at a meeting the normal mixer learnt of so many events of the fast mixer's end, by which the last state pushed was acknowledged
pub record KnowsAcked (run : Run) : Type 0 where
  pub count : ℕ
  pub learnt : Stands (mutator.Learn count) (ones run.queue)
  pub within : count ≤ length (twos run.queue)
  pub acked : run.normal.pushed ≤ (observed (take count (twos run.queue))).acked

-- ## Acknowledgements rise

abbrev AllRise : ObserverPoint Item → List (ObserverEvent Item) → Type 0
AllRise o [] = Unit {0}
AllRise o (observer.SawNext k x items ∷ es) = AllRise (observer_next o (observer.SawNext k x items)) es
AllRise o (observer.Ack k items ∷ es) = (o.acked ≤ k) × AllRise (observer_next o (observer.Ack k items)) es
AllRise o (observer.Learn n ∷ es) = AllRise (observer_next o (observer.Learn n)) es

record InOrder (p : QueuePoint Item) : Type 0 where
  acked : p.observer.acked ≤ p.mutator.pushed
  due : p.observer.due ≤ p.mutator.pushed
  rises : (p.observer.due ≡ 0) ⊎ (p.observer.acked ≤ p.observer.due)

next_due : (acked pushed k : ℕ) (b : Bool) → acked ≤ pushed → k ≡ pushed → ((if b then 0 else k) ≤ pushed) × (((if b then 0 else k) ≡ 0) ⊎ (acked ≤ (if b then 0 else k)))
next_due acked pushed k true le e = (omega arith, inl refl)
next_due acked pushed k false le e = (omega arith, inr (omega arith))

stays : (p : QueuePoint Item) (e : Event (MutatorEvent Item) (ObserverEvent Item)) → queued.legal p e → InOrder p → InOrder (queued.next p e)
stays p (one (mutator.Push k x items)) l o = let k_is : k ≡ p.mutator.pushed + 1 = l.0 in record { acked = (let a = o.acked in omega arith); due = (let a = o.due in omega arith); rises = o.rises }
stays p (one (mutator.SawAck a items)) l o = record { acked = o.acked; due = o.due; rises = o.rises }
stays p (one (mutator.Learn n)) l o = record { acked = o.acked; due = o.due; rises = o.rises }
stays p (two (observer.SawNext k x items)) l o = let d = next_due p.observer.acked p.mutator.pushed k (k == p.observer.acked) o.acked l.0 in record { acked = o.acked; due = d.0; rises = d.1 }
stays p (two (observer.Ack k items)) l o = let k_is : k ≡ p.observer.due = l.0 in record { acked = (let a = o.due in omega arith); due = omega arith; rises = inl refl }
stays p (two (observer.Learn n)) l o = record { acked = o.acked; due = omega arith; rises = inl refl }

ack_rises : (acked due k : ℕ) → k ≡ due → (k ≡ 0 → ⊥) → (due ≡ 0) ⊎ (acked ≤ due) → acked ≤ k
ack_rises acked due k e some (inl none) = absurd (some (e ∙ none))
ack_rises acked due k e some (inr le) = omega arith

all_rise : (p : QueuePoint Item) (es : List (Event (MutatorEvent Item) (ObserverEvent Item))) → Legal queued.legal queued.next p es → InOrder p → AllRise p.observer (twos es)
all_rise p [] l o = tt
all_rise p (one e ∷ es) l o = all_rise (queued.next p (one e)) es l.1 (stays p (one e) l.0 o)
all_rise p (two (observer.SawNext k x items) ∷ es) l o = all_rise (queued.next p (two (observer.SawNext k x items))) es l.1 (stays p (two (observer.SawNext k x items)) l.0 o)
all_rise p (two (observer.Ack k items) ∷ es) l o = (ack_rises p.observer.acked p.observer.due k l.0.0 l.0.1 o.rises, all_rise (queued.next p (two (observer.Ack k items))) es l.1 (stays p (two (observer.Ack k items)) l.0 o))
all_rise p (two (observer.Learn n) ∷ es) l o = all_rise (queued.next p (two (observer.Learn n))) es l.1 (stays p (two (observer.Learn n)) l.0 o)

rise_rest : (o : ObserverPoint Item) (xs ys : List (ObserverEvent Item)) → AllRise o (xs ++ ys) → AllRise o xs × AllRise (fold observer_next o xs) ys
rise_rest o [] ys l = (tt, l)
rise_rest o (observer.SawNext k x items ∷ xs) ys l = rise_rest (observer_next o (observer.SawNext k x items)) xs ys l
rise_rest o (observer.Ack k items ∷ xs) ys l = let r = rise_rest (observer_next o (observer.Ack k items)) xs ys l.1 in ((l.0, r.0), r.1)
rise_rest o (observer.Learn n ∷ xs) ys l = rise_rest (observer_next o (observer.Learn n)) xs ys l

acks_rise : (o : ObserverPoint Item) (es : List (ObserverEvent Item)) → AllRise o es → o.acked ≤ (fold observer_next o es).acked
acks_rise o [] l = omega arith
acks_rise o (observer.SawNext k x items ∷ es) l = acks_rise (observer_next o (observer.SawNext k x items)) es l
acks_rise o (observer.Ack k items ∷ es) l = let r = acks_rise (observer_next o (observer.Ack k items)) es l.1 in let now : o.acked ≤ k = l.0 in omega arith
acks_rise o (observer.Learn n ∷ es) l = acks_rise (observer_next o (observer.Learn n)) es l

abbrev begin : ObserverPoint Item
begin = observer_start

front_rises : (all front rest : List (ObserverEvent Item)) (n : ℕ) → AllRise begin all → all ≡ front ++ rest → (observed (take n front)).acked ≤ (observed front).acked
front_rises all front rest n l whole =
    let of_front = (rise_rest begin front rest (subst (AllRise begin) whole l)).0 in
    let cut = rise_rest begin (take n front) (drop n front) (subst (AllRise begin) (sym (take-append-drop n front)) of_front) in
    let rise = acks_rise (observed (take n front)) (drop n front) cut.1 in
    let same : fold observer_next (observed (take n front)) (drop n front) ≡ observed front = sym (fold-append observer_next begin (take n front) (drop n front)) ∙ ap observed (take-append-drop n front) in
    subst (λ (o : ObserverPoint Item). (observed (take n front)).acked ≤ o.acked) same rise

-- a look at the acknowledgement sees no earlier one than what was learnt
pub look_acked : (first : FastState) (known more : List (ObserverEvent Item)) (before behind : List (MutatorEvent Item)) (a : ℕ) (items : List (Option Item)) (n : ℕ)
    → queued.HasStateHistory first (before ++ mutator.SawAck a items ∷ behind) (known ++ more) → Stands (mutator.Learn n) before → n ≤ length known → (observed (take n known)).acked ≤ a
look_acked first known more before behind a items n h learnt low =
    let sees = ack_seen first before behind (known ++ more) a items h in
    let far = sees.learnt n learnt in
    let next : AllRise begin (known ++ more) = subst (AllRise begin) h.of_two (all_rise (queued.start_of_queue first) h.order h.is_legal (record { acked = omega arith; due = omega arith; rises = inl refl })) in
    let rise = front_rises (known ++ more) sees.front sees.rest n next sees.whole in
    let same : take n known ≡ take n sees.front = sym (take-append-le n known more low) ∙ ap (take n) sees.whole ∙ take-append-le n sees.front sees.rest far in
    subst (λ j. (observed (take n known)).acked ≤ j) (sym sees.shows) (subst (λ (l : List (ObserverEvent Item)). (observed l).acked ≤ (observed sees.front).acked) (sym same) rise)

-- ## The queue up to the turn

pub cycle_ones : (s : Session) (run : Run) (e : EntrySeen) → ones (with_cycle s run e).queue ≡ ones run.queue
unfolding with_poll with_mix
cycle_ones s run e = observed-ones (poll_events (cycle_frames s) run.states run.current e.entry.state) run.queue

pub cycles_ones : (s : Session) (es : List EntrySeen) (run : Run) → ones (with_cycles s es run).queue ≡ ones run.queue
cycles_ones s [] run = refl
cycles_ones s (e ∷ es) run = cycles_ones s es (with_cycle s run e) ∙ cycle_ones s run e

cycles_twos : (s : Session) (es : List EntrySeen) (run : Run) → (more : List (ObserverEvent Item)) × (twos (with_cycles s es run).queue ≡ twos run.queue ++ more)
cycles_twos s [] run = ([], sym (append-nil (twos run.queue)))
cycles_twos s (e ∷ es) run = let rest = cycles_twos s es (with_cycle s run e) in let polls = poll_events (cycle_frames s) run.states run.current e.entry.state in
    (polls ++ rest.0, rest.1 ∙ ap (λ l. l ++ rest.0) (cycle_queue s run e) ∙ append_assoc (twos run.queue) polls rest.0)

calls_queue : (round : RoundSeen) (run : Run) → (with_calls round run).queue ≡ run.queue
unfolding with_calls
calls_queue round run = refl

-- what a turn adds to the mutator's list: a look, and another one if its push is busy
record TurnList (m : NormalKept) (e : Turn) (before after : List (MutatorEvent Item)) : Type 0 where
  back : List (Option Item)
  rest : List (MutatorEvent Item)
  whole : after ≡ before ++ mutator.SawAck (number_seen m e.ack) back ∷ rest
  busy : is_busy e.push ≡ true → e.ended ≡ false → (again : List (Option Item)) × (rest ≡ mutator.SawAck (m.pushed - 1) again ∷ [])

busy_list : (x m : NormalKept) (push : Push) (again sent : List (Option Item)) → x.pushed ≡ m.pushed → is_busy push ≡ true → push_list x push again sent ≡ mutator.SawAck (m.pushed - 1) again ∷ []
busy_list x m (Pushed number) again sent same e = absurd (true≢false (sym e))
busy_list x m Clean again sent same e = absurd (true≢false (sym e))
busy_list x m (Busy seen expected) again sent same e = ap (λ (n : ℕ). mutator.SawAck (n - 1) again ∷ []) same

list_by : (c : Setup) (k : Learnt) (m : NormalKept) (e : Turn) (back again sent : List (Option Item)) (before : List (MutatorEvent Item)) → m.ended ≡ false → TurnList m e before (before ++ mutator_list c k m e back again sent)
list_by c k m e back again sent before runs = record {
  back = back;
  rest = going e (push_list (after_edits c k e m) e.push again sent);
  whole = ap (λ (b : Bool). before ++ (if b then [] else mutator.SawAck (number_seen m e.ack) back ∷ going e (push_list (after_edits c k e m) e.push again sent))) runs;
  busy = λ b g. (again, ap (λ (d : Bool). if d then [] else push_list (after_edits c k e m) e.push again sent) g ∙ busy_list (after_edits c k e m) m e.push again sent (after_pushes c k e m).0 b);
}

turn_list : (s : Session) (f : TurnFound) (e : Turn) (run : Run) → run.normal.ended ≡ false → TurnList run.normal e (ones run.queue) (ones (with_turn s f e run).queue)
unfolding with_turn
turn_list s f e run runs = subst (TurnList run.normal e (ones run.queue)) (sym (mutated-ones _ run.queue)) (list_by (setup_of s) (learnt (outside_of (setup_of s) f e)) run.normal e _ _ _ (ones run.queue) runs)

turn_twos : (s : Session) (f : TurnFound) (e : Turn) (run : Run) → twos (with_turn s f e run).queue ≡ twos run.queue
unfolding with_turn
turn_twos s f e run = mutated-more _ run.queue

turned_queue : (s : Session) (found : Turn → TurnFound) (turn : Option Turn) (e : Turn) (run : Run) → turn ≡ Some e → (turned s found turn run).queue ≡ (with_turn s (found e) e run).queue
turned_queue s found turn e run is = ap (λ (t : Option Turn). (turned s found t run).queue) is

-- ## What the turn sees

least : (pushed : ℕ) (ack : Bool) → (ack ≡ false → 0 < pushed) → pushed ≤ (if ack then pushed else pushed - 1) → ack ≡ true
least pushed true some le = refl
least pushed false some le = absurd (let h = some refl in omega arith)

not_ended : (ended exits ack : Bool) → ended ≡ false → (ended || (exits && ack)) ≡ true → ack ≡ true
not_ended true exits ack e h = absurd (true≢false e)
not_ended false true ack e h = h
not_ended false false ack e h = absurd (true≢false (sym h))

by_bool : (A : Type 0) (b : Bool) → (b ≡ true → A) → (b ≡ false → A) → A
by_bool A true f g = f refl
by_bool A false f g = g refl

-- If the normal mixer has learnt that the last state is acknowledged, its turn sees it so, and its push isn't busy
pub turn_sees_ack : (cut : Bool) (s : Session) (marks : Marks) (run : Run) (round : RoundSeen) → LegalRound cut s marks run round → run.normal.ended ≡ false → KnowsAcked run → (t : TurnMade s marks run round) → (t.turn.ack ≡ true) × (t.turn.ended ≡ false → is_busy t.turn.push ≡ false)
turn_sees_ack cut s marks run round legal runs knows t =
    let e : Turn = t.turn in
    let before : Run = before_turn s run round in
    let same : before.normal ≡ run.normal = before_normal s run round in
    let first_ones : ones before.queue ≡ ones run.queue = cycles_ones s (early_of run round) (with_calls round run) ∙ ap ones (calls_queue round run) in
    let first_twos = cycles_twos s (early_of run round) (with_calls round run) in
    let turn_q : (after_turn s run round).queue ≡ (with_turn s (found_in s run round e) e before).queue = turned_queue s (found_in s run round) round.turn e before t.is in
    let list0 = turn_list s (found_in s run round e) e before (ap (λ (m : NormalKept). m.ended) same ∙ runs) in
    let list : TurnList run.normal e (ones run.queue) (ones (with_turn s (found_in s run round e) e before).queue) = subst (λ (x : NormalKept × List (MutatorEvent Item)). TurnList x.0 e x.1 (ones (with_turn s (found_in s run round e) e before).queue)) (λ i. (same i, first_ones i)) list0 in
    let goes = turn_met s run round in
    let all_ones : ones (met_after s run round).queue ≡ ones run.queue ++ mutator.SawAck (number_seen run.normal e.ack) list.back ∷ (list.rest ++ goes.edits) =
    goes.mutated ∙ ap (λ l. l ++ goes.edits) (ap ones turn_q ∙ list.whole) ∙ append_assoc (ones run.queue) (mutator.SawAck (number_seen run.normal e.ack) list.back ∷ list.rest) goes.edits in
    let all_twos : twos (met_after s run round).queue ≡ twos run.queue ++ (first_twos.0 ++ goes.looks) =
    goes.observed ∙ ap (λ l. l ++ goes.looks) (ap twos turn_q ∙ turn_twos s (found_in s run round e) e before ∙ first_twos.1 ∙ ap (λ q. twos q ++ first_twos.0) (calls_queue round run)) ∙ append_assoc (twos run.queue) first_twos.0 goes.looks in
    let first : FastState = initial (cycle_frames s) in
    let history : queued.HasStateHistory first (ones run.queue ++ mutator.SawAck (number_seen run.normal e.ack) list.back ∷ (list.rest ++ goes.edits)) (twos run.queue ++ (first_twos.0 ++ goes.looks)) =
    subst (λ (x : List (MutatorEvent Item) × List (ObserverEvent Item)). queued.HasStateHistory first x.0 x.1) (λ i. (all_ones i, all_twos i)) legal.histories.shared.queue in
    let low = look_acked first (twos run.queue) (first_twos.0 ++ goes.looks) (ones run.queue) (list.rest ++ goes.edits) (number_seen run.normal e.ack) list.back knows.count history knows.learnt knows.within in
    let acked = knows.acked in
    let sees : e.ack ≡ true = by_bool (e.ack ≡ true) e.ended (λ gone. not_ended run.normal.ended _ e.ack runs (sym t.by.legal.ends ∙ gone)) (λ open_is. least run.normal.pushed e.ack (t.by.legal.goes_on open_is).ack (omega arith)) in (
      sees,
      λ open_is. by_bool (is_busy e.push ≡ false) (is_busy e.push)
          (λ b. let again = list.busy b open_is in
          let moved : ones run.queue ++ mutator.SawAck (number_seen run.normal e.ack) list.back ∷ (list.rest ++ goes.edits) ≡ (ones run.queue ++ mutator.SawAck (number_seen run.normal e.ack) list.back ∷ []) ++ mutator.SawAck (run.normal.pushed - 1) again.0 ∷ goes.edits =
          ap (λ l. ones run.queue ++ mutator.SawAck (number_seen run.normal e.ack) list.back ∷ (l ++ goes.edits)) again.1 ∙ sym (append_assoc (ones run.queue) (mutator.SawAck (number_seen run.normal e.ack) list.back ∷ []) (mutator.SawAck (run.normal.pushed - 1) again.0 ∷ goes.edits)) in
          let lower = look_acked first (twos run.queue) (first_twos.0 ++ goes.looks) (ones run.queue ++ mutator.SawAck (number_seen run.normal e.ack) list.back ∷ []) goes.edits (run.normal.pushed - 1) again.0 knows.count
          (subst (λ (l : List (MutatorEvent Item)). queued.HasStateHistory first l (twos run.queue ++ (first_twos.0 ++ goes.looks))) moved history) (stands-more (mutator.Learn knows.count) (ones run.queue) (mutator.SawAck (number_seen run.normal e.ack) list.back ∷ []) knows.learnt) knows.within in
          let some : 0 < run.normal.pushed = busy_some e.push (after_edits (setup_of s) (learnt t.by.outside) e run.normal) (t.by.legal.goes_on open_is).push b (after_pushes (setup_of s) (learnt t.by.outside) e run.normal).0 in
          absurd (omega arith))
          (λ f. f),
    )
  where
    busy_some : (push : Push) (x : NormalKept) → LegalPush x push → is_busy push ≡ true → x.pushed ≡ run.normal.pushed → 0 < run.normal.pushed
    busy_some (Pushed number) x l b e = absurd (true≢false (sym b))
    busy_some Clean x l b e = absurd (true≢false (sym b))
    busy_some (Busy seen expected) x l b e = let h = l.1 in omega arith
