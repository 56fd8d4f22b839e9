-- The queue of a run: what is acknowledged, and when the normal mixer knows of it.
use Rattle.std.proofs.Common.{◌≡◌, ◌⊎◌, inl, inr, ℕ, zero, suc, ◌+◌, ◌≤◌, ◌==◌, if◌then◌else◌, Bool, true, false, true≢false, Option, Some, None, List, [], ◌∷◌, ◌++◌, length, take, fold, refl, sym, ap, ◌∙◌, subst, arith, length-append, eqb-true}
use Rattle.af_enough_law.proofs.Common.{AreMixedBut, Busy, Clean, EntrySeen, FastState, Item, Learnt, LegalEntries, LegalEntry, LegalRound, LegalTurnBy, Marks, MatchBool, MatchOption, NormalKept, ObserverEvent, ObserverPoint, Push, Pushed, QueueTold, RoundSeen, Run, Session, Setup, Turn, TurnFound, after_edits, after_push, after_round, after_takes, after_turn, all_played, before_turn, cycle_frames, draft_after, early_count, early_of, fast_ended, fold-append, found_in, is_pushed, items_of, late_of, le-leb, learnt, met_after, new_run, observed, observer_next, observer_start, one, ones, outside_of, poll_events, pushed_by, setup_of, state_at, take-append-drop, take-append_seam, turn_after, turned, two, twos, with_calls, with_cycle, with_cycles, with_mix, with_poll, with_turn, last_used, twos_met, ones_met}
use Rattle.af_enough_law.proofs.Basics.{before_normal}
use Rattle.af_model.specs.declared.states.MutatorEvent.TheVariants as mutator
use Rattle.af_model.specs.declared.states.ObserverEvent.TheVariants as observer
use Rattle.af_enough_law.proofs.Acks.{KnowsAcked}
use Rattle.af_enough_law.proofs.FastWords.{AllUse, KnowsStates}
use Rattle.af_enough_law.proofs.FastCurrent.{round_current, rest_current, turn_current, legal_parts, adopted}
use Rattle.af_enough_law.proofs.FastLearns.{met_queue, ends_queue, loaded_queue}
use Rattle.af_enough_law.proofs.FastPolls.{fast_parts, parts_use, before_states, round_states}
use Rattle.af_enough_law.proofs.Drafts.{after_pushes}
use Rattle.af_enough_law.proofs.NormalRounds.{after_normal, turn_made}
use Rattle.af_enough_law.proofs.FastSteps.{cycle_queue, mutated-more}

-- the state adopted last is that of the last entry, and the one acknowledged last; and the mixer counts the states that it pushed
pub record QueueStands (run : Run) : Type 0 where
  pub current : run.current ≡ last_used run.entries
  pub acked : (observed (twos run.queue)).acked ≡ run.current
  pub pushed : run.normal.pushed ≡ length run.states

-- ## What is acknowledged

abbrev pub IsAcked : Run → Type 0
IsAcked run = (observed (twos run.queue)).acked ≡ run.current

-- a poll adopts and acknowledges
poll_acks : (p : ObserverPoint Item) (frames : ℕ) (states : List FastState) (c k : ℕ) → p.acked ≡ c → (fold observer_next p (poll_events frames states c k)).acked ≡ k
poll_acks p frames states c k same = by (k == c) refl
  where
    by : (b : Bool) → (k == c) ≡ b
        → (fold observer_next p (if b then observer.SawNext k None [] ∷ [] else observer.SawNext k (Some (state_at frames states k)) (items_of (state_at frames states k) (state_at frames states c)) ∷ observer.Ack k (items_of (state_at frames states c) (state_at frames states k)) ∷ [])).acked ≡ k
    by true is = same ∙ sym (eqb-true k c is)
    by false is = refl

pub current_of : (s : Session) (marks : Marks) (run : Run) (e : EntrySeen) → LegalEntry s marks (with_poll s e.entry.state run) e → (with_cycle s run e).current ≡ e.entry.state
unfolding with_poll with_mix
current_of s marks run e legal = adopted _ e.entry.state run.current (le-leb e.entry.state _ legal.cycle.pushed)

cycle_acked : (s : Session) (marks : Marks) (run : Run) (e : EntrySeen) → LegalEntry s marks (with_poll s e.entry.state run) e → IsAcked run → IsAcked (with_cycle s run e)
cycle_acked s marks run e legal is =
    let events = poll_events (cycle_frames s) run.states run.current e.entry.state in
    ap (λ l. (observed l).acked) (cycle_queue s run e) ∙ ap (λ (p : ObserverPoint Item). p.acked) (fold-append observer_next observer_start (twos run.queue) events)
    ∙ poll_acks (observed (twos run.queue)) (cycle_frames s) run.states run.current e.entry.state is ∙ sym (current_of s marks run e legal)

cycles_acked : (s : Session) (marks : Marks) (es : List EntrySeen) (run : Run) → LegalEntries s marks run es → IsAcked run → IsAcked (with_cycles s es run)
cycles_acked s marks [] run legal is = is
cycles_acked s marks (e ∷ es) run legal is = cycles_acked s marks es (with_cycle s run e) legal.1 (cycle_acked s marks run e legal.0 is)

calls_acked : (round : RoundSeen) (run : Run) → IsAcked run → IsAcked (with_calls round run)
unfolding with_calls
calls_acked round run is = is

turn_acked : (s : Session) (f : TurnFound) (e : Turn) (run : Run) → IsAcked run → IsAcked (with_turn s f e run)
unfolding with_turn
turn_acked s f e run is = ap (λ l. (observed l).acked) (mutated-more _ run.queue) ∙ is

turned_acked : (s : Session) (found : Turn → TurnFound) (o : Option Turn) (run : Run) → IsAcked run → IsAcked (turned s found o run)
turned_acked s found None run is = is
turned_acked s found (Some e) run is = turn_acked s (found e) e run is

-- all that was played in a round is acknowledged
pub played_acked : (s : Session) (marks : Marks) (run : Run) (round : RoundSeen) → LegalRound false s marks run round → IsAcked run → IsAcked (with_cycles s (late_of run round) (after_turn s run round))
played_acked s marks run round legal is =
    let p = legal_parts (fast_ended run) s marks run round legal.turns.fast in
    cycles_acked s marks (late_of run round) (after_turn s run round) p.1
    (turned_acked s (found_in s run round) round.turn (before_turn s run round) (cycles_acked s marks (early_of run round) (with_calls round run) p.0 (calls_acked round run is)))

-- ## What is pushed

push_by : (push : Push) (x : NormalKept) (draft : FastState) → (after_push push x).pushed ≡ x.pushed + length (if is_pushed push then draft ∷ [] else [])
push_by (Pushed number) x draft = refl
push_by Clean x draft = omega arith
push_by (Busy seen expected) x draft = omega arith

turn_pushed : (c : Setup) (k : Learnt) (m : NormalKept) (e : Turn) (draft : FastState) → (e.ended ≡ true → is_pushed e.push ≡ false) → (turn_after c k m e).pushed ≡ m.pushed + length (if is_pushed e.push then draft ∷ [] else [])
unfolding turn_after
turn_pushed c k m e draft none = by e.ended none
  where
    x : NormalKept
    x = after_edits c k e m

    still : (b : Bool) → b ≡ false → m.pushed ≡ m.pushed + length (if b then draft ∷ [] else [])
    still true is = absurd (true≢false is)
    still false is = omega arith

    by : (b : Bool) → (b ≡ true → is_pushed e.push ≡ false) → (if b then record m { ended = true } else after_takes c e.mixes (after_push e.push x)).pushed ≡ m.pushed + length (if is_pushed e.push then draft ∷ [] else [])
    by true h = still (is_pushed e.push) (h refl)
    by false h = push_by e.push x draft ∙ ap (λ n. n + length (if is_pushed e.push then draft ∷ [] else [])) (after_pushes c k e m).0

pub states_turned : (s : Session) (found : Turn → TurnFound) (o : Option Turn) (e : Turn) (run : Run) → o ≡ Some e
    → (turned s found o run).states ≡ run.states ++ pushed_by (setup_of s) (outside_of (setup_of s) (found e) e) run.normal e
unfolding with_turn
states_turned s found o e run is = ap (λ (t : Option Turn). (turned s found t run).states) is

pub states_still : (s : Session) (found : Turn → TurnFound) (o : Option Turn) (run : Run) → o ≡ None → (turned s found o run) ≡ run
states_still s found o run is = ap (λ (t : Option Turn). turned s found t run) is

pub round_pushed : (s : Session) (marks : Marks) (run : Run) (round : RoundSeen) → LegalRound false s marks run round → run.normal.pushed ≡ length run.states → (after_round s run round).normal.pushed ≡ length (after_round s run round).states
round_pushed s marks run round legal same = by run.normal.ended refl
  where
    before : Run
    before = before_turn s run round

    by : (b : Bool) → run.normal.ended ≡ b → (after_round s run round).normal.pushed ≡ length (after_round s run round).states
    by true is =
        let none : round.turn ≡ None = subst (λ (b : Bool). MatchBool b (round.turn ≡ None) (MatchOption round.turn ⊥ (λ e. LegalTurnBy (setup_of s) marks (found_in s run round e) run.normal e))) is legal.turns.normal in
        let still = states_still s (found_in s run round) round.turn before none in
        ap (λ (m : NormalKept). m.pushed) (after_normal s run round ∙ ap (λ (r : Run). r.normal) still ∙ before_normal s run round) ∙ same
        ∙ ap length (sym (round_states s run round ∙ ap (λ (r : Run). r.states) still ∙ before_states s run round))
    by false is =
        let t = turn_made false s marks run round legal is in
        let c = setup_of s in
        let o = outside_of c (found_in s run round t.turn) t.turn in
        let draft : FastState = draft_after c o before.normal t.turn in
        let none : t.turn.ended ≡ true → is_pushed t.turn.push ≡ false = λ gone. ap (λ (x : Turn). is_pushed x.push) (t.by.legal.still gone) in
        let states : (after_round s run round).states ≡ before.states ++ (if is_pushed t.turn.push then draft ∷ [] else []) = round_states s run round ∙ states_turned s (found_in s run round) round.turn t.turn before t.is in
        let long : length (before.states ++ (if is_pushed t.turn.push then draft ∷ [] else [])) ≡ length before.states + length (if is_pushed t.turn.push then draft ∷ [] else []) = length-append before.states (if is_pushed t.turn.push then draft ∷ [] else []) in
        ap (λ (m : NormalKept). m.pushed) t.after ∙ turn_pushed c (learnt t.by.outside) run.normal t.turn draft none
        ∙ ap (λ n. n + length (if is_pushed t.turn.push then draft ∷ [] else [])) (same ∙ ap length (sym (before_states s run round))) ∙ sym long ∙ ap length (sym states)

-- ## The round

queue_after : (s : Session) (run : Run) (round : RoundSeen) → (let told = (with_cycles s (late_of run round) (after_turn s run round)).queue in (after_round s run round).queue ≡ told ++ one (mutator.Learn (length (twos told))) ∷ two (observer.Learn (length (ones told))) ∷ [])
queue_after s run round =
    let late : Run = with_cycles s (late_of run round) (after_turn s run round) in
    ends_queue (met_after s run round) ∙ met_queue s (all_played s run round) ∙ ap (λ (told : QueueTold). told ++ one (mutator.Learn (length (twos told))) ∷ two (observer.Learn (length (ones told))) ∷ []) (loaded_queue round.turn late)

observed_learn : (es : List (ObserverEvent Item)) (n : ℕ) → (observed (es ++ observer.Learn n ∷ [])).acked ≡ (observed es).acked
observed_learn es n = ap (λ (p : ObserverPoint Item). p.acked) (fold-append observer_next observer_start es (observer.Learn n ∷ []))

-- what stands of the queue stands after each legal round
pub queue_stands : (s : Session) (marks : Marks) (run : Run) (round : RoundSeen) → LegalRound false s marks run round → QueueStands run → QueueStands (after_round s run round)
queue_stands s marks run round legal q =
    let late : Run = with_cycles s (late_of run round) (after_turn s run round) in
    let told : QueueTold = late.queue in
    let after : Run = after_round s run round in
    let looks : twos after.queue ≡ twos told ++ observer.Learn (length (ones told)) ∷ [] = ap twos (queue_after s run round) ∙ twos_met told (mutator.Learn (length (twos told))) (observer.Learn (length (ones told))) in
    record {
      current = round_current s marks run round legal q.current;
      acked = ap (λ l. (observed l).acked) looks ∙ observed_learn (twos told) (length (ones told)) ∙ played_acked s marks run round legal q.acked ∙ sym (rest_current s run round);
      pushed = round_pushed s marks run round legal q.pushed;
    }

-- how the queue stands before the first round
pub new_stands : (s : Session) → QueueStands (new_run s)
new_stands s = record { current = refl; acked = refl; pushed = refl }

-- entries that use no state before a number leave none before it current
used_low : (s : Session) (marks : Marks) (n high : ℕ) (es : List EntrySeen) (run : Run) → AllUse n high es → LegalEntries s marks run es → (n ≤ run.current) ⊎ (1 ≤ length es) → n ≤ (with_cycles s es run).current
used_low s marks n high [] run uses legal (inl low) = low
used_low s marks n high [] run uses legal (inr some) = absurd (let z : ⊥ = omega (arith, some) in z)
used_low s marks n high (e ∷ es) run uses legal h = used_low s marks n high es (with_cycle s run e) uses.2 legal.1 (inl (let a = current_of s marks run e legal.0 in let b = uses.0 in omega (arith, a, b)))

pub some_entry : (P : EntrySeen → Type 0) (es : List EntrySeen) → AreMixedBut P es → 1 ≤ length es
some_entry P [] h = absurd h
some_entry P (e ∷ es) h = omega arith

pub some_part : (a b : ℕ) → 1 ≤ a + b → (1 ≤ a) ⊎ (1 ≤ b)
some_part zero b is = inr (omega (arith, is))
some_part (suc a) b is = inl (omega arith)

-- a round adopts and acknowledges all that was pushed before it
pub acks_states : (s : Session) (marks : Marks) (run : Run) (round : RoundSeen) → LegalRound false s marks run round → fast_ended run ≡ false → KnowsStates s run → length run.states ≤ (after_round s run round).current
acks_states s marks run round legal going knows =
    let parts = fast_parts s marks run round legal going in
    let uses = parts_use s marks run round legal going knows in
    let n : ℕ = length run.states in
    let called : Run = with_calls round run in
    let before : Run = before_turn s run round in
    let turn : Run = after_turn s run round in
    let late : Run = with_cycles s (late_of run round) turn in
    let cut : early_of run round ++ late_of run round ≡ round.entries = take-append-drop (early_count run round) round.entries in
    let some = some_entry _ round.entries parts.turn.1 in
    let sum : length (early_of run round) + length (late_of run round) ≡ length round.entries = sym (length-append (early_of run round) (late_of run round)) ∙ ap length cut in
    let low : n ≤ late.current = by n called turn (some_part (length (early_of run round)) (length (late_of run round)) (omega (arith, some, sum)))
    (λ h. let a = used_low s marks n n (early_of run round) called uses.early parts.early (inr h) in let b = turn_current s run round in omega (arith, a, b))
    (λ h. used_low s marks n (length turn.states) (late_of run round) turn uses.late parts.late h) in
    let rest = rest_current s run round in omega (arith, low, rest)
  where
    by : {a b c : ℕ} (n : ℕ) (called turn : Run) → (1 ≤ a) ⊎ (1 ≤ b) → (1 ≤ a → n ≤ turn.current) → ((n ≤ turn.current) ⊎ (1 ≤ b) → n ≤ c) → n ≤ c
    by n called turn (inl h) first last = last (inl (first h))
    by n called turn (inr h) first last = last (inr h)

-- If the last state was adopted, the normal mixer knows after the round that it is acknowledged
pub knows_by : (s : Session) (marks : Marks) (run : Run) (round : RoundSeen) → LegalRound false s marks run round → QueueStands run → length (after_round s run round).states ≤ (after_round s run round).current → KnowsAcked (after_round s run round)
knows_by s marks run round legal q low =
    let late : Run = with_cycles s (late_of run round) (after_turn s run round) in
    let told : QueueTold = late.queue in
    let after : Run = after_round s run round in
    let stands = queue_stands s marks run round legal q in
    let edits : ones after.queue ≡ ones told ++ mutator.Learn (length (twos told)) ∷ [] = ap ones (queue_after s run round) ∙ ones_met told (mutator.Learn (length (twos told))) (observer.Learn (length (ones told))) in
    let looks : twos after.queue ≡ twos told ++ observer.Learn (length (ones told)) ∷ [] = ap twos (queue_after s run round) ∙ twos_met told (mutator.Learn (length (twos told))) (observer.Learn (length (ones told))) in
    let front : (observed (take (length (twos told)) (twos after.queue))).acked ≡ after.current =
    ap (λ l. (observed (take (length (twos told)) l)).acked) looks ∙ ap (λ l. (observed l).acked) (take-append_seam (twos told) (observer.Learn (length (ones told)) ∷ [])) ∙ played_acked s marks run round legal q.acked ∙ sym (rest_current s run round) in
    let is = stands.pushed in
    record {
      count = length (twos told);
      learnt = record { before = ones told; behind = []; whole = edits };
      within = (let a = ap length looks in let b = length-append (twos told) (observer.Learn (length (ones told)) ∷ []) in omega arith);
      acked = omega (arith, front, is, low);
    }

-- After a round that pushes no state the normal mixer knows that the last one is acknowledged
pub knows_acked : (s : Session) (marks : Marks) (run : Run) (round : RoundSeen) → LegalRound false s marks run round → fast_ended run ≡ false → KnowsStates s run → QueueStands run
    → length (after_round s run round).states ≡ length run.states → KnowsAcked (after_round s run round)
knows_acked s marks run round legal going knows q pushes = knows_by s marks run round legal q (let low = acks_states s marks run round legal going knows in omega (arith, low, pushes))
