-- After a round the fast mixer knows all states that were pushed.
use Rattle.std.proofs.Common.{◌≡◌, ℕ, ◌+◌, ◌==◌, ◌&&◌, not, if◌then◌else◌, Bool, true, false, true≢false, Option, Some, None, is_some, List, [], ◌∷◌, ◌++◌, length, take, fold, refl, sym, ap, ◌∙◌, subst, arith, length-append}
use Rattle.af_enough_law.proofs.Common.{Busy, Clean, FastState, Item, LegalRound, LegalTurnBy, Marks, MatchBool, MatchOption, MutatorEvent, MutatorPoint, NormalKept, Outside, Push, Pushed, QueueTold, RoundSeen, Run, Session, Setup, Turn, TurnFound, after_edits, after_round, after_turn, all_played, before_turn, brought_by, cycle_frames, draft_after, each_track, early_of, ended_turn, ends, fold-append, found_in, initial, is_pushed, items_of, late_of, learnt, loaded, met, met_after, mutator_does, mutator_list, mutator_next, mutator_start, new_run, number_seen, one, ones, outside_of, push_list, pushed_by, setup_of, state_at, take-append_seam, turned, two, twos, with_calls, with_cycles, with_ends, with_load, with_turn, twos_met, ones_met}
use Rattle.af_enough_law.proofs.Basics.{before_normal}
use Rattle.af_model.specs.declared.states.MutatorEvent.TheVariants as mutator
use Rattle.af_model.specs.declared.states.ObserverEvent.TheVariants as observer
use Rattle.af_model.specs.StateQueue as queued
use Rattle.af_model.specs.StateQueue.{mutated}
use Rattle.af_enough_law.proofs.FastWords.{KnowsStates, CountsStates}
use Rattle.af_enough_law.proofs.FastPolls.{AllNext, all_next, next_rest, turn_met, before_states, round_states}
use Rattle.af_enough_law.proofs.FastSteps.{mutated-ones}
use Rattle.af_enough_law.proofs.Acks.{cycles_ones}

-- ## The pushes of a turn

push_counts : (p : MutatorPoint Item) (m : NormalKept) (draft : FastState) (push : Push) (again sent : List (Option Item)) → AllNext p (push_list m push again sent)
    → (fold mutator_next p (push_list m push again sent)).pushed ≡ p.pushed + length (if is_pushed push then draft ∷ [] else [])
push_counts p m draft Clean again sent next = omega arith
push_counts p m draft (Busy seen expected) again sent next = omega arith
push_counts p m draft (Pushed number) again sent next = by (m.pushed == 0) next
  where
    by : (b : Bool) → AllNext p ((if b then [] else mutator.SawAck m.pushed again ∷ []) ++ mutator.Push number m.draft sent ∷ [])
        → (fold mutator_next p ((if b then [] else mutator.SawAck m.pushed again ∷ []) ++ mutator.Push number m.draft sent ∷ [])).pushed ≡ p.pushed + 1
    by true l = l.0
    by false l = l.0

turn_counts : (p : MutatorPoint Item) (ended gone : Bool) (m later : NormalKept) (draft : FastState) (push : Push) (seen : ℕ) (back again sent : List (Option Item)) → ended ≡ false → (gone ≡ true → is_pushed push ≡ false)
    → AllNext p (if ended then [] else mutator.SawAck seen back ∷ (if gone then [] else push_list later push again sent))
    → (fold mutator_next p (if ended then [] else mutator.SawAck seen back ∷ (if gone then [] else push_list later push again sent))).pushed ≡ p.pushed + length (if is_pushed push then draft ∷ [] else [])
turn_counts p true gone m later draft push seen back again sent going none next = absurd (true≢false going)
turn_counts p false true m later draft push seen back again sent going none next = let e : p.pushed ≡ p.pushed + 0 = omega arith in e ∙ ap (λ (b : Bool). p.pushed + length (if b then draft ∷ [] else [])) (sym (none refl))
turn_counts p false false m later draft push seen back again sent going none next = push_counts (mutator_next p (mutator.SawAck seen back)) later draft push again sent next

turn_counts_states : (s : Session) (f : TurnFound) (e : Turn) (run : Run) → run.normal.ended ≡ false → (e.ended ≡ true → is_pushed e.push ≡ false) → AllNext (mutator_start (initial (cycle_frames s))) (ones (with_turn s f e run).queue)
    → CountsStates s run → CountsStates s (with_turn s f e run)
unfolding with_turn
turn_counts_states s f e run going none next counts =
    let c : Setup = setup_of s in
    let o : Outside = outside_of c f e in
    let m : NormalKept = run.normal in
    let draft : FastState = draft_after c o m e in
    let back : List (Option Item) = brought_by (cycle_frames s) run.states (number_seen m e.ack) run.queue in
    let again : List (Option Item) = if is_pushed e.push && not e.ack then brought_by (cycle_frames s) run.states (length run.states) run.queue else [] in
    let sent : List (Option Item) = items_of draft (state_at (cycle_frames s) run.states (length run.states)) in
    let list : List (MutatorEvent Item) = mutator_list c (learnt o) m e back again sent in
    let start : MutatorPoint Item = mutator_start (initial (cycle_frames s)) in
    let whole : ones (mutator_does list run.queue) ≡ ones run.queue ++ list = mutated-ones list run.queue in
    let rest : AllNext (mutated (initial (cycle_frames s)) (ones run.queue)) list = (next_rest start (ones run.queue) list (subst (AllNext start) whole next)).1 in
    let now = turn_counts (mutated (initial (cycle_frames s)) (ones run.queue)) m.ended e.ended m (after_edits c (learnt o) e m) draft e.push (number_seen m e.ack) back again sent going none rest in
    let long : length (run.states ++ pushed_by c o m e) ≡ length run.states + length (pushed_by c o m e) = length-append run.states (pushed_by c o m e) in
    ap (λ l. (mutated (initial (cycle_frames s)) l).pushed) whole ∙ ap (λ (x : MutatorPoint Item). x.pushed) (fold-append mutator_next start (ones run.queue) list) ∙ now
    ∙ ap (λ n. n + length (pushed_by c o m e)) counts ∙ sym long

-- ## The round

calls_ones : (round : RoundSeen) (run : Run) → ones (with_calls round run).queue ≡ ones run.queue
unfolding with_calls
calls_ones round run = refl

load_queue : (e : Turn) (run : Run) → (with_load e run).queue ≡ run.queue
unfolding with_load
load_queue e run = refl

pub loaded_queue : (o : Option Turn) (run : Run) → (loaded o run).queue ≡ run.queue
loaded_queue None run = refl
loaded_queue (Some e) run = load_queue e run

-- a run with the same pushes and as many states
counts_same : (s : Session) (run later : Run) → ones later.queue ≡ ones run.queue → later.states ≡ run.states → CountsStates s run → CountsStates s later
counts_same s run later list states counts = ap (λ l. (mutated (initial (cycle_frames s)) l).pushed) list ∙ counts ∙ ap length (sym states)

still_none : (e : Turn) → e ≡ ended_turn → is_pushed e.push ≡ false
still_none e is = ap (λ (x : Turn). is_pushed x.push) is

turned_counts : (s : Session) (marks : Marks) (found : Turn → TurnFound) (first run : Run) (o : Option Turn) → run.normal ≡ first.normal → MatchBool first.normal.ended (o ≡ None) (MatchOption o ⊥ (λ e. LegalTurnBy (setup_of s) marks (found e) first.normal e))
    → AllNext (mutator_start (initial (cycle_frames s))) (ones (turned s found o run).queue) → CountsStates s run → CountsStates s (turned s found o run)
turned_counts s marks found first run None same legal next counts = counts
turned_counts s marks found first run (Some e) same legal next counts = by first.normal.ended refl legal
  where
    by : (b : Bool) → first.normal.ended ≡ b → MatchBool b (Some e ≡ None) (LegalTurnBy (setup_of s) marks (found e) first.normal e) → CountsStates s (with_turn s (found e) e run)
    by true is none = absurd (true≢false (ap is_some none))
    by false is l = turn_counts_states s (found e) e run (ap (λ (m : NormalKept). m.ended) same ∙ is) (λ gone. still_none e (l.legal.still gone)) next counts

pub met_queue : (s : Session) (run : Run) → (met s run).queue ≡ run.queue ++ one (mutator.Learn (length (twos run.queue))) ∷ two (observer.Learn (length (ones run.queue))) ∷ []
unfolding met
met_queue s run = refl

pub ends_queue : (run : Run) → (with_ends run).queue ≡ run.queue
unfolding with_ends
ends_queue run = by run.normal.ended (each_track (λ track t. record t { client = ends t.client }) run) refl
  where
    by : (b : Bool) (x : Run) → x.queue ≡ run.queue → (if b then x else run).queue ≡ run.queue
    by true x same = same
    by false x same = refl

-- what is known after a round
pub record Learnt (s : Session) (after : Run) : Type 0 where
  pub counts : CountsStates s after
  pub knows : KnowsStates s after

learnt_by : (s : Session) (after : Run) (told : QueueTold) → after.queue ≡ told ++ one (mutator.Learn (length (twos told))) ∷ two (observer.Learn (length (ones told))) ∷ []
    → (mutated (initial (cycle_frames s)) (ones told)).pushed ≡ length after.states → Learnt s after
learnt_by s after told is counts =
    let first : FastState = initial (cycle_frames s) in
    let edits : ones after.queue ≡ ones told ++ mutator.Learn (length (twos told)) ∷ [] = ap ones is ∙ ones_met told (mutator.Learn (length (twos told))) (observer.Learn (length (ones told))) in
    let looks : twos after.queue ≡ twos told ++ observer.Learn (length (ones told)) ∷ [] = ap twos is ∙ twos_met told (mutator.Learn (length (twos told))) (observer.Learn (length (ones told))) in
    record {
      counts = ap (λ l. (mutated first l).pushed) edits ∙ ap (λ (x : MutatorPoint Item). x.pushed) (fold-append mutator_next (mutator_start first) (ones told) (mutator.Learn (length (twos told)) ∷ [])) ∙ counts;
      knows = record {
        count = length (ones told);
        learnt = record { before = twos told; behind = []; whole = looks };
        within = (let a = ap length edits in let b = length-append (ones told) (mutator.Learn (length (twos told)) ∷ []) in omega arith);
        pushed = ap (λ l. (mutated first (take (length (ones told)) l)).pushed) edits ∙ ap (λ l. (mutated first l).pushed) (take-append_seam (ones told) (mutator.Learn (length (twos told)) ∷ [])) ∙ counts;
      };
    }

-- after a legal round all states are known
pub learns_states : (cut : Bool) (s : Session) (marks : Marks) (run : Run) (round : RoundSeen) → LegalRound cut s marks run round → CountsStates s run → Learnt s (after_round s run round)
learns_states cut s marks run round legal counts =
    let first : FastState = initial (cycle_frames s) in
    let before : Run = before_turn s run round in
    let turn : Run = after_turn s run round in
    let late : Run = with_cycles s (late_of run round) turn in
    let h = legal.histories.shared.queue in
    let all : AllNext (mutator_start first) (ones (met_after s run round).queue) = subst (AllNext (mutator_start first)) h.of_one (all_next (queued.start_of_queue first) h.order h.is_legal) in
    let goes = turn_met s run round in
    let next : AllNext (mutator_start first) (ones turn.queue) = (next_rest (mutator_start first) (ones turn.queue) goes.edits (subst (AllNext (mutator_start first)) goes.mutated all)).0 in
    let counts1 = counts_same s run before (cycles_ones s (early_of run round) (with_calls round run) ∙ calls_ones round run) (before_states s run round) counts in
    let counts2 = turned_counts s marks (found_in s run round) run before round.turn (before_normal s run round) legal.turns.normal next counts1 in
    let played : ones (all_played s run round).queue ≡ ones turn.queue = ap ones (loaded_queue round.turn late) ∙ cycles_ones s (late_of run round) turn in
    learnt_by s (after_round s run round) (all_played s run round).queue (ends_queue (met_after s run round) ∙ met_queue s (all_played s run round))
    (ap (λ l. (mutated first l).pushed) played ∙ counts2 ∙ ap length (sym (round_states s run round)))

-- before the first round there are no pushes and no states
pub new_counts : (s : Session) → CountsStates s (new_run s)
new_counts s = refl
