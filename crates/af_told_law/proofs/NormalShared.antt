-- After a turn of the normal mixer the run with this turn tells the ends of the queue, the report and the pipe, and both mixers, but for the load of the report, and the queue is known again.
use Rattle.std.proofs.Common.{Bool, List, Option, [], ap, append-nil, arith, false, if◌then◌else◌, is_some, length, not, refl, slice_get, subst, sym, true, true≢false, ℕ, ◌&&◌, ◌++◌, ◌+◌, ◌<◌, ◌==◌, ◌∙◌, ◌∷◌, ◌≡◌, ◌≤◌}
use Rattle.af_told_law.proofs.Common.{Busy, Clean, FastState, IsLegal, Item, KeepsMutator, LegalPush, MutatorEvent, NormalKept, NormalState, Outside, Push, Pushed, QueueTold, Run, ServerState, Session, SessionState, Setup, Turn, TurnFound, after_edits, brought_by, cycle_frames, ended_turn, going, initial, is_pushed, items_of, kept_of, learnt, length-append, mutator_does, mutator_list, number_seen, ones, outside_of, pipe_cells, push_list, pushed_states, put_by, setup_of as mixer_setup, state_at, state_next, track_count, turn_after, turn_of, twos, unwrap_or, with_turn}
use Rattle.af_model.specs.declared.states.MutatorEvent.TheVariants as mutator
use Rattle.af_runs.specs.Sessions.{setup_of}
use Rattle.af_told_law.specs.NormalLaws.{ShowsFront}
use Rattle.af_told_law.specs.QueueTurned.{QueueKnown}
use Rattle.af_told_law.proofs.TurnQueue.{MutatorGoes, known_after, list_told, state_first}
use Rattle.af_told_law.specs.Tells.{Tells, TellsFast, TellsNormal, TellsShared}
use Rattle.af_told_law.proofs.NormalSteps.{all_push}
use Rattle.af_told_law.proofs.TurnShared.{pipe_puts, pipe_takes}
use Rattle.af_told_law.specs.Deeds.{Deeds}
use Rattle.af_judge.proofs.QueueSteps.{twos_stay}

-- ## States pushed

pushed_parts : (xs ys : List (MutatorEvent ServerState)) → pushed_states (xs ++ ys) ≡ pushed_states xs ++ pushed_states ys
pushed_parts [] ys = refl
pushed_parts (mutator.Push k x items ∷ xs) ys = ap (λ (l : List FastState). x ∷ l) (pushed_parts xs ys)
pushed_parts (mutator.SawAck a items ∷ xs) ys = pushed_parts xs ys
pushed_parts (mutator.Learn c ∷ xs) ys = pushed_parts xs ys

pushed_in : (m : NormalKept) (push : Push) (again sent : List (Option ServerState)) → pushed_states (push_list m push again sent) ≡ (if is_pushed push then m.draft ∷ [] else [])
pushed_in m Clean again sent = refl
pushed_in m (Busy seen expected) again sent = refl
pushed_in m (Pushed number) again sent = by_first (m.pushed == 0)
  where
    by_first : (b : Bool) → pushed_states ((if b then [] else mutator.SawAck m.pushed again ∷ []) ++ mutator.Push number m.draft sent ∷ []) ≡ m.draft ∷ []
    by_first true = refl
    by_first false = refl

-- the state of the last number is the last one
state_last : (frames : ℕ) (states : List FastState) (x : FastState) → state_at frames (states ++ x ∷ []) (length (states ++ x ∷ [])) ≡ x
state_last frames states x = ap (state_at frames (states ++ x ∷ [])) (length-append states (x ∷ [])) ∙ ap (λ (o : Option FastState). unwrap_or o (initial frames)) (state_next states x)

-- ## The turn

module _ (s : Session) (run : Run) {d : Deeds} (x : SessionState) (n : NormalState) (o : Outside) (f : TurnFound) (told : Tells s run d x) (legal : IsLegal o x.normal n) (front : ShowsFront (setup_of s) x.normal n (turn_of n.entry))
    (known : QueueKnown (cycle_frames s) run x.normal) (lives : x.normal.ended ≡ false) (cells : x.normal.pipe.pass.part.shape.cells ≡ pipe_cells (setup_of s)) where
  abbrev e : Turn
  e = turn_of n.entry

  abbrev p : Outside
  p = outside_of (setup_of s) f e

  abbrev c : Setup
  c = mixer_setup x.normal

  abbrev m : NormalKept
  m = kept_of x.normal

  abbrev after : Run
  after = with_turn s f e run

  -- the mixer after the turn, but for the load of the report
  abbrev unread : NormalState
  unread = record n { reader = x.normal.reader }

  abbrev many : ℕ
  many = length run.states

  abbrev edits : NormalKept
  edits = after_edits c (learnt p) e m

  ended_is : e.ended ≡ true → e ≡ ended_turn
  ended_is = legal.legal.still

  still_end : e.ended ≡ true → (is_pushed e.push ≡ false) × (e.ack ≡ true)
  still_end over = let is = ended_is over in (ap (λ (t : Turn). is_pushed t.push) is, ap (λ (t : Turn). t.ack) is)

  runs_where : is_pushed e.push ≡ true → e.ended ≡ false
  runs_where pushes = by_end e.ended refl
    where
      by_end : (b : Bool) → e.ended ≡ b → e.ended ≡ false
      by_end true over = absurd (true≢false (sym pushes ∙ (still_end over).0))
      by_end false is = is

  some : e.ack ≡ false → 0 < many
  some older = by_end e.ended refl
    where
      by_end : (b : Bool) → e.ended ≡ b → 0 < many
      by_end true over = absurd (true≢false (sym (still_end over).1 ∙ older))
      by_end false is = let few = (legal.legal.goes_on is).ack older in let number = told.normal.number in omega (arith, few, number)

  module _ (goes : MutatorGoes o x.normal n e) (first : n.mutator.past.first ≡ x.normal.mutator.past.first)
      (shown : is_pushed e.push ≡ true → (n.mutator.past.number ≡ x.normal.mutator.past.number + 1) × (n.mutator.past.last ≡ (after_edits c (learnt o) e m).draft))
      (still : is_pushed e.push ≡ false → (n.mutator.past.number ≡ x.normal.mutator.past.number) × (n.mutator.past.last ≡ x.normal.mutator.past.last))
      (edits_same : e.ended ≡ false → after_edits c (learnt o) e m ≡ edits)
      (lists_same : (back again sent : List (Option Item)) → mutator_list c (learnt o) m e back again sent ≡ mutator_list c (learnt p) m e back again sent) where
    draft_is : is_pushed e.push ≡ true → n.mutator.past.last ≡ edits.draft
    draft_is pushes = (shown pushes).1 ∙ ap (λ (k : NormalKept). k.draft) (edits_same (runs_where pushes))

    legal_push : e.ended ≡ false → LegalPush edits e.push
    legal_push is = subst (λ (k : NormalKept). LegalPush k e.push) (edits_same is) (legal.legal.goes_on is).push

    -- ## What the run has after it, over its own setup and kept values

    abbrev queue_told : QueueTold
    queue_told = mutator_does (mutator_list c (learnt p) m e (brought_by (cycle_frames s) run.states (number_seen m e.ack) run.queue) (if is_pushed e.push && not e.ack then brought_by (cycle_frames s) run.states many run.queue else [])
        (items_of edits.draft (state_at (cycle_frames s) run.states many))) run.queue

    queue_is : after.queue ≡ queue_told
    unfolding with_turn
    queue_is = λ i. mutator_does (mutator_list (sym told.normal.setup i) (learnt p) (sym told.normal.kept i) e (brought_by (cycle_frames s) run.states (number_seen (sym told.normal.kept i) e.ack) run.queue)
        (if is_pushed e.push && not e.ack then brought_by (cycle_frames s) run.states many run.queue else []) (items_of (after_edits (sym told.normal.setup i) (learnt p) e (sym told.normal.kept i)).draft (state_at (cycle_frames s) run.states many))) run.queue

    states_are : after.states ≡ run.states ++ (if is_pushed e.push then edits.draft ∷ [] else [])
    unfolding with_turn
    states_are = λ i. run.states ++ (if is_pushed e.push then (after_edits (sym told.normal.setup i) (learnt p) e (sym told.normal.kept i)).draft ∷ [] else [])

    mutator_told : KeepsMutator after n.mutator.past.events
    mutator_told = list_told (cycle_frames s) run o p x.normal n e goes known told.shared.mutator told.normal.number told.normal.last lives some draft_is lists_same ∙ ap (λ (q : QueueTold). ones q) (sym queue_is)

    pub known_turned : QueueKnown (cycle_frames s) after n
    known_turned = known_after (cycle_frames s) run o p x.normal n e goes known told.shared.mutator told.normal.number told.normal.last lives some draft_is lists_same told.normal.kept legal_push still_end (all_push c (learnt p) m e).pushed after states_are queue_is

    -- ## The pipe

    none_put : e.ended ≡ true → put_by (setup_of s) e.mixes ≡ []
    none_put over = ap (λ (t : Turn). put_by (setup_of s) t.mixes) (ended_is over)

    observer_same : twos after.queue ≡ twos run.queue
    observer_same = ap (λ (q : QueueTold). twos q) queue_is ∙ twos_stay run.queue _

    pub shared_turned : TellsShared s after unread x.fast
    unfolding with_turn
    shared_turned =
        let puts = pipe_puts s run x n o told legal front cells none_put in
        record {
          first = first ∙ told.shared.first;
          mutator = mutator_told;
          observer = told.shared.observer ∙ sym observer_same;
          reader = told.shared.reader;
          writer = told.shared.writer;
          puts = record { told = puts.0; words = puts.1 };
          takes = told.shared.takes ∙ sym (pipe_takes s run x n o told legal front cells);
          taken = told.shared.taken;
          size = told.shared.size;
        }

    -- ## The mixers

    by_push : (b : Bool) → is_pushed e.push ≡ b → (n.mutator.past.number ≡ length after.states) × (n.mutator.past.last ≡ state_at (cycle_frames s) after.states (length after.states))
    by_push true pushes =
        let more : after.states ≡ run.states ++ edits.draft ∷ [] = states_are ∙ ap (λ (b : Bool). run.states ++ (if b then edits.draft ∷ [] else [])) pushes in
        let long : length after.states ≡ many + 1 = ap (λ (l : List FastState). length l) more ∙ length-append run.states (edits.draft ∷ []) in
        let number = (shown pushes).0 in let was = told.normal.number in (
          omega (arith, long, number, was),
          draft_is pushes ∙ sym (state_last (cycle_frames s) run.states edits.draft) ∙ ap (λ (l : List FastState). state_at (cycle_frames s) l (length l)) (sym more),
        )
    by_push false none =
        let same : after.states ≡ run.states = states_are ∙ ap (λ (b : Bool). run.states ++ (if b then edits.draft ∷ [] else [])) none ∙ append-nil run.states in
        let kept = still none in (
          kept.0 ∙ told.normal.number ∙ ap (λ (l : List FastState). length l) (sym same),
          kept.1 ∙ told.normal.last ∙ ap (λ (l : List FastState). state_at (cycle_frames s) l (length l)) (sym same),
        )

    pushed_told : pushed_states n.mutator.past.events ≡ after.states
    pushed_told = ap pushed_states goes.list ∙ pushed_parts x.normal.mutator.past.events _ ∙ ap (λ (l : List FastState). l ++ pushed_states (mutator_list c (learnt o) m e goes.back goes.again goes.sent)) told.normal.states
        ∙ ap (λ (l : List FastState). run.states ++ l) (in_list ∙ ap (λ (b : Bool). if b then [] else pushed_states (going e (push_list (after_edits c (learnt o) e m) e.push goes.again goes.sent))) lives ∙ by_end e.ended refl) ∙ sym states_are
      where
        in_list : pushed_states (mutator_list c (learnt o) m e goes.back goes.again goes.sent) ≡ (if m.ended then [] else pushed_states (going e (push_list (after_edits c (learnt o) e m) e.push goes.again goes.sent)))
        in_list = by_ended m.ended
          where
            by_ended : (b : Bool) → pushed_states (if b then [] else mutator.SawAck (number_seen m e.ack) goes.back ∷ going e (push_list (after_edits c (learnt o) e m) e.push goes.again goes.sent))
                ≡ (if b then [] else pushed_states (going e (push_list (after_edits c (learnt o) e m) e.push goes.again goes.sent)))
            by_ended true = refl
            by_ended false = refl

        by_end : (b : Bool) → e.ended ≡ b → pushed_states (if b then [] else push_list (after_edits c (learnt o) e m) e.push goes.again goes.sent) ≡ (if is_pushed e.push then edits.draft ∷ [] else [])
        by_end true over = ap (λ (b : Bool). if b then edits.draft ∷ [] else []) (sym (still_end over).0)
        by_end false is = pushed_in (after_edits c (learnt o) e m) e.push goes.again goes.sent ∙ ap (λ (k : NormalKept). if is_pushed e.push then k.draft ∷ [] else []) (edits_same is)

    pub normal_turned : kept_of n ≡ turn_after (setup_of s) (learnt p) run.normal e → ((i : ℕ) → i < track_count s → is_some (slice_get n.hands i) ≡ true) → TellsNormal s after unread
    unfolding with_turn
    normal_turned kept hands = let push = by_push (is_pushed e.push) refl in record {
      setup = legal.setup ∙ told.normal.setup;
      kept = kept;
      hands = hands;
      states = pushed_told;
      number = push.0;
      last = push.1;
    }

    pub fast_turned : (x.fast.observer.past.number ≤ many) → TellsFast s after x.fast
    unfolding with_turn
    fast_turned few_polled = record {
      frames = told.fast.frames;
      cycles = told.fast.cycles;
      current = told.fast.current;
      state = told.fast.state ∙ sym (ap (λ (l : List FastState). state_at (cycle_frames s) l run.current) states_are ∙ state_first (cycle_frames s) run.states _ run.current (let is = told.fast.current in omega (arith, few_polled, is)));
      entries = told.fast.entries;
      logged = told.fast.logged;
      exited = told.fast.exited;
      reports = told.fast.reports;
      fresh = told.fast.fresh;
    }
