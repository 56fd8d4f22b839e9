-- All cycles of a fast turn find the same state, if the queue is as told; so they leave the blocks of a turn run in phases.
use Rattle.std.proofs.Common.{◌≡◌, ℕ, ◌==◌, nat_le, Bool, true, false, if◌then◌else◌, fold, map, List, [], ◌∷◌, ◌++◌, length, Some, None, refl, sym, ap, ◌∙◌, subst, append_assoc, append-nil}
use Rattle.af_turn_law.proofs.Common.{EntrySeen, FastState, Item, Legal, LegalAlone, Marks, ObserverEvent, QueuePoint, QueueTold, Run, Session, cycle_alone, cycle_frames, initial, items_of, met, observer_does, one, ones, poll_events, state_at, two, twos, with_mix, with_poll}
use Rattle.af_model.specs.declared.states.MutatorEvent.TheVariants as mutator
use Rattle.af_model.specs.declared.states.ObserverEvent.TheVariants as observer
use Rattle.af_model.specs.Order.{point_after}
use Rattle.af_model.specs.StateQueue as queued
use Rattle.af_turn_law.proofs.RunBlocks.{RunReady, RunDone, nothing_done, alone_pushed, cycle_first, cycle_again}

-- ## Orders in parts

module _ {P E : Type 0} (legal : P → E → Type 0) (next : P → E → P) where
  pub legal_parts : (p : P) (xs ys : List E) → Legal legal next p (xs ++ ys) → Legal legal next p xs × Legal legal next (point_after legal next p xs) ys
  legal_parts p [] ys l = (tt, l)
  legal_parts p (x ∷ xs) ys l = let r = legal_parts (next p x) xs ys l.1 in ((l.0, r.0), r.1)

  pub after_parts : (p : P) (xs ys : List E) → point_after legal next p (xs ++ ys) ≡ point_after legal next (point_after legal next p xs) ys
  after_parts p [] ys = refl
  after_parts p (x ∷ xs) ys = after_parts (next p x) xs ys

-- ## What the polls see

module _ (s : Session) where
  abbrev pub begin : QueuePoint Item
  begin = queued.start_of_queue (initial (cycle_frames s))

  abbrev pub AsTold : QueueTold → Type 0
  AsTold told = Legal queued.legal queued.next begin told

  abbrev pub point_of : QueueTold → QueuePoint Item
  point_of told = point_after queued.legal queued.next begin told

  -- how many states were pushed
  abbrev pub pushed_in : QueueTold → ℕ
  pushed_in told = (point_of told).mutator.pushed

  -- what a cycle adds to the queue
  abbrev polled_by : Run → ℕ → QueueTold
  polled_by run k = let q = observer_does (poll_events (cycle_frames s) run.states run.current k) run.queue in
      map two (poll_events (cycle_frames s) run.states run.current k) ++ one (mutator.Learn (length (twos q))) ∷ two (observer.Learn (length (ones q))) ∷ []

  cycle_queue : (run : Run) (e : EntrySeen) → (cycle_alone s run e).queue ≡ run.queue ++ polled_by run e.entry.state
  unfolding with_poll with_mix met
  cycle_queue run e = append_assoc run.queue (map two (poll_events (cycle_frames s) run.states run.current e.entry.state)) _

  cycles_queue : (entries : List EntrySeen) (run : Run) → (rest : QueueTold) × ((fold (cycle_alone s) run entries).queue ≡ run.queue ++ rest)
  cycles_queue [] run = ([], sym (append-nil run.queue))
  cycles_queue (e ∷ entries) run =
      let r = cycles_queue entries (cycle_alone s run e) in
      (polled_by run e.entry.state ++ r.0, r.1 ∙ ap (λ (q : QueueTold). q ++ r.0) (cycle_queue run e) ∙ append_assoc run.queue (polled_by run e.entry.state) r.0)

  -- a poll sees the last state pushed, and pushes none
  poll_sees : (q : QueuePoint Item) (frames : ℕ) (states : List FastState) (c k m n : ℕ) → let tail = one (mutator.Learn m) ∷ two (observer.Learn n) ∷ [] in Legal queued.legal queued.next q (map two (poll_events frames states c k) ++ tail)
      → (k ≡ q.mutator.pushed) × ((point_after queued.legal queued.next q (map two (poll_events frames states c k) ++ tail)).mutator.pushed ≡ q.mutator.pushed)
  poll_sees q frames states c k m n l = by_same (k == c) l
    where
      events : Bool → List (ObserverEvent Item)
      events b = let x = state_at frames states k in let y = state_at frames states c in if b then observer.SawNext k None [] ∷ [] else observer.SawNext k (Some x) (items_of x y) ∷ observer.Ack k (items_of y x) ∷ []

      by_same : (b : Bool) → Legal queued.legal queued.next q (map two (events b) ++ one (mutator.Learn m) ∷ two (observer.Learn n) ∷ [])
          → (k ≡ q.mutator.pushed) × ((point_after queued.legal queued.next q (map two (events b) ++ one (mutator.Learn m) ∷ two (observer.Learn n) ∷ [])).mutator.pushed ≡ q.mutator.pushed)
      by_same true l = (l.0.0, refl)
      by_same false l = (l.0.0, refl)

  cycle_sees : (run : Run) (e : EntrySeen) → AsTold (cycle_alone s run e).queue → (e.entry.state ≡ pushed_in run.queue) × (pushed_in (cycle_alone s run e).queue ≡ pushed_in run.queue)
  cycle_sees run e l =
      let k = e.entry.state in
      let q = observer_does (poll_events (cycle_frames s) run.states run.current k) run.queue in
      let parts = legal_parts queued.legal queued.next begin run.queue (polled_by run k) (subst AsTold (cycle_queue run e) l) in
      let sees = poll_sees (point_of run.queue) (cycle_frames s) run.states run.current k (length (twos q)) (length (ones q)) parts.1 in
      (sees.0, ap pushed_in (cycle_queue run e) ∙ ap (λ (z : QueuePoint Item). z.mutator.pushed) (after_parts queued.legal queued.next begin run.queue (polled_by run k)) ∙ sees.1)

  -- all entries are of this state
  abbrev pub AllFind : ℕ → List EntrySeen → Type 0
  AllFind m [] = Unit {0}
  AllFind m (e ∷ entries) = (e.entry.state ≡ m) × AllFind m entries

  pub all_find : (entries : List EntrySeen) (run : Run) (m : ℕ) → pushed_in run.queue ≡ m → AsTold (fold (cycle_alone s) run entries).queue → AllFind m entries
  all_find [] run m is l = tt
  all_find (e ∷ entries) run m is l =
      let rest = cycles_queue entries (cycle_alone s run e) in
      let now = (legal_parts queued.legal queued.next begin (cycle_alone s run e).queue rest.0 (subst AsTold rest.1 l)).0 in
      let sees = cycle_sees run e now in
      (sees.0 ∙ is, all_find entries (cycle_alone s run e) m (sees.1 ∙ is) l)

  -- ## The cycles of a turn

  -- after a cycle that found the state, another one finds the same
  pub same_current : (run : Run) (e : EntrySeen) (m : ℕ) → e.entry.state ≡ m → (with_poll s m (cycle_alone s run e)).current ≡ (cycle_alone s run e).current
  unfolding with_poll with_mix met
  same_current run e m is =
      ap (λ k. if nat_le m (length run.states) then m else if nat_le k (length run.states) then k else run.current) is ∙ by_low (nat_le m (length run.states)) ∙ ap (λ k. if nat_le k (length run.states) then k else run.current) (sym is)
    where
      by_low : (b : Bool) → (if b then m else if b then m else run.current) ≡ (if b then m else run.current)
      by_low true = refl
      by_low false = refl

  later_cycles : (marks : Marks) (entries : List EntrySeen) (run : Run) (m : ℕ) → (with_poll s m run).current ≡ run.current → AllFind m entries → LegalAlone s marks run entries → RunDone s run → RunDone s (fold (cycle_alone s) run entries)
  later_cycles marks [] run m same find legal h = h
  later_cycles marks (e ∷ entries) run m same find legal h =
      later_cycles marks entries (cycle_alone s run e) m (same_current run e m find.0) find.1 legal.1 (cycle_again s run e (alone_pushed s marks run e legal.0) (ap (λ k. (with_poll s k run).current) find.0 ∙ same) h)

  pub all_cycles : (marks : Marks) (entries : List EntrySeen) (run : Run) (m : ℕ) → AllFind m entries → LegalAlone s marks run entries → RunReady s run → RunDone s (fold (cycle_alone s) run entries)
  all_cycles marks [] run m find legal h = nothing_done s run h
  all_cycles marks (e ∷ entries) run m find legal h = later_cycles marks entries (cycle_alone s run e) m (same_current run e m find.0) find.1 legal.1 (cycle_first s run e (alone_pushed s marks run e legal.0) h)
