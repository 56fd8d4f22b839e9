-- Each step of the queue keeps its rule.
use Rattle.std.proofs.Common.{◌≡◌, ◌≢◌, ℕ, ◌+◌, ◌<◌, ◌≤◌, ◌==◌, if◌then◌else◌, Bool, true, false, true≢false, List, [], ◌∷◌, ◌++◌, length, map, drop, set, get_or, sym, refl, ap, ◌∙◌, subst, arith, length-set, length-append, Some, None, Option, eq-eqb, ne_eqb}
use Rattle.af_stateq.proofs.Common.{Ack, AllFit, AreOf, MutatorEvent, ObserverEvent, Push, QueuePoint, SawAck, SawNext, State, both_change, brought, chain, drop-set-lt, gives, homes_after, keeps, legal, length-map, next, one, one_changes, set_else, set_here, slots, stand_one, stand_two, start_of_queue, stepped, takes, two, two_changes}
use mathlib.Core.Option as maybe
use mathlib.Core.Logic.{dite}
use native.Mathlib.Decide.{ℕ_discrete}
use lib.ListN.{get_elem?}
use Rattle.af_stateq.specs.declared.cell.Slot.{Slot}
use Rattle.af_stateq.specs.declared.rule.Basis.{Basis}
use Rattle.af_stateq.specs.declared.view.View.{View}
use Rattle.af_stateq.specs.declared.view.Mutating.{Mutating}
use Rattle.af_stateq.specs.declared.view.Observing.{Observing}
use Rattle.af_model.specs.declared.states.MutatorEvent.TheVariants as mutator
use Rattle.af_model.specs.declared.states.ObserverEvent.TheVariants as observer
use Rattle.af_model.specs.Parties.{AreHeld, Stands}
use Rattle.af_stateq.proofs.Acts.{takes_all, gives_all, length_takes, length_gives, gives_else, gives_home}
use Rattle.af_stateq.specs.Shelved.{cell, word, cells, shelves, items_on, has_mutating, mutating, has_observing, observing, Phase, quiet, shown, taken, known_by, InPhase, AreLaid, Kept, saw_mutating, push_mutating}

pub word_of : (k : ℕ) → 0 < k → word k ≡ cell k + 1
word_of k pos = ap (λ (b : Bool). if b then 0 else cell k + 1) (ne_eqb k 0 (λ e. omega arith))

-- the words of two states that stand one after the other differ
pub word_differs : (k : ℕ) → word (k + 1) ≢ word k
word_differs k e = dite (ℕ_discrete k 0) (λ z. let a : word (k + 1) ≡ cell (k + 1) + 1 = word_of (k + 1) (omega arith) in let b : word k ≡ 0 = ap word z in omega arith)
    (λ pos. let a : word (k + 1) ≡ cell (k + 1) + 1 = word_of (k + 1) (omega arith) in let b : word k ≡ cell k + 1 = word_of k (omega arith) in omega arith)

-- two cells at most three apart are two
pub apart : (a b : ℕ) → a < b → b < a + 4 → cell a ≢ cell b
apart a b lt le e = omega arith

pub small : (k : ℕ) → cell k < 4
small k = omega arith

same_cell : (c : ℕ) → cell (c + 3) ≡ cell ((c + 1) + 2)
same_cell c = omega arith

-- there are as many shelves as items
pub many : {P : Type 0} (ys : List (Slot P)) (n : ℕ) → length (items_on ys) ≡ n → length ys ≡ n
many ys n e = sym (length-map ys (λ (t : Slot _). t.item)) ∙ e

module _ {P K : Type 0} (fits : K → ℕ → P → Type 0) (basis : Basis K) where
  abbrev St : Type 0
  St = State (Slot P) (View P K)

  abbrev Homes : Type 0
  Homes = List (maybe.Option (Slot P))

  abbrev Rule : St → Type 0
  Rule = Kept fits basis

  module _ (s : St) (k : Rule s) (id : ℕ) (v : View P K) (here : get_elem? s.views id ≡ maybe.some v) where
    pub m_is : v.mutates ≡ true → v.mutating ≡ k.m
    m_is ok = (k.seats.one_held id v here ok).1

    pub o_is : v.observes ≡ true → v.observing ≡ k.o
    o_is ok = (k.seats.two_held id v here ok).1

    pub next_found : get_or s.words 0 0 ≡ word k.m.pushed
    next_found = ap (λ (ws : List ℕ). get_or ws 0 0) k.words

    pub ack_found : get_or s.words 1 0 ≡ word k.o.current
    ack_found = ap (λ (ws : List ℕ). get_or ws 1 0) k.words

    stays_0 : set s.words 0 (get_or s.words 0 0) ≡ word k.m.pushed ∷ word k.o.current ∷ []
    stays_0 = ap (λ (ws : List ℕ). set ws 0 (get_or ws 0 0)) k.words

    stays_1 : set s.words 1 (get_or s.words 1 0) ≡ word k.m.pushed ∷ word k.o.current ∷ []
    stays_1 = ap (λ (ws : List ℕ). set ws 1 (get_or ws 1 0)) k.words

    abbrev p : QueuePoint P
    p = k.stands.point

    -- one event more of the mutator, of the observer
    abbrev pub more_m : (e : MutatorEvent P) → legal p (one e) → Stands legal next (start_of_queue basis.first) (k.m.events ++ e ∷ []) k.o.events
    more_m e l = stand_one legal next (start_of_queue basis.first) k.m.events k.o.events k.stands e l

    abbrev pub more_o : (e : ObserverEvent P) → legal p (two e) → Stands legal next (start_of_queue basis.first) k.m.events (k.o.events ++ e ∷ [])
    more_o e l = stand_two legal next (start_of_queue basis.first) k.m.events k.o.events k.stands e l

    -- and the counts with it
    m_counts : (e : MutatorEvent P) → (p.mutator.count + 1 ≡ length (k.m.events ++ e ∷ [])) × (p.observer.count ≡ length k.o.events)
    m_counts e = (ap (λ (z : ℕ). z + 1) k.ties.counts.0 ∙ sym (length-append k.m.events (e ∷ [])), k.ties.counts.1)

    o_counts : (e : ObserverEvent P) → (p.mutator.count ≡ length k.m.events) × (p.observer.count + 1 ≡ length (k.o.events ++ e ∷ []))
    o_counts e = (k.ties.counts.0, ap (λ (z : ℕ). z + 1) k.ties.counts.1 ∙ sym (length-append k.o.events (e ∷ [])))

    -- only the mutator's view changes, only the observer's
    seat_m : (w : View P K) (x : Mutating P K) → v.mutates ≡ true → w.mutating ≡ x → w.observes ≡ v.observes → w.observing ≡ v.observing → AreHeld has_mutating mutating has_observing observing (set s.views id w) x k.o
    seat_m = one_changes has_mutating mutating has_observing observing s.views k.m k.o k.seats id v here

    seat_o : (w : View P K) (x : Observing P K) → v.observes ≡ true → w.observing ≡ x → w.mutates ≡ v.mutates → w.mutating ≡ v.mutating → AreHeld has_mutating mutating has_observing observing (set s.views id w) k.m x
    seat_o = two_changes has_mutating mutating has_observing observing s.views k.m k.o k.seats id v here

    due_is : (b : Bool) → k.o.due ≡ b → p.observer.due ≡ (if b then k.m.pushed else 0)
    due_is b e = k.ties.numbers.2 ∙ ap (λ (z : Bool). if z then k.m.pushed else 0) e

    abbrev pub Now : Phase → Type 0
    Now = InPhase (fits basis.key) (known_by k.m k.o p) s.homes

    -- the mutator looks at ack, and has these slots at home afterwards
    module _ (ok : v.mutates ≡ true) (items : List (Option P)) (clear : Bool) (hs : Homes) where
      abbrev pub ack_m : Mutating P K
      ack_m = saw_mutating k.o.current items clear k.m

      abbrev pub ack_view : View P K
      ack_view = record v { mutating = ack_m }

      abbrev saw_it : MutatorEvent P
      saw_it = SawAck k.o.current items

      abbrev pub ack_point : QueuePoint P
      ack_point = next p (one saw_it)

      pub looks : items ≡ brought p → (k.o.current == p.mutator.pushed) ≡ clear → AreLaid (fits basis.key) (known_by ack_m k.o ack_point) hs → Rule record { words = set s.words 1 (get_or s.words 1 0); homes = hs; views = set s.views id ack_view }
      looks legal_items is_clear laid = record {
        m = ack_m;
        o = k.o;
        seats = seat_m ack_view ack_m ok refl refl refl;
        stands = more_m saw_it (sym k.ties.numbers.1, legal_items);
        ties = record { keys = k.ties.keys; counts = m_counts saw_it; numbers = (k.ties.numbers.0, k.ties.numbers.1, k.ties.numbers.2, is_clear); states = k.ties.states };
        words = stays_1;
        laid = laid;
      }

    -- the mutator shows the next state
    module _ (ok : v.mutates ≡ true) (x : Slot P) (ys : List (Slot P)) where
      abbrev push_m : Mutating P K
      push_m = push_mutating x.state (items_on ys) k.m

      abbrev pub push_view : View P K
      push_view = record v { mutating = push_m }

      abbrev push : MutatorEvent P
      push = Push (k.m.pushed + 1) x.state (items_on ys)

      -- only an acknowledged state can be followed
      pub at_rest : k.m.clear ≡ true → (f : Phase) → Now f → Now quiet
      at_rest c quiet i = i
      at_rest c shown i = absurd (true≢false (sym c ∙ i.2))
      at_rest c taken i = absurd (true≢false (sym c ∙ i.2))

      pub shows : (q : Now quiet) → k.m.out ≡ true → k.m.clear ≡ true → AreOf x.state p.mutator.last (items_on ys) → AllFit (fits basis.key) x.state (items_on ys)
          → (new : ℕ) → new ≡ word (k.m.pushed + 1) → (c : ℕ) → c ≡ cell (k.m.pushed + 1)
          → (cs : List (ℕ × Slot P)) → Rule (stepped s 0 new id ((c, x) ∷ shelves ys ++ cs) push_view (chain gives (chain (gives_all ys) (takes (cell (k.m.pushed + 2)) q.3.0))))
      shows q out clear are fit new is c c_is cs =
          let n : ℕ = k.m.pushed in
          let d : ℕ = cell (n + 2) in
          let h1 : Homes = set s.homes c (maybe.some x) in
          let h2 : Homes = homes_after h1 (shelves ys ++ cs) (gives_all ys) in
          let c_low : c < cells = subst (λ (z : ℕ). z < cells) (sym c_is) (small (n + 1)) in
          let wide : c < length s.homes = subst (λ (z : ℕ). c < z) (sym k.laid.whole) (omega arith) in
          let long1 : length h1 ≡ cells + slots = length-set s.homes c (maybe.some x) ∙ k.laid.whole in
          let two_cells : c ≢ d = λ e. apart (n + 1) (n + 2) (omega arith) (omega arith) (sym c_is ∙ e) in
          let at_c : get_elem? (set h2 d maybe.none) c ≡ maybe.some (maybe.some x) = set_else h2 d c maybe.none two_cells ∙ gives_else cells ys h1 cs c c_low ∙ set_here s.homes c (maybe.some x) wide in
          let home : drop cells (set h2 d maybe.none) ≡ map maybe.some ys = drop-set-lt cells h2 d maybe.none (small (n + 2)) ∙ gives_home cells ys h1 cs (long1 ∙ ap (λ (z : ℕ). cells + z) (sym (many ys slots are.0))) in
          record {
            m = push_m;
            o = k.o;
            seats = seat_m push_view push_m ok refl refl refl;
            stands = more_m push (ap (λ (z : ℕ). z + 1) (sym k.ties.numbers.0), k.ties.numbers.1 ∙ q.0 ∙ sym k.ties.numbers.0, k.ties.numbers.3 ∙ clear, are);
            ties = record { keys = k.ties.keys; counts = m_counts push; numbers = (refl, k.ties.numbers.1, due_is false q.1 ∙ sym (ap (λ (b : Bool). if b then n + 1 else 0) q.1), refl); states = (refl, k.ties.states.0) };
            words = ap (λ (ws : List ℕ). set ws 0 new) k.words ∙ ap (λ (z : ℕ). z ∷ word k.o.current ∷ []) is;
            laid = record {
              whole = length-set h2 d maybe.none ∙ length_gives cells ys h1 cs ∙ long1;
              phase = shown;
              in_phase = (ap (λ (z : ℕ). z + 1) (sym q.0), q.1, refl, q.2, (x, subst (λ (z : ℕ). get_elem? (set h2 d maybe.none) z ≡ maybe.some (maybe.some x)) c_is at_c, refl), (ys, home, refl), are, fit);
              m_home = λ e. absurd (true≢false (sym out ∙ e));
              o_home = λ e. let h = k.laid.o_home e in let z : n ≡ 0 = sym q.0 ∙ h.0 in
                  let far : (j : ℕ) → j < 4 → 1 < j → (w : Slot P) → get_elem? s.homes j ≡ maybe.some (maybe.some w) → get_elem? (set h2 d maybe.none) j ≡ maybe.some (maybe.some w)
                  = λ j lt gt w at. set_else h2 d j maybe.none (λ f. let b : d ≡ 1 = ap (λ (u : ℕ). cell (u + 2)) z in omega arith)
                  ∙ gives_else cells ys h1 cs j lt ∙ set_else s.homes c j (maybe.some x) (λ f. let b : c ≡ 0 = c_is ∙ ap (λ (u : ℕ). cell (u + 1)) z in omega arith) ∙ at in
                  (h.0, (h.1.0, far 3 (omega arith) (omega arith) h.1.0 h.1.1), (h.2.0, far 2 (omega arith) (omega arith) h.2.0 h.2.1));
            };
          }

    -- the observer looks at next
    module _ (ok : v.observes ≡ true) where
      abbrev saw_same : ObserverEvent P
      saw_same = SawNext k.o.current None []

      abbrev same_o : Observing P K
      same_o = record k.o { events = k.o.events ++ saw_same ∷ [] }

      abbrev pub same_view : View P K
      same_view = record v { observing = same_o }

      pub nothing_new : (q : Now quiet) → (cs : List (ℕ × Slot P)) → Rule (stepped s 0 (get_or s.words 0 0) id cs same_view keeps)
      nothing_new q cs =
          let c : ℕ = k.o.current in
          let eq : (c == p.observer.acked) ≡ true = eq-eqb c p.observer.acked (sym k.ties.numbers.1) in
          record {
            m = k.m;
            o = same_o;
            seats = seat_o same_view same_o ok refl refl refl;
            stands = more_o saw_same (q.0 ∙ sym k.ties.numbers.0, sym (ap (λ (b : Bool). if b then None else Some p.mutator.last) eq), sym (ap (λ (b : Bool). if b then [] else p.mutator.items) eq), due_is false q.1);
            ties = record { keys = k.ties.keys; counts = o_counts saw_same; numbers = (k.ties.numbers.0, k.ties.numbers.1, ap (λ (b : Bool). if b then 0 else c) eq ∙ sym (ap (λ (b : Bool). if b then k.m.pushed else 0) q.1), k.ties.numbers.3); states = k.ties.states };
            words = stays_0;
            laid = k.laid;
          }

      module _ (q : Now shown) where
        abbrev saw_new : ObserverEvent P
        saw_new = SawNext (k.o.current + 1) (Some q.4.0.state) (items_on q.5.0)

        abbrev new_o : Observing P K
        new_o = record k.o { events = k.o.events ++ saw_new ∷ []; due = true; next = q.4.0.state }

        abbrev pub new_view : View P K
        new_view = record v { observing = new_o }

        pub is_new : k.o.out ≡ true → (cs : List (ℕ × Slot P)) → Rule (stepped s 0 (get_or s.words 0 0) id cs new_view (chain (takes (cell (k.o.current + 1)) q.4.0) (takes_all cells q.5.0)))
        is_new out cs =
            let c : ℕ = k.o.current in
            let ne : (c + 1 == p.observer.acked) ≡ false = ne_eqb (c + 1) p.observer.acked (λ e. let f = k.ties.numbers.1 in omega arith) in
            record {
              m = k.m;
              o = new_o;
              seats = seat_o new_view new_o ok refl refl refl;
              stands = more_o saw_new (sym q.0 ∙ sym k.ties.numbers.0, ap Some q.4.2 ∙ sym (ap (λ (b : Bool). if b then None else Some p.mutator.last) ne), q.5.2 ∙ sym (ap (λ (b : Bool). if b then [] else p.mutator.items) ne), due_is false q.1);
              ties = record { keys = k.ties.keys; counts = o_counts saw_new; numbers = (k.ties.numbers.0, k.ties.numbers.1, ap (λ (b : Bool). if b then 0 else c + 1) ne ∙ sym q.0, k.ties.numbers.3); states = k.ties.states };
              words = stays_0;
              laid = record {
                whole = length_takes cells q.5.0 (set s.homes (cell (c + 1)) maybe.none) ((cell (c + 1), q.4.0) ∷ cs) ∙ length-set s.homes (cell (c + 1)) maybe.none ∙ k.laid.whole;
                phase = taken;
                in_phase = (q.0, refl, q.2, q.3, q.4.2);
                m_home = λ e. let h = k.laid.m_home e in let b = q.0 in absurd (omega arith);
                o_home = λ e. absurd (true≢false (sym out ∙ e));
              };
            }

    -- the observer acknowledges
    module _ (ok : v.observes ≡ true) (x : Slot P) (ys : List (Slot P)) where
      abbrev ack : ObserverEvent P
      ack = Ack (k.o.current + 1) (items_on ys)

      abbrev ackd_o : Observing P K
      ackd_o = record k.o { events = k.o.events ++ ack ∷ []; current = k.o.current + 1; state = k.o.next; due = false }

      abbrev pub ackd_view : View P K
      ackd_view = record v { observing = ackd_o }

      pub acks : (q : Now taken) → k.o.out ≡ true → AreOf p.mutator.before p.mutator.last (items_on ys) → AllFit (fits basis.key) p.mutator.before (items_on ys)
          → (new : ℕ) → new ≡ word (k.o.current + 1) → (b : ℕ) → b ≡ cell (k.o.current + 3) → (cs : List (ℕ × Slot P)) → Rule (stepped s 1 new id ((b, x) ∷ shelves ys ++ cs) ackd_view (chain gives (gives_all ys)))
      acks q out are fit new is b b_is cs =
          let c : ℕ = k.o.current in
          let h1 : Homes = set s.homes b (maybe.some x) in
          let h2 : Homes = homes_after h1 (shelves ys ++ cs) (gives_all ys) in
          let b_low : b < cells = subst (λ (z : ℕ). z < cells) (sym b_is) (small (c + 3)) in
          let wide : b < length s.homes = subst (λ (z : ℕ). b < z) (sym k.laid.whole) (omega arith) in
          let long1 : length h1 ≡ cells + slots = length-set s.homes b (maybe.some x) ∙ k.laid.whole in
          let at_b : get_elem? h2 b ≡ maybe.some (maybe.some x) = gives_else cells ys h1 cs b b_low ∙ set_here s.homes b (maybe.some x) wide in
          let home : drop cells h2 ≡ map maybe.some ys = gives_home cells ys h1 cs (long1 ∙ ap (λ (z : ℕ). cells + z) (sym (many ys slots are.0))) in
          record {
            m = k.m;
            o = ackd_o;
            seats = seat_o ackd_view ackd_o ok refl refl refl;
            stands = more_o ack (sym (due_is true q.1 ∙ q.0), (λ e. omega arith), are);
            ties = record { keys = k.ties.keys; counts = o_counts ack; numbers = (k.ties.numbers.0, refl, refl, k.ties.numbers.3); states = k.ties.states };
            words = ap (λ (ws : List ℕ). set ws 1 new) k.words ∙ ap (λ (z : ℕ). word k.m.pushed ∷ z ∷ []) is;
            laid = record {
              whole = length_gives cells ys h1 cs ∙ long1;
              phase = quiet;
              in_phase = (sym q.0, refl, q.4, (x, subst (λ (z : ℕ). get_elem? h2 z ≡ maybe.some (maybe.some x)) (b_is ∙ same_cell c ∙ ap (λ (z : ℕ). cell (z + 2)) (sym q.0)) at_b), λ _. ((ys, home, refl), are, fit));
              m_home = λ e. let h = k.laid.m_home e in let f = q.0 in absurd (omega arith);
              o_home = λ e. absurd (true≢false (sym out ∙ e));
            };
          }

    -- both learn
    module _ (m_ok : v.mutates ≡ true) (o_ok : v.observes ≡ true) where
      abbrev learn_m : MutatorEvent P
      learn_m = mutator.Learn (length k.o.events)

      abbrev learn_o : ObserverEvent P
      learn_o = observer.Learn (length k.m.events)

      abbrev met_m : Mutating P K
      met_m = record k.m { events = k.m.events ++ learn_m ∷ [] }

      abbrev met_o : Observing P K
      met_o = record k.o { events = k.o.events ++ learn_o ∷ [] }

      abbrev pub met_view : View P K
      met_view = record v { mutating = met_m; observing = met_o }

      pub learns_m : length k.o.events ≤ p.observer.count
      learns_m = let c = k.ties.counts.1 in omega arith

      pub learns_o : k.o.due ≡ false → (length k.m.events ≤ p.mutator.count + 1) × (p.observer.due ≡ 0)
      learns_o rested = ((let c = k.ties.counts.0 in omega arith), due_is false rested)

      -- the lists with what was learnt have a history
      abbrev pub met_stands : k.o.due ≡ false → Stands legal next (start_of_queue basis.first) met_m.events met_o.events
      met_stands rested = stand_two legal next (start_of_queue basis.first) met_m.events k.o.events (more_m learn_m learns_m) learn_o (learns_o rested)

      pub meets : k.o.due ≡ false → (cs : List (ℕ × Slot P)) → Rule (stepped s 0 (get_or s.words 0 0) id cs met_view keeps)
      meets rested cs = record {
        m = met_m;
        o = met_o;
        seats = both_change has_mutating mutating has_observing observing s.views k.m k.o k.seats id v here met_view met_m met_o m_ok o_ok refl refl;
        stands = met_stands rested;
        ties = record { keys = k.ties.keys; counts = ((m_counts learn_m).0, (o_counts learn_o).1); numbers = (k.ties.numbers.0, k.ties.numbers.1, sym (ap (λ (b : Bool). if b then k.m.pushed else 0) rested), k.ties.numbers.3); states = k.ties.states };
        words = stays_0;
        laid = k.laid;
      }
