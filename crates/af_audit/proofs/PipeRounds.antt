-- What a round does to the pipe: its turn puts, and its entries take.
use Rattle.std.proofs.Common.{◌≡◌, ℕ, ◌≤◌, Bool, true, false, if◌then◌else◌, List, [], ◌∷◌, ◌++◌, length, map, Option, Some, None, refl, sym, ap, ◌∙◌, subst, append-nil, length-append, arith}
use Rattle.af_audit.proofs.Common.{ClientEvent, EntrySeen, PipeTold, RoundSeen, Run, ServerEvent, Session, Turn, TurnFound, after_round, after_turn, all_played, before_turn, calls_pipe, early_of, ends_pipe, entry_slot, found_in, going, is_mixed, late_of, loaded_pipe, met, met_after, ones, packed_word, pipe_cells, pipe_list, put_by, setup_of, slot_frames, takes_shown, turned, two, twos, with_calls, with_cycle, with_cycles, with_mix, with_poll, with_turn, wrapped}
use Rattle.af_base.specs.declared.event.ClientEvent.TheVariants as client
use Rattle.af_base.specs.declared.event.ServerEvent.TheVariants as server
use Rattle.af_judge.proofs.QueueSteps.{ones_met, ones_more, ones_stay}

-- by this list the putting end put these words more, and the other end took no fewer
record Flows (p q : PipeTold) (events : List ClientEvent) (words : List ℕ) : Type 0 where
  list : ones q.told ≡ ones p.told ++ events
  put : q.put ≡ p.put ++ words
  grows : length p.taken ≤ length q.taken

flows_none : (p : PipeTold) → Flows p p [] []
flows_none p = record { list = sym (append-nil (ones p.told)); put = sym (append-nil p.put); grows = omega arith }

-- ## Entries

mixed_flows : (b : Bool) (p : PipeTold) (events : List ServerEvent) (words : List ℕ) → Flows p (if b then record p { told = p.told ++ map two events; taken = p.taken ++ words } else p) [] []
mixed_flows true p events words = record {
  list = ones_stay p.told events ∙ sym (append-nil (ones p.told));
  put = sym (append-nil p.put);
  grows = (let l = length-append p.taken words in omega (arith, l));
}
mixed_flows false p events words = flows_none p

cycle_flows : (s : Session) (run : Run) (e : EntrySeen) → Flows run.pipe (with_cycle s run e).pipe [] []
unfolding with_poll with_mix
cycle_flows s run e = mixed_flows (is_mixed e.entry.cycle) run.pipe (server.SawRear (entry_slot e.entry 0).rear ∷ server.SawFront (wrapped (length run.pipe.taken)) ∷ takes_shown (entry_slot e.entry 0).seen) (map packed_word (slot_frames e 0))

cycles_flow : (s : Session) (es : List EntrySeen) (run : Run) → Flows run.pipe (with_cycles s es run).pipe [] []
cycles_flow s [] run = flows_none run.pipe
cycles_flow s (e ∷ es) run =
    let first = cycle_flows s run e in
    let rest = cycles_flow s es (with_cycle s run e) in
    record {
      list = rest.list ∙ ap (λ (l : List ClientEvent). l ++ []) (first.list ∙ append-nil (ones run.pipe.told));
      put = rest.put ∙ ap (λ (l : List ℕ). l ++ []) (first.put ∙ append-nil run.pipe.put);
      grows = (let a = first.grows in let b = rest.grows in omega (arith, a, b));
    }

-- ## The turn

-- what the putting end does in the turn
abbrev pub turn_events : Session → PipeTold → Option Turn → List ClientEvent
turn_events s p None = []
turn_events s p (Some e) = pipe_list (setup_of s) (pipe_cells (setup_of s)) (length p.put) e

-- the words that the putting end puts in the turn
abbrev pub turn_words : Session → Option Turn → List ℕ
turn_words s None = []
turn_words s (Some e) = going e (map packed_word (put_by (setup_of s) e.mixes))

turned_flows : (s : Session) (found : Turn → TurnFound) (o : Option Turn) (run : Run) → Flows run.pipe (turned s found o run).pipe (turn_events s run.pipe o) (turn_words s o)
unfolding with_turn
turned_flows s found None run = flows_none run.pipe
turned_flows s found (Some e) run = record { list = ones_more run.pipe.told (turn_events s run.pipe (Some e)); put = refl; grows = omega arith }

-- ## The round

met_list : (s : Session) (run : Run) → ones (met s run).pipe.told ≡ ones run.pipe.told ++ client.Learn (length (twos run.pipe.told)) ∷ []
unfolding met
met_list s run = ones_met run.pipe.told (client.Learn (length (twos run.pipe.told))) (server.Learn (length (ones run.pipe.told)))

met_words : (s : Session) (run : Run) → ((met s run).pipe.put ≡ run.pipe.put) × ((met s run).pipe.taken ≡ run.pipe.taken)
unfolding met
met_words s run = (refl, refl)

-- what a round does: its turn, and a meeting
pub record RoundFlows (s : Session) (run : Run) (round : RoundSeen) : Type 0 where
  pub learnt : ℕ
  pub list : ones (after_round s run round).pipe.told ≡ (ones run.pipe.told ++ turn_events s run.pipe round.turn) ++ client.Learn learnt ∷ []
  pub put : (after_round s run round).pipe.put ≡ run.pipe.put ++ turn_words s round.turn
  pub grows : length run.pipe.taken ≤ length (after_round s run round).pipe.taken

module _ (s : Session) (run : Run) (round : RoundSeen) where
  abbrev before : Run
  before = before_turn s run round

  abbrev late : Run
  late = with_cycles s (late_of run round) (after_turn s run round)

  abbrev played : Run
  played = all_played s run round

  early_flows : Flows run.pipe before.pipe [] []
  early_flows = subst (λ (p : PipeTold). Flows p before.pipe [] []) (calls_pipe round run) (cycles_flow s (early_of run round) (with_calls round run))

  played_is : played.pipe ≡ late.pipe
  played_is = loaded_pipe round.turn late

  list_before : ones before.pipe.told ≡ ones run.pipe.told
  list_before = early_flows.list ∙ append-nil (ones run.pipe.told)

  put_before : before.pipe.put ≡ run.pipe.put
  put_before = early_flows.put ∙ append-nil run.pipe.put

  events_same : (o : Option Turn) → turn_events s before.pipe o ≡ turn_events s run.pipe o
  events_same None = refl
  events_same (Some e) = ap (λ (l : List ℕ). pipe_list (setup_of s) (pipe_cells (setup_of s)) (length l) e) put_before

  pub round_flows : RoundFlows s run round
  round_flows =
      let turn = turned_flows s (found_in s run round) round.turn before in
      let rest = cycles_flow s (late_of run round) (after_turn s run round) in
      let words = met_words s played in
      record {
        learnt = length (twos played.pipe.told);
        list =
            ap (λ (p : PipeTold). ones p.told) (ends_pipe (met_after s run round)) ∙ met_list s played
            ∙ ap (λ (l : List ClientEvent). l ++ client.Learn (length (twos played.pipe.told)) ∷ [])
            (ap (λ (p : PipeTold). ones p.told) played_is ∙ rest.list ∙ append-nil (ones (after_turn s run round).pipe.told) ∙ turn.list ∙ (λ i. list_before i ++ events_same round.turn i));
        put = ap (λ (p : PipeTold). p.put) (ends_pipe (met_after s run round)) ∙ words.0 ∙ ap (λ (p : PipeTold). p.put) played_is ∙ rest.put ∙ append-nil (after_turn s run round).pipe.put ∙ turn.put
            ∙ ap (λ (l : List ℕ). l ++ turn_words s round.turn) put_before;
        grows = (let a = early_flows.grows in let b = turn.grows in let c = rest.grows in
            let d = ap (λ (p : PipeTold). length p.taken) played_is in
            let e = ap length words.1 in
            let f = ap (λ (p : PipeTold). length p.taken) (ends_pipe (met_after s run round)) in
            omega (arith, a, b, c, d, e, f));
      }
