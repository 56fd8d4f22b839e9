-- Once the fast mixer has exited, the next turn of the normal mixer ends.
use Rattle.std.proofs.Common.{◌≡◌, ℕ, zero, suc, ◌≤◌, ◌==◌, ◌||◌, Bool, true, false, if◌then◌else◌, sym, refl, ap, subst, ◌∙◌, List, [], ◌∷◌, ◌++◌, length, append_assoc, Some, eqb-true, arith}
use Rattle.af_playing.proofs.Common.{AddsCycle, AreTold, Cycle, CycleEntry, CyclesOn, CyclesOnce, EndsMet, FastState, FastTurned, Frame, Given, HasStateHistory, IsQuiet, IsRoundOfAll, Links, MatchBool, MatchBool-at_false, MatchBool-at_true, MixerState, MixesOnce, MutatorEvent, NormalKept, NormalPlayed, NormalState, ObserverEvent, Observes, Outside, RoundNoted, ServerState, SessionState, Turn, TurnPlayed, adopted_states, after_edits, cold_done, ends_keep, going, has_exit, commands_exit, is_mixed, is_over, kept_of, learnt, most_cycles, number_seen, push_list, pushed_states, setup_of, state_of, turn_of, turn_quiet}
use Rattle.af_model.specs.Cycles.{is_exit as answers_exit}
use Rattle.af_model.specs.declared.plain_calls.Poll.{Poll}
use Rattle.af_model.specs.declared.plain_calls.Poll.TheVariants.{Nothing, Same, New}
use Rattle.af_model.specs.declared.states.MutatorEvent.TheVariants as mutator
use Rattle.af_model.specs.declared.states.ObserverEvent.TheVariants as observer
use Rattle.af_model.proofs.UsedStates.{has_exit-push}
use Rattle.af_link.specs.declared.names.StreamNames.{StreamNames}
use Rattle.af_normal.specs.LegalTurned.{IsLegal}
use Rattle.af_stateq.specs.Answers.{WasPolled}
use Rattle.af_stateq.specs.Shelved.{no_state}
use Rattle.af_stateq.proofs.Told.{told_learn, told_look, told_new}
use Rattle.af_playing.proofs.PushedRuns.{PushedRuns, learn_pushes, turn_pushes}
use Rattle.af_playing.proofs.LastExit.{IsLastExit, current_exit, exit_state, look_finds, turn_ends}

-- ## The fast mixer

-- the current state says Exit
abbrev pub CurrentExits : Observes ServerState StreamNames → Type 0
CurrentExits o = (x : FastState) × (o.current ≡ Some x) × (commands_exit x ≡ true)

-- What the observer keeps is what its events give, and if an Exit was answered its current state says so
pub record FastKnows (f : MixerState) : Type 0 where
  pub told : AreTold f.observer.past.events f.observer.past.number f.observer.past.state f.observer.current f.observer.previous
  pub exit : has_exit f.log.entries ≡ true → CurrentExits f.observer

-- what the observer keeps is what its events give, by the observer alone
abbrev IsTold : Observes ServerState StreamNames → Type 0
IsTold o = AreTold o.past.events o.past.number o.past.state o.current o.previous

-- after a poll the observer still keeps what its events give
polled_told : (o o' : Observes ServerState StreamNames) (poll : Poll) (s s' : ℕ) → IsTold o → WasPolled o poll o' s s' → IsTold o'
polled_told o o' Nothing s s' told (none, is, stepped) = subst IsTold (sym is) (told_look o.past.events o.past.number o.past.state o.current o.previous told)
polled_told o o' Same s s' told (some, is, stepped) = subst IsTold (sym is) (told_look o.past.events o.past.number o.past.state o.current o.previous told)
polled_told o o' (New number) s s' told (next, (x, took), stepped) = subst IsTold (sym took.2) (told_new o.past.events o.past.number o.past.state o.current o.previous told x took.0 took.1)

-- a mixer that is over mixes nothing
pub rests_over : (p m' : MixerState) (out out' : List Frame) (answer : Cycle) → is_over p ≡ true → MixesOnce p out answer m' out' → m' ≡ record p { adopted = false }
rests_over p m' out out' answer over mixes = by_exit p.exited refl
  where
    by_exit : (b : Bool) → p.exited ≡ b → m' ≡ record p { adopted = false }
    by_exit true is = (mixes.exited is).1
    by_exit false is = (mixes.spent is (eqb-true (length p.log.entries) p.cycles (sym (ap (λ (b : Bool). b || (length p.log.entries == p.cycles)) is) ∙ over))).1

-- a mixer that adds an entry still knows what its events give
adds_knows : (p m' : MixerState) (entry : CycleEntry) → IsTold p.observer → AddsCycle p m' entry → FastKnows m'
adds_knows p m' entry told adds = record {
  told = subst IsTold (sym adds.takes.observer) told;
  exit = (λ exit.
      let answered : answers_exit entry.cycle ≡ true =
      ap (λ (b : Bool). b || answers_exit entry.cycle) (sym adds.legal.runs) ∙ sym (has_exit-push p.log.entries entry) ∙ sym (ap has_exit adds.entries) ∙ exit in
      let current : state_of (adopted_states p) entry.state ≡ p.observer.current = ap (state_of (adopted_states p)) adds.state ∙ told.current no_state in
      let seen = exit_state (cold_done (adopted_states p) p.log.entries) (state_of (adopted_states p) entry.state) (sym (ap answers_exit adds.legal.what) ∙ answered) in
      (seen.0, ap (λ (o : Observes ServerState StreamNames). o.current) adds.takes.observer ∙ sym current ∙ seen.1, seen.2));
}

-- a mixer that makes one cycle still knows what its events give
once_knows : (links : Links) (m m' : MixerState) (answer : Cycle) (bytes : List ℕ) → FastKnows m → CyclesOnce links m answer bytes m' → FastKnows m'
once_knows links m m' answer bytes knows w = by_over (is_over m) refl
  where
    by_over : (b : Bool) → is_over m ≡ b → FastKnows m'
    by_over true over =
        let polled : w.polled ≡ record m { adopted = true } = w.adopts.rests over in
        let left : m' ≡ record w.polled { adopted = false } = rests_over w.polled m' w.before w.after answer (ap is_over polled ∙ over) w.mixes in
        subst FastKnows (sym (left ∙ ap (λ (y : MixerState). record y { adopted = false }) polled)) (record { told = knows.told; exit = knows.exit })
    by_over false runs =
        let poll = w.adopts.polls runs in
        let told : IsTold w.polled.observer = polled_told m.observer w.polled.observer poll.0 poll.1 poll.2 knows.told poll.3 in
        let added = w.mixes.adds (ap is_over w.adopts.same ∙ runs) in
        adds_knows w.polled m' added.0 told added.2

on_answer : (answer : Cycle) (next m' : MixerState) (back : List ℕ) → FastKnows next → (is_mixed answer ≡ true → FastKnows m') → (is_mixed answer ≡ false → (back ≡ []) × (m' ≡ next)) → FastKnows m'
on_answer answer next m' back knows more over = by_answer (is_mixed answer) refl
  where
    by_answer : (b : Bool) → is_mixed answer ≡ b → FastKnows m'
    by_answer true is = more is
    by_answer false is = subst FastKnows (sym (over is).1) knows

cycles_know : (links : Links) (left : ℕ) (m m' : MixerState) (bytes : List ℕ) → FastKnows m → CyclesOn links left m bytes m' → FastKnows m'
cycles_know links zero m m' bytes knows turn = subst FastKnows (sym turn.1) knows
cycles_know links (suc left) m m' bytes knows (answer, next, front, back, cycle, bytes_are, more, over) =
    let first = once_knows links m next answer front knows cycle in
    on_answer answer next m' back first (λ is. cycles_know links left next m' back first (more is)) over

-- a mixer that makes a turn still knows what its events give
pub fast_knows : (links : Links) (m m' : MixerState) (bytes : List ℕ) → FastKnows m → FastTurned links m bytes m' → FastKnows m'
fast_knows links m m' bytes knows turned = by_exit m.exited turned
  where
    by_exit : (b : Bool) → MatchBool b ((bytes ≡ []) × (m' ≡ m)) (CyclesOn links most_cycles m bytes m') → FastKnows m'
    by_exit true done = subst FastKnows (sym done.1) knows
    by_exit false done = cycles_know links most_cycles m m' bytes knows done

-- ## The normal mixer

-- the normal mixer is quiet, and no state before the last one that it pushed says Exit
pub record NormalKnows (m : NormalState) : Type 0 where
  pub quiet : IsQuiet (kept_of m)
  pub runs : PushedRuns m.mutator.past.number m.mutator.past.last (pushed_states m.mutator.past.events)

-- the normal mixer is quiet, by what it keeps, and no state before the last one says Exit, by the mutator's events
abbrev Knows : NormalKept → List (MutatorEvent ServerState) → Type 0
Knows m events = IsQuiet m × PushedRuns m.pushed m.last (pushed_states events)

legal_knows : (o : Outside) (m m' : NormalState) → NormalKnows m → IsLegal o m m' → NormalKnows m'
legal_knows o m m' knows legal =
    let c = setup_of m in
    let e : Turn = turn_of m'.entry in
    let quiet = turn_quiet c (learnt o) (kept_of m) e knows.quiet in
    let runs = turn_pushes c o (kept_of m) e legal.lists.back legal.lists.again legal.lists.sent m.mutator.past.events knows.quiet legal.legal knows.runs in
    let both : Knows (kept_of m') m'.mutator.past.events = subst (λ (x : NormalKept × List (MutatorEvent ServerState)). Knows x.0 x.1) (λ i. (sym legal.leaves i, sym legal.lists.mutator i)) (quiet, runs) in
    record { quiet = both.0; runs = both.1 }

pub normal_knows : (m m' : NormalState) → NormalKnows m → NormalPlayed m m' → NormalKnows m'
normal_knows m m' knows played = by_end m.ended played
  where
    by_end : (b : Bool) → MatchBool b (m' ≡ m) (TurnPlayed m m') → NormalKnows m'
    by_end true still = subst NormalKnows (sym still) knows
    by_end false (o, legal, made) = legal_knows o m m' knows legal

-- ## The meeting

-- the mixers know the same after their ends met
pub met_knows : (m m' : NormalState) (f f' : MixerState) → NormalKnows m → FastKnows f → EndsMet m m' f f' → NormalKnows m' × FastKnows f'
met_knows m m' f f' normal fast met = (
  subst NormalKnows (sym met.normal) (record { quiet = normal.quiet; runs = learn_pushes m.mutator.past.number m.mutator.past.last m.mutator.past.events (length f.observer.past.events) normal.runs }),
  subst FastKnows (sym met.fast) (record { told = told_learn f.observer.past.events f.observer.past.number f.observer.past.state f.observer.current f.observer.previous fast.told (length m.mutator.past.events); exit = fast.exit }),
)

-- After a meeting the two lists have a history. The last event of each list is what its end learnt then: the mutator learnt of all that the observer had done
pub record HasMet (m : NormalState) (f : MixerState) : Type 0 where
  pub mutations : List (MutatorEvent ServerState)
  pub observations : List (ObserverEvent ServerState)
  pub known : ℕ
  pub seen : ℕ
  pub mutator : m.mutator.past.events ≡ mutations ++ mutator.Learn known ∷ []
  pub observer : f.observer.past.events ≡ observations ++ observer.Learn seen ∷ []
  pub reached : length observations ≤ known
  pub history : HasStateHistory m.mutator.past.first m.mutator.past.events f.observer.past.events

pub has_met : (m m' : NormalState) (f f' : MixerState) → EndsMet m m' f f' → HasMet m' f'
has_met m m' f f' met = record {
  mutations = m.mutator.past.events;
  observations = f.observer.past.events;
  known = length f.observer.past.events;
  seen = length m.mutator.past.events;
  mutator = ap (λ (y : NormalState). y.mutator.past.events) met.normal;
  observer = ap (λ (y : MixerState). y.observer.past.events) met.fast;
  reached = omega arith;
  history = met.histories.queue;
}

-- ## The turn after the Exit

-- the mutator's list of a turn begins with its look, if the mixer had not ended
looks_first : (o : Outside) (m m' : NormalState) → m.ended ≡ false → (l : IsLegal o m m')
    → (rest : List (MutatorEvent ServerState)) × (m'.mutator.past.events ≡ m.mutator.past.events ++ mutator.SawAck (number_seen (kept_of m) (turn_of m'.entry).ack) l.lists.back ∷ rest)
looks_first o m m' goes l =
    let e : Turn = turn_of m'.entry in
    let rest : List (MutatorEvent ServerState) = going e (push_list (after_edits (setup_of m) (learnt o) e (kept_of m)) e.push l.lists.again l.lists.sent) in
    (rest, l.lists.mutator ∙ ap (λ (b : Bool). m.mutator.past.events ++ (if b then [] else mutator.SawAck (number_seen (kept_of m) e.ack) l.lists.back ∷ rest)) goes)

-- if an Exit was answered before a meeting, and the fast mixer does nothing after it, a turn of the normal mixer ends
exit_ends : (o : Outside) (m m' n : NormalState) (f f' : MixerState) → NormalKnows m → FastKnows f → HasMet m f → has_exit f.log.entries ≡ true → m.ended ≡ false → IsLegal o m m' → EndsMet m' n f f' → m'.ended ≡ true
exit_ends o m m' n f f' normal fast before exit goes legal met =
    let x = fast.exit exit in
    let first : FastState = m.mutator.past.first in
    let last : IsLastExit f.observer.past.number m.mutator.past.number m.mutator.past.last =
    current_exit first f.observer.past.state x.0 m.mutator.past.events f.observer.past.events f.observer.past.number m.mutator.past.number m.mutator.past.last f.observer.current f.observer.previous before.history fast.told x.1 x.2 normal.runs in
    let e : Turn = turn_of m'.entry in
    let look = looks_first o m m' goes legal in
    let a : ℕ = number_seen (kept_of m) e.ack in
    let know : MutatorEvent ServerState = mutator.Learn (length f.observer.past.events) in
    let learn : ObserverEvent ServerState = observer.Learn (length m'.mutator.past.events) in
    let rest : List (MutatorEvent ServerState) = look.0 ++ know ∷ [] in
    let front : List (MutatorEvent ServerState) = before.mutations ++ mutator.Learn before.known ∷ [] in
    let mutations : n.mutator.past.events ≡ front ++ mutator.SawAck a legal.lists.back ∷ rest =
    ap (λ (y : NormalState). y.mutator.past.events) met.normal
    ∙ ap (λ (l : List (MutatorEvent ServerState)). l ++ know ∷ []) (look.1 ∙ ap (λ (l : List (MutatorEvent ServerState)). l ++ mutator.SawAck a legal.lists.back ∷ look.0) before.mutator)
    ∙ append_assoc front (mutator.SawAck a legal.lists.back ∷ look.0) (know ∷ []) in
    let grown : f.observer.past.events ++ learn ∷ [] ≡ (before.observations ++ observer.Learn before.seen ∷ []) ++ learn ∷ [] = ap (λ (l : List (ObserverEvent ServerState)). l ++ learn ∷ []) before.observer in
    let observations : f'.observer.past.events ≡ (before.observations ++ observer.Learn before.seen ∷ []) ++ learn ∷ [] = ap (λ (y : MixerState). y.observer.past.events) met.fast ∙ grown in
    let history : HasStateHistory n.mutator.past.first (front ++ mutator.SawAck a legal.lists.back ∷ rest) ((before.observations ++ observer.Learn before.seen ∷ []) ++ learn ∷ []) =
    subst (λ (z : List (MutatorEvent ServerState) × List (ObserverEvent ServerState)). HasStateHistory n.mutator.past.first z.0 z.1) (λ i. (mutations i, observations i)) met.histories.queue in
    let told : AreTold ((before.observations ++ observer.Learn before.seen ∷ []) ++ learn ∷ []) f.observer.past.number f.observer.past.state f.observer.current f.observer.previous =
    subst (λ (l : List (ObserverEvent ServerState)). AreTold l f.observer.past.number f.observer.past.state f.observer.current f.observer.previous) grown
    (told_learn f.observer.past.events f.observer.past.number f.observer.past.state f.observer.current f.observer.previous fast.told (length m'.mutator.past.events)) in
    let finds : a ≡ f.observer.past.number = look_finds n.mutator.past.first f.observer.past.state before.mutations rest before.observations before.known a before.seen (length m'.mutator.past.events) f.observer.past.number legal.lists.back f.observer.current f.observer.previous history before.reached told in
    ap (λ (k : NormalKept). k.ended) legal.leaves ∙ turn_ends (setup_of m) o (kept_of m) e f.observer.past.number legal.legal last finds

-- ## A round

-- what holds between two rounds of all parties
pub record Knowing (s : SessionState) : Type 0 where
  pub normal : NormalKnows s.normal
  pub fast : FastKnows s.fast
  pub met : has_exit s.fast.log.entries ≡ true → HasMet s.normal s.fast

-- a round keeps what holds between two rounds
pub round_knows : (g : Given) (s t : SessionState) (r : RoundNoted) (bytes : List ℕ) → Knowing s → IsRoundOfAll g s r bytes t → Knowing t
round_knows g s t r bytes knows w =
    let normal = normal_knows s.normal w.turned.normal knows.normal w.plays.normal in
    let fast = fast_knows w.links s.fast w.turned.fast bytes knows.fast w.plays.fast in
    let both = met_knows w.turned.normal w.met.normal w.turned.fast w.met.fast normal fast w.meets.ends in
    let still = ends_keep w.met in
    let met : HasMet w.met.normal w.met.fast = has_met w.turned.normal w.met.normal w.turned.fast w.met.fast w.meets.ends in
    subst Knowing (sym w.ends) record {
      normal = subst NormalKnows (sym still.normal) both.0;
      fast = subst FastKnows (sym still.fast) both.1;
      met = (λ _. subst (λ (y : NormalState × MixerState). HasMet y.0 y.1) (λ i. (sym still.normal i, sym still.fast i)) met);
    }

-- Once the fast mixer has exited, the normal mixer has ended after the next round
pub exit_seen : (g : Given) (s t : SessionState) (r : RoundNoted) (bytes : List ℕ) → Knowing s → s.fast.exited ≡ has_exit s.fast.log.entries → s.fast.exited ≡ true → s.normal.ended ≡ false → IsRoundOfAll g s r bytes t → t.normal.ended ≡ true
exit_seen g s t r bytes knows is exited goes w =
    let exit : has_exit s.fast.log.entries ≡ true = sym is ∙ exited in
    let played = MatchBool-at_false (w.turned.normal ≡ s.normal) (TurnPlayed s.normal w.turned.normal) goes w.plays.normal in
    let still : w.turned.fast ≡ s.fast = (MatchBool-at_true ((bytes ≡ []) × (w.turned.fast ≡ s.fast)) (CyclesOn w.links most_cycles s.fast bytes w.turned.fast) exited w.plays.fast).1 in
    let ends : EndsMet w.turned.normal w.met.normal s.fast w.met.fast = subst (λ (f : MixerState). EndsMet w.turned.normal w.met.normal f w.met.fast) still w.meets.ends in
    let ended : w.turned.normal.ended ≡ true = exit_ends played.0 s.normal w.turned.normal w.met.normal s.fast w.met.fast knows.normal knows.fast (knows.met exit) exit goes played.1 ends in
    ap (λ (y : SessionState). y.normal.ended) w.ends ∙ ap (λ (y : NormalState). y.ended) ((ends_keep w.met).normal ∙ ends.normal) ∙ ended
