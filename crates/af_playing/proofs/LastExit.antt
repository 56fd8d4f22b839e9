-- An Exit that was polled is the last state pushed, and the look after a meeting sees it acknowledged.
use Rattle.std.proofs.Common.{◌≡◌, ℕ, zero, suc, ◌+◌, ◌-◌, ◌<◌, ◌≤◌, ◌==◌, ◌&&◌, ◌||◌, Bool, true, false, if◌then◌else◌, sym, refl, ap, ◌∙◌, List, [], ◌∷◌, ◌++◌, length, append_assoc, Option, Some, None, is_some, unwrap_or, arith}
use Rattle.af_playing.proofs.Common.{AreTold, FastState, HasStateHistory, LegalTurn, MutatorEvent, NormalKept, ObserverEvent, Outside, Setup, Turn, after_edits, after_push, after_takes, cycle_by, cycle_of, commands_exit, learnt, no, number_seen, or_true, polled_states, pushed_states, state_of, turn_after}
use Rattle.af_base.specs.declared.log.Cycle.TheVariants as cycle
use Rattle.af_base.specs.declared.state.Command.{Command}
use Rattle.af_base.specs.declared.state.Command.TheVariants.{Initial, HotIdle, ColdIdle, Idle, Exit, Mix, Write, MixWrite}
use Rattle.af_base.specs.Command.{code_of}
use Rattle.af_model.specs.Cycles.{is_exit as answers_exit}
use Rattle.af_model.specs.declared.states.MutatorEvent.TheVariants as mutator
use Rattle.af_model.specs.declared.states.ObserverEvent.TheVariants as observer
use Rattle.af_runs.proofs.Basics.{state_some}
use Rattle.af_stateq.proofs.Exact.{sees_the_ack}
use Rattle.af_stateq.proofs.Prefix.{polled_in_order}
use Rattle.af_playing.proofs.PushedRuns.{NoneExits, EndsWith, PushedRuns}

-- ## What an Exit was answered by

-- a cycle answers Exit by a state that says so
pub exit_state : (done : ℕ) (o : Option FastState) → answers_exit (cycle_of done o) ≡ true → (x : FastState) × (o ≡ Some x) × (commands_exit x ≡ true)
exit_state done None h = no h
exit_state done (Some x) h = (x, refl, by_command x.command h)
  where
    by_cold : (b : Bool) → answers_exit (if b then cycle.Idle else cycle.Cold) ≡ true → (code_of ColdIdle == code_of Exit) ≡ true
    by_cold true e = no e
    by_cold false e = no e

    by_command : (c : Command) → answers_exit (cycle_by done x.cold_gen c) ≡ true → (code_of c == code_of Exit) ≡ true
    by_command Initial e = no e
    by_command HotIdle e = no e
    by_command ColdIdle e = by_cold (x.cold_gen == done) e
    by_command Idle e = no e
    by_command Exit e = refl
    by_command Mix e = no e
    by_command Write e = no e
    by_command MixWrite e = no e

-- ## Where the Exit stands among the states pushed

nothing_is : {A : Type 0} {x : FastState} → None ≡ Some x → A
nothing_is h = no (ap is_some h)

-- an Exit among states of which only the last may say so is the last
exit_is_last : (earlier : List FastState) (last x : FastState) (k : ℕ) → NoneExits earlier → state_of (earlier ++ last ∷ []) k ≡ Some x → commands_exit x ≡ true → (k ≡ length earlier + 1) × (last ≡ x)
exit_is_last [] last x zero none e exit = nothing_is e
exit_is_last [] last x (suc zero) none e exit = (omega arith, ap (λ (o : Option FastState). unwrap_or o x) e)
exit_is_last [] last x (suc (suc k)) none e exit = nothing_is e
exit_is_last (y ∷ earlier) last x zero none e exit = nothing_is e
exit_is_last (y ∷ earlier) last x (suc zero) none e exit = no (sym none.0 ∙ ap commands_exit (ap (λ (o : Option FastState). unwrap_or o x) e) ∙ exit)
exit_is_last (y ∷ earlier) last x (suc (suc k)) none e exit = let rest = exit_is_last earlier last x (suc k) none.1 e exit in (omega (arith, rest.0), rest.1)

none_of : {A : Type 0} (k : ℕ) (x : FastState) → state_of [] k ≡ Some x → A
none_of zero x e = nothing_is e
none_of (suc k) x e = nothing_is e

-- the last of so many states is an Exit
pub record IsLastExit (n count : ℕ) (last : FastState) : Type 0 where
  pub number : n ≡ count
  pub some : 0 < count
  pub exit : commands_exit last ≡ true

last_exit : (count n : ℕ) (last x : FastState) (states : List FastState) → PushedRuns count last states → state_of states n ≡ Some x → commands_exit x ≡ true → IsLastExit n count last
last_exit zero n last x states runs there exit = none_of n x (sym (ap (λ (l : List FastState). state_of l n) (runs.none refl)) ∙ there)
last_exit (suc count) n last x states runs there exit =
    let end : EndsWith (suc count) last states = runs.some (omega arith) in
    let is = exit_is_last end.earlier last x n end.run (sym (ap (λ (l : List FastState). state_of l n) end.whole) ∙ there) exit in
    record { number = is.0 ∙ sym end.counted; some = omega arith; exit = ap commands_exit is.1 ∙ exit }

module _ {P : Type 0} where
  -- the current state of an observer that says Exit is the last one pushed
  pub current_exit : (first y x : FastState) (ms : List (MutatorEvent P)) (os : List (ObserverEvent P)) (n count : ℕ) (last : FastState) (now before : Option FastState) → HasStateHistory first ms os → AreTold os n y now before
      → now ≡ Some x → commands_exit x ≡ true → PushedRuns count last (pushed_states ms) → IsLastExit n count last
  current_exit first y x ms os n count last now before h told is exit runs =
      let polled = polled_in_order first ms os h in
      let there : state_of (pushed_states ms) n ≡ Some x = ap (λ (l : List FastState). state_of l n) polled.2 ∙ state_some (polled_states first os) polled.0 n x (told.current first ∙ is) in
      last_exit count n last x (pushed_states ms) runs there exit

  -- ## The look after a meeting

  -- if the observer only learnt since the mutator did, the next look at the acknowledgement finds the number of the observer's state
  pub look_finds : (first y : FastState) (ms rest : List (MutatorEvent P)) (os : List (ObserverEvent P)) (c a d d' n : ℕ) (items : List (Option P)) (now before : Option FastState)
      → HasStateHistory first ((ms ++ mutator.Learn c ∷ []) ++ mutator.SawAck a items ∷ rest) ((os ++ observer.Learn d ∷ []) ++ observer.Learn d' ∷ []) → length os ≤ c
      → AreTold ((os ++ observer.Learn d ∷ []) ++ observer.Learn d' ∷ []) n y now before → a ≡ n
  look_finds first y ms rest os c a d d' n items now before h reached told =
      (sees_the_ack first ((os ++ observer.Learn d ∷ []) ++ observer.Learn d' ∷ []) os (observer.Learn d ∷ observer.Learn d' ∷ []) ms rest c a items h
      (append_assoc os (observer.Learn d ∷ []) (observer.Learn d' ∷ [])) reached refl).0 ∙ told.acked

-- ## The turn that sees the Exit

ack_seen : (m : NormalKept) (ack : Bool) → 0 < m.pushed → number_seen m ack ≡ m.pushed → ack ≡ true
ack_seen m true some is = refl
ack_seen m false some is = absurd (let e : m.pushed - 1 ≡ m.pushed = is in omega arith)

-- a turn that finds the number of a last state that says Exit ends the mixer
pub turn_ends : (c : Setup) (o : Outside) (m : NormalKept) (e : Turn) (n : ℕ) → LegalTurn c o m e → IsLastExit n m.pushed m.last → number_seen m e.ack ≡ n → (turn_after c (learnt o) m e).ended ≡ true
unfolding turn_after
turn_ends c o m e n legal last sees =
    let ack : e.ack ≡ true = ack_seen m e.ack last.some (sees ∙ last.number) in
    let ended : e.ended ≡ true = legal.ends ∙ ap (λ (b : Bool). m.ended || (b && e.ack)) last.exit ∙ ap (λ (b : Bool). m.ended || b) ack ∙ or_true m.ended in
    ap (λ (b : Bool). (if b then record m { ended = true } else after_takes c e.mixes (after_push e.push (after_edits c (learnt o) e m))).ended) ended
