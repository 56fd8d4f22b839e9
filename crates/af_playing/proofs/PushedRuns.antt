-- What a mixer pushed: no state before the last one says Exit.
use Rattle.std.proofs.Common.{◌≡◌, ℕ, zero, suc, ◌+◌, ◌<◌, ◌==◌, ◌&&◌, ◌||◌, Bool, true, false, if◌then◌else◌, sym, refl, ap, subst, ◌∙◌, List, [], ◌∷◌, ◌++◌, length, length-append, append-nil, Option, arith}
use Rattle.af_playing.proofs.Common.{AllByRecursion, Busy, Clean, FastState, IsQuiet, LegalTurn, MutatorEvent, NormalKept, Outside, Push, Pushed, Setup, Turn, after_edits, after_push, after_takes, commands_exit, learnt, all_push, mutator_list, no, number_seen, push_clean, push_list, pushed_states, turn_after}
use Rattle.af_model.specs.declared.states.MutatorEvent.TheVariants as mutator

-- none of these states says Exit
abbrev pub NoneExits : List FastState → Type 0
NoneExits states = AllByRecursion (λ x. commands_exit x ≡ false) states

-- the last of so many states is this one, and none before it says Exit
pub record EndsWith (count : ℕ) (last : FastState) (states : List FastState) : Type 0 where
  pub earlier : List FastState
  pub whole : states ≡ earlier ++ last ∷ []
  pub counted : count ≡ length earlier + 1
  pub run : NoneExits earlier

-- so many states were pushed: none, or the last one and others before it that don't say Exit
pub record PushedRuns (count : ℕ) (last : FastState) (states : List FastState) : Type 0 where
  pub none : count ≡ 0 → states ≡ []
  pub some : 0 < count → EndsWith count last states

module _ {P : Type 0} where
  pub pushed_append : (xs ys : List (MutatorEvent P)) → pushed_states (xs ++ ys) ≡ pushed_states xs ++ pushed_states ys
  pushed_append [] ys = refl
  pushed_append (mutator.Push k x items ∷ xs) ys = ap (λ (l : List FastState). x ∷ l) (pushed_append xs ys)
  pushed_append (mutator.SawAck a items ∷ xs) ys = pushed_append xs ys
  pushed_append (mutator.Learn c ∷ xs) ys = pushed_append xs ys

  -- a meeting pushes nothing
  pub learn_pushes : (count : ℕ) (last : FastState) (events : List (MutatorEvent P)) (c : ℕ) → PushedRuns count last (pushed_states events) → PushedRuns count last (pushed_states (events ++ mutator.Learn c ∷ []))
  learn_pushes count last events c runs = subst (PushedRuns count last) (sym (pushed_append events (mutator.Learn c ∷ []) ∙ append-nil (pushed_states events))) runs

none_append : (xs ys : List FastState) → NoneExits xs → NoneExits ys → NoneExits (xs ++ ys)
none_append [] ys none more = more
none_append (x ∷ xs) ys none more = (none.0, none_append xs ys none.1 more)

-- one state more may be pushed after a last one that doesn't say Exit
one_more : (count : ℕ) (last next : FastState) (states : List FastState) → PushedRuns count last states → commands_exit last ≡ false → PushedRuns (count + 1) next (states ++ next ∷ [])
one_more zero last next states runs run = record {
  none = (λ is. absurd (omega arith));
  some = (λ _. record { earlier = []; whole = ap (λ (l : List FastState). l ++ next ∷ []) (runs.none refl); counted = omega arith; run = tt });
}
one_more (suc count) last next states runs run =
    let end = runs.some (omega arith) in
    record {
      none = (λ is. absurd (omega arith));
      some = (λ _. record {
        earlier = states;
        whole = refl;
        counted = (let a = ap length end.whole ∙ length-append end.earlier (last ∷ []) in let b = end.counted in omega arith);
        run = subst NoneExits (sym end.whole) (none_append end.earlier (last ∷ []) end.run (run, tt));
      });
    }

is_clean : Push → Bool
is_clean Clean = true
is_clean _ = false

module _ {P : Type 0} (c : Setup) (o : Outside) (m : NormalKept) (e : Turn) (back again sent : List (Option P)) (states : List FastState) (quiet : IsQuiet m) (legal : LegalTurn c o m e) (runs : PushedRuns m.pushed m.last states) where
  edits : NormalKept
  edits = after_edits c (learnt o) e m

  edits_run : PushedRuns edits.pushed edits.last states
  unfolding edits
  edits_run = let same = all_push c (learnt o) m e in subst (λ (x : ℕ × FastState). PushedRuns x.0 x.1 states) (λ i. (sym same.pushed i, sym same.last i)) runs

  -- if a state is pushed, the last one before it didn't say Exit
  pushed_runs : (number : ℕ) → e.ended ≡ false → e.push ≡ Pushed number → commands_exit edits.last ≡ false
  unfolding edits is_clean
  pushed_runs number goes is = by_exit (commands_exit m.last) refl
    where
      by_exit : (b : Bool) → commands_exit m.last ≡ b → commands_exit (after_edits c (learnt o) e m).last ≡ false
      by_exit true exit = no (ap is_clean (sym is ∙ push_clean c o m e quiet exit (legal.goes_on goes)))
      by_exit false exit = ap commands_exit (all_push c (learnt o) m e).last ∙ exit

  by_zero : (b : Bool) (number : ℕ) (x : NormalKept) → pushed_states ((if b then [] else mutator.SawAck x.pushed again ∷ []) ++ mutator.Push number x.draft sent ∷ []) ≡ x.draft ∷ []
  by_zero true number x = refl
  by_zero false number x = refl

  abbrev After : Push → Type 0
  After push = PushedRuns (after_push push edits).pushed (after_push push edits).last (states ++ pushed_states (push_list edits push again sent))

  by_push : (push : Push) → e.ended ≡ false → e.push ≡ push → After push
  by_push (Pushed number) goes is = subst (λ (l : List FastState). PushedRuns (edits.pushed + 1) edits.draft (states ++ l)) (sym (by_zero (edits.pushed == 0) number edits))
      (one_more edits.pushed edits.last edits.draft states edits_run (pushed_runs number goes is))
  by_push Clean goes is = subst (PushedRuns edits.pushed edits.last) (sym (append-nil states)) edits_run
  by_push (Busy seen expected) goes is = subst (PushedRuns edits.pushed edits.last) (sym (append-nil states)) edits_run

  abbrev Turned : NormalKept → List (MutatorEvent P) → Type 0
  Turned t events = PushedRuns t.pushed t.last (states ++ pushed_states events)

  stays : (t : NormalKept) → t.pushed ≡ m.pushed → t.last ≡ m.last → PushedRuns t.pushed t.last (states ++ [])
  stays t pushed last = subst (λ (x : ℕ × FastState × List FastState). PushedRuns x.0 x.1 x.2) (λ i. (sym pushed i, sym last i, sym (append-nil states) i)) runs

  -- a turn keeps that no state before the last one says Exit
  turn_runs : Turned (turn_after c (learnt o) m e) (mutator_list c (learnt o) m e back again sent)
  unfolding turn_after edits
  turn_runs = by_ends m.ended e.ended refl refl
    where
      by_ends : (b d : Bool) → m.ended ≡ b → e.ended ≡ d
          → Turned (if d then record m { ended = true } else after_takes c e.mixes (after_push e.push (after_edits c (learnt o) e m)))
          (if b then [] else mutator.SawAck (number_seen m e.ack) back ∷ (if d then [] else push_list (after_edits c (learnt o) e m) e.push again sent))
      by_ends true true was is = stays (record m { ended = true }) refl refl
      by_ends false true was is = stays (record m { ended = true }) refl refl
      by_ends true false was is = no (sym is ∙ legal.ends ∙ ap (λ (b : Bool). b || (commands_exit m.last && e.ack)) was)
      by_ends false false was is = by_push e.push is refl

-- a turn of a quiet mixer keeps what is pushed before the last state free of Exit
pub turn_pushes : {P : Type 0} (c : Setup) (o : Outside) (m : NormalKept) (e : Turn) (back again sent : List (Option P)) (events : List (MutatorEvent P)) → IsQuiet m → LegalTurn c o m e → PushedRuns m.pushed m.last (pushed_states events)
    → PushedRuns (turn_after c (learnt o) m e).pushed (turn_after c (learnt o) m e).last (pushed_states (events ++ mutator_list c (learnt o) m e back again sent))
turn_pushes c o m e back again sent events quiet legal runs =
    subst (PushedRuns (turn_after c (learnt o) m e).pushed (turn_after c (learnt o) m e).last) (sym (pushed_append events (mutator_list c (learnt o) m e back again sent)))
    (turn_runs c o m e back again sent (pushed_states events) quiet legal runs)

-- before the first push no state was pushed
pub new_pushes : (last : FastState) → PushedRuns 0 last []
new_pushes last = record { none = (λ _. refl); some = (λ lt. absurd (omega arith)) }
