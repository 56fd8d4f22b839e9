-- A history goes on by what a poll did, if that found the last state pushed in it.
use Rattle.std.proofs.Common.{◌≡◌, ◌==◌, ℕ, Some, None, if◌then◌else◌, [], ◌∷◌, ◌++◌, append-nil, append_assoc, sym, ap, subst, ◌∙◌, arith}
use Rattle.af_play_law.proofs.Common.{Ack, AreOf, FastState, HasStateHistory, IsSane, MutatorPoint, ObserverEvent, ObserverPoint, SawNext, ServerState, add_two, history_sane, legal, mutated, next, observed, point_of, start_of_queue, two}
use Rattle.af_model.specs.declared.states.ObserverEvent.TheVariants as observer
use Rattle.af_play_law.specs.Polls.{Items, Polled, Pushed}
use Rattle.af_play_law.proofs.PollsAt.{Point, looks_at, point_is}
use Rattle.af_play_law.proofs.PushesRise.{SameLast, numbered, same_last}

-- ## One event

-- a look that found the state n, or its acknowledgement
abbrev pub IsOf : ℕ → ObserverEvent ServerState → Type 0
IsOf n (SawNext k x items) = k ≡ n
IsOf n (Ack k items) = k ≡ n
IsOf n (observer.Learn c) = ⊥

-- all of these events found the state n, or are its acknowledgement
abbrev pub AllOf : ℕ → Polled → Type 0
AllOf n [] = Unit {0}
AllOf n (b ∷ bs) = IsOf n b × AllOf n bs

-- if such an event is legal, n is the last state pushed
number_at : (p : Point) (n : ℕ) (b : ObserverEvent ServerState) → IsSane p → IsOf n b → legal p (two b) → p.mutator.pushed ≡ n
number_at p n (SawNext k x items) sane is l = sym l.0 ∙ is
number_at p n (Ack k items) sane is l =
    let d = sane.due (λ (none : p.observer.due ≡ 0). l.1 (l.0 ∙ none)) in
    (let a = l.0 in let b = d.0 in let c = d.1 in let v = sane.level in omega (arith, a, b, c, v, is))
number_at p n (observer.Learn c) sane is l = absurd is

-- such an event is legal wherever n is the last state pushed
moves : (m m' : MutatorPoint ServerState) (o : ObserverPoint ServerState) (n : ℕ) (b : ObserverEvent ServerState) → SameLast m m' → IsOf n b → legal (record { mutator = m; observer = o }) (two b) → legal (record { mutator = m'; observer = o }) (two b)
moves m m' o n (SawNext k x items) s is l = (
  l.0 ∙ sym s.pushed,
  l.1 ∙ ap (λ (z : FastState). if k == o.acked then None else Some z) (sym s.last),
  l.2 ∙ ap (λ (z : Items). if k == o.acked then [] else z) (sym s.items),
  l.3,
)
moves m m' o n (Ack k items) s is l = (l.0, l.1, subst (λ (w : FastState × FastState). AreOf w.0 w.1 items) (λ j. (sym s.before j, sym s.last j)) l.2)
moves m m' o n (observer.Learn c) s is l = absurd is

-- a history goes on by one event more
pub one_on : (first : FastState) (ms : Pushed) (os : Polled) (b : ObserverEvent ServerState) → HasStateHistory first ms os → legal (point_of first ms os) (two b) → HasStateHistory first ms (os ++ b ∷ [])
one_on first ms os b h l = add_two legal next (start_of_queue first) ms os b h (subst (λ (p : Point). legal p (two b)) (sym (point_is first ms os h)) l)

-- ## Events of a whole history

module _ (first : FastState) (all ms later : Pushed) (parts : all ≡ ms ++ later) where
  -- an event that found the last state that ms pushed may stand behind ms
  goes_on : (os : Polled) (b : ObserverEvent ServerState) (rest : Polled) → HasStateHistory first all (os ++ b ∷ rest) → IsOf (mutated first ms).pushed b → HasStateHistory first ms os → HasStateHistory first ms (os ++ b ∷ [])
  goes_on os b rest whole is h =
      let at = looks_at first all os b rest whole in
      let found : (mutated first at.front).pushed ≡ (mutated first ms).pushed = number_at (point_of first at.front os) (mutated first ms).pushed b (history_sane first at.front os at.history) is at.may in
      let same : SameLast (mutated first at.front) (mutated first ms) = same_last first all at.front at.back ms later (numbered first all (os ++ b ∷ rest) whole) at.parts parts (sym found) in
      one_on first ms os b h (moves (mutated first at.front) (mutated first ms) (observed os) (mutated first ms).pushed b same is at.may)

  -- events that all found the last state that ms pushed may stand behind ms
  pub all_go_on : (os bs rest : Polled) → HasStateHistory first all (os ++ (bs ++ rest)) → AllOf (mutated first ms).pushed bs → HasStateHistory first ms os → HasStateHistory first ms (os ++ bs)
  all_go_on os [] rest whole found h = subst (HasStateHistory first ms) (sym (append-nil os)) h
  all_go_on os (b ∷ bs) rest whole found h =
      let whole_on : HasStateHistory first all ((os ++ b ∷ []) ++ (bs ++ rest)) = subst (HasStateHistory first all) (sym (append_assoc os (b ∷ []) (bs ++ rest))) whole in
      subst (HasStateHistory first ms) (append_assoc os (b ∷ []) bs) (all_go_on (os ++ b ∷ []) bs rest whole_on found.1 (goes_on os b (bs ++ rest) whole found.0 h))
