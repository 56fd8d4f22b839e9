-- Which state a look finds that stands behind others since a meeting: the last one pushed before that meeting, or the one pushed since.
use Rattle.std.proofs.Common.{◌≡◌, ◌≢◌, ◌⊎◌, inl, inr, ⊎_elim, ℕ, ◌+◌, ◌≤◌, [], ◌∷◌, ◌++◌, append_assoc, Option, Some, None, IfSome, refl, sym, ap, subst, ◌∙◌, arith}
use Rattle.af_play_law.proofs.Common.{FastState, HasStateHistory, HasLearnt, MutatorEvent, ServerState, Stands, cases_eq, mutated, observed}
use Rattle.af_model.specs.declared.states.MutatorEvent.TheVariants as mutator
use Rattle.af_model.specs.declared.states.ObserverEvent.TheVariants as observer
use Rattle.af_play_law.specs.Polls.{FindsLastOf, GrowsByTurn, Items, Polled, PollsFindOneOfTwo, Pushed}
use Rattle.af_play_law.proofs.PollsAt.{PollsAt, polls_at}
use Rattle.af_play_law.proofs.PushesRise.{Numbered, SameLast, longer_pushes, no_fewer_then, none_more_then, numbered, push_counts, push_number, same_last}

-- ## One look

module _ (first : FastState) (all ms later : Pushed) (parts : all ≡ ms ++ later) (os : Polled) (k : ℕ) (x : Option FastState) (items : Items) (rest : Polled) (whole : HasStateHistory first all (os ++ observer.SawNext k x items ∷ rest)) where
  look : PollsAt first all os k x items
  look = polls_at first all os k x items rest whole

  numbers : Numbered 0 all
  numbers = numbered first all (os ++ observer.SawNext k x items ∷ rest) whole

  -- the look finds no state that isn't pushed in the end
  pub none_later : k ≤ (mutated first all).pushed
  none_later =
      let low = no_fewer_then first look.at.front look.at.back (subst (Numbered 0) look.at.parts numbers) in
      let same = ap (λ (l : Pushed). (mutated first l).pushed) look.at.parts in
      let is = look.number in
      omega (arith, low, same, is)

  -- the look finds no earlier state than the last of which the observer had learnt
  pub none_earlier : (old since : Polled) → os ≡ old ++ since → ((mutated first ms).pushed ≡ 0) ⊎ HasLearnt ms old → (mutated first ms).pushed ≤ k
  none_earlier old since is knows = ⊎_elim (λ (none : (mutated first ms).pushed ≡ 0). (let low : (mutated first ms).pushed ≤ k = omega (arith, none) in low)) learnt knows
    where
      learnt : HasLearnt ms old → (mutated first ms).pushed ≤ k
      learnt l =
          let stands : Stands (observer.Learn l.count) os = record { before = l.before; behind = since; whole = is ∙ ap (λ (es : Polled). es ++ since) l.learnt ∙ append_assoc l.before (observer.Learn l.count ∷ []) since } in
          let told_parts : all ≡ l.told ++ (l.more ++ later) = parts ∙ ap (λ (es : Pushed). es ++ later) l.parts ∙ append_assoc l.told l.more later in
          let enough = l.enough in
          let reached = look.at.learnt l.count stands in
          let low = longer_pushes first all l.told (l.more ++ later) look.at.front look.at.back numbers told_parts look.at.parts (omega (arith, enough, reached)) in
          let same = ap (λ (es : Pushed). (mutated first es).pushed) l.parts ∙ none_more_then first l.told l.more l.none_pushed in
          let now = look.number in
          omega (arith, low, same, now)

  -- if the look has the number of the last state that ms pushed, it finds that state
  pub finds_last_of : k ≡ (mutated first ms).pushed → FindsLastOf first ms k x items
  finds_last_of is = record { number = is; shows = by_state x look.shows }
    where
      same : SameLast (mutated first look.at.front) (mutated first ms)
      same = same_last first all look.at.front look.at.back ms later numbers look.at.parts parts (sym is ∙ look.number)

      by_state : (x : Option FastState) → IfSome x (λ z. (z ≡ (mutated first look.at.front).last) × (items ≡ (mutated first look.at.front).items) × ((observed os).acked + 1 ≡ k)) → IfSome x (λ z. (z ≡ (mutated first ms).last) × (items ≡ (mutated first ms).items))
      by_state None s = tt
      by_state (Some z) s = (s.0 ∙ sym same.last, s.1 ∙ sym same.items)

-- ## A turn

-- the events of the turn
pub grown_by : (ms us : Pushed) → GrowsByTurn ms us → (turn : Pushed) × (us ≡ ms ++ turn)
grown_by ms us g = elim (g.ends) as (λ _. (turn : Pushed) × (us ≡ ms ++ turn)) [
  | inl is ↦ (g.looks, is)
  | inr push ↦ (g.looks ++ mutator.Push push.0 push.1 push.2 ∷ [], push.3 ∙ append_assoc ms g.looks (mutator.Push push.0 push.1 push.2 ∷ []))
]

-- the turn pushes no more than one state
pub one_more : (first : FastState) (ms us later : Pushed) (os : Polled) → GrowsByTurn ms us → HasStateHistory first (us ++ later) os → (mutated first us).pushed ≤ (mutated first ms).pushed + 1
one_more first ms us later os g h = elim (g.ends) as (λ _. (mutated first us).pushed ≤ (mutated first ms).pushed + 1) [
  | inl is ↦ (let same = ap (λ (l : Pushed). (mutated first l).pushed) is in omega (arith, same, looks))
  | inr push ↦
      let event : MutatorEvent ServerState = mutator.Push push.0 push.1 push.2 in
      let list : us ++ later ≡ (ms ++ g.looks) ++ event ∷ later = ap (λ (l : Pushed). l ++ later) push.3 ∙ append_assoc (ms ++ g.looks) (event ∷ []) later in
      let same = ap (λ (l : Pushed). (mutated first l).pushed) push.3 in
      let now = push_number first (ms ++ g.looks) later push.0 push.1 push.2 (subst (Numbered 0) list (numbered first (us ++ later) os h)) in
      let is = push_counts first (ms ++ g.looks) push.0 push.1 push.2 in
      omega (arith, same, now, is, looks)
]
  where
    looks : (mutated first (ms ++ g.looks)).pushed ≡ (mutated first ms).pushed
    looks = none_more_then first ms g.looks g.none

-- ## One of two states

-- a meeting at the end
abbrev pub met_of : ℕ → Pushed
met_of c = mutator.Learn c ∷ []

pub find_one_of_two : PollsFindOneOfTwo
find_one_of_two first ms us old since rest c k x items grows knows whole = ⊎_elim
    (λ (is : k ≡ (mutated first ms).pushed). inl (finds_last_of first (us ++ met_of c) ms (turn.0 ++ met_of c) parts (old ++ since) k x items rest whole is))
    (λ (other : k ≢ (mutated first ms).pushed). inr (finds_last_of first (us ++ met_of c) us (met_of c) refl (old ++ since) k x items rest whole (last other)))
    (cases_eq k (mutated first ms).pushed)
  where
    turn : (turn : Pushed) × (us ≡ ms ++ turn)
    turn = grown_by ms us grows

    parts : us ++ met_of c ≡ ms ++ (turn.0 ++ met_of c)
    parts = ap (λ (l : Pushed). l ++ met_of c) turn.1 ∙ append_assoc ms turn.0 (met_of c)

    last : k ≢ (mutated first ms).pushed → k ≡ (mutated first us).pushed
    last other =
        let low = none_earlier first (us ++ met_of c) ms (turn.0 ++ met_of c) parts (old ++ since) k x items rest whole old since refl knows in
        let high = none_later first (us ++ met_of c) us (met_of c) refl (old ++ since) k x items rest whole in
        let none = none_more_then first us (met_of c) refl in
        let few = one_more first ms us (met_of c) ((old ++ since) ++ observer.SawNext k x items ∷ rest) grows whole in
        omega (arith, low, high, none, few, other)
