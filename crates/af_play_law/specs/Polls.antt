-- What a poll finds while the mutator makes a turn at the same time.
use Rattle.std.specs.Prelude.{◌≡◌, ◌⊎◌, ℕ, ◌≤◌, ◌<◌, ◌++◌, false, List, [], ◌∷◌, length, Option, IfSome}
use Rattle.std.specs.List.{list_any}
use Rattle.af_base.specs.declared.state.FastState.{FastState}
use Rattle.af_model.specs.declared.states.MutatorEvent.{MutatorEvent}
use Rattle.af_model.specs.declared.states.MutatorEvent.TheVariants as mutator
use Rattle.af_model.specs.declared.states.ObserverEvent.{ObserverEvent}
use Rattle.af_model.specs.declared.states.ObserverEvent.TheVariants as observer
use Rattle.af_model.specs.StateQueue.{HasStateHistory, mutated}
use Rattle.af_server.specs.Order.{ServerState}
use Rattle.af_stateq.specs.Laws.{is_push}
use Rattle.af_told_law.specs.Leads.{HasLearnt}

-- the events of the queue's mutator, those of its observer, and the items that go with a state
abbrev pub Pushed : Type 0
Pushed = List (MutatorEvent ServerState)

abbrev pub Polled : Type 0
Polled = List (ObserverEvent ServerState)

abbrev pub Items : Type 0
Items = List (Option ServerState)

-- Since a meeting the mutator's list grew from ms to us, by looks and perhaps a push behind them
pub record GrowsByTurn (ms us : Pushed) : Type 0 where
  pub looks : Pushed
  pub none : list_any is_push looks ≡ false
  pub ends : (us ≡ ms ++ looks) ⊎ ((k : ℕ) × (y : FastState) × (sent : Items) × (us ≡ (ms ++ looks) ++ mutator.Push k y sent ∷ []))

-- A look found the last state that these events push: it saw that state's number, and if it took a state, that one, with the items that went with it
pub record FindsLastOf (first : FastState) (ms : Pushed) (k : ℕ) (x : Option FastState) (items : Items) : Type 0 where
  pub number : k ≡ (mutated first ms).pushed
  pub shows : IfSome x (λ z. (z ≡ (mutated first ms).last) × (items ≡ (mutated first ms).items))

-- An observer that had learnt of all pushes at the last meeting finds at each poll since then the last state pushed before that meeting, or the one pushed since
abbrev pub PollsFindOneOfTwo : Type 0
PollsFindOneOfTwo = (first : FastState) (ms us : Pushed) (old since rest : Polled) (c k : ℕ) (x : Option FastState) (items : Items)
    → GrowsByTurn ms us → ((mutated first ms).pushed ≡ 0) ⊎ HasLearnt ms old → HasStateHistory first (us ++ mutator.Learn c ∷ []) ((old ++ since) ++ observer.SawNext k x items ∷ rest)
    → FindsLastOf first ms k x items ⊎ FindsLastOf first us k x items

-- what the observer did next saw the state k or a later one, or it learnt of more than so many events
abbrev pub ComesBehind : ℕ → ℕ → Polled → Type 0
ComesBehind count k [] = ⊥
ComesBehind count k (observer.SawNext j x items ∷ os) = k ≤ j
ComesBehind count k (observer.Ack j items ∷ os) = ⊥
ComesBehind count k (observer.Learn c ∷ os) = count < c

-- What the observer did before it could see the state k, by what the mutator had done up to ms, stands before the push of k: with the mutator's list up to there it has a history of its own
abbrev pub PollsStandBeforePush : Type 0
PollsStandBeforePush = (first : FastState) (ms looks : Pushed) (k : ℕ) (y : FastState) (sent : Items) (behind : Pushed) (es ls : Polled)
    → HasStateHistory first (((ms ++ looks) ++ mutator.Push k y sent ∷ []) ++ behind) (es ++ ls) → HasStateHistory first ms es → ComesBehind (length (ms ++ looks)) k ls
    → HasStateHistory first ((ms ++ looks) ++ mutator.Push k y sent ∷ []) es
