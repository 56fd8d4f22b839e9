-- A poll of the fast mixer finds the last state that the normal mixer has pushed, if its number is that one's, and leaves a history.
use Rattle.std.proofs.Common.{◌≡◌, ℕ, ◌+◌, ◌<◌, false, true, [], ◌∷◌, ◌++◌, append_assoc, Option, Some, None, sym, ap, subst, ◌∙◌, arith}
use Rattle.af_play_law.proofs.Common.{Adopts, FastState, FindsLast, HasStateHistory, IsSane, MixerState, New, NormalState, Nothing, Observes, Poll, Polls, Pushes, Same, ServerState, StreamNames, TakesIt, WasPolled, acknowledged, false_from_ne_true, history_sane, is_over, items_sent, mutated, mutated_by, observed, point_of, sees_same, took}
use Rattle.af_model.specs.declared.states.ObserverEvent.TheVariants as observer
use Rattle.af_told_law.specs.Leads.{Tells}
use Rattle.af_play_law.specs.Polls.{FindsLastOf, Items, Polled, Pushed}
use Rattle.af_play_law.proofs.QueueGoesOn.{AllOf, all_go_on}
use Rattle.af_play_law.proofs.RoundQueue.{finds_last_of}

abbrev Watching : Type 0
Watching = Observes ServerState StreamNames

abbrev Watched : Type 0
Watched = Polls ServerState StreamNames

-- ## What a poll adds to the observer's list

-- a look at the state of the number that the mixer has then, and perhaps its acknowledgement
pub record PollAdds (o o' : Watched) : Type 0 where
  pub state : Option FastState
  pub items : Items
  pub more : Polled
  pub list : o'.events ≡ o.events ++ observer.SawNext o'.number state items ∷ more
  pub acks : AllOf o'.number more

adds_same : (o o' : Watching) → o' ≡ sees_same o → PollAdds o.past o'.past
adds_same o o' is = record {
  state = None;
  items = [];
  more = [];
  list = ap (λ (w : Watching). w.past.events) is ∙ ap (λ (n : ℕ). o.past.events ++ observer.SawNext n None [] ∷ []) (sym (ap (λ (w : Watching). w.past.number) is));
  acks = tt;
}

adds_new : (x : FastState) (came back : Items) (o o' : Watched) → o' ≡ acknowledged back (took x came o) → PollAdds o o'
adds_new x came back o o' is =
    let number : o'.number ≡ o.number + 1 = ap (λ (w : Watched). w.number) is in
    record {
      state = Some x;
      items = came;
      more = observer.Ack (o.number + 1) back ∷ [];
      list = ap (λ (w : Watched). w.events) is ∙ append_assoc o.events (observer.SawNext (o.number + 1) (Some x) came ∷ []) (observer.Ack (o.number + 1) back ∷ [])
          ∙ ap (λ (n : ℕ). o.events ++ observer.SawNext n (Some x) came ∷ observer.Ack (o.number + 1) back ∷ []) (sym number);
      acks = (sym number, tt);
    }

pub poll_adds : (o o' : Watching) (poll : Poll) (s s' : ℕ) → WasPolled o poll o' s s' → PollAdds o.past o'.past
poll_adds o o' Nothing s s' was = adds_same o o' was.1
poll_adds o o' Same s s' was = adds_same o o' was.1
poll_adds o o' (New number) s s' was = let t : TakesIt o was.1.0 o' = was.1.1 in adds_new was.1.0 t.0 t.1 o.past o'.past (ap (λ (w : Watching). w.past) t.2)

-- ## A poll

-- A poll from f to g, and all that both ends of the queue did in the end, of which what the normal mixer m did is a beginning. The events of m and of f have a history, and after the poll the mixer has the number of the last state that m pushed
module _ (m : NormalState) (f g : MixerState) (adopts : Adopts f g) (on : is_over f ≡ false) (tells : Tells m.mutator.past) (acked : (observed f.observer.past.events).acked ≡ f.observer.past.number)
    (all later : Pushed) (parts : all ≡ m.mutator.past.events ++ later) (rest : Polled) (whole : HasStateHistory m.mutator.past.first all (g.observer.past.events ++ rest))
    (before : HasStateHistory m.mutator.past.first m.mutator.past.events f.observer.past.events) (number : g.observer.past.number ≡ m.mutator.past.number) where
  abbrev p : Pushes ServerState StreamNames
  p = m.mutator.past

  abbrev o : Watched
  o = f.observer.past

  abbrev o' : Watched
  o' = g.observer.past

  added : PollAdds o o'
  added = let q = adopts.polls on in poll_adds f.observer g.observer q.0 q.1 q.2 q.3

  number_is : o'.number ≡ (mutated p.first p.events).pushed
  number_is = number ∙ sym (tells.pushed p.first)

  -- the history goes on by the poll
  pub history_polled : HasStateHistory p.first p.events o'.events
  history_polled =
      let bs : Polled = observer.SawNext o'.number added.state added.items ∷ added.more in
      let found : AllOf (mutated p.first p.events).pushed bs = (number_is, subst (λ (n : ℕ). AllOf n added.more) number_is added.acks) in
      let long : HasStateHistory p.first all (o.events ++ (bs ++ rest)) = subst (HasStateHistory p.first all) (ap (λ (es : Polled). es ++ rest) added.list ∙ append_assoc o.events bs rest) whole in
      subst (HasStateHistory p.first p.events) (sym added.list) (all_go_on p.first all p.events later parts o.events bs rest long found before)

  module _ (x : FastState) (came back : Items) (is : o' ≡ acknowledged back (took x came o)) where
    one_on_from : o'.number ≡ o.number + 1
    one_on_from = ap (λ (w : Watched). w.number) is

    number_new : o.number + 1 ≡ (mutated p.first p.events).pushed
    number_new = sym one_on_from ∙ number_is

    whole_new : HasStateHistory p.first all (o.events ++ observer.SawNext (o.number + 1) (Some x) came ∷ (observer.Ack (o.number + 1) back ∷ rest))
    whole_new = subst (HasStateHistory p.first all)
        (ap (λ (w : Watched). w.events ++ rest) is
        ∙ append_assoc (o.events ++ observer.SawNext (o.number + 1) (Some x) came ∷ []) (observer.Ack (o.number + 1) back ∷ []) rest
        ∙ append_assoc o.events (observer.SawNext (o.number + 1) (Some x) came ∷ []) (observer.Ack (o.number + 1) back ∷ rest))
        whole

    found : FindsLastOf p.first p.events (o.number + 1) (Some x) came
    found = finds_last_of p.first all p.events later parts o.events (o.number + 1) (Some x) came (observer.Ack (o.number + 1) back ∷ rest) whole_new number_new

    -- the state that the poll took is the last one, with the items that went with it, and the mutator hadn't seen it acknowledged
    new_is_last : (x ≡ p.last) × (came ≡ items_sent m) × ((mutated_by m).clear ≡ false)
    new_is_last = (
      found.shows.0 ∙ tells.last (let more = number in let now = one_on_from in omega (arith, more, now)) p.first,
      found.shows.1,
      false_from_ne_true (mutated_by m).clear (λ (c : (mutated_by m).clear ≡ true). let sane : IsSane (point_of p.first p.events o.events) = history_sane p.first p.events o.events before in let all_acked = sane.seen c in omega (arith, all_acked, acked, number_new)),
    )

  pub finds_last : FindsLast m f g
  finds_last = record { number = number; new = new_is_last }
