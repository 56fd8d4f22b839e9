-- In a round of all parties each cycle whose state was pushed before finds the last of those, and each later one finds that which the normal mixer's turn pushed.
use Rattle.std.proofs.Common.{◌≡◌, ℕ, suc, ◌+◌, ◌<◌, ◌≤◌, nat_le, Bool, true, false, if◌then◌else◌, take, drop, List, [], ◌∷◌, ◌++◌, length, append-nil, append_assoc, refl, sym, ap, subst, ◌∙◌, arith}
use Rattle.af_play_law.proofs.Common.{EndsMet, EntrySeen, FastState, FindsLast, HasStateHistory, IsInOrder as IsFastInOrder, Links, MixerState, Observes, Pushes, ReaderSide, SeesTaken, ServerState, SessionState, StandsBetween, StreamNames, leb-false, leb-true, prefix_len}
use Rattle.af_model.specs.declared.states.ObserverEvent.TheVariants as observer
use Rattle.af_told_law.specs.Leads.{Tells}
use Rattle.af_play_law.specs.Polls.{GrowsByTurn, Polled}
use Rattle.af_play_law.proofs.Cycled.{CyclesAre, OneAdded, chain_grows}
use Rattle.af_play_law.proofs.CyclesGrow.{EndsGrow, grow_both, mix_grows, once_grows}
use Rattle.af_play_law.proofs.CyclesTold.{AllShown}
use Rattle.af_play_law.proofs.OneCycle.{number_rises}
use Rattle.af_play_law.proofs.RoundPipe.{sees_in_round}
use Rattle.af_play_law.proofs.RoundPolls.{PollAdds, poll_adds}
use Rattle.af_play_law.proofs.RoundTurned.{ComesLate, early_poll, late_poll}

-- ## Early and late entries

-- the states of all these entries were pushed before, of which there were n
abbrev pub AllEarly : ℕ → List EntrySeen → Type 0
AllEarly n [] = Unit {0}
AllEarly n (e ∷ es) = (e.entry.state ≤ n) × AllEarly n es

-- the states of none of these entries were pushed before
abbrev pub AllLate : ℕ → List EntrySeen → Type 0
AllLate n [] = Unit {0}
AllLate n (e ∷ es) = (n < e.entry.state) × AllLate n es

-- the state of the first of these entries, if there is one, wasn't pushed before
abbrev pub StartsLate : ℕ → List EntrySeen → Type 0
StartsLate n [] = Unit {0}
StartsLate n (e ∷ es) = n < e.entry.state

module _ (n : ℕ) where
  abbrev early : EntrySeen → Bool
  early e = nat_le e.entry.state n

  one_on : (e : EntrySeen) (es : List EntrySeen) → early e ≡ true → prefix_len early (e ∷ es) ≡ suc (prefix_len early es)
  one_on e es is = ap (λ (b : Bool). if b then 1 + prefix_len early es else 0) is ∙ (let k : ℕ = prefix_len early es in let same : 1 + k ≡ suc k = omega arith in same)

  none_on : (e : EntrySeen) (es : List EntrySeen) → early e ≡ false → prefix_len early (e ∷ es) ≡ 0
  none_on e es is = ap (λ (b : Bool). if b then 1 + prefix_len early es else 0) is

  -- the first entries of a round up to the first late one
  pub front_early : (es : List EntrySeen) → AllEarly n (take (prefix_len early es) es)
  front_early [] = tt
  front_early (e ∷ es) = by_first (early e) refl (front_early es)
    where
      by_first : (b : Bool) → early e ≡ b → AllEarly n (take (prefix_len early es) es) → AllEarly n (take (prefix_len early (e ∷ es)) (e ∷ es))
      by_first true is rest = subst (λ (k : ℕ). AllEarly n (take k (e ∷ es))) (sym (one_on e es is)) (leb-true e.entry.state n is, rest)
      by_first false is rest = subst (λ (k : ℕ). AllEarly n (take k (e ∷ es))) (sym (none_on e es is)) tt

  pub back_late : (es : List EntrySeen) → StartsLate n (drop (prefix_len early es) es)
  back_late [] = tt
  back_late (e ∷ es) = by_first (early e) refl (back_late es)
    where
      by_first : (b : Bool) → early e ≡ b → StartsLate n (drop (prefix_len early es) es) → StartsLate n (drop (prefix_len early (e ∷ es)) (e ∷ es))
      by_first true is rest = subst (λ (k : ℕ). StartsLate n (drop k (e ∷ es))) (sym (one_on e es is)) rest
      by_first false is rest = subst (λ (k : ℕ). StartsLate n (drop k (e ∷ es))) (sym (none_on e es is)) (leb-false e.entry.state n is)

-- ## The numbers of the entries

module _ (links : Links) where
  -- the number of an entry is that of its poll, which the mix leaves
  pub number_is : (f : MixerState) (e : EntrySeen) (g : MixerState) (one : OneAdded links f e g) → e.entry.state ≡ one.once.polled.observer.past.number
  number_is f e g one = ap (λ (x : EntrySeen). x.entry.state) one.is ∙ one.adds.state

  number_left : (f : MixerState) (e : EntrySeen) (g : MixerState) (one : OneAdded links f e g) → g.observer.past.number ≡ e.entry.state
  number_left f e g one = ap (λ (o : Observes ServerState StreamNames). o.past.number) one.adds.takes.observer ∙ sym (number_is f e g one)

  -- behind a late entry all are late
  all_behind : (n : ℕ) (es : List EntrySeen) (f g : MixerState) → CyclesAre links es f g → n < f.observer.past.number → AllLate n es
  all_behind n [] f g c low = tt
  all_behind n (e ∷ es) f g (next, one, c) low =
      let up = number_rises f one.once.polled one.once.adopts one.on in
      let is = number_is f e next one in
      let left = number_left f e next one in
      let here : n < e.entry.state = omega (arith, up, is, low) in
      (here, all_behind n es next g c (omega (arith, here, left)))

  pub all_late : (n : ℕ) (es : List EntrySeen) (f g : MixerState) → CyclesAre links es f g → StartsLate n es → AllLate n es
  all_late n [] f g c first = tt
  all_late n (e ∷ es) f g (next, one, c) first = (first, all_behind n es next g c (let left = number_left f e next one in omega (arith, left, first)))

-- ## The polls of a round

-- The parties x made their turns, by which they were u, and the mixers' ends met
module _ (links : Links) (x u z : SessionState) (ends : EndsMet u.normal z.normal u.fast z.fast) (between : StandsBetween x) (same_first : u.normal.mutator.past.first ≡ x.normal.mutator.past.first) (grows : GrowsByTurn x.normal.mutator.past.events u.normal.mutator.past.events) where
  abbrev m : Pushes ServerState StreamNames
  m = x.normal.mutator.past

  -- a cycle of the round from f to next, with those before and behind it
  module _ (f next : MixerState) (e : EntrySeen) (one : OneAdded links f e next) (before : EndsGrow x.fast f) (behind : EndsGrow next u.fast) where
    abbrev p : MixerState
    p = one.once.polled

    polled_behind : EndsGrow p u.fast
    polled_behind = grow_both p next u.fast (mix_grows p next one.once.before one.once.after one.answer one.once.mixes) behind

    saw_here : SeesTaken 0 next.pipe.pass.part.events
    saw_here = sees_in_round u z ends next behind.takes behind.taken

    -- an early cycle found the last state pushed before the round
    early_found : IsFastInOrder f → HasStateHistory m.first m.events f.observer.past.events → e.entry.state ≤ m.number → FindsLast x.normal f p × HasStateHistory m.first m.events p.observer.past.events
    early_found order h low =
        early_poll x u z ends between same_first grows f p one.once.adopts one.on order.observer.told.acked before.polls polled_behind.polls before.polled polled_behind.polled h
        (let is = number_is links f e next one in omega (arith, is, low))

    -- a late cycle found the one that the turn pushed
    late_found : Tells u.normal.mutator.past → IsFastInOrder f → HasStateHistory m.first u.normal.mutator.past.events f.observer.past.events → m.number < e.entry.state → FindsLast u.normal f p × HasStateHistory m.first u.normal.mutator.past.events p.observer.past.events
    late_found tells order h late =
        late_poll x u z ends between same_first grows f p one.once.adopts one.on order.observer.told.acked before.polls polled_behind.polls before.polled polled_behind.polled tells h
        (let is = number_is links f e next one in omega (arith, is, late))

  -- each early cycle found the last state pushed before the round
  pub early_shown : (es : List EntrySeen) (f g : MixerState) (c : CyclesAre links es f g) → IsFastInOrder f → EndsGrow x.fast f → EndsGrow g u.fast → HasStateHistory m.first m.events f.observer.past.events → AllEarly m.number es → AllShown links x.normal es f g c
  early_shown [] f g c order before behind h low = tt
  early_shown (e ∷ es) f g (next, one, c) order before behind h low =
      let rest : EndsGrow next u.fast = grow_both next g u.fast (chain_grows links es next g c) behind in
      let now = early_found f next e one before rest order h low.0 in (
        record { finds = now.0; history = now.1; sees = saw_here f next e one before rest },
        early_shown es next g c one.once.mixed_in.0 (grow_both x.fast f next before (once_grows links f next one.answer one.bytes one.once)) behind
            (subst (λ (o : Observes ServerState StreamNames). HasStateHistory m.first m.events o.past.events) (sym one.adds.takes.observer) now.1) low.1,
      )

  -- each late cycle found the one that the turn pushed; the reader of the report has no part in it
  pub late_shown : (r : ReaderSide) → Tells u.normal.mutator.past → (es : List EntrySeen) (f g : MixerState) (c : CyclesAre links es f g) → IsFastInOrder f → EndsGrow x.fast f → EndsGrow g u.fast → HasStateHistory m.first u.normal.mutator.past.events f.observer.past.events
      → AllLate m.number es → AllShown links (record u.normal { reader = r }) es f g c
  late_shown r tells [] f g c order before behind h late = tt
  late_shown r tells (e ∷ es) f g (next, one, c) order before behind h late =
      let rest : EndsGrow next u.fast = grow_both next g u.fast (chain_grows links es next g c) behind in
      let now = late_found f next e one before rest tells order h late.0 in (
        record {
          finds = record { number = now.0.number; new = now.0.new };
          history = subst (λ (first : FastState). HasStateHistory first u.normal.mutator.past.events one.once.polled.observer.past.events) (sym same_first) now.1;
          sees = saw_here f next e one before rest;
        },
        late_shown r tells es next g c one.once.mixed_in.0 (grow_both x.fast f next before (once_grows links f next one.answer one.bytes one.once)) behind
            (subst (λ (o : Observes ServerState StreamNames). HasStateHistory m.first u.normal.mutator.past.events o.past.events) (sym one.adds.takes.observer) now.1) late.1,
      )

-- ## What the late cycles polled

-- what a chain of these entries polled begins with a look at a late state, or there are none
pub record PollsLate (n : ℕ) (es : List EntrySeen) (f g : MixerState) : Type 0 where
  pub polls : Polled
  pub polled : g.observer.past.events ≡ f.observer.past.events ++ polls
  pub late : ComesLate n polls
  pub none : polls ≡ [] → es ≡ []

module _ (links : Links) (n : ℕ) where
  pub chain_late : (es : List EntrySeen) (f g : MixerState) → CyclesAre links es f g → StartsLate n es → PollsLate n es f g
  chain_late [] f g c late = record { polls = []; polled = ap (λ (w : MixerState). w.observer.past.events) c ∙ sym (append-nil f.observer.past.events); late = tt; none = (λ is. refl) }
  chain_late (e ∷ es) f g (next, one, c) late =
      let p : MixerState = one.once.polled in
      let q = one.once.adopts.polls one.on in
      let added : PollAdds f.observer.past p.observer.past = poll_adds f.observer p.observer q.0 q.1 q.2 q.3 in
      let behind : EndsGrow p g = grow_both p next g (mix_grows p next one.once.before one.once.after one.answer one.once.mixes) (chain_grows links es next g c) in
      record {
        polls = observer.SawNext p.observer.past.number added.state added.items ∷ (added.more ++ behind.polls);
        polled = behind.polled ∙ ap (λ (l : Polled). l ++ behind.polls) added.list
            ∙ append_assoc f.observer.past.events (observer.SawNext p.observer.past.number added.state added.items ∷ added.more) behind.polls;
        late = (let is = number_is links f e next one in omega (arith, is, late));
        none = (λ is. absurd (let long : length (observer.SawNext p.observer.past.number added.state added.items ∷ (added.more ++ behind.polls)) ≡ 0 = ap (λ (l : Polled). length l) is in omega (arith, long)));
      }
