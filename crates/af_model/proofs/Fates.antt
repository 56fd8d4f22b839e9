-- If nothing was dropped, what was taken begins what was released.
use Rattle.std.proofs.Common.{◌≡◌, ◌≢◌, ℕ, ◌+◌, ◌-◌, ◌≤◌, ◌==◌, if◌then◌else◌, max, Bool, eq-eqb, ne_eqb, eqb-true, false, true, true≢false, ◌&&◌, List, [], ◌∷◌, ◌++◌, take, drop, refl, sym, ap, ◌∙◌, subst, arith, take-add}
use Rattle.af_model.proofs.Common.{ClientEvent, HandEvent, ServerEvent, both_true}
use Rattle.af_base.specs.declared.event.ClientEvent.TheVariants as client
use Rattle.af_base.specs.declared.event.ServerEvent.TheVariants as server
use Rattle.af_base.specs.declared.event.HandEvent.TheVariants as hand
use Rattle.af_model.proofs.Basics.{both_first}
use Rattle.af_model.specs.declared.shape.Shape.{Shape}
use Rattle.af_model.specs.declared.point.TrackPoint.{TrackPoint}
use Rattle.af_model.specs.Point.{start, drop_end, ServerMay, after_client, after_server, after_hand}
use Rattle.af_model.specs.History.{Moment, by_client, by_server, by_hand, server_of, after, IsLegal, with_taken, taken_of, HasHistory}
use Rattle.af_model.specs.Fates.{keeps_all, drops_none, InTurn}
use Rattle.af_model.proofs.Logic.{both_right}

-- for wrap 0 a drop consumes all that the last rear showed
pub drop_flat : (p : TrackPoint) → p.wrap ≡ 0 → drop_end p ≡ p.rear_seen
drop_flat p flat = ap (λ (b : Bool). if b then p.rear_seen else max p.drop_to p.consumed) (eq-eqb p.wrap 0 flat)

-- if the wrap isn't 0, a drop consumes what was released before the flush that was seen
pub drop_placed : (p : TrackPoint) → p.wrap ≢ 0 → drop_end p ≡ max p.drop_to p.consumed
drop_placed p placed = ap (λ (b : Bool). if b then p.rear_seen else max p.drop_to p.consumed) (ne_eqb p.wrap 0 placed)

module _ (shape : Shape) (p : TrackPoint) (t : InTurn shape p) where
  low_as : (b : Bool) → (p.wrap == 0) ≡ b → p.consumed ≤ (if b then p.rear_seen else max p.drop_to p.consumed)
  low_as true e = t.to_seen (sym t.wrap_is ∙ eqb-true p.wrap 0 e)
  low_as false e = omega arith

  -- a drop takes nothing back
  pub drop_low : p.consumed ≤ drop_end p
  drop_low = low_as (p.wrap == 0) refl

  high_as : (b : Bool) → (if b then p.rear_seen else max p.drop_to p.consumed) ≤ p.released
  high_as true = t.to_released
  high_as false = let a = t.drop_flushed in let b = t.flush_released in let c = t.within in omega arith

  -- a drop never passes what was released
  pub drop_released : drop_end p ≤ p.released
  drop_released = high_as (p.wrap == 0)

client_turn : (shape : Shape) (p : TrackPoint) (e : ClientEvent) → InTurn shape p → InTurn shape (after_client p e)
client_turn shape p (client.Release count) t =
    record { wrap_is = t.wrap_is; from_base = t.from_base; within = (let a = t.within in omega arith); to_released = (let a = t.to_released in omega arith); flush_released = (let a = t.flush_released in omega arith); drop_flushed = t.drop_flushed; to_seen = t.to_seen }
client_turn shape p client.Flush t =
    record { wrap_is = t.wrap_is; from_base = t.from_base; within = t.within; to_released = t.to_released; flush_released = omega arith; drop_flushed = (let a = t.flush_released in let b = t.drop_flushed in omega arith); to_seen = t.to_seen }
client_turn shape p (client.SetGain word) t = record { wrap_is = t.wrap_is; from_base = t.from_base; within = t.within; to_released = t.to_released; flush_released = t.flush_released; drop_flushed = t.drop_flushed; to_seen = t.to_seen }
client_turn shape p (client.ClearFlags old) t = record { wrap_is = t.wrap_is; from_base = t.from_base; within = t.within; to_released = t.to_released; flush_released = t.flush_released; drop_flushed = t.drop_flushed; to_seen = t.to_seen }
client_turn shape p (client.SawFlags flags) t = t
client_turn shape p (client.SawFront front) t = t
client_turn shape p (client.SawStatus word) t = t
client_turn shape p (client.Poke word value) t = t
client_turn shape p (client.Learn count) t = t

server_turn : (shape : Shape) (others : ℕ) (p : TrackPoint) (e : ServerEvent) → ServerMay p others e → InTurn shape p → InTurn shape (after_server p e)
server_turn shape others p (server.SawGain word) may t = t
server_turn shape others p (server.SawFlush flush) may t =
    record { wrap_is = t.wrap_is; from_base = t.from_base; within = t.within; to_released = t.to_released; flush_released = t.flush_released; drop_flushed = omega arith; to_seen = t.to_seen }
server_turn shape others p (server.SawRear rear) may t =
    record { wrap_is = t.wrap_is; from_base = t.from_base; within = t.within; to_released = omega arith; flush_released = t.flush_released; drop_flushed = t.drop_flushed; to_seen = (λ _. t.within) }
server_turn shape others p (server.SawFront front) may t = t
server_turn shape others p (server.Drop to) may t =
    let low = drop_low shape p t in
    record { wrap_is = t.wrap_is; from_base = (let a = t.from_base in omega arith); within = drop_released shape p t; to_released = t.to_released; flush_released = t.flush_released; drop_flushed = t.drop_flushed; to_seen = (λ flat. let e = drop_flat p (t.wrap_is ∙ flat) in omega arith) }
server_turn shape others p (server.Take count) may t =
    record { wrap_is = t.wrap_is; from_base = (let a = t.from_base in omega arith); within = (let a = t.to_released in omega arith); to_released = t.to_released; flush_released = t.flush_released; drop_flushed = t.drop_flushed; to_seen = (λ _. may) }
server_turn shape others p (server.Tally missing) may t = record { wrap_is = t.wrap_is; from_base = t.from_base; within = t.within; to_released = t.to_released; flush_released = t.flush_released; drop_flushed = t.drop_flushed; to_seen = t.to_seen }
server_turn shape others p (server.SetFlags bits) may t = record { wrap_is = t.wrap_is; from_base = t.from_base; within = t.within; to_released = t.to_released; flush_released = t.flush_released; drop_flushed = t.drop_flushed; to_seen = t.to_seen }
server_turn shape others p (server.SetStatus word) may t = record { wrap_is = t.wrap_is; from_base = t.from_base; within = t.within; to_released = t.to_released; flush_released = t.flush_released; drop_flushed = t.drop_flushed; to_seen = t.to_seen }
server_turn shape others p (server.Learn count) may t = t

hand_turn : (shape : Shape) (p : TrackPoint) (e : HandEvent) → InTurn shape p → InTurn shape (after_hand p e)
hand_turn shape p (hand.SetFlags bits) t = record { wrap_is = t.wrap_is; from_base = t.from_base; within = t.within; to_released = t.to_released; flush_released = t.flush_released; drop_flushed = t.drop_flushed; to_seen = t.to_seen }
hand_turn shape p (hand.Met client) t = t

-- positions never pass one another
pub in_turn : (shape : Shape) (order : List Moment) → IsLegal (start shape) order → InTurn shape (after (start shape) order)
in_turn shape [] h =
    record { wrap_is = refl; from_base = omega arith; within = omega arith; to_released = omega arith; flush_released = omega arith; drop_flushed = omega arith; to_seen = (λ _. omega arith) }
in_turn shape (by_client e ∷ order) h = client_turn shape _ e (in_turn shape order h.1)
in_turn shape (by_server e ∷ order) h = server_turn shape _ _ e h.0 (in_turn shape order h.1)
in_turn shape (by_hand e ∷ order) h = hand_turn shape _ e (in_turn shape order h.1)

before_it : (es : List ServerEvent) (e : ServerEvent) → drops_none (es ++ e ∷ []) ≡ true → (drops_none es ≡ true) × (keeps_all e ≡ true)
before_it [] e h = (refl, both_first (keeps_all e) true h)
before_it (x ∷ es) e h = let r = before_it es e (both_right (keeps_all x) _ h) in let x' : keeps_all x ≡ true = both_first (keeps_all x) _ h in (ap (λ b. b && drops_none es) x' ∙ r.0, r.1)

module _ (frames : List ℕ) (shape : Shape) where
  -- what was taken is what was released up to the position consumed
  abbrev pub Begins : TrackPoint → List ℕ → Type 0
  Begins p taken = taken ≡ take (p.consumed - shape.base) frames

  of_client : (p : TrackPoint) (taken : List ℕ) (e : ClientEvent) → Begins p taken → Begins (after_client p e) taken
  of_client p taken (client.Release count) b = b
  of_client p taken _ b = b

  of_server : (p : TrackPoint) (taken : List ℕ) (e : ServerEvent) → shape.base ≤ p.consumed → keeps_all e ≡ true → Begins p taken → Begins (after_server p e) (with_taken frames shape.base p taken e)
  of_server p taken (server.SawGain word) low k b = b
  of_server p taken (server.SawFlush flush) low k b = b
  of_server p taken (server.SawRear rear) low k b = b
  of_server p taken (server.SawFront front) low k b = b
  of_server p taken (server.Drop to) low k b = absurd (true≢false (sym k))
  of_server p taken (server.Take count) low k b =
      let d : ℕ = p.consumed - shape.base in
      let next : d + count ≡ p.consumed + count - shape.base = omega arith in
      ap (λ (l : List ℕ). l ++ take count (drop d frames)) b ∙ sym (take-add d count frames) ∙ ap (λ (n : ℕ). take n frames) next
  of_server p taken (server.Tally missing) low k b = b
  of_server p taken (server.SetFlags bits) low k b = b
  of_server p taken (server.SetStatus word) low k b = b
  of_server p taken (server.Learn count) low k b = b

  of_hand : (p : TrackPoint) (taken : List ℕ) (e : HandEvent) → Begins p taken → Begins (after_hand p e) taken
  of_hand p taken (hand.SetFlags bits) b = b
  of_hand p taken (hand.Met client) b = b

  pub begins : (order : List Moment) → IsLegal (start shape) order → drops_none (server_of order) ≡ true → Begins (after (start shape) order) (taken_of frames shape order)
  begins [] h none = let e : shape.base - shape.base ≡ 0 = omega arith in sym (ap (λ (n : ℕ). take n frames) e)
  begins (by_client e ∷ order) h none = of_client _ _ e (begins order h.1 none)
  begins (by_server e ∷ order) h none =
      let b = before_it (server_of order) e none in
      of_server _ _ e (in_turn shape order h.1).from_base b.1 (begins order h.1 b.0)
  begins (by_hand e ∷ order) h none = of_hand _ _ e (begins order h.1 none)

-- if nothing was dropped, the frames taken begin the frames released
pub taken_begins : (shape : Shape) (ce : List ClientEvent) (cf : List ℕ) (se : List ServerEvent) (sf : List ℕ) (he : List HandEvent) → HasHistory shape ce cf se sf he → drops_none se ≡ true
    → (n : ℕ) × (sf ≡ take n cf)
taken_begins shape ce cf se sf he h none =
    (_, sym h.taken_is ∙ begins cf shape h.order h.legal (subst (λ es. drops_none es ≡ true) (sym h.server_is) none))

-- an event that drops nothing adds no drop
pub drops_more : (es : List ServerEvent) (e : ServerEvent) → keeps_all e ≡ true → drops_none es ≡ true → drops_none (es ++ e ∷ []) ≡ true
drops_more [] e k h = both_true (keeps_all e) true k refl
drops_more (x ∷ es) e k h = both_true (keeps_all x) _ (both_first (keeps_all x) _ h) (drops_more es e k (both_right (keeps_all x) _ h))
