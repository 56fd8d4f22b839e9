-- On a positional block each drop discards what was released before the flush that its look saw, and no more.
use Rattle.std.proofs.Common.{◌≡◌, ◌≢◌, ℕ, max, List, [], ◌∷◌, refl, sym, ◌∙◌, arith}
use Rattle.af_model.proofs.Common.{ClientEvent, HandEvent, ServerEvent}
use Rattle.af_base.specs.declared.event.ClientEvent.TheVariants as client
use Rattle.af_base.specs.declared.event.ServerEvent.TheVariants as server
use Rattle.af_base.specs.declared.event.HandEvent.TheVariants as hand
use Rattle.af_model.specs.declared.point.TrackPoint.{TrackPoint}
use Rattle.af_model.specs.declared.shape.Shape.{Shape}
use Rattle.af_model.specs.Point.{start, drop_end, after_client, after_server, after_hand}
use Rattle.af_model.specs.History.{Moment, by_client, by_server, by_hand, after, IsLegal}
use Rattle.af_model.specs.Fates.{InTurn}
use Rattle.af_model.specs.Discards.{flush_by, last_flush, seen_by, seen_flush, DropsBefore, DiscardsBefore}
use Rattle.af_model.proofs.Fates.{in_turn, drop_placed}

-- where a point says that the flushes stand
record Stand (p : TrackPoint) (last seen : ℕ) : Type 0 where
  last_is : p.flush_at ≡ last
  seen_is : p.drop_to ≡ seen

client_stands : (p : TrackPoint) (last seen : ℕ) (e : ClientEvent) → Stand p last seen → Stand (after_client p e) (flush_by p.released last e) seen
client_stands p last seen (client.Release count) s = record { last_is = s.last_is; seen_is = s.seen_is }
client_stands p last seen client.Flush s = record { last_is = refl; seen_is = s.seen_is }
client_stands p last seen (client.SetGain word) s = record { last_is = s.last_is; seen_is = s.seen_is }
client_stands p last seen (client.ClearFlags old) s = record { last_is = s.last_is; seen_is = s.seen_is }
client_stands p last seen _ s = s

server_stands : (p : TrackPoint) (last seen : ℕ) (e : ServerEvent) → Stand p last seen → Stand (after_server p e) last (seen_by last seen e)
server_stands p last seen (server.SawGain word) s = s
server_stands p last seen (server.SawFlush flush) s = record { last_is = s.last_is; seen_is = s.last_is }
server_stands p last seen (server.SawFront front) s = s
server_stands p last seen (server.Learn count) s = s
server_stands p last seen _ s = record { last_is = s.last_is; seen_is = s.seen_is }

hand_stands : (p : TrackPoint) (last seen : ℕ) (e : HandEvent) → Stand p last seen → Stand (after_hand p e) last seen
hand_stands p last seen (hand.SetFlags bits) s = record { last_is = s.last_is; seen_is = s.seen_is }
hand_stands p last seen (hand.Met count) s = s

module _ (k : Shape) where
  stands : (order : List Moment) → Stand (after (start k) order) (last_flush k order) (seen_flush k order)
  stands [] = record { last_is = refl; seen_is = refl }
  stands (by_client e ∷ order) = client_stands (after (start k) order) _ _ e (stands order)
  stands (by_server e ∷ order) = server_stands (after (start k) order) _ _ e (stands order)
  stands (by_hand e ∷ order) = hand_stands (after (start k) order) _ _ e (stands order)

  drop_discards : (order : List Moment) → k.wrap ≢ 0 → IsLegal (start k) order → (e : ServerEvent) → DropsBefore k order e
  drop_discards order placed h (server.Drop to) =
      let p : TrackPoint = after (start k) order in
      let t : InTurn k p = in_turn k order h in
      let seen : p.drop_to ≡ seen_flush k order = (stands order).seen_is in
      let end : drop_end p ≡ max p.drop_to p.consumed = drop_placed p (λ e. placed (sym t.wrap_is ∙ e)) in
      ((λ position low high. (let a = high in omega arith)), omega arith)
  drop_discards order placed h (server.SawGain word) = tt
  drop_discards order placed h (server.SawFlush flush) = tt
  drop_discards order placed h (server.SawRear rear) = tt
  drop_discards order placed h (server.SawFront front) = tt
  drop_discards order placed h (server.Take count) = tt
  drop_discards order placed h (server.Tally missing) = tt
  drop_discards order placed h (server.SetFlags bits) = tt
  drop_discards order placed h (server.SetStatus word) = tt
  drop_discards order placed h (server.Learn count) = tt

  -- in a legal order each drop discards what was released before the flush that its look saw, and no more
  pub discards-before : k.wrap ≢ 0 → (order : List Moment) → IsLegal (start k) order → DiscardsBefore k order
  discards-before placed [] h = tt
  discards-before placed (by_client e ∷ order) h = discards-before placed order h.1
  discards-before placed (by_server e ∷ order) h = (drop_discards order placed h.1 e, discards-before placed order h.1)
  discards-before placed (by_hand e ∷ order) h = discards-before placed order h.1
