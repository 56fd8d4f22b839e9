-- In a history of a pipe each front seen is the number of frames taken before it.
use Rattle.std.proofs.Common.{◌≡◌, ℕ, List, [], ◌∷◌, refl, subst}
use Rattle.af_base.specs.declared.event.ClientEvent.{ClientEvent}
use Rattle.af_base.specs.declared.event.ClientEvent.TheVariants as client
use Rattle.af_base.specs.declared.event.ServerEvent.{ServerEvent}
use Rattle.af_base.specs.declared.event.ServerEvent.TheVariants as server
use Rattle.af_model.specs.Order.{Event, one, two, twos, Legal}
use Rattle.af_model.specs.PipeHistory.{PipePoint, start_of_pipe, legal_in_pipe, next_in_pipe, HasPipeHistory}
use Rattle.af_link.specs.PipeEnds.{SeesTaken}

module _ (size : ℕ) where
  -- a step of the end that puts takes no frames
  put_leaves : (p : PipePoint) (e : ClientEvent) → (next_in_pipe p (one e)).taken ≡ p.taken
  put_leaves p (client.Release count) = refl
  put_leaves p _ = refl

  in_order : (p : PipePoint) (es : List (Event ClientEvent ServerEvent)) → Legal (legal_in_pipe size) next_in_pipe p es → SeesTaken p.taken (twos es)
  in_order p [] l = tt
  in_order p (one e ∷ es) l = subst (λ (n : ℕ). SeesTaken n (twos es)) (put_leaves p e) (in_order (next_in_pipe p (one e)) es l.1)
  in_order p (two (server.SawRear rear) ∷ es) l = in_order (next_in_pipe p (two (server.SawRear rear))) es l.1
  in_order p (two (server.SawFront front) ∷ es) l = (l.0, in_order (next_in_pipe p (two (server.SawFront front))) es l.1)
  in_order p (two (server.Take count) ∷ es) l = in_order (next_in_pipe p (two (server.Take count))) es l.1
  in_order p (two (server.Learn count) ∷ es) l = in_order (next_in_pipe p (two (server.Learn count))) es l.1
  in_order p (two (server.SawGain word) ∷ es) l = absurd l.0
  in_order p (two (server.SawFlush flush) ∷ es) l = absurd l.0
  in_order p (two (server.Drop to) ∷ es) l = absurd l.0
  in_order p (two (server.Tally missing) ∷ es) l = absurd l.0
  in_order p (two (server.SetFlags bits) ∷ es) l = absurd l.0
  in_order p (two (server.SetStatus word) ∷ es) l = absurd l.0

pub sees_taken : (size : ℕ) (puts : List ClientEvent) (put : List ℕ) (takes : List ServerEvent) (taken : List ℕ) → HasPipeHistory size puts put takes taken → SeesTaken 0 takes
sees_taken size puts put takes taken h = subst (λ (es : List ServerEvent). SeesTaken 0 es) h.history.of_two (in_order size start_of_pipe h.history.order h.history.is_legal)
