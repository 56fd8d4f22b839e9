-- Lists that come piece by piece.
use Rattle.std.specs.Prelude.{◌≡◌, ◌≤◌, ◌<◌, Some, slice_get, ℕ, List, [], ◌∷◌, ◌++◌, length, Bool, true, IsTrue, nat_le, ◌==◌, ◌&&◌, ◌||◌}
use Rattle.af_base.specs.declared.event.HandEvent.{HandEvent}
use Rattle.af_base.specs.declared.event.ClientEvent.{ClientEvent}
use Rattle.af_base.specs.declared.event.ServerEvent.{ServerEvent}
use Rattle.af_base.specs.declared.event.HandEvent.TheVariants as hand
use Rattle.af_model.specs.declared.point.TrackPoint.{TrackPoint}
use Rattle.af_merges.specs.declared.search.Stage.{Stage}
use Rattle.std.specs.List.{Contains}
use Rattle.af_merges.specs.Walks.{walk}
use Rattle.af_merges.specs.Stages.{Lists, Who, begin, move, is_met, keeps_mets}

-- no Met of the hand's list names more client events than these
abbrev pub knows_no_more : List HandEvent → ℕ → Bool
knows_no_more [] clients = true
knows_no_more (hand.SetFlags bits ∷ hs) clients = knows_no_more hs clients
knows_no_more (hand.Met known ∷ hs) clients = nat_le known clients && knows_no_more hs clients

-- an event that comes later may be the next one after m
abbrev pub is_open : Lists → Stage → Bool
is_open l m =
    m.clients == length l.client || m.servers == length l.server || (m.hands == length l.hand && knows_no_more l.hand m.clients)

abbrev pub IsOpen : Lists → Stage → Type 0
IsOpen l m = IsTrue (is_open l m)

-- the events of the hand from the one place up to the other are Mets
abbrev pub AreMets : List HandEvent → ℕ → ℕ → Type 0
AreMets hs a b = (p : ℕ) → a ≤ p → p < b → is_met (slice_get hs p) ≡ true

-- n is m with more Mets of the hand
pub record IsAhead (l : Lists) (m n : Stage) : Type 0 where
  pub point : n.point ≡ m.point
  pub clients : n.clients ≡ m.clients
  pub servers : n.servers ≡ m.servers
  pub hands : m.hands ≤ n.hands
  pub mets : AreMets l.hand m.hands n.hands
  pub kept : keeps_mets l.hand 0 n.clients n.hands ≡ true
  pub within : n.hands ≤ length l.hand

-- for each stage that an order reaches and that is open one ahead of it, and only stages that an order reaches
pub record IsFrontier (l : Lists) (from : TrackPoint) (stages : List Stage) : Type 0 where
  pub sound : (m : Stage) → Contains stages m → (ws : List Who) × (walk (move l) ws (begin from) ≡ Some m)
  pub complete : (ws : List Who) (m : Stage) → walk (move l) ws (begin from) ≡ Some m → IsOpen l m → (n : Stage) × Contains stages n × IsAhead l m n

-- each Met names at least so many client events
abbrev pub names_at_least : ℕ → List HandEvent → Bool
names_at_least n [] = true
names_at_least n (hand.SetFlags bits ∷ hs) = names_at_least n hs
names_at_least n (hand.Met known ∷ hs) = nat_le n known && names_at_least n hs

-- the lists after one more piece of each
abbrev pub joined : Lists → List ClientEvent → List ServerEvent → List HandEvent → Lists
joined l cs ss hs = record { client = l.client ++ cs; server = l.server ++ ss; hand = l.hand ++ hs }
