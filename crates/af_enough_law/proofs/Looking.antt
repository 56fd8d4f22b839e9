-- What a server's look shows on a block whose lists have a history, whose flags stay calm and whose client never flushes.
use Rattle.std.proofs.Common.{◌≡◌, ℕ, ◌+◌, ◌-◌, ◌≤◌, ◌<◌, List, ◌++◌, min}
use Rattle.af_enough_law.proofs.Common.{ClientEvent, HandEvent, HasHistory, IsClientList, IsLegal, Moment, Seen, ServerEvent, Shape, client_of, flushes_of, server_of, start}
use Rattle.af_base.specs.declared.seen.Seen.TheVariants as seen
use Rattle.af_enough_law.specs.Seen.{frames_put, frames_taken}

-- ## A look

-- a block whose lists have a history, whose client never flushes, and of whose client's events these were known
pub record IsServed (k : Shape) (se : List ServerEvent) (known : List ClientEvent) : Type 0 where
  pub client : List ClientEvent
  pub released : List ℕ
  pub taken : List ℕ
  pub hands : List HandEvent
  pub history : HasHistory k client released se taken hands
  pub spelled : IsClientList k.frames k.cells k.base client
  pub few : k.frames ≤ 65536
  pub unflushed : flushes_of client ≡ 0
  pub later : List ClientEvent
  pub knows : client ≡ known ++ later

module _ (k : Shape) (se : List ServerEvent) (known : List ClientEvent) (b : IsServed k se known) where
  -- the order up to a place in the server's list
  pub record Place (xs : List ServerEvent) : Type 0 where
    pub order : List Moment
    pub legal : IsLegal (start k) order
    pub server : server_of order ≡ xs
    pub more : List ClientEvent
    pub client : b.client ≡ client_of order ++ more

  -- the frames that a look shows: those that were put by then and not taken, at least as many as were known
  pub record Shows (asked : ℕ) (before : List ServerEvent) (answer : Seen) : Type 0 where
    pub put : ℕ
    pub shown : List ClientEvent
    pub hidden : List ClientEvent
    pub whole : b.client ≡ shown ++ hidden
    pub put_is : put ≡ frames_put shown
    pub known_put : frames_put known ≤ put
    pub low : frames_taken before ≤ put
    pub near : put ≤ frames_taken before + k.frames
    pub all_put : put ≤ frames_put b.client
    pub empty : put ≡ frames_taken before → answer ≡ seen.Empty
    pub frames : frames_taken before < put → answer ≡ seen.Frames (min asked (put - frames_taken before))
