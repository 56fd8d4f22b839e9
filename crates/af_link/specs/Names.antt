-- Which proxy belongs to which track.
use Rattle.std.specs.Prelude.{◌≡◌, ℕ, List, slice_get, Some}
use Rattle.af_cblk.specs.Sides.{Made, server_made}
use Rattle.af_server.specs.Order.{ServerState, IsInOrder}

-- the track has a number among the blocks, the server was made with the block of that number, and it is in order
pub record IsStreamOf (blocks : List Made) (track : ℕ) (s : ServerState) : Type 0 where
  pub made : slice_get blocks track ≡ Some (server_made s.pass)
  pub in_order : IsInOrder s
