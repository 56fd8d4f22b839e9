-- What contracts see of a client of a session.
use Rattle.std.specs.Prelude.{ℕ, List, map}
use Rattle.af_base.specs.declared.event.ClientCall.{ClientCall}
use Rattle.af_base.specs.declared.frame.Frame.{Frame}
use Rattle.af_base.specs.Roomy.{Roomy}
use Rattle.af_base.specs.Sample.{packed_word}
use Rattle.af_client.specs.Order.{ClientState}
use Rattle.af_runs.specs.ClientTurns.{Side, Track}
use Rattle.af_runs.specs.Kept.{ClientKept, client_of}
use Rattle.af_script.specs.declared.op.Op.{Op}

-- the party: the number of its track, what it wants, its proxies of the stream's block and of the command block, and the calls of its last turn
pub record PartyState : Type 0 where
  pub track : ℕ
  pub client : ClientKept
  pub stream : ClientState
  pub command : ClientState
  pub calls : Roomy ClientCall

-- a proxy's side of its block
abbrev pub side_of_proxy : ClientState → Side
side_of_proxy c = record { shape = c.pass.part.shape; events = c.pass.part.events; released = c.pass.part.frames }

-- the track of a client with these ops and this file
abbrev pub track_of : List Op → List Frame → PartyState → Track
track_of ops file p = record { file = map packed_word file; client = client_of ops p.client; stream = side_of_proxy p.stream; commands = side_of_proxy p.command }
