-- What a run hands back of its parties.
use Rattle.std.specs.Prelude.{ℕ, List, slice_get, Option, option_map}
use Rattle.af_client.specs.Order.{ClientState}
use Rattle.af_normal.specs.State.{NormalState}
use Rattle.af_party.specs.Parties.{PartyState}
use Rattle.af_session.specs.Together.{SessionState}

-- the parties that a run hands back: the clients and the normal mixer
pub record EndsState : Type 0 where
  pub clients : List PartyState
  pub normal : NormalState

-- the parties of a session that a run hands back
abbrev pub ends_from : SessionState → EndsState
ends_from s = record { clients = s.clients; normal = s.normal }

-- the stream proxy of a track's client
abbrev pub stream_proxy : EndsState → ℕ → Option ClientState
stream_proxy e track = option_map (λ (p : PartyState). p.stream) (slice_get e.clients track)

-- the command proxy of a track's client
abbrev pub command_proxy : EndsState → ℕ → Option ClientState
command_proxy e track = option_map (λ (p : PartyState). p.command) (slice_get e.clients track)
