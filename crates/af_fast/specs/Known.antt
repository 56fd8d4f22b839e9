-- What the fast mixer knows of the proxies that it holds.
use Rattle.std.specs.Prelude.{ℕ, false, is_some, Option, Some, None}
use Rattle.af_model.specs.Reports.{ServerKnown}
use Rattle.af_server.specs.Order.{ServerState}
use Rattle.af_stateq.specs.Mutates.{at}
use Rattle.af_stateq.specs.Observes.{Observes}
use Rattle.af_link.specs.declared.names.StreamNames.{StreamNames}
use Rattle.af_fast.specs.declared.report.KnownNow.{KnownNow}

-- what is known of a slot's proxy, if it has one
abbrev pub known_at : Option ServerState → ServerKnown
known_at None = record { consumed = 0; flush_seen = 0; shut = false }
known_at (Some s) = record { consumed = s.consumed; flush_seen = s.flushes; shut = is_some s.shut }

-- what is known of the proxy of each slot
abbrev pub known : Observes ServerState StreamNames → ℕ → ServerKnown
known o i = known_at (at o.items i)

-- what a `KnownNow` says of a proxy
abbrev pub known_of : KnownNow → ServerKnown
known_of k = record { consumed = k.consumed; flush_seen = k.flush_seen; shut = k.shut }
