-- What the fast mixer reports of a proxy that it played is what its block tells of it.
use Rattle.std.proofs.Common.{List, Some, ap, is_some, min, ◌∙◌, ◌≡◌}
use Rattle.af_told_law.proofs.Common.{BlockTold, ServerEvent, ServerKept, ServerKnown, ServerState, flushes_by, known_at, known_of, listed as told_list}
use Rattle.af_server.specs.Order.{IsInOrder}
use Rattle.af_server.specs.Slot.{listed}
use Rattle.af_told_law.specs.Tells.{TellsServer}
use Rattle.af_told_law.specs.Deeds.{DeedTold, done_on}

-- what a proxy in order keeps is what its list tells
kept_known : (s : ServerState) → IsInOrder s → known_at (Some s) ≡ known_of (listed s)
kept_known s order = λ j. record { consumed = order.consumed_is j; flush_seen = order.flushes_is j; shut = is_some (order.shut_is j) }

-- what a proxy in order keeps is what its block tells
pub block_known : (b : BlockTold) (deed : List ServerEvent) (s : ServerState) → IsInOrder s → TellsServer (done_on b deed) s → DeedTold b deed → known_at (Some s) ≡ known_of (told_list b)
block_known b deed s order told did =
    kept_known s order
    ∙ (λ j. known_of (record { shape = told.shape j; events = told.events j }))
    ∙ ap (λ (k : ServerKept). let z : ServerKnown = record { consumed = min 9223372036854775807 k.consumed; flush_seen = flushes_by b.shape.wrap k.noticed; shut = is_some k.shut } in z) did.alike.kept
