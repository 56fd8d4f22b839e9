use Rattle.std.proofs.Common.{rules}
use Rattle.af_journal.proofs.Common.{map-append}
use Rattle.af_journal.proofs.MarkLines.{just-more, just-none}
use Rattle.af_journal.proofs.poked.all_calls.Goals as goal

pub loop-track-init : goal.loop-track-init
loop-track-init c = rw c.in_ok-clients.ensures.items (just-none _)

pub loop-track-preserved : goal.loop-track-preserved
loop-track-preserved c =
    simp (c.in_ok-push.ensures.items, map-append) (just-more _ _ _ _ c.loop-track.invariant c.in_ok-calls.ensures.numbers (search rules) (search rules))
