use Rattle.std.proofs.Common.{subst}
use Rattle.af_session.proofs.Common.{All, All-map, IsFrame, NormalTake, TakeSeen, take_seen}
use Rattle.af_session.proofs.noting.know_taken.Goals as goal

pub returns : goal.returns
returns c =
    All-map (λ (t : TakeSeen). All IsFrame t.frames) take_seen c.args.entry.now.mixes.items
    (subst (All (λ (t : NormalTake). All IsFrame t.frames.items)) c.as_slice.ensures c.know_takes.ensures)
