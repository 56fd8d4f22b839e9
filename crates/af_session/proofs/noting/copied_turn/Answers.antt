use Rattle.af_session.proofs.Common.{All, All-map, IsFrame, TakeSeen, take_seen}
use Rattle.af_session.proofs.noting.copied_turn.Goals as goal

pub returns-clause-frames : goal.returns-clause-frames
returns-clause-frames c = All-map (λ (t : TakeSeen). All IsFrame t.frames) take_seen c.in_ok-copied_takes.field-0.items c.in_ok-copied_takes.ensures.frames
