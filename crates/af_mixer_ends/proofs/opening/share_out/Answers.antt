use Rattle.std.proofs.Common.{sym, subst}
use Rattle.af_engine.specs.Shares.{SharedState}
use Rattle.af_mixer_ends.specs.Mixers.{IsFastEnd, IsNormalEnd}
use Rattle.af_mixer_ends.specs.Opening.{AreTrackEnds}
use Rattle.af_mixer_ends.proofs.opening.share_out.Goals as goal

pub hand_out-requires-clause-normal : goal.hand_out-requires-clause-normal
hand_out-requires-clause-normal c = subst (λ (s : SharedState). IsNormalEnd s c.args.engine.normal) (sym c.in-Ok.ensures.normal) c.requires.normal

pub hand_out-requires-clause-fast : goal.hand_out-requires-clause-fast
hand_out-requires-clause-fast c = subst (λ (s : SharedState). IsFastEnd s c.args.frames c.args.cycles c.args.engine.fast) (sym c.in-Ok.ensures.fast) c.requires.fast

pub hand_out-requires-clause-tracks : goal.hand_out-requires-clause-tracks
hand_out-requires-clause-tracks c = subst (λ (s : SharedState). AreTrackEnds s c.args.engine.tracks) (sym c.in-Ok.ensures.tracks) c.requires.tracks
