use Rattle.std.proofs.Common.{sym, subst}
use Rattle.std.specs.Arc.{arc_value}
use Rattle.af_engine.specs.Engines.{EngineState}
use Rattle.af_mixer_ends.specs.Mixers.{IsNormalEnd}
use Rattle.af_mixer_ends.specs.Opening.{AreTrackEnds}
use Rattle.af_mixer_ends.proofs.opening.hand_out.Goals as goal

pub track_ends-ends-requires : goal.track_ends-ends-requires
track_ends-ends-requires c = subst (λ (e : EngineState). AreTrackEnds (arc_value c.args.shares.tracks) e.tracks) (sym c.engine.view_is) c.requires.tracks

pub normal_end-normal-requires : goal.normal_end-normal-requires
normal_end-normal-requires c = subst (λ (e : EngineState). IsNormalEnd (arc_value c.args.shares.normal) e.normal) (sym c.engine.view_is) c.requires.normal
