use Rattle.std.proofs.Common.{◌<◌, ap, ◌∙◌, sym, length, None, arith}
use Rattle.af_normal.proofs.Common.{get_or_default}
use Rattle.af_normal.specs.Mixing.{stream_at}
use Rattle.af_normal.specs.State.{NormalState}
use Rattle.af_normal.proofs.mixer.NormalMixer.own.Goals as goal

pub known-requires : goal.known-requires
known-requires c =
    let same = ap (λ (m : NormalState). stream_at m.streams c.args.track) c.self.view_is in
    let long = ap (λ (m : NormalState). length m.streams) c.self.view_is in
    let below = c.requires.track in
    let there : c.args.track < length c.self.inside.streams.items = omega arith in
    record { order = c.requires.order c.in-Some.server (sym same ∙ get_or_default c.self.inside.streams.items c.args.track None c.index.result.now there ∙ sym c.index.ensures ∙ c.in-Some.is) }
