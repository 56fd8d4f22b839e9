use Rattle.std.proofs.Common.{◌<◌, ap, ◌∙◌, sym, subst, length, None, arith}
use Rattle.af_normal.proofs.Common.{IsInOrder, IsStreamOf, ServerState, get_or_default, some_same}
use Rattle.af_normal.specs.Mixing.{stream_at}
use Rattle.af_normal.specs.State.{NormalState}
use Rattle.af_normal.proofs.mixer.NormalMixer.lend.Goals as goal

pub known-own-requires : goal.known-own-requires
known-own-requires c =
    let same = ap (λ (m : NormalState). stream_at m.streams c.args.i) c.self.view_is in
    let long = ap (λ (m : NormalState). length m.streams) c.self.view_is in
    let below = c.requires.track.1 in
    let there : c.args.i < length c.self.inside.streams.items = omega arith in
    let is = some_same c.in-Some.server c.requires.home.0 (c.in-Some.ensures.value ∙ c.index_mut.ensures.value ∙ get_or_default c.self.inside.streams.items c.args.i c.index_mut.result.now None there ∙ same ∙ c.requires.home.1) in
    record { order = subst IsInOrder (sym is) c.requires.home.2 }

pub attach-requires-clause-fits : goal.attach-requires-clause-fits
attach-requires-clause-fits c = λ names h.
    let same = ap (λ (m : NormalState). stream_at m.streams c.args.i) c.self.view_is in
    let long = ap (λ (m : NormalState). length m.streams) c.self.view_is in
    let below = c.requires.track.1 in
    let there : c.args.i < length c.self.inside.streams.items = omega arith in
    let is = some_same c.in-Some.server c.requires.home.0 (c.in-Some.ensures.value ∙ c.index_mut.ensures.value ∙ get_or_default c.self.inside.streams.items c.args.i c.index_mut.result.now None there ∙ same ∙ c.requires.home.1) in
    subst (λ (s : ServerState). IsStreamOf names.blocks c.args.i s) (sym is) (c.requires.home.3 names (sym (ap (λ (m : NormalState). m.mutator.past.key) c.self.view_is) ∙ h))
