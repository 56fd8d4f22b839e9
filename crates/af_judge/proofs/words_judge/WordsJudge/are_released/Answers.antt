use Rattle.std.proofs.Common.{◌≡◌, ◌<◌, length, refl, sym, true≢false, arith}
use Rattle.af_judge.specs.Servers.{most_counted}
use Rattle.af_judge.proofs.TakenRuns.{all-known, not-known}
use Rattle.af_judge.proofs.words_judge.WordsJudge.are_released.Goals as goal

pub returns-then-known-all-clause-all : goal.returns-then-known-all-clause-all
returns-then-known-all-clause-all c =
    let e = c.unreleased-known.ensures in
    let i = c.self.inside in
    let long : c.len-all.result ≡ length i.taken.items = omega (arith, c.len-all.ensures, i.taken.ok.0) in
    (λ h. absurd (true≢false (sym h)), λ all. absurd (not-known i.released.items c.deref.result.now i.runs.items i.taken.items c.deref-2.result.now c.unreleased-known.result c.len-all.result c.deref.ensures.value c.deref-2.ensures.value long c.if-known-all.true e.within e.ends all))

pub returns-clause-all : goal.returns-clause-all
returns-clause-all c =
    let e = c.unreleased-known.ensures in
    let i = c.self.inside in
    let long : c.len-all.result ≡ length i.taken.items = omega (arith, c.len-all.ensures, i.taken.ok.0) in
    let short : length i.released.items < most_counted = omega (arith, i.released.ok.0, i.released.small) in
    (λ h. all-known i.released.items c.deref.result.now i.runs.items i.taken.items c.deref-2.result.now c.unreleased-known.result c.len-all.result c.deref.ensures.value c.deref-2.ensures.value short c.self.invariant.within long c.if-known-all.false e.known, λ all. refl)
