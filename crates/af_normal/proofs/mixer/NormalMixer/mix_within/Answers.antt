use Rattle.std.proofs.Common.{ℕ, length, map, All, ap, subst}
use Rattle.af_normal.proofs.Common.{asked, take_seen}
use Rattle.af_normal.specs.State.{setup_of}
use Rattle.af_normal.specs.Sums.{Fits}
use Rattle.af_normal.specs.TurnMade.{mixing_of}
use Rattle.af_normal.proofs.MixedFit.{mixed_fit, takes_fit}
use Rattle.af_normal.proofs.mixer.NormalMixer.mix_within.Goals as goal

pub returns-clause-fit : goal.returns-clause-fit
returns-clause-fit g c =
    let taken = mixed_fit (asked (setup_of c.args.self.now)) (length c.args.self.now.tracks) (mixing_of c.args.self.now) (mixing_of c.mix.new.self) (ap (map take_seen) c.requires.none) c.mix.ensures.mixes in
    subst (λ (n : ℕ). All (Fits (asked (setup_of c.args.self.now)) n) c.mix.new.self.entry.mixes.items) c.requires.tracks.1
    (takes_fit (asked (setup_of c.args.self.now)) (length c.args.self.now.tracks) c.mix.new.self.entry.mixes.items taken).1
