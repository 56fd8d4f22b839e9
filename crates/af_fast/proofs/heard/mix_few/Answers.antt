use Rattle.std.proofs.Common.{ℕ, ◌≤◌, List, length, take, All, sym, ap, subst, ◌∙◌, arith}
use Rattle.af_fast.proofs.Common.{Part, Take, mix}
use Rattle.af_fast.proofs.HeardMix.{parts_fit}
use Rattle.af_fast.proofs.heard.mix_few.Goals as goal

pub mix-requires-clause-fits : goal.mix-requires-clause-fits
mix-requires-clause-fits c =
    let heard : List Part = take c.add_all-heard.result c.add_all-heard.new.parts in
    subst (λ (n : ℕ). All (λ (part : Part). (length part.frames.now ≤ n) × (part.scale ≤ 4096)) heard) (sym c.requires.lengths)
    (parts_fit c.args.frames.now c.args.entry.now (length c.args.out.now) c.requires.within c.requires.scaled c.args.used (omega arith) heard c.add_all-heard.ensures.takes)

pub returns : goal.returns
returns c = c.mix.ensures ∙ ap (λ (ts : List Take). mix ts (length c.args.out.now)) c.add_all-heard.ensures.takes
