use Rattle.std.proofs.Common.{◌+◌, sym, ◌∙◌, subst, ℕ}
use Rattle.af_life.proofs.Common.{Turn, turn_of}
use Rattle.af_life.specs.Small.{IsSmall, turn_weight}
use Rattle.af_life.specs.declared.plain.PlainMixer.TheInside.{Inside}
use Rattle.af_life.specs.Kept.{NormalKept}
use Rattle.af_life.specs.Plain.{Plain, learnt_of}
use Rattle.af_life.proofs.Weights.{some_weight, up_to_weight}
use Rattle.af_life.proofs.SmallTurns.{turn_weighed}
use Rattle.af_life.proofs.plain.PlainMixer.turn.Goals as goal

-- what the mixer keeps
abbrev kept_of : Inside → NormalKept
kept_of m = record { tracks = m.tracks.items; draft = m.draft; dirty = m.dirty; pushed = m.pushed; last = m.last; ended = m.ended }

pub returns-clause-small : goal.returns-clause-small
returns-clause-small c = let p : Plain = c.args.self.now in let e : Turn = turn_of c.args.entry.now in
    subst (λ (n : ℕ). IsSmall (c.self.inside.turns + n) (record { frames = c.self.inside.frames; normal = c.self.inside.normal; settings = c.self.inside.settings.items }) (kept_of c.self.inside)) (sym c.turn_weight-weight.ensures)
    (subst (λ (q : Plain). IsSmall (q.turns + turn_weight e) q.setup q.kept) (sym (c.self.view_is ∙ c.advance.ensures))
    (turn_weighed p.setup p.turns (turn_weight e) (some_weight e) (learnt_of c.args.report.now c.args.own.now) e p.kept c.requires.small (up_to_weight e c.requires.takes)))
