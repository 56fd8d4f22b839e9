use Rattle.std.proofs.Common.{◌≡◌, ◌+◌, ◌<◌, ◌∷◌, [], List, length, drop, slice_index_or, refl, ap, sym, subst, ◌∙◌, rules, true}
use Rattle.af_runs.proofs.Common.{Op, drop_more, get_or_default}
use Rattle.af_script.specs.declared.op.Op.TheVariants.{Yield}
use Rattle.af_runs.specs.declared.want.Want.{Want}
use Rattle.af_runs.specs.Clients.{Client, begun, due_of, wants_of}
use Rattle.af_runs.specs.Kept.{WritesLast}
use Rattle.af_runs.proofs.Begun.{begun-next, wants-last}
use Rattle.af_runs.proofs.client.Client.begin.Goals as goal
use Rattle.af_runs.proofs.client.Client.begin.Goals.{in-Nothing, in_default}

pub loop-self-preserved : goal.loop-self-preserved
loop-self-preserved c = let ops = c.args.ops.now in let kept = c.loop-self.self-inside in let at = kept.at in let o = slice_index_or ops at Yield in
    let inside : at < length ops = search rules in
    let none : due_of kept.due ≡ [] = elim c.match-matches.branch [ in-Nothing w ↦ search (rules, w.in-Nothing) | in_default w ↦ absurd (search (rules, w.matches-is, c.if-matches.true)) ] in
    let wants : due_of c.wants_of-self-inside.result ≡ wants_of kept.mode o = c.wants_of-self-inside.ensures ∙ ap (wants_of kept.mode) (get_or_default ops at _ Yield inside) in
    let now : Client = record { due = due_of kept.due; ops = drop at ops; mode = kept.mode; waiting = kept.waiting; ended = kept.ended } in
    let next : begun (record now { due = wants_of kept.mode o; ops = drop (at + 1) ops }) ≡ begun now = begun-next now o (drop (at + 1) ops) none (drop_more ops at Yield inside) in
    record {
      same = subst (λ (w : List Want). begun (record now { due = w; ops = drop (at + 1) ops }) ≡ begun now) (sym wants) next ∙ c.loop-self.invariant.same;
      writes = subst WritesLast (sym wants) (wants-last kept.mode o);
    }
