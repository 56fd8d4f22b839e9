-- A client begins its next op.
use Rattle.std.proofs.Common.{◌≡◌, ℕ, suc, ◌+◌, ◌<◌, Bool, true, false, not, List, [], ◌∷◌, length, drop, slice_index_or, refl, ap, sym, ◌∙◌}
use Rattle.af_runs.proofs.Common.{Op, drop_more}
use Rattle.af_script.specs.declared.op.Op.TheVariants as op
use Rattle.af_runs.specs.declared.want.ClientCommand.TheVariants as command
use Rattle.af_runs.specs.declared.want.Mode.{Mode}
use Rattle.af_runs.specs.declared.want.Want.TheVariants as want
use Rattle.af_runs.specs.Kept.{WritesLast}
use Rattle.af_runs.specs.declared.want.Want.{Want}
use Rattle.af_runs.specs.Clients.{Client, begins, begun, is_active, is_stoppable, is_stopped, wants_of}
use Rattle.std.specs.Prelude.{if◌then◌else◌}

-- what is begun hangs on the mode and on what is handed on alone
pub begins-same : (c : Client) (due wants : List Want) (left ops : List Op) → begins (record c { due = due; ops = left }) wants ops ≡ begins c wants ops
begins-same c due (w ∷ wants) left ops = refl
begins-same c due [] left [] = refl
begins-same c due [] left (o ∷ ops) = begins-same c due (wants_of c.mode o) left ops

-- one op more is looked at
pub begun-next : (c : Client) (o : Op) (ops : List Op) → c.due ≡ [] → c.ops ≡ o ∷ ops → begun (record c { due = wants_of c.mode o; ops = ops }) ≡ begun c
begun-next c o ops none next = begins-same c (wants_of c.mode o) (wants_of c.mode o) ops ops ∙ sym (ap (λ due. begins c due c.ops) none ∙ ap (begins c []) next)

-- nothing is wanted after a write
only-last : (b : Bool) (wants : List Want) → WritesLast wants → WritesLast (if b then wants else [])
only-last true wants last = last
only-last false wants last = tt

pub wants-last : (m : Mode) (o : Op) → WritesLast (wants_of m o)
wants-last m op.Start = only-last (not (is_active m)) (want.Send command.Start ∷ want.Settled ∷ []) tt
wants-last m op.Pause = only-last (is_active m) (want.Send command.Pause ∷ []) tt
wants-last m op.Stop = only-last (is_stoppable m) (want.Send command.Stop ∷ []) tt
wants-last m op.Flush = only-last (not (is_active m)) (want.Flush ∷ want.Send command.Flush ∷ []) tt
wants-last m op.Drain = only-last (is_stopped m) (want.Drained ∷ []) tt
wants-last m (op.Write count) = refl
wants-last m _ = tt
