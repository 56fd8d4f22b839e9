use Rattle.std.proofs.Common.{None, inl, refl, subst, sym}
use Rattle.af_playing.proofs.Common.{BeginsLog}
use Rattle.af_playing.specs.declared.answering.PlayFault.TheVariants as fault
use Rattle.af_playing.proofs.InTime.{ends_in_time}
use Rattle.af_playing.proofs.KeptPlays.{files_none, keeps_none, steps_none}
use Rattle.af_playing.proofs.PlayCauses.{cause_memory}
use Rattle.af_playing.proofs.play_of_all.play.Goals as goal

pub play_with-requires-clause-log : goal.play_with-requires-clause-log
play_with-requires-clause-log g c = λ κs lives.
    let cycles = c.args.piece.now.script.now.cycles in
    subst (BeginsLog None cycles) (sym c.of-noted.ensures.log) (c.in_ok-logging.ensures cycles)

-- an allocation for what stands in place of a log was refused
pub returns-in_err-logging : goal.returns-in_err-logging
returns-in_err-logging g c =
    let p = c.args.piece.now in
    let old = g.S.Store.files c.args.store.now in
    let keeps = keeps_none p.script.now p.files.now c.from_residual.result fault.Memory refl c.from_residual.ensures.1 in
    record {
      done = keeps.done;
      limit = keeps.limit;
      enough = keeps.enough;
      in_time = ends_in_time p.script.now p.files.now;
      files = (λ told. files_none p.script.now p.files.now p.name.now old old c.from_residual.result fault.Memory refl c.from_residual.ensures.1 (inl (λ name. refl)));
      tells = (λ told. told);
      cause = cause_memory c.from_residual.result (g.S.Store.faults c.args.store.now) c.from_residual.ensures.1;
      steps = steps_none p.script.now p.files.now c.args.steps.now.items c.from_residual.result fault.Memory refl c.from_residual.ensures.1;
    }

-- what was played is handed back
pub returns : goal.returns
returns g c =
    let keeps = c.play_with.ensures.keeps in
    record {
      done = keeps.done;
      limit = keeps.limit;
      enough = keeps.enough;
      in_time = ends_in_time c.args.piece.now.script.now c.args.piece.now.files.now;
      files = c.play_with.ensures.files;
      tells = c.play_with.ensures.tells;
      cause = c.play_with.ensures.cause;
      steps = c.play_with.ensures.steps;
    }
