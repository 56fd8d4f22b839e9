use Rattle.std.proofs.Common.{ℕ, Option, inl, refl, subst, sym}
use Rattle.af_playing.proofs.Common.{BeginsLog, HasLogOf, LoggingState, Played, on_err, on_ok}
use Rattle.af_playing.specs.PlayKept.{TellsLogOf}
use Rattle.af_playing.proofs.LogTold.{kept_is}
use Rattle.std.proofs.lemmas.Result.{IfOk-from_err}
use Rattle.af_playing.specs.declared.answering.PlayFault.TheVariants as fault
use Rattle.af_playing.proofs.InTime.{ends_in_time}
use Rattle.af_playing.proofs.KeptPlays.{IsHandedOn, cause_on, files_none, files_on, handed_by, keeps_none, keeps_on, kept_by, steps_none, steps_on, told_by}
use Rattle.af_playing.proofs.PlayCauses.{cause_memory}
use Rattle.af_playing.proofs.play_of_all.play_logged.Goals as goal

-- the log that was made begins with the script's cycles
pub play_with-played-requires-clause-log : goal.play_with-played-requires-clause-log
play_with-played-requires-clause-log g c = λ κs lives.
    let room = c.args.piece.now.room in
    subst (λ (x : Option ℕ × ℕ × LoggingState). BeginsLog x.0 x.1 x.2) (λ k. (sym (kept_is room c.requires.room.0) k, c.cycles.ensures.value k, sym c.of-noted.ensures.log k)) c.in_ok-logging.ensures

pub tell-told-requires : goal.tell-told-requires
tell-told-requires g c =
    let logging = c.play_with-played.new.noted.logging in
    let frames = c.args.piece.now.script.now.frames in
    let room = c.args.piece.now.room in
    let log = subst (λ (k : Option ℕ). TellsLogOf k frames c.play_with-played.result logging) (kept_is room c.requires.room.0) c.play_with-played.ensures.log in
    record {
      told = on_ok (λ (p : Played). HasLogOf frames room p.journal logging) (λ (p : Played). (frames : ℕ) × (room : ℕ) × HasLogOf frames room p.journal logging) c.play_with-played.result (λ p log. (frames, room, log)) log;
    }

-- an allocation for the log was refused
pub returns-in_err-logging : goal.returns-in_err-logging
returns-in_err-logging g c =
    let p = c.args.piece.now in
    let old = g.S.Store.files c.args.store.now in
    let keeps = keeps_none p.script.now p.files.now c.from_residual.result fault.Memory refl c.from_residual.ensures.1 in
    record {
      done = keeps.done;
      limit = keeps.limit;
      enough = keeps.enough;
      in_time = ends_in_time p.script.now p.files.now;
      files = (λ told. files_none p.script.now p.files.now p.name.now old old c.from_residual.result fault.Memory refl c.from_residual.ensures.1 (inl (λ name. refl)));
      tells = (λ told. told);
      cause = cause_memory c.from_residual.result (g.S.Store.faults c.args.store.now) c.from_residual.ensures.1;
      log = (IfOk-from_err c.from_residual.result _ c.from_residual.ensures.0, on_err c.from_residual.result refl);
      steps = steps_none p.script.now p.files.now c.args.steps.now.items c.from_residual.result fault.Memory refl c.from_residual.ensures.1;
    }

-- what was played is handed back
pub returns : goal.returns
returns g c =
    let p = c.args.piece.now in
    let told = c.tell-told in
    let played = c.play_with-played in
    let done = c.hand_on in
    let log = subst (λ (k : Option ℕ). TellsLogOf k p.script.now.frames played.result played.new.noted.logging) (kept_is c.args.piece.now.room c.requires.room.0) played.ensures.log in
    let handed : IsHandedOn played.result done.result = handed_by told.result played.result done.result done.ensures.same done.ensures.memory told.ensures.memory in
    let keeps = keeps_on p.script.now p.files.now played.result done.result handed played.ensures.keeps in
    record {
      done = keeps.done;
      limit = keeps.limit;
      enough = keeps.enough;
      in_time = ends_in_time p.script.now p.files.now;
      files = (λ known. files_on p.script.now p.files.now played.result done.result p.name.now (g.S.Store.files c.args.store.now) (g.S.Store.files played.new.store) handed (played.ensures.files known));
      tells = played.ensures.tells;
      cause = cause_on p.script.now p.files.now played.result done.result (g.S.Store.faults c.args.store.now) (g.S.Store.faults played.new.store) handed played.ensures.cause;
      log = (
        told_by told.result played.result done.result done.ensures.same done.ensures.memory _ (told.ensures.log p.script.now.frames c.args.piece.now.room log),
        kept_by told.result played.result done.result done.ensures.same done.ensures.memory _ told.ensures.none told.ensures.unchanged,
      );
      steps = steps_on p.script.now p.files.now played.result done.result played.new.steps.items handed played.ensures.steps;
    }
