use Rattle.std.proofs.Common.{◌≡◌, Err, inl, refl, ap, subst}
use Rattle.af_playing.proofs.Common.{MixerState, Played, RoundsNoted, TellsLog, journal_of, on_ok}
use Rattle.af_playing.specs.declared.answering.PlayFault.TheVariants as fault
use Rattle.af_playing.specs.PlayKept.{Answers}
use Rattle.af_playing.specs.PlayedRuns.{fault_of}
use Rattle.af_playing.specs.PlayedStages.{kept_in}
use Rattle.af_playing.proofs.KeptPlays.{cause_kept, files_kept, files_none, keeps, keeps_none, steps_kept, steps_none}
use Rattle.af_playing.proofs.LogTold.{tells_log}
use Rattle.af_playing.proofs.PlayCauses.{cause_memory, cause_store}
use Rattle.af_playing.proofs.PlayAnswers.{limits_not}
use Rattle.af_playing.proofs.play_of_all.play_with.Goals as goal

-- ## If nothing was played

pub returns-in_err-stage-clause-keeps : goal.returns-in_err-stage-clause-keeps
returns-in_err-stage-clause-keeps g c = keeps_none c.args.piece.now.script.now c.args.piece.now.files.now c.from_residual.result fault.Memory refl c.from_residual.ensures.1

pub returns-in_err-stage-clause-files : goal.returns-in_err-stage-clause-files
returns-in_err-stage-clause-files g c = λ told.
    let files = g.S.Store.files c.args.store.now in
    files_none c.args.piece.now.script.now c.args.piece.now.files.now c.args.piece.now.name.now files files c.from_residual.result fault.Memory refl c.from_residual.ensures.1 (inl (λ name. refl))

pub returns-in_err-stage-clause-cause : goal.returns-in_err-stage-clause-cause
returns-in_err-stage-clause-cause g c = cause_memory c.from_residual.result (g.S.Store.faults c.args.store.now) c.from_residual.ensures.1

pub returns-in_err-stage-clause-steps : goal.returns-in_err-stage-clause-steps
returns-in_err-stage-clause-steps g c = steps_none c.args.piece.now.script.now c.args.piece.now.files.now c.args.steps.now.items c.from_residual.result fault.Memory refl c.from_residual.ensures.1

-- ## If the store failed or an allocation was refused

pub returns-in-Err-clause-keeps : goal.returns-in-Err-clause-keeps
returns-in-Err-clause-keeps g c =
    let e = c.in-Err.error in
    keeps_none c.args.piece.now.script.now c.args.piece.now.files.now (Err c.from.result) (fault_of e) (limits_not e) c.from.ensures

pub returns-in-Err-clause-files : goal.returns-in-Err-clause-files
returns-in-Err-clause-files g c = λ told.
    let e = c.in-Err.error in
    files_none c.args.piece.now.script.now c.args.piece.now.files.now c.args.piece.now.name.now (g.S.Store.files c.args.store.now) (g.S.Store.files c.play_to_end.new.store) (Err c.from.result) (fault_of e) (limits_not e) c.from.ensures
    (c.in-Err.ensures.left told)

pub returns-in-Err-clause-cause : goal.returns-in-Err-clause-cause
returns-in-Err-clause-cause g c =
    cause_store (Err c.from.result) c.in-Err.error (g.S.Store.faults c.args.store.now) (g.S.Store.faults c.play_to_end.new.store) c.from.ensures c.in-Err.ensures.cause

pub returns-in-Err-clause-steps : goal.returns-in-Err-clause-steps
returns-in-Err-clause-steps g c =
    let e = c.in-Err.error in
    steps_none c.args.piece.now.script.now c.args.piece.now.files.now c.args.steps.now.items (Err c.from.result) (fault_of e) (limits_not e) c.from.ensures

-- ## If all was played

pub returns-in-Ok-clause-keeps : goal.returns-in-Ok-clause-keeps
returns-in-Ok-clause-keeps g c =
    let a : Answers c.args.piece.now.script.now c.args.piece.now.files.now c.play_to_end.new.noted.rounds c.play_to_end.new.stage c.answer.result =
    subst (λ (x : RoundsNoted). Answers c.args.piece.now.script.now c.args.piece.now.files.now x c.play_to_end.new.stage c.answer.result) c.replace-rounds.ensures.value c.answer.ensures in
    let script = c.args.piece.now.script.now in
    let files = c.args.piece.now.files.now in
    keeps script files c.play_to_end.new.noted.rounds c.play_to_end.new.stage c.answer.result c.in-Ok.ensures.played a c.in_ok-stage.ensures.script_is (λ journal legal. c.drained_tracks_have_reached_their_stop.ensures script files journal c.in_ok-stage.ensures.script_is legal)

pub returns-in-Ok-clause-files : goal.returns-in-Ok-clause-files
returns-in-Ok-clause-files g c = λ told.
    let a : Answers c.args.piece.now.script.now c.args.piece.now.files.now c.play_to_end.new.noted.rounds c.play_to_end.new.stage c.answer.result =
    subst (λ (x : RoundsNoted). Answers c.args.piece.now.script.now c.args.piece.now.files.now x c.play_to_end.new.stage c.answer.result) c.replace-rounds.ensures.value c.answer.ensures in
    files_kept c.args.piece.now.script.now c.args.piece.now.files.now c.play_to_end.new.noted.rounds c.play_to_end.new.stage c.answer.result c.in-Ok.ensures.played a c.args.piece.now.name.now (g.S.Store.files c.args.store.now) (g.S.Store.files c.play_to_end.new.store)
    (c.in-Ok.ensures.written told)

pub returns-in-Ok-clause-cause : goal.returns-in-Ok-clause-cause
returns-in-Ok-clause-cause g c =
    let a : Answers c.args.piece.now.script.now c.args.piece.now.files.now c.play_to_end.new.noted.rounds c.play_to_end.new.stage c.answer.result =
    subst (λ (x : RoundsNoted). Answers c.args.piece.now.script.now c.args.piece.now.files.now x c.play_to_end.new.stage c.answer.result) c.replace-rounds.ensures.value c.answer.ensures in
    cause_kept c.args.piece.now.script.now c.args.piece.now.files.now c.play_to_end.new.noted.rounds c.play_to_end.new.stage c.answer.result c.in-Ok.ensures.played a c.in-Ok.field-0 (g.S.Store.faults c.args.store.now) (g.S.Store.faults c.play_to_end.new.store)
    c.in-Ok.ensures.cause

pub returns-in-Ok-clause-steps : goal.returns-in-Ok-clause-steps
returns-in-Ok-clause-steps g c =
    let a : Answers c.args.piece.now.script.now c.args.piece.now.files.now c.play_to_end.new.noted.rounds c.play_to_end.new.stage c.answer.result =
    subst (λ (x : RoundsNoted). Answers c.args.piece.now.script.now c.args.piece.now.files.now x c.play_to_end.new.stage c.answer.result) c.replace-rounds.ensures.value c.answer.ensures in
    steps_kept c.args.piece.now.script.now c.args.piece.now.files.now c.play_to_end.new.noted.rounds c.play_to_end.new.stage c.answer.result c.in-Ok.ensures.played a c.steps.result.items c.steps.ensures

-- ## The log

pub play_to_end-requires-clause-log : goal.play_to_end-requires-clause-log
play_to_end-requires-clause-log g c = λ κs lives.
    let fast = c.in_ok-stage.ensures.new.fast in
    c.requires.log c.in_ok-stage.stage.parties.fast (ap (λ (m : MixerState). m.cycles) fast) (ap (λ (m : MixerState). m.log.entries) fast)

pub returns-in-Ok-clause-log : goal.returns-in-Ok-clause-log
returns-in-Ok-clause-log g c =
    let a : Answers c.args.piece.now.script.now c.args.piece.now.files.now c.play_to_end.new.noted.rounds c.play_to_end.new.stage c.answer.result =
    subst (λ (x : RoundsNoted). Answers c.args.piece.now.script.now c.args.piece.now.files.now x c.play_to_end.new.stage c.answer.result) c.replace-rounds.ensures.value c.answer.ensures in
    let s = c.play_to_end.new.stage in
    let noted = c.play_to_end.new.noted in
    let have = c.in-Ok.ensures.played in
    let kept = kept_in c.args.piece.now.room in
    let frames = c.args.piece.now.script.now.frames in
    on_ok (λ (p : Played). p.journal ≡ journal_of noted.rounds s.parties.fast.log) (λ (p : Played). TellsLog kept frames p.journal noted.logging) c.answer.result
    (λ p journal. tells_log kept frames s.parties.fast noted.rounds p.journal noted.logging c.in-Ok.ensures.log have.noted.whole have.frames have.entries journal)
    a.journal
