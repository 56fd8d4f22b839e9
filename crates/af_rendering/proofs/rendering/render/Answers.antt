use Rattle.std.proofs.Common.{◌≡◌, ℕ, List, Some, Err, inl, refl, sym, ap, subst, ◌∙◌, length}
use Rattle.af_rendering.proofs.Common.{EndsState, JournalData, Logged, RoundsNoted, SetsFile, journal_of, journal_pcm, pcm_of}
use Rattle.af_rendering.specs.declared.rendering.Outcome.{Outcome}
use Rattle.af_rendering.specs.Rendered.{LeavesSound}
use Rattle.af_rendering.proofs.JournalSound.{journal_sounds}
use Rattle.af_rendering.proofs.ShownWhole.{steps_told}
use Rattle.af_rendering.proofs.Outgoing.{calm_memory, calm_ok, cause_same, on_err}
use Rattle.af_rendering.proofs.rendering.render.Goals as goal

pub close-requires : goal.close-requires
close-requires g c = (c.args.script.now, c.in-Ok.ensures.rendered.0, c.in-Ok.ensures.rendered.1.noted)

pub returns-in_err-stage-clause-left : goal.returns-in_err-stage-clause-left
returns-in_err-stage-clause-left g c = λ told.
    let files = g.S.Store.files c.args.store.now in
    let left : LeavesSound c.args.script.now c.args.files.now c.args.name.now files files = inl (λ name. refl) in
    on_err c.from_residual.result left

pub returns-in_err-stage-clause-cause : goal.returns-in_err-stage-clause-cause
returns-in_err-stage-clause-cause g c = calm_memory c.from_residual.result (g.S.Store.faults c.args.store.now) c.from_residual.ensures.1

pub returns-in-Err-clause-left : goal.returns-in-Err-clause-left
returns-in-Err-clause-left g c = λ told.
    let left : LeavesSound c.args.script.now c.args.files.now c.args.name.now (g.S.Store.files c.args.store.now) (g.S.Store.files c.play_turns.new.store) = c.in-Err.ensures.left told in
    left

pub returns-in-Err-clause-cause : goal.returns-in-Err-clause-cause
returns-in-Err-clause-cause g c =
    cause_same {T = Outcome} (Err c.in-Err.error) c.in-Err.error (g.S.Store.faults c.args.store.now) (g.S.Store.faults c.play_turns.new.store) refl c.in-Err.ensures.cause

pub returns-in-Ok-clause-played : goal.returns-in-Ok-clause-played
returns-in-Ok-clause-played g c =
    let s = c.play_turns.new.self in
    let frames : ℕ = c.args.script.now.frames in
    let log : Logged = s.parties.fast.log in
    let rounds : RoundsNoted = c.in-Ok.ensures.rendered.0 in
    let have = c.in-Ok.ensures.rendered.1 in
    let journal : JournalData = journal_of rounds log in
    let ends = c.close.result.ends in
    let events = s.parties.normal.mutator.past.events in
    let pushed = ap (λ (e : EndsState). e.normal.mutator.past.events) c.close.ensures.ends in
    let sounds : journal_pcm frames journal ≡ pcm_of frames log = journal_sounds frames rounds log have.noted.whole in (
      journal,
      record {
        back = record {
          parties = s.parties;
          rounds = rounds.rounds;
          rendered = have.all;
          journal_is = ap (λ (n : ℕ). journal_of (record { tracks = n; rounds = rounds.rounds }) log) have.noted.tracks;
          form = have.noted.form;
          ends_are = c.close.ensures.ends;
          count = ap (λ (e : EndsState). length e.clients) c.close.ensures.ends ∙ have.noted.count;
        };
        summary_is = c.close.ensures.summary c.args.script.now rounds have.noted;
        few = steps_told frames rounds log events s.room.tally journal ends c.steps.result.items have.noted.whole refl pushed have.noted.tally c.steps.ensures;
      },
      (λ told. subst (λ (xs : List ℕ). SetsFile (g.S.Store.files c.args.store.now) c.args.name.now (Some xs) (g.S.Store.files c.play_turns.new.store)) (sym sounds) (c.in-Ok.ensures.written told)),
    )

pub returns-in-Ok-clause-cause : goal.returns-in-Ok-clause-cause
returns-in-Ok-clause-cause g c = calm_ok c.close.result c.in-Ok.field-0 (g.S.Store.faults c.args.store.now) (g.S.Store.faults c.play_turns.new.store) c.in-Ok.ensures.cause
