use Rattle.std.proofs.Common.{◌∙◌, ℕ, List, ◌++◌, Err, ap, inr, map, string_bytes, subst, sym, take}
use Rattle.af_commands.proofs.Common.{Appends, JudgesWords, StoreError, asked_of, ending_text, request_of}
use Rattle.af_offline.specs.declared.status.Status.{Status}
use Rattle.af_commands.specs.Counted.{CountsSteps}
use Rattle.af_commands.specs.Ends.{EndsAsAsked, Prints, PrintsOwnLine, Works}
use Rattle.af_commands.proofs.Counted.{Counts-ended}
use Rattle.af_commands.proofs.Left.{Works-done, EndsAsAsked-done}
use Rattle.af_commands.proofs.Ended.{EndsAsAsked-ended, IsCutOff-ended, IsOver-ended, JudgesWords-ended, Prints-end_cut, Prints-ended, PrintsOwnLine-ended, Works-ended, end_asked, end_named, end_reached, end_unprinted}
use Rattle.af_commands.proofs.running.run.Goals as goal

pub returns-in-Ok-clause-work : goal.returns-in-Ok-clause-work
returns-in-Ok-clause-work g c = λ told.
    Works-done (Unit {0}) c.in-Ok.field-0 (asked_of (g.S.Store.files c.args.store.now) (map string_bytes c.args.words.now))
    (g.S.Store.files c.args.store.now) (g.S.Store.files c.work.new.store) (c.in-Ok.ensures.rendered told)

pub returns-in-Ok-clause-complete : goal.returns-in-Ok-clause-complete
returns-in-Ok-clause-complete g c = λ told store out.
    EndsAsAsked-done (Unit {0}) c.in-Ok.field-0 (asked_of (g.S.Store.files c.args.store.now) (map string_bytes c.args.words.now))
    (g.S.Store.files c.args.store.now) (g.S.Store.files c.work.new.store) (c.in-Ok.ensures.rendered told)

-- ---- a work that is over and isn't done

pub returns-in-Ok-tell-clause-work : goal.returns-in-Ok-tell-clause-work
returns-in-Ok-tell-clause-work g c = λ told.
    let a = c.in-Err-Over in
    let asked = asked_of (g.S.Store.files c.args.store.now) (map string_bytes c.args.words.now) in
    subst (λ (ended : Status). Works ended asked (g.S.Store.files c.args.store.now) (g.S.Store.files c.work.new.store)) (sym c.from-in-Ok-tell.ensures)
    (Works-ended asked (g.S.Store.files c.args.store.now) (g.S.Store.files c.work.new.store) a.ending
    (end_reached (Unit {0}) a.field-0 a.ending a.field-0-is asked (g.S.Store.files c.args.store.now) (g.S.Store.files c.work.new.store) (a.ensures.rendered told)))

pub returns-in-Ok-tell-clause-line : goal.returns-in-Ok-tell-clause-line
returns-in-Ok-tell-clause-line g c = λ told told_out.
    let a = c.in-Err-Over in
    let asked = asked_of (g.S.Store.files c.args.store.now) (map string_bytes c.args.words.now) in
    let same = end_unprinted (Unit {0}) a.field-0 a.ending a.field-0-is asked (g.S.Store.files c.args.store.now) (g.S.Store.files c.work.new.store)
    (g.O.Sink.held c.args.out.now) (g.O.Sink.held c.work.new.out) (a.ensures.printed told told_out) in
    subst (λ (ended : Status). Prints ended asked (g.S.Store.files c.args.store.now) (g.S.Store.files c.work.new.store) (g.O.Sink.held c.args.out.now) (g.O.Sink.held c.tell.new.out)) (sym c.from-in-Ok-tell.ensures)
    (Prints-ended asked (g.S.Store.files c.args.store.now) (g.S.Store.files c.work.new.store) a.ending (g.O.Sink.held c.args.out.now) (g.O.Sink.held c.tell.new.out)
    (c.in-Ok-tell.ensures.printed (a.ensures.tells told_out) ∙ ap (λ (held : List ℕ). held ++ ending_text a.ending) same))

pub returns-in-Ok-tell-clause-printed : goal.returns-in-Ok-tell-clause-printed
returns-in-Ok-tell-clause-printed g c = λ told_out.
    let a = c.in-Err-Over in
    let words = request_of (map string_bytes c.args.words.now) in
    let some = end_asked (Unit {0}) a.field-0 a.ending a.field-0-is words (g.O.Sink.held c.args.out.now) (g.O.Sink.held c.work.new.out) (a.ensures.some told_out) in
    subst (λ (ended : Status). PrintsOwnLine ended words (g.O.Sink.held c.args.out.now) (g.O.Sink.held c.tell.new.out)) (sym c.from-in-Ok-tell.ensures)
    (PrintsOwnLine-ended a.ending words (g.O.Sink.held c.args.out.now) (g.O.Sink.held c.tell.new.out) some.0
    (c.in-Ok-tell.ensures.printed (a.ensures.tells told_out) ∙ ap (λ (held : List ℕ). held ++ ending_text a.ending) some.1))

pub returns-in-Ok-tell-clause-words : goal.returns-in-Ok-tell-clause-words
returns-in-Ok-tell-clause-words g c =
    let a = c.in-Err-Over in
    let words = request_of (map string_bytes c.args.words.now) in
    subst (λ (ended : Status). JudgesWords ended words) (sym c.from-in-Ok-tell.ensures)
    (JudgesWords-ended a.ending words (end_named (Unit {0}) a.field-0 a.ending a.field-0-is words a.ensures.words))

pub returns-in-Ok-tell-clause-complete : goal.returns-in-Ok-tell-clause-complete
returns-in-Ok-tell-clause-complete g c = λ told store out.
    let a = c.in-Err-Over in
    let asked = asked_of (g.S.Store.files c.args.store.now) (map string_bytes c.args.words.now) in
    subst (λ (ended : Status). EndsAsAsked ended asked) (sym c.from-in-Ok-tell.ensures)
    (EndsAsAsked-ended a.ending asked (g.S.Store.files c.args.store.now) (g.S.Store.files c.work.new.store)
    (end_reached (Unit {0}) a.field-0 a.ending a.field-0-is asked (g.S.Store.files c.args.store.now) (g.S.Store.files c.work.new.store) (a.ensures.rendered told)))

pub returns-in-Err-Failed-tell-clause-work : goal.returns-in-Err-Failed-tell-clause-work
returns-in-Err-Failed-tell-clause-work g c = λ told.
    let a = c.in-Err-Over in
    IsCutOff-ended a.ending (asked_of (g.S.Store.files c.args.store.now) (map string_bytes c.args.words.now)) (g.S.Store.files c.args.store.now) (g.S.Store.files c.work.new.store)
    (end_reached (Unit {0}) a.field-0 a.ending a.field-0-is (asked_of (g.S.Store.files c.args.store.now) (map string_bytes c.args.words.now)) (g.S.Store.files c.args.store.now) (g.S.Store.files c.work.new.store) (a.ensures.rendered told))

pub returns-in-Err-Failed-tell-clause-line : goal.returns-in-Err-Failed-tell-clause-line
returns-in-Err-Failed-tell-clause-line g c = λ told told_out.
    let a = c.in-Err-Over in
    let same = end_unprinted (Unit {0}) a.field-0 a.ending a.field-0-is (asked_of (g.S.Store.files c.args.store.now) (map string_bytes c.args.words.now)) (g.S.Store.files c.args.store.now) (g.S.Store.files c.work.new.store)
    (g.O.Sink.held c.args.out.now) (g.O.Sink.held c.work.new.out) (a.ensures.printed told told_out) in
    let front = subst (λ (e : StoreError). Appends {T = Unit {0}} (Err e) (g.O.Sink.held c.work.new.out) (ending_text a.ending) (g.O.Sink.held c.tell.new.out))
    c.in-Err-Failed-tell.field-0-is (c.in-Err-Failed-tell.ensures.printed (a.ensures.tells told_out)) in
    Prints-end_cut a.ending (asked_of (g.S.Store.files c.args.store.now) (map string_bytes c.args.words.now)) (g.S.Store.files c.args.store.now) (g.S.Store.files c.work.new.store)
    (g.O.Sink.held c.args.out.now) (g.O.Sink.held c.tell.new.out)
    (end_reached (Unit {0}) a.field-0 a.ending a.field-0-is (asked_of (g.S.Store.files c.args.store.now) (map string_bytes c.args.words.now)) (g.S.Store.files c.args.store.now) (g.S.Store.files c.work.new.store) (a.ensures.rendered told))
    (front.0, front.1 ∙ ap (λ (held : List ℕ). held ++ take front.0 (ending_text a.ending)) same)

pub returns-in-Err-Failed-tell-clause-whole : goal.returns-in-Err-Failed-tell-clause-whole
returns-in-Err-Failed-tell-clause-whole g c = λ told failed.
    let a = c.in-Err-Over in
    inr (IsOver-ended a.ending (asked_of (g.S.Store.files c.args.store.now) (map string_bytes c.args.words.now)) (g.S.Store.files c.args.store.now) (g.S.Store.files c.work.new.store)
    (end_reached (Unit {0}) a.field-0 a.ending a.field-0-is (asked_of (g.S.Store.files c.args.store.now) (map string_bytes c.args.words.now)) (g.S.Store.files c.args.store.now) (g.S.Store.files c.work.new.store) (a.ensures.rendered told)))

pub returns-in-Err-Memory-tell-clause-work : goal.returns-in-Err-Memory-tell-clause-work
returns-in-Err-Memory-tell-clause-work g c = λ told.
    let a = c.in-Err-Over in
    IsCutOff-ended a.ending (asked_of (g.S.Store.files c.args.store.now) (map string_bytes c.args.words.now)) (g.S.Store.files c.args.store.now) (g.S.Store.files c.work.new.store)
    (end_reached (Unit {0}) a.field-0 a.ending a.field-0-is (asked_of (g.S.Store.files c.args.store.now) (map string_bytes c.args.words.now)) (g.S.Store.files c.args.store.now) (g.S.Store.files c.work.new.store) (a.ensures.rendered told))

-- ---- the steps of the cycles

pub returns-in-Ok-tell-clause-steps : goal.returns-in-Ok-tell-clause-steps
returns-in-Ok-tell-clause-steps g c = λ told.
    let a = c.in-Err-Over in
    let asked = asked_of (g.S.Store.files c.args.store.now) (map string_bytes c.args.words.now) in
    subst (λ (ended : Status). CountsSteps ended asked (g.S.Store.files c.work.new.store) c.work.new.steps.items) (sym c.from-in-Ok-tell.ensures)
    (Counts-ended (Unit {0}) a.field-0 a.ending asked (g.S.Store.files c.work.new.store) c.work.new.steps.items a.field-0-is (a.ensures.steps told))
