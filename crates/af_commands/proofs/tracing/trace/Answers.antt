use Rattle.std.proofs.Common.{◌≡◌, Ok, subst}
use Rattle.af_commands.proofs.Common.{KeepsPlay, Session as Loaded, Trace, loaded_view, trace_job}
use Rattle.af_commands.specs.Counted.{CountsOn}
use Rattle.af_commands.specs.Ends.{Makes}
use Rattle.af_commands.proofs.Counted.{Counts-logged}
use Rattle.af_commands.proofs.PlayedFaults.{HasFault-told, SuitsRequest-told}
use Rattle.af_commands.proofs.PlayedRounds.{some_play_told}
use Rattle.af_commands.proofs.TracedRounds.{Makes-logged}
use Rattle.af_commands.proofs.Served.{files_for}
use Rattle.af_commands.proofs.tracing.trace.Goals as goal

pub play_logged-played-requires-clause-files : goal.play_logged-played-requires-clause-files
play_logged-played-requires-clause-files g c = λ κs lives. files_for c.args.loaded.now c.deref.result.now c.deref.ensures.value c.requires.files

pub returns-clause-made : goal.returns-clause-made
returns-clause-made g c = λ told.
    let old = g.S.Store.files c.args.store.now in
    let mid = g.S.Store.files c.play_logged-played.new.store in
    let new = g.S.Store.files c.tell_with_log-told.new.store in
    let p = c.play_logged-played.ensures in
    let here : Loaded = record { script = c.args.loaded.now.script; files = c.deref.result.now } in
    let same : here ≡ loaded_view c.args.loaded.now = λ k. record { script = c.args.loaded.now.script; files = c.deref.ensures.value k } in
    let keeps : KeepsPlay here.script here.files c.play_logged-played.result = record { done = p.done; limit = p.limit; enough = p.enough } in
    subst (λ (l : Loaded). Makes c.tell_with_log-told.result (Ok (trace_job c.args.output.now.target.now c.args.output.now.journal.now c.args.output.now.log.now c.args.output.now.room l)) old new) same
    (Makes-logged here c.is_accepted.ensures c.what_follows_of_rounds.ensures c.args.output.now.room c.args.output.now.target.now c.args.output.now.journal.now c.args.output.now.log.now old mid new c.deref-2.result.now c.play_logged-played.new.text.items c.new-text.result.items c.deref-2.ensures.value c.new-text.ensures.items
    c.cycles-cycles.result c.cycles-cycles.ensures.value c.play_logged-played.result c.tell_with_log-told.result keeps (p.files told) p.log.0
    c.tell_with_log-told.ensures.told (c.tell_with_log-told.ensures.files (p.tells told)))

pub returns-clause-line : goal.returns-clause-line
returns-clause-line g c =
    let p = c.play_logged-played.ensures in
    let here : Loaded = record { script = c.args.loaded.now.script; files = c.deref.result.now } in
    let keeps : KeepsPlay here.script here.files c.play_logged-played.result = record { done = p.done; limit = p.limit; enough = p.enough } in
    some_play_told here c.is_accepted.ensures c.what_follows_of_rounds.ensures c.cycles-cycles.result c.play_logged-played.result c.tell_with_log-told.result keeps c.tell_with_log-told.ensures.told

pub returns-clause-cause : goal.returns-clause-cause
returns-clause-cause g c =
    HasFault-told c.cycles-cycles.result (g.S.Store.faults c.args.store.now) (g.S.Store.faults c.play_logged-played.new.store) (g.S.Store.faults c.tell_with_log-told.new.store) c.play_logged-played.result c.tell_with_log-told.result
    c.play_logged-played.ensures.cause c.tell_with_log-told.ensures.cause c.tell_with_log-told.ensures.told

pub returns-clause-words : goal.returns-clause-words
returns-clause-words g c = λ script.
    SuitsRequest-told c.cycles-cycles.result (Trace script c.args.output.now.target.now c.args.output.now.journal.now c.args.output.now.log.now c.args.output.now.room) c.play_logged-played.result c.tell_with_log-told.result tt c.tell_with_log-told.ensures.told

pub returns-clause-steps : goal.returns-clause-steps
returns-clause-steps g c = λ told.
    let mid = g.S.Store.files c.play_logged-played.new.store in
    let new = g.S.Store.files c.tell_with_log-told.new.store in
    let p = c.play_logged-played.ensures in
    let out = c.args.output.now in
    let here : Loaded = record { script = c.args.loaded.now.script; files = c.deref.result.now } in
    let same : here ≡ loaded_view c.args.loaded.now = λ k. record { script = c.args.loaded.now.script; files = c.deref.ensures.value k } in
    let keeps : KeepsPlay here.script here.files c.play_logged-played.result = record { done = p.done; limit = p.limit; enough = p.enough } in
    subst (λ (l : Loaded). CountsOn c.tell_with_log-told.result (Ok (trace_job out.target.now out.journal.now out.log.now out.room l)) new c.play_logged-played.new.steps.items) same
    (Counts-logged here c.cycles-cycles.result out.target.now out.journal.now mid new c.play_logged-played.new.steps.items out.log.now c.deref-2.result.now out.room c.play_logged-played.result c.tell_with_log-told.result keeps p.steps
    c.tell_with_log-told.ensures.told (c.tell_with_log-told.ensures.files (p.tells told)))
