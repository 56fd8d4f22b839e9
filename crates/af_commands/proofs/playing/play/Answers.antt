use Rattle.std.proofs.Common.{◌≡◌, Ok, subst}
use Rattle.af_commands.proofs.Common.{KeepsPlay, Play, Session as Loaded, loaded_view, play_job}
use Rattle.af_commands.specs.Counted.{CountsOn}
use Rattle.af_commands.specs.Ends.{Makes}
use Rattle.af_commands.proofs.Counted.{Counts-told}
use Rattle.af_commands.proofs.PlayedFaults.{HasFault-told, SuitsRequest-told}
use Rattle.af_commands.proofs.PlayedRounds.{Makes-told, some_play_told}
use Rattle.af_commands.proofs.Served.{files_for}
use Rattle.af_commands.proofs.playing.play.Goals as goal

pub play-played-requires-after_bounds : goal.play-played-requires-after_bounds
play-played-requires-after_bounds g c = λ κs lives. files_for c.args.loaded.now c.deref.result.now c.deref.ensures.value c.requires

pub returns-clause-made : goal.returns-clause-made
returns-clause-made g c = λ told.
    let old = g.S.Store.files c.args.store.now in
    let mid = g.S.Store.files c.play-played.new.store in
    let new = g.S.Store.files c.tell-told.new.store in
    let p = c.play-played.ensures in
    let here : Loaded = record { script = c.args.loaded.now.script; files = c.deref.result.now } in
    let same : here ≡ loaded_view c.args.loaded.now = λ k. record { script = c.args.loaded.now.script; files = c.deref.ensures.value k } in
    let keeps : KeepsPlay here.script here.files c.play-played.result = record { done = p.done; limit = p.limit; enough = p.enough } in
    subst (λ (l : Loaded). Makes c.tell-told.result (Ok (play_job c.args.output.now.target.now c.args.output.now.journal.now l)) old new) same
    (Makes-told here c.is_accepted.ensures c.what_follows_of_rounds.ensures c.cycles.result c.cycles.ensures.value c.args.output.now.target.now c.args.output.now.journal.now old mid new c.play-played.result c.tell-told.result keeps (p.files told)
    c.tell-told.ensures.told (c.tell-told.ensures.files (p.tells told)))

pub returns-clause-line : goal.returns-clause-line
returns-clause-line g c =
    let p = c.play-played.ensures in
    let here : Loaded = record { script = c.args.loaded.now.script; files = c.deref.result.now } in
    let keeps : KeepsPlay here.script here.files c.play-played.result = record { done = p.done; limit = p.limit; enough = p.enough } in
    some_play_told here c.is_accepted.ensures c.what_follows_of_rounds.ensures c.cycles.result c.play-played.result c.tell-told.result keeps c.tell-told.ensures.told

pub returns-clause-cause : goal.returns-clause-cause
returns-clause-cause g c =
    HasFault-told c.cycles.result (g.S.Store.faults c.args.store.now) (g.S.Store.faults c.play-played.new.store) (g.S.Store.faults c.tell-told.new.store) c.play-played.result c.tell-told.result
    c.play-played.ensures.cause c.tell-told.ensures.cause c.tell-told.ensures.told

pub returns-clause-words : goal.returns-clause-words
returns-clause-words g c = λ script. SuitsRequest-told c.cycles.result (Play script c.args.output.now.target.now c.args.output.now.journal.now) c.play-played.result c.tell-told.result tt c.tell-told.ensures.told

pub returns-clause-steps : goal.returns-clause-steps
returns-clause-steps g c = λ told.
    let mid = g.S.Store.files c.play-played.new.store in
    let new = g.S.Store.files c.tell-told.new.store in
    let p = c.play-played.ensures in
    let here : Loaded = record { script = c.args.loaded.now.script; files = c.deref.result.now } in
    let same : here ≡ loaded_view c.args.loaded.now = λ k. record { script = c.args.loaded.now.script; files = c.deref.ensures.value k } in
    let keeps : KeepsPlay here.script here.files c.play-played.result = record { done = p.done; limit = p.limit; enough = p.enough } in
    subst (λ (l : Loaded). CountsOn c.tell-told.result (Ok (play_job c.args.output.now.target.now c.args.output.now.journal.now l)) new c.play-played.new.steps.items) same
    (Counts-told here c.cycles.result c.args.output.now.target.now c.args.output.now.journal.now mid new c.play-played.new.steps.items c.play-played.result c.tell-told.result keeps p.steps
    c.tell-told.ensures.told (c.tell-told.ensures.files (p.tells told)))
