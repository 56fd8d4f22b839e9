use Rattle.std.proofs.Common.{◌≡◌, Ok, subst}
use Rattle.af_commands.proofs.Common.{Session as Loaded, loaded_view, session_job}
use Rattle.af_commands.specs.Counted.{CountsOn}
use Rattle.af_commands.specs.Ends.{Makes}
use Rattle.af_commands.proofs.Counted.{Counts-rendered}
use Rattle.af_commands.proofs.Played.{Makes-rendered, some_line_told}
use Rattle.af_commands.proofs.PlayedFaults.{HasFault-rendered, IsNoUsage-rendered}
use Rattle.af_commands.proofs.Served.{files_for}
use Rattle.af_commands.proofs.render.play.Goals as goal

pub render-played-requires : goal.render-played-requires
render-played-requires g c = files_for c.args.loaded.now c.deref.result.now c.deref.ensures.value c.requires

pub returns-clause-made : goal.returns-clause-made
returns-clause-made g c = λ told.
    let old = g.S.Store.files c.args.store.now in
    let new = g.S.Store.files c.render-played.new.store in
    let p = c.render-played.ensures in
    let here : Loaded = record { script = c.args.loaded.now.script; files = c.deref.result.now } in
    let same : here ≡ loaded_view c.args.loaded.now = λ k. record { script = c.args.loaded.now.script; files = c.deref.ensures.value k } in
    subst (λ (l : Loaded). Makes c.tell-told.result (Ok (session_job c.args.target.now l)) old new) same
    (Makes-rendered here c.is_accepted.ensures c.what_follows_of_turn_runs.ensures c.args.target.now (g.S.Store.told c.args.store.now) old new c.render-played.new.steps.items c.render-played.result c.tell-told.result told p.played (p.left told) c.tell-told.ensures)

pub returns-clause-line : goal.returns-clause-line
returns-clause-line g c =
    let old = g.S.Store.files c.args.store.now in
    let new = g.S.Store.files c.render-played.new.store in
    let here : Loaded = record { script = c.args.loaded.now.script; files = c.deref.result.now } in
    some_line_told here c.is_accepted.ensures c.what_follows_of_turn_runs.ensures c.args.target.now (g.S.Store.told c.args.store.now) old new c.render-played.new.steps.items c.render-played.result c.tell-told.result c.render-played.ensures.played c.tell-told.ensures

pub returns-clause-cause : goal.returns-clause-cause
returns-clause-cause g c =
    HasFault-rendered (g.S.Store.faults c.args.store.now) (g.S.Store.faults c.render-played.new.store) c.render-played.result c.tell-told.result c.render-played.ensures.cause c.tell-told.ensures

pub returns-clause-words : goal.returns-clause-words
returns-clause-words g c = IsNoUsage-rendered c.render-played.result c.tell-told.result c.tell-told.ensures

pub returns-clause-steps : goal.returns-clause-steps
returns-clause-steps g c = λ told.
    let old = g.S.Store.files c.args.store.now in
    let new = g.S.Store.files c.render-played.new.store in
    let here : Loaded = record { script = c.args.loaded.now.script; files = c.deref.result.now } in
    let same : here ≡ loaded_view c.args.loaded.now = λ k. record { script = c.args.loaded.now.script; files = c.deref.ensures.value k } in
    subst (λ (l : Loaded). CountsOn c.tell-told.result (Ok (session_job c.args.target.now l)) new c.render-played.new.steps.items) same
    (Counts-rendered here c.is_accepted.ensures c.args.target.now (g.S.Store.told c.args.store.now) old new c.render-played.new.steps.items c.render-played.result c.tell-told.result told c.render-played.ensures.played c.tell-told.ensures)
