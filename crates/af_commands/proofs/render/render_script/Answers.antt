use Rattle.std.proofs.Common.{◌≡◌, Ok, Result, String, ap, rules, subst, sym}
use Rattle.af_commands.proofs.Common.{Files, Global, Job, Refusal, Session as Loaded, files_are, loaded_of, loaded_view, render_asked, session_job}
use Rattle.af_offline.specs.Asked.{◌>>=◌}
use Rattle.af_commands.specs.Counted.{CountsOn}
use Rattle.af_commands.specs.Ends.{Makes}
use Rattle.af_commands.proofs.Counted.{Counts-stopped}
use Rattle.af_commands.proofs.Made.{Makes-stopped_before}
use Rattle.af_commands.proofs.render.render_script.Goals as goal

pub returns-in_err-loaded-clause-made : goal.returns-in_err-loaded-clause-made
returns-in_err-loaded-clause-made g c = λ told.
    let stopped =
    Makes-stopped_before loaded_view c.in_err-loaded.field-0.0 (loaded_of (g.S.Store.files c.args.store.now) c.args.script.now) (λ l. Ok (session_job c.args.target.now l))
    (g.S.Store.files c.args.store.now) (g.S.Store.files c.load_script.new.store) (c.in_err-loaded.ensures.loaded told) (c.in_err-loaded.ensures.same told) in
    search (rules, stopped)

pub returns-clause-made : goal.returns-clause-made
returns-clause-made g c = λ told.
    let old = g.S.Store.files c.args.store.now in
    let mid = g.S.Store.files c.load_script.new.store in
    let new = g.S.Store.files c.play.new.store in
    let target = c.args.target.now in
    let job : Job = session_job target (loaded_view c.in_ok-loaded.loaded) in
    let is : render_asked old c.args.script.now target ≡ Ok job =
    ap (λ (r : Result Loaded Refusal). r >>= (λ l. Ok (session_job target l))) (c.in_ok-loaded.ensures.loaded told) in
    let made : Makes c.play.result (Ok job) old new =
    subst (λ (files : Files). Makes c.play.result (Ok job) files new) (files_are old mid (c.in_ok-loaded.ensures.same told)) (c.play.ensures.made (c.in_ok-loaded.ensures.tells told)) in
    subst (λ (asked : Result Job Refusal). Makes c.play.result asked old new) (sym is) made

pub returns-in_err-loaded-clause-steps : goal.returns-in_err-loaded-clause-steps
returns-in_err-loaded-clause-steps g c = λ told.
    let asked = render_asked (g.S.Store.files c.args.store.now) c.args.script.now c.args.target.now in
    let none =
    Counts-stopped (String Global) loaded_view c.in_err-loaded.field-0.0 (loaded_of (g.S.Store.files c.args.store.now) c.args.script.now) asked (g.S.Store.files c.load_script.new.store) c.args.steps.now.items (c.in_err-loaded.ensures.loaded told) in
    search (rules, none)

pub returns-clause-steps : goal.returns-clause-steps
returns-clause-steps g c = λ told.
    let old = g.S.Store.files c.args.store.now in
    let new = g.S.Store.files c.play.new.store in
    let target = c.args.target.now in
    let is : render_asked old c.args.script.now target ≡ Ok (session_job target (loaded_view c.in_ok-loaded.loaded)) =
    ap (λ (r : Result Loaded Refusal). r >>= (λ l. Ok (session_job target l))) (c.in_ok-loaded.ensures.loaded told) in
    subst (λ (asked : Result Job Refusal). CountsOn c.play.result asked new c.play.new.steps.items) (sym is) (c.play.ensures.steps (c.in_ok-loaded.ensures.tells told))
