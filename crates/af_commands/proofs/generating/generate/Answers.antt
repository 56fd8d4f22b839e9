use Rattle.std.proofs.Common.{◌≡◌, ◌∙◌, Err, Ok, String, ap, subst, sym, rules}
use Rattle.af_commands.proofs.Common.{Global, Meets, ScriptData, Session as Loaded, generated_job, generated_script, loaded_view, session_in}
use Rattle.af_commands.proofs.Counted.{Counts-stopped}
use Rattle.af_commands.proofs.GeneratedSession.{Counts-session, Makes-session, Makes-unloaded}
use Rattle.af_commands.proofs.generating.generate.Goals as goal

pub returns-in_err-loaded-clause-made : goal.returns-in_err-loaded-clause-made
returns-in_err-loaded-clause-made g c = λ told.
    let old = g.S.Store.files c.args.store.now in
    let mid = g.S.Store.files c.write_session.new.store in
    let stop = c.in_err-loaded.field-0.0 in
    let tells = c.in_ok-made.ensures.tells told in
    let met : Meets loaded_view (Err stop) (session_in mid generated_script) =
    subst (λ (script : ScriptData). Meets loaded_view (Err stop) (session_in mid script)) c.in_ok-made.ensures.script (c.in_err-loaded.ensures.loaded tells) in
    let stopped = Makes-unloaded old c.args.number c.args.script.now c.args.target.now c.requires.free mid (c.in_ok-made.ensures.written told) stop (g.S.Store.files c.load_files.new.store) met (c.in_err-loaded.ensures.same tells) in
    search (rules, stopped)

pub returns-clause-made : goal.returns-clause-made
returns-clause-made g c = λ told.
    let old = g.S.Store.files c.args.store.now in
    let mid = g.S.Store.files c.write_session.new.store in
    let read = g.S.Store.files c.load_files.new.store in
    let tells = c.in_ok-made.ensures.tells told in
    let l : Loaded = loaded_view c.in_ok-loaded.loaded in
    let told_here : session_in mid generated_script ≡ Ok l =
    ap (λ (script : ScriptData). session_in mid script) (sym c.in_ok-made.ensures.script) ∙ c.in_ok-loaded.ensures.loaded tells in
    Makes-session old c.args.number c.args.script.now c.args.target.now c.requires.free mid (c.in_ok-made.ensures.written told) c.play.result l read (g.S.Store.files c.play.new.store) told_here
    (c.in_ok-loaded.ensures.same tells) (c.play.ensures.made (c.in_ok-loaded.ensures.tells tells))

pub returns-in_err-loaded-clause-steps : goal.returns-in_err-loaded-clause-steps
returns-in_err-loaded-clause-steps g c = λ told.
    let none =
    Counts-stopped (String Global) loaded_view c.in_err-loaded.field-0.0 (session_in (g.S.Store.files c.write_session.new.store) c.in_ok-made.made) (Ok (generated_job c.args.number c.args.script.now c.args.target.now))
    (g.S.Store.files c.load_files.new.store) c.args.steps.now.items (c.in_err-loaded.ensures.loaded (c.in_ok-made.ensures.tells told)) in
    search (rules, none)

pub returns-clause-steps : goal.returns-clause-steps
returns-clause-steps g c = λ told.
    let old = g.S.Store.files c.args.store.now in
    let mid = g.S.Store.files c.write_session.new.store in
    let tells = c.in_ok-made.ensures.tells told in
    let l : Loaded = loaded_view c.in_ok-loaded.loaded in
    let told_here : session_in mid generated_script ≡ Ok l =
    ap (λ (script : ScriptData). session_in mid script) (sym c.in_ok-made.ensures.script) ∙ c.in_ok-loaded.ensures.loaded tells in
    Counts-session old c.args.number c.args.script.now c.args.target.now c.requires.free mid (c.in_ok-made.ensures.written told) c.play.result l (g.S.Store.files c.play.new.store) c.play.new.steps.items told_here
    (c.play.ensures.steps (c.in_ok-loaded.ensures.tells tells))
