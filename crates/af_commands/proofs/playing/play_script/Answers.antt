use Rattle.std.proofs.Common.{◌≡◌, Ok, Result, String, ap, rules, subst, sym}
use Rattle.af_commands.proofs.Common.{Files, Global, Job, Refusal, Session as Loaded, files_are, loaded_of, loaded_view, play_asked, play_job}
use Rattle.af_offline.specs.Asked.{◌>>=◌}
use Rattle.af_commands.specs.Counted.{CountsOn}
use Rattle.af_commands.specs.Ends.{Makes}
use Rattle.af_commands.proofs.Counted.{Counts-stopped}
use Rattle.af_commands.proofs.playing.play_script.Goals as goal

pub returns-clause-made : goal.returns-clause-made
returns-clause-made g c = λ told.
    let old = g.S.Store.files c.args.store.now in
    let mid = g.S.Store.files c.load_script.new.store in
    let new = g.S.Store.files c.play.new.store in
    let target = c.args.output.now.target.now in
    let name = c.args.output.now.journal.now in
    let job : Job = play_job target name (loaded_view c.in_ok-loaded.loaded) in
    let is : play_asked old c.args.script.now target name ≡ Ok job =
    ap (λ (r : Result Loaded Refusal). r >>= (λ l. Ok (play_job target name l))) (c.in_ok-loaded.ensures.loaded told) in
    let made : Makes c.play.result (Ok job) old new =
    subst (λ (files : Files). Makes c.play.result (Ok job) files new) (files_are old mid (c.in_ok-loaded.ensures.same told)) (c.play.ensures.made (c.in_ok-loaded.ensures.tells told)) in
    subst (λ (asked : Result Job Refusal). Makes c.play.result asked old new) (sym is) made

pub returns-in_err-loaded-clause-steps : goal.returns-in_err-loaded-clause-steps
returns-in_err-loaded-clause-steps g c = λ told.
    let old = g.S.Store.files c.args.store.now in
    let none =
    Counts-stopped (String Global) loaded_view c.in_err-loaded.field-0.0 (loaded_of old c.args.script.now) (play_asked old c.args.script.now c.args.output.now.target.now c.args.output.now.journal.now) (g.S.Store.files c.load_script.new.store) c.args.steps.now.items (c.in_err-loaded.ensures.loaded told) in
    search (rules, none)

pub returns-clause-steps : goal.returns-clause-steps
returns-clause-steps g c = λ told.
    let old = g.S.Store.files c.args.store.now in
    let new = g.S.Store.files c.play.new.store in
    let is : play_asked old c.args.script.now c.args.output.now.target.now c.args.output.now.journal.now ≡ Ok (play_job c.args.output.now.target.now c.args.output.now.journal.now (loaded_view c.in_ok-loaded.loaded)) =
    ap (λ (r : Result Loaded Refusal). r >>= (λ l. Ok (play_job c.args.output.now.target.now c.args.output.now.journal.now l))) (c.in_ok-loaded.ensures.loaded told) in
    subst (λ (asked : Result Job Refusal). CountsOn c.play.result asked new c.play.new.steps.items) (sym is) (c.play.ensures.steps (c.in_ok-loaded.ensures.tells told))
