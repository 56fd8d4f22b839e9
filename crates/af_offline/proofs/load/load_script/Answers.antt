use Rattle.std.proofs.Common.{◌≡◌, ◌∙◌, List, ℕ, Result, ap, sym, subst}
use Rattle.af_offline.proofs.Common.{Files, ScriptData, Session as Loaded, files_are}
use Rattle.af_script.specs.Reading.{script_of}
use Rattle.af_offline.specs.declared.status.Refusal.{Refusal}
use Rattle.af_offline.specs.Asked.{◌>>=◌, loaded_of, script_or, session_in}
use Rattle.af_offline.specs.Loading.{loaded_view}
use Rattle.af_offline.specs.Status.{Meets}
use Rattle.af_offline.proofs.load.load_script.Goals as goal

pub returns-clause-loaded : goal.returns-clause-loaded
returns-clause-loaded g c = λ told.
    let old = g.S.Store.files c.args.store.now in
    let new = g.S.Store.files c.load_file.new.store in
    let script = c.in_ok-script.script in
    let same : new ≡ old = files_are old new (c.in_ok-bytes.ensures.same told) in
    let files : Meets loaded_view c.load_files.result (session_in old script) =
    subst (λ (files : Files). Meets loaded_view c.load_files.result (session_in files script)) same (c.load_files.ensures.loaded (c.in_ok-bytes.ensures.tells told)) in
    let read : script_or (script_of c.in_ok-bytes.bytes.items) ≡ script_or (script_of c.deref.result.now) =
    ap (λ (bytes : List ℕ). script_or (script_of bytes)) (sym c.deref.ensures.value) in
    let is : loaded_of old c.args.name.now ≡ session_in old script =
    ap (λ (bytes : Result (List ℕ) Refusal). bytes >>= (λ some. script_or (script_of some) >>= session_in old)) (c.in_ok-bytes.ensures.loaded told)
    ∙ ap (λ (r : Result ScriptData Refusal). r >>= session_in old) (read ∙ c.in_ok-script.ensures.script) in
    subst (λ (told' : Result Loaded Refusal). Meets loaded_view c.load_files.result told') (sym is) files
