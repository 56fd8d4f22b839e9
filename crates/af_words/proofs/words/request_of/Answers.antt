use Rattle.std.proofs.Common.{◌≡◌, ◌∙◌, false, true, map, string_bytes, sym}
use Rattle.std.specs.List.{list_any}
use Rattle.clap.specs.Values.{kind_of}
use Rattle.clap.specs.declared.error.kind.ErrorKind.TheVariants.{OutOfMemory}
use Rattle.clap.proofs.WalkLemmas.{list_any-map}
use Rattle.af_words.specs.Dash.{begins_dash}
use Rattle.af_words.proofs.PlayerWords.{dash_stray, parse_fits, parse_strays}
use Rattle.af_words.proofs.words.request_of.Goals as goal

pub returns-then-any_dash-clause-value : goal.returns-then-any_dash-clause-value
returns-then-any_dash-clause-value c =
    let dash : list_any begins_dash (map string_bytes c.args.words.now) ≡ true =
    sym (list_any-map begins_dash string_bytes c.args.words.now) ∙ (sym c.any_dash.ensures ∙ c.if-any_dash.true) in
    sym (dash_stray (map string_bytes c.args.words.now) dash)

pub returns-in-Ok-clause-value : goal.returns-in-Ok-clause-value
returns-in-Ok-clause-value c =
    let plain : list_any begins_dash (map string_bytes c.args.words.now) ≡ false =
    sym (list_any-map begins_dash string_bytes c.args.words.now) ∙ (sym c.any_dash.ensures ∙ c.if-any_dash.false) in
    c.matched_request.ensures.value
    ∙ parse_fits _ (map string_bytes c.args.words.now) _ c.in_ok-command.ensures plain c.in-Ok.ensures.kinds (λ simple. (c.in-Ok.ensures.matches simple).1)

pub returns-clause-value : goal.returns-clause-value
returns-clause-value c =
    let plain : list_any begins_dash (map string_bytes c.args.words.now) ≡ false =
    sym (list_any-map begins_dash string_bytes c.args.words.now) ∙ (sym c.any_dash.ensures ∙ c.if-any_dash.false) in
    sym (parse_strays _ (map string_bytes c.args.words.now) (kind_of c.in-Err.error) c.in_ok-command.ensures plain c.in-Err.ensures.kinds (λ memory.
    let known : c.kind.result ≡ OutOfMemory = c.kind.ensures ∙ memory in
    let same : c.eq.result ≡ true = rw known at c.eq.ensures in
    let clash : true ≡ false = sym same ∙ c.if-eq.false in
    cc))
