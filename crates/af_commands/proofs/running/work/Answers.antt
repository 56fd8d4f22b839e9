use Rattle.std.proofs.Common.{◌≡◌, ◌∙◌, ℕ, List, Ok, Err, Result, Some, String, map, option_map, string_bytes, sym, ap, subst, rules}
use Rattle.af_commands.proofs.Common.{Global, Job, Refusal, Rose, asked_of, job_of, request_of}
use Rattle.af_words.specs.Asking.{request_view}
use Rattle.af_commands.specs.Ends.{Makes, PrintsLine}
use Rattle.af_commands.proofs.Left.{asked_line, asked_named, Printed-printed, PrintsSomeLine-stopped, PrintsSomeLine-written, Renders-memory, Renders-printed, Renders-stopped, WholeUnless-printed}
use Rattle.af_commands.proofs.running.work.Goals as goal

pub returns-in_err-request-clause-rendered : goal.returns-in_err-request-clause-rendered
returns-in_err-request-clause-rendered g c = λ told.
    Renders-memory c.from_residual.result (asked_of (g.S.Store.files c.args.store.now) (map string_bytes c.args.words.now)) (g.S.Store.files c.args.store.now) c.from_residual.ensures.1

pub returns-in_err-line-clause-rendered : goal.returns-in_err-line-clause-rendered
returns-in_err-line-clause-rendered g c = λ told.
    let files = g.S.Store.files c.args.store.now in
    let new = g.S.Store.files c.make.new.store in
    let words = map string_bytes c.args.words.now in
    let request = c.in-Some.request in
    let asked : asked_of files words ≡ job_of files (request_view request) = asked_named files words (request_view request) (sym (ap (option_map request_view) c.in-Some.is) ∙ c.in_ok-request.ensures.value) in
    let stopped = Renders-stopped (Unit {0}) c.in_err-line.field-0.0 (asked_of files words) files new
    (subst (λ (told' : Result Job Refusal). Makes (Err c.in_err-line.field-0.0) told' files new) (sym asked) (c.in_err-line.ensures.made told)) in
    search (rules, stopped)

pub returns-in_err-line-clause-some : goal.returns-in_err-line-clause-some
returns-in_err-line-clause-some g c = λ told.
    let words = map string_bytes c.args.words.now in
    let named : Some (request_view c.in-Some.request) ≡ request_of words = sym (ap (option_map request_view) c.in-Some.is) ∙ c.in_ok-request.ensures.value in
    let nothing = PrintsSomeLine-stopped (Unit {0}) (String Global) c.in_err-line.field-0.0 (request_view c.in-Some.request) (request_of words) (g.O.Sink.held c.args.out.now) named c.in_err-line.ensures.words in
    search (rules, nothing)

pub returns-clause-rendered : goal.returns-clause-rendered
returns-clause-rendered g c = λ told.
    let files = g.S.Store.files c.args.store.now in
    let new = g.S.Store.files c.make.new.store in
    let words = map string_bytes c.args.words.now in
    let request = c.in-Some.request in
    let asked : asked_of files words ≡ job_of files (request_view request) = asked_named files words (request_view request) (sym (ap (option_map request_view) c.in-Some.is) ∙ c.in_ok-request.ensures.value) in
    let made : Makes (Ok c.in_ok-line.line) (asked_of files words) files new =
    subst (λ (told' : Result Job Refusal). Makes (Ok c.in_ok-line.line) told' files new) (sym asked) (c.in_ok-line.ensures.made told) in
    Renders-printed c.print.result (asked_of files words) c.in_ok-line.line files new made c.print.ensures.outside

pub returns-clause-printed : goal.returns-clause-printed
returns-clause-printed g c = λ told told_out.
    let files = g.S.Store.files c.args.store.now in
    let new = g.S.Store.files c.make.new.store in
    let words = map string_bytes c.args.words.now in
    let request = c.in-Some.request in
    let asked : asked_of files words ≡ job_of files (request_view request) = asked_named files words (request_view request) (sym (ap (option_map request_view) c.in-Some.is) ∙ c.in_ok-request.ensures.value) in
    let made : Makes (Ok c.in_ok-line.line) (asked_of files words) files new =
    subst (λ (told' : Result Job Refusal). Makes (Ok c.in_ok-line.line) told' files new) (sym asked) (c.in_ok-line.ensures.made told) in
    let same : c.as_str.result.now ≡ string_bytes c.in_ok-line.line = c.as_str.ensures.value in
    Printed-printed c.print.result (asked_of files words) c.in_ok-line.line files new (g.O.Sink.held c.args.out.now) (g.O.Sink.held c.print.new.out) made
    (subst (λ (line : List ℕ). PrintsLine c.print.result line (g.O.Sink.held c.args.out.now) (g.O.Sink.held c.print.new.out)) same (c.print.ensures.printed told_out))

pub returns-clause-whole : goal.returns-clause-whole
returns-clause-whole g c = λ told.
    let files = g.S.Store.files c.args.store.now in
    let new = g.S.Store.files c.make.new.store in
    let words = map string_bytes c.args.words.now in
    let request = c.in-Some.request in
    let asked : asked_of files words ≡ job_of files (request_view request) = asked_named files words (request_view request) (sym (ap (option_map request_view) c.in-Some.is) ∙ c.in_ok-request.ensures.value) in
    let made : Makes (Ok c.in_ok-line.line) (asked_of files words) files new =
    subst (λ (told' : Result Job Refusal). Makes (Ok c.in_ok-line.line) told' files new) (sym asked) (c.in_ok-line.ensures.made told) in
    WholeUnless-printed (Rose (g.S.Store.faults c.args.store.now) (g.S.Store.faults c.make.new.store)) c.print.result (asked_of files words) c.in_ok-line.line files new made

pub returns-clause-some : goal.returns-clause-some
returns-clause-some g c = λ told_out.
    let words = map string_bytes c.args.words.now in
    let named : Some (request_view c.in-Some.request) ≡ request_of words = sym (ap (option_map request_view) c.in-Some.is) ∙ c.in_ok-request.ensures.value in
    let same : c.as_str.result.now ≡ string_bytes c.in_ok-line.line = c.as_str.ensures.value in
    PrintsSomeLine-written c.print.result (request_of words) (string_bytes c.in_ok-line.line) (g.O.Sink.held c.args.out.now) (g.O.Sink.held c.print.new.out) c.print.ensures.outside
    (asked_line (request_of words) (request_view c.in-Some.request) (string_bytes c.in_ok-line.line) named c.in_ok-line.ensures.line)
    (subst (λ (line : List ℕ). PrintsLine c.print.result line (g.O.Sink.held c.args.out.now) (g.O.Sink.held c.print.new.out)) same (c.print.ensures.printed told_out))
