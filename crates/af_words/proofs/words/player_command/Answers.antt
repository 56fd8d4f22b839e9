use Rattle.std.proofs.Common.{◌≡◌, ◌∙◌, IfOk, ap, subst}
use Rattle.clap.specs.Simple.{App}
use Rattle.clap.specs.Words.{app_of, with_subcommand}
use Rattle.af_words.specs.Words.{render_words, record_words, loop_words, generate_words, play_words, verify_words, trace_words}
use Rattle.af_words.proofs.words.player_command.Goals as goal

pub returns : goal.returns
returns c =
    let one = c.in_ok-command.ensures render_words c.render_command.ensures.shape ∙ ap (λ (app : App). with_subcommand app render_words) c.bare_command.ensures in
    let two = c.in_ok-command-2.ensures record_words c.record_command.ensures.shape ∙ ap (λ (app : App). with_subcommand app record_words) one in
    let three = c.in_ok-command-3.ensures loop_words c.loop_command.ensures.shape ∙ ap (λ (app : App). with_subcommand app loop_words) two in
    let four = c.in_ok-command-4.ensures generate_words c.generate_command.ensures.shape ∙ ap (λ (app : App). with_subcommand app generate_words) three in
    let five = c.in_ok-command-5.ensures play_words c.play_command.ensures.shape ∙ ap (λ (app : App). with_subcommand app play_words) four in
    let six = c.in_ok-command-6.ensures verify_words c.verify_command.ensures.shape ∙ ap (λ (app : App). with_subcommand app verify_words) five in
    let seven = ap (λ (app : App). with_subcommand app trace_words) six in
    subst (λ (app : App). IfOk c.with_sub-7.result (λ command. app_of command ≡ app)) seven (c.with_sub-7.ensures trace_words c.trace_command.ensures.shape)
