use Rattle.std.proofs.Common.{rules, true≢false, sym, ◌∙◌}
use Rattle.af_playing.proofs.InTime.{played_out}
use Rattle.af_playing.proofs.answering.answer.Goals as goal

-- a play that was cut off had not ended, so its script hasn't enough cycles
pub returns : goal.returns
returns c =
    let ended = sym c.have_ended.ensures ∙ c.if-have_ended.false in
    record {
      ended = search rules;
      journal = search rules;
      enough = (λ is enough. absurd (true≢false (sym (played_out c.args.script.now c.args.files.now c.args.rounds c.args.stage c.requires.played is enough) ∙ ended)));
      ends = search rules;
      summary = search rules;
      legal = search rules;
      cut = search rules;
      cut_run = c.cut_off.ensures.cut_run;
    }
