use Rattle.std.proofs.Common.{true}
use Rattle.af_playing.proofs.PlayAnswers.{hands_back}
use Rattle.af_playing.proofs.PlayLegal.{play_legal}
use Rattle.af_playing.proofs.answering.whole.Goals as goal

pub returns-clause-legal : goal.returns-clause-legal
returns-clause-legal g =
    let script = g.args.script.now in
    let files = g.args.files.now in
    let stage = g.args.stage in
    let have = g.requires.played in
    let back = hands_back true script files stage.parties g.args.rounds g.finish.result.journal g.finish.result.ends have.all have.noted.tracks have.noted.form have.noted.count have.few have.over g.requires.ended g.finish.ensures.journal g.finish.ensures.ends in
    play_legal script files g.finish.result.journal g.finish.result.ends back g.a_play_is_told_by_its_journal.ensures
