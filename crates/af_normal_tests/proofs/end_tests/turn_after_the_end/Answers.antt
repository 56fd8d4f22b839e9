use Rattle.std.proofs.Common.{◌∙◌, ◌<◌, arith}
use Rattle.af_base.specs.Turn.{turn_of}
use Rattle.af_normal.specs.Order.{most_turns}
use Rattle.af_normal_tests.proofs.AfterEnd.{answers_end, ended_again, ended_by, mutator_same, pipe_same, reader_same, tells_end}
use Rattle.af_normal_tests.proofs.end_tests.turn_after_the_end.Goals as goal

pub returns-clause-ended : goal.returns-clause-ended
returns-clause-ended g c =
    let few : c.args.mixer.now.turns < most_turns = (let turns = c.requires.few in omega arith) in let legal = c.turn.ensures.legal few in
    let again = ended_again legal.0 c.args.mixer.now c.turn.new.self legal.1 c.requires.ended in
    (c.turn.ensures.answer few ∙ answers_end (turn_of c.turn.new.self.entry) again, ended_by legal.0 c.args.mixer.now c.turn.new.self legal.1 again)

pub returns-clause-entry : goal.returns-clause-entry
returns-clause-entry g c = let few : c.args.mixer.now.turns < most_turns = (let turns = c.requires.few in omega arith) in let legal = c.turn.ensures.legal few in tells_end legal.0 c.args.mixer.now c.turn.new.self legal.1 c.requires.ended

pub returns-clause-mutator : goal.returns-clause-mutator
returns-clause-mutator g c = let few : c.args.mixer.now.turns < most_turns = (let turns = c.requires.few in omega arith) in let legal = c.turn.ensures.legal few in mutator_same legal.0 c.args.mixer.now c.turn.new.self legal.1 c.requires.ended

pub returns-clause-reader : goal.returns-clause-reader
returns-clause-reader g c = let few : c.args.mixer.now.turns < most_turns = (let turns = c.requires.few in omega arith) in let legal = c.turn.ensures.legal few in reader_same legal.0 c.args.mixer.now c.turn.new.self legal.1 c.requires.ended

pub returns-clause-pipe : goal.returns-clause-pipe
returns-clause-pipe g c = let few : c.args.mixer.now.turns < most_turns = (let turns = c.requires.few in omega arith) in let legal = c.turn.ensures.legal few in pipe_same legal.0 c.args.mixer.now c.turn.new.self legal.1 c.requires.ended
