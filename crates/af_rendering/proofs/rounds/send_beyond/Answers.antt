use Rattle.af_rendering.proofs.rounds.send_beyond.Goals as goal

pub returns-clause-sent : goal.returns-clause-sent
returns-clause-sent g c = c.send_waiting.ensures.sent
