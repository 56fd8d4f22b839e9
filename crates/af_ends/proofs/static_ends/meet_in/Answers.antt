use Rattle.af_ends.proofs.static_ends.meet_in.Goals as goal

pub returns-clause-met : goal.returns-clause-met
returns-clause-met g c = (c.args.setter.now.events, c.meet_static.ensures.setter.1, c.meet_static.ensures.player)
