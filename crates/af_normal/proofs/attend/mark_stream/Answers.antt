use Rattle.af_normal.proofs.attend.mark_stream.Goals as goal

pub mark_home-requires : goal.mark_home-requires
mark_home-requires g c = record { server = c.requires.server c.in-Some.server c.in-Some.is; hand = c.requires.hand }
