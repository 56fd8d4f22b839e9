use Rattle.af_normal.proofs.meetings.meet_with_hand.Goals as goal

pub meet_all-requires : goal.meet_all-requires
meet_all-requires g c = record { ready = (c.requires.client, c.requires.stream c.in-Some.server c.in-Some.is, c.requires.hand) }
