use Rattle.af_normal.proofs.meetings.meet_alone.Goals as goal

pub meet_track-requires-2 : goal.meet_track-requires-2
meet_track-requires-2 g c = record { ready = (c.requires.client, c.requires.stream c.in-Some.server c.in-Some.is) }
