use Rattle.af_fast.proofs.HeldFacts.{has_block, held_of, order_of}
use Rattle.af_fast.proofs.held.play_held.Goals as goal

pub bounds-streams-track : goal.bounds-streams-track
bounds-streams-track g c =
    has_block c.args.observer.now c.args.streams.now c.args.slot c.track_of-track.result c.requires.order c.requires.names c.requires.slot.0 c.track_of-track.ensures c.in-Some.server.now c.in-Some.ensures.value

pub play-requires-clause-ready : goal.play-requires-clause-ready
play-requires-clause-ready g c =
    held_of c.args.observer.now c.args.streams.now c.args.slot c.track_of-track.result c.requires.order c.requires.names c.requires.slot.0 c.track_of-track.ensures c.in-Some.server.now c.in-Some.ensures.value c.index-streams-track.result c.index-streams-track.is

pub returns-clause-order : goal.returns-clause-order
returns-clause-order g c =
    order_of c.args.observer.now c.args.streams.now c.args.slot c.track_of-track.result c.requires.order c.requires.names c.requires.slot.0 c.track_of-track.ensures c.in-Some.server.now c.in-Some.ensures.value c.index-streams-track.result c.index-streams-track.is
    c.play.new.self c.play.ensures.ready
