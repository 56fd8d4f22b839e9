use Rattle.std.proofs.Common.{map, take}
use Rattle.af_base.specs.Turn.{take_seen}
use Rattle.af_tally.specs.Summaries.{take_look}
use Rattle.af_tally.specs.Tallies.{Notes}
use Rattle.af_tally.proofs.tally.Tally.note_takes.Given as goal

abbrev pub invariant-loop-take : goal.invariant-loop-take
invariant-loop-take l = Notes l.take-index (map take_look (map take_seen (take l.take-index l.turn.mixes.items))) l.initial.self l.self
