use Rattle.std.proofs.Common.{◌≡◌, map, take}
use Rattle.af_life.proofs.Common.{take_seen}
use Rattle.af_life.specs.Plays.{after_takes}
use Rattle.af_life.proofs.plain.PlainMixer.count_all.Given as goal

abbrev pub invariant-loop-take : goal.invariant-loop-take
invariant-loop-take l = l.self ≡ record l.fn.self { kept = after_takes l.fn.self.setup (map take_seen (take l.take-index l.takes)) l.fn.self.kept }
