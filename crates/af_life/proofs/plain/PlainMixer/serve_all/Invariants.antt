use Rattle.std.proofs.Common.{◌≡◌}
use Rattle.af_life.proofs.Common.{turn_of}
use Rattle.af_life.specs.Plain.{learnt_of}
use Rattle.af_life.specs.Serves.{served_to}
use Rattle.af_life.proofs.plain.PlainMixer.serve_all.Given as goal

abbrev pub invariant-loop-i : goal.invariant-loop-i
invariant-loop-i l = l.self ≡ record l.fn.self { kept = record l.fn.self.kept { tracks = served_to l.fn.self.setup (learnt_of l.report l.own) (turn_of l.entry).tracks l.fn.self.kept.tracks l.i } }
