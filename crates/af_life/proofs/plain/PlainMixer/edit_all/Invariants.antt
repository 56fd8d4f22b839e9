use Rattle.std.proofs.Common.{◌≡◌}
use Rattle.af_life.specs.Plain.{learnt_of}
use Rattle.af_life.specs.Edits.{edited_to}
use Rattle.af_life.proofs.plain.PlainMixer.edit_all.Given as goal

abbrev pub invariant-loop-i : goal.invariant-loop-i
invariant-loop-i l = l.self ≡ record l.fn.self { kept = edited_to l.fn.self.setup (learnt_of l.report l.own) l.fn.self.kept l.i }
