use Rattle.std.proofs.Common.{◌≡◌, ◌++◌, take, codes, string_bytes}
use Rattle.af_script.proofs.Common.{flat_map}
use Rattle.af_script.specs.Printing.{turn_text, quoted}
use Rattle.af_script.proofs.printing.add_turn_array.Given as goal

abbrev pub invariant-loop-turn : goal.invariant-loop-turn
invariant-loop-turn l = string_bytes l.text ≡ string_bytes l.initial.text ++ flat_map (λ turn. codes ", " ++ quoted (turn_text turn)) (take l.turn-index l.rest)
