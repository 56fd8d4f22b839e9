-- How a judge goes over the looks of a turn at a command block.
use Rattle.std.specs.Prelude.{Bool, List, [], ◌∷◌}
use Rattle.af_base.specs.declared.turn.CommandLook.{CommandLook}
use Rattle.af_life.specs.Looks.{as_slot, command_events, did, HasWords}
use Rattle.af_model.specs.Cycles.{Listed}
use Rattle.af_runs.specs.Fronts.{front_of}
use Rattle.af_judge.specs.Servers.{LooksRightly}

-- each look answers as its words say, by the list that the looks before it left as the journal tells them
abbrev pub AllAnswer : Bool → Listed → List CommandLook → Type 0
AllAnswer lawful s [] = Unit {0}
AllAnswer lawful s (look ∷ looks) = (LooksRightly lawful 2 s (as_slot look) × HasWords look)
    × AllAnswer lawful (did s (command_events s look (front_of 2 s (as_slot look)))) looks
