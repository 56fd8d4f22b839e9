-- What was rolled, as the numbers of a line.
use Rattle.af_offline.specs.declared.looping.Rolled.{Rolled}
use Rattle.af_offline.specs.Looped.{Rolls}

abbrev pub rolls_in : Rolled → Rolls
rolls_in r = record { cycles = r.cycles; filled = r.filled; is_shut = r.is_shut }
