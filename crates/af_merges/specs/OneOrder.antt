-- One order of three lists, step by step.
use Rattle.std.specs.Prelude.{◌≡◌, List, Some}
use Rattle.af_merges.specs.declared.search.Stage.{Stage}
use Rattle.af_merges.specs.Walks.{walk}
use Rattle.af_merges.specs.Stages.{Lists, Who, move}

-- n is one legal event after m
abbrev pub IsNextOf : Lists → Stage → Stage → Type 0
IsNextOf l m n = (w : Who) × (move l w m ≡ Some n)

-- legal events lead from m to n
abbrev pub LeadsTo : Lists → Stage → Stage → Type 0
LeadsTo l m n = (ws : List Who) × (walk (move l) ws m ≡ Some n)
