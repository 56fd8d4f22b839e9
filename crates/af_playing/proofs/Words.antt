-- Words that lemmas alone speak of.
use Rattle.std.specs.Prelude.{Bool, true, false}
use Rattle.af_playing.specs.declared.answering.PlayFault.{PlayFault}
use Rattle.af_playing.specs.declared.answering.PlayFault.TheVariants as fault

-- whether a play was cut off, with its log full
abbrev pub is_limit : PlayFault → Bool
is_limit (fault.CycleLimit journal ends) = true
is_limit _ = false
