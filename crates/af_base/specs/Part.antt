-- A take of the program, as a take of the definition.
use Rattle.std.specs.Prelude.{[], false}
use Rattle.af_base.specs.Mix.{Take}
use Rattle.af_base.specs.declared.plain.Part.{Part}

abbrev pub take_of : Part → Take
take_of part = record { frames = part.frames.now; mono = part.mono; gains = part.gains; scale = part.scale }

-- what stands past the end of a list of parts
abbrev pub no_part : Part
no_part = record { frames = record { ref_ptr = (0, 0); now = [] }; mono = false; gains = 0; scale = 0 }
