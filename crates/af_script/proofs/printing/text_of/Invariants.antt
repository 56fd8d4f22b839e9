use Rattle.std.proofs.Common.{◌≡◌, ◌++◌, take, string_bytes}
use Rattle.af_script.proofs.Common.{flat_map}
use Rattle.af_script.specs.Printing.{top_text, track_text}
use Rattle.af_script.proofs.printing.text_of.Given as goal

abbrev pub invariant-loop-track : goal.invariant-loop-track
invariant-loop-track l = string_bytes l.text ≡ string_bytes l.initial.text ++ flat_map track_text (take l.track-index l.track-items)
