-- The frames and the numbers of what a journal notes of a round.
use Rattle.std.specs.Prelude.{All, MatchOption}
use Rattle.af_base.specs.Sample.{IsFrame}
use Rattle.af_base.specs.Turn.{TakeSeen, Turn}
use Rattle.af_model.specs.Journals.{RoundNoted}
use Rattle.af_model.specs.Numbers.{FitTurns}

-- each frame that a turn took has two samples of 16 bits, as the program's frames do
abbrev pub HasFrames : Turn → Type 0
HasFrames e = All (λ (t : TakeSeen). All IsFrame t.frames) e.mixes

-- each frame that the turn of a round took, if it has one, has two samples of 16 bits
abbrev pub NotesFrames : RoundNoted → Type 0
NotesFrames r = MatchOption r.turn (Unit {0}) HasFrames

-- the numbers of the calls and of the turn of a round lie in the ranges of their fields
abbrev pub NotesNumbers : RoundNoted → Type 0
NotesNumbers r = FitTurns r.calls r.turn
