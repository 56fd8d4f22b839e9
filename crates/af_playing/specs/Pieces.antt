-- What is played: a script, the frames of its tracks' files, and the name of the output.
use Rattle.af_playing.specs.declared.piece.Piece.{Piece}
use Rattle.af_session.specs.Rounds.{Given}

-- what the clients of a piece are given: the tracks of its script, and the frames of their files
abbrev pub given_by : Piece → Given
given_by piece = record { tracks = piece.script.now.tracks; files = piece.files.now }
