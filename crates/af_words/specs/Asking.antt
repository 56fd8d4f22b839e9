-- A request of the program, as the definitions have it, and what words may ask for.
use Rattle.std.specs.Prelude.{◌≡◌, ◌<◌, ◌≤◌, ◌^◌, false}
use Rattle.af_words.specs.declared.request.Request.{Request}
use Rattle.af_words.specs.declared.request.Request.TheVariants as words
use Rattle.af_words.specs.declared.request.Sizes.{Sizes}
use Rattle.af_words.specs.declared.request.Turns.{Turns}
use Rattle.af_words.specs.Requests as asked

-- the request with its words as bytes
abbrev pub request_view : Request → asked.Request
request_view (words.Render script target) = asked.Render script.now target.now
request_view (words.Record input target sizes) = asked.Record input.now target.now sizes
request_view (words.Loop input target turns) = asked.Loop input.now target.now turns
request_view (words.Generate number script target) = asked.Generate number script.now target.now
request_view (words.Play script target journal) = asked.Play script.now target.now journal.now
request_view (words.Verify script sound journal) = asked.Verify script.now sound.now journal.now
request_view (words.Trace script target journal log room) = asked.Trace script.now target.now journal.now log.now room

-- the sizes that words may ask for
pub record AreSizes (sizes : Sizes) : Type 0 where
  pub room : (1 ≤ sizes.room) × (sizes.room ≤ 8192)
  pub supply : (1 ≤ sizes.supply) × (sizes.supply ≤ 1024)
  pub read : (1 ≤ sizes.read) × (sizes.read ≤ 1024)

-- the places and calls that words may ask for
pub record AreLoopTurns (turns : Turns) : Type 0 where
  pub places : (1 ≤ turns.places) × (turns.places ≤ 1024)
  pub calls : (1 ≤ turns.calls) × (turns.calls ≤ 2048)

-- the sizes of a recording, the turns of a loop, the room of a log, and the number and the name of a session are such as words may ask for
abbrev pub IsSound : Request → Type 0
IsSound (words.Render script target) = Unit {0}
IsSound (words.Record input target sizes) = AreSizes sizes
IsSound (words.Loop input target turns) = AreLoopTurns turns
IsSound (words.Generate number script target) = (number < 2 ^ 31) × (asked.is_drawn script.now ≡ false)
IsSound (words.Play script target journal) = Unit {0}
IsSound (words.Verify script sound journal) = Unit {0}
IsSound (words.Trace script target journal log room) = (1 ≤ room) × (room ≤ 1024)
