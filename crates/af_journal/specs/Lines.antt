-- The lines of a journal's text. A line is a mark and numbers, with one space between them.
use Rattle.std.specs.Prelude.{ℕ, ◌+◌, ◌/◌, ◌%◌, nat_lt, if◌then◌else◌, codes, decimal, List, [], ◌∷◌, ◌++◌, map, flat_map}
use Rattle.std.specs.Int.{to_be_bytes, w32}
use Rattle.std.specs.List.{join_with_byte}
use Rattle.af_base.specs.declared.event.ClientCall.{ClientCall}
use Rattle.af_base.specs.declared.event.ClientCall.TheVariants as call
use Rattle.af_base.specs.declared.seen.Seen.{Seen}
use Rattle.af_base.specs.declared.seen.Seen.TheVariants as seen
use Rattle.af_base.specs.declared.state.Push.{Push}
use Rattle.af_base.specs.declared.state.Push.TheVariants as pushing
use Rattle.af_journal.specs.declared.line.Line.{Line}
use Rattle.af_journal.specs.declared.line.Line.TheVariants as line
use Rattle.af_model.specs.Reports.{one_if}

-- ## Numbers

-- the lower-case hexadecimal digit of a number below 16
abbrev pub hex_digit : ℕ → ℕ
hex_digit n = if nat_lt n 10 then 48 + n else 87 + n

-- the two hexadecimal digits of a byte
abbrev pub hex_byte : ℕ → List ℕ
hex_byte byte = hex_digit (byte / 16) ∷ hex_digit (byte % 16) ∷ []

-- the eight hexadecimal digits of a word: those of its bytes, the most significant first
unfoldable pub hex_word : ℕ → List ℕ
hex_word word = flat_map hex_byte (to_be_bytes w32 word)

-- ## The shape of a line

-- numbers, with one space between them
abbrev pub spaced : List ℕ → List ℕ
spaced numbers = join_with_byte 32 (map decimal numbers)

-- a mark and numbers
abbrev pub marked : List ℕ → List ℕ → List ℕ
marked mark numbers = join_with_byte 32 (mark ∷ map decimal numbers)

-- what a look showed
abbrev pub seen_text : Seen → List ℕ
seen_text seen.Absent = []
seen_text (seen.Frames count) = marked (codes "f") (count ∷ [])
seen_text seen.Empty = marked (codes "e") []
seen_text (seen.Flushed dropped) = marked (codes "l") (dropped ∷ [])
seen_text (seen.Shut front rear) = marked (codes "x") (front ∷ rear ∷ [])

-- a mark, numbers and what a look showed
abbrev pub looked : List ℕ → List ℕ → Seen → List ℕ
looked mark numbers answer = marked mark numbers ++ 32 ∷ seen_text answer

-- ## Each kind of line

-- a call of a client, by what it answered
abbrev pub call_line : ClientCall → List ℕ
call_line (call.Put front count) = marked (codes "p") (front ∷ count ∷ [])
call_line (call.Full front) = marked (codes "u") (front ∷ [])
call_line (call.Dead flags) = marked (codes "d") (flags ∷ [])
call_line (call.Corrupt front rear) = marked (codes "x") (front ∷ rear ∷ [])
call_line (call.Cleared flags) = marked (codes "k") (flags ∷ [])
call_line (call.Flush count) = marked (codes "l") (count ∷ [])
call_line (call.Gain word) = marked (codes "g") (word ∷ [])
call_line (call.Sent front code argument) = marked (codes "s") (front ∷ code ∷ argument ∷ [])
call_line (call.SendFull front) = marked (codes "su") (front ∷ [])
call_line (call.SendDead flags) = marked (codes "sd") (flags ∷ [])
call_line (call.SendCorrupt front rear) = marked (codes "sx") (front ∷ rear ∷ [])
call_line (call.Status word) = marked (codes "t") (word ∷ [])
call_line (call.Poke command word value) = marked (codes "o") (one_if command ∷ word ∷ value ∷ [])

-- what the push answered
abbrev pub push_line : Push → List ℕ
push_line pushing.Clean = marked (codes "P 0") []
push_line (pushing.Pushed number) = marked (codes "P 1") (number ∷ [])
push_line (pushing.Busy word expected) = marked (codes "P 2") (word ∷ expected ∷ [])

-- ## A line

-- a line of numbers, or one of packed words
pub data Written : Type 0 where
  numbers : Line → Written
  words : List ℕ → Written

-- The bytes of a line, without its LF. R: a round begins. C: the calls of a client follow. N: the normal mixer's turn; E: the turn that answered that it has ended. q: a look at a track's command block. b: DISABLED was set. a: a status was stored. m: a look of the normal mixer at a stream block. F: the fast mixer's entries follow. y: an entry. z: a slot of the mask
abbrev pub line_text : Line → List ℕ
line_text line.Round = marked (codes "R") []
line_text (line.Client track) = marked (codes "C") (track ∷ [])
line_text (line.Call answer) = call_line answer
line_text (line.Turn room ack cycle) = marked (codes "N") (room ∷ one_if ack ∷ cycle ∷ [])
line_text line.Ended = marked (codes "E") []
line_text (line.Look track flush rear answer) = looked (codes "q") (track ∷ flush ∷ rear ∷ []) answer
line_text (line.Disabled track) = marked (codes "b") (track ∷ [])
line_text (line.Status track word) = marked (codes "a") (track ∷ word ∷ [])
line_text (line.Pushed push) = push_line push
line_text (line.Take track gains flush rear answer) = looked (codes "m") (track ∷ gains ∷ flush ∷ rear ∷ []) answer
line_text line.Fast = marked (codes "F") []
line_text (line.Entry state kind) = marked (codes "y") (state ∷ kind ∷ [])
line_text (line.Slot slot scale mono gains flush rear answer) = looked (codes "z") (slot ∷ scale ∷ one_if mono ∷ gains ∷ flush ∷ rear ∷ []) answer

-- the bytes of a line of numbers, or of the frames that were taken as packed words, without its LF
abbrev pub line_bytes : Written → List ℕ
line_bytes (numbers l) = line_text l
line_bytes (words ws) = codes "h" ++ 32 ∷ flat_map hex_word ws

-- a line with its LF
abbrev pub with_lf : List ℕ → List ℕ
with_lf bytes = bytes ++ 10 ∷ []
