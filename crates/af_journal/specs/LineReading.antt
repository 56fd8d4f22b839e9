-- The line that some bytes spell, read from left to right: a mark, and then numbers with one space before each.
use Rattle.std.specs.Prelude.{ℕ, ◌+◌, ◌-◌, ◌*◌, ◌^◌, List, [], ◌∷◌, Option, Some, None, Bool, true, nat_le, ◌&&◌, ◌==◌, if◌then◌else◌}
use Rattle.std.specs.Int.{from_be_bytes, w32}
use Rattle.af_base.specs.declared.event.ClientCall.{ClientCall}
use Rattle.af_base.specs.declared.event.ClientCall.TheVariants as call
use Rattle.af_base.specs.declared.seen.Seen.{Seen}
use Rattle.af_base.specs.declared.seen.Seen.TheVariants as seen
use Rattle.af_base.specs.declared.state.Push.{Push}
use Rattle.af_base.specs.declared.state.Push.TheVariants as pushing
use Rattle.af_base.specs.Log.{slots}
use Rattle.af_journal.specs.declared.line.Line.{Line}
use Rattle.af_journal.specs.declared.line.Line.TheVariants as line
use Rattle.af_journal.specs.Lines.{Written, numbers, words}
use Rattle.af_journal.specs.Digits.{number_at}

infixl 10 ◌>>=◌
abbrev pub ◌>>=◌ : {A B : Type 0} → Option A → (A → Option B) → Option B
(Some x) >>= f = f x
None >>= f = None

-- ## Numbers

-- what stands before the first space, and what from it on
abbrev pub word_at : List ℕ → List ℕ × List ℕ
word_at [] = ([], [])
word_at (c ∷ cs) = if c == 32 then ([], c ∷ cs) else (c ∷ (word_at cs).0, (word_at cs).1)

-- a word ends here: at a space, or at the end
abbrev pub ends_word : List ℕ → Bool
ends_word [] = true
ends_word (c ∷ cs) = c == 32

-- a number, and what follows it
abbrev pub beside : List ℕ → Option ℕ → Option (ℕ × List ℕ)
beside after number = number >>= λ n. Some (n, after)

-- a number up to a limit
abbrev pub up_to : ℕ → List ℕ → Option ℕ
up_to limit word = number_at word >>= λ n. if nat_le n limit then Some n else None

-- a space and a number up to a limit, and what follows
unfoldable pub next_number : ℕ → List ℕ → Option (ℕ × List ℕ)
next_number limit [] = None
next_number limit (c ∷ cs) = if c == 32 then (up_to limit (word_at cs).0 >>= λ n. Some (n, (word_at cs).1)) else None

-- a number of 32 bits
abbrev pub next_word : List ℕ → Option (ℕ × List ℕ)
next_word bytes = next_number (2 ^ 32 - 1) bytes

-- nothing follows
abbrev pub whole : {A : Type 0} → List ℕ → A → Option A
whole [] x = Some x
whole (c ∷ cs) x = None

-- nothing but one number of 32 bits, but two, but three
unfoldable pub one_at : List ℕ → Option ℕ
one_at bytes = do
  a ← next_word bytes
  whole a.1 a.0

unfoldable pub two_at : List ℕ → Option (ℕ × ℕ)
two_at bytes = do
  a ← next_word bytes
  b ← one_at a.1
  Some (a.0, b)

unfoldable pub three_at : List ℕ → Option (ℕ × ℕ × ℕ)
three_at bytes = do
  a ← next_word bytes
  b ← two_at a.1
  Some (a.0, b.0, b.1)

-- ## What a look showed

-- a look that showed frames, one at least
unfoldable pub frames_at : List ℕ → Option Seen
frames_at bytes = do
  count ← one_at bytes
  if count == 0 then None else Some (seen.Frames count)

-- what a look showed, by its mark: "f", "e", "l" or "x"
unfoldable pub shown_at : ℕ → List ℕ → Option Seen
shown_at mark rest =
    if mark == 102 then frames_at rest
    else (if mark == 101 then whole rest seen.Empty
    else (if mark == 108 then (one_at rest >>= λ dropped. Some (seen.Flushed dropped))
    else (if mark == 120 then (two_at rest >>= λ words. Some (seen.Shut words.0 words.1)) else None)))

-- what a look showed, after a space
unfoldable pub seen_at : List ℕ → Option Seen
seen_at [] = None
seen_at (c ∷ []) = None
seen_at (c ∷ mark ∷ rest) = if c == 32 then shown_at mark rest else None

-- ## The calls of a client

unfoldable pub put_at : List ℕ → Option ClientCall
put_at rest = do
  n ← two_at rest
  Some (call.Put n.0 n.1)

unfoldable pub corrupt_at : List ℕ → Option ClientCall
corrupt_at rest = do
  n ← two_at rest
  Some (call.Corrupt n.0 n.1)

unfoldable pub send_corrupt_at : List ℕ → Option ClientCall
send_corrupt_at rest = do
  n ← two_at rest
  Some (call.SendCorrupt n.0 n.1)

unfoldable pub sent_at : List ℕ → Option ClientCall
sent_at rest = do
  n ← three_at rest
  Some (call.Sent n.0 n.1 n.2)

unfoldable pub poke_at : List ℕ → Option ClientCall
poke_at rest = do
  command ← next_number 1 rest
  n ← two_at command.1
  Some (call.Poke (command.0 == 1) n.0 n.1)

-- a send, by what follows its "s": "u", "d", "x" or a space
unfoldable pub send_at : List ℕ → Option ClientCall
send_at [] = None
send_at (mark ∷ rest) =
    if mark == 117 then (one_at rest >>= λ front. Some (call.SendFull front))
    else (if mark == 100 then (one_at rest >>= λ flags. Some (call.SendDead flags))
    else (if mark == 120 then send_corrupt_at rest else sent_at (mark ∷ rest)))

-- a call of a client, by its mark: "p", "u", "d", "x", "k", "l", "g", "s", "t" or "o"
unfoldable pub call_at : ℕ → List ℕ → Option ClientCall
call_at mark rest =
    if mark == 112 then put_at rest
    else (if mark == 117 then (one_at rest >>= λ front. Some (call.Full front))
    else (if mark == 100 then (one_at rest >>= λ flags. Some (call.Dead flags))
    else (if mark == 120 then corrupt_at rest
    else (if mark == 107 then (one_at rest >>= λ flags. Some (call.Cleared flags))
    else (if mark == 108 then (one_at rest >>= λ count. Some (call.Flush count))
    else (if mark == 103 then (one_at rest >>= λ word. Some (call.Gain word))
    else (if mark == 115 then send_at rest
    else (if mark == 116 then (one_at rest >>= λ word. Some (call.Status word))
    else (if mark == 111 then poke_at rest else None)))))))))

-- ## The lines of the mixers

unfoldable pub turn_at : List ℕ → Option Line
turn_at rest = do
  room ← next_word rest
  ack ← next_number 1 room.1
  cycle ← next_number (2 ^ 64 - 1) ack.1
  whole cycle.1 (line.Turn room.0 (ack.0 == 1) cycle.0)

unfoldable pub look_at : List ℕ → Option Line
look_at rest = do
  track ← next_word rest
  flush ← next_word track.1
  rear ← next_word flush.1
  answer ← seen_at rear.1
  Some (line.Look track.0 flush.0 rear.0 answer)

unfoldable pub status_at : List ℕ → Option Line
status_at rest = do
  n ← two_at rest
  Some (line.Status n.0 n.1)

unfoldable pub pushed_at : List ℕ → Option Push
pushed_at rest = do
  number ← next_number (2 ^ 64 - 1) rest
  whole number.1 (pushing.Pushed number.0)

unfoldable pub busy_at : List ℕ → Option Push
busy_at rest = do
  n ← two_at rest
  Some (pushing.Busy n.0 n.1)

-- what a push answered, by the number of its kind
unfoldable pub push_at : List ℕ → Option Push
push_at rest = do
  kind ← next_number 2 rest
  if kind.0 == 0 then whole kind.1 pushing.Clean else (if kind.0 == 1 then pushed_at kind.1 else busy_at kind.1)

unfoldable pub take_at : List ℕ → Option Line
take_at rest = do
  track ← next_word rest
  gains ← next_word track.1
  flush ← next_word gains.1
  rear ← next_word flush.1
  answer ← seen_at rear.1
  Some (line.Take track.0 gains.0 flush.0 rear.0 answer)

unfoldable pub entry_at : List ℕ → Option Line
entry_at rest = do
  state ← next_number (2 ^ 64 - 1) rest
  kind ← next_number 3 state.1
  whole kind.1 (line.Entry state.0 kind.0)

-- what a slot of a number, a scale and a mark read and saw
unfoldable pub slot_from : ℕ → ℕ → Bool → List ℕ → Option Line
slot_from slot scale mono rest = do
  gains ← next_word rest
  flush ← next_word gains.1
  rear ← next_word flush.1
  answer ← seen_at rear.1
  Some (line.Slot slot scale mono gains.0 flush.0 rear.0 answer)

unfoldable pub slot_at : List ℕ → Option Line
slot_at rest = do
  slot ← next_number (slots - 1) rest
  scale ← next_number (2 ^ 16 - 1) slot.1
  mono ← next_number 1 scale.1
  slot_from slot.0 scale.0 (mono.0 == 1) mono.1

-- ## A line

-- a line of the normal mixer's turn, by its mark: "N", "E", "q", "b", "a", "P" or "m"
unfoldable pub turn_line_at : ℕ → List ℕ → Option Line
turn_line_at mark rest =
    if mark == 78 then turn_at rest
    else (if mark == 69 then whole rest line.Ended
    else (if mark == 113 then look_at rest
    else (if mark == 98 then (one_at rest >>= λ track. Some (line.Disabled track))
    else (if mark == 97 then status_at rest
    else (if mark == 80 then (push_at rest >>= λ push. Some (line.Pushed push))
    else (if mark == 109 then take_at rest else (call_at mark rest >>= λ answer. Some (line.Call answer))))))))

-- a line of a round, its clients and its entries, by its mark: "R", "C", "F", "y" or "z"; else one of the turn, or a call
unfoldable pub marked_at : ℕ → List ℕ → Option Line
marked_at mark rest =
    if mark == 82 then whole rest line.Round
    else (if mark == 67 then (one_at rest >>= λ track. Some (line.Client track))
    else (if mark == 70 then whole rest line.Fast
    else (if mark == 121 then entry_at rest
    else (if mark == 122 then slot_at rest else turn_line_at mark rest))))

-- the line that the bytes spell
abbrev pub line_at : List ℕ → Option Line
line_at [] = None
line_at (mark ∷ rest) = marked_at mark rest

-- ## Packed words

-- a lower-case hexadecimal digit
abbrev pub hex_at : ℕ → Option ℕ
hex_at c = if nat_le 48 c && nat_le c 57 then Some (c - 48) else (if nat_le 97 c && nat_le c 102 then Some (c - 87) else None)

-- the byte of two digits
unfoldable pub byte_at : ℕ → ℕ → Option ℕ
byte_at high low = do
  h ← hex_at high
  l ← hex_at low
  Some (h * 16 + l)

-- the word of eight digits
unfoldable pub packed_at : (a b c d e f g h : ℕ) → Option ℕ
packed_at a b c d e f g h = do
  first ← byte_at a b
  second ← byte_at c d
  third ← byte_at e f
  fourth ← byte_at g h
  Some (from_be_bytes w32 (first ∷ second ∷ third ∷ fourth ∷ []))

-- the words that digits spell, eight each
abbrev pub words_at : List ℕ → Option (List ℕ)
words_at [] = Some []
words_at (a ∷ b ∷ c ∷ d ∷ e ∷ f ∷ g ∷ h ∷ rest) = packed_at a b c d e f g h >>= λ w. words_at rest >>= λ ws. Some (w ∷ ws)
words_at _ = None

-- one word at least
abbrev pub some_words : List ℕ → Option (List ℕ)
some_words [] = None
some_words (w ∷ ws) = Some (w ∷ ws)

-- a space and the digits of words
unfoldable pub words_after_mark : List ℕ → Option (List ℕ)
words_after_mark [] = None
words_after_mark (c ∷ digits) = if c == 32 then (words_at digits >>= some_words) else None

-- the line that the bytes spell, of numbers or of words, which have the mark "h"
abbrev pub written_at : List ℕ → Option Written
written_at [] = None
written_at (mark ∷ rest) = if mark == 104 then (words_after_mark rest >>= λ ws. Some (words ws)) else (marked_at mark rest >>= λ l. Some (numbers l))
