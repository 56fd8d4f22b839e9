-- A client's turn: which calls its proxies may make and answer, by what it wants and by the lists of its passes.
use Rattle.std.specs.Prelude.{◌≡◌, ◌⊎◌, ℕ, ◌+◌, ◌*◌, ◌-◌, ◌/◌, ◌==◌, ◌≤◌, ◌&&◌, Bool, true, false, if◌then◌else◌, fold, MatchBool, List, [], ◌∷◌, ◌++◌, take, drop, length, Option, Some, None}
use Rattle.af_base.specs.declared.event.ClientCall.{ClientCall}
use Rattle.af_base.specs.declared.event.ClientCall.TheVariants as call
use Rattle.af_base.specs.declared.event.ClientEvent.{ClientEvent}
use Rattle.af_model.specs.declared.shape.Shape.{Shape}
use Rattle.af_model.specs.Point.{wrapped}
use Rattle.af_model.specs.History.{flushes_of}
use Rattle.af_model.specs.ClientCalls.{ClientAnswers, client_events_of}
use Rattle.af_runs.specs.declared.want.ClientCommand.{ClientCommand}
use Rattle.af_runs.specs.declared.want.ClientCommand.TheVariants as command
use Rattle.af_runs.specs.declared.want.Want.{Want}
use Rattle.af_runs.specs.declared.want.Want.TheVariants as want
use Rattle.af_runs.specs.Clients.{Client, command_code, begun, next_want, rest_of, after_answer, at_next_turn}

-- a client's side of a block: the block's sizes, the events of its pass, and the words of the frames that it released
pub record Side : Type 0 where
  pub shape : Shape
  pub events : List ClientEvent
  pub released : List ℕ

-- a side on which nothing was done
abbrev pub new_side : Shape → Side
new_side shape = record { shape = shape; events = []; released = [] }

-- a client, with the words of its file's frames, and its sides of its two blocks
pub record Track : Type 0 where
  pub file : List ℕ
  pub client : Client
  pub stream : Side
  pub commands : Side

-- ## What the proxies answer

-- the call is one of the command block's proxy
abbrev pub is_of_commands : ClientCall → Bool
is_of_commands (call.Sent front code argument) = true
is_of_commands (call.SendFull front) = true
is_of_commands (call.SendDead flags) = true
is_of_commands (call.SendCorrupt front rear) = true
is_of_commands (call.Status word) = true
is_of_commands (call.Poke in_command word value) = in_command
is_of_commands _ = false

-- the side of the block that a call is made on
abbrev pub side_of : Track → ClientCall → Side
side_of t answer = if is_of_commands answer then t.commands else t.stream

-- the frames that a write asks for
abbrev pub asked_by : Want → ℕ
asked_by (want.Write count) = count
asked_by _ = 0

-- a command's argument: a START carries the flushes so far, and a STOP the frames released so far
abbrev pub argument_of : Track → ClientCommand → ℕ
argument_of t command.Start = flushes_of t.stream.events
argument_of t command.Stop = wrapped (length t.stream.released)
argument_of t _ = 0

-- the call is a send of this code and argument, however it is answered
abbrev pub is_send : ℕ → ℕ → ClientCall → Bool
is_send code argument (call.Sent front sent_code sent_argument) = (sent_code == code) && (sent_argument == argument)
is_send code argument (call.SendFull front) = true
is_send code argument (call.SendDead flags) = true
is_send code argument (call.SendCorrupt front rear) = true
is_send code argument _ = false

abbrev pub is_write : ClientCall → Bool
is_write (call.Put front count) = true
is_write (call.Full front) = true
is_write (call.Dead flags) = true
is_write (call.Corrupt front rear) = true
is_write _ = false

abbrev pub is_status : ClientCall → Bool
is_status (call.Status word) = true
is_status _ = false

abbrev pub is_flush : ClientCall → Bool
is_flush (call.Flush count) = true
is_flush _ = false

abbrev pub is_clear : ClientCall → Bool
is_clear (call.Cleared flags) = true
is_clear _ = false

-- the call is the one that is wanted
abbrev pub IsWanted : Track → Want → ClientCall → Type 0
IsWanted t (want.Send sending) answer = is_send (command_code sending) (argument_of t sending) answer ≡ true
IsWanted t want.Settled answer = is_status answer ≡ true
IsWanted t want.Drained answer = is_status answer ≡ true
IsWanted t want.Flush answer = is_flush answer ≡ true
IsWanted t (want.Gain left right) answer = answer ≡ call.Gain (left + 65536 * right)
IsWanted t (want.Write count) answer = is_write answer ≡ true
IsWanted t want.Clear answer = is_clear answer ≡ true
IsWanted t (want.Poke in_command word value) answer = answer ≡ call.Poke in_command word value
IsWanted t want.Rest answer = ⊥
IsWanted t want.Leave answer = is_send (command_code command.Remove) 0 answer ≡ true

-- a call answers by the words that it saw and the list of its pass
abbrev pub AnswersOn : Side → ℕ → ClientCall → Type 0
AnswersOn b asked answer = ClientAnswers b.shape.frames b.shape.cells b.shape.base b.events asked answer

-- the call is wanted, and answers by the words that it saw
abbrev pub IsMade : Track → Want → ClientCall → Type 0
IsMade t wanted answer = IsWanted t wanted answer × AnswersOn (side_of t answer) (asked_by wanted) answer

-- ## What a call leaves

-- the words that a call releases on its block: a Put the next frames of the file, a Sent the command and its argument
abbrev pub released_by : Track → ClientCall → List ℕ
released_by t (call.Put front count) = take count (drop (length t.stream.released) t.file)
released_by t (call.Sent front code argument) = code ∷ argument ∷ []
released_by t _ = []

-- a side after a call, with the words that it released
abbrev pub called : ClientCall → List ℕ → Side → Side
called answer words b = record b { events = b.events ++ client_events_of b.shape.frames b.shape.base b.events answer; released = b.released ++ words }

-- the two sides after a call
abbrev pub with_call : Track → ClientCall → Track
with_call t answer = if is_of_commands answer then record t { commands = called answer (released_by t answer) t.commands } else record t { stream = called answer (released_by t answer) t.stream }

-- how many commands were sent
abbrev pub commands_sent : Track → ℕ
commands_sent t = length t.commands.released / 2

-- what is wanted next, once the op is begun
abbrev pub wanted_of : Track → Option Want
wanted_of t = next_want (begun t.client)

-- the client after a call: unchanged if it wanted none
abbrev pub answered : Track → ClientCall → Client
answered t answer = elim (wanted_of t) as (λ o. Client) [ None ↦ t.client | Some wanted ↦ after_answer (commands_sent (with_call t answer)) wanted (rest_of (begun t.client).due) (begun t.client) answer ]

-- the track after a call, legal or not
abbrev pub after_call : Track → ClientCall → Track
after_call t answer = record (with_call t answer) { client = answered t answer }

-- the most calls of a turn
abbrev pub most_calls : ℕ
most_calls = 64

-- the track after a turn of these calls
abbrev pub after_calls : Track → List ClientCall → Track
after_calls t calls = let last = fold after_call t calls in record last { client = at_next_turn (length calls == most_calls) last.client }

-- ## The turn

-- The calls are those that the client wants, one after the other, so long as it wants one and so many are left in the turn
abbrev pub AreCalls : ℕ → Track → List ClientCall → Type 0
AreCalls left t [] = (left ≡ 0) ⊎ (wanted_of t ≡ None)
AreCalls left t (answer ∷ calls) = (1 ≤ left) × (wanted : Want) × (wanted_of t ≡ Some wanted) × IsMade t wanted answer × AreCalls (left - 1) (after_call t answer) calls

-- a client's turn is legal: a client that has ended makes no calls
abbrev pub LegalClientTurn : Track → List ClientCall → Type 0
LegalClientTurn t calls = MatchBool t.client.ended (calls ≡ []) (AreCalls most_calls t calls)
