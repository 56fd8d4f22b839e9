-- What a judge keeps of a client's side of a block, and which answers are right by that.
use Rattle.std.specs.Prelude.{◌≡◌, ◌≢◌, ℕ, ◌+◌, ◌*◌, ◌/◌, ◌^◌, ◌-◌, ◌<◌, ◌≤◌, min, true, false, if◌then◌else◌, is_some, fold, List, length, Option, Some, None}
use Rattle.af_base.specs.declared.event.ClientCall.{ClientCall}
use Rattle.af_base.specs.declared.event.ClientCall.TheVariants as call
use Rattle.af_model.specs.declared.shape.Shape.{Shape}
use Rattle.af_model.specs.ClientCalls.{ClientKept, client_keeps, client_kept, client_call_events, IsOpenAt, IsOutside, IsInvalid, put_count}
use Rattle.af_model.specs.History.{flushes_of}
use Rattle.af_model.specs.Point.{wrapped}
use Rattle.af_runs.specs.declared.want.ClientCommand.{ClientCommand}
use Rattle.af_runs.specs.declared.want.ClientCommand.TheVariants as command
use Rattle.af_runs.specs.declared.want.Want.{Want}
use Rattle.af_runs.specs.declared.want.Want.TheVariants as want
use Rattle.af_script.specs.declared.op.Op.{Op}
use Rattle.af_runs.specs.Clients.{Client, command_code, after_answer, at_next_turn, begun, next_want, rest_of}
use Rattle.af_runs.specs.Kept.{ClientKept as ClientAt, client_of}
use Rattle.af_runs.specs.ClientTurns.{Side, Track, asked_by, is_clear, is_flush, is_of_commands, is_send, is_status, is_write}

-- a side of a block: the block's sizes, what the client's list tells of it, and how many flushes it asked for and words it released
pub record SideKept : Type 0 where
  pub shape : Shape
  pub kept : ClientKept
  pub flushes : ℕ
  pub words : ℕ

-- what is kept of a side
abbrev pub side_kept : Side → SideKept
side_kept b = record { shape = b.shape; kept = client_kept b.shape.frames b.shape.base b.events; flushes = flushes_of b.events; words = length b.released }

-- a call answers by the words that it saw and by what is kept
abbrev pub AnswersBy : SideKept → ℕ → ClientCall → Type 0
AnswersBy k asked (call.Put front count) = IsOpenAt k.kept front (λ filled. filled < k.shape.frames) × (1 ≤ asked) × (count ≡ put_count k.shape.frames k.shape.cells k.kept front asked)
AnswersBy k asked (call.Full front) = IsOpenAt k.kept front (λ filled. filled ≡ k.shape.frames)
AnswersBy k asked (call.Dead flags) = (k.kept.shut ≡ None) × IsInvalid flags
AnswersBy k asked (call.Corrupt front rear) = IsOutside k.shape.frames k.kept front rear
AnswersBy k asked (call.Cleared flags) = Unit {0}
AnswersBy k asked (call.Flush count) = count ≡ k.flushes + 1
AnswersBy k asked (call.Gain word) = Unit {0}
AnswersBy k asked (call.Sent front code argument) = IsOpenAt k.kept front (λ filled. filled + 2 ≤ k.shape.frames)
AnswersBy k asked (call.SendFull front) = IsOpenAt k.kept front (λ filled. (filled ≤ k.shape.frames) × (k.shape.frames < filled + 2))
AnswersBy k asked (call.SendDead flags) = (k.kept.shut ≡ None) × IsInvalid flags
AnswersBy k asked (call.SendCorrupt front rear) = IsOutside k.shape.frames k.kept front rear
AnswersBy k asked (call.Status word) = Unit {0}
AnswersBy k asked (call.Poke command word value) = word < 7 + k.shape.cells

-- the flushes that a call asks for
abbrev pub flushes_asked : ClientCall → ℕ
flushes_asked (call.Flush count) = 1
flushes_asked _ = 0

-- what is kept after a call that released so many words
abbrev pub kept_called : ClientCall → ℕ → SideKept → SideKept
kept_called answer words k = record k {
  kept = fold (client_keeps k.shape.frames) k.kept (client_call_events (is_some k.kept.shut) answer);
  flushes = k.flushes + flushes_asked answer;
  words = k.words + words;
}

-- what so many calls may have counted at most
pub record IsFew (calls : ℕ) (k : SideKept) : Type 0 where
  pub position : k.kept.position < 2 ^ 32 * (calls + 1)
  pub words : k.words ≤ 2 ^ 32 * calls
  pub flushes : k.flushes ≤ calls

-- so few words and flushes that one call more can be counted
pub record AreFew (k : SideKept) : Type 0 where
  pub position : k.kept.position < 2 ^ 62
  pub words : k.words < 2 ^ 62
  pub flushes : k.flushes < 2 ^ 31

-- ## The call that is wanted

-- what is kept of the two sides of a client
pub record SidesKept : Type 0 where
  pub stream : SideKept
  pub commands : SideKept

-- what is kept of the two sides of a track
abbrev pub sides_kept : Track → SidesKept
sides_kept t = record { stream = side_kept t.stream; commands = side_kept t.commands }

-- a command's argument by what is kept of the stream block
abbrev pub argument_by : SideKept → ClientCommand → ℕ
argument_by k command.Start = k.flushes
argument_by k command.Stop = wrapped k.words
argument_by k _ = 0

-- the call is the one that is wanted
abbrev pub WantedBy : SideKept → Want → ClientCall → Type 0
WantedBy k (want.Send sending) answer = is_send (command_code sending) (argument_by k sending) answer ≡ true
WantedBy k want.Settled answer = is_status answer ≡ true
WantedBy k want.Drained answer = is_status answer ≡ true
WantedBy k want.Flush answer = is_flush answer ≡ true
WantedBy k (want.Gain left right) answer = answer ≡ call.Gain (left + 65536 * right)
WantedBy k (want.Write count) answer = is_write answer ≡ true
WantedBy k want.Clear answer = is_clear answer ≡ true
WantedBy k (want.Poke in_command word value) answer = answer ≡ call.Poke in_command word value
WantedBy k want.Rest answer = ⊥
WantedBy k want.Leave answer = is_send (command_code command.Remove) 0 answer ≡ true

-- the side that a call is made on
abbrev pub kept_for : SidesKept → ClientCall → SideKept
kept_for k answer = if is_of_commands answer then k.commands else k.stream

-- the call is wanted, and answers right
pub record MadeBy (k : SidesKept) (wanted : Want) (answer : ClientCall) : Type 0 where
  pub is_wanted : WantedBy k.stream wanted answer
  pub answers : AnswersBy (kept_for k answer) (asked_by wanted) answer

-- ## What a call leaves

-- how many words a call releases: a Put those that the file still has, a Sent a command and its argument
abbrev pub words_of : ℕ → SidesKept → ClientCall → ℕ
words_of file k (call.Put front count) = min count (file - k.stream.words)
words_of file k (call.Sent front code argument) = 2
words_of file k _ = 0

-- what is kept of both sides after a call, if the file has so many frames
abbrev pub sides_called : ℕ → ClientCall → SidesKept → SidesKept
sides_called file answer k =
    if is_of_commands answer then record k { commands = kept_called answer (words_of file k answer) k.commands }
    else record k { stream = kept_called answer (words_of file k answer) k.stream }

-- ## A client

-- a client with what is kept of its two sides, and how many calls it made at most
pub record ClientJudged : Type 0 where
  pub client : ClientAt
  pub sides : SidesKept
  pub calls : ℕ

-- both blocks have cells, and so many calls were counted at most
pub record AreCounted (calls : ℕ) (k : SidesKept) : Type 0 where
  pub stream_cells : k.stream.shape.cells ≢ 0
  pub command_cells : k.commands.shape.cells ≢ 0
  pub stream_few : IsFew calls k.stream
  pub command_few : IsFew calls k.commands

-- what is kept of a track whose client has these ops
pub record IsKeptOf (ops : List Op) (j : ClientJudged) (t : Track) : Type 0 where
  pub client : client_of ops j.client ≡ t.client
  pub sides : j.sides ≡ sides_kept t

-- What a client is found to want, once its next op is begun: it is d then. If it wants nothing its turn ends as that of the client before
abbrev pub FindsNext : Client → Option Want → Client → Type 0
FindsNext c None d = (next_want (begun c) ≡ None) × (at_next_turn false d ≡ at_next_turn false c)
FindsNext c (Some wanted) d = (next_want (begun c) ≡ Some wanted) × (d ≡ begun c)

-- the client wanted the call, which answers right, and k is what is kept after it
pub record CallMade (ops : List Op) (file : ℕ) (answer : ClientCall) (j k : ClientJudged) : Type 0 where
  pub wanted : Want
  pub is : next_want (begun (client_of ops j.client)) ≡ Some wanted
  pub made : MadeBy j.sides wanted answer
  pub sides : k.sides ≡ sides_called file answer j.sides
  pub client : client_of ops k.client ≡ after_answer (k.sides.commands.words / 2) wanted (rest_of (begun (client_of ops j.client)).due) (begun (client_of ops j.client)) answer

-- the client didn't want the call, or it doesn't answer right
abbrev pub IsNoCall : List Op → ClientCall → ClientJudged → Type 0
IsNoCall ops answer j = (wanted : Want) → next_want (begun (client_of ops j.client)) ≡ Some wanted → MadeBy j.sides wanted answer → ⊥
