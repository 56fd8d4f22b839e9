-- What a call of a client's proxies comes to, and what it needs.
use Rattle.std.specs.Prelude.{◌≡◌, ℕ, ◌+◌, ◌<◌, ◌≤◌, Bool, true, false, map, List, [], ◌∷◌}
use Rattle.af_base.specs.declared.event.ClientCall.{ClientCall}
use Rattle.af_base.specs.declared.event.ClientCall.TheVariants as call
use Rattle.af_base.specs.declared.frame.Frame.{Frame}
use Rattle.af_base.specs.Sample.{packed_word}
use Rattle.af_cblk.specs.Shape.{most_flushes}
use Rattle.af_cblk.specs.Sides.{Made}
use Rattle.af_client.specs.Order.{ClientState, IsClientOf}
use Rattle.af_runs.specs.declared.want.Want.{Want}
use Rattle.af_runs.specs.declared.want.Want.TheVariants as want
use Rattle.af_runs.specs.Clients.{Client}
use Rattle.af_runs.specs.ClientTurns.{AnswersOn, Track, called, is_of_commands, with_call}
use Rattle.af_party.specs.Parties.{PartyState, side_of_proxy}

-- how many frames of the file a call wrote, how many words it released on its block, and how many flushes it asked for
abbrev pub written_by : ClientCall → ℕ
written_by (call.Put front count) = count
written_by _ = 0

abbrev pub grown_by : ClientCall → ℕ
grown_by (call.Put front count) = count
grown_by (call.Sent front code argument) = 2
grown_by _ = 0

abbrev pub flushed_by : ClientCall → ℕ
flushed_by (call.Flush count) = 1
flushed_by _ = 0

-- the words that a send released
abbrev pub words_sent : ClientCall → List ℕ
words_sent (call.Sent front code argument) = code ∷ argument ∷ []
words_sent _ = []

-- A call of a proxy, on the command block or else on the stream's: it answers by the words that it saw, and its list and the words released grow by what it records
pub record Asked (side : Bool) (asked : ℕ) (answer : ClientCall) (words : List ℕ) (c d : ClientState) : Type 0 where
  pub on : is_of_commands answer ≡ side
  pub answers : AnswersOn (side_of_proxy c) asked answer
  pub grows : side_of_proxy d ≡ called answer words (side_of_proxy c)
  pub flushes : d.flushes ≡ c.flushes + flushed_by answer
  pub released : d.released ≡ c.released + grown_by answer

-- the track of a party with another client
abbrev pub track_with : Client → List Frame → PartyState → Track
track_with c file p = record { file = map packed_word file; client = c; stream = side_of_proxy p.stream; commands = side_of_proxy p.command }

-- A party made this call, and nothing else: its sides grew by what the call spells
pub record Makes (file : List Frame) (answer : ClientCall) (p q : PartyState) : Type 0 where
  pub same : q ≡ (record p { stream = q.stream; command = q.command })
  pub sides : (c : Client) → track_with c file q ≡ with_call (track_with c file p) answer
  pub flushes : q.stream.flushes ≡ p.stream.flushes + flushed_by answer
  pub written : q.stream.released ≡ p.stream.released + written_by answer
  pub commands : q.command.released ≤ p.command.released + 2

-- the party's proxies are of these blocks, and in order
abbrev pub HasBlocks : (stream command : Made) → PartyState → Type 0
HasBlocks stream command p = IsClientOf stream p.stream × IsClientOf command p.command

-- what each send needs: the command block is one, and the words sent are few
abbrev pub CanSend : PartyState → Type 0
CanSend p = (p.command.pass.part.shape.frames ≡ 128) × (p.command.pass.part.shape.base ≡ 0) × (p.command.released < 4611686018427387904) × (p.stream.released < 4294967296)

-- what a want needs of a party and of a file of so many frames
abbrev pub CanMake : ℕ → PartyState → Want → Type 0
CanMake frames p (want.Write count) = (1 ≤ count) × (p.stream.released + count ≤ frames) × (frames ≤ 4194304)
CanMake frames p want.Flush = p.stream.flushes < most_flushes p.stream.pass.part.shape.wrap
CanMake frames p (want.Gain left right) = (left ≤ 65535) × (right ≤ 65535)
CanMake frames p (want.Poke false word value) = word < 7 + p.stream.pass.part.shape.cells
CanMake frames p (want.Poke true word value) = word < 7 + p.command.pass.part.shape.cells
CanMake frames p want.Rest = ⊥
CanMake frames p _ = Unit {0}
