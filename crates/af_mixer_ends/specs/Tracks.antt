-- What contracts see of the end of a track, and what its calls come to.
use Rattle.std.specs.Prelude.{◌≡◌, ◌⊎◌, ℕ, ◌+◌, ◌^◌, ◌<◌, ◌≤◌, ◌/◌, ◌%◌, ◌==◌, true, Result, Ok, Err, List, [], ◌∷◌, length, slice_get, Some}
use Rattle.af_base.specs.declared.event.ClientCall.{ClientCall}
use Rattle.af_base.specs.declared.event.ClientCall.TheVariants as call
use Rattle.af_base.specs.declared.event.ClientEvent.TheVariants as client_event
use Rattle.af_model.specs.History.{is_lawful}
use Rattle.af_cblk.specs.Parts.{client_did}
use Rattle.af_cblk.specs.Shape.{most_flushes}
use Rattle.af_cblk.specs.Sides.{Made, client_made}
use Rattle.af_client.specs.Calls.{Does, Releases}
use Rattle.af_client.specs.Order.{ClientState, IsInOrder}
use Rattle.af_client.specs.declared.send.Sent.{Sent}
use Rattle.af_client.specs.declared.send.Sent.TheVariants as sent
use Rattle.af_ends.specs.Streams.{Flushes, IsStreamClient}
use Rattle.af_engine.specs.declared.ends.TrackEnds.{TrackEnds}
use Rattle.af_engine.specs.Shares.{SharedState}
use Rattle.af_mixer_ends.specs.declared.error.CommandError.{CommandError}
use Rattle.af_mixer_ends.specs.declared.error.CommandError.TheVariants.{Full, Dead, Limit}
use Rattle.af_mixer_ends.specs.declared.track_end.TrackStatus.{TrackStatus}

-- what all ends share, and the number of the track with its two proxies
pub record TrackState : Type 0 where
  pub shared : SharedState
  pub ends : TrackEnds

-- a command block has room for 64 commands of two words
abbrev pub HasCommandRoom : Made → Type 0
HasCommandRoom block = (block.shape.frames ≡ 128) × (block.shape.base ≡ 0)

-- The proxies are of the two blocks of their track, in order, and have not poked. The command block is one
pub record IsTrackEnd (shared : SharedState) (p : TrackEnds) : Type 0 where
  pub stream_is : slice_get shared.streams p.track ≡ Some (client_made p.stream.pass)
  pub command_is : slice_get shared.commands p.track ≡ Some (client_made p.command.pass)
  pub order : IsInOrder p.stream × IsInOrder p.command
  pub lawful : (is_lawful p.stream.pass.part.events ≡ true) × (is_lawful p.command.pass.part.events ≡ true)
  pub room : HasCommandRoom (client_made p.command.pass)

-- the stream's proxy alone did something, or the command block's alone
abbrev pub with_stream : TrackState → ClientState → TrackState
with_stream t c = record t { ends = record t.ends { stream = c } }

abbrev pub with_command : TrackState → ClientState → TrackState
with_command t c = record t { ends = record t.ends { command = c } }

-- ## Commands

-- a client in order on a command block, which has not poked
abbrev pub IsCommandClient : Made → ClientState → Type 0
IsCommandClient block c = IsStreamClient block c × HasCommandRoom block

-- A send was answered so: its events were added, these words were released, and the counts follow
pub record SentSo (c : ClientState) (answer : ClientCall) (words : List ℕ) (d : ClientState) : Type 0 where
  pub does : Does c 2 answer d
  pub releases : Releases c words d
  pub counts : (d.flushes ≡ c.flushes) × (d.released ≡ c.released + length words)

-- what an end tells of a send. A client that has not poked is never answered Corrupt
abbrev pub told_sent : Sent → Result (Unit {0}) CommandError
told_sent (sent.Sent front) = Ok tt
told_sent (sent.Full front) = Err Full
told_sent (sent.Dead flags) = Err Dead
told_sent (sent.Corrupt front rear) = Err Dead

-- A command, by its answer: it was sent with its argument, or by the front that was seen there was no room for it, or INVALID was seen, or 2 ^ 62 words were sent before
abbrev pub Sends : ClientState → ℕ → ℕ → Result (Unit {0}) CommandError → ClientState → Type 0
Sends c code argument (Ok done) d = (front : ℕ) × SentSo c (call.Sent front code argument) (code ∷ argument ∷ []) d
Sends c code argument (Err Full) d = (front : ℕ) × SentSo c (call.SendFull front) [] d
Sends c code argument (Err Dead) d = (flags : ℕ) × SentSo c (call.SendDead flags) [] d
Sends c code argument (Err Limit) d = (2 ^ 62 ≤ c.released) × (d ≡ c)

-- A STOP at the frames that the stream has released, as a word tells so many. Of 2 ^ 32 or more none is sent
abbrev pub Stops : ClientState → ClientState → Result (Unit {0}) CommandError → ClientState → Type 0
Stops stream c answer d = ((stream.released < 2 ^ 32) × Sends c 4 stream.released answer d) ⊎ ((2 ^ 32 ≤ stream.released) × (answer ≡ Err Limit) × (d ≡ c))

-- A flush was asked for and told, where the command was sent. Or as many were asked for as flush words can tell apart, and nothing is done
abbrev pub FlushesTrack : TrackState → Result (Unit {0}) CommandError → TrackState → Type 0
FlushesTrack t answer t' =
    ((count : ℕ)
    × Flushes (client_made t.ends.stream.pass) t.ends.stream (Ok count) t'.ends.stream
    × Sends t.ends.command 5 0 answer t'.ends.command
    × (t' ≡ with_command (with_stream t t'.ends.stream) t'.ends.command))
    ⊎ ((most_flushes (client_made t.ends.stream.pass).shape.wrap ≤ t.ends.stream.flushes) × (answer ≡ Err Limit) × (t' ≡ t))

-- ## The status

-- a proxy saw the status word, or cleared DISABLED and saw the flags before
abbrev pub SeesStatus : ClientState → ℕ → ClientState → Type 0
SeesStatus c word d = (d.pass.part ≡ client_did c.pass.part (client_event.SawStatus word)) × (d ≡ (record c { pass = d.pass }))

abbrev pub Clears : ClientState → ℕ → ClientState → Type 0
Clears c flags d = (d.pass.part ≡ client_did c.pass.part (client_event.ClearFlags flags)) × (d ≡ (record c { pass = d.pass }))

-- The normal mixer's status word of the track, by its parts
pub record TellsWord (word : ℕ) (s : TrackStatus) : Type 0 where
  pub life : s.life ≡ word % 16
  pub drained : s.drained ≡ (word / 16 % 2 == 1)
  pub settled : s.settled ≡ word / 256

-- The status tells the word that the command block's proxy saw, the flags that the stream's saw, and the frames released
pub record Tells (t : TrackState) (s : TrackStatus) (t' : TrackState) : Type 0 where
  pub word : ℕ
  pub tells : TellsWord word s
  pub saw : SeesStatus t.ends.command word t'.ends.command
  pub cleared : Clears t.ends.stream s.flags t'.ends.stream
  pub released : s.released ≡ t.ends.stream.released
  pub same : t' ≡ with_command (with_stream t t'.ends.stream) t'.ends.command
