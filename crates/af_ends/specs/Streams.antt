-- What contracts see of the two ends of a stream, and what their calls come to.
use Rattle.std.specs.Prelude.{◌≡◌, ◌≢◌, ◌⊎◌, ℕ, ◌+◌, ◌*◌, ◌^◌, ◌<◌, ◌≤◌, min, true, MatchOption, Option, Some, None, Result, Ok, Err, List, [], ◌∷◌, ◌++◌, length, take}
use Rattle.af_base.specs.declared.event.ClientCall.TheVariants as call
use Rattle.af_base.specs.declared.event.ClientEvent.{ClientEvent}
use Rattle.af_base.specs.declared.event.ClientEvent.TheVariants as client_event
use Rattle.af_base.specs.declared.event.ServerEvent.{ServerEvent}
use Rattle.af_base.specs.declared.event.ServerEvent.TheVariants as server_event
use Rattle.af_base.specs.declared.seen.Seen.{Seen}
use Rattle.af_base.specs.declared.seen.Seen.TheVariants as seen
use Rattle.af_model.specs.declared.shape.Shape.{Shape}
use Rattle.af_model.specs.Discards.{DiscardsBefore}
use Rattle.af_model.specs.History.{is_lawful, HasHistory}
use Rattle.af_base.specs.declared.event.HandEvent.{HandEvent}
use Rattle.af_model.specs.ServerCalls.{look_at, look_events}
use Rattle.af_cblk.specs.Parts.{client_did, client_flushed, server_did}
use Rattle.af_cblk.specs.Rule.{new_client, new_server}
use Rattle.af_cblk.specs.Shape.{most_flushes}
use Rattle.af_cblk.specs.Sides.{Made}
use Rattle.af_client.specs.Calls.{Does}
use Rattle.af_client.specs.declared.write.Wrote.{Wrote}
use Rattle.af_client.specs.declared.write.Wrote.TheVariants as wrote
use Rattle.af_client.specs.Order.{ClientState, IsClientOf}
use Rattle.af_record.specs.Ends.{takes}
use Rattle.af_server.specs.Order.{ServerState, IsServerOf, did}
use Rattle.af_ends.specs.declared.error.EndError.{EndError}
use Rattle.af_ends.specs.declared.error.EndError.TheVariants.{Argument, Memory, Dead, Corrupt, Limit}
use Rattle.af_ends.specs.declared.stream_server.Found.{Found}

-- the block of a stream, and the client's proxy
pub record StreamClientState : Type 0 where
  pub block : Made
  pub client : ClientState

-- the block of a stream, and the server's proxy
pub record StreamServerState : Type 0 where
  pub block : Made
  pub server : ServerState

-- a client in order on the block, which has not poked
abbrev pub IsStreamClient : Made → ClientState → Type 0
IsStreamClient block c = IsClientOf block c × (is_lawful c.pass.part.events ≡ true)

-- a server in order on the block, which is positional. Its hand is with it
abbrev pub IsStreamServer : Made → ServerState → Type 0
IsStreamServer block s = IsServerOf block s × (s.pass.has_hand ≡ true) × (block.shape.wrap ≢ 0)

-- the two ends of a new stream for so many frames, on one block, which have done nothing
pub record IsOpened (frames : ℕ) (c : StreamClientState) (s : StreamServerState) : Type 0 where
  pub together : c.block ≡ s.block
  pub size : c.block.shape.frames ≡ frames
  pub client_new : c.client.pass.part ≡ new_client c.block.shape
  pub server_new : s.server.pass.part ≡ new_server s.block.shape
  pub nothing_kept : (c.client.released ≡ 0) × (c.client.flushes ≡ 0) × (s.server.consumed ≡ 0) × (s.server.flushes ≡ 0)

-- ## Writing

-- the answer of an end, by what its proxy wrote
abbrev pub told : Wrote → Result ℕ EndError
told (wrote.Put front count rest) = Ok count
told (wrote.Full front) = Ok 0
told (wrote.Dead flags) = Err Dead
told (wrote.Corrupt front rear) = Err Corrupt

-- how many frames were written, by the answer of a write
abbrev pub count_in : Result ℕ EndError → ℕ
count_in (Ok count) = count
count_in (Err e) = 0

-- there are frames to write, and fewer than 2 ^ 62 were released
abbrev pub MayWrite : ClientState → ℕ → Type 0
MayWrite c asked = (1 ≤ asked) × (c.released < 2 ^ 62)

-- the client saw a front, by which the block was full and no frame was written, or so many frames were put
abbrev pub PutsOrFull : ClientState → ℕ → ℕ → ClientState → Type 0
PutsOrFull c asked count d = (front : ℕ) × (((count ≡ 0) × Does c asked (call.Full front) d) ⊎ Does c asked (call.Put front count) d)

-- A write of so many frames, by its answer. A write of no frames does nothing, and a write after 2 ^ 62 released frames is refused and does nothing
abbrev pub Writes : ClientState → ℕ → Result ℕ EndError → ClientState → Type 0
Writes c asked (Ok count) d = ((asked ≡ 0) × (count ≡ 0) × (d ≡ c)) ⊎ (MayWrite c asked × PutsOrFull c asked count d)
Writes c asked (Err Dead) d = MayWrite c asked × ((flags : ℕ) × Does c asked (call.Dead flags) d)
Writes c asked (Err Limit) d = (1 ≤ asked) × (2 ^ 62 ≤ c.released) × (d ≡ c)
Writes c asked (Err Argument) d = ⊥
Writes c asked (Err Memory) d = ⊥
Writes c asked (Err Corrupt) d = ⊥

-- a flush, by its answer: one more is asked for, or as many were asked for before as flush words can distinguish
abbrev pub Flushes : Made → ClientState → Result ℕ EndError → ClientState → Type 0
Flushes block c (Ok count) d = (count ≡ c.flushes + 1) × (d.pass.part ≡ client_flushed c.pass.part) × (d ≡ (record c { pass = d.pass; flushes = count }))
Flushes block c (Err Limit) d = (most_flushes block.shape.wrap ≤ c.flushes) × (d ≡ c)
Flushes block c (Err Argument) d = ⊥
Flushes block c (Err Memory) d = ⊥
Flushes block c (Err Dead) d = ⊥
Flushes block c (Err Corrupt) d = ⊥

-- the word of two gains
abbrev pub gain_word : ℕ → ℕ → ℕ
gain_word left right = left + 65536 * right

-- a call that sets two gains, by its answer: both are set, or one is above unity
abbrev pub SetsGains : ClientState → ℕ → ℕ → Result (Unit {0}) EndError → ClientState → Type 0
SetsGains c left right (Ok done) d =
    (left ≤ 4096) × (right ≤ 4096) × (d.pass.part ≡ client_did c.pass.part (client_event.SetGain (gain_word left right))) × (d ≡ (record c { pass = d.pass }))
SetsGains c left right (Err Argument) d = ((4096 < left) ⊎ (4096 < right)) × (d ≡ c)
SetsGains c left right (Err Memory) d = ⊥
SetsGains c left right (Err Dead) d = ⊥
SetsGains c left right (Err Corrupt) d = ⊥
SetsGains c left right (Err Limit) d = ⊥

-- ## Reading

-- the answer of an end, by what its proxy saw in a look
abbrev pub found_by : Seen → Result Found EndError
found_by (seen.Frames count) = Ok (record { frames = count; flushed = None })
found_by (seen.Flushed dropped) = Ok (record { frames = 0; flushed = Some dropped })
found_by (seen.Shut front rear) = Err Corrupt
found_by seen.Empty = Ok (record { frames = 0; flushed = None })
found_by seen.Absent = Ok (record { frames = 0; flushed = None })

-- how many frames were found, by the answer of a look
abbrev pub frames_in : Result Found EndError → ℕ
frames_in (Ok found) = found.frames
frames_in (Err e) = 0

-- how many frames a flush discarded, 0 if there was none
abbrev pub dropped_of : Option ℕ → ℕ
dropped_of (Some dropped) = dropped
dropped_of None = 0

-- how many frames were discarded, by the answer of a look
abbrev pub dropped_in : Result Found EndError → ℕ
dropped_in (Ok found) = dropped_of found.flushed
dropped_in (Err e) = 0

-- A look for so many frames, by its answer: it saw three words, answered what they show by the flush word kept before, and these events came behind it. A server that was shut before sees nothing
abbrev pub Finds : ServerState → ℕ → Result Found EndError → List ServerEvent → ServerState → Type 0
Finds c asked answer behind d =
    MatchOption c.shut
    (
    (flush : ℕ) × (rear : ℕ) × (front : ℕ)
    × (let shows = look_at c.pass.part.shape c.flush asked flush rear front in
    (answer ≡ found_by shows) × (d.pass.part.events ≡ (c.pass.part.events ++ look_events shows flush rear front) ++ behind)))
    (λ words. (answer ≡ Err Corrupt) × (d.pass.part.events ≡ c.pass.part.events))

-- the answer of a read that looks for nothing
abbrev pub nothing_found : Result Found EndError
nothing_found = Ok (record { frames = 0; flushed = None })

-- A read to so many places, by its answer: it looked for as many frames as there are places, and no more than the block has, and took what it found. A read to no places does nothing
abbrev pub Reads : Made → ServerState → ℕ → Result Found EndError → ServerState → Type 0
Reads block c places answer d =
    ((places ≡ 0) × (answer ≡ nothing_found) × (d ≡ c)) ⊎ ((1 ≤ places) × Finds c (min places block.shape.frames) answer (takes (frames_in answer)) d)

-- a tally of missing frames, by its answer: they are counted and UNDERRUN is set, or there are none
abbrev pub Tallies : ServerState → ℕ → Result (Unit {0}) EndError → ServerState → Type 0
Tallies c missing (Ok done) d = (1 ≤ missing) × (d ≡ did (did c (server_event.Tally missing)) (server_event.SetFlags 1))
Tallies c missing (Err Argument) d = (missing ≡ 0) × (d ≡ c)
Tallies c missing (Err Memory) d = ⊥
Tallies c missing (Err Dead) d = ⊥
Tallies c missing (Err Corrupt) d = ⊥
Tallies c missing (Err Limit) d = ⊥

-- ## Closing

-- the proxies of a stream whose ends were closed
pub record LivedState : Type 0 where
  pub client : ClientState
  pub server : ServerState

-- two ends of a stream have met: the server is as it was, and each has learnt the list of the other
abbrev pub HasMet : ServerState → LivedState → Type 0
HasMet before l =
    (events : List ClientEvent)
    × (l.client.pass.part.events ≡ events ++ client_event.Learn (length before.pass.part.events) ∷ [])
    × (l.server ≡ (record before { pass = record before.pass { part = server_did before.pass.part (server_event.Learn (length events)) } }))

-- the lists of the client and of the server have a history, in which the hand's list is empty
abbrev pub LivedHistory : Shape → LivedState → Type 0
LivedHistory k l = HasHistory k l.client.pass.part.events l.client.pass.part.frames l.server.pass.part.events l.server.pass.part.frames []

-- In some history of the client's and the server's lists, what a look discarded was released before the flush that it saw, and all that was released before that flush is taken or discarded
pub record LivedDiscards (k : Shape) (l : LivedState) : Type 0 where
  pub hand : List HandEvent
  pub history : HasHistory k l.client.pass.part.events l.client.pass.part.frames l.server.pass.part.events l.server.pass.part.frames hand
  pub before : DiscardsBefore k history.order

-- some frames are a beginning of others
abbrev pub IsBeginning : List ℕ → List ℕ → Type 0
IsBeginning taken released = (n : ℕ) × (taken ≡ take n released)
