-- What contracts see of the two ends of a recording, and what their calls come to.
use Rattle.std.specs.Prelude.{◌≡◌, ◌⊎◌, ℕ, ◌+◌, ◌^◌, ◌<◌, ◌≤◌, min, Result, Ok, Err, List, [], ◌∷◌, ◌++◌, map, take, length}
use Rattle.af_base.specs.declared.frame.Frame.{Frame}
use Rattle.af_base.specs.Sample.{packed_word}
use Rattle.af_base.specs.declared.event.ClientEvent.{ClientEvent}
use Rattle.af_base.specs.declared.event.ClientEvent.TheVariants as client_event
use Rattle.af_base.specs.declared.event.ServerEvent.TheVariants as server_event
use Rattle.af_cblk.specs.Parts.{server_did}
use Rattle.af_cblk.specs.Rule.{new_client, new_server}
use Rattle.af_cblk.specs.Sides.{Made}
use Rattle.af_record.specs.declared.capture.Supplied.{Supplied}
use Rattle.af_record.specs.Ends.{CaptureState, ListenerState, CameBy, HasRead, IsStopped, LooksFirst, ReadBy}
use Rattle.af_record.specs.History.{HasTapeHistory}
use Rattle.af_record.specs.Supplies.{Supply, supply_of}
use Rattle.af_ends.specs.declared.error.EndError.{EndError}
use Rattle.af_ends.specs.declared.error.EndError.TheVariants.{Argument, Memory, Dead, Corrupt, Limit}

-- the block of a recording, and the end that supplies
pub record CaptureEndState : Type 0 where
  pub block : Made
  pub capture : CaptureState

-- the block of a recording, and the end that reads
pub record ListenerEndState : Type 0 where
  pub block : Made
  pub listener : ListenerState

-- the two ends of a new recording for so many frames, on one block, which have done nothing
pub record IsOpenedRecord (frames : ℕ) (c : CaptureEndState) (l : ListenerEndState) : Type 0 where
  pub together : c.block ≡ l.block
  pub size : c.block.shape.frames ≡ frames
  pub capture_new : c.capture.pass.part ≡ new_client c.block.shape
  pub listener_new : l.listener.pass.part ≡ new_server l.block.shape
  pub none_supplied : CameBy [] c.capture
  pub none_read : ReadBy [] l.listener

-- how many frames were put, by the answer of a supply
abbrev pub put_in : Result Supplied EndError → ℕ
put_in (Ok supplied) = supplied.put
put_in (Err e) = 0

-- These frames were supplied: the first ones are put and the others lost. Some frames are lost exactly if the last look showed that no frame may be put
pub record HasSupplied (c : CaptureState) (frames : List Frame) (s : Supplied) (d : CaptureState) : Type 0 where
  pub sum : s.put + s.lost ≡ length frames
  pub put : d.pass.part.frames ≡ c.pass.part.frames ++ map packed_word (take s.put frames)
  pub counts : (d.supplied ≡ c.supplied + length frames) × (d.overrun ≡ c.overrun + s.lost)
  pub stopped : (1 ≤ s.lost → IsStopped d.pass.part) × (IsStopped d.pass.part → 1 ≤ s.lost)
  pub looked : LooksFirst c.pass.part.events d.pass.part.events
  pub history : (supplies : List Supply) → CameBy supplies c → CameBy (supplies ++ supply_of frames s.put ∷ []) d

-- A supply, by its answer. A supply of no frames does nothing
abbrev pub Supplies : CaptureState → List Frame → Result Supplied EndError → CaptureState → Type 0
Supplies c frames (Ok s) d =
    ((length frames ≡ 0) × (s.put ≡ 0) × (s.lost ≡ 0) × (d ≡ c))
    ⊎ ((1 ≤ length frames) × (length frames ≤ 1024) × (c.supplied + length frames ≤ 2 ^ 62) × HasSupplied c frames s d)
Supplies c frames (Err Argument) d = (1024 < length frames) × (d ≡ c)
Supplies c frames (Err Limit) d = (length frames ≤ 1024) × (2 ^ 62 < c.supplied + length frames) × (d ≡ c)
Supplies c frames (Err Memory) d = ⊥
Supplies c frames (Err Dead) d = ⊥
Supplies c frames (Err Corrupt) d = ⊥

-- A read to so many places, by its answer: it looks for so many frames, and no more than 1,024, and takes what it finds. A read to no places does nothing
abbrev pub Listens : ListenerState → ℕ → Result ℕ EndError → ListenerState → Type 0
Listens l places (Ok count) m =
    ((places ≡ 0) × (count ≡ 0) × (m ≡ l))
    ⊎ ((1 ≤ places) × (l.total < 2 ^ 62) × HasRead l.pass.part (min places 1024) count m.pass.part)
Listens l places (Err Limit) m = (1 ≤ places) × (2 ^ 62 ≤ l.total) × (m ≡ l)
Listens l places (Err Argument) m = ⊥
Listens l places (Err Memory) m = ⊥
Listens l places (Err Dead) m = ⊥
Listens l places (Err Corrupt) m = ⊥

-- the ends of a recording that were closed
pub record RecordedState : Type 0 where
  pub capture : CaptureState
  pub listener : ListenerState

-- two ends of a recording have met: the end that reads is as it was, and each has learnt the list of the other
abbrev pub RecordHasMet : ListenerState → RecordedState → Type 0
RecordHasMet before r =
    (events : List ClientEvent)
    × (r.capture.pass.part.events ≡ events ++ client_event.Learn (length before.pass.part.events) ∷ [])
    × (r.listener ≡ (record before { pass = record before.pass { part = server_did before.pass.part (server_event.Learn (length events)) } }))

-- the lists of both ends have a history of a recording for so many frames
abbrev pub RecordHistory : ℕ → RecordedState → Type 0
RecordHistory frames r = HasTapeHistory frames r.capture.pass.part.events r.capture.pass.part.frames r.listener.pass.part.events r.listener.pass.part.frames
