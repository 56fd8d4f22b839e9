-- What each step makes of a party's part.
use Rattle.std.specs.Prelude.{◌≡◌, ◌≢◌, ℕ, zero, suc, ◌+◌, ◌-◌, ◌%◌, ◌≤◌, ◌<◌, ◌==◌, ◌||◌, ◌&&◌, ◌⊎◌, if◌then◌else◌, not, true, false, List, [], ◌∷◌, ◌++◌, length, take, bit_and}
use Rattle.af_base.specs.declared.event.ClientEvent.{ClientEvent}
use Rattle.af_base.specs.declared.event.ClientEvent.TheVariants as client
use Rattle.af_base.specs.declared.event.ServerEvent.{ServerEvent}
use Rattle.af_base.specs.declared.event.ServerEvent.TheVariants as server
use Rattle.af_base.specs.declared.event.HandEvent.TheVariants as hand
use Rattle.af_model.specs.Point.{wrapped}
pub use Rattle.af_model.specs.Room.{ahead}
use Rattle.af_model.specs.ServerCalls.{flush_position, past_front}
use Rattle.af_cblk.specs.declared.view.ClientPart.{ClientPart}
use Rattle.af_cblk.specs.declared.view.ServerPart.{ServerPart}
use Rattle.af_cblk.specs.declared.view.HandPart.{HandPart}

-- ## The client

-- the client's position
abbrev pub released : ClientPart → ℕ
released c = c.shape.base + length c.frames

-- the frames that lie in the block, by the front last seen
abbrev pub filled : ClientPart → ℕ
filled c = ahead c.front (wrapped (released c))

-- the frames that may still be stored, by the front last seen
abbrev pub room : ClientPart → ℕ
room c = c.shape.frames - filled c

-- the number that the next frame in this cell would have
abbrev pub number_at : ClientPart → ℕ → ℕ
number_at c j = length c.frames + (j + (c.shape.cells - released c % c.shape.cells)) % c.shape.cells

-- the frame of this number was stored
abbrev pub Has : List (ℕ × ℕ) → ℕ → Type 0
Has [] x = ⊥
Has (e ∷ es) x = (x ≡ e.0) ⊎ Has es x

-- the word that was stored last for the frame of this number
abbrev pub word_at : List (ℕ × ℕ) → ℕ → ℕ
word_at [] x = 0
word_at (e ∷ es) x = if x == e.0 then e.1 else word_at es x

-- the words stored for `count` frames, from a number on
abbrev pub run_of : List (ℕ × ℕ) → ℕ → ℕ → List ℕ
run_of stored x zero = []
run_of stored x (suc count) = word_at stored x ∷ run_of stored (suc x) count

-- the client with one event more
abbrev pub client_did : ClientPart → ClientEvent → ClientPart
client_did c e = record c { events = c.events ++ e ∷ [] }

-- the client has asked for a flush of all frames released so far
abbrev pub client_flushed : ClientPart → ClientPart
client_flushed c = record c { events = c.events ++ client.Flush ∷ []; flush_at = released c }

-- what a flush adds to the flush word: one, or a wrap and the way from the place of the last flush in a wrap to that of this one
abbrev pub flush_amount : ClientPart → ℕ
flush_amount c = if c.shape.wrap == 0 then 1 else c.shape.wrap + released c % c.shape.wrap - c.flush_at % c.shape.wrap

-- the client has seen this front
abbrev pub client_saw_front : ClientPart → ℕ → ClientPart
client_saw_front c front = record c { events = c.events ++ client.SawFront front ∷ []; front = front }

-- the client has stored this word in this cell
abbrev pub cell_stored : ClientPart → ℕ → ℕ → ClientPart
cell_stored c j word = record c { stored = (number_at c j, word) ∷ c.stored }

-- the client has stored this word in the cell of a position inside the room
abbrev pub stored_at : ClientPart → ℕ → ℕ → ClientPart
stored_at c position word = record c { stored = (length c.frames + ahead (released c) position, word) ∷ c.stored }

-- the words that were stored, and then these for the frames from a number on
abbrev pub with_run : List (ℕ × ℕ) → ℕ → List ℕ → List (ℕ × ℕ)
with_run stored x [] = stored
with_run stored x (word ∷ words) = with_run ((x, word) ∷ stored) (suc x) words

-- the client has stored these words in this cell and in those behind it
abbrev pub cells_stored : ClientPart → ℕ → List ℕ → ClientPart
cells_stored c j words = record c { stored = with_run c.stored (number_at c j) words }

-- the client has stored the words of the next frames
abbrev pub next_stored : ClientPart → List ℕ → ClientPart
next_stored c words = record c { stored = with_run c.stored (length c.frames) words }

-- the cells of the next `count` positions were stored
abbrev pub AreStored : ClientPart → ℕ → Type 0
AreStored c count = (i : ℕ) → i < count → Has c.stored (length c.frames + i)

-- the client has released the next `count` frames, with the words that were stored for them
abbrev pub rear_stored : ClientPart → ℕ → ClientPart
rear_stored c count =
    record c {
      events = c.events ++ client.Release count ∷ [];
      frames = c.frames ++ run_of c.stored (length c.frames) count;
    }

-- without INVALID the flags are not recorded
abbrev pub recorded : ℕ → ℕ
recorded flags = if bit_and flags 4 == 0 then 0 else flags

-- the client has met the server, which had done these events
abbrev pub client_met : ClientPart → List ServerEvent → ClientPart
client_met c events = record c { events = c.events ++ client.Learn (length events) ∷ []; learnt = events }

-- ## The server

-- the server with one event more
abbrev pub server_did : ServerPart → ServerEvent → ServerPart
server_did s e = record s { events = s.events ++ e ∷ [] }

-- The server has seen this flush word. One that differs from the last is a new flush, after which no rear was seen yet
abbrev pub saw_flush : ServerPart → ℕ → ServerPart
saw_flush s flush =
    record s {
      events = s.events ++ server.SawFlush flush ∷ [];
      flush = flush;
      noticed = s.noticed || not (flush == s.flush);
      rear_after = s.rear_after && (flush == s.flush);
      flush_fresh = true;
      rear_fresh = false;
    }

-- the server has seen this rear, and front not since
abbrev pub saw_rear : ServerPart → ℕ → ServerPart
saw_rear s rear =
    record s { events = s.events ++ server.SawRear rear ∷ []; rear = rear; rear_after = true; rear_fresh = s.flush_fresh; fresh = false; loaded = [] }

-- the server has seen this front, and no cells from it on
abbrev pub server_saw_front : ServerPart → ℕ → ServerPart
server_saw_front s front =
    record s { events = s.events ++ server.SawFront front ∷ []; front = front; fresh = true; loaded = [] }

-- the server has loaded this cell, which counts if it is the next one from the front on
abbrev pub saw_cell : ServerPart → ℕ → ℕ → ServerPart
saw_cell s j word =
    record s {
      loaded = if j == wrapped (s.front + length s.loaded) % s.shape.cells then s.loaded ++ word ∷ [] else s.loaded;
    }

-- the position of the next cell to load: past the front by the cells that were loaded
abbrev pub next_position : ServerPart → ℕ
next_position s = s.front + length s.loaded

-- the server has loaded the next cells, with these words
abbrev pub saw_next : ServerPart → List ℕ → ServerPart
saw_next s words = record s { loaded = s.loaded ++ words }

-- the server has taken the frames up to this front
abbrev pub took : ServerPart → ℕ → ServerPart
took s front =
    record s {
      events = s.events ++ server.Take (ahead s.front front) ∷ [];
      frames = s.frames ++ take (ahead s.front front) s.loaded;
      front = front;
      fresh = false;
      flush_fresh = false;
      rear_fresh = false;
      loaded = [];
    }

-- the server has dropped the frames up to this front
abbrev pub dropped : ServerPart → ℕ → ServerPart
dropped s front =
    record s {
      events = s.events ++ server.Drop front ∷ [];
      noticed = false;
      rear_after = false;
      front = front;
      fresh = false;
      flush_fresh = false;
      rear_fresh = false;
      loaded = [];
    }

-- the server has stored this front: after a new flush it dropped, and else it took
abbrev pub front_stored : ServerPart → ℕ → ServerPart
front_stored s front = if s.noticed then dropped s front else took s front

-- the flush word was loaded since front was stored last, then rear, and then front
abbrev pub SawInOrder : ServerPart → Type 0
SawInOrder s = (s.rear_fresh ≡ true) × (s.fresh ≡ true)

-- where a new flush drops to: for wrap 0 the rear last seen, and else the later of the front last seen and the position of the flush
abbrev pub drop_front : ServerPart → ℕ
drop_front s = if s.shape.wrap == 0 then s.rear else wrapped (s.front + past_front s.front (flush_position s.shape.wrap s.flush s.rear))

-- front may become where the new flush drops to, after a rear that was seen after it, and on a positional block a front after that
abbrev pub MayDrop : ServerPart → ℕ → Type 0
MayDrop s front = (s.shape.wrap ≡ 0 → s.rear_after ≡ true) × (s.shape.wrap ≢ 0 → SawInOrder s) × (front ≡ drop_front s)

-- Front may become a position up to which the cells from the front last seen on were loaded, and which does not lie past the rear. Front was loaded after that rear, and not stored since, and on a positional block the flush word before that rear, since front was stored
abbrev pub MayTake : ServerPart → ℕ → Type 0
MayTake s front =
    (s.fresh ≡ true) × (ahead s.front front ≤ ahead s.front s.rear) × (ahead s.front front ≤ length s.loaded) × (s.shape.wrap ≢ 0 → SawInOrder s)

-- front may be stored: after a new flush the frames are dropped, and else taken
abbrev pub MayStoreFront : ServerPart → ℕ → Type 0
MayStoreFront s front = (s.noticed ≡ true → MayDrop s front) × (s.noticed ≡ false → MayTake s front)

-- ## The hand

-- the hand has set DISABLED
abbrev pub hand_set : HandPart → HandPart
hand_set h = record h { events = h.events ++ hand.SetFlags 8 ∷ [] }

-- the hand has met the client, which had done so many events
abbrev pub hand_met : HandPart → ℕ → HandPart
hand_met h count = record h { events = h.events ++ hand.Met count ∷ [] }
