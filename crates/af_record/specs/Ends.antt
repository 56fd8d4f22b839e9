-- What contracts see of the two ends of a recording, and what always holds of them.
use Rattle.std.specs.Prelude.{◌≡◌, ◌⊎◌, ℕ, zero, suc, ◌+◌, ◌-◌, ◌≤◌, ◌==◌, max, bit_and, Bool, true, false, not, MatchOption, None, List, [], ◌∷◌, ◌++◌, length, take}
use Rattle.std.specs.List.{list_all}
use Rattle.af_base.specs.declared.event.ClientEvent.{ClientEvent}
use Rattle.af_base.specs.declared.event.ClientEvent.TheVariants as client
use Rattle.af_base.specs.declared.event.ServerEvent.{ServerEvent}
use Rattle.af_base.specs.declared.event.ServerEvent.TheVariants as server
use Rattle.af_base.specs.declared.seen.Seen.{Seen}
use Rattle.af_base.specs.declared.seen.Seen.TheVariants as seen
use Rattle.af_base.specs.Log.{count_seen}
use Rattle.af_model.specs.Point.{wrapped}
use Rattle.af_model.specs.PipeHistory.{room_by}
use Rattle.af_model.specs.ServerCalls.{look_at, look_events}
use Rattle.af_cblk.specs.declared.view.ClientPart.{ClientPart}
use Rattle.af_cblk.specs.declared.view.ServerPart.{ServerPart}
use Rattle.af_cblk.specs.Shape.{IsShape}
use Rattle.af_cblk.specs.Sides.{Made, ClientSide, ServerSide, client_made, server_made}
use Rattle.af_client.specs.Order.{ClientState}
use Rattle.af_client.specs.Order as writer
use Rattle.af_server.specs.Order.{ServerState, server_kept_of}
use Rattle.af_server.specs.Order as reader
use Rattle.af_record.specs.History.{IsSupplyList, IsReadList, is_alive, is_calm}
use Rattle.af_record.specs.Supplies.{Supply, kept, count_lost, count_supplied, all_read}

-- the pass of the end that supplies, and how many frames were supplied and lost
pub record CaptureState : Type 0 where
  pub pass : ClientSide
  pub supplied : ℕ
  pub overrun : ℕ

-- the pass of the end that reads, and how many frames were read
pub record ListenerState : Type 0 where
  pub pass : ServerSide
  pub total : ℕ

-- the block that an end was made with
abbrev pub capture_made : CaptureState → Made
capture_made c = client_made c.pass

abbrev pub listener_made : ListenerState → Made
listener_made l = server_made l.pass

-- ## Supplying

-- These supplies led here: what they kept is what was put, and the counts are theirs
pub record CameBy (supplies : List Supply) (c : CaptureState) : Type 0 where
  pub kept_is : c.pass.part.frames ≡ kept supplies
  pub supplied_is : c.supplied ≡ count_supplied supplies
  pub overrun_is : c.overrun ≡ count_lost supplies

-- how many frames these events put
abbrev pub put_by : List ClientEvent → ℕ
put_by [] = 0
put_by (client.Release count ∷ es) = count + put_by es
put_by (_ ∷ es) = put_by es

-- the room that the last look of these events showed, after so many frames put and a look that showed this room
abbrev pub last_room : (size put room : ℕ) → List ClientEvent → ℕ
last_room size put room [] = room
last_room size put room (client.Release count ∷ es) = last_room size (put + count) room es
last_room size put room (client.SawFront front ∷ es) = last_room size put (room_by size put front) es
last_room size put room (_ ∷ es) = last_room size put room es

-- the room at the last look at front: the block's size minus the frames put by then and not taken by the front seen
abbrev pub room_seen : ClientPart → ℕ
room_seen p = last_room p.shape.frames 0 p.shape.frames p.events

-- whether the last look of these events at the flags showed INVALID
abbrev pub last_dead : Bool → List ClientEvent → Bool
last_dead dead [] = dead
last_dead dead (client.SawFlags flags ∷ es) = last_dead (not (bit_and flags 4 == 0)) es
last_dead dead (_ ∷ es) = last_dead dead es

-- The last look showed that no frame may be put: its flags had INVALID, or its front showed no room
abbrev pub IsStopped : ClientPart → Type 0
IsStopped p = (last_dead false p.events ≡ true) ⊎ (room_seen p ≡ 0)

-- the frames put are those of the releases
abbrev pub IsCounted : ClientPart → Type 0
IsCounted p = put_by p.events ≡ length p.frames

-- a client on the block of a recording, which has written and met, and done nothing else
pub record OnlyWrites (p : ClientPart) : Type 0 where
  pub shape : IsShape p.shape
  pub from_zero : p.shape.base ≡ 0
  pub flat : p.shape.wrap ≡ 0
  pub list : IsSupplyList p.shape.frames p.events
  pub counted : IsCounted p

-- what was supplied was put or lost
pub record IsSupplying (c : ClientState) (supplied lost : ℕ) : Type 0 where
  pub in_order : writer.IsInOrder c
  pub writes : OnlyWrites c.pass.part
  pub released_is : c.released ≡ length c.pass.part.frames
  pub supplied_is : supplied ≡ length c.pass.part.frames + lost

-- A look at the flags came first. Unless it showed INVALID, a look at front is next
pub record LooksFirst (before now : List ClientEvent) : Type 0 where
  pub flags : ℕ
  pub behind : List ClientEvent
  pub is : now ≡ before ++ client.SawFlags flags ∷ behind
  pub next : bit_and flags 4 ≡ 0 → (front : ℕ) × (rest : List ClientEvent) × (behind ≡ client.SawFront front ∷ rest)

-- ## Reading

-- these reads led here: their frames are what was taken
pub record ReadBy (reads : List (List ℕ)) (l : ListenerState) : Type 0 where
  pub frames_are : l.pass.part.frames ≡ all_read reads
  pub total_is : l.total ≡ length (all_read reads)

-- a take of some frames, and of none
abbrev pub takes : ℕ → List ServerEvent
takes zero = []
takes (suc count) = server.Take (suc count) ∷ []

-- a take of the frames that a look showed steps for each cell and for front
abbrev pub take_steps : Seen → ℕ
take_steps (seen.Frames count) = count + 1
take_steps _ = 0

-- a look for so many frames saw three words, and the frames that it showed were taken, by the flush word kept before
abbrev pub SawWords : ServerPart → ℕ → ℕ → ServerPart → Type 0
SawWords s places count t =
    (flush : ℕ) × (rear : ℕ) × (front : ℕ)
    × (let shows = look_at s.shape (server_kept_of s).flush places flush rear front in
    (count ≡ count_seen shows) × (t.events ≡ (s.events ++ look_events shows flush rear front) ++ takes count))

-- A read for so many places looked, and took the frames that the look showed. One that was shut before does nothing
abbrev pub HasRead : ServerPart → ℕ → ℕ → ServerPart → Type 0
HasRead s places count t = MatchOption (server_kept_of s).shut (SawWords s places count t) (λ words. (count ≡ 0) × (t.events ≡ s.events))

-- A server on the block of a recording, which has looked, taken and met, and done nothing else. What was taken was read
pub record IsListening (s : ServerState) (total : ℕ) : Type 0 where
  pub in_order : reader.IsInOrder s
  pub reads : IsReadList s.pass.part.events
  pub hand : s.pass.has_hand ≡ true
  pub total_is : total ≡ length s.pass.part.frames

-- how many frames these events took
abbrev pub taken_in : List ServerEvent → ℕ
taken_in [] = 0
taken_in (server.Take count ∷ es) = count + taken_in es
taken_in (_ ∷ es) = taken_in es

-- ## Meeting

-- Nothing disturbed the ends: no look at the flags showed INVALID, each flush word seen was 0, nothing was dropped, and no look found words that don't fit the block
pub record IsCalm (puts : List ClientEvent) (s : ServerPart) : Type 0 where
  pub alive : list_all is_alive puts ≡ true
  pub unflushed : list_all is_calm s.events ≡ true
  pub unshut : (server_kept_of s).shut ≡ None

-- Each rear seen is the number of frames put by then: no fewer than an earlier look saw, and no fewer than were put before a meeting that stands before it
abbrev pub SeesPut : List ClientEvent → ℕ → List ServerEvent → Type 0
SeesPut puts low [] = Unit {0}
SeesPut puts low (server.SawRear rear ∷ es) =
    (put : ℕ) × (low ≤ put) × (put ≤ put_by puts) × (rear ≡ wrapped put) × SeesPut puts put es
SeesPut puts low (server.Learn count ∷ es) = SeesPut puts (max low (put_by (take count puts))) es
SeesPut puts low (_ ∷ es) = SeesPut puts low es

-- The room by each front seen, behind so many frames put: the block's size minus those put and not taken by then. Those taken are no fewer than an earlier look saw, and no fewer than before a meeting that stands before it
abbrev pub SeesRoom : (size : ℕ) → List ServerEvent → (put low : ℕ) → List ClientEvent → Type 0
SeesRoom size takes put low [] = Unit {0}
SeesRoom size takes put low (client.SawFront front ∷ es) =
    (taken : ℕ) × (low ≤ taken) × (taken ≤ taken_in takes) × (room_by size put front ≡ size - (put - taken)) × SeesRoom size takes put taken es
SeesRoom size takes put low (client.Release count ∷ es) = SeesRoom size takes (put + count) low es
SeesRoom size takes put low (client.Learn count ∷ es) = SeesRoom size takes put (max low (taken_in (take count takes))) es
SeesRoom size takes put low (_ ∷ es) = SeesRoom size takes put low es

-- Each front that the end that reads saw is the number of frames that it took before
abbrev pub SeesTaken : ℕ → List ServerEvent → Type 0
SeesTaken taken [] = Unit {0}
SeesTaken taken (server.SawFront front ∷ es) = (front ≡ wrapped taken) × SeesTaken taken es
SeesTaken taken (server.Take count ∷ es) = SeesTaken (taken + count) es
SeesTaken taken (_ ∷ es) = SeesTaken taken es
