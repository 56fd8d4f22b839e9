-- How the calls of a client's proxy spell its list, on a block of so many frames and cells whose first position is the base.
use Rattle.std.specs.Prelude.{◌≡◌, ◌≢◌, ℕ, ◌+◌, ◌-◌, ◌%◌, ◌<◌, ◌≤◌, min, Bool, if◌then◌else◌, is_some, fold, MatchOption, bit_and, List, [], ◌∷◌, ◌++◌, Option, None}
use Rattle.af_base.specs.declared.event.ClientCall.{ClientCall}
use Rattle.af_base.specs.declared.event.ClientCall.TheVariants as call
use Rattle.af_base.specs.declared.event.ClientEvent.{ClientEvent}
use Rattle.af_base.specs.declared.event.ClientEvent.TheVariants as client
use Rattle.af_model.specs.Point.{wrapped}
use Rattle.af_model.specs.History.{flushes_of}
use Rattle.af_model.specs.Room.{ahead, outside}

-- What a list tells of its client: the position up to which it released, and the front and rear that shut it.
pub record ClientKept : Type 0 where
  pub position : ℕ
  pub shut : Option (ℕ × ℕ)

-- what is known of a client after one event more: a front outside the room shuts the client
abbrev pub client_keeps : ℕ → ClientKept → ClientEvent → ClientKept
client_keeps frames kept (client.Release count) = record kept { position = kept.position + count }
client_keeps frames kept (client.SawFront front) = record kept { shut = outside frames front (wrapped kept.position) }
client_keeps frames kept _ = kept

-- what is known of a client before its first event
abbrev pub client_begins : ℕ → ClientKept
client_begins base = record { position = base; shut = None }

-- what a list of events tells of its client
abbrev pub client_kept : ℕ → ℕ → List ClientEvent → ClientKept
client_kept frames base events = fold (client_keeps frames) (client_begins base) events

-- the frames that lie in the block, as a client sees it by this front
abbrev pub filled_by : ClientKept → ℕ → ℕ
filled_by kept front = ahead front (wrapped kept.position)

-- how many of the frames asked for a write puts: no more than there is room for, and none past the last cell
abbrev pub put_count : ℕ → ℕ → ClientKept → ℕ → ℕ → ℕ
put_count frames cells kept front asked = min asked (min (frames - filled_by kept front) (cells - kept.position % cells))

-- the flags have INVALID
abbrev pub IsInvalid : ℕ → Type 0
IsInvalid flags = bit_and flags 4 ≢ 0

-- the proxy isn't shut, and its next look at front sees so many frames in the block
abbrev pub IsOpenAt : ClientKept → ℕ → (ℕ → Type 0) → Type 0
IsOpenAt kept front P = (kept.shut ≡ None) × P (filled_by kept front)

-- The answer is the one for these two words: those that shut the proxy before, or else a front that this call saw outside the room, and its own rear
abbrev pub IsOutside : ℕ → ClientKept → ℕ → ℕ → Type 0
IsOutside frames kept front rear = MatchOption kept.shut ((rear ≡ wrapped kept.position) × (frames < filled_by kept front)) (λ words. words ≡ (front, rear))

-- What a client's proxy may answer after some events, by the words seen. `asked` is how many frames a write was given
abbrev pub ClientAnswers : (frames cells base : ℕ) → List ClientEvent → (asked : ℕ) → ClientCall → Type 0
ClientAnswers frames cells base events asked (call.Put front count) =
    let kept = client_kept frames base events in
    IsOpenAt kept front (λ filled. filled < frames) × (1 ≤ asked) × (count ≡ put_count frames cells kept front asked)
ClientAnswers frames cells base events asked (call.Full front) = IsOpenAt (client_kept frames base events) front (λ filled. filled ≡ frames)
ClientAnswers frames cells base events asked (call.Dead flags) = ((client_kept frames base events).shut ≡ None) × IsInvalid flags
ClientAnswers frames cells base events asked (call.Corrupt front rear) = IsOutside frames (client_kept frames base events) front rear
ClientAnswers frames cells base events asked (call.Cleared flags) = Unit {0}
ClientAnswers frames cells base events asked (call.Flush count) = count ≡ flushes_of events + 1
ClientAnswers frames cells base events asked (call.Gain word) = Unit {0}
ClientAnswers frames cells base events asked (call.Sent front code argument) = IsOpenAt (client_kept frames base events) front (λ filled. filled + 2 ≤ frames)
ClientAnswers frames cells base events asked (call.SendFull front) = IsOpenAt (client_kept frames base events) front (λ filled. (filled ≤ frames) × (frames < filled + 2))
ClientAnswers frames cells base events asked (call.SendDead flags) = ((client_kept frames base events).shut ≡ None) × IsInvalid flags
ClientAnswers frames cells base events asked (call.SendCorrupt front rear) = IsOutside frames (client_kept frames base events) front rear
ClientAnswers frames cells base events asked (call.Status word) = Unit {0}
ClientAnswers frames cells base events asked (call.Poke command word value) = word < 7 + cells

-- The events of a call. A proxy that was shut before steps no more by a write or a send
abbrev pub client_call_events : Bool → ClientCall → List ClientEvent
client_call_events was_shut (call.Put front count) = client.SawFlags 0 ∷ client.SawFront front ∷ client.Release count ∷ []
client_call_events was_shut (call.Full front) = client.SawFlags 0 ∷ client.SawFront front ∷ []
client_call_events was_shut (call.Dead flags) = client.SawFlags flags ∷ []
client_call_events was_shut (call.Corrupt front rear) = if was_shut then [] else client.SawFlags 0 ∷ client.SawFront front ∷ []
client_call_events was_shut (call.Cleared flags) = client.ClearFlags flags ∷ []
client_call_events was_shut (call.Flush count) = client.Flush ∷ []
client_call_events was_shut (call.Gain word) = client.SetGain word ∷ []
client_call_events was_shut (call.Sent front code argument) = client.SawFlags 0 ∷ client.SawFront front ∷ client.Release 2 ∷ []
client_call_events was_shut (call.SendFull front) = client.SawFlags 0 ∷ client.SawFront front ∷ []
client_call_events was_shut (call.SendDead flags) = client.SawFlags flags ∷ []
client_call_events was_shut (call.SendCorrupt front rear) = if was_shut then [] else client.SawFlags 0 ∷ client.SawFront front ∷ []
client_call_events was_shut (call.Status word) = client.SawStatus word ∷ []
client_call_events was_shut (call.Poke command word value) = client.Poke word value ∷ []

-- the events of a call after these events
abbrev pub client_events_of : (frames base : ℕ) → List ClientEvent → ClientCall → List ClientEvent
client_events_of frames base events answer = client_call_events (is_some (client_kept frames base events).shut) answer

-- A client's list is what calls and meetings add, one after the other, each call answering by the list before it
pub data IsClientList (frames cells base : ℕ) : List ClientEvent → Type 0 where
  begins : IsClientList frames cells base []
  calls : (events : List ClientEvent) (asked : ℕ) (answer : ClientCall) → IsClientList frames cells base events → ClientAnswers frames cells base events asked answer
      → IsClientList frames cells base (events ++ client_events_of frames base events answer)
  meets : (events : List ClientEvent) (count : ℕ) → IsClientList frames cells base events → IsClientList frames cells base (events ++ client.Learn count ∷ [])
