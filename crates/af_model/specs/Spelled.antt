-- Lists as what proxies do: functions from the calls and the meetings of a client or a server to its events. What was kept before each step is carried along.
use Rattle.std.specs.Prelude.{◌≡◌, ℕ, ◌+◌, ◌≤◌, Bool, true, false, if◌then◌else◌, is_some, fold, List, [], ◌∷◌, ◌++◌, Option, Some, None}
use Rattle.af_base.specs.declared.event.ClientCall.{ClientCall}
use Rattle.af_base.specs.declared.event.ClientCall.TheVariants as call
use Rattle.af_base.specs.declared.event.ClientEvent.{ClientEvent}
use Rattle.af_base.specs.declared.event.ClientEvent.TheVariants as client
use Rattle.af_base.specs.declared.event.ServerEvent.{ServerEvent}
use Rattle.af_base.specs.declared.event.ServerEvent.TheVariants as server
use Rattle.af_base.specs.declared.seen.Seen.{Seen}
use Rattle.af_model.specs.declared.shape.Shape.{Shape}
use Rattle.af_model.specs.Point.{wrapped}
use Rattle.af_model.specs.ClientCalls.{ClientKept, client_keeps, client_begins, client_kept, ClientAnswers, client_call_events}
use Rattle.af_model.specs.ServerCalls.{ServerKept, server_keeps, server_begins, look_at, look_events, shown_by}

-- ## Clients

-- a block is the stream of a track, or carries its commands
pub data Kind : Type 0 where
  stream : Kind
  commands : Kind

abbrev pub is_stream : Kind → Bool
is_stream stream = true
is_stream commands = false

abbrev pub is_commands : Kind → Bool
is_commands stream = false
is_commands commands = true

-- the call is made on a block of this kind
abbrev pub is_on : Kind → ClientCall → Bool
is_on kind (call.Sent front code argument) = is_commands kind
is_on kind (call.SendFull front) = is_commands kind
is_on kind (call.SendDead flags) = is_commands kind
is_on kind (call.SendCorrupt front rear) = is_commands kind
is_on kind (call.Status word) = is_commands kind
is_on kind (call.Poke command word value) = if command then is_commands kind else is_stream kind
is_on kind _ = is_stream kind

-- a client calls, or meets the server, which made so many events
pub data ClientStep : Type 0 where
  called : ClientCall → ClientStep
  met_server : (count : ℕ) → ClientStep

-- the events of a step on a block of this kind. A call on the other kind of block spells nothing
abbrev pub client_step_events : Kind → ClientKept → ClientStep → List ClientEvent
client_step_events kind kept (called answer) = if is_on kind answer then client_call_events (is_some kept.shut) answer else []
client_step_events kind kept (met_server count) = client.Learn count ∷ []

-- the events of some steps, after what is kept
abbrev pub client_spells : Kind → (frames : ℕ) → ClientKept → List ClientStep → List ClientEvent
client_spells kind frames kept [] = []
client_spells kind frames kept (s ∷ steps) =
    client_step_events kind kept s ++ client_spells kind frames (fold (client_keeps frames) kept (client_step_events kind kept s)) steps

-- the list of a client that took these steps, on a block of so many frames whose first position is the base
abbrev pub client_spelled : Kind → (frames base : ℕ) → List ClientStep → List ClientEvent
client_spelled kind frames base steps = client_spells kind frames (client_begins base) steps

-- a call on this kind of block answers by the list before it
abbrev pub StepAnswers : Kind → (frames cells base : ℕ) → List ClientEvent → ClientStep → Type 0
StepAnswers kind frames cells base events (called answer) = is_on kind answer ≡ true → (asked : ℕ) × ClientAnswers frames cells base events asked answer
StepAnswers kind frames cells base events (met_server count) = Unit {0}

-- each call of some steps answers by the list before it
abbrev pub AllAnswer : Kind → (frames cells base : ℕ) → List ClientEvent → List ClientStep → Type 0
AllAnswer kind frames cells base events [] = Unit {0}
AllAnswer kind frames cells base events (s ∷ steps) =
    StepAnswers kind frames cells base events s × AllAnswer kind frames cells base (events ++ client_step_events kind (client_kept frames base events) s) steps

-- ## Servers

-- a server looks for so many frames and sees these words, takes what it was shown, reads the gains, tallies missing frames, sets flags or a status, or meets the client, which made so many events
pub data ServerStep : Type 0 where
  looked : (asked flush rear front : ℕ) → ServerStep
  took : (count : ℕ) → ServerStep
  read_gains : (word : ℕ) → ServerStep
  tallied : (missing : ℕ) → ServerStep
  set_flags : (bits : ℕ) → ServerStep
  set_status : (word : ℕ) → ServerStep
  met_client : (count : ℕ) → ServerStep

-- what a look shows by the words seen and what was kept
abbrev pub sight_of : Shape → ServerKept → (asked flush rear front : ℕ) → Seen
sight_of k kept asked flush rear front = look_at k kept.flush asked flush rear front

-- the events of a step. A server that was shut looks no more
abbrev pub server_step_events : Shape → ServerKept → ServerStep → List ServerEvent
server_step_events k kept (looked asked flush rear front) = if is_some kept.shut then [] else look_events (sight_of k kept asked flush rear front) flush rear front
server_step_events k kept (took count) = server.Take count ∷ []
server_step_events k kept (read_gains word) = server.SawGain word ∷ []
server_step_events k kept (tallied missing) = server.Tally missing ∷ server.SetFlags 1 ∷ []
server_step_events k kept (set_flags bits) = server.SetFlags bits ∷ []
server_step_events k kept (set_status word) = server.SetStatus word ∷ []
server_step_events k kept (met_client count) = server.Learn count ∷ []

-- the events of some steps, after what is kept
abbrev pub server_spells : Shape → ServerKept → List ServerStep → List ServerEvent
server_spells k kept [] = []
server_spells k kept (s ∷ steps) = server_step_events k kept s ++ server_spells k (fold (server_keeps k) kept (server_step_events k kept s)) steps

-- the list of a server that took these steps
abbrev pub server_spelled : Shape → List ServerStep → List ServerEvent
server_spelled k steps = server_spells k (server_begins k) steps

-- how many frames may be taken after a step: those that it showed, if it was a look that showed some
abbrev pub shown_after : Shape → ServerKept → Option ℕ → ServerStep → Option ℕ
shown_after k kept shown (looked asked flush rear front) = if is_some kept.shut then None else shown_by (sight_of k kept asked flush rear front)
shown_after k kept shown (met_client count) = shown
shown_after k kept shown _ = None

-- a look asks for some frames, a take takes all that were shown, and a tally counts some
abbrev pub StepMay : Option ℕ → ServerStep → Type 0
StepMay shown (looked asked flush rear front) = 1 ≤ asked
StepMay shown (took count) = shown ≡ Some count
StepMay shown (tallied missing) = 1 ≤ missing
StepMay shown _ = Unit {0}

-- each step may follow those before it
abbrev pub AllMay : Shape → ServerKept → Option ℕ → List ServerStep → Type 0
AllMay k kept shown [] = Unit {0}
AllMay k kept shown (s ∷ steps) = StepMay shown s × AllMay k (fold (server_keeps k) kept (server_step_events k kept s)) (shown_after k kept shown s) steps

-- how many frames may be taken after some steps
abbrev pub shown_at_end : Shape → ServerKept → Option ℕ → List ServerStep → Option ℕ
shown_at_end k kept shown [] = shown
shown_at_end k kept shown (s ∷ steps) = shown_at_end k (fold (server_keeps k) kept (server_step_events k kept s)) (shown_after k kept shown s) steps

-- ## Fronts

-- the server's own front, by its list: the word of the position that it took and dropped up to
abbrev pub own_front : Shape → ServerKept → ℕ
own_front k kept = wrapped (k.base + kept.consumed)

-- a look sees the server's own front
abbrev pub SeesOwn : Shape → ServerKept → ServerEvent → Type 0
SeesOwn k kept (server.SawFront front) = front ≡ own_front k kept
SeesOwn k kept _ = Unit {0}

-- each look of some events sees the server's own front
abbrev pub AllSeeOwn : Shape → ServerKept → List ServerEvent → Type 0
AllSeeOwn k kept [] = Unit {0}
AllSeeOwn k kept (e ∷ es) = SeesOwn k kept e × AllSeeOwn k (server_keeps k kept e) es
