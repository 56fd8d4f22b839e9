-- What a judge keeps of a track, and which calls of its client are right.
use Rattle.std.specs.Prelude.{◌≡◌, ◌⊎◌, ℕ, ◌-◌, ◌==◌, Bool, false, fold, MatchBool, List, [], ◌∷◌, take, drop, Some, None, if◌then◌else◌}
use Rattle.af_base.specs.declared.event.ClientCall.{ClientCall}
use Rattle.af_base.specs.declared.event.ClientCall.TheVariants as call
use Rattle.af_base.specs.declared.event.ClientEvent.{ClientEvent}
use Rattle.af_model.specs.declared.shape.Shape.{Shape}
use Rattle.af_model.specs.ClientCalls.{IsClientList, client_call_events}
use Rattle.af_runs.specs.declared.want.Want.{Want}
use Rattle.af_runs.specs.Clients.{at_next_turn, begun, next_want}
use Rattle.af_runs.specs.ClientTurns.{Side, Track, IsMade, after_call, is_of_commands, most_calls, wanted_of}
use Rattle.af_runs.specs.Kept.{client_of}
use Rattle.af_runs.specs.Runs.{TrackTold, sides_of}
use Rattle.af_script.specs.declared.op.Op.{Op}
use Rattle.af_judge.specs.declared.track_judge.TrackJudge.{TrackJudge}
use Rattle.af_judge.specs.Blocks.{BlockJudged, IsBlockOf, client_more, released_more}
use Rattle.af_judge.specs.Judging.{ClientJudged, IsKeptOf}

-- the track wants this call, which answers right
pub record IsCallOf (t : Track) (answer : ClientCall) : Type 0 where
  pub wanted : Want
  pub is : wanted_of t ≡ Some wanted
  pub made : IsMade t wanted answer

-- the track wants each of these calls, which answers right, after those before it
abbrev pub AreMade : Track → List ClientCall → Type 0
AreMade t [] = Unit {0}
AreMade t (answer ∷ calls) = IsCallOf t answer × AreMade (after_call t answer) calls

-- the client's side of a block
pub record IsSideOf (j : BlockJudged) (b : Side) : Type 0 where
  pub shape : j.shape ≡ b.shape
  pub events : j.client ≡ b.events
  pub released : j.released ≡ b.released

-- what is kept of a track whose client has these ops
pub record KeepsTrack (ops : List Op) (j : TrackJudge) (t : Track) : Type 0 where
  pub client : IsKeptOf ops j.client t
  pub stream : IsSideOf j.stream t.stream
  pub commands : IsSideOf j.commands t.commands

-- what is kept of a track of a run whose client has these ops
pub record IsTrackOf (ops : List Op) (j : TrackJudge) (t : TrackTold) : Type 0 where
  pub client : IsKeptOf ops j.client (sides_of t)
  pub stream : IsBlockOf j.stream t.stream
  pub commands : IsBlockOf j.commands t.commands

-- the words that a call releases, if so many were released of the file
abbrev pub words_by : ℕ → List ℕ → ClientCall → List ℕ
words_by released file (call.Put front count) = take count (drop released file)
words_by released file (call.Sent front code argument) = code ∷ argument ∷ []
words_by released file _ = []

-- the blocks after a call
abbrev pub blocks_told : Bool → ℕ → List ℕ → ClientCall → TrackJudge → TrackJudge
blocks_told was_shut released file answer j =
    let more : BlockJudged → BlockJudged = λ b. released_more (words_by released file answer) (client_more (client_call_events was_shut answer) b) in
    if is_of_commands answer then record j { commands = more j.commands } else record j { stream = more j.stream }

-- nothing but the client's side is another one
pub record SameServers (j k : TrackJudge) : Type 0 where
  pub stream : k.stream ≡ record j.stream { client = k.stream.client; released = k.stream.released }
  pub commands : k.commands ≡ record j.commands { client = k.commands.client; released = k.commands.released }

-- a turn that isn't cut ends here, and leaves this client; or it doesn't
abbrev pub EndsTurn : Bool → List Op → ClientJudged → ClientJudged → Type 0
EndsTurn ends ops j k = MatchBool ends
    ((next_want (begun (client_of ops j.client)) ≡ None) × (client_of ops k.client ≡ at_next_turn false (client_of ops j.client)) × (k.sides ≡ j.sides))
    (next_want (begun (client_of ops j.client)) ≡ None → ⊥)

-- where the calls of a turn end: none is left, or nothing is wanted
abbrev pub Ends : ℕ → Track → Type 0
Ends left t = (left ≡ 0) ⊎ (wanted_of t ≡ None)

-- the track when its turn ended after so many calls
abbrev pub ended_after : ℕ → Track → Track
ended_after count t = record t { client = at_next_turn (count == most_calls) t.client }

-- the turn ends after so many calls, and leaves this track, or it doesn't
abbrev pub TurnEnds : Bool → ℕ → List Op → TrackJudge → TrackJudge → Type 0
TurnEnds ends count ops j k = (t : Track) → KeepsTrack ops j t → MatchBool ends (Ends (most_calls - count) t × KeepsTrack ops k (ended_after count t)) (Ends (most_calls - count) t → ⊥)

-- each of the calls is made, and what is kept after them is kept of the track after them; or they aren't
abbrev pub Makes : Bool → List Op → List ℕ → List ClientCall → TrackJudge → TrackJudge → Type 0
Makes made ops file calls j k = (t : Track) → t.file ≡ file → KeepsTrack ops j t → MatchBool made (AreMade t calls × KeepsTrack ops k (fold after_call t calls)) (AreMade t calls → ⊥)

-- a client's list of a block of this shape
abbrev pub IsSpelled : Shape → List ClientEvent → Type 0
IsSpelled k events = IsClientList k.frames k.cells k.base events

-- both lists of a client
pub record AreSpelled (t : Track) : Type 0 where
  pub stream : IsSpelled t.stream.shape t.stream.events
  pub commands : IsSpelled t.commands.shape t.commands.events
