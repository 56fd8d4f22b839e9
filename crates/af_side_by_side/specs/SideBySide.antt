-- A round of all parties at once: each makes its turn, and then all meet.
use Rattle.std.specs.Prelude.{◌≡◌, ℕ, zero, suc, Bool, slice_index_or, ◌+◌, ◌-◌, ◌<◌, ◌≤◌, ◌^◌, ◌++◌, if◌then◌else◌, MatchBool, List, [], length, map, Option, Some, None}
use Rattle.std.specs.List.{AllZip}
use Rattle.af_base.specs.declared.event.ClientCall.{ClientCall}
use Rattle.af_base.specs.Roomy.{Roomy}
use Rattle.af_base.specs.Turn.{Turn, turn_of}
use Rattle.af_fast.specs.Mixer.{MixerState}
use Rattle.af_runs.specs.ClientTurns.{LegalClientTurn, after_calls}
use Rattle.af_life.specs.Kept.{Outside}
use Rattle.af_link.specs.declared.links.Links.{Links}
use Rattle.af_model.specs.Journals.{RoundNoted}
use Rattle.af_normal.specs.LegalTurned.{IsLegal}
use Rattle.af_normal.specs.Meeting.{AreClientsOf}
use Rattle.af_normal.specs.Order.{IsInOrder as IsNormalInOrder}
use Rattle.af_normal.specs.State.{NormalState}
use Rattle.af_normal.specs.TurnMade.{TurnMade, answer_of}
use Rattle.af_side_by_side.specs.Alone.{FastTurned}
use Rattle.af_session.specs.Met.{Met}
use Rattle.af_session.specs.Rooms.{CanCycle}
use Rattle.af_party.specs.Parties.{PartyState, track_of}
use Rattle.af_session.specs.Rounds.{Given, file_at, ops_at, with_ends}
use Rattle.af_tally.specs.Sound.{pcm_of}
use Rattle.af_tally.specs.Summaries.{Shown, with_calls, with_turn}
use Rattle.af_session.specs.Together.{AreTogether, SessionState}
use Rattle.af_party.specs.Works.{CanWork}

-- ## The turns

-- a client made the calls of a legal turn, by its ops and its file; one that has ended makes none
pub record ClientPlayed (g : Given) (p q : PartyState) : Type 0 where
  pub legal : LegalClientTurn (track_of (ops_at g p.track) (file_at g p.track) p) q.calls.items
  pub turned : track_of (ops_at g p.track) (file_at g p.track) q ≡ after_calls (track_of (ops_at g p.track) (file_at g p.track) p) q.calls.items

-- the normal mixer made a legal turn, by what it saw outside and by its steps
abbrev pub TurnPlayed : NormalState → NormalState → Type 0
TurnPlayed m m' = (o : Outside) × IsLegal o m m' × TurnMade (answer_of (turn_of m'.entry)) m m'

-- the normal mixer made a legal turn; one that has ended makes none
abbrev pub NormalPlayed : NormalState → NormalState → Type 0
NormalPlayed m m' = MatchBool m.ended (m' ≡ m) (TurnPlayed m m')

-- the turn of the normal mixer that the journal notes of a round, if it made one
abbrev pub turn_noted : NormalState → NormalState → Option Turn
turn_noted m m' = if m.ended then None else Some (turn_of m'.entry)

-- what the journal notes of a round: the calls of each client, the normal mixer's turn if it made one, and how many entries came
abbrev pub all_noted : SessionState → SessionState → RoundNoted
all_noted s t = record {
  calls = map (λ (p : PartyState). p.calls.items) t.clients;
  turn = turn_noted s.normal t.normal;
  cycles = length t.fast.log.entries - length s.fast.log.entries;
}

-- each party made its turn, at the same time as the others, over these links
pub record AllPlayed (links : Links) (g : Given) (s t : SessionState) (bytes : List ℕ) : Type 0 where
  pub clients : AllZip (ClientPlayed g) s.clients t.clients
  pub normal : NormalPlayed s.normal t.normal
  pub fast : FastTurned links s.fast bytes t.fast

-- ## The round

-- The round: the turns, then the meetings of all, and then the ends. The parties belong together before the turns, after them and after the meetings, over the same links
pub record IsRoundOfAll (g : Given) (s : SessionState) (r : RoundNoted) (bytes : List ℕ) (t : SessionState) : Type 0 where
  pub turned : SessionState
  pub met : SessionState
  pub links : Links
  pub plays : AllPlayed links g s turned bytes
  pub told : r ≡ all_noted s turned
  pub meets : Met turned met
  pub ends : t ≡ with_ends met
  pub together : AreTogether links s × AreTogether links turned × AreTogether links met

-- ## What each party needs for its turn, and has after it

-- a client has the proxies of its two blocks, can do what is left of its work, and has room for 128 words more
pub record CanTurn (links : Links) (g : Given) (p : PartyState) : Type 0 where
  pub track : (p.track < length g.tracks) × (p.track < length g.files)
  pub clients : AreClientsOf links p.track p.stream p.command
  pub work : CanWork (ops_at g p.track) (length (file_at g p.track)) p
  pub few : p.command.released + 128 ≤ 2 ^ 62

-- a client made a turn, and is as ready for the next one
pub record HasTurned (links : Links) (g : Given) (p q : PartyState) : Type 0 where
  pub played : ClientPlayed g p q
  pub track : q.track ≡ p.track
  pub clients : AreClientsOf links q.track q.stream q.command
  pub work : CanWork (ops_at g p.track) (length (file_at g p.track)) q
  pub few : q.command.released ≤ p.command.released + 128

-- the normal mixer is in order, and has made few turns
pub record CanMixOn (links : Links) (m : NormalState) : Type 0 where
  pub order : IsNormalInOrder links m
  pub few : m.turns < 131072

-- the normal mixer made a turn, if it hadn't ended
pub record HasMixedOn (links : Links) (m m' : NormalState) : Type 0 where
  pub played : NormalPlayed m m'
  pub order : IsNormalInOrder links m'
  pub turns : m'.turns ≤ m.turns + 1

-- The fast mixer made a turn, if it hadn't ended. The bytes of what it mixed were put behind others. If the bytes, behind those that went out before, were the sound of its log, they are so again
pub record HasCycledOn (links : Links) (m m' : MixerState) (bytes bytes' : Roomy ℕ) : Type 0 where
  pub added : List ℕ
  pub written_is : bytes' ≡ record bytes { items = bytes.items ++ added }
  pub played : FastTurned links m added m'
  pub can : CanCycle links m'
  pub sizes : (m'.frames ≡ m.frames) × (m'.cycles ≡ m.cycles)
  pub sound : (before : List ℕ) → before ++ bytes.items ≡ pcm_of m.frames m.log → before ++ bytes'.items ≡ pcm_of m.frames m'.log

-- a run goes on by the calls of the first so many clients, by their places
abbrev pub with_all_calls : List (List ClientCall) → ℕ → Shown → Shown
with_all_calls made zero run = run
with_all_calls made (suc i) run = with_calls (with_all_calls made i run) i (slice_index_or made i [])

-- a run goes on by the normal mixer's turn, if it hadn't ended
abbrev pub with_turn_if : Bool → Turn → Shown → Shown
with_turn_if had_ended turn run = if had_ended then run else with_turn run turn
