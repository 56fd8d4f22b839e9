-- The rounds of an offline session: each entry of the script's turns is a round of one party, after which all parties meet.
use Rattle.std.specs.Prelude.{◌≡◌, ℕ, ◌*◌, ◌-◌, ◌≤◌, ◌++◌, true, false, if◌then◌else◌, MatchBool, List, [], ◌∷◌, length, map, replicate, slice_get, slice_set, slice_index_or, Option, Some, None}
use Rattle.af_base.specs.declared.event.ClientCall.{ClientCall}
use Rattle.af_base.specs.declared.frame.Frame.{Frame}
use Rattle.af_base.specs.Turn.{Turn, turn_of}
use Rattle.af_runs.specs.ClientTurns.{LegalClientTurn, after_calls}
use Rattle.af_life.specs.Kept.{Outside}
use Rattle.af_model.specs.Journals.{RoundNoted}
use Rattle.af_normal.specs.LegalTurned.{IsLegal}
use Rattle.af_normal.specs.TurnMade.{TurnMade, answer_of}
use Rattle.af_link.specs.declared.links.Links.{Links}
use Rattle.af_script.specs.declared.op.Op.{Op}
use Rattle.af_script.specs.declared.op.TurnSpec.{TurnSpec}
use Rattle.af_script.specs.declared.op.TurnSpec.TheVariants as spec
use Rattle.af_script.specs.declared.track.TrackSpec.{TrackSpec}
use Rattle.af_session.specs.FastTurns.{IsFastTurn}
use Rattle.af_session.specs.Met.{Met}
use Rattle.af_party.specs.Parties.{PartyState, track_of}
use Rattle.af_tally.specs.Sound.{IsWhole}
use Rattle.af_session.specs.Together.{SessionState, AreTogether, StayTogether}
use Rattle.af_party.specs.Works.{CanWork}

-- what the clients are given: the tracks of the script, and the frames of their files
pub record Given : Type 0 where
  pub tracks : List TrackSpec
  pub files : List (List Frame)

-- the ops of a track, if there is one
abbrev pub ops_of : Option TrackSpec → List Op
ops_of None = []
ops_of (Some t) = t.ops

-- the ops of the track at this place
abbrev pub ops_at : Given → ℕ → List Op
ops_at g i = ops_of (slice_get g.tracks i)

-- the frames of the file of the track at this place
abbrev pub file_at : Given → ℕ → List Frame
file_at g i = slice_index_or g.files i []

-- ## A turn of one party

-- the client of a track made these calls by its ops and its file, which are legal; all else stays
pub record ClientTurned (g : Given) (i : ℕ) (s t : SessionState) (calls : List ClientCall) : Type 0 where
  pub before : PartyState
  pub was : slice_get s.clients i ≡ Some before
  pub after : PartyState
  pub made : calls ≡ after.calls.items
  pub legal : LegalClientTurn (track_of (ops_at g i) (file_at g i) before) calls
  pub turned : track_of (ops_at g i) (file_at g i) after ≡ after_calls (track_of (ops_at g i) (file_at g i) before) calls
  pub leaves : t ≡ record s { clients = slice_set s.clients i after }

-- the normal mixer made a legal turn, by its steps; all else stays
pub record NormalTurned (s t : SessionState) (e : Turn) : Type 0 where
  pub outside : Outside
  pub legal : IsLegal outside s.normal t.normal
  pub told : e ≡ turn_of t.normal.entry
  pub made : TurnMade (answer_of e) s.normal t.normal
  pub leaves : t ≡ record s { normal = t.normal }

-- no client made a call
abbrev pub no_calls : SessionState → List (List ClientCall)
no_calls s = replicate (length s.clients) []

-- a round in which nothing was done
abbrev pub still_round : SessionState → RoundNoted
still_round s = record { calls = no_calls s; turn = None; cycles = 0 }

-- a round with the calls of one client
abbrev pub client_round : SessionState → ℕ → List ClientCall → RoundNoted
client_round s i calls = record (still_round s) { calls = slice_set (no_calls s) i calls }

-- a round with a turn of the normal mixer
abbrev pub normal_round : SessionState → Turn → RoundNoted
normal_round s e = record (still_round s) { turn = Some e }

-- a round with cycles of the fast mixer
abbrev pub fast_round : SessionState → SessionState → RoundNoted
fast_round s t = record (still_round s) { cycles = length t.fast.log.entries - length s.fast.log.entries }

-- The turn that the script names: what it leaves, what the journal notes of it, and the bytes that it adds to the sound. A mixer that has ended does nothing
abbrev pub Turns : Given → TurnSpec → SessionState → RoundNoted → List ℕ → SessionState → Type 0
Turns g (spec.Client i) s r bytes t = (bytes ≡ []) × (calls : List ClientCall) × (r ≡ client_round s i calls) × ClientTurned g i s t calls
Turns g spec.Normal s r bytes t = (bytes ≡ []) × MatchBool s.normal.ended ((r ≡ still_round s) × (t ≡ s)) ((e : Turn) × (r ≡ normal_round s e) × NormalTurned s t e)
Turns g (spec.Fast count) s r bytes t = MatchBool s.fast.exited ((r ≡ still_round s) × (bytes ≡ []) × (t ≡ s)) ((r ≡ fast_round s t) × IsFastTurn count s bytes t)

-- ## A round

-- a client that has ended
abbrev pub end_party : PartyState → PartyState
end_party p = record p { client = record p.client { ended = true } }

-- the parties, of which every client has ended if the normal mixer has
abbrev pub with_ends : SessionState → SessionState
with_ends s = if s.normal.ended then record s { clients = map end_party s.clients } else s

-- A round: the turn, then the meetings of all, and then the ends. The parties belong together all the while
pub record IsRound (g : Given) (turn : TurnSpec) (s : SessionState) (r : RoundNoted) (bytes : List ℕ) (t : SessionState) : Type 0 where
  pub turned : SessionState
  pub met : SessionState
  pub turns : Turns g turn s r bytes turned
  pub meets : Met turned met
  pub ends : t ≡ with_ends met
  pub together : StayTogether s turned met

-- the calls of the last turn of a client
abbrev pub calls_in : Option PartyState → List ClientCall
calls_in None = []
calls_in (Some p) = p.calls.items

-- what a journal notes of a round, by the parties before it and after it
abbrev pub round_told : TurnSpec → SessionState → SessionState → RoundNoted
round_told (spec.Client i) s t = client_round s i (calls_in (slice_get t.clients i))
round_told spec.Normal s t = if s.normal.ended then still_round s else normal_round s (turn_of t.normal.entry)
round_told (spec.Fast count) s t = fast_round s t

-- ## A run

-- the rounds of these turns, one after the other, from s to t, with what the journal notes and the bytes of the sound
abbrev pub IsTurnRun : Given → List TurnSpec → SessionState → List RoundNoted → List ℕ → SessionState → Type 0
IsTurnRun g [] s rounds bytes t = (rounds ≡ []) × (bytes ≡ []) × (t ≡ s)
IsTurnRun g (turn ∷ turns) s rounds bytes t = (r : RoundNoted) × (rs : List RoundNoted) × (front : List ℕ) × (back : List ℕ) × (m : SessionState)
    × (rounds ≡ r ∷ rs) × (bytes ≡ front ++ back) × IsRound g turn s r front m × IsTurnRun g turns m rs back t

-- ## What each round finds

-- The parties belong together, the fast mixer is between two cycles, and each client can do what is left of its work. After so many rounds no client has sent more commands, and the normal mixer has made no more turns, than the rounds allow
pub record IsReady (links : Links) (g : Given) (rounds : ℕ) (s : SessionState) : Type 0 where
  pub together : AreTogether links s
  pub between : s.fast.adopted ≡ false
  pub given : (length g.tracks ≡ length s.clients) × (length g.files ≡ length s.clients)
  pub works : (i : ℕ) (p : PartyState) → slice_get s.clients i ≡ Some p → CanWork (ops_at g i) (length (file_at g i)) p
  pub few : (i : ℕ) (p : PartyState) → slice_get s.clients i ≡ Some p → p.command.released ≤ 128 * rounds
  pub turns : s.normal.turns ≤ rounds
  pub whole : IsWhole s.fast.log
