-- What a turn of the normal mixer tells the blocks that a judge keeps, and when it is right by them.
use Rattle.std.specs.Prelude.{◌≡◌, ℕ, ◌<◌, ◌≤◌, ◌&&◌, not, Bool, true, MatchBool, fold, if◌then◌else◌, List, [], ◌∷◌, length, map, slice_index_or, Option, Some, None}
use Rattle.std.specs.List.{AllByRecursion}
use Rattle.af_base.specs.declared.event.HandEvent.TheVariants as hand
use Rattle.af_base.specs.declared.event.ServerEvent.TheVariants as server
use Rattle.af_base.specs.declared.report.Report.{Report}
use Rattle.af_base.specs.declared.turn.CommandLook.{CommandLook}
use Rattle.af_base.specs.Log.{count_seen}
use Rattle.af_base.specs.Sample.{packed_word}
use Rattle.af_base.specs.Turn.{Turn, TakeSeen, TrackSeen, ended_turn}
use Rattle.af_life.specs.declared.kept.Heard.{Heard}
use Rattle.af_life.specs.declared.kept.TrackKept.{TrackKept}
use Rattle.af_life.specs.Edits.{after_ack}
use Rattle.af_life.specs.Heard.{heard, known_by}
use Rattle.af_life.specs.Kept.{Setup, Learnt, NormalKept, asked, is_home, track_at, track_in}
use Rattle.af_life.specs.Plain.{learnt_of}
use Rattle.af_life.specs.Serves.{is_found_shut}
use Rattle.af_life.specs.Turn.{ends_now}
use Rattle.af_life.specs.TurnEvents.{takes_from}
use Rattle.af_judge.specs.declared.track_judge.TrackJudge.{TrackJudge}
use Rattle.af_judge.specs.Blocks.{BlockJudged, commanded_told, hand_more, listed_in, played_told, server_more}
use Rattle.af_judge.specs.NormalLooks.{AllAnswer}
use Rattle.af_judge.specs.NormalTurns.{Begins, Serves}
use Rattle.af_judge.specs.Servers.{LooksRightly}

-- ## What is told

-- the looks at a command block
abbrev pub looks_told : List CommandLook → BlockJudged → BlockJudged
looks_told looks j = fold (λ j look. commanded_told look j) j looks

-- INVALID, if a track is found shut
abbrev pub shut_told : Bool → BlockJudged → BlockJudged
shut_told shut j = if shut then server_more (server.SetFlags 4 ∷ []) j else j

-- the status, if it is stored
abbrev pub status_told : Option ℕ → BlockJudged → BlockJudged
status_told None j = j
status_told (Some word) j = server_more (server.SetStatus word ∷ []) j

-- DISABLED, if it is set
abbrev pub disabled_told : Bool → BlockJudged → BlockJudged
disabled_told disabled j = if disabled then hand_more (hand.SetFlags 8 ∷ []) j else j

-- the track was found shut, as the turn found it and by what it heard of it
abbrev pub is_shut_now : TrackKept → Heard → TrackSeen → Bool
is_shut_now found heard seen = not found.life.ended && is_found_shut heard seen.looks

-- what a turn did for a track before its takes
abbrev pub track_told : TrackKept → Heard → TrackSeen → TrackJudge → TrackJudge
track_told found heard seen t =
    let shut = is_shut_now found heard seen in
    record t {
      stream = shut_told (shut && is_home found.holder) (disabled_told seen.disabled t.stream);
      commands = status_told seen.status (shut_told shut (looks_told seen.looks t.commands));
    }

-- the take for the buffer
abbrev pub take_told : ℕ → TakeSeen → TrackJudge → TrackJudge
take_told asked take t = record t { stream = played_told asked take.slot (map packed_word take.frames) t.stream }

-- t is the track of a number
abbrev pub IsTrackAt : List TrackJudge → ℕ → TrackJudge → Type 0
IsTrackAt tracks i t = (i < length tracks) × (t ≡ slice_index_or tracks i t)

-- what a turn did for the first tracks before its takes is noted in them, and nothing in the others
pub record AllTold (k : Learnt) (m : NormalKept) (e : Turn) (before after : List TrackJudge) (count : ℕ) : Type 0 where
  pub told : (i : ℕ) (t : TrackJudge) → i < count → IsTrackAt before i t → IsTrackAt after i (let found = track_at (after_ack e.ack m).tracks i in track_told found (heard k i found) (track_in e i) t)
  pub others : (i : ℕ) (t : TrackJudge) → count ≤ i → IsTrackAt before i t → IsTrackAt after i t

-- a take is noted in its track, and nothing in another one
pub record IsTaken (asked : ℕ) (take : TakeSeen) (before after : List TrackJudge) : Type 0 where
  pub told : (t : TrackJudge) → IsTrackAt before take.track t → IsTrackAt after take.track (take_told asked take t)
  pub others : (i : ℕ) (t : TrackJudge) → (i ≡ take.track → ⊥) → IsTrackAt before i t → IsTrackAt after i t

-- the takes of each track are noted in it
abbrev pub AreTaken : ℕ → List TakeSeen → List TrackJudge → List TrackJudge → Type 0
AreTaken asked takes before after = (i : ℕ) (t : TrackJudge) → IsTrackAt before i t → IsTrackAt after i (fold (λ t take. take_told asked take t) t (takes_from takes i))

-- what a turn leaves of the tracks: what it did for each is noted first, and then the takes
pub record IsTold (c : Setup) (k : Learnt) (m : NormalKept) (e : Turn) (before after : List TrackJudge) : Type 0 where
  pub between : List TrackJudge
  pub many : length between ≡ length before
  pub told : AllTold k m e before between (length before)
  pub taken : AreTaken (asked c) e.mixes between after

-- ## What is right

-- the looks at the command blocks of the first tracks answer
abbrev pub LooksRight : Turn → List TrackJudge → ℕ → Type 0
LooksRight e tracks count = (i : ℕ) (t : TrackJudge) → i < count → IsTrackAt tracks i t → AllAnswer t.commands.lawful (listed_in t.commands) (track_in e i).looks

-- what is known of the stream proxies
abbrev pub all_known : List TrackJudge → List Heard
all_known tracks = map (λ t. known_by (listed_in t.stream)) tracks

-- the look of a take of a track answers as its words say, all frames shown are taken, and its place is 0
pub record TakeRight (asked : ℕ) (t : TrackJudge) (take : TakeSeen) : Type 0 where
  pub looks : LooksRightly t.stream.lawful asked (listed_in t.stream) take.slot
  pub frames : length take.frames ≡ count_seen take.slot.seen
  pub place : take.slot.first ≡ 0

-- the take is one of a track, for which it is right
pub record IsRightTake (asked : ℕ) (tracks : List TrackJudge) (take : TakeSeen) : Type 0 where
  pub track : TrackJudge
  pub is : IsTrackAt tracks take.track track
  pub right : TakeRight asked track take

-- a turn that went on is right
pub record RightTurn (c : Setup) (loaded : Report) (tracks : List TrackJudge) (m : NormalKept) (e : Turn) : Type 0 where
  pub begins : Begins c loaded m e
  pub serves : Serves c (learnt_of loaded (all_known tracks)) m e
  pub looks : LooksRight e tracks (length tracks)
  pub takes : AllByRecursion (IsRightTake (asked c) tracks) e.mixes

-- a turn is right
abbrev pub IsRight : Setup → Report → List TrackJudge → NormalKept → Turn → Type 0
IsRight c loaded tracks m e = MatchBool e.ended ((ends_now m e.ack ≡ true) × (e ≡ ended_turn)) (RightTurn c loaded tracks m e)

-- ## What a run tells
