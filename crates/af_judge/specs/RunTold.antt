-- What a judge keeps of a run within a round: the mixers' sides of each track, whatever its client did, and the whole of each track whose client made a legal turn.
use Rattle.std.specs.Prelude.{◌≡◌, ℕ, ◌≤◌, ◌^◌, false, List, length}
use Rattle.af_runs.specs.Blocks.{BlockTold, Marks, hand_list, server_list}
use Rattle.af_runs.specs.Runs.{Run, TrackTold, told_at}
use Rattle.af_runs.specs.Sessions.{Session, setup_of, spec_of, track_count}
use Rattle.af_model.specs.ServerCalls.{server_begins}
use Rattle.af_judge.specs.declared.track_judge.TrackJudge.{TrackJudge}
use Rattle.af_judge.specs.Blocks.{AllFollow, BlockJudged, WholeTakes, taken_in}
use Rattle.af_judge.specs.NormalJudged.{IsJudged, NormalJudged}
use Rattle.af_judge.specs.NormalTold.{IsTrackAt}
use Rattle.af_judge.specs.Tracks.{IsTrackOf}

-- what the server and the hand of a block did is kept, and what was taken
pub record IsServedBlock (j : BlockJudged) (b : BlockTold) : Type 0 where
  pub shape : j.shape ≡ b.shape
  pub server : j.server ≡ server_list b
  pub hand : j.hand ≡ hand_list b
  pub taken : j.taken ≡ taken_in b.shape (server_begins b.shape) (server_list b) b.taken
  pub whole : WholeTakes (server_list b) b.taken
  pub follow : AllFollow false (server_list b)

-- both blocks of a track are kept as served blocks, with the marks of the journal
pub record IsServedTrack (marks : Marks) (n : ℕ) (j : TrackJudge) (t : TrackTold) : Type 0 where
  pub stream : IsServedBlock j.stream t.stream
  pub commands : IsServedBlock j.commands t.commands
  pub lawful_stream : marks.streams n ≡ j.stream.lawful
  pub lawful_commands : marks.commands n ≡ j.commands.lawful
  pub wrap_stream : t.stream.shape.wrap ≤ 2 ^ 31
  pub wrap_commands : t.commands.shape.wrap ≤ 2 ^ 31

-- each track of a run is kept as a served track, and each of which `Whole` holds is kept whole
pub record KeepsTracks (s : Session) (marks : Marks) (Whole : ℕ → Type 0) (tracks : List TrackJudge) (run : Run) : Type 0 where
  pub many : length tracks ≡ length run.tracks
  pub all : length tracks ≡ track_count s
  pub served : (n : ℕ) (t : TrackJudge) → IsTrackAt tracks n t → IsServedTrack marks n t (told_at run n)
  pub whole : (n : ℕ) (t : TrackJudge) → IsTrackAt tracks n t → Whole n → IsTrackOf (spec_of s n).ops t (told_at run n)

-- the normal mixer, the states it pushed, and whether it made its hands
pub record NormalOf (s : Session) (run : Run) (j : NormalJudged) : Type 0 where
  pub judged : IsJudged j
  pub setup : j.setup ≡ setup_of s
  pub kept : j.plain.kept ≡ run.normal
  pub states : j.states ≡ run.states
  pub handed : j.handed ≡ run.handed
