-- What the meetings of a round leave of the tracks and of the mixers, and what they answer.
use Rattle.std.specs.Prelude.{◌≡◌, ℕ, ◌<◌, ◌≤◌, ◌||◌, Bool, List, Option, None}
use Rattle.af_life.specs.Kept.{is_home, track_at}
use Rattle.af_judge.specs.declared.track_judge.TrackJudge.{TrackJudge}
use Rattle.af_judge.specs.BlocksMet.{AreShort, BothKeep, blocks_met}
use Rattle.af_judge.specs.FastKept.{carries_track}
use Rattle.af_judge.specs.NormalTold.{IsTrackAt}
use Rattle.af_judge.specs.PipeKept.{with_meeting}
use Rattle.af_judge.specs.QueueNumbers.{met}
use Rattle.af_judge.specs.Reporting.{adopted_in}
use Rattle.af_audit.specs.declared.run_judge.RunJudge.{RunJudge}
use Rattle.af_audit.specs.RunKept.{LeastBelow}

-- the stream proxy of a track takes part in a meeting: it is home, or the fast mixer has it
abbrev pub is_there : RunJudge → ℕ → Bool
is_there j track = is_home (track_at j.normal.plain.kept.tracks track).holder || carries_track (adopted_in j.fast.told j.normal.states) track

-- the track of a number has the histories of its blocks
abbrev pub Keeps : RunJudge → List TrackJudge → ℕ → Type 0
Keeps j tracks i = (t : TrackJudge) → IsTrackAt tracks i t → BothKeep (is_there j i) t

-- the first tracks have met the mixers, and the least track is found one of whose blocks has no history
pub record TracksMet (j : RunJudge) (count : ℕ) (before after : List TrackJudge) (found : Option ℕ) : Type 0 where
  pub met : (i : ℕ) (t k : TrackJudge) → i < count → IsTrackAt before i t → IsTrackAt after i k → k ≡ blocks_met (is_there j i) j.normal.handed t
  pub short : (i : ℕ) (k : TrackJudge) → i < count → IsTrackAt after i k → AreShort (is_there j i) k
  pub others : (i : ℕ) (t : TrackJudge) → count ≤ i → IsTrackAt after i t → IsTrackAt before i t
  pub least : LeastBelow (Keeps j after) count found

-- the mixers after their meeting
abbrev pub mixers_met : RunJudge → RunJudge
mixers_met j = record j { fast = record j.fast { queue = met j.fast.queue; pipe = with_meeting j.fast.pipe }; report = record { met = j.fast.told.report.cycle; loaded = None } }
