-- What is carried of a track that plays through from round to round, and that a round keeps it in which the proxy of its stream takes part in the meeting.
use Rattle.std.proofs.Common.{◌≡◌, ℕ, ◌≤◌, Bool, true, false, List, refl}
use Rattle.af_enough_law.proofs.Common.{LegalRound, Marks, RoundSeen, Run, ServerEvent, Session, after_round, calls_in, met_after, server_list, setup_of, sides_of, takes_part, told_at, track_at, track_in}
use Rattle.af_enough_law.proofs.NormalRounds.{TurnMade}
use Rattle.af_enough_law.proofs.Playing.{AreFair}
use Rattle.af_enough_law.specs.Seen.{frames_taken}
use Rattle.af_enough_law.proofs.Able.{able_any}
use Rattle.af_enough_law.proofs.CalmRuns.{calls_fair, goes_calm}
use Rattle.af_enough_law.proofs.CalmTracks.{CalmTrack, CalmTurn, known_stream_then, known_commands_then, known_all}
use Rattle.af_enough_law.proofs.CommandsGo.{OpenTurn, commands_of}
use Rattle.af_enough_law.proofs.CourseGoes.{OnCourse, CourseGone, course_goes}
use Rattle.af_enough_law.proofs.SentCourse.{sent_course}
use Rattle.af_enough_law.proofs.TrackGoes.{goes_by, argued_by}
use Rattle.af_enough_law.proofs.Turning.{Stands}

-- A track whose proxy took part in the last meeting. What its client still has to do is bounded by `most` (its ops) and `total` (its frames left and its position)
pub record TrackCarried (run : Run) (i most total : ℕ) : Type 0 where
  -- what its client has learnt of the two servers
  pub known_stream : List ServerEvent
  pub known_commands : List ServerEvent
  -- the client has learnt of all that the stream's server took
  pub all_known : frames_taken known_stream ≡ frames_taken (server_list (told_at run i).stream)
  -- the lists of both blocks are calm: no flag but UNDERRUN, no drop, no block shut, no status 15
  pub calm : CalmTrack run i known_stream known_commands
  -- the client is on its way, or gone once all four commands were sent
  pub stands : Stands (sides_of (told_at run i)) most total
  -- the commands sent and taken are those of the track's course, on which its life is
  pub on : OnCourse run i

-- what a round makes of a track: all is carried on, and so many more commands were taken
pub record TrackGone (s : Session) (marks : Marks) (run : Run) (round : RoundSeen) (i most total : ℕ) (t : TurnMade s marks run round) (told : ℕ) : Type 0 where
  pub carried : TrackCarried (after_round s run round) i most total
  pub gone : CourseGone s marks run round i t told
  pub same : carried.on ≡ gone.after

module _ (cut : Bool) (s : Session) (marks : Marks) (run : Run) (round : RoundSeen) (i most total : ℕ) (t : TurnMade s marks run round) (legal : LegalRound cut s marks run round) (turn : OpenTurn s marks run round i t)
    (part : takes_part s (met_after s run round) i ≡ true) (c : TrackCarried run i most total) (two : 2 ≤ (track_at run.normal.tracks i).life.retries) where
  pub calm_turn : CalmTurn s marks run round i t
  calm_turn = record { low = turn.low; named = turn.named; there = turn.there; lawful = turn.lawful; runs = turn.runs; part = part; unshut = turn.unshut }

  -- the turn doesn't disable the track
  pub able : (track_in t.turn i).disabled ≡ false
  able = able_any (setup_of s) t.by.outside run.normal t.turn i turn.there turn.runs (t.by.legal.goes_on turn.runs) two

  -- all that the track's client is answered is fair
  pub fair : AreFair (calls_in round i)
  fair = calls_fair cut s marks run round i t calm_turn legal c.known_stream c.known_commands c.calm able most total c.stands

  pub carried_stands : Stands (sides_of (told_at (after_round s run round) i)) most total
  carried_stands = goes_by cut s marks run round i t legal turn.low turn.named turn.runs fair most total c.stands

  -- so many more commands were taken, and the life is the one that these and the report leave
  pub course_gone : CourseGone s marks run round i t c.on.told
  course_gone =
      let argued = argued_by cut s marks run round i t legal turn.low turn.named turn.runs fair most total c.calm.flushless c.stands c.on.argued in
      course_goes cut s marks run round i t legal c.known_commands (commands_of run i c.known_stream c.known_commands c.calm) turn (sent_course (sides_of (told_at (after_round s run round) i)) most total carried_stands argued) argued c.on two

  -- A legal round keeps all that is carried of a track
  pub track_gone : TrackGone s marks run round i most total t c.on.told
  track_gone = let gone : CourseGone s marks run round i t c.on.told = course_gone in record {
    carried = record {
      known_stream = known_stream_then cut s marks run round i t calm_turn legal c.known_stream c.known_commands c.calm;
      known_commands = known_commands_then cut s marks run round i t calm_turn legal c.known_stream c.known_commands c.calm;
      all_known = known_all cut s marks run round i t calm_turn legal c.known_stream c.known_commands c.calm;
      calm = goes_calm cut s marks run round i t calm_turn legal c.known_stream c.known_commands c.calm able most total c.stands;
      stands = carried_stands;
      on = gone.after;
    };
    gone = gone;
    same = refl;
  }
