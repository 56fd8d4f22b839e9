-- What the last round of a track's start leaves, in which its proxy took part in the meeting.
use Rattle.std.proofs.Common.{◌≡◌, ℕ, ◌+◌, ◌≤◌, Bool, true, List, length, ap, ◌∙◌, subst, arith}
use Rattle.af_enough_law.proofs.Common.{LegalRound, Marks, Op, RoundSeen, Run, Session, after_round, ends_part, met_after, sides_of, spec_of, takes_part, told_at, track_at}
use Rattle.af_enough_law.proofs.Basics.{course_long}
use Rattle.af_enough_law.proofs.NormalRounds.{TurnMade}
use Rattle.af_enough_law.proofs.Playing.{way_ops, way_frames}
use Rattle.af_enough_law.proofs.BlockNumbers.{BlockNumbers, block_numbers}
use Rattle.af_enough_law.proofs.CalmTracks.{stream_lists}
use Rattle.af_enough_law.proofs.CommandsGo.{CalmCommands, OpenTurn, commands_of}
use Rattle.af_enough_law.proofs.FastKnows.{knows_released}
use Rattle.af_enough_law.proofs.MiddleEnds.{StartsTrack}
use Rattle.af_enough_law.proofs.Nearing.{BlockCounts, BlockKept}
use Rattle.af_enough_law.proofs.NearRounds.{counts_kept}
use Rattle.af_enough_law.proofs.StartedRounds.{past_round}
use Rattle.af_enough_law.proofs.TakesAll.{CommandsMet, known_round}
use Rattle.af_enough_law.proofs.TrackCarried.{TrackCarried, TrackGone, calm_turn, able, fair}
use Rattle.af_enough_law.proofs.Turning.{Stands}

module _ (cut : Bool) (s : Session) (marks : Marks) (run : Run) (round : RoundSeen) (i most total : ℕ) (t : TurnMade s marks run round) (legal : LegalRound cut s marks run round) (turn : OpenTurn s marks run round i t)
    (part : takes_part s (met_after s run round) i ≡ true) (c : TrackCarried run i most total) (two : 2 ≤ (track_at run.normal.tracks i).life.retries) where
  commands : CalmCommands run i c.known_commands
  commands = commands_of run i c.known_stream c.known_commands c.calm

  -- what is counted of its blocks goes on
  pub counts_start : (N base : ℕ) → BlockCounts run i N base → BlockCounts (after_round s run round) i N base
  counts_start N base b = counts_kept cut s marks run round i t legal N base b turn c.known_commands commands

  -- once its START is settled all is known of the track's blocks
  pub kept_start : (N base : ℕ) → BlockCounts run i N base → 2 ≤ (track_at (after_round s run round).normal.tracks i).settled → BlockKept (after_round s run round) i N base
  kept_start N base b started = record {
    block = counts_start N base b;
    started = started;
    known = known_round cut s marks run round i t legal c.known_commands commands turn;
    met = λ alive low. let l = stream_lists s run round i turn.low part in
        record { did = l.did; count = l.count; server = l.server; said = _; client = l.client; released = knows_released s run round i turn.low (ends_part s (met_after s run round) i ∙ part) };
  }

  -- If its START was settled before the round, the track starts to flow
  pub starts_track : (rest : List Op) → most ≡ way_ops rest → total ≡ (spec_of s i).base + way_frames rest → (g : TrackGone s marks run round i most total t c.on.told) → CommandsMet run i → BlockCounts run i (spec_of s i).frames (spec_of s i).base → 2 ≤ (track_at run.normal.tracks i).settled → StartsTrack s (after_round s run round) i rest
  starts_track rest most_is total_is g met b settled =
      let sent = ap (λ (ws : List ℕ). length ws) c.on.released in
      let long = course_long c.on.count 0 c.on.sent in
      let within = c.on.within in
      let told = c.on.follows.settled in
      let told_then = g.gone.after.follows.settled in
      let next = g.gone.next in
      let n : BlockNumbers s run round i = block_numbers cut s marks run round i t (calm_turn cut s marks run round i most total t legal turn part c two) legal c.known_stream c.known_commands c.calm (able cut s marks run round i most total t legal turn part c two) in
      let fits = n.fits in
      let size = b.size in
      record {
        kept = kept_start (spec_of s i).frames (spec_of s i).base b (omega (arith, told, told_then, next, settled));
        stands = subst (λ (x : ℕ). Stands (sides_of (told_at (after_round s run round) i)) x ((spec_of s i).base + way_frames rest)) most_is (subst (Stands (sides_of (told_at (after_round s run round) i)) most) total_is g.carried.stands);
        past = past_round cut s marks run round i t legal c.known_commands commands turn met c.on g.gone settled (fair cut s marks run round i most total t legal turn part c two) most total c.stands (omega (arith, sent, long, within, told, settled));
        fits = omega (arith, fits, size);
      }
