-- A legal round keeps what is carried of a track whose proxy is home before and after it: so of each track without a slot.
use Rattle.std.proofs.Common.{◌≡◌, ℕ, ◌≤◌, ◌<◌, ◌||◌, is_some, Bool, true, false, None, List, length, sym, ap, ◌∙◌}
use Rattle.af_enough_law.proofs.Common.{IsSlotted, LegalRound, Marks, RoundSeen, Run, ServerEvent, Session, after_round, ends_part, observer_holds, is_home, met_after, takes_part, track_at, track_count}
use Rattle.af_enough_law.proofs.Basics.{stays_home}
use Rattle.af_enough_law.proofs.NormalRounds.{TurnMade}
use Rattle.af_enough_law.proofs.CalmTracks.{CalmTrack}
use Rattle.af_enough_law.proofs.CommandsGo.{OpenTurn}
use Rattle.af_enough_law.proofs.Foreseen.{KeepsTo, part_seen, home_unshut}
use Rattle.af_enough_law.proofs.TrackCarried.{TrackCarried, TrackGone, track_gone}

-- the numbers of a track that is there
pub record IsNamed (s : Session) (marks : Marks) (run : Run) (i : ℕ) : Type 0 where
  pub low : i < length run.tracks
  pub named : i < track_count s
  pub there : i < length run.normal.tracks
  pub lawful : marks.commands i ≡ true

-- what a track with calm lists keeps to
pub keeps_of : (run : Run) (i : ℕ) (known_stream known_commands : List ServerEvent) → CalmTrack run i known_stream known_commands → KeepsTo run i
keeps_of run i known_stream known_commands calm = record { few = calm.stream_few; spelled = calm.spelled; pokeless = calm.pokeless; flushless = calm.flushless }

-- a proxy at home takes part in the meeting
pub home_part : (s : Session) (run : Run) (round : RoundSeen) (i : ℕ) → is_home (track_at (after_round s run round).normal.tracks i).holder ≡ true → takes_part s (met_after s run round) i ≡ true
home_part s run round i home = sym (ends_part s (met_after s run round) i) ∙ ap (λ (b : Bool). b || observer_holds s (after_round s run round) i) home

module _ (cut : Bool) (s : Session) (marks : Marks) (run : Run) (round : RoundSeen) (i most total : ℕ) (t : TurnMade s marks run round) (legal : LegalRound cut s marks run round) (named : IsNamed s marks run i) (runs : t.turn.ended ≡ false)
    (c : TrackCarried run i most total) (two : 2 ≤ (track_at run.normal.tracks i).life.retries) where
  -- what is carried if the track's proxy is home before the round and after it
  pub home_carried : is_home (track_at run.normal.tracks i).holder ≡ true → is_home (track_at (after_round s run round).normal.tracks i).holder ≡ true → TrackGone s marks run round i most total t c.on.told
  home_carried home after =
      let part = home_part s run round i after in
      let seen = part_seen cut s marks run round t i named.low named.named legal (keeps_of run i c.known_stream c.known_commands c.calm) part in
      let greeted = stays_home t.turn.ack run.normal.last (track_at run.normal.tracks i) home in
      let turn : OpenTurn s marks run round i t = record {
        low = named.low;
        named = named.named;
        there = named.there;
        lawful = named.lawful;
        runs = runs;
        unshut = λ alive. home_unshut cut s marks run round i named.low legal seen t c.calm.stream greeted;
      } in
      track_gone cut s marks run round i most total t legal turn part c two

  -- a track without a slot before the round and after it
  pub slotless_carried : (track_at run.normal.tracks i).slot ≡ None → (track_at (after_round s run round).normal.tracks i).slot ≡ None → IsSlotted (track_at run.normal.tracks i) → IsSlotted (track_at (after_round s run round).normal.tracks i)
      → TrackGone s marks run round i most total t c.on.told
  slotless_carried none none_then before after = home_carried (before.homely (ap is_some none)) (after.homely (ap is_some none_then))
