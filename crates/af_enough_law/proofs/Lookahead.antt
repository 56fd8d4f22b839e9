-- A proxy that missed the meeting after the round in which it was detached comes home in the next one: what was done to its stream in the one is told by the history of the other.
use Rattle.std.proofs.Common.{◌≡◌, ◌⊎◌, inl, inr, ℕ, ◌≤◌, ◌<◌, ◌&&◌, if◌then◌else◌, is_some, Bool, true, false, true≢false, All, Some, length, refl, sym, ap, ◌∙◌, subst, arith}
use Rattle.af_enough_law.proofs.Common.{FastState, FastTrack, Home, LegalRound, Lent, Marks, NormalKept, RoundSeen, Run, Session, Setting, TrackKept, after_round, carries, observer_holds, is_home, is_returning, learnt, met_after, or_right, plays, setup_of, slot_number, slots, state_more, state_of, takes_part, told_at, track_at, track_count, turn_after}
use Rattle.af_enough_law.proofs.Acks.{KnowsAcked, turn_sees_ack}
use Rattle.af_enough_law.proofs.Carried.{SessionCarried}
use Rattle.af_enough_law.proofs.Drafts.{next_holder, holder_turned}
use Rattle.af_enough_law.proofs.FastWords.{Plays}
use Rattle.af_enough_law.proofs.NormalRounds.{TurnMade}
use Rattle.af_enough_law.proofs.Commanding.{le_cases}
use Rattle.af_enough_law.proofs.Ends.{over_stays, silent}
use Rattle.af_enough_law.proofs.EntryCounts.{round_high}
use Rattle.af_enough_law.proofs.FastFlows.{Later, later_both}
use Rattle.af_enough_law.proofs.FastPolls.{round_states, turn_more}
use Rattle.af_enough_law.proofs.FastRounds.{over}
use Rattle.af_enough_law.proofs.Following.{greeted_in}
use Rattle.af_enough_law.proofs.Foreseen.{Foreseen, KeepsTo, keeps_to, part_seen, seen_earlier}
use Rattle.af_enough_law.proofs.HomeRounds.{home_part}
use Rattle.af_enough_law.proofs.LentRounds.{holds_by}
use Rattle.af_enough_law.proofs.StatesHold.{pushed_last}
use Rattle.af_enough_law.proofs.Orders.{come}
use Rattle.af_enough_law.proofs.QueueRounds.{acks_states, knows_by}
use Rattle.af_enough_law.proofs.SessionRounds.{turn_of, turn_runs, states_few}

-- a stream block only grows in a round
pub round_later : (s : Session) (run : Run) (round : RoundSeen) (i : ℕ) → i < length run.tracks → Later (told_at run i).stream (told_at (after_round s run round) i).stream
round_later s run round i low =
    let o = over s run round i low in
    subst (Later (told_at run i).stream) (sym o.whole)
    (later_both _ _ _ o.calls.is_later (later_both _ _ _ o.early (later_both _ _ _ o.turn (later_both _ _ _ o.late o.meeting.is_later))))

-- the last state that was pushed is known to be acknowledged, and has nothing in the slot
pub record Coming (run : Run) (slot : ℕ) : Type 0 where
  pub acked : KnowsAcked run
  pub free : carries run.normal.last slot ≡ false

module _ (s : Session) (marks : Marks) (scales : All (λ (x : Setting). x.scale ≤ 4096) (setup_of s).settings) (long : length (setup_of s).settings ≡ track_count s) (run : Run) (round : RoundSeen) (legal : LegalRound false s marks run round) (c : SessionCarried s run) (i slot : ℕ) (item : FastTrack) (plays_last : Plays slot item run.normal.last) (low : slot < slots) (is_track : item.track ≡ i) (some : 1 ≤ length run.states) (last : state_of run.states (length run.states) ≡ Some run.normal.last) where
  abbrev after : Run
  after = after_round s run round

  -- if the state used before the round is still the one adopted last, the proxy takes part in the meeting
  pub held_on : after.current ≡ length run.states → takes_part s after i ≡ true
  held_on at =
      let whole = round_states s run round ∙ (turn_more s run round).whole in
      let is : state_of after.states after.current ≡ Some run.normal.last =
      ap (λ (n : ℕ). state_of after.states n) at ∙ ap (λ l. state_of l (length run.states)) whole ∙ state_more run.states (turn_more s run round).more (length run.states) (omega arith) ∙ last in
      or_right (is_home (track_at after.normal.tracks i).holder) (observer_holds s after i) (holds_by s after i slot item run.normal.last low is_track is plays_last)

  -- if another state was adopted, it is the one that the turn pushed: it is known to be acknowledged
  pub passed : carries after.normal.draft slot ≡ false → length run.states < after.current → Coming after slot
  passed free above =
      let high = round_high s run round c.stands.adopted in
      let count = states_few s marks scales long run round legal c.stands in
      record {
        acked = knows_by s marks run round legal c.stands.queue (omega (arith, above, high, count));
        free = ap (λ (x : FastState). carries x slot) (pushed_last s marks scales long run round legal c.stands (omega (arith, above, high))) ∙ free;
      }

  pub missed : carries after.normal.draft slot ≡ false → takes_part s after i ≡ false → Coming after slot
  missed free none = by (le_cases (length run.states) after.current (acks_states s marks run round legal c.stands.going c.states))
    where
      by : (after.current ≡ length run.states) ⊎ (length run.states < after.current) → Coming after slot
      by (inl at) = absurd (true≢false (sym (held_on at) ∙ none))
      by (inr above) = passed free above

-- ## The next round

module _ (s : Session) (marks : Marks) (scales : All (λ (x : Setting). x.scale ≤ 4096) (setup_of s).settings) (long : length (setup_of s).settings ≡ track_count s) (run : Run) (round : RoundSeen) (legal : LegalRound false s marks run round) (c : SessionCarried s run) (i : ℕ) (named : i < track_count s) where
  abbrev t : TurnMade s marks run round
  t = turn_of s marks scales long run round legal c.stands

  there : i < length run.normal.tracks
  there = let a = c.stands.kept in omega (arith, a, named)

  low : i < length run.tracks
  low = let a = c.stands.tracks in omega (arith, a, named)

  -- a proxy that is coming is home when its track is served
  pub greeted_coming : (slot : ℕ) → Coming run slot → is_returning (track_at run.normal.tracks i).holder ≡ true → slot_number (track_at run.normal.tracks i) ≡ slot → (greeted_in run.normal t.turn i).holder ≡ Home
  greeted_coming slot h returning number =
      let ack = (turn_sees_ack false s marks run round legal c.stands.runs h.acked t).0 in
      come run.normal.last (track_at run.normal.tracks i) t.turn.ack ack returning (ap (λ (n : ℕ). carries run.normal.last n) number ∙ h.free)

  -- the proxy stays home, if the track is not to be heard after the turn
  pub home_then : (greeted_in run.normal t.turn i).holder ≡ Home → plays (track_at (after_round s run round).normal.tracks i).life ≡ false → is_home (track_at (after_round s run round).normal.tracks i).holder ≡ true
  home_then home silent =
      let u : TrackKept = track_at (turn_after (setup_of s) (learnt t.by.outside) run.normal t.turn).tracks i in
      let still : plays u.life ≡ false = ap (λ (m : NormalKept). plays (track_at m.tracks i).life) (sym t.after) ∙ silent in
      ap (λ (m : NormalKept). is_home (track_at m.tracks i).holder) t.after
      ∙ ap is_home (holder_turned (setup_of s) (learnt t.by.outside) run.normal t.turn i there (turn_runs s marks scales long run round legal c.stands) ∙ (λ j. next_holder (still j) (is_some u.slot) (home j)))
      ∙ stays (is_some u.slot)
    where
      stays : (b : Bool) → is_home (if b && false then Lent else Home) ≡ true
      stays true = refl
      stays false = refl

  -- what was done before to the stream of a proxy that is home is told by the history of this round
  pub seen_home : KeepsTo run i → is_home (track_at (after_round s run round).normal.tracks i).holder ≡ true → Foreseen (told_at (after_round s run round) i).stream
  seen_home keeps home = part_seen false s marks run round t i low named legal keeps (home_part s run round i home)

  pub seen_before : KeepsTo run i → is_home (track_at (after_round s run round).normal.tracks i).holder ≡ true → Foreseen (told_at run i).stream
  seen_before keeps home = seen_earlier (told_at run i).stream (told_at (after_round s run round) i).stream (round_later s run round i low) (seen_home keeps home)

  -- a life that has ended stays so
  pub ended_then : (track_at run.normal.tracks i).life.ended ≡ true → (track_at (after_round s run round).normal.tracks i).life.ended ≡ true
  ended_then over = ap (λ (m : NormalKept). (track_at m.tracks i).life.ended) t.after ∙ over_stays (setup_of s) (learnt t.by.outside) run.normal t.turn i there (turn_runs s marks scales long run round legal c.stands) over

-- what was done to the stream of a track whose life ends while its proxy is on its way is told by the history of the round, or by that of the next one if the proxy missed the meeting
pub ended_seen : (s : Session) (marks : Marks) (scales : All (λ (x : Setting). x.scale ≤ 4096) (setup_of s).settings) (long : length (setup_of s).settings ≡ track_count s) (run : Run) (round next : RoundSeen) (t : TurnMade s marks run round) (i slot : ℕ) → i < length run.tracks → i < track_count s
    → LegalRound false s marks run round → LegalRound false s marks (after_round s run round) next → SessionCarried s (after_round s run round) → KeepsTo run i → is_returning (track_at (after_round s run round).normal.tracks i).holder ≡ true → slot_number (track_at (after_round s run round).normal.tracks i) ≡ slot
    → (takes_part s (met_after s run round) i ≡ false → Coming (after_round s run round) slot) → (track_at (after_round s run round).normal.tracks i).life.ended ≡ true → Foreseen (told_at (after_round s run round) i).stream
ended_seen s marks scales long run round next t i slot low named legal legal_next session keeps returning number missed ended = by (takes_part s (met_after s run round) i) refl
  where
    by : (b : Bool) → takes_part s (met_after s run round) i ≡ b → Foreseen (told_at (after_round s run round) i).stream
    by true part = part_seen false s marks run round t i low named legal keeps part
    by false none =
        let after : Run = after_round s run round in
        let home = greeted_coming s marks scales long after next legal_next session i named slot (missed none) returning number in
        let still = ended_then s marks scales long after next legal_next session i named ended in
        seen_before s marks scales long after next legal_next session i named (keeps_to false s marks run round t i low named legal keeps) (home_then s marks scales long after next legal_next session i named home (silent (track_at (after_round s after next).normal.tracks i).life still))
