-- The round in which the fast mixer comes to have a proxy at the latest: the last state pushed before it plays the track, which stays lent. The proxy takes part in its meeting, and from there on it is carried as one that flows.
use Rattle.std.proofs.Common.{◌≡◌, inl, ℕ, ◌≤◌, ◌<◌, ◌==◌, is_some, if◌then◌else◌, Bool, true, false, All, Some, [], length, refl, sym, ap, ◌∙◌, subst, arith, eqb-true}
use Rattle.af_enough_law.proofs.Common.{FastState, FastTrack, Heard, LegalRound, Lent, Marks, NormalKept, RoundSeen, Run, Session, Setting, SlotReport, TrackKept, after_round, after_turn, before_turn, client_list, counts_in, ends_part, grown, heard_at_home, heard_by, heard_elsewhere, heard_with, observer_holds, is_home, learnt, met_after, number_of, or_right, server_list, setup_of, slot_reported, state_of, takes_part, told_at, track_at, track_count, turn_after}
use Rattle.af_enough_law.proofs.Basics.{state_there}
use Rattle.af_enough_law.proofs.Carried.{SessionCarried}
use Rattle.af_enough_law.proofs.FastWords.{Plays, AllStates, slot_told}
use Rattle.af_enough_law.proofs.NormalRounds.{TurnMade}
use Rattle.af_enough_law.proofs.AwayKeeps.{StaysOpen, away_turn}
use Rattle.af_enough_law.proofs.AwayRounds.{AwayTurn}
use Rattle.af_enough_law.proofs.EntryCounts.{round_high}
use Rattle.af_enough_law.proofs.FastKnows.{knows_released}
use Rattle.af_enough_law.proofs.FastReports.{plays_reported}
use Rattle.af_enough_law.proofs.FoundReports.{found_reported}
use Rattle.af_enough_law.proofs.Following.{greeted_in}
use Rattle.af_enough_law.proofs.Foreseen.{Foreseen, part_seen}
use Rattle.af_enough_law.proofs.Generations.{Attached, greeted_lent, greeted_same}
use Rattle.af_enough_law.proofs.HomeRounds.{IsNamed}
use Rattle.af_enough_law.proofs.StatesHold.{beyond_draft, last_holds, some_after, states_hold}
use Rattle.af_enough_law.proofs.Lending.{IsLending, WasOpen, lent_still, lending_draft}
use Rattle.af_enough_law.proofs.LentRounds.{LentCarried, holds_by, draft_item}
use Rattle.af_enough_law.proofs.LentTurns.{turn_leaves}
use Rattle.af_enough_law.proofs.MeetReports.{SaysOpenOf, NamesTrack}
use Rattle.af_enough_law.proofs.MeetRounds.{Meeting, meets_open}
use Rattle.af_enough_law.proofs.QueueRounds.{acks_states}
use Rattle.af_enough_law.proofs.SessionRounds.{turn_of, turn_runs}
use Rattle.af_enough_law.proofs.StreamCalm.{IsQuiet}
use Rattle.af_enough_law.proofs.TrackGoes.{CalmStream}
use Rattle.af_enough_law.proofs.FastFound.{plays_item}

-- ## What is heard of a proxy that is away

-- if a report of this attachment says that the server is open, and the stream was open when the proxy was lent, it isn't heard to be shut
pub away_heard : (own : Heard) (r : SlotReport) (g : TrackKept) → is_home g.holder ≡ false → (r.generation ≡ g.generation → r.shut ≡ false) → g.at_attach.known.shut ≡ false → (heard_by own r g).known.shut ≡ false
unfolding heard_by
away_heard own r g away says attach =
    ap (λ (b : Bool). (if b then heard_at_home own g else heard_elsewhere r g).known.shut) away ∙ by (r.generation == g.generation) (λ e. says (eqb-true r.generation g.generation e))
  where
    by : (b : Bool) → (b ≡ true → r.shut ≡ false) → (if b then heard_with r.consumed r.flush_seen r.shut (grown (counts_in r) g.reported) else g.at_attach).known.shut ≡ false
    by true f = f refl
    by false f = attach

-- ## The round

module _ (s : Session) (marks : Marks) (scales : All (λ (x : Setting). x.scale ≤ 4096) (setup_of s).settings) (long : length (setup_of s).settings ≡ track_count s) (run : Run) (round : RoundSeen) (legal : LegalRound false s marks run round) (c : SessionCarried s run) (i : ℕ) (named : i < track_count s)
    (slot : ℕ) (item : FastTrack) (l : IsLending s run i slot item) (some : 1 ≤ length run.states) (last : Plays slot item run.normal.last) (stays : (track_at (after_round s run round).normal.tracks i).holder ≡ Lent) where
  abbrev t : TurnMade s marks run round
  t = turn_of s marks scales long run round legal c.stands

  goes : t.turn.ended ≡ false
  goes = turn_runs s marks scales long run round legal c.stands

  abbrev after : Run
  after = after_round s run round

  abbrev g : TrackKept
  g = greeted_in run.normal t.turn i

  low_run : i < length run.tracks
  low_run = let a = c.stands.tracks in omega (arith, a, named)

  there : i < length run.normal.tracks
  there = let a = c.stands.kept in omega (arith, a, named)

  -- the proxy is lent as before
  pub still_lending : IsLending s after i slot item
  still_lending = lent_still s marks scales long run round legal c.stands i named slot item l stays

  abbrev draft_plays : Plays slot item (turn_after (setup_of s) (learnt t.by.outside) run.normal t.turn).draft
  draft_plays = subst (λ (m : NormalKept). Plays slot item m.draft) t.after (lending_draft s marks scales long run round legal c.stands i named slot item still_lending)

  -- the last state pushed goes on to play the track
  pub last_then : Plays slot item after.normal.last
  last_then = last_holds s marks scales long run round legal c (Plays slot item) some last draft_plays

  some_then : 1 ≤ length after.states
  some_then = some_after s marks scales long run round legal c (Plays slot item) some last draft_plays

  -- a state that the turn pushes plays the track
  pub pushed_plays : (k : ℕ) (x : FastState) → length run.states < k → state_of after.states k ≡ Some x → Plays slot item x
  pushed_plays k x above is = subst (Plays slot item) (sym (beyond_draft s marks scales long run round legal c.stands k x above is)) (lending_draft s marks scales long run round legal c.stands i named slot item still_lending)

  -- all states that the round may use play the track
  pub states_play : AllStates run after (Plays slot item)
  states_play = states_hold s marks scales long run round legal c (Plays slot item) some last draft_plays

  track_is : item.track ≡ i
  track_is = ap (λ (x : FastTrack). x.track) l.item_is

  -- the track's proxy takes part in the meeting
  pub adopted_part : takes_part s after i ≡ true
  adopted_part =
      let low = acks_states s marks run round legal c.stands.going c.states in
      let high = round_high s run round c.stands.adopted in
      let x = state_there after.states after.current (omega (arith, low, some)) high in
      let p = states_play.1 after.current x.0 low x.1 in
      or_right (is_home (track_at after.normal.tracks i).holder) (observer_holds s after i) (holds_by s after i slot item x.0 l.low track_is x.1 p)

  pub adopted_met : takes_part s (met_after s run round) i ≡ true
  adopted_met = sym (ends_part s (met_after s run round) i) ∙ adopted_part

  away : is_home g.holder ≡ false
  away = ap is_home (greeted_lent t.turn.ack run.normal.last (track_at run.normal.tracks i) l.lent)

  slot_next : is_some (track_at (turn_after (setup_of s) (learnt t.by.outside) run.normal t.turn).tracks i).slot ≡ true
  slot_next = ap (λ (m : NormalKept). is_some (track_at m.tracks i).slot) (sym t.after) ∙ ap is_some still_lending.slot_is

  -- the turn adds nothing to its server's list
  pub turn_adds : server_list (told_at (after_turn s run round) i).stream ≡ server_list (told_at (before_turn s run round) i).stream
  turn_adds = turn_leaves s marks run round t i low_run there goes away slot_next

  -- from the round on the track is carried as one that flows
  pub adopted_carried : CalmStream (told_at after i).stream.shape (client_list (told_at after i).stream) [] → LentCarried s after i slot item
  adopted_carried history =
      let told = plays_reported s marks run round i slot item legal (record { there = low_run; slot = l.low; item_is = track_is; states = states_play; fast_mixer = c.stands.going; knows_states = c.states; lent = turn_adds }) in
      record {
        low = l.low;
        slot_is = still_lending.slot_is;
        item_is = still_lending.item_is;
        lent = stays;
        heard = still_lending.heard;
        some = some_then;
        last = last_then;
        used = told.carries_on;
        told = told.told;
        released = knows_released s run round i low_run adopted_part;
        history = history;
      }

  -- ## The turn

  module _ (lawful : marks.commands i ≡ true) (o : StaysOpen run i) (quiet : IsQuiet (told_at run i).stream.shape (server_list (told_at run i).stream)) (was : WasOpen run i) (says : SaysOpenOf item (slot_told run slot)) (two : 2 ≤ (track_at run.normal.tracks i).life.retries) where
    pub adopted_named : IsNamed s marks run i
    adopted_named = record { low = low_run; named = named; there = there; lawful = lawful }

    -- what was done to its stream so far is told by the history after this round
    pub adopted_seen : Foreseen (told_at after i).stream
    adopted_seen = part_seen false s marks run round t i low_run named legal o.keeps adopted_met

    meeting : Meeting s run i slot item
    meeting = record {
      there = low_run;
      some = (let a = ((c.stands.order.sound.slotted i).slot (ap is_some l.slot_is)).0 in let b = ap number_of l.slot_is in omega (arith, a, b));
      low = l.low;
      is = track_is;
      named = subst (NamesTrack i slot item) (sym c.stands.last) (λ carried same. ap (λ (x : FastTrack). x.track) last.is ∙ track_is);
      draft = draft_item s run i slot item c.stands.order c.stands.items l.lent l.slot_is l.item_is;
      says = says;
      quiet = quiet;
      going = c.stands.going;
      knows = c.states;
    }

    -- the turn doesn't hear that it is shut, and the round is judged by that history
    pub adopted_turn : AwayTurn s marks run round i t
    adopted_turn = away_turn false s marks run round i t legal adopted_named goes o adopted_seen quiet two (λ alive. away_heard ((learnt t.by.outside).own i) (slot_reported (learnt t.by.outside) g) g away report (ap (λ (h : Heard). h.known.shut) same.at_attach ∙ was))
      where
        same : Attached (track_at run.normal.tracks i) g
        same = greeted_same t.turn.ack run.normal.last (track_at run.normal.tracks i)

        report : (slot_reported (learnt t.by.outside) g).generation ≡ g.generation → (slot_reported (learnt t.by.outside) g).shut ≡ false
        report e =
            found_reported s marks run round legal c.stands c.reports t goes i slot l.slot_is (SaysOpenOf item) (meets_open s marks run round i slot item legal meeting (λ k y above is. inl (plays_item slot item y (pushed_plays k y above is))) turn_adds adopted_seen) (e ∙ same.generation ∙ sym (ap (λ (x : FastTrack). x.generation) l.item_is))
