-- From a track at home to one whose proxy the fast mixer has: the round that lends it, maybe one in which it waits for its push, and the one in which it is adopted at the latest. All that its client was answered meanwhile is told by the history after the last of them.
use Rattle.std.proofs.Common.{◌≡◌, ℕ, ◌+◌, ◌≤◌, ◌<◌, true, false, true≢false, All, List, [], ◌∷◌, length, sym, ap, ◌∙◌, subst, arith}
use Rattle.af_enough_law.proofs.Common.{FastTrack, LegalRound, Lent, Marks, NormalKept, RoundSeen, Run, Session, Setting, after_round, is_home, is_lent, learnt, plays, run_from, server_list, setup_of, slots, told_at, track_at, track_count}
use Rattle.af_enough_law.proofs.Acks.{KnowsAcked, turn_sees_ack}
use Rattle.af_enough_law.proofs.Carried.{SessionStands, SessionCarried}
use Rattle.af_enough_law.proofs.Drafts.{is_busy}
use Rattle.af_enough_law.proofs.FastWords.{slot_told}
use Rattle.af_enough_law.proofs.NormalRounds.{TurnMade}
use Rattle.af_enough_law.proofs.AdoptRounds.{adopted_met, adopted_carried, adopted_turn}
use Rattle.af_enough_law.proofs.AwayKeeps.{StaysOpen, open_of, open_then, seen_before}
use Rattle.af_enough_law.proofs.AwayRounds.{AwayTurn, AwayRounds, AwayBack, away_back}
use Rattle.af_enough_law.proofs.Carrying.{TrackIs}
use Rattle.af_enough_law.proofs.Foreseen.{Foreseen, part_seen}
use Rattle.af_enough_law.proofs.HomeRounds.{IsNamed}
use Rattle.af_enough_law.proofs.LateDone.{late_is}
use Rattle.af_enough_law.proofs.LateStops.{left_seen}
use Rattle.af_enough_law.proofs.Lending.{WasOpen, busy_same}
use Rattle.af_enough_law.proofs.LentRounds.{LentCarried}
use Rattle.af_enough_law.proofs.LookedLives.{Emptied}
use Rattle.af_enough_law.proofs.MeetReports.{SaysOpenOf}
use Rattle.af_enough_law.proofs.QueueRounds.{knows_acked}
use Rattle.af_enough_law.proofs.RetriesFall.{retries_fall}
use Rattle.af_enough_law.proofs.RipeRounds.{IsRipe}
use Rattle.af_enough_law.proofs.SessionRounds.{turn_of, turn_runs}
use Rattle.af_enough_law.proofs.StartRounds.{Unpushed, PushedLast, OnWay, to_push, pushed, Lends, lends, waits, says_after, lends_turn, lends_open, waits_turn, waits_open}
use Rattle.af_enough_law.proofs.StreamCalm.{IsQuiet}
use Rattle.af_enough_law.proofs.StreamHistories.{part_stream}
use Rattle.af_enough_law.proofs.TrackCarried.{TrackCarried}

-- ## Retries

-- a round takes one retry at most
pub retries_round : (s : Session) (marks : Marks) (scales : All (λ (x : Setting). x.scale ≤ 4096) (setup_of s).settings) (long : length (setup_of s).settings ≡ track_count s) (run : Run) (round : RoundSeen) (legal : LegalRound false s marks run round) (c : SessionStands s run) (i n : ℕ) → i < track_count s → n + 1 ≤ 50
    → n + 1 ≤ (track_at run.normal.tracks i).life.retries → n ≤ (track_at (after_round s run round).normal.tracks i).life.retries
retries_round s marks scales long run round legal c i n named few some =
    let t = turn_of s marks scales long run round legal c in
    subst (λ (m : NormalKept). n ≤ (track_at m.tracks i).life.retries) (sym t.after)
    (retries_fall (setup_of s) (learnt t.by.outside) run.normal t.turn i n (let a = c.kept in omega (arith, a, named)) (turn_runs s marks scales long run round legal c) few some)

-- ## The last round

-- a track whose proxy is lent and held, with all that is carried of it
pub record StartedLent (s : Session) (run : Run) (i most total told : ℕ) : Type 0 where
  pub slot : ℕ
  pub item : FastTrack
  pub carried : TrackCarried run i most total
  pub lent : LentCarried s run i slot item
  pub told_on : told ≤ carried.on.told

module _ (s : Session) (marks : Marks) (scales : All (λ (x : Setting). x.scale ≤ 4096) (setup_of s).settings) (long : length (setup_of s).settings ≡ track_count s) (i : ℕ) (named : i < track_count s) (lawful : marks.commands i ≡ true) where
  -- the round after some that are judged later, in which the proxy is adopted at the latest
  pub adopted_all : (first : Run) (rounds : List RoundSeen) (most total : ℕ) → AwayRounds false s marks i first rounds → (c : TrackCarried first i most total)
      → (let run = run_from s first rounds in (round : RoundSeen) (legal : LegalRound false s marks run round) (sc : SessionCarried s run) (slot : ℕ) (item : FastTrack) → PushedLast s run i slot item → (track_at (after_round s run round).normal.tracks i).holder ≡ Lent
      → StaysOpen run i → IsQuiet (told_at run i).stream.shape (server_list (told_at run i).stream) → WasOpen run i → SaysOpenOf item (slot_told run slot) → 2 ≤ (track_at run.normal.tracks i).life.retries → StartedLent s (after_round s run round) i most total c.on.told)
  adopted_all first rounds most total away c round legal sc slot item p stays o quiet was says two =
      let run : Run = run_from s first rounds in
      let t : TurnMade s marks run round = turn_of s marks scales long run round legal sc.stands in
      let turn : AwayTurn s marks run round i t = adopted_turn s marks scales long run round legal sc i named slot item p.lending p.some p.last stays lawful o quiet was says two in
      let met = adopted_met s marks scales long run round legal sc i named slot item p.lending p.some p.last stays in
      let back : AwayBack (after_round s run round) i most total c.on.told = away_back false s marks i first rounds most total away c round legal t turn met in
      let then_carried = back.carried in
      let history = part_stream false s marks run round t i turn.turn.low named legal o.keeps met then_carried.calm.stream.calm then_carried.calm.stream_hands in
      record {
        slot = slot;
        item = item;
        carried = then_carried;
        lent = adopted_carried s marks scales long run round legal sc i named slot item p.lending p.some p.last stays history;
        told_on = back.told_on;
      }

  -- ## The rounds before it

  module _ (run : Run) (first : RoundSeen) (legal : LegalRound false s marks run first) (c : SessionStands s run) (most total : ℕ) (track : TrackCarried run i most total) (home : is_home (track_at run.normal.tracks i).holder ≡ true) (ripe : (n : ℕ) (low : n < slots) → IsRipe s run n low)
      (some : 5 ≤ (track_at run.normal.tracks i).life.retries) (stays : (track_at (after_round s run first).normal.tracks i).holder ≡ Lent) where
    abbrev one : Run
    one = after_round s run first

    lent_by : Lends s marks scales long run first legal c i named stays
    lent_by = lends s marks scales long run first legal c i named stays home ripe

    o : StaysOpen run i
    o = open_of run i most total track

    named_run : IsNamed s marks run i
    named_run = record { low = (let a = c.tracks in omega (arith, a, named)); named = named; there = (let a = c.kept in omega (arith, a, named)); lawful = lawful }

    o_one : StaysOpen one i
    o_one = open_then false s marks run first i (turn_of s marks scales long run first legal c) legal named_run (turn_runs s marks scales long run first legal c) o

    few_one : 4 ≤ (track_at one.normal.tracks i).life.retries
    few_one = retries_round s marks scales long run first legal c i 4 named (omega arith) some

    two_run : 2 ≤ (track_at run.normal.tracks i).life.retries
    two_run = omega (arith, some)

    -- the state with the proxy is pushed at once: it is adopted in the next round
    pub lent_two : (second : RoundSeen) (legal_second : LegalRound false s marks one second) (sc : SessionCarried s one) → is_busy (turn_of s marks scales long run first legal c).turn.push ≡ false → (track_at (after_round s one second).normal.tracks i).holder ≡ Lent
        → StartedLent s (after_round s one second) i most total track.on.told
    lent_two second legal_second sc free stays_second = by lent_by.way
      where
        by : OnWay s marks scales long run first legal c i named stays lent_by.slot lent_by.item → StartedLent s (after_round s one second) i most total track.on.told
        by (to_push busy u) = absurd (true≢false (sym busy ∙ free))
        by (pushed free p) =
            let t = turn_of s marks scales long one second legal_second sc.stands in
            let met = adopted_met s marks scales long one second legal_second sc i named lent_by.slot lent_by.item p.lending p.some p.last stays_second in
            let low : i < length one.tracks = (let a = sc.stands.tracks in omega (arith, a, named)) in
            let seen_two : Foreseen (told_at (after_round s one second) i).stream = part_seen false s marks one second t i low named legal_second o_one.keeps met in
            let seen_one : Foreseen (told_at one i).stream = seen_before s one second i low seen_two in
            let turn_one = lends_turn s marks scales long run first legal c i named stays lawful o track.calm.stream two_run seen_one home in
            let was = lends_open s marks scales long run first legal c i named stays lawful o track.calm.stream two_run seen_one home in
            let says = says_after s marks scales long run first legal c i named stays lawful o track.calm.stream two_run seen_one lent_by.slot lent_by.item lent_by.lending lent_by.fresh lent_by.told in
            let few = few_one in
            adopted_all run (first ∷ []) most total (legal, (turn_of s marks scales long run first legal c, turn_one), tt) track second legal_second sc lent_by.slot lent_by.item p stays_second o_one turn_one.quiet was says (omega (arith, few))

    -- ## If that push was busy, the next one isn't

    module _ (second : RoundSeen) (legal_second : LegalRound false s marks one second) (sc : SessionCarried s run) (sc_one : SessionCarried s one) (busy : is_busy (turn_of s marks scales long run first legal c).turn.push ≡ true)
        (stays_second : (track_at (after_round s one second).normal.tracks i).holder ≡ Lent) where
      abbrev two : Run
      two = after_round s one second

      abbrev t_two : TurnMade s marks one second
      t_two = turn_of s marks scales long one second legal_second sc_one.stands

      -- the push before was the last one, and acknowledged
      acked : KnowsAcked one
      acked = knows_acked s marks run first legal c.going sc.states c.queue (ap length (busy_same s marks scales long run first legal c i named busy).0)

      not_busy : is_busy t_two.turn.push ≡ false
      not_busy = (turn_sees_ack false s marks one second legal_second sc_one.stands.runs acked t_two).1 (turn_runs s marks scales long one second legal_second sc_one.stands)

      pushed_now : Unpushed s one i lent_by.slot lent_by.item → PushedLast s two i lent_by.slot lent_by.item
      pushed_now u = by_way (waits s marks scales long one second legal_second sc_one.stands i named stays_second lent_by.slot lent_by.item u)
        where
          by_way : OnWay s marks scales long one second legal_second sc_one.stands i named stays_second lent_by.slot lent_by.item → PushedLast s two i lent_by.slot lent_by.item
          by_way (to_push b u) = absurd (true≢false (sym b ∙ not_busy))
          by_way (pushed free p) = p

      low_one : i < length one.tracks
      low_one = let a = sc_one.stands.tracks in omega (arith, a, named)

      o_two : StaysOpen two i
      o_two = open_then false s marks one second i t_two legal_second (record { low = low_one; named = named; there = (let a = sc_one.stands.kept in omega (arith, a, named)); lawful = lawful }) (turn_runs s marks scales long one second legal_second sc_one.stands) o_one

      -- what both rounds leave, if what is done to the stream in the second one is told by a later history
      record Waited : Type 0 where
        away : AwayRounds false s marks i run (first ∷ second ∷ [])
        quiet : IsQuiet (told_at two i).stream.shape (server_list (told_at two i).stream)
        was : WasOpen two i
        says : SaysOpenOf lent_by.item (slot_told two lent_by.slot)
        few : 3 ≤ (track_at two.normal.tracks i).life.retries

      waited : Unpushed s one i lent_by.slot lent_by.item → Foreseen (told_at two i).stream → Waited
      waited u seen_two =
          let p = pushed_now u in
          let seen_one : Foreseen (told_at one i).stream = seen_before s one second i low_one seen_two in
          let turn_one = lends_turn s marks scales long run first legal c i named stays lawful o track.calm.stream two_run seen_one home in
          let was = lends_open s marks scales long run first legal c i named stays lawful o track.calm.stream two_run seen_one home in
          let few = few_one in
          let two_one : 2 ≤ (track_at one.normal.tracks i).life.retries = omega (arith, few) in
          let turn_two = waits_turn s marks scales long one second legal_second sc_one.stands i named stays_second lawful o_one turn_one.quiet two_one seen_two sc_one.states sc_one.reports lent_by.slot lent_by.item u was in
          record {
            away = (legal, (turn_of s marks scales long run first legal c, turn_one), (legal_second, (t_two, turn_two), tt));
            quiet = turn_two.quiet;
            was = waits_open s marks scales long one second legal_second sc_one.stands i named stays_second lawful o_one turn_one.quiet two_one seen_two sc_one.states sc_one.reports lent_by.slot lent_by.item u was;
            says = says_after s marks scales long one second legal_second sc_one.stands i named stays_second lawful o_one turn_one.quiet two_one seen_two lent_by.slot lent_by.item p.lending u.fresh u.told;
            few = retries_round s marks scales long one second legal_second sc_one.stands i 3 named (omega arith) few_one;
          }

    -- it is adopted in the round after that
    pub lent_three : (second : RoundSeen) (legal_second : LegalRound false s marks one second) (sc : SessionCarried s run) (sc_one : SessionCarried s one) (third : RoundSeen) → (let two = after_round s one second in LegalRound false s marks two third → SessionCarried s two
        → is_busy (turn_of s marks scales long run first legal c).turn.push ≡ true → (track_at two.normal.tracks i).holder ≡ Lent → (track_at (after_round s two third).normal.tracks i).holder ≡ Lent → StartedLent s (after_round s two third) i most total track.on.told)
    lent_three second legal_second sc sc_one third legal_third sc_two busy stays_second stays_third = by lent_by.way
      where
        by : OnWay s marks scales long run first legal c i named stays lent_by.slot lent_by.item → StartedLent s (after_round s (after_round s one second) third) i most total track.on.told
        by (pushed free p) = absurd (true≢false (sym busy ∙ free))
        by (to_push b u) =
            let p = pushed_now second legal_second sc sc_one busy stays_second u in
            let open_two = o_two second legal_second sc sc_one busy stays_second in
            let low_two : i < length (after_round s one second).tracks = (let a = sc_two.stands.tracks in omega (arith, a, named)) in
            let met = adopted_met s marks scales long (after_round s one second) third legal_third sc_two i named lent_by.slot lent_by.item p.lending p.some p.last stays_third in
            let seen_three : Foreseen (told_at (after_round s (after_round s one second) third) i).stream = part_seen false s marks (after_round s one second) third (turn_of s marks scales long (after_round s one second) third legal_third sc_two.stands) i low_two named legal_third open_two.keeps met in
            let w = waited second legal_second sc sc_one busy stays_second u (seen_before s (after_round s one second) third i low_two seen_three) in
            let few = w.few in
            adopted_all run (first ∷ second ∷ []) most total w.away track third legal_third sc_two lent_by.slot lent_by.item p stays_third open_two w.quiet w.was w.says (omega (arith, few))

    -- the proxy is taken back in that round, and its track has stopped
    pub left_three : (second : RoundSeen) (legal_second : LegalRound false s marks one second) (sc : SessionCarried s run) (sc_one : SessionCarried s one) (third : RoundSeen) → (let two = after_round s one second in (legal_third : LegalRound false s marks two third) → SessionCarried s two
        → is_busy (turn_of s marks scales long run first legal c).turn.push ≡ true → (track_at two.normal.tracks i).holder ≡ Lent → (let three = after_round s two third in is_lent (track_at three.normal.tracks i).holder ≡ false → SessionCarried s three
        → (next : RoundSeen) → LegalRound false s marks three next → plays (track_at (after_round s three next).normal.tracks i).life ≡ false → 2 ≤ (track_at three.normal.tracks i).life.retries → plays (track_at three.normal.tracks i).life ≡ false → (track_at three.normal.tracks i).life.ended ≡ false → Emptied (track_at three.normal.tracks i).life
        → TrackIs s three i most total))
    left_three second legal_second sc sc_one third legal_third sc_two busy stays_second leaves sc_three next legal_next silent two_three out alive emptied = by lent_by.way
      where
        by : OnWay s marks scales long run first legal c i named stays lent_by.slot lent_by.item → TrackIs s (after_round s (after_round s one second) third) i most total
        by (pushed free p) = absurd (true≢false (sym busy ∙ free))
        by (to_push b u) =
            let p = pushed_now second legal_second sc sc_one busy stays_second u in
            let open_two = o_two second legal_second sc sc_one busy stays_second in
            let low_two : i < length (after_round s one second).tracks = (let a = sc_two.stands.tracks in omega (arith, a, named)) in
            let seen_three : Foreseen (told_at (after_round s (after_round s one second) third) i).stream = left_seen s marks scales long (after_round s one second) third legal_third sc_two i named lawful lent_by.slot lent_by.item p leaves sc_three open_two next legal_next silent in
            let w = waited second legal_second sc sc_one busy stays_second u (seen_before s (after_round s one second) third i low_two seen_three) in
            let few = w.few in
            late_is s marks scales long i named lawful run first second most total w.away track third legal_third sc_two lent_by.slot lent_by.item p leaves sc_three open_two next legal_next silent w.quiet w.was w.says (omega (arith, few)) two_three out alive emptied
