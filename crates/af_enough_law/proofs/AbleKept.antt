-- A round of the middle keeps what makes each track have two retries.
use Rattle.std.proofs.Common.{◌≡◌, ◌⊎◌, ℕ, ◌+◌, ◌^◌, ◌≤◌, ◌<◌, ◌&&◌, not, is_some, Bool, true, false, true≢false, All, None, length, refl, sym, ap, ◌∙◌, arith}
use Rattle.af_enough_law.proofs.Common.{FastTrack, LegalRound, Life, Marks, NormalKept, RoundSeen, Run, Session, Setting, after_round, cycle_frames, is_home, is_lent, is_mixed_here, learnt, not_lent, plays, setting_of, setup_of, slot_of, spec_of, told_at, track_at, track_count, turn_after}
use Rattle.af_enough_law.proofs.Basics.{stays_home}
use Rattle.af_enough_law.proofs.Carried.{SessionCarried}
use Rattle.af_enough_law.proofs.Courses.{Course, absent, idle, playing, stopping, drained, stopped as stopped_life, over, stage}
use Rattle.af_enough_law.proofs.Ends.{IsInOrder, order_turn}
use Rattle.af_enough_law.proofs.NearWords.{buffer_of}
use Rattle.af_enough_law.proofs.NormalRounds.{TurnMade}
use Rattle.af_enough_law.proofs.CalmTracks.{CalmTurn}
use Rattle.af_enough_law.proofs.Carrying.{lent_is}
use Rattle.af_enough_law.proofs.CommandsGo.{commands_of, opens_after}
use Rattle.af_enough_law.proofs.HomeKept.{HomeAble, home_able}
use Rattle.af_enough_law.proofs.HomeSees.{home_sees}
use Rattle.af_enough_law.proofs.HomeStill.{HasNone}
use Rattle.af_enough_law.proofs.LeftRounds as left_round
use Rattle.af_enough_law.proofs.LentAble.{LentAble, lent_able}
use Rattle.af_enough_law.proofs.LentFlows.{LentGone, lent_gone}
use Rattle.af_enough_law.proofs.LentRounds.{LentCarried, HeardOf}
use Rattle.af_enough_law.proofs.Nearing.{StreamRound, TrackRound, BlockKept}
use Rattle.af_enough_law.proofs.Orders.{lent_carried}
use Rattle.af_enough_law.proofs.PipeKept.{PipeKept, IsSized, room_kept}
use Rattle.af_enough_law.proofs.SessionRounds.{turn_of, turn_runs}
use Rattle.af_enough_law.proofs.StatesHold.{last_holds, states_hold}
use Rattle.af_enough_law.proofs.TrackAble as can
use Rattle.af_enough_law.proofs.TrackAble.{TrackAble, InMiddle}
use Rattle.af_enough_law.proofs.TrackCarried.{TrackCarried, able}
use Rattle.af_enough_law.proofs.TrackGives.{home_parts}

-- a life that took two commands plays
two_plays : (count k : ℕ) (l : Life) → k ≡ 2 → Course count k l → (l.ended ≡ false) × (stage l ≡ 0) × (plays l ≡ true)
two_plays count k l is absent = absurd (let z : ⊥ = omega (arith, is) in z)
two_plays count k l is idle = absurd (let z : ⊥ = omega (arith, is) in z)
two_plays count k l is (playing retries a b) = (refl, refl, refl)
two_plays count k l is (stopping retries) = absurd (let z : ⊥ = omega (arith, is) in z)
two_plays count k l is (drained retries) = absurd (let z : ⊥ = omega (arith, is) in z)
two_plays count k l is (stopped_life retries) = absurd (let z : ⊥ = omega (arith, is) in z)
two_plays count k l is (over life e) = absurd (let z : ⊥ = omega (arith, is) in z)

-- a draft has nothing of a track without a slot
pub none_drafted : (m : NormalKept) (i : ℕ) → IsInOrder m → (track_at m.tracks i).slot ≡ None → HasNone i m.draft
none_drafted m i order none j low carried same =
    let home : is_home (track_at m.tracks i).holder ≡ true = (order.sound.slotted i).homely (ap is_some none) in
    let o = order.owned j low carried in
    let at = lent_carried m o.owner order.sound o.lent in
    let owner : o.owner ≡ i = sym at.1 ∙ ap (λ (n : ℕ). (slot_of m.draft n).track) o.slot_is ∙ same in
    true≢false (sym o.lent ∙ ap (λ (n : ℕ). is_lent (track_at m.tracks n).holder) owner ∙ not_lent (track_at m.tracks i).holder home)

module _ (s : Session) (marks : Marks) (scales : All (λ (x : Setting). x.scale ≤ 4096) (setup_of s).settings) (long : length (setup_of s).settings ≡ track_count s) (small : s.script.normal ≤ 16) (sizes : IsSized s) (run : Run) (round : RoundSeen) (legal : LegalRound false s marks run round) (c : SessionCarried s run)
    (next : RoundSeen) (legal_next : LegalRound false s marks (after_round s run round) next) (i most total : ℕ) (named : i < track_count s) (lawful : marks.commands i ≡ true) (two : 2 ≤ (track_at run.normal.tracks i).life.retries) (pipe : plays (track_at run.normal.tracks i).life ≡ true → PipeKept s run) (some_buffer : 1 ≤ buffer_of s)
    (some_cycle : 1 ≤ cycle_frames s) (some_N : 1 ≤ (spec_of s i).frames) (under : total < (spec_of s i).base + 2 ^ 32) (alive : (track_at run.normal.tracks i).life.ended ≡ false) (kept : BlockKept run i (spec_of s i).frames (spec_of s i).base) where
  abbrev t : TurnMade s marks run round
  t = turn_of s marks scales long run round legal c.stands

  abbrev after : Run
  after = after_round s run round

  draft_none : (track_at (turn_after (setup_of s) (learnt t.by.outside) run.normal t.turn).tracks i).slot ≡ None → HasNone i (turn_after (setup_of s) (learnt t.by.outside) run.normal t.turn).draft
  draft_none none =
      let runs = turn_runs s marks scales long run round legal c.stands in
      none_drafted (turn_after (setup_of s) (learnt t.by.outside) run.normal t.turn) i (order_turn (setup_of s) scales t.by.outside run.normal t.turn (let a = c.stands.kept in omega (arith, a, long)) runs (t.by.legal.goes_on runs) c.stands.order) none

  module _ (r : TrackRound s marks run round i t) (plays_on : r.gone.after.told ≡ 2) (few : length (told_at run i).commands.released ≤ 5) (m : InMiddle run i total) where
    told_is : r.on.told ≡ 2
    told_is = let a = r.on.follows.settled in let b = kept.started in let d = r.gone.next in omega (arith, a, b, d, plays_on)

    low : stage (track_at run.normal.tracks i).life ≤ 1
    low = let e = (two_plays r.on.count r.on.told (track_at run.normal.tracks i).life told_is r.on.follows.course).1 in omega (arith, e)

    then_plays : ((track_at after.normal.tracks i).life.ended ≡ false) × (stage (track_at after.normal.tracks i).life ≡ 0) × (plays (track_at after.normal.tracks i).life ≡ true)
    then_plays = two_plays r.gone.after.count r.gone.after.told (track_at after.normal.tracks i).life plays_on r.gone.after.follows.course

    now_plays : plays (track_at run.normal.tracks i).life ≡ true
    now_plays = (two_plays r.on.count r.on.told (track_at run.normal.tracks i).life told_is r.on.follows.course).2

    st : StreamRound s marks run round i t
    st = r.stream alive then_plays.0 low

    -- a track without a slot goes on able
    pub home_goes : (track : TrackCarried run i most total) → (never : ((setting_of (setup_of s) i).fast ≡ false) ⊎ (1 ≤ track.on.told)) → (track_at run.normal.tracks i).slot ≡ None → HasNone i run.normal.last → HomeAble run i → TrackAble after i
    home_goes track never none out h =
        let p = home_parts s marks scales long small sizes run round legal c next legal_next i most total named lawful two track never none in
        let k = pipe now_plays in
        let calm_turn : CalmTurn s marks run round i t = record { low = p.turn.low; named = p.turn.named; there = p.turn.there; lawful = p.turn.lawful; runs = p.turn.runs; part = p.part; unshut = p.turn.unshut } in
        let slot_turned = sym (ap (λ (n : NormalKept). (track_at n.tracks i).slot) t.after) ∙ p.slot_then in
        let here : is_mixed_here (track_at after.normal.tracks i) ≡ true = (λ j. not (is_some (p.slot_then j)) && plays (track_at after.normal.tracks i).life) ∙ then_plays.2 in
        let states = states_hold s marks scales long run round legal c (HasNone i) k.some out (draft_none slot_turned) in
        let seen = home_sees s marks run round i t calm_turn legal track.known_stream track.known_commands track.calm (able false s marks run round i most total t legal p.turn p.part track two)
        (opens_after false s marks run round i t legal track.known_commands (commands_of run i track.known_stream track.known_commands track.calm) p.turn).0 (kept.met alive low).released c.stands.going c.states states
        (room_kept s marks scales long run round legal c sizes k) here in
        let home : is_home (track_at run.normal.tracks i).holder ≡ true = (c.stands.order.sound.slotted i).homely (ap is_some none) in
        can.home p.slot_then (last_holds s marks scales long run round legal c (HasNone i) k.some out (draft_none slot_turned))
        (home_able s marks run round i t legal (spec_of s i).frames (spec_of s i).base kept r st (kept.met alive low) plays_on (stays_home t.turn.ack run.normal.last (track_at run.normal.tracks i) home) alive seen m.past m.most total m.stands under some_N some_buffer few h)

    -- a track that is lent goes on able
    pub lent_goes : (slot : ℕ) (item : FastTrack) (track : TrackCarried run i most total) (l : LentCarried s run i slot item) → HeardOf run i slot → LentAble run i slot → TrackAble after i
    lent_goes slot item track l heard_of h = by (is_lent (track_at after.normal.tracks i).holder) refl
      where
        by : (b : Bool) → is_lent (track_at after.normal.tracks i).holder ≡ b → TrackAble after i
        by false leaves = absurd (true≢false (sym then_plays.2 ∙ (left_round.left s marks scales long run round legal c i most total named lawful track slot item l leaves next legal_next).0))
        by true stays =
            let g : LentGone s marks run round i most total slot item t track.on.told = lent_gone s marks scales long run round legal c i most total named lawful track two slot item l (lent_is (track_at after.normal.tracks i).holder stays) in
            let a = g.track.gone.after.follows.settled in
            let b = r.gone.after.follows.settled in
            can.lent slot g.lent.slot_is g.heard_of
            (lent_able s marks run round i most total slot item t track.on l g (omega (arith, a, b, plays_on)) legal (spec_of s i).frames (spec_of s i).base kept r st (kept.met alive low) m.past m.most total m.stands under some_N some_cycle heard_of few h)
