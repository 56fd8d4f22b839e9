-- What a track is after the first four rounds of a run.
use Rattle.std.proofs.Common.{◌≡◌, ◌⊎◌, inl, inr, ℕ, ◌≤◌, ◌<◌, true, false, All, Option, Some, None, length, refl, ap, arith}
use Rattle.af_enough_law.proofs.Common.{Holder, Home, LegalRound, Lent, Marks, Returning, RoundSeen, Run, Session, Setting, after_round, is_home, is_lent, plays, setup_of, sides_of, slots, told_at, track_at, track_count, true_or_false}
use Rattle.af_enough_law.proofs.Basics.{not_over}
use Rattle.af_enough_law.proofs.Carried.{SessionCarried}
use Rattle.af_enough_law.proofs.Courses.{Course, absent, idle, playing, stopping, drained, stopped as is_stopped, over}
use Rattle.af_enough_law.proofs.Drafts.{is_busy}
use Rattle.af_enough_law.proofs.FastWords.{KnowsReleased}
use Rattle.af_enough_law.proofs.NormalRounds.{TurnMade}
use Rattle.af_enough_law.proofs.AwayKeeps.{open_of}
use Rattle.af_enough_law.proofs.Carrying.{TrackIs, slotless, lent, gone_over, track_on}
use Rattle.af_enough_law.proofs.CourseGoes.{OnCourse}
use Rattle.af_enough_law.proofs.EarlyRounds.{Spoken, spoken_of, Unsettled, spoken_then, plays_then, ended_then, played_then, plays_alive, plays_fresh, roams_then, emptied_then, stop_then, stop_taken}
use Rattle.af_enough_law.proofs.EarlyCalls.{no_stop}
use Rattle.af_enough_law.proofs.HomeRounds.{IsNamed}
use Rattle.af_enough_law.proofs.LeftEarly.{named_by, many_then, lent_heard, still_heard, left_silent, left_back}
use Rattle.af_enough_law.proofs.LookedLives.{IsDrained, Emptied, empty_life, Unstopped, course_unstopped}
use Rattle.af_enough_law.proofs.RipeRounds.{IsRipe}
use Rattle.af_enough_law.proofs.RoamingCalls.{IsRoaming}
use Rattle.af_enough_law.proofs.SessionRounds.{turn_of, turn_runs, session_carried}
use Rattle.af_enough_law.proofs.SentPlain.{InPlay}
use Rattle.af_enough_law.proofs.StartLent.{retries_round, lent_two, lent_three, left_three as left_three_is}
use Rattle.af_enough_law.proofs.StartTracks.{numbers, stays_or_lent, home_gone, home_stopped}
use Rattle.af_enough_law.proofs.TakenRounds.{all_sent}
use Rattle.af_enough_law.proofs.TrackCarried.{TrackCarried, TrackGone}

-- a life that took fewer than two commands hasn't ended
pub few_lives : (count told : ℕ) {l : _} → Course count told l → told ≤ 1 → l.ended ≡ false
few_lives count told absent few = refl
few_lives count told idle few = refl
few_lives count told (playing retries a b) few = absurd (let z : ⊥ = omega (arith, few) in z)
few_lives count told (stopping retries) few = absurd (let z : ⊥ = omega (arith, few) in z)
few_lives count told (drained retries) few = absurd (let z : ⊥ = omega (arith, few) in z)
few_lives count told (is_stopped retries) few = absurd (let z : ⊥ = omega (arith, few) in z)
few_lives count told (over life e) few = absurd (let z : ⊥ = omega (arith, few) in z)

pub lent_or_not : (h : Holder) → (h ≡ Lent) ⊎ (is_lent h ≡ false)
lent_or_not Home = inr refl
lent_or_not Lent = inl refl
lent_or_not Returning = inr refl

pub slot_or_none : (o : Option ℕ) → (o ≡ None) ⊎ ((n : ℕ) × (o ≡ Some n))
slot_or_none None = inl refl
slot_or_none (Some n) = inr (n, refl)

module _ (s : Session) (marks : Marks) (scales : All (λ (x : Setting). x.scale ≤ 4096) (setup_of s).settings) (long : length (setup_of s).settings ≡ track_count s) (i : ℕ) (named : i < track_count s) (lawful : marks.commands i ≡ true) where
  -- a round keeps what a track is
  pub started_on : (run : Run) (round next : RoundSeen) (legal : LegalRound false s marks run round) (c : SessionCarried s run) (legal_next : LegalRound false s marks (after_round s run round) next) (most total : ℕ) → 2 ≤ (track_at run.normal.tracks i).life.retries → TrackIs s run i most total → TrackIs s (after_round s run round) i most total
  started_on run round next legal c legal_next most total two track = (track_on s marks scales long run round legal c next legal_next i most total named lawful two track).is

  -- ## From the second round on

  module _ (run : Run) (second third fourth fifth : RoundSeen) (legal : LegalRound false s marks run second) (c : SessionCarried s run) where
    abbrev two_run : Run
    two_run = after_round s run second

    module _ (legal_third : LegalRound false s marks (after_round s run second) third) (c_two : SessionCarried s (after_round s run second)) where
      module _ (legal_fourth : LegalRound false s marks (after_round s (after_round s run second) third) fourth) (c_three : SessionCarried s (after_round s (after_round s run second) third))
          (legal_fifth : LegalRound false s marks (after_round s (after_round s (after_round s run second) third) fourth) fifth)
          (most total : ℕ) (some : 9 ≤ (track_at run.normal.tracks i).life.retries) where
        abbrev three_run : Run
        three_run = after_round s (after_round s run second) third

        abbrev four_run : Run
        four_run = after_round s (after_round s (after_round s run second) third) fourth

        some_two : 8 ≤ (track_at (after_round s run second).normal.tracks i).life.retries
        some_two = retries_round s marks scales long run second legal c.stands i 8 named (omega arith) some

        some_three : 7 ≤ (track_at three_run.normal.tracks i).life.retries
        some_three = retries_round s marks scales long (after_round s run second) third legal_third c_two.stands i 7 named (omega arith) some_two

        two_two : 2 ≤ (track_at (after_round s run second).normal.tracks i).life.retries
        two_two = let a = some_two in omega (arith, a)

        two_three : 2 ≤ (track_at three_run.normal.tracks i).life.retries
        two_three = let a = some_three in omega (arith, a)

        -- what a track is after the third round, or after the second, it is after the fourth
        from_three : TrackIs s three_run i most total → TrackIs s four_run i most total
        from_three x = (started_on three_run fourth fifth legal_fourth c_three legal_fifth most total two_three x)

        from_two : TrackIs s (after_round s run second) i most total → TrackIs s four_run i most total
        from_two x = from_three (started_on (after_round s run second) third fourth legal_third c_two legal_fourth most total two_two x)

        -- a track at home that has a slot is lent in the second round, or has stopped by then
        module _ (track : TrackCarried run i most total) (home : is_home (track_at run.normal.tracks i).holder ≡ true) (ripe : (n : ℕ) (low : n < slots) → IsRipe s run n low) (knows : KnowsReleased (told_at run i).commands) (unsettled : Unsettled run i) (few : track.on.told ≤ 1) (roams : IsRoaming (sides_of (told_at run i))) (sent : 2 ≤ track.on.sent) where
          two_here : 2 ≤ (track_at run.normal.tracks i).life.retries
          two_here = omega (arith, some)

          abbrev t : TurnMade s marks run second
          t = turn_of s marks scales long run second legal c.stands

          -- a track lent by the second round is in play then
          module _ (lents : (track_at (after_round s run second).normal.tracks i).holder ≡ Lent) where
            named_run : IsNamed s marks run i
            named_run = named_by s marks scales long run second legal c.stands i named lawful

            named_two : IsNamed s marks (after_round s run second) i
            named_two = named_by s marks scales long (after_round s run second) third legal_third c_two.stands i named lawful

            named_three : IsNamed s marks three_run i
            named_three = named_by s marks scales long three_run fourth legal_fourth c_three.stands i named lawful

            goes : t.turn.ended ≡ false
            goes = turn_runs s marks scales long run second legal c.stands

            spoken : Spoken run i
            spoken = spoken_of run i most total track

            heard_two : plays (track_at (after_round s run second).normal.tracks i).life ≡ true
            heard_two = lent_heard s marks scales long run second legal c.stands i named home lents

            play_two : InPlay (track_at (after_round s run second).normal.tracks i).life
            play_two = plays_then false s marks run second i t legal named_run goes spoken unsettled (few_lives track.on.count track.on.told track.on.follows.course few) (course_unstopped track.on.count track.on.told (track_at run.normal.tracks i).life track.on.follows.course (omega (arith, few))) heard_two

            fresh_two : Unstopped (track_at (after_round s run second).normal.tracks i).life
            fresh_two = plays_fresh false s marks run second i t legal named_run goes spoken unsettled (few_lives track.on.count track.on.told track.on.follows.course few) (course_unstopped track.on.count track.on.told (track_at run.normal.tracks i).life track.on.follows.course (omega (arith, few))) heard_two

            spoken_two : Spoken (after_round s run second) i
            spoken_two = spoken_then false s marks run second i t legal named_run goes spoken

            abbrev t_three : TurnMade s marks (after_round s run second) third
            t_three = turn_of s marks scales long (after_round s run second) third legal_third c_two.stands

            goes_three : t_three.turn.ended ≡ false
            goes_three = turn_runs s marks scales long (after_round s run second) third legal_third c_two.stands

            -- if the third round takes the proxy back, the life has ended
            left_three : is_lent (track_at three_run.normal.tracks i).holder ≡ false → TrackIs s three_run i most total
            left_three gone = gone_over (record { life = ended_then false s marks (after_round s run second) third i t_three legal_third named_two goes_three spoken_two play_two two_two (left_silent s marks scales long (after_round s run second) third legal_third c_two.stands i named lents gone) })

            abbrev t_four : TurnMade s marks three_run fourth
            t_four = turn_of s marks scales long three_run fourth legal_fourth c_three.stands

            -- if the fourth round takes the proxy back, the life has ended, or was drained
            left_four : is_busy t.turn.push ≡ true → (track_at three_run.normal.tracks i).holder ≡ Lent → is_lent (track_at four_run.normal.tracks i).holder ≡ false → TrackIs s four_run i most total
            left_four busy lents_three gone = by (played_then false s marks (after_round s run second) third i t_three legal_third named_two goes_three spoken_two (plays_alive (track_at (after_round s run second).normal.tracks i).life heard_two) play_two (still_heard s marks scales long (after_round s run second) third legal_third c_two.stands i named lents lents_three)) (true_or_false (track_at four_run.normal.tracks i).life.ended)
              where
                spoken_three : Spoken three_run i
                spoken_three = spoken_then false s marks (after_round s run second) third i t_three legal_third named_two goes_three spoken_two

                by : InPlay (track_at three_run.normal.tracks i).life ⊎ IsDrained (track_at three_run.normal.tracks i).life → ((track_at four_run.normal.tracks i).life.ended ≡ true) ⊎ ((track_at four_run.normal.tracks i).life.ended ≡ false) → TrackIs s four_run i most total
                by play (inl is_gone) = gone_over (record { life = is_gone })
                by (inl play) (inr alive) = gone_over (record { life = ended_then false s marks three_run fourth i t_four legal_fourth named_three (turn_runs s marks scales long three_run fourth legal_fourth c_three.stands) spoken_three play two_three (left_silent s marks scales long three_run fourth legal_fourth c_three.stands i named lents_three gone) })
                by (inr empty) (inr alive) = has_stopped
                  where
                    goes_four : t_four.turn.ended ≡ false
                    goes_four = turn_runs s marks scales long three_run fourth legal_fourth c_three.stands

                    roams_three : IsRoaming (sides_of (told_at three_run i))
                    roams_three = roams_then false s marks (after_round s run second) third i t_three legal_third named_two goes_three (roams_then false s marks run second i t legal named_run goes roams)

                    stop_three : no_stop (told_at three_run i).commands.taken ≡ false
                    stop_three = stop_taken false s marks (after_round s run second) third i t_three legal_third named_two goes_three spoken_two (plays_alive (track_at (after_round s run second).normal.tracks i).life heard_two) fresh_two empty (still_heard s marks scales long (after_round s run second) third legal_third c_two.stands i named lents lents_three)

                    four_then : Emptied (track_at four_run.normal.tracks i).life × (plays (track_at four_run.normal.tracks i).life ≡ false)
                    four_then = emptied_then false s marks three_run fourth i t_four legal_fourth named_three goes_four spoken_three roams_three stop_three (empty_life (track_at three_run.normal.tracks i).life empty)

                    away_four : is_home (track_at four_run.normal.tracks i).holder ≡ false
                    away_four = ap is_home (left_back s marks scales long three_run fourth legal_fourth c_three.stands i named lents_three gone)

                    c_four : SessionCarried s four_run
                    c_four = session_carried s marks scales long three_run fourth legal_fourth c_three.stands (not_over four_run.normal.tracks i (many_then s marks scales long three_run fourth legal_fourth c_three.stands i named) away_four)

                    five_then : plays (track_at (after_round s four_run fifth).normal.tracks i).life ≡ false
                    five_then = (emptied_then false s marks four_run fifth i (turn_of s marks scales long four_run fifth legal_fifth c_four.stands) legal_fifth (named_by s marks scales long four_run fifth legal_fifth c_four.stands i named lawful) (turn_runs s marks scales long four_run fifth legal_fifth c_four.stands)
                        (spoken_then false s marks three_run fourth i t_four legal_fourth named_three goes_four spoken_three) (roams_then false s marks three_run fourth i t_four legal_fourth named_three goes_four roams_three) (stop_then false s marks three_run fourth i t_four legal_fourth named_three goes_four spoken_three roams_three stop_three) four_then.0).1

                    has_stopped : TrackIs s four_run i most total
                    has_stopped = left_three_is s marks scales long i named lawful run second legal c.stands most total track home ripe (omega (arith, some)) lents third legal_third c c_two fourth legal_fourth c_three busy lents_three gone c_four fifth legal_fifth five_then (let a = some_three in omega (arith, retries_round s marks scales long three_run fourth legal_fourth c_three.stands i 6 named (omega arith) some_three)) four_then.1 alive four_then.0

          lent_then : (track_at (after_round s run second).normal.tracks i).holder ≡ Lent → TrackIs s four_run i most total
          lent_then lents = by (true_or_false (is_busy t.turn.push)) (lent_or_not (track_at three_run.normal.tracks i).holder)
            where
              by_four : is_busy t.turn.push ≡ true → (track_at three_run.normal.tracks i).holder ≡ Lent → ((track_at four_run.normal.tracks i).holder ≡ Lent) ⊎ (is_lent (track_at four_run.normal.tracks i).holder ≡ false) → TrackIs s four_run i most total
              by_four busy lents_three (inl lents_four) =
                  let z = lent_three s marks scales long i named lawful run second legal c.stands most total track home ripe (omega (arith, some)) lents third legal_third c c_two fourth legal_fourth c_three busy lents_three lents_four in
                  lent z.slot z.item z.carried z.lent
              by_four busy lents_three (inr gone) = left_four lents busy lents_three gone

              by : (is_busy t.turn.push ≡ true) ⊎ (is_busy t.turn.push ≡ false) → ((track_at three_run.normal.tracks i).holder ≡ Lent) ⊎ (is_lent (track_at three_run.normal.tracks i).holder ≡ false) → TrackIs s four_run i most total
              by busy_or (inr gone) = from_three (left_three lents gone)
              by (inl busy) (inl lents_three) = by_four busy lents_three (lent_or_not (track_at four_run.normal.tracks i).holder)
              by (inr free) (inl lents_three) =
                  let z = lent_two s marks scales long i named lawful run second legal c.stands most total track home ripe (omega (arith, some)) lents third legal_third c_two free lents_three in
                  from_three (lent z.slot z.item z.carried z.lent)

          home_then : (track_at (after_round s run second).normal.tracks i).holder ≡ Home → TrackIs s four_run i most total
          home_then stays = by (slot_or_none (track_at (after_round s run second).normal.tracks i).slot)
            where
              gone : TrackGone s marks run second i most total t track.on.told
              gone = home_gone s marks scales long i named lawful run second legal c.stands most total track two_here home stays

              told_two : 2 ≤ gone.carried.on.told
              told_two =
                  let same = ap (λ (x : OnCourse (after_round s run second) i). x.told) gone.same in
                  let alive = few_lives track.on.count track.on.told track.on.follows.course few in
                  let reach = all_sent false s marks run second i t legal (numbers s marks scales long i named lawful run second legal c.stands most total track two_here home) (turn_runs s marks scales long run second legal c.stands)
                  (open_of run i most total track) knows unsettled.counted track.on gone.gone (omega (arith, few)) alive track.calm.words in
                  omega (arith, reach, sent, same)

              by : ((track_at (after_round s run second).normal.tracks i).slot ≡ None) ⊎ ((n : ℕ) × ((track_at (after_round s run second).normal.tracks i).slot ≡ Some n)) → TrackIs s four_run i most total
              by (inl none) = from_two (slotless gone.carried (inr (let a = told_two in omega (arith, a))) none)
              by (inr at) = from_two (home_stopped s marks scales long i named lawful run second legal c.stands most total track two_here home stays at.0 at.1 told_two)

          pub from_home : TrackIs s four_run i most total
          from_home = by (stays_or_lent s marks scales long i named lawful run second legal c.stands most total track two_here home)
            where
              by : ((track_at (after_round s run second).normal.tracks i).holder ≡ Home) ⊎ ((track_at (after_round s run second).normal.tracks i).holder ≡ Lent) → TrackIs s four_run i most total
              by (inl stays) = home_then stays
              by (inr lents) = lent_then lents
