-- A track whose proxy leaves in the round in which it is adopted at the latest, and that was drained, is a stopped one then.
use Rattle.std.proofs.Common.{◌≡◌, ◌⊎◌, inl, inr, ℕ, ◌+◌, ◌≤◌, ◌<◌, is_some, Bool, true, false, true≢false, All, Some, List, [], ◌∷◌, ◌++◌, length, length-append, take-append-drop, refl, sym, ap, ◌∙◌, subst, arith}
use Rattle.af_enough_law.proofs.Common.{EntrySeen, FastTrack, LegalRound, Life, Marks, Returning, RoundSeen, Run, Session, Setting, after_round, after_turn, all_played, before_turn, calls_states, client_list, early_count, early_of, found_in, is_home, is_lent, is_returning, last_used, late_of, met_after, number_of, plays, server_list, setup_of, state_more, state_of, takes_part, told_at, track_at, track_count, with_calls, with_cycles}
use Rattle.af_enough_law.proofs.Carried.{SessionCarried}
use Rattle.af_enough_law.proofs.Courses.{Course, absent, idle, playing, stopping, drained, stopped as is_stopped, over, stage}
use Rattle.af_enough_law.proofs.FastWords.{Plays, slot_told}
use Rattle.af_enough_law.proofs.Drafts.{is_busy, PushMade}
use Rattle.af_enough_law.proofs.NormalRounds.{TurnMade}
use Rattle.af_enough_law.proofs.AdoptedTold.{ToldNow, entries_tell, told_late, told_turn}
use Rattle.af_enough_law.proofs.AwayKeeps.{StaysOpen, open_then, away_turn}
use Rattle.af_enough_law.proofs.AwayRounds.{AwayTurn, AwayTrack, AwayRounds, AwayBack, away_of, away_before, away_back, away_carried}
use Rattle.af_enough_law.proofs.Carrying.{TrackIs, stopped}
use Rattle.af_enough_law.proofs.CommandsGo.{commands_of}
use Rattle.af_enough_law.proofs.FastPolls.{round_states, turn_more, fast_parts}
use Rattle.af_enough_law.proofs.FastReports.{SameReports, turned_same, loaded_same, met_same, ends_same, same_both}
use Rattle.af_enough_law.proofs.Foreseen.{Foreseen, part_seen, home_unshut}
use Rattle.af_enough_law.proofs.HomeRounds.{IsNamed, home_part}
use Rattle.af_enough_law.proofs.LateStops as leaving
use Rattle.af_enough_law.proofs.LeftEarly.{named_by}
use Rattle.af_enough_law.proofs.LeftEntries.{IsOut}
use Rattle.af_enough_law.proofs.Lending.{WasOpen}
use Rattle.af_enough_law.proofs.LookedLives.{Emptied, is_gone, empty_on, stopped_on}
use Rattle.af_enough_law.proofs.Lookahead.{greeted_coming, round_later}
use Rattle.af_enough_law.proofs.MeetReports.{SaysOpenOf}
use Rattle.af_enough_law.proofs.QueueRounds.{some_entry, queue_stands, knows_acked}
use Rattle.af_enough_law.proofs.SessionRounds.{turn_of, turn_runs}
use Rattle.af_enough_law.proofs.StartRounds.{PushedLast}
use Rattle.af_enough_law.proofs.StoppedPlaces.{Place, comes, waits, unpushed}
use Rattle.af_enough_law.proofs.StoppedTracks.{StoppedCarried}
use Rattle.af_enough_law.proofs.StreamCalm.{IsQuiet}
use Rattle.af_enough_law.proofs.StreamHistories.{part_stream, said_earlier}
use Rattle.af_enough_law.proofs.TrackCarried.{TrackCarried}
use Rattle.af_enough_law.proofs.TrackGoes.{CalmStream}

some_or_none : (es : List EntrySeen) → (1 ≤ length es) ⊎ (es ≡ [])
some_or_none [] = inr refl
some_or_none (e ∷ es) = inl (omega arith)

emptied_stage : (l : Life) → Emptied l → l.ended ≡ false → 2 ≤ stage l
emptied_stage _ (is_gone l e) alive = absurd (true≢false (sym e ∙ alive))
emptied_stage _ (empty_on r s) alive = omega arith
emptied_stage _ (stopped_on d r s) alive = omega arith

-- a life of which all is consumed took three commands
emptied_told : (count told : ℕ) (l : Life) → Course count told l → 2 ≤ stage l → 3 ≤ told
emptied_told count told l absent far = absurd (let z : ⊥ = omega (arith, far) in z)
emptied_told count told l idle far = absurd (let z : ⊥ = omega (arith, far) in z)
emptied_told count told l (playing retries a b) far = absurd (let z : ⊥ = omega (arith, far) in z)
emptied_told count told l (stopping retries) far = omega arith
emptied_told count told l (drained retries) far = omega arith
emptied_told count told l (is_stopped retries) far = omega arith
emptied_told count told l (over life e) far = omega arith

module _ (s : Session) (marks : Marks) (scales : All (λ (x : Setting). x.scale ≤ 4096) (setup_of s).settings) (long : length (setup_of s).settings ≡ track_count s) (i : ℕ) (named : i < track_count s) (lawful : marks.commands i ≡ true)
    (first_run : Run) (first second : RoundSeen) (most total : ℕ) (away : AwayRounds false s marks i first_run (first ∷ second ∷ [])) (c : TrackCarried first_run i most total) where
  abbrev run : Run
  run = after_round s (after_round s first_run first) second

  module _ (round : RoundSeen) (legal : LegalRound false s marks run round) (sc : SessionCarried s run) (slot : ℕ) (item : FastTrack) (p : PushedLast s run i slot item) (leaves : is_lent (track_at (after_round s run round).normal.tracks i).holder ≡ false) (c_after : SessionCarried s (after_round s run round))
      (o : StaysOpen run i) (next : RoundSeen) (legal_next : LegalRound false s marks (after_round s run round) next) (silent : plays (track_at (after_round s (after_round s run round) next).normal.tracks i).life ≡ false)
      (quiet : IsQuiet (told_at run i).stream.shape (server_list (told_at run i).stream)) (was : WasOpen run i) (says : SaysOpenOf item (slot_told run slot)) (two : 2 ≤ (track_at run.normal.tracks i).life.retries) (two_after : 2 ≤ (track_at (after_round s run round).normal.tracks i).life.retries)
      (out : plays (track_at (after_round s run round).normal.tracks i).life ≡ false) (alive : (track_at (after_round s run round).normal.tracks i).life.ended ≡ false) (emptied : Emptied (track_at (after_round s run round).normal.tracks i).life) where
    abbrev after : Run
    after = after_round s run round

    abbrev t : TurnMade s marks run round
    t = turn_of s marks scales long run round legal sc.stands

    turn : AwayTurn s marks run round i t
    turn = leaving.left_turn s marks scales long run round legal sc i named lawful slot item p leaves c_after o next legal_next silent quiet was says two

    low : i < length run.tracks
    low = turn.turn.low

    -- what is carried of the track, and its client's list in a calm history
    record Left : Type 0 where
      track : AwayTrack after i most total
      stream : CalmStream (told_at after i).stream.shape (client_list (told_at after i).stream) []

    stopped_by : Left → StoppedCarried after i most total
    stopped_by l = let z : AwayTrack after i most total = l.track in record {
      known = z.known_commands;
      commands = commands_of after i z.known_stream z.known_commands z.calm;
      few = z.calm.stream_few;
      hands = z.calm.stream_hands;
      stream = l.stream;
      quiet = λ seen. z.calm.stream;
      stands = z.stands;
      on = z.on;
      told = emptied_told z.on.count z.on.told (track_at after.normal.tracks i).life z.on.follows.course (emptied_stage (track_at after.normal.tracks i).life emptied alive);
      out = out;
    }

    -- what is left if the track's proxy took part in the meeting
    left_met : takes_part s (met_after s run round) i ≡ true → Left
    left_met part =
        let back : AwayBack after i most total c.on.told = away_back false s marks i first_run (first ∷ second ∷ []) most total away c round legal t turn part in
        record {
          track = away_of after i most total back.carried;
          stream = part_stream false s marks run round t i low named legal o.keeps part back.carried.calm.stream.calm back.carried.calm.stream_hands;
        }

    -- what is left if the track's proxy is home in the next meeting
    module _ (above : length run.states < after.current) where
      abbrev t_next : TurnMade s marks after next
      t_next = turn_of s marks scales long after next legal_next c_after.stands

      named_after : IsNamed s marks after i
      named_after = named_by s marks scales long after next legal_next c_after.stands i named lawful

      o_after : StaysOpen after i
      o_after = open_then false s marks run round i t legal (leaving.named_run s marks scales long run round legal sc i named lawful slot item p leaves c_after) (turn_runs s marks scales long run round legal sc.stands) o

      home : is_home (track_at (after_round s after next).normal.tracks i).holder ≡ true
      home = leaving.home_next s marks scales long run round legal sc i named lawful slot item p leaves c_after o next legal_next silent above

      part : takes_part s (met_after s after next) i ≡ true
      part = home_part s after next i home

      seen : Foreseen (told_at (after_round s after next) i).stream
      seen = part_seen false s marks after next t_next i named_after.low named legal_next o_after.keeps part

      turn_next : AwayTurn s marks after next i t_next
      turn_next = away_turn false s marks after next i t_next legal_next named_after (turn_runs s marks scales long after next legal_next c_after.stands) o_after seen turn.quiet two_after
          (λ lives. home_unshut false s marks after next i named_after.low legal_next seen t_next turn.quiet
          (ap is_home (greeted_coming s marks scales long after next legal_next c_after i named slot (leaving.coming s marks scales long run round legal sc i named lawful slot item p leaves c_after above)
          (ap is_returning (leaving.back s marks scales long run round legal sc i named lawful slot item p leaves c_after)) (ap number_of (leaving.slot_then s marks scales long run round legal sc i named lawful slot item p leaves c_after)))))

      all_away : AwayRounds false s marks i first_run (first ∷ second ∷ round ∷ [])
      all_away = (away.0, away.1, (away.2.0, away.2.1, (legal, (t, turn), tt)))

      left_missed : Left
      left_missed =
          let back : AwayBack (after_round s after next) i most total c.on.told = away_back false s marks i first_run (first ∷ second ∷ round ∷ []) most total all_away c next legal_next t_next turn_next part in
          let before = away_before false s marks i first_run (first ∷ second ∷ round ∷ []) most total all_away c next legal_next t_next turn_next part in
          let came = away_carried false s marks i (first ∷ second ∷ round ∷ []) first_run most total all_away (away_of first_run i most total c) (told_at first_run i).stream.shape refl before in
          let grown = round_later s after next i named_after.low in
          let history = part_stream false s marks after next t_next i named_after.low named legal_next o_after.keeps part back.carried.calm.stream.calm back.carried.calm.stream_hands in
          record {
            track = came.carried;
            stream = subst (λ (k : _). CalmStream k (client_list (told_at after i).stream) []) grown.shape (said_earlier (told_at (after_round s after next) i).stream.shape (client_list (told_at after i).stream) (client_list (told_at (after_round s after next) i).stream) grown.calls grown.client history);
          }

    -- the track is a stopped one after the round
    pub late_stopped : StoppedCarried after i most total
    late_stopped = by (leaving.part_or s marks scales long run round legal sc i named lawful slot item p leaves c_after)
      where
        by : (after.current ≡ length run.states) ⊎ (length run.states < after.current) → StoppedCarried after i most total
        by (inl at) = stopped_by (left_met (leaving.part_at s marks scales long run round legal sc i named lawful slot item p leaves c_after at))
        by (inr above) = stopped_by (left_missed above)

    -- if the fast mixer still uses the last state, the report tells of it
    told_now : after.current ≡ length run.states → ToldNow after i slot item
    told_now at = told_late s run round i slot item low (by (some_or_none (late_of run round)))
      where
        same : SameReports (with_cycles s (late_of run round) (after_turn s run round)) after
        same = let l = with_cycles s (late_of run round) (after_turn s run round) in let a = all_played s run round in let m = met_after s run round in same_both l m after (same_both l a m (loaded_same round.turn l) (met_same s a)) (ends_same m)

        last_late : last_used (with_cycles s (late_of run round) (after_turn s run round)).entries ≡ length run.states
        last_late = ap last_used (sym same.entries) ∙ sym c_after.stands.queue.current ∙ at

        last_is : state_of run.states (length run.states) ≡ Some run.normal.last
        last_is = leaving.last_is s marks scales long run round legal sc i named lawful slot item p leaves c_after

        track_is : item.track ≡ i
        track_is = leaving.track_is s marks scales long run round legal sc i named lawful slot item p leaves c_after

        at_turn : state_of (after_turn s run round).states (length run.states) ≡ Some run.normal.last
        at_turn = ap (λ l. state_of l (length run.states)) (turn_more s run round).whole ∙ state_more run.states (turn_more s run round).more (length run.states) (omega arith) ∙ last_is

        at_called : state_of (with_calls round run).states (length run.states) ≡ Some run.normal.last
        at_called = ap (λ l. state_of l (length run.states)) (calls_states round run) ∙ last_is

        some_early : late_of run round ≡ [] → 1 ≤ length (early_of run round)
        some_early none =
            let parts = fast_parts s marks run round legal sc.stands.going in
            let some = some_entry _ round.entries parts.turn.1 in
            let cut : early_of run round ++ late_of run round ≡ round.entries = take-append-drop (early_count run round) round.entries in
            let sum : length (early_of run round) + length (late_of run round) ≡ length round.entries = sym (length-append (early_of run round) (late_of run round)) ∙ ap length cut in
            let zero_late = ap length none in
            omega (arith, some, sum, zero_late)

        by : (1 ≤ length (late_of run round)) ⊎ (late_of run round ≡ []) → ToldNow (with_cycles s (late_of run round) (after_turn s run round)) i slot item
        by (inl some) = entries_tell s i slot item run.normal.last (length run.states) p.lending.low track_is p.last (late_of run round) (after_turn s run round) some at_turn last_late
        by (inr none) =
            subst (λ (es : List EntrySeen). ToldNow (with_cycles s es (after_turn s run round)) i slot item) (sym none)
            (told_turn s run round i slot item low (leaving.turn_adds s marks scales long run round legal sc i named lawful slot item p leaves c_after o next legal_next silent)
            (entries_tell s i slot item run.normal.last (length run.states) p.lending.low track_is p.last (early_of run round) (with_calls round run) (some_early none) at_called
            (ap last_used (sym (turned_same s (found_in s run round) round.turn (before_turn s run round)).entries) ∙ ap (λ (es : List EntrySeen). last_used (with_cycles s es (after_turn s run round)).entries) (sym none) ∙ last_late)))

    -- the track's proxy is on its way
    pub late_place : Place s after i slot item
    late_place = by (leaving.part_or s marks scales long run round legal sc i named lawful slot item p leaves c_after)
      where
        back : (track_at after.normal.tracks i).holder ≡ Returning
        back = leaving.back s marks scales long run round legal sc i named lawful slot item p leaves c_after

        generation : item.generation ≡ (track_at after.normal.tracks i).generation
        generation = leaving.generation_then s marks scales long run round legal sc i named lawful slot item p leaves c_after

        made : PushMade run.normal after.normal t.turn.push
        made = leaving.made s marks scales long run round legal sc i named lawful slot item p leaves c_after

        more_states : 1 ≤ length after.states
        more_states = let a = ap length (round_states s run round ∙ (turn_more s run round).whole) in let b = length-append run.states (turn_more s run round).more in let d = p.some in omega (arith, a, b, d)

        by_push : (b : Bool) → is_busy t.turn.push ≡ b → ToldNow after i slot item → Place s after i slot item
        by_push true busy told =
            let same = (made.busy busy).2 in
            let now = (queue_stands s marks run round legal sc.stands.queue).pushed in
            let before = sc.stands.queue.pushed in
            unpushed back generation (knows_acked s marks run round legal sc.stands.going sc.states sc.stands.queue (omega (arith, same, now, before))) more_states (subst (Plays slot item) (sym (made.busy busy).3) p.last) told.told
        by_push false free told =
            waits back generation more_states (subst (IsOut slot i) (sym (made.done free).1) (leaving.out_then s marks scales long run round legal sc i named lawful slot item p leaves c_after))
            (record { unshut = told.told.shut ∙ ap is_some turn.quiet.unshut; generation = told.told.generation })

        by : (after.current ≡ length run.states) ⊎ (length run.states < after.current) → Place s after i slot item
        by (inl at) = by_push (is_busy t.turn.push) refl (told_now at)
        by (inr above) = comes back (leaving.coming s marks scales long run round legal sc i named lawful slot item p leaves c_after above)

    pub late_is : TrackIs s after i most total
    late_is = stopped slot item p.lending.low (leaving.track_is s marks scales long run round legal sc i named lawful slot item p leaves c_after) (leaving.slot_then s marks scales long run round legal sc i named lawful slot item p leaves c_after) late_stopped late_place
