-- After the first four rounds of a run of a script whose tracks play through, the session is carried, and each track is started.
use Rattle.std.proofs.Common.{◌≡◌, ◌⊎◌, inl, inr, ℕ, ◌+◌, ◌*◌, ◌%◌, ◌≤◌, ◌<◌, if◌then◌else◌, MatchBool, Bool, true, false, All, Some, None, List, [], ◌∷◌, length, sym, ap, ◌∙◌, subst, arith}
use Rattle.af_enough_law.proofs.Common.{AreCalls, Client, Frame, Home, IsScript, LegalRounds, Lent, Life, Marks, NormalKept, Op, RoundSeen, Run, ScriptData, Session, Setting, TrackKept, TrackTold, after_round, all_play_through, at_new, begun, calls_in, client_list, few_or_two, is_home, is_lent, is_over, new_at, new_run, new_track, scales_of, server_list, session_of, setting_of, settled_in, setup_of, sides_of, slots, spec_of, state_code, status_word, told_at, track_at, track_count, true_or_false}
use Rattle.af_enough_law.proofs.Basics.{course_long}
use Rattle.af_runs.specs.Runs as runs
use Rattle.af_enough_law.proofs.Carried.{SessionStands, SessionCarried}
use Rattle.af_enough_law.proofs.Courses.{Course, absent, idle, playing, stopping, drained, stopped, over, Follows}
use Rattle.af_enough_law.proofs.Drafts.{is_busy}
use Rattle.af_enough_law.proofs.NormalRounds.{TurnMade}
use Rattle.af_enough_law.proofs.Playing.{AreFair}
use Rattle.af_enough_law.specs.Seen.{frames_put, frames_taken}
use Rattle.af_enough_law.proofs.CalmTracks.{round_released}
use Rattle.af_enough_law.proofs.Carrying.{TrackIs, slotless, lent, gone_over}
use Rattle.af_enough_law.proofs.CarryBegins.{Begun, begins_track, begins_session, settings_long}
use Rattle.af_enough_law.proofs.EarlyCalls.{no_stop, Early, opening, early}
use Rattle.af_enough_law.proofs.EarlyRounds.{Spoken, spoken_of, Unsettled, comes_then, low_then, spoken_then, counts_then, plays_then, ended_then, roams_then}
use Rattle.af_enough_law.proofs.EarlyTaken.{are_low}
use Rattle.af_enough_law.proofs.EndRounds.{order_round}
use Rattle.af_enough_law.proofs.FirstCalls.{first_of, first_turn}
use Rattle.af_enough_law.proofs.HomeRounds.{IsNamed, slotless_carried}
use Rattle.af_enough_law.proofs.LeftEarly.{named_by, lent_heard, left_silent}
use Rattle.af_enough_law.proofs.LookedLives.{course_unstopped}
use Rattle.af_enough_law.proofs.RipeRounds.{IsRipe, new_ripe, round_ripe}
use Rattle.af_enough_law.proofs.RoamingCalls.{Roams, IsRoaming, opening as opens_first}
use Rattle.af_enough_law.proofs.RunBegins.{Plays, track_plays}
use Rattle.af_enough_law.proofs.SessionRounds.{turn_of, turn_runs, push_of, session_carried}
use Rattle.af_enough_law.proofs.SentPlain.{even_words}
use Rattle.af_enough_law.proofs.Slots.{slotless_stays}
use Rattle.af_enough_law.proofs.StartLent.{retries_round, lent_two}
use Rattle.af_enough_law.proofs.StartRun.{started_on, from_home, lent_or_not, slot_or_none}
use Rattle.af_enough_law.proofs.StartTracks.{numbers, stays_or_lent, home_gone, home_fair, home_knows, home_stopped}
use Rattle.af_enough_law.proofs.TrackCarried.{TrackCarried, TrackGone}

-- the status of a life that took one command at most says so
low_course : (count told : ℕ) (l : Life) (n : ℕ) → Course count told l → told ≤ 1 → n ≡ told → settled_in (state_code false l + (if l.drained then 16 else 0) + 256 * (n % 16777216)) ≤ 1
low_course count told l n absent few same = subst (λ (k : ℕ). settled_in (0 + 0 + 256 * (k % 16777216)) ≤ 1) (sym same) (omega arith)
low_course count told l n idle few same = subst (λ (k : ℕ). settled_in (1 + 0 + 256 * (k % 16777216)) ≤ 1) (sym same) (omega arith)
low_course count told l n (playing retries a b) few same = absurd (let z : ⊥ = omega (arith, few) in z)
low_course count told l n (stopping retries) few same = absurd (let z : ⊥ = omega (arith, few) in z)
low_course count told l n (drained retries) few same = absurd (let z : ⊥ = omega (arith, few) in z)
low_course count told l n (stopped retries) few same = absurd (let z : ⊥ = omega (arith, few) in z)
low_course count told l n (over life e) few same = absurd (let z : ⊥ = omega (arith, few) in z)

settled_few : (x : TrackKept) (count told word : ℕ) → Follows count told x → word ≡ x.status → told ≤ 1 → settled_in word ≤ 1
unfolding status_word
settled_few x count told word f same few = subst (λ (w : ℕ). settled_in w ≤ 1) (sym (same ∙ f.status)) (low_course count told x.life x.settled f.course few f.settled)

-- five legal rounds from the first one on, and not all is over after any of the first four
pub record FirstRounds (s : Session) (marks : Marks) : Type 0 where
  pub first : RoundSeen
  pub second : RoundSeen
  pub third : RoundSeen
  pub fourth : RoundSeen
  pub fifth : RoundSeen
  pub legal : LegalRounds false s marks (new_run s) (first ∷ second ∷ third ∷ fourth ∷ fifth ∷ [])
  pub over_one : is_over (after_round s (new_run s) first).normal.tracks ≡ false
  pub over_two : is_over (after_round s (after_round s (new_run s) first) second).normal.tracks ≡ false
  pub over_three : is_over (after_round s (after_round s (after_round s (new_run s) first) second) third).normal.tracks ≡ false
  pub over_four : is_over (after_round s (after_round s (after_round s (after_round s (new_run s) first) second) third) fourth).normal.tracks ≡ false

module _ (script : ScriptData) (files : List (List Frame)) (marks : Marks) (form : IsScript script) (through : all_play_through script ≡ true) (lawful : (i : ℕ) → i < length script.tracks → marks.commands i ≡ true) (r : FirstRounds (session_of script files) marks) where
  abbrev pub s : Session
  s = session_of script files

  abbrev pub scales : All (λ (x : Setting). x.scale ≤ 4096) (setup_of s).settings
  scales = scales_of s form

  abbrev pub long : length (setup_of s).settings ≡ track_count s
  long = settings_long s

  abbrev run : Run
  run = new_run s

  abbrev one : Run
  one = after_round s run r.first

  abbrev two : Run
  two = after_round s one r.second

  abbrev three : Run
  three = after_round s two r.third

  abbrev four : Run
  four = after_round s three r.fourth

  begins : SessionStands s run
  begins = begins_session s

  at_one : SessionCarried s one
  at_one = session_carried s marks scales long run r.first r.legal.0 begins r.over_one

  at_two : SessionCarried s two
  at_two = session_carried s marks scales long one r.second r.legal.1.0 at_one.stands r.over_two

  at_three : SessionCarried s three
  at_three = session_carried s marks scales long two r.third r.legal.1.1.0 at_two.stands r.over_three

  ripe_one : (n : ℕ) (low : n < slots) → IsRipe s one n low
  ripe_one n low = round_ripe s marks scales long run r.first r.legal.0 begins n low (new_ripe s n low)

  module _ (i : ℕ) (named : i < track_count s) where
    new_is : track_at run.normal.tracks i ≡ new_track
    new_is = at_new (length (setup_of s).settings) i

    home : is_home (track_at run.normal.tracks i).holder ≡ true
    home = ap (λ (x : TrackKept). is_home x.holder) new_is

    all_retries : 50 ≤ (track_at run.normal.tracks i).life.retries
    all_retries = let a = ap (λ (x : TrackKept). x.life.retries) new_is in omega (arith, a)

    some_one : 49 ≤ (track_at one.normal.tracks i).life.retries
    some_one = retries_round s marks scales long run r.first r.legal.0 begins i 49 named (omega arith) all_retries

    some_two : 48 ≤ (track_at two.normal.tracks i).life.retries
    some_two = retries_round s marks scales long one r.second r.legal.1.0 at_one.stands i 48 named (omega arith) some_one

    some_three : 47 ≤ (track_at three.normal.tracks i).life.retries
    some_three = retries_round s marks scales long two r.third r.legal.1.1.0 at_two.stands i 47 named (omega arith) some_two

    -- what the track's client has to do
    pub begun_track : Begun s i
    begun_track = begins_track script files i form through named

    abbrev most : ℕ
    most = begun_track.most

    abbrev total : ℕ
    total = begun_track.total

    track : TrackCarried run i most total
    track = begun_track.carried

    abbrev pub Starts : Run → Type 0
    Starts x = TrackIs s x i most total

    few : 2 ≤ (track_at run.normal.tracks i).life.retries
    few = let a = all_retries in omega (arith, a)

    few_one : 2 ≤ (track_at one.normal.tracks i).life.retries
    few_one = let a = some_one in omega (arith, a)

    few_two : 2 ≤ (track_at two.normal.tracks i).life.retries
    few_two = let a = some_two in omega (arith, a)

    few_three : 2 ≤ (track_at three.normal.tracks i).life.retries
    few_three = let a = some_three in omega (arith, a)

    -- what a track is after an earlier round it is after the fourth
    from_three : TrackIs s three i most total → Starts four
    from_three x = (started_on s marks scales long i named (lawful i named) three r.fourth r.fifth r.legal.1.1.1.0 at_three r.legal.1.1.1.1.0 most total few_three x)

    from_two : TrackIs s two i most total → Starts four
    from_two x = from_three (started_on s marks scales long i named (lawful i named) two r.third r.fourth r.legal.1.1.0 at_two r.legal.1.1.1.0 most total few_two x)

    from_one : TrackIs s one i most total → Starts four
    from_one x = from_two (started_on s marks scales long i named (lawful i named) one r.second r.third r.legal.1.0 at_one r.legal.1.1.0 most total few_one x)

    abbrev t : TurnMade s marks run r.first
    t = turn_of s marks scales long run r.first r.legal.0 begins

    goes : t.turn.ended ≡ false
    goes = turn_runs s marks scales long run r.first r.legal.0 begins

    -- a track that never gets a slot
    slow_track : (setting_of (setup_of s) i).fast ≡ false → Starts four
    slow_track slow =
        let none : (track_at run.normal.tracks i).slot ≡ None = ap (λ (x : TrackKept). x.slot) new_is in
        let at : IsNamed s marks run i = numbers s marks scales long i named (lawful i named) run r.first r.legal.0 begins most total track few home in
        let order = order_round s marks scales run r.first r.legal.0 begins.runs t goes (let a = begins.kept in omega (arith, a, long)) begins.order in
        let none_then : (track_at one.normal.tracks i).slot ≡ None = ap (λ (m : NormalKept). (track_at m.tracks i).slot) t.after ∙ slotless_stays (setup_of s) _ run.normal t.turn i at.there goes slow none in
        let gone = slotless_carried false s marks run r.first i most total t r.legal.0 at goes track few none none_then (begins.order.sound.slotted i) (order.sound.slotted i) in
        from_one (slotless gone.carried (inl slow) none_then)

    here : told_at run i ≡ runs.new_told_track s i
    here = new_at s i named

    plays_on : Plays (spec_of s i).ops
    plays_on = track_plays script files i form through named

    first_is : begun (told_at run i).client ≡ first_of plays_on.rest
    first_is = ap (λ (x : TrackTold). begun x.client) here ∙ ap (λ (ops : List Op). begun (runs_client ops)) plays_on.whole
      where
        runs_client : List Op → Client
        runs_client ops = record (runs.new_told_track s i).client { ops = ops }

    -- no command of a track in a new run is settled
    unsettled : Unsettled run i
    unsettled = record {
      comes = early (record {
        sent = 0;
        client = subst (λ (c : Client). Early c 0) (sym first_is) (opening false false plays_on.rest);
        put = ap (λ (x : TrackTold). frames_put (client_list x.commands)) here;
        long = ap (λ (x : TrackTold). length x.commands.released) here;
        stopless = ap (λ (x : TrackTold). no_stop x.commands.released) here;
      });
      low = ap (λ (x : TrackTold). are_low (server_list x.commands)) here;
      counted = ap (λ (x : TrackTold). frames_taken (server_list x.commands)) here ∙ ap (λ (x : TrackTold). length x.commands.taken) (sym here);
    }

    roams : IsRoaming (sides_of (told_at run i))
    roams = record {
      stopped = false;
      client = subst (λ (c : Client). Roams c false) (sym first_is) (opens_first false false plays_on.rest plays_on.way);
      even = ap (λ (x : TrackTold). even_words x.commands.released) here;
      words = ap (λ (x : TrackTold). no_stop x.commands.released) here;
    }

    named_run : IsNamed s marks run i
    named_run = named_by s marks scales long run r.first r.legal.0 begins i named (lawful i named)

    spoken : Spoken run i
    spoken = spoken_of run i most total track

    spoken_one : Spoken one i
    spoken_one = spoken_then false s marks run r.first i t r.legal.0 named_run goes spoken

    -- a client whose track stays at home sends OPEN and START in its first turn
    module _ (stays : (track_at one.normal.tracks i).holder ≡ Home) where
      gone_one : TrackGone s marks run r.first i most total t track.on.told
      gone_one = home_gone s marks scales long i named (lawful i named) run r.first r.legal.0 begins most total track few home stays

      fair_one : AreFair (calls_in r.first i)
      fair_one = home_fair s marks scales long i named (lawful i named) run r.first r.legal.0 begins most total track few home stays

      made : AreCalls 64 (sides_of (told_at run i)) (calls_in r.first i)
      made = subst (λ (b : Bool). MatchBool b (calls_in r.first i ≡ []) (AreCalls 64 (sides_of (told_at run i)) (calls_in r.first i))) (ap (λ (x : TrackTold). x.client.ended) here) (r.legal.0.turns.clients i named)

      sent_two : 2 ≤ gone_one.carried.on.sent
      sent_two =
          let four_words = first_turn 64 (sides_of (told_at run i)) (calls_in r.first i) plays_on.rest (omega arith) first_is made fair_one in
          let same = ap length (round_released s run r.first i (let a = begins.tracks in omega (arith, a, named))) in
          let released = ap length gone_one.carried.on.released ∙ course_long gone_one.carried.on.count 0 gone_one.carried.on.sent in
          omega (arith, four_words, same, released)

      unsettled_one : gone_one.carried.on.told ≤ 1 → Unsettled one i
      unsettled_one few_told = record {
        comes = comes_then false s marks run r.first i t r.legal.0 named_run goes unsettled.comes;
        low = low_then false s marks run r.first i t r.legal.0 named_run goes unsettled.low (settled_few (track_at one.normal.tracks i) gone_one.carried.on.count gone_one.carried.on.told _ gone_one.carried.on.follows gone_one.carried.on.status few_told);
        counted = counts_then false s marks run r.first i t r.legal.0 named_run goes spoken unsettled;
      }

      home_track : Starts four
      unfolding gone_one
      home_track = by (few_or_two gone_one.carried.on.told) (slot_or_none (track_at one.normal.tracks i).slot)
        where
          by : (gone_one.carried.on.told ≤ 1) ⊎ (2 ≤ gone_one.carried.on.told) → ((track_at one.normal.tracks i).slot ≡ None) ⊎ ((n : ℕ) × ((track_at one.normal.tracks i).slot ≡ Some n)) → Starts four
          by (inl few_told) slot_is =
              from_home s marks scales long i named (lawful i named) one r.second r.third r.fourth r.fifth r.legal.1.0 at_one r.legal.1.1.0 at_two r.legal.1.1.1.0 at_three r.legal.1.1.1.1.0 most total (let a = some_one in omega (arith, a))
              gone_one.carried (ap is_home stays) ripe_one (home_knows s marks scales long i named (lawful i named) run r.first r.legal.0 begins most total track few home) (unsettled_one few_told) few_told (roams_then false s marks run r.first i t r.legal.0 named_run goes roams) sent_two
          by (inr two_told) (inl none) = from_one (slotless gone_one.carried (inr (omega (arith, two_told))) none)
          by (inr two_told) (inr at) = from_one (home_stopped s marks scales long i named (lawful i named) run r.first r.legal.0 begins most total track few home stays at.0 at.1 two_told)

    -- a track that the first turn lends already: its push isn't busy
    lent_track : (track_at one.normal.tracks i).holder ≡ Lent → Starts four
    lent_track lents = by (true_or_false (is_busy t.turn.push)) (lent_or_not (track_at two.normal.tracks i).holder)
      where
        by : (is_busy t.turn.push ≡ true) ⊎ (is_busy t.turn.push ≡ false) → ((track_at two.normal.tracks i).holder ≡ Lent) ⊎ (is_lent (track_at two.normal.tracks i).holder ≡ false) → Starts four
        by (inl busy) two_is = let some = ((push_of s marks scales long run r.first r.legal.0 begins).busy busy).1 in absurd (let z : ⊥ = omega (arith, some) in z)
        by (inr free) (inr gone) =
            let t_two = turn_of s marks scales long one r.second r.legal.1.0 at_one.stands in
            let on = track.on in
            let fresh : Course 0 0 (track_at run.normal.tracks i).life = subst (λ (x : TrackKept). Course 0 0 x.life) (sym new_is) absent in
            let play = plays_then false s marks run r.first i t r.legal.0 named_run goes spoken unsettled (ap (λ (x : TrackKept). x.life.ended) new_is) (course_unstopped 0 0 (track_at run.normal.tracks i).life fresh (omega arith)) (lent_heard s marks scales long run r.first r.legal.0 begins i named home lents) in
            from_two (gone_over (record { life = ended_then false s marks one r.second i t_two r.legal.1.0 (named_by s marks scales long one r.second r.legal.1.0 at_one.stands i named (lawful i named)) (turn_runs s marks scales long one r.second r.legal.1.0 at_one.stands) spoken_one play few_one (left_silent s marks scales long one r.second r.legal.1.0 at_one.stands i named lents gone) }))
        by (inr free) (inl lents_two) =
            let z = lent_two s marks scales long i named (lawful i named) run r.first r.legal.0 begins most total track home (λ n low. new_ripe s n low) (let a = all_retries in omega (arith, a)) lents r.second r.legal.1.0 at_one free lents_two in
            from_two (lent z.slot z.item z.carried z.lent)

    -- Each track is started
    pub start_track : Starts four
    start_track = by (true_or_false (setting_of (setup_of s) i).fast) (stays_or_lent s marks scales long i named (lawful i named) run r.first r.legal.0 begins most total track few home)
      where
        by : ((setting_of (setup_of s) i).fast ≡ true) ⊎ ((setting_of (setup_of s) i).fast ≡ false) → ((track_at one.normal.tracks i).holder ≡ Home) ⊎ ((track_at one.normal.tracks i).holder ≡ Lent) → Starts four
        by (inr slow) place = slow_track slow
        by (inl quick) (inl stays) = home_track stays
        by (inl quick) (inr lents) = lent_track lents
