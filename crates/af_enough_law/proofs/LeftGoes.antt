-- The round in which a lent track leaves: all that its client is answered is fair, and the track is on its course after it.
use Rattle.std.proofs.Common.{◌≡◌, ◌⊎◌, inl, inr, ℕ, ◌≤◌, ◌<◌, unwrap_or, Bool, true, false, true≢false, All, Option, Some, List, [], ◌∷◌, ◌++◌, length, refl, sym, ap, ◌∙◌, subst, arith}
use Rattle.af_enough_law.proofs.Common.{Active, ClientEvent, FastTrack, LegalRound, Life, Marks, NormalKept, Returning, RoundSeen, Run, Session, Setting, Shape, Side, TrackKept, TrackSeen, Turn, after_round, calls_in, client_list, hand_list, is_lent, learnt, met_after, number_of, plays, server_list, setup_of, sides_of, takes_part, told_at, track_at, track_count, track_in, words_taken}
use Rattle.af_base.specs.declared.event.ClientEvent.TheVariants as client
use Rattle.af_enough_law.proofs.Basics.{course_long}
use Rattle.af_enough_law.proofs.Carried.{SessionCarried}
use Rattle.af_enough_law.proofs.Courses.{none_shut, Course, absent, idle, playing, stopping, drained, stopped, over, life_in}
use Rattle.af_enough_law.proofs.NormalRounds.{TurnMade}
use Rattle.af_enough_law.proofs.Playing.{AreFair}
use Rattle.af_enough_law.proofs.Calm.{are_hands_calm}
use Rattle.af_enough_law.proofs.Able.{able_any}
use Rattle.af_enough_law.proofs.CalmTracks.{round_released}
use Rattle.af_enough_law.proofs.CommandsGo.{CalmCommands, commands_of, OpenTurn, MayLearn, still, learns, may_learn, opens_after, words_after, known_then, commands_go}
use Rattle.af_enough_law.proofs.CourseGoes.{OnCourse, CourseGone, course_goes}
use Rattle.af_enough_law.proofs.Ends.{silent}
use Rattle.af_enough_law.proofs.Following.{greeted_in, greeted_alike}
use Rattle.af_enough_law.proofs.Foreseen.{Foreseen, KeepsTo, part_seen, quiet_after}
use Rattle.af_enough_law.proofs.HandCalm.{round_hands}
use Rattle.af_enough_law.proofs.HomeRounds.{home_part}
use Rattle.af_enough_law.proofs.LentRounds.{LentCarried}
use Rattle.af_enough_law.proofs.LeftRounds as round_of
use Rattle.af_enough_law.proofs.Lookahead.{greeted_coming, home_then, ended_then, seen_home, round_later}
use Rattle.af_enough_law.proofs.RunStreams.{round_grows}
use Rattle.af_enough_law.proofs.SentCourse.{sent_course}
use Rattle.af_enough_law.proofs.SentPlain.{plain_words, plain_take, plain_tail, course_plain, ArePlain, turn_plain, InPlay, plays_on}
use Rattle.af_enough_law.proofs.SessionRounds.{turn_of, turn_runs}
use Rattle.af_enough_law.proofs.SilentCalls.{silent_turn}
use Rattle.af_enough_law.proofs.StreamCalm.{IsQuiet}
use Rattle.af_enough_law.proofs.StreamHistories.{part_stream, said_earlier}
use Rattle.af_enough_law.proofs.TrackCarried.{TrackCarried}
use Rattle.af_enough_law.proofs.TrackGoes.{CalmStream, said_by, all_fair, goes_by, argued_by}
use Rattle.af_enough_law.proofs.TurnLives.{in_turned, ended_unseen}
use Rattle.af_enough_law.proofs.Turning.{Stands}

-- a life on its course that is to be heard took two commands or three
pub heard_told : (count told : ℕ) (l : Life) → Course count told l → plays l ≡ true → ((told ≡ 2) × (l ≡ life_in Active true false l.retries 0)) ⊎ (told ≡ 3)
heard_told count told l absent heard = absurd (true≢false (sym heard))
heard_told count told l idle heard = absurd (true≢false (sym heard))
heard_told count told l (playing retries a b) heard = inl (refl, refl)
heard_told count told l (stopping retries) heard = inr refl
heard_told count told l (drained retries) heard = inr refl
heard_told count told l (stopped retries) heard = inr refl
heard_told count told l (over life e) heard = absurd (true≢false (sym heard ∙ silent life e))

said_of : (k : Shape) (said after : List ClientEvent) → MayLearn said after → CalmStream k after [] → CalmStream k said []
said_of k said _ still h = h
said_of k said _ (learns n) h = said_earlier k said (said ++ client.Learn n ∷ []) (client.Learn n ∷ []) refl h

-- what a client that has sent three commands said to its stream is what it had said before
pub silent_said : (cut : Bool) (s : Session) (marks : Marks) (run : Run) (round : RoundSeen) (i most total : ℕ) → i < track_count s → LegalRound cut s marks run round → Stands (sides_of (told_at run i)) most total → (on : OnCourse run i) → 3 ≤ on.sent
    → said_by run round i ≡ client_list (told_at run i).stream
silent_said cut s marks run round i most total named legal stands on some =
    let a = ap length on.released in
    let b = course_long on.count 0 on.sent in
    ap (λ (x : Side). x.events) (silent_turn (sides_of (told_at run i)) (calls_in round i) most total (legal.turns.clients i named) stands (omega (arith, a, b, some)))

module _ (s : Session) (marks : Marks) (scales : All (λ (x : Setting). x.scale ≤ 4096) (setup_of s).settings) (long : length (setup_of s).settings ≡ track_count s) (run : Run) (round : RoundSeen) (legal : LegalRound false s marks run round) (c : SessionCarried s run)
    (i most total : ℕ) (named : i < track_count s) (lawful : marks.commands i ≡ true) (track : TrackCarried run i most total) (slot : ℕ) (item : FastTrack) (l : LentCarried s run i slot item)
    (leaves : is_lent (track_at (after_round s run round).normal.tracks i).holder ≡ false) (next : RoundSeen) (legal_next : LegalRound false s marks (after_round s run round) next) (two : 2 ≤ (track_at run.normal.tracks i).life.retries) where
  abbrev t : TurnMade s marks run round
  t = turn_of s marks scales long run round legal c.stands

  abbrev after : Run
  after = after_round s run round

  abbrev g : TrackKept
  g = greeted_in run.normal t.turn i

  pub low : i < length run.tracks
  low = round_of.low_run s marks scales long run round legal c i most total named lawful track slot item l leaves next legal_next

  pub kept : i < length run.normal.tracks
  kept = round_of.there s marks scales long run round legal c i most total named lawful track slot item l leaves next legal_next

  runs : t.turn.ended ≡ false
  runs = round_of.runs s marks scales long run round legal c i most total named lawful track slot item l leaves next legal_next

  pub session : SessionCarried s after
  session = round_of.session s marks scales long run round legal c i most total named lawful track slot item l leaves next legal_next

  pub turn : OpenTurn s marks run round i t
  turn = round_of.left_open s marks scales long run round legal c i most total named lawful track slot item l leaves next legal_next

  abbrev commands : CalmCommands run i track.known_commands
  commands = commands_of run i track.known_stream track.known_commands track.calm

  able : (track_in t.turn i).disabled ≡ false
  able = able_any (setup_of s) t.by.outside run.normal t.turn i kept runs (t.by.legal.goes_on runs) two

  -- no look finds its command block shut, and it isn't disabled
  opens : (e : Turn) → round.turn ≡ Some e → (none_shut (track_in e i).looks ≡ true) × ((track_in e i).disabled ≡ false)
  opens e is =
      let same : t.turn ≡ e = ap (λ (o : Option Turn). unwrap_or o t.turn) (sym t.is ∙ is) in
      (subst (λ (e : Turn). none_shut (track_in e i).looks ≡ true) same (opens_after false s marks run round i t legal track.known_commands commands turn).0, subst (λ (e : Turn). (track_in e i).disabled ≡ false) same able)

  pub quiet_then : Foreseen (told_at after i).stream → IsQuiet (told_at after i).stream.shape (server_list (told_at after i).stream)
  quiet_then seen = quiet_after false s marks run round i low legal seen (λ e is. (opens e is).0) track.calm.stream

  pub hands_then : are_hands_calm (hand_list (told_at after i).stream) ≡ true
  hands_then = round_hands s run round i low (λ e is. (opens e is).1) track.calm.stream_hands

  pub shape : (told_at after i).stream.shape ≡ (told_at run i).stream.shape
  shape = (round_grows s run round i low).shape

  pub keeps : KeepsTo run i
  keeps = round_of.keeps s marks scales long run round legal c i most total named lawful track slot item l leaves next legal_next

  keeps_next : KeepsTo after i
  keeps_next = round_of.keeps_then s marks scales long run round legal c i most total named lawful track slot item l leaves next legal_next

  low_then : i < length after.tracks
  low_then = let a = session.stands.tracks in omega (arith, a, named)

  there_then : i < length after.normal.tracks
  there_then = round_of.there_then s marks scales long run round legal c i most total named lawful track slot item l leaves next legal_next

  out : (plays (track_at after.normal.tracks i).life ≡ false) × ((track_at after.normal.tracks i).holder ≡ Returning)
  out = round_of.left s marks scales long run round legal c i most total named lawful track slot item l leaves next legal_next

  abbrev t_next : TurnMade s marks after next
  t_next = turn_of s marks scales long after next legal_next session.stands

  -- the calm history of the next round, of a track whose life has ended and whose proxy missed the meeting
  next_stream : (track_at after.normal.tracks i).life.ended ≡ true → takes_part s (met_after s run round) i ≡ false → CalmStream (told_at after i).stream.shape (client_list (told_at after i).stream) []
  next_stream ended none =
      let last : Run = after_round s after next in
      let slot_is = round_of.slot_then s marks scales long run round legal c i most total named lawful track slot item l leaves next legal_next in
      let home = greeted_coming s marks scales long after next legal_next session i named slot (round_of.coming s marks scales long run round legal c i most total named lawful track slot item l leaves next legal_next none)
      (round_of.returning s marks scales long run round legal c i most total named lawful track slot item l leaves next legal_next) (ap number_of slot_is) in
      let still = ended_then s marks scales long after next legal_next session i named ended in
      let stays = home_then s marks scales long after next legal_next session i named home (silent (track_at last.normal.tracks i).life still) in
      let goes = turn_runs s marks scales long after next legal_next session.stands in
      let unseen = ended_unseen (setup_of s) t_next.by.outside after.normal t_next.turn i there_then goes (t_next.by.legal.goes_on goes) ended in
      let nothing : (e : Turn) → next.turn ≡ Some e → (none_shut (track_in e i).looks ≡ true) × ((track_in e i).disabled ≡ false) = λ e is.
      let same : t_next.turn ≡ e = ap (λ (o : Option Turn). unwrap_or o t_next.turn) (sym t_next.is ∙ is) in
      let none : track_in e i ≡ _ = ap (λ (x : Turn). track_in x i) (sym same) ∙ unseen in
      (ap (λ (x : TrackSeen). none_shut x.looks) none, ap (λ (x : TrackSeen). x.disabled) none) in
      let quiet : IsQuiet (told_at after i).stream.shape (server_list (told_at after i).stream) = quiet_then (round_of.ended_seen s marks scales long run round legal c i most total named lawful track slot item l leaves next legal_next ended) in
      let seen : Foreseen (told_at last i).stream = seen_home s marks scales long after next legal_next session i named keeps_next stays in
      let quiet_last = quiet_after false s marks after next i low_then legal_next seen (λ e is. (nothing e is).0) quiet in
      let hands_last = round_hands s after next i low_then (λ e is. (nothing e is).1) hands_then in
      let grown = round_later s after next i low_then in
      let history = part_stream false s marks after next t_next i low_then named legal_next keeps_next (home_part s after next i stays) quiet_last.calm hands_last in
      subst (λ (k : Shape). CalmStream k (client_list (told_at after i).stream) []) grown.shape (said_earlier (told_at last i).stream.shape (client_list (told_at after i).stream) (client_list (told_at last i).stream) grown.calls grown.client history)

  -- what the client said by the end of its turn stands in a calm history
  ended_stream : (track_at after.normal.tracks i).life.ended ≡ true → CalmStream (told_at run i).stream.shape (said_by run round i) []
  ended_stream ended = said_of (told_at run i).stream.shape (said_by run round i) (client_list (told_at after i).stream) (may_learn s run round i low)
      (subst (λ (k : Shape). CalmStream k (client_list (told_at after i).stream) []) shape (by (takes_part s (met_after s run round) i) refl))
    where
      by : (b : Bool) → takes_part s (met_after s run round) i ≡ b → CalmStream (told_at after i).stream.shape (client_list (told_at after i).stream) []
      by true part =
          let seen : Foreseen (told_at after i).stream = part_seen false s marks run round t i low named legal keeps part in
          part_stream false s marks run round t i low named legal keeps part (quiet_then seen).calm hands_then
      by false none = next_stream ended none

  plain_looks : plain_words (words_taken (track_in t.turn i).looks) ≡ true
  plain_looks =
      let words = words_after false s marks run round i t legal track.known_commands commands turn in
      let on = track.on in
      let sent : ArePlain (told_at after i).commands.released = subst ArePlain (sym (round_released s run round i low)) (turn_plain (sides_of (told_at run i)) (calls_in round i) track.calm.flushless (legal.turns.clients i named) (subst ArePlain (sym on.released) (course_plain on.count 0 on.sent))) in
      plain_tail on.count 0 on.told (words_taken (track_in t.turn i).looks)
      (ap (λ (ws : List ℕ). plain_words (ws ++ words_taken (track_in t.turn i).looks)) (sym on.taken) ∙ ap plain_words (sym words.0 ∙ words.1.1) ∙ plain_take words.1.0 (told_at after i).commands.released sent.plain)

  pub left_stream : CalmStream (told_at run i).stream.shape (said_by run round i) []
  left_stream = by (heard_told track.on.count track.on.told (track_at run.normal.tracks i).life track.on.follows.course l.heard)
    where
      over_or : (e : ((track_at after.normal.tracks i).life.ended ≡ true) ⊎ (plays (track_at after.normal.tracks i).life ≡ true)) → (track_at after.normal.tracks i).life.ended ≡ true
      over_or (inl ended) = ended
      over_or (inr heard) = absurd (true≢false (sym heard ∙ out.0))

      by : ((track.on.told ≡ 2) × ((track_at run.normal.tracks i).life ≡ life_in Active true false (track_at run.normal.tracks i).life.retries 0)) ⊎ (track.on.told ≡ 3) → CalmStream (told_at run i).stream.shape (said_by run round i) []
      by (inr three) =
          let within = track.on.within in
          subst (λ (es : List ClientEvent). CalmStream (told_at run i).stream.shape es []) (sym (silent_said false s marks run round i most total named legal track.stands track.on (omega (arith, within, three)))) l.history
      by (inl told_two) =
          let first = greeted_alike t.turn.ack run.normal.last (track_at run.normal.tracks i) in
          let life = first.life ∙ told_two.1 in
          let alive : g.life.ended ≡ false = ap (λ (x : Life). x.ended) life in
          let retries = ap (λ (x : Life). x.retries) first.life in
          let made = in_turned (setup_of s) (learnt t.by.outside) run.normal t.turn i kept runs alive (turn.unshut alive) plain_looks (subst InPlay (sym life) (plays_on false (track_at run.normal.tracks i).life.retries 0)) (omega (arith, retries, two)) in
          ended_stream (over_or (subst (λ (m : NormalKept). ((track_at m.tracks i).life.ended ≡ true) ⊎ (plays_at m ≡ true)) (sym t.after) made))
        where
          plays_at : NormalKept → Bool
          plays_at m = plays (track_at m.tracks i).life

  -- all that the track's client is answered is fair
  pub left_fair : AreFair (calls_in round i)
  left_fair = all_fair false s marks run round i t legal track.known_commands commands turn [] left_stream (inl refl) most total track.stands

  pub left_stands : Stands (sides_of (told_at after i)) most total
  left_stands = goes_by false s marks run round i t legal low named runs left_fair most total track.stands

  -- the track is on its course after the round, so many commands further
  pub left_gone : CourseGone s marks run round i t track.on.told
  left_gone =
      let argued = argued_by false s marks run round i t legal low named runs left_fair most total track.calm.flushless track.stands track.on.argued in
      course_goes false s marks run round i t legal track.known_commands commands turn (sent_course (sides_of (told_at after i)) most total left_stands argued) argued track.on two

  -- the track's command block goes on
  pub left_commands : CalmCommands after i (known_then false s marks run round i t legal track.known_commands commands turn)
  left_commands = commands_go false s marks run round i t legal track.known_commands commands turn left_fair
