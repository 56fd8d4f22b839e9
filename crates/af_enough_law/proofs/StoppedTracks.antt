-- A track that has stopped: its client touches its stream no more, and waits to send its REMOVE.
use Rattle.std.proofs.Common.{◌≡◌, inl, ℕ, ◌≤◌, ◌<◌, unwrap_or, Bool, true, false, true≢false, All, Option, Some, List, [], length, fold, refl, sym, ap, ◌∙◌, subst, arith}
use Rattle.af_enough_law.proofs.Common.{BlockTold, ClientEvent, Home, LegalRound, Marks, NormalKept, RoundSeen, Run, ServerEvent, Session, Setting, Shape, TrackKept, TrackTold, Turn, after_call, after_round, all_played, calls_in, client_list, hand_list, heard, is_home, learnt, met_after, plays, server_list, setup_of, sides_of, stream_met, takes_part, told_at, track_at, track_count, track_in, turn_after}
use Rattle.af_enough_law.proofs.Basics.{part_met}
use Rattle.af_enough_law.proofs.Carried.{SessionCarried}
use Rattle.af_enough_law.proofs.Courses.{none_shut}
use Rattle.af_enough_law.proofs.NormalRounds.{TurnMade}
use Rattle.af_enough_law.proofs.Playing.{AreFair}
use Rattle.af_enough_law.proofs.Calm.{are_hands_calm}
use Rattle.af_enough_law.proofs.Able.{able_any}
use Rattle.af_enough_law.proofs.CommandsGo.{CalmCommands, OpenTurn, opens_after, known_then, commands_go}
use Rattle.af_enough_law.proofs.CourseGoes.{OnCourse, CourseGone, course_goes}
use Rattle.af_enough_law.proofs.FairTurns.{stream_grows}
use Rattle.af_enough_law.proofs.Following.{greeted_in}
use Rattle.af_enough_law.proofs.Foreseen.{Foreseen, KeepsTo, part_seen, seen_earlier, home_unshut, quiet_after}
use Rattle.af_enough_law.proofs.HandCalm.{round_hands}
use Rattle.af_enough_law.proofs.HomeRounds.{home_part}
use Rattle.af_enough_law.proofs.LeftGoes.{silent_said}
use Rattle.af_enough_law.proofs.Lookahead.{home_then, round_later}
use Rattle.af_enough_law.proofs.Ends.{silent}
use Rattle.af_enough_law.proofs.RunLists.{side_lists}
use Rattle.af_enough_law.proofs.RunStreams.{round_grows}
use Rattle.af_enough_law.proofs.ClientLists.{played_client_list}
use Rattle.af_enough_law.proofs.RunTracks.{played_track, round_blocks, met_track}
use Rattle.af_enough_law.proofs.SentCourse.{sent_course}
use Rattle.af_enough_law.proofs.SessionRounds.{turn_of, turn_runs}
use Rattle.af_enough_law.proofs.StreamCalm.{IsQuiet}
use Rattle.af_enough_law.proofs.StreamHistories.{part_stream}
use Rattle.af_enough_law.proofs.TrackGoes.{CalmStream, said_by, all_fair, goes_by, argued_by}
use Rattle.af_enough_law.proofs.TurnLives.{unshut_turned}
use Rattle.af_enough_law.proofs.Turning.{Stands}

-- what is carried of a stopped track, wherever its proxy is
pub record StoppedCarried (run : Run) (i most total : ℕ) : Type 0 where
  -- the track's command block is calm, and so much is known of its server
  pub known : List ServerEvent
  pub commands : CalmCommands run i known
  -- the lists of the track's stream: few frames, a hand that sets no flag, and a client whose list has a calm history; the server is calm and open as far as some history tells what it did
  pub few : (told_at run i).stream.shape.frames ≤ 65536
  pub hands : are_hands_calm (hand_list (told_at run i).stream) ≡ true
  pub stream : CalmStream (told_at run i).stream.shape (client_list (told_at run i).stream) []
  pub quiet : Foreseen (told_at run i).stream → IsQuiet (told_at run i).stream.shape (server_list (told_at run i).stream)
  -- the client is on its way, or gone, and has sent its STOP
  pub stands : Stands (sides_of (told_at run i)) most total
  pub on : OnCourse run i
  pub told : 3 ≤ on.told
  -- the track is not to be heard
  pub out : plays (track_at run.normal.tracks i).life ≡ false

-- a client says nothing to a stream whose proxy takes no part in the meeting but what it says in its turn
met_still : (there hands : Bool) (b : BlockTold) → there ≡ false → client_list (stream_met there hands b) ≡ client_list b
met_still true hands b e = absurd (true≢false e)
met_still false true b e = refl
met_still false false b e = refl

pub missed_said : (s : Session) (run : Run) (round : RoundSeen) (i : ℕ) → i < length run.tracks → takes_part s (met_after s run round) i ≡ false → client_list (told_at (after_round s run round) i).stream ≡ said_by run round i
missed_said s run round i low none =
    let t = told_at run i in
    let more = stream_grows (sides_of t) (calls_in round i) in
    let side = side_lists (fold after_call (sides_of t) (calls_in round i)).stream t.stream more.0 more.1 in
    ap client_list ((round_blocks s run round i low).0 ∙ ap (λ (x : TrackTold). x.stream) (met_track s run round i low))
    ∙ met_still (takes_part s (all_played s run round) i) (all_played s run round).handed (played_track s run round i t).stream (sym (part_met s (all_played s run round) i) ∙ none)
    ∙ played_client_list s run round i t ∙ side.0

-- ## A round

module _ (s : Session) (marks : Marks) (scales : All (λ (x : Setting). x.scale ≤ 4096) (setup_of s).settings) (long : length (setup_of s).settings ≡ track_count s) (run : Run) (round : RoundSeen) (legal : LegalRound false s marks run round) (c : SessionCarried s run)
    (i most total : ℕ) (named : i < track_count s) (lawful : marks.commands i ≡ true) (z : StoppedCarried run i most total) (two : 2 ≤ (track_at run.normal.tracks i).life.retries) where
  abbrev t : TurnMade s marks run round
  t = turn_of s marks scales long run round legal c.stands

  abbrev after : Run
  after = after_round s run round

  abbrev g : TrackKept
  g = greeted_in run.normal t.turn i

  runs : t.turn.ended ≡ false
  runs = turn_runs s marks scales long run round legal c.stands

  low : i < length run.tracks
  low = let a = c.stands.tracks in omega (arith, a, named)

  there : i < length run.normal.tracks
  there = let a = c.stands.kept in omega (arith, a, named)

  keeps : KeepsTo run i
  keeps = record { few = z.few; spelled = z.commands.spelled; pokeless = z.commands.pokeless; flushless = z.commands.flushless }

  earlier : Foreseen (told_at after i).stream → Foreseen (told_at run i).stream
  earlier seen = seen_earlier (told_at run i).stream (told_at after i).stream (round_later s run round i low) seen

  -- a proxy that is home when its track is served is heard to be open: else the life would have ended, and the proxy would be home at the meeting
  pub home_open : g.holder ≡ Home → OpenTurn s marks run round i t
  home_open home = record { low = low; named = named; there = there; lawful = lawful; runs = runs; unshut = unshut_turned (setup_of s) (learnt t.by.outside) run.normal t.turn i there runs unless }
    where
      unless : (track_at (turn_after (setup_of s) (learnt t.by.outside) run.normal t.turn).tracks i).life.ended ≡ true → (heard (learnt t.by.outside) i g).known.shut ≡ false
      unless over =
          let ended = ap (λ (m : NormalKept). (track_at m.tracks i).life.ended) t.after ∙ over in
          let stays = home_then s marks scales long run round legal c i named home (silent (track_at after.normal.tracks i).life ended) in
          let seen = part_seen false s marks run round t i low named legal keeps (home_part s run round i stays) in
          home_unshut false s marks run round i low legal seen t (z.quiet (earlier seen)) (ap is_home home)

  module _ (turn : OpenTurn s marks run round i t) where
    said_same : said_by run round i ≡ client_list (told_at run i).stream
    said_same = let a = z.on.within in let b = z.told in silent_said false s marks run round i most total named legal z.stands z.on (omega (arith, a, b))

    said_stream : CalmStream (told_at run i).stream.shape (said_by run round i) []
    said_stream = subst (λ (es : List ClientEvent). CalmStream (told_at run i).stream.shape es []) (sym said_same) z.stream

    -- all that the track's client is answered is fair
    pub stopped_fair : AreFair (calls_in round i)
    stopped_fair = all_fair false s marks run round i t legal z.known z.commands turn [] said_stream (inl refl) most total z.stands

    stopped_stands : Stands (sides_of (told_at after i)) most total
    stopped_stands = goes_by false s marks run round i t legal low named runs stopped_fair most total z.stands

    -- the track goes on on its course
    pub stopped_gone : CourseGone s marks run round i t z.on.told
    stopped_gone =
        let argued = argued_by false s marks run round i t legal low named runs stopped_fair most total z.commands.flushless z.stands z.on.argued in
        course_goes false s marks run round i t legal z.known z.commands turn (sent_course (sides_of (told_at after i)) most total stopped_stands argued) argued z.on two

    able : (track_in t.turn i).disabled ≡ false
    able = able_any (setup_of s) t.by.outside run.normal t.turn i there runs (t.by.legal.goes_on runs) two

    opens : (e : Turn) → round.turn ≡ Some e → (none_shut (track_in e i).looks ≡ true) × ((track_in e i).disabled ≡ false)
    opens e is =
        let same : t.turn ≡ e = ap (λ (o : Option Turn). unwrap_or o t.turn) (sym t.is ∙ is) in
        (subst (λ (e : Turn). none_shut (track_in e i).looks ≡ true) same (opens_after false s marks run round i t legal z.known z.commands turn).0, subst (λ (e : Turn). (track_in e i).disabled ≡ false) same able)

    quiet_then : Foreseen (told_at after i).stream → IsQuiet (told_at after i).stream.shape (server_list (told_at after i).stream)
    quiet_then seen = quiet_after false s marks run round i low legal seen (λ e is. (opens e is).0) (z.quiet (earlier seen))

    hands_then : are_hands_calm (hand_list (told_at after i).stream) ≡ true
    hands_then = round_hands s run round i low (λ e is. (opens e is).1) z.hands

    shape : (told_at after i).stream.shape ≡ (told_at run i).stream.shape
    shape = (round_grows s run round i low).shape

    stream_then : CalmStream (told_at after i).stream.shape (client_list (told_at after i).stream) []
    stream_then = by (takes_part s (met_after s run round) i) refl
      where
        by : (b : Bool) → takes_part s (met_after s run round) i ≡ b → CalmStream (told_at after i).stream.shape (client_list (told_at after i).stream) []
        by true part = part_stream false s marks run round t i low named legal keeps part (quiet_then (part_seen false s marks run round t i low named legal keeps part)).calm hands_then
        by false none = subst (λ (k : Shape). CalmStream k (client_list (told_at after i).stream) []) (sym shape)
            (subst (λ (es : List ClientEvent). CalmStream (told_at run i).stream.shape es []) (sym (missed_said s run round i low none)) said_stream)

    -- All of the track is carried on, if it isn't to be heard after the round
    pub stopped_carried : plays (track_at after.normal.tracks i).life ≡ false → StoppedCarried after i most total
    stopped_carried out =
        let gone : CourseGone s marks run round i t z.on.told = stopped_gone in
        record {
          known = known_then false s marks run round i t legal z.known z.commands turn;
          commands = commands_go false s marks run round i t legal z.known z.commands turn stopped_fair;
          few = subst (λ (k : Shape). k.frames ≤ 65536) (sym shape) z.few;
          hands = hands_then;
          stream = stream_then;
          quiet = quiet_then;
          stands = stopped_stands;
          on = gone.after;
          told = (let a = gone.next in let b = z.told in omega (arith, a, b));
          out = out;
        }
