-- What is carried of a track over rounds in whose meetings its proxy takes no part, once it takes part again: what its client was answered meanwhile is judged by that later history.
use Rattle.std.proofs.Common.{◌≡◌, inr, ℕ, ◌≤◌, ◌<◌, Bool, true, false, Option, unwrap_or, List, [], ◌∷◌, ◌++◌, length, refl, sym, ap, ◌∙◌, subst, arith, append_assoc, append-nil}
use Rattle.af_enough_law.proofs.Common.{ClientEvent, HasBlockHistory, LegalRound, Marks, RoundSeen, Run, ServerEvent, Session, Shape, Turn, after_round, calls_in, client_list, hand_list, is_tame, met_after, run_from, server_list, setup_of, sides_of, takes_part, told_at, track_at, track_in}
use Rattle.af_base.specs.declared.event.ClientEvent.TheVariants as client
use Rattle.af_base.specs.declared.event.ServerEvent.TheVariants as server
use Rattle.af_enough_law.proofs.Basics.{taken-append}
use Rattle.af_enough_law.proofs.NormalRounds.{TurnMade}
use Rattle.af_enough_law.proofs.Playing.{AreFair}
use Rattle.af_enough_law.specs.Seen.{frames_taken}
use Rattle.af_enough_law.proofs.Calm.{are_hands_calm}
use Rattle.af_enough_law.proofs.Able.{able_any}
use Rattle.af_enough_law.proofs.Argued.{AreArgued}
use Rattle.af_enough_law.proofs.CalmTracks.{CalmTrack, stream_lists}
use Rattle.af_enough_law.proofs.CommandsGo.{CalmCommands, OpenTurn, MayLearn, still, learns, commands_of, may_learn, commands_go, known_then}
use Rattle.af_enough_law.proofs.CourseGoes.{OnCourse, CourseGone, course_goes}
use Rattle.af_enough_law.proofs.FairTurns.{IsKnown, IsCalm, still_known, stream_grows}
use Rattle.af_enough_law.proofs.Foreseen.{KeepsTo, keeps_to}
use Rattle.af_enough_law.proofs.HandCalm.{round_hands}
use Rattle.af_enough_law.proofs.HomeRounds.{keeps_of}
use Rattle.af_enough_law.proofs.RunStreams.{Grows, grows_no, grows_on, round_grows}
use Rattle.af_enough_law.proofs.RunTracks.{round_blocks}
use Rattle.af_enough_law.proofs.SentCourse.{sent_course}
use Rattle.af_enough_law.proofs.StreamCalm.{IsQuiet}
use Rattle.af_enough_law.proofs.TrackCarried.{TrackCarried}
use Rattle.af_enough_law.proofs.TrackGoes.{CalmStream, said_by, all_fair, goes_by, argued_by}
use Rattle.af_enough_law.proofs.Turning.{Stands}

-- ## The client's list

tail_of : (said after : List ClientEvent) → MayLearn said after → (more : List ClientEvent) × (after ≡ said ++ more)
tail_of said _ still = ([], sym (append-nil said))
tail_of said _ (learns n) = (client.Learn n ∷ [], refl)

-- what a client said stands in its list after the round
pub said_then : (s : Session) (run : Run) (round : RoundSeen) (i : ℕ) → i < length run.tracks → (more : List ClientEvent) × (client_list (told_at (after_round s run round) i).stream ≡ said_by run round i ++ more)
said_then s run round i low = tail_of (said_by run round i) (client_list (told_at (after_round s run round) i).stream) (may_learn s run round i low)

-- what a client had said before stands in its list after the round
pub said_on : (s : Session) (run : Run) (round : RoundSeen) (i : ℕ) → i < length run.tracks → (more : List ClientEvent) × (client_list (told_at (after_round s run round) i).stream ≡ client_list (told_at run i).stream ++ more)
said_on s run round i low =
    let more = stream_grows (sides_of (told_at run i)) (calls_in round i) in
    let tail = said_then s run round i low in
    (more.0 ++ tail.0, tail.1 ∙ ap (λ (es : List ClientEvent). es ++ tail.0) more.1 ∙ append_assoc (client_list (told_at run i).stream) more.0 tail.0)

-- what is carried of a track whose proxy may be on its way: of its stream's server its client may know less than all that it took
pub record AwayTrack (run : Run) (i most total : ℕ) : Type 0 where
  pub known_stream : List ServerEvent
  pub known_commands : List ServerEvent
  pub calm : CalmTrack run i known_stream known_commands
  pub stands : Stands (sides_of (told_at run i)) most total
  pub on : OnCourse run i

abbrev pub away_of : (run : Run) (i most total : ℕ) → TrackCarried run i most total → AwayTrack run i most total
away_of run i most total c = record { known_stream = c.known_stream; known_commands = c.known_commands; calm = c.calm; stands = c.stands; on = c.on }

-- what a round makes of a track whose proxy may be on its way
pub record AwayGone (s : Session) (marks : Marks) (run : Run) (round : RoundSeen) (i most total : ℕ) (t : TurnMade s marks run round) (told : ℕ) (known : List ServerEvent) : Type 0 where
  pub carried : AwayTrack (after_round s run round) i most total
  pub gone : CourseGone s marks run round i t told
  pub same : carried.on ≡ gone.after
  pub known_same : carried.known_stream ≡ known

-- ## A round

-- a round whose turn goes on without hearing that the stream of a track with two retries is shut, and that leaves its server calm
pub record AwayTurn (s : Session) (marks : Marks) (run : Run) (round : RoundSeen) (i : ℕ) (t : TurnMade s marks run round) : Type 0 where
  pub turn : OpenTurn s marks run round i t
  pub two : 2 ≤ (track_at run.normal.tracks i).life.retries
  pub quiet : IsQuiet (told_at (after_round s run round) i).stream.shape (server_list (told_at (after_round s run round) i).stream)

module _ (cut : Bool) (s : Session) (marks : Marks) (run : Run) (round : RoundSeen) (i : ℕ) (t : TurnMade s marks run round) (legal : LegalRound cut s marks run round) (away : AwayTurn s marks run round i t) where
  -- the hand of the track stays calm
  pub away_hands : are_hands_calm (hand_list (told_at run i).stream) ≡ true → are_hands_calm (hand_list (told_at (after_round s run round) i).stream) ≡ true
  away_hands calm = round_hands s run round i away.turn.low (λ e is. let same : t.turn ≡ e = ap (λ (o : Option Turn). unwrap_or o t.turn) (sym t.is ∙ is) in subst (λ (e : Turn). (track_in e i).disabled ≡ false) same able) calm
    where
      able : (track_in t.turn i).disabled ≡ false
      able = able_any (setup_of s) t.by.outside run.normal t.turn i away.turn.there away.turn.runs (t.by.legal.goes_on away.turn.runs) away.two

  module _ (most total : ℕ) (c : AwayTrack run i most total) (stream : CalmStream (told_at run i).stream.shape (said_by run round i) c.known_stream) where
    calm_commands : CalmCommands run i c.known_commands
    calm_commands = commands_of run i c.known_stream c.known_commands c.calm

    -- all that the track's client is answered is fair
    pub away_fair : AreFair (calls_in round i)
    away_fair = all_fair cut s marks run round i t legal c.known_commands calm_commands away.turn c.known_stream stream c.calm.knew_stream most total c.stands

    away_stands : Stands (sides_of (told_at (after_round s run round) i)) most total
    away_stands = goes_by cut s marks run round i t legal away.turn.low away.turn.named away.turn.runs away_fair most total c.stands

    away_argued : AreArgued (sides_of (told_at (after_round s run round) i))
    away_argued = argued_by cut s marks run round i t legal away.turn.low away.turn.named away.turn.runs away_fair most total c.calm.flushless c.stands c.on.argued

    away_course : CourseGone s marks run round i t c.on.told
    away_course = course_goes cut s marks run round i t legal c.known_commands calm_commands away.turn (sent_course (sides_of (told_at (after_round s run round) i)) most total away_stands away_argued) away_argued c.on away.two

    away_known : List ServerEvent
    away_known = known_then cut s marks run round i t legal c.known_commands calm_commands away.turn

    away_calm : CalmTrack (after_round s run round) i c.known_stream away_known
    unfolding away_known
    away_calm =
        let commands = commands_go cut s marks run round i t legal c.known_commands calm_commands away.turn away_fair in
        let grown = round_grows s run round i away.turn.low in
        let said = said_on s run round i away.turn.low in
        record {
          stream = away.quiet;
          stream_hands = away_hands c.calm.stream_hands;
          stream_few = subst (λ (k : Shape). k.frames ≤ 65536) (sym grown.shape) c.calm.stream_few;
          stream_later = c.calm.stream_later ++ grown.more;
          stream_knows = grown.server ∙ ap (λ (es : List ServerEvent). es ++ grown.more) c.calm.stream_knows ∙ append_assoc c.known_stream c.calm.stream_later grown.more;
          knew_stream = subst (IsKnown c.known_stream) (sym said.1) (still_known c.known_stream (client_list (told_at run i).stream) said.0 c.calm.knew_stream);
          commands = commands.calm;
          commands_hands = commands.hands;
          commands_few = commands.few;
          commands_later = commands.later;
          commands_knows = commands.knows;
          knew_commands = commands.knew;
          is_open = commands.is_open;
          words = commands.words;
          spelled = commands.spelled;
          pokeless = commands.pokeless;
          flushless = commands.flushless;
        }

    -- A round that is judged later keeps what is carried of the track
    pub away_gone : AwayGone s marks run round i most total t c.on.told c.known_stream
    away_gone = let gone : CourseGone s marks run round i t c.on.told = away_course in record {
      carried = record { known_stream = c.known_stream; known_commands = away_known; calm = away_calm; stands = away_stands; on = gone.after };
      gone = gone;
      same = refl;
      known_same = refl;
    }

-- ## Some rounds

-- each of some legal rounds is such a one
abbrev pub AwayRounds : Bool → Session → Marks → ℕ → Run → List RoundSeen → Type 0
AwayRounds cut s marks i run [] = Unit {0}
AwayRounds cut s marks i run (round ∷ rounds) = LegalRound cut s marks run round × ((t : TurnMade s marks run round) × AwayTurn s marks run round i t) × AwayRounds cut s marks i (after_round s run round) rounds

-- what is known without the client's answers: the client keeps to its calls, the server only did more, and the hand is calm
pub record Remains (before after : Run) (i : ℕ) : Type 0 where
  pub keeps : KeepsTo after i
  pub grows : Grows (told_at before i).stream (told_at after i).stream
  pub quiet : IsQuiet (told_at after i).stream.shape (server_list (told_at after i).stream)
  pub hands : are_hands_calm (hand_list (told_at after i).stream) ≡ true

module _ (cut : Bool) (s : Session) (marks : Marks) (i : ℕ) where
  pub away_remains : (rounds : List RoundSeen) (first run : Run) → AwayRounds cut s marks i run rounds → Remains first run i → Remains first (run_from s run rounds) i
  away_remains [] first run away r = r
  away_remains (round ∷ rounds) first run away r =
      let t = away.1.0 in
      let turn = away.1.1 in
      away_remains rounds first (after_round s run round) away.2 (record {
        keeps = keeps_to cut s marks run round t i turn.turn.low turn.turn.named away.0 r.keeps;
        grows = grows_on r.grows (round_grows s run round i turn.turn.low);
        quiet = turn.quiet;
        hands = away_hands cut s marks run round i t away.0 turn r.hands;
      })

  -- what the client said stands in its list after the rounds
  pub away_said : (rounds : List RoundSeen) (run : Run) → AwayRounds cut s marks i run rounds → (more : List ClientEvent) × (client_list (told_at (run_from s run rounds) i).stream ≡ client_list (told_at run i).stream ++ more)
  away_said [] run away = ([], sym (append-nil (client_list (told_at run i).stream)))
  away_said (round ∷ rounds) run away =
      let first = said_on s run round i away.1.1.turn.low in
      let rest = away_said rounds (after_round s run round) away.2 in
      (first.0 ++ rest.0, rest.1 ∙ ap (λ (es : List ClientEvent). es ++ rest.0) first.1 ∙ append_assoc (client_list (told_at run i).stream) first.0 rest.0)

  -- what is carried after the rounds: it knows no more of the stream's server than before
  pub record AwayCarried (after : Run) (most total : ℕ) (known : List ServerEvent) (told : ℕ) : Type 0 where
    pub carried : AwayTrack after i most total
    pub same : carried.known_stream ≡ known
    pub told_on : told ≤ carried.on.told

  -- If the client's list after such rounds stands in a calm history, all of the track is carried over them
  pub away_carried : (rounds : List RoundSeen) (run : Run) (most total : ℕ) → AwayRounds cut s marks i run rounds → (c : AwayTrack run i most total) → (k : Shape) → (told_at run i).stream.shape ≡ k → CalmStream k (client_list (told_at (run_from s run rounds) i).stream) c.known_stream
      → AwayCarried (run_from s run rounds) most total c.known_stream c.on.told
  away_carried [] run most total away c k shape stream = record { carried = c; same = refl; told_on = omega arith }
  away_carried (round ∷ rounds) run most total away c k shape stream =
      let t = away.1.0 in
      let turn = away.1.1 in
      let said = said_then s run round i turn.turn.low in
      let rest = away_said rounds (after_round s run round) away.2 in
      let final : List ClientEvent = client_list (told_at (run_from s (after_round s run round) rounds) i).stream in
      let whole : final ≡ said_by run round i ++ (said.0 ++ rest.0) = rest.1 ∙ ap (λ (es : List ClientEvent). es ++ rest.0) said.1 ∙ append_assoc (said_by run round i) said.0 rest.0 in
      let now : CalmStream k (said_by run round i) c.known_stream = record {
        list = stream.list;
        tail = (said.0 ++ rest.0) ++ stream.tail;
        whole = stream.whole ∙ ap (λ (es : List ClientEvent). es ++ stream.tail) whole ∙ append_assoc (said_by run round i) (said.0 ++ rest.0) stream.tail;
        calm = stream.calm;
      } in
      let gone = away_gone cut s marks run round i t away.0 turn most total c (subst (λ (x : Shape). CalmStream x (said_by run round i) c.known_stream) (sym shape) now) in
      let then_shape : (told_at (after_round s run round) i).stream.shape ≡ k = (round_grows s run round i turn.turn.low).shape ∙ shape in
      let later = away_carried rounds (after_round s run round) most total away.2 gone.carried k then_shape (subst (CalmStream k final) (sym gone.known_same) stream) in
      let a = gone.gone.next in
      let b = ap (λ (o : OnCourse (after_round s run round) i). o.told) gone.same in
      let d = later.told_on in
      record { carried = later.carried; same = later.same ∙ gone.known_same; told_on = omega (arith, a, b, d) }

-- ## The meeting after them

-- before the first of such rounds nothing was done
pub remains_first : (run : Run) (i most total : ℕ) → TrackCarried run i most total → Remains run run i
remains_first run i most total c = record {
  keeps = keeps_of run i c.known_stream c.known_commands c.calm;
  grows = grows_no (told_at run i).stream;
  quiet = c.calm.stream;
  hands = c.calm.stream_hands;
}

-- a client knows of the stream's server all that it took, once its proxy took part in a meeting
pub renewed : (s : Session) (run : Run) (round : RoundSeen) (i most total : ℕ) → i < length run.tracks → takes_part s (met_after s run round) i ≡ true → (c : AwayTrack (after_round s run round) i most total) → (fresh : TrackCarried (after_round s run round) i most total) × (fresh.on ≡ c.on)
renewed s run round i most total low part c =
    let lists = stream_lists s run round i low part in
    let taken = taken-append lists.did (server.Learn lists.count ∷ []) in
    let whole = ap frames_taken lists.server in (
      record {
        known_stream = lists.did;
        known_commands = c.known_commands;
        all_known = omega (arith, taken, whole);
        calm = record {
          stream = c.calm.stream;
          stream_hands = c.calm.stream_hands;
          stream_few = c.calm.stream_few;
          stream_later = server.Learn lists.count ∷ [];
          stream_knows = lists.server;
          knew_stream = inr (record { before = said_by run round i; behind = []; whole = lists.client });
          commands = c.calm.commands;
          commands_hands = c.calm.commands_hands;
          commands_few = c.calm.commands_few;
          commands_later = c.calm.commands_later;
          commands_knows = c.calm.commands_knows;
          knew_commands = c.calm.knew_commands;
          is_open = c.calm.is_open;
          words = c.calm.words;
          spelled = c.calm.spelled;
          pokeless = c.calm.pokeless;
          flushless = c.calm.flushless;
        };
        stands = c.stands;
        on = c.on;
      },
      refl,
    )

-- what some rounds and a last one make of a track
pub record AwayBack (after : Run) (i most total told : ℕ) : Type 0 where
  pub carried : TrackCarried after i most total
  pub told_on : told ≤ carried.on.told

-- the list that its client has after a round in which its proxy takes part stands in a calm history
calm_back : (cut : Bool) (s : Session) (marks : Marks) (i : ℕ) (first : Run) (rounds : List RoundSeen) (most total : ℕ) → AwayRounds cut s marks i first rounds → (c : TrackCarried first i most total)
    → (let run = run_from s first rounds in (round : RoundSeen) → LegalRound cut s marks run round → (t : TurnMade s marks run round) → AwayTurn s marks run round i t → takes_part s (met_after s run round) i ≡ true → IsCalm (told_at first i).stream.shape (client_list (told_at (after_round s run round) i).stream) c.known_stream)
calm_back cut s marks i first rounds most total away c round legal t turn part =
    let run : Run = run_from s first rounds in
    let after : Run = after_round s run round in
    let u = told_at after i in
    let r = away_remains cut s marks i rounds first first away (remains_first first i most total c) in
    let keeps : KeepsTo after i = keeps_to cut s marks run round t i turn.turn.low turn.turn.named legal r.keeps in
    let grown = round_grows s run round i turn.turn.low in
    let grows : Grows (told_at first i).stream u.stream = grows_on r.grows grown in
    let hands = away_hands cut s marks run round i t legal turn r.hands in
    let same : u.stream ≡ (told_at (met_after s run round) i).stream = (round_blocks s run round i turn.turn.low).0 in
    let history : HasBlockHistory u.stream = subst HasBlockHistory (sym same) ((legal.histories.blocks i turn.turn.named).stream part (ap is_tame (sym same) ∙ keeps.pokeless.stream)) in
    let calm : IsCalm u.stream.shape (client_list u.stream) c.known_stream = record {
      released = u.stream.released;
      server = server_list u.stream;
      taken = u.stream.taken;
      hands = hand_list u.stream;
      history = history;
      spelled = keeps.spelled.stream;
      calm = turn.quiet.calm;
      calm_hands = hands;
      few = keeps.few;
      later = c.calm.stream_later ++ grows.more;
      knows = grows.server ∙ ap (λ (es : List ServerEvent). es ++ grows.more) c.calm.stream_knows ∙ append_assoc c.known_stream c.calm.stream_later grows.more;
    } in
    subst (λ (x : Shape). IsCalm x (client_list u.stream) c.known_stream) grows.shape calm

-- what its client said before such a round does too
pub away_before : (cut : Bool) (s : Session) (marks : Marks) (i : ℕ) (first : Run) (rounds : List RoundSeen) (most total : ℕ) → AwayRounds cut s marks i first rounds → (c : TrackCarried first i most total)
    → (let run = run_from s first rounds in (round : RoundSeen) → LegalRound cut s marks run round → (t : TurnMade s marks run round) → AwayTurn s marks run round i t → takes_part s (met_after s run round) i ≡ true → CalmStream (told_at first i).stream.shape (client_list (told_at run i).stream) c.known_stream)
away_before cut s marks i first rounds most total away c round legal t turn part =
    let run : Run = run_from s first rounds in
    let said = said_on s run round i turn.turn.low in
    record { list = client_list (told_at (after_round s run round) i).stream; tail = said.0; whole = said.1; calm = calm_back cut s marks i first rounds most total away c round legal t turn part }

-- Over rounds in whose meetings its proxy may take no part, up to one in which it does, all that is carried of a track is carried on
pub away_back : (cut : Bool) (s : Session) (marks : Marks) (i : ℕ) (first : Run) (rounds : List RoundSeen) (most total : ℕ) → AwayRounds cut s marks i first rounds → (c : TrackCarried first i most total)
    → (let run = run_from s first rounds in (round : RoundSeen) → LegalRound cut s marks run round → (t : TurnMade s marks run round) → AwayTurn s marks run round i t → takes_part s (met_after s run round) i ≡ true → AwayBack (after_round s run round) i most total c.on.told)
away_back cut s marks i first rounds most total away c round legal t turn part =
    let run : Run = run_from s first rounds in
    let after : Run = after_round s run round in
    let u = told_at after i in
    let k : Shape = (told_at first i).stream.shape in
    let begins = away_of first i most total c in
    let r = away_remains cut s marks i rounds first first away (remains_first first i most total c) in
    let before = away_before cut s marks i first rounds most total away c round legal t turn part in
    let came = away_carried cut s marks i rounds first most total away begins k refl before in
    let spoke = said_then s run round i turn.turn.low in
    let now : CalmStream (told_at run i).stream.shape (said_by run round i) came.carried.known_stream = subst (CalmStream (told_at run i).stream.shape (said_by run round i)) (sym came.same) (record {
      list = client_list u.stream;
      tail = spoke.0;
      whole = spoke.1;
      calm = subst (λ (x : Shape). IsCalm x (client_list u.stream) c.known_stream) (sym r.grows.shape) (calm_back cut s marks i first rounds most total away c round legal t turn part);
    }) in
    let gone = away_gone cut s marks run round i t legal turn most total came.carried now in
    let fresh = renewed s run round i most total turn.turn.low part gone.carried in
    let a = came.told_on in
    let b = gone.gone.next in
    let d = ap (λ (o : OnCourse after i). o.told) (fresh.1 ∙ gone.same) in
    record { carried = fresh.0; told_on = omega (arith, a, b, d) }
