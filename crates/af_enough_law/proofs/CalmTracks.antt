-- From round to round the lists of a track that plays through stay calm, if it is never disabled and its stream is never heard to be shut.
use Rattle.std.proofs.Common.{◌≡◌, inr, ℕ, ◌≤◌, ◌<◌, Bool, true, false, true≢false, Option, Some, None, unwrap_or, List, [], ◌∷◌, ◌++◌, length, fold, refl, sym, ap, ◌∙◌, subst, arith, append_assoc, append-nil}
use Rattle.af_enough_law.proofs.Common.{AreSpelled, BlockTold, ClientCall, ClientEvent, HasBlockHistory, IsSpelled, LegalRound, Marks, NormalKept, RoundSeen, Run, ServerEvent, Session, Shape, Track, TrackTold, Turn, TurnFound, after_call, after_round, all_played, called_in_turn, calls_in, client_list, flushes_of, found_in, hand_list, heard, is_tame, learnt, met_after, server_list, shapes_called, sides_of, spelled_turn, stream_met, takes_part, told_at, track_count, track_in}
use Rattle.af_base.specs.declared.event.ClientEvent.TheVariants as client
use Rattle.af_base.specs.declared.event.ServerEvent.TheVariants as server
use Rattle.af_enough_law.proofs.Basics.{part_met, put-append, taken-append}
use Rattle.af_model.specs.ClientCalls as list
use Rattle.af_enough_law.proofs.Courses.{none_shut}
use Rattle.af_enough_law.proofs.FastWords.{IsOpen}
use Rattle.af_enough_law.proofs.NormalRounds.{TurnMade}
use Rattle.af_enough_law.proofs.Playing.{AreFair}
use Rattle.af_enough_law.specs.Seen.{frames_put, frames_taken}
use Rattle.af_enough_law.proofs.Calm.{are_calm, are_hands_calm}
use Rattle.af_enough_law.proofs.ClientRounds.{CalmRound}
use Rattle.af_enough_law.proofs.CommandCalm.{commands_calm}
use Rattle.af_enough_law.proofs.CommandRounds.{commands_told, commands_open}
use Rattle.af_enough_law.proofs.FairTurns.{IsKnown, stream_grows, words_counted}
use Rattle.af_enough_law.proofs.FastShows.{Setting}
use Rattle.af_enough_law.proofs.Flushless.{IsFlushlessTrack, unflushed_none, round_flushless}
use Rattle.af_enough_law.proofs.Following.{greeted_in}
use Rattle.af_enough_law.proofs.HandCalm.{round_hands}
use Rattle.af_enough_law.proofs.Pokeless.{IsPokelessTrack, round_pokeless}
use Rattle.af_enough_law.proofs.RoundCalm.{round_quiet}
use Rattle.af_enough_law.proofs.RunLists.{side_lists, command_lists}
use Rattle.af_enough_law.proofs.RunStreams.{round_grows}
use Rattle.af_enough_law.proofs.ClientLists.{played_client_list}
use Rattle.af_enough_law.proofs.RunTracks.{commands_by, played_track, round_blocks, round_commands, met_track}
use Rattle.af_enough_law.proofs.StreamCalm.{IsQuiet}

-- ## What is carried from round to round

-- the lists of a track's blocks are calm, and so much was learnt of both servers
pub record CalmTrack (run : Run) (i : ℕ) (known_stream known_commands : List ServerEvent) : Type 0 where
  pub stream : IsQuiet (told_at run i).stream.shape (server_list (told_at run i).stream)
  pub stream_hands : are_hands_calm (hand_list (told_at run i).stream) ≡ true
  pub stream_few : (told_at run i).stream.shape.frames ≤ 65536
  pub stream_later : List ServerEvent
  pub stream_knows : server_list (told_at run i).stream ≡ known_stream ++ stream_later
  pub knew_stream : IsKnown known_stream (client_list (told_at run i).stream)
  pub commands : are_calm (server_list (told_at run i).commands) ≡ true
  pub commands_hands : are_hands_calm (hand_list (told_at run i).commands) ≡ true
  pub commands_few : (told_at run i).commands.shape.frames ≡ 128
  pub commands_later : List ServerEvent
  pub commands_knows : server_list (told_at run i).commands ≡ known_commands ++ commands_later
  pub knew_commands : IsKnown known_commands (client_list (told_at run i).commands)
  pub is_open : IsOpen (told_at run i).commands
  pub words : frames_put (client_list (told_at run i).commands) ≡ length (told_at run i).commands.released
  pub spelled : AreSpelled (sides_of (told_at run i))
  pub pokeless : IsPokelessTrack (sides_of (told_at run i))
  pub flushless : IsFlushlessTrack (sides_of (told_at run i))

-- a round whose turn goes on, without hearing that the track's stream is shut, and after which its stream's server meets its client
pub record CalmTurn (s : Session) (marks : Marks) (run : Run) (round : RoundSeen) (i : ℕ) (t : TurnMade s marks run round) : Type 0 where
  pub low : i < length run.tracks
  pub named : i < track_count s
  pub there : i < length run.normal.tracks
  pub lawful : marks.commands i ≡ true
  pub runs : t.turn.ended ≡ false
  pub part : takes_part s (met_after s run round) i ≡ true
  pub unshut : (greeted_in run.normal t.turn i).life.ended ≡ false → (heard (learnt t.by.outside) i (greeted_in run.normal t.turn i)).known.shut ≡ false

-- ## The lists of a stream block after a round

tail_lists : (there hands : Bool) (b : BlockTold) → there ≡ true → (client_list (stream_met there hands b) ≡ client_list b ++ client.Learn (length (server_list b)) ∷ []) × (server_list (stream_met there hands b) ≡ server_list b ++ server.Learn (length (client_list b)) ∷ [])
tail_lists true true b h = (refl, refl)
tail_lists true false b h = (refl, refl)
tail_lists false hands b h = absurd (true≢false (sym h))

-- what both ends of a stream block that met have
pub record StreamLists (s : Session) (run : Run) (round : RoundSeen) (i : ℕ) : Type 0 where
  pub did : List ServerEvent
  pub count : ℕ
  pub client : client_list (told_at (after_round s run round) i).stream ≡ (fold after_call (sides_of (told_at run i)) (calls_in round i)).stream.events ++ client.Learn (length did) ∷ []
  pub server : server_list (told_at (after_round s run round) i).stream ≡ did ++ server.Learn count ∷ []

pub stream_lists : (s : Session) (run : Run) (round : RoundSeen) (i : ℕ) → i < length run.tracks → takes_part s (met_after s run round) i ≡ true → StreamLists s run round i
stream_lists s run round i low part =
    let t = told_at run i in
    let more = stream_grows (sides_of t) (calls_in round i) in
    let side = side_lists (fold after_call (sides_of t) (calls_in round i)).stream t.stream more.0 more.1 in
    let played = (played_track s run round i t).stream in
    let said = (fold after_call (sides_of t) (calls_in round i)).stream.events in
    let before : client_list played ≡ said = played_client_list s run round i t ∙ side.0 in
    let is : (told_at (after_round s run round) i).stream ≡ stream_met (takes_part s (all_played s run round) i) (all_played s run round).handed played = (round_blocks s run round i low).0 ∙ ap (λ (x : TrackTold). x.stream) (met_track s run round i low) in
    let tails = tail_lists (takes_part s (all_played s run round) i) (all_played s run round).handed played (sym (part_met s (all_played s run round) i) ∙ part) in
    record { did = server_list played; count = length (client_list played); client = ap client_list is ∙ tails.0 ∙ ap (λ (es : List ClientEvent). es ++ client.Learn (length (server_list played)) ∷ []) before; server = ap server_list is ∙ tails.1 }

-- what a round adds to the list of a command block's server
pub command_list_of : (s : Session) (marks : Marks) (run : Run) (round : RoundSeen) (t : TurnMade s marks run round) (i : ℕ) → i < length run.tracks → (more : List ServerEvent) × (server_list (told_at (met_after s run round) i).commands ≡ server_list (told_at run i).commands ++ more)
command_list_of s marks run round t i low = let told = commands_told s marks run round t i low in (_, told.server)

-- ## Words

pub words_fold : (t : Track) (calls : List ClientCall) → AreFair calls → frames_put t.commands.events ≡ length t.commands.released → frames_put (fold after_call t calls).commands.events ≡ length (fold after_call t calls).commands.released
words_fold t [] fair is = is
words_fold t (answer ∷ calls) fair is = words_fold (after_call t answer) calls fair.1 (words_counted t answer fair.0 is)

turn_released : (s : Session) (found : Turn → TurnFound) (o : Option Turn) (m : NormalKept) (i : ℕ) (b : BlockTold) → (commands_by s found o m i b).released ≡ b.released
unfolding commands_by
turn_released s found None m i b = refl
turn_released s found (Some e) m i b = refl

pub round_released : (s : Session) (run : Run) (round : RoundSeen) (i : ℕ) → i < length run.tracks → (told_at (after_round s run round) i).commands.released ≡ (fold after_call (sides_of (told_at run i)) (calls_in round i)).commands.released
round_released s run round i low = ap (λ (b : BlockTold). b.released) (round_commands s run round i low) ∙ turn_released s (found_in s run round) round.turn run.normal i (called_in_turn (calls_in round i) (told_at run i)).commands

-- ## The round

module _ (cut : Bool) (s : Session) (marks : Marks) (run : Run) (round : RoundSeen) (i : ℕ) (t : TurnMade s marks run round) (turn : CalmTurn s marks run round i t) (legal : LegalRound cut s marks run round)
    (known_stream known_commands : List ServerEvent) (calm : CalmTrack run i known_stream known_commands) where
  abbrev u : TrackTold
  u = told_at (after_round s run round) i

  same_commands : u.commands ≡ (told_at (met_after s run round) i).commands
  same_commands = (round_blocks s run round i turn.low).1

  stream_shape : u.stream.shape ≡ (told_at run i).stream.shape
  stream_shape = (round_grows s run round i turn.low).shape

  commands_shape : u.commands.shape ≡ (told_at run i).commands.shape
  commands_shape = ap (λ (b : BlockTold). b.shape) same_commands ∙ (commands_told s marks run round t i turn.low).shape

  pub pokeless_then : IsPokelessTrack (sides_of u)
  pokeless_then = round_pokeless s run round cut marks i turn.low turn.named legal calm.pokeless

  pub flushless_then : IsFlushlessTrack (sides_of u)
  flushless_then = round_flushless s run round cut marks i turn.low turn.named legal calm.flushless

  pub spelled_then : AreSpelled (sides_of u)
  spelled_then =
      let calls = calls_in round i in
      let now = spelled_turn (sides_of (told_at run i)) calls calm.spelled (legal.turns.clients i turn.named) in
      let shapes = shapes_called (sides_of (told_at run i)) calls in
      let stream = stream_lists s run round i turn.low turn.part in
      let commands = command_lists s run round i turn.low in
      let said_stream = (fold after_call (sides_of (told_at run i)) calls).stream.events in
      let said_commands = (fold after_call (sides_of (told_at run i)) calls).commands.events in
      let commands_is : client_list u.commands ≡ said_commands ++ client.Learn (length commands.did) ∷ [] = commands.client ∙ ap (λ (es : List ClientEvent). es ++ client.Learn (length commands.did) ∷ []) commands.said_is in
      record {
        stream = subst (IsSpelled u.stream.shape) (sym stream.client) (list.meets said_stream (length stream.did) (subst (λ (k : Shape). IsSpelled k said_stream) (shapes.0 ∙ sym stream_shape) now.stream));
        commands = subst (IsSpelled u.commands.shape) (sym commands_is) (list.meets said_commands (length commands.did) (subst (λ (k : Shape). IsSpelled k said_commands) (shapes.1 ∙ sym commands_shape) now.commands));
      }

  -- no look finds the command block shut, and its server stays open
  pub opens : (none_shut (track_in t.turn i).looks ≡ true) × IsOpen (told_at (met_after s run round) i).commands
  opens =
      let small = calm.commands_few in
      let size : (told_at (met_after s run round) i).commands.shape.frames ≡ 128 = ap (λ (b : BlockTold). b.shape.frames) (sym same_commands) ∙ ap (λ (k : Shape). k.frames) commands_shape ∙ small in
      commands_open s marks run round t i turn.low cut legal turn.runs turn.lawful turn.named turn.there (ap is_tame (sym same_commands) ∙ pokeless_then.commands) (omega (arith, size))
      (subst (λ (b : BlockTold). IsSpelled b.shape (client_list b)) same_commands spelled_then.commands)
      (ap (λ (b : BlockTold). flushes_of (client_list b)) (sym same_commands) ∙ unflushed_none (client_list u.commands) flushless_then.commands) calm.is_open

  stream_setting : Setting u.stream.shape (client_list u.stream) (server_list u.stream)
  stream_setting =
      let same : u.stream ≡ (told_at (met_after s run round) i).stream = (round_blocks s run round i turn.low).0 in
      let history : HasBlockHistory u.stream = subst HasBlockHistory (sym same) ((legal.histories.blocks i turn.named).stream turn.part (ap is_tame (sym same) ∙ pokeless_then.stream)) in
      record {
        few = subst (λ (k : Shape). k.frames ≤ 65536) (sym stream_shape) calm.stream_few;
        spelled = spelled_then.stream;
        no_flush = unflushed_none (client_list u.stream) flushless_then.stream;
        released = u.stream.released;
        taken = u.stream.taken;
        hand = hand_list u.stream;
        history = history;
      }

  pub stream_quiet : IsQuiet u.stream.shape (server_list u.stream)
  stream_quiet =
      let open_then : (e : Turn) → round.turn ≡ Some e → none_shut (track_in e i).looks ≡ true = λ e is. let same : t.turn ≡ e = ap (λ (o : Option Turn). unwrap_or o t.turn) (sym t.is ∙ is) in
      subst (λ (e : Turn). none_shut (track_in e i).looks ≡ true) same opens.0 in
      round_quiet cut s marks run round i turn.low legal open_then u.stream.shape (client_list u.stream) (server_list u.stream) stream_setting (record { shape = refl; rest = []; whole = sym (append-nil (server_list u.stream)) })
      (subst (λ (k : Shape). IsQuiet k (server_list (told_at run i).stream)) (sym stream_shape) calm.stream)

  pub hands_calm : (track_in t.turn i).disabled ≡ false → are_hands_calm (hand_list u.stream) ≡ true
  hands_calm able = round_hands s run round i turn.low (λ e is. let same : t.turn ≡ e = ap (λ (o : Option Turn). unwrap_or o t.turn) (sym t.is ∙ is) in subst (λ (e : Turn). (track_in e i).disabled ≡ false) same able) calm.stream_hands

  pub commands_then : are_calm (server_list u.commands) ≡ true
  commands_then = ap (λ (b : BlockTold). are_calm (server_list b)) same_commands ∙ commands_calm s marks run round t i turn.low turn.there opens.0 turn.unshut opens.1.none calm.commands

  -- Such a round is calm, if it doesn't disable the track
  pub calm_round : (track_in t.turn i).disabled ≡ false → CalmRound s run round i known_stream known_commands
  calm_round able =
      let grown = round_grows s run round i turn.low in
      let added = command_list_of s marks run round t i turn.low in
      record {
        part = turn.part;
        met_part = sym (part_met s (all_played s run round) i) ∙ turn.part;
        stream = stream_quiet.calm;
        stream_hands = hands_calm able;
        stream_later = calm.stream_later ++ grown.more;
        stream_knows = grown.server ∙ ap (λ (es : List ServerEvent). es ++ grown.more) calm.stream_knows ∙ append_assoc known_stream calm.stream_later grown.more;
        commands = commands_then;
        commands_hands = ap are_hands_calm (command_lists s run round i turn.low).hand ∙ calm.commands_hands;
        commands_later = calm.commands_later ++ added.0;
        commands_knows = ap server_list same_commands ∙ added.1 ∙ ap (λ (es : List ServerEvent). es ++ added.0) calm.commands_knows ∙ append_assoc known_commands calm.commands_later added.0;
        stream_shape = stream_shape;
        commands_shape = commands_shape;
        stream_few = calm.stream_few;
        commands_few = calm.commands_few;
        words = calm.words;
        knew_stream = calm.knew_stream;
        knew_commands = calm.knew_commands;
      }

  -- what was learnt of both servers at the meeting after it
  pub known_stream_then : List ServerEvent
  known_stream_then = (stream_lists s run round i turn.low turn.part).did

  pub known_commands_then : List ServerEvent
  known_commands_then = (command_lists s run round i turn.low).did

  -- what is known is all that the stream's server took
  pub known_all : frames_taken known_stream_then ≡ frames_taken (server_list u.stream)
  unfolding known_stream_then
  known_all =
      let stream = stream_lists s run round i turn.low turn.part in
      let is : frames_taken (server_list u.stream) ≡ frames_taken (stream.did ++ server.Learn stream.count ∷ []) = ap frames_taken stream.server in
      let sum = taken-append stream.did (server.Learn stream.count ∷ []) in
      omega (arith, is, sum)

  -- If the client's calls were fair, the track's lists are calm after the round
  pub calm_then : (track_in t.turn i).disabled ≡ false → AreFair (calls_in round i) → CalmTrack (after_round s run round) i known_stream_then known_commands_then
  unfolding known_stream_then known_commands_then
  calm_then able fair =
      let stream = stream_lists s run round i turn.low turn.part in
      let commands = command_lists s run round i turn.low in
      let said = (fold after_call (sides_of (told_at run i)) (calls_in round i)).commands.events in
      let commands_is : client_list u.commands ≡ said ++ client.Learn (length commands.did) ∷ [] = commands.client ∙ ap (λ (es : List ClientEvent). es ++ client.Learn (length commands.did) ∷ []) commands.said_is in
      let counted = words_fold (sides_of (told_at run i)) (calls_in round i) fair calm.words in
      let put = put-append said (client.Learn (length commands.did) ∷ []) in
      let listed : frames_put (client_list u.commands) ≡ frames_put (said ++ client.Learn (length commands.did) ∷ []) = ap frames_put commands_is in
      let released = ap length (round_released s run round i turn.low) in
      record {
        stream = stream_quiet;
        stream_hands = hands_calm able;
        stream_few = subst (λ (k : Shape). k.frames ≤ 65536) (sym stream_shape) calm.stream_few;
        stream_later = server.Learn stream.count ∷ [];
        stream_knows = stream.server;
        knew_stream = inr (record { before = (fold after_call (sides_of (told_at run i)) (calls_in round i)).stream.events; behind = []; whole = stream.client });
        commands = commands_then;
        commands_hands = ap are_hands_calm commands.hand ∙ calm.commands_hands;
        commands_few = ap (λ (k : Shape). k.frames) commands_shape ∙ calm.commands_few;
        commands_later = server.Learn (length commands.said) ∷ [];
        commands_knows = commands.server;
        knew_commands = inr (record { before = said; behind = []; whole = commands_is });
        is_open = subst IsOpen (sym same_commands) opens.1;
        words = (let counted' = counted in omega (arith, listed, put, counted', released));
        spelled = spelled_then;
        pokeless = pokeless_then;
        flushless = flushless_then;
      }
