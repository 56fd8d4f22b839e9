-- A legal round leaves a command block calm, and takes the next words that the client sent, whether or not the proxy of the track's stream takes part in the meeting.
use Rattle.std.proofs.Common.{◌≡◌, inr, ℕ, ◌≤◌, ◌<◌, Bool, true, false, List, [], ◌∷◌, ◌++◌, length, take, fold, sym, ap, ◌∙◌, subst, arith, append_assoc}
use Rattle.af_enough_law.proofs.Common.{AreSpelled, BlockTold, ClientEvent, IsSpelled, LegalRound, Marks, RoundSeen, Run, ServerEvent, Session, Shape, TrackTold, after_call, after_round, all_played, calls_in, client_list, flushes_of, hand_list, heard, is_tame, learnt, met_after, server_list, shapes_called, sides_of, spelled_turn, stream_met, takes_part, told_at, track_count, track_in, words_taken}
use Rattle.af_base.specs.declared.event.ClientEvent.TheVariants as client
use Rattle.af_base.specs.declared.event.ServerEvent.TheVariants as server
use Rattle.af_enough_law.proofs.Basics.{put-append}
use Rattle.af_model.specs.ClientCalls as list
use Rattle.af_enough_law.proofs.Courses.{none_shut}
use Rattle.af_enough_law.proofs.FastWords.{IsOpen}
use Rattle.af_enough_law.proofs.NormalRounds.{TurnMade}
use Rattle.af_enough_law.proofs.Playing.{AreFair}
use Rattle.af_enough_law.specs.Seen.{frames_put}
use Rattle.af_enough_law.proofs.Calm.{are_calm, are_hands_calm}
use Rattle.af_enough_law.proofs.CalmTracks.{CalmTrack, round_released, words_fold, command_list_of as added_commands}
use Rattle.af_enough_law.proofs.CommandCalm.{commands_calm}
use Rattle.af_enough_law.proofs.CommandRounds.{commands_told, commands_open, words_follow, words_begin}
use Rattle.af_enough_law.proofs.FairTurns.{IsKnown, stream_grows}
use Rattle.af_enough_law.proofs.Flushless.{IsFlushlessTrack, unflushed_none, round_flushless}
use Rattle.af_enough_law.proofs.Following.{greeted_in}
use Rattle.af_enough_law.proofs.Pokeless.{IsPokelessTrack, round_pokeless}
use Rattle.af_enough_law.proofs.RunLists.{side_lists, command_lists}
use Rattle.af_enough_law.proofs.RunStreams.{round_grows}
use Rattle.af_enough_law.proofs.ClientLists.{played_client_list}
use Rattle.af_enough_law.proofs.RunTracks.{played_track, round_blocks, met_track}

-- ## What is carried of a command block

-- the lists of the command block are calm, its client knows so much of its server, and neither of the track's blocks was poked or flushed
pub record CalmCommands (run : Run) (i : ℕ) (known : List ServerEvent) : Type 0 where
  pub calm : are_calm (server_list (told_at run i).commands) ≡ true
  pub hands : are_hands_calm (hand_list (told_at run i).commands) ≡ true
  pub few : (told_at run i).commands.shape.frames ≡ 128
  pub later : List ServerEvent
  pub knows : server_list (told_at run i).commands ≡ known ++ later
  pub knew : IsKnown known (client_list (told_at run i).commands)
  pub is_open : IsOpen (told_at run i).commands
  pub words : frames_put (client_list (told_at run i).commands) ≡ length (told_at run i).commands.released
  pub spelled : AreSpelled (sides_of (told_at run i))
  pub pokeless : IsPokelessTrack (sides_of (told_at run i))
  pub flushless : IsFlushlessTrack (sides_of (told_at run i))

-- a track whose lists are all calm has these
pub commands_of : (run : Run) (i : ℕ) (known_stream known_commands : List ServerEvent) → CalmTrack run i known_stream known_commands → CalmCommands run i known_commands
commands_of run i known_stream known_commands calm = record {
  calm = calm.commands;
  hands = calm.commands_hands;
  few = calm.commands_few;
  later = calm.commands_later;
  knows = calm.commands_knows;
  knew = calm.knew_commands;
  is_open = calm.is_open;
  words = calm.words;
  spelled = calm.spelled;
  pokeless = calm.pokeless;
  flushless = calm.flushless;
}

-- a round whose turn goes on, without hearing that the stream of a track that lives is shut
pub record OpenTurn (s : Session) (marks : Marks) (run : Run) (round : RoundSeen) (i : ℕ) (t : TurnMade s marks run round) : Type 0 where
  pub low : i < length run.tracks
  pub named : i < track_count s
  pub there : i < length run.normal.tracks
  pub lawful : marks.commands i ≡ true
  pub runs : t.turn.ended ≡ false
  pub unshut : (greeted_in run.normal t.turn i).life.ended ≡ false → (heard (learnt t.by.outside) i (greeted_in run.normal t.turn i)).known.shut ≡ false

-- ## The client's list of a stream block after a round

-- nothing is learnt at a meeting in which its proxy takes no part
pub data MayLearn (said : List ClientEvent) : List ClientEvent → Type 0 where
  still : MayLearn said said
  learns : (n : ℕ) → MayLearn said (said ++ client.Learn n ∷ [])

tail_any : (there hands : Bool) (b : BlockTold) → MayLearn (client_list b) (client_list (stream_met there hands b))
tail_any true true b = learns (length (server_list b))
tail_any true false b = learns (length (server_list b))
tail_any false true b = still
tail_any false false b = still

pub may_learn : (s : Session) (run : Run) (round : RoundSeen) (i : ℕ) → i < length run.tracks → MayLearn (fold after_call (sides_of (told_at run i)) (calls_in round i)).stream.events (client_list (told_at (after_round s run round) i).stream)
may_learn s run round i low =
    let t = told_at run i in
    let more = stream_grows (sides_of t) (calls_in round i) in
    let side = side_lists (fold after_call (sides_of t) (calls_in round i)).stream t.stream more.0 more.1 in
    let played = (played_track s run round i t).stream in
    let said = (fold after_call (sides_of t) (calls_in round i)).stream.events in
    let before : client_list played ≡ said = played_client_list s run round i t ∙ side.0 in
    let is : (told_at (after_round s run round) i).stream ≡ stream_met (takes_part s (all_played s run round) i) (all_played s run round).handed played = (round_blocks s run round i low).0 ∙ ap (λ (x : TrackTold). x.stream) (met_track s run round i low) in
    subst (λ (b : BlockTold). MayLearn said (client_list b)) (sym is) (subst (λ (es : List ClientEvent). MayLearn es (client_list (stream_met (takes_part s (all_played s run round) i) (all_played s run round).handed played))) before (tail_any (takes_part s (all_played s run round) i) (all_played s run round).handed played))

spelled_any : (k : Shape) (said after : List ClientEvent) → MayLearn said after → IsSpelled k said → IsSpelled k after
spelled_any k said _ still h = h
spelled_any k said _ (learns n) h = list.meets said n h

-- ## What is spelled after a round

-- both lists of a client are spelled after a legal round
pub spelled_round : (cut : Bool) (s : Session) (marks : Marks) (run : Run) (round : RoundSeen) (t : TurnMade s marks run round) (i : ℕ) → i < length run.tracks → i < track_count s → LegalRound cut s marks run round → AreSpelled (sides_of (told_at run i)) → AreSpelled (sides_of (told_at (after_round s run round) i))
spelled_round cut s marks run round t i low named legal spelled =
    let u = told_at (after_round s run round) i in
    let calls = calls_in round i in
    let now = spelled_turn (sides_of (told_at run i)) calls spelled (legal.turns.clients i named) in
    let shapes = shapes_called (sides_of (told_at run i)) calls in
    let commands = command_lists s run round i low in
    let said_stream = (fold after_call (sides_of (told_at run i)) calls).stream.events in
    let said_commands = (fold after_call (sides_of (told_at run i)) calls).commands.events in
    let commands_is : client_list u.commands ≡ said_commands ++ client.Learn (length commands.did) ∷ [] = commands.client ∙ ap (λ (es : List ClientEvent). es ++ client.Learn (length commands.did) ∷ []) commands.said_is in
    let stream_shape : u.stream.shape ≡ (told_at run i).stream.shape = (round_grows s run round i low).shape in
    let commands_shape : u.commands.shape ≡ (told_at run i).commands.shape = ap (λ (b : BlockTold). b.shape) (round_blocks s run round i low).1 ∙ (commands_told s marks run round t i low).shape in
    record {
      stream = spelled_any u.stream.shape said_stream (client_list u.stream) (may_learn s run round i low) (subst (λ (k : Shape). IsSpelled k said_stream) (shapes.0 ∙ sym stream_shape) now.stream);
      commands = subst (IsSpelled u.commands.shape) (sym commands_is) (list.meets said_commands (length commands.did) (subst (λ (k : Shape). IsSpelled k said_commands) (shapes.1 ∙ sym commands_shape) now.commands));
    }

-- ## The round

module _ (cut : Bool) (s : Session) (marks : Marks) (run : Run) (round : RoundSeen) (i : ℕ) (t : TurnMade s marks run round) (legal : LegalRound cut s marks run round) (known : List ServerEvent) (calm : CalmCommands run i known) (turn : OpenTurn s marks run round i t) where
  abbrev u : TrackTold
  u = told_at (after_round s run round) i

  pub same_commands : u.commands ≡ (told_at (met_after s run round) i).commands
  same_commands = (round_blocks s run round i turn.low).1

  pub commands_shape : u.commands.shape ≡ (told_at run i).commands.shape
  commands_shape = ap (λ (b : BlockTold). b.shape) same_commands ∙ (commands_told s marks run round t i turn.low).shape

  pub pokeless_after : IsPokelessTrack (sides_of u)
  pokeless_after = round_pokeless s run round cut marks i turn.low turn.named legal calm.pokeless

  pub flushless_after : IsFlushlessTrack (sides_of u)
  flushless_after = round_flushless s run round cut marks i turn.low turn.named legal calm.flushless

  pub spelled_after : AreSpelled (sides_of u)
  spelled_after = spelled_round cut s marks run round t i turn.low turn.named legal calm.spelled

  pub few_after : (told_at (met_after s run round) i).commands.shape.frames ≤ 65536
  few_after = let small = calm.few in
      let size : (told_at (met_after s run round) i).commands.shape.frames ≡ 128 = ap (λ (b : BlockTold). b.shape.frames) (sym same_commands) ∙ ap (λ (k : Shape). k.frames) commands_shape ∙ small in omega (arith, size)

  -- no look finds the command block shut, and its server stays open
  pub opens_after : (none_shut (track_in t.turn i).looks ≡ true) × IsOpen (told_at (met_after s run round) i).commands
  opens_after = commands_open s marks run round t i turn.low cut legal turn.runs turn.lawful turn.named turn.there (ap is_tame (sym same_commands) ∙ pokeless_after.commands) few_after
      (subst (λ (b : BlockTold). IsSpelled b.shape (client_list b)) same_commands spelled_after.commands)
      (ap (λ (b : BlockTold). flushes_of (client_list b)) (sym same_commands) ∙ unflushed_none (client_list u.commands) flushless_after.commands) calm.is_open

  -- the words that its looks took follow those taken before, and all that were taken begin those released
  pub words_after : (u.commands.taken ≡ (told_at run i).commands.taken ++ words_taken (track_in t.turn i).looks) × ((n : ℕ) × (u.commands.taken ≡ take n u.commands.released))
  words_after =
      let tame = ap is_tame (sym same_commands) ∙ pokeless_after.commands in
      let spelled = subst (λ (b : BlockTold). IsSpelled b.shape (client_list b)) same_commands spelled_after.commands in
      let none = ap (λ (b : BlockTold). flushes_of (client_list b)) (sym same_commands) ∙ unflushed_none (client_list u.commands) flushless_after.commands in
      let begins = words_begin s marks run round t i turn.low cut legal turn.runs turn.lawful turn.named turn.there tame few_after spelled none calm.is_open in (
        ap (λ (b : BlockTold). b.taken) same_commands ∙ words_follow s marks run round t i turn.low cut legal turn.runs turn.lawful turn.named turn.there tame few_after spelled none calm.is_open,
        (begins.0, ap (λ (b : BlockTold). b.taken) same_commands ∙ begins.1 ∙ ap (λ (b : BlockTold). take begins.0 b.released) (sym same_commands)),
      )

  pub calm_after : are_calm (server_list u.commands) ≡ true
  calm_after = ap (λ (b : BlockTold). are_calm (server_list b)) same_commands ∙ commands_calm s marks run round t i turn.low turn.there opens_after.0 turn.unshut opens_after.1.none calm.calm

  pub hands_after : are_hands_calm (hand_list u.commands) ≡ true
  hands_after = ap are_hands_calm (command_lists s run round i turn.low).hand ∙ calm.hands

  -- what was known before the round is known in it
  pub later_after : (more : List ServerEvent) × (server_list u.commands ≡ known ++ more)
  later_after = let added = added_commands s marks run round t i turn.low in
      (calm.later ++ added.0, ap server_list same_commands ∙ added.1 ∙ ap (λ (es : List ServerEvent). es ++ added.0) calm.knows ∙ append_assoc known calm.later added.0)

  -- what was learnt of the server at the meeting after it
  pub known_then : List ServerEvent
  known_then = (command_lists s run round i turn.low).did

  -- if the client's calls were fair, all of the command block is carried on
  pub commands_go : AreFair (calls_in round i) → CalmCommands (after_round s run round) i known_then
  unfolding known_then
  commands_go fair =
      let commands = command_lists s run round i turn.low in
      let said = (fold after_call (sides_of (told_at run i)) (calls_in round i)).commands.events in
      let commands_is : client_list u.commands ≡ said ++ client.Learn (length commands.did) ∷ [] = commands.client ∙ ap (λ (es : List ClientEvent). es ++ client.Learn (length commands.did) ∷ []) commands.said_is in
      let counted = words_fold (sides_of (told_at run i)) (calls_in round i) fair calm.words in
      let put = put-append said (client.Learn (length commands.did) ∷ []) in
      let listed : frames_put (client_list u.commands) ≡ frames_put (said ++ client.Learn (length commands.did) ∷ []) = ap frames_put commands_is in
      let released = ap length (round_released s run round i turn.low) in
      record {
        calm = calm_after;
        hands = hands_after;
        few = ap (λ (k : Shape). k.frames) commands_shape ∙ calm.few;
        later = server.Learn (length commands.said) ∷ [];
        knows = commands.server;
        knew = inr (record { before = said; behind = []; whole = commands_is });
        is_open = subst IsOpen (sym same_commands) opens_after.1;
        words = (let counted' = counted in omega (arith, listed, put, counted', released));
        spelled = spelled_after;
        pokeless = pokeless_after;
        flushless = flushless_after;
      }
