-- A legal round, seen by one client: if its blocks stay calm its turn is fair, leaves it on its way, and brings it on.
use Rattle.std.proofs.Common.{◌≡◌, ℕ, suc, ◌+◌, ◌^◌, ◌≤◌, ◌<◌, Bool, true, false, MatchBool, List, [], ◌∷◌, ◌++◌, length, fold, refl, sym, ap, ◌∙◌, subst, arith, true≢false}
use Rattle.af_enough_law.proofs.Common.{AreCalls, AreSpelled, BlockTold, Client, ClientEvent, HasBlockHistory, IsSpelled, LegalRound, Marks, Mode, Op, RoundSeen, Run, ServerEvent, Session, Shape, TrackTold, Want, after_call, after_round, all_played, begins_ended, begun, calls_in, client_list, hand_list, is_tame, met_after, server_list, shapes_called, sides_of, spelled_turn, stream_met, takes_part, told_at, track_count}
use Rattle.af_base.specs.declared.event.ClientEvent.TheVariants as client
use Rattle.af_model.specs.ClientCalls as list
use Rattle.af_enough_law.specs.Seen.{frames_put, frames_taken}
use Rattle.af_enough_law.proofs.Calm.{are_calm, are_hands_calm}
use Rattle.af_enough_law.proofs.Playing.{AreFair, AllSeeFrom}
use Rattle.af_enough_law.proofs.Advancing.{IsBlock, Progress, at_end, progress, rank}
use Rattle.af_enough_law.proofs.Doing.{at}
use Rattle.af_enough_law.proofs.FairTurns.{IsCalm, IsKnown, fair_turn, stream_grows}
use Rattle.af_enough_law.proofs.Pokeless.{IsPokelessTrack, round_pokeless}
use Rattle.af_enough_law.proofs.RunLists.{side_lists, command_lists, command_history}
use Rattle.af_enough_law.proofs.ClientLists.{played_client_list}
use Rattle.af_enough_law.proofs.RunTracks.{played_track, round_blocks, met_track}
use Rattle.af_enough_law.proofs.Turning.{Left}

-- in a meeting in which the server takes part the client learns how much it did
tail_met : (there hands : Bool) (b : BlockTold) → there ≡ true → client_list (stream_met there hands b) ≡ client_list b ++ client.Learn (length (server_list b)) ∷ []
tail_met true true b h = refl
tail_met true false b h = refl
tail_met false hands b h = absurd (true≢false (sym h))

-- what was known of both servers before the round, and that both blocks stay calm in it
pub record CalmRound (s : Session) (run : Run) (round : RoundSeen) (i : ℕ) (known_stream known_commands : List ServerEvent) : Type 0 where
  pub part : takes_part s (met_after s run round) i ≡ true
  pub met_part : takes_part s (all_played s run round) i ≡ true
  pub stream : are_calm (server_list (told_at (after_round s run round) i).stream) ≡ true
  pub stream_hands : are_hands_calm (hand_list (told_at (after_round s run round) i).stream) ≡ true
  pub stream_later : List ServerEvent
  pub stream_knows : server_list (told_at (after_round s run round) i).stream ≡ known_stream ++ stream_later
  pub commands : are_calm (server_list (told_at (after_round s run round) i).commands) ≡ true
  pub commands_hands : are_hands_calm (hand_list (told_at (after_round s run round) i).commands) ≡ true
  pub commands_later : List ServerEvent
  pub commands_knows : server_list (told_at (after_round s run round) i).commands ≡ known_commands ++ commands_later
  pub stream_shape : (told_at (after_round s run round) i).stream.shape ≡ (told_at run i).stream.shape
  pub commands_shape : (told_at (after_round s run round) i).commands.shape ≡ (told_at run i).commands.shape
  pub stream_few : (told_at run i).stream.shape.frames ≤ 65536
  pub commands_few : (told_at run i).commands.shape.frames ≡ 128
  pub words : frames_put (client_list (told_at run i).commands) ≡ length (told_at run i).commands.released
  pub knew_stream : IsKnown known_stream (client_list (told_at run i).stream)
  pub knew_commands : IsKnown known_commands (client_list (told_at run i).commands)

module _ (cut : Bool) (s : Session) (marks : Marks) (run : Run) (round : RoundSeen) (i : ℕ) (lt : i < length run.tracks) (there : i < track_count s) (legal : LegalRound cut s marks run round)
    (spelled : AreSpelled (sides_of (told_at run i))) (tame : IsPokelessTrack (sides_of (told_at run i))) (known_stream known_commands : List ServerEvent) (calm : CalmRound s run round i known_stream known_commands) where
  said_stream : List ClientEvent
  said_stream = (fold after_call (sides_of (told_at run i)) (calls_in round i)).stream.events

  -- the stream's client list after the round: what was said, and what was learnt then
  stream_client : (tail : List ClientEvent) × (client_list (told_at (after_round s run round) i).stream ≡ said_stream ++ tail) × (tail ≡ client.Learn (length (server_list (played_track s run round i (told_at run i)).stream)) ∷ [])
  unfolding said_stream
  stream_client =
      let t = told_at run i in
      let more = stream_grows (sides_of t) (calls_in round i) in
      let side = side_lists (fold after_call (sides_of t) (calls_in round i)).stream t.stream more.0 more.1 in
      let played = (played_track s run round i t).stream in
      let before : client_list played ≡ said_stream = played_client_list s run round i t ∙ side.0 in (
        client.Learn (length (server_list played)) ∷ [],
        ap client_list ((round_blocks s run round i lt).0 ∙ ap (λ (x : TrackTold). x.stream) (met_track s run round i lt))
            ∙ tail_met (takes_part s (all_played s run round) i) (all_played s run round).handed played calm.met_part ∙ ap (λ (es : List ClientEvent). es ++ client.Learn (length (server_list played)) ∷ []) before,
        refl,
      )

  after_tame : IsPokelessTrack (sides_of (told_at (after_round s run round) i))
  after_tame = round_pokeless s run round cut marks i lt there legal tame

  pub fair_round : (due : List Want) (ops : List Op) (m : Mode) (most total : ℕ) → begun (told_at run i).client ≡ at due ops m → Left (sides_of (told_at run i)) due ops m most total
      → AreFair (calls_in round i) × AllSeeFrom ((told_at run i).stream.shape.base + frames_taken known_stream) (sides_of (told_at run i)) (calls_in round i) × AreCalls 64 (sides_of (told_at run i)) (calls_in round i)
  unfolding said_stream stream_client
  fair_round due ops m most total is left =
      let t = told_at run i in
      let u = told_at (after_round s run round) i in
      let calls = calls_in round i in
      let going : t.client.ended ≡ false = sym (begins_ended t.client t.client.due t.client.ops) ∙ ap (λ (c : Client). c.ended) is in
      let made : AreCalls 64 (sides_of t) calls = subst (λ (b : Bool). MatchBool b (calls ≡ []) (AreCalls 64 (sides_of t) calls)) going (legal.turns.clients i there) in
      let spelled_now = spelled_turn (sides_of t) calls spelled (legal.turns.clients i there) in
      let lists = command_lists s run round i lt in
      let stream_is = stream_client in
      let stream_history : HasBlockHistory u.stream = let same = (round_blocks s run round i lt).0 in
      subst HasBlockHistory (sym same) ((legal.histories.blocks i there).stream calm.part (ap is_tame (sym same) ∙ after_tame.stream)) in
      let commands_history : HasBlockHistory u.commands = command_history cut s marks run round i legal lt there after_tame.commands in
      let shapes = shapes_called (sides_of t) calls in
      let learnt_stream = length (server_list (played_track s run round i t).stream) in
      let stream_list : client_list u.stream ≡ said_stream ++ client.Learn learnt_stream ∷ [] = stream_is.1 ∙ ap (λ (es : List ClientEvent). said_stream ++ es) stream_is.2 in
      let stream_spelled : IsSpelled u.stream.shape (client_list u.stream) = subst (IsSpelled u.stream.shape) (sym stream_list)
      (list.meets said_stream learnt_stream (subst (λ (k : Shape). IsSpelled k said_stream) (shapes.0 ∙ sym calm.stream_shape) spelled_now.stream)) in
      let stream_calm : IsCalm u.stream.shape (client_list u.stream) known_stream = record {
        released = u.stream.released;
        server = server_list u.stream;
        taken = u.stream.taken;
        hands = hand_list u.stream;
        history = stream_history;
        spelled = stream_spelled;
        calm = calm.stream;
        calm_hands = calm.stream_hands;
        few = subst (λ (k : Shape). k.frames ≤ 65536) (sym calm.stream_shape) calm.stream_few;
        later = calm.stream_later;
        knows = calm.stream_knows;
      } in
      let said_commands = (fold after_call (sides_of t) calls).commands.events in
      let learnt_commands = length lists.did in
      let commands_list : client_list u.commands ≡ said_commands ++ client.Learn learnt_commands ∷ [] = lists.client ∙ ap (λ (es : List ClientEvent). es ++ client.Learn learnt_commands ∷ []) lists.said_is in
      let commands_spelled : IsSpelled u.commands.shape (client_list u.commands) = subst (IsSpelled u.commands.shape) (sym commands_list)
      (list.meets said_commands learnt_commands (subst (λ (k : Shape). IsSpelled k said_commands) (shapes.1 ∙ sym calm.commands_shape) spelled_now.commands)) in
      let small = calm.commands_few in
      let commands_calm : IsCalm u.commands.shape (client_list u.commands) known_commands = record {
        released = u.commands.released;
        server = server_list u.commands;
        taken = u.commands.taken;
        hands = hand_list u.commands;
        history = commands_history;
        spelled = commands_spelled;
        calm = calm.commands;
        calm_hands = calm.commands_hands;
        few = subst (λ (k : Shape). k.frames ≤ 65536) (sym calm.commands_shape) (omega arith);
        later = calm.commands_later;
        knows = calm.commands_knows;
      } in
      let turn = fair_turn t.stream.shape t.commands.shape (client_list u.stream) (client_list u.commands) known_stream known_commands
      (subst (λ (k : Shape). IsCalm k (client_list u.stream) known_stream) calm.stream_shape stream_calm) (subst (λ (k : Shape). IsCalm k (client_list u.commands) known_commands) calm.commands_shape commands_calm) calm.commands_few
      64 (sides_of t) calls due ops m most total (client.Learn learnt_stream ∷ []) (client.Learn learnt_commands ∷ []) is left
      (record { stream_shape = refl; commands_shape = refl; words = calm.words; knows_stream = calm.knew_stream; knows_commands = calm.knew_commands }) made stream_list commands_list in
      (turn.0, turn.1, made)

  -- Among its gains and writes the client did an op, or has put up to all that the block holds past what was known to be taken
  pub comes_on : (due : List Want) (ops : List Op) (m : Mode) (most total : ℕ) → IsBlock (sides_of (told_at run i)) → total < (told_at run i).stream.shape.base + frames_taken known_stream + 2 ^ 32 → begun (told_at run i).client ≡ at due ops m
      → Left (sides_of (told_at run i)) due ops m (suc most) total → 1 ≤ rank due (at_end (sides_of (told_at run i))) → rank due (at_end (sides_of (told_at run i))) ≤ 64
      → Progress ((told_at run i).stream.shape.base + frames_taken known_stream) most total (fold after_call (sides_of (told_at run i)) (calls_in round i))
  comes_on due ops m most total block low is left some within =
      let fair = fair_round due ops m (suc most) total is left in
      progress ((told_at run i).stream.shape.base + frames_taken known_stream) most total 64 (sides_of (told_at run i)) (calls_in round i) due ops m block low is left some within fair.2 fair.0 fair.1
