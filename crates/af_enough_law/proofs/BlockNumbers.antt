-- The numbers of a stream block after a round in which its server took part: what was put and taken, and where its client is.
use Rattle.std.proofs.Common.{◌≡◌, ℕ, ◌+◌, ◌≤◌, Bool, true, false, List, [], ◌∷◌, ◌++◌, length, sym, ap, ◌∙◌, subst, arith, append_assoc, append-nil}
use Rattle.af_enough_law.proofs.Common.{ClientEvent, HasBlockHistory, LegalRound, Marks, RoundSeen, Run, ServerEvent, Session, Shape, TrackTold, after, after_round, calls_in, client_kept, client_list, drops_none, hand_list, in_turn, is_tame, room_kept, server_list, server_of, sides_of, start, told_at, track_in}
use Rattle.af_base.specs.declared.event.ClientEvent.TheVariants as client
use Rattle.af_enough_law.proofs.Basics.{put-append, taken-append}
use Rattle.af_enough_law.proofs.NormalRounds.{TurnMade}
use Rattle.af_enough_law.proofs.Playing.{position}
use Rattle.af_enough_law.specs.Seen.{frames_put, frames_taken}
use Rattle.af_enough_law.proofs.CalmTracks.{CalmTrack, CalmTurn, stream_lists, stream_quiet, hands_calm, spelled_then, pokeless_then, flushless_then}
use Rattle.af_enough_law.proofs.Fair.{position_is, calm_drops}
use Rattle.af_enough_law.proofs.FairTurns.{stream_grows}
use Rattle.af_enough_law.proofs.FastShows.{Setting}
use Rattle.af_enough_law.proofs.Flushless.{unflushed_none}
use Rattle.af_enough_law.proofs.RunStreams.{round_grows}
use Rattle.af_enough_law.proofs.RunTracks.{round_blocks}
use Rattle.af_enough_law.proofs.SeenBlocks.{consumed_is, released_is}

-- what was put and taken before and after a round, where the client is by it, and how much the block holds
pub record BlockNumbers (s : Session) (run : Run) (round : RoundSeen) (i : ℕ) : Type 0 where
  pub place : position (sides_of (told_at run i)).stream ≡ (told_at run i).stream.shape.base + frames_put (client_list (told_at run i).stream)
  pub place_then : position (sides_of (told_at (after_round s run round) i)).stream ≡ (told_at run i).stream.shape.base + frames_put (client_list (told_at (after_round s run round) i).stream)
  pub puts : frames_put (client_list (told_at run i).stream) ≤ frames_put (client_list (told_at (after_round s run round) i).stream)
  pub takes : frames_taken (server_list (told_at run i).stream) ≤ frames_taken (server_list (told_at (after_round s run round) i).stream)
  pub within : frames_taken (server_list (told_at (after_round s run round) i).stream) ≤ frames_put (client_list (told_at (after_round s run round) i).stream)
  pub fits : frames_put (client_list (told_at (after_round s run round) i).stream) ≤ frames_taken (server_list (told_at (after_round s run round) i).stream) + (told_at run i).stream.shape.frames

module _ (cut : Bool) (s : Session) (marks : Marks) (run : Run) (round : RoundSeen) (i : ℕ) (t : TurnMade s marks run round) (turn : CalmTurn s marks run round i t) (legal : LegalRound cut s marks run round)
    (known_stream known_commands : List ServerEvent) (calm : CalmTrack run i known_stream known_commands) (able : (track_in t.turn i).disabled ≡ false) where
  abbrev u : TrackTold
  u = told_at (after_round s run round) i

  abbrev b : TrackTold
  b = told_at run i

  shape : u.stream.shape ≡ b.stream.shape
  shape = (round_grows s run round i turn.low).shape

  history : HasBlockHistory u.stream
  history =
      let same = (round_blocks s run round i turn.low).0 in
      let tame = pokeless_then cut s marks run round i t turn legal known_stream known_commands calm in
      subst HasBlockHistory (sym same) ((legal.histories.blocks i turn.named).stream turn.part (ap is_tame (sym same) ∙ tame.stream))

  few : u.stream.shape.frames ≤ 65536
  few = subst (λ (k : Shape). k.frames ≤ 65536) (sym shape) calm.stream_few

  -- the lists lie in this history, of a client that never flushes
  pub stream_setting : Setting u.stream.shape (client_list u.stream) (server_list u.stream)
  stream_setting = record {
    few = few;
    spelled = (spelled_then cut s marks run round i t turn legal known_stream known_commands calm).stream;
    no_flush = unflushed_none (client_list u.stream) (flushless_then cut s marks run round i t turn legal known_stream known_commands calm).stream;
    released = u.stream.released;
    taken = u.stream.taken;
    hand = hand_list u.stream;
    history = history;
  }

  -- what the client said more
  more : (said : List ClientEvent) × (client_list u.stream ≡ client_list b.stream ++ said)
  more =
      let lists = stream_lists s run round i turn.low turn.part in
      let grown = stream_grows (sides_of b) (calls_in round i) in
      let learnt : List ClientEvent = client.Learn (length lists.did) ∷ [] in
      (grown.0 ++ learnt, lists.client ∙ ap (λ (es : List ClientEvent). es ++ learnt) grown.1 ∙ append_assoc (client_list b.stream) grown.0 learnt)

  placed : (xs ys : List ClientEvent) → client_list u.stream ≡ xs ++ ys → (client_kept u.stream.shape.frames u.stream.shape.base xs).position ≡ u.stream.shape.base + frames_put xs
  placed xs ys is =
      let quiet = stream_quiet cut s marks run round i t turn legal known_stream known_commands calm in
      let spelled = spelled_then cut s marks run round i t turn legal known_stream known_commands calm in
      position_is u.stream.shape few (client_list u.stream) u.stream.released (server_list u.stream) u.stream.taken _ history spelled.stream quiet.calm
      (hands_calm cut s marks run round i t turn legal known_stream known_commands calm able) xs ys is

  pub block_numbers : BlockNumbers s run round i
  block_numbers =
      let quiet = stream_quiet cut s marks run round i t turn legal known_stream known_commands calm in
      let spelled = spelled_then cut s marks run round i t turn legal known_stream known_commands calm in
      let h = history in
      let k = u.stream.shape in
      let none : drops_none (server_of h.order) ≡ true = ap drops_none h.server_is ∙ calm_drops (server_list u.stream) quiet.calm in
      let consumed : (after (start k) h.order).consumed ≡ k.base + frames_taken (server_list u.stream) = consumed_is k h.order none ∙ ap (λ (es : List ServerEvent). k.base + frames_taken es) h.server_is in
      let released : (after (start k) h.order).released ≡ k.base + frames_put (client_list u.stream) = released_is k h.order ∙ ap (λ (es : List ClientEvent). k.base + frames_put es) h.client_is in
      let turned = (in_turn k h.order h.legal).within in
      let kept = room_kept k few h spelled.stream in
      let grown = round_grows s run round i turn.low in
      let said = more in
      let put = ap frames_put said.1 ∙ put-append (client_list b.stream) said.0 in
      let took = ap frames_taken grown.server ∙ taken-append (server_list b.stream) grown.more in
      let size : k.frames ≡ b.stream.shape.frames = ap (λ (x : Shape). x.frames) shape in
      record {
        place = subst (λ (x : Shape). (client_kept x.frames x.base (client_list b.stream)).position ≡ x.base + frames_put (client_list b.stream)) shape (placed (client_list b.stream) said.0 said.1);
        place_then = placed (client_list u.stream) [] (sym (append-nil (client_list u.stream))) ∙ ap (λ (x : Shape). x.base + frames_put (client_list u.stream)) shape;
        puts = omega (arith, put);
        takes = omega (arith, took);
        within = omega (arith, consumed, released, turned);
        fits = omega (arith, consumed, released, kept, size);
      }
