-- What a round does to a stream block beside the entries, and what all its entries take.
use Rattle.std.proofs.Common.{◌≡◌, ◌⊎◌, inl, inr, ℕ, ◌<◌, Bool, true, false, Option, Some, None, List, [], ◌∷◌, ◌++◌, length, drop, refl, sym, ap, ◌∙◌, subst, arith, append-nil}
use Rattle.af_enough_law.proofs.Common.{BlockTold, ClientEvent, NormalKept, Outside, RoundSeen, Run, ServerEvent, Session, Setup, Side, TrackTold, Turn, TurnFound, after_calls, after_round, after_turn, all_played, before_turn, called_in_turn, calls_in, client_does, client_list, each_at, early_of, found_in, hand_does, late_of, learnt, loaded, meets, meets_flag, met, met_after, met_many, outside_of, server_list, setup_of, sides_of, stream_list, stream_met, stream_turned, takes_part, told_at, told_each, track_met, tracks_at, turned, turned_track, with_calls, with_cycles, with_side, with_turn}
use Rattle.af_base.specs.declared.event.ClientEvent.TheVariants as client
use Rattle.af_base.specs.declared.event.ServerEvent.TheVariants as server
use Rattle.af_base.specs.declared.event.HandEvent.TheVariants as hand
use Rattle.af_enough_law.proofs.Basics.{load_told}
use Rattle.af_life.specs.TurnEvents.{hand_events_of}
use Rattle.af_enough_law.proofs.FastFlows.{Later, later_same, cycles_later}
use Rattle.af_enough_law.proofs.FastSteps.{server_does-server, server_does-client, client_does-client, client_does-server, hand_does-client, hand_does-server}
use Rattle.af_enough_law.proofs.RunTracks.{calls_long as calls_length, loaded_tracks, ends_blocks, cycles_long, turned_long}

-- ## Steps that add no look

-- the server does nothing, or meets the client
pub record Quiet (b later : BlockTold) : Type 0 where
  pub is_later : Later b later
  pub rests : (is_later.events ≡ []) ⊎ ((n : ℕ) × (is_later.events ≡ server.Learn n ∷ []))

pub quiet_same : (b later : BlockTold) → later ≡ b → Quiet b later
quiet_same b later same = record {
  is_later = record { shape = ap (λ (x : BlockTold). x.shape) same; calls = []; client = ap client_list same ∙ sym (append-nil (client_list b)); events = []; server = ap server_list same ∙ sym (append-nil (server_list b)) };
  rests = inl refl;
}

side_quiet : (side : Side) (b : BlockTold) → Quiet b (with_side side b)
side_quiet side b =
    let es : List ClientEvent = drop (length (client_list b)) side.events in
    record { is_later = record { shape = refl; calls = es; client = client_does-client es b; events = []; server = client_does-server es b ∙ sym (append-nil (server_list b)) }; rests = inl refl }

pub calls_quiet : (round : RoundSeen) (run : Run) (track : ℕ) → track < length run.tracks → Quiet (told_at run track).stream (told_at (with_calls round run) track).stream
unfolding with_calls
calls_quiet round run track low =
    subst (λ (t : TrackTold). Quiet (told_at run track).stream t.stream) (sym (told_each (λ track t. called_in_turn (calls_in round track) t) run track low))
    (side_quiet (after_calls (sides_of (told_at run track)) (calls_in round track)).stream (told_at run track).stream)

stream_later : (c : Setup) (o : Outside) (m : NormalKept) (e : Turn) (i : ℕ) (b : BlockTold) → Later b (stream_turned c o m e i b)
stream_later c o m e i b =
    let added : List ServerEvent = stream_list c o e (tracks_at c (learnt o) m e i) i in
    let handed : BlockTold = hand_does (hand_events_of e i) b in
    record {
      shape = refl;
      calls = [];
      client = server_does-client added handed ∙ hand_does-client (hand_events_of e i) b ∙ sym (append-nil (client_list b));
      events = added;
      server = server_does-server added handed ∙ ap (λ l. l ++ added) (hand_does-server (hand_events_of e i) b);
    }

turn_later : (s : Session) (f : TurnFound) (e : Turn) (run : Run) (track : ℕ) → track < length run.tracks → Later (told_at run track).stream (told_at (with_turn s f e run) track).stream
unfolding with_turn
turn_later s f e run track low =
    subst (λ (t : TrackTold). Later (told_at run track).stream t.stream) (sym (each_at (turned_track (setup_of s) (outside_of (setup_of s) f e) run.normal e) 0 run.tracks track track _ low (omega arith)))
    (stream_later (setup_of s) (outside_of (setup_of s) f e) run.normal e track (told_at run track).stream)

pub turned_later : (s : Session) (found : Turn → TurnFound) (o : Option Turn) (run : Run) (track : ℕ) → track < length run.tracks → Later (told_at run track).stream (told_at (turned s found o run) track).stream
turned_later s found None run track low = later_same (told_at run track).stream (told_at run track).stream refl
turned_later s found (Some e) run track low = turn_later s (found e) e run track low

pub loaded_told : (o : Option Turn) (run : Run) (track : ℕ) → told_at (loaded o run) track ≡ told_at run track
loaded_told None run track = refl
loaded_told (Some e) run track = load_told e run track

meets_quiet : (b : BlockTold) → Quiet b (meets b)
meets_quiet b =
    let called_in_turn : BlockTold = client_does (client.Learn (length (server_list b)) ∷ []) b in
    record {
      is_later = record {
        shape = refl;
        calls = client.Learn (length (server_list b)) ∷ [];
        client = server_does-client (server.Learn (length (client_list b)) ∷ []) called_in_turn ∙ client_does-client (client.Learn (length (server_list b)) ∷ []) b;
        events = server.Learn (length (client_list b)) ∷ [];
        server = server_does-server (server.Learn (length (client_list b)) ∷ []) called_in_turn ∙ ap (λ l. l ++ server.Learn (length (client_list b)) ∷ []) (client_does-server (client.Learn (length (server_list b)) ∷ []) b);
      };
      rests = inr (length (client_list b), refl);
    }

flag_quiet : (b c : BlockTold) → Quiet b c → Quiet b (meets_flag c)
flag_quiet b c q = record {
  is_later = record {
    shape = q.is_later.shape;
    calls = q.is_later.calls;
    client = hand_does-client (hand.Met (length (client_list c)) ∷ []) c ∙ q.is_later.client;
    events = q.is_later.events;
    server = hand_does-server (hand.Met (length (client_list c)) ∷ []) c ∙ q.is_later.server;
  };
  rests = q.rests;
}

stream_quiet : (part handed : Bool) (b : BlockTold) → Quiet b (stream_met part handed b)
stream_quiet true true b = flag_quiet b (meets b) (meets_quiet b)
stream_quiet true false b = meets_quiet b
stream_quiet false true b = flag_quiet b b (quiet_same b b refl)
stream_quiet false false b = quiet_same b b refl

pub met_quiet : (s : Session) (run : Run) (track : ℕ) → track < length run.tracks → Quiet (told_at run track).stream (told_at (met s run) track).stream
unfolding met
met_quiet s run track low =
    subst (λ (t : TrackTold). Quiet (told_at run track).stream t.stream) (sym (told_each (track_met s run) run track low))
    (stream_quiet (takes_part s run track) run.handed (told_at run track).stream)

-- ## All that a round does to a block

-- a block over a round: what the clients' calls, the entries, the turn and the meeting add to it
pub record Over (s : Session) (run : Run) (round : RoundSeen) (track : ℕ) : Type 0 where
  pub calls : Quiet (told_at run track).stream (told_at (with_calls round run) track).stream
  pub early : Later (told_at (with_calls round run) track).stream (told_at (before_turn s run round) track).stream
  pub turn : Later (told_at (before_turn s run round) track).stream (told_at (after_turn s run round) track).stream
  pub late : Later (told_at (after_turn s run round) track).stream (told_at (with_cycles s (late_of run round) (after_turn s run round)) track).stream
  pub meeting : Quiet (told_at (with_cycles s (late_of run round) (after_turn s run round)) track).stream (told_at (met_after s run round) track).stream
  pub whole : (told_at (after_round s run round) track).stream ≡ (told_at (met_after s run round) track).stream
  pub first : track < length (with_calls round run).tracks
  pub last : track < length (after_turn s run round).tracks

pub over : (s : Session) (run : Run) (round : RoundSeen) (track : ℕ) → track < length run.tracks → Over s run round track
over s run round track low =
    let a = calls_length round run in
    let b = cycles_long s (early_of run round) (with_calls round run) in
    let c = turned_long s (found_in s run round) round.turn (before_turn s run round) in
    let late : Run = with_cycles s (late_of run round) (after_turn s run round) in
    let d = cycles_long s (late_of run round) (after_turn s run round) in
    let e = ap length (loaded_tracks round.turn late) in
    let f = met_many s (all_played s run round) in
    record {
      calls = calls_quiet round run track low;
      early = cycles_later s (early_of run round) (with_calls round run) track (omega (arith, a, low));
      turn = turned_later s (found_in s run round) round.turn (before_turn s run round) track (omega (arith, a, b, low));
      late = cycles_later s (late_of run round) (after_turn s run round) track (omega (arith, a, b, c, low));
      meeting = subst (λ (t : TrackTold). Quiet t.stream (told_at (met_after s run round) track).stream) (loaded_told round.turn late track) (met_quiet s (all_played s run round) track (omega (arith, a, b, c, d, e, low)));
      whole = (ends_blocks (met_after s run round) track (omega (arith, a, b, c, d, e, f, low))).0;
      first = omega (arith, a, low);
      last = omega (arith, a, b, c, low);
    }

-- a round leaves as many tracks
pub all_length : (s : Session) (run : Run) (round : RoundSeen) → length (all_played s run round).tracks ≡ length run.tracks
all_length s run round =
    let late : Run = with_cycles s (late_of run round) (after_turn s run round) in
    ap length (loaded_tracks round.turn late) ∙ cycles_long s (late_of run round) (after_turn s run round) ∙ turned_long s (found_in s run round) round.turn (before_turn s run round)
    ∙ cycles_long s (early_of run round) (with_calls round run) ∙ calls_length round run
