-- A track that plays through begins calm and on its way, and each legal round of the named kind leaves it so.
use Rattle.std.proofs.Common.{◌≡◌, inl, ℕ, ◌≤◌, ◌<◌, Bool, true, false, true≢false, List, [], length, refl, sym, ap, subst, arith, MatchBool}
use Rattle.af_enough_law.proofs.Common.{All-get_or, AreCalls, AreSpelled, ClientCall, Frame, IsScript, IsTrack, LegalRound, Marks, RoundSeen, Run, ScriptData, ServerEvent, Session, Track, TrackTold, after_round, all_play_through, calls_in, client_list, hand_list, new_at, new_run, no_spec, server_list, session_of, sides_of, told_at, track_in}
use Rattle.af_model.specs.ClientCalls as list
use Rattle.af_runs.specs.Runs.{new_told_track}
use Rattle.af_enough_law.proofs.NormalRounds.{TurnMade}
use Rattle.af_enough_law.proofs.Playing.{AreFair}
use Rattle.af_enough_law.specs.Seen.{frames_put}
use Rattle.af_enough_law.proofs.Calm.{are_calm, are_hands_calm}
use Rattle.af_enough_law.proofs.FastWords.{IsOpen}
use Rattle.af_enough_law.proofs.CalmTracks.{CalmTrack, CalmTurn, calm_round, calm_then, known_stream_then, known_commands_then}
use Rattle.af_enough_law.proofs.ClientRounds.{fair_round}
use Rattle.af_enough_law.proofs.RunBegins.{begins_flushless, begins_pokeless}
use Rattle.af_enough_law.proofs.StreamCalm.{IsQuiet}
use Rattle.af_enough_law.proofs.Turning.{Stands, on, gone_for_good}

-- ## Before the first round

-- a track of an accepted script begins calm
pub begins_calm : (script : ScriptData) (files : List (List Frame)) (i : ℕ) → IsScript script → all_play_through script ≡ true → i < length script.tracks → CalmTrack (new_run (session_of script files)) i [] []
begins_calm script files i is through lt =
    let s = session_of script files in
    let here : told_at (new_run s) i ≡ new_told_track s i = new_at s i lt in
    let size = (All-get_or IsTrack script.tracks i no_spec lt is.tracks).buffer.1 in
    record {
      stream = subst (λ (t : TrackTold). IsQuiet t.stream.shape (server_list t.stream)) (sym here) (record { calm = refl; unshut = refl });
      stream_hands = ap (λ (t : TrackTold). are_hands_calm (hand_list t.stream)) here;
      stream_few = subst (λ (t : TrackTold). t.stream.shape.frames ≤ 65536) (sym here) (omega (arith, size));
      stream_later = [];
      stream_knows = ap (λ (t : TrackTold). server_list t.stream) here;
      knew_stream = inl refl;
      commands = ap (λ (t : TrackTold). are_calm (server_list t.commands)) here;
      commands_hands = ap (λ (t : TrackTold). are_hands_calm (hand_list t.commands)) here;
      commands_few = ap (λ (t : TrackTold). t.commands.shape.frames) here;
      commands_later = [];
      commands_knows = ap (λ (t : TrackTold). server_list t.commands) here;
      knew_commands = inl refl;
      is_open = subst (λ (t : TrackTold). IsOpen t.commands) (sym here) (record { none = refl; unshut = refl });
      words = subst (λ (t : TrackTold). frames_put (client_list t.commands) ≡ length t.commands.released) (sym here) refl;
      spelled = subst (λ (t : TrackTold). AreSpelled (sides_of t)) (sym here) (record { stream = list.begins; commands = list.begins });
      pokeless = begins_pokeless script files i is through lt;
      flushless = begins_flushless script files i is through lt;
    }

-- ## The calls of a round are fair

pub ended_calls : (t : Track) (calls : List ClientCall) (b : Bool) → b ≡ true → MatchBool b (calls ≡ []) (AreCalls 64 t calls) → AreFair calls
ended_calls t calls true e none = subst AreFair (sym none) tt
ended_calls t calls false e made = absurd (true≢false (sym e))

module _ (cut : Bool) (s : Session) (marks : Marks) (run : Run) (round : RoundSeen) (i : ℕ) (t : TurnMade s marks run round) (turn : CalmTurn s marks run round i t) (legal : LegalRound cut s marks run round)
    (known_stream known_commands : List ServerEvent) (calm : CalmTrack run i known_stream known_commands) (able : (track_in t.turn i).disabled ≡ false) (most total : ℕ) where
  pub calls_fair : Stands (sides_of (told_at run i)) most total → AreFair (calls_in round i)
  calls_fair (on due ops m is left) = (fair_round cut s marks run round i turn.low turn.named legal calm.spelled calm.pokeless known_stream known_commands (calm_round cut s marks run round i t turn legal known_stream known_commands calm able) due ops m most total is left).0
  calls_fair (gone_for_good ended sent words codes) = ended_calls (sides_of (told_at run i)) (calls_in round i) (told_at run i).client.ended ended (legal.turns.clients i turn.named)

  -- the lists of the track are calm after the round
  pub goes_calm : Stands (sides_of (told_at run i)) most total
      → CalmTrack (after_round s run round) i (known_stream_then cut s marks run round i t turn legal known_stream known_commands calm) (known_commands_then cut s marks run round i t turn legal known_stream known_commands calm)
  goes_calm stands = calm_then cut s marks run round i t turn legal known_stream known_commands calm able (calls_fair stands)
