-- What a round leaves of a track's two blocks: their sizes, and what their servers did before.
use Rattle.std.proofs.Common.{◌≡◌, ℕ, ◌<◌, Bool, true, false, List, [], ◌∷◌, ◌++◌, length, drop, refl, sym, ap, ◌∙◌, append_assoc, Option, Some, None}
use Rattle.af_enough_law.proofs.Common.{BlockTold, EntrySeen, NormalKept, RoundSeen, Run, ServerEvent, Session, TrackTold, Turn, TurnFound, after_calls, after_round, after_turn, all_played, append-nil, called_in_turn, calls_in, client-server, client_list, cycle_events, cycle_frames, early_of, entry_slot, found_in, front_of, hand_does, late_of, learnt, listed, mixed_track, outside_of, played, server_list, setup_of, sides_of, slot_playing, state_for, stream_list, stream_met, takes_part, told_at, tracks_at, with_calls, with_cycle, with_poll}
use Rattle.af_base.specs.declared.event.ServerEvent.TheVariants as server
use Rattle.af_life.specs.TurnEvents.{hand_events_of}
use Rattle.af_enough_law.proofs.RunTracks.{mixed_by, turned_by, played_track, round_blocks, met_track}
use Rattle.af_enough_law.proofs.MoreTold.{hand-server, server-server}

-- a block that has grown: it has its sizes, and its server did more
pub record Grows (b c : BlockTold) : Type 0 where
  pub shape : c.shape ≡ b.shape
  pub more : List ServerEvent
  pub server : server_list c ≡ server_list b ++ more

pub grows_no : (b : BlockTold) → Grows b b
grows_no b = record { shape = refl; more = []; server = sym (append-nil (server_list b)) }

pub grows_on : {b c d : BlockTold} → Grows b c → Grows c d → Grows b d
grows_on {b} {c} {d} first then = record {
  shape = then.shape ∙ first.shape;
  more = first.more ++ then.more;
  server = then.server ∙ ap (λ (es : List ServerEvent). es ++ then.more) first.server ∙ append_assoc (server_list b) first.more then.more;
}

grows_same : {b c d : BlockTold} → Grows b c → d ≡ c → Grows b d
grows_same {b} {c} {d} g is = record { shape = ap (λ (x : BlockTold). x.shape) is ∙ g.shape; more = g.more; server = ap server_list is ∙ g.server }

played_grows : (asked : ℕ) (e : EntrySeen) (i : ℕ) (b : BlockTold) → Grows b (played asked e i b)
played_grows asked e i b = let slot = entry_slot e.entry i in let events = cycle_events asked (listed b) slot (front_of asked (listed b) slot) in
    record { shape = refl; more = events; server = server-server b.told events }

-- a track's blocks grow by its client's calls
side_grows : (t : TrackTold) (calls : List _) → Grows t.stream (called_in_turn calls t).stream × Grows t.commands (called_in_turn calls t).commands
side_grows t calls =
    let after = after_calls (sides_of t) calls in (
      record { shape = refl; more = []; server = client-server t.stream.told (drop (length (client_list t.stream)) after.stream.events) ∙ sym (append-nil (server_list t.stream)) },
      record { shape = refl; more = []; server = client-server t.commands.told (drop (length (client_list t.commands)) after.commands.events) ∙ sym (append-nil (server_list t.commands)) },
    )

met_grows : (there hands : Bool) (b : BlockTold) → Grows b (stream_met there hands b)
met_grows true true b = record { shape = refl; more = server.Learn (length (client_list b)) ∷ []; server = refl }
met_grows true false b = record { shape = refl; more = server.Learn (length (client_list b)) ∷ []; server = refl }
met_grows false true b = record { shape = refl; more = []; server = sym (append-nil (server_list b)) }
met_grows false false b = grows_no b

module _ (s : Session) where
  mixed_once : (e : EntrySeen) (t : TrackTold) (o : Option ℕ) → let u : TrackTold = elim o as (λ o. TrackTold) [ None ↦ t | Some i ↦ record t { stream = played (cycle_frames s) e i t.stream } ] in Grows t.stream u.stream
  mixed_once e t None = grows_no t.stream
  mixed_once e t (Some i) = played_grows (cycle_frames s) e i t.stream

  pub mixed_grows : (run : Run) (es : List EntrySeen) (i : ℕ) (t : TrackTold) → Grows t.stream (mixed_by s run es i t).stream
  unfolding mixed_by
  mixed_grows run [] i t = grows_no t.stream
  mixed_grows run (e ∷ es) i t = let x = state_for s (with_poll s e.entry.state run) e.entry.state in
      grows_on (mixed_once e t (slot_playing x e.entry i)) (mixed_grows (with_cycle s run e) es i (mixed_track s x e i t))

  pub turned_grows : (found : Turn → TurnFound) (o : Option Turn) (m : NormalKept) (i : ℕ) (t : TrackTold) → Grows t.stream (turned_by s found o m i t).stream
  unfolding turned_by
  turned_grows found None m i t = grows_no t.stream
  turned_grows found (Some e) m i t =
      let o = outside_of (setup_of s) (found e) e in
      let events = stream_list (setup_of s) o e (tracks_at (setup_of s) (learnt o) m e i) i in
      record { shape = refl; more = events; server = server-server (hand_does (hand_events_of e i) t.stream).told events ∙ ap (λ (es : List ServerEvent). es ++ events) (hand-server t.stream.told (hand_events_of e i)) }

  -- the stream block after a round
  pub round_grows : (run : Run) (round : RoundSeen) (i : ℕ) → i < length run.tracks → Grows (told_at run i).stream (told_at (after_round s run round) i).stream
  unfolding played_track
  round_grows run round i lt =
      let t = told_at run i in
      let c = called_in_turn (calls_in round i) t in
      let early = mixed_by s (with_calls round run) (early_of run round) i c in
      let turned = turned_by s (found_in s run round) round.turn run.normal i early in
      let all = played_track s run round i t in
      let made : Grows t.stream all.stream = grows_on (side_grows t (calls_in round i)).0 (grows_on (mixed_grows (with_calls round run) (early_of run round) i c)
      (grows_on (turned_grows (found_in s run round) round.turn run.normal i early) (mixed_grows (after_turn s run round) (late_of run round) i turned))) in
      grows_same (grows_on made (met_grows (takes_part s (all_played s run round) i) (all_played s run round).handed all.stream))
      ((round_blocks s run round i lt).0 ∙ ap (λ (x : TrackTold). x.stream) (met_track s run round i lt))
