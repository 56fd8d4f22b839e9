-- What holds of a track through each step of a turn run: while its stream block is tame, its server is not shut if it takes part in no meeting.
use Rattle.std.proofs.Common.{◌≡◌, ℕ, ◌≤◌, Bool, true, false, true≢false, map, List, [], ◌++◌, drop, length, Option, Some, None, refl, sym, ◌∙◌, subst, append-nil}
use Rattle.af_render_law.proofs.Common.{BlockTold, ClientCall, EntrySeen, FastState, HandEvent, HasBlockHistory, IsTrim, LegalClientTurn, LegalTurn, NormalKept, Outside, ServerEvent, Session, Setup, Shape, Track, TrackTold, TracksRise, Turn, TurnFound, after_calls, by_client, by_hand, by_server, called_in_turn, client-server, client_list, cycle_frames, ends, hand-server, hand_events_of, is_tame, kept, learnt, listed, meets, mixed_track, outside_of, played, server-server, server_kept, server_list, sides_mixed, sides_of, sides_turned, stream_list, stream_met, told_more, tracks_at, trim_called, trim_ended, trim_met, trim_mixed, trim_turned, turned_track}
use Rattle.af_runs.specs.Runs.{slot_playing}
use Rattle.af_judge.specs.Tracks.{AreSpelled, IsSpelled}
use Rattle.af_judge.proofs.Spelled.{spelled_turn, spelled_met}
use Rattle.af_judge.proofs.TracksTold.{sides_called, shapes_called}
use Rattle.af_audit.proofs.RearsSeen.{server_unshut}
use Rattle.af_turn_law.proofs.BlocksTame.{tame_told}

-- a client whose lists are spelled by calls
pub record IsCalmClient (t : Track) : Type 0 where
  pub spelled : AreSpelled t
  pub stream : t.stream.shape.frames ≤ 65536
  pub commands : t.commands.shape.frames ≤ 65536

-- the server of a block isn't shut
abbrev pub IsOpenBlock : BlockTold → Type 0
IsOpenBlock b = (kept (listed b)).shut ≡ None

-- the server of a stream block isn't shut, if the block is tame so far
abbrev pub IsOpenStream : TrackTold → Type 0
IsOpenStream t = is_tame t.stream ≡ true → IsOpenBlock t.stream

-- what holds of a track, whose stream proxy takes part in the meetings or not
pub record TrackCalm (part : Bool) (t : TrackTold) : Type 0 where
  pub trim : IsTrim false t
  pub client : IsCalmClient (sides_of t)
  pub unshut : part ≡ false → IsOpenStream t

-- ## Steps

calm_sides : (t u : Track) → t ≡ u → IsCalmClient u → IsCalmClient t
calm_sides t u same h = subst IsCalmClient (sym same) h

pub calm_called : (part : Bool) (calls : List ClientCall) (t : TrackTold) → LegalClientTurn (sides_of t) calls → TrackCalm part t → TrackCalm part (called_in_turn calls t)
calm_called part calls t legal h =
    let es = drop (length (client_list t.stream)) (after_calls (sides_of t) calls).stream.events in
    let shapes = shapes_called (sides_of t) calls in
    let c = h.client in
    record {
      trim = trim_called false calls t (λ on. absurd (true≢false (sym on))) h.trim;
      client = calm_sides (sides_of (called_in_turn calls t)) (after_calls (sides_of t) calls) (sides_called t calls) (record {
        spelled = spelled_turn (sides_of t) calls c.spelled legal;
        stream = subst (λ (k : Shape). k.frames ≤ 65536) (sym shapes.0) c.stream;
        commands = subst (λ (k : Shape). k.frames ≤ 65536) (sym shapes.1) c.commands;
      });
      unshut = λ off tame. subst (λ es. (server_kept t.stream.shape es).shut ≡ None) (sym (client-server t.stream.told es)) (h.unshut off (tame_told t.stream.told (map by_client es) tame));
    }

pub calm_mixed : (part : Bool) (s : Session) (x : FastState) (e : EntrySeen) (n : ℕ) (t : TrackTold) → ((i : ℕ) → slot_playing x e.entry n ≡ Some i → part ≡ true) → TrackCalm part t → TrackCalm part (mixed_track s x e n t)
calm_mixed part s x e n t parts h = record {
  trim = trim_mixed false s x e n t h.trim;
  client = calm_sides (sides_of (mixed_track s x e n t)) (sides_of t) (sides_mixed s x e n t) h.client;
  unshut = by_slot (slot_playing x e.entry n) parts;
}
  where
    by_slot : (o : Option ℕ) → ((i : ℕ) → o ≡ Some i → part ≡ true) → part ≡ false → IsOpenStream (elim o as (λ o. TrackTold) [ None ↦ t | Some i ↦ record t { stream = played (cycle_frames s) e i t.stream } ])
    by_slot None parts off = h.unshut off
    by_slot (Some i) parts off = absurd (true≢false (sym (parts i refl) ∙ off))

pub calm_turned : (part after : Bool) (c : Setup) (f : TurnFound) (m : NormalKept) (e : Turn) (o : Outside) (n : ℕ) (t : TrackTold) → o ≡ record (outside_of c f e) { stream_front = o.stream_front; command_fronts = o.command_fronts } → TracksRise 0 e.mixes → LegalTurn c o m e
    → f.streams n ≡ t.stream → f.commands n ≡ t.commands → (after ≡ false → is_tame t.stream ≡ true → stream_list c (outside_of c f e) e (tracks_at c (learnt (outside_of c f e)) m e n) n ≡ []) → IsOpenStream t → TrackCalm part t → TrackCalm after (turned_track c (outside_of c f e) m e n t)
calm_turned part after c f m e o n t found rise legal streams commands rests is_open h = record {
  trim = subst (λ (u : TrackTold). IsTrim false (turned_track c told m e n u)) is (trim_turned c f m e o n found rise legal t false (subst (IsTrim false) (sym is) h.trim));
  client = calm_sides (sides_of (turned_track c told m e n t)) (sides_of t) (sides_turned c told m e n t) h.client;
  unshut = λ off tame. subst (λ l. (server_kept t.stream.shape l).shut ≡ None) (sym (server-server (told_more t.stream.told (map by_hand hs)) es ∙ (λ i. hand-server t.stream.told hs i ++ rests off (was tame) i) ∙ append-nil (server_list t.stream))) (is_open (was tame));
}
  where
    told : Outside
    told = outside_of c f e

    es : List ServerEvent
    es = stream_list c told e (tracks_at c (learnt told) m e n) n

    hs : List HandEvent
    hs = hand_events_of e n

    is : record t { stream = f.streams n; commands = f.commands n } ≡ t
    is = λ i. record t { stream = streams i; commands = commands i }

    was : is_tame (turned_track c told m e n t).stream ≡ true → is_tame t.stream ≡ true
    was tame = tame_told t.stream.told (map by_hand hs) (tame_told (told_more t.stream.told (map by_hand hs)) (map by_server es) tame)

client_met : (there hands : Bool) (t : TrackTold) → IsCalmClient (sides_of t) → IsCalmClient (sides_of (record t { stream = stream_met there hands t.stream; commands = meets t.commands }))
client_met there hands t h = by_meeting there hands (spelled_met there hands t.stream h.spelled.stream)
  where
    by_meeting : (there hands : Bool) → IsSpelled t.stream.shape (client_list (stream_met there hands t.stream)) → IsCalmClient (sides_of (record t { stream = stream_met there hands t.stream; commands = meets t.commands }))
    by_meeting true true spelled = record { spelled = record { stream = spelled; commands = spelled_met true false t.commands h.spelled.commands }; stream = h.stream; commands = h.commands }
    by_meeting true false spelled = record { spelled = record { stream = spelled; commands = spelled_met true false t.commands h.spelled.commands }; stream = h.stream; commands = h.commands }
    by_meeting false true spelled = record { spelled = record { stream = spelled; commands = spelled_met true false t.commands h.spelled.commands }; stream = h.stream; commands = h.commands }
    by_meeting false false spelled = record { spelled = record { stream = spelled; commands = spelled_met true false t.commands h.spelled.commands }; stream = h.stream; commands = h.commands }

pub calm_met : (part hands : Bool) (t : TrackTold) → TrackCalm part t → TrackCalm part (record t { stream = stream_met part hands t.stream; commands = meets t.commands })
calm_met part hands t h = record { trim = trim_met false part hands t h.trim; client = client_met part hands t h.client; unshut = by_meeting part hands h.unshut }
  where
    by_meeting : (part hands : Bool) → (part ≡ false → IsOpenStream t) → part ≡ false → is_tame (stream_met part hands t.stream) ≡ true → IsOpenBlock (stream_met part hands t.stream)
    by_meeting true hands is off = absurd (true≢false off)
    by_meeting false true is off = is off
    by_meeting false false is off = is off

pub calm_ended : (part : Bool) (t : TrackTold) → TrackCalm part t → TrackCalm part (record t { client = ends t.client })
calm_ended part t h = record { trim = trim_ended false t h.trim; client = record { spelled = record { stream = h.client.spelled.stream; commands = h.client.spelled.commands }; stream = h.client.stream; commands = h.client.commands }; unshut = h.unshut }

-- who takes part changes nothing if the server isn't shut
pub calm_first : (part after : Bool) (t : TrackTold) → IsOpenStream t → TrackCalm part t → TrackCalm after t
calm_first part after t is h = record { trim = h.trim; client = h.client; unshut = λ off. is }

-- ## Blocks that have histories

pub stream_open : (part : Bool) (t : TrackTold) → TrackCalm part t → HasBlockHistory t.stream → IsOpenBlock t.stream
stream_open part t h history = server_unshut t.stream h.client.stream history h.client.spelled.stream h.trim.rears
