-- What holds of a track through each step of a round: its client released the first frames of its file and poked nothing, and its server dropped frames only by flushes that it noticed.
use Rattle.std.proofs.Common.{◌≡◌, ℕ, Bool, true, false, fold, map, List, [], ◌∷◌, ◌++◌, drop, length, Option, Some, None, refl, sym, ap, ◌∙◌, subst, append-nil, append_assoc}
use Rattle.af_audit.proofs.Common.{ClientCall, EntrySeen, FastState, HandEvent, LegalTurn, Listed, LooksBy, Moment, NormalKept, Outside, ServerEvent, Session, Setup, TrackTold, TracksRise, Turn, after_calls, both_lawful, by_hand, by_server, called_in_turn, client-server, client_list, cycle_events, cycle_frames, ends, entry_slot, front_of, hand-client, hand_events_of, is_lawful, is_poke_on, learnt, list_any, listed, meets, mixed_track, played, server-client, server_list, server_of, sides_called, sides_of, slot_playing, stream_list, stream_met, tracks_at, turned_track}
use Rattle.af_base.specs.declared.event.ClientEvent.TheVariants as client
use Rattle.af_audit.specs.Fates.{DropsByFlush}
use Rattle.af_audit.proofs.DropsNoticed.{cycle_drops, drops_more, turn_drops}
use Rattle.af_audit.proofs.FileReleased.{IsFromFile, calls_from_file}

-- what holds of the stream block of a track of this file
pub record TrackStands (file : List ℕ) (t : TrackTold) : Type 0 where
  pub file_is : t.file ≡ file
  pub client : IsFromFile (sides_of t)
  pub drops : DropsByFlush t.stream.shape [] (server_list t.stream)

-- ## The lists of a block

abbrev pub told_more : List Moment → List Moment → List Moment
told_more told moments = fold (λ (sofar : List Moment) (m : Moment). m ∷ sofar) told moments

pub server-server : (told : List Moment) (es : List ServerEvent) → server_of (told_more told (map by_server es)) ≡ server_of told ++ es
server-server told [] = sym (append-nil (server_of told))
server-server told (e ∷ es) = server-server (by_server e ∷ told) es ∙ append_assoc (server_of told) (e ∷ []) es

pub hand-server : (told : List Moment) (es : List HandEvent) → server_of (told_more told (map by_hand es)) ≡ server_of told
hand-server told [] = refl
hand-server told (e ∷ es) = hand-server (by_hand e ∷ told) es

-- ## The steps

module _ (file : List ℕ) where
  -- the calls of the track's client keep what holds of the track
  pub stands_called : (calls : List ClientCall) (t : TrackTold) → list_any (is_poke_on false) calls ≡ false → TrackStands file t → TrackStands file (called_in_turn calls t)
  stands_called calls t calm h = record {
    file_is = h.file_is;
    client = subst IsFromFile (sym (sides_called t calls)) (calls_from_file (sides_of t) calls calm h.client);
    drops = subst (DropsByFlush t.stream.shape []) (sym (client-server t.stream.told (drop (length (client_list t.stream)) (after_calls (sides_of t) calls).stream.events))) h.drops;
  }

  -- an entry keeps what holds of the track, if each slot that plays the track answers by its server's list
  pub stands_mixed : (s : Session) (x : FastState) (e : EntrySeen) (n : ℕ) (t : TrackTold) → ((i : ℕ) → slot_playing x e.entry n ≡ Some i → (front : ℕ) × LooksBy (cycle_frames s) (listed t.stream) (entry_slot e.entry i) front)
      → TrackStands file t → TrackStands file (mixed_track s x e n t)
  stands_mixed s x e n t looks h = by_slot (slot_playing x e.entry n) refl
    where
      by_slot : (o : Option ℕ) → slot_playing x e.entry n ≡ o → TrackStands file (elim o as (λ o. TrackTold) [ None ↦ t | Some i ↦ record t { stream = played (cycle_frames s) e i t.stream } ])
      by_slot None is = h
      by_slot (Some i) is =
          let asked = cycle_frames s in
          let slot = entry_slot e.entry i in
          let look = looks i is in
          let es : List ServerEvent = cycle_events asked (listed t.stream) slot (front_of asked (listed t.stream) slot) in
          let u : TrackTold = record t { stream = played asked e i t.stream } in
          record {
            file_is = h.file_is;
            client = record { begins = h.client.begins; tame = ap is_lawful (server-client t.stream.told es) ∙ h.client.tame };
            drops = subst (DropsByFlush t.stream.shape []) (sym (server-server t.stream.told es)) (drops_more t.stream.shape (server_list t.stream) es h.drops (cycle_drops asked (listed t.stream) slot look.0 (front_of asked (listed t.stream) slot) look.1));
          }

  -- a legal turn keeps what holds of the track
  pub stands_turned : (c : Setup) (o told : Outside) (m : NormalKept) (e : Turn) (n : ℕ) (t : TrackTold) → o.streams ≡ told.streams → told.streams n ≡ listed t.stream → TracksRise 0 e.mixes → LegalTurn c o m e
      → TrackStands file t → TrackStands file (turned_track c told m e n t)
  stands_turned c o told m e n t streams found rise legal h =
      let es : List ServerEvent = stream_list c told e (tracks_at c (learnt told) m e n) n in
      let hs : List HandEvent = hand_events_of e n in
      let after : List Moment = told_more t.stream.told (map by_hand hs) in
      let new : DropsByFlush t.stream.shape (server_list t.stream) es = subst (λ (l : Listed). DropsByFlush l.shape l.events es) found (turn_drops c o told m e n streams rise (tracks_at c (learnt told) m e n) legal) in
      record {
        file_is = h.file_is;
        client = record { begins = h.client.begins; tame = ap is_lawful (server-client after es ∙ hand-client t.stream.told hs) ∙ h.client.tame };
        drops = subst (DropsByFlush t.stream.shape []) (sym (server-server after es ∙ ap (λ l. l ++ es) (hand-server t.stream.told hs))) (drops_more t.stream.shape (server_list t.stream) es h.drops new);
      }

  -- the meetings keep what holds of the track
  pub stands_met : (there hands : Bool) (t : TrackTold) → TrackStands file t → TrackStands file (record t { stream = stream_met there hands t.stream; commands = meets t.commands })
  stands_met true true t h = record {
    file_is = h.file_is;
    client = record { begins = h.client.begins; tame = both_lawful (client_list t.stream) (client.Learn (length (server_list t.stream)) ∷ []) h.client.tame refl };
    drops = drops_more t.stream.shape (server_list t.stream) _ h.drops (tt, tt);
  }
  stands_met true false t h = record {
    file_is = h.file_is;
    client = record { begins = h.client.begins; tame = both_lawful (client_list t.stream) (client.Learn (length (server_list t.stream)) ∷ []) h.client.tame refl };
    drops = drops_more t.stream.shape (server_list t.stream) _ h.drops (tt, tt);
  }
  stands_met false true t h = record { file_is = h.file_is; client = record { begins = h.client.begins; tame = h.client.tame }; drops = h.drops }
  stands_met false false t h = record { file_is = h.file_is; client = record { begins = h.client.begins; tame = h.client.tame }; drops = h.drops }

  -- the end of its client keeps what holds of the track
  pub stands_ended : (t : TrackTold) → TrackStands file t → TrackStands file (record t { client = ends t.client })
  stands_ended t h = record { file_is = h.file_is; client = record { begins = h.client.begins; tame = h.client.tame }; drops = h.drops }
