-- What each step of a round keeps of the flags and the statuses of a track's blocks, if both are spared and the mixer hears of no shut server: nobody sets INVALID, and no status says 15.
use Rattle.std.proofs.Common.{◌≡◌, ◌⊎◌, inl, inr, ℕ, ◌+◌, ◌*◌, ◌≤◌, ◌==◌, ◌&&◌, ◌||◌, not, Bool, true, false, true≢false, if◌then◌else◌, is_some, map, List, [], ◌∷◌, ◌++◌, flat_map, drop, length, Option, Some, None, refl, sym, ap, ◌∙◌, subst, append-nil, append_assoc, MatchBool, arith}
use Rattle.af_journal_laws.proofs.Common.{BlockTold, ClientCall, ClientEvent, EntrySeen, FastState, HandEvent, LegalClientTurn, LegalTurn, Listed, Moment, NormalKept, Outside, ServerEvent, Session, Setup, TakeSeen, TrackKept, TrackSeen, TrackTold, Turn, TurnFound, after_calls, all_command_events, asked, both_first, both_right, both_true, by_hand, by_server, called_in_turn, client_does, client_list, command_events, command_events_of, command_list, cycle_events, cycle_frames, did, entry_slot, hand-server, hand_of, heard, invalid, is_home, is_shut, is_spared_in_turn, kept, learnt, list_all, list_any, listed, look_events, meets, mix_events, mixed_track, not_true, nothing_seen, outside_of, played, ready, seen_legal, server-server, server_list, shows_command, sides_called, sides_of, slot_playing, state_in, status_events, stream_list, stream_met, takes_command, takes_from, told_more, track_at, track_in, tracks_at, turned_track}
use Rattle.std.proofs.lemmas.List.Concat.{flat_map-cons}
use Rattle.std.proofs.lemmas.Nat.{mod-mul-add}
use Rattle.af_base.specs.declared.event.HandEvent.TheVariants as hand
use Rattle.af_base.specs.declared.event.ServerEvent.TheVariants as server
use Rattle.af_base.specs.declared.turn.CommandLook.{CommandLook}
use Rattle.af_life.specs.declared.state.LifeState.{LifeState}
use Rattle.af_life.specs.declared.state.LifeState.TheVariants.{Absent, Idle, Active, Pausing, Paused, Resuming, Stopping1, Stopping2, Stopped, Flushed}
use Rattle.af_life.specs.Obeys.{slot_for as given_for}
use Rattle.af_life.specs.Serves.{IsServed, LegalTrack, after_report, is_found_shut, status_word, stored_over}
use Rattle.af_life.specs.State.{life_code}
use Rattle.af_life.specs.TurnEvents.{hand_events_of}
use Rattle.af_runs.specs.Blocks as block
use Rattle.af_runs.specs.Fronts.{front_of}
use Rattle.af_judge.proofs.BlocksTold.{client-hand, client-server}
use Rattle.af_journal_laws.specs.Alive.{none_dead}
use Rattle.af_journal_laws.proofs.CallsAlive.{IsValid, alive_turn}
use Rattle.af_journal_laws.proofs.FlagsCalm.{all_join, all_left, calm_look, cycle_calm, is_calm, is_calm_hand, is_valid}
use Rattle.af_audit.proofs.StatusWords.{code_low}
use Rattle.std.specs.Prelude.{◌%◌}

-- neither the server nor the hand of a block set INVALID, and no status that was stored says 15
pub record IsCalmBlock (b : BlockTold) : Type 0 where
  pub server : list_all is_calm (server_list b) ≡ true
  pub hand : list_all is_calm_hand (block.hand_list b) ≡ true

-- both blocks of a track are calm
pub record IsCalm (t : TrackTold) : Type 0 where
  pub stream : IsCalmBlock t.stream
  pub commands : IsCalmBlock t.commands

server-hand : (told : List Moment) (es : List ServerEvent) → hand_of (told_more told (map by_server es)) ≡ hand_of told
server-hand told [] = refl
server-hand told (e ∷ es) = server-hand (by_server e ∷ told) es

hand-hand : (told : List Moment) (es : List HandEvent) → hand_of (told_more told (map by_hand es)) ≡ hand_of told ++ es
hand-hand told [] = sym (append-nil (hand_of told))
hand-hand told (e ∷ es) = hand-hand (by_hand e ∷ told) es ∙ append_assoc (hand_of told) (e ∷ []) es

-- ## The calls

calm_client : (es : List ClientEvent) (b : BlockTold) (words : List ℕ) → IsCalmBlock b → IsCalmBlock (record (client_does es b) { released = words })
calm_client es b words h = record { server = ap (list_all is_calm) (client-server b.told es) ∙ h.server; hand = ap (list_all is_calm_hand) (client-hand b.told es) ∙ h.hand }

pub calm_called : (calls : List ClientCall) (t : TrackTold) → IsCalm t → IsCalm (called_in_turn calls t)
calm_called calls t h =
    let u = after_calls (sides_of t) calls in
    record {
      stream = calm_client (drop (length (client_list t.stream)) u.stream.events) t.stream u.stream.released h.stream;
      commands = calm_client (drop (length (client_list t.commands)) u.commands.events) t.commands u.commands.released h.commands;
    }

pub alive_called : (calls : List ClientCall) (t : TrackTold) → LegalClientTurn (sides_of t) calls → IsValid (sides_of (called_in_turn calls t)) → IsValid (sides_of t) × (none_dead calls ≡ true)
alive_called calls t legal h = alive_turn (sides_of t) calls legal (subst IsValid (sides_called t calls) h)

-- ## An entry

pub calm_mixed : (s : Session) (x : FastState) (e : EntrySeen) (n : ℕ) (t : TrackTold) → elim (slot_playing x e.entry n) as (λ o. Bool) [ None ↦ true | Some i ↦ not (is_shut (entry_slot e.entry i).seen) ] ≡ true
    → IsCalm t → IsCalm (mixed_track s x e n t)
calm_mixed s x e n t spared h = by_slot (slot_playing x e.entry n) spared
  where
    by_slot : (o : Option ℕ) → elim o as (λ o. Bool) [ None ↦ true | Some i ↦ not (is_shut (entry_slot e.entry i).seen) ] ≡ true → IsCalm (elim o as (λ o. TrackTold) [ None ↦ t | Some i ↦ record t { stream = played (cycle_frames s) e i t.stream } ])
    by_slot None spared = h
    by_slot (Some i) spared =
        let slot = entry_slot e.entry i in
        let front = front_of (cycle_frames s) (listed t.stream) slot in
        let es = cycle_events (cycle_frames s) (listed t.stream) slot front in
        record {
          stream = record {
            server = ap (list_all is_calm) (server-server t.stream.told es) ∙ all_join is_calm (server_list t.stream) es h.stream.server (cycle_calm (cycle_frames s) (listed t.stream) slot front (not_true (is_shut slot.seen) spared));
            hand = ap (list_all is_calm_hand) (server-hand t.stream.told es) ∙ h.stream.hand;
          };
          commands = h.commands;
        }

-- ## A turn

none_any : {A : Type 0} (p : A → Bool) (xs : List A) → list_all (λ x. not (p x)) xs ≡ true → list_any p xs ≡ false
none_any p [] h = refl
none_any p (x ∷ xs) h = ap (λ (b : Bool). b || list_any p xs) (not_true (p x) (both_first (not (p x)) _ h)) ∙ none_any p xs (both_right (not (p x)) _ h)

-- no state has the code of a track that was shut
code_open : (state : LifeState) → not (life_code state == 15) ≡ true
code_open Absent = refl
code_open Idle = refl
code_open Active = refl
code_open Pausing = refl
code_open Paused = refl
code_open Resuming = refl
code_open Stopping1 = refl
code_open Stopping2 = refl
code_open Stopped = refl
code_open Flushed = refl

-- a status of a track that isn't found shut holds its state
state_told : (code settled : ℕ) (drained : Bool) → code ≤ 15 → state_in (code + (if drained then 16 else 0) + 256 * settled) ≡ code
state_told code settled true low = let same : code + 16 + 256 * settled ≡ (1 + 16 * settled) * 16 + code = omega arith in ap state_in same ∙ mod-mul-add (1 + 16 * settled) 16 code (omega (arith, low))
state_told code settled false low = let same : code + 0 + 256 * settled ≡ (16 * settled) * 16 + code = omega arith in ap state_in same ∙ mod-mul-add (16 * settled) 16 code (omega (arith, low))

state_open : (s : TrackKept) → not (state_in (status_word false s) == 15) ≡ true
unfolding status_word
state_open s = ap (λ (n : ℕ). not (n == 15)) (state_told (life_code s.life.state) (s.settled % 16777216) s.life.drained (code_low s.life.state)) ∙ code_open s.life.state

stored_open : (last word : ℕ) → not (state_in word == 15) ≡ true → list_all is_calm (status_events (stored_over last word)) ≡ true
stored_open last word h = by (word == last)
  where
    by : (same : Bool) → list_all is_calm (status_events (if same then None else Some word)) ≡ true
    by true = refl
    by false = both_true (not (state_in word == 15)) true h refl

-- what looks do to the command block
calm_look_of : (l : Listed) (look : CommandLook) (front : ℕ) → list_all is_calm (command_events l look front) ≡ true
calm_look_of l look front = all_join is_calm (if is_some (kept l).shut then [] else look_events look.seen look.flush look.rear front) (takes_command look) (calm_look (is_some (kept l).shut) look.seen look.flush look.rear front) (by_shown (shows_command look.seen))
  where
    by_shown : (b : Bool) → list_all is_calm (if b then server.Take 2 ∷ [] else []) ≡ true
    by_shown true = refl
    by_shown false = refl

calm_looks : (l : Listed) (looks : List CommandLook) (fronts : List ℕ) → list_all is_calm (all_command_events l looks fronts) ≡ true
calm_looks l [] fronts = refl
calm_looks l (look ∷ looks) [] = refl
calm_looks l (look ∷ looks) (front ∷ fronts) = all_join is_calm (command_events l look front) _ (calm_look_of l look front) (calm_looks (did l (command_events l look front)) looks fronts)

module _ (c : Setup) (f : TurnFound) (m : NormalKept) (e : Turn) (o : Outside) (n : ℕ) (found : o ≡ record (outside_of c f e) { stream_front = o.stream_front; command_fronts = o.command_fronts }) (legal : LegalTurn c o m e) (t : TrackTold)
    (open_so : (heard (learnt (outside_of c f e)) n (track_at (tracks_at c (learnt (outside_of c f e)) m e n) n)).known.shut ≡ false) (sent_spared : is_spared_in_turn true e n ≡ true) (spared : is_spared_in_turn false e n ≡ true) where
  abbrev told : Outside
  told = outside_of c f e

  abbrev tracks : List TrackKept
  tracks = tracks_at c (learnt told) m e n

  abbrev s : TrackKept
  s = track_at tracks n

  abbrev looks : List CommandLook
  looks = (track_in e n).looks

  -- nobody finds the track shut
  not_found : is_found_shut (heard (learnt told) n s) looks ≡ false
  not_found =
      ap (λ (b : Bool). b || list_any (λ (look : CommandLook). is_shut look.seen) looks) open_so
      ∙ none_any (λ (look : CommandLook). is_shut look.seen) looks sent_spared

  calm_invalid : list_all is_calm (invalid (learnt told) (track_in e n) tracks n) ≡ true
  calm_invalid = by_found s.life.ended (is_found_shut (heard (learnt told) n s) looks) not_found
    where
      by_found : (ended found : Bool) → found ≡ false → list_all is_calm (if not ended && found then server.SetFlags 4 ∷ [] else []) ≡ true
      by_found ended true is = absurd (true≢false is)
      by_found true false is = refl
      by_found false false is = refl

  calm_flags : list_all is_calm (if is_home s.holder then invalid (learnt told) (track_in e n) tracks n else []) ≡ true
  calm_flags = by_home (is_home s.holder)
    where
      by_home : (b : Bool) → list_all is_calm (if b then invalid (learnt told) (track_in e n) tracks n else []) ≡ true
      by_home true = calm_invalid
      by_home false = refl

  -- no status says 15
  calm_status : e.ended ≡ false → list_all is_calm (status_events (track_in e n).status) ≡ true
  calm_status runs = by_seen (seen_legal c f m e o n found legal runs)
    where
      none : track_in e n ≡ nothing_seen → list_all is_calm (status_events (track_in e n).status) ≡ true
      none is = ap (λ (seen : TrackSeen). list_all is_calm (status_events seen.status)) is

      served_so : IsServed (given_for c tracks n) (heard (learnt told) n s) (track_in e n) (ready (learnt told) n s) → list_all is_calm (status_events (track_in e n).status) ≡ true
      served_so is =
          let after : TrackKept = after_report (given_for c tracks n) (heard (learnt told) n s) looks (ready (learnt told) n s) in
          ap (λ (word : Option ℕ). list_all is_calm (status_events word)) (is.status ∙ ap (λ (b : Bool). stored_over (ready (learnt told) n s).status (status_word b after)) not_found)
          ∙ stored_open (ready (learnt told) n s).status (status_word false after) (state_open after)

      by_ended : (b : Bool) → MatchBool b (track_in e n ≡ nothing_seen) (IsServed (given_for c tracks n) (heard (learnt told) n s) (track_in e n) (ready (learnt told) n s)) → list_all is_calm (status_events (track_in e n).status) ≡ true
      by_ended true is = none is
      by_ended false is = served_so is

      by_seen : (track_in e n ≡ nothing_seen) ⊎ LegalTrack c (learnt told) (track_in e n) tracks n → list_all is_calm (status_events (track_in e n).status) ≡ true
      by_seen (inl is) = none is
      by_seen (inr is) = by_ended s.life.ended is

  -- what the server of the command block does
  calm_commands : list_all is_calm (command_list c told e tracks n) ≡ true
  calm_commands = by_end e.ended refl
    where
      by_end : (ended : Bool) → e.ended ≡ ended → list_all is_calm (if ended then [] else command_events_of c told (track_in e n) tracks n) ≡ true
      by_end true is = refl
      by_end false is =
          let looked : List ServerEvent = all_command_events (told.commands n) looks (told.command_fronts n) in
          let flags : List ServerEvent = invalid (learnt told) (track_in e n) tracks n in
          all_join is_calm (looked ++ flags) (status_events (track_in e n).status) (all_join is_calm looked flags (calm_looks (told.commands n) looks (told.command_fronts n)) calm_invalid) (calm_status is)

  calm_takes : (takes : List TakeSeen) → list_all (λ (take : TakeSeen). not (is_shut take.slot.seen)) takes ≡ true → list_all is_calm (flat_map (λ (take : TakeSeen). cycle_events (asked c) (told.streams n) take.slot (told.stream_front n)) takes) ≡ true
  calm_takes [] h = refl
  calm_takes (take ∷ takes) h =
      let f = λ (take : TakeSeen). cycle_events (asked c) (told.streams n) take.slot (told.stream_front n) in
      ap (list_all is_calm) (flat_map-cons f take takes)
      ∙ all_join is_calm (f take) (flat_map f takes) (cycle_calm (asked c) (told.streams n) take.slot (told.stream_front n) (not_true (is_shut take.slot.seen) (both_first (not (is_shut take.slot.seen)) _ h))) (calm_takes takes (both_right (not (is_shut take.slot.seen)) _ h))

  calm_list : list_all is_calm (stream_list c told e tracks n) ≡ true
  calm_list = by_end e.ended
    where
      by_end : (ended : Bool) → list_all is_calm (if ended then [] else (if is_home s.holder then invalid (learnt told) (track_in e n) tracks n else []) ++ mix_events c told e.mixes n) ≡ true
      by_end true = refl
      by_end false = all_join is_calm (if is_home s.holder then invalid (learnt told) (track_in e n) tracks n else []) (mix_events c told e.mixes n) calm_flags (calm_takes (takes_from e.mixes n) spared)

  calm_hands : list_all is_calm_hand (hand_events_of e n) ≡ true
  calm_hands = by_end e.ended (track_in e n).disabled
    where
      by_end : (ended disabled : Bool) → list_all is_calm_hand (if ended then [] else (if disabled then hand.SetFlags 8 ∷ [] else [])) ≡ true
      by_end true disabled = refl
      by_end false true = refl
      by_end false false = refl

  pub calm_turned : IsCalm t → IsCalm (turned_track c told m e n t)
  calm_turned h =
      let es = stream_list c told e tracks n in
      let hs : List HandEvent = hand_events_of e n in
      let after : List Moment = told_more t.stream.told (map by_hand hs) in
      let sent = command_list c told e tracks n in
      record {
        stream = record {
          server = ap (list_all is_calm) (server-server after es ∙ ap (λ l. l ++ es) (hand-server t.stream.told hs)) ∙ all_join is_calm (server_list t.stream) es h.stream.server calm_list;
          hand = ap (list_all is_calm_hand) (server-hand after es ∙ hand-hand t.stream.told hs) ∙ all_join is_calm_hand (block.hand_list t.stream) hs h.stream.hand calm_hands;
        };
        commands = record {
          server = ap (list_all is_calm) (server-server t.commands.told sent) ∙ all_join is_calm (server_list t.commands) sent h.commands.server calm_commands;
          hand = ap (list_all is_calm_hand) (server-hand t.commands.told sent) ∙ h.commands.hand;
        };
      }

-- ## Meetings, and the end of a client

module _ (there hands : Bool) (t : TrackTold) where
  abbrev met_so : TrackTold
  met_so = record t { stream = stream_met there hands t.stream; commands = meets t.commands }

  servers_met : (x y : Bool) (b : BlockTold) → list_all is_calm (server_list b) ≡ true → list_all is_calm (server_list (stream_met x y b)) ≡ true
  servers_met true true b h = all_join is_calm (server_list b) _ h refl
  servers_met true false b h = all_join is_calm (server_list b) _ h refl
  servers_met false true b h = h
  servers_met false false b h = h

  hands_met : (x y : Bool) (b : BlockTold) → list_all is_calm_hand (block.hand_list b) ≡ true → list_all is_calm_hand (block.hand_list (stream_met x y b)) ≡ true
  hands_met true true b h = all_join is_calm_hand (block.hand_list b) _ h refl
  hands_met true false b h = h
  hands_met false true b h = all_join is_calm_hand (block.hand_list b) _ h refl
  hands_met false false b h = h

  pub calm_met : IsCalm t → IsCalm met_so
  calm_met h = record {
    stream = record { server = servers_met there hands t.stream h.stream.server; hand = hands_met there hands t.stream h.stream.hand };
    commands = record { server = servers_met true false t.commands h.commands.server; hand = hands_met true false t.commands h.commands.hand };
  }

  clients_met : (x y : Bool) (b : BlockTold) → list_all is_valid (client_list (stream_met x y b)) ≡ true → list_all is_valid (client_list b) ≡ true
  clients_met true true b h = all_left is_valid (client_list b) _ h
  clients_met true false b h = all_left is_valid (client_list b) _ h
  clients_met false true b h = h
  clients_met false false b h = h

  pub alive_met : IsValid (sides_of met_so) → IsValid (sides_of t)
  alive_met h = (clients_met there hands t.stream h.0, clients_met true false t.commands h.1)
