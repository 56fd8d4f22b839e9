-- What each step of a round keeps of a track's block whose server and client are never shut; and if they aren't shut after the step, they weren't before it, and the step spared the block. `commands` says which block it is.
use Rattle.std.proofs.Common.{◌≡◌, inl, inr, ◌⊎◌, ℕ, ◌≤◌, ◌^◌, not, Bool, true, false, true≢false, if◌then◌else◌, is_some, fold, map, List, [], ◌∷◌, ◌++◌, flat_map, drop, length, Option, Some, None, refl, sym, ap, ◌∙◌, subst, append-nil, arith}
use Rattle.af_audit.proofs.Common.{AllByRecursion, AllFollowRear, BlockTold, ClientCall, ClientEvent, ClientKept, CommandLook, EntrySeen, FastState, HandEvent, LegalClientTurn, LegalTake, LegalTurn, LooksBy, NormalKept, Outside, ServerEvent, ServerKept, Session, Setup, Shape, TakeSeen, Track, TrackKept, TrackSeen, TrackTold, TracksRise, Turn, TurnFound, after_call, after_calls, alike, all_command_events, asked, both_lawful, both_true, by_hand, called_in_turn, client-server, client_begins, client_call_events, client_events_of, client_keeps, client_kept, client_list, command_events_of, command_list, command_shape, cycle_events, cycle_frames, ends, entry_slot, fold-append, front_of, fronts_by, get_or_past, hand_events_of, invalid, is_home, is_lawful, is_of_commands, is_poke_on, is_shut, kept, kept_more, learnt, list_all, list_any, listed, meets, mix_events, mixed_track, neither, no, nothing_seen, outside_of, played, released_by, server_keeps, server_kept, server_list, sides_called, sides_of, slot_playing, status_events, stream_list, stream_met, take_front, takes_from, track_at, track_in, tracks_at, turned_track}
use Rattle.af_base.specs.declared.event.ClientCall.TheVariants as call
use Rattle.af_base.specs.declared.event.ServerEvent.TheVariants as server
use Rattle.af_base.specs.declared.event.ClientEvent.TheVariants as client
use Rattle.af_runs.specs.ClientTurns as turns
use Rattle.af_audit.specs.Spared.{is_spared_in_turn, none_corrupt_on}
use Rattle.af_audit.proofs.CallsUnshut.{IsOpen, unshut_turn}
use Rattle.af_audit.proofs.DropsNoticed.{OneTake, one_take}
use Rattle.af_audit.proofs.LooksUnshut.{shut_after, unshut_cycle, unshut_looks}
use Rattle.af_audit.proofs.RearsSeen.{FollowAnywhere, cycle_follows, rear_join}
use Rattle.af_audit.proofs.SidesKept.{sides_mixed, sides_turned}
use Rattle.af_audit.proofs.TrackStands.{hand-server, server-server, told_more}
use Rattle.af_audit.proofs.TracksSeen.{looks_legal}

-- the stream's server sees each front right after a rear; and if the block is the command block, nothing was poked on it
pub record IsTrim (commands : Bool) (t : TrackTold) : Type 0 where
  pub rears : AllFollowRear t.stream.shape false (server_list t.stream)
  pub tame : commands ≡ true → is_lawful (client_list t.commands) ≡ true
  pub shape : t.commands.shape ≡ command_shape

-- one of its two blocks
abbrev pub block_on : Bool → TrackTold → BlockTold
block_on true t = t.commands
block_on false t = t.stream

-- neither proxy of the block is shut
pub record IsUnshut (commands : Bool) (t : TrackTold) : Type 0 where
  pub client : IsOpen commands (sides_of t)
  pub server : (kept (listed (block_on commands t))).shut ≡ None

-- ## The calls

-- the events of a call on the command block that doesn't poke it
call_lawful : (shut : Bool) (answer : ClientCall) → is_poke_on true answer ≡ false → is_of_commands answer ≡ true → is_lawful (client_call_events shut answer) ≡ true
call_lawful shut (call.Sent front code argument) calm on = refl
call_lawful shut (call.SendFull front) calm on = refl
call_lawful shut (call.SendDead flags) calm on = refl
call_lawful true (call.SendCorrupt front rear) calm on = refl
call_lawful false (call.SendCorrupt front rear) calm on = refl
call_lawful shut (call.Status word) calm on = refl
call_lawful shut (call.Poke true word value) calm on = no (sym calm)
call_lawful shut (call.Poke false word value) calm on = no on
call_lawful shut (call.Put front count) calm on = no on
call_lawful shut (call.Full front) calm on = no on
call_lawful shut (call.Dead flags) calm on = no on
call_lawful shut (call.Corrupt front rear) calm on = no on
call_lawful shut (call.Cleared flags) calm on = no on
call_lawful shut (call.Flush count) calm on = no on
call_lawful shut (call.Gain word) calm on = no on

tame_call : (t : Track) (answer : ClientCall) → is_poke_on true answer ≡ false → is_lawful t.commands.events ≡ true → is_lawful (after_call t answer).commands.events ≡ true
tame_call t answer calm h = by_side (is_of_commands answer) refl
  where
    by_side : (b : Bool) → is_of_commands answer ≡ b → is_lawful (let u : Track = if b then record t { commands = turns.called answer (released_by t answer) t.commands } else record t { stream = turns.called answer (released_by t answer) t.stream } in u.commands.events) ≡ true
    by_side true is = both_lawful t.commands.events (client_events_of t.commands.shape.frames t.commands.shape.base t.commands.events answer) h (call_lawful (is_some (client_kept t.commands.shape.frames t.commands.shape.base t.commands.events).shut) answer calm is)
    by_side false is = h

tame_calls : (t : Track) (calls : List ClientCall) → list_any (is_poke_on true) calls ≡ false → is_lawful t.commands.events ≡ true → is_lawful (fold after_call t calls).commands.events ≡ true
tame_calls t [] calm h = h
tame_calls t (answer ∷ calls) calm h =
    let two = neither (is_poke_on true answer) (list_any (is_poke_on true) calls) calm in
    tame_calls (after_call t answer) calls two.1 (tame_call t answer two.0 h)

pub trim_called : (commands : Bool) (calls : List ClientCall) (t : TrackTold) → (commands ≡ true → list_any (is_poke_on true) calls ≡ false) → IsTrim commands t → IsTrim commands (called_in_turn calls t)
trim_called commands calls t calm h = record {
  rears = subst (AllFollowRear t.stream.shape false) (sym (client-server t.stream.told (drop (length (client_list t.stream)) (after_calls (sides_of t) calls).stream.events))) h.rears;
  tame = λ on. ap (λ (x : Track). is_lawful x.commands.events) (sides_called t calls) ∙ tame_calls (sides_of t) calls (calm on) (h.tame on);
  shape = h.shape;
}

pub unshut_called : (commands : Bool) (calls : List ClientCall) (t : TrackTold) → LegalClientTurn (sides_of t) calls → IsUnshut commands (called_in_turn calls t) → IsUnshut commands t × (none_corrupt_on commands calls ≡ true)
unshut_called commands calls t legal h =
    let one = unshut_turn commands (sides_of t) calls legal (subst (IsOpen commands) (sides_called t calls) h.client) in
    (record { client = one.0; server = by_block commands h.server }, one.1)
  where
    after : Track
    after = after_calls (sides_of t) calls

    by_block : (b : Bool) → (kept (listed (block_on b (called_in_turn calls t)))).shut ≡ None → (kept (listed (block_on b t))).shut ≡ None
    by_block true h = ap (λ es. (server_kept t.commands.shape es).shut) (sym (client-server t.commands.told (drop (length (client_list t.commands)) after.commands.events))) ∙ h
    by_block false h = ap (λ es. (server_kept t.stream.shape es).shut) (sym (client-server t.stream.told (drop (length (client_list t.stream)) after.stream.events))) ∙ h

-- ## An entry

module _ (commands : Bool) (s : Session) (x : FastState) (e : EntrySeen) (n : ℕ) (t : TrackTold) where
  abbrev with_slot : Option ℕ → TrackTold
  with_slot o = elim o as (λ o. TrackTold) [ None ↦ t | Some i ↦ record t { stream = played (cycle_frames s) e i t.stream } ]

  -- the events of the slot i
  abbrev slot_events : ℕ → List ServerEvent
  slot_events i = let slot = entry_slot e.entry i in cycle_events (cycle_frames s) (listed t.stream) slot (front_of (cycle_frames s) (listed t.stream) slot)

  slot_list : (i : ℕ) → server_list (played (cycle_frames s) e i t.stream) ≡ server_list t.stream ++ slot_events i
  slot_list i = server-server t.stream.told (slot_events i)

  pub trim_mixed : IsTrim commands t → IsTrim commands (mixed_track s x e n t)
  trim_mixed h = by_slot (slot_playing x e.entry n)
    where
      by_slot : (o : Option ℕ) → IsTrim commands (with_slot o)
      by_slot None = h
      by_slot (Some i) =
          let slot = entry_slot e.entry i in
          record {
            rears = subst (AllFollowRear t.stream.shape false) (sym (slot_list i)) (rear_join t.stream.shape false (server_list t.stream) (slot_events i) h.rears
                (cycle_follows t.stream.shape (cycle_frames s) (listed t.stream) slot (front_of (cycle_frames s) (listed t.stream) slot)));
            tame = h.tame;
            shape = h.shape;
          }

  abbrev IsSlotSpared : Option ℕ → Type 0
  IsSlotSpared o = elim o as (λ o. Bool) [ None ↦ true | Some i ↦ not (is_shut (entry_slot e.entry i).seen) ] ≡ true

  pub unshut_mixed : ((i : ℕ) → slot_playing x e.entry n ≡ Some i → (front : ℕ) × LooksBy (cycle_frames s) (listed t.stream) (entry_slot e.entry i) front) → IsUnshut commands (mixed_track s x e n t)
      → IsUnshut commands t × (commands ≡ false → IsSlotSpared (slot_playing x e.entry n))
  unshut_mixed looks h = by_block commands (subst (IsOpen commands) (sides_mixed s x e n t) h.client) h.server
    where
      -- the commands stay, whatever the slot
      stays : (o : Option ℕ) → (kept (listed (with_slot o).commands)).shut ≡ None → (kept (listed t.commands)).shut ≡ None
      stays None h = h
      stays (Some i) h = h

      by_slot : (o : Option ℕ) → slot_playing x e.entry n ≡ o → (kept (listed (with_slot o).stream)).shut ≡ None → ((kept (listed t.stream)).shut ≡ None) × IsSlotSpared o
      by_slot None is fine = (fine, refl)
      by_slot (Some i) is fine =
          let look = looks i is in
          let open_is : shut_after t.stream.shape (kept (listed t.stream)) (slot_events i) ≡ None = ap (λ (k : ServerKept). k.shut) (sym (kept_more t.stream.shape (server_list t.stream) (slot_events i))) ∙ ap (λ es. (server_kept t.stream.shape es).shut) (sym (slot_list i)) ∙ fine in
          let one = unshut_cycle (cycle_frames s) (listed t.stream) (entry_slot e.entry i) look.0 look.1 open_is in
          (one.0, ap not one.1)

      by_block : (b : Bool) → IsOpen b (sides_of t) → (kept (listed (block_on b (with_slot (slot_playing x e.entry n))))).shut ≡ None → IsUnshut b t × (b ≡ false → IsSlotSpared (slot_playing x e.entry n))
      by_block true client fine = (record { client = client; server = stays (slot_playing x e.entry n) fine }, λ on. absurd (true≢false on))
      by_block false client fine = let one = by_slot (slot_playing x e.entry n) refl fine in (record { client = client; server = one.0 }, λ on. one.1)

-- ## A turn

-- events that look at nothing: they follow a rear anywhere, and leave what is kept
record AreBeside (k : Shape) (es : List ServerEvent) : Type 0 where
  follow : FollowAnywhere k es
  same : (x : ServerKept) → fold (server_keeps k) x es ≡ x

flags_beside : (home shut : Bool) (k : Shape) → AreBeside k (if home then (if shut then server.SetFlags 4 ∷ [] else []) else [])
flags_beside true true k = record { follow = λ b. (tt, tt); same = λ x. refl }
flags_beside true false k = record { follow = λ b. tt; same = λ x. refl }
flags_beside false shut k = record { follow = λ b. tt; same = λ x. refl }

status_beside : (status : Option ℕ) (k : Shape) → AreBeside k (status_events status)
status_beside None k = record { follow = λ b. tt; same = λ x. refl }
status_beside (Some word) k = record { follow = λ b. (tt, tt); same = λ x. refl }

module _ (c : Setup) (f : TurnFound) (m : NormalKept) (e : Turn) (o : Outside) (n : ℕ) (found : o ≡ record (outside_of c f e) { stream_front = o.stream_front; command_fronts = o.command_fronts }) (rise : TracksRise 0 e.mixes) (legal : LegalTurn c o m e) where
  abbrev told : Outside
  told = outside_of c f e

  abbrev tracks : List TrackKept
  tracks = tracks_at c (learnt told) m e n

  abbrev stream : BlockTold
  stream = f.streams n

  abbrev commands : BlockTold
  commands = f.commands n

  -- the look for the buffer
  abbrev mixes : List TakeSeen → List ServerEvent
  mixes takes = flat_map (λ (take : TakeSeen). cycle_events (asked c) (listed stream) take.slot (take_front (front_of (asked c)) (listed stream) takes)) takes

  mixes_follow : (takes : List TakeSeen) (front : ℕ) → FollowAnywhere stream.shape (flat_map (λ (take : TakeSeen). cycle_events (asked c) (listed stream) take.slot front) takes)
  mixes_follow [] front b = tt
  mixes_follow (take ∷ takes) front b = rear_join stream.shape b (cycle_events (asked c) (listed stream) take.slot front) _ (cycle_follows stream.shape (asked c) (listed stream) take.slot front b) (mixes_follow takes front)

  none_shut : List TakeSeen → Bool
  none_shut takes = list_all (λ (take : TakeSeen). not (is_shut take.slot.seen)) takes

  -- the take of the track, if there is one, wasn't Shut
  unshut_mixes : AllByRecursion (LegalTake c o) e.mixes → shut_after stream.shape (kept (listed stream)) (mixes (takes_from e.mixes n)) ≡ None → ((kept (listed stream)).shut ≡ None) × (none_shut (takes_from e.mixes n) ≡ true)
  unfolding none_shut
  unshut_mixes all fine = by_takes (one_take (LegalTake c o) 0 e.mixes n rise all)
    where
      by_takes : (takes_from e.mixes n ≡ []) ⊎ OneTake (LegalTake c o) n (takes_from e.mixes n) → ((kept (listed stream)).shut ≡ None) × (none_shut (takes_from e.mixes n) ≡ true)
      by_takes (inl none) = (subst (λ takes. shut_after stream.shape (kept (listed stream)) (mixes takes) ≡ None) none fine, ap none_shut none)
      by_takes (inr one) =
          let by : LooksBy (asked c) (listed stream) one.take.slot (o.stream_front one.take.track) = subst (λ (y : Outside × ℕ). LooksBy (asked c) (y.0.streams y.1) one.take.slot (o.stream_front one.take.track)) (λ i. (found i, one.of_track i)) one.holds.looks in
          let events = cycle_events (asked c) (listed stream) one.take.slot (front_of (asked c) (listed stream) one.take.slot) in
          let alone : shut_after stream.shape (kept (listed stream)) (events ++ []) ≡ None = subst (λ takes. shut_after stream.shape (kept (listed stream)) (mixes takes) ≡ None) one.is fine in
          let r = unshut_cycle (asked c) (listed stream) one.take.slot (o.stream_front one.take.track) by (subst (λ es. shut_after stream.shape (kept (listed stream)) es ≡ None) (append-nil events) alone) in
          (r.0, ap none_shut one.is ∙ both_true (not (is_shut one.take.slot.seen)) true (ap not r.1) refl)

  -- events behind others that leave what is kept
  behind : (k : Shape) (x : ServerKept) (es more : List ServerEvent) → fold (server_keeps k) x es ≡ x → shut_after k x (es ++ more) ≡ shut_after k x more
  behind k x es more same = ap (λ (y : ServerKept). y.shut) (fold-append (server_keeps k) x es more) ∙ ap (λ (y : ServerKept). shut_after k y more) same

  abbrev flags : List ServerEvent
  flags = if is_home (track_at tracks n).holder then invalid (learnt told) (track_in e n) tracks n else []

  flags_fit : AreBeside stream.shape flags
  flags_fit = flags_beside (is_home (track_at tracks n).holder) _ stream.shape

  stream_follows : FollowAnywhere stream.shape (stream_list c told e tracks n)
  stream_follows b = by_end e.ended
    where
      by_end : (ended : Bool) → AllFollowRear stream.shape b (if ended then [] else flags ++ mix_events c told e.mixes n)
      by_end true = tt
      by_end false = rear_join stream.shape b flags (mix_events c told e.mixes n) (flags_fit.follow b) (mixes_follow (takes_from e.mixes n) (told.stream_front n))

  unshut_stream : shut_after stream.shape (kept (listed stream)) (stream_list c told e tracks n) ≡ None → ((kept (listed stream)).shut ≡ None) × (none_shut (takes_from e.mixes n) ≡ true)
  unfolding none_shut
  unshut_stream fine = by_end e.ended refl fine
    where
      by_end : (ended : Bool) → e.ended ≡ ended → shut_after stream.shape (kept (listed stream)) (if ended then [] else flags ++ mix_events c told e.mixes n) ≡ None → ((kept (listed stream)).shut ≡ None) × (none_shut (takes_from e.mixes n) ≡ true)
      by_end true is fine = (fine, ap (λ (u : Turn). none_shut (takes_from u.mixes n)) (legal.still is))
      by_end false is fine = unshut_mixes (legal.goes_on is).takes (sym (behind stream.shape (kept (listed stream)) flags (mixes (takes_from e.mixes n)) (flags_fit.same (kept (listed stream)))) ∙ fine)

  -- ## The commands in a turn

  abbrev looks : List CommandLook
  looks = (track_in e n).looks

  none_shut_look : List CommandLook → Bool
  none_shut_look ls = list_all (λ (look : CommandLook). not (is_shut look.seen)) ls

  -- the events that follow the looks at commands
  abbrev invalid_so : List ServerEvent
  invalid_so = invalid (learnt told) (track_in e n) tracks n

  invalid_fit : AreBeside commands.shape invalid_so
  invalid_fit = flags_beside true _ commands.shape

  unshut_commands : commands.shape.wrap ≤ 2 ^ 31 → shut_after commands.shape (kept (listed commands)) (command_list c told e tracks n) ≡ None → ((kept (listed commands)).shut ≡ None) × (none_shut_look looks ≡ true)
  unfolding none_shut_look
  unshut_commands few fine = by_end e.ended refl fine
    where
      by_end : (ended : Bool) → e.ended ≡ ended → shut_after commands.shape (kept (listed commands)) (if ended then [] else command_events_of c told (track_in e n) tracks n) ≡ None → ((kept (listed commands)).shut ≡ None) × (none_shut_look looks ≡ true)
      by_end true is fine = (fine, ap (λ (u : Turn). none_shut_look (track_in u n).looks) (legal.still is) ∙ ap (λ (seen : TrackSeen). none_shut_look seen.looks) (get_or_past [] n nothing_seen (omega arith)))
      by_end false is fine =
          let events = all_command_events (listed commands) looks (fronts_by front_of (listed commands) looks) in
          let status = status_events (track_in e n).status in
          let start = kept (listed commands) in
          let keeps = fold (server_keeps commands.shape) start in
          let moved : shut_after commands.shape start (command_events_of c told (track_in e n) tracks n) ≡ shut_after commands.shape start events =
          ap (λ (y : ServerKept). y.shut) (fold-append (server_keeps commands.shape) start (events ++ invalid_so) status
          ∙ (status_beside (track_in e n).status commands.shape).same (keeps (events ++ invalid_so))
          ∙ fold-append (server_keeps commands.shape) start events invalid_so ∙ invalid_fit.same (keeps events)) in
          let by = looks_legal c f m e o n found legal is in
          unshut_looks commands.shape few (server_list commands) (server_list commands) looks by.0 (alike (server_kept commands.shape (server_list commands))) by.1 (sym moved ∙ fine)

  -- ## The track in a turn

  module _ (t : TrackTold) where
    abbrev before : TrackTold
    before = record t { stream = stream; commands = commands }

    abbrev after : TrackTold
    after = turned_track c told m e n before

    stream_told : server_list after.stream ≡ server_list stream ++ stream_list c told e tracks n
    stream_told =
        let es = stream_list c told e tracks n in
        let hs : List HandEvent = hand_events_of e n in
        server-server (told_more stream.told (map by_hand hs)) es ∙ ap (λ l. l ++ es) (hand-server stream.told hs)

    commands_told : server_list after.commands ≡ server_list commands ++ command_list c told e tracks n
    commands_told = server-server commands.told (command_list c told e tracks n)

    pub trim_turned : (on : Bool) → IsTrim on before → IsTrim on after
    trim_turned on h = record {
      rears = subst (AllFollowRear stream.shape false) (sym stream_told) (rear_join stream.shape false (server_list stream) (stream_list c told e tracks n) h.rears stream_follows);
      tame = λ is. ap (λ (x : Track). is_lawful x.commands.events) (sides_turned c told m e n before) ∙ h.tame is;
      shape = h.shape;
    }

    pub unshut_turned : (on : Bool) → IsTrim on before → IsUnshut on after → IsUnshut on before × (is_spared_in_turn on e n ≡ true)
    unfolding none_shut none_shut_look
    unshut_turned on trim h = by_block on (subst (IsOpen on) (sides_turned c told m e n before) h.client) h.server
      where
        few : commands.shape.wrap ≤ 2 ^ 31
        few = let w : commands.shape.wrap ≡ 0 = ap (λ (k : Shape). k.wrap) trim.shape in omega (arith, w)

        by_block : (b : Bool) → IsOpen b (sides_of before) → (kept (listed (block_on b after))).shut ≡ None → IsUnshut b before × (is_spared_in_turn b e n ≡ true)
        by_block true client fine =
            let two = unshut_commands few (ap (λ (k : ServerKept). k.shut) (sym (kept_more commands.shape (server_list commands) (command_list c told e tracks n))) ∙ ap (λ es. (server_kept commands.shape es).shut) (sym commands_told) ∙ fine) in
            (record { client = client; server = two.0 }, two.1)
        by_block false client fine =
            let one = unshut_stream (ap (λ (k : ServerKept). k.shut) (sym (kept_more stream.shape (server_list stream) (stream_list c told e tracks n))) ∙ ap (λ es. (server_kept stream.shape es).shut) (sym stream_told) ∙ fine) in
            (record { client = client; server = one.0 }, one.1)

-- ## Meetings, and the end of a client

server_met : (k : Shape) (es : List ServerEvent) (count : ℕ) → (server_kept k (es ++ server.Learn count ∷ [])).shut ≡ (server_kept k es).shut
server_met k es count = ap (λ (x : ServerKept). x.shut) (kept_more k es (server.Learn count ∷ []))

client_met : (frames base : ℕ) (es : List ClientEvent) (count : ℕ) → (client_kept frames base (es ++ client.Learn count ∷ [])).shut ≡ (client_kept frames base es).shut
client_met frames base es count = ap (λ (x : ClientKept). x.shut) (fold-append (client_keeps frames) (client_begins base) es (client.Learn count ∷ []))

-- neither proxy of a block is shut
record IsUnshutBlock (b : BlockTold) : Type 0 where
  client : (client_kept b.shape.frames b.shape.base (client_list b)).shut ≡ None
  server : (kept (listed b)).shut ≡ None

block_met : (b : BlockTold) → IsUnshutBlock (meets b) → IsUnshutBlock b
block_met b h = record {
  client = sym (client_met b.shape.frames b.shape.base (client_list b) (length (server_list b))) ∙ h.client;
  server = sym (server_met b.shape (server_list b) _) ∙ h.server;
}

stream_met_so : (there hands : Bool) (b : BlockTold) → IsUnshutBlock (stream_met there hands b) → IsUnshutBlock b
stream_met_so true true b h = block_met b (record { client = h.client; server = h.server })
stream_met_so true false b h = block_met b h
stream_met_so false true b h = record { client = h.client; server = h.server }
stream_met_so false false b h = h

module _ (commands there hands : Bool) (t : TrackTold) where
  abbrev all_met : TrackTold
  all_met = record t { stream = stream_met there hands t.stream; commands = meets t.commands }

  rears_met : (x y : Bool) (b : BlockTold) → AllFollowRear b.shape false (server_list b) → AllFollowRear (stream_met x y b).shape false (server_list (stream_met x y b))
  rears_met true true b h = rear_join b.shape false (server_list b) _ h (λ c. (tt, tt))
  rears_met true false b h = rear_join b.shape false (server_list b) _ h (λ c. (tt, tt))
  rears_met false true b h = h
  rears_met false false b h = h

  pub trim_met : IsTrim commands t → IsTrim commands all_met
  trim_met h = record {
    rears = rears_met there hands t.stream h.rears;
    tame = λ on. both_lawful (client_list t.commands) (client.Learn (length (server_list t.commands)) ∷ []) (h.tame on) refl;
    shape = h.shape;
  }

  pub unshut_met : IsUnshut commands all_met → IsUnshut commands t
  unshut_met h = by_block commands h.client h.server
    where
      by_block : (b : Bool) → IsOpen b (sides_of all_met) → (kept (listed (block_on b all_met))).shut ≡ None → IsUnshut b t
      by_block true client fine = let one = block_met t.commands (record { client = client; server = fine }) in record { client = one.client; server = one.server }
      by_block false client fine = let one = stream_met_so there hands t.stream (record { client = client; server = fine }) in record { client = one.client; server = one.server }

pub trim_ended : (commands : Bool) (t : TrackTold) → IsTrim commands t → IsTrim commands (record t { client = ends t.client })
trim_ended on t h = record { rears = h.rears; tame = h.tame; shape = h.shape }

pub unshut_ended : (commands : Bool) (t : TrackTold) → IsUnshut commands (record t { client = ends t.client }) → IsUnshut commands t
unshut_ended true t h = record { client = h.client; server = h.server }
unshut_ended false t h = record { client = h.client; server = h.server }
