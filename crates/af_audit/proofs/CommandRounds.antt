-- What is kept of a track's command block through a round: what its client sent, what its mixer settled, and that nothing is dropped.
use Rattle.std.proofs.Common.{◌≡◌, ℕ, ◌^◌, ◌<◌, ◌≤◌, Bool, true, false, true≢false, if◌then◌else◌, is_some, fold, List, [], ◌∷◌, ◌++◌, drop, length, Option, Some, None, refl, sym, ap, ◌∙◌, subst, arith}
use Rattle.af_audit.proofs.Common.{BlockTold, Client, ClientCall, CommandLook, EntrySeen, Learnt, LegalClientTurn, LegalLooks, LegalTurn, LegalTurnBy, Listed, Marks, NormalKept, Outside, RoundSeen, Run, Seen, ServerEvent, Session, Setup, Shape, Track, TrackKept, TrackTold, Turn, TurnFound, after_call, after_calls, alike, all_command_events, called_in_turn, calls_in, client-server, client_call_events, client_kept, client_list, command_events, command_list, command_shape, commands_turned, cycles_beside, did, drops_none, each_at, each_long, each_track, ends, flushes-append, flushes_of, front_of, fronts_by, heard, invalid, is_of_commands, kept, learnt, listed, loaded, look_events, meets, met, met_at, met_many, no_track, outside_of, released_by, server-client, server_kept, server_list, setup_of, shows_command, sides_called, sides_of, status_events, takes_command, told_at, told_each, track_at, track_in, tracks_at, turn_after, turn_len, turned, turned_track, with_calls, with_cycles, with_ends, with_load, with_turn}
use Rattle.af_base.specs.declared.event.ClientCall.TheVariants as call
use Rattle.af_base.specs.declared.event.ClientEvent.TheVariants as client
use Rattle.af_base.specs.declared.event.ServerEvent.TheVariants as server
use Rattle.af_base.specs.declared.seen.Seen.TheVariants as seen
use Rattle.af_runs.specs.ClientTurns.{called as called_side}
use Rattle.af_audit.specs.Fates.{DropsByFlush}
use Rattle.af_audit.proofs.CommandDrops.{looks_drop}
use Rattle.af_audit.proofs.DropsNoticed.{drops_join, none_dropped}
use Rattle.af_audit.proofs.SentWords.{SentSo, ends_so, turn_sends}
use Rattle.af_audit.proofs.StartWords.{seen_more}
use Rattle.af_audit.proofs.StartsSettled.{SettledSo}
use Rattle.af_audit.proofs.StatusWords.{StatusesLow, statuses_join, statuses_more}
use Rattle.af_audit.proofs.TrackStands.{server-server}
use Rattle.af_audit.proofs.TurnSettles.{TurnSettles, turn_settles}

-- What holds of a command block, its client and its track in the mixer, if STARTs with flush counts up to `most` were seen
pub record CommandsSo (most : ℕ) (b : BlockTold) (c : Client) (s : TrackKept) : Type 0 where
  pub so : SettledSo most 0 b.taken s
  pub statuses : StatusesLow s.settled (server_list b)
  pub drops : DropsByFlush b.shape [] (server_list b)
  pub shape : b.shape ≡ command_shape
  pub sent : SentSo b.released c
  pub calm : flushes_of (client_list b) ≡ 0

-- what holds of a command block holds if more flushes may have been seen
pub commands_more : (few most : ℕ) (b : BlockTold) (c : Client) (s : TrackKept) → few ≤ most → CommandsSo few b c s → CommandsSo most b c s
commands_more few most b c s low h = record {
  so = record { done = h.so.done; taken_are = h.so.taken_are; many = h.so.many; up = h.so.up; stands = λ order. (let x = h.so.stands order in record { seen = seen_more few most h.so.done low x.seen; none = x.none }) };
  statuses = h.statuses;
  drops = h.drops;
  shape = h.shape;
  sent = h.sent;
  calm = h.calm;
}

-- ## The client

-- no call on a command block flushes
call_calm : (shut : Bool) (answer : ClientCall) → is_of_commands answer ≡ true → flushes_of (client_call_events shut answer) ≡ 0
call_calm shut (call.Sent front code argument) on = refl
call_calm shut (call.SendFull front) on = refl
call_calm shut (call.SendDead flags) on = refl
call_calm true (call.SendCorrupt front rear) on = refl
call_calm false (call.SendCorrupt front rear) on = refl
call_calm shut (call.Status word) on = refl
call_calm shut (call.Poke in_command word value) on = refl
call_calm shut (call.Put front count) on = absurd (true≢false (sym on))
call_calm shut (call.Full front) on = absurd (true≢false (sym on))
call_calm shut (call.Dead flags) on = absurd (true≢false (sym on))
call_calm shut (call.Corrupt front rear) on = absurd (true≢false (sym on))
call_calm shut (call.Cleared flags) on = absurd (true≢false (sym on))
call_calm shut (call.Flush count) on = absurd (true≢false (sym on))
call_calm shut (call.Gain word) on = absurd (true≢false (sym on))

calm_call : (t : Track) (answer : ClientCall) → flushes_of t.commands.events ≡ 0 → flushes_of (after_call t answer).commands.events ≡ 0
calm_call t answer h = by_side (is_of_commands answer) refl
  where
    by_side : (b : Bool) → is_of_commands answer ≡ b → flushes_of (let u : Track = if b then record t { commands = called_side answer (released_by t answer) t.commands } else record t { stream = called_side answer (released_by t answer) t.stream } in u.commands.events) ≡ 0
    by_side true is =
        let shut = is_some (client_kept t.commands.shape.frames t.commands.shape.base t.commands.events).shut in
        let a = call_calm shut answer is in
        let j = flushes-append t.commands.events (client_call_events shut answer) in
        omega (arith, a, j, h)
    by_side false is = h

calm_calls : (t : Track) (calls : List ClientCall) → flushes_of t.commands.events ≡ 0 → flushes_of (fold after_call t calls).commands.events ≡ 0
calm_calls t [] h = h
calm_calls t (answer ∷ calls) h = calm_calls (after_call t answer) calls (calm_call t answer h)

pub called_so : (most : ℕ) (calls : List ClientCall) (t : TrackTold) (s : TrackKept) → LegalClientTurn (sides_of t) calls → CommandsSo most t.commands t.client s → CommandsSo most (called_in_turn calls t).commands (called_in_turn calls t).client s
called_so most calls t s legal h =
    let u : TrackTold = called_in_turn calls t in
    let after : Track = after_calls (sides_of t) calls in
    let sides : sides_of u ≡ after = sides_called t calls in
    let list : server_list u.commands ≡ server_list t.commands = client-server t.commands.told (drop (length (client_list t.commands)) after.commands.events) in
    record {
      so = h.so;
      statuses = subst (StatusesLow s.settled) (sym list) h.statuses;
      drops = subst (DropsByFlush t.commands.shape []) (sym list) h.drops;
      shape = h.shape;
      sent = subst (λ (x : Track). SentSo x.commands.released x.client) (sym sides) (turn_sends (sides_of t) calls legal h.sent);
      calm = ap (λ (x : Track). flushes_of x.commands.events) sides ∙ calm_calls (sides_of t) calls h.calm;
    }

-- ## A turn

look_statuses : (most : ℕ) (shown : Seen) (flush rear front : ℕ) → StatusesLow most (look_events shown flush rear front)
look_statuses most (seen.Flushed dropped) flush rear front = (tt, (tt, (tt, (tt, tt))))
look_statuses most _ flush rear front = (tt, (tt, (tt, tt)))

command_statuses : (most : ℕ) (l : Listed) (look : CommandLook) (front : ℕ) → StatusesLow most (command_events l look front)
command_statuses most l look front = statuses_join most _ (takes_command look) (by_shut (is_some (kept l).shut)) (by_shown (shows_command look.seen))
  where
    by_shut : (b : Bool) → StatusesLow most (if b then [] else look_events look.seen look.flush look.rear front)
    by_shut true = tt
    by_shut false = look_statuses most look.seen look.flush look.rear front

    by_shown : (b : Bool) → StatusesLow most (if b then server.Take 2 ∷ [] else [])
    by_shown true = (tt, tt)
    by_shown false = tt

looks_statuses : (most : ℕ) (l : Listed) (looks : List CommandLook) (fronts : List ℕ) → StatusesLow most (all_command_events l looks fronts)
looks_statuses most l [] fronts = tt
looks_statuses most l (look ∷ looks) [] = tt
looks_statuses most l (look ∷ looks) (front ∷ fronts) = statuses_join most (command_events l look front) _ (command_statuses most l look front) (looks_statuses most (did l (command_events l look front)) looks fronts)

flags_statuses : (most : ℕ) (b : Bool) → StatusesLow most (if b then server.SetFlags 4 ∷ [] else [])
flags_statuses most true = (tt, tt)
flags_statuses most false = tt

flags_none : (b : Bool) → drops_none (if b then server.SetFlags 4 ∷ [] else []) ≡ true
flags_none true = refl
flags_none false = refl

status_none : (o : Option ℕ) → drops_none (status_events o) ≡ true
status_none None = refl
status_none (Some word) = refl

module _ (most : ℕ) (c : Setup) (f : TurnFound) (m : NormalKept) (e : Turn) (o : Outside) (n : ℕ) (found : o ≡ record (outside_of c f e) { stream_front = o.stream_front; command_fronts = o.command_fronts }) (low : n < length m.tracks) (legal : LegalTurn c o m e) where
  abbrev told : Outside
  told = outside_of c f e

  abbrev tracks : List TrackKept
  tracks = tracks_at c (learnt told) m e n

  abbrev b : BlockTold
  b = f.commands n

  abbrev looks : List CommandLook
  looks = (track_in e n).looks

  abbrev looked : List ServerEvent
  looked = all_command_events (listed b) looks (fronts_by front_of (listed b) looks)

  abbrev flags : List ServerEvent
  flags = invalid (learnt told) (track_in e n) tracks n

  abbrev status : List ServerEvent
  status = status_events (track_in e n).status

  turn_drops : b.shape.wrap ≤ 2 ^ 31 → DropsByFlush b.shape (server_list b) (command_list c told e tracks n)
  turn_drops few = by e.ended refl
    where
      by : (d : Bool) → e.ended ≡ d → DropsByFlush b.shape (server_list b) (if d then [] else looked ++ flags ++ status)
      by true over = tt
      by false runs =
          let here : LegalLooks (listed b) looks (o.command_fronts n) = subst (λ (y : Outside). LegalLooks (y.commands n) looks (o.command_fronts n)) found ((legal.goes_on runs).looks n low) in
          drops_join b.shape (server_list b) (looked ++ flags) status
          (drops_join b.shape (server_list b) looked flags
          (looks_drop b.shape few (server_list b) (server_list b) looks (o.command_fronts n) (alike (server_kept b.shape (server_list b))) here)
          (none_dropped b.shape (server_list b ++ looked) flags (flags_none _)))
          (none_dropped b.shape (server_list b ++ (looked ++ flags)) status (status_none (track_in e n).status))

  turn_statuses : (many : ℕ) → StatusesLow many (if e.ended then [] else status_events (track_in e n).status) → StatusesLow many (command_list c told e tracks n)
  turn_statuses many low_status = by e.ended low_status
    where
      by : (d : Bool) → StatusesLow many (if d then [] else status_events (track_in e n).status) → StatusesLow many (if d then [] else looked ++ flags ++ status)
      by true h = tt
      by false h = statuses_join many (looked ++ flags) status (statuses_join many looked flags (looks_statuses many (listed b) looks (fronts_by front_of (listed b) looks)) (flags_statuses many _)) h

  -- what holds of a command block holds after a turn, if no flush count above `most` was heard to be seen
  turned_so : (x : Client) → (heard (learnt told) n (track_at tracks n)).flush_seen ≤ most → CommandsSo most b x (track_at m.tracks n) → CommandsSo most (commands_turned c told m e n b) x (track_at (turn_after c (learnt told) m e).tracks n)
  turned_so x heard_low h =
      let same : learnt o ≡ learnt told = ap learnt found in
      let before : TrackKept = track_at m.tracks n in
      let after : TrackKept = track_at (turn_after c (learnt told) m e).tracks n in
      let start : SettledSo most before.settled b.taken before = record { done = h.so.done; taken_are = h.so.taken_are; many = h.so.many; up = omega arith; stands = h.so.stands } in
      let heard_so : (heard (learnt o) n (track_at (tracks_at c (learnt o) m e n) n)).flush_seen ≤ most = subst (λ (k : Learnt). (heard k n (track_at (tracks_at c k m e n) n)).flush_seen ≤ most) (sym same) heard_low in
      let t : TurnSettles most before.settled b.taken e n after = subst (λ (k : Learnt). TurnSettles most before.settled b.taken e n (track_at (turn_after c k m e).tracks n)) same (turn_settles most before.settled b.taken c o m e n low legal heard_so start) in
      let list : server_list (commands_turned c told m e n b) ≡ server_list b ++ command_list c told e tracks n = server-server b.told (command_list c told e tracks n) in
      record {
        so = record { done = t.so.done; taken_are = t.so.taken_are; many = t.so.many; up = omega arith; stands = t.so.stands };
        statuses = subst (StatusesLow after.settled) (sym list) (statuses_join after.settled (server_list b) (command_list c told e tracks n) (statuses_more before.settled after.settled (server_list b) t.so.up h.statuses) (turn_statuses after.settled t.status));
        drops = subst (DropsByFlush b.shape []) (sym list) (drops_join b.shape [] (server_list b) (command_list c told e tracks n) h.drops (turn_drops (let w : b.shape.wrap ≡ 0 = ap (λ (k : Shape). k.wrap) h.shape in omega (arith, w))));
        shape = h.shape;
        sent = h.sent;
        calm = ap flushes_of (server-client b.told (command_list c told e tracks n)) ∙ h.calm;
      }

-- ## A meeting, and the end of a client

pub met_so : (most : ℕ) (b : BlockTold) (c : Client) (s : TrackKept) → CommandsSo most b c s → CommandsSo most (meets b) c s
met_so most b c s h = record {
  so = h.so;
  statuses = statuses_join s.settled (server_list b) (server.Learn (length (client_list b)) ∷ []) h.statuses (tt, tt);
  drops = drops_join b.shape [] (server_list b) (server.Learn (length (client_list b)) ∷ []) h.drops (tt, tt);
  shape = h.shape;
  sent = h.sent;
  calm = (let j = flushes-append (client_list b) (client.Learn (length (server_list b)) ∷ []) in let a = h.calm in omega (arith, j, a));
}

ended_so : (most : ℕ) (b : BlockTold) (c : Client) (s : TrackKept) → CommandsSo most b c s → CommandsSo most b (ends c) s
ended_so most b c s h = record { so = h.so; statuses = h.statuses; drops = h.drops; shape = h.shape; sent = ends_so b.released c h.sent; calm = h.calm }

-- ## The steps of a round

-- what holds of the commands of the track of a number in a run
pub record CommandsAt (most n : ℕ) (run : Run) : Type 0 where
  pub there : n < length run.tracks
  pub mixed : n < length run.normal.tracks
  pub commands : CommandsSo most (told_at run n).commands (told_at run n).client (track_at run.normal.tracks n)

pub at_more : (few most n : ℕ) (run : Run) → few ≤ most → CommandsAt few n run → CommandsAt most n run
at_more few most n run low h = record { there = h.there; mixed = h.mixed; commands = commands_more few most (told_at run n).commands (told_at run n).client (track_at run.normal.tracks n) low h.commands }

module _ (most n : ℕ) where
  abbrev Of : TrackTold → TrackKept → Type 0
  Of t s = CommandsSo most t.commands t.client s

  pub calls_at : (round : RoundSeen) (run : Run) → LegalClientTurn (sides_of (told_at run n)) (calls_in round n) → CommandsAt most n run → CommandsAt most n (with_calls round run)
  unfolding with_calls
  calls_at round run legal h = record {
    there = (let m = each_long (λ track t. called_in_turn (calls_in round track) t) 0 run.tracks in let t = h.there in omega (arith, m, t));
    mixed = h.mixed;
    commands = subst (λ (t : TrackTold). Of t (track_at run.normal.tracks n)) (sym (told_each (λ track t. called_in_turn (calls_in round track) t) run n h.there)) (called_so most (calls_in round n) (told_at run n) (track_at run.normal.tracks n) legal h.commands);
  }

  pub cycles_at : (s : Session) (es : List EntrySeen) (run : Run) → CommandsAt most n run → CommandsAt most n (with_cycles s es run)
  cycles_at s es run h =
      let b = cycles_beside s es run in
      record {
        there = (let m = b.many in let t = h.there in omega (arith, m, t));
        mixed = subst (λ (m : NormalKept). n < length m.tracks) (sym b.normal) h.mixed;
        commands = subst (λ (x : BlockTold × Client × NormalKept). CommandsSo most x.0 x.1 (track_at x.2.tracks n)) (λ i. (sym (b.commands n) i, sym (b.client n) i, sym b.normal i)) h.commands;
      }

  pub turn_at : (s : Session) (marks : Marks) (f : TurnFound) (e : Turn) (run : Run) → f.commands n ≡ (told_at run n).commands → LegalTurnBy (setup_of s) marks f run.normal e
      → (let k = learnt (outside_of (setup_of s) f e) in (heard k n (track_at (tracks_at (setup_of s) k run.normal e n) n)).flush_seen ≤ most) → CommandsAt most n run → CommandsAt most n (with_turn s f e run)
  unfolding with_turn
  turn_at s marks f e run is legal heard_low h =
      let c = setup_of s in
      let told = outside_of c f e in
      let now : CommandsSo most (f.commands n) (told_at run n).client (track_at run.normal.tracks n) = subst (λ (b : BlockTold). CommandsSo most b (told_at run n).client (track_at run.normal.tracks n)) (sym is) h.commands in
      let after = turned_so most c f run.normal e legal.outside n legal.found h.mixed legal.legal (told_at run n).client heard_low now in
      record {
        there = (let m = each_long (turned_track c told run.normal e) 0 run.tracks in let t = h.there in omega (arith, m, t));
        mixed = (let m = turn_len c (learnt told) run.normal e in let t = h.mixed in omega (arith, m, t));
        commands = subst (λ (t : TrackTold). Of t (track_at (turn_after c (learnt told) run.normal e).tracks n)) (sym (each_at (turned_track c told run.normal e) 0 run.tracks n n no_track h.there (omega arith)))
            (subst (λ (b : BlockTold). CommandsSo most (commands_turned c told run.normal e n b) (told_at run n).client (track_at (turn_after c (learnt told) run.normal e).tracks n)) is after);
      }

  pub loaded_at : (o : Option Turn) (run : Run) → CommandsAt most n run → CommandsAt most n (loaded o run)
  unfolding with_load
  loaded_at None run h = h
  loaded_at (Some e) run h = record { there = h.there; mixed = h.mixed; commands = h.commands }

  pub met_at_so : (s : Session) (run : Run) → CommandsAt most n run → CommandsAt most n (met s run)
  unfolding met
  met_at_so s run h = record {
    there = (let m = met_many s run in let t = h.there in omega (arith, m, t));
    mixed = h.mixed;
    commands = subst (λ (t : TrackTold). Of t (track_at run.normal.tracks n)) (sym (met_at s run n h.there)) (met_so most (told_at run n).commands (told_at run n).client (track_at run.normal.tracks n) h.commands);
  }

  pub ends_at : (run : Run) → CommandsAt most n run → CommandsAt most n (with_ends run)
  unfolding with_ends
  ends_at run h = by_end run.normal.ended
    where
      by_end : (b : Bool) → CommandsAt most n (if b then each_track (λ track t. record t { client = ends t.client }) run else run)
      by_end true = record {
        there = (let m = each_long (λ track t. record t { client = ends t.client }) 0 run.tracks in let t = h.there in omega (arith, m, t));
        mixed = h.mixed;
        commands = subst (λ (t : TrackTold). Of t (track_at run.normal.tracks n)) (sym (told_each (λ track t. record t { client = ends t.client }) run n h.there)) (ended_so most (told_at run n).commands (told_at run n).client (track_at run.normal.tracks n) h.commands);
      }
      by_end false = h

  -- the turn of a round keeps what holds of a track's commands, if the round has one
  pub turned_at : (s : Session) (marks : Marks) (found : Turn → TurnFound) (o : Option Turn) (run : Run) → ((e : Turn) → o ≡ Some e → (found e).commands n ≡ (told_at run n).commands) → ((e : Turn) → o ≡ Some e → LegalTurnBy (setup_of s) marks (found e) run.normal e)
      → ((e : Turn) → o ≡ Some e → (let k = learnt (outside_of (setup_of s) (found e) e) in (heard k n (track_at (tracks_at (setup_of s) k run.normal e n) n)).flush_seen ≤ most)) → CommandsAt most n run → CommandsAt most n (turned s found o run)
  turned_at s marks found None run is legal heard_low h = h
  turned_at s marks found (Some e) run is legal heard_low h = turn_at s marks (found e) e run (is e refl) (legal e refl) (heard_low e refl) h
