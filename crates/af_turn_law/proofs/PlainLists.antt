-- What a turn or an entry adds to a list has no marks: those are made by meetings alone.
use Rattle.std.proofs.Common.{◌≡◌, ℕ, ◌-◌, ◌==◌, ◌&&◌, not, Bool, true, false, if◌then◌else◌, is_some, fold, List, [], ◌∷◌, ◌++◌, length, drop, Option, Some, None, refl, sym, ap, ◌∙◌, subst, append_assoc, append-nil}
use Rattle.af_turn_law.proofs.Common.{BlockTold, ClientEvent, CommandLook, Learnt, Listed, Outside, Seen, ServerEvent, Setup, Side, TakeSeen, Track, TrackKept, TrackSeen, Turn, after_call, after_calls, asked, called, client_list, command_events_of, command_list, cycle_events, drop_at, flat_map, going, heard, invalid, is_found_shut, is_home, is_of_commands, kept, learnt, mix_events, released_by, shows_command, client_side, status_events, stream_list, takes_from, tally, track_at, track_in}
use Rattle.af_base.specs.declared.event.ClientCall.{ClientCall}
use Rattle.af_base.specs.declared.event.ClientCall.TheVariants as call
use Rattle.af_base.specs.declared.event.ServerEvent.TheVariants as server
use Rattle.af_base.specs.declared.log.SlotEntry.{SlotEntry}
use Rattle.af_base.specs.declared.seen.Seen.TheVariants as seen
use Rattle.af_life.specs.Looks.{takes_command, command_events, did, all_command_events}
use Rattle.af_model.specs.ClientCalls.{client_call_events, client_events_of, client_kept}
use Rattle.af_model.specs.Cycles.{events_behind_look}
use Rattle.af_model.specs.ServerCalls.{drops_of, look_events}
use Rattle.af_turn_law.specs.Marking.{client_marks, server_marks}
use Rattle.af_turn_law.proofs.Marked.{NoMarks, none_join}

abbrev pub Plain : List ServerEvent → Type 0
Plain es = NoMarks server_marks es

plain_if : (b : Bool) (xs ys : List ServerEvent) → Plain xs → Plain ys → Plain (if b then xs else ys)
plain_if true xs ys f g = f
plain_if false xs ys f g = g

-- ## Looks

plain_drops : (sight : Seen) (front : ℕ) → Plain (drops_of sight front)
plain_drops (seen.Flushed dropped) front = (refl, tt)
plain_drops _ front = tt

plain_look : (sight : Seen) (flush rear front : ℕ) → Plain (look_events sight flush rear front)
plain_look sight flush rear front = (refl, (refl, (refl, plain_drops sight front)))

plain_tally : (missing : ℕ) → Plain (tally missing)
plain_tally missing = plain_if (missing == 0) [] (server.Tally missing ∷ server.SetFlags 1 ∷ []) tt (refl, (refl, tt))

plain_after : (many : ℕ) (was_shut : Bool) (sight : Seen) → Plain (events_behind_look many was_shut sight)
plain_after many was_shut seen.Absent = tt
plain_after many was_shut (seen.Frames count) = (refl, plain_tally (many - count))
plain_after many was_shut seen.Empty = plain_tally many
plain_after many was_shut (seen.Flushed dropped) = tt
plain_after many was_shut (seen.Shut back rear) = plain_if was_shut [] (server.SetFlags 4 ∷ []) tt (refl, tt)

pub plain_cycle : (many : ℕ) (s : Listed) (slot : SlotEntry) (front : ℕ) → Plain (cycle_events many s slot front)
plain_cycle many s slot front = (
  refl,
  none_join server_marks _ (events_behind_look many (is_some (kept s).shut) slot.seen) (plain_if (is_some (kept s).shut) [] (look_events slot.seen slot.flush slot.rear front) tt (plain_look slot.seen slot.flush slot.rear front))
      (plain_after many (is_some (kept s).shut) slot.seen),
)

-- ## The normal mixer

plain_command : (s : Listed) (look : CommandLook) (front : ℕ) → Plain (command_events s look front)
plain_command s look front = none_join server_marks _ (takes_command look) (plain_if (is_some (kept s).shut) [] (look_events look.seen look.flush look.rear front) tt (plain_look look.seen look.flush look.rear front))
    (plain_if (shows_command look.seen) (server.Take 2 ∷ []) [] (refl, tt) tt)

plain_commands : (s : Listed) (looks : List CommandLook) (fronts : List ℕ) → Plain (all_command_events s looks fronts)
plain_commands s [] fronts = tt
plain_commands s (look ∷ looks) [] = tt
plain_commands s (look ∷ looks) (front ∷ fronts) =
    none_join server_marks (command_events s look front) (all_command_events (did s (command_events s look front)) looks fronts) (plain_command s look front) (plain_commands (did s (command_events s look front)) looks fronts)

plain_invalid : (k : Learnt) (seen : TrackSeen) (tracks : List TrackKept) (i : ℕ) → Plain (invalid k seen tracks i)
plain_invalid k seen tracks i = plain_if (not (track_at tracks i).life.ended && is_found_shut (heard k i (track_at tracks i)) seen.looks) (server.SetFlags 4 ∷ []) [] (refl, tt) tt

plain_status : (o : Option ℕ) → Plain (status_events o)
plain_status None = tt
plain_status (Some word) = (refl, tt)

plain_going : (e : Turn) (es : List ServerEvent) → Plain es → Plain (going e es)
plain_going e es h = plain_if e.ended [] es tt h

pub plain_command_list : (c : Setup) (o : Outside) (e : Turn) (tracks : List TrackKept) (i : ℕ) → Plain (command_list c o e tracks i)
plain_command_list c o e tracks i =
    let seen = track_in e i in
    plain_going e (command_events_of c o seen tracks i)
    (none_join server_marks (all_command_events (o.commands i) seen.looks (o.command_fronts i) ++ invalid (learnt o) seen tracks i) (status_events seen.status)
    (none_join server_marks (all_command_events (o.commands i) seen.looks (o.command_fronts i)) (invalid (learnt o) seen tracks i) (plain_commands (o.commands i) seen.looks (o.command_fronts i)) (plain_invalid (learnt o) seen tracks i))
    (plain_status seen.status))

plain_takes : (c : Setup) (o : Outside) (i : ℕ) (takes : List TakeSeen) → Plain (flat_map (λ (take : TakeSeen). cycle_events (asked c) (o.streams i) take.slot (o.stream_front i)) takes)
plain_takes c o i [] = tt
plain_takes c o i (take ∷ takes) = none_join server_marks (cycle_events (asked c) (o.streams i) take.slot (o.stream_front i)) _ (plain_cycle (asked c) (o.streams i) take.slot (o.stream_front i)) (plain_takes c o i takes)

pub plain_stream_list : (c : Setup) (o : Outside) (e : Turn) (tracks : List TrackKept) (i : ℕ) → Plain (stream_list c o e tracks i)
plain_stream_list c o e tracks i =
    plain_going e _ (none_join server_marks _ (mix_events c o e.mixes i) (plain_if (is_home (track_at tracks i).holder) _ [] (plain_invalid (learnt o) (track_in e i) tracks i) tt) (plain_takes c o i (takes_from e.mixes i)))

-- ## Clients

plain_call : (was_shut : Bool) (answer : ClientCall) → NoMarks client_marks (client_call_events was_shut answer)
plain_call was_shut (call.Put front count) = (refl, (refl, (refl, tt)))
plain_call was_shut (call.Full front) = (refl, (refl, tt))
plain_call was_shut (call.Dead flags) = (refl, tt)
plain_call true (call.Corrupt front rear) = tt
plain_call false (call.Corrupt front rear) = (refl, (refl, tt))
plain_call was_shut (call.Cleared flags) = (refl, tt)
plain_call was_shut (call.Flush count) = (refl, tt)
plain_call was_shut (call.Gain word) = (refl, tt)
plain_call was_shut (call.Sent front code argument) = (refl, (refl, (refl, tt)))
plain_call was_shut (call.SendFull front) = (refl, (refl, tt))
plain_call was_shut (call.SendDead flags) = (refl, tt)
plain_call true (call.SendCorrupt front rear) = tt
plain_call false (call.SendCorrupt front rear) = (refl, (refl, tt))
plain_call was_shut (call.Status word) = (refl, tt)
plain_call was_shut (call.Poke command word value) = (refl, tt)

-- a side grows by events that are no marks
pub record GrowsPlain (x y : Side) : Type 0 where
  pub more : List ClientEvent
  pub events : y.events ≡ x.events ++ more
  pub plain : NoMarks client_marks more

grows_not : (x : Side) → GrowsPlain x x
grows_not x = record { more = []; events = sym (append-nil x.events); plain = tt }

grows_call : (x : Side) (answer : ClientCall) (words : List ℕ) → GrowsPlain x (called answer words x)
grows_call x answer words = record { more = client_events_of x.shape.frames x.shape.base x.events answer; events = refl; plain = plain_call (is_some (client_kept x.shape.frames x.shape.base x.events).shut) answer }

grows_both : (x y z : Side) → GrowsPlain x y → GrowsPlain y z → GrowsPlain x z
grows_both x y z a b = record {
  more = a.more ++ b.more;
  events = b.events ∙ (ap (λ (es : List ClientEvent). es ++ b.more) a.events ∙ append_assoc x.events a.more b.more);
  plain = none_join client_marks a.more b.more a.plain b.plain;
}

pub record GrowBoth (t u : Track) : Type 0 where
  pub stream : GrowsPlain t.stream u.stream
  pub commands : GrowsPlain t.commands u.commands

grow_by : (b : Bool) (t : Track) (answer : ClientCall) (words : List ℕ) → GrowBoth t (if b then record t { commands = called answer words t.commands } else record t { stream = called answer words t.stream })
grow_by true t answer words = record { stream = grows_not t.stream; commands = grows_call t.commands answer words }
grow_by false t answer words = record { stream = grows_call t.stream answer words; commands = grows_not t.commands }

grow_call : (t : Track) (answer : ClientCall) → GrowBoth t (after_call t answer)
grow_call t answer = let g = grow_by (is_of_commands answer) t answer (released_by t answer) in record { stream = g.stream; commands = g.commands }

pub grow_calls : (t : Track) (calls : List ClientCall) → GrowBoth t (fold after_call t calls)
grow_calls t [] = record { stream = grows_not t.stream; commands = grows_not t.commands }
grow_calls t (c ∷ calls) =
    let one = grow_call t c in
    let more = grow_calls (after_call t c) calls in
    let last = fold after_call (after_call t c) calls in
    record { stream = grows_both t.stream (after_call t c).stream last.stream one.stream more.stream; commands = grows_both t.commands (after_call t c).commands last.commands one.commands more.commands }

grown_plain : (b : BlockTold) (y : Side) → GrowsPlain (client_side b) y → NoMarks client_marks (drop (length (client_list b)) y.events)
grown_plain b y g = subst (NoMarks client_marks) (sym (ap (drop (length (client_list b))) g.events ∙ drop_at (client_list b) g.more (length (client_list b)) refl)) g.plain

-- what the calls of a turn add to both blocks
pub plain_turn : (t : Track) (stream commands : BlockTold) (calls : List ClientCall) → t.stream ≡ client_side stream → t.commands ≡ client_side commands
    → NoMarks client_marks (drop (length (client_list stream)) (after_calls t calls).stream.events) × NoMarks client_marks (drop (length (client_list commands)) (after_calls t calls).commands.events)
plain_turn t stream commands calls same also =
    let g = grow_calls t calls in
    let last = fold after_call t calls in
    (grown_plain stream last.stream (subst (λ x. GrowsPlain x last.stream) same g.stream), grown_plain commands last.commands (subst (λ x. GrowsPlain x last.commands) also g.commands))
