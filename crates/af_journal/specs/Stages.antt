-- Which line may follow which in a journal's text. A line decides by itself and by the stage before it, so the first line that may not come is the first bad one.
use Rattle.std.specs.Prelude.{ℕ, ◌+◌, ◌==◌, ◌&&◌, ◌||◌, nat_le, nat_lt, not, Bool, true, false, if◌then◌else◌, length, Option, Some, None}
use Rattle.af_base.specs.declared.seen.Seen.{Seen}
use Rattle.af_base.specs.declared.seen.Seen.TheVariants as seen
use Rattle.af_base.specs.Log.{slots, count_seen}
use Rattle.af_journal.specs.declared.line.Line.{Line}
use Rattle.af_journal.specs.declared.line.Line.TheVariants as line
use Rattle.af_journal.specs.declared.stage.Stage.{Stage}
use Rattle.af_journal.specs.declared.stage.Stage.TheVariants as stage
use Rattle.af_journal.specs.Lines.{Written, numbers, words}

-- the stage `next`, if it may be
abbrev pub if_so : Bool → Stage → Option Stage
if_so b next = if b then Some next else None

-- a track that may come
abbrev pub is_next : ℕ → ℕ → ℕ → Bool
is_next tracks low track = nat_le low track && nat_lt track tracks

-- what may follow a turn: entries, or a round
abbrev pub after_turn : Line → Option Stage
after_turn line.Fast = Some stage.Fast
after_turn line.Round = Some (stage.Clients 0)
after_turn _ = None

-- what may follow clients: another one, a turn, and what follows a turn
abbrev pub after_clients : ℕ → ℕ → Line → Option Stage
after_clients tracks low (line.Client track) = if_so (is_next tracks low track) (stage.Client (track + 1))
after_clients tracks low (line.Turn room ack cycle) = Some (stage.Turn 0 0)
after_clients tracks low line.Ended = Some stage.Turned
after_clients tracks low l = after_turn l

-- what may follow a call: another one, or what follows clients
abbrev pub after_call : ℕ → ℕ → Line → Option Stage
after_call tracks low (line.Call answer) = Some (stage.Calls low)
after_call tracks low l = after_clients tracks low l

-- the stage after a look: one of two frames has words
abbrev pub after_look : ℕ → Seen → Stage
after_look track answer = if count_seen answer == 2 then stage.Look track else stage.Turn track 0

-- the part of a track that may come: a look before DISABLED before a status
abbrev pub comes : ℕ → ℕ → ℕ → ℕ → Bool
comes track part low_track low_part = nat_lt low_track track || ((low_track == track) && nat_le low_part part)

-- the stage after a line of a turn: the tracks' lines, and then the push
abbrev pub after_part : ℕ → ℕ → ℕ → Line → Option Stage
after_part tracks low part (line.Look track flush rear answer) = if_so (nat_lt track tracks && comes track 0 low part) (after_look track answer)
after_part tracks low part (line.Disabled track) = if_so (nat_lt track tracks && comes track 1 low part) (stage.Turn track 2)
after_part tracks low part (line.Status track word) = if_so (nat_lt track tracks && comes track 2 low part) (stage.Turn (track + 1) 0)
after_part tracks low part (line.Pushed push) = Some (stage.Takes 0)
after_part tracks low part _ = None

-- the stage after a take, which has words if it showed frames
abbrev pub after_taken : ℕ → Seen → Stage
after_taken track answer = if count_seen answer == 0 then stage.Takes (track + 1) else stage.Take (count_seen answer) (track + 1)

-- what may follow a take: one of another track, or what follows a turn
abbrev pub after_take : ℕ → ℕ → Line → Option Stage
after_take tracks low (line.Take track gains flush rear answer) = if_so (is_next tracks low track) (after_taken track answer)
after_take tracks low l = after_turn l

-- an entry: one that is Mixed has slots
abbrev pub after_fast : Line → Option Stage
after_fast (line.Entry state kind) = Some (if kind == 0 then stage.Mixed 0 else stage.Entries)
after_fast _ = None

-- what may follow an entry: another one, or a round
abbrev pub after_entry : Line → Option Stage
after_entry line.Round = Some (stage.Clients 0)
after_entry l = after_fast l

-- the submix shows frames or nothing
abbrev pub shows_submix : Seen → Bool
shows_submix (seen.Frames count) = true
shows_submix seen.Empty = true
shows_submix _ = false

-- the submix is at unity
abbrev pub is_submix : ℕ → Bool → ℕ → ℕ → Seen → Bool
is_submix scale mono gains flush answer = (scale == 4096) && (not mono && ((gains == 268439552) && ((flush == 0) && shows_submix answer)))

-- the stage after a slot, which has words if it showed frames
abbrev pub after_shown : ℕ → Seen → Stage
after_shown i answer = if count_seen answer == 0 then stage.Mixed (i + 1) else stage.Slot (count_seen answer) (i + 1)

-- a slot of a mix: the submix comes first
abbrev pub may_be_slot : ℕ → ℕ → ℕ → Bool → ℕ → ℕ → Seen → Bool
may_be_slot low i scale mono gains flush answer = if low == 0 then (i == 0) && is_submix scale mono gains flush answer else nat_le low i && nat_lt i slots

abbrev pub after_slot_line : ℕ → Line → Option Stage
after_slot_line low (line.Slot i scale mono gains flush rear answer) = if_so (may_be_slot low i scale mono gains flush answer) (after_shown i answer)
after_slot_line low _ = None

-- a slot, or, once the submix is there, what follows an entry
abbrev pub after_slot : ℕ → Line → Option Stage
after_slot low (line.Slot i scale mono gains flush rear answer) = after_slot_line low (line.Slot i scale mono gains flush rear answer)
after_slot low l = if low == 0 then None else after_entry l

-- a round's mark
abbrev pub is_round : Line → Bool
is_round line.Round = true
is_round _ = false

-- a call
abbrev pub is_call : Line → Bool
is_call (line.Call answer) = true
is_call _ = false

-- the stage after a line of numbers
abbrev pub after_line : ℕ → Stage → Line → Option Stage
after_line tracks stage.Nothing l = if_so (is_round l) (stage.Clients 0)
after_line tracks (stage.Clients low) l = after_clients tracks low l
after_line tracks (stage.Calls low) l = after_call tracks low l
after_line tracks (stage.Client low) l = if_so (is_call l) (stage.Calls low)
after_line tracks (stage.Turn low part) l = after_part tracks low part l
after_line tracks (stage.Takes low) l = after_take tracks low l
after_line tracks stage.Turned l = after_turn l
after_line tracks stage.Fast l = after_fast l
after_line tracks (stage.Mixed low) l = after_slot low l
after_line tracks stage.Entries l = after_entry l
after_line tracks _ l = None

-- the stage after a line of so many words, which are due after a look that showed them
abbrev pub after_words : Stage → ℕ → Option Stage
after_words (stage.Look track) count = if_so (count == 2) (stage.Turn track 0)
after_words (stage.Take due low) count = if_so (count == due) (stage.Takes low)
after_words (stage.Slot due low) count = if_so (count == due) (stage.Mixed low)
after_words _ count = None

-- the stage after a line
abbrev pub after_written : ℕ → Stage → Written → Option Stage
after_written tracks at (numbers l) = after_line tracks at l
after_written tracks at (words ws) = after_words at (length ws)

-- a text may end at this stage
abbrev pub may_end : Stage → Bool
may_end stage.Nothing = true
may_end (stage.Clients low) = true
may_end (stage.Calls low) = true
may_end (stage.Takes low) = true
may_end stage.Turned = true
may_end (stage.Mixed low) = not (low == 0)
may_end stage.Entries = true
may_end _ = false
