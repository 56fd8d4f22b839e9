-- The lines of a journal, and its text.
use Rattle.std.specs.Prelude.{◌≡◌, ℕ, ◌+◌, ◌==◌, Bool, if◌then◌else◌, List, [], ◌∷◌, ◌++◌, map, flat_map, Option, Some, None, slice_index_or}
use Rattle.std.specs.Int.{bit_at}
use Rattle.std.specs.List.{range_with_len}
use Rattle.af_base.specs.declared.event.ClientCall.{ClientCall}
use Rattle.af_base.specs.declared.turn.CommandLook.{CommandLook}
use Rattle.af_base.specs.Log.{count_seen, entry_slot, kind_of, slots}
use Rattle.af_base.specs.Sample.{packed_word}
use Rattle.af_model.specs.Cycles.{is_mixed}
use Rattle.af_journal.specs.declared.line.Line.TheVariants as line
use Rattle.af_model.specs.Journals.{EntrySeen, JournalData, RoundSeen, slot_frames}
use Rattle.af_base.specs.Turn.{TakeSeen, TrackSeen, Turn}
use Rattle.af_runs.specs.Fronts.{is_shown}
use Rattle.af_journal.specs.Lines.{Written, numbers, words, line_bytes, with_lf}

-- ## The lines of a journal

-- packed words have a line of their own, if there are some
abbrev pub words_after : List ℕ → List Written
words_after [] = []
words_after (word ∷ rest) = words (word ∷ rest) ∷ []

-- what f gives of each, from a track on
abbrev pub each_from : {X : Type 0} → (ℕ → X → List Written) → ℕ → List X → List Written
each_from f track [] = []
each_from f track (x ∷ xs) = f track x ++ each_from f (track + 1) xs

-- some calls, one after the other
abbrev pub call_lines : List ClientCall → List Written
call_lines calls = map (λ call. numbers (line.Call call)) calls

-- a client that made calls
abbrev pub client_lines : ℕ → List ClientCall → List Written
client_lines track [] = []
client_lines track (call ∷ calls) = numbers (line.Client track) ∷ call_lines (call ∷ calls)

-- the two words of a command, if a look took one
abbrev pub command_words : CommandLook → List ℕ
command_words l = if count_seen l.seen == 2 then l.code ∷ l.argument ∷ [] else []

-- a look at a command block
abbrev pub look_lines : ℕ → CommandLook → List Written
look_lines track l = numbers (line.Look track l.flush l.rear l.seen) ∷ words_after (command_words l)

-- DISABLED, if it was set
abbrev pub disabled_lines : ℕ → Bool → List Written
disabled_lines track disabled = if disabled then numbers (line.Disabled track) ∷ [] else []

-- the status, if one was stored
abbrev pub status_lines : ℕ → Option ℕ → List Written
status_lines track None = []
status_lines track (Some word) = numbers (line.Status track word) ∷ []

-- a track in a turn: its looks, DISABLED, its status
abbrev pub track_lines : ℕ → TrackSeen → List Written
track_lines track t = flat_map (look_lines track) t.looks ++ disabled_lines track t.disabled ++ status_lines track t.status

-- a track that was mixed, with the frames taken
abbrev pub take_lines : TakeSeen → List Written
take_lines t = numbers (line.Take t.track t.slot.gains t.slot.flush t.slot.rear t.slot.seen) ∷ words_after (map packed_word t.frames)

-- a turn of the normal mixer
abbrev pub turn_lines : Turn → List Written
turn_lines e =
    if e.ended then numbers line.Ended ∷ []
    else numbers (line.Turn e.room e.ack e.cycle) ∷ each_from track_lines 0 e.tracks ++ numbers (line.Pushed e.push) ∷ flat_map take_lines e.mixes

-- a slot of the mask, with the frames taken
abbrev pub slot_lines : EntrySeen → ℕ → List Written
slot_lines e i =
    let slot = entry_slot e.entry i in
    if is_shown slot.seen then numbers (line.Slot i (slice_index_or e.entry.scales i 0) (bit_at e.entry.mono i == 1) slot.gains slot.flush slot.rear slot.seen) ∷ words_after (map packed_word (slot_frames e i)) else []

-- the slots of a mix
unfoldable pub slots_lines : EntrySeen → List Written
slots_lines e = flat_map (slot_lines e) (range_with_len 0 slots)

-- an entry
abbrev pub entry_lines : EntrySeen → List Written
entry_lines e = numbers (line.Entry e.entry.state (kind_of e.entry.cycle)) ∷ (if is_mixed e.entry.cycle then slots_lines e else [])

-- the entries of a round, if there are some
abbrev pub fast_lines : List EntrySeen → List Written
fast_lines [] = []
fast_lines (e ∷ entries) = numbers line.Fast ∷ flat_map entry_lines (e ∷ entries)

-- the turn, if there was one
abbrev pub turns_lines : Option Turn → List Written
turns_lines None = []
turns_lines (Some e) = turn_lines e

-- a round
abbrev pub round_lines : RoundSeen → List Written
round_lines round = numbers line.Round ∷ each_from client_lines 0 round.calls ++ turns_lines round.turn ++ fast_lines round.entries

-- ## The text

-- the bytes of some lines, each with its LF
abbrev pub text_of_lines : List Written → List ℕ
text_of_lines lines = flat_map (λ l. with_lf (line_bytes l)) lines

-- the text of a journal: that of all its rounds
abbrev pub text_of : JournalData → List ℕ
text_of j = text_of_lines (flat_map round_lines j.rounds)

-- a text goes on with some lines
abbrev pub GoesOn : List ℕ → List Written → List ℕ → Type 0
GoesOn before lines after = after ≡ before ++ text_of_lines lines
