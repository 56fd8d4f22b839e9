-- The summary of a run: how many cycles were mixed, how many frames of lawful tracks were mixed, dropped and are queued, and how loud it was.
use Rattle.std.specs.Prelude.{ℕ, ◌+◌, ◌-◌, ◌==◌, not, if◌then◌else◌, Bool, true, false, List, [], ◌∷◌, ◌++◌, length, map, replicate, Option, Some, None, sum, sum_by, count_by, slice_index_or, slice_set, slice_index, codes}
use Rattle.std.specs.Fmt.{decimal}
use Rattle.std.specs.List.{flat_map, list_all, range_with_len}
use Rattle.af_base.specs.declared.event.ClientCall.{ClientCall}
use Rattle.af_base.specs.declared.event.ClientCall.TheVariants.{Poke}
use Rattle.af_base.specs.declared.frame.Frame.{Frame}
use Rattle.af_base.specs.declared.log.CycleEntry.{CycleEntry}
use Rattle.af_base.specs.declared.seen.Seen.{Seen}
use Rattle.af_base.specs.declared.seen.Seen.TheVariants.{Flushed}
use Rattle.af_base.specs.declared.state.FastState.{FastState}
use Rattle.af_base.specs.Log.{slots, entry_slot, count_seen}
use Rattle.af_base.specs.Mix.{peak_of}
use Rattle.af_base.specs.Turn.{TakeSeen, Turn}
use Rattle.af_model.specs.Cycles.{is_mixed}
use Rattle.af_model.specs.StateQueue.{slot_of, carries}
use Rattle.af_tally.specs.declared.summary.Summary.{Summary}

-- ## What a run shows

-- an entry of the fast mixer's log, with the state that it used, if it used one
pub record EntryUsed : Type 0 where
  pub entry : CycleEntry
  pub state : Option FastState

-- what a run shows: the frames of a cycle, the calls of each client, by the number of its track, the turns of the normal mixer, the entries of the fast mixer, and the frames written
pub record Shown : Type 0 where
  pub frames : ℕ
  pub calls : List (List ClientCall)
  pub turns : List Turn
  pub entries : List EntryUsed
  pub written : List Frame

-- a run of so many frames a cycle and so many tracks before its first round
abbrev pub nothing_shown : ℕ → ℕ → Shown
nothing_shown frames tracks = record { frames = frames; calls = replicate tracks []; turns = []; entries = []; written = [] }

-- the calls of the client of track i
abbrev pub calls_of : Shown → ℕ → List ClientCall
calls_of run i = slice_index_or run.calls i []

-- a run goes on: by calls of a client, by a turn, by an entry, by frames written
abbrev pub with_calls : Shown → ℕ → List ClientCall → Shown
with_calls run i calls = record run { calls = slice_set run.calls i (calls_of run i ++ calls) }

abbrev pub with_turn : Shown → Turn → Shown
with_turn run turn = record run { turns = run.turns ++ turn ∷ [] }

abbrev pub with_entry : Shown → EntryUsed → Shown
with_entry run used = record run { entries = run.entries ++ used ∷ [] }

abbrev pub with_written : Shown → List Frame → Shown
with_written run frames = record run { written = run.written ++ frames }

-- ## Looks

-- a look at the stream block of a track
pub record Look : Type 0 where
  pub track : ℕ
  pub seen : Seen

-- the look of a slot, if it is of the mask: the state used names its track
abbrev pub slot_looks : CycleEntry → FastState → ℕ → List Look
slot_looks entry x k = if carries x k then record { track = (slot_of x k).track; seen = (entry_slot entry k).seen } ∷ [] else []

-- the looks of an entry: none if it used no state
unfoldable pub looks_by : CycleEntry → Option FastState → List Look
looks_by entry None = []
looks_by entry (Some x) = flat_map (slot_looks entry x) (range_with_len 0 slots)

abbrev pub entry_looks : EntryUsed → List Look
entry_looks used = looks_by used.entry used.state

-- the looks of a turn
abbrev pub take_look : TakeSeen → Look
take_look t = record { track = t.track; seen = t.slot.seen }

abbrev pub turn_looks : Turn → List Look
turn_looks turn = map take_look turn.mixes

-- how many frames a look discarded, by a flush that it noticed
abbrev pub count_flushed : Seen → ℕ
count_flushed (Flushed dropped) = dropped
count_flushed _ = 0

-- ## Taken

-- the frames of track i that a look took
abbrev pub taken_by_look : ℕ → Look → ℕ
taken_by_look i look = if look.track == i then count_seen look.seen else 0

-- the frames of track i that some looks took, an entry, and a turn
abbrev pub taken_in : ℕ → List Look → ℕ
taken_in i looks = sum_by (taken_by_look i) looks

abbrev pub taken_by_entry : ℕ → EntryUsed → ℕ
taken_by_entry i used = taken_in i (entry_looks used)

abbrev pub taken_by_turn : ℕ → Turn → ℕ
taken_by_turn i turn = taken_in i (turn_looks turn)

-- the frames of track i that were taken in all
abbrev pub taken_in_all : Shown → ℕ → ℕ
taken_in_all run i = sum_by (taken_by_entry i) run.entries + sum_by (taken_by_turn i) run.turns

-- ## Dropped

-- the frames of track i that a look discarded
abbrev pub dropped_by_look : ℕ → Look → ℕ
dropped_by_look i look = if look.track == i then count_flushed look.seen else 0

-- the frames of track i that some looks discarded, an entry, and a turn
abbrev pub dropped_in : ℕ → List Look → ℕ
dropped_in i looks = sum_by (dropped_by_look i) looks

abbrev pub dropped_by_entry : ℕ → EntryUsed → ℕ
dropped_by_entry i used = dropped_in i (entry_looks used)

abbrev pub dropped_by_turn : ℕ → Turn → ℕ
dropped_by_turn i turn = dropped_in i (turn_looks turn)

-- the frames of track i that were discarded in all
abbrev pub dropped_of : Shown → ℕ → ℕ
dropped_of run i = sum_by (dropped_by_entry i) run.entries + sum_by (dropped_by_turn i) run.turns

-- ## Lawful tracks

abbrev pub is_poke : ClientCall → Bool
is_poke (Poke command word value) = true
is_poke _ = false

-- a track is lawful if no poke was performed on either of its blocks
abbrev pub has_no_poke : List ClientCall → Bool
has_no_poke calls = list_all (λ call. not (is_poke call)) calls

abbrev pub is_lawful_shown : Shown → ℕ → Bool
is_lawful_shown run i = has_no_poke (calls_of run i)

-- ## The summary

-- how many frames of track i count as mixed, as dropped, and, of those that its client released, as queued: none if the track isn't lawful
abbrev pub mixed_of : Shown → ℕ → ℕ
mixed_of run i = if is_lawful_shown run i then taken_in_all run i else 0

abbrev pub discarded_of : Shown → ℕ → ℕ
discarded_of run i = if is_lawful_shown run i then dropped_of run i else 0

abbrev pub queued_of : Shown → List ℕ → ℕ → ℕ
queued_of run released i = if is_lawful_shown run i then slice_index released i - (taken_in_all run i + dropped_of run i) else 0

-- a number of each track, in all
abbrev pub in_all : ℕ → (ℕ → ℕ) → ℕ
in_all tracks number = sum (map number (range_with_len 0 tracks))

-- how many entries are mixes
abbrev pub mixed_cycles : Shown → ℕ
mixed_cycles run = count_by (λ used. is_mixed used.entry.cycle) run.entries

-- the summary of a run whose clients released so many frames each
abbrev pub summary_of : Shown → List ℕ → Summary
summary_of run released =
    let tracks = length run.calls in
    record {
      cycles = mixed_cycles run;
      mixed = in_all tracks (mixed_of run);
      dropped = in_all tracks (discarded_of run);
      queued = in_all tracks (queued_of run released);
      peak = peak_of run.written;
    }

-- the line of a summary, without its end
abbrev pub summary_text : Summary → List ℕ
summary_text s =
    codes "cycles " ++ (decimal s.cycles ++ (codes " mixed " ++ (decimal s.mixed ++ (codes " dropped " ++ (decimal s.dropped
    ++ (codes " queued " ++ (decimal s.queued ++ (codes " peak " ++ decimal s.peak))))))))
