-- What is kept of the fast mixer, and what an entry leaves of it and of the tracks.
use Rattle.std.specs.Prelude.{◌≡◌, ℕ, zero, suc, ◌+◌, ◌<◌, ◌≤◌, ◌==◌, ◌&&◌, ◌||◌, ◌-◌, ◌⊎◌, min, Bool, true, false, if◌then◌else◌, List, [], ◌∷◌, ◌++◌, map, length, Some, None, slice_get, slice_set}
use Rattle.std.specs.List.{range_with_len, list_any}
use Rattle.af_base.specs.declared.frame.Frame.{Frame}
use Rattle.af_base.specs.declared.log.CycleEntry.{CycleEntry}
use Rattle.af_base.specs.declared.log.SlotEntry.{SlotEntry}
use Rattle.af_base.specs.declared.report.Report.{Report}
use Rattle.af_base.specs.declared.state.FastState.{FastState}
use Rattle.af_base.specs.Log.{slots, entry_at, entry_slot, frames_taken}
use Rattle.af_base.specs.Sample.{packed_word}
use Rattle.af_life.specs.declared.kept.Heard.{Heard}
use Rattle.af_model.specs.Cycles.{cold_of, cycle_of, is_cold, is_exit, is_mixed, state_of, submix_slot}
use Rattle.af_model.specs.Point.{wrapped}
use Rattle.af_model.specs.Reports.{no_report}
use Rattle.af_model.specs.StateQueue.{carries, slot_of}
use Rattle.af_runs.specs.Fronts.{is_shown}
use Rattle.af_runs.specs.Runs.{most_round_cycles, shows_slot}
use Rattle.af_judge.specs.declared.track_judge.TrackJudge.{TrackJudge}
use Rattle.af_judge.specs.Blocks.{BlockJudged, listed_in, played_told}
use Rattle.af_judge.specs.EntryMarks.{IsMarkedBy}
use Rattle.af_judge.specs.PipeKept.{PipeKept, new_pipe, with_look}
use Rattle.af_judge.specs.QueueNumbers.{QueueKept, poll_steps, queue_begins, with_looks}
use Rattle.af_judge.specs.Reporting.{Telling, entry_added, heard_at, polled_in, state_in, telling_begins, told_at_slot}
use Rattle.af_judge.specs.Servers.{LooksRightly}

-- the fast mixer: what it told, the cold generation performed last, whether it has ended, the reports of the round with the one before it, and the ends of the queue and of the pipe
pub record FastKept : Type 0 where
  pub told : Telling
  pub cold : ℕ
  pub ended : Bool
  pub before : Report
  pub reports : List Report
  pub queue : QueueKept
  pub pipe : PipeKept

-- a state carries a track
abbrev pub carries_track : FastState → ℕ → Bool
carries_track x track = list_any (λ i. carries x i && ((slot_of x i).track == track)) (range_with_len 0 slots)

-- ## The looks

-- the stream block of a track changed
abbrev pub stream_changed : ℕ → (BlockJudged → BlockJudged) → List TrackJudge → List TrackJudge
stream_changed track change tracks = elim (slice_get tracks track) as (λ o. List TrackJudge) [ None ↦ tracks | Some t ↦ slice_set tracks track (record t { stream = change t.stream }) ]

-- a slot that an entry plays, with the frames of the log that it took
abbrev pub slot_played : ℕ → FastState → List Frame → CycleEntry → ℕ → List TrackJudge → List TrackJudge
slot_played asked x frames entry i tracks =
    if shows_slot x entry i then stream_changed (slot_of x i).track (played_told asked (entry_slot entry i) (map packed_word (frames_taken frames (entry_slot entry i)))) tracks
    else tracks

-- the first slots, one after the other
unfoldable pub slots_played : ℕ → FastState → List Frame → CycleEntry → ℕ → List TrackJudge → List TrackJudge
slots_played asked x frames entry zero tracks = tracks
slots_played asked x frames entry (suc i) tracks = slot_played asked x frames entry i (slots_played asked x frames entry i tracks)

-- the look at the stream block of a track answers by the server's list
abbrev pub IsLookRight : ℕ → SlotEntry → ℕ → List TrackJudge → Type 0
IsLookRight asked slot track tracks =
    (t : TrackJudge) → slice_get tracks track ≡ Some t → LooksRightly t.stream.lawful asked (listed_in t.stream) slot

-- if an entry mixes, a slot that its state carries shows something, and its look is right
abbrev pub IsSlotRight : ℕ → FastState → CycleEntry → ℕ → List TrackJudge → Type 0
IsSlotRight asked x entry i tracks =
    is_mixed entry.cycle ≡ true → carries x i ≡ true → (is_shown (entry_slot entry i).seen ≡ true) × IsLookRight asked (entry_slot entry i) (slot_of x i).track tracks

-- each of the first slots is right, after those before it were played
abbrev pub AreSlotsRight : ℕ → FastState → List Frame → CycleEntry → ℕ → List TrackJudge → Type 0
AreSlotsRight asked x frames entry n tracks = (i : ℕ) → i < n → IsSlotRight asked x entry i (slots_played asked x frames entry i tracks)

-- the pipe after an entry
abbrev pub pipe_played : List Frame → CycleEntry → PipeKept → PipeKept
pipe_played frames entry p = let slot = entry_slot entry 0 in if is_mixed entry.cycle then with_look slot.rear slot.seen (frames_taken frames slot) p else p

-- if an entry mixes, its slots are those of its state, and each look is right
pub record IsMixRight (asked : ℕ) (x : FastState) (frames : List Frame) (entry : CycleEntry) (p : PipeKept) (tracks : List TrackJudge) : Type 0 where
  pub marked : is_mixed entry.cycle ≡ true → IsMarkedBy x entry
  pub submix : is_mixed entry.cycle ≡ true → (let slot = entry_slot entry 0 in slot ≡ submix_slot asked (wrapped (length p.taken)) slot.rear slot.first)
  pub tracks_right : AreSlotsRight asked x frames entry slots tracks

-- ## An entry

-- an entry follows what was told: its state is that of the last entry or the next one, and was pushed, the mixer hadn't ended, and the entry is what its state makes it
pub record FollowsTold (f : FastKept) (states : List FastState) (entry : CycleEntry) : Type 0 where
  pub next : (f.told.used ≤ entry.state) × (entry.state ≤ f.told.used + 1)
  pub pushed : entry.state ≤ length states
  pub runs : f.ended ≡ false
  pub what : entry.cycle ≡ cycle_of f.cold (state_of states entry.state)

-- what is heard of the streams of the slots of a state
abbrev pub heard_slots : List TrackJudge → FastState → List Heard
heard_slots tracks x = map (heard_at (map (λ t. t.stream) tracks) x) (range_with_len 0 slots)

-- the normal mixer's draft is now this one
abbrev pub fast_drafted : FastState → FastKept → FastKept
fast_drafted draft f = record f { told = record f.told { draft = draft } }

-- the mixer has polled
abbrev pub fast_polled : List FastState → ℕ → FastKept → FastKept
fast_polled states number f = record f { queue = with_looks (poll_steps f.told.current number) f.queue; told = polled_in states number f.told }

-- the entry is added to what was told
abbrev pub fast_added : List FastState → FastState → List TrackJudge → CycleEntry → FastKept → FastKept
fast_added states x tracks entry f =
    let told = entry_added states (told_at_slot (heard_slots tracks x)) entry f.told in
    record f {
      told = told;
      reports = f.reports ++ told.report ∷ [];
      cold = if is_cold entry.cycle then cold_of (state_of states entry.state) else f.cold;
      ended = f.ended || is_exit entry.cycle;
    }

-- the tracks after an entry
abbrev pub entry_tracks : List FastState → List Frame → CycleEntry → FastKept → List TrackJudge → List TrackJudge
entry_tracks states frames entry f tracks =
    let g = fast_polled states entry.state f in
    slots_played g.told.asked (state_in g.told states entry.state) frames entry slots tracks

-- the mixer after an entry
abbrev pub entry_told : List FastState → List Frame → CycleEntry → List TrackJudge → FastKept → FastKept
entry_told states frames entry tracks f =
    let g = fast_polled states entry.state f in
    fast_added states (state_in g.told states entry.state) (entry_tracks states frames entry f tracks) entry (record g { pipe = pipe_played frames entry g.pipe })

-- an entry is right after what was told
pub record IsEntryRight (states : List FastState) (frames : List Frame) (entry : CycleEntry) (f : FastKept) (tracks : List TrackJudge) : Type 0 where
  pub follows : FollowsTold f states entry
  pub mixes : IsMixRight f.told.asked (state_in (polled_in states entry.state f.told) states entry.state) frames entry f.pipe tracks

-- the fast mixer before the first cycle
abbrev pub fast_begins : (asked size cells : ℕ) → FastKept
fast_begins asked size cells = record { told = telling_begins asked; cold = 0; ended = false; before = no_report; reports = []; queue = queue_begins; pipe = new_pipe size cells }

-- ## The turn

-- the number of the report that a turn finds which loaded this one: none comes behind the first 16 entries of the round
abbrev pub number_found : FastKept → ℕ → ℕ
number_found f number = min number (f.before.cycle + most_round_cycles)

-- A turn of so many entries of a log, from this place on, ends where it may: after so many cycles, or after one that isn't Mixed, or, if `full` says so, since the log is full. Each before the last is Mixed
pub record EndsAsTurn (entries : List CycleEntry) (first count cycles : ℕ) (full : Bool) : Type 0 where
  pub some : 1 ≤ count
  pub within : count ≤ cycles
  pub mixes : (i : ℕ) → i < count - 1 → is_mixed (entry_at entries (first + i)).cycle ≡ true
  pub ends : (full ≡ true) ⊎ (count ≡ cycles) ⊎ (is_mixed (entry_at entries (first + (count - 1))).cycle ≡ false)
