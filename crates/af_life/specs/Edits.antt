-- How a turn edits the draft and pushes it.
use Rattle.std.specs.Prelude.{◌≡◌, ℕ, zero, suc, ◌+◌, ◌-◌, ◌<◌, ◌==◌, ◌&&◌, ◌||◌, not, Bool, true, false, if◌then◌else◌, is_some, length, map, List, slice_set}
use Rattle.std.specs.List.{list_any, list_all}
use Rattle.af_base.specs.declared.state.Command.{Command}
use Rattle.af_base.specs.declared.state.Command.TheVariants.{ColdIdle, Exit, MixWrite}
use Rattle.af_base.specs.declared.state.FastState.{FastState}
use Rattle.af_base.specs.declared.state.Push.{Push}
use Rattle.af_base.specs.declared.state.Push.TheVariants.{Pushed, Clean, Busy}
use Rattle.af_base.specs.Command.{code_of}
use Rattle.af_model.specs.Draft.{attached, detached, draft_commanded as with_command}
use Rattle.af_model.specs.StateQueue.{slot_of, carries, word}
use Rattle.af_life.specs.declared.kept.Heard.{Heard}
use Rattle.af_life.specs.declared.kept.Holder.TheVariants.{Home, Lent, Returning}
use Rattle.af_life.specs.declared.kept.TrackKept.{TrackKept}
use Rattle.af_life.specs.Kept.{Setup, pipe_size, setting_of, NormalKept, track_at, Learnt, plays, is_home, is_lent, is_returning, slot_number, no_counts}

-- ## What comes home

-- a returning proxy comes home if the last state pushed no longer has it, once that is acknowledged
abbrev pub comes_home : FastState → TrackKept → Bool
comes_home last s = is_returning s.holder && not (carries last (slot_number s))

unfoldable pub welcomed : FastState → TrackKept → TrackKept
welcomed last s = if comes_home last s then record s { holder = Home } else s

-- if the last push was seen acknowledged, all proxies come home that come by it
abbrev pub after_ack : Bool → NormalKept → NormalKept
after_ack ack m = if ack then record m { tracks = map (welcomed m.last) m.tracks } else m

-- ## The edits

abbrev pub commands_exit : FastState → Bool
commands_exit x = code_of x.command == code_of Exit

-- the track is lent and not to be heard
abbrev pub must_leave : TrackKept → Bool
must_leave s = is_lent s.holder && not (plays s.life)

-- the track's proxy is home, it has a slot and is to be heard
abbrev pub must_enter : TrackKept → Bool
must_enter s = is_home s.holder && (is_some s.slot && plays s.life)

-- the mixer with another track i and another draft, which is to be pushed
abbrev pub with_edit : ℕ → TrackKept → FastState → NormalKept → NormalKept
with_edit i s draft m = record m { tracks = slice_set m.tracks i s; draft = draft; dirty = true }

-- the track i is detached
unfoldable pub let_go : ℕ → NormalKept → NormalKept
let_go i m = let s = track_at m.tracks i in with_edit i (record s { holder = Returning }) (detached (slot_number s) m.draft) m

-- the draft with the track i in its slot
abbrev pub entered : Setup → ℕ → NormalKept → FastState
entered c i m = attached (slot_number (track_at m.tracks i)) (setting_of c i).mono (setting_of c i).scale i m.draft

-- a track is lent by a draft: from here on it is known by the reports of its slot's new generation
abbrev pub lent_by : FastState → Heard → TrackKept → TrackKept
lent_by draft own s = record s { holder = Lent; generation = (slot_of draft (slot_number s)).generation; at_attach = own; reported = no_counts }

-- the track i is attached
unfoldable pub lend : Setup → ℕ → Heard → NormalKept → NormalKept
lend c i own m = with_edit i (lent_by (entered c i m) own (track_at m.tracks i)) (entered c i m) m

-- the track i is attached or detached, if that is due
unfoldable pub edited : Setup → Learnt → ℕ → NormalKept → NormalKept
edited c k i m =
    if must_leave (track_at m.tracks i) then let_go i m
    else if must_enter (track_at m.tracks i) then lend c i (k.own i) m
    else m

-- the first tracks were edited
abbrev pub edited_to : Setup → Learnt → NormalKept → ℕ → NormalKept
edited_to c k m zero = m
edited_to c k m (suc i) = edited c k i (edited_to c k m i)

-- ## The command

-- every life has ended and every proxy is home
abbrev pub is_over : List TrackKept → Bool
is_over tracks = list_all (λ s. s.life.ended && is_home s.holder) tracks

-- the command of the draft: an Exit stays, and comes if all is over and the pipe of this size has all its room; a mix if a track is to be heard or frames are in the pipe
unfoldable pub next_command : (exits : Bool) → List TrackKept → (room size : ℕ) → Command
next_command exits tracks room size =
    if exits || (is_over tracks && (room == size)) then Exit
    else if list_any (λ s. plays s.life) tracks || not (room == size) then MixWrite
    else ColdIdle

-- the draft is to be pushed if its command changes
unfoldable pub ordered : Command → NormalKept → NormalKept
ordered command m = if code_of command == code_of m.draft.command then m else record m { draft = with_command command m.draft; dirty = true }

-- the command follows from the tracks and the draft that the edits left
abbrev pub commanded_by : Setup → ℕ → NormalKept → NormalKept
commanded_by c room m = ordered (next_command (commands_exit m.draft) m.tracks room (pipe_size c)) m

-- all edits of a turn
unfoldable pub mutated : Setup → Learnt → ℕ → NormalKept → NormalKept
mutated c k room m = commanded_by c room (edited_to c k m (length m.tracks))

-- ## The push

-- the mixer after a push that answered so
abbrev pub after_push : Push → NormalKept → NormalKept
after_push (Pushed number) m = record m { dirty = false; pushed = m.pushed + 1; last = m.draft }
after_push Clean m = m
after_push (Busy seen expected) m = m

-- the answer that a push may give: the next number, or Busy if a push stands and the word of the state before it was seen
abbrev pub LegalPush : NormalKept → Push → Type 0
LegalPush m Clean = m.dirty ≡ false
LegalPush m (Pushed number) = (m.dirty ≡ true) × (number ≡ m.pushed + 1)
LegalPush m (Busy seen expected) = (m.dirty ≡ true) × (0 < m.pushed) × (expected ≡ word m.pushed) × (seen ≡ word (m.pushed - 1))
