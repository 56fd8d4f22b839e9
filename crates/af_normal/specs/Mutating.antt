-- How a turn edits the draft as one mutation, and pushes it.
use Rattle.std.specs.Prelude.{◌≡◌, ℕ, zero, suc, ◌<◌, ◌≤◌, ◌^◌, ◌==◌, ◌||◌, true, false, if◌then◌else◌, MatchBool, length, Some}
use Rattle.af_base.specs.declared.state.Command.{Command}
use Rattle.af_base.specs.declared.state.Push.{Push}
use Rattle.af_base.specs.declared.state.FastState.{FastState}
use Rattle.af_base.specs.Command.{code_of}
use Rattle.af_base.specs.Log.{slots}
use Rattle.af_model.specs.Draft.{draft_commanded as with_command}
use Rattle.af_model.specs.StateQueue.{slot_of, carries}
use Rattle.af_server.specs.Order.{ServerState, IsInOrder}
use Rattle.af_stateq.specs.Answers.{WasPushed}
use Rattle.af_stateq.specs.Mutates.{Mutates, is_out}
use Rattle.af_link.specs.Names.{IsStreamOf}
use Rattle.af_link.specs.declared.names.StreamNames.{StreamNames}
use Rattle.af_life.specs.Edits.{must_leave, must_enter, next_command, commands_exit}
use Rattle.af_life.specs.declared.kept.TrackKept.{TrackKept}
use Rattle.af_life.specs.Kept.{pipe_size, setting_of, slot_number, track_at}
use Rattle.af_normal.specs.Editing.{LetsGo, Lends}
use Rattle.af_normal.specs.Mixing.{stream_at}
use Rattle.af_normal.specs.State.{NormalState, setup_of}

-- a slot for tracks
abbrev pub IsSlot : ℕ → Type 0
IsSlot k = (1 ≤ k) × (k < slots)

-- A track may be detached when it is due: the draft carries its slot
pub record MayLeave (s : TrackKept) (draft : FastState) : Type 0 where
  pub slot : IsSlot (slot_number s)
  pub carried : carries draft (slot_number s) ≡ true

-- The track i may be attached when it is due: no item is out at its slot, and its stream proxy is there, in order and of its block
pub record MayEnter (i : ℕ) (x : NormalState) : Type 0 where
  pub slot : IsSlot (slot_number (track_at x.tracks i))
  pub free : is_out x.mutator.out (slot_number (track_at x.tracks i)) ≡ false
  pub stream : ServerState
  pub is_home : stream_at x.streams i ≡ Some stream
  pub in_order : IsInOrder stream
  pub fits : (names : StreamNames) → x.mutator.past.key ≡ Some names → IsStreamOf names.blocks i stream
  pub room : (slot_of x.mutator.draft (slot_number (track_at x.tracks i))).generation < 2 ^ 62

-- the track i may be edited, and counts have room
pub record IsEditable (i : ℕ) (x : NormalState) : Type 0 where
  pub leaves : must_leave (track_at x.tracks i) ≡ true → MayLeave (track_at x.tracks i) x.mutator.draft
  pub enters : must_enter (track_at x.tracks i) ≡ true → MayEnter i x
  pub scale : (setting_of (setup_of x) i).scale ≤ 4096
  pub room : x.mutator.draft.tracks_gen < 2 ^ 62

-- the track i is detached or attached, if that is due
abbrev pub EditsTrack : ℕ → NormalState → NormalState → Type 0
EditsTrack i x y = MatchBool (must_leave (track_at x.tracks i)) (LetsGo i x y)
    (MatchBool (must_enter (track_at x.tracks i)) (Lends i x y) (y ≡ x))

-- the first tracks are detached or attached, if that is due
abbrev pub EditsTo : ℕ → NormalState → NormalState → Type 0
EditsTo zero x y = y ≡ x
EditsTo (suc i) x y = (z : NormalState) × EditsTo i x z × EditsTrack i z y

-- a mutation begins
abbrev pub begun : Mutates ServerState StreamNames → Mutates ServerState StreamNames
begun m = record m { editing = true; edited = false }

-- the draft gets another command, which is an edit
abbrev pub commands : Command → Mutates ServerState StreamNames → Mutates ServerState StreamNames
commands command m = if code_of command == code_of m.draft.command then m else record m { draft = with_command command m.draft; edited = true }

-- the mutation ends: if there was an edit the draft is to be pushed
abbrev pub finished : Mutates ServerState StreamNames → Mutates ServerState StreamNames
finished m = record m { editing = false; edited = false; dirty = m.dirty || m.edited }

-- the command that follows from the tracks, the draft and the room
abbrev pub due_command : ℕ → NormalState → Command
due_command room x = next_command (commands_exit x.mutator.draft) x.tracks room (pipe_size (setup_of x))

-- All edits of a turn: the tracks in order, and then the command
pub record EditsAll (room : ℕ) (x y : NormalState) : Type 0 where
  pub edited : NormalState
  pub tracks : EditsTo (length x.tracks) (record x { mutator = begun x.mutator }) edited
  pub leaves : y ≡ record edited { mutator = finished (commands (due_command room edited) edited.mutator) }

-- the push answers
pub record Pushes (push : Push) (x y : NormalState) : Type 0 where
  pub before : ℕ
  pub after : ℕ
  pub pushed : WasPushed x.mutator push y.mutator before after
  pub same : y ≡ record x { mutator = y.mutator }
