-- What the edits of a draft do to it.
use Rattle.std.specs.Prelude.{ℕ, ◌+◌, ◌-◌, ◌^◌, ◌==◌, ◌&&◌, not, if◌then◌else◌, Bool, false, ◌∷◌, replicate, slice_set, bit_and, bit_or}
use Rattle.af_base.specs.declared.state.FastState.{FastState}
use Rattle.af_base.specs.declared.state.Command.{Command}
use Rattle.af_base.specs.declared.state.Command.TheVariants.{ColdIdle}
use Rattle.af_base.specs.Command.{code_of}
use Rattle.af_model.specs.StateQueue.{slots, no_fast_track, slot_of}

-- the state before any edit: the submix alone is active, at the scale 1
abbrev pub initial : ℕ → FastState
initial frames =
    record { slots = record { generation = 0; track = 0; mono = false; scale = 4096 } ∷ replicate (slots - 1) no_fast_track; mask = 1; tracks_gen = 0; frames = frames; command = ColdIdle; cold_gen = 0 }

-- a slot is attached: it is active with its new track, its generation rises, and the tracks have changed once more
abbrev pub attached : ℕ → Bool → ℕ → ℕ → FastState → FastState
attached slot mono scale track x = record x {
  slots = slice_set x.slots slot (record { generation = (slot_of x slot).generation + 1; track = track; mono = mono; scale = scale });
  mask = bit_or x.mask (2 ^ slot);
  tracks_gen = x.tracks_gen + 1;
}

-- a slot is detached: it is not active, keeps its track and generation, and the tracks have changed once more
abbrev pub detached : ℕ → FastState → FastState
detached slot x = record x { mask = bit_and x.mask (2 ^ 32 - 1 - 2 ^ slot); tracks_gen = x.tracks_gen + 1 }

-- a command is set: a change to ColdIdle counts
abbrev pub draft_commanded : Command → FastState → FastState
draft_commanded c x = record x { command = c; cold_gen = (if (code_of c == code_of ColdIdle) && not (code_of x.command == code_of ColdIdle) then x.cold_gen + 1 else x.cold_gen) }
