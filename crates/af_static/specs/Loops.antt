-- A buffer that is played in loops, frame by frame.
use Rattle.std.specs.Prelude.{ℕ, zero, suc, ◌+◌, ◌-◌, ◌*◌, ◌<◌, ◌≤◌, min, Bool, false, not, ◌&&◌, ◌==◌, nat_lt, nat_le, if◌then◌else◌, List, [], ◌∷◌, length, Option, Some, None}
use Rattle.af_base.specs.declared.frame.Frame.{Frame}
use Rattle.af_base.specs.Mix.{Take, frame_at, mix}
use Rattle.af_static.specs.declared.setting.Setting.{Setting}
use Rattle.af_static.specs.declared.head.Head.{Head}

-- the content of the cell before any setting was made: from the first frame to the last, with no loop
abbrev pub opening : Setting
opening = record { number = 0; start = 0; end = 0; count = 0 }

-- before any call the head is at the first frame, and there is no loop
abbrev pub at_first : Head
at_first = record { position = 0; start = 0; end = 0; left = 0 }

-- whether a buffer of n frames has what is set: its start, if there are no jumps, or else a loop of at least 16 frames
abbrev pub is_valid : ℕ → Setting → Bool
is_valid n s = if s.count == 0 then nat_le s.start n else nat_le (s.start + 16) s.end && nat_le s.end n

-- the three numbers of a setting that shuts the player
abbrev pub shut_by : ℕ → Setting → Option (ℕ × ℕ × ℕ)
shut_by n s = if is_valid n s then None else Some (s.start, s.end, s.count)

-- the head under a new setting: a position that lies in the new loop is kept
abbrev pub adopted : Setting → Head → Head
adopted s h = if s.count == 0
    then record { position = s.start; start = 0; end = 0; left = 0 }
    else record { position = (if nat_le s.start h.position && nat_lt h.position s.end then h.position else s.start); start = s.start; end = s.end; left = s.count }

-- the head when a call has seen a setting, by the one that the last call saw: only a new one that is valid changes it
abbrev pub head_heard : ℕ → Setting → Head → Setting → Head
head_heard n last h s = if is_valid n s && not (s.number == last.number) then adopted s h else h

-- one jump is spent, unless the jumps have no end: this is what the count 4294967295 means
abbrev pub spent : ℕ → ℕ
spent left = if left == 4294967295 then left else left - 1

-- at the end of a loop with jumps left the head goes to its start
abbrev pub jumped : Head → Head
jumped h = if not (h.left == 0) && h.position == h.end then record { position = h.start; start = h.start; end = h.end; left = spent h.left } else h

-- how many frames come in the longest row: to the end of the loop, or else of the buffer, and no more than there are places
abbrev pub longest_row : ℕ → Head → ℕ → ℕ
longest_row n h places = min places ((if h.left == 0 then n else h.end) - h.position)

-- the head so many frames on, all of them in one row
abbrev pub moved : Head → ℕ → Head
moved h run = jumped (record { position = h.position + run; start = h.start; end = h.end; left = h.left })

-- one step: the head moves by one frame, and stays at the end of the buffer
abbrev pub step : ℕ → Head → Head
step n h = if nat_lt h.position n then moved h 1 else h

-- the frames of so many steps: one at each position, and none at the end of the buffer
abbrev pub loop_frames : List Frame → Head → ℕ → List Frame
loop_frames frames h zero = []
loop_frames frames h (suc steps) = if nat_lt h.position (length frames) then frame_at frames h.position ∷ loop_frames frames (step (length frames) h) steps else []

-- the head after so many steps
abbrev pub head_moved : ℕ → Head → ℕ → Head
head_moved n h zero = h
head_moved n h (suc steps) = head_moved n (step n h) steps

-- what a call of so many places takes under a setting: nothing if it is invalid
abbrev pub taken : List Frame → Setting → Head → ℕ → List Frame
taken frames s h places = if is_valid (length frames) s then loop_frames frames h places else []

-- the head that a call leaves
abbrev pub head_after : ℕ → Setting → Head → ℕ → Head
head_after n s h places = if is_valid n s then head_moved n h places else h

-- frames as one take at some gains and at scale 4096
abbrev pub take_at : ℕ × ℕ → List Frame → Take
take_at gains frames = record { frames = frames; mono = false; gains = gains.0 + 65536 * gains.1; scale = 4096 }

-- what is heard of frames that were taken, with silence behind them
abbrev pub output : ℕ × ℕ → List Frame → ℕ → List Frame
output gains frames places = mix (take_at gains frames ∷ []) places

-- the head is in the buffer, and if jumps are left in the loop, which is in the buffer
pub record IsSound (n : ℕ) (h : Head) : Type 0 where
  pub inside : h.position ≤ n
  pub looped : 0 < h.left → (h.start < h.end) × (h.position < h.end) × (h.end ≤ n)

-- so many frames come in a row: neither the end of the buffer nor that of a loop is among them
pub record IsRow (n : ℕ) (h : Head) (run : ℕ) : Type 0 where
  pub inside : h.position + run ≤ n
  pub looped : 0 < h.left → h.position + run ≤ h.end
