-- How many cycles are enough for `play` to end.
use Rattle.std.specs.Prelude.{◌≡◌, ℕ, ◌+◌, ◌*◌, ◌≤◌, min, max, nat_lt, ◌&&◌, Bool, true, false, List, [], ◌∷◌}
use Rattle.std.specs.Int.{div_ceil}
use Rattle.std.specs.List.{list_all, sum_by}
use Rattle.af_script.specs.Data.{ScriptData}
use Rattle.af_script.specs.declared.op.Op.{Op}
use Rattle.af_script.specs.declared.op.Op.TheVariants.{OpenTrack, Start, Gain, Write, Stop, Drain, Remove}
use Rattle.af_script.specs.declared.track.TrackSpec.{TrackSpec}

-- the most gains that stand directly one after another
abbrev pub most_gains : ℕ
most_gains = 1024

-- the ops that end a track: a stop, a drain and a removal
abbrev pub is_ending : List Op → Bool
is_ending (Stop ∷ Drain ∷ Remove ∷ []) = true
is_ending _ = false

-- gains and writes, and then the end, if so many gains stand directly before
abbrev pub way_goes_on : ℕ → List Op → Bool
way_goes_on gains (Gain left right ∷ ops) = nat_lt gains most_gains && way_goes_on (gains + 1) ops
way_goes_on gains (Write count ∷ ops) = way_goes_on 0 ops
way_goes_on gains ops = is_ending ops

-- ops that play through: the track is opened and started, and goes on to its end
abbrev pub play_through : List Op → Bool
play_through (OpenTrack ∷ Start ∷ ops) = way_goes_on 0 ops
play_through _ = false

-- the portion of a track: the lesser of its buffer and a buffer of the normal mixer, in frames
abbrev pub portion : ScriptData → TrackSpec → ℕ
portion script track = min track.frames (script.normal * script.frames)

-- the cost of an op in rounds: eight, but for a write four, and four more for each portion that it has
abbrev pub op_cost : ℕ → Op → ℕ
op_cost q (Write count) = 4 + 4 * div_ceil count q
op_cost q _ = 8

-- the cost of a track in rounds: that of its ops, and two for each portion of its buffer, which the drain may find full
abbrev pub track_cost : ScriptData → TrackSpec → ℕ
track_cost script track = let q = portion script track in sum_by (op_cost q) track.ops + 2 * div_ceil track.frames q

-- the greatest cost of some tracks
abbrev pub greatest_cost : ScriptData → List TrackSpec → ℕ
greatest_cost script [] = 0
greatest_cost script (track ∷ tracks) = max (track_cost script track) (greatest_cost script tracks)

-- the rounds that are enough, with sixteen cycles each
abbrev pub enough_rounds : ScriptData → ℕ
enough_rounds script = 16 + greatest_cost script script.tracks

-- each track plays through
abbrev pub all_play_through : ScriptData → Bool
all_play_through script = list_all (λ track. play_through track.ops) script.tracks

-- a script whose tracks play through, with enough cycles
pub record HasEnoughCycles (script : ScriptData) : Type 0 where
  pub form : all_play_through script ≡ true
  pub enough : 16 * enough_rounds script ≤ script.cycles
