-- How far a call has come.
use Rattle.std.specs.Prelude.{◌≡◌, ℕ, ◌+◌, ◌-◌, ◌<◌, ◌≤◌, List, [], ◌∷◌, length}
use Rattle.af_base.specs.declared.frame.Frame.{Frame}
use Rattle.af_base.specs.Mix.{frame_at, mixed_frame, silence}
use Rattle.af_static.specs.declared.head.Head.{Head}
use Rattle.af_static.specs.Loops.{loop_frames, head_moved, take_at, output}

-- of the frames of a call from a first head on, those before a place are mixed in out, and those from there on are still to come from the head h
pub record IsPlayedTo (at : ℕ) (frames : List Frame) (gains : ℕ × ℕ) (first : Head) (places : ℕ) (h : Head) (out : List Frame) : Type 0 where
  pub inside : at ≤ places
  pub mixed : (k : ℕ) → k < at → frame_at out k ≡ mixed_frame (take_at gains (loop_frames frames first places) ∷ []) k
  pub to_come : (k : ℕ) → frame_at (loop_frames frames first places) (at + k) ≡ frame_at (loop_frames frames h (places - at)) k
  pub count : length (loop_frames frames first places) ≡ at + length (loop_frames frames h (places - at))
  pub head : head_moved (length frames) first places ≡ head_moved (length frames) h (places - at)

-- the frames before a place are as they were, and silence is from there on
pub record IsSilentFrom (at : ℕ) (old new : List Frame) : Type 0 where
  pub before : (k : ℕ) → k < at → frame_at new k ≡ frame_at old k
  pub behind : (k : ℕ) → at ≤ k → k < length new → frame_at new k ≡ silence

-- what a call has done that has no places left, or whose head is at the end of the buffer
pub record IsDone (at : ℕ) (frames : List Frame) (gains : ℕ × ℕ) (first h : Head) (places : ℕ) (new : List Frame) : Type 0 where
  pub out : new ≡ output gains (loop_frames frames first places) places
  pub filled : at ≡ length (loop_frames frames first places)
  pub head : h ≡ head_moved (length frames) first places
  pub short : at < places → length frames ≤ h.position
