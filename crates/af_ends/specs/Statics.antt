-- What contracts see of the two ends of a static buffer, and what their calls come to.
use Rattle.std.specs.Prelude.{◌≡◌, ◌⊎◌, ℕ, ◌+◌, ◌^◌, ◌<◌, ◌≤◌, true, false, Result, Ok, Err, List, [], ◌∷◌, ◌++◌, length}
use Rattle.af_base.specs.declared.frame.Frame.{Frame}
use Rattle.af_latest.specs.Laws.{stores}
use Rattle.af_model.specs.declared.newest.WriterEvent.{WriterEvent}
use Rattle.af_model.specs.declared.newest.WriterEvent.TheVariants as writes
use Rattle.af_model.specs.declared.newest.ReaderEvent.TheVariants as reads
use Rattle.af_static.specs.declared.setting.Setting.{Setting}
use Rattle.af_static.specs.declared.ends.Unrolled.{Unrolled}
use Rattle.af_static.specs.Calls.{Call, HasPlayed}
use Rattle.af_static.specs.Ends as ends
use Rattle.af_static.specs.Loops.{at_first, head_after, head_heard, is_valid, opening, output, shut_by, taken}
use Rattle.af_ends.specs.declared.error.EndError.{EndError}
use Rattle.af_ends.specs.declared.error.EndError.TheVariants.{Argument, Memory, Dead, Corrupt, Limit}

-- the cell of the settings and the frames, and the end that sets
pub record SetterEndState : Type 0 where
  pub shared : ends.Kept
  pub setter : ends.Sets

-- the cell of the settings and the frames, and the end that plays
pub record PlayerEndState : Type 0 where
  pub shared : ends.Kept
  pub player : ends.Plays

-- the two ends of a new static buffer of these frames, which have done nothing
pub record IsOpenedStatic (frames : List Frame) (s : SetterEndState) (p : PlayerEndState) : Type 0 where
  pub together : s.shared ≡ p.shared
  pub frames_are : s.shared.frames ≡ frames
  pub none_set : s.setter.events ≡ []
  pub none_loaded : p.player.events ≡ []
  pub start : (p.player.setting ≡ opening) × (p.player.head ≡ at_first)
  pub played : HasPlayed frames [] [] 0 p.player

-- ## Setting

-- a setting was made of these three numbers, under the next number
pub record HasSet (s : ends.Sets) (start end count number : ℕ) (t : ends.Sets) : Type 0 where
  pub cell : t.cell ≡ s.cell
  pub list : t.events ≡ s.events ++ writes.Store (record { number = number; start = start; end = end; count = count }) ∷ []
  pub number_is : number ≡ stores s.events + 1

-- a call that sets, by its answer
abbrev pub Sets : ends.Sets → (start end count : ℕ) → Result ℕ EndError → ends.Sets → Type 0
Sets s start end count (Ok number) t = (stores s.events < 2 ^ 63) × HasSet s start end count number t
Sets s start end count (Err Limit) t = (2 ^ 63 ≤ stores s.events) × (t ≡ s)
Sets s start end count (Err Argument) t = ⊥
Sets s start end count (Err Memory) t = ⊥
Sets s start end count (Err Dead) t = ⊥
Sets s start end count (Err Corrupt) t = ⊥

-- ## Playing

-- A call of so many places played: it loaded the newest setting, unless an invalid one had shut the player, and went on from the head under that setting
pub record HasMixed (frames : List Frame) (gains : ℕ × ℕ) (p : ends.Plays) (places : ℕ) (out : List Frame) (told : Unrolled) (q : ends.Plays) : Type 0 where
  pub load : is_valid p.size p.setting ≡ true → (n : ℕ) × (q.events ≡ p.events ++ reads.Load n q.setting ∷ [])
  pub shut : is_valid p.size p.setting ≡ false → q ≡ p
  pub out_is : out ≡ output gains (taken frames q.setting (head_heard p.size p.setting p.head q.setting) places) places
  pub head_is : q.head ≡ head_after p.size q.setting (head_heard p.size p.setting p.head q.setting) places
  pub told_is : told ≡ (record { number = q.setting.number; filled = length (taken frames q.setting (head_heard p.size p.setting p.head q.setting) places); shut = shut_by p.size q.setting })
  pub played : (calls : List Call) (played : List Frame) (count : ℕ) → HasPlayed frames calls played count p
      → let call : Call = record { setting = q.setting; gains = gains; places = places } in HasPlayed frames (calls ++ call ∷ []) (played ++ out) (count + told.filled) q

-- a call that plays, by its answer. A refused call leaves all as it was
abbrev pub Plays : List Frame → ℕ × ℕ → ends.Plays → List Frame → Result Unrolled EndError → List Frame → ends.Plays → Type 0
Plays frames gains p out (Ok told) out' q = (1 ≤ length out) × (length out ≤ 1024) × HasMixed frames gains p (length out) out' told q
Plays frames gains p out (Err Argument) out' q = ((length out ≡ 0) ⊎ (1024 < length out)) × (out' ≡ out) × (q ≡ p)
Plays frames gains p out (Err Memory) out' q = ⊥
Plays frames gains p out (Err Dead) out' q = ⊥
Plays frames gains p out (Err Corrupt) out' q = ⊥
Plays frames gains p out (Err Limit) out' q = ⊥

-- ## Closing

-- the ends of a static buffer that were closed
pub record PlayedState : Type 0 where
  pub setter : ends.Sets
  pub player : ends.Plays

-- two ends of a static buffer have met: the end that plays is as it was, and each has learnt the list of the other
abbrev pub StaticHasMet : ends.Plays → PlayedState → Type 0
StaticHasMet before m =
    (events : List (WriterEvent Setting))
    × (m.setter.events ≡ events ++ writes.Learn (length before.events) ∷ [])
    × (m.player ≡ (record before { events = before.events ++ reads.Learn (length events) ∷ [] }))
