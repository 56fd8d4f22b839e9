-- What a server's events take of the frames released, and what a block must have for it.
use Rattle.std.proofs.Common.{◌≡◌, ℕ, ◌+◌, ◌-◌, ◌≤◌, List, [], ◌∷◌, ◌++◌, take, drop, length}
use Rattle.af_one_turn_run.proofs.Common.{ServerEvent, TrackPoint, taken_of, after_server, BlockTold}
use Rattle.af_base.specs.declared.event.ServerEvent.TheVariants as server

-- what an event takes of these frames
abbrev pub takes_at : List ℕ → ℕ → TrackPoint → ServerEvent → List ℕ
takes_at frames base p (server.Take count) = take count (drop (p.consumed - base) frames)
takes_at frames base p _ = []

-- what some events take of these frames
abbrev pub taken_by : List ℕ → ℕ → TrackPoint → List ServerEvent → List ℕ
taken_by frames base p [] = []
taken_by frames base p (e ∷ es) = takes_at frames base p e ++ taken_by frames base (after_server p e) es

-- the frames that a block tells as taken are those of these frames that its takes cover
abbrev pub IsTakenOf : List ℕ → BlockTold → Type 0
IsTakenOf frames b = taken_of frames b.shape b.told ≡ b.taken

-- no position lies before the base
pub record IsFrom (base : ℕ) (p : TrackPoint) : Type 0 where
  pub released : base ≤ p.released
  pub consumed : base ≤ p.consumed
  pub rear_seen : base ≤ p.rear_seen

-- a point of a block of which so many frames are there, or more
pub record HasFrames (frames : List ℕ) (base : ℕ) (p : TrackPoint) : Type 0 where
  pub places : IsFrom base p
  pub within : p.released ≤ base + length frames
