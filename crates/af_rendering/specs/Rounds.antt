-- What a loop of rounds asks of its callers, by what is so between two rounds.
use Rattle.std.specs.Prelude.{◌≡◌, Bool, true, false, Result, OnOk}
use Rattle.af_base.specs.declared.want.Memory.{Memory}
use Rattle.af_session.specs.Rooms.{KeepsRoom, KeepsSizes, KeepsSound}
use Rattle.af_session.specs.Together.{SessionState}
use Rattle.af_session.specs.declared.room.Room.{Room}
use Rattle.af_tally.specs.Tallies.{Tallied}

-- between two rounds it may be asked whether one more is to be played, and the answer says which
abbrev pub Asks : (between : Tallied → Type 0) (going over pre : Type 0) (post : Bool → Type 0) → Type 0
Asks between going over pre post = (tally : Tallied) → between tally → pre × ((answer : Bool) → post answer → (answer ≡ true → going) × (answer ≡ false → over))

-- A round was played from s to s'. Its bytes wait behind those that waited, and are the sound that came. If it was kept, fewer rounds are left
pub record RoundPlayed (stands : Tallied → Type 0) (comes lessens : Type 0) (s s' : SessionState) (r r' : Room) (answer : Result (Unit {0}) Memory) : Type 0 where
  pub between : OnOk answer (stands r'.tally)
  pub fewer : OnOk answer lessens
  pub came : comes
  pub sizes : KeepsSizes s.fast s'.fast
  pub room : KeepsRoom r r'
  pub sound : KeepsSound s.fast s'.fast r.bytes.items r'.bytes.items
