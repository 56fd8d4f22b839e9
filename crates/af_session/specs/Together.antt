-- The parties of a session, and when they belong together.
use Rattle.std.specs.Prelude.{◌≡◌, ℕ, List, length, slice_get, Some}
use Rattle.af_fast.specs.Mixer.{MixerState, IsLinked, IsInOrder as IsFastInOrder}
use Rattle.af_link.specs.declared.links.Links.{Links}
use Rattle.af_normal.specs.Meeting.{AreClientsOf}
use Rattle.af_normal.specs.Order.{IsInOrder as IsNormalInOrder}
use Rattle.af_normal.specs.State.{NormalState}
use Rattle.af_party.specs.Parties.{PartyState}

-- the parties of a session: the clients in order of tracks, the normal mixer and the fast mixer
pub record SessionState : Type 0 where
  pub clients : List PartyState
  pub normal : NormalState
  pub fast : MixerState

-- The mixers are in order over these links, and the client of each track has the proxies of its two blocks, in order
pub record AreTogether (links : Links) (s : SessionState) : Type 0 where
  pub normal : IsNormalInOrder links s.normal
  pub fast : IsFastInOrder s.fast × IsLinked links s.fast
  pub count : length s.clients ≡ length s.normal.tracks
  pub tracks : (i : ℕ) (p : PartyState) → slice_get s.clients i ≡ Some p → p.track ≡ i
  pub clients : (i : ℕ) (p : PartyState) → slice_get s.clients i ≡ Some p → AreClientsOf links i p.stream p.command

-- Over the same links the parties belong together before a turn or a poll, after it, and after the meetings that follow: x, y and z
pub record StayTogether (x y z : SessionState) : Type 0 where
  pub links : Links
  pub before : AreTogether links x
  pub turned : AreTogether links y
  pub met : AreTogether links z
