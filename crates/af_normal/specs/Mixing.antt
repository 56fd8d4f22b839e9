-- What the normal mixer does with the tracks that have no slot: each is looked at for one buffer, and what it shows is taken.
use Rattle.std.specs.Prelude.{◌≡◌, ℕ, zero, suc, ◌≤◌, MatchBool, List, [], ◌∷◌, ◌++◌, length, map, slice_set, slice_index_or, Option, Some, None}
use Rattle.af_base.specs.Log.{count_seen}
use Rattle.af_base.specs.Sample.{packed_word}
use Rattle.af_base.specs.Turn.{TakeSeen}
use Rattle.af_model.specs.Cycles.{LooksBy, cycle_events}
use Rattle.af_server.specs.Order.{ServerState}
use Rattle.af_server.specs.Slot.{listed}
use Rattle.af_life.specs.declared.kept.TrackKept.{TrackKept}
use Rattle.af_life.specs.Kept.{track_at}
use Rattle.af_life.specs.Plays.{is_mixed_here, after_take}

-- the stream proxy of the track i, if it is home
abbrev pub stream_at : List (Option ServerState) → ℕ → Option ServerState
stream_at streams i = slice_index_or streams i None

-- A take of the track i by its server: the look answers by the server's list and some front, all frames shown are taken, and the list grows by that
pub record TakesOnce (asked i : ℕ) (s : ServerState) (take : TakeSeen) (t : ServerState) : Type 0 where
  pub front : ℕ
  pub track : take.track ≡ i
  pub looks : LooksBy asked (listed s) take.slot front
  pub place : take.slot.first ≡ 0
  pub count : length take.frames ≡ count_seen take.slot.seen
  pub within : length take.frames ≤ asked
  pub list : t.pass.part.events ≡ s.pass.part.events ++ cycle_events asked (listed s) take.slot front
  pub took : t.pass.part.frames ≡ s.pass.part.frames ++ map packed_word take.frames
  pub shape : t.pass.part.shape ≡ s.pass.part.shape

-- the tracks, the stream proxies that are home, and what was taken so far
pub record Mixing : Type 0 where
  pub tracks : List TrackKept
  pub streams : List (Option ServerState)
  pub takes : List TakeSeen

-- the server s of the track i takes once, and is t then
pub record TakesOf (asked i : ℕ) (x y : Mixing) : Type 0 where
  pub before : ServerState
  pub after : ServerState
  pub take : TakeSeen
  pub is_home : stream_at x.streams i ≡ Some before
  pub takes : TakesOnce asked i before take after
  pub then : y ≡ record { tracks = after_take asked x.tracks take; streams = slice_set x.streams i (Some after); takes = x.takes ++ take ∷ [] }

-- the track i is mixed if it is due, and else passed over
abbrev pub MixesTrack : ℕ → ℕ → Mixing → Mixing → Type 0
MixesTrack asked i x y = MatchBool (is_mixed_here (track_at x.tracks i)) (TakesOf asked i x y) (y ≡ x)

-- the first tracks are mixed if they are due, and else passed over
abbrev pub MixesTo : ℕ → ℕ → Mixing → Mixing → Type 0
MixesTo asked zero x y = y ≡ x
MixesTo asked (suc i) x y = (z : Mixing) × MixesTo asked i x z × MixesTrack asked i z y
