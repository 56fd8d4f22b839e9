-- How returning proxies come home.
use Rattle.std.specs.Prelude.{◌≡◌, ℕ, zero, suc, ◌<◌, ◌≤◌, ◌&&◌, not, true, List, is_some, MatchBool, MatchOption, slice_set, Some, None}
use Rattle.af_base.specs.Log.{slots}
use Rattle.af_server.specs.Order.{ServerState}
use Rattle.af_stateq.specs.Mutates.{Mutates, at, is_out}
use Rattle.af_link.specs.declared.names.StreamNames.{StreamNames}
use Rattle.af_life.specs.declared.kept.Holder.TheVariants.{Home}
use Rattle.af_life.specs.declared.kept.TrackKept.{TrackKept}
use Rattle.af_life.specs.Kept.{is_returning, slot_number, track_at}
use Rattle.af_normal.specs.State.{NormalState}

-- the item of a slot is taken back, if it is in hand
abbrev pub takes_back : ℕ → Mutates ServerState StreamNames → Mutates ServerState StreamNames
takes_back slot m = record m { returned = slice_set m.returned slot None; out = slice_set m.out slot (is_out m.out slot && not (is_some (at m.returned slot))) }

-- the track i has its proxy again
abbrev pub has_back : ℕ → ServerState → NormalState → NormalState
has_back i server x = record x { tracks = slice_set x.tracks i (record (track_at x.tracks i) { holder = Home }); streams = slice_set x.streams i (Some server) }

-- the proxy of the track i comes home, if it is returning and in hand
abbrev pub Welcomes : ℕ → NormalState → NormalState → Type 0
Welcomes i x y = let s = track_at x.tracks i in let z = record x { mutator = takes_back (slot_number s) x.mutator } in
    MatchBool (is_returning s.holder) (MatchOption (at x.mutator.returned (slot_number s)) (y ≡ z) (λ server. y ≡ has_back i server z)) (y ≡ x)

-- the proxies of the first tracks come home, if they are returning and in hand
abbrev pub WelcomesTo : ℕ → NormalState → NormalState → Type 0
WelcomesTo zero x y = y ≡ x
WelcomesTo (suc i) x y = (z : NormalState) × WelcomesTo i x z × Welcomes i z y

-- each returning track has a slot
abbrev pub HaveSlots : List TrackKept → Type 0
HaveSlots tracks = (i : ℕ) → is_returning (track_at tracks i).holder ≡ true → (1 ≤ slot_number (track_at tracks i)) × (slot_number (track_at tracks i) < slots)
