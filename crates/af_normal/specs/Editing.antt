-- How the tracks and the draft are edited.
use Rattle.std.specs.Prelude.{◌≡◌, ℕ, true, slice_set, Some, None}
use Rattle.af_model.specs.Draft.{attached, detached}
use Rattle.af_server.specs.Order.{ServerState}
use Rattle.af_server.specs.Slot.{listed}
use Rattle.af_stateq.specs.Mutates.{Mutates, at}
use Rattle.af_link.specs.declared.names.StreamNames.{StreamNames}
use Rattle.af_life.specs.declared.kept.Holder.TheVariants.{Returning}
use Rattle.af_life.specs.Kept.{slot_number, setting_of, track_at}
use Rattle.af_life.specs.Heard.{known_by}
use Rattle.af_life.specs.Edits.{lent_by}
use Rattle.af_normal.specs.Mixing.{stream_at}
use Rattle.af_normal.specs.State.{NormalState, setup_of}

-- a slot leaves the draft
abbrev pub lets_go : ℕ → Mutates ServerState StreamNames → Mutates ServerState StreamNames
lets_go slot m = record m { draft = detached slot m.draft; edited = true; pending = slice_set m.pending slot None; returned = slice_set m.returned slot (at m.pending slot) }

-- a slot of the draft gets the track i with its proxy
abbrev pub lends : NormalState → ℕ → ℕ → ServerState → Mutates ServerState StreamNames
lends x i slot server = record x.mutator {
  draft = attached slot (setting_of (setup_of x) i).mono (setting_of (setup_of x) i).scale i x.mutator.draft;
  edited = true;
  pending = slice_set x.mutator.pending slot (Some server);
  out = slice_set x.mutator.out slot true;
}

-- the track i is detached
abbrev pub LetsGo : ℕ → NormalState → NormalState → Type 0
LetsGo i x y = let s = track_at x.tracks i in
    y ≡ record x { tracks = slice_set x.tracks i (record s { holder = Returning }); mutator = lets_go (slot_number s) x.mutator }

-- the track i is attached, with its proxy, which was home
abbrev pub Lends : ℕ → NormalState → NormalState → Type 0
Lends i x y = (server : ServerState) × (stream_at x.streams i ≡ Some server)
    × (let s = track_at x.tracks i in let m = lends x i (slot_number s) server in
    y ≡ record x { tracks = slice_set x.tracks i (lent_by m.draft (known_by (listed server)) s); streams = slice_set x.streams i None; mutator = m })
