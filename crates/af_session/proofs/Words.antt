-- Words that lemmas alone speak of.
use Rattle.std.specs.Prelude.{ℕ, List}
use Rattle.af_cblk.specs.Sides.{Made}
use Rattle.af_engine.specs.NewTracks.{IsTrackAt as IsAt}
use Rattle.af_normal.specs.Making.{TrackList}
use Rattle.af_script.specs.declared.track.TrackSpec.{TrackSpec}
use Rattle.af_party.specs.Parties.{PartyState}
use Rattle.af_session.specs.NewTracks.{IsNewTrack}

-- in each list the track of a place has its part at that place
abbrev pub IsTrackAt : ℕ → ℕ → List TrackSpec → List Made → List Made → List PartyState → TrackList → Type 0
IsTrackAt version place specs streams commands clients tracks = IsAt (IsNewTrack version) place specs streams commands clients tracks
