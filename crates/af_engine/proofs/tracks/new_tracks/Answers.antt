use Rattle.std.proofs.Common.{◌≡◌, ◌+◌, ◌<◌, List, [], ◌∷◌, ◌++◌, length, sym, ap, ◌∙◌, subst}
use Rattle.af_engine.proofs.Common.{AreNewTracks, IsNewTrack, Made, TrackEnds, TrackList, slice_get-get_or, with_track}
use Rattle.af_engine.proofs.MoreTracks.{one_track_more}
use Rattle.af_engine.proofs.tracks.new_tracks.Goals as goal

pub loop-index-preserved : goal.loop-index-preserved
loop-index-preserved c =
    let l = c.loop-index in
    let specs = c.args.specs.now in
    let one = c.in_ok-track in
    let same = c.reserve_one.ensures in
    let added = c.push.ensures in
    let streams : c.push.new.self.streams.items ≡ l.made.streams.items ++ one.track.stream ∷ [] = added.streams ∙ ap (λ (xs : List Made). xs ++ one.track.stream ∷ []) same.blocks.0 in
    let commands : c.push.new.self.commands.items ≡ l.made.commands.items ++ one.track.command ∷ [] = added.commands ∙ ap (λ (xs : List Made). xs ++ one.track.command ∷ []) same.blocks.1 in
    let clients : c.push.new.self.clients.items ≡ l.made.clients.items ++ one.track.ends ∷ [] = added.clients ∙ ap (λ (xs : List TrackEnds). xs ++ one.track.ends ∷ []) same.parties.0 in
    let tracks : c.push.new.self.tracks ≡ with_track one.track.setup l.made.tracks = c.in_ok-push.ensures.tracks ∙ ap (with_track one.track.setup) same.parties.1 in
    let inside : l.index < length specs = c.loop-index-test.true in
    let here = slice_get-get_or specs l.index _ inside in
    subst (λ (y : List Made × List Made × List TrackEnds × TrackList). AreNewTracks IsNewTrack (l.index + 1) specs y.0 y.1 y.2 y.3) (λ i. (sym streams i, sym commands i, sym clients i, sym tracks i))
    (one_track_more IsNewTrack l.index specs l.made.streams.items l.made.commands.items l.made.clients.items l.made.tracks l.invariant _ one.track.stream one.track.command one.track.ends one.track.setup here one.ensures)
