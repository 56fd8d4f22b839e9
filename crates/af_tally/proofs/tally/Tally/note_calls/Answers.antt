use Rattle.std.proofs.Common.{◌≡◌, ◌<◌, ◌&&◌, List, length, set, ap, ◌∙◌, arith}
use Rattle.std.proofs.lemmas.List.{get_or_read}
use Rattle.af_tally.specs.declared.tally.TrackTally.{TrackTally}
use Rattle.af_tally.specs.Summaries.{has_no_poke}
use Rattle.af_tally.specs.Tallies.{Tallied, untouched, track_at}
use Rattle.af_tally.proofs.Tallying.{calls_noted}
use Rattle.af_tally.proofs.tally.Tally.note_calls.Goals as goal

pub returns-clause-tally : goal.returns-clause-tally
returns-clause-tally c = λ run is.
    let now = c.args.self.now in
    let track = c.args.track in
    let calls = c.args.calls.now in
    let items = c.self.inside.tracks.items in
    let view = c.self.view_is in
    let same : items ≡ now.tracks = ap (λ (t : Tallied). t.tracks) view in
    let lt : track < length items = let within = c.requires.track in omega (arith, ap length same) in
    let read : c.index.result.now ≡ track_at now.tracks track = get_or_read items track c.index.result.now lt c.index.ensures untouched ∙ ap (λ (ts : List TrackTally). track_at ts track) same in
    calls_noted run now _ track calls c.with_calls.result c.requires.track
    (c.with_calls.ensures ∙ (λ i. record (read i) { lawful = (read i).lawful && has_no_poke calls }))
    (λ i. record (view i) { tracks = set (view i).tracks track c.with_calls.result }) is
