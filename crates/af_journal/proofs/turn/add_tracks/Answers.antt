use Rattle.std.proofs.Common.{◌≡◌, ◌<◌, ◌≤◌, ◌∙◌, List, length, map, take, slice_index_or, ap, sym, subst, rules, arith}
use Rattle.af_journal.proofs.Common.{TrackSeen, get_or-map, length-map, take_all, track_seen}
use Rattle.af_journal.specs.Lines.{Written}
use Rattle.af_journal.specs.Texts.{GoesOn, each_from, track_lines}
use Rattle.af_journal.proofs.Texts.{goes-then, each-next}
use Rattle.af_journal.proofs.turn.add_tracks.Goals as goal

pub loop-i-preserved : goal.loop-i-preserved
loop-i-preserved c = let tracks = c.args.tracks.now in let seen = map track_seen tracks in let i = c.loop-i.i in let here = c.index-tracks-i.result in
    let inside : i < length tracks = search rules in
    let there : i < length seen = let e = length-map tracks track_seen in omega arith in
    let is : here ≡ slice_index_or tracks i here = search rules in
    let same : track_seen here ≡ slice_index_or seen i (track_seen here) = ap track_seen is ∙ sym (get_or-map track_seen tracks i here (track_seen here) inside) in
    let added : GoesOn c.loop-i.text.bytes.items (track_lines i (track_seen here)) c.add_track.new.text.bytes.items = search rules in
    let at : GoesOn c.loop-i.text.bytes.items (track_lines i (slice_index_or seen i (track_seen here))) c.add_track.new.text.bytes.items =
    subst (λ (t : TrackSeen). GoesOn c.loop-i.text.bytes.items (track_lines i t) c.add_track.new.text.bytes.items) same added in
    subst (λ (lines : List Written). GoesOn c.args.text.now.bytes.items lines c.add_track.new.text.bytes.items) (sym (each-next track_lines seen i (track_seen here) there))
    (goes-then c.args.text.now.bytes.items c.loop-i.text.bytes.items c.add_track.new.text.bytes.items (each_from track_lines 0 (take i seen)) (track_lines i (slice_index_or seen i (track_seen here))) c.loop-i.invariant at)

pub returns : goal.returns
returns c = let tracks = c.args.tracks.now in let seen = map track_seen tracks in
    let all : length seen ≤ c.loop-i.i = let e = length-map tracks track_seen in let f : length tracks ≤ c.loop-i.i = search rules in omega arith in
    subst (λ (l : List TrackSeen). GoesOn c.args.text.now.bytes.items (each_from track_lines 0 l) c.loop-i.text.bytes.items) (take_all c.loop-i.i seen all) c.loop-i.invariant
