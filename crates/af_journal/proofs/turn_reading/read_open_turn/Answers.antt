use Rattle.std.proofs.Common.{ap, refl, false, List, ◌∷◌, [], map}
use Rattle.af_journal.proofs.Common.{IsOpenTurn, TrackSeen, Turn, flat_map, take_seen}
use Rattle.af_journal.specs.declared.line.Line.TheVariants as line
use Rattle.af_journal.specs.Lines.{numbers}
use Rattle.af_journal.specs.Taken.{Leaves, open_lines}
use Rattle.af_journal.specs.Texts.{each_from, take_lines, track_lines}
use Rattle.af_journal.proofs.Leaving.{leaves-then}
use Rattle.af_journal.proofs.turn_reading.read_open_turn.Goals as goal

pub returns : goal.returns
returns c =
    let t = c.in_ok-turns.ensures in
    let push = c.in_ok-push.push in
    let takes = c.in_ok-mixes.ensures in
    let a = c.args.left.now.rest.now in
    let b = c.read_tracks.new.left.rest.now in
    let d = c.read_push.new.left.rest.now in
    let f = c.read_takes.new.left.rest.now in
    let mixes = map take_seen c.in_ok-mixes.mixes.items in
    let e : Turn = record { ended = false; room = c.args.room; ack = c.args.ack; cycle = c.args.cycle; tracks = t.0; push = push; mixes = mixes } in
    let two : Leaves b (numbers (line.Pushed push) ∷ []) d = c.in_ok-push.ensures in
    let open_form : IsOpenTurn c.args.tracks e = record { open_is = refl; each = t.2; looks = t.3; takes = takes.form; rise = takes.rise } in
    let more : Leaves b (numbers (line.Pushed push) ∷ flat_map take_lines mixes) f = leaves-then b d f (numbers (line.Pushed push) ∷ []) (flat_map take_lines mixes) two takes.lines in
    let lines : Leaves a (open_lines e) f = leaves-then a b f (each_from track_lines 0 t.0) (numbers (line.Pushed push) ∷ flat_map take_lines mixes) t.4 more in
    (e, ap (λ (l : List TrackSeen). record e { tracks = l }) t.1, refl, refl, refl, open_form, lines)
