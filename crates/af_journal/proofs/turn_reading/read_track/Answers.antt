use Rattle.std.proofs.Common.{rules, ◌++◌}
use Rattle.af_journal.proofs.Common.{TrackSeen, flat_map}
use Rattle.af_journal.specs.Taken.{Leaves}
use Rattle.af_journal.specs.Texts.{disabled_lines, look_lines, status_lines}
use Rattle.af_journal.proofs.Leaving.{leaves-then}
use Rattle.af_journal.proofs.turn_reading.read_track.Goals as goal

pub returns : goal.returns
returns c =
    let looks = c.in_ok-looks.ensures in
    let track = c.args.track in
    let disabled = c.read_disabled-disabled.result in
    let status = c.read_status-status.result in
    let a = c.args.left.now.rest.now in
    let b = c.read_looks.new.left.rest.now in
    let d = c.read_disabled-disabled.new.left.rest.now in
    let f = c.read_status-status.new.left.rest.now in
    let t : TrackSeen = record { looks = looks.0; status = status; disabled = disabled } in
    let two : Leaves b (disabled_lines track disabled) d = search rules in
    let three : Leaves d (status_lines track status) f = search rules in
    let front : Leaves a (flat_map (look_lines track) looks.0 ++ disabled_lines track disabled) d = leaves-then a b d (flat_map (look_lines track) looks.0) (disabled_lines track disabled) looks.3 two in (
      t,
      λ k. record { looks = looks.1 k; status = status; disabled = disabled },
      looks.2,
      leaves-then a d f (flat_map (look_lines track) looks.0 ++ disabled_lines track disabled) (status_lines track status) front three,
    )
