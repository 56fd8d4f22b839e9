use Rattle.std.proofs.Common.{◌+◌, ◌-◌, ◌≤◌, length, refl, sym, subst, arith}
use borrow.Rule.Slice.PartMut.{put_mid}
use Rattle.af_static.specs.declared.head.Head.{Head}
use Rattle.af_static.specs.Played.{IsPlayedTo}
use Rattle.af_static.proofs.Rows.{row_written}
use Rattle.af_static.proofs.playing.play_row.Goals as goal

pub returns-clause-played : goal.returns-clause-played
returns-clause-played c first was =
    let from = c.args.head.now.position in
    let run = c.row-run.result in
    let at = c.args.at in
    let out = c.args.out.now in
    let some = c.row-run.ensures.some in
    let ahead = c.requires.ahead in
    let fits : c.args.at + c.row-run.result ≤ length c.args.out.now = omega arith in
    subst (λ (h : Head). IsPlayedTo (at + run) c.args.frames.now c.args.gains first (length out) h (put_mid at (at + run - at) out c.mix_row.new.out)) (sym c.moved.ensures.head)
    (row_written at run (from + run - from) (at + run - at) c.args.frames.now c.args.gains first c.args.head.now (length out) out c.mix_row.new.out some.0 fits refl (omega arith) (omega arith) c.row-run.ensures.row c.mix_row.ensures was)
