use Rattle.std.proofs.Common.{rules, ◌≡◌, ◌≤◌, ◌+◌, ◌*◌, ◌++◌, ◌∷◌, [], length, get_or, subst, sym, arith}
use Rattle.af_journal.specs.Hexadecimal.{AreSpelled}
use Rattle.af_journal.proofs.Spelling.{pair-at, spelled-more}
use Rattle.af_journal.proofs.hexadecimal.add_frames.Goals as goal

pub loop-word-preserved : goal.loop-word-preserved
loop-word-preserved g c =
    let digits = c.args.digits.now in
    let bytes = c.bytes_at-bytes.result in
    let made = c.bytes_at-bytes.ensures in
    let at = c.args.at in
    let word = c.loop-word.word in
    let frames = c.loop-word.frames.items in
    let frame = c.frame_at.result in
    let n = at + 8 * word in
    let m = at + 8 * (word + 1) in
    let is : m ≡ n + 8 = omega arith in
    let le : m ≤ length digits = omega arith in
    let items : c.push.new.self.items ≡ frames ++ frame ∷ [] = search rules in
    record {
      spelled = subst (AreSpelled m digits) (sym items) (
          spelled-more digits frames frame n m (get_or bytes (4 * word) 0) (get_or bytes (4 * word + 1) 0) (get_or bytes (4 * word + 2) 0) (get_or bytes (4 * word + 3) 0) is le
          c.loop-word.invariant.spelled c.frame_at.ensures.word c.frame_at.ensures.frame c.frame_at.ensures.small
          (pair-at digits _ at (4 * word) n (made (4 * word) (omega arith)) (omega arith))
          (pair-at digits _ at (4 * word + 1) (n + 2) (made (4 * word + 1) (omega arith)) (omega arith))
          (pair-at digits _ at (4 * word + 2) (n + 4) (made (4 * word + 2) (omega arith)) (omega arith))
          (pair-at digits _ at (4 * word + 3) (n + 6) (made (4 * word + 3) (omega arith)) (omega arith)));
      room = search rules;
    }
