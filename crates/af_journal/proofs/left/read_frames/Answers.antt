use Rattle.std.proofs.Common.{rules, ◌≡◌, ◌∙◌, ◌∷◌, ◌≤◌, ◌*◌, Some, length, map, refl, sym, arith}
use Rattle.af_journal.proofs.Common.{flat_map, length-map, packed_word, take_all}
use Rattle.af_journal.specs.Lines.{hex_word}
use Rattle.af_journal.specs.Readings.{cut}
use Rattle.af_journal.proofs.Leaving.{leaves-frames, leaves-words}
use Rattle.af_journal.proofs.left.read_frames.Goals as goal

pub returns-clause-lines : goal.returns-clause-lines
returns-clause-lines c =
    let bytes = c.args.left.now.rest.now in
    let after = c.in-Some.after.now in
    let digits = c.in-Some.digits.now in
    let frames = c.in_ok-frames.frames.items in
    let are = c.in_ok-frames.ensures in
    let ws = map packed_word frames in
    let front : cut bytes ≡ Some (104 ∷ 32 ∷ digits, after) = search rules in
    let spelled : digits ≡ flat_map hex_word ws = sym (are.words ∙ take_all (length digits) digits (omega arith)) in
    let long : length digits ≡ 8 * c.args.count = search rules in
    let some : 1 ≤ length ws = omega (arith, length-map frames packed_word, are.count, long, c.if-count-eq0.false) in
    leaves-frames bytes after ws ws refl some (leaves-words bytes (104 ∷ 32 ∷ digits) after digits ws front refl spelled some are.fits)
