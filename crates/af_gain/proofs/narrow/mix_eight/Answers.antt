use Rattle.std.proofs.Common.{◌≤◌, length, map}
use Rattle.af_gain.proofs.Common.{length-map, take_of}
use Rattle.af_gain.proofs.narrow.mix_eight.Goals as goal

pub returns : goal.returns
returns c = λ was.
    let takes = map take_of c.args.parts.now in
    let few : length takes ≤ 15 = rw length-map c.requires.few in
    c.write_eight.ensures takes few c.eight_sums.ensures was
