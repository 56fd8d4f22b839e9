-- The product and the sum fit, so each conversion on the way gives the number itself.
use Rattle.std.proofs.Common.{◌≡◌, pos, ◌*ℤ◌, ◌+ℤ◌, FitsSigned, w16, w64, ◌∙◌, arith}
use Rattle.af_gain.proofs.Common.{ints, to_z-of_z}
use Rattle.af_gain.proofs.Products.{product_bound}
use Rattle.af_gain.proofs.sums.grown.Goals as goal

pub returns : goal.returns
returns c =
    let bound = product_bound c.args.sample c.args.gain c.ranges.sample c.requires.unity in
    let product : FitsSigned w64 (c.args.sample *ℤ pos c.args.gain) = omega (arith, ints) in
    let sum : FitsSigned w64 (c.args.side +ℤ c.args.sample *ℤ pos c.args.gain) = omega (arith, ints) in
    let sample : c.from.result ≡ c.args.sample = c.from.ensures ∙ to_z-of_z w16 c.args.sample c.ranges.sample in
    let gain = c.from-2.ensures in
    let side_is = to_z-of_z w64 c.args.side c.ranges.side in
    let sample_is = to_z-of_z w64 c.from.result (record { sfits = c.from.type_inv }) in
    let gain_is = to_z-of_z w64 c.from-2.result (record { sfits = c.from-2.type_inv }) in
    let product_is = to_z-of_z w64 (c.args.sample *ℤ pos c.args.gain) product in
    let sum_is = to_z-of_z w64 (c.args.side +ℤ c.args.sample *ℤ pos c.args.gain) sum in
    cc
