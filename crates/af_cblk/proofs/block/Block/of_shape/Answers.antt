use Rattle.std.proofs.Common.{rules}
use Rattle.af_cblk.proofs.Seats.{client_leaves}
use Rattle.af_cblk.proofs.Opening.{begins}
use Rattle.af_cblk.proofs.block.Block.of_shape.Goals as goal

pub of_words-requires : goal.of_words-requires
of_words-requires c = begins c.args.shape (search rules) _ (search rules)

pub split_seat-client-requires : goal.split_seat-client-requires
split_seat-client-requires c = (search rules, search rules, client_leaves _ _ _ (search rules))
