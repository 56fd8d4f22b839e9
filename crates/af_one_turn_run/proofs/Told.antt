-- Blocks that are told in a legal order.
use Rattle.af_one_turn_run.proofs.Common.{IsLegal, start, BlockTold, TrackTold}

-- the order in which a block is told is legal
abbrev pub IsToldLegally : BlockTold → Type 0
IsToldLegally b = IsLegal (start b.shape) b.told

-- the orders in which both blocks of a track are told are legal
pub record IsTrackLegal (t : TrackTold) : Type 0 where
  pub stream : IsToldLegally t.stream
  pub commands : IsToldLegally t.commands
