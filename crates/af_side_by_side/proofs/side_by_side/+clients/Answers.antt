use Rattle.std.proofs.Common.{rules}
use Rattle.af_side_by_side.proofs.Zips.{all_zip_halves}
use Rattle.af_side_by_side.proofs.side_by_side.+clients.Goals as goal

pub returns-then-start-lt2 : goal.returns-then-start-lt2
returns-then-start-lt2 g t c = search (rules, all_zip_halves)

pub returns-else-have_ended-2 : goal.returns-else-have_ended-2
returns-else-have_ended-2 g t c = search (rules, all_zip_halves)
