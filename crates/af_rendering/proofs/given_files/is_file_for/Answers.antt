use Rattle.std.proofs.Common.{arith}
use Rattle.af_rendering.proofs.given_files.is_file_for.Goals as goal

pub returns-clause-yes : goal.returns-clause-yes
returns-clause-yes c = λ yes. let e = c.write_within.ensures.yes yes in record { enough = omega (arith, e); few = omega arith }

pub returns-clause-no : goal.returns-clause-no
returns-clause-no c = λ serves. c.write_within.ensures.no (let e = serves.enough in omega (arith, e))
