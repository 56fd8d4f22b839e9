use Rattle.af_play_law.proofs.laws.a_load_shows_the_report_of_its_number.Goals as goal
use Rattle.af_play_law.proofs.RoundLoads.{loads_show}

pub returns : goal.returns
returns c = loads_show
