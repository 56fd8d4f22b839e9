use Rattle.af_enough_law.proofs.laws.no_client_that_plays_through_pokes.Goals as goal
use Rattle.af_enough_law.proofs.RunBegins.{run_pokeless}

pub returns : goal.returns
returns c = λ cut script files marks rounds track is through lt legal. let p = run_pokeless cut script files marks rounds track is through lt legal in (p.stream, p.commands)
