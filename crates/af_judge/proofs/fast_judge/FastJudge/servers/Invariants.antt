use Rattle.std.proofs.Common.{◌≡◌, map, take}
use Rattle.af_judge.specs.Foresight.{server_of, servers_at}
use Rattle.af_judge.proofs.fast_judge.FastJudge.servers.Given as goal

abbrev pub invariant-loop-track : goal.invariant-loop-track
invariant-loop-track l = l.servers.items ≡ map server_of (servers_at (take l.track-index l.tracks))
