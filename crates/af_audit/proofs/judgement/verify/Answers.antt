use Rattle.std.proofs.Common.{◌<◌, length, arith}
use Rattle.af_audit.proofs.VerdictLaws.{legal_found}
use Rattle.af_audit.proofs.judgement.verify.Goals as goal

pub returns-clause-legal : goal.returns-clause-legal
returns-clause-legal c =
    let some : 0 < length c.args.script.now.tracks = (let a = c.tracks-tracks.ensures.script.track_count.0 in omega (arith, a)) in
    legal_found c.args.script.now c.args.files.now c.args.journal.now c.args.pcm.now c.in_ok-found.found (record { tracks = c.requires.tracks; some = some; form = c.log-log.ensures.form }) c.in_ok-found.ensures
