use Rattle.std.proofs.Common.{rules, length}
use Rattle.af_offline.proofs.Common.{IsFrontOf, IsVerdict, most_judged}
use Rattle.af_offline.specs.Asked as asked
use Rattle.af_offline.specs.Verified.{case_view}
use Rattle.af_offline.proofs.Verified.{whole_judged}
use Rattle.af_offline.proofs.verifying.judge_whole.Goals as goal

pub returns : goal.returns
returns c =
    let view : asked.JudgedCase = case_view c.args.case.now in
    let front = c.in_ok-front.front in
    let found = c.in_ok-found.found in
    let reads = c.in_ok-front.ensures in
    let begins : IsFrontOf most_judged (length view.loaded.script.tracks) view.text front.whole front.journal = search rules in
    let verdict : IsVerdict view.loaded.script view.loaded.files front.journal view.pcm found = search rules in
    whole_judged view front.whole front.journal found begins reads.1 verdict
