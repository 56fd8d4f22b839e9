use Rattle.std.proofs.Common.{rules, length}
use Rattle.af_offline.proofs.Common.{IsFrontOf, IsVerdict, most_judged}
use Rattle.af_offline.specs.Asked as asked
use Rattle.af_offline.specs.Verified.{Tells, case_view}
use Rattle.af_offline.proofs.Verified.{front_judged}
use Rattle.af_offline.proofs.verifying.judge_front.Goals as goal

pub returns-then-tells : goal.returns-then-tells
returns-then-tells c =
    let view : asked.JudgedCase = case_view c.args.case.now in
    let front = c.in_ok-front.front in
    let found = c.in_ok-found.found in
    let begins : IsFrontOf most_judged (length view.loaded.script.tracks) view.text front.whole front.journal = search rules in
    let told : Tells found front.whole (length front.journal.rounds) = c.tells.ensures c.if-tells.true in
    let verdict : IsVerdict view.loaded.script view.loaded.files front.journal view.pcm found = search rules in
    front_judged view front.whole front.journal found begins told verdict
