use Rattle.af_judge.proofs.ServersSeen.{server_absent, server_there}
use Rattle.std.proofs.Common.{arith}
use Rattle.af_judge.specs.Foresight.{looked_by}
use Rattle.af_judge.proofs.slot_report.foresee_track.Goals as goal

pub returns-then-at-servers : goal.returns-then-at-servers
returns-then-at-servers c = λ ss is. server_absent c.args.servers.now ss c.args.track (looked_by c.args.asked c.args.slot.now) is (omega arith)

pub returns : goal.returns
returns c = λ ss is. server_there c.args.servers.now ss c.args.track (looked_by c.args.asked c.args.slot.now) _ c.note_slot.new.server is (omega arith) c.note_slot.ensures
