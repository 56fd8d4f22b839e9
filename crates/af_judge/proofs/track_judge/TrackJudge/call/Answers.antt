use Rattle.std.proofs.Common.{ap, sym, ◌∙◌, subst, map, length}
use Rattle.af_judge.proofs.Common.{after_call, length-map, packed_word}
use Rattle.af_judge.specs.declared.track_judge.TrackJudge.{TrackJudge}
use Rattle.af_judge.specs.Judging.{ClientJudged, IsKeptOf}
use Rattle.af_judge.proofs.CallKept.{call_of, kept_call, no_call_of}
use Rattle.af_judge.proofs.TrackKept.{sides_told}
use Rattle.af_judge.proofs.track_judge.TrackJudge.call.Goals as goal

pub returns-then-not-call-clause-made : goal.returns-then-not-call-clause-made
returns-then-not-call-clause-made c = λ t long kept. no_call_of c.args.ops.now c.args.call c.args.self.now.client t kept.client c.if-not-call.ensures.made

pub returns-clause-made : goal.returns-clause-made
returns-clause-made c = λ t long kept.
    let ops = c.args.ops.now in
    let answer = c.args.call in
    let file = c.args.file.now in
    let now = c.args.self.now in
    let made = c.if-not-call.ensures.made in
    let told = c.in_ok-tell.ensures in
    let j : TrackJudge = record { client = c.call.new.self; stream = now.stream; commands = now.commands } in
    let k = kept_call ops (length file) answer now.client c.call.new.self t (ap length long ∙ length-map file packed_word) kept.client made in
    let sides = sides_told t answer now.client.sides j c.tell.new.self (map packed_word file) c.is_shut_for-was_shut.result c.released-released.result long (record { stream = kept.stream; commands = kept.commands }) kept.client.sides
    c.is_shut_for-was_shut.ensures c.released-released.ensures told.told in (
      call_of ops (length file) answer now.client c.call.new.self t kept.client made,
      record {
        client = subst (λ (x : ClientJudged). IsKeptOf ops x (after_call t answer)) (sym told.client) k;
        stream = sides.stream;
        commands = sides.commands;
      },
    )
