use Rattle.std.proofs.Common.{rules, arith, ◌≤◌, map, take, length, refl}
use Rattle.af_client.proofs.Common.{packed_word}
use Rattle.af_base.specs.declared.event.ClientCall.TheVariants as call
use Rattle.af_client.specs.Order.{ClientState}
use Rattle.af_client.specs.Calls.{Answers}
use Rattle.af_client.proofs.Opened.{dead_keeps, full_keeps, put_keeps, corrupt_keeps, words_are}
use Rattle.af_client.proofs.client.Client.write.Goals as goal

pub returns-then-room-eq0-clause-ready : goal.returns-then-room-eq0-clause-ready
returns-then-room-eq0-clause-ready g c =
    let old : ClientState = c.args.self.now in
    let a : Answers old (length c.args.frames.now) (call.Full c.in-Open.front) = search rules in
    (c.in-Open.ensures.made, full_keeps old c.open.new.self (length c.args.frames.now) c.in-Open.front c.in-Open.room (call.Full c.in-Open.front) c.requires.ready.1 a refl c.in-Open.ensures.opens c.in-Open.ensures.kept)

pub returns-in-Dead-clause-ready : goal.returns-in-Dead-clause-ready
returns-in-Dead-clause-ready g c =
    let old : ClientState = c.args.self.now in
    let a : Answers old (length c.args.frames.now) (call.Dead c.in-Dead.flags) = search rules in
    (c.in-Dead.ensures.made, dead_keeps old c.open.new.self (length c.args.frames.now) c.in-Dead.flags (call.Dead c.in-Dead.flags) c.requires.ready.1 a refl c.in-Dead.ensures.opens c.in-Dead.ensures.kept)

pub returns-in-Corrupt-clause-ready : goal.returns-in-Corrupt-clause-ready
returns-in-Corrupt-clause-ready g c =
    let old : ClientState = c.args.self.now in
    let a : Answers old (length c.args.frames.now) (call.Corrupt c.in-Corrupt.front c.in-Corrupt.rear) = search rules in
    (c.in-Corrupt.ensures.made, corrupt_keeps old c.open.new.self (length c.args.frames.now) c.in-Corrupt.front c.in-Corrupt.rear (call.Corrupt c.in-Corrupt.front c.in-Corrupt.rear) c.requires.ready.1 a refl c.in-Corrupt.ensures.opens c.in-Corrupt.ensures.kept)

pub returns-else-room-eq0-clause-ready : goal.returns-else-room-eq0-clause-ready
returns-else-room-eq0-clause-ready g c =
    let old : ClientState = c.args.self.now in
    let put = c.put-count in
    let a : Answers old (length c.args.frames.now) (call.Put c.in-Open.front put.result) = search rules in
    let few : put.result ≤ length c.args.frames.now = (let e = put.ensures.count in omega arith) in (
      put.ensures.made,
      put_keeps old c.open.new.self put.new.self (length c.args.frames.now) c.in-Open.front c.in-Open.room put.result (map packed_word (take put.result c.args.frames.now)) (call.Put c.in-Open.front put.result) c.requires.ready.1 a refl
          c.in-Open.ensures.opens c.in-Open.ensures.kept put.ensures.put (words_are put.result c.args.frames.now few) put.ensures.rear put.ensures.released put.ensures.kept,
    )
