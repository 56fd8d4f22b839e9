use Rattle.std.proofs.Common.{rules, [], ◌∷◌, refl}
use Rattle.af_base.specs.declared.event.ClientCall.TheVariants as call
use Rattle.af_client.specs.Order.{ClientState}
use Rattle.af_client.specs.Calls.{Answers}
use Rattle.af_client.proofs.Opened.{dead_keeps, full_keeps, put_keeps, corrupt_keeps}
use Rattle.af_client.proofs.client.Client.send.Goals as goal

pub returns-then-room-lt2-clause-ready : goal.returns-then-room-lt2-clause-ready
returns-then-room-lt2-clause-ready g c =
    let old : ClientState = c.args.self.now in
    let a : Answers old 2 (call.SendFull c.in-Open.front) = search rules in
    (c.in-Open.ensures.made, full_keeps old c.open.new.self 2 c.in-Open.front c.in-Open.room (call.SendFull c.in-Open.front) c.requires.ready.1 a refl c.in-Open.ensures.opens c.in-Open.ensures.kept)

pub returns-in-Dead-clause-ready : goal.returns-in-Dead-clause-ready
returns-in-Dead-clause-ready g c =
    let old : ClientState = c.args.self.now in
    let a : Answers old 2 (call.SendDead c.in-Dead.flags) = search rules in
    (c.in-Dead.ensures.made, dead_keeps old c.open.new.self 2 c.in-Dead.flags (call.SendDead c.in-Dead.flags) c.requires.ready.1 a refl c.in-Dead.ensures.opens c.in-Dead.ensures.kept)

pub returns-in-Corrupt-clause-ready : goal.returns-in-Corrupt-clause-ready
returns-in-Corrupt-clause-ready g c =
    let old : ClientState = c.args.self.now in
    let a : Answers old 2 (call.SendCorrupt c.in-Corrupt.front c.in-Corrupt.rear) = search rules in
    (c.in-Corrupt.ensures.made, corrupt_keeps old c.open.new.self 2 c.in-Corrupt.front c.in-Corrupt.rear (call.SendCorrupt c.in-Corrupt.front c.in-Corrupt.rear) c.requires.ready.1 a refl c.in-Corrupt.ensures.opens c.in-Corrupt.ensures.kept)

pub returns-else-room-lt2-clause-ready : goal.returns-else-room-lt2-clause-ready
returns-else-room-lt2-clause-ready g c =
    let old : ClientState = c.args.self.now in
    let put = c.put_two in
    let a : Answers old 2 (call.Sent c.in-Open.front c.args.code c.args.argument) = search rules in (
      put.ensures.made,
      put_keeps old c.open.new.self put.new.self 2 c.in-Open.front c.in-Open.room 2 (c.args.code ∷ c.args.argument ∷ []) (call.Sent c.in-Open.front c.args.code c.args.argument) c.requires.ready.1 a refl
          c.in-Open.ensures.opens c.in-Open.ensures.kept put.ensures.put refl put.ensures.rear put.ensures.released put.ensures.kept,
    )
