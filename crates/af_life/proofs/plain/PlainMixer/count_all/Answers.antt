use Rattle.std.proofs.Common.{ap, List, map, take, ◌^◌, length-take-le, arith}
use Rattle.af_life.proofs.Common.{NormalTake, length-map, take_seen}
use Rattle.af_life.specs.declared.kept.Counts.{Counts}
use Rattle.af_life.specs.Kept.{asked, track_at}
use Rattle.af_life.specs.Plain.{Plain}
use Rattle.af_life.proofs.Smalls.{takes_small}
use Rattle.af_life.proofs.plain.PlainMixer.count_all.Goals as goal

pub count-requires-clause-room : goal.count-requires-clause-room
count-requires-clause-room c i =
    let now : List NormalTake = take c.loop-take.take-index c.args.takes.now in
    let small = takes_small c.requires.room.0 (2 ^ 30) (asked c.args.self.now.setup) (map take_seen now) c.args.self.now.kept.tracks c.requires.room.1 i in
    let is = ap (λ (p : Plain). (track_at p.kept.tracks i).own) c.loop-take.invariant in
    let few = c.requires.few in
    let a = length-map now take_seen in
    let b = length-take-le c.loop-take.take-index c.args.takes.now in
    let f = ap (λ (n : Counts). n.fulls) is in let p = ap (λ (n : Counts). n.partials) is in let e = ap (λ (n : Counts). n.empties) is in
    let of = small.own.0 in let op = small.own.1 in let oe = small.own.2 in
    (omega arith, omega arith, omega arith)
