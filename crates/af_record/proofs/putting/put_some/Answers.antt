use Rattle.std.proofs.Common.{◌≡◌, ℕ, ◌≤◌, sym, ap, ◌∙◌, subst}
use Rattle.af_record.proofs.Common.{Made, nothing_put}
use Rattle.af_record.specs.Ends.{IsStopped}
use Rattle.af_record.proofs.Puts.{written}
use Rattle.af_record.proofs.TapeOrders.{supplies_lawful}
use Rattle.af_record.proofs.putting.put_some.Goals as goal

pub returns-clause-writes : goal.returns-clause-writes
returns-clause-writes g c =
    let w = c.write.result in
    let e = c.write.ensures in
    let same = ap (λ (m : Made). m.shape) (e.ready.0 ∙ sym c.requires.made) in
    let lawful = supplies_lawful _ nothing_put _ c.requires.writes.list in
    let left = written c.args.client.now c.write.new.self c.args.frames.now c.requires.order c.requires.writes same w e.does e.releases (e.lawful lawful) in
    left.writes

pub returns-clause-looked : goal.returns-clause-looked
returns-clause-looked g c =
    let w = c.write.result in
    let e = c.write.ensures in
    let same = ap (λ (m : Made). m.shape) (e.ready.0 ∙ sym c.requires.made) in
    let lawful = supplies_lawful _ nothing_put _ c.requires.writes.list in
    let left = written c.args.client.now c.write.new.self c.args.frames.now c.requires.order c.requires.writes same w e.does e.releases (e.lawful lawful) in
    left.looked

pub returns-clause-stopped : goal.returns-clause-stopped
returns-clause-stopped g c =
    let w = c.write.result in
    let e = c.write.ensures in
    let same = ap (λ (m : Made). m.shape) (e.ready.0 ∙ sym c.requires.made) in
    let lawful = supplies_lawful _ nothing_put _ c.requires.writes.list in
    let left = written c.args.client.now c.write.new.self c.args.frames.now c.requires.order c.requires.writes same w e.does e.releases (e.lawful lawful) in
    let now = c.write.new.self.pass.part in
    subst (λ (n : ℕ). (n ≡ 0 → IsStopped now) × (1 ≤ n → IsStopped now → ⊥)) (sym c.count_put.ensures) (left.none, left.some)
