use Rattle.std.proofs.Common.{[], ◌≤◌, ◌<◌, length, sym, ap, subst, arith}
use Rattle.af_session.proofs.Common.{Follows, IsInOrder, MixerState}
use Rattle.af_session.proofs.FastAdds.{mix_does}
use Rattle.af_session.proofs.Following.{follows_added, noted_still}
use Rattle.af_session.proofs.StepsUsed.{mixed_few}
use Rattle.af_session.proofs.fast_turns.mix_noted.Goals as goal

pub note_last-requires-clause-order : goal.note_last-requires-clause-order
note_last-requires-clause-order g c = c.mix-cycle.ensures.order [] c.requires.order

pub returns-then-len-entries-clause-order : goal.returns-then-len-entries-clause-order
returns-then-len-entries-clause-order g c = subst IsInOrder (sym c.note_last.ensures.same) (c.mix-cycle.ensures.order [] c.requires.order)

pub returns-then-len-entries-clause-tally : goal.returns-then-len-entries-clause-tally
returns-then-len-entries-clause-tally g c =
    let was = c.args.fast.now in
    let mixed = c.mix-cycle in
    let longer : length was.log.entries < length mixed.new.self.log.entries =
    omega (arith, c.if-len-entries.true, c.len-entries.ensures, ap (λ l. length l.entries) c.log.ensures, c.len.ensures, ap (λ l. length l.entries) c.log-2.ensures) in
    subst (λ (m : MixerState). Follows was m c.args.tally.now c.note_written.new.tally) (sym c.note_last.ensures.same)
    (follows_added was mixed.new.self c.args.buffer.now mixed.new.out mixed.result c.args.tally.now c.note_last.new.tally c.note_written.new.tally
    mixed.new.steps (mix_does was mixed.new.self c.args.buffer.now mixed.new.out mixed.result
    (mixed.ensures.mixes [] c.requires.order)) longer c.requires.order c.requires.whole c.requires.buffer
    mixed.ensures.sizes.0 (mixed_few was c.args.steps.now mixed.new.steps c.requires.order c.requires.poll mixed.ensures.steps) c.note_last.ensures.tally
    c.note_written.ensures.tally)

pub returns-else-len-entries : goal.returns-else-len-entries
returns-else-len-entries g c =
    let was = c.args.fast.now in
    let mixed = c.mix-cycle in
    let did = mixed.ensures in
    let as_long : length mixed.new.self.log.entries ≤ length was.log.entries =
    omega (arith, c.if-len-entries.false, c.len-entries.ensures, ap (λ l. length l.entries) c.log.ensures, c.len.ensures, ap (λ l. length l.entries) c.log-2.ensures) in
    let mixes = did.mixes [] c.requires.order in
    let noted = noted_still was mixed.new.self c.args.buffer.now mixed.new.out mixed.result c.args.tally.now
    (mix_does was mixed.new.self c.args.buffer.now mixed.new.out mixed.result mixes) as_long in
    record {
      linked = did.linked;
      order = did.order [] c.requires.order;
      turn = did.turn;
      sizes = did.sizes;
      mixes = mixes;
      length = did.length;
      tally = noted.follows;
      places = noted.places;
    }
