use Rattle.std.proofs.Common.{rules, length, refl, sym, ap, subst, ◌∙◌, arith}
use Rattle.af_fast.proofs.Common.{Logged, Report, no_slot}
use Rattle.af_fast.specs.Mixer.{Reported}
use Rattle.af_fast.proofs.HeldFacts.{begins_bare}
use Rattle.af_fast.proofs.Noted.{nothing_reported}
use Rattle.af_fast.proofs.mixer.FastMixer.make.Goals as goal

pub returns-clause-order : goal.returns-clause-order
returns-clause-order c = record {
  observer = c.requires.order;
  begins = begins_bare c.args.observer c.requires.order c.requires.unused.observed.3;
  room = search (rules);
  uses = search (rules);
  keeps = search (rules);
  reports = subst (λ (r : Report). Reported (length c.in_ok-reserved.reserved.log.entries) c.args.writer.events r.slots) (sym c.first_report.ensures) (nothing_reported (length c.in_ok-reserved.reserved.log.entries) c.args.writer.events no_slot (ap (λ (l : Logged). length l.entries) c.in_ok-reserved.ensures.log) c.requires.unused.stored refl);
  forgotten = record {
    counted = ap (λ (r : Report). r.cycle) c.first_report.ensures ∙ sym (ap (λ (l : Logged). length l.entries) c.in_ok-reserved.ensures.log);
    most = omega (arith, c.requires.cycles);
    room = omega (arith, ap (λ (l : Logged). l.frame_room) c.in_ok-reserved.ensures.log);
  };
}
