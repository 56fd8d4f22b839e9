use Rattle.std.proofs.Common.{rules, ◌+◌, refl, ap, ◌∙◌}
use Rattle.af_fast.proofs.Common.{report_at, slot_report}
use Rattle.af_fast.specs.Known.{known}
use Rattle.af_fast.specs.Mixer.{MixerState}
use Rattle.af_fast.proofs.mixer.FastMixer.note.Goals as goal

pub returns-clause-reports : goal.returns-clause-reports
returns-clause-reports g c = record {
  report = record { cycle = c.self.inside.report.cycle + 1; slots = c.report_all.new.reports };
  stored = search (rules);
  number = ap (λ (y : MixerState). y.count + 1) c.self.view_is;
  slots_are = refl;
  whole = c.report_all.ensures.whole;
  each = (λ i lt.
      c.report_all.ensures.each i lt
      ∙ ap (λ (y : MixerState). slot_report y.frames y.observer.current y.last c.args.entry.now (known y.observer i) i (report_at y.reports i)) c.self.view_is);
}
