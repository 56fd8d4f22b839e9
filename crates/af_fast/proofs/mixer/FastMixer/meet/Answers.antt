use Rattle.std.proofs.Common.{rules, sym, subst}
use Rattle.af_fast.proofs.Common.{Made, Observes, OutSide, ServerState, StreamNames, WriterSide}
use Rattle.af_model.specs.PipeHistory.{HasPipeHistory}
use Rattle.af_fast.specs.contracts.mixer.FastMixer.{the_view}
use Rattle.af_fast.specs.Meets.{Others}
use Rattle.af_fast.specs.Mixer.{MixerState, IsInOrderAfter}
use Rattle.af_fast.proofs.Meeting.{met_order}
use Rattle.af_fast.proofs.mixer.FastMixer.meet.Goals as goal

pub returns-clause-order : goal.returns-clause-order
returns-clause-order g c =
    let m : MixerState = the_view c.self.inside in
    let o : Others = record { mutator = c.args.mutator.now; reader = c.args.reader.now; pipe = c.args.from.now } in
    let report = c.meet_report.ensures in (
      (λ earlier k.
          subst (λ (x : Observes ServerState StreamNames × WriterSide × OutSide). IsInOrderAfter earlier (record m { observer = x.0; writer = x.1; pipe = x.2 }))
          (λ i. (sym c.meet.ensures.observer i, record { cell = sym report.together.0 i; events = sym report.writer i }, sym c.meet_pipe.ensures.to i))
          (met_order m o (subst (IsInOrderAfter earlier) (sym c.self.view_is) k))),
      search (rules),
    )

pub returns-clause-histories : goal.returns-clause-histories
returns-clause-histories g c =
    let to = c.meet_pipe.new.to.pass.part in
    let from = c.meet_pipe.new.from.pass.part in
    record {
      queue = c.meet.ensures.history;
      report = c.meet_report.ensures.history;
      never_older = c.meet_report.ensures.never_older;
      pipe = subst (λ (b : Made). HasPipeHistory b.shape.frames from.events from.frames to.events to.frames) (sym c.meet_pipe.ensures.made.1) c.meet_pipe.ensures.history;
      fronts = c.meet_pipe.ensures.fronts;
    }
