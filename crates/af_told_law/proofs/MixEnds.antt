-- After a mix the run with this mix tells the ends, the fast mixer and what the normal mixer keeps, if the pipe and the report are those that it tells.
use Rattle.std.specs.List.{sum_by}
use Rattle.std.proofs.Common.{◌≡◌, ℕ, ◌+◌, Bool, false, if◌then◌else◌, map, List, [], ◌∷◌, ◌++◌, refl, sym, ap, ◌∙◌, subst, arith}
use Rattle.af_told_law.proofs.Common.{AddsCycle, ClientEvent, CycleEntry, EntrySeen, IsInOrder, MixerState, NormalState, Observes, OutSide, PipeTold, Polls, Report, Run, ServerState, Session, StreamNames, Takes, WriterEvent, has_exit, is_mixed, mixed_pipe, next_report, sum_by-append, taken_by, with_looks, with_mix}
use Rattle.af_model.specs.declared.newest.WriterEvent.TheVariants as writes
use Rattle.af_judge.proofs.QueueSteps.{ones_more, twos_stay}
use Rattle.af_told_law.proofs.MixPipe.{PipeTells}
use Rattle.af_told_law.specs.Tells.{IsFresh, TellsFast, TellsNormal, TellsShared, marked_poll, reports_stored}

-- one report more was stored
stored_more : (es : List (WriterEvent Report)) (report : Report) → reports_stored (es ++ writes.Store report ∷ []) ≡ reports_stored es ++ report ∷ []
stored_more [] report = refl
stored_more (writes.Store r ∷ es) report = ap (λ (l : List Report). r ∷ l) (stored_more es report)
stored_more (writes.Learn c ∷ es) report = stored_more es report

-- one entry more took its frames
taken_more : (es : List CycleEntry) (e : CycleEntry) → sum_by taken_by (es ++ e ∷ []) ≡ sum_by taken_by es + taken_by e
taken_more es e = sum_by-append taken_by es (e ∷ []) ∙ ap (λ (k : ℕ). sum_by taken_by es + k) (let one : sum_by taken_by (e ∷ []) ≡ taken_by e = omega arith in one)

-- the pipe is told, if nothing is mixed
pub pipe_still : (f g : MixerState) (e : EntrySeen) (p : PipeTold) (puts : List ClientEvent) (put : List ℕ) → PipeTells p puts put f → is_mixed e.entry.cycle ≡ false → Takes f g e.entry → PipeTells (mixed_pipe e p) puts put g
pipe_still f g e p puts put h dry takes =
    let same : g.pipe ≡ f.pipe = (takes.still dry).1 in
    let told : PipeTells p puts put g = record { puts_are = h.puts_are; put_is = h.put_is; takes = ap (λ (o : OutSide). o.pass.part.events) same ∙ h.takes; taken = ap (λ (o : OutSide). o.pass.part.frames) same ∙ h.taken } in
    subst (λ (q : PipeTold). PipeTells q puts put g) (sym (off (is_mixed e.entry.cycle) _ p dry)) told
  where
    off : (b : Bool) (q p : PipeTold) → b ≡ false → (if b then q else p) ≡ p
    off b q p is = ap (λ (c : Bool). if c then q else p) is

module _ (s : Session) (run : Run) (n : NormalState) (f g : MixerState) (e : EntrySeen) (shared : TellsShared s run n f) (fast : TellsFast s run f) (adds : AddsCycle f g e.entry) (sizes : (g.frames ≡ f.frames) × (g.cycles ≡ f.cycles)) (order : IsInOrder g)
    (pipe : PipeTells (mixed_pipe e run.pipe) n.pipe.pass.part.events n.pipe.pass.part.frames g) (same_shape : g.pipe.pass.part.shape.frames ≡ f.pipe.pass.part.shape.frames) (report_is : adds.report.0 ≡ next_report s (with_looks s e run) e.entry) (fresh : IsFresh (with_mix s e run)) where
  same_past : g.observer.past ≡ f.observer.past
  same_past = ap (λ (o : Observes ServerState StreamNames). o.past) adds.takes.observer

  abbrev told_report : Report
  told_report = next_report s (with_looks s e run) e.entry

  pub shared_mixed : TellsShared s (with_mix s e run) n g
  unfolding with_mix
  shared_mixed = record {
    first = shared.first;
    mutator = shared.mutator;
    observer = ap (λ (p : Polls ServerState StreamNames). map marked_poll p.events) same_past ∙ shared.observer;
    reader = shared.reader ∙ sym (twos_stay run.report (writes.Store told_report ∷ []));
    writer = adds.report.1 ∙ (λ j. shared.writer j ++ writes.Store (report_is j) ∷ []) ∙ sym (ones_more run.report (writes.Store told_report ∷ []));
    puts = record { told = pipe.puts_are; words = pipe.put_is };
    takes = pipe.takes;
    taken = pipe.taken;
    size = same_shape ∙ shared.size;
  }

  pub fast_mixed : TellsFast s (with_mix s e run) g
  unfolding with_mix taken_by
  fast_mixed =
      let entries : g.log.entries ≡ run.entries ++ e.entry ∷ [] = adds.entries ∙ ap (λ (es : List CycleEntry). es ++ e.entry ∷ []) fast.entries in
      record {
        frames = sizes.0 ∙ fast.frames;
        cycles = sizes.1 ∙ fast.cycles;
        current = ap (λ (p : Polls ServerState StreamNames). p.number) same_past ∙ fast.current;
        state = ap (λ (p : Polls ServerState StreamNames). p.state) same_past ∙ fast.state;
        entries = entries;
        logged = adds.takes.total ∙ ap (λ (k : ℕ). k + taken_by e.entry) fast.logged ∙ sym (taken_more run.entries e.entry);
        exited = order.keeps.exited_is ∙ ap has_exit entries;
        reports = ap reports_stored adds.report.1 ∙ stored_more f.writer.events adds.report.0 ∙ (λ j. fast.reports j ++ report_is j ∷ []);
        fresh = fresh;
      }

  pub normal_mixed : TellsNormal s run n → TellsNormal s (with_mix s e run) n
  unfolding with_mix
  normal_mixed h = record { setup = h.setup; kept = h.kept; hands = h.hands; states = h.states; number = h.number; last = h.last }
