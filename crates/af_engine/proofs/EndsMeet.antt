-- The ends of the two mixers meet.
use Rattle.std.proofs.Common.{◌≡◌, sym, ap, subst, ◌∙◌}
use Rattle.af_engine.proofs.Common.{EndsMet, HaveHistories, IsInOrder as IsFastInOrder, IsLinked, Links, MixerState, NormalState, Observes, Others, OutSide, ServerState, StreamNames, ends_met, ends_of, mixer_met, observer_met, out_met, queue_met, writer_met}
use Rattle.af_fast.proofs.Meeting.{met_order}
use Rattle.af_link.specs.Reports.{WriterSide}

module _ (links : Links) (m m1 n : NormalState) (f : MixerState) (o : Observes ServerState StreamNames) (w : WriterSide) (out : OutSide) (queued : m1 ≡ queue_met m f.observer) (observed : o ≡ observer_met m f.observer)
    (ended : n ≡ ends_met m1 f.writer f.pipe) (wrote : (w ≡ writer_met m1 f.writer) × (out ≡ out_met m1 f.pipe)) where
  abbrev g : MixerState
  g = record f { observer = o; writer = w; pipe = out }

  fast_is : g ≡ mixer_met f (ends_of m)
  fast_is =
      let writer = wrote.0 ∙ ap (λ (y : NormalState). writer_met y f.writer) queued in
      let pipe = wrote.1 ∙ ap (λ (y : NormalState). out_met y f.pipe) queued in
      λ i. record f { observer = observed i; writer = writer i; pipe = pipe i }

  -- the fast mixer stays in order
  pub fast_order : IsFastInOrder f × IsLinked links f → IsFastInOrder g × IsLinked links g
  fast_order k = subst (λ (y : MixerState). IsFastInOrder y × IsLinked links y) (sym fast_is) (met_order f (ends_of m) k.0, k.1)

-- the meetings of proxies leave the ends of the two mixers as their own meetings made them
module _ (m n n' : NormalState) (f g g' : MixerState) (met : EndsMet m n f g) (normal : n' ≡ record n { streams = n'.streams; commands = n'.commands; hands = n'.hands })
    (fast : g' ≡ record g { observer = record g.observer { items = g'.observer.items } }) where
  pub still_met : EndsMet m n' f g'
  still_met = record {
    normal = normal ∙ ap (λ (y : NormalState). record y { streams = n'.streams; commands = n'.commands; hands = n'.hands }) met.normal;
    fast = fast ∙ ap (λ (y : MixerState). record y { observer = record y.observer { items = g'.observer.items } }) met.fast;
    histories = subst (λ (y : MixerState × Others). HaveHistories y.0 y.1) (λ i. (sym fast i, ends_of (sym normal i))) (record {
      queue = met.histories.queue;
      report = met.histories.report;
      never_older = met.histories.never_older;
      pipe = met.histories.pipe;
      fronts = met.histories.fronts;
    });
  }
