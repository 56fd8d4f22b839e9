use Rattle.std.proofs.Common.{rules, ◌≡◌, List, false, sym, ap, subst, ◌∙◌, arith}
use Rattle.af_fast.proofs.Common.{CycleEntry, cycle_of, still_entry}
use Rattle.af_fast.specs.contracts.mixer.FastMixer.{the_view}
use Rattle.af_fast.specs.Mixer.{MixerState, IsInOrderAfter, is_over}
use Rattle.af_fast.specs.Mixing.{AddsCycleAfter}
use Rattle.af_fast.proofs.Added.{Comes, few_counted, few_reports, log_open, still_step}
use Rattle.af_fast.proofs.mixer.FastMixer.add_still.Goals as goal

pub note-requires : goal.note-requires
note-requires g c =
    let m : MixerState = the_view c.self.inside in
    let k = subst (IsInOrderAfter c.requires.order.earlier) (sym c.self.view_is) c.requires.order.order in
    let goes : is_over m ≡ false = ap is_over c.self.view_is ∙ c.requires.goes in
    let linked = c.requires.linked in
    record {
      kept = (λ same. subst (λ (y : MixerState). y.last ≡ y.observer.current) (sym c.self.view_is) (c.has_kept-kept.ensures same));
      order = k.observer;
      cell = ap (λ (y : MixerState). y.writer.cell) c.self.view_is ∙ linked.report_is;
      room = omega (arith, log_open m k goes, k.room.entries);
      later = k.reports.number ∙ sym k.forgotten.counted;
      few = (few_counted m k goes, few_reports m k goes);
    }

-- what the call comes to, whatever was forgotten
pub returns : goal.returns
returns g c =
    let m : MixerState = the_view c.self.inside in
    let goes : is_over m ≡ false = ap is_over c.self.view_is ∙ c.requires.goes in
    let kind_is : c.args.kind ≡ cycle_of m.cold m.observer.current =
    c.requires.kind ∙ ap (λ (y : MixerState). cycle_of y.cold y.observer.current) (sym c.self.view_is) in
    let entry_is : c.still_entry-entry.result ≡ still_entry m.observer.past.number c.args.kind = c.still_entry-entry.ensures ∙ ap (λ n. still_entry n c.args.kind) c.number.ensures in
    let comes : (earlier : List CycleEntry) → IsInOrderAfter earlier c.args.self.now → Comes earlier m c.note.new.self c.args.kind c.still_entry-entry.result =
    (λ earlier k. still_step earlier m c.note.new.self c.still_entry-entry.result c.args.kind (subst (IsInOrderAfter earlier) (sym c.self.view_is) k) goes kind_is c.requires.still entry_is c.note.ensures.notes c.note.ensures.reports) in
    record {
      linked = search (rules);
      order = (λ earlier k. (comes earlier k).0);
      turn = ap (λ (y : MixerState). y.adopted) c.note.ensures.notes;
      sizes = search (rules);
      adds = (λ earlier k.
          subst (λ (y : MixerState). (entry : CycleEntry) × (c.args.kind ≡ entry.cycle) × AddsCycleAfter earlier y c.note.new.self entry) c.self.view_is (c.still_entry-entry.result, (comes earlier k).1, (comes earlier k).2));
      steps = c.note.ensures.steps;
      state = ap (λ (y : MixerState). y.observer.past) c.note.ensures.notes ∙ ap (λ (y : MixerState). y.observer.past) c.self.view_is;
    }
