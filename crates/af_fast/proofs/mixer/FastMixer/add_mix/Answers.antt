use Rattle.std.proofs.Common.{rules, ◌≡◌, ◌+◌, ◌*◌, ◌≤◌, ◌<◌, Option, List, Some, false, true≢false, length, refl, sym, ap, subst, ◌∙◌, arith}
use Rattle.af_fast.proofs.Common.{CycleEntry, FastState, Frame, Observes, ServerState, StreamNames, cycle_of, last_cycle, mix, still_entry, takes_of, tracks_of}
use Rattle.af_base.specs.declared.log.Cycle.TheVariants as cycle
use Rattle.af_fast.specs.contracts.mixer.FastMixer.{the_view}
use Rattle.af_fast.specs.Mixer.{MixerState, IsInOrderAfter, AreFew, is_over, most_entries}
use Rattle.af_fast.specs.Mixing.{AddsCycleAfter, StoresReport, Writes, notes}
use Rattle.af_fast.proofs.Added.{Comes, mixed_some, few_counted, few_reports, log_open, mix_step, room_one}
use Rattle.af_fast.proofs.Counted.{mixed_few}
use Rattle.af_fast.proofs.mixer.FastMixer.add_mix.Goals as goal

pub mix_slots-requires : goal.mix_slots-requires
mix_slots-requires g c =
    let m : MixerState = the_view c.self.inside in
    let k = subst (IsInOrderAfter c.requires.order.earlier) (sym c.self.view_is) c.requires.order.order in
    let goes : is_over m ≡ false = ap is_over c.self.view_is ∙ c.requires.goes in
    record {
      some = mixed_some m k (c.requires.mixed ∙ ap (λ (y : MixerState). cycle_of y.cold y.observer.current) (sym c.self.view_is));
      order = k.observer;
      names = search (rules);
      made = search (rules);
      frames = (omega (arith, k.room.sized), omega (arith, k.room.sized));
      room = room_one m k goes;
      out = c.requires.out ∙ sym (ap (λ (y : MixerState). y.frames) c.self.view_is);
      entry = c.still_entry-entry.ensures ∙ ap (λ n. still_entry n cycle.Mixed) c.number.ensures;
    }

pub note-requires : goal.note-requires
note-requires g c =
    let m : MixerState = the_view c.self.inside in
    let k = subst (IsInOrderAfter c.requires.order.earlier) (sym c.self.view_is) c.requires.order.order in
    let goes : is_over m ≡ false = ap is_over c.self.view_is ∙ c.requires.goes in
    let mixed = c.mix_slots.ensures in
    let same = sym mixed.same in
    record {
      kept = (λ yes.
          ap (λ (y : MixerState). y.last) mixed.same
          ∙ subst (λ (y : MixerState). y.last ≡ y.observer.current) (sym c.self.view_is) (c.has_kept-kept.ensures yes)
          ∙ sym (ap (λ (y : Observes ServerState StreamNames). y.current) mixed.plays.same));
      order = mixed.order;
      cell = search (rules);
      room = omega (arith, log_open m k goes, k.room.entries, ap length mixed.log.0, mixed.log.1);
      later = subst (λ (y : MixerState). last_cycle y.writer.events ≡ y.count) same (k.reports.number ∙ sym k.forgotten.counted);
      few = subst (λ (y : MixerState). (y.count < most_entries) × AreFew most_entries y.reports) same (few_counted m k goes, few_reports m k goes);
    }

pub returns : goal.returns
returns g c =
    let m : MixerState = the_view c.self.inside in
    let x : FastState = m.observer.past.state in
    let k = subst (IsInOrderAfter c.requires.order.earlier) (sym c.self.view_is) c.requires.order.order in
    let goes : is_over m ≡ false = ap is_over c.self.view_is ∙ c.requires.goes in
    let kind_now : cycle.Mixed ≡ cycle_of m.cold m.observer.current = c.requires.mixed ∙ ap (λ (y : MixerState). cycle_of y.cold y.observer.current) (sym c.self.view_is) in
    let current_is : m.observer.current ≡ Some x = k.observer.told.state (mixed_some m k kind_now) in
    let kind_is : cycle.Mixed ≡ cycle_of m.cold (Some x) = kind_now ∙ ap (cycle_of m.cold) current_is in
    let mixed = c.mix_slots.ensures in
    let current_still : c.mix_slots.new.self.observer.current ≡ Some x = ap (λ (y : Observes ServerState StreamNames). y.current) mixed.plays.same ∙ current_is in
    let noted = subst (λ (y : Option FastState). c.note.new.self ≡ notes y c.mix_slots.new.entry c.note.new.self.writer c.note.new.self.reports c.mix_slots.new.self) current_still c.note.ensures.notes in
    let stored = subst (λ (y : Option FastState). StoresReport y c.mix_slots.new.entry c.mix_slots.new.self c.note.new.self) current_still c.note.ensures.reports in
    let comes : (earlier : List CycleEntry) → IsInOrderAfter earlier c.args.self.now → Comes earlier m c.note.new.self cycle.Mixed c.mix_slots.new.entry =
    (λ earlier o. mix_step earlier m c.mix_slots.new.self c.note.new.self c.mix_slots.new.entry x cycle.Mixed (subst (IsInOrderAfter earlier) (sym c.self.view_is) o) goes current_is kind_is refl mixed.same mixed.order mixed.log mixed.plays noted stored) in
    let writes : Writes c.note.new.self c.mix_slots.new.entry c.args.out.now c.mix_slots.new.out =
    ((λ _. mixed.mixes ∙ ap (λ (fs : List Frame). mix (takes_of fs c.mix_slots.new.entry) (length c.args.out.now)) (sym (ap (λ (y : MixerState). y.log.frames) c.note.ensures.notes))), (λ dry. absurd (true≢false (sym mixed.plays.mixed ∙ dry)))) in
    record {
      linked = search (rules);
      order = (λ earlier o. (comes earlier o).0);
      turn = search (rules);
      sizes = search (rules);
      adds = (λ earlier o.
          subst (λ (y : MixerState). (entry : CycleEntry) × (cycle.Mixed ≡ entry.cycle) × AddsCycleAfter earlier y c.note.new.self entry × Writes c.note.new.self entry c.args.out.now c.mix_slots.new.out) c.self.view_is
          (c.mix_slots.new.entry, (comes earlier o).1, (comes earlier o).2, writes));
      length = search (rules);
      steps = subst (λ (y : MixerState). c.note.new.steps ≤ c.args.steps.now + (tracks_of y.observer.past.state + 1) * y.frames + 7 * tracks_of y.observer.past.state + 4) c.self.view_is
          (mixed_few (tracks_of x) m.frames c.args.steps.now c.mix_slots.new.steps c.note.new.steps mixed.steps c.note.ensures.steps);
      state = ap (λ (y : MixerState). y.observer.past) c.note.ensures.notes ∙ ap (λ (y : Observes ServerState StreamNames). y.past) mixed.plays.same ∙ ap (λ (y : MixerState). y.observer.past) c.self.view_is;
    }
