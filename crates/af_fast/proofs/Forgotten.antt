-- A mixer that forgot its log is in order, behind all entries of its life.
use Rattle.std.proofs.Common.{◌≡◌, ℕ, ◌+◌, ◌-◌, ◌*◌, ◌≤◌, ◌==◌, ◌||◌, eq-eqb, eqb-true, Bool, true, false, List, length, refl, sym, ap, subst, ◌∙◌, append-nil, arith}
use Rattle.af_fast.proofs.Common.{CycleEntry}
use Rattle.af_fast.specs.Mixer.{MixerState, UsesStates, KeepsEntries, Reported, IsInOrderAfter, adopted_states, all_entries, emptied, is_over, most_entries}

-- an empty log is full if it has room for no entry, and then it was full before
was_over : (exited : Bool) (n cycles : ℕ) → n ≤ cycles → (exited || (0 == cycles)) ≡ true → (exited || (n == cycles)) ≡ true
was_over true n cycles le over = refl
was_over false n cycles le over = let none : 0 ≡ cycles = eqb-true 0 cycles over in eq-eqb n cycles (omega (arith, none, le))

pub forgot_order : (earlier : List CycleEntry) (m : MixerState) → IsInOrderAfter earlier m → m.count + m.cycles ≤ most_entries → IsInOrderAfter (all_entries earlier m) (emptied m)
forgot_order earlier m k few =
    let all : List CycleEntry = all_entries earlier m in
    let whole : (m.cycles - 0) * m.frames ≡ m.cycles * m.frames = ap (λ a. a * m.frames) (let e : m.cycles - 0 ≡ m.cycles = omega arith in e) in
    let same : all ≡ all_entries all (emptied m) = sym (append-nil all) in
    record {
      observer = k.observer;
      begins = k.begins;
      room = record { sized = k.room.sized; entries = (omega arith, k.room.entries.1); rest = omega (arith, k.forgotten.room, whole) };
      uses = subst (λ (es : List CycleEntry). UsesStates m.observer.past.number es m.adopted (is_over (emptied m))) same
          (record { used = k.uses.used; low = k.uses.low; high = k.uses.high; still = k.uses.still; ended = (λ over. k.uses.ended (was_over m.exited (length m.log.entries) m.cycles k.room.entries.0 over)); few = k.uses.few });
      keeps = subst (λ (es : List CycleEntry). KeepsEntries (adopted_states m) es m.exited m.cold m.last) same k.keeps;
      reports = subst (λ (es : List CycleEntry). Reported (length es) m.writer.events m.reports) same k.reports;
      forgotten = record { counted = k.forgotten.counted ∙ ap length same; most = omega (arith, k.forgotten.counted, few); room = k.forgotten.room };
    }
