use Rattle.std.proofs.Common.{◌≡◌, ℕ, suc, ◌+◌, ◌-◌, ◌*◌, ◌≤◌, ◌<◌, true, false, length, sym, ap, subst, refl, ◌∙◌, arith}
use Rattle.af_fast.proofs.Common.{CycleEntry, FastState, IsState, Observes, ServerState, SlotEntry, StreamNames, carries, slots, taken_before, tracks_below, with_slot}
use Rattle.af_fast.specs.Slots.{IsMarked, IsQuietFrom, LogsSlot, PlayedTo, PlaysSlots}
use Rattle.af_fast.proofs.SlotSteps.{slot_step, rest_all}
use Rattle.af_fast.proofs.SlotsDone.{begins, ends, room_for, taken_few}
use Rattle.af_fast.proofs.Counted.{slot_counted, all_below}
use Rattle.af_fast.proofs.Quiet.{quiet_from, some_used, tracks_stay}
use Rattle.af_fast.proofs.slots.play_slots.Goals as goal

pub mark_entry-requires-clause-used : goal.mark_entry-requires-clause-used
mark_entry-requires-clause-used g c = (
  some_used c.in-Some.state.now c.slots_in-used.result (subst IsState (sym c.in-Some.ensures.1) c.requires.order.state) c.slots_in-used.ensures.rest,
  c.slots_in-used.ensures.few,
)

pub mark_entry-requires-clause-quiet : goal.mark_entry-requires-clause-quiet
mark_entry-requires-clause-quiet g c = quiet_from c.in-Some.state.now c.slots_in-used.result c.slots_in-used.ensures.rest

pub loop-slot-init : goal.loop-slot-init
loop-slot-init g c =
    let marked = subst (λ (x : FastState). IsMarked c.args.entry.now.state x c.mark_entry.new.entry) c.in-Some.ensures.1 c.mark_entry.ensures in
    record {
      low = omega arith;
      played = begins (length c.args.buffer.now) c.args.entry.now.state c.args.observer.now.past.state c.args.observer.now c.args.pipe.now c.log_pipe.new.pipe c.args.log.now.frames c.log_pipe.new.log.frames c.mark_entry.new.entry c.log_pipe.result marked c.log_pipe.ensures.logs;
      order = c.requires.order;
      log_is = c.log_pipe.ensures.log;
      stepped = omega (arith, c.log_pipe.ensures.steps);
    }

pub play_slot-requires-clause-some : goal.play_slot-requires-clause-some
play_slot-requires-clause-some g c = subst (λ (o : Observes ServerState StreamNames). 0 < o.past.number) (sym c.loop-slot.invariant.played.same) c.requires.some

pub play_slot-requires-clause-room : goal.play_slot-requires-clause-room
play_slot-requires-clause-room g c =
    let p = c.loop-slot.invariant.played in
    let fits = room_for (length c.args.buffer.now) (length c.args.log.now.frames) (taken_before c.loop-slot.entry c.loop-slot.slot) c.loop-slot.slot c.args.log.now.frame_room
    (taken_few (length c.args.buffer.now) c.loop-slot.entry c.loop-slot.slot p.within) (omega (arith, c.slots_in-used.ensures.few)) c.requires.room in
    omega (arith, fits, p.total, c.loop-slot.auto.buffer, c.loop-slot.invariant.log_is)

pub loop-slot-preserved : goal.loop-slot-preserved
loop-slot-preserved g c =
    let asked : ℕ = length c.args.buffer.now in
    let i : ℕ = c.loop-slot.slot in
    let x : FastState = c.args.observer.now.past.state in
    let state_is : c.loop-slot.observer.past.state ≡ x = ap (λ (o : Observes ServerState StreamNames). o.past.state) c.loop-slot.invariant.played.same in
    let begun : CycleEntry = with_slot c.mark_entry.new.entry 0 c.log_pipe.result in
    let bound : ℕ = c.args.steps.now + (asked + 3) in
    let counted : c.play_slot.new.steps ≤ bound + tracks_below x (suc i) * (asked + 7) =
    slot_counted x i (asked + 7) c.play_slot.new.steps c.loop-slot.steps bound c.loop-slot.invariant.stepped
    (λ on. omega (arith, c.play_slot.ensures.steps, c.loop-slot.auto.buffer, c.log_pipe.auto.buffer))
    (subst (λ (y : FastState). carries y i ≡ false → c.play_slot.new.steps ≡ c.loop-slot.steps) state_is c.play_slot.ensures.none) in
    let next : suc i ≡ i + 1 = omega arith in
    let below : i < slots = omega (arith, c.slots_in-used.ensures.few) in
    record {
      low = omega arith;
      played = subst (λ (n : ℕ). PlayedTo asked x (length c.args.log.now.frames) c.args.observer.now c.play_slot.new.observer c.log_pipe.new.log.frames c.play_slot.new.log.frames begun c.play_slot.new.entry n) next (
          slot_step asked x (length c.args.log.now.frames) c.args.observer.now c.log_pipe.new.log.frames begun c.loop-slot.observer c.play_slot.new.observer c.loop-slot.log.frames c.play_slot.new.log.frames c.loop-slot.entry c.play_slot.new.entry i
          c.loop-slot.invariant.played (omega arith) below c.loop-slot.invariant.order.whole
          (subst (λ (y : ℕ × FastState). carries y.1 i ≡ true → (e : SlotEntry) × LogsSlot y.0 i c.loop-slot.observer c.play_slot.new.observer c.loop-slot.log.frames c.play_slot.new.log.frames e × (c.play_slot.new.entry ≡ with_slot c.loop-slot.entry i e))
          (λ k. ((c.loop-slot.auto.buffer ∙ c.log_pipe.auto.buffer) k, state_is k)) c.play_slot.ensures.plays)
          (subst (λ (y : FastState). carries y i ≡ false → (c.play_slot.new.observer ≡ c.loop-slot.observer) × (c.play_slot.new.log.frames ≡ c.loop-slot.log.frames) × (c.play_slot.new.entry ≡ c.loop-slot.entry)) state_is c.play_slot.ensures.rests)
          (carries x i) refl);
      order = c.play_slot.ensures.order;
      log_is = (
        c.play_slot.ensures.log.0 ∙ c.loop-slot.invariant.log_is.0,
        c.play_slot.ensures.log.1 ∙ c.loop-slot.invariant.log_is.1,
        omega (arith, c.play_slot.ensures.log, c.loop-slot.invariant.log_is),
      );
      stepped = subst (λ (n : ℕ). c.play_slot.new.steps ≤ bound + tracks_below x n * (asked + 7)) next counted;
    }

pub returns-clause-plays : goal.returns-clause-plays
returns-clause-plays g c =
    let asked : ℕ = length c.args.buffer.now in
    let i : ℕ = c.loop-slot.slot in
    let x : FastState = c.args.observer.now.past.state in
    let marked = subst (λ (y : FastState). IsMarked c.args.entry.now.state y c.mark_entry.new.entry) c.in-Some.ensures.1 c.mark_entry.ensures in
    let begun : CycleEntry = with_slot c.mark_entry.new.entry 0 c.log_pipe.result in
    let quiet = subst (λ (y : FastState). IsQuietFrom y c.slots_in-used.result) c.in-Some.ensures.1 (quiet_from c.in-Some.state.now c.slots_in-used.result c.slots_in-used.ensures.rest) in
    let some = some_used c.in-Some.state.now c.slots_in-used.result (subst IsState (sym c.in-Some.ensures.1) c.requires.order.state) c.slots_in-used.ensures.rest in
    let all : i + (slots - i) ≡ slots = omega (arith, some, c.slots_in-used.ensures.few) in
    let done : PlayedTo asked x (length c.args.log.now.frames) c.args.observer.now c.loop-slot.observer c.log_pipe.new.log.frames c.loop-slot.log.frames begun c.loop-slot.entry slots =
    subst (λ (n : ℕ). PlayedTo asked x (length c.args.log.now.frames) c.args.observer.now c.loop-slot.observer c.log_pipe.new.log.frames c.loop-slot.log.frames begun c.loop-slot.entry n) all
    (rest_all asked x (length c.args.log.now.frames) c.args.observer.now c.log_pipe.new.log.frames begun c.loop-slot.observer c.loop-slot.log.frames c.loop-slot.entry (slots - i) i c.loop-slot.invariant.played c.loop-slot.invariant.low (omega (arith, all)) (λ j le. quiet j (omega (arith, le)))) in
    subst (λ (n : ℕ). PlaysSlots asked n x c.args.observer.now c.loop-slot.observer c.args.pipe.now c.log_pipe.new.pipe c.args.log.now.frames c.loop-slot.log.frames c.loop-slot.entry) (ap (λ (e : CycleEntry). e.state) c.requires.still) (
    ends asked c.args.entry.now.state x c.args.observer.now c.args.pipe.now c.log_pipe.new.pipe c.args.log.now.frames c.log_pipe.new.log.frames c.mark_entry.new.entry c.log_pipe.result marked c.log_pipe.ensures.logs
    c.loop-slot.observer c.loop-slot.log.frames c.loop-slot.entry done)

pub returns-clause-used : goal.returns-clause-used
returns-clause-used g c = (
  some_used c.in-Some.state.now c.slots_in-used.result (subst IsState (sym c.in-Some.ensures.1) c.requires.order.state) c.slots_in-used.ensures.rest,
  c.slots_in-used.ensures.few,
)

pub returns-clause-quiet : goal.returns-clause-quiet
returns-clause-quiet g c =
    subst (λ (y : FastState). IsQuietFrom y c.slots_in-used.result) c.in-Some.ensures.1 (quiet_from c.in-Some.state.now c.slots_in-used.result c.slots_in-used.ensures.rest)

pub returns-clause-steps : goal.returns-clause-steps
returns-clause-steps g c =
    let asked : ℕ = length c.args.buffer.now in
    let i : ℕ = c.loop-slot.slot in
    let x : FastState = c.args.observer.now.past.state in
    let some = some_used c.in-Some.state.now c.slots_in-used.result (subst IsState (sym c.in-Some.ensures.1) c.requires.order.state) c.slots_in-used.ensures.rest in
    let quiet = subst (λ (y : FastState). IsQuietFrom y c.slots_in-used.result) c.in-Some.ensures.1 (quiet_from c.in-Some.state.now c.slots_in-used.result c.slots_in-used.ensures.rest) in
    let all : i + (slots - i) ≡ slots = omega (arith, some, c.slots_in-used.ensures.few) in
    let same : tracks_below x i ≡ tracks_below x slots = sym (tracks_stay x (slots - i) i (λ j le. quiet j (omega (arith, le)))) ∙ ap (tracks_below x) all in
    subst (λ (n : ℕ). c.loop-slot.steps ≤ c.args.steps.now + (asked + 3) + n * (asked + 7)) (same ∙ all_below x) c.loop-slot.invariant.stepped
