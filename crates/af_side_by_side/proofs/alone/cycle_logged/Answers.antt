use Rattle.std.proofs.Common.{◌≡◌, ◌<◌, ℕ, length, sym, ap, subst, ◌∙◌, arith, rules}
use Rattle.af_side_by_side.proofs.Common.{CyclesOnce, HasAdded, HasLogged, IsScribe, KeepsRoom, Logged, MixerState, Room, shown_at, written}
use Rattle.af_side_by_side.proofs.ScribeTurns.{cycle_adds_up_to_one, last_kept, no_shorter, noted_none, one_longer}
use Rattle.af_side_by_side.proofs.alone.cycle_logged.Goals as goal

pub note_in-requires : goal.note_in-requires
note_in-requires c =
    let m : MixerState = c.args.fast.now in
    let call = c.cycle_once-cycle in
    let longer : length m.log.entries < length call.new.fast.log.entries =
    omega (arith, c.if-len-entries.true, c.len-entries.ensures, ap (λ (l : Logged). length l.entries) c.log.ensures, c.len.ensures, ap (λ (l : Logged). length l.entries) c.log-2.ensures) in
    let adds = cycle_adds_up_to_one c.args.links.now m call.new.fast call.result (written call.result call.new.room.buffer.items) call.ensures.cycle in
    let room = call.ensures.can.order.room in
    record {
      ledger = search rules;
      some = omega (arith, longer);
      few = omega (arith, room.entries.0, room.sized.2);
      kept = last_kept m call.new.fast adds longer;
      frames = omega (arith, c.len-frames.ensures, c.args.room.now.buffer.ok.0, c.requires.room.buffer, call.ensures.cycle.sizes.0);
      scribe = subst (λ (n : ℕ). IsScribe c.args.log.now n c.args.scribe.now) (sym (one_longer m call.new.fast adds longer)) c.requires.log;
    }

-- a note leaves all of the room but its tally
pub returns-then-len-entries : goal.returns-then-len-entries
returns-then-len-entries c =
    let m : MixerState = c.args.fast.now in
    let call = c.cycle_once-cycle in
    let did = call.ensures in
    let note = c.note_in.ensures in
    let longer : length m.log.entries < length call.new.fast.log.entries =
    omega (arith, c.if-len-entries.true, c.len-entries.ensures, ap (λ (l : Logged). length l.entries) c.log.ensures, c.len.ensures, ap (λ (l : Logged). length l.entries) c.log-2.ensures) in
    let one = one_longer m call.new.fast (cycle_adds_up_to_one c.args.links.now m call.new.fast call.result
    (written call.result call.new.room.buffer.items) did.cycle) longer in
    let all = subst (λ (r : Room). CyclesOnce c.args.links.now m call.result (written call.result r.buffer.items) call.new.fast × HasAdded c.args.room.now
    (written call.result r.buffer.items) r × KeepsRoom c.args.room.now r) (sym note.room)
    (did.cycle, did.bytes, record { buffer = did.kept.buffer; bytes = did.kept.bytes; released = did.kept.released }) in
    record {
      can = did.can;
      cycle = all.0;
      bytes = all.1;
      noted = record {
        follows = (λ first tracks rounds is. note.tally (shown_at first tracks rounds call.new.fast) (did.noted.follows first tracks rounds is));
        places = (λ n tracks held. let p = did.noted.places n tracks held in record {
          tracks_are = note.keeps.tracks ∙ p.tracks_are;
          looks = (let before = p.looks in let after = note.keeps.looks in omega arith);
          cycles = (let before = p.cycles in let after = note.keeps.cycles in omega arith);
        });
      };
      kept = all.2;
      scribe = note.scribe;
      logged = subst (λ (n : ℕ). HasLogged n call.new.fast c.args.scribe.now c.note_in.new.scribe) one note.logged;
    }

pub returns-else-len-entries : goal.returns-else-len-entries
returns-else-len-entries c =
    let m : MixerState = c.args.fast.now in
    let call = c.cycle_once-cycle in
    let did = call.ensures in
    let adds = no_shorter m call.new.fast (cycle_adds_up_to_one c.args.links.now m call.new.fast call.result
    (written call.result call.new.room.buffer.items) did.cycle) in
    let same : length m.log.entries ≡ length call.new.fast.log.entries =
    omega (arith, adds, c.if-len-entries.false, c.len-entries.ensures, ap (λ (l : Logged). length l.entries) c.log.ensures, c.len.ensures, ap (λ (l : Logged). length l.entries) c.log-2.ensures) in
    record {
      can = did.can;
      cycle = did.cycle;
      bytes = did.bytes;
      noted = did.noted;
      kept = did.kept;
      scribe = subst (λ (n : ℕ). IsScribe c.args.log.now n c.args.scribe.now) same c.requires.log;
      logged = noted_none (length m.log.entries) call.new.fast c.args.scribe.now same;
    }
