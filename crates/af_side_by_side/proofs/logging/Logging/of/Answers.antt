use Rattle.std.proofs.Common.{◌≡◌, ◌+◌, ◌≤◌, Bool, List, [], length, refl, sym, ap, ◌∙◌, arith}
use Rattle.af_side_by_side.proofs.Common.{All-nil, CycleEntry, Note, Roomy, most_cycles, notes_kept}
use Rattle.af_side_by_side.proofs.logging.Logging.of.Goals as goal

pub returns : goal.returns
returns c = λ m cycles none.
    let made = c.in_ok-block.ensures in
    let notes = c.in_ok-notes.ensures in
    let entries : length m.log.entries ≡ 0 = ap length none in
    let items : c.in_ok-notes.notes.items ≡ [] = ap (λ (x : Roomy Note). x.items) notes in
    let room : c.in_ok-notes.notes.room ≡ c.args.cycles + c.args.room = ap (λ (x : Roomy Note). x.room) notes in
    let empty = made.empty in
    let accepted_none = ap length empty.0 in
    let read_none = ap length empty.2 in
    record {
      block = c.in_ok-block.block;
      size = made.size.0;
      room_is = refl;
      ends = record { writer = c.in_ok-block.writer; reader = c.in_ok-block.reader; log = refl; scribe = refl; auditor = refl; made = made.made };
      logged = record {
        outcomes = [];
        each = refl;
        few = All-nil (λ (round : List Bool). length round ≤ most_cycles);
        all = sym entries;
        notes_are = empty.0 ∙ ap (λ (es : List CycleEntry). notes_kept m.frames 0 es []) (sym none);
        count = empty.1;
        noted = omega (arith, accepted_none, empty.1, entries);
        between = made.between;
        left = omega (arith, accepted_none, read_none);
        kept_is = items ∙ sym empty.2;
        space = omega (arith, room, cycles);
      };
    }
