use Rattle.std.proofs.Common.{◌≡◌, ℕ, List, ◌++◌, [], ◌∷◌, length, reverse, take, drop, sym, ap, ◌∙◌, arith, length-append}
use Rattle.af_normal.proofs.Common.{Roomy, drop-append-le, nil_from_length, take-append-le}
use Rattle.af_normal.proofs.Beginning.{one_back, all_back}
use Rattle.af_normal.proofs.turn.give_back.Goals as goal

pub loop-moved-preserved : goal.loop-moved-preserved
loop-moved-preserved g c =
    let popped = c.in-Some.ensures in
    let pushed = c.push.ensures in
    let inv = c.loop-moved.invariant in
    let items = ap (λ (r : Roomy g.row.T.Denot). r.items) popped in
    let more = ap (λ (r : Roomy g.row.T.Denot). r.items) pushed in
    record {
      from = ap (λ (r : ℕ). record { items = c.pop.new.self.items; room = r }) (sym (ap (λ (r : Roomy g.row.T.Denot). r.room) popped) ∙ ap (λ (r : Roomy g.row.T.Denot). r.room) inv.from);
      to = ap (λ (r : ℕ). record { items = c.push.new.self.items; room = r }) (ap (λ (r : Roomy g.row.T.Denot). r.room) pushed ∙ ap (λ (r : Roomy g.row.T.Denot). r.room) inv.to);
      front = ap (take (length c.args.to.now.items)) more ∙ take-append-le (length c.args.to.now.items) c.loop-moved.to.items (c.in-Some.item ∷ []) (omega (arith, inv.long)) ∙ inv.front;
      rest = ap (λ (xs : List g.row.T.Denot). c.pop.new.self.items ++ reverse xs) (ap (drop (length c.args.to.now.items)) more ∙ drop-append-le (length c.args.to.now.items) c.loop-moved.to.items (c.in-Some.item ∷ []) (omega (arith, inv.long)))
          ∙ one_back c.args.from.now.items c.pop.new.self.items c.loop-moved.from.items (drop (length c.args.to.now.items) c.loop-moved.to.items) c.in-Some.item items inv.rest;
      left = omega (arith, inv.left, ap (λ (xs : List g.row.T.Denot). length xs) items, length-append c.pop.new.self.items (c.in-Some.item ∷ []));
      long = omega (arith, inv.long, ap (λ (xs : List g.row.T.Denot). length xs) more, length-append c.loop-moved.to.items (c.in-Some.item ∷ []));
    }

pub returns : goal.returns
returns g c =
    let inv = c.loop-moved.invariant in
    let ended = ap (λ (xs : List g.row.T.Denot). length xs) c.as_slice-moved-end.ensures in
    let none : length c.loop-moved.from.items ≡ 0 = omega (arith, inv.left, ended, c.loop-moved-test.false) in
    record {
      empty = inv.from ∙ ap (λ (xs : List g.row.T.Denot). record { items = xs; room = c.args.from.now.room }) (nil_from_length c.loop-moved.from.items none);
      moved = inv.to ∙ ap (λ (xs : List g.row.T.Denot). record { items = xs; room = c.args.to.now.room }) (all_back c.args.from.now.items c.loop-moved.from.items c.args.to.now.items c.loop-moved.to.items none inv.rest inv.front);
    }
