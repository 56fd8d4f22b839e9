use Rattle.std.proofs.Common.{◌≡◌, ℕ, ◌+◌, ◌*◌, ◌≤◌, ◌^◌, List, map, sym, ap, ◌∙◌, subst, length, arith}
use Rattle.af_life.proofs.Common.{NormalTake, Turn, take_seen, turn_of}
use Rattle.af_life.specs.Kept.{Learnt}
use Rattle.af_life.specs.Edits.{after_ack, edited_to, commanded_by, mutated, after_push}
use Rattle.af_life.specs.Plays.{after_takes}
use Rattle.af_life.specs.Turn.{after_tracks, after_edits}
use Rattle.af_life.specs.Small.{AreSmall, IsSmall, IsEdited, turn_weight, most_tracks}
use Rattle.af_life.specs.Plain.{Plain, learnt_of}
use Rattle.af_life.proofs.SmallTurns.{acked, served, whole, edits_made, edited_weighed, edited_few, push_small}
use Rattle.af_life.proofs.Smalls.{weaker}
use Rattle.af_life.proofs.Weights.{some_weight, up_to_weight}
use Rattle.af_life.proofs.plain.PlainMixer.go_on.Goals as goal

-- ## The steps of the turn, one after the other

module _ (k : Learnt) (e : Turn) where
  acks : Plain → Plain
  acks p = record p { kept = after_ack e.ack p.kept }

  serves : Plain → Plain
  serves p = record p { kept = after_tracks p.setup k e p.kept }

  edits : Plain → Plain
  edits p = record p { kept = edited_to p.setup k p.kept (length p.kept.tracks) }

  orders : Plain → Plain
  orders p = record p { kept = commanded_by p.setup e.room p.kept }

  pushes : Plain → Plain
  pushes p = record p { kept = after_push e.push p.kept }

  counts : Plain → Plain
  counts p = record p { kept = after_takes p.setup e.mixes p.kept }

pub serve_all-requires-clause-small : goal.serve_all-requires-clause-small
serve_all-requires-clause-small c = subst (λ (p : Plain). IsSmall p.turns p.setup p.kept) (sym c.see_ack.ensures) (acked c.args.self.now.setup c.args.self.now.turns c.args.entry.now.ack c.args.self.now.kept c.requires.small)

pub edit_all-requires-clause-turns : goal.edit_all-requires-clause-turns
unfolding acks serves
edit_all-requires-clause-turns c =
    let k : Learnt = learnt_of c.args.report.now c.args.own.now in let e : Turn = turn_of c.args.entry.now in let p : Plain = c.args.self.now in
    let is : c.serve_all.new.self ≡ serves k e (acks k e p) = c.serve_all.ensures ∙ ap (serves k e) c.see_ack.ensures in
    let same = ap (λ (q : Plain). q.turns) is in
    let turns = c.requires.turns in let some = some_weight e in
    omega arith

pub serve_all-requires-clause-turns : goal.serve_all-requires-clause-turns
serve_all-requires-clause-turns c = let same = ap (λ (q : Plain). q.turns) c.see_ack.ensures in let turns = c.requires.turns in omega arith

pub edit_all-requires-clause-sizes : goal.edit_all-requires-clause-sizes
unfolding acks serves
edit_all-requires-clause-sizes c =
    let k : Learnt = learnt_of c.args.report.now c.args.own.now in let e : Turn = turn_of c.args.entry.now in let p : Plain = c.args.self.now in
    let is : c.serve_all.new.self ≡ serves k e (acks k e p) = c.serve_all.ensures ∙ ap (serves k e) c.see_ack.ensures in
    let w = whole p.setup p.turns (turn_weight e) (some_weight e) k e p.kept c.requires.small (up_to_weight e c.requires.takes) in
    let tracks = ap (λ (q : Plain). length q.kept.tracks) is in
    let settings = ap (λ (q : Plain). length q.setup.settings) is in
    let own = c.requires.own in
    let before = c.requires.small.whole in
    let few = c.requires.small.sizes.2 in
    (omega arith, omega arith, omega arith)

pub edit_all-requires-clause-small : goal.edit_all-requires-clause-small
unfolding acks serves
edit_all-requires-clause-small c =
    let k : Learnt = learnt_of c.args.report.now c.args.own.now in let e : Turn = turn_of c.args.entry.now in let p : Plain = c.args.self.now in
    let is : c.serve_all.new.self ≡ serves k e (acks k e p) = c.serve_all.ensures ∙ ap (serves k e) c.see_ack.ensures in (
      65 * p.turns + 65 * turn_weight e,
      most_tracks * p.turns,
      subst (λ (q : Plain). IsEdited (65 * p.turns + 65 * turn_weight e) (most_tracks * p.turns) (most_tracks * q.turns) q.turns q.kept) (sym is)
          (served p.setup p.turns (turn_weight e) (some_weight e) k e (after_ack e.ack p.kept) (acked p.setup p.turns e.ack p.kept c.requires.small) (up_to_weight e c.requires.takes)),
    )

pub order-requires-clause-colds : goal.order-requires-clause-colds
unfolding acks serves edits
order-requires-clause-colds c =
    let k : Learnt = learnt_of c.args.report.now c.args.own.now in let e : Turn = turn_of c.args.entry.now in let p : Plain = c.args.self.now in
    let is : c.edit_all.new.self ≡ edits k e (serves k e (acks k e p)) = c.edit_all.ensures ∙ ap (edits k e) (c.serve_all.ensures ∙ ap (serves k e) c.see_ack.ensures) in
    let same = ap (λ (q : Plain). q.kept.draft.cold_gen) is in
    let few = (edits_made p.setup p.turns (turn_weight e) (some_weight e) k e p.kept c.requires.small (up_to_weight e c.requires.takes)).draft.colds in
    let turns = c.requires.turns in let some = some_weight e in
    omega arith

pub push-requires : goal.push-requires
unfolding acks serves edits orders mutated
push-requires c =
    let k : Learnt = learnt_of c.args.report.now c.args.own.now in let e : Turn = turn_of c.args.entry.now in let p : Plain = c.args.self.now in
    let is : c.order.new.self ≡ orders k e (edits k e (serves k e (acks k e p))) =
    c.order.ensures ∙ ap (orders k e) (c.edit_all.ensures ∙ ap (edits k e) (c.serve_all.ensures ∙ ap (serves k e) c.see_ack.ensures)) in
    let same = ap (λ (q : Plain). q.kept.pushed) is in
    let few : (after_edits p.setup k e p.kept).pushed ≤ p.turns = edited_few p.setup p.turns (turn_weight e) (some_weight e) k e p.kept c.requires.small (up_to_weight e c.requires.takes) in
    let turns = c.requires.turns in let some = some_weight e in
    record { room = omega arith }

pub count_all-requires-clause-room : goal.count_all-requires-clause-room
unfolding acks serves edits orders pushes mutated
count_all-requires-clause-room c =
    let k : Learnt = learnt_of c.args.report.now c.args.own.now in let e : Turn = turn_of c.args.entry.now in let p : Plain = c.args.self.now in
    let is : c.push.new.self ≡ pushes k e (orders k e (edits k e (serves k e (acks k e p)))) =
    c.push.ensures ∙ ap (pushes k e) (c.order.ensures ∙ ap (orders k e) (c.edit_all.ensures ∙ ap (edits k e) (c.serve_all.ensures ∙ ap (serves k e) c.see_ack.ensures))) in
    let n : ℕ = 65 * p.turns + 65 * turn_weight e in
    let turns = c.requires.turns in let some = some_weight e in
    let small = (push_small p.setup p.turns n (most_tracks * p.turns) (most_tracks * p.turns + most_tracks) (p.turns + 1) e.push (after_edits p.setup k e p.kept) (edited_weighed p.setup p.turns (turn_weight e) (some_weight e) k e p.kept c.requires.small (up_to_weight e c.requires.takes))).tracks in (
      n,
      subst (λ (q : Plain). AreSmall n (2 ^ 30) q.kept.tracks) (sym is) (λ (i : ℕ). weaker n (most_tracks * p.turns) n (2 ^ 30) _ (omega arith) (omega arith) (small i)),
    )

pub returns : goal.returns
unfolding acks serves edits orders pushes counts mutated
returns c =
    let k : Learnt = learnt_of c.args.report.now c.args.own.now in let e : Turn = turn_of c.args.entry.now in let p : Plain = c.args.self.now in
    let q : Plain = c.push.new.self in
    c.count_all.ensures
    ∙ ap (λ (takes : List NormalTake). record q { kept = after_takes q.setup (map take_seen takes) q.kept }) c.as_slice.ensures
    ∙ ap (counts k e) (c.push.ensures ∙ ap (pushes k e) (c.order.ensures ∙ ap (orders k e) (c.edit_all.ensures ∙ ap (edits k e) (c.serve_all.ensures ∙ ap (serves k e) c.see_ack.ensures))))
