use Rattle.std.proofs.Common.{rules, ◌≡◌, ◌∙◌, ap, sym, refl, cond, inl, inr, Some, ◌∷◌, []}
use Rattle.af_journal.proofs.Common.{Turn, ended_turn, turn_of}
use Rattle.af_journal.specs.declared.line.Line.TheVariants as line
use Rattle.af_journal.specs.Lines.{numbers}
use Rattle.af_journal.specs.Taken.{Leaves, open_lines}
use Rattle.af_journal.specs.Texts.{turns_lines}
use Rattle.af_journal.proofs.Leaving.{leaves-as, leaves-then}
use Rattle.af_journal.proofs.turn_reading.read_turn.Goals as goal

pub returns-in_ok-turn-in-Some-Turn-default : goal.returns-in_ok-turn-in-Some-Turn-default
returns-in_ok-turn-in-Some-Turn-default c =
    let x = c.in-Some-Turn-default in
    let t = c.in_ok-turn-in-Some-Turn-default.ensures in
    let e : Turn = t.0 in
    let a = c.args.left.now.rest.now in
    let d = c.read_open_turn.new.left.rest.now in
    let one : Leaves a (numbers (line.Turn x.room x.ack x.cycle) ∷ []) x.after.now = search rules in
    let same : numbers (line.Turn x.room x.ack x.cycle) ∷ open_lines e ≡ turns_lines (Some e) =
    (λ k. numbers (line.Turn (sym t.2 k) (sym t.3 k) (sym t.4 k)) ∷ open_lines e)
    ∙ ap (λ b. cond b (numbers line.Ended ∷ []) (numbers (line.Turn e.room e.ack e.cycle) ∷ open_lines e)) (sym t.5.open_is) in (
      Some e,
      ap Some t.1,
      inr t.5,
      leaves-as a d (numbers (line.Turn x.room x.ack x.cycle) ∷ open_lines e) (turns_lines (Some e)) same (leaves-then a x.after.now d (numbers (line.Turn x.room x.ack x.cycle) ∷ []) (open_lines e) one t.6),
    )

pub returns-in_ok-turn-in-Some-Ended-default : goal.returns-in_ok-turn-in-Some-Ended-default
returns-in_ok-turn-in-Some-Ended-default c =
    let turn = c.in_ok-turn-in-Some-Ended-default.turn in
    let is : turn_of turn ≡ ended_turn = search rules in
    let one : Leaves c.args.left.now.rest.now (numbers line.Ended ∷ []) c.in-Some-Ended-default.after.now = search rules in
    (Some ended_turn, ap Some is, inl refl, one)
