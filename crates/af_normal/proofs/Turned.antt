-- A turn as a whole keeps the order.
use Rattle.std.proofs.Common.{◌≡◌, ℕ, ◌&&◌, ◌==◌, not, if◌then◌else◌, Bool, false, MatchBool, length, sym, ap, ◌∙◌}
use Rattle.af_normal.proofs.Common.{InDraft, Links, Mutates, Push, Report, ServerState, StreamNames, Turn, WasAcked, commands_exit, length-map, take_seen, turn_of}
use Rattle.af_normal.specs.declared.turn.Turn.{Turn as Answer}
use Rattle.af_normal.specs.declared.turn.Turn.TheVariants.{Turned, Ended, Spent}
use Rattle.af_normal.specs.Coming.{WelcomesTo}
use Rattle.af_normal.specs.Order.{IsGoing, IsInOrder}
use Rattle.af_normal.specs.State.{NormalState}
use Rattle.af_normal.specs.TurnMade.{Does, GoesOnBy, TurnsBy, WentOn, answer_of}
use Rattle.af_normal.specs.Turning.{SeesAck, stream_fits, with_mutator}
use Rattle.af_normal.proofs.LegalMade.{IsMade}
use Rattle.af_normal.proofs.Edited.{all_only}
use Rattle.af_normal.proofs.OrderLast.{order_done}
use Rattle.af_normal.proofs.OrderStages.{acked_same}

module _ (links : Links) (t : ℕ) (x : NormalState) (going : IsGoing links t x) (ack : Bool) (m : Mutates ServerState StreamNames) (acked : WasAcked x.mutator ack m) (held : InDraft stream_fits m)
    (home : NormalState) (comes : MatchBool ack (WelcomesTo (length x.tracks) (with_mutator m x) home) (home ≡ with_mutator m x)) where
  abbrev pub seen : SeesAck ack x home
  seen = record { mutator = m; acked = acked; held = held; comes = comes }

  module _ (lives : x.ended ≡ false) (no_exit : (commands_exit x.mutator.past.last && ack) ≡ false) (report : Report) (room : ℕ) (push : Push) (y : NormalState) (went : WentOn links ack report room push home y) where
    abbrev by : GoesOnBy ack report room push x y
    by = record { home = home; sees = seen; rest = went.goes }

    abbrev pub made : IsMade links t x ack report room push y
    made = record { going = going; goes_on = by; own = went.own }

    pub in_order : IsInOrder links y
    in_order = order_done links t x ack report room push y made lives no_exit went.streams went.turns went.takes

    pub turns_by : TurnsBy push x y
    turns_by = record { ack = ack; report = report; room = room; lives = (lives, no_exit); goes_on = by }

    -- no turn more was counted
    pub turns_same : y.turns ≡ x.turns
    turns_same = let g = went.goes in ap (λ (w : NormalState). w.turns) g.leaves ∙ ap (λ (w : NormalState). w.turns) g.plays.same ∙ ap (λ (w : NormalState). w.turns) g.pushes.same
        ∙ ap (λ (w : NormalState). w.turns) (all_only room g.served g.edited g.edits) ∙ ap (λ (w : NormalState). w.turns) g.serves.same ∙ ap (λ (w : NormalState). w.turns) g.learns.same
        ∙ ap (λ (w : NormalState). w.turns) (acked_same links ack x home going.tied seen).0

-- the answer is that of the entry
pub answer_is : (answer : Answer) (x y : NormalState) → Does answer x y → answer ≡ answer_of (turn_of y.entry)
answer_is Ended x y stops = sym (ap answer_of stops.tells)
answer_is Spent x y none = absurd none
answer_is (Turned mixed push) x y turns =
    let g = turns.0.goes_on.rest in
    let none : (turn_of y.entry).ended ≡ false = ap (λ (e : Turn). e.ended) g.tells in
    let pushed : (turn_of y.entry).push ≡ push = ap (λ (e : Turn). e.push) g.tells in
    let count : mixed ≡ not (length (turn_of y.entry).mixes == 0) = turns.1 ∙ ap (λ (n : ℕ). not (n == 0)) (sym (length-map y.entry.mixes.items take_seen)) in
    (λ j. Turned (count j) (sym pushed j)) ∙ ap (λ (b : Bool). if b then Ended else Turned (not (length (turn_of y.entry).mixes == 0)) (turn_of y.entry).push) (sym none)
