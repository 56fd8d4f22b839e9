-- A turn of a mixer that has ended adds nothing.
use Rattle.std.proofs.Common.{◌≡◌, Bool, true, false, if◌then◌else◌, ◌||◌, ◌&&◌, not, ◌==◌, length, refl, ap, ◌∙◌, List, [], ◌++◌, append-nil}
use Rattle.af_base.specs.declared.state.Push.{Push}
use Rattle.af_base.specs.Turn.{Turn, ended_turn, turn_of}
use Rattle.af_life.specs.Heard.{learnt}
use Rattle.af_life.specs.Kept.{Setup, Learnt, NormalKept, Outside}
use Rattle.af_life.specs.Edits.{commands_exit}
use Rattle.af_life.specs.Turn.{turn_after}
use Rattle.af_normal.specs.LegalTurned.{IsLegal}
use Rattle.af_normal.specs.State.{NormalState, setup_of, kept_of}
use Rattle.af_normal.specs.TurnMade.{answer_of}
use Rattle.af_normal.specs.declared.turn.Turn.TheVariants.{Turned, Ended}

-- an ended turn leaves an ended mixer
ended_after : (c : Setup) (k : Learnt) (m : NormalKept) (e : Turn) → e.ended ≡ true → (turn_after c k m e).ended ≡ true
unfolding turn_after
ended_after c k m e is = rw is refl

-- an ended turn answers so, and no other does
pub answers_end : (e : Turn) → e.ended ≡ true → answer_of e ≡ Ended
answers_end e is = ap (λ (b : Bool). if b then Ended else Turned (not (length e.mixes == 0)) e.push) is

ends_if : (b m : Bool) (p : Push) → (if b then Ended else Turned m p) ≡ Ended → b ≡ true
ends_if true m p e = refl
ends_if false m p e = cc

pub ends_by_answer : (e : Turn) → answer_of e ≡ Ended → e.ended ≡ true
ends_by_answer e is = ends_if e.ended (not (length e.mixes == 0)) e.push is

none_if : {X : Type 0} (b : Bool) (xs : List X) → b ≡ true → (if b then [] else xs) ≡ []
none_if b xs e = ap (λ (v : Bool). if v then [] else xs) e

none_more : {X : Type 0} (xs ys zs : List X) (b : Bool) → b ≡ true → ys ≡ xs ++ (if b then [] else zs) → ys ≡ xs
none_more xs ys zs b e is = is ∙ ap (λ l. xs ++ l) (none_if b zs e) ∙ append-nil xs

module _ (o : Outside) (x y : NormalState) (legal : IsLegal o x y) where
  pub ended_by : y.entry.ended ≡ true → y.ended ≡ true
  ended_by is = ap (λ (k : NormalKept). k.ended) legal.leaves ∙ ended_after (setup_of x) (learnt o) (kept_of x) (turn_of y.entry) is

  module _ (was : x.ended ≡ true) where
    pub ended_again : y.entry.ended ≡ true
    ended_again = legal.legal.ends ∙ ap (λ (b : Bool). b || (commands_exit x.mutator.past.last && y.entry.ack)) was

    pub tells_end : turn_of y.entry ≡ ended_turn
    tells_end = legal.legal.still ended_again

    pub mutator_same : y.mutator.past.events ≡ x.mutator.past.events
    mutator_same = none_more x.mutator.past.events y.mutator.past.events _ x.ended was legal.lists.mutator

    pub reader_same : y.reader.events ≡ x.reader.events
    reader_same = none_more x.reader.events y.reader.events _ y.entry.ended ended_again legal.lists.reader.1

    pub pipe_same : y.pipe.pass.part.events ≡ x.pipe.pass.part.events
    pipe_same = none_more x.pipe.pass.part.events y.pipe.pass.part.events _ y.entry.ended ended_again legal.lists.pipe.1
