-- The normal mixer's turn in a round: what is answered of it is whether it is legal, and what is kept follows it.
use Rattle.std.proofs.Common.{◌≡◌, ◌↔◌, ℕ, ◌&&◌, not, Bool, true, false, true≢false, is_some, refl, sym, ap, ◌∙◌, subst, List, length, Option, Some, None}
use Rattle.af_judge.proofs.Common.{IsTrue, IsTurn, LegalNormalTurn, LegalTurnBy, Marks, MatchBool, MatchOption, NormalKept, Report, RoundSeen, Run, Session, Turn, after_turn, before_turn, early_of, found_in, setup_of, turned, with_calls}
use Rattle.af_judge.specs.declared.track_judge.TrackJudge.{TrackJudge}
use Rattle.af_judge.specs.NormalJudged.{NormalJudged}
use Rattle.af_judge.specs.NormalTold.{IsRight}
use Rattle.af_judge.specs.RunTold.{KeepsTracks, NormalOf}
use Rattle.af_judge.specs.TurnJudged.{TurnJudged}
use Rattle.af_judge.proofs.Words.{FoundIn}
use Rattle.af_judge.proofs.EntriesFollow.{cycles_beside}
use Rattle.af_judge.proofs.StatesRuns.{before_same}
use Rattle.af_judge.proofs.TurnFollows.{turn_follows, turn_right}

-- entries leave the command blocks as they are
pub found_before_turn : (s : Session) (run : Run) (round : RoundSeen) (e : Turn) → FoundIn (found_in s run round e) (before_turn s run round)
found_before_turn s run round e = record {
  streams = (λ i. refl);
  commands = (λ i. sym ((cycles_beside s (early_of run round) (with_calls round run)).commands i));
}

module _ (s : Session) (marks : Marks) (W : ℕ → Type 0) (run : Run) (round : RoundSeen) (tracks : List TrackJudge) (j : NormalJudged) (normal : NormalOf s (before_turn s run round) j) where
  -- a turn of the round is legal
  abbrev Legal : Turn → Type 0
  Legal e = LegalTurnBy (setup_of s) marks (found_in s run round e) run.normal e

  normal_is : j.plain.kept ≡ run.normal
  normal_is = normal.kept ∙ (before_same s run round).normal

  ended_is : j.plain.kept.ended ≡ run.normal.ended
  ended_is = ap (λ (m : NormalKept). m.ended) normal_is

  -- ## A round without a turn

  pub no_turn_legal : round.turn ≡ None → IsTrue j.plain.kept.ended ↔ LegalNormalTurn s marks run round
  no_turn_legal none = by_end run.normal.ended ended_is
    where
      by_end : (b : Bool) → j.plain.kept.ended ≡ b → IsTrue j.plain.kept.ended ↔ MatchBool b (round.turn ≡ None) (MatchOption round.turn ⊥ (λ e. LegalTurnBy (setup_of s) marks (found_in s run round e) run.normal e))
      by_end true is = ((λ r. none), (λ l. is))
      by_end false is = ((λ r. absurd (true≢false (sym r ∙ is))), (λ l. absurd (subst (λ (o : Option Turn). MatchOption o ⊥ Legal) none l)))

  -- a round without a turn changes nothing
  pub no_turn_follows : round.turn ≡ None → KeepsTracks s marks W tracks (before_turn s run round) → KeepsTracks s marks W tracks (after_turn s run round) × NormalOf s (after_turn s run round) j
  no_turn_follows none keeps =
      let same : after_turn s run round ≡ before_turn s run round = ap (λ (o : Option Turn). turned s (found_in s run round) o (before_turn s run round)) none in
      (subst (KeepsTracks s marks W tracks) (sym same) keeps, subst (λ (r : Run). NormalOf s r j) (sym same) normal)

  -- ## A round with one

  module _ (keeps : KeepsTracks s marks W tracks (before_turn s run round)) (e : Turn) (is : round.turn ≡ Some e) (form : IsTurn (length tracks) e) where
    pub turn_legal : (report : Report) → report ≡ (found_in s run round e).report → (right : Bool) → IsTrue right ↔ IsRight j.plain.setup report tracks j.plain.kept e → IsTrue (right && not j.plain.kept.ended) ↔ LegalNormalTurn s marks run round
    turn_legal report loaded right judged = by_end run.normal.ended ended_is
      where
        exact : IsTrue right ↔ LegalTurnBy (setup_of s) marks (found_in s run round e) run.normal e
        exact = subst (λ (m : NormalKept). IsTrue right ↔ LegalTurnBy (setup_of s) marks (found_in s run round e) m e) (before_same s run round).normal
            (turn_right s marks W (before_turn s run round) (found_in s run round e) tracks keeps (found_before_turn s run round e) e j normal form right
            (subst (λ (r : Report). IsTrue right ↔ IsRight j.plain.setup r tracks j.plain.kept e) loaded judged))

        none_so : (b : Bool) → (b && false) ≡ false
        none_so true = refl
        none_so false = refl

        same_so : (b : Bool) → (b && true) ≡ b
        same_so true = refl
        same_so false = refl

        by_end : (b : Bool) → j.plain.kept.ended ≡ b → IsTrue (right && not j.plain.kept.ended) ↔ MatchBool b (round.turn ≡ None) (MatchOption round.turn ⊥ (λ e. LegalTurnBy (setup_of s) marks (found_in s run round e) run.normal e))
        by_end true ended = (
          (λ r. absurd (true≢false (sym r ∙ ap (λ (b : Bool). right && not b) ended ∙ none_so right))),
          (λ none. absurd (true≢false (ap is_some (sym is ∙ none)))),
        )
        by_end false ended =
            let same : (right && not j.plain.kept.ended) ≡ right = ap (λ (b : Bool). right && not b) ended ∙ same_so right in (
              (λ r. subst (λ (o : Option Turn). MatchOption o ⊥ Legal) (sym is) (exact.0 (sym same ∙ r))),
              (λ l. same ∙ exact.1 (subst (λ (o : Option Turn). MatchOption o ⊥ Legal) is l)),
            )

    pub turn_keeps : (report : Report) → report ≡ (found_in s run round e).report → (after : List TrackJudge) (next : NormalJudged) → TurnJudged report e tracks after j next → KeepsTracks s marks W after (after_turn s run round) × NormalOf s (after_turn s run round) next
    turn_keeps report loaded after next judged =
        let before : Run = before_turn s run round in
        let same : after_turn s run round ≡ turned s (found_in s run round) (Some e) before = ap (λ (o : Option Turn). turned s (found_in s run round) o before) is in
        let both = turn_follows s marks W before (found_in s run round e) tracks keeps (found_before_turn s run round e) e j normal form after next (subst (λ (r : Report). TurnJudged r e tracks after j next) loaded judged) in
        (subst (KeepsTracks s marks W after) (sym same) both.0, subst (λ (r : Run). NormalOf s r next) (sym same) both.1)
