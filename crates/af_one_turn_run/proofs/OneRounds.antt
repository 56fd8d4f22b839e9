-- Turn runs of which all rounds are told are the same.
use Rattle.std.proofs.Common.{◌≡◌, ℕ, true, List, [], ◌∷◌, sym, ◌∙◌, subst}
use Rattle.af_one_turn_run.proofs.Common.{AreTurns, IsScript, Marks, RoundSeen, Run, Session, TurnSpec, met_alone, with_ends}
use Rattle.af_one_turn_run.proofs.OneRound.{one_round}
use Rattle.af_one_turn_run.proofs.RoundFollows.{RoundReady, RoundTold, RoundForm, round_ready}

module _ (s : Session) (form : IsScript s.script) (many : ℕ) (frames : ℕ → List ℕ) where
  -- each round has its form, and all is told at its end
  abbrev pub AllTold : Run → List TurnSpec → List RoundSeen → Type 0
  AllTold run [] rounds = Unit {0}
  AllTold run (turn ∷ turns) [] = Unit {0}
  AllTold run (turn ∷ turns) (round ∷ rounds) = RoundForm many round × RoundTold s many frames (met_alone s run turn round) × AllTold (with_ends (met_alone s run turn round)) turns rounds

  pub one_rounds : (marks : Marks) (lawful : (n : ℕ) → marks.streams n ≡ true) (lawful_commands : (n : ℕ) → marks.commands n ≡ true) (run : Run) (turns : List TurnSpec) (rounds others : List RoundSeen) → RoundReady s many run
      → AreTurns s marks run turns rounds → AreTurns s marks run turns others → AllTold run turns rounds → AllTold run turns others → rounds ≡ others
  one_rounds marks lawful lawful_commands run [] rounds others h are are_others told told_others = are ∙ sym are_others
  one_rounds marks lawful lawful_commands run (turn ∷ turns) [] others h are are_others told told_others = absurd are
  one_rounds marks lawful lawful_commands run (turn ∷ turns) (a ∷ rounds) [] h are are_others told told_others = absurd are_others
  one_rounds marks lawful lawful_commands run (turn ∷ turns) (a ∷ rounds) (b ∷ others) h are are_others told told_others =
      let first : a ≡ b = one_round s form marks lawful lawful_commands many frames run h turn a b told.0 told_others.0 are.0 are_others.0 told.1 told_others.1 in
      let next = with_ends (met_alone s run turn a) in
      let rest = one_rounds marks lawful lawful_commands next turns rounds others (round_ready s form many frames run turn a told.0 h told.1.commands) are.2 (subst (λ z. AreTurns s marks (with_ends (met_alone s run turn z)) turns others) (sym first) are_others.2)
      told.2 (subst (λ z. AllTold (with_ends (met_alone s run turn z)) turns others) (sym first) told_others.2) in
      λ i. first i ∷ rest i
