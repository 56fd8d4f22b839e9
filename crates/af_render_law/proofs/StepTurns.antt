-- Steps one after the other are turns of which the lists have histories, and no client has seen INVALID of a track that is found shut as its proxy comes home.
use Rattle.std.proofs.Common.{List, [], ◌∷◌}
use Rattle.af_render_law.proofs.Common.{AreListTurns, FindShutUnseen, Marks, RoundSeen, Run, Session, SessionState, TurnSpec, met_alone, run_alone, with_ends}
use Rattle.af_render_law.proofs.OwnKept.{ToldBy}
use Rattle.af_render_law.proofs.Chain.{StepIsTold}
use Rattle.std.specs.Prelude.{◌≡◌}

-- the rounds are turns of one party each, one after the other, up to the session y
abbrev pub AreSteps : Session → Marks → Run → List TurnSpec → List RoundSeen → SessionState → Type 0
AreSteps s marks run [] rounds y = (rounds ≡ []) × ToldBy s run y
AreSteps s marks run (turn ∷ turns) [] y = ⊥
AreSteps s marks run (turn ∷ turns) (round ∷ rounds) y = (m : SessionState) × StepIsTold s marks run turn round m × AreSteps s marks (with_ends (met_alone s run turn round)) turns rounds y

pub steps_turns : (s : Session) (marks : Marks) (run : Run) (turns : List TurnSpec) (rounds : List RoundSeen) (y : SessionState) → AreSteps s marks run turns rounds y → AreListTurns s marks run turns rounds × FindShutUnseen s run turns rounds × ToldBy s (run_alone s run turns rounds) y
steps_turns s marks run [] rounds y are = (are.0, tt, are.1)
steps_turns s marks run (turn ∷ turns) [] y are = absurd are
steps_turns s marks run (turn ∷ turns) (round ∷ rounds) y are =
    let rest = steps_turns s marks (with_ends (met_alone s run turn round)) turns rounds y are.2 in
    ((are.1.made, are.1.histories, rest.0), (are.1.unseen, rest.1), rest.2)
