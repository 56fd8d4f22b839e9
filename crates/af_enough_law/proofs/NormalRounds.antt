-- The normal mixer's turn in a legal round of a run.
use Rattle.std.proofs.Common.{◌≡◌, Bool, false, refl, sym, ap, ◌∙◌, Option, Some, None, MatchOption}
use Rattle.af_enough_law.proofs.Common.{Learnt, LegalRound, LegalTurnBy, Marks, NormalKept, Outside, RoundSeen, Run, Session, Turn, TurnFound, after_round, after_turn, all_played, before_turn, by_false, found_in, late_of, learnt, loaded, met_after, met_normal, outside_of, setup_of, turn_after, turned, with_cycles, with_load, with_turn}
use Rattle.af_enough_law.proofs.Basics.{before_normal, cycles_normal, ends_normal}

-- The turn that a round has: it is legal by what it finds, and leaves what the run has of the mixer after the round
pub record TurnMade (s : Session) (marks : Marks) (run : Run) (round : RoundSeen) : Type 0 where
  pub turn : Turn
  pub is : round.turn ≡ Some turn
  pub by : LegalTurnBy (setup_of s) marks (found_in s run round turn) run.normal turn
  pub after : (after_round s run round).normal ≡ turn_after (setup_of s) (learnt by.outside) run.normal turn
  pub sees : learnt by.outside ≡ learnt (outside_of (setup_of s) (found_in s run round turn) turn)

-- ## Only its turn changes what a run has of the mixer

loaded_normal : (turn : Option Turn) (run : Run) → (loaded turn run).normal ≡ run.normal
unfolding with_load
loaded_normal None run = refl
loaded_normal (Some e) run = refl

pub after_normal : (s : Session) (run : Run) (round : RoundSeen) → (after_round s run round).normal ≡ (after_turn s run round).normal
after_normal s run round = ends_normal (met_after s run round) ∙ met_normal s (all_played s run round) ∙ loaded_normal round.turn (with_cycles s (late_of run round) (after_turn s run round)) ∙ cycles_normal s (late_of run round) (after_turn s run round)

turned_normal : (s : Session) (found : Turn → TurnFound) (turn : Option Turn) (e : Turn) (run : Run) → turn ≡ Some e → (turned s found turn run).normal ≡ turn_after (setup_of s) (learnt (outside_of (setup_of s) (found e) e)) run.normal e
unfolding with_turn
turned_normal s found turn e run is = ap (λ (t : Option Turn). (turned s found t run).normal) is

-- ## The turn of a round

found_turn : (s : Session) (marks : Marks) (run : Run) (found : Turn → TurnFound) (turn : Option Turn) → MatchOption turn ⊥ (λ e. LegalTurnBy (setup_of s) marks (found e) run.normal e) → (e : Turn) × (turn ≡ Some e) × LegalTurnBy (setup_of s) marks (found e) run.normal e
found_turn s marks run found None l = absurd l
found_turn s marks run found (Some e) l = (e, refl, l)

-- a mixer that hasn't ended makes a turn in each legal round
pub turn_made : (cut : Bool) (s : Session) (marks : Marks) (run : Run) (round : RoundSeen) → LegalRound cut s marks run round → run.normal.ended ≡ false → TurnMade s marks run round
turn_made cut s marks run round legal runs =
    let found = found_turn s marks run (found_in s run round) round.turn (by_false (round.turn ≡ None) (MatchOption round.turn ⊥ (λ e. LegalTurnBy (setup_of s) marks (found_in s run round e) run.normal e)) run.normal.ended runs legal.turns.normal) in
    let e : Turn = found.0 in
    let o : Outside = outside_of (setup_of s) (found_in s run round e) e in
    let same : learnt found.2.outside ≡ learnt o = ap learnt found.2.found in record {
      turn = e;
      is = found.1;
      by = found.2;
      after = after_normal s run round ∙ turned_normal s (found_in s run round) round.turn e (before_turn s run round) found.1
          ∙ ap (λ (m : NormalKept). turn_after (setup_of s) (learnt o) m e) (before_normal s run round) ∙ ap (λ (k : Learnt). turn_after (setup_of s) k run.normal e) (sym same);
      sees = same;
    }
