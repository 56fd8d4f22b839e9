-- What holds of the slots that the draft and the last state carry is kept by a round, whatever the mixer found.
use Rattle.std.proofs.Common.{◌≡◌, ◌≤◌, All, length, Option, Some, None, sym, ap, subst, arith}
use Rattle.af_play_law.proofs.Common.{Carried, NormalKept, RoundSeen, Run, Session, Setting, Turn, TurnFound, after_round, after_same, before_same, before_turn, carried_turn, found_in, learnt, outside_of, setup_of, turned, with_turn}

module _ (s : Session) (scales : All (λ (t : Setting). t.scale ≤ 4096) (setup_of s).settings) where
  with_turn_carried : (f : TurnFound) (e : Turn) (run : Run) → length run.normal.tracks ≤ length (setup_of s).settings → Carried run.normal → Carried (with_turn s f e run).normal
  unfolding with_turn
  with_turn_carried f e run few h = carried_turn (setup_of s) scales (learnt (outside_of (setup_of s) f e)) run.normal e few h

  turned_carried : (found : Turn → TurnFound) (turn : Option Turn) (run : Run) → length run.normal.tracks ≤ length (setup_of s).settings → Carried run.normal → Carried (turned s found turn run).normal
  turned_carried found None run few h = h
  turned_carried found (Some e) run few h = with_turn_carried (found e) e run few h

  pub carried_round : (run : Run) (round : RoundSeen) → length run.normal.tracks ≤ length (setup_of s).settings → Carried run.normal → Carried (after_round s run round).normal
  carried_round run round few h =
      let same : (before_turn s run round).normal ≡ run.normal = (before_same s run round).normal in
      subst Carried (sym (after_same s run round).normal)
      (turned_carried (found_in s run round) round.turn (before_turn s run round) (let l = ap (λ (m : NormalKept). length m.tracks) same in omega (arith, l, few)) (subst Carried (sym same) h))
