-- The normal mixer of a run that a journal tells, and the states that it pushed, follow a mixer whose turns the journal has.
use Rattle.std.proofs.Common.{◌≡◌, Bool, true, false, if◌then◌else◌, MatchBool, List, [], ◌∷◌, ◌++◌, Option, Some, None, refl, sym, ap, subst, ◌∙◌}
use Rattle.af_entry_law.proofs.Common.{EntrySeen, FastState, Learnt, LegalNormalTurn, LegalTurn, LegalTurnBy, Marks, MatchOption, NormalKept, Outside, RoundSeen, Run, Session, Setup, Turn, TurnFound, after_edits, after_round, after_turn, before_turn, draft_after, each_track, early_of, ends, found_in, late_of, learnt, loaded, met, outside_of, pushed_by, setup_of, turn_after, turned, with_calls, with_cycle, with_cycles, with_ends, with_load, with_mix, with_poll, with_turn}
use Rattle.af_runs.specs.Told.{is_pushed}
use Rattle.af_entry_law.specs.Told.{mixer_told}
use Rattle.af_entry_law.proofs.SameTurns.{turns_same}

-- ## A round of a run

-- the mixer of a run, and the states that it pushed
abbrev Side : Type 0
Side = NormalKept × List FastState

abbrev side : Run → Side
side run = (run.normal, run.states)

-- the mixer and its states after a turn that found this
abbrev turned_side : Session → TurnFound → Turn → Side → Side
turned_side s f e x = let c = setup_of s in let o = outside_of c f e in (turn_after c (learnt o) x.0 e, x.1 ++ pushed_by c o x.0 e)

module _ (s : Session) where
  calls_side : (round : RoundSeen) (run : Run) → side (with_calls round run) ≡ side run
  unfolding with_calls
  calls_side round run = refl

  cycle_side : (run : Run) (e : EntrySeen) → side (with_cycle s run e) ≡ side run
  unfolding with_poll with_mix
  cycle_side run e = refl

  cycles_side : (entries : List EntrySeen) (run : Run) → side (with_cycles s entries run) ≡ side run
  cycles_side [] run = refl
  cycles_side (e ∷ entries) run = cycles_side entries (with_cycle s run e) ∙ cycle_side run e

  turn_side : (f : TurnFound) (e : Turn) (run : Run) → side (with_turn s f e run) ≡ turned_side s f e (side run)
  unfolding with_turn
  turn_side f e run = refl

  load_side : (o : Option Turn) (run : Run) → side (loaded o run) ≡ side run
  unfolding with_load
  load_side None run = refl
  load_side (Some e) run = refl

  met_side : (run : Run) → side (met s run) ≡ side run
  unfolding met
  met_side run = refl

  ends_side : (run : Run) → side (with_ends run) ≡ side run
  unfolding with_ends
  ends_side run = by_case run.normal.ended
    where
      by_case : (b : Bool) → side (if b then each_track (λ track t. record t { client = ends t.client }) run else run) ≡ side run
      by_case true = refl
      by_case false = refl

  module _ (run : Run) (round : RoundSeen) where
    before_side : side (before_turn s run round) ≡ side run
    before_side = cycles_side (early_of run round) (with_calls round run) ∙ calls_side round run

    -- what comes behind the turn leaves the mixer and its states
    behind_side : side (after_round s run round) ≡ side (after_turn s run round)
    behind_side =
        ends_side (met s (loaded round.turn (with_cycles s (late_of run round) (after_turn s run round))))
        ∙ met_side (loaded round.turn (with_cycles s (late_of run round) (after_turn s run round)))
        ∙ load_side round.turn (with_cycles s (late_of run round) (after_turn s run round))
        ∙ cycles_side (late_of run round) (after_turn s run round)

    none_side : round.turn ≡ None → side (after_round s run round) ≡ side run
    none_side is = behind_side ∙ ap (λ (o : Option Turn). side (turned s (found_in s run round) o (before_turn s run round))) is ∙ before_side

    some_side : (e : Turn) → round.turn ≡ Some e → side (after_round s run round) ≡ turned_side s (found_in s run round e) e (side run)
    some_side e is =
        behind_side
        ∙ ap (λ (o : Option Turn). side (turned s (found_in s run round) o (before_turn s run round))) is
        ∙ turn_side (found_in s run round e) e (before_turn s run round)
        ∙ ap (turned_side s (found_in s run round e) e) before_side

-- ## A mixer that is followed

-- what is told of m is told of the run's mixer, and these states are those of the run
pub record IsFollowed (m : NormalKept) (states : List FastState) (run : Run) : Type 0 where
  pub kept : mixer_told m ≡ mixer_told run.normal
  pub pushed : states ≡ run.states

followed_by : (m : NormalKept) (states : List FastState) (run : Run) (x : Side) → side run ≡ x → mixer_told m ≡ mixer_told x.0 → states ≡ x.1 → IsFollowed m states run
followed_by m states run x is kept pushed = record { kept = kept ∙ ap (λ (y : Side). mixer_told y.0) (sym is); pushed = pushed ∙ ap (λ (y : Side). y.1) (sym is) }

module _ (s : Session) (marks : Marks) (run : Run) (round : RoundSeen) (m : NormalKept) (states : List FastState) (is : IsFollowed m states run) (legal : LegalNormalTurn s marks run round) where
  abbrev c : Setup
  c = setup_of s

  same_end : run.normal.ended ≡ m.ended
  same_end = ap (λ (x : NormalKept). x.ended) (sym is.kept)

  -- a mixer that has ended makes no turn, and is followed
  pub rest_followed : m.ended ≡ true → IsFollowed m states (after_round s run round)
  rest_followed ended =
      let none : round.turn ≡ None = subst (λ (b : Bool). MatchBool b (round.turn ≡ None) (MatchOption round.turn ⊥ (λ e. LegalTurnBy c marks (found_in s run round e) run.normal e))) (same_end ∙ ended) legal in
      followed_by m states (after_round s run round) (side run) (none_side s run round none) is.kept is.pushed

  module _ (o : Outside) (e : Turn) (goes : m.ended ≡ false) (turn : round.turn ≡ Some e) (mine : LegalTurn c o m e) where
    abbrev f : TurnFound
    f = found_in s run round e

    told : LegalTurnBy c marks f run.normal e
    told = subst (λ (x : Option Turn). MatchOption x ⊥ (λ e. LegalTurnBy c marks (found_in s run round e) run.normal e)) turn
        (subst (λ (b : Bool). MatchBool b (round.turn ≡ None) (MatchOption round.turn ⊥ (λ e. LegalTurnBy c marks (found_in s run round e) run.normal e))) (same_end ∙ goes) legal)

    heard : learnt told.outside ≡ learnt (outside_of c f e)
    heard = ap learnt told.found

    edited : e.ended ≡ false → (after_edits c (learnt o) e m).draft ≡ draft_after c (outside_of c f e) run.normal e
    edited on = (turns_same c o told.outside m run.normal e is.kept mine told.legal).draft on ∙ ap (λ (k : Learnt). (after_edits c k e run.normal).draft) heard

    pushes : pushed_by c o m e ≡ pushed_by c (outside_of c f e) run.normal e
    pushes = by_end e.ended refl
      where
        by_end : (b : Bool) → e.ended ≡ b → pushed_by c o m e ≡ pushed_by c (outside_of c f e) run.normal e
        by_end true off = let none : is_pushed e.push ≡ false = ap (λ (x : Turn). is_pushed x.push) (mine.still off) in
            (λ j. if none j then draft_after c o m e ∷ [] else []) ∙ sym (λ j. if none j then draft_after c (outside_of c f e) run.normal e ∷ [] else [])
        by_end false on = λ j. if is_pushed e.push then edited on j ∷ [] else []

    -- a mixer that makes a turn, legal by what it saw itself, is followed
    pub turn_followed : IsFollowed (turn_after c (learnt o) m e) (states ++ pushed_by c o m e) (after_round s run round)
    turn_followed = followed_by (turn_after c (learnt o) m e) (states ++ pushed_by c o m e) (after_round s run round) (turned_side s f e (side run)) (some_side s run round e turn)
        ((turns_same c o told.outside m run.normal e is.kept mine told.legal).kept ∙ ap (λ (k : Learnt). mixer_told (turn_after c k run.normal e)) heard)
        (λ j. is.pushed j ++ pushes j)
