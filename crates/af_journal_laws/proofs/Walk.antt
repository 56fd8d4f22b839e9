-- What each step of a turn run keeps is kept by all its turns.
use Rattle.std.proofs.Common.{◌≡◌, ℕ, false, fold, List, ◌∷◌, ◌++◌, All, Option, Some, None, refl, subst}
use Rattle.af_journal_laws.proofs.Common.{All-head, All-tail, AreTurns, EntrySeen, IsMadeBy, IsRound, IsTurn, LegalAlone, LegalClientTurn, LegalEntry, LegalTurnBy, Marks, MatchBool, MatchOption, RoundSeen, Run, Session, Turn, TurnSpec, [], calls_alone, calls_in, cycle_alone, fast_ended, found_before, loaded, made_alone, met, met_alone, run_alone, setup_of, sides_of, told_at, turned, with_ends, with_load, with_mix, with_poll, with_turn}
use Rattle.af_script.specs.declared.op.TurnSpec.TheVariants as makes
use Rattle.af_journal_laws.proofs.Rounds.{turn_legal}
use Rattle.af_journal_laws.proofs.Turns.{entries_legal}

-- a property of runs is kept by the steps of the fast mixer, by the load of a report, by meetings, and by the clients' ends
pub record IsKeptQuietly (s : Session) (marks : Marks) (P : Run → Type 0) : Type 0 where
  pub polled : (k : ℕ) (run : Run) → P run → P (with_poll s k run)
  pub mixed : (e : EntrySeen) (run : Run) → LegalEntry s marks run e → P run → P (with_mix s e run)
  pub loads : (e : Turn) (run : Run) → P run → P (with_load e run)
  pub meets : (run : Run) → P run → P (met s run)
  pub ended : (run : Run) → P run → P (with_ends run)

-- a property of runs is kept by all quiet steps, and by the turns of the clients and of the normal mixer
pub record IsKept (s : Session) (marks : Marks) (tracks : ℕ) (P : Run → Type 0) : Type 0 where
  pub quiet : IsKeptQuietly s marks P
  pub calls : (track : ℕ) (round : RoundSeen) (run : Run) → LegalClientTurn (sides_of (told_at run track)) (calls_in round track) → P run → P (calls_alone track round run)
  pub turn : (e : Turn) (run : Run) → IsTurn tracks e → LegalTurnBy (setup_of s) marks (found_before s run [] e) run.normal e → P run → P (with_turn s (found_before s run [] e) e run)

-- the turn of a round has its form
pub turn_form : (tracks : ℕ) (round : RoundSeen) (e : Turn) → IsRound tracks round → round.turn ≡ Some e → IsTurn tracks e
turn_form tracks round e form is = subst (λ (o : Option Turn). MatchOption o (Unit {0}) (IsTurn tracks)) is form.turn

module _ (s : Session) (marks : Marks) (P : Run → Type 0) (k : IsKeptQuietly s marks P) where
  pub cycles_keep : (es : List EntrySeen) (run : Run) → LegalAlone s marks run es → P run → P (fold (cycle_alone s) run es)
  cycles_keep [] run legal h = h
  cycles_keep (e ∷ es) run legal h =
      let polled = with_poll s e.entry.state run in
      cycles_keep es (cycle_alone s run e) legal.1 (k.mixed e (met s polled) legal.0 (k.meets polled (k.polled e.entry.state run h)))

  -- the cycles of a round in which the fast mixer makes its turn keep the property
  pub fast_keeps : (n cycles : ℕ) (round : RoundSeen) (run : Run) → IsMadeBy s marks run (makes.Fast cycles) round → P run → P (made_alone s run (makes.Fast cycles) round)
  fast_keeps n cycles round run made h = cycles_keep round.entries run (entries_legal false s marks n (fast_ended run) run round _ made.2) h

  pub ends_keep : (run : Run) → P run → P (with_ends (met s run))
  ends_keep run h = k.ended (met s run) (k.meets run h)

module _ (s : Session) (marks : Marks) (tracks n : ℕ) (P : Run → Type 0) (k : IsKept s marks tracks P) where
  -- ## A round

  normal_keeps : (o : Option Turn) (round : RoundSeen) (run : Run) → IsRound tracks round → round.turn ≡ o → MatchBool run.normal.ended (o ≡ None) (MatchOption o ⊥ (λ e. LegalTurnBy (setup_of s) marks (found_before s run [] e) run.normal e))
      → P run → P (loaded o (turned s (found_before s run []) o run))
  normal_keeps None round run form is legal h = h
  normal_keeps (Some e) round run form is legal h =
      k.quiet.loads e (with_turn s (found_before s run [] e) e run)
      (k.turn e run (turn_form tracks round e form is) (turn_legal run.normal.ended (λ e. LegalTurnBy (setup_of s) marks (found_before s run [] e) run.normal e) (Some e) e legal refl) h)

  pub made_keeps : (turn : TurnSpec) (round : RoundSeen) (run : Run) → IsRound tracks round → IsMadeBy s marks run turn round → P run → P (made_alone s run turn round)
  made_keeps (makes.Client track) round run form made h = k.calls track round run made.3 h
  made_keeps makes.Normal round run form made h = normal_keeps round.turn round run form refl made.2 h
  made_keeps (makes.Fast cycles) round run form made h = fast_keeps s marks P k.quiet n cycles round run made h

  pub round_keeps : (turn : TurnSpec) (round : RoundSeen) (run : Run) → IsRound tracks round → IsMadeBy s marks run turn round → P run → P (with_ends (met_alone s run turn round))
  round_keeps turn round run form made h = ends_keep s marks P k.quiet (made_alone s run turn round) (made_keeps turn round run form made h)

  -- ## Rounds

  pub turns_keep : (turns : List TurnSpec) (now later : List RoundSeen) (run : Run) → All (IsRound tracks) now → AreTurns s marks run turns (now ++ later) → P run → P (run_alone s run turns now)
  turns_keep [] now later run forms are h = h
  turns_keep (turn ∷ turns) [] later run forms are h = h
  turns_keep (turn ∷ turns) (round ∷ now) later run forms are h =
      turns_keep turns now later (with_ends (met_alone s run turn round)) (All-tail (IsRound tracks) round now forms) are.2 (round_keeps turn round run (All-head (IsRound tracks) round now forms) are.0 h)
