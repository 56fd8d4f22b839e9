-- What holds of a track through the rounds of a turn run, by their steps.
use Rattle.std.proofs.Common.{◌≡◌, ◌⊎◌, inl, inr, ℕ, ◌<◌, ◌==◌, Bool, true, false, if◌then◌else◌, fold, List, ◌∷◌, ◌++◌, length, All, Option, Some, None, refl, sym, ap, ◌∙◌, subst, eqb-true, append-nil, arith}
use Rattle.af_journal_laws.proofs.Common.{All-head, All-tail, AreTurns, EntrySeen, Frame, IsMadeBy, IsRound, IsScript, IsTurnRun, JournalData, LegalAlone, LegalClientTurn, LegalTurnBy, Marks, MatchBool, MatchOption, OnlyCalls, RoundSeen, Run, ScriptData, SeesAllBefore, Session, TrackTold, Turn, TurnSpec, [], both_true, called_in_turn, calls_alone, calls_in, cycle_alone, each_long, fast_ended, found_before, is_lawful_block, is_poke_on, is_spared_by, is_spared_by_turn, list_any, loaded, made_alone, marks_of, met, met_alone, nat_tests, neither, new_run, new_there, no, none_corrupt_on, not_true, recorded_by, recorded_by_turn, run_alone, session_of, setup_of, sides_of, told_at, told_each, track_count, turned, with_ends, with_poll}
use Rattle.af_script.specs.declared.op.TurnSpec.TheVariants as makes
use Rattle.af_journal_laws.specs.Alone.{EachMetBlockIsSparedAlone, IsSparedAlone, IsSparedInTurn, is_spared_by_cycles, recorded_alone, recorded_by_cycles}
use Rattle.af_journal_laws.proofs.AtMeetings.{HasHistoryMet, history_ends, history_new, spared_so}
use Rattle.af_journal_laws.proofs.SparedMet.{forms_first}
use Rattle.af_journal_laws.proofs.Rounds.{turn_legal, turn_rises}
use Rattle.af_journal_laws.proofs.Steps.{Goes, goes_as, goes_both, goes_by, goes_ended, goes_loaded, goes_met, goes_mixed, goes_polled, goes_same, goes_then, goes_turned, track_called}

-- the words recorded in a round: in its entries and in its turn, of which a round has no more than one kind
abbrev recorded_in_turn : Session → Run → RoundSeen → ℕ → List ℕ
recorded_in_turn s run round track = recorded_by_cycles s run round.entries track ++ recorded_by_turn round.turn track

module _ (commands : Bool) (s : Session) (marks : Marks) (n : ℕ) where
  -- ## Entries

  goes_cycles : (es : List EntrySeen) (run : Run) → n < length run.tracks → LegalAlone s marks run es → Goes commands s n run (fold (cycle_alone s) run es) (recorded_by_cycles s run es n) (commands ≡ false → is_spared_by_cycles s run es n ≡ true)
  goes_cycles [] run low legal = goes_as commands s n run run [] [] (Unit {0}) _ refl (λ u on. refl) (goes_same commands s n run run low refl)
  goes_cycles (e ∷ es) run low legal =
      let polled = with_poll s e.entry.state run in
      let before = met s polled in
      let after = cycle_alone s run e in
      let one = goes_polled commands s n e.entry.state run low in
      let two = goes_met commands s n polled one.there in
      let three = goes_mixed commands s n marks before e two.there legal.0 in
      let rest = goes_cycles es after three.there legal.1 in
      let here = recorded_by s before e n in
      let later = recorded_by_cycles s after es n in
      let to_before = goes_then commands s n run polled before [] (Unit {0}) one two in
      goes_as commands s n run (fold (cycle_alone s) after es) (([] ++ here) ++ later) (here ++ later) _ _ refl
      (λ all on. both_true (is_spared_by s before e n) (is_spared_by_cycles s after es n) (all.0.1 on) (all.1 on))
      (goes_both commands s n run after (fold (cycle_alone s) after es) ([] ++ here) later _ _ (goes_both commands s n run before after [] here _ _ to_before three) rest)

  -- ## Calls

  -- one client made its calls, and no other did: the track goes through them
  pub goes_calls : (track : ℕ) (round : RoundSeen) (run : Run) → n < length run.tracks → OnlyCalls (λ t. t ≡ track) round → list_any (is_poke_on commands) (calls_in round n) ≡ false → LegalClientTurn (sides_of (told_at run track)) (calls_in round track)
      → Goes commands s n run (calls_alone track round run) [] (none_corrupt_on commands (calls_in round n) ≡ true)
  goes_calls track round run low only calm legal = by_number (n == track) refl
    where
      change : ℕ → TrackTold → TrackTold
      change number t = if number == track then called_in_turn (calls_in round track) t else t

      there : n < length (calls_alone track round run).tracks
      there = let m = each_long change 0 run.tracks in omega (arith, m, low)

      by_number : (b : Bool) → (n == track) ≡ b → Goes commands s n run (calls_alone track round run) [] (none_corrupt_on commands (calls_in round n) ≡ true)
      by_number true is =
          let same : n ≡ track = eqb-true n track is in
          goes_by commands s n run (calls_alone track round run) (called_in_turn (calls_in round n) (told_at run n)) [] _ there
          (told_each change run n low ∙ ap (λ (b : Bool). if b then called_in_turn (calls_in round track) (told_at run n) else told_at run n) is ∙ ap (λ (k : ℕ). called_in_turn (calls_in round k) (told_at run n)) (sym same))
          (track_called commands s n (calls_in round n) (told_at run n) calm (subst (λ (k : ℕ). LegalClientTurn (sides_of (told_at run k)) (calls_in round k)) (sym same) legal))
      by_number false is =
          let none : calls_in round n ≡ [] = by_only (only n) in
          goes_as commands s n run (calls_alone track round run) [] [] (Unit {0}) _ refl (λ u. ap (none_corrupt_on commands) none)
          (goes_same commands s n run (calls_alone track round run) there (told_each change run n low ∙ ap (λ (b : Bool). if b then called_in_turn (calls_in round track) (told_at run n) else told_at run n) is))
        where
          by_only : (n ≡ track) ⊎ (calls_in round n ≡ []) → calls_in round n ≡ []
          by_only (inl same) = no (sym is ∙ grind (arith, nat_tests, same))
          by_only (inr none) = none

  -- ## The turn

  goes_turn : (o : Option Turn) (round : RoundSeen) (tracks : ℕ) (run : Run) → n < length run.tracks → IsRound tracks round → round.turn ≡ o → MatchBool run.normal.ended (o ≡ None) (MatchOption o ⊥ (λ e. LegalTurnBy (setup_of s) marks (found_before s run [] e) run.normal e))
      → Goes commands s n run (loaded o (turned s (found_before s run []) o run)) (recorded_by_turn o n) (is_spared_by_turn commands o n ≡ true)
  goes_turn None round tracks run low form is legal = goes_as commands s n run run [] [] (Unit {0}) _ refl (λ u. refl) (goes_same commands s n run run low refl)
  goes_turn (Some e) round tracks run low form is legal =
      let after = turned s (found_before s run []) (Some e) run in
      let one = goes_turned commands s n marks (found_before s run [] e) e run.normal run low refl refl refl (turn_rises tracks round e form is) (turn_legal run.normal.ended (λ e. LegalTurnBy (setup_of s) marks (found_before s run [] e) run.normal e) (Some e) e legal refl) in
      goes_then commands s n run after (loaded (Some e) after) (recorded_by_turn (Some e) n) _ one (goes_loaded commands s n (Some e) after one.there)

  -- ## A round

  -- if no client made a call, the track's client made none
  pub none_called : (round : RoundSeen) → OnlyCalls (λ t. ⊥) round → calls_in round n ≡ []
  none_called round only = by_only (only n)
    where
      by_only : ⊥ ⊎ (calls_in round n ≡ []) → calls_in round n ≡ []
      by_only (inl never) = absurd never
      by_only (inr none) = none

  pub entries_legal : (b : Bool) (run : Run) (round : RoundSeen) (F : Type 0) → MatchBool b (round.entries ≡ []) (F × LegalAlone s marks run round.entries) → LegalAlone s marks run round.entries
  entries_legal true run round F none = subst (LegalAlone s marks run) (sym none) tt
  entries_legal false run round F legal = legal.1

  goes_made : (turn : TurnSpec) (round : RoundSeen) (tracks : ℕ) (run : Run) → n < length run.tracks → IsRound tracks round → list_any (is_poke_on commands) (calls_in round n) ≡ false → IsMadeBy s marks run turn round
      → Goes commands s n run (made_alone s run turn round) (recorded_in_turn s run round n) (IsSparedInTurn commands s run round n)
  goes_made (makes.Client track) round tracks run low form calm made =
      goes_as commands s n run (made_alone s run (makes.Client track) round) [] (recorded_in_turn s run round n) _ _
      (sym (λ i. recorded_by_cycles s run (made.2 i) n ++ recorded_by_turn (made.1 i) n))
      (λ calls. record { calls = calls; turn = ap (λ o. is_spared_by_turn commands o n) made.1; entries = λ off. ap (λ es. is_spared_by_cycles s run es n) made.2 })
      (goes_calls track round run low made.0 calm made.3)
  goes_made makes.Normal round tracks run low form calm made =
      goes_as commands s n run (made_alone s run makes.Normal round) (recorded_by_turn round.turn n) (recorded_in_turn s run round n) _ _
      (sym (ap (λ es. recorded_by_cycles s run es n ++ recorded_by_turn round.turn n) made.1))
      (λ turn. record { calls = ap (none_corrupt_on commands) (none_called round made.0); turn = turn; entries = λ off. ap (λ es. is_spared_by_cycles s run es n) made.1 })
      (goes_turn round.turn round tracks run low form refl made.2)
  goes_made (makes.Fast cycles) round tracks run low form calm made =
      let words = recorded_by_cycles s run round.entries n in
      goes_as commands s n run (made_alone s run (makes.Fast cycles) round) words (recorded_in_turn s run round n) _ _
      (sym (ap (λ o. words ++ recorded_by_turn o n) made.1 ∙ append-nil words))
      (λ entries. record { calls = ap (none_corrupt_on commands) (none_called round made.0); turn = ap (λ o. is_spared_by_turn commands o n) made.1; entries = entries })
      (goes_cycles round.entries run low (entries_legal (fast_ended run) run round _ made.2))

  pub goes_met_alone : (turn : TurnSpec) (round : RoundSeen) (tracks : ℕ) (run : Run) → n < length run.tracks → IsRound tracks round → list_any (is_poke_on commands) (calls_in round n) ≡ false → IsMadeBy s marks run turn round
      → Goes commands s n run (met_alone s run turn round) (recorded_in_turn s run round n) (IsSparedInTurn commands s run round n)
  goes_met_alone turn round tracks run low form calm made =
      let after = made_alone s run turn round in
      let one = goes_made turn round tracks run low form calm made in
      goes_then commands s n run after (met_alone s run turn round) (recorded_in_turn s run round n) _ one (goes_met commands s n after one.there)

  -- ## The rounds with which a journal begins

  pub goes_alone : (turns : List TurnSpec) (now later : List RoundSeen) (tracks : ℕ) (run : Run) → n < length run.tracks → All (IsRound tracks) now → list_any (λ round. list_any (is_poke_on commands) (calls_in round n)) now ≡ false
      → AreTurns s marks run turns (now ++ later) → Goes commands s n run (run_alone s run turns now) (recorded_alone s run turns now n) (IsSparedAlone commands s run turns now n)
  goes_alone [] now later tracks run low forms calm are = goes_same commands s n run run low refl
  goes_alone (turn ∷ turns) [] later tracks run low forms calm are = goes_same commands s n run run low refl
  goes_alone (turn ∷ turns) (round ∷ now) later tracks run low forms calm are =
      let two = neither (list_any (is_poke_on commands) (calls_in round n)) (list_any (λ round. list_any (is_poke_on commands) (calls_in round n)) now) calm in
      let last = met_alone s run turn round in
      let next = with_ends last in
      let one = goes_met_alone turn round tracks run low (All-head (IsRound tracks) round now forms) two.0 are.0 in
      let ended = goes_then commands s n run last next (recorded_in_turn s run round n) _ one (goes_ended commands s n last one.there) in
      goes_both commands s n run next (run_alone s next turns now) (recorded_in_turn s run round n) (recorded_alone s next turns now n) _ _ ended
      (goes_alone turns now later tracks next ended.there (All-tail (IsRound tracks) round now forms) two.1 are.2)

  -- if both proxies of a block met there is a history
  pub history_alone : (turns : List TurnSpec) (now later : List RoundSeen) (tracks : ℕ) (run : Run) → n < track_count s → n < length run.tracks → All (IsRound tracks) now → list_any (λ round. list_any (is_poke_on commands) (calls_in round n)) now ≡ false
      → AreTurns s marks run turns (now ++ later) → HasHistoryMet commands s n run → HasHistoryMet commands s n (run_alone s run turns now)
  history_alone [] now later tracks run count low forms calm are h = h
  history_alone (turn ∷ turns) [] later tracks run count low forms calm are h = h
  history_alone (turn ∷ turns) (round ∷ now) later tracks run count low forms calm are h =
      let two = neither (list_any (is_poke_on commands) (calls_in round n)) (list_any (λ round. list_any (is_poke_on commands) (calls_in round n)) now) calm in
      let last = met_alone s run turn round in
      let one = goes_met_alone turn round tracks run low (All-head (IsRound tracks) round now forms) two.0 are.0 in
      let ended = goes_ended commands s n last one.there in
      history_alone turns now later tracks (with_ends last) count ended.there (All-tail (IsRound tracks) round now forms) two.1 are.2 (history_ends commands s n last one.there (by_block commands last are.1))
    where
      by_block : (b : Bool) (last : Run) → SeesAllBefore s last → HasHistoryMet b s n last
      by_block true last sees = λ meets tame. (sees.commands n count tame).0
      by_block false last sees = λ meets tame. (sees.streams n count meets tame).0

-- ## What follows

module _ (script : ScriptData) (files : List (List Frame)) (j : JournalData) (is : IsScript script) (run_is : IsTurnRun script files j) (now later : List RoundSeen) (begins : j.rounds ≡ now ++ later)
    (commands : Bool) (n : ℕ) (low : n < track_count (session_of script files)) (lawful : is_lawful_block commands now n ≡ true) where
  abbrev s : Session
  s = session_of script files

  abbrev run : Run
  run = run_alone s (new_run s) script.turns now

  are_now : AreTurns s (marks_of j.rounds) (new_run s) script.turns (now ++ later)
  are_now = subst (AreTurns s (marks_of j.rounds) (new_run s) script.turns) begins run_is.turns

  forms_now : All (IsRound j.tracks) now
  forms_now = forms_first j.tracks now later (subst (All (IsRound j.tracks)) begins run_is.form.rounds)

  calm_now : list_any (λ round. list_any (is_poke_on commands) (calls_in round n)) now ≡ false
  calm_now = not_true (list_any (λ (round : RoundSeen). list_any (is_poke_on commands) (calls_in round n)) now) lawful

  pub goes_now : Goes commands s n (new_run s) run (recorded_alone s (new_run s) script.turns now n) (IsSparedAlone commands s (new_run s) script.turns now n)
  goes_now = goes_alone commands s (marks_of j.rounds) n script.turns now later j.tracks (new_run s) (new_there s n low) forms_now calm_now are_now

  pub history_now : HasHistoryMet commands s n run
  history_now = history_alone commands s (marks_of j.rounds) n script.turns now later j.tracks (new_run s) low (new_there s n low) forms_now calm_now are_now (history_new s is n low commands)

-- in a turn run each block without a poke is spared up to each meeting of both its proxies
pub met-blocks-are-spared-alone : (script : ScriptData) (files : List (List Frame)) (j : JournalData) → IsScript script → IsTurnRun script files j → EachMetBlockIsSparedAlone script files j
met-blocks-are-spared-alone script files j is run_is now later begins commands n low meets lawful =
    let s = session_of script files in
    spared_so commands s is n low (run_alone s (new_run s) script.turns now) (recorded_alone s (new_run s) script.turns now n) (IsSparedAlone commands s (new_run s) script.turns now n)
    (goes_now script files j is run_is now later begins commands n low lawful) meets (history_now script files j is run_is now later begins commands n low lawful)
