-- Up to each meeting of its stream proxy no call shows the client of a track without a poke that the track was shut.
use Rattle.std.proofs.Common.{◌≡◌, ◌⊎◌, inl, inr, ℕ, ◌<◌, ◌≤◌, ◌==◌, ◌&&◌, Bool, true, false, if◌then◌else◌, fold, List, ◌∷◌, ◌++◌, length, All, Option, Some, None, refl, sym, ap, ◌∙◌, subst, eqb-true, arith}
use Rattle.af_journal_laws.proofs.Common.{All-head, All-tail, AreTurns, EntrySeen, Frame, HasLegalRounds, IsMadeBy, IsRound, IsScript, IsSpared, IsSparedIn, IsTurnRun, JournalData, LegalAlone, LegalClientTurn, LegalEntries, LegalRound, LegalRounds, LegalTurnBy, Marks, MatchBool, MatchOption, OnlyCalls, RoundSeen, Run, RunGrows, ScriptData, Session, TellsSo, TrackTold, Turn, TurnSpec, [], after_round, after_turn, all_played, before_turn, both_first, both_right, both_true, called_in_turn, calls_alone, calls_in, cycle_alone, cycles_beside, early_of, fast_ended, fills, found_before, found_in, from_played, heard, heard_told, is_lawful_block, is_poke_on, is_spared_by_turn, late_of, learnt, legal_parts, list_all, list_any, loaded, made_alone, marks_of, met, met_after, met_alone, nat_tests, neither, new_run, new_tells, new_there, new_trim, no, none_corrupt_on, not_true, of_run, outside_of, recorded, rounds_grow, run_alone, run_from, run_none, run_told, session_of, setup_of, sides_of, takes_part, tells_round, told_at, told_each, told_new, track_at, track_count, track_told, tracks_at, turned, with_calls, with_cycle, with_cycles, with_ends, with_poll}
use Rattle.af_script.specs.declared.op.TurnSpec.TheVariants as makes
use Rattle.af_journal_laws.specs.Alive.{NoMetCallIsDead, NoMetCallIsDeadAlone, none_dead}
use Rattle.af_journal_laws.specs.Alone.{IsSparedAlone, IsSparedInTurn, recorded_alone}
use Rattle.af_journal_laws.proofs.AtMeetings.{HasHistoryMet, has_history, never_shut_so, unshut_met_so}
use Rattle.af_journal_laws.proofs.FlagsCalm.{valid_by_history}
use Rattle.af_journal_laws.proofs.Lives.{IsHeardOpen, Lives, lives_as, lives_both, lives_by, lives_called, lives_ended, lives_loaded, lives_met, lives_mixed, lives_polled, lives_same, lives_then, lives_turned}
use Rattle.af_journal_laws.proofs.Rounds.{turn_legal, turn_rises}
use Rattle.af_journal_laws.proofs.SparedMet as of_rounds
use Rattle.af_journal_laws.proofs.SparedMet.{forms_first, legal_first, met-blocks-are-spared}
use Rattle.af_journal_laws.proofs.Own.{grows_kept}
use Rattle.af_journal_laws.proofs.ShutTold.{mark, mark_none, shut}
use Rattle.af_journal_laws.proofs.Steps.{Goes}
use Rattle.af_journal_laws.proofs.TellsAlone.{heard_alone, tells_kept}
use Rattle.af_journal_laws.proofs.TrackAlive.{IsCalm, alive_called, calm_called}
use Rattle.af_journal_laws.proofs.Turns as of_turns
use Rattle.af_journal_laws.proofs.Turns.{entries_legal, goes_calls, met-blocks-are-spared-alone, none_called}
use Rattle.af_journal_laws.proofs.Walk.{round_keeps, turns_keep}

-- no call of a track's client in these rounds shows that the track was shut
abbrev pub NoneDead : ℕ → List RoundSeen → Type 0
NoneDead n rounds = list_all (λ round. none_dead (calls_in round n)) rounds ≡ true

-- no call of a track's client in this round shows that the track was shut
abbrev pub IsAlive : ℕ → RoundSeen → Type 0
IsAlive n round = none_dead (calls_in round n) ≡ true

-- no call of a track's client shows that the track was shut in these rounds and one more, if none does in either
none_more : (n : ℕ) (round : RoundSeen) (rounds : List RoundSeen) → (none_dead (calls_in round n) ≡ true) × NoneDead n rounds → NoneDead n (round ∷ rounds)
none_more n round rounds both = both_true (none_dead (calls_in round n)) (list_all (λ round. none_dead (calls_in round n)) rounds) both.0 both.1

-- ## Rounds of all parties

module _ (s : Session) (marks : Marks) (n : ℕ) where
  lives_entries : (es : List EntrySeen) (run : Run) → n < length run.tracks → LegalEntries s marks run es → Lives n run (with_cycles s es run) (Unit {0})
  lives_entries [] run low legal = lives_same s n run run low refl
  lives_entries (e ∷ es) run low legal =
      let polled = with_poll s e.entry.state run in
      let after = with_cycle s run e in
      let one = lives_polled s n e.entry.state run low in
      let two = lives_then n run polled after (Unit {0}) one (lives_mixed s n marks polled e one.there legal.0) in
      lives_then n run after (with_cycles s es after) (Unit {0}) two (lives_entries es after two.there legal.1)

-- the turn of a round, if one was made, hears no server of the track's stream block that was shut
abbrev IsOpenRound : Session → ℕ → Run → RoundSeen → Type 0
IsOpenRound s n run round = (e : Turn) → round.turn ≡ Some e → IsHeardOpen s n run.normal (found_in s run round e) e

module _ (cut : Bool) (s : Session) (marks : Marks) (run : Run) (round : RoundSeen) (tracks n : ℕ) (form : IsRound tracks round) (legal : LegalRound cut s marks run round) (open_so : IsOpenRound s n run round) where
  lives_turn : (o : Option Turn) → round.turn ≡ o → n < length (before_turn s run round).tracks → is_spared_by_turn true o n ≡ true → Lives n (before_turn s run round) (turned s (found_in s run round) o (before_turn s run round)) (Unit {0})
  unfolding with_calls
  lives_turn None is low spared = lives_same s n (before_turn s run round) (before_turn s run round) low refl
  lives_turn (Some e) is low spared =
      let beside = cycles_beside s (early_of run round) (with_calls round run) in
      lives_turned s n marks (found_in s run round e) e run.normal (before_turn s run round) low refl (sym (beside.commands n)) beside.normal (turn_rises tracks round e form is)
      (turn_legal run.normal.ended (λ e. LegalTurnBy (setup_of s) marks (found_in s run round e) run.normal e) round.turn e legal.turns.normal is) (open_so e is) spared

  lives_round : n < track_count s → n < length run.tracks → list_any (is_poke_on false) (calls_in round n) ≡ false → IsSparedIn true s run round n → Lives n run (after_round s run round) (none_dead (calls_in round n) ≡ true)
  lives_round track low still spared =
      let start = with_calls round run in
      let before = before_turn s run round in
      let after = after_turn s run round in
      let late = with_cycles s (late_of run round) after in
      let played_all = all_played s run round in
      let last = met_after s run round in
      let entries = legal_parts (fast_ended run) (cut && fills s run round) s marks run round legal.turns.fast in
      let a = lives_called s n round run low still (legal.turns.clients n track) in
      let b = lives_then n run start before (IsAlive n round) a (lives_entries s marks n (early_of run round) start a.there entries.0) in
      let c = lives_then n run before after (IsAlive n round) b (lives_turn round.turn refl b.there spared.turn) in
      let d = lives_then n run after late (IsAlive n round) c (lives_entries s marks n (late_of run round) after c.there entries.1) in
      let e = lives_then n run late played_all (IsAlive n round) d (lives_loaded s n round.turn late d.there) in
      let f = lives_then n run played_all last (IsAlive n round) e (lives_met s n played_all e.there) in
      lives_then n run last (after_round s run round) (IsAlive n round) f (lives_ended s n last f.there)

-- a server that wasn't shut by the end was not heard to be shut
open_by : (b : Bool) (now last : ℕ) → mark b ≤ now → now ≤ last → last ≡ 0 → b ≡ false
open_by b now last low more none = mark_none b (omega (arith, low, more, none))

-- the turn of each round, if one was made, hears no server of the track's stream block that was shut
abbrev AreOpenRounds : Session → ℕ → Run → List RoundSeen → Type 0
AreOpenRounds s n run [] = Unit {0}
AreOpenRounds s n run (round ∷ rounds) = IsOpenRound s n run round × AreOpenRounds s n (after_round s run round) rounds

open_rounds : (cut : Bool) (s : Session) → IsScript s.script → (marks : Marks) (tracks n : ℕ) (rounds : List RoundSeen) (run : Run) → All (IsRound tracks) rounds → LegalRounds cut s marks run rounds → TellsSo shut s n run
    → of_run shut (run_from s run rounds) n ≡ 0 → AreOpenRounds s n run rounds
open_rounds cut s script marks tracks n [] run forms legal h none = tt
open_rounds cut s script marks tracks n (round ∷ rounds) run forms legal h none =
    let form = All-head (IsRound tracks) round rounds forms in
    let next : TellsSo shut s n (after_round s run round) = tells_round shut cut s script marks run round tracks n form legal.0 h in
    let more = run_told shut (all_played s run round) (after_round s run round) (from_played s run round) n in
    let last = track_told shut (after_round s run round) (run_from s (after_round s run round) rounds) n (rounds_grow n s rounds (after_round s run round) next.low) in (
      (λ e is. let c = setup_of s in let k = learnt (outside_of c (found_in s run round e) e) in
          open_by (heard k n (track_at (tracks_at c k run.normal e n) n)).known.shut (of_run shut (all_played s run round) n) (of_run shut (run_from s (after_round s run round) rounds) n) (heard_told shut cut s script marks run round tracks n form legal.0 h e is) (omega (arith, more, last)) none),
      open_rounds cut s script marks tracks n rounds (after_round s run round) (All-tail (IsRound tracks) round rounds forms) legal.1 next none,
    )

lives_rounds : (cut : Bool) (s : Session) (marks : Marks) (tracks n : ℕ) (rounds : List RoundSeen) (run : Run) → n < track_count s → n < length run.tracks → All (IsRound tracks) rounds → LegalRounds cut s marks run rounds
    → list_any (λ round. list_any (is_poke_on false) (calls_in round n)) rounds ≡ false → AreOpenRounds s n run rounds → IsSpared true s run rounds n → Lives n run (run_from s run rounds) (NoneDead n rounds)
lives_rounds cut s marks tracks n [] run track low forms legal still open_so spared = lives_as n run run (Unit {0}) _ (λ u. refl) (lives_same s n run run low refl)
lives_rounds cut s marks tracks n (round ∷ rounds) run track low forms legal still open_so spared =
    let two = neither (list_any (is_poke_on false) (calls_in round n)) (list_any (λ round. list_any (is_poke_on false) (calls_in round n)) rounds) still in
    let next = after_round s run round in
    let one = lives_round cut s marks run round tracks n (All-head (IsRound tracks) round rounds forms) legal.0 open_so.0 track low two.0 spared.0 in
    lives_as n run (run_from s next rounds) _ _ (none_more n round rounds)
    (lives_both n run next (run_from s next rounds) _ _ one (lives_rounds cut s marks tracks n rounds next track one.there (All-tail (IsRound tracks) round rounds forms) legal.1 two.1 open_so.1 spared.1))

-- ## Turns of one party after another

-- the turn of a round of a turn run, if one was made, hears no server of the track's stream block that was shut
abbrev IsOpenTurn : Session → ℕ → Run → RoundSeen → Type 0
IsOpenTurn s n run round = (e : Turn) → round.turn ≡ Some e → IsHeardOpen s n run.normal (found_before s run [] e) e

-- the turn of each round of a turn run, if one was made, hears no server of the track's stream block that was shut
abbrev AreOpenTurns : Session → ℕ → Run → List TurnSpec → List RoundSeen → Type 0
AreOpenTurns s n run [] rounds = Unit {0}
AreOpenTurns s n run (turn ∷ turns) [] = Unit {0}
AreOpenTurns s n run (turn ∷ turns) (round ∷ rounds) = IsOpenTurn s n run round × AreOpenTurns s n (with_ends (met_alone s run turn round)) turns rounds

open_turns : (s : Session) → IsScript s.script → (marks : Marks) (tracks n : ℕ) (turns : List TurnSpec) (now later : List RoundSeen) (run : Run) → All (IsRound tracks) now → AreTurns s marks run turns (now ++ later) → TellsSo shut s n run
    → of_run shut (run_alone s run turns now) n ≡ 0 → AreOpenTurns s n run turns now
open_turns s script marks tracks n [] now later run forms are h none = tt
open_turns s script marks tracks n (turn ∷ turns) [] later run forms are h none = tt
open_turns s script marks tracks n (turn ∷ turns) (round ∷ now) later run forms are h none =
    let form = All-head (IsRound tracks) round now forms in
    let rest = All-tail (IsRound tracks) round now forms in
    let after : Run = with_ends (met_alone s run turn round) in
    let last : Run = run_alone s after turns now in
    let next : TellsSo shut s n after = round_keeps s marks tracks n (TellsSo shut s n) (tells_kept shut s script marks tracks n) turn round run form are.0 h in
    let grown : RunGrows n run after = round_keeps s marks tracks n (RunGrows n run) (grows_kept s marks tracks n run) turn round run form are.0 (run_none n run h.low) in
    let more = track_told shut run last n (turns_keep s marks tracks n (RunGrows n run) (grows_kept s marks tracks n run) turns now later after rest are.2 grown) in (
      (λ e is. let c = setup_of s in let k = learnt (outside_of c (found_before s run [] e) e) in
          open_by (heard k n (track_at (tracks_at c k run.normal e n) n)).known.shut (of_run shut run n) (of_run shut last n) (heard_alone shut s script marks tracks n e run h) more none),
      open_turns s script marks tracks n turns now later after rest are.2 next none,
    )

module _ (s : Session) (marks : Marks) (n : ℕ) where
  lives_cycles : (es : List EntrySeen) (run : Run) → n < length run.tracks → LegalAlone s marks run es → Lives n run (fold (cycle_alone s) run es) (Unit {0})
  lives_cycles [] run low legal = lives_same s n run run low refl
  lives_cycles (e ∷ es) run low legal =
      let polled = with_poll s e.entry.state run in
      let before = met s polled in
      let after = cycle_alone s run e in
      let one = lives_polled s n e.entry.state run low in
      let two = lives_then n run polled before (Unit {0}) one (lives_met s n polled one.there) in
      let three = lives_then n run before after (Unit {0}) two (lives_mixed s n marks before e two.there legal.0) in
      lives_then n run after (fold (cycle_alone s) after es) (Unit {0}) three (lives_cycles es after three.there legal.1)

  -- the calls of one client keep the track alive
  lives_calls : (track : ℕ) (round : RoundSeen) (run : Run) → n < length run.tracks → OnlyCalls (λ t. t ≡ track) round → list_any (is_poke_on false) (calls_in round n) ≡ false → LegalClientTurn (sides_of (told_at run track)) (calls_in round track)
      → Lives n run (calls_alone track round run) (none_dead (calls_in round n) ≡ true)
  lives_calls track round run low only still legal = by_number (n == track) refl
    where
      change : ℕ → TrackTold → TrackTold
      change number t = if number == track then called_in_turn (calls_in round track) t else t

      after : Run
      after = calls_alone track round run

      goes : Goes false s n run after [] (none_corrupt_on false (calls_in round n) ≡ true)
      goes = goes_calls false s marks n track round run low only still legal

      by_number : (b : Bool) → (n == track) ≡ b → Lives n run (calls_alone track round run) (none_dead (calls_in round n) ≡ true)
      by_number true is =
          let same : n ≡ track = eqb-true n track is in
          lives_by s n run after (called_in_turn (calls_in round n) (told_at run n)) [] _ _ goes
          (told_each change run n low ∙ ap (λ (b : Bool). if b then called_in_turn (calls_in round track) (told_at run n) else told_at run n) is ∙ ap (λ (k : ℕ). called_in_turn (calls_in round k) (told_at run n)) (sym same))
          (λ unshut spared calm. calm_called (calls_in round n) (told_at run n) calm)
          (alive_called (calls_in round n) (told_at run n) (subst (λ (k : ℕ). LegalClientTurn (sides_of (told_at run k)) (calls_in round k)) (sym same) legal))
      by_number false is =
          let none : calls_in round n ≡ [] = by_only (only n) in
          lives_as n run after (Unit {0}) _ (λ u. ap none_dead none)
          (lives_same s n run after goes.there (told_each change run n low ∙ ap (λ (b : Bool). if b then called_in_turn (calls_in round track) (told_at run n) else told_at run n) is))
        where
          by_only : (n ≡ track) ⊎ (calls_in round n ≡ []) → calls_in round n ≡ []
          by_only (inl same) = no (sym is ∙ grind (arith, nat_tests, same))
          by_only (inr none) = none

  -- the turn of the normal mixer keeps the track alive
  lives_own : (o : Option Turn) (round : RoundSeen) (tracks : ℕ) (run : Run) → n < length run.tracks → IsRound tracks round → round.turn ≡ o → MatchBool run.normal.ended (o ≡ None) (MatchOption o ⊥ (λ e. LegalTurnBy (setup_of s) marks (found_before s run [] e) run.normal e))
      → IsOpenTurn s n run round → is_spared_by_turn true o n ≡ true → Lives n run (loaded o (turned s (found_before s run []) o run)) (Unit {0})
  lives_own None round tracks run low form is legal open_so spared = lives_same s n run run low refl
  lives_own (Some e) round tracks run low form is legal open_so spared =
      let after = turned s (found_before s run []) (Some e) run in
      let one = lives_turned s n marks (found_before s run [] e) e run.normal run low refl refl refl (turn_rises tracks round e form is) (turn_legal run.normal.ended (λ e. LegalTurnBy (setup_of s) marks (found_before s run [] e) run.normal e) (Some e) e legal refl) (open_so e is) spared in
      lives_then n run after (loaded (Some e) after) (Unit {0}) one (lives_loaded s n (Some e) after one.there)

  lives_made : (turn : TurnSpec) (round : RoundSeen) (tracks : ℕ) (run : Run) → n < length run.tracks → IsRound tracks round → list_any (is_poke_on false) (calls_in round n) ≡ false → IsMadeBy s marks run turn round → IsOpenTurn s n run round → IsSparedInTurn true s run round n
      → Lives n run (made_alone s run turn round) (none_dead (calls_in round n) ≡ true)
  lives_made (makes.Client track) round tracks run low form still made open_so spared = lives_calls track round run low made.0 still made.3
  lives_made makes.Normal round tracks run low form still made open_so spared =
      lives_as n run (made_alone s run makes.Normal round) (Unit {0}) _ (λ u. ap none_dead (none_called false s marks n round made.0)) (lives_own round.turn round tracks run low form refl made.2 open_so spared.turn)
  lives_made (makes.Fast cycles) round tracks run low form still made open_so spared =
      lives_as n run (made_alone s run (makes.Fast cycles) round) (Unit {0}) _ (λ u. ap none_dead (none_called false s marks n round made.0)) (lives_cycles round.entries run low (entries_legal false s marks n (fast_ended run) run round _ made.2))

  lives_alone : (turns : List TurnSpec) (now later : List RoundSeen) (tracks : ℕ) (run : Run) → n < length run.tracks → All (IsRound tracks) now → list_any (λ round. list_any (is_poke_on false) (calls_in round n)) now ≡ false
      → AreTurns s marks run turns (now ++ later) → AreOpenTurns s n run turns now → IsSparedAlone true s run turns now n → Lives n run (run_alone s run turns now) (NoneDead n now)
  lives_alone [] [] later tracks run low forms still are open_so spared = lives_as n run run (Unit {0}) _ (λ u. refl) (lives_same s n run run low refl)
  lives_alone [] (round ∷ now) later tracks run low forms still are open_so spared = absurd (let many = ap length are in omega (arith, many))
  lives_alone (turn ∷ turns) [] later tracks run low forms still are open_so spared = lives_as n run run (Unit {0}) _ (λ u. refl) (lives_same s n run run low refl)
  lives_alone (turn ∷ turns) (round ∷ now) later tracks run low forms still are open_so spared =
      let two = neither (list_any (is_poke_on false) (calls_in round n)) (list_any (λ round. list_any (is_poke_on false) (calls_in round n)) now) still in
      let after = made_alone s run turn round in
      let last = met_alone s run turn round in
      let next = with_ends last in
      let one = lives_made turn round tracks run low (All-head (IsRound tracks) round now forms) two.0 are.0 open_so.0 spared.0 in
      let met_so = lives_then n run after last (IsAlive n round) one (lives_met s n after one.there) in
      let ended = lives_then n run last next (IsAlive n round) met_so (lives_ended s n last met_so.there) in
      lives_as n run (run_alone s next turns now) _ _ (none_more n round now)
      (lives_both n run next (run_alone s next turns now) _ _ ended (lives_alone turns now later tracks next ended.there (All-tail (IsRound tracks) round now forms) two.1 are.2 open_so.1 spared.1))

-- ## What follows

-- what is known of a track without a poke at a meeting of its stream proxy, by the steps that led there
record IsMet (s : Session) (n : ℕ) (run : Run) (words : List ℕ) (S R : Type 0) : Type 0 where
  stream : Goes false s n (new_run s) run words S
  part : takes_part s run n ≡ true
  history : HasHistoryMet false s n run
  commands : Goes true s n (new_run s) run words R
  sent_history : HasHistoryMet true s n run

module _ (s : Session) (is : IsScript s.script) (n : ℕ) (low : n < track_count s) (run : Run) (words : List ℕ) (S R : Type 0) (h : IsMet s n run words S R) where
  -- the server of the track's stream block was never shut
  none_shut : of_run shut run n ≡ 0
  none_shut = ap mark (never_shut_so false s is n low run words S h.stream h.part h.history refl)

  -- nobody has set INVALID or stored 15, so no call saw it
  alive_so : (A : Type 0) → Lives n (new_run s) run A → A
  alive_so A lives =
      let new : IsCalm (told_at (new_run s) n) = subst IsCalm (sym (told_new s n low)) (record { stream = record { server = refl; hand = refl }; commands = record { server = refl; hand = refl } }) in
      let calm = lives.calm (new_trim s is n low false) (unshut_met_so false s is n low run words S h.stream h.part h.history) new in
      (lives.valid (
        valid_by_history (told_at run n).stream (has_history false s is n low run words S h.stream h.part h.history) calm.stream.server calm.stream.hand,
        valid_by_history (told_at run n).commands (has_history true s is n low run words R h.commands refl h.sent_history) calm.commands.server calm.commands.hand,
      )).1

pub met-calls-live : (cut : Bool) (script : ScriptData) (files : List (List Frame)) (j : JournalData) → IsScript script → HasLegalRounds cut script files j → NoMetCallIsDead script files j
met-calls-live cut script files j is legal now later begins n low part lawful =
    let s = session_of script files in
    let marks = marks_of j.rounds in
    let run : Run = run_from s (new_run s) now in
    let stream = both_first (is_lawful_block false now n) (is_lawful_block true now n) lawful in
    let commands = both_right (is_lawful_block false now n) (is_lawful_block true now n) lawful in
    let forms = forms_first j.tracks now later (subst (All (IsRound j.tracks)) begins legal.form.rounds) in
    let rounds = legal_first cut s marks now later (new_run s) (subst (LegalRounds cut s marks (new_run s)) begins legal.rounds) in
    let words : List ℕ = recorded s (new_run s) now n in
    let S = IsSpared false s (new_run s) now n in
    let R = IsSpared true s (new_run s) now n in
    let met_so : IsMet s n run words S R = record {
      stream = of_rounds.goes_now cut script files j is legal now later begins false n low stream;
      part = part;
      history = of_rounds.history_now cut script files j is legal now later begins false n low stream;
      commands = of_rounds.goes_now cut script files j is legal now later begins true n low commands;
      sent_history = of_rounds.history_now cut script files j is legal now later begins true n low commands;
    } in
    alive_so s is n low run words S R met_so (NoneDead n now)
    (lives_rounds cut s marks j.tracks n now (new_run s) low (new_there s n low) forms rounds
    (not_true (list_any (λ (round : RoundSeen). list_any (is_poke_on false) (calls_in round n)) now) stream)
    (open_rounds cut s is marks j.tracks n now (new_run s) forms rounds (new_tells shut s n low) (none_shut s is n low run words S R met_so))
    (met-blocks-are-spared cut script files j is legal now later begins true n low refl commands))

pub met-calls-live-alone : (script : ScriptData) (files : List (List Frame)) (j : JournalData) → IsScript script → IsTurnRun script files j → NoMetCallIsDeadAlone script files j
met-calls-live-alone script files j is run_is now later begins n low part lawful =
    let s = session_of script files in
    let marks = marks_of j.rounds in
    let run : Run = run_alone s (new_run s) script.turns now in
    let stream = both_first (is_lawful_block false now n) (is_lawful_block true now n) lawful in
    let commands = both_right (is_lawful_block false now n) (is_lawful_block true now n) lawful in
    let forms = forms_first j.tracks now later (subst (All (IsRound j.tracks)) begins run_is.form.rounds) in
    let are = subst (AreTurns s marks (new_run s) script.turns) begins run_is.turns in
    let words : List ℕ = recorded_alone s (new_run s) script.turns now n in
    let S = IsSparedAlone false s (new_run s) script.turns now n in
    let R = IsSparedAlone true s (new_run s) script.turns now n in
    let met_so : IsMet s n run words S R = record {
      stream = of_turns.goes_now script files j is run_is now later begins false n low stream;
      part = part;
      history = of_turns.history_now script files j is run_is now later begins false n low stream;
      commands = of_turns.goes_now script files j is run_is now later begins true n low commands;
      sent_history = of_turns.history_now script files j is run_is now later begins true n low commands;
    } in
    alive_so s is n low run words S R met_so (NoneDead n now)
    (lives_alone s marks n script.turns now later j.tracks (new_run s) (new_there s n low) forms
    (not_true (list_any (λ (round : RoundSeen). list_any (is_poke_on false) (calls_in round n)) now) stream)
    are
    (open_turns s is marks j.tracks n script.turns now later (new_run s) forms are (new_tells shut s n low) (none_shut s is n low run words S R met_so))
    (met-blocks-are-spared-alone script files j is run_is now later begins true n low refl commands))
