-- Rounds that are cut off are many, and in the first of them the fast mixer makes its whole turns.
use Rattle.std.proofs.Common.{◌≡◌, ◌⊎◌, inl, inr, ℕ, zero, suc, ◌+◌, ◌*◌, ◌≤◌, ◌==◌, ◌&&◌, Bool, true, false, List, [], ◌∷◌, length, take, refl, sym, ap, ◌∙◌, arith, length-append, true≢false}
use Rattle.af_enough_law.proofs.Common.{AreMixedBut, EntrySeen, Frame, HasEnoughCycles, IsCutRun, IsFastTurn, JournalData, LegalRound, LegalRounds, Marks, MatchBool, RoundSeen, Run, ScriptData, Session, after_round, all_ended, enough_rounds, fast_ended, fills, is_mixed, length-take-le, marks_of, match_bool-map, new_run, run_from, session_of}
use Rattle.af_runs.proofs.RoundEntries.{bare, round-entries}
use Rattle.af_enough_law.specs.Ending.{StillGoes, CutRunsAreLong}

-- these rounds are legal by these marks, the log is full after them, and some party hasn't ended
pub record AreCutOff (script : ScriptData) (files : List (List Frame)) (marks : Marks) (rounds : List RoundSeen) : Type 0 where
  pub legal : LegalRounds true (session_of script files) marks (new_run (session_of script files)) rounds
  pub full : length (run_from (session_of script files) (new_run (session_of script files)) rounds).entries ≡ script.cycles
  pub going : all_ended (session_of script files) (run_from (session_of script files) (new_run (session_of script files)) rounds) ≡ false

bare-length : (es : List EntrySeen) → length (bare es) ≡ length es
bare-length [] = refl
bare-length (e ∷ es) = let rest = bare-length es in omega arith

-- a round adds as many entries as it has
pub entries-longer : (s : Session) (run : Run) (round : RoundSeen) → length (after_round s run round).entries ≡ length run.entries + length round.entries
entries-longer s run round = ap length (round-entries s run round) ∙ length-append run.entries (bare round.entries) ∙ ap (λ n. length run.entries + n) (bare-length round.entries)

-- a fast turn has at most 16 entries
few-of : (A B : Type 0) (b : Bool) (full : Bool) (entries : List EntrySeen) → MatchBool b (entries ≡ []) (IsFastTurn 16 full entries × A × B) → length entries ≤ 16
few-of A B true full entries h = let none : length entries ≡ 0 = ap length h in omega arith
few-of A B false full entries h = h.0.0

pub few-entries : (cut : Bool) (s : Session) (marks : Marks) (run : Run) (round : RoundSeen) → LegalRound cut s marks run round → length round.entries ≤ 16
few-entries cut s marks run round legal = few-of _ _ (fast_ended run) (cut && fills s run round) round.entries legal.turns.fast

pub entries-few : (cut : Bool) (s : Session) (marks : Marks) (run : Run) (rounds : List RoundSeen) → LegalRounds cut s marks run rounds → length (run_from s run rounds).entries ≤ length run.entries + 16 * length rounds
entries-few cut s marks run [] legal = omega arith
entries-few cut s marks run (round ∷ rounds) legal =
    let few = few-entries cut s marks run round legal.0 in
    let more = entries-longer s run round in
    let rest = entries-few cut s marks (after_round s run round) rounds legal.1 in
    omega arith

-- ## Whole turns

-- a turn that ends since the log is full has all its cycles, if it can't be full before
ends_whole : (n : ℕ) (full : Bool) (last : EntrySeen) → n ≡ 16 ⊎ (full ≡ false) → (n ≡ 16) ⊎ (is_mixed last.entry.cycle ≡ false) ⊎ (full ≡ true) → (n ≡ 16) ⊎ (is_mixed last.entry.cycle ≡ false) ⊎ (false ≡ true)
ends_whole n full last (inl all) h = inl all
ends_whole n full last (inr not_full) (inl all) = inl all
ends_whole n full last (inr not_full) (inr (inl still)) = inr (inl still)
ends_whole n full last (inr not_full) (inr (inr is)) = absurd (true≢false (sym is ∙ not_full))

mixed_whole : (n : ℕ) (full : Bool) (entries : List EntrySeen) → n ≡ 16 ⊎ (full ≡ false) → AreMixedBut (λ last. (n ≡ 16) ⊎ (is_mixed last.entry.cycle ≡ false) ⊎ (full ≡ true)) entries
    → AreMixedBut (λ last. (n ≡ 16) ⊎ (is_mixed last.entry.cycle ≡ false) ⊎ (false ≡ true)) entries
mixed_whole n full [] why h = h
mixed_whole n full (e ∷ []) why h = ends_whole n full e why h
mixed_whole n full (e ∷ next ∷ entries) why h = (h.0, mixed_whole n full (next ∷ entries) why h.1)

-- whether a round fills the log, and then by how many entries
fills_by : (before more cycles : ℕ) (b : Bool) → (before + more == cycles) ≡ b → more ≤ 16 → before + 16 ≤ cycles → more ≡ 16 ⊎ (b ≡ false)
fills_by before more cycles true is few room = let same : before + more ≡ cycles = search (arith, is) in inl (omega arith)
fills_by before more cycles false is few room = inr refl

pub whole_turn : (s : Session) (marks : Marks) (run : Run) (round : RoundSeen) → length run.entries + 16 ≤ s.script.cycles → LegalRound true s marks run round → LegalRound false s marks run round
whole_turn s marks run round room legal =
    let few = few-entries true s marks run round legal in
    record {
      follows = legal.follows;
      turns = record {
        clients = legal.turns.clients;
        normal = legal.turns.normal;
        fast = match_bool-map (fast_ended run) (λ none. none)
            (λ h. ((h.0.0, mixed_whole (length round.entries) (fills s run round) round.entries (fills_by (length run.entries) (length round.entries) s.script.cycles (fills s run round) refl few room) h.0.1), h.1, h.2)) legal.turns.fast;
      };
      histories = legal.histories;
    }

pub whole_turns : (s : Session) (marks : Marks) (run : Run) (rounds : List RoundSeen) (n r : ℕ) → length run.entries ≤ 16 * n → n + length rounds ≤ r → 16 * r ≤ s.script.cycles
    → LegalRounds true s marks run rounds → LegalRounds false s marks run rounds
whole_turns s marks run [] n r few within enough legal = tt
whole_turns s marks run (round ∷ rounds) n r few within enough legal =
    let more = entries-longer s run round in
    let most = few-entries true s marks run round legal.0 in
    (whole_turn s marks run round (omega arith) legal.0, whole_turns s marks (after_round s run round) rounds (n + 1) r (omega arith) (omega arith) enough legal.1)

-- ## The first rounds

pub first_legal : (cut : Bool) (s : Session) (marks : Marks) (run : Run) (n : ℕ) (rounds : List RoundSeen) → LegalRounds cut s marks run rounds → LegalRounds cut s marks run (take n rounds)
first_legal cut s marks run zero rounds legal = tt
first_legal cut s marks run (suc n) [] legal = tt
first_legal cut s marks run (suc n) (round ∷ rounds) legal = (legal.0, first_legal cut s marks (after_round s run round) n rounds legal.1)

-- after the first rounds not all have ended, since another one follows or the last run still goes
pub first_goes : (cut : Bool) (s : Session) (marks : Marks) (run : Run) (n : ℕ) (rounds : List RoundSeen) → LegalRounds cut s marks run rounds → all_ended s (run_from s run rounds) ≡ false
    → all_ended s (run_from s run (take n rounds)) ≡ false
first_goes cut s marks run zero [] legal going = going
first_goes cut s marks run zero (round ∷ rounds) legal going = legal.0.follows.going
first_goes cut s marks run (suc n) [] legal going = going
first_goes cut s marks run (suc n) (round ∷ rounds) legal going = first_goes cut s marks (after_round s run round) n rounds legal.1 going

-- ## Rounds that are cut off

-- the rounds are many, and in the first of them the fast mixer made its whole turns
pub long : (script : ScriptData) (files : List (List Frame)) (marks : Marks) (rounds : List RoundSeen) → HasEnoughCycles script → AreCutOff script files marks rounds → StillGoes script files marks
long script files marks rounds enough cut =
    let s = session_of script files in
    let r = enough_rounds script in
    let all = entries-few true s marks (new_run s) rounds cut.legal in
    let low : 16 * r ≤ script.cycles = enough.enough in
    let full : length (run_from s (new_run s) rounds).entries ≡ script.cycles = cut.full in
    let many : r ≤ length rounds = omega arith in
    let count : length (take r rounds) ≡ r = length-take-le r rounds many in
    record {
      rounds = take r rounds;
      count = count;
      legal = whole_turns s marks (new_run s) (take r rounds) 0 r (omega arith) (omega arith) low (first_legal true s marks (new_run s) r rounds cut.legal);
      going = first_goes true s marks (new_run s) r rounds cut.legal cut.going;
    }

-- the rounds of a cut run are, by the marks of its journal
pub cut_off : (script : ScriptData) (files : List (List Frame)) (j : JournalData) → IsCutRun script files j → AreCutOff script files (marks_of j.rounds) j.rounds
cut_off script files j cut = record { legal = cut.rounds.rounds; full = cut.full; going = cut.going }

pub cut_long : (script : ScriptData) (files : List (List Frame)) (j : JournalData) → CutRunsAreLong script files j
cut_long script files j enough cut = long script files (marks_of j.rounds) j.rounds enough (cut_off script files j cut)
