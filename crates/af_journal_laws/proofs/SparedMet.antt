-- In legal rounds each block without a poke is spared up to each meeting of both its proxies.
use Rattle.std.proofs.Common.{◌≡◌, ℕ, ◌<◌, Bool, true, false, List, [], ◌∷◌, ◌++◌, length, All, subst, ◌∙◌, arith}
use Rattle.af_journal_laws.proofs.Common.{All-cons, All-head, All-nil, All-tail, Frame, HasLegalRounds, IsRound, IsScript, IsSpared, JournalData, LegalRound, LegalRounds, Marks, RoundSeen, Run, ScriptData, Session, after_round, all_played, calls_in, ends_many, is_lawful_block, is_poke_on, list_any, marks_of, met_after, met_many, new_run, new_there, not_true, played_many, recorded, run_from, session_of, track_count}
use Rattle.af_journal_laws.specs.Spared.{EachMetBlockIsSpared}
use Rattle.af_journal_laws.proofs.AtMeetings.{HasHistoryMet, history_ends, history_new, spared_so}
use Rattle.af_journal_laws.proofs.Rounds.{goes_rounds}
use Rattle.af_journal_laws.proofs.Steps.{Goes}

-- ## The rounds with which a journal begins

pub legal_first : (cut : Bool) (s : Session) (marks : Marks) (now later : List RoundSeen) (run : Run) → LegalRounds cut s marks run (now ++ later) → LegalRounds cut s marks run now
legal_first cut s marks [] later run legal = tt
legal_first cut s marks (round ∷ now) later run legal = (legal.0, legal_first cut s marks now later (after_round s run round) legal.1)

pub forms_first : (tracks : ℕ) (now later : List RoundSeen) → All (IsRound tracks) (now ++ later) → All (IsRound tracks) now
forms_first tracks [] later forms = All-nil (IsRound tracks)
forms_first tracks (round ∷ now) later forms = All-cons (IsRound tracks) round now (All-head (IsRound tracks) round (now ++ later) forms) (forms_first tracks now later (All-tail (IsRound tracks) round (now ++ later) forms))

-- ## The histories

-- a legal round leaves a history, if both proxies met
history_round : (commands cut : Bool) (s : Session) (marks : Marks) (n : ℕ) (run : Run) (round : RoundSeen) → n < track_count s → n < length run.tracks → LegalRound cut s marks run round → HasHistoryMet commands s n (after_round s run round)
history_round commands cut s marks n run round low there legal = history_ends commands s n (met_after s run round) (let m = met_many s (all_played s run round) in let p = played_many s run round in omega (arith, m, p, there)) (by_block commands)
  where
    by_block : (b : Bool) → HasHistoryMet b s n (met_after s run round)
    by_block true = λ meets. (legal.histories.blocks n low).commands meets
    by_block false = λ meets. (legal.histories.blocks n low).stream meets

after_many : (s : Session) (run : Run) (round : RoundSeen) → length (after_round s run round).tracks ≡ length run.tracks
after_many s run round = ends_many (met_after s run round) ∙ met_many s (all_played s run round) ∙ played_many s run round

pub history_rounds : (commands cut : Bool) (s : Session) (marks : Marks) (n : ℕ) (rounds : List RoundSeen) (run : Run) → n < track_count s → n < length run.tracks → LegalRounds cut s marks run rounds → HasHistoryMet commands s n run → HasHistoryMet commands s n (run_from s run rounds)
history_rounds commands cut s marks n [] run low there legal h = h
history_rounds commands cut s marks n (round ∷ rounds) run low there legal h =
    history_rounds commands cut s marks n rounds (after_round s run round) low (let m = after_many s run round in omega (arith, m, there)) legal.1 (history_round commands cut s marks n run round low there legal.0)

-- ## What follows

module _ (cut : Bool) (script : ScriptData) (files : List (List Frame)) (j : JournalData) (is : IsScript script) (legal : HasLegalRounds cut script files j) (now later : List RoundSeen) (begins : j.rounds ≡ now ++ later)
    (commands : Bool) (n : ℕ) (low : n < track_count (session_of script files)) (lawful : is_lawful_block commands now n ≡ true) where
  abbrev s : Session
  s = session_of script files

  abbrev run : Run
  run = run_from s (new_run s) now

  legal_now : LegalRounds cut s (marks_of j.rounds) (new_run s) now
  legal_now = legal_first cut s (marks_of j.rounds) now later (new_run s) (subst (LegalRounds cut s (marks_of j.rounds) (new_run s)) begins legal.rounds)

  pub goes_now : Goes commands s n (new_run s) run (recorded s (new_run s) now n) (IsSpared commands s (new_run s) now n)
  goes_now = goes_rounds commands cut s (marks_of j.rounds) j.tracks n now (new_run s) low (new_there s n low)
      (forms_first j.tracks now later (subst (All (IsRound j.tracks)) begins legal.form.rounds)) legal_now
      (not_true (list_any (λ (round : RoundSeen). list_any (is_poke_on commands) (calls_in round n)) now) lawful)

  pub history_now : HasHistoryMet commands s n run
  history_now = history_rounds commands cut s (marks_of j.rounds) n now (new_run s) low (new_there s n low) legal_now (history_new s is n low commands)

-- in legal rounds each block without a poke is spared up to each meeting of both its proxies
pub met-blocks-are-spared : (cut : Bool) (script : ScriptData) (files : List (List Frame)) (j : JournalData) → IsScript script → HasLegalRounds cut script files j → EachMetBlockIsSpared script files j
met-blocks-are-spared cut script files j is legal now later begins commands n low meets lawful =
    let s = session_of script files in
    spared_so commands s is n low (run_from s (new_run s) now) (recorded s (new_run s) now n) (IsSpared commands s (new_run s) now n)
    (goes_now cut script files j is legal now later begins commands n low lawful) meets (history_now cut script files j is legal now later begins commands n low lawful)
