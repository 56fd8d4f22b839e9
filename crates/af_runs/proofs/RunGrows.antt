-- How a run grows by a round: legal rounds followed by a legal round are legal, also once the further round has a poke.
use Rattle.af_runs.proofs.Common.{Bool, EntrySeen, List, MatchBool, MatchOption, None, NormalKept, Option, RoundSeen, Setup, Some, Turn, [], false, refl, true, ℕ}
use Rattle.std.specs.Prelude.{◌≡◌, ◌∷◌, ◌++◌}
use Rattle.af_runs.specs.Blocks.{Marks}
use Rattle.af_runs.specs.Found.{TurnFound, LegalTurnBy}
use Rattle.af_runs.specs.LegalRuns.{run_from, LegalRounds}
use Rattle.af_runs.specs.Rounds.{LegalEntry, LegalEntries, LegalRound, after_round, after_turn, found_in, early_of, late_of}
use Rattle.af_runs.specs.Runs.{Run, with_calls, with_cycle, with_poll, fast_ended}
use Rattle.af_runs.specs.Sessions.{Session, setup_of}

-- the run after some rounds and one more
pub run_from-more : (s : Session) (run : Run) (rounds : List RoundSeen) (round : RoundSeen) → run_from s run (rounds ++ round ∷ []) ≡ after_round s (run_from s run rounds) round
run_from-more s run [] round = refl
run_from-more s run (first ∷ rounds) round = run_from-more s (after_round s run first) rounds round

-- a round more
pub rounds-more : (cut : Bool) (s : Session) (marks : Marks) (run : Run) (rounds : List RoundSeen) (round : RoundSeen)
    → LegalRounds cut s marks run rounds → LegalRound cut s marks (run_from s run rounds) round → LegalRounds cut s marks run (rounds ++ round ∷ [])
rounds-more cut s marks run [] round legal next = (next, tt)
rounds-more cut s marks run (first ∷ rounds) round legal next = (legal.0, rounds-more cut s marks (after_round s run first) rounds round legal.1 next)

-- fewer blocks are lawful
pub record AreFewer (marks fewer : Marks) : Type 0 where
  pub streams : (track : ℕ) → fewer.streams track ≡ true → marks.streams track ≡ true
  pub commands : (track : ℕ) → fewer.commands track ≡ true → marks.commands track ≡ true

entry-fewer : (s : Session) (marks fewer : Marks) (run : Run) (e : EntrySeen) → AreFewer marks fewer → LegalEntry s marks run e → LegalEntry s fewer run e
entry-fewer s marks fewer run e f legal = record { after = legal.after; cycle = legal.cycle; pipe = legal.pipe; lawful = λ mixed i low carried mark. legal.lawful mixed i low carried (f.streams _ mark) }

entries-fewer : (s : Session) (marks fewer : Marks) (run : Run) (entries : List EntrySeen) → AreFewer marks fewer → LegalEntries s marks run entries → LegalEntries s fewer run entries
entries-fewer s marks fewer run [] f legal = tt
entries-fewer s marks fewer run (e ∷ entries) f legal = (entry-fewer s marks fewer (with_poll s e.entry.state run) e f legal.0, entries-fewer s marks fewer (with_cycle s run e) entries f legal.1)

turn-fewer : (c : Setup) (marks fewer : Marks) (found : TurnFound) (m : NormalKept) (e : Turn) → AreFewer marks fewer → LegalTurnBy c marks found m e → LegalTurnBy c fewer found m e
turn-fewer c marks fewer found m e f legal = record { outside = legal.outside; found = legal.found; streams = λ track mark. legal.streams track (f.streams track mark); commands = λ track mark. legal.commands track (f.commands track mark); legal = legal.legal }

-- a test chooses the same of two, if each of the first leads to that of the second
pub match_bool-map : {A B C D : Type 0} (b : Bool) → (A → C) → (B → D) → MatchBool b A B → MatchBool b C D
match_bool-map {A} {B} {C} {D} b f g = elim b as (λ x. MatchBool x A B → MatchBool x C D) [ true ↦ f | false ↦ g ]

match_option-map : {X : Type 0} {A C : Type 0} {P Q : X → Type 0} (o : Option X) → (A → C) → ((x : X) → P x → Q x) → MatchOption o A P → MatchOption o C Q
match_option-map {X} {A} {C} {P} {Q} o f g = elim o as (λ x. MatchOption x A P → MatchOption x C Q) [ None ↦ f | Some x ↦ g x ]

round-fewer : (cut : Bool) (s : Session) (marks fewer : Marks) (run : Run) (round : RoundSeen) → AreFewer marks fewer → LegalRound cut s marks run round → LegalRound cut s fewer run round
round-fewer cut s marks fewer run round f legal = record {
  follows = legal.follows;
  turns = record {
    clients = legal.turns.clients;
    normal = match_bool-map run.normal.ended (λ none. none) (match_option-map round.turn (λ none. none) (λ e h. turn-fewer (setup_of s) marks fewer (found_in s run round e) run.normal e f h)) legal.turns.normal;
    fast = match_bool-map (fast_ended run) (λ none. none) (λ h. (h.0, entries-fewer s marks fewer (with_calls round run) (early_of run round) f h.1, entries-fewer s marks fewer (after_turn s run round) (late_of run round) f h.2)) legal.turns.fast;
  };
  histories = legal.histories;
}

-- legal rounds are legal also if fewer blocks are lawful
pub rounds-fewer : (cut : Bool) (s : Session) (marks fewer : Marks) (run : Run) (rounds : List RoundSeen) → AreFewer marks fewer → LegalRounds cut s marks run rounds → LegalRounds cut s fewer run rounds
rounds-fewer cut s marks fewer run [] f legal = tt
rounds-fewer cut s marks fewer run (round ∷ rounds) f legal = (round-fewer cut s marks fewer run round f legal.0, rounds-fewer cut s marks fewer (after_round s run round) rounds f legal.1)
