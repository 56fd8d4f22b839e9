-- A round adds just its entries to a run, and its states to those pushed.
use Rattle.std.specs.Prelude.{◌≡◌, if◌then◌else◌, ◌∷◌, ◌++◌}
use Rattle.std.proofs.Common.{sym, ap, ◌∙◌, append-nil, append_assoc}
use Rattle.af_runs.proofs.Common.{Bool, CycleEntry, EntrySeen, List, RoundSeen, Turn, [], drop, false, map, refl, suc, take, true, zero, ℕ}
use Rattle.af_runs.proofs.Basics.{calls-entries, cycle_entries, loaded-entries, met-entries, turned-entries}
use Rattle.af_runs.specs.Found.{TurnFound}
use Rattle.af_runs.specs.Rounds.{early_count, early_of, late_of, before_turn, after_turn, found_in, all_played, after_round}
use Rattle.af_runs.specs.Runs.{Run, with_calls, with_cycle, with_cycles, with_turn, with_load, with_ends, met}
use Rattle.af_runs.specs.Sessions.{Session}

-- the entries of a round, without their frames
abbrev pub bare : List EntrySeen → List CycleEntry
bare es = map (λ e. e.entry) es

cycles-entries : (s : Session) (es : List EntrySeen) (run : Run) → (with_cycles s es run).entries ≡ run.entries ++ bare es
cycles-entries s [] run = sym (append-nil run.entries)
cycles-entries s (e ∷ es) run = cycles-entries s es (with_cycle s run e) ∙ (ap (λ xs. xs ++ bare es) (cycle_entries s run e) ∙ append_assoc run.entries (e.entry ∷ []) (bare es))

turn-entries : (s : Session) (found : TurnFound) (e : Turn) (run : Run) → (with_turn s found e run).entries ≡ run.entries
unfolding with_turn
turn-entries s found e run = refl

load-entries : (e : Turn) (run : Run) → (with_load e run).entries ≡ run.entries
unfolding with_load
load-entries e run = refl

-- one of two runs with the same entries
either-entries : (b : Bool) (x y : Run) → x.entries ≡ y.entries → (if b then x else y).entries ≡ y.entries
either-entries true x y same = same
either-entries false x y same = refl

ends-entries : (run : Run) → (with_ends run).entries ≡ run.entries
unfolding with_ends
ends-entries run = either-entries run.normal.ended _ run refl

split : (n : ℕ) (es : List EntrySeen) → take n es ++ drop n es ≡ es
split zero xs = refl
split (suc n) [] = refl
split (suc n) (x ∷ xs) = ap (λ t. x ∷ t) (split n xs)

bare-append : (xs ys : List EntrySeen) → bare (xs ++ ys) ≡ bare xs ++ bare ys
bare-append [] ys = refl
bare-append (x ∷ xs) ys = ap (λ zs. x.entry ∷ zs) (bare-append xs ys)

-- a round adds its entries
pub round-entries : (s : Session) (run : Run) (round : RoundSeen) → (after_round s run round).entries ≡ run.entries ++ bare round.entries
round-entries s run round =
    ends-entries (met s (all_played s run round))
    ∙ (met-entries s (all_played s run round)
    ∙ (loaded-entries round.turn (with_cycles s (late_of run round) (after_turn s run round))
    ∙ (cycles-entries s (late_of run round) (after_turn s run round)
    ∙ (ap (λ es. es ++ bare (late_of run round)) (turned-entries s (found_in s run round) round.turn (before_turn s run round) ∙ (cycles-entries s (early_of run round) (with_calls round run) ∙ ap (λ es. es ++ bare (early_of run round)) (calls-entries round run)))
    ∙ (append_assoc run.entries (bare (early_of run round)) (bare (late_of run round))
    ∙ ap (λ es. run.entries ++ es) (sym (bare-append (early_of run round) (late_of run round)) ∙ ap (λ es. bare es) (split (early_count run round) round.entries)))))))
