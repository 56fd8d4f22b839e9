-- The state adopted last is that of the last entry.
use Rattle.std.proofs.Common.{◌≡◌, if◌then◌else◌, ℕ, Bool, true, false, true≢false, Option, Some, None, List, [], ◌∷◌, take, drop, refl, sym, ap, ◌∙◌, subst}
use Rattle.af_enough_law.proofs.Common.{EntrySeen, IsFastTurn, LegalEntries, LegalEntry, LegalRound, Marks, MatchBool, RoundSeen, Run, Session, Turn, TurnFound, after_round, after_turn, all_played, before_turn, each_track, early_of, ends, fast_ended, found_in, is_early, last_used, last_used-push, late_of, le-leb, loaded, met, met_after, most_round_cycles, prefix_len, turned, with_calls, with_cycle, with_cycles, with_ends, with_load, with_mix, with_poll, with_turn}

-- the number of the state adopted last is that of the last entry
abbrev pub IsCurrent : Run → Type 0
IsCurrent run = run.current ≡ last_used run.entries

-- neither the state adopted last nor the entries change
record SameCurrent (run later : Run) : Type 0 where
  current : later.current ≡ run.current
  entries : later.entries ≡ run.entries

current_same : (run later : Run) → SameCurrent run later → IsCurrent run → IsCurrent later
current_same run later same is = same.current ∙ is ∙ ap last_used (sym same.entries)

pub adopted : (b : Bool) (k c : ℕ) → b ≡ true → (if b then k else c) ≡ k
adopted true k c is = refl
adopted false k c is = absurd (true≢false (sym is))

cycle_is : (s : Session) (marks : Marks) (run : Run) (e : EntrySeen) → LegalEntry s marks (with_poll s e.entry.state run) e → IsCurrent (with_cycle s run e)
unfolding with_poll with_mix
cycle_is s marks run e legal = adopted _ e.entry.state run.current (le-leb e.entry.state _ legal.cycle.pushed) ∙ sym (last_used-push run.entries e.entry)

cycles_are : (s : Session) (marks : Marks) (es : List EntrySeen) (run : Run) → LegalEntries s marks run es → IsCurrent run → IsCurrent (with_cycles s es run)
cycles_are s marks [] run legal is = is
cycles_are s marks (e ∷ es) run legal is = cycles_are s marks es (with_cycle s run e) legal.1 (cycle_is s marks run e legal.0)

calls_same : (round : RoundSeen) (run : Run) → SameCurrent run (with_calls round run)
unfolding with_calls
calls_same round run = record { current = refl; entries = refl }

turn_same : (s : Session) (f : TurnFound) (e : Turn) (run : Run) → SameCurrent run (with_turn s f e run)
unfolding with_turn
turn_same s f e run = record { current = refl; entries = refl }

turned_same : (s : Session) (found : Turn → TurnFound) (o : Option Turn) (run : Run) → SameCurrent run (turned s found o run)
turned_same s found None run = record { current = refl; entries = refl }
turned_same s found (Some e) run = turn_same s (found e) e run

load_same : (e : Turn) (run : Run) → SameCurrent run (with_load e run)
unfolding with_load
load_same e run = record { current = refl; entries = refl }

loaded_same : (o : Option Turn) (run : Run) → SameCurrent run (loaded o run)
loaded_same None run = record { current = refl; entries = refl }
loaded_same (Some e) run = load_same e run

met_same : (s : Session) (run : Run) → SameCurrent run (met s run)
unfolding met
met_same s run = record { current = refl; entries = refl }

ends_same : (run : Run) → SameCurrent run (with_ends run)
unfolding with_ends
ends_same run = by run.normal.ended (each_track (λ track t. record t { client = ends t.client }) run) (record { current = refl; entries = refl })
  where
    by : (b : Bool) (x : Run) → SameCurrent run x → SameCurrent run (if b then x else run)
    by true x same = same
    by false x same = record { current = refl; entries = refl }

-- both parts of the entries of a round, which may be none
pub legal_parts : (b : Bool) (s : Session) (marks : Marks) (run : Run) (round : RoundSeen) → MatchBool b (round.entries ≡ []) (IsFastTurn most_round_cycles false round.entries × LegalEntries s marks (with_calls round run) (early_of run round) × LegalEntries s marks (after_turn s run round) (late_of run round))
    → LegalEntries s marks (with_calls round run) (early_of run round) × LegalEntries s marks (after_turn s run round) (late_of run round)
legal_parts false s marks run round h = (h.1, h.2)
legal_parts true s marks run round none = (subst (LegalEntries s marks (with_calls round run)) (sym (ap (λ l. take (prefix_len (is_early run) l) l) none)) tt, subst (LegalEntries s marks (after_turn s run round)) (sym (ap (λ l. drop (prefix_len (is_early run) l) l) none)) tt)

-- after each legal round the state adopted last is that of the last entry
pub round_current : (s : Session) (marks : Marks) (run : Run) (round : RoundSeen) → LegalRound false s marks run round → IsCurrent run → IsCurrent (after_round s run round)
round_current s marks run round legal is =
    let called : Run = with_calls round run in
    let before : Run = before_turn s run round in
    let turn : Run = after_turn s run round in
    let late : Run = with_cycles s (late_of run round) turn in
    let all : Run = all_played s run round in
    let p = legal_parts (fast_ended run) s marks run round legal.turns.fast in
    let a = cycles_are s marks (early_of run round) called p.0 (current_same run called (calls_same round run) is) in
    let b = current_same before turn (turned_same s (found_in s run round) round.turn before) a in
    let c = cycles_are s marks (late_of run round) turn p.1 b in
    let d = current_same late all (loaded_same round.turn late) c in
    let e = current_same all (met_after s run round) (met_same s all) d in
    current_same (met_after s run round) (after_round s run round) (ends_same (met_after s run round)) e

-- what follows the entries changes neither
pub rest_current : (s : Session) (run : Run) (round : RoundSeen) → (after_round s run round).current ≡ (with_cycles s (late_of run round) (after_turn s run round)).current
rest_current s run round =
    let late : Run = with_cycles s (late_of run round) (after_turn s run round) in
    (ends_same (met_after s run round)).current ∙ (met_same s (all_played s run round)).current ∙ (loaded_same round.turn late).current

pub turn_current : (s : Session) (run : Run) (round : RoundSeen) → (after_turn s run round).current ≡ (before_turn s run round).current
turn_current s run round = (turned_same s (found_in s run round) round.turn (before_turn s run round)).current
