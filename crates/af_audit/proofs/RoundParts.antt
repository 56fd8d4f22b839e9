-- The parts of a journal's round: its turn has its form, and its entries stand in the log.
use Rattle.std.proofs.Common.{◌≡◌, ℕ, ◌+◌, ◌<◌, ◌≤◌, List, Option, Some, None, option_map, IfSome, MatchOption, length, map, take, arith, sym, ap, subst, ◌∙◌}
use Rattle.af_audit.proofs.Common.{All-get_or, CycleEntry, EntrySeen, IsJournal, IsRound, IsTurn, JournalData, Turn, entries_inside, entries_of, length-map, no_round, round_at}

turn_form : (j : JournalData) (i : ℕ) (e : Turn) → IsJournal j → i < length j.rounds → Some e ≡ (round_at j i).turn → IsTurn j.tracks e
turn_form j i e form lt is = subst (λ (o : Option Turn). MatchOption o (Unit {0}) (IsTurn j.tracks)) (sym is) (All-get_or (IsRound j.tracks) j.rounds i no_round lt form.rounds).turn

pub turn_told : {X : Type 0} (view : X → Turn) (j : JournalData) (i : ℕ) (o : Option X) → IsJournal j → i < length j.rounds → option_map view o ≡ (round_at j i).turn → IfSome o (λ e. IsTurn j.tracks (view e))
turn_told view j i None form lt is = tt
turn_told view j i (Some e) form lt is = turn_form j i (view e) form lt is

pub within_rounds : (j : JournalData) (i first count : ℕ) → i < length j.rounds → first ≡ length (entries_of (take i j.rounds)) → count ≡ length (round_at j i).entries → first + count ≤ length (entries_of j.rounds)
within_rounds j i first count lt first_is count_is = let inside = entries_inside j.rounds i lt in omega (arith, inside, first_is, count_is)

pub as_many : (es : List EntrySeen) (entries : List CycleEntry) → map (λ e. e.entry) es ≡ entries → length entries ≡ length es
as_many es entries is = ap length (sym is) ∙ length-map es (λ e. e.entry)
