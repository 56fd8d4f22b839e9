-- How the entries of a log are dealt out to the rounds of a journal.
use Rattle.std.proofs.Common.{◌≡◌, ℕ, zero, suc, ◌+◌, ◌-◌, ◌<◌, ◌≤◌, List, [], ◌∷◌, ◌++◌, length, map, take, drop, slice_index_or, refl, ap, sym, ◌∙◌, arith}
use Rattle.af_model.proofs.Common.{All-get_or, CycleEntry, Frame, Logged, length-append, length-drop, length-take-le}
use Rattle.af_model.proofs.Basics.{same_rounds}
use Rattle.af_model.specs.declared.journal.Round.{Round}
use Rattle.af_model.specs.Journals.{EntrySeen, RoundNoted, RoundsNoted, journal_of, cycles_of, entries_of, entries_seen, no_round, rounds_seen, taken_by}
use Rattle.af_model.specs.JournalForm.{IsJournal, IsRound}
use Rattle.af_model.specs.Noting.{Follow, none_noted, round_noted}

-- the entries of a log stay
pub same-entries : (frames : List Frame) (entries : List CycleEntry) → map (λ x. x.entry) (entries_seen frames entries) ≡ entries
same-entries frames [] = refl
same-entries frames (e ∷ es) = ap (λ l. e ∷ l) (same-entries (drop (taken_by e) frames) es)

-- a round keeps its calls and its turn
pub same-calls : (entries : List EntrySeen) (rounds : List RoundNoted) (i : ℕ) → (slice_index_or (rounds_seen entries rounds) i no_round).calls ≡ (slice_index_or rounds i none_noted).calls
same-calls entries [] i = refl
same-calls entries (r ∷ rs) zero = refl
same-calls entries (r ∷ rs) (suc i) = same-calls (drop r.cycles entries) rs i

pub same-turn : (entries : List EntrySeen) (rounds : List RoundNoted) (i : ℕ) → (slice_index_or (rounds_seen entries rounds) i no_round).turn ≡ (slice_index_or rounds i none_noted).turn
same-turn entries [] i = refl
same-turn entries (r ∷ rs) zero = refl
same-turn entries (r ∷ rs) (suc i) = same-turn (drop r.cycles entries) rs i

-- what the first round leaves is enough for the others
left-over : (entries : List EntrySeen) (r : RoundNoted) (rs : List RoundNoted) → cycles_of (r ∷ rs) ≤ length entries → cycles_of rs ≤ length (drop r.cycles entries)
left-over entries r rs enough = let e = length-drop r.cycles entries in omega arith

-- a round has as many entries as were noted
pub same-count : (entries : List EntrySeen) (rounds : List RoundNoted) (i : ℕ) → cycles_of rounds ≤ length entries → length (slice_index_or (rounds_seen entries rounds) i no_round).entries ≡ (slice_index_or rounds i none_noted).cycles
same-count entries [] zero enough = refl
same-count entries [] (suc i) enough = refl
same-count entries (r ∷ rs) zero enough = length-take-le r.cycles entries (omega arith)
same-count entries (r ∷ rs) (suc i) enough = same-count (drop r.cycles entries) rs i (left-over entries r rs enough)

-- the first rounds have as many entries as were noted
pub first-count : (entries : List EntrySeen) (rounds : List RoundNoted) (i : ℕ) → cycles_of rounds ≤ length entries → length (entries_of (take i (rounds_seen entries rounds))) ≡ cycles_of (take i rounds)
first-count entries rounds zero enough = refl
first-count entries [] (suc i) enough = refl
first-count entries (r ∷ rs) (suc i) enough = let rest = rounds_seen (drop r.cycles entries) rs in
    let joined = length-append (take r.cycles entries) (entries_of (take i rest)) in
    let here = length-take-le r.cycles entries (omega arith) in
    let there = first-count (drop r.cycles entries) rs i (left-over entries r rs enough) in omega arith

-- the place of a round's first entry is the number of entries before it
pub first-place : (at : ℕ) (rounds : List Round) (i : ℕ) (other : Round) → Follow at rounds → i < length rounds → (slice_index_or rounds i other).first ≡ at + cycles_of (take i (map round_noted rounds))
first-place at [] i other follow lt = absurd (omega arith)
first-place at (r ∷ rs) zero other follow lt = let e = follow.0 in omega arith
first-place at (r ∷ rs) (suc i) other follow lt = let e = first-place (at + r.cycles) rs i other follow.1 (omega arith) in omega arith

-- one round more follows those before it
pub follow-more : (at : ℕ) (rounds : List Round) (r : Round) → Follow at rounds → r.first ≡ at + cycles_of (map round_noted rounds) → Follow at (rounds ++ r ∷ [])
follow-more at [] r follow first = let e : r.first ≡ at = omega arith in (e, tt)
follow-more at (x ∷ xs) r follow first = (follow.0, follow-more (at + x.cycles) xs r follow.1 (omega arith))

-- each round that was noted has the calls of each track
pub each-has-calls : (noted : RoundsNoted) (log : Logged) → IsJournal (journal_of noted log) → (i : ℕ) → i < length noted.rounds → length (slice_index_or noted.rounds i none_noted).calls ≡ noted.tracks
each-has-calls noted log form i inside = let entries = entries_seen log.frames log.entries in let seen = rounds_seen entries noted.rounds in
    let there : i < length seen = let e = same_rounds entries noted.rounds in omega arith in
    let whole : IsRound noted.tracks (slice_index_or seen i no_round) = All-get_or (IsRound noted.tracks) seen i no_round there form.rounds in
    ap length (sym (same-calls entries noted.rounds i)) ∙ whole.calls
