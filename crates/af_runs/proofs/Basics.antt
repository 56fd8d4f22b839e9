-- Basic lemmas that several files here, and of the crates above, cite.
use Rattle.std.proofs.Common.{ap, arith, inl, inr, is_some, length, refl, replicate, subst, suc, sym, take, true≢false, zero, ℕ, ◌++◌, ◌+◌, ◌-◌, ◌<◌, ◌∙◌, ◌≡◌, ◌≤◌, ◌⊎◌}
use Rattle.af_runs.proofs.Common.{Bool, CycleEntry, EntrySeen, FastState, IsSeen, List, None, Op, Option, RoundSeen, Seen, Some, Turn, [], absent, cases_eq, comes_home, count_seen, entries_of, entry_slot, false, is_shut, length-append, no_round, shows_command, slice_index_or, state_of, taken_before, true, welcomed}
use Rattle.std.specs.Prelude.{if◌then◌else◌, ◌||◌, ◌∷◌}
use Rattle.af_base.proofs.Basics.{no}
use Rattle.af_base.specs.declared.event.ClientCall.{ClientCall}
use Rattle.af_base.specs.declared.seen.Seen.TheVariants as seen
use Rattle.af_life.specs.declared.kept.Holder.TheVariants.{Home}
use Rattle.af_life.specs.declared.kept.TrackKept.{TrackKept}
use Rattle.af_runs.specs.ClientTurns.{Track, answered, commands_sent, wanted_of, with_call}
use Rattle.af_runs.specs.Clients.{Client, after_answer, asked_first, at_next_turn, begins, begun, next_want, rest_of, rested, wants_of}
use Rattle.af_runs.specs.Found.{TurnFound}
use Rattle.af_runs.specs.Fronts.{is_shown}
use Rattle.af_runs.specs.Rounds.{loaded, turned}
use Rattle.af_runs.specs.Runs.{Run, met, with_calls, with_cycle, with_load, with_mix, with_poll, with_turn}
use Rattle.af_runs.specs.Sessions.{Session}
use Rattle.af_runs.specs.declared.want.Want.{Want}

pub absent_at : (n k : ℕ) → slice_index_or (replicate n absent) k absent ≡ absent
absent_at zero k = refl
absent_at (suc n) zero = refl
absent_at (suc n) (suc k) = absent_at n k

-- the client after a call that was wanted
pub answer-some : (t : Track) (answer : ClientCall) (wanted : Want) → wanted_of t ≡ Some wanted → answered t answer ≡ after_answer (commands_sent (with_call t answer)) wanted (rest_of (begun t.client).due) (begun t.client) answer
answer-some t answer wanted is =
    ap (λ (o : Option Want). elim o as (λ x. Client) [ None ↦ t.client | Some w ↦ after_answer (commands_sent (with_call t answer)) w (rest_of (begun t.client).due) (begun t.client) answer ]) is

pub begins-again : (c : Client) (wants : List Want) (ops : List Op) → begun (begins c wants ops) ≡ begins c wants ops
begins-again c (w ∷ wants) ops = refl
begins-again c [] [] = refl
begins-again c [] (o ∷ ops) = begins-again c (wants_of c.mode o) ops

pub begins-halts : (c : Client) (wants : List Want) (ops : List Op) → ((begins c wants ops).waiting || (begins c wants ops).ended) ≡ (c.waiting || c.ended)
begins-halts c (w ∷ wants) ops = refl
begins-halts c [] [] = refl
begins-halts c [] (o ∷ ops) = begins-halts c (wants_of c.mode o) ops

-- an op that was begun is begun
pub begun_again : (c : Client) → begun (begun c) ≡ begun c
begun_again c = begins-again c c.due c.ops

pub calls-entries : (round : RoundSeen) (run : Run) → (with_calls round run).entries ≡ run.entries
unfolding with_calls
calls-entries round run = refl

pub cycle_entries : (s : Session) (run : Run) (e : EntrySeen) → (with_cycle s run e).entries ≡ run.entries ++ e.entry ∷ []
unfolding with_mix with_poll
cycle_entries s run e = refl

-- the end of a turn of a client that goes on
pub goes-end : (c : Client) → (c.waiting || c.ended) ≡ false → at_next_turn false c ≡ (let d = begun c in record d { due = rested d.due })
goes-end c h = ap (λ (b : Bool). if b || false then record c { waiting = false } else (let d = begun c in record d { due = rested d.due })) h

-- the end of a turn is the same after the next op was begun
pub end_begun : (c : Client) → (c.waiting || c.ended) ≡ false → at_next_turn false (begun c) ≡ at_next_turn false c
end_begun c h = goes-end (begun c) (begins-halts c c.due c.ops ∙ h) ∙ ap (λ (d : Client). let r : Client = record d { due = rested d.due } in r) (begun_again c) ∙ sym (goes-end c h)

-- the entries of a round end within those of all rounds
pub entries_inside : (rounds : List RoundSeen) (i : ℕ) → i < length rounds → length (entries_of (take i rounds)) + length (slice_index_or rounds i no_round).entries ≤ length (entries_of rounds)
entries_inside [] i lt = absurd (omega arith)
entries_inside (r ∷ rs) zero lt = let e = length-append r.entries (entries_of rs) in omega arith
entries_inside (r ∷ rs) (suc i) lt = let e = length-append r.entries (entries_of rs) in let f = length-append r.entries (entries_of (take i rs)) in let h = entries_inside rs i (omega arith) in omega arith

pub halts-none : (c : Client) → (c.waiting || c.ended) ≡ true → next_want c ≡ None
halts-none c h = let P : Bool → Option Want = λ b. if b then None else asked_first c.due in ap P h

-- a client that waits or has ended wants nothing
pub halted_none : (c : Client) → (c.waiting || c.ended) ≡ true → next_want (begun c) ≡ None
halted_none c h = halts-none (begun c) (begins-halts c c.due c.ops ∙ h)

pub loaded-entries : (o : Option Turn) (run : Run) → (loaded o run).entries ≡ run.entries
unfolding with_load
loaded-entries None run = refl
loaded-entries (Some e) run = refl

pub met-entries : (s : Session) (run : Run) → (met s run).entries ≡ run.entries
unfolding met
met-entries s run = refl

-- what a look showed is shown
pub shown_if : (s : Seen) → IsSeen s → is_shown s ≡ true
shown_if seen.Absent p = absurd p
shown_if _ p = refl

pub shut_shows : (x : Seen) → is_shut x ≡ true → shows_command x ≡ false
shut_shows (seen.Frames count) shut = no shut
shut_shows _ shut = refl

pub state_more : (xs ys : List FastState) (k : ℕ) → k ≤ length xs → state_of (xs ++ ys) k ≡ state_of xs k
state_more xs ys zero low = refl
state_more [] ys (suc k) low = absurd (omega (arith, low))
state_more (x ∷ xs) ys (suc zero) low = refl
state_more (x ∷ xs) ys (suc (suc k)) low = state_more xs ys (suc k) (omega (arith, low))

pub state_some : (xs ys : List FastState) (k : ℕ) (x : FastState) → state_of xs k ≡ Some x → state_of (xs ++ ys) k ≡ Some x
state_some xs ys zero x is = absurd (true≢false (sym (ap is_some is)))
state_some [] ys (suc k) x is = absurd (true≢false (sym (ap is_some is)))
state_some (y ∷ xs) ys (suc zero) x is = is
state_some (y ∷ xs) ys (suc (suc k)) x is = state_some xs ys (suc k) x is

pub stays_out : (last : FastState) (s : TrackKept) → comes_home last s ≡ false → welcomed last s ≡ s
unfolding welcomed
stays_out last s e = ap (λ (b : Bool). if b then record s { holder = Home } else s) e

-- the frames of an entry hold those of each slot
pub taken_up : (entry : CycleEntry) (i n : ℕ) → i < n → taken_before entry i + count_seen (entry_slot entry i).seen ≤ taken_before entry n
taken_up entry i zero lt = absurd (omega (arith, lt))
taken_up entry i (suc n) lt = by_case (cases_eq i n) (λ low. taken_up entry i n low)
  where
    by_case : (i ≡ n) ⊎ (i ≡ n → ⊥) → (i < n → taken_before entry i + count_seen (entry_slot entry i).seen ≤ taken_before entry n) → taken_before entry i + count_seen (entry_slot entry i).seen ≤ taken_before entry (suc n)
    by_case (inl same) more = subst (λ (k : ℕ). taken_before entry i + count_seen (entry_slot entry i).seen ≤ taken_before entry k + count_seen (entry_slot entry k).seen) same (omega arith)
    by_case (inr apart) more = let low = more (omega (arith, lt, apart)) in omega (arith, low)

pub turned-entries : (s : Session) (found : Turn → TurnFound) (o : Option Turn) (run : Run) → (turned s found o run).entries ≡ run.entries
unfolding with_turn
turned-entries s found None run = refl
turned-entries s found (Some e) run = refl
