-- After a round whose last entry uses a state that plays a track the report tells of its slot.
use Rattle.std.proofs.Common.{◌≡◌, ℕ, ◌≤◌, ◌<◌, Some, List, [], ◌∷◌, length, sym, ap, ◌∙◌, arith}
use Rattle.af_enough_law.proofs.Common.{EntrySeen, FastState, FastTrack, RoundSeen, Run, Session, after_round, after_turn, all_played, before_turn, found_in, known_of, last_used, last_used-push, late_of, listed, met_after, server_list, slots, state_of, told_at, with_cycle, with_cycles}
use Rattle.af_enough_law.proofs.FastWords.{Plays, LastCarries, IsTold}
use Rattle.af_enough_law.proofs.FastFound.{cycle_current}
use Rattle.af_enough_law.proofs.FastMixes.{Uses}
use Rattle.af_enough_law.proofs.FastReports.{entry_told, turned_same, loaded_same, met_same, ends_same, same_both, last_same, told_same, known_same, known_quiet}
use Rattle.af_enough_law.proofs.FastRounds.{over}
use Rattle.af_enough_law.proofs.FastSteps.{cycle_states}

-- the report tells of the slot, and the state used last carries it
pub record ToldNow (run : Run) (track slot : ℕ) (item : FastTrack) : Type 0 where
  pub told : IsTold run track slot item
  pub used : LastCarries run slot

-- some entries, of which the last one uses a state that plays the track
pub entries_tell : (s : Session) (track slot : ℕ) (item : FastTrack) (x : FastState) (k : ℕ) → slot < slots → item.track ≡ track → Plays slot item x → (es : List EntrySeen) (run : Run) → 1 ≤ length es → state_of run.states k ≡ Some x → last_used (with_cycles s es run).entries ≡ k
    → ToldNow (with_cycles s es run) track slot item
entries_tell s track slot item x k low is p [] run some at last = absurd (let z : ⊥ = omega (arith, some) in z)
entries_tell s track slot item x k low is p (e ∷ []) run some at last =
    let used : e.entry.state ≡ k = sym (last_used-push run.entries e.entry) ∙ ap last_used (sym (cycle_current s run e).1) ∙ last in
    let uses : Uses (Plays slot item) run.states e.entry.state = record { state = x; is = ap (state_of run.states) used ∙ at; holds = p } in
    let t = entry_told s run e track slot item low is uses in record { told = t.told; used = t.carries_on }
entries_tell s track slot item x k low is p (e ∷ next ∷ es) run some at last = entries_tell s track slot item x k low is p (next ∷ es) (with_cycle s run e) (omega arith) (ap (λ l. state_of l k) (cycle_states s run e) ∙ at) last

-- what is told after the entries is told after the round
pub told_late : (s : Session) (run : Run) (round : RoundSeen) (track slot : ℕ) (item : FastTrack) → track < length run.tracks → ToldNow (with_cycles s (late_of run round) (after_turn s run round)) track slot item → ToldNow (after_round s run round) track slot item
told_late s run round track slot item low t =
    let o = over s run round track low in
    let late : Run = with_cycles s (late_of run round) (after_turn s run round) in
    let all : Run = all_played s run round in
    let met : Run = met_after s run round in
    let after : Run = after_round s run round in
    let g = same_both late met after (same_both late all met (loaded_same round.turn late) (met_same s all)) (ends_same met) in
    let known : known_of (listed (told_at after track).stream) ≡ known_of (listed (told_at late track).stream) = ap (λ b. known_of (listed b)) o.whole ∙ known_quiet (told_at late track).stream (told_at met track).stream o.meeting in
    record { told = told_same late after track slot item g known t.told; used = last_same late after slot g t.used }

-- what is told before a turn that does nothing to the server is told after it
pub told_turn : (s : Session) (run : Run) (round : RoundSeen) (track slot : ℕ) (item : FastTrack) → track < length run.tracks → server_list (told_at (after_turn s run round) track).stream ≡ server_list (told_at (before_turn s run round) track).stream
    → ToldNow (before_turn s run round) track slot item → ToldNow (after_turn s run round) track slot item
told_turn s run round track slot item low lent t =
    let o = over s run round track low in
    let g = turned_same s (found_in s run round) round.turn (before_turn s run round) in
    record {
      told = told_same (before_turn s run round) (after_turn s run round) track slot item g (known_same (told_at (before_turn s run round) track).stream (told_at (after_turn s run round) track).stream o.turn.shape lent) t.told;
      used = last_same (before_turn s run round) (after_turn s run round) slot g t.used;
    }
