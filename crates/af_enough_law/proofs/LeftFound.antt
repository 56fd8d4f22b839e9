-- The report that a turn finds in a round in which a track leaves says that its server is open, if its lists lie in a history.
use Rattle.std.proofs.Common.{◌≡◌, ℕ, ◌≤◌, ◌<◌, is_some, false, true≢false, Some, length, refl, sym, ap, ◌∙◌, subst, arith}
use Rattle.af_enough_law.proofs.Common.{FastState, FastTrack, LegalRound, Marks, NormalKept, RoundSeen, Run, Session, Shape, SlotReport, after_round, after_turn, before_turn, calls_states, early_of, fast_ended, found_in, late_of, listed, report_at, report_of, server_list, slots, state_beyond, state_more, state_of, told_at, with_calls, with_cycles}
use Rattle.af_enough_law.proofs.FastWords.{KnowsStates, Plays, IsTold, slot_told}
use Rattle.af_enough_law.proofs.FastFound.{adds_round, calls_current}
use Rattle.af_enough_law.proofs.FastPolls.{fast_parts, parts_use, round_states, turn_more}
use Rattle.af_enough_law.proofs.FastReports.{calls_same, turned_same, rest_same, slot_same, told_same, known_quiet}
use Rattle.af_enough_law.proofs.FastRounds.{over}
use Rattle.af_enough_law.proofs.FastSince.{since_number}
use Rattle.af_enough_law.proofs.Foreseen.{Foreseen}
use Rattle.af_enough_law.proofs.LeftEntries.{IsOut, SaysOpen, LeftStep, KnowsLeft, left_entries, HasOrOut}
use Rattle.af_enough_law.proofs.RoundCalm.{known_open, quiet_only, lie_through}
use Rattle.af_enough_law.proofs.StreamCalm.{IsQuiet}

-- what is known of a track whose proxy the fast mixer has, before a round in which it may leave
pub record Flowing (s : Session) (run : Run) (track slot : ℕ) (item : FastTrack) : Type 0 where
  pub there : track < length run.tracks
  pub some : 0 < slot
  pub low : slot < slots
  pub is : item.track ≡ track
  pub states : 1 ≤ length run.states
  pub last : state_of run.states (length run.states) ≡ Some run.normal.last
  pub plays : Plays slot item run.normal.last
  pub draft : HasOrOut track slot item run.normal.draft
  pub told : IsTold run track slot item
  pub quiet : IsQuiet (told_at run track).stream.shape (server_list (told_at run track).stream)
  pub going : fast_ended run ≡ false
  pub knows : KnowsStates s run

-- what the round leaves of the track: the reports that its turn may find say that the server is open, and so does the last one
pub record FoundOpen (s : Session) (run : Run) (round : RoundSeen) (track slot : ℕ) (item : FastTrack) : Type 0 where
  pub found : (m : ℕ) → length run.reports ≤ m → m ≤ length (with_cycles s round.entries (with_calls round run)).reports → SaysOpen (report_at (report_of (with_cycles s round.entries (with_calls round run)).reports m).slots slot) item
  pub last : SaysOpen (slot_told (after_round s run round) slot) item

pub found_open : (s : Session) (marks : Marks) (run : Run) (round : RoundSeen) (track slot : ℕ) (item : FastTrack) → LegalRound false s marks run round → Flowing s run track slot item
    → ((m : ℕ) (y : FastState) → length run.states < m → state_of (after_round s run round).states m ≡ Some y → IsOut slot track y)
    → server_list (told_at (after_turn s run round) track).stream ≡ server_list (told_at (before_turn s run round) track).stream
    → Foreseen (told_at (after_round s run round) track).stream → FoundOpen s run round track slot item
found_open s marks run round track slot item legal f out lent seen =
    let o = over s run round track f.there in
    let parts = fast_parts s marks run round legal f.going in
    let uses = parts_use s marks run round legal f.going f.knows in
    let called : Run = with_calls round run in
    let before : Run = before_turn s run round in
    let turn : Run = after_turn s run round in
    let late : Run = with_cycles s (late_of run round) turn in
    let n : ℕ = length run.states in
    let top : ℕ = length turn.states in
    let x : FastState = run.normal.last in
    let k : Shape = (told_at (after_round s run round) track).stream.shape in
    let lies = lie_through s run round track f.there k seen.list seen.events seen.setting seen.lies in
    let shape0 : (told_at run track).stream.shape ≡ k = sym o.calls.is_later.shape ∙ lies.called.shape in
    let quiet0 : IsQuiet k (server_list (told_at run track).stream) = subst (λ (z : Shape). IsQuiet z (server_list (told_at run track).stream)) shape0 f.quiet in
    let quiet1 : IsQuiet k (server_list (told_at called track).stream) = quiet_only s marks track k seen.list seen.events seen.setting (told_at run track).stream (told_at called track).stream o.calls quiet0 in
    let c1 = calls_same round run in
    let c2 = turned_same s (found_in s run round) round.turn before in
    let long : length called.states ≡ n = ap length (calls_states round run) in
    let told1 : IsTold called track slot item = told_same run called track slot item c1 (known_quiet (told_at run track).stream (told_at called track).stream o.calls) f.told in
    let is_n : state_of called.states n ≡ Some x = ap (λ l. state_of l n) (calls_states round run) ∙ f.last in
    let d : FastState = run.normal.draft in
    let open1 : (slot_told called slot).shut ≡ false = told1.shut ∙ known_open s marks track k seen.list seen.events seen.setting (told_at called track).stream lies.called.shape quiet1 in
    let first : LeftStep s track slot item x d n k called called = record {
      quiet = quiet1;
      count = long;
      last = is_n;
      draft = ap (λ (m : NormalKept). m.draft) (calls_current round run).1;
      there = o.first;
      reported = told1;
      same = refl;
      unshut = open1;
      generation = told1.generation;
    } in
    let knows1 : KnowsLeft s marks track slot item f.some f.low f.is x f.plays d f.draft n k seen.list seen.events seen.setting called =
    (is_n, f.states, λ m y above at. absurd (true≢false (sym (ap is_some at) ∙ ap is_some (state_beyond called.states m (omega (arith, above, long)))))) in
    let e1 = left_entries s marks track slot item f.some f.low f.is x f.plays d f.draft n k seen.list seen.events seen.setting n (early_of run round) called called knows1 o.first uses.early (omega (arith, long)) parts.early lies.early first in
    let step1 = e1.step in
    let to_turn : listed (told_at before track).stream ≡ listed (told_at turn track).stream = λ j. record { shape = sym o.turn.shape j; events = sym lent j } in
    let second : LeftStep s track slot item x d n k turn before = record {
      quiet = subst (IsQuiet k) (sym lent) step1.quiet;
      count = step1.count;
      last = step1.last;
      draft = step1.draft;
      there = step1.there;
      reported = step1.reported;
      same = to_turn;
      unshut = ap (λ (r : SlotReport). r.shut) (slot_same before turn slot c2) ∙ step1.unshut;
      generation = ap (λ (r : SlotReport). r.generation) (slot_same before turn slot c2) ∙ step1.generation;
    } in
    let whole = (turn_more s run round).whole in
    let knows2 : KnowsLeft s marks track slot item f.some f.low f.is x f.plays d f.draft n k seen.list seen.events seen.setting turn =
    (ap (λ l. state_of l n) whole ∙ state_more run.states (turn_more s run round).more n (omega arith) ∙ f.last, f.states, λ m y above at. out m y above (ap (λ l. state_of l m) (round_states s run round) ∙ at)) in
    let e2 = left_entries s marks track slot item f.some f.low f.is x f.plays d f.draft n k seen.list seen.events seen.setting top (late_of run round) turn before knows2 o.last uses.late (omega arith) parts.late lies.late second in
    let adds = adds_round s run round (λ r. SaysOpen (report_at r.slots slot) item) e1.adds e2.adds in
    record {
      found = λ m low high. since_number called (with_cycles s round.entries called) (λ r. SaysOpen (report_at r.slots slot) item) m adds (record { unshut = open1; generation = told1.generation }) (let a = ap length c1.reports in omega (arith, a, low)) high;
      last = subst (λ (r : SlotReport). SaysOpen r item) (sym (slot_same late (after_round s run round) slot (rest_same s run round))) (record { unshut = e2.step.unshut; generation = e2.step.generation });
    }
