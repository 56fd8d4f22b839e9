-- What the reports of a round say of a proxy that the fast mixer has, or comes to have in it.
use Rattle.std.proofs.Common.{◌≡◌, ℕ, ◌≤◌, ◌<◌, is_some, true, false, true≢false, Some, List, [], ◌∷◌, length, refl, sym, ap, ◌∙◌, subst, arith, unwrap_or, Option, length-append}
use Rattle.af_enough_law.proofs.Common.{ClientEvent, EntrySeen, FastState, FastTrack, LegalEntries, LegalRound, Marks, NormalKept, RoundSeen, Run, ServerEvent, Session, Shape, after_round, after_turn, before_turn, calls_states, carries, cycle_frames, early_of, fast_ended, found_in, initial, initial_none, known_of, late_of, listed, polled_pushed, report_at, report_of, server_kept, server_list, slot_of, slots, state_at, state_beyond, state_more, state_of, told_at, with_calls, with_cycle, with_cycles}
use Rattle.af_enough_law.proofs.FastWords.{KnowsStates, slot_told, HasItem}
use Rattle.af_enough_law.proofs.FastFlows.{cycles_later}
use Rattle.af_enough_law.proofs.FastFound.{adds_round, calls_current}
use Rattle.af_enough_law.proofs.FastReports.{SameReports, calls_same, turned_same, rest_same, slot_same}
use Rattle.af_enough_law.proofs.FastRounds.{over}
use Rattle.af_enough_law.proofs.FastPolls.{round_states, turn_more, parts_use, fast_parts}
use Rattle.af_enough_law.proofs.FastShows.{Setting}
use Rattle.af_enough_law.proofs.FastSince.{since_number}
use Rattle.af_enough_law.proofs.FastSteps.{cycle_states, entry_pushed}
use Rattle.af_enough_law.proofs.Foreseen.{Foreseen}
use Rattle.af_enough_law.proofs.MeetReports.{SaysOpenOf, MeetStep, KnowsMet, met_entries, NamesTrack, says_next}
use Rattle.af_enough_law.proofs.RoundCalm.{quiet_only, legal_parts, lie_through}
use Rattle.af_enough_law.proofs.StreamCalm.{IsQuiet, LiesIn, lies_earlier, entries_quiet}
use Rattle.af_enough_law.proofs.SlotReports.{state_at_all}
use Rattle.af_enough_law.proofs.LeftEntries.{HasOrOut}
use Rattle.af_enough_law.proofs.RunTracks.{cycle_long}

-- ## The report that a turn finds

-- a track whose proxy the draft lends, whether a state that was pushed has it already or not
pub record Meeting (s : Session) (run : Run) (track slot : ℕ) (item : FastTrack) : Type 0 where
  pub there : track < length run.tracks
  pub some : 0 < slot
  pub low : slot < slots
  pub is : item.track ≡ track
  pub named : NamesTrack track slot item (state_at (cycle_frames s) run.states (length run.states))
  pub draft : HasItem slot item run.normal.draft
  pub says : SaysOpenOf item (slot_told run slot)
  pub quiet : IsQuiet (told_at run track).stream.shape (server_list (told_at run track).stream)
  pub going : fast_ended run ≡ false
  pub knows : KnowsStates s run

-- Each report that the turn may find says that the server is open, if it is of this attachment
pub meets_open : (s : Session) (marks : Marks) (run : Run) (round : RoundSeen) (track slot : ℕ) (item : FastTrack) → LegalRound false s marks run round → Meeting s run track slot item
    → ((m : ℕ) (y : FastState) → length run.states < m → state_of (after_round s run round).states m ≡ Some y → HasOrOut track slot item y)
    → server_list (told_at (after_turn s run round) track).stream ≡ server_list (told_at (before_turn s run round) track).stream
    → Foreseen (told_at (after_round s run round) track).stream
    → (m : ℕ) → length run.reports ≤ m → m ≤ length (with_cycles s round.entries (with_calls round run)).reports → SaysOpenOf item (report_at (report_of (with_cycles s round.entries (with_calls round run)).reports m).slots slot)
meets_open s marks run round track slot item legal f out lent seen m below high =
    let o = over s run round track f.there in
    let parts = fast_parts s marks run round legal f.going in
    let uses = parts_use s marks run round legal f.going f.knows in
    let called : Run = with_calls round run in
    let before : Run = before_turn s run round in
    let turn : Run = after_turn s run round in
    let late : Run = with_cycles s (late_of run round) turn in
    let n : ℕ = length run.states in
    let top : ℕ = length turn.states in
    let x : FastState = state_at (cycle_frames s) run.states n in
    let d : FastState = run.normal.draft in
    let k : Shape = (told_at (after_round s run round) track).stream.shape in
    let lies = lie_through s run round track f.there k seen.list seen.events seen.setting seen.lies in
    let shape0 : (told_at run track).stream.shape ≡ k = sym o.calls.is_later.shape ∙ lies.called.shape in
    let quiet0 : IsQuiet k (server_list (told_at run track).stream) = subst (λ (z : Shape). IsQuiet z (server_list (told_at run track).stream)) shape0 f.quiet in
    let quiet1 : IsQuiet k (server_list (told_at called track).stream) = quiet_only s marks track k seen.list seen.events seen.setting (told_at run track).stream (told_at called track).stream o.calls quiet0 in
    let c1 = calls_same round run in
    let c2 = turned_same s (found_in s run round) round.turn before in
    let long : length called.states ≡ n = ap length (calls_states round run) in
    let is_n : state_at (cycle_frames s) called.states n ≡ x = ap (λ l. state_at (cycle_frames s) l n) (calls_states round run) in
    let says1 : SaysOpenOf item (slot_told called slot) = subst (SaysOpenOf item) (sym (slot_same run called slot c1)) f.says in
    let first : MeetStep s track slot item x d n k called called = record { quiet = quiet1; same = refl; count = long; last = is_n; draft = ap (λ (m : NormalKept). m.draft) (calls_current round run).1; there = o.first; says = says1 } in
    let knows1 : KnowsMet s marks track slot item f.some f.low f.is x f.named d f.draft n k seen.list seen.events seen.setting called =
    (omega (arith, long), is_n, λ m y above at. absurd (true≢false (sym (ap is_some at) ∙ ap is_some (state_beyond called.states m (omega (arith, above, long)))))) in
    let e1 = met_entries s marks track slot item f.some f.low f.is x f.named d f.draft n k seen.list seen.events seen.setting n (early_of run round) called called knows1 o.first uses.early (omega (arith, long)) parts.early lies.early first in
    let step1 = e1.step in
    let to_turn : listed (told_at before track).stream ≡ listed (told_at turn track).stream = λ j. record { shape = sym o.turn.shape j; events = sym lent j } in
    let second : MeetStep s track slot item x d n k turn before = record {
      quiet = subst (IsQuiet k) (sym lent) step1.quiet;
      same = to_turn;
      count = step1.count;
      last = step1.last;
      draft = step1.draft;
      there = step1.there;
      says = step1.says;
    } in
    let whole = (turn_more s run round).whole in
    let many = ap length whole in
    let more = length-append run.states (turn_more s run round).more in
    let here : state_at (cycle_frames s) turn.states n ≡ x = ap (λ (p : Option FastState). unwrap_or p (initial (cycle_frames s))) (ap (λ l. state_of l n) whole ∙ state_more run.states (turn_more s run round).more n (omega arith)) in
    let knows2 : KnowsMet s marks track slot item f.some f.low f.is x f.named d f.draft n k seen.list seen.events seen.setting turn =
    (omega (arith, many, more), here, λ m y above at. out m y above (ap (λ l. state_of l m) (round_states s run round) ∙ at)) in
    let e2 = met_entries s marks track slot item f.some f.low f.is x f.named d f.draft n k seen.list seen.events seen.setting top (late_of run round) turn before knows2 o.last uses.late (omega arith) parts.late lies.late second in
    let adds = adds_round s run round (λ r. SaysOpenOf item (report_at r.slots slot)) e1.adds e2.adds in
    since_number called (with_cycles s round.entries called) (λ r. SaysOpenOf item (report_at r.slots slot)) m adds says1 (let a = ap length c1.reports in omega (arith, a, below)) high

-- ## The last report of a round

module _ (s : Session) (marks : Marks) (track slot : ℕ) (item : FastTrack) (low : slot < slots) where
  -- the states that were pushed have this track if they have this attachment in the slot
  abbrev pub HaveTrack : Run → Type 0
  HaveTrack run = (k : ℕ) (z : FastState) → state_of run.states k ≡ Some z → NamesTrack track slot item z

  -- the state of each number has this track, if it has this attachment in the slot
  pub named_at : (run : Run) → HaveTrack run → (k : ℕ) → NamesTrack track slot item (state_at (cycle_frames s) run.states k)
  named_at run have k = state_at_all (cycle_frames s) run.states (NamesTrack track slot item) have none k
    where
      none : carries (initial (cycle_frames s)) slot ≡ true → (slot_of (initial (cycle_frames s)) slot).generation ≡ item.generation → (slot_of (initial (cycle_frames s)) slot).track ≡ track
      none c = let never : ⊥ = true≢false (sym c ∙ initial_none (cycle_frames s) slot) in absurd never

  module _ (k : Shape) (cs : List ClientEvent) (all : List ServerEvent) (h : Setting k cs all) where
    said_next : (run : Run) (e : EntrySeen) → e.entry.state ≤ length run.states → HaveTrack run → (known_of (listed (told_at (with_cycle s run e) track).stream)).shut ≡ false → SaysOpenOf item (slot_told run slot) → SaysOpenOf item (slot_told (with_cycle s run e) slot)
    said_next run e pushed have open_is says =
        says_next s track slot item low run e (state_at (cycle_frames s) run.states e.entry.state) (polled_pushed s run e.entry.state pushed) (named_at run have e.entry.state) open_is says

    pub said_entries : (es : List EntrySeen) (run : Run) → HaveTrack run → track < length run.tracks → LegalEntries s marks run es → LiesIn k cs all h (told_at (with_cycles s es run) track).stream → IsQuiet k (server_list (told_at run track).stream) → SaysOpenOf item (slot_told run slot)
        → SaysOpenOf item (slot_told (with_cycles s es run) slot)
    said_entries [] run have there legal lies quiet says = says
    said_entries (e ∷ es) run have there legal lies quiet says =
        let next : Run = with_cycle s run e in
        let there' : track < length next.tracks = (let a = cycle_long s run e in omega (arith, a, there)) in
        let lies' = lies_earlier k cs all h (told_at next track).stream (told_at (with_cycles s es next) track).stream (cycles_later s es next track there') lies in
        let now : IsQuiet k (server_list (told_at next track).stream) = entries_quiet s marks track k cs all h (e ∷ []) run there (legal.0, tt) lies' quiet in
        let open_is : (known_of (listed (told_at next track).stream)).shut ≡ false = ap is_some (ap (λ (z : Shape). (server_kept z (server_list (told_at next track).stream)).shut) lies'.shape ∙ now.unshut) in
        said_entries es next (λ m z at. have m z (ap (λ l. state_of l m) (sym (cycle_states s run e)) ∙ at)) there' legal.1 lies now (said_next run e (entry_pushed s marks run e legal.0) have open_is says)

  -- The last report says so after a round, if the server is calm before it and after the turn, and its lists lie in a later history
  pub round_says : (run : Run) (round : RoundSeen) → LegalRound false s marks run round → track < length run.tracks → HaveTrack run → HaveTrack (after_round s run round) → (seen : Foreseen (told_at (after_round s run round) track).stream)
      → IsQuiet (told_at run track).stream.shape (server_list (told_at run track).stream) → IsQuiet (told_at (after_round s run round) track).stream.shape (server_list (told_at (after_turn s run round) track).stream) → SaysOpenOf item (slot_told run slot)
      → SaysOpenOf item (slot_told (after_round s run round) slot)
  round_says run round legal there have later seen quiet turned says =
      let o = over s run round track there in
      let parts = legal_parts false s marks run round legal in
      let after : Run = after_round s run round in
      let called : Run = with_calls round run in
      let before : Run = before_turn s run round in
      let turn : Run = after_turn s run round in
      let late : Run = with_cycles s (late_of run round) turn in
      let k : Shape = (told_at after track).stream.shape in
      let lies = lie_through s run round track there k seen.list seen.events seen.setting seen.lies in
      let shape0 : (told_at run track).stream.shape ≡ k = sym o.calls.is_later.shape ∙ lies.called.shape in
      let quiet1 : IsQuiet k (server_list (told_at called track).stream) =
      quiet_only s marks track k seen.list seen.events seen.setting (told_at run track).stream (told_at called track).stream o.calls (subst (λ (z : Shape). IsQuiet z (server_list (told_at run track).stream)) shape0 quiet) in
      let c1 : SameReports run called = calls_same round run in
      let c2 : SameReports before turn = turned_same s (found_in s run round) round.turn before in
      let first : SaysOpenOf item (slot_told before slot) =
      said_entries k seen.list seen.events seen.setting (early_of run round) called (λ m z at. have m z (ap (λ l. state_of l m) (sym (calls_states round run)) ∙ at)) o.first parts.0 lies.early quiet1 (subst (SaysOpenOf item) (sym (slot_same run called slot c1)) says) in
      let last : SaysOpenOf item (slot_told late slot) =
      said_entries k seen.list seen.events seen.setting (late_of run round) turn (λ m z at. later m z (ap (λ l. state_of l m) (round_states s run round) ∙ at)) o.last parts.1 lies.late turned (subst (SaysOpenOf item) (sym (slot_same before turn slot c2)) first) in
      subst (SaysOpenOf item) (sym (slot_same late after slot (rest_same s run round))) last
