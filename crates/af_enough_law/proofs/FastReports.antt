-- What the reports of a round tell of a slot.
use Rattle.std.proofs.Common.{◌≡◌, ◌⊎◌, inl, inr, ℕ, zero, suc, ◌+◌, ◌≤◌, ◌<◌, ◌==◌, ◌||◌, not, if◌then◌else◌, is_some, Bool, true, false, Option, Some, None, List, [], ◌∷◌, ◌++◌, length, refl, sym, ap, ◌∙◌, arith, append-nil, append_assoc, length-append, min}
use Rattle.af_enough_law.proofs.Common.{BlockTold, CycleEntry, EntrySeen, FastState, FastTrack, LegalRound, Marks, Report, RoundSeen, Run, Seen, ServerEvent, ServerKept, ServerKnown, Session, Shape, SlotReport, TrackTold, Turn, TurnFound, after_round, after_turn, all_played, before_turn, calls_states, carries, count_seen, counted_look, cycle_frames, each_track, early_count, early_of, ends, entry_slot, fast_ended, flushes_by, fold-append, found_in, get_or-map-range_with_len, is_empty, is_full, is_partial, known_of, last_report, last_used, last_used-push, late_of, listed, loaded, met, met_after, next_slot, no_report, no_slot, one_if, report_at, server_begins, server_keeps, server_list, slot_of, slot_report, slots, state_for, state_known, state_of, state_some, stream_of, take-append-drop, told_at, turned, with_calls, with_cycle, with_cycles, with_ends, with_load, with_looks, with_mix, with_poll, with_turn}
use Rattle.af_base.specs.declared.seen.Seen.TheVariants as seen
use Rattle.af_base.specs.declared.event.ServerEvent.TheVariants as server
use Rattle.af_runs.specs.Runs.{shows_slot}
use Rattle.af_enough_law.proofs.FastWords.{AllUse, AllStates, Plays, slot_told, IsTold, LastCarries, heard_by, silent_by, heard_in, silent_in, Counted, FlowsIn, Flowed, Reported, taken_in, frames_left_in, KnowsStates}
use Rattle.af_enough_law.proofs.FastMixes.{Uses, uses_of, mixes_all, early_states, late_states}
use Rattle.af_enough_law.proofs.FastPolls.{turned_states, parts_use}
use Rattle.af_enough_law.proofs.FastRounds.{Quiet, over, loaded_told}
use Rattle.af_enough_law.proofs.FastSteps.{cycle_states}

-- ## One entry

-- a look adds one to the counts
pub heard_one : (asked : ℕ) (answer : Seen) → one_if (is_full asked answer) + one_if (is_partial asked answer) ≡ heard_by answer
heard_one asked seen.Absent = refl
heard_one asked (seen.Frames count) = by (count == asked)
  where
    by : (b : Bool) → one_if b + one_if (not b) ≡ 1
    by true = refl
    by false = refl
heard_one asked seen.Empty = refl
heard_one asked (seen.Flushed dropped) = refl
heard_one asked (seen.Shut front rear) = refl

silent_one : (answer : Seen) → one_if (is_empty answer) ≡ silent_by answer
silent_one seen.Absent = refl
silent_one _ = refl

-- the last report after one more
pub last_more : (reports : List Report) (report : Report) → last_report (reports ++ report ∷ []) ≡ report
last_more reports report = fold-append (λ last report. report) no_report reports (report ∷ [])

-- the slot after an entry
pub slot_counts : (s : Session) (run : Run) (e : EntrySeen) (i : ℕ) → i < slots
    → slot_told (with_cycle s run e) i ≡ next_slot s (with_looks s e (with_poll s e.entry.state run)) e.entry (last_report run.reports).slots i
unfolding with_poll with_mix
slot_counts s run e i low =
    let now : Run = with_looks s e (with_poll s e.entry.state run) in
    ap (λ (r : Report). report_at r.slots i) (last_more run.reports _)
    ∙ get_or-map-range_with_len (next_slot s now e.entry (last_report run.reports).slots) 0 slots i i no_slot low (omega arith)

-- the slot of a state that carries it
next_is : (s : Session) (run : Run) (entry : CycleEntry) (before : List SlotReport) (i : ℕ) (x : FastState) → state_of run.states entry.state ≡ Some x → carries x i ≡ true
    → next_slot s run entry before i ≡ counted_look (cycle_frames s) (slot_of x i).generation (entry_slot entry i).seen (known_of (listed (stream_of run x i))) (if carries (state_for s run (last_used run.entries)) i then report_at before i else no_slot)
next_is s run entry before i x is carried =
    let y : FastState = state_for s run (last_used run.entries) in
    let same = state_known s run entry.state x is in
    ap (λ (o : Option FastState). if is_some o || shows_slot (state_for s run entry.state) entry i then slot_report (cycle_frames s) (Some (state_for s run entry.state)) (Some y) entry (known_of (listed (stream_of run (state_for s run entry.state) i))) i (report_at before i) else report_at before i) is
    ∙ ap (λ (z : FastState). slot_report (cycle_frames s) (Some z) (Some y) entry (known_of (listed (stream_of run z i))) i (report_at before i)) same
    ∙ ap (λ (b : Bool). if b then counted_look (cycle_frames s) (slot_of x i).generation (entry_slot entry i).seen (known_of (listed (stream_of run x i))) (if carries y i then report_at before i else no_slot) else report_at before i) carried

-- what an entry tells
pub record EntryTold (run later : Run) (track i : ℕ) (item : FastTrack) (e : EntrySeen) : Type 0 where
  pub told : IsTold later track i item
  pub carries_on : LastCarries later i
  pub counted : LastCarries run i → Counted run later i (e ∷ [])

told_by : (s : Session) (run later : Run) (track i : ℕ) (item : FastTrack) (e : EntrySeen) (carried : Bool) → LastCarries later i → (LastCarries run i → carried ≡ true)
    → slot_told later i ≡ counted_look (cycle_frames s) item.generation (entry_slot e.entry i).seen (known_of (listed (told_at later track).stream)) (if carried then slot_told run i else no_slot) → EntryTold run later track i item e
told_by s run later track i item e carried last before is = record {
  told = record { generation = ap (λ (r : SlotReport). r.generation) is; consumed = ap (λ (r : SlotReport). r.consumed) is; shut = ap (λ (r : SlotReport). r.shut) is };
  carries_on = last;
  counted = λ l.
      let now = is ∙ ap (λ (b : Bool). counted_look (cycle_frames s) item.generation (entry_slot e.entry i).seen (known_of (listed (told_at later track).stream)) (if b then slot_told run i else no_slot)) (before l) in
      let fulls = ap (λ (r : SlotReport). r.fulls) now in
      let partials = ap (λ (r : SlotReport). r.partials) now in
      let empties = ap (λ (r : SlotReport). r.empties) now in
      let h = heard_one (cycle_frames s) (entry_slot e.entry i).seen in
      let q = silent_one (entry_slot e.entry i).seen in
      record { heard = omega (arith, fulls, partials, h); silent = omega (arith, empties, q) };
}

pub entry_told : (s : Session) (run : Run) (e : EntrySeen) (track i : ℕ) (item : FastTrack) → i < slots → item.track ≡ track → Uses (Plays i item) run.states e.entry.state → EntryTold run (with_cycle s run e) track i item e
unfolding with_poll with_mix
entry_told s run e track i item low is uses =
    let now : Run = with_looks s e (with_poll s e.entry.state run) in
    let next : Run = with_cycle s run e in
    let x = uses.state in
    let p = uses.holds in
    let track_is : (slot_of x i).track ≡ track = ap (λ (t : FastTrack). t.track) p.is ∙ is in
    let shape = slot_counts s run e i low ∙ next_is s now e.entry (last_report run.reports).slots i x uses.is p.carried in
    let whole : slot_told next i ≡ counted_look (cycle_frames s) item.generation (entry_slot e.entry i).seen (known_of (listed (told_at next track).stream)) (if carries (state_for s now (last_used run.entries)) i then slot_told run i else no_slot) =
    shape ∙ ap (λ (g : ℕ × ℕ). counted_look (cycle_frames s) g.0 (entry_slot e.entry i).seen (known_of (listed (told_at now g.1).stream)) (if carries (state_for s now (last_used run.entries)) i then slot_told run i else no_slot)) (λ j. ((p.is j).generation, track_is j)) in
    told_by s run next track i item e (carries (state_for s now (last_used run.entries)) i)
    (record { state = x; is = ap (state_of run.states) (last_used-push run.entries e.entry) ∙ uses.is; carried = p.carried })
    (λ l. ap (λ (z : FastState). carries z i) (state_known s now (last_used run.entries) l.state l.is) ∙ l.carried) whole

-- ## Some entries

record EntriesTold (run later : Run) (track i : ℕ) (item : FastTrack) (es : List EntrySeen) : Type 0 where
  told : (1 ≤ length es) ⊎ IsTold run track i item → IsTold later track i item
  carries_on : (1 ≤ length es) ⊎ LastCarries run i → LastCarries later i
  counted : LastCarries run i → Counted run later i es

entries_both : (run next later : Run) (track i : ℕ) (item : FastTrack) (e : EntrySeen) (es : List EntrySeen) → EntryTold run next track i item e → EntriesTold next later track i item es → EntriesTold run later track i item (e ∷ es)
entries_both run next later track i item e es first rest = record {
  told = λ c. rest.told (inr first.told);
  carries_on = λ c. rest.carries_on (inr first.carries_on);
  counted = λ l.
      let a = first.counted l in let b = rest.counted first.carries_on in
      let h = a.heard in let k = b.heard in let p = a.silent in let q = b.silent in
      record { heard = omega (arith, h, k); silent = omega (arith, p, q) };
}

module _ (s : Session) (track i : ℕ) (item : FastTrack) (low : i < slots) (is : item.track ≡ track) (first after : Run) (states : AllStates first after (Plays i item)) where
  entries_told : (high : ℕ) (es : List EntrySeen) (run : Run) (more : List FastState) → after.states ≡ run.states ++ more → high ≤ length run.states → AllUse (length first.states) high es → EntriesTold run (with_cycles s es run) track i item es
  entries_told high [] run more whole top uses = record {
    told = λ c. by_told c;
    carries_on = λ c. by_last c;
    counted = λ l. record { heard = omega arith; silent = omega arith };
  }
    where
      by_told : (1 ≤ 0) ⊎ IsTold run track i item → IsTold run track i item
      by_told (inl few) = absurd (let z : ⊥ = omega (arith, few) in z)
      by_told (inr told) = told

      by_last : (1 ≤ 0) ⊎ LastCarries run i → LastCarries run i
      by_last (inl few) = absurd (let z : ⊥ = omega (arith, few) in z)
      by_last (inr last) = last
  entries_told high (e ∷ es) run more whole top uses =
      let next = with_cycle s run e in
      let below = uses.1 in
      entries_both run next (with_cycles s es next) track i item e es
      (entry_told s run e track i item low is (uses_of (Plays i item) first after run e.entry.state states more whole uses.0 (omega arith)))
      (entries_told high es next more (whole ∙ ap (λ x. x ++ more) (sym (cycle_states s run e))) (let a = ap length (cycle_states s run e) in omega arith) uses.2)

-- ## The rest of a round

-- a step that stores no report
pub record SameReports (run later : Run) : Type 0 where
  pub reports : later.reports ≡ run.reports
  pub entries : later.entries ≡ run.entries
  pub more : List FastState
  pub states : later.states ≡ run.states ++ more

abbrev same_by : (run later : Run) → later.reports ≡ run.reports → later.entries ≡ run.entries → later.states ≡ run.states → SameReports run later
same_by run later reports entries states = record { reports = reports; entries = entries; more = []; states = states ∙ sym (append-nil run.states) }

pub calls_same : (round : RoundSeen) (run : Run) → SameReports run (with_calls round run)
unfolding with_calls
calls_same round run = same_by run (with_calls round run) refl refl refl

turn_same : (s : Session) (f : TurnFound) (e : Turn) (run : Run) → ((with_turn s f e run).reports ≡ run.reports) × ((with_turn s f e run).entries ≡ run.entries)
unfolding with_turn
turn_same s f e run = (refl, refl)

pub turned_same : (s : Session) (found : Turn → TurnFound) (o : Option Turn) (run : Run) → SameReports run (turned s found o run)
turned_same s found None run = same_by run run refl refl refl
turned_same s found (Some e) run = let m = turned_states s found (Some e) run in record { reports = (turn_same s (found e) e run).0; entries = (turn_same s (found e) e run).1; more = m.more; states = m.whole }

load_same : (e : Turn) (run : Run) → SameReports run (with_load e run)
unfolding with_load
load_same e run = same_by run (with_load e run) refl refl refl

pub loaded_same : (o : Option Turn) (run : Run) → SameReports run (loaded o run)
loaded_same None run = same_by run run refl refl refl
loaded_same (Some e) run = load_same e run

pub met_same : (s : Session) (run : Run) → SameReports run (met s run)
unfolding met
met_same s run = same_by run (met s run) refl refl refl

pub ends_same : (run : Run) → SameReports run (with_ends run)
unfolding with_ends
ends_same run = by run.normal.ended (each_track (λ track t. record t { client = ends t.client }) run) (same_by run _ refl refl refl)
  where
    by : (b : Bool) (x : Run) → SameReports run x → SameReports run (if b then x else run)
    by true x same = same
    by false x same = same_by run run refl refl refl

pub last_same : (run later : Run) (i : ℕ) → SameReports run later → LastCarries run i → LastCarries later i
last_same run later i g l = record {
  state = l.state;
  is = ap (λ (x : List FastState × List CycleEntry). state_of x.0 (last_used x.1)) (λ j. (g.states j, g.entries j)) ∙ state_some run.states g.more (last_used run.entries) l.state l.is;
  carried = l.carried;
}

pub slot_same : (run later : Run) (i : ℕ) → SameReports run later → slot_told later i ≡ slot_told run i
slot_same run later i g = ap (λ (r : List Report). report_at (last_report r).slots i) g.reports

pub told_same : (run later : Run) (track i : ℕ) (item : FastTrack) → SameReports run later → known_of (listed (told_at later track).stream) ≡ known_of (listed (told_at run track).stream) → IsTold run track i item → IsTold later track i item
told_same run later track i item g known t =
    let slot = slot_same run later i g in
    record {
      generation = ap (λ (r : SlotReport). r.generation) slot ∙ t.generation;
      consumed = ap (λ (r : SlotReport). r.consumed) slot ∙ t.consumed ∙ ap (λ (k : ServerKnown). k.consumed) (sym known);
      shut = ap (λ (r : SlotReport). r.shut) slot ∙ t.shut ∙ ap (λ (k : ServerKnown). k.shut) (sym known);
    }

-- the server is as it was
pub known_same : (b later : BlockTold) → later.shape ≡ b.shape → server_list later ≡ server_list b → known_of (listed later) ≡ known_of (listed b)
known_same b later shape list = λ j. known_of (record { shape = shape j; events = list j })

pub known_quiet : (b later : BlockTold) → Quiet b later → known_of (listed later) ≡ known_of (listed b)
known_quiet b later q = by q.rests
  where
    learns : (k : Shape) (xs : List ServerEvent) (n : ℕ) → known_of (record { shape = k; events = xs ++ server.Learn n ∷ [] }) ≡ known_of (record { shape = k; events = xs })
    learns k xs n = ap (λ (x : ServerKept). record { consumed = min 9223372036854775807 x.consumed; flush_seen = flushes_by k.wrap x.noticed; shut = is_some x.shut }) (fold-append (server_keeps k) (server_begins k) xs (server.Learn n ∷ []))

    by : (q.is_later.events ≡ []) ⊎ ((n : ℕ) × (q.is_later.events ≡ server.Learn n ∷ [])) → known_of (listed later) ≡ known_of (listed b)
    by (inl none) = known_same b later q.is_later.shape (q.is_later.server ∙ ap (λ l. server_list b ++ l) none ∙ append-nil (server_list b))
    by (inr l) = (λ j. known_of (record { shape = q.is_later.shape j; events = (q.is_later.server ∙ ap (λ x. server_list b ++ x) l.1) j })) ∙ learns b.shape (server_list b) l.0

pub same_both : (a b c : Run) → SameReports a b → SameReports b c → SameReports a c
same_both a b c f g = record {
  reports = g.reports ∙ f.reports;
  entries = g.entries ∙ f.entries;
  more = f.more ++ g.more;
  states = g.states ∙ ap (λ l. l ++ g.more) f.states ∙ append_assoc a.states f.more g.more;
}

-- after its last entry a round stores no report
pub rest_same : (s : Session) (run : Run) (round : RoundSeen) → SameReports (with_cycles s (late_of run round) (after_turn s run round)) (after_round s run round)
rest_same s run round =
    let late : Run = with_cycles s (late_of run round) (after_turn s run round) in
    let all : Run = all_played s run round in
    let end : Run = met_after s run round in
    same_both late all (after_round s run round) (loaded_same round.turn late) (same_both all end (after_round s run round) (met_same s all) (ends_same end))

-- ## The round

some_part : (a b : ℕ) → a + b ≡ 16 → (1 ≤ a) ⊎ (1 ≤ b)
some_part zero b is = inr (omega (arith, is))
some_part (suc a) b is = inl (omega arith)

heard-append : (i : ℕ) (xs ys : List EntrySeen) → (heard_in i (xs ++ ys) ≡ heard_in i xs + heard_in i ys) × (silent_in i (xs ++ ys) ≡ silent_in i xs + silent_in i ys)
heard-append i [] ys = (omega arith, omega arith)
heard-append i (x ∷ xs) ys = let rest = heard-append i xs ys in let a = rest.0 in let b = rest.1 in (omega (arith, a), omega (arith, b))

-- a track that the states of a round play in a slot, and to whose server's list the turn adds nothing
pub record PlaysIn (s : Session) (run : Run) (round : RoundSeen) (track i : ℕ) (item : FastTrack) : Type 0 where
  pub there : track < length run.tracks
  pub slot : i < slots
  pub item_is : item.track ≡ track
  pub states : AllStates run (after_round s run round) (Plays i item)
  pub fast_mixer : fast_ended run ≡ false
  pub knows_states : KnowsStates s run
  pub lent : server_list (told_at (after_turn s run round) track).stream ≡ server_list (told_at (before_turn s run round) track).stream

pub plays_reported : (s : Session) (marks : Marks) (run : Run) (round : RoundSeen) (track i : ℕ) (item : FastTrack) → LegalRound false s marks run round → PlaysIn s run round track i item → Reported s run round track i item
plays_reported s marks run round track i item legal f =
    let o = over s run round track f.there in
    let uses = parts_use s marks run round legal f.fast_mixer f.knows_states in
    let after : Run = after_round s run round in
    let called : Run = with_calls round run in
    let before : Run = before_turn s run round in
    let turn : Run = after_turn s run round in
    let late : Run = with_cycles s (late_of run round) turn in
    let all : Run = all_played s run round in
    let end : Run = met_after s run round in
    let first = early_states s run round in
    let last = late_states s run round in
    let e = entries_told s track i item f.slot f.item_is run after f.states (length run.states) (early_of run round) called first.more first.whole (let a = ap length (calls_states round run) in omega arith) uses.early in
    let l = entries_told s track i item f.slot f.item_is run after f.states (length turn.states) (late_of run round) turn last.more last.whole (omega arith) uses.late in
    let c1 : SameReports run called = calls_same round run in
    let c2 : SameReports before turn = turned_same s (found_in s run round) round.turn before in
    let mixes = mixes_all s marks run round legal f.fast_mixer f.knows_states (f.states.0, λ number x low is. (f.states.1 number x low is).mixes) in
    let cut : early_of run round ++ late_of run round ≡ round.entries = take-append-drop (early_count run round) round.entries in
    let count : length (early_of run round) + length (late_of run round) ≡ 16 = sym (length-append (early_of run round) (late_of run round)) ∙ ap length cut ∙ mixes.count in
    let to_turn : known_of (listed (told_at turn track).stream) ≡ known_of (listed (told_at before track).stream) = known_same (told_at before track).stream (told_at turn track).stream o.turn.shape f.lent in
    let to_end : known_of (listed (told_at after track).stream) ≡ known_of (listed (told_at late track).stream) =
    ap (λ (b : BlockTold). known_of (listed b)) o.whole ∙ known_quiet (told_at late track).stream (told_at end track).stream o.meeting in
    let to_all : known_of (listed (told_at all track).stream) ≡ known_of (listed (told_at late track).stream) = ap (λ (t : TrackTold). known_of (listed t.stream)) (loaded_told round.turn late track) in
    let c6 : SameReports late after = rest_same s run round in
    let at_late : IsTold late track i item × LastCarries late i = by_part (some_part (length (early_of run round)) (length (late_of run round)) count) e l (λ t. told_same before turn track i item c2 to_turn t) (λ t. last_same before turn i c2 t) in
    let h = heard-append i (early_of run round) (late_of run round) in
    let heard_all = ap (heard_in i) cut in
    let silent_all = ap (silent_in i) cut in
    let h0 = h.0 in let h1 = h.1 in
    record {
      told = told_same late after track i item c6 to_end at_late.0;
      carries_on = last_same late after i c6 at_late.1;
      counted = λ last.
          let la = last_same run called i c1 last in
          let a = e.counted la in
          let lb = last_same before turn i c2 (e.carries_on (inr la)) in
          let b = l.counted lb in
          let s1 = slot_same run called i c1 in
          let s2 = slot_same before turn i c2 in
          let s3 = slot_same late after i c6 in
          let f1 = ap (λ (r : SlotReport). r.fulls + r.partials) s1 in let f2 = ap (λ (r : SlotReport). r.fulls + r.partials) s2 in let f3 = ap (λ (r : SlotReport). r.fulls + r.partials) s3 in
          let q1 = ap (λ (r : SlotReport). r.empties) s1 in let q2 = ap (λ (r : SlotReport). r.empties) s2 in let q3 = ap (λ (r : SlotReport). r.empties) s3 in
          let ah = a.heard in let bh = b.heard in let aq = a.silent in let bq = b.silent in
          record { heard = omega (arith, f1, f2, f3, ah, bh, h0, heard_all); silent = omega (arith, q1, q2, q3, aq, bq, h1, silent_all) };
    }
  where
    by_part : {early_run before turn late : Run} {xs ys : List EntrySeen} → (1 ≤ length xs) ⊎ (1 ≤ length ys) → EntriesTold early_run before track i item xs → EntriesTold turn late track i item ys
        → (IsTold before track i item → IsTold turn track i item) → (LastCarries before i → LastCarries turn i) → IsTold late track i item × LastCarries late i
    by_part (inl some) e l told carries = (l.told (inr (told (e.told (inl some)))), l.carries_on (inr (carries (e.carries_on (inl some)))))
    by_part (inr some) e l told carries = (l.told (inl some), l.carries_on (inl some))

-- if a track flows, the report after the round tells of it
pub reported : (s : Session) (marks : Marks) (run : Run) (round : RoundSeen) (track i : ℕ) (item : FastTrack) → LegalRound false s marks run round → FlowsIn s run round track i item → Reported s run round track i item
reported s marks run round track i item legal f =
    plays_reported s marks run round track i item legal (record { there = f.there; slot = f.slot; item_is = f.item_is; states = f.states; fast_mixer = f.fast; knows_states = f.knows_states; lent = f.lent })

-- ## What is heard

pub heard_some : (i : ℕ) (es : List EntrySeen) → 1 ≤ taken_in i es → 1 ≤ heard_in i es
heard_some i [] some = absurd (let z : ⊥ = omega (arith, some) in z)
heard_some i (e ∷ es) some = by (entry_slot e.entry i).seen some (heard_some i es)
  where
    by : (answer : Seen) → 1 ≤ count_seen answer + taken_in i es → (1 ≤ taken_in i es → 1 ≤ heard_in i es) → 1 ≤ heard_by answer + heard_in i es
    by (seen.Frames count) low rest = omega arith
    by _ low rest = let r = rest (omega (arith, low)) in omega (arith, r)

-- if frames were left before the round, some look shows frames
pub hears_some : (s : Session) (run : Run) (round : RoundSeen) (track i : ℕ) → Flowed s run round track i → 1 ≤ cycle_frames s → 1 ≤ frames_left_in (told_at run track).stream → 1 ≤ heard_in i round.entries
hears_some s run round track i f some left = heard_some i round.entries (let a = f.enough in omega arith)
