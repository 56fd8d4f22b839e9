-- The report that a turn finds: it is told by the entries of the round without the state that the turn pushes, and goes on from the one before the round all the same.
use Rattle.std.proofs.Common.{◌≡◌, ◌⊎◌, inl, inr, ℕ, ◌+◌, ◌≤◌, ◌<◌, ◌||◌, ◌&&◌, if◌then◌else◌, unwrap_or, is_some, Bool, true, false, Option, Some, None, List, [], ◌∷◌, ◌++◌, length, length-append, refl, sym, ap, ◌∙◌, subst, arith, append_assoc}
use Rattle.af_enough_law.proofs.Common.{BlockTold, CycleEntry, EntrySeen, FastState, FastTrack, LegalRound, Listed, Marks, NormalKept, Report, RoundSeen, Run, Seen, Session, Shape, SlotReport, TrackTold, after_round, after_turn, before_turn, calls_states, carries, counted_look, cycle_events, cycle_frames, early_count, early_of, entry_slot, front_of, initial, is_shown, kept, known_of, known_some, last_report, last_used, last_used-push, late_of, listed, next_slot, no_slot, or_true, played, polled_other, polled_pushed, polled_waits, report_at, report_of, server_kept, server_list, slot_playing, slot_of, slot_report, slots, state_at, state_for, state_known, state_of, stream_of, take-append-drop, told_at, with_calls, with_cycle, with_cycles, with_looks, with_mix, with_poll}
use Rattle.af_base.specs.declared.seen.Seen.TheVariants as seen
use Rattle.af_runs.specs.Runs.{shows_slot}
use Rattle.af_enough_law.proofs.FastWords.{AllUse, Plays, slot_told, IsTold, LastCarries, IsShown, AllShown, Since, FlowsIn, HasItem, heard_in}
use Rattle.af_enough_law.proofs.FastFlows.{AllAlong, cycle_later}
use Rattle.af_enough_law.proofs.FastReports.{heard_one, reported, slot_counts, last_more, calls_same, slot_same, last_same, told_same, known_quiet}
use Rattle.af_enough_law.proofs.FastPolls.{parts_use, fast_parts, use-append, turn_more}
use Rattle.af_enough_law.proofs.FastRounds.{Quiet, over}
use Rattle.af_enough_law.proofs.FastTakes.{flowed, flowed_on, quiet_unshut}
use Rattle.af_enough_law.proofs.FastSince.{Adds, adds_both, adds_none, known_more, since_number}
use Rattle.af_enough_law.proofs.FastSteps.{cycle_states, cycle_track, mixed_stream, played_server, slot_only}
use Rattle.af_enough_law.proofs.FastMixes.{uses_of, early_states, late_states, Uses}
use Rattle.af_enough_law.proofs.Commanding.{le_cases}
use Rattle.af_enough_law.proofs.RunTracks.{cycle_long}

-- ## One entry

pub cycle_current : (s : Session) (run : Run) (e : EntrySeen) → ((with_cycle s run e).current ≡ (with_poll s e.entry.state run).current) × ((with_cycle s run e).entries ≡ run.entries ++ e.entry ∷ [])
unfolding with_poll with_mix
cycle_current s run e = (refl, refl)

-- the slot of an entry whose state counts as one that carries it, if its look is shown
next_found : (s : Session) (run : Run) (entry : CycleEntry) (before : List SlotReport) (i : ℕ) (x : FastState) → state_for s run entry.state ≡ x → carries x i ≡ true → is_shown (entry_slot entry i).seen ≡ true → carries (state_for s run (last_used run.entries)) i ≡ true
    → next_slot s run entry before i ≡ counted_look (cycle_frames s) (slot_of x i).generation (entry_slot entry i).seen (known_of (listed (stream_of run x i))) (report_at before i)
next_found s run entry before i x is carried shown kept_on =
    let y : FastState = state_for s run (last_used run.entries) in
    let o : Option FastState = state_of run.states entry.state in
    ap (λ (z : FastState). if is_some o || shows_slot z entry i then slot_report (cycle_frames s) (Some z) (Some y) entry (known_of (listed (stream_of run z i))) i (report_at before i) else report_at before i) is
    ∙ ap (λ (b : Bool × Bool). if is_some o || (b.0 && b.1) then slot_report (cycle_frames s) (Some x) (Some y) entry (known_of (listed (stream_of run x i))) i (report_at before i) else report_at before i) (λ j. (carried j, shown j))
    ∙ ap (λ (b : Bool). if b then slot_report (cycle_frames s) (Some x) (Some y) entry (known_of (listed (stream_of run x i))) i (report_at before i) else report_at before i) (or_true (is_some o))
    ∙ ap (λ (b : Bool × Bool). if b.0 then counted_look (cycle_frames s) (slot_of x i).generation (entry_slot entry i).seen (known_of (listed (stream_of run x i))) (if b.1 then report_at before i else no_slot) else report_at before i) (λ j. (carried j, kept_on j))

pub is_look : (answer : Seen) → IsShown answer → is_shown answer ≡ true
is_look (seen.Frames count) is = refl
is_look seen.Empty is = refl
is_look _ is = absurd is

-- a state that plays an item has it
pub plays_item : (i : ℕ) (item : FastTrack) (x : FastState) → Plays i item x → HasItem i item x
plays_item i item x p = record { carried = p.carried; is = p.is; only = p.only }

-- the state that an entry counts as in such a run has the item
pub record CountsAs (s : Session) (run : Run) (e : EntrySeen) (i : ℕ) (item : FastTrack) : Type 0 where
  pub state : FastState
  pub is : state_for s (with_poll s e.entry.state run) e.entry.state ≡ state
  pub has : HasItem i item state

-- what holds of a run in which the turn's state isn't pushed: both the last state and the draft have the item
pub record FoundNow (s : Session) (track i : ℕ) (item : FastTrack) (before : SlotReport) (n : ℕ) (run : Run) : Type 0 where
  pub count : length run.states ≡ n
  pub some : 1 ≤ n
  pub last : HasItem i item (state_at (cycle_frames s) run.states n)
  pub draft : HasItem i item run.normal.draft
  pub there : track < length run.tracks
  pub used : 1 ≤ last_used run.entries
  pub carried : carries (state_for s run (last_used run.entries)) i ≡ true
  pub told : IsTold run track i item
  pub since : Since before (slot_told run i) item

since_looks : (before : SlotReport) (run later : Run) (track i : ℕ) (item : FastTrack) (asked : ℕ) (answer : Seen) → slot_told later i ≡ counted_look asked item.generation answer (known_of (listed (told_at later track).stream)) (slot_told run i)
    → (known_of (listed (told_at run track).stream)).consumed ≤ (known_of (listed (told_at later track).stream)).consumed → IsTold run track i item → Since before (slot_told run i) item → Since before (slot_told later i) item
since_looks before run later track i item asked answer is more told since =
    let c = told.consumed in let d = since.consumed in let h = since.heard in let q = since.silent in
    subst (λ (r : SlotReport). Since before r item) (sym is) (record { generation = refl; heard = omega (arith, h); silent = omega (arith, q); consumed = omega (arith, c, d, more) })

module _ (s : Session) (track i : ℕ) (item : FastTrack) (low : i < slots) (is : item.track ≡ track) (before : SlotReport) (n : ℕ) where
  pub counts_as : (run : Run) (e : EntrySeen) → FoundNow s track i item before n run → n ≤ e.entry.state → CountsAs s run e i item
  counts_as run e f high = by (le_cases n e.entry.state high)
    where
      by : (e.entry.state ≡ n) ⊎ (n < e.entry.state) → CountsAs s run e i item
      by (inl at) = record { state = state_at (cycle_frames s) run.states n; is = polled_pushed s run e.entry.state (let c = f.count in omega (arith, at, c)) ∙ ap (state_at (cycle_frames s) run.states) at; has = f.last }
      by (inr above) = record { state = run.normal.draft; is = polled_waits s run e.entry.state (let c = f.count in omega (arith, above, c)); has = f.draft }

  pub found_told : (run : Run) (e : EntrySeen) → FoundNow s track i item before n run → n ≤ e.entry.state → IsShown (entry_slot e.entry i).seen
      → slot_told (with_cycle s run e) i ≡ counted_look (cycle_frames s) item.generation (entry_slot e.entry i).seen (known_of (listed (told_at (with_cycle s run e) track).stream)) (slot_told run i)
  unfolding with_poll with_mix
  found_told run e f high shows =
      let now : Run = with_looks s e (with_poll s e.entry.state run) in
      let c = counts_as run e f high in
      let h = c.has in
      let track_is : (slot_of c.state i).track ≡ track = ap (λ (t : FastTrack). t.track) h.is ∙ is in
      let kept_on : carries (state_for s now (last_used run.entries)) i ≡ true = ap (λ (z : FastState). carries z i) (polled_other s run e.entry.state (last_used run.entries) f.used) ∙ f.carried in
      slot_counts s run e i low ∙ next_found s now e.entry (last_report run.reports).slots i c.state c.is h.carried (is_look (entry_slot e.entry i).seen shows) kept_on
      ∙ ap (λ (g : ℕ × ℕ). counted_look (cycle_frames s) g.0 (entry_slot e.entry i).seen (known_of (listed (told_at now g.1).stream)) (slot_told run i)) (λ j. ((h.is j).generation, track_is j))

  pub found_next : (run : Run) (e : EntrySeen) → FoundNow s track i item before n run → n ≤ e.entry.state → IsShown (entry_slot e.entry i).seen
      → FoundNow s track i item before n (with_cycle s run e)
  unfolding with_poll with_mix
  found_next run e f high shows =
      let next = with_cycle s run e in
      let states = cycle_states s run e in
      let c = counts_as run e f high in
      let h = c.has in
      let t = found_told run e f high shows in
      let used : last_used next.entries ≡ e.entry.state = ap last_used (cycle_current s run e).1 ∙ last_used-push run.entries e.entry in
      let more = known_more (told_at run track).stream (told_at next track).stream (cycle_later s run e track f.there) in
      record {
        count = ap length states ∙ f.count;
        some = f.some;
        last = f.last;
        draft = f.draft;
        there = (let a = cycle_long s run e in let b = f.there in omega (arith, a, b));
        used = (let a = f.some in omega (arith, used, high, a));
        carried = ap (λ (m : ℕ). carries (state_for s next m) i) used ∙ ap (λ (z : FastState). carries z i) c.is ∙ h.carried;
        told = record { generation = ap (λ (r : SlotReport). r.generation) t; consumed = ap (λ (r : SlotReport). r.consumed) t; shut = ap (λ (r : SlotReport). r.shut) t };
        since = since_looks before run next track i item (cycle_frames s) (entry_slot e.entry i).seen t more f.told f.since;
      }

-- ## The entries of a round

-- after each of some entries the server of a track isn't shut
abbrev pub AllOpen : Session → ℕ → List EntrySeen → Run → Type 0
AllOpen s track [] run = Unit {0}
AllOpen s track (e ∷ es) run = ((kept (listed (told_at (with_cycle s run e) track).stream)).shut ≡ None) × AllOpen s track es (with_cycle s run e)

-- the looks that showed frames, by a report
abbrev pub shown_looks : SlotReport → ℕ
shown_looks r = r.fulls + r.partials

-- what a report says that a turn finds: no count fell, the server isn't shut, and no more looks showed frames than these
pub record FoundFor (before : SlotReport) (most : ℕ) (now : SlotReport) (item : FastTrack) : Type 0 where
  pub since : Since before now item
  pub unshut : now.shut ≡ false
  pub few : shown_looks now ≤ most

pub record AddsOne (run later : Run) : Type 0 where
  pub report : Report
  pub whole : later.reports ≡ run.reports ++ report ∷ []

pub adds_one : (s : Session) (run : Run) (e : EntrySeen) → AddsOne run (with_cycle s run e)
unfolding with_poll with_mix
adds_one s run e = record { report = _; whole = refl }

pub cycles_append : (s : Session) (xs ys : List EntrySeen) (run : Run) → with_cycles s (xs ++ ys) run ≡ with_cycles s ys (with_cycles s xs run)
cycles_append s [] ys run = refl
cycles_append s (x ∷ xs) ys run = cycles_append s xs ys (with_cycle s run x)

-- the reports that the entries of a round add, told without its turn
pub adds_round : (s : Session) (run : Run) (round : RoundSeen) (P : Report → Type 0) → Adds (with_calls round run) (before_turn s run round) P → Adds (before_turn s run round) (with_cycles s (late_of run round) (before_turn s run round)) P
    → Adds (with_calls round run) (with_cycles s round.entries (with_calls round run)) P
adds_round s run round P early late =
    let called : Run = with_calls round run in
    let before : Run = before_turn s run round in
    subst (λ (r : Run). Adds called r P) (sym (cycles_append s (early_of run round) (late_of run round) called) ∙ ap (λ es. with_cycles s es called) (take-append-drop (early_count run round) round.entries))
    (adds_both P called before (with_cycles s (late_of run round) before) early late)

-- the report that an entry adds, and those of the entries after it
pub adds_more : (s : Session) (i : ℕ) (P : SlotReport → Type 0) (run : Run) (e : EntrySeen) (es : List EntrySeen) → P (slot_told (with_cycle s run e) i) → Adds (with_cycle s run e) (with_cycles s es (with_cycle s run e)) (λ r. P (report_at r.slots i))
    → Adds run (with_cycles s (e ∷ es) run) (λ r. P (report_at r.slots i))
adds_more s i P run e es now rest =
    let added = adds_one s run e in
    let at : slot_told (with_cycle s run e) i ≡ report_at added.report.slots i = ap (λ (l : List Report). report_at (last_report l).slots i) added.whole ∙ ap (λ (r : Report). report_at r.slots i) (last_more run.reports added.report) in
    record {
      news = added.report ∷ rest.news;
      whole = rest.whole ∙ ap (λ l. l ++ rest.news) added.whole ∙ append_assoc run.reports (added.report ∷ []) rest.news;
      each = (subst P at now, rest.each);
    }

module _ (s : Session) (track i : ℕ) (item : FastTrack) (low : i < slots) (is : item.track ≡ track) (before : SlotReport) (most n high : ℕ) where
  pub entries_found : (es : List EntrySeen) (run : Run) → FoundNow s track i item before n run → AllUse n high es → AllShown i es → AllOpen s track es run → shown_looks (slot_told run i) + heard_in i es ≤ most
      → Adds run (with_cycles s es run) (λ r. FoundFor before most (report_at r.slots i) item)
  entries_found [] run f uses shows opens few = adds_none (λ r. FoundFor before most (report_at r.slots i) item) run
  entries_found (e ∷ es) run f uses shows opens few =
      let next = with_cycle s run e in
      let now = found_next s track i item low is before n run e f uses.0 shows.0 in
      let counts = found_told s track i item low is before n run e f uses.0 shows.0 in
      let fulls = ap (λ (r : SlotReport). r.fulls) counts in
      let partials = ap (λ (r : SlotReport). r.partials) counts in
      let one = heard_one (cycle_frames s) (entry_slot e.entry i).seen in
      let more : shown_looks (slot_told next i) + heard_in i es ≤ most = omega (arith, fulls, partials, one, few) in
      let told = now.told in
      adds_more s i (λ r. FoundFor before most r item) run e es (record { since = now.since; unshut = told.shut ∙ ap (λ (o : Option (ℕ × ℕ)). is_some o) opens.0; few = omega (arith, more) }) (entries_found es next now uses.2 shows.1 opens.1 more)

-- ## The server stays open

pub listed_played : (asked : ℕ) (e : EntrySeen) (i : ℕ) (b c : BlockTold) → listed b ≡ listed c → listed (played asked e i b) ≡ listed (played asked e i c)
listed_played asked e i b c same =
    let list : server_list (played asked e i b) ≡ server_list (played asked e i c) =
    played_server asked e i b ∙ ap (λ (l : Listed). l.events ++ cycle_events asked l (entry_slot e.entry i) (front_of asked l (entry_slot e.entry i))) same ∙ sym (played_server asked e i c) in
    λ j. record { shape = (same j).shape; events = list j }

module _ (s : Session) (track i : ℕ) (item : FastTrack) (low : i < slots) (is : item.track ≡ track) (before : SlotReport) (n high : ℕ) where
  -- the entries told in one run, which play the track all along in another one that has the same list of the server
  entries_open : (es : List EntrySeen) (run told : Run) → AllAlong s track i es run → FoundNow s track i item before n told → AllUse n high es → AllShown i es → listed (told_at told track).stream ≡ listed (told_at run track).stream → AllOpen s track es told
  entries_open [] run told along f used shows same = tt
  entries_open (e ∷ es) run told along f used shows same =
      let later : Run = with_cycle s told e in
      let c = counts_as s track i item low is before n told e f used.0 in
      let has = c.has in
      let track_is : (slot_of c.state i).track ≡ track = ap (λ (t : FastTrack). t.track) has.is ∙ is in
      let only = slot_only c.state e track i low has.carried track_is (λ j less carried one. has.only j less carried (one ∙ sym is)) (is_look (entry_slot e.entry i).seen shows.0) in
      let stream : (told_at later track).stream ≡ played (cycle_frames s) e i (told_at told track).stream =
      ap (λ (t : TrackTold). t.stream) (cycle_track s told e track f.there) ∙ mixed_stream s (state_for s (with_poll s e.entry.state told) e.entry.state) e track i (told_at told track) (ap (λ (y : FastState). slot_playing y e.entry track) c.is ∙ only) in
      let same' : listed (told_at later track).stream ≡ listed (told_at (with_cycle s run e) track).stream =
      ap listed stream ∙ listed_played (cycle_frames s) e i (told_at told track).stream (told_at run track).stream same ∙ ap listed (sym along.0) in
      (ap (λ (y : Listed). (kept y).shut) same' ∙ along.1, entries_open es (with_cycle s run e) later along.2 (found_next s track i item low is before n told e f used.0 shows.0) used.2 shows.1 same')

open-append : (s : Session) (track : ℕ) (xs ys : List EntrySeen) (run : Run) → AllOpen s track xs run → AllOpen s track ys (with_cycles s xs run) → AllOpen s track (xs ++ ys) run
open-append s track [] ys run a b = b
open-append s track (x ∷ xs) ys run a b = (a.0, open-append s track xs ys (with_cycle s run x) a.1 b)

-- ## The round

pub use-up : (low high higher : ℕ) (es : List EntrySeen) → high ≤ higher → AllUse low high es → AllUse low higher es
use-up low high higher [] more h = tt
use-up low high higher (e ∷ es) more h = let a = h.1 in (h.0, omega (arith, a, more), use-up low high higher es more h.2)

pub calls_current : (round : RoundSeen) (run : Run) → ((with_calls round run).current ≡ run.current) × ((with_calls round run).normal ≡ run.normal)
unfolding with_calls
calls_current round run = (refl, refl)

quiet_kept : (b later : BlockTold) → Quiet b later → (kept (listed b)).shut ≡ None → (kept (listed later)).shut ≡ None
quiet_kept b later q unshut = quiet_unshut b later q later.shape (ap (λ (z : Shape). (server_kept z (server_list b)).shut) q.is_later.shape ∙ unshut)

shown-parts : (i : ℕ) (xs ys : List EntrySeen) → AllShown i (xs ++ ys) → AllShown i xs × AllShown i ys
shown-parts i [] ys h = (tt, h)
shown-parts i (x ∷ xs) ys h = let rest = shown-parts i xs ys h.1 in ((h.0, rest.0), rest.1)

module _ (s : Session) (track i : ℕ) (item : FastTrack) (low : i < slots) (is : item.track ≡ track) (before : SlotReport) (n high : ℕ) where
  found_after : (es : List EntrySeen) (run : Run) → FoundNow s track i item before n run → AllUse n high es → AllShown i es → FoundNow s track i item before n (with_cycles s es run)
  found_after [] run f uses shows = f
  found_after (e ∷ es) run f uses shows = found_after es (with_cycle s run e) (found_next s track i item low is before n run e f uses.0 shows.0) uses.2 shows.1

-- after each entry of the round, told without the turn, the server is open
opens_of : (s : Session) (marks : Marks) (run : Run) (round : RoundSeen) (track i : ℕ) (item : FastTrack) (base : SlotReport) → LegalRound false s marks run round → FlowsIn s run round track i item → AllShown i (early_of run round ++ late_of run round)
    → FoundNow s track i item base (length run.states) (with_calls round run) → AllOpen s track (early_of run round ++ late_of run round) (with_calls round run)
opens_of s marks run round track i item base legal f shows start =
    let o = over s run round track f.there in
    let uses = parts_use s marks run round legal f.fast f.knows_states in
    let called : Run = with_calls round run in
    let n : ℕ = length run.states in
    let on = flowed_on s marks run round track i item legal f in
    let shown = shown-parts i (early_of run round) (late_of run round) shows in
    let then_now = found_after s track i item f.slot f.item_is base n n (early_of run round) called start uses.early shown.0 in
    let to_turn : listed (told_at (before_turn s run round) track).stream ≡ listed (told_at (after_turn s run round) track).stream = λ j. record { shape = sym o.turn.shape j; events = sym f.lent j } in
    open-append s track (early_of run round) (late_of run round) called
    (entries_open s track i item f.slot f.item_is base n n (early_of run round) called called on.early start uses.early shown.0 refl)
    (entries_open s track i item f.slot f.item_is base n (length (after_turn s run round).states) (late_of run round) (after_turn s run round) (before_turn s run round) on.late then_now uses.late shown.1 to_turn)

-- what the report says before the entries of a round
pub found_first : (s : Session) (run : Run) (track i : ℕ) (item : FastTrack) (before : SlotReport) (n : ℕ) → length run.states ≡ n → Uses (Plays i item) run.states n → HasItem i item run.normal.draft → track < length run.tracks → LastCarries run i → IsTold run track i item → Since before (slot_told run i) item
    → FoundNow s track i item before n run
found_first s run track i item before n long u draft there last told since = record {
  count = long;
  some = known_some run.states n u.state u.is;
  last = subst (HasItem i item) (sym (ap (λ (o : Option FastState). unwrap_or o (initial (cycle_frames s))) u.is)) (plays_item i item u.state u.holds);
  draft = draft;
  there = there;
  used = known_some run.states (last_used run.entries) last.state last.is;
  carried = ap (λ (z : FastState). carries z i) (state_known s run (last_used run.entries) last.state last.is) ∙ last.carried;
  told = told;
  since = since;
}

-- The report that the turn of a round finds goes on from the one before the round, says that the server is open, and counts no more looks that showed frames than the last report of the round
pub found_pushed : (s : Session) (marks : Marks) (run : Run) (round : RoundSeen) (track i : ℕ) (item : FastTrack) (m : ℕ) → LegalRound false s marks run round → FlowsIn s run round track i item → LastCarries run i → IsTold run track i item
    → HasItem i item run.normal.draft → length run.reports ≤ m → m ≤ length (with_cycles s round.entries (with_calls round run)).reports
    → FoundFor (slot_told run i) (shown_looks (slot_told (after_round s run round) i)) (report_at (report_of (with_cycles s round.entries (with_calls round run)).reports m).slots i) item
found_pushed s marks run round track i item m legal f last told draft low high =
    let o = over s run round track f.there in
    let parts = fast_parts s marks run round legal f.fast in
    let uses = parts_use s marks run round legal f.fast f.knows_states in
    let after : Run = after_round s run round in
    let called : Run = with_calls round run in
    let turn : Run = after_turn s run round in
    let n : ℕ = length run.states in
    let top : ℕ = length turn.states in
    let base : SlotReport = slot_told run i in
    let most : ℕ = shown_looks (slot_told after i) in
    let first = early_states s run round in
    let final = late_states s run round in
    let long : length called.states ≡ n = ap length (calls_states round run) in
    let u = uses_of (Plays i item) run after called n f.states first.more first.whole (omega arith) (omega (arith, long)) in
    let c1 = calls_same round run in
    let draft' : HasItem i item called.normal.draft = subst (λ (m : NormalKept). HasItem i item m.draft) (sym (calls_current round run).1) draft in
    let slot1 : slot_told called i ≡ base = slot_same run called i c1 in
    let last1 = last_same run called i c1 last in
    let since1 : Since base (slot_told called i) item =
    subst (λ (r : SlotReport). Since base r item) (sym slot1) (record { generation = told.generation; heard = omega arith; silent = omega arith; consumed = omega arith }) in
    let told1 : IsTold called track i item = told_same run called track i item c1 (known_quiet (told_at run track).stream (told_at called track).stream o.calls) told in
    let counted = ((reported s marks run round track i item legal f).counted last).heard in
    let same = ap shown_looks slot1 in
    let good1 : FoundFor base most (slot_told called i) item = record {
      since = since1;
      unshut = told1.shut ∙ ap (λ (p : Option (ℕ × ℕ)). is_some p) (quiet_kept (told_at run track).stream (told_at called track).stream o.calls f.is_open.unshut);
      few = omega (arith, counted, same);
    } in
    let start : FoundNow s track i item base n called = found_first s called track i item base n long u draft' o.first last1 told1 since1 in
    let fl = flowed s marks run round track i item legal f in
    let cut : early_of run round ++ late_of run round ≡ round.entries = take-append-drop (early_count run round) round.entries in
    let early : AllUse n top (early_of run round) = use-up n n top (early_of run round) (let a = ap length (turn_more s run round).whole in let b = length-append run.states (turn_more s run round).more in omega (arith, a, b)) uses.early in
    let both : AllUse n top (early_of run round ++ late_of run round) = use-append n top (early_of run round) (late_of run round) early uses.late in
    let shows : AllShown i (early_of run round ++ late_of run round) = subst (AllShown i) (sym cut) fl.shown in
    let opens : AllOpen s track (early_of run round ++ late_of run round) called = opens_of s marks run round track i item base legal f shows start in
    let few : shown_looks (slot_told called i) + heard_in i (early_of run round ++ late_of run round) ≤ most = (let all = ap (heard_in i) cut in omega (arith, counted, same, all)) in
    let adds = entries_found s track i item f.slot f.item_is base most n top (early_of run round ++ late_of run round) called start both shows opens few in
    let adds' : Adds called (with_cycles s round.entries called) (λ r. FoundFor base most (report_at r.slots i) item) = subst (λ es. Adds called (with_cycles s es called) (λ r. FoundFor base most (report_at r.slots i) item)) cut adds in
    since_number called (with_cycles s round.entries called) (λ r. FoundFor base most (report_at r.slots i) item) m adds' good1 (let a = ap length c1.reports in omega (arith, a, low)) high
