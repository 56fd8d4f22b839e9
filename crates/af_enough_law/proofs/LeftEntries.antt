-- The entries of a round in which a track leaves: those of the state before play it, and those of the state that the turn pushes don't touch it. The report that the turn finds says that its server is open.
use Rattle.std.proofs.Common.{◌≡◌, ◌⊎◌, inl, inr, ℕ, zero, suc, ◌+◌, ◌≤◌, ◌<◌, ◌==◌, ◌&&◌, ◌||◌, if◌then◌else◌, is_some, Bool, true, false, true≢false, Option, Some, None, List, [], ◌∷◌, ◌++◌, length, refl, sym, ap, ◌∙◌, subst, arith, eqb-true}
use Rattle.af_enough_law.proofs.Common.{BlockTold, ClientEvent, CycleEntry, EntrySeen, FastState, FastTrack, LegalEntries, LegalEntry, Listed, LooksBy, Marks, Run, ServerEvent, Session, Shape, SlotEntry, SlotReport, TrackTold, carries, counted_look, cycle_events, cycle_frames, entry_slot, find, front_of, is_mixed, is_shown, known_of, last_report, last_used, listed, next_slot, no_slot, played, polled_known, polled_waits, range_with_len, report_at, server_kept, server_list, slot_playing, slot_of, slot_report, slots, state_beyond, state_for, state_of, stream_of, three, told_at, with_cycle, with_cycles, with_looks, with_mix, with_poll, never_true}
use Rattle.af_enough_law.proofs.Basics.{state_there}
use Rattle.af_runs.specs.Runs.{shows_slot}
use Rattle.af_enough_law.proofs.FastWords.{AllUse, Plays, slot_told, HasItem, IsTold}
use Rattle.af_enough_law.proofs.Commanding.{le_cases}
use Rattle.af_enough_law.proofs.Fair.{calm_drops}
use Rattle.af_enough_law.proofs.FastFlows.{PlaysTrack, plays_track, cycles_later}
use Rattle.af_enough_law.proofs.FastFound.{listed_played, adds_more, is_look}
use Rattle.af_enough_law.proofs.FastMixes.{Uses}
use Rattle.af_enough_law.proofs.FastReports.{entry_told, slot_counts}
use Rattle.af_enough_law.proofs.FastShows.{Setting, Look, slot_look}
use Rattle.af_enough_law.proofs.FastSince.{Adds, adds_none}
use Rattle.af_enough_law.proofs.FastSteps.{cycle_states, cycle_track, mixed_stream, played_server, slot_only, cycle_draft}
use Rattle.af_enough_law.proofs.StreamCalm.{IsQuiet, LiesIn, lies_earlier, calm_join, calm_cycle, still_shows}
use Rattle.af_enough_law.proofs.RunTracks.{cycle_long}

-- the state has nothing in the slot, and the track nowhere
pub record IsOut (slot track : ℕ) (x : FastState) : Type 0 where
  pub free : carries x slot ≡ false
  pub none : (j : ℕ) → j < slots → carries x j ≡ true → (slot_of x j).track ≡ track → ⊥

find_none : (p : ℕ → Bool) (a n : ℕ) → ((j : ℕ) → j < a + n → p j ≡ true → ⊥) → find p (range_with_len a n) ≡ None
find_none p a zero out = refl
find_none p a (suc n) out = by (p a) refl (find_none p (a + 1) n (λ j low is. out j (omega (arith, low)) is))
  where
    by : (b : Bool) → p a ≡ b → find p (range_with_len (a + 1) n) ≡ None → (if b then Some a else find p (range_with_len (a + 1) n)) ≡ None
    by true is rest = absurd (out a (omega arith) is)
    by false is rest = rest

-- ## An entry that doesn't touch the track

-- no slot plays the track
pub slot_none : (x : FastState) (e : EntrySeen) (track : ℕ) → ((j : ℕ) → j < slots → carries x j ≡ true → is_shown (entry_slot e.entry j).seen ≡ true → (slot_of x j).track ≡ track → ⊥) → slot_playing x e.entry track ≡ None
slot_none x e track out = find_none (λ j. shows_slot x e.entry j && ((slot_of x j).track == track)) 0 slots
    (λ j low is. let p = three (carries x j) (is_shown (entry_slot e.entry j).seen) ((slot_of x j).track == track) is in out j (omega (arith, low)) p.0 p.1 (eqb-true (slot_of x j).track track p.2))

-- a track that no slot plays is as it was
pub track_still : (s : Session) (run : Run) (e : EntrySeen) (track : ℕ) → track < length run.tracks → slot_playing (state_for s (with_poll s e.entry.state run) e.entry.state) e.entry track ≡ None → told_at (with_cycle s run e) track ≡ told_at run track
track_still s run e track there none = cycle_track s run e track there
    ∙ ap (λ (o : Option ℕ). elim o as (λ o. TrackTold) [ None ↦ told_at run track | Some i ↦ record (told_at run track) { stream = played (cycle_frames s) e i (told_at run track).stream } ]) none

-- under a state that was pushed and has nothing in the slot, the report keeps what it had
pub next_kept : (s : Session) (run : Run) (entry : CycleEntry) (before : List SlotReport) (i : ℕ) → carries (state_for s run entry.state) i ≡ false → next_slot s run entry before i ≡ report_at before i
next_kept s run entry before i free =
    let x : FastState = state_for s run entry.state in
    let y : FastState = state_for s run (last_used run.entries) in
    by (is_some (state_of run.states entry.state) || shows_slot x entry i) (slot_report (cycle_frames s) (Some x) (Some y) entry (known_of (listed (stream_of run x i))) i (report_at before i))
    (ap (λ (b : Bool). if b then counted_look (cycle_frames s) (slot_of x i).generation (entry_slot entry i).seen (known_of (listed (stream_of run x i))) (if carries y i then report_at before i else no_slot) else report_at before i) free)
  where
    by : (b : Bool) (r : SlotReport) → r ≡ report_at before i → (if b then r else report_at before i) ≡ report_at before i
    by true r same = same
    by false r same = refl

-- the next report of a slot under a state that wasn't pushed, if the entry shows nothing in it
pub next_unshown : (s : Session) (run : Run) (entry : CycleEntry) (before : List SlotReport) (i : ℕ) → state_of run.states entry.state ≡ None → is_shown (entry_slot entry i).seen ≡ false → next_slot s run entry before i ≡ report_at before i
next_unshown s run entry before i none shown =
    let x : FastState = state_for s run entry.state in
    let y : FastState = state_for s run (last_used run.entries) in
    let r : SlotReport = slot_report (cycle_frames s) (Some x) (Some y) entry (known_of (listed (stream_of run x i))) i (report_at before i) in
    ap (λ (b : Bool). if b || shows_slot x entry i then r else report_at before i) (ap is_some none)
    ∙ ap (λ (b : Bool). if carries x i && b then r else report_at before i) shown ∙ by (carries x i) r
  where
    by : (b : Bool) (r : SlotReport) → (if b && false then r else report_at before i) ≡ report_at before i
    by true r = refl
    by false r = refl

-- a legal entry shows nothing in a slot that its state doesn't carry
pub shows_nothing : (s : Session) (marks : Marks) (run : Run) (e : EntrySeen) (i : ℕ) (y : FastState) → 0 < i → i < slots → LegalEntry s marks (with_poll s e.entry.state run) e → state_of run.states e.entry.state ≡ Some y → carries y i ≡ false → is_shown (entry_slot e.entry i).seen ≡ false
unfolding with_poll
shows_nothing s marks run e i y some low legal is free = by (is_mixed e.entry.cycle) refl
  where
    by : (b : Bool) → is_mixed e.entry.cycle ≡ b → is_shown (entry_slot e.entry i).seen ≡ false
    by true mixed = ap (λ (x : SlotEntry). is_shown x.seen) ((legal.cycle.mixes y is mixed).others i some low free)
    by false mixed = never_true (is_shown (entry_slot e.entry i).seen) (still_shows e.entry i low (legal.cycle.still mixed))

-- ## One entry

-- a report says of the slot that its server is open, and is of this item
pub record SaysOpen (r : SlotReport) (item : FastTrack) : Type 0 where
  pub unshut : r.shut ≡ false
  pub generation : r.generation ≡ item.generation

-- What an entry leaves, in the run and in the one that the turn finds, which hasn't the state that the turn pushes: the server calm and open, the same list in both, and reports that say so
pub record LeftStep (s : Session) (track slot : ℕ) (item : FastTrack) (x d : FastState) (n : ℕ) (k : Shape) (run told : Run) : Type 0 where
  pub quiet : IsQuiet k (server_list (told_at run track).stream)
  pub count : length told.states ≡ n
  pub last : state_of told.states n ≡ Some x
  pub draft : told.normal.draft ≡ d
  pub there : track < length told.tracks
  pub reported : IsTold told track slot item
  pub same : listed (told_at told track).stream ≡ listed (told_at run track).stream
  pub unshut : (slot_told run slot).shut ≡ false
  pub generation : (slot_told run slot).generation ≡ item.generation

-- the state has the track in its slot, or nothing of it
abbrev pub HasOrOut : ℕ → ℕ → FastTrack → FastState → Type 0
HasOrOut track slot item x = HasItem slot item x ⊎ IsOut slot track x

module _ (s : Session) (marks : Marks) (track slot : ℕ) (item : FastTrack) (some : 0 < slot) (low : slot < slots) (is : item.track ≡ track) (x : FastState) (p : Plays slot item x) (d : FastState) (q : HasOrOut track slot item d) (n : ℕ) (k : Shape) (cs : List ClientEvent) (all : List ServerEvent) (h : Setting k cs all) where
  -- the server that is known to be open
  open_known : (b : BlockTold) → b.shape ≡ k → IsQuiet k (server_list b) → (known_of (listed b)).shut ≡ false
  open_known b shape quiet = ap is_some (ap (λ (j : Shape). (server_kept j (server_list b)).shut) shape ∙ quiet.unshut)

  -- the states of the run: this one by its number, and those after it that have nothing of the track
  abbrev pub KnowsLeft : Run → Type 0
  KnowsLeft run = (state_of run.states n ≡ Some x) × (1 ≤ n) × ((m : ℕ) (y : FastState) → n < m → state_of run.states m ≡ Some y → IsOut slot track y)

  entry_plays : (run told : Run) (e : EntrySeen) → KnowsLeft run → track < length run.tracks → LegalEntry s marks (with_poll s e.entry.state run) e → LiesIn k cs all h (told_at (with_cycle s run e) track).stream → e.entry.state ≡ n
      → LeftStep s track slot item x d n k run told → LeftStep s track slot item x d n k (with_cycle s run e) (with_cycle s told e)
  entry_plays run told e knows there legal lies at step =
      let b : BlockTold = (told_at run track).stream in
      let next : BlockTold = (told_at (with_cycle s run e) track).stream in
      let later : Run = with_cycle s told e in
      let uses : Uses (Plays slot item) run.states e.entry.state = record { state = x; is = ap (state_of run.states) at ∙ knows.0; holds = p } in
      let uses_told : Uses (Plays slot item) told.states e.entry.state = record { state = x; is = ap (state_of told.states) at ∙ step.last; holds = p } in
      let shows_slot : PlaysTrack s run e track slot = plays_track s marks run e track slot item low is there legal uses in
      let shape : b.shape ≡ k = sym (ap (λ (y : BlockTold). y.shape) shows_slot.stream) ∙ lies.shape in
      let f : Listed = record { shape = k; events = server_list b } in
      let here : listed b ≡ f = λ j. record { shape = shape j; events = server_list b } in
      let events : List ServerEvent = cycle_events (cycle_frames s) f (entry_slot e.entry slot) (front_of (cycle_frames s) f (entry_slot e.entry slot)) in
      let list : server_list next ≡ server_list b ++ events =
      ap server_list shows_slot.stream ∙ played_server (cycle_frames s) e slot b ∙ ap (λ (y : Listed). server_list b ++ cycle_events (cycle_frames s) y (entry_slot e.entry slot) (front_of (cycle_frames s) y (entry_slot e.entry slot))) here in
      let looks : LooksBy (cycle_frames s) f (entry_slot e.entry slot) shows_slot.front = subst (λ (y : Listed). LooksBy (cycle_frames s) y (entry_slot e.entry slot) shows_slot.front) here shows_slot.looks in
      let look : Look k (cycle_frames s) cs (server_list b) (entry_slot e.entry slot).seen events =
      slot_look k cs all (server_list b) h (calm_drops (server_list b) step.quiet.calm) step.quiet.unshut (cycle_frames s) (entry_slot e.entry slot) shows_slot.front lies.rest looks (lies.whole ∙ ap (λ l. l ++ lies.rest) list) in
      let quiet : IsQuiet k (server_list next) = subst (IsQuiet k) (sym list) (record { calm = calm_join (server_list b) events step.quiet.calm (calm_cycle (cycle_frames s) f (entry_slot e.entry slot) (front_of (cycle_frames s) f (entry_slot e.entry slot)) look.shows); unshut = look.unshut }) in
      let track_is : (slot_of x slot).track ≡ track = ap (λ (t : FastTrack). t.track) p.is ∙ is in
      let only = slot_only x e track slot low p.carried track_is (λ j less carried one. p.only j less carried (one ∙ sym is)) (is_look (entry_slot e.entry slot).seen look.shows) in
      let counts = polled_known s told e.entry.state x uses_told.is in
      let stream : (told_at later track).stream ≡ played (cycle_frames s) e slot (told_at told track).stream =
      ap (λ (t : TrackTold). t.stream) (cycle_track s told e track step.there) ∙ mixed_stream s (state_for s (with_poll s e.entry.state told) e.entry.state) e track slot (told_at told track) (ap (λ (y : FastState). slot_playing y e.entry track) counts ∙ only) in
      let reported = entry_told s run e track slot item low is uses in
      let found = entry_told s told e track slot item low is uses_told in
      let states = cycle_states s told e in
      record {
        quiet = quiet;
        count = ap length states ∙ step.count;
        last = ap (λ l. state_of l n) states ∙ step.last;
        draft = cycle_draft s told e ∙ step.draft;
        there = (let a = cycle_long s told e in let b = step.there in omega (arith, a, b));
        reported = found.told;
        same = ap listed stream ∙ listed_played (cycle_frames s) e slot (told_at told track).stream (told_at run track).stream step.same ∙ ap listed (sym shows_slot.stream);
        unshut = reported.told.shut ∙ open_known next lies.shape quiet;
        generation = reported.told.generation;
      }

  -- the draft plays nothing of the track if the entry shows nothing in its slot
  draft_none : (e : EntrySeen) → is_shown (entry_slot e.entry slot).seen ≡ false → slot_playing d e.entry track ≡ None
  draft_none e unshown = by q
    where
      by : HasOrOut track slot item d → slot_playing d e.entry track ≡ None
      by (inl has) = slot_none d e track (λ j less carried shown at. true≢false (sym shown ∙ ap (λ (m : ℕ). is_shown (entry_slot e.entry m).seen) (has.only j less carried (at ∙ sym is)) ∙ unshown))
      by (inr out) = slot_none d e track (λ j less carried shown at. out.none j less carried at)

  entry_skips : (run told : Run) (e : EntrySeen) → KnowsLeft run → track < length run.tracks → LegalEntry s marks (with_poll s e.entry.state run) e → e.entry.state ≤ length run.states → n < e.entry.state
      → LeftStep s track slot item x d n k run told → LeftStep s track slot item x d n k (with_cycle s run e) (with_cycle s told e)
  unfolding with_poll with_mix
  entry_skips run told e knows there legal pushed above step =
      let later : Run = with_cycle s told e in
      let next : Run = with_cycle s run e in
      let one : 1 ≤ e.entry.state = omega (arith, above) in
      let y = state_there run.states e.entry.state one pushed in
      let out = knows.2 e.entry.state y.0 above y.1 in
      let unshown = shows_nothing s marks run e slot y.0 some low legal y.1 out.free in
      let beyond : length told.states < e.entry.state = (let a = step.count in omega (arith, a, above)) in
      let counts : state_for s (with_poll s e.entry.state told) e.entry.state ≡ d = polled_waits s told e.entry.state beyond ∙ step.draft in
      let actual : state_for s (with_poll s e.entry.state run) e.entry.state ≡ y.0 = polled_known s run e.entry.state y.0 y.1 in
      let run_still : told_at next track ≡ told_at run track = track_still s run e track there (ap (λ (z : FastState). slot_playing z e.entry track) actual ∙ slot_none y.0 e track (λ j less carried shown at. out.none j less carried at)) in
      let told_still : told_at later track ≡ told_at told track = track_still s told e track step.there (ap (λ (z : FastState). slot_playing z e.entry track) counts ∙ draft_none e unshown) in
      let missing : state_of told.states e.entry.state ≡ None = state_beyond told.states e.entry.state beyond in
      let told_slot : slot_told later slot ≡ slot_told told slot = slot_counts s told e slot low ∙ next_unshown s (with_looks s e (with_poll s e.entry.state told)) e.entry (last_report told.reports).slots slot missing unshown in
      let run_slot : slot_told next slot ≡ slot_told run slot = slot_counts s run e slot low ∙ next_kept s (with_looks s e (with_poll s e.entry.state run)) e.entry (last_report run.reports).slots slot (ap (λ (z : FastState). carries z slot) actual ∙ out.free) in
      let stream = ap (λ (t : TrackTold). t.stream) told_still in
      let states = cycle_states s told e in
      record {
        quiet = subst (λ (t : TrackTold). IsQuiet k (server_list t.stream)) (sym run_still) step.quiet;
        count = ap length states ∙ step.count;
        last = ap (λ l. state_of l n) states ∙ step.last;
        draft = cycle_draft s told e ∙ step.draft;
        there = (let a = cycle_long s told e in let b = step.there in omega (arith, a, b));
        reported = record {
          generation = ap (λ (r : SlotReport). r.generation) told_slot ∙ step.reported.generation;
          consumed = ap (λ (r : SlotReport). r.consumed) told_slot ∙ step.reported.consumed ∙ ap (λ (b : BlockTold). (known_of (listed b)).consumed) (sym stream);
          shut = ap (λ (r : SlotReport). r.shut) told_slot ∙ step.reported.shut ∙ ap (λ (b : BlockTold). (known_of (listed b)).shut) (sym stream);
        };
        same = ap listed stream ∙ step.same ∙ ap (λ (t : TrackTold). listed t.stream) (sym run_still);
        unshut = ap (λ (r : SlotReport). r.shut) run_slot ∙ step.unshut;
        generation = ap (λ (r : SlotReport). r.generation) run_slot ∙ step.generation;
      }

  -- ## Some entries

  -- what some entries leave, and the reports that are found after each
  pub record LeftEnd (run told : Run) (es : List EntrySeen) : Type 0 where
    pub step : LeftStep s track slot item x d n k (with_cycles s es run) (with_cycles s es told)
    pub adds : Adds told (with_cycles s es told) (λ r. SaysOpen (report_at r.slots slot) item)

  told_unshut : (run told : Run) → (told_at run track).stream.shape ≡ k → LeftStep s track slot item x d n k run told → (slot_told told slot).shut ≡ false
  told_unshut run told shape step = step.reported.shut ∙ ap (λ (l : Listed). (known_of l).shut) step.same ∙ open_known (told_at run track).stream shape step.quiet

  pub left_entries : (high : ℕ) (es : List EntrySeen) (run told : Run) → KnowsLeft run → track < length run.tracks → AllUse n high es → high ≤ length run.states → LegalEntries s marks run es → LiesIn k cs all h (told_at (with_cycles s es run) track).stream
      → LeftStep s track slot item x d n k run told → LeftEnd run told es
  left_entries high [] run told knows there uses top legal lies step = record { step = step; adds = adds_none (λ r. SaysOpen (report_at r.slots slot) item) told }
  left_entries high (e ∷ es) run told knows there uses top legal lies step =
      let next : Run = with_cycle s run e in
      let later : Run = with_cycle s told e in
      let there' : track < length next.tracks = (let a = cycle_long s run e in omega (arith, a, there)) in
      let lies' = lies_earlier k cs all h (told_at next track).stream (told_at (with_cycles s es next) track).stream (cycles_later s es next track there') lies in
      let most = uses.1 in
      let now : LeftStep s track slot item x d n k next later = by (le_cases n e.entry.state uses.0) (λ at. entry_plays run told e knows there legal.0 lies' at step) (λ above. entry_skips run told e knows there legal.0 (omega (arith, most, top)) above step) in
      let states = cycle_states s run e in
      let knows' : KnowsLeft next = (ap (λ l. state_of l n) states ∙ knows.0, knows.1, λ m y above at. knows.2 m y above (ap (λ l. state_of l m) (sym states) ∙ at)) in
      let rest = left_entries high es next later knows' there' uses.2 (let a = ap length states in omega (arith, a, top)) legal.1 lies now in
      record {
        step = rest.step;
        adds = adds_more s slot (λ r. SaysOpen r item) told e es (record { unshut = told_unshut next later lies'.shape now; generation = now.reported.generation }) rest.adds;
      }
    where
      by : (e.entry.state ≡ n) ⊎ (n < e.entry.state) → (e.entry.state ≡ n → LeftStep s track slot item x d n k (with_cycle s run e) (with_cycle s told e)) → (n < e.entry.state → LeftStep s track slot item x d n k (with_cycle s run e) (with_cycle s told e))
          → LeftStep s track slot item x d n k (with_cycle s run e) (with_cycle s told e)
      by (inl at) a b = a at
      by (inr above) a b = b above
