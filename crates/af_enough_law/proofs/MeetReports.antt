-- The report that a turn finds in the round in which the fast mixer comes to have a proxy: if it is of this attachment, it says that the server is open.
use Rattle.std.proofs.Common.{◌≡◌, ◌⊎◌, inl, inr, ℕ, ◌≤◌, ◌<◌, ◌||◌, if◌then◌else◌, is_some, Bool, true, false, true≢false, Option, Some, None, List, [], ◌∷◌, length, refl, sym, ap, ◌∙◌, subst, arith}
use Rattle.af_enough_law.proofs.Common.{ClientEvent, EntrySeen, FastState, FastTrack, LegalEntries, LegalEntry, Listed, Marks, Run, ServerEvent, Session, Shape, SlotReport, TrackTold, carried, carries, counted_look, cycle_frames, entry_slot, is_shown, known_of, last_used, listed, mixed_track, no_slot, played, polled_known, polled_pushed, polled_waits, report_at, server_kept, server_list, slot_playing, slot_of, slot_report, slots, state_at, state_for, state_of, stream_of, told_at, with_cycle, with_cycles, with_looks, with_mix, with_poll}
use Rattle.af_enough_law.proofs.Basics.{state_there}
use Rattle.af_runs.specs.Runs.{shows_slot}
use Rattle.af_enough_law.proofs.FastWords.{AllUse, slot_told, HasItem}
use Rattle.af_enough_law.proofs.Commanding.{le_cases}
use Rattle.af_enough_law.proofs.FastFlows.{cycles_later}
use Rattle.af_enough_law.proofs.FastFound.{adds_more, listed_played}
use Rattle.af_enough_law.proofs.FastReports.{slot_counts}
use Rattle.af_enough_law.proofs.FastShows.{Setting}
use Rattle.af_enough_law.proofs.FastSince.{Adds, adds_none}
use Rattle.af_enough_law.proofs.FastSteps.{cycle_states, cycle_track, mixed_stream, slot_only, cycle_draft}
use Rattle.af_enough_law.proofs.LeftEntries.{IsOut, slot_none, track_still, shows_nothing, HasOrOut}
use Rattle.af_enough_law.proofs.StreamCalm.{IsQuiet, LiesIn, lies_earlier, entries_quiet}
use Rattle.af_enough_law.proofs.RunTracks.{cycle_long}

-- a report of this attachment says that the server is open
abbrev pub SaysOpenOf : FastTrack → SlotReport → Type 0
SaysOpenOf item r = r.generation ≡ item.generation → r.shut ≡ false

-- a state that has this attachment in the slot has this track there
abbrev pub NamesTrack : ℕ → ℕ → FastTrack → FastState → Type 0
NamesTrack track slot item z = carries z slot ≡ true → (slot_of z slot).generation ≡ item.generation → (slot_of z slot).track ≡ track

-- ## The report after an entry

module _ (s : Session) (track slot : ℕ) (item : FastTrack) (low : slot < slots) where
  -- the report keeps saying so, or tells of the server that is open
  pub says_next : (run : Run) (e : EntrySeen) (z : FastState) → state_for s (with_poll s e.entry.state run) e.entry.state ≡ z → NamesTrack track slot item z → (known_of (listed (told_at (with_cycle s run e) track).stream)).shut ≡ false
      → SaysOpenOf item (slot_told run slot) → SaysOpenOf item (slot_told (with_cycle s run e) slot)
  unfolding with_poll with_mix
  says_next run e z counts named open_is says =
      let now : Run = with_looks s e (with_poll s e.entry.state run) in
      let x : FastState = state_for s now e.entry.state in
      let y : FastState = state_for s now (last_used run.entries) in
      let before : SlotReport = slot_told run slot in
      subst (SaysOpenOf item) (sym (slot_counts s run e slot low)) (either (is_some (state_of now.states e.entry.state) || shows_slot x e.entry slot) _ before (made x y now before (subst (NamesTrack track slot item) (sym counts) named) open_is says) says)
    where
      either : (b : Bool) (r q : SlotReport) → SaysOpenOf item r → SaysOpenOf item q → SaysOpenOf item (if b then r else q)
      either true r q f g = f
      either false r q f g = g

      made : (z y : FastState) (now : Run) (before : SlotReport) → NamesTrack track slot item z → (known_of (listed (told_at now track).stream)).shut ≡ false → SaysOpenOf item before
          → SaysOpenOf item (slot_report (cycle_frames s) (Some z) (Some y) e.entry (known_of (listed (stream_of now z slot))) slot before)
      made z y now before named open_is f = by (carries z slot) named
        where
          by : (b : Bool) → (b ≡ true → (slot_of z slot).generation ≡ item.generation → (slot_of z slot).track ≡ track)
              → SaysOpenOf item (if b then counted_look (cycle_frames s) (slot_of z slot).generation (entry_slot e.entry slot).seen (known_of (listed (stream_of now z slot))) (if carried (Some y) slot then before else no_slot) else before)
          by true at = λ same. ap (λ (m : ℕ). (known_of (listed (told_at now m).stream)).shut) (at refl same) ∙ open_is
          by false at = f

-- ## One entry

-- what an entry leaves, in the run and in the one that the turn finds, which hasn't the state that the turn pushes but this draft
pub record MeetStep (s : Session) (track slot : ℕ) (item : FastTrack) (x d : FastState) (n : ℕ) (k : Shape) (run told : Run) : Type 0 where
  pub quiet : IsQuiet k (server_list (told_at run track).stream)
  pub same : listed (told_at told track).stream ≡ listed (told_at run track).stream
  pub count : length told.states ≡ n
  pub last : state_at (cycle_frames s) told.states n ≡ x
  pub draft : told.normal.draft ≡ d
  pub there : track < length told.tracks
  pub says : SaysOpenOf item (slot_told told slot)

module _ (s : Session) (marks : Marks) (track slot : ℕ) (item : FastTrack) (some : 0 < slot) (low : slot < slots) (is : item.track ≡ track) (x : FastState) (named : NamesTrack track slot item x) (d : FastState) (q : HasItem slot item d) (n : ℕ) (k : Shape) (cs : List ClientEvent) (all : List ServerEvent) (h : Setting k cs all) where
  -- the states of the run: this one by its number, and those after it, which have the track in its slot or nothing of it
  abbrev pub KnowsMet : Run → Type 0
  KnowsMet run = (n ≤ length run.states) × (state_at (cycle_frames s) run.states n ≡ x) × ((m : ℕ) (y : FastState) → n < m → state_of run.states m ≡ Some y → HasOrOut track slot item y)

  -- a state that has the item plays it if the entry shows its slot
  plays_shown : (y : FastState) → HasItem slot item y → (e : EntrySeen) → is_shown (entry_slot e.entry slot).seen ≡ true → slot_playing y e.entry track ≡ Some slot
  plays_shown y q e shown = slot_only y e track slot low q.carried (ap (λ (t : FastTrack). t.track) q.is ∙ is) (λ j less carried one. q.only j less carried (one ∙ sym is)) shown

  plays_not : (y : FastState) → HasItem slot item y → (e : EntrySeen) → is_shown (entry_slot e.entry slot).seen ≡ false → slot_playing y e.entry track ≡ None
  plays_not y q e hidden = slot_none y e track (λ j less carried shown at. true≢false (sym shown ∙ ap (λ (m : ℕ). is_shown (entry_slot e.entry m).seen) (q.only j less carried (at ∙ sym is)) ∙ hidden))

  -- under one state an entry leaves both servers of the track with the same list
  listed_mixed : (y : FastState) (e : EntrySeen) (t u : TrackTold) → listed t.stream ≡ listed u.stream → listed (mixed_track s y e track t).stream ≡ listed (mixed_track s y e track u).stream
  listed_mixed y e t u same = by (slot_playing y e.entry track)
    where
      with_slot : Option ℕ → TrackTold → TrackTold
      with_slot o t = elim o as (λ o. TrackTold) [ None ↦ t | Some i ↦ record t { stream = played (cycle_frames s) e i t.stream } ]

      by : (o : Option ℕ) → listed (with_slot o t).stream ≡ listed (with_slot o u).stream
      by None = same
      by (Some i) = listed_played (cycle_frames s) e i t.stream u.stream same

  same_state : (run told : Run) (e : EntrySeen) (y : FastState) → state_for s (with_poll s e.entry.state run) e.entry.state ≡ y → state_for s (with_poll s e.entry.state told) e.entry.state ≡ y → track < length run.tracks → track < length told.tracks
      → listed (told_at told track).stream ≡ listed (told_at run track).stream → listed (told_at (with_cycle s told e) track).stream ≡ listed (told_at (with_cycle s run e) track).stream
  same_state run told e y real counts there there' same =
      let mixed : FastState → TrackTold → TrackTold = λ z t. mixed_track s z e track t in
      ap (λ (t : TrackTold). listed t.stream) (cycle_track s told e track there' ∙ ap (λ (z : FastState). mixed z (told_at told track)) counts)
      ∙ listed_mixed y e (told_at told track) (told_at run track) same
      ∙ ap (λ (t : TrackTold). listed t.stream) (sym (cycle_track s run e track there ∙ ap (λ (z : FastState). mixed z (told_at run track)) real))

  -- the report is the same under the draft and under the state that the turn pushes
  same_pushed : (run told : Run) (e : EntrySeen) (y : FastState) → state_for s (with_poll s e.entry.state run) e.entry.state ≡ y → state_for s (with_poll s e.entry.state told) e.entry.state ≡ d → HasOrOut track slot item y → (IsOut slot track y → is_shown (entry_slot e.entry slot).seen ≡ false)
      → track < length run.tracks → track < length told.tracks → listed (told_at told track).stream ≡ listed (told_at run track).stream → listed (told_at (with_cycle s told e) track).stream ≡ listed (told_at (with_cycle s run e) track).stream
  same_pushed run told e y real counts state hides there there' same = by (is_shown (entry_slot e.entry slot).seen) refl state
    where
      still_run : slot_playing y e.entry track ≡ None → told_at (with_cycle s run e) track ≡ told_at run track
      still_run none = track_still s run e track there (ap (λ (z : FastState). slot_playing z e.entry track) real ∙ none)

      still_told : slot_playing d e.entry track ≡ None → told_at (with_cycle s told e) track ≡ told_at told track
      still_told none = track_still s told e track there' (ap (λ (z : FastState). slot_playing z e.entry track) counts ∙ none)

      unplayed : slot_playing d e.entry track ≡ None → slot_playing y e.entry track ≡ None → listed (told_at (with_cycle s told e) track).stream ≡ listed (told_at (with_cycle s run e) track).stream
      unplayed a b = ap (λ (t : TrackTold). listed t.stream) (still_told a) ∙ same ∙ ap (λ (t : TrackTold). listed t.stream) (sym (still_run b))

      by : (shown : Bool) → is_shown (entry_slot e.entry slot).seen ≡ shown → HasOrOut track slot item y → listed (told_at (with_cycle s told e) track).stream ≡ listed (told_at (with_cycle s run e) track).stream
      by true shown (inl r) =
          let a : (told_at (with_cycle s told e) track).stream ≡ played (cycle_frames s) e slot (told_at told track).stream =
          ap (λ (t : TrackTold). t.stream) (cycle_track s told e track there') ∙ mixed_stream s (state_for s (with_poll s e.entry.state told) e.entry.state) e track slot (told_at told track) (ap (λ (z : FastState). slot_playing z e.entry track) counts ∙ plays_shown d q e shown) in
          let b : (told_at (with_cycle s run e) track).stream ≡ played (cycle_frames s) e slot (told_at run track).stream =
          ap (λ (t : TrackTold). t.stream) (cycle_track s run e track there) ∙ mixed_stream s (state_for s (with_poll s e.entry.state run) e.entry.state) e track slot (told_at run track) (ap (λ (z : FastState). slot_playing z e.entry track) real ∙ plays_shown y r e shown) in
          ap listed a ∙ listed_played (cycle_frames s) e slot (told_at told track).stream (told_at run track).stream same ∙ ap listed (sym b)
      by true shown (inr r) = absurd (true≢false (sym shown ∙ hides r))
      by false hidden (inl r) = unplayed (plays_not d q e hidden) (plays_not y r e hidden)
      by false hidden (inr r) = unplayed (plays_not d q e hidden) (slot_none y e track (λ j less carried shown at. r.none j less carried at))

  -- the state that an entry counts as in the run that the turn finds, which leaves the server of the track as in the run
  record Counts (run told : Run) (e : EntrySeen) : Type 0 where
    state : FastState
    counts : state_for s (with_poll s e.entry.state told) e.entry.state ≡ state
    names : NamesTrack track slot item state
    server : listed (told_at (with_cycle s told e) track).stream ≡ listed (told_at (with_cycle s run e) track).stream

  counts_met : (run told : Run) (e : EntrySeen) → KnowsMet run → track < length run.tracks → LegalEntry s marks (with_poll s e.entry.state run) e → n ≤ e.entry.state → e.entry.state ≤ length run.states → MeetStep s track slot item x d n k run told → Counts run told e
  counts_met run told e knows there legal high pushed step = by (le_cases n e.entry.state high)
    where
      by : (e.entry.state ≡ n) ⊎ (n < e.entry.state) → Counts run told e
      by (inl at) =
          let real = polled_pushed s run e.entry.state pushed ∙ ap (state_at (cycle_frames s) run.states) at ∙ knows.1 in
          let counts = polled_pushed s told e.entry.state (let c = step.count in omega (arith, at, c)) ∙ ap (state_at (cycle_frames s) told.states) at ∙ step.last in
          record { state = x; counts = counts; names = named; server = same_state run told e x real counts there step.there step.same }
      by (inr above) =
          let y = state_there run.states e.entry.state (omega (arith, above)) pushed in
          let counts = polled_waits s told e.entry.state (let c = step.count in omega (arith, above, c)) ∙ step.draft in
          record {
            state = d;
            counts = counts;
            names = λ carried same. ap (λ (t : FastTrack). t.track) q.is ∙ is;
            server = same_pushed run told e y.0 (polled_known s run e.entry.state y.0 y.1) counts (knows.2 e.entry.state y.0 above y.1) (λ out. shows_nothing s marks run e slot y.0 some low legal y.1 out.free) there step.there step.same;
          }

  met_next : (run told : Run) (e : EntrySeen) → KnowsMet run → track < length run.tracks → LegalEntry s marks (with_poll s e.entry.state run) e → LiesIn k cs all h (told_at (with_cycle s run e) track).stream → n ≤ e.entry.state → e.entry.state ≤ length run.states
      → MeetStep s track slot item x d n k run told → MeetStep s track slot item x d n k (with_cycle s run e) (with_cycle s told e)
  met_next run told e knows there legal lies high pushed step =
      let next : Run = with_cycle s run e in
      let later : Run = with_cycle s told e in
      let c = counts_met run told e knows there legal high pushed step in
      let quiet : IsQuiet k (server_list (told_at next track).stream) = entries_quiet s marks track k cs all h (e ∷ []) run there (legal, tt) lies step.quiet in
      let open_is : (known_of (listed (told_at later track).stream)).shut ≡ false =
      ap (λ (l : Listed). (known_of l).shut) c.server ∙ ap is_some (ap (λ (z : Shape). (server_kept z (server_list (told_at next track).stream)).shut) lies.shape ∙ quiet.unshut) in
      record {
        quiet = quiet;
        same = c.server;
        count = ap length (cycle_states s told e) ∙ step.count;
        last = ap (λ l. state_at (cycle_frames s) l n) (cycle_states s told e) ∙ step.last;
        draft = cycle_draft s told e ∙ step.draft;
        there = (let a = cycle_long s told e in let b = step.there in omega (arith, a, b));
        says = says_next s track slot item low told e c.state c.counts c.names open_is step.says;
      }

  -- ## Some entries

  -- what some entries leave, and the reports that are found after each
  pub record MetEnd (run told : Run) (es : List EntrySeen) : Type 0 where
    pub step : MeetStep s track slot item x d n k (with_cycles s es run) (with_cycles s es told)
    pub adds : Adds told (with_cycles s es told) (λ r. SaysOpenOf item (report_at r.slots slot))

  pub met_entries : (high : ℕ) (es : List EntrySeen) (run told : Run) → KnowsMet run → track < length run.tracks → AllUse n high es → high ≤ length run.states → LegalEntries s marks run es → LiesIn k cs all h (told_at (with_cycles s es run) track).stream
      → MeetStep s track slot item x d n k run told → MetEnd run told es
  met_entries high [] run told knows there uses top legal lies step = record { step = step; adds = adds_none (λ r. SaysOpenOf item (report_at r.slots slot)) told }
  met_entries high (e ∷ es) run told knows there uses top legal lies step =
      let next : Run = with_cycle s run e in
      let later : Run = with_cycle s told e in
      let there' : track < length next.tracks = (let a = cycle_long s run e in omega (arith, a, there)) in
      let lies' = lies_earlier k cs all h (told_at next track).stream (told_at (with_cycles s es next) track).stream (cycles_later s es next track there') lies in
      let most = uses.1 in
      let now = met_next run told e knows there legal.0 lies' uses.0 (omega (arith, most, top)) step in
      let states = cycle_states s run e in
      let long = ap length states in
      let knows' : KnowsMet next = ((let a = knows.0 in omega (arith, a, long)), ap (λ l. state_at (cycle_frames s) l n) states ∙ knows.1, λ m y above at. knows.2 m y above (ap (λ l. state_of l m) (sym states) ∙ at)) in
      let rest = met_entries high es next later knows' there' uses.2 (omega (arith, long, top)) legal.1 lies now in
      record { step = rest.step; adds = adds_more s slot (SaysOpenOf item) told e es now.says rest.adds }
