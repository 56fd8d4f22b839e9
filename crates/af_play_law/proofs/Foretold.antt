-- What the entries of a state that a turn pushes tell of a track whose proxy is away: the same by the draft before the turn as by that state itself.
use Rattle.std.proofs.Common.{◌≡◌, ◌⊎◌, inl, inr, ℕ, zero, suc, ◌+◌, ◌-◌, ◌<◌, ◌≤◌, ◌==◌, ◌&&◌, ◌||◌, if◌then◌else◌, fold, is_some, map, Bool, true, false, Option, None, Some, List, [], ◌∷◌, ◌++◌, length, length-append, refl, sym, ap, ◌∙◌, arith}
use Rattle.af_play_law.proofs.Common.{CycleEntry, EntrySeen, FastState, FirstLate, LegalEntries, LegalEntry, Marks, NormalKept, Report, Run, Seen, ServerKnown, Session, TrackTold, carried_some, carries, cases_lt, cold_done, counted_look, cycle_entries, cycle_frames, cycle_of, entry_slot, is_mixed, known_of, last_report, last_used, last_used-push, listed, map-append, mixed_track, next_report, next_slot, no, no_report, no_slot, played, report_at, report_of, shown_carried, shown_if, slice_index_or, slot_playing, slot_of, slots, state_at, state_for, state_of, stream_of, told_at, told_each, unwrap_or, with_cycle, with_cycles, with_looks, with_mix, with_poll}
use Rattle.std.proofs.lemmas.List.FromFn.{get_or-map-range_with_len}
use Rattle.af_base.specs.declared.report.SlotReport.{SlotReport}
use Rattle.af_base.specs.declared.state.FastTrack.{FastTrack}
use Rattle.af_model.proofs.Basics.{same_before, state_next}
use Rattle.af_model.specs.Draft.{initial}
use Rattle.af_runs.specs.Fronts.{is_shown}
use Rattle.af_runs.proofs.StatesFor.{polled_known, polled_waits, state_beyond, state_pushed, state_waits}
use Rattle.af_judge.proofs.EntryTold.{cycle_beside}
use Rattle.af_audit.proofs.Late.{PlaysAt, listed_played, played_listed, plays_at, plays_none}
use Rattle.af_play_law.proofs.Words.{SlotStaysAway}

-- ## Lists of reports

-- what a report tells of a slot
abbrev pub at_slot : ℕ → Report → SlotReport
at_slot slot report = report_at report.slots slot

last_map : {A : Type 0} (f : Report → A) (first : Report) (xs : List Report) → f (fold (λ (last next : Report). next) first xs) ≡ fold (λ (last next : A). next) (f first) (map f xs)
last_map f first [] = refl
last_map f first (x ∷ xs) = last_map f x xs

index_map : {A : Type 0} (f : Report → A) (xs : List Report) (n : ℕ) (d : Report) → f (slice_index_or xs n d) ≡ slice_index_or (map f xs) n (f d)
index_map f [] n d = refl
index_map f (x ∷ xs) zero d = refl
index_map f (x ∷ xs) (suc n) d = index_map f xs n d

either_map : {A : Type 0} (f : Report → A) (b : Bool) (x y : Report) → f (if b then x else y) ≡ (if b then f x else f y)
either_map f true x y = refl
either_map f false x y = refl

-- the reports of a number tell the same if all reports do
pub same_report : {A : Type 0} (f : Report → A) (xs ys : List Report) (n : ℕ) → map f xs ≡ map f ys → f (report_of xs n) ≡ f (report_of ys n)
same_report {A} f xs ys n same = told xs ∙ (λ j. by (same j)) ∙ sym (told ys)
  where
    by : List A → A
    by vs = if n == 0 then f no_report else slice_index_or vs (n - 1) (fold (λ (last next : A). next) (f no_report) vs)

    told : (zs : List Report) → f (report_of zs n) ≡ by (map f zs)
    told zs = either_map f (n == 0) no_report (slice_index_or zs (n - 1) (last_report zs))
        ∙ ap (λ (v : A). if n == 0 then f no_report else v) (index_map f zs (n - 1) (last_report zs) ∙ ap (slice_index_or (map f zs) (n - 1)) (last_map f no_report zs))

-- ## The numbers of the reports

number_next : (s : Session) (run : Run) (e : EntrySeen) → map (λ (r : Report). r.cycle) (with_cycle s run e).reports ≡ map (λ (r : Report). r.cycle) run.reports ++ (length run.entries + 1) ∷ []
unfolding with_mix with_poll
number_next s run e = map-append (λ (r : Report). r.cycle) run.reports (next_report s (with_looks s e (with_poll s e.entry.state run)) e.entry ∷ [])

pub numbers_same : (s : Session) (es : List EntrySeen) (p q : Run) → p.entries ≡ q.entries → map (λ (r : Report). r.cycle) p.reports ≡ map (λ (r : Report). r.cycle) q.reports
    → map (λ (r : Report). r.cycle) (with_cycles s es p).reports ≡ map (λ (r : Report). r.cycle) (with_cycles s es q).reports
numbers_same s [] p q entries same = same
numbers_same s (e ∷ es) p q entries same = numbers_same s es (with_cycle s p e) (with_cycle s q e)
    (cycle_entries s p e ∙ ap (λ (l : List CycleEntry). l ++ e.entry ∷ []) entries ∙ sym (cycle_entries s q e))
    (number_next s p e ∙ (λ j. same j ++ (length (entries j) + 1) ∷ []) ∙ sym (number_next s q e))

-- ## One slot of a report

either_none : (b d : Bool) (r : SlotReport) → r ≡ no_slot → (if b then r else no_slot) ≡ (if d then r else no_slot)
either_none true true r none = refl
either_none true false r none = none
either_none false true r none = sym none
either_none false false r none = refl

-- what is told of a slot of a state, which may not be known yet
abbrev slot_by : ℕ → Bool → Bool → Seen → ℕ → ServerKnown → Bool → SlotReport → SlotReport
slot_by asked pushed carried sight generation known since r =
    if pushed || (carried && is_shown sight) then (if carried then counted_look asked generation sight known (if since then r else no_slot) else r) else r

module _ (s : Session) (e : EntrySeen) (slot : ℕ) (low : slot < slots) where
  abbrev sight : Seen
  sight = (entry_slot e.entry slot).seen

  module _ (run : Run) where
    -- the run after the poll and the looks
    abbrev looked : Run
    looked = with_looks s e (with_poll s e.entry.state run)

    abbrev state : FastState
    state = state_for s (with_poll s e.entry.state run) e.entry.state

    abbrev before : FastState
    before = state_for s (with_poll s e.entry.state run) (last_used run.entries)

    reports_next : (with_cycle s run e).reports ≡ run.reports ++ next_report s (with_looks s e (with_poll s e.entry.state run)) e.entry ∷ []
    unfolding with_mix with_poll
    reports_next = refl

    slot_next : at_slot slot (next_report s (with_looks s e (with_poll s e.entry.state run)) e.entry)
        ≡ slot_by (cycle_frames s) (is_some (state_of run.states e.entry.state)) (carries (state_for s (with_poll s e.entry.state run) e.entry.state) slot) (entry_slot e.entry slot).seen (slot_of (state_for s (with_poll s e.entry.state run) e.entry.state) slot).generation
        (known_of (listed (stream_of (with_looks s e (with_poll s e.entry.state run)) (state_for s (with_poll s e.entry.state run) e.entry.state) slot))) (carries (state_for s (with_poll s e.entry.state run) (last_used run.entries)) slot) (at_slot slot (last_report run.reports))
    unfolding with_poll
    slot_next = get_or-map-range_with_len (next_slot s (with_looks s e (with_poll s e.entry.state run)) e.entry (last_report run.reports).slots) 0 slots slot slot no_slot low (let z : 0 + slot ≡ slot = omega arith in z)

    track_next : (i : ℕ) → told_at (with_cycle s run e) i ≡ told_at (with_looks s e (with_poll s e.entry.state run)) i
    unfolding with_mix
    track_next i = refl

    track_mixed : (i : ℕ) → i < length run.tracks → told_at (with_cycle s run e) i ≡ mixed_track s (state_for s (with_poll s e.entry.state run) e.entry.state) e i (told_at run i)
    unfolding with_mix with_poll
    track_mixed i there = told_each (mixed_track s (state_for s (with_poll s e.entry.state run) e.entry.state) e) (with_poll s e.entry.state run) i there

-- ## Two runs, of which the second has the state

-- two runs tell the same of the stream of the track i, and of its slot by each report
pub record Alike (xs : List FastState) (x y : FastState) (i slot : ℕ) (p q : Run) : Type 0 where
  pub there : i < length p.tracks
  pub also : i < length q.tracks
  pub states : p.states ≡ xs
  pub states_also : q.states ≡ xs ++ y ∷ []
  pub draft : p.normal.draft ≡ x
  pub server : listed (told_at p i).stream ≡ listed (told_at q i).stream
  pub entries : p.entries ≡ q.entries
  pub reports : map (at_slot slot) p.reports ≡ map (at_slot slot) q.reports
  pub fresh : last_used p.entries ≡ 0 → at_slot slot (last_report p.reports) ≡ no_slot

module _ (s : Session) (marks : Marks) (xs : List FastState) (x y : FastState) (i slot : ℕ) (stays : SlotStaysAway x y i slot) where
  poll_states : (run : Run) (n : ℕ) → (with_poll s n run).states ≡ run.states
  unfolding with_poll
  poll_states run n = refl

  poll_draft : (run : Run) (n : ℕ) → (with_poll s n run).normal.draft ≡ run.normal.draft
  unfolding with_poll
  poll_draft run n = refl

  poll_entries : (run : Run) (n : ℕ) → (with_poll s n run).entries ≡ run.entries
  unfolding with_poll
  poll_entries run n = refl

  module _ (e : EntrySeen) (p q : Run) (h : Alike xs x y i slot p q) (number : e.entry.state ≡ length xs + 1) (legal : LegalEntry s marks (with_poll s e.entry.state q) e) where
    newest : state_of q.states e.entry.state ≡ Some y
    newest = (λ j. state_of (h.states_also j) (number j)) ∙ state_next xs y

    far : length p.states < e.entry.state
    far = (let l = ap (λ (zs : List FastState). length zs) h.states in omega (arith, l, number))

    first_state : state_for s (with_poll s e.entry.state p) e.entry.state ≡ x
    first_state = polled_waits s p e.entry.state far ∙ h.draft

    second_state : state_for s (with_poll s e.entry.state q) e.entry.state ≡ y
    second_state = polled_known s q e.entry.state y newest

    shows : (j : ℕ) → j < slots → 0 < j → is_shown (entry_slot e.entry j).seen ≡ true → carries y j ≡ true
    shows = shown_carried s marks q e y legal newest

    -- ### The server

    also_plays : (j : ℕ) → PlaysAt x e i j → PlaysAt y e i j
    also_plays j a =
        let on = shows j a.low (carried_some x j a.carried) a.shown in
        record { low = a.low; carried = on; shown = a.shown; track = ap (λ (t : FastTrack). t.track) (stays.same j a.low on a.carried) ∙ a.track }

    plays_before : (j : ℕ) → PlaysAt y e i j → PlaysAt x e i j
    plays_before j b =
        let is : j ≡ slot = stays.only j b.low b.carried b.track in
        record {
          low = b.low;
          carried = ap (carries x) is ∙ stays.before (ap (carries y) (sym is) ∙ b.carried);
          shown = b.shown;
          track = ap (λ (n : ℕ). (slot_of x n).track) is ∙ stays.track;
        }

    same_slot : slot_playing x e.entry i ≡ slot_playing y e.entry i
    same_slot = by (slot_playing x e.entry i) (slot_playing y e.entry i) refl refl
      where
        by : (o r : Option ℕ) → slot_playing x e.entry i ≡ o → slot_playing y e.entry i ≡ r → o ≡ r
        by None None f g = refl
        by None (Some j) f g = absurd (plays_none x e i j f (plays_before j (plays_at y e i j g)))
        by (Some j) None f g = absurd (plays_none y e i j g (also_plays j (plays_at x e i j f)))
        by (Some j) (Some n) f g =
            let a = also_plays j (plays_at x e i j f) in
            let b = plays_at y e i n g in
            ap (λ (z : ℕ). Some z) (stays.only j a.low a.carried a.track ∙ sym (stays.only n b.low b.carried b.track))

    abbrev mixed_by : Option ℕ → TrackTold → TrackTold
    mixed_by o t = elim o as (λ o. TrackTold) [ None ↦ t | Some n ↦ record t { stream = played (cycle_frames s) e n t.stream } ]

    server_by : (o : Option ℕ) (t u : TrackTold) → listed t.stream ≡ listed u.stream → listed (mixed_by o t).stream ≡ listed (mixed_by o u).stream
    server_by None t u same = same
    server_by (Some n) t u same = listed_played (cycle_frames s) e n t.stream ∙ ap (played_listed (cycle_frames s) e n) same ∙ sym (listed_played (cycle_frames s) e n u.stream)

    server_next : listed (told_at (with_cycle s p e) i).stream ≡ listed (told_at (with_cycle s q e) i).stream
    server_next =
        ap (λ (t : TrackTold). listed t.stream) (track_mixed s e slot stays.low.1 p i h.there ∙ ap (λ (z : FastState). mixed_track s z e i (told_at p i)) first_state)
        ∙ ap (λ (o : Option ℕ). listed (mixed_by o (told_at p i)).stream) same_slot
        ∙ server_by (slot_playing y e.entry i) (told_at p i) (told_at q i) h.server
        ∙ ap (λ (t : TrackTold). listed t.stream) (sym (track_mixed s e slot stays.low.1 q i h.also ∙ ap (λ (z : FastState). mixed_track s z e i (told_at q i)) second_state))

    -- ### The report

    abbrev first_looked : Run
    first_looked = with_looks s e (with_poll s e.entry.state p)

    abbrev second_looked : Run
    second_looked = with_looks s e (with_poll s e.entry.state q)

    abbrev was : SlotReport
    was = at_slot slot (last_report p.reports)

    abbrev was_also : SlotReport
    was_also = at_slot slot (last_report q.reports)

    was_same : at_slot slot (last_report p.reports) ≡ at_slot slot (last_report q.reports)
    was_same = last_map (at_slot slot) no_report p.reports ∙ (λ j. fold (λ (last next : SlotReport). next) (at_slot slot no_report) (h.reports j)) ∙ sym (last_map (at_slot slot) no_report q.reports)

    abbrev first_before : FastState
    first_before = state_for s (with_poll s e.entry.state p) (last_used p.entries)

    abbrev second_before : FastState
    second_before = state_for s (with_poll s e.entry.state q) (last_used q.entries)

    -- the counts go on from the same ones, if the state carries the slot
    since_same : carries y slot ≡ true → (if carries first_before slot then was else no_slot) ≡ (if carries second_before slot then was else no_slot)
    since_same on = by (last_used p.entries) refl
      where
        used : last_used q.entries ≡ last_used p.entries
        used = ap last_used (sym h.entries)

        few : last_used p.entries ≤ e.entry.state
        few = (let f = legal.cycle.follows.0 in let a = ap last_used (poll_entries q e.entry.state) in omega (arith, f, a, used))

        by_carried : carries first_before slot ≡ carries second_before slot → (if carries first_before slot then was else no_slot) ≡ (if carries second_before slot then was else no_slot)
        by_carried is = ap (λ (b : Bool). if b then was else no_slot) is

        some : (n : ℕ) → last_used p.entries ≡ n → 1 ≤ n → (n < length xs + 1) ⊎ (length xs + 1 ≤ n) → carries first_before slot ≡ carries second_before slot
        some n is one (inl within) =
            let few_first = ap (λ (zs : List FastState). length zs) (poll_states p e.entry.state ∙ h.states) in
            let few_second = ap (λ (zs : List FastState). length zs) (poll_states q e.entry.state ∙ h.states_also) in
            let long = length-append xs (y ∷ []) in
            let first : first_before ≡ state_at (cycle_frames s) xs n =
            ap (state_for s (with_poll s e.entry.state p)) is ∙ state_pushed s (with_poll s e.entry.state p) n one (omega (arith, few_first, within)) ∙ ap (λ (zs : List FastState). state_at (cycle_frames s) zs n) (poll_states p e.entry.state ∙ h.states) in
            let second : second_before ≡ state_at (cycle_frames s) (xs ++ y ∷ []) n =
            ap (state_for s (with_poll s e.entry.state q)) (used ∙ is) ∙ state_pushed s (with_poll s e.entry.state q) n one (omega (arith, few_second, long, within)) ∙ ap (λ (zs : List FastState). state_at (cycle_frames s) zs n) (poll_states q e.entry.state ∙ h.states_also) in
            let same : state_at (cycle_frames s) (xs ++ y ∷ []) n ≡ state_at (cycle_frames s) xs n = ap (λ (o : Option FastState). unwrap_or o (initial (cycle_frames s))) (same_before xs y n (omega (arith, within))) in
            ap (λ (z : FastState). carries z slot) (first ∙ sym same ∙ sym second)
        some n is one (inr beyond) =
            let at : n ≡ e.entry.state = omega (arith, few, is, beyond, number) in
            let far_first = ap (λ (zs : List FastState). length zs) (poll_states p e.entry.state ∙ h.states) in
            let first : first_before ≡ x = ap (state_for s (with_poll s e.entry.state p)) is ∙ state_waits s (with_poll s e.entry.state p) n (omega (arith, far_first, beyond)) ∙ poll_draft p e.entry.state ∙ h.draft in
            let second : second_before ≡ y = ap (state_for s (with_poll s e.entry.state q)) (used ∙ is ∙ at) ∙ second_state in
            ap (λ (z : FastState). carries z slot) first ∙ stays.before on ∙ sym (ap (λ (z : FastState). carries z slot) second ∙ on)

        by : (n : ℕ) → last_used p.entries ≡ n → (if carries first_before slot then was else no_slot) ≡ (if carries second_before slot then was else no_slot)
        by zero is = either_none (carries first_before slot) (carries second_before slot) was (h.fresh is)
        by (suc n) is = by_carried (some (suc n) is (omega arith) (cases_lt (suc n) (length xs + 1)))

    none_pushed : is_some (state_of p.states e.entry.state) ≡ false
    none_pushed = ap is_some (state_beyond p.states e.entry.state far)

    now_pushed : is_some (state_of q.states e.entry.state) ≡ true
    now_pushed = ap is_some newest

    abbrev known_first : ServerKnown
    known_first = known_of (listed (stream_of first_looked (state_for s (with_poll s e.entry.state p) e.entry.state) slot))

    abbrev known_second : ServerKnown
    known_second = known_of (listed (stream_of second_looked (state_for s (with_poll s e.entry.state q) e.entry.state) slot))

    known_same : carries y slot ≡ true → known_first ≡ known_second
    known_same on =
        let track_y : (slot_of y slot).track ≡ i = ap (λ (t : FastTrack). t.track) (stays.same slot stays.low.1 on (stays.before on)) ∙ stays.track in
        ap (λ (z : FastState). known_of (listed (told_at first_looked (slot_of z slot).track).stream)) first_state
        ∙ ap (λ (n : ℕ). known_of (listed (told_at first_looked n).stream)) stays.track
        ∙ ap (λ (t : TrackTold). known_of (listed t.stream)) (sym (track_next s e slot stays.low.1 p i))
        ∙ ap known_of server_next
        ∙ ap (λ (t : TrackTold). known_of (listed t.stream)) (track_next s e slot stays.low.1 q i)
        ∙ ap (λ (n : ℕ). known_of (listed (told_at second_looked n).stream)) (sym track_y)
        ∙ ap (λ (z : FastState). known_of (listed (told_at second_looked (slot_of z slot).track).stream)) (sym second_state)

    -- a mix shows each slot that its state carries
    shown_there : carries y slot ≡ true → is_shown (entry_slot e.entry slot).seen ≡ true
    shown_there on =
        let what : e.entry.cycle ≡ cycle_of (cold_done (with_poll s e.entry.state q).states (with_poll s e.entry.state q).entries) (Some y) =
        legal.cycle.what ∙ (λ j. cycle_of (cold_done (with_poll s e.entry.state q).states (with_poll s e.entry.state q).entries) (there j)) in
        let mixed : is_mixed e.entry.cycle ≡ true = ap is_mixed (what ∙ stays.mixes on (cold_done (with_poll s e.entry.state q).states (with_poll s e.entry.state q).entries) y.cold_gen) in
        shown_if (entry_slot e.entry slot).seen ((legal.cycle.mixes y there mixed).tracks slot stays.low.1 on).looks.0
      where
        there : state_of (with_poll s e.entry.state q).states e.entry.state ≡ Some y
        there = ap (λ (zs : List FastState). state_of zs e.entry.state) (poll_states q e.entry.state) ∙ newest

    abbrev asked : ℕ
    asked = cycle_frames s

    abbrev seen_here : Seen
    seen_here = (entry_slot e.entry slot).seen

    abbrev First : SlotReport
    First = slot_by asked (is_some (state_of p.states e.entry.state)) (carries (state_for s (with_poll s e.entry.state p) e.entry.state) slot) seen_here (slot_of (state_for s (with_poll s e.entry.state p) e.entry.state) slot).generation known_first (carries first_before slot) was

    abbrev Second : SlotReport
    Second = slot_by asked (is_some (state_of q.states e.entry.state)) (carries (state_for s (with_poll s e.entry.state q) e.entry.state) slot) seen_here (slot_of (state_for s (with_poll s e.entry.state q) e.entry.state) slot).generation known_second (carries second_before slot) was_also

    slot_same : at_slot slot (next_report s first_looked e.entry) ≡ at_slot slot (next_report s second_looked e.entry)
    slot_same = slot_next s e slot stays.low.1 p ∙ by (carries y slot) refl ∙ sym (slot_next s e slot stays.low.1 q)
      where
        hidden : (b : Bool) → is_shown seen_here ≡ b → carries y slot ≡ false → b ≡ false
        hidden true shown off = no (sym off ∙ shows slot stays.low.1 stays.low.0 shown)
        hidden false shown off = refl

        and_off : (b : Bool) → (b && false) ≡ false
        and_off true = refl
        and_off false = refl

        by : (b : Bool) → carries y slot ≡ b → First ≡ Second
        by true on =
            let first_on : carries (state_for s (with_poll s e.entry.state p) e.entry.state) slot ≡ true = ap (λ (z : FastState). carries z slot) first_state ∙ stays.before on in
            let second_on : carries (state_for s (with_poll s e.entry.state q) e.entry.state) slot ≡ true = ap (λ (z : FastState). carries z slot) second_state ∙ on in
            let made : ℕ = (slot_of (state_for s (with_poll s e.entry.state p) e.entry.state) slot).generation in
            let made_also : ℕ = (slot_of (state_for s (with_poll s e.entry.state q) e.entry.state) slot).generation in
            let generation : made ≡ made_also =
            ap (λ (z : FastState). (slot_of z slot).generation) first_state ∙ ap (λ (t : FastTrack). t.generation) (sym (stays.same slot stays.low.1 on (stays.before on))) ∙ ap (λ (z : FastState). (slot_of z slot).generation) (sym second_state) in
            let since : (if carries first_before slot then was else no_slot) ≡ (if carries second_before slot then was_also else no_slot) = since_same on ∙ ap (λ (r : SlotReport). if carries second_before slot then r else no_slot) was_same in
            (λ j. slot_by asked (none_pushed j) (first_on j) seen_here made known_first (carries first_before slot) was)
            ∙ ap (λ (b : Bool). if b then counted_look asked made seen_here known_first (if carries first_before slot then was else no_slot) else was) (shown_there on)
            ∙ (λ j. counted_look asked (generation j) seen_here (known_same on j) (since j))
            ∙ sym (λ j. slot_by asked (now_pushed j) (second_on j) seen_here made_also known_second (carries second_before slot) was_also)
        by false off =
            let first_on : Bool = carries (state_for s (with_poll s e.entry.state p) e.entry.state) slot in
            let second_off : carries (state_for s (with_poll s e.entry.state q) e.entry.state) slot ≡ false = ap (λ (z : FastState). carries z slot) second_state ∙ off in
            let hides : is_shown seen_here ≡ false = hidden (is_shown seen_here) refl off in
            let made : ℕ = (slot_of (state_for s (with_poll s e.entry.state p) e.entry.state) slot).generation in
            let made_also : ℕ = (slot_of (state_for s (with_poll s e.entry.state q) e.entry.state) slot).generation in
            let counted : SlotReport = (if first_on then counted_look asked made seen_here known_first (if carries first_before slot then was else no_slot) else was) in
            (λ j. if none_pushed j || (first_on && hides j) then counted else was)
            ∙ ap (λ (b : Bool). if b then counted else was) (and_off first_on)
            ∙ was_same
            ∙ sym (λ j. slot_by asked (now_pushed j) (second_off j) seen_here made_also known_second (carries second_before slot) was_also)

    reports_same : map (at_slot slot) (with_cycle s p e).reports ≡ map (at_slot slot) (with_cycle s q e).reports
    reports_same =
        ap (map (at_slot slot)) (reports_next s e slot stays.low.1 p)
        ∙ map-append (at_slot slot) p.reports (next_report s first_looked e.entry ∷ [])
        ∙ (λ j. h.reports j ++ slot_same j ∷ [])
        ∙ sym (map-append (at_slot slot) q.reports (next_report s second_looked e.entry ∷ []))
        ∙ sym (ap (map (at_slot slot)) (reports_next s e slot stays.low.1 q))

    pub alike_next : Alike xs x y i slot (with_cycle s p e) (with_cycle s q e)
    alike_next =
        let first = cycle_beside s p e in
        let second = cycle_beside s q e in
        record {
          there = (let m = first.many in let t = h.there in omega (arith, m, t));
          also = (let m = second.many in let t = h.also in omega (arith, m, t));
          states = first.states ∙ h.states;
          states_also = second.states ∙ h.states_also;
          draft = ap (λ (m : NormalKept). m.draft) first.normal ∙ h.draft;
          server = server_next;
          entries = cycle_entries s p e ∙ ap (λ (l : List CycleEntry). l ++ e.entry ∷ []) h.entries ∙ sym (cycle_entries s q e);
          reports = reports_same;
          fresh = (λ none. let used = ap last_used (cycle_entries s p e) in let last = last_used-push p.entries e.entry in absurd (omega (arith, none, used, last, number)));
        }

  -- all entries keep the two runs alike
  pub alike_on : (es : List EntrySeen) (p q : Run) → FirstLate (length xs) es → LegalEntries s marks q es → Alike xs x y i slot p q → Alike xs x y i slot (with_cycles s es p) (with_cycles s es q)
  alike_on [] p q first legal h = h
  alike_on (e ∷ es) p q first legal h =
      let number : e.entry.state ≡ length xs + 1 = number_of q e h.states_also legal.0 first in
      alike_on es (with_cycle s p e) (with_cycle s q e) (next_late q e es first legal.1) legal.1 (alike_next e p q h number legal.0)
    where
      number_of : (run : Run) (e : EntrySeen) → run.states ≡ xs ++ y ∷ [] → LegalEntry s marks (with_poll s e.entry.state run) e → length xs < e.entry.state → e.entry.state ≡ length xs + 1
      number_of run e is legal first = (let low = legal.cycle.pushed in let many = ap (λ (zs : List FastState). length zs) (poll_states run e.entry.state ∙ is) in let long = length-append xs (y ∷ []) in omega (arith, low, many, long, first))

      next_late : (run : Run) (e : EntrySeen) (es : List EntrySeen) → length xs < e.entry.state → LegalEntries s marks (with_cycle s run e) es → FirstLate (length xs) es
      next_late run e [] first legal = tt
      next_late run e (next ∷ es) first legal =
          let rises = legal.0.cycle.follows.0 in
          let used : last_used (with_poll s next.entry.state (with_cycle s run e)).entries ≡ e.entry.state = ap last_used (poll_entries (with_cycle s run e) next.entry.state ∙ cycle_entries s run e) ∙ last_used-push run.entries e.entry in
          omega (arith, rises, used, first)
