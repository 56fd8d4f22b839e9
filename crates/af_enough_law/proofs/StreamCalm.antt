-- If no client flushes, the entries of a round leave a stream block's server calm and open.
use Rattle.std.proofs.Common.{◌≡◌, ℕ, zero, suc, ◌+◌, ◌-◌, ◌≤◌, ◌<◌, ◌==◌, ◌&&◌, if◌then◌else◌, Bool, true, false, true≢false, Option, Some, None, List, [], ◌∷◌, ◌++◌, length, refl, sym, ap, ◌∙◌, subst, arith, append_assoc, eqb-true, is_some}
use Rattle.af_enough_law.proofs.Common.{BlockTold, ClientEvent, Cycle, CycleEntry, EntrySeen, FastState, LegalEntries, LegalEntry, Listed, LooksBy, Marks, Run, Seen, ServerEvent, Session, Shape, SlotEntry, TrackTold, absent, both_first, both_right, both_true, carries, cycle_events, cycle_frames, cycle_of, entry_slot, find, front_of, get_or-replicate, is_mixed, is_shown, kept, listed, look_events, played, range_with_len, server_kept, server_list, slot_playing, slot_of, slots, state_for, state_known, state_of, still_entry, tally, three, told_at, with_cycle, with_cycles, with_poll}
use Rattle.af_base.specs.declared.event.ServerEvent.TheVariants as server
use Rattle.af_base.specs.declared.seen.Seen.TheVariants as seen
use Rattle.af_model.specs.Cycles.{events_behind_look}
use Rattle.af_runs.specs.Runs.{shows_slot}
use Rattle.af_enough_law.proofs.FastWords.{IsShown}
use Rattle.af_enough_law.proofs.Calm.{is_calm, are_calm}
use Rattle.af_enough_law.proofs.Fair.{calm_drops}
use Rattle.af_enough_law.proofs.FastFlows.{Later, cycles_later}
use Rattle.af_enough_law.proofs.FastShows.{Setting, slot_look}
use Rattle.af_enough_law.proofs.FastSteps.{cycle_track, played_server}
use Rattle.af_enough_law.proofs.RunTracks.{cycle_long}

-- ## Lists

pub calm_join : (xs ys : List ServerEvent) → are_calm xs ≡ true → are_calm ys ≡ true → are_calm (xs ++ ys) ≡ true
calm_join [] ys a b = b
calm_join (x ∷ xs) ys a b = both_true (is_calm x) (are_calm (xs ++ ys)) (both_first (is_calm x) (are_calm xs) a) (calm_join xs ys (both_right (is_calm x) (are_calm xs) a) b)

calm_tally : (missing : ℕ) → are_calm (tally missing) ≡ true
calm_tally missing = by (missing == 0)
  where
    by : (b : Bool) → are_calm (if b then [] else server.Tally missing ∷ server.SetFlags 1 ∷ []) ≡ true
    by true = refl
    by false = refl

calm_answer : (b : Bool) (asked flush rear front : ℕ) (answer : Seen) → IsShown answer → are_calm ((if b then [] else look_events answer flush rear front) ++ events_behind_look asked b answer) ≡ true
calm_answer b asked flush rear front seen.Absent h = absurd h
calm_answer true asked flush rear front (seen.Frames count) h = calm_tally (asked - count)
calm_answer false asked flush rear front (seen.Frames count) h = calm_tally (asked - count)
calm_answer true asked flush rear front seen.Empty h = calm_tally asked
calm_answer false asked flush rear front seen.Empty h = calm_tally asked
calm_answer b asked flush rear front (seen.Flushed dropped) h = absurd h
calm_answer b asked flush rear front (seen.Shut f r) h = absurd h

-- a cycle that shows frames, or nothing, sets no flag but UNDERRUN and drops nothing
pub calm_cycle : (asked : ℕ) (s : Listed) (slot : SlotEntry) (front : ℕ) → IsShown slot.seen → are_calm (cycle_events asked s slot front) ≡ true
calm_cycle asked s slot front shows = calm_answer (is_some (kept s).shut) asked slot.flush slot.rear front slot.seen shows

-- ## An open server

-- the server is open, and calm so far
pub record IsQuiet (k : Shape) (es : List ServerEvent) : Type 0 where
  pub calm : are_calm es ≡ true
  pub unshut : (server_kept k es).shut ≡ None

module _ (k : Shape) (cs : List ClientEvent) (all : List ServerEvent) (h : Setting k cs all) where
  -- the lists of the block lie in the history
  pub record LiesIn (b : BlockTold) : Type 0 where
    pub shape : b.shape ≡ k
    pub rest : List ServerEvent
    pub whole : all ≡ server_list b ++ rest

  pub lies_earlier : (b later : BlockTold) → Later b later → LiesIn later → LiesIn b
  lies_earlier b later f l = record { shape = sym f.shape ∙ l.shape; rest = f.events ++ l.rest; whole = l.whole ∙ ap (λ x. x ++ l.rest) f.server ∙ append_assoc (server_list b) f.events l.rest }

  -- one look leaves the server calm and open
  pub look_quiet : (asked : ℕ) (before : List ServerEvent) (slot : SlotEntry) (front : ℕ) (rest : List ServerEvent) → let s : Listed = record { shape = k; events = before } in
      LooksBy asked s slot front → all ≡ (before ++ cycle_events asked s slot (front_of asked s slot)) ++ rest → IsQuiet k before → IsQuiet k (before ++ cycle_events asked s slot (front_of asked s slot))
  look_quiet asked before slot front rest looks whole quiet =
      let s : Listed = record { shape = k; events = before } in
      let look = slot_look k cs all before h (calm_drops before quiet.calm) quiet.unshut asked slot front rest looks whole in
      record { calm = calm_join before (cycle_events asked s slot (front_of asked s slot)) quiet.calm (calm_cycle asked s slot (front_of asked s slot) look.shows); unshut = look.unshut }

-- ## The slot that plays a track

pub record FoundAt (p : ℕ → Bool) (a n k : ℕ) : Type 0 where
  pub holds : p k ≡ true
  pub low : a ≤ k
  pub high : k < a + n

number_in : Option ℕ → ℕ
number_in None = 0
number_in (Some n) = n

find_holds : (p : ℕ → Bool) (a n k : ℕ) → find p (range_with_len a n) ≡ Some k → FoundAt p a n k
unfolding number_in
find_holds p a zero k e = absurd (true≢false (sym (ap is_some e)))
find_holds p a (suc n) k e = by_first (p a) refl (find_holds p (a + 1) n k) e
  where
    by_first : (b : Bool) → p a ≡ b → (find p (range_with_len (a + 1) n) ≡ Some k → FoundAt p (a + 1) n k) → (if b then Some a else find p (range_with_len (a + 1) n)) ≡ Some k → FoundAt p a (suc n) k
    by_first true is later f = let same : a ≡ k = ap number_in f in record { holds = subst (λ (j : ℕ). p j ≡ true) same is; low = omega arith; high = omega arith }
    by_first false is later f = let more = later f in let l = more.low in let m = more.high in record { holds = more.holds; low = omega arith; high = omega arith }

-- an entry that isn't mixed shows nothing in any slot
pub still_shows : (entry : CycleEntry) (i : ℕ) → i < slots → entry ≡ still_entry entry.state entry.cycle → is_shown (entry_slot entry i).seen ≡ true → ⊥
still_shows entry i low is shown =
    let none : entry_slot entry i ≡ absent = ap (λ (e : CycleEntry). entry_slot e i) is ∙ get_or-replicate slots i absent absent low in
    true≢false (sym shown ∙ ap (λ (x : SlotEntry). is_shown x.seen) none)

pub idle_still : (cycle : Cycle) (done : ℕ) (o : Option FastState) → cycle ≡ cycle_of done o → o ≡ None → is_mixed cycle ≡ false
idle_still cycle done o is none = ap is_mixed (is ∙ ap (cycle_of done) none)

-- the look of an entry's slot at the track that it plays
pub record LooksAt (s : Session) (run : Run) (e : EntrySeen) (track i : ℕ) : Type 0 where
  pub front : ℕ
  pub looks : LooksBy (cycle_frames s) (listed (told_at run track).stream) (entry_slot e.entry i) front

slot_looks : (s : Session) (marks : Marks) (run : Run) (e : EntrySeen) (track i : ℕ) → LegalEntry s marks (with_poll s e.entry.state run) e
    → slot_playing (state_for s (with_poll s e.entry.state run) e.entry.state) e.entry track ≡ Some i → LooksAt s run e track i
unfolding with_poll
slot_looks s marks run e track i legal is =
    let now = with_poll s e.entry.state run in
    let x = state_for s now e.entry.state in
    let at = find_holds (λ j. shows_slot x e.entry j && ((slot_of x j).track == track)) 0 slots i is in
    let parts = three (carries x i) (is_shown (entry_slot e.entry i).seen) ((slot_of x i).track == track) at.holds in
    let low : i < slots = at.high in
    by_state (state_of now.states e.entry.state) refl x refl low parts.0 parts.1 (eqb-true (slot_of x i).track track parts.2)
  where
    by_mix : (b : Bool) → is_mixed e.entry.cycle ≡ b → (x : FastState) → state_of run.states e.entry.state ≡ Some x → x ≡ state_for s (with_poll s e.entry.state run) e.entry.state → i < slots → carries x i ≡ true → is_shown (entry_slot e.entry i).seen ≡ true
        → (slot_of x i).track ≡ track → LooksAt s run e track i
    by_mix true mixed x some same low carried shown at =
        let slot = (legal.cycle.mixes x some mixed).tracks i low carried in
        let found : (slot_of (state_for s (with_poll s e.entry.state run) e.entry.state) i).track ≡ track = ap (λ (y : FastState). (slot_of y i).track) (sym same) ∙ at in
        record { front = slot.front; looks = subst (λ (n : ℕ). LooksBy (cycle_frames s) (listed (told_at run n).stream) (entry_slot e.entry i) slot.front) found slot.looks }
    by_mix false mixed x some same low carried shown at = absurd (still_shows e.entry i low (legal.cycle.still mixed) shown)

    by_state : (o : Option FastState) → state_of run.states e.entry.state ≡ o → (x : FastState) → x ≡ state_for s (with_poll s e.entry.state run) e.entry.state → i < slots → carries x i ≡ true → is_shown (entry_slot e.entry i).seen ≡ true
        → (slot_of x i).track ≡ track → LooksAt s run e track i
    by_state None none x same low carried shown at = absurd (still_shows e.entry i low (legal.cycle.still (idle_still e.entry.cycle _ (state_of run.states e.entry.state) legal.cycle.what none)) shown)
    by_state (Some y) some x same low carried shown at =
        let now = with_poll s e.entry.state run in
        let is_y : x ≡ y = same ∙ state_known s now e.entry.state y some in
        by_mix (is_mixed e.entry.cycle) refl x (some ∙ ap Some (sym is_y)) same low carried shown at

-- ## Some entries

module _ (s : Session) (marks : Marks) (track : ℕ) (k : Shape) (cs : List ClientEvent) (all : List ServerEvent) (h : Setting k cs all) where
  entry_quiet : (run : Run) (e : EntrySeen) → track < length run.tracks → LegalEntry s marks (with_poll s e.entry.state run) e → LiesIn k cs all h (told_at (with_cycle s run e) track).stream
      → IsQuiet k (server_list (told_at run track).stream) → IsQuiet k (server_list (told_at (with_cycle s run e) track).stream)
  entry_quiet run e there legal lies quiet = by_slot (slot_playing (state_for s (with_poll s e.entry.state run) e.entry.state) e.entry track) refl
    where
      with_slot : Option ℕ → TrackTold
      with_slot o = elim o as (λ o. TrackTold) [ None ↦ told_at run track | Some i ↦ record (told_at run track) { stream = played (cycle_frames s) e i (told_at run track).stream } ]

      by_slot : (o : Option ℕ) → slot_playing (state_for s (with_poll s e.entry.state run) e.entry.state) e.entry track ≡ o → IsQuiet k (server_list (told_at (with_cycle s run e) track).stream)
      by_slot None none = subst (λ (t : TrackTold). IsQuiet k (server_list t.stream)) (sym (cycle_track s run e track there ∙ ap with_slot none)) quiet
      by_slot (Some i) some =
          let b : BlockTold = (told_at run track).stream in
          let at = slot_looks s marks run e track i legal some in
          let is : (told_at (with_cycle s run e) track).stream ≡ played (cycle_frames s) e i b = ap (λ (t : TrackTold). t.stream) (cycle_track s run e track there ∙ ap with_slot some) in
          let shape : b.shape ≡ k = sym (ap (λ (x : BlockTold). x.shape) is) ∙ lies.shape in
          let f : Listed = record { shape = k; events = server_list b } in
          let same : listed b ≡ f = λ j. record { shape = shape j; events = server_list b } in
          let events : List ServerEvent = cycle_events (cycle_frames s) f (entry_slot e.entry i) (front_of (cycle_frames s) f (entry_slot e.entry i)) in
          let list : server_list (told_at (with_cycle s run e) track).stream ≡ server_list b ++ events =
          ap server_list is ∙ played_server (cycle_frames s) e i b ∙ ap (λ (x : Listed). server_list b ++ cycle_events (cycle_frames s) x (entry_slot e.entry i) (front_of (cycle_frames s) x (entry_slot e.entry i))) same in
          let looks : LooksBy (cycle_frames s) f (entry_slot e.entry i) at.front = subst (λ (x : Listed). LooksBy (cycle_frames s) x (entry_slot e.entry i) at.front) same at.looks in
          subst (IsQuiet k) (sym list) (look_quiet k cs all h (cycle_frames s) (server_list b) (entry_slot e.entry i) at.front lies.rest looks (lies.whole ∙ ap (λ l. l ++ lies.rest) list) quiet)

  -- entries leave the server calm and open
  pub entries_quiet : (es : List EntrySeen) (run : Run) → track < length run.tracks → LegalEntries s marks run es → LiesIn k cs all h (told_at (with_cycles s es run) track).stream
      → IsQuiet k (server_list (told_at run track).stream) → IsQuiet k (server_list (told_at (with_cycles s es run) track).stream)
  entries_quiet [] run there legal lies quiet = quiet
  entries_quiet (e ∷ es) run there legal lies quiet =
      let next = with_cycle s run e in
      let there' : track < length next.tracks = (let a = cycle_long s run e in omega (arith, a, there)) in
      let early = lies_earlier k cs all h (told_at next track).stream (told_at (with_cycles s es next) track).stream (cycles_later s es next track there') lies in
      entries_quiet es next there' legal.1 lies (entry_quiet run e there legal.0 early quiet)
