-- What a round takes of a track that its states carry in a slot.
use Rattle.std.proofs.Common.{◌≡◌, ◌⊎◌, inl, inr, ℕ, ◌+◌, ◌≤◌, ◌<◌, true, Option, Some, None, List, [], ◌∷◌, ◌++◌, length, take, refl, sym, ap, ◌∙◌, subst, arith, append_assoc, append-nil}
use Rattle.af_enough_law.proofs.Common.{BlockTold, ClientEvent, EntrySeen, FastState, FastTrack, LegalEntries, LegalEntry, Listed, LooksBy, Marks, Run, ServerEvent, Session, Shape, TrackTold, client_list, count_seen, cycle_events, cycle_frames, drops_none, entry_slot, front_of, kept, listed, mixed_track, played, server_kept, server_list, shown_if, slot_playing, slot_of, slots, state_for, state_known, told_at, with_cycle, with_cycles, with_poll}
use Rattle.af_base.specs.declared.event.ServerEvent.TheVariants as server
use Rattle.af_enough_law.specs.Seen.{Stands, frames_put, frames_taken}
use Rattle.af_enough_law.proofs.FastWords.{AllUse, AllStates, Plays, taken_in, asked_in, IsShown, AllShown}
use Rattle.af_enough_law.proofs.FastMixes.{Uses, uses_of, entry_mixed}
use Rattle.af_enough_law.proofs.FastShows.{Setting, Look, slot_look, stands-more}
use Rattle.af_enough_law.proofs.FastSteps.{slot_only, cycle_states, cycle_track, mixed_stream, played_server, played_client}
use Rattle.af_enough_law.proofs.RunTracks.{cycle_long}

-- ## What an entry adds to blocks

-- a block with more in its lists
pub record Later (b later : BlockTold) : Type 0 where
  pub shape : later.shape ≡ b.shape
  pub calls : List ClientEvent
  pub client : client_list later ≡ client_list b ++ calls
  pub events : List ServerEvent
  pub server : server_list later ≡ server_list b ++ events

pub later_same : (b later : BlockTold) → later ≡ b → Later b later
later_same b later same = record { shape = ap (λ (x : BlockTold). x.shape) same; calls = []; client = ap client_list same ∙ sym (append-nil (client_list b)); events = []; server = ap server_list same ∙ sym (append-nil (server_list b)) }

pub later_both : (a b c : BlockTold) → Later a b → Later b c → Later a c
later_both a b c f g = record {
  shape = g.shape ∙ f.shape;
  calls = f.calls ++ g.calls;
  client = g.client ∙ ap (λ l. l ++ g.calls) f.client ∙ append_assoc (client_list a) f.calls g.calls;
  events = f.events ++ g.events;
  server = g.server ∙ ap (λ l. l ++ g.events) f.server ∙ append_assoc (server_list a) f.events g.events;
}

played_later : (asked : ℕ) (e : EntrySeen) (i : ℕ) (b : BlockTold) → Later b (played asked e i b)
played_later asked e i b = record {
  shape = refl;
  calls = [];
  client = played_client asked e i b ∙ sym (append-nil (client_list b));
  events = cycle_events asked (listed b) (entry_slot e.entry i) (front_of asked (listed b) (entry_slot e.entry i));
  server = played_server asked e i b;
}

mixed_later : (s : Session) (x : FastState) (e : EntrySeen) (track : ℕ) (t : TrackTold) → Later t.stream (mixed_track s x e track t).stream
mixed_later s x e track t = by (slot_playing x e.entry track)
  where
    by : (o : Option ℕ) → Later t.stream (elim o as (λ o. TrackTold) [ None ↦ t | Some i ↦ record t { stream = played (cycle_frames s) e i t.stream } ]).stream
    by None = later_same t.stream t.stream refl
    by (Some i) = played_later (cycle_frames s) e i t.stream

pub cycle_later : (s : Session) (run : Run) (e : EntrySeen) (track : ℕ) → track < length run.tracks → Later (told_at run track).stream (told_at (with_cycle s run e) track).stream
cycle_later s run e track low =
    subst (λ (t : TrackTold). Later (told_at run track).stream t.stream) (sym (cycle_track s run e track low))
    (mixed_later s (state_for s (with_poll s e.entry.state run) e.entry.state) e track (told_at run track))

pub cycles_later : (s : Session) (es : List EntrySeen) (run : Run) (track : ℕ) → track < length run.tracks → Later (told_at run track).stream (told_at (with_cycles s es run) track).stream
cycles_later s [] run track low = later_same (told_at run track).stream (told_at run track).stream refl
cycles_later s (e ∷ es) run track low =
    later_both (told_at run track).stream (told_at (with_cycle s run e) track).stream (told_at (with_cycles s es (with_cycle s run e)) track).stream
    (cycle_later s run e track low) (cycles_later s es (with_cycle s run e) track (let a = cycle_long s run e in omega (arith, a, low)))

-- ## One entry

-- the entry plays the track in the slot, by a look that answers by the words seen
pub record PlaysTrack (s : Session) (run : Run) (e : EntrySeen) (track i : ℕ) : Type 0 where
  pub front : ℕ
  pub looks : LooksBy (cycle_frames s) (listed (told_at run track).stream) (entry_slot e.entry i) front
  pub stream : (told_at (with_cycle s run e) track).stream ≡ played (cycle_frames s) e i (told_at run track).stream

pub plays_track : (s : Session) (marks : Marks) (run : Run) (e : EntrySeen) (track i : ℕ) (item : FastTrack) → i < slots → item.track ≡ track → track < length run.tracks → LegalEntry s marks (with_poll s e.entry.state run) e
    → Uses (Plays i item) run.states e.entry.state → PlaysTrack s run e track i
unfolding with_poll
plays_track s marks run e track i item low is there legal uses =
    let now = with_poll s e.entry.state run in
    let x = uses.state in
    let p = uses.holds in
    let same : state_for s now e.entry.state ≡ x = state_known s now e.entry.state x uses.is in
    let mixed = entry_mixed (Plays i item) (λ x p. p.mixes) s marks run e legal uses in
    let mixes = legal.cycle.mixes x uses.is mixed in
    let slot = mixes.tracks i low p.carried in
    let track_is : (slot_of x i).track ≡ track = ap (λ (t : FastTrack). t.track) p.is ∙ is in
    let found : (slot_of (state_for s now e.entry.state) i).track ≡ track = ap (λ (y : FastState). (slot_of y i).track) same ∙ track_is in
    let looks : LooksBy (cycle_frames s) (listed (told_at run track).stream) (entry_slot e.entry i) slot.front =
    subst (λ (n : ℕ). LooksBy (cycle_frames s) (listed (told_at run n).stream) (entry_slot e.entry i) slot.front) found slot.looks in
    let only = slot_only x e track i low p.carried track_is (λ j less carried same. p.only j less carried (same ∙ sym is)) (shown_if (entry_slot e.entry i).seen looks.0) in
    record {
      front = slot.front;
      looks = looks;
      stream = ap (λ (t : TrackTold). t.stream) (cycle_track s run e track there) ∙ mixed_stream s (state_for s now e.entry.state) e track i (told_at run track) (ap (λ (y : FastState). slot_playing y e.entry track) same ∙ only);
    }

-- ## Some entries

-- What some entries take, of so many frames that had been learnt of
pub record Took (k : Shape) (asked known n i : ℕ) (before after : List ServerEvent) (es : List EntrySeen) : Type 0 where
  pub none : drops_none after ≡ true
  pub unshut : (server_kept k after).shut ≡ None
  pub taken : frames_taken after ≡ frames_taken before + taken_in i es
  pub reaches : (frames_taken before + asked_in asked es ≤ frames_taken after) ⊎ (known ≤ frames_taken after)
  pub shown : AllShown i es

-- what one entry takes, and those after it
took_more : (k : Shape) (asked known n i : ℕ) (before now after : List ServerEvent) (e : EntrySeen) (es : List EntrySeen) → (frames_taken now ≡ frames_taken before + count_seen (entry_slot e.entry i).seen)
    → ((count_seen (entry_slot e.entry i).seen ≡ asked) ⊎ (known ≤ frames_taken before + count_seen (entry_slot e.entry i).seen)) → IsShown (entry_slot e.entry i).seen → Took k asked known n i now after es → Took k asked known n i before after (e ∷ es)
took_more k asked known n i before now after e es taken reach shows rest =
    record { none = rest.none; unshut = rest.unshut; taken = (let a = rest.taken in omega arith); reaches = by reach rest.reaches; shown = (shows, rest.shown) }
  where
    by : ((count_seen (entry_slot e.entry i).seen ≡ asked) ⊎ (known ≤ frames_taken before + count_seen (entry_slot e.entry i).seen)) → ((frames_taken now + asked_in asked es ≤ frames_taken after) ⊎ (known ≤ frames_taken after))
        → ((frames_taken before + (asked + asked_in asked es) ≤ frames_taken after) ⊎ (known ≤ frames_taken after))
    by (inl all) (inl more) = inl (omega (arith, all, more, taken))
    by (inr known_taken) r = inr (let a = rest.taken in omega (arith, a, taken, known_taken))
    by (inl all) (inr more) = inr more

-- each of some entries plays the track in the slot, and leaves its server open
abbrev pub AllAlong : Session → ℕ → ℕ → List EntrySeen → Run → Type 0
AllAlong s track i [] run = Unit {0}
AllAlong s track i (e ∷ es) run = ((told_at (with_cycle s run e) track).stream ≡ played (cycle_frames s) e i (told_at run track).stream) × ((kept (listed (told_at (with_cycle s run e) track).stream)).shut ≡ None) × AllAlong s track i es (with_cycle s run e)

module _ (s : Session) (marks : Marks) (track i : ℕ) (item : FastTrack) (low : i < slots) (is : item.track ≡ track) (first after : Run) (states : AllStates first after (Plays i item)) (k : Shape) (cs : List ClientEvent) (all : List ServerEvent) (h : Setting k cs all) (n : ℕ) where
  -- the lists of the block lie in the history
  pub record Lies (b : BlockTold) : Type 0 where
    pub shape : b.shape ≡ k
    pub rest : List ServerEvent
    pub whole : all ≡ server_list b ++ rest

  pub lies_before : (b later : BlockTold) → Later b later → Lies later → Lies b
  lies_before b later f l = record { shape = sym f.shape ∙ l.shape; rest = f.events ++ l.rest; whole = l.whole ∙ ap (λ x. x ++ l.rest) f.server ∙ append_assoc (server_list b) f.events l.rest }

  -- what an entry takes
  pub entry_look : (run : Run) (e : EntrySeen) → PlaysTrack s run e track i → Lies (told_at (with_cycle s run e) track).stream → drops_none (server_list (told_at run track).stream) ≡ true
      → (server_kept k (server_list (told_at run track).stream)).shut ≡ None
      → (events : List ServerEvent) × (server_list (told_at (with_cycle s run e) track).stream ≡ server_list (told_at run track).stream ++ events) × Look k (cycle_frames s) cs (server_list (told_at run track).stream) (entry_slot e.entry i).seen events
  entry_look run e plays lies none unshut =
      let b = (told_at run track).stream in
      let next = (told_at (with_cycle s run e) track).stream in
      let now : BlockTold = played (cycle_frames s) e i b in
      let shape : b.shape ≡ k = sym (ap (λ (x : BlockTold). x.shape) plays.stream) ∙ lies.shape in
      let f : Listed = record { shape = k; events = server_list b } in
      let same : listed b ≡ f = λ j. record { shape = shape j; events = server_list b } in
      let events : List ServerEvent = cycle_events (cycle_frames s) f (entry_slot e.entry i) (front_of (cycle_frames s) f (entry_slot e.entry i)) in
      let list : server_list next ≡ server_list b ++ events =
      ap server_list plays.stream ∙ played_server (cycle_frames s) e i b ∙ ap (λ (x : Listed). server_list b ++ cycle_events (cycle_frames s) x (entry_slot e.entry i) (front_of (cycle_frames s) x (entry_slot e.entry i))) same in
      let looks : LooksBy (cycle_frames s) f (entry_slot e.entry i) plays.front = subst (λ (x : Listed). LooksBy (cycle_frames s) x (entry_slot e.entry i) plays.front) same plays.looks in
      (events, list, slot_look k cs all (server_list b) h none unshut (cycle_frames s) (entry_slot e.entry i) plays.front lies.rest looks (lies.whole ∙ ap (λ l. l ++ lies.rest) list))

  -- what some entries take
  pub entries_take : (high : ℕ) (es : List EntrySeen) (run : Run) (more : List FastState) → after.states ≡ run.states ++ more → high ≤ length run.states → track < length run.tracks → AllUse (length first.states) high es → LegalEntries s marks run es
      → Lies (told_at (with_cycles s es run) track).stream → drops_none (server_list (told_at run track).stream) ≡ true → (server_kept k (server_list (told_at run track).stream)).shut ≡ None → Stands (server.Learn n) (server_list (told_at run track).stream)
      → Took k (cycle_frames s) (frames_put (take n cs)) n i (server_list (told_at run track).stream) (server_list (told_at (with_cycles s es run) track).stream) es × AllAlong s track i es run
  entries_take high [] run more whole top there uses legal lies none unshut learnt =
      (record { none = none; unshut = unshut; taken = omega arith; reaches = inl (omega arith); shown = tt }, tt)
  entries_take high (e ∷ es) run more whole top there uses legal lies none unshut learnt =
      let next = with_cycle s run e in
      let there' : track < length next.tracks = (let a = cycle_long s run e in omega (arith, a, there)) in
      let below = uses.1 in
      let plays = plays_track s marks run e track i item low is there legal.0 (uses_of (Plays i item) first after run e.entry.state states more whole uses.0 (omega arith)) in
      let lies' = lies_before (told_at next track).stream (told_at (with_cycles s es next) track).stream (cycles_later s es next track there') lies in
      let look = entry_look run e plays lies' none unshut in
      let l = look.2 in
      let none' = ap drops_none look.1 ∙ l.none in
      let unshut' : (server_kept k (server_list (told_at next track).stream)).shut ≡ None = ap (λ x. (server_kept k x).shut) look.1 ∙ l.unshut in
      let rest = entries_take high es next more (whole ∙ ap (λ x. x ++ more) (sym (cycle_states s run e))) (let a = ap length (cycle_states s run e) in omega arith) there' uses.2 legal.1 lies none' unshut'
      (subst (Stands (server.Learn n)) (sym look.1) (stands-more (server.Learn n) (server_list (told_at run track).stream) look.0 learnt)) in
      let open_now : (kept (listed (told_at next track).stream)).shut ≡ None = ap (λ (z : Shape). (server_kept z (server_list (told_at next track).stream)).shut) lies'.shape ∙ unshut' in (
        took_more k (cycle_frames s) (frames_put (take n cs)) n i (server_list (told_at run track).stream) (server_list (told_at next track).stream) (server_list (told_at (with_cycles s es next) track).stream) e es
            (ap frames_taken look.1 ∙ l.taken) (l.reaches n learnt) l.shows rest.0,
        (plays.stream, open_now, rest.1),
      )
