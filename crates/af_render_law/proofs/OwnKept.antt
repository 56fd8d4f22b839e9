-- In a render each front that was seen at a block that wasn't poked so far is its server's own: whatever looked in a turn meets at its end.
use Rattle.std.proofs.Common.{◌≡◌, inl, inr, ℕ, ◌<◌, ◌≤◌, ◌==◌, ◌&&◌, not, Bool, true, false, true≢false, if◌then◌else◌, is_some, fold, List, [], ◌∷◌, ◌++◌, length, slice_get, Option, Some, None, refl, sym, ap, ◌∙◌, subst, append-nil, arith}
use Rattle.af_render_law.proofs.Common.{AreTogether, BlockTold, Deeds, EntrySeen, HaveHistories, IsLegal, Links, Met, MetTold, NormalKept, NormalState, Outside, PartyState, RoundSeen, Run, SawOwn, SawOwnBy, SawOwnOf, SeesOwn, ServerEvent, ServerKept, ServerState, Session, SessionState, Setup, Shape, Side, TakeSeen, Tells, TellsServer, Track, TrackKept, TrackTold, Turn, after_calls, asked, called_in_turn, calls_alone, calls_in, client-client, client_list, cycle_events, deeds_met, done_on, drop, each_long, each_track, ends, flat_map, found_carries, heard, held_slot, invalid, is_found_shut, is_home, is_lawful, is_tame, item_at, kept_of, lawful_first, learnt, met, met_deed, met_many, mix_events, mixed_track, own_join, own_met, server_begins, server_keeps, client_side, sides_of, some_at, state_for, stream_at, stream_by, stream_met, takes_from, takes_part, tame_marks, told_at, told_each, track_at, track_in, tracks_at, turn_of, with_ends, with_load, with_mix, with_poll, with_side}
use Rattle.af_base.specs.declared.event.ServerEvent.TheVariants as server
use Rattle.af_model.specs.Spelled.{AllSeeOwn}
use Rattle.af_normal.specs.State.{setup_of as mixer_setup}
use Rattle.af_judge.proofs.BlocksMeet.{met_at}
use Rattle.af_judge.proofs.EntryTracks.{mixed_sides}
use Rattle.af_session.specs.Rounds as parties
use Rattle.af_turn_law.proofs.Basics.{tame_met}
use Rattle.af_turn_law.proofs.MixedHome.{mixed_home}
use Rattle.af_told_law.proofs.AllMeet.{met_histories, tells_met}
use Rattle.af_told_law.proofs.EndsTold.{ends_told}

-- The run tells the session, by lists of its servers in which each front seen at a block that wasn't poked so far is the server's own
pub record ToldBy (s : Session) (run : Run) (y : SessionState) : Type 0 where
  pub deeds : Deeds
  pub told : Tells s run deeds y
  pub saw : SawOwnBy (tame_marks run) run deeds

-- ## Lists

-- a proxy that did this saw its own fronts by its list
own_list : (b : BlockTold) (deed : List ServerEvent) (t : ServerState) → TellsServer (done_on b deed) t → SawOwn t → SawOwnOf b.shape deed
own_list b deed t told saw = subst (λ (y : Shape × List ServerEvent). SawOwnOf y.0 y.1) (λ j. (told.shape j, told.events j)) saw

-- ## After a turn, whose meetings show what their servers saw

module _ (links : Links) (s : Session) (run : Run) {d : Deeds} (x : SessionState) (together : AreTogether links x) (told : Tells s run d x) (own : SeesOwn x) where
  track_of : (i : ℕ) → i < length run.tracks → (p : PartyState) × (slice_get x.clients i ≡ Some p)
  track_of i low = some_at x.clients i (let a = told.count.0 in let b = told.count.1 in omega (arith, low, a, b))

  within : (i : ℕ) → i < length run.tracks → i < length x.normal.tracks
  within i low = let a = told.count.0 in let b = told.count.1 in let c = together.count in omega (arith, low, a, b, c)

  -- if it's known of each stream's proxy that is neither home nor held, it is so of all
  pub saw_now : ((i : ℕ) → i < length run.tracks → is_home (track_at x.normal.tracks i).holder ≡ false → held_slot x.fast i ≡ None → is_tame (told_at run i).stream ≡ true → SawOwnOf (told_at run i).stream.shape (d.streams i)) → SawOwnBy (tame_marks run) run d
  saw_now rest = record { streams = streams; commands = commands }
    where
      streams : (i : ℕ) → i < length run.tracks → is_tame (told_at run i).stream ≡ true → SawOwnOf (told_at run i).stream.shape (d.streams i)
      streams i low tame = by_home (stream_at x.normal.streams i) refl
        where
          p : (p : PartyState) × (slice_get x.clients i ≡ Some p)
          p = track_of i low

          lawful : is_lawful p.0.stream.pass.part.events ≡ true
          lawful = ap (λ (y : Track). is_lawful y.stream.events) (sym (told.tracks i p.0 p.1).client) ∙ tame

          by_item : is_home (track_at x.normal.tracks i).holder ≡ false → (k : ℕ) → held_slot x.fast i ≡ Some k → (o : Option ServerState) → item_at x.fast.observer.items (held_slot x.fast i) ≡ o → SawOwnOf (told_at run i).stream.shape (d.streams i)
          by_item gone k found None none =
              let carried = found_carries x.fast.observer.past.state i k found in
              absurd (true≢false (sym (together.fast.0.observer.held k carried.0 ∙ carried.1) ∙ ap is_some (ap (item_at x.fast.observer.items) (sym found) ∙ none)))
          by_item gone k found (Some t) is = own_list (told_at run i).stream (d.streams i) t (((told.tracks i p.0 p.1).stream.away gone).held t is) (own.held i p.0 t p.1 lawful is)

          by_held : is_home (track_at x.normal.tracks i).holder ≡ false → (o : Option ℕ) → held_slot x.fast i ≡ o → SawOwnOf (told_at run i).stream.shape (d.streams i)
          by_held gone None none = rest i low gone none tame
          by_held gone (Some k) found = by_item gone k found (item_at x.fast.observer.items (held_slot x.fast i)) refl

          by_home : (o : Option ServerState) → stream_at x.normal.streams i ≡ o → SawOwnOf (told_at run i).stream.shape (d.streams i)
          by_home (Some t) is = own_list (told_at run i).stream (d.streams i) t ((told.tracks i p.0 p.1).stream.home t is) (own.homes i p.0 t p.1 lawful is)
          by_home None none = by_held (sym (together.normal.tied.proxies.there i (within i low)) ∙ ap is_some none) (held_slot x.fast i) refl

      commands : (i : ℕ) → i < length run.tracks → is_tame (told_at run i).commands ≡ true → SawOwnOf (told_at run i).commands.shape (d.commands i)
      commands i low tame =
          let p = track_of i low in
          let t = some_at x.normal.commands i (let w = within i low in let same = together.normal.tied.sizes.commands_are in omega (arith, w, same)) in
          let track = told.tracks i p.0 p.1 in
          own_list (told_at run i).commands (d.commands i) t.0 (track.commands t.0 t.1).server (own.commands i p.0 t.0 p.1 (ap (λ (y : Track). is_lawful y.commands.events) (sym track.client) ∙ tame) t.1)

-- ## At the meetings

-- what the servers did is told, on each block that wasn't poked
pub lists_told : (s : Session) (run : Run) {d : Deeds} (x : SessionState) → Tells s run d x → SawOwnBy (tame_marks run) run d → MetTold s run d
lists_told s run x told saw = record {
  streams = (λ i low part tame. let p = some_at x.clients i (let b = told.count.1 in omega (arith, low, b)) in
      (told.tracks i p.0 p.1).did.stream.own (saw.streams i (let a = told.count.0 in omega (arith, low, a)) tame));
  commands = (λ i low tame. let p = some_at x.clients i (let b = told.count.1 in omega (arith, low, b)) in
      (told.tracks i p.0 p.1).did.commands.own (saw.commands i (let a = told.count.0 in omega (arith, low, a)) tame));
}

pub saw_met : (s : Session) (run : Run) (d : Deeds) → SawOwnBy (tame_marks run) run d → SawOwnBy (tame_marks (met s run)) (met s run) (deeds_met s run d)
saw_met s run d h = record { streams = streams; commands = commands }
  where
    inside : (i : ℕ) → i < length (met s run).tracks → i < length run.tracks
    inside i low = let n = met_many s run in omega (arith, low, n)

    by_part : (part there : Bool) (b : BlockTold) (deed : List ServerEvent) → (is_tame b ≡ true → SawOwnOf b.shape deed) → is_tame (stream_met part there b) ≡ true → SawOwnOf (stream_met part there b).shape (if part then met_deed b deed else deed)
    by_part true true b deed saw tame = own_met b deed (saw (tame_met true true b tame))
    by_part true false b deed saw tame = own_met b deed (saw (tame_met true false b tame))
    by_part false true b deed saw tame = saw tame
    by_part false false b deed saw tame = saw tame

    streams : (i : ℕ) → i < length (met s run).tracks → is_tame (told_at (met s run) i).stream ≡ true → SawOwnOf (told_at (met s run) i).stream.shape ((deeds_met s run d).streams i)
    streams i low = subst (λ (t : TrackTold). is_tame t.stream ≡ true → SawOwnOf t.stream.shape ((deeds_met s run d).streams i)) (sym (met_at s run i (inside i low)))
        (by_part (takes_part s run i) run.handed (told_at run i).stream (d.streams i) (h.streams i (inside i low)))

    commands : (i : ℕ) → i < length (met s run).tracks → is_tame (told_at (met s run) i).commands ≡ true → SawOwnOf (told_at (met s run) i).commands.shape ((deeds_met s run d).commands i)
    commands i low = subst (λ (t : TrackTold). is_tame t.commands ≡ true → SawOwnOf t.commands.shape ((deeds_met s run d).commands i)) (sym (met_at s run i (inside i low)))
        (by_part true false (told_at run i).commands (d.commands i) (h.commands i (inside i low)))

-- ## What changes no server's list

-- a run with the same sides of the clients saw the same fronts
pub saw_sides : (run after : Run) (d : Deeds) → length after.tracks ≡ length run.tracks → ((i : ℕ) → i < length run.tracks → (client_side (told_at after i).stream ≡ client_side (told_at run i).stream) × (client_side (told_at after i).commands ≡ client_side (told_at run i).commands))
    → SawOwnBy (tame_marks run) run d → SawOwnBy (tame_marks after) after d
saw_sides run after d many same h = record {
  streams = (λ i low. let l : i < length run.tracks = omega (arith, low, many) in subst (λ (y : Side). is_lawful y.events ≡ true → SawOwnOf y.shape (d.streams i)) (sym (same i l).0) (h.streams i l));
  commands = (λ i low. let l : i < length run.tracks = omega (arith, low, many) in subst (λ (y : Side). is_lawful y.events ≡ true → SawOwnOf y.shape (d.commands i)) (sym (same i l).1) (h.commands i l));
}

-- the clients' ends change no server's list
pub saw_ends : (run : Run) (d : Deeds) → SawOwnBy (tame_marks run) run d → SawOwnBy (tame_marks (with_ends run)) (with_ends run) d
unfolding with_ends
saw_ends run d h = by_end run.normal.ended
  where
    ended : ℕ → TrackTold → TrackTold
    ended i t = record t { client = ends t.client }

    by_end : (b : Bool) → SawOwnBy (tame_marks (if b then each_track ended run else run)) (if b then each_track ended run else run) d
    by_end true = saw_sides run (each_track ended run) d (each_long ended 0 run.tracks) (λ i low. (ap (λ (t : TrackTold). client_side t.stream) (told_each ended run i low), ap (λ (t : TrackTold). client_side t.commands) (told_each ended run i low))) h
    by_end false = h

-- a client's calls change no server's list
pub saw_calls : (run : Run) (d : Deeds) (i : ℕ) (round : RoundSeen) → SawOwnBy (tame_marks run) run d → SawOwnBy (tame_marks (calls_alone i round run)) (calls_alone i round run) d
saw_calls run d i round h = record { streams = streams; commands = commands }
  where
    change : ℕ → TrackTold → TrackTold
    change n t = if n == i then called_in_turn (calls_in round i) t else t

    inside : (n : ℕ) → n < length (calls_alone i round run).tracks → n < length run.tracks
    inside n low = let many = each_long change 0 run.tracks in omega (arith, low, many)

    side : (b : BlockTold) (deed : List ServerEvent) (with : Side) → (is_tame b ≡ true → SawOwnOf b.shape deed) → is_tame (with_side with b) ≡ true → SawOwnOf (with_side with b).shape deed
    side b deed with saw now = saw (lawful_first (client_list b) (drop (length (client_list b)) with.events) (sym (ap is_lawful (client-client b.told (drop (length (client_list b)) with.events))) ∙ now))

    stream_by_track : (own : Bool) (t : TrackTold) (deed : List ServerEvent) → (is_tame t.stream ≡ true → SawOwnOf t.stream.shape deed) → is_tame (if own then called_in_turn (calls_in round i) t else t).stream ≡ true → SawOwnOf (if own then called_in_turn (calls_in round i) t else t).stream.shape deed
    stream_by_track true t deed saw = side t.stream deed (after_calls (sides_of t) (calls_in round i)).stream saw
    stream_by_track false t deed saw = saw

    commands_by_track : (own : Bool) (t : TrackTold) (deed : List ServerEvent) → (is_tame t.commands ≡ true → SawOwnOf t.commands.shape deed) → is_tame (if own then called_in_turn (calls_in round i) t else t).commands ≡ true → SawOwnOf (if own then called_in_turn (calls_in round i) t else t).commands.shape deed
    commands_by_track true t deed saw = side t.commands deed (after_calls (sides_of t) (calls_in round i)).commands saw
    commands_by_track false t deed saw = saw

    streams : (n : ℕ) → n < length (calls_alone i round run).tracks → is_tame (told_at (calls_alone i round run) n).stream ≡ true → SawOwnOf (told_at (calls_alone i round run) n).stream.shape (d.streams n)
    streams n low = subst (λ (t : TrackTold). is_tame t.stream ≡ true → SawOwnOf t.stream.shape (d.streams n)) (sym (told_each change run n (inside n low))) (stream_by_track (n == i) (told_at run n) (d.streams n) (h.streams n (inside n low)))

    commands : (n : ℕ) → n < length (calls_alone i round run).tracks → is_tame (told_at (calls_alone i round run) n).commands ≡ true → SawOwnOf (told_at (calls_alone i round run) n).commands.shape (d.commands n)
    commands n low = subst (λ (t : TrackTold). is_tame t.commands ≡ true → SawOwnOf t.commands.shape (d.commands n)) (sym (told_each change run n (inside n low))) (commands_by_track (n == i) (told_at run n) (d.commands n) (h.commands n (inside n low)))

-- a poll and a load change no server's list
pub saw_polled : (s : Session) (k : ℕ) (run : Run) (d : Deeds) → SawOwnBy (tame_marks run) run d → SawOwnBy (tame_marks (with_poll s k run)) (with_poll s k run) d
unfolding with_poll
saw_polled s k run d h = record { streams = h.streams; commands = h.commands }

pub saw_loaded : (e : Turn) (run : Run) (d : Deeds) → SawOwnBy (tame_marks run) run d → SawOwnBy (tame_marks (with_load e run)) (with_load e run) d
unfolding with_load
saw_loaded e run d h = record { streams = h.streams; commands = h.commands }

-- a mix leaves the clients' sides
pub mixed_many : (s : Session) (e : EntrySeen) (run : Run) → length (with_mix s e run).tracks ≡ length run.tracks
unfolding with_mix
mixed_many s e run = each_long (mixed_track s (state_for s run e.entry.state) e) 0 run.tracks

pub mixed_same : (s : Session) (e : EntrySeen) (run : Run) (i : ℕ) → i < length run.tracks → sides_of (told_at (with_mix s e run) i) ≡ sides_of (told_at run i)
unfolding with_mix
mixed_same s e run i low = ap sides_of (told_each (mixed_track s (state_for s run e.entry.state) e) run i low) ∙ mixed_sides s (state_for s run e.entry.state) e i (told_at run i)

-- ## A turn of the normal mixer

module _ (links : Links) (x : SessionState) (n : NormalState) (o : Outside) (before : AreTogether links x) (legal : IsLegal o x.normal n) where
  abbrev e : Turn
  e = turn_of n.entry

  abbrev c : Setup
  c = mixer_setup x.normal

  abbrev m : NormalKept
  m = kept_of x.normal

  flags_own : (k : Shape) (kept : ServerKept) (a b : Bool) → AllSeeOwn k kept (if a then (if b then server.SetFlags 4 ∷ [] else []) else [])
  flags_own k kept true true = (tt, tt)
  flags_own k kept true false = tt
  flags_own k kept false b = tt

  -- a stream whose proxy isn't home after the turn was not looked at
  pub turned_unseen : (i : ℕ) (k : Shape) (kept : ServerKept) → is_home (track_at n.tracks i).holder ≡ false → AllSeeOwn k kept (stream_by (mixer_setup x.normal) (kept_of x.normal) o (turn_of n.entry) i)
  turned_unseen i k kept gone = by_end e.ended refl
    where
      track : TrackKept
      track = track_at (tracks_at c (learnt o) m e i) i

      found : Bool
      found = not track.life.ended && is_found_shut (heard (learnt o) i track) (track_in e i).looks

      few : length m.tracks ≤ length c.settings
      few = let same = before.normal.tied.sizes.settings in omega (arith, same)

      untaken : e.ended ≡ false → takes_from e.mixes i ≡ []
      untaken runs = elim (mixed_home c before.normal.tied.sizes.scales (learnt o) m e i few before.normal.tied.sound runs (legal.legal.goes_on runs).due) as (λ _. takes_from e.mixes i ≡ []) [
        | inl none ↦ none
        | inr home ↦ absurd (true≢false (sym home.1 ∙ sym (ap (λ (k : NormalKept). is_home (track_at k.tracks i).holder) legal.leaves) ∙ gone))
      ]

      by_end : (b : Bool) → e.ended ≡ b → AllSeeOwn k kept (stream_by c m o e i)
      by_end true over = subst (AllSeeOwn k kept) (sym (ap (λ (b : Bool). if b then [] else (if is_home track.holder then invalid (learnt o) (track_in e i) (tracks_at c (learnt o) m e i) i else []) ++ mix_events c o e.mixes i) over)) tt
      by_end false runs =
          subst (AllSeeOwn k kept)
          (sym (ap (λ (b : Bool). if b then [] else (if is_home track.holder then invalid (learnt o) (track_in e i) (tracks_at c (learnt o) m e i) i else []) ++ mix_events c o e.mixes i) runs
          ∙ ap (λ (takes : List TakeSeen). (if is_home track.holder then invalid (learnt o) (track_in e i) (tracks_at c (learnt o) m e i) i else []) ++ flat_map (λ (take : TakeSeen). cycle_events (asked c) (o.streams i) take.slot (o.stream_front i)) takes) (untaken runs)
          ∙ append-nil (if is_home track.holder then invalid (learnt o) (track_in e i) (tracks_at c (learnt o) m e i) i else [])))
          (flags_own k kept (is_home track.holder) found)

  -- the fronts of a stream whose proxy isn't home after the turn are its own as before
  pub turned_own : (i : ℕ) (k : Shape) (deed : List ServerEvent) → is_home (track_at n.tracks i).holder ≡ false → SawOwnOf k deed → SawOwnOf k (deed ++ stream_by (mixer_setup x.normal) (kept_of x.normal) o (turn_of n.entry) i)
  turned_own i k deed gone saw = own_join k (server_begins k) deed (stream_by c m o e i) saw (turned_unseen i k (fold (server_keeps k) (server_begins k) deed) gone)

-- ## What a turn, the meetings after it and the clients' ends leave

module _ (links : Links) (s : Session) (run : Run) (x z : SessionState) (together : AreTogether links x) (still : AreTogether links z) (meets : Met x z) (left : ToldBy s run x) where
  -- the lists have their histories
  pub left_histories : HaveHistories s (met s run)
  left_histories = met_histories links s run x z together still left.told meets (lists_told s run x left.told left.saw)

  pub left_met : ToldBy s (with_ends (met s run)) (parties.with_ends z)
  left_met = record {
    deeds = deeds_met s run left.deeds;
    told = ends_told s (met s run) z (tells_met links s run x z together still left.told meets);
    saw = saw_ends (met s run) (deeds_met s run left.deeds) (saw_met s run left.deeds left.saw);
  }
