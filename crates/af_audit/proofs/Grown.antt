-- What is recorded of a track's two blocks is never taken back: each step of a round adds to it.
use Rattle.std.proofs.Common.{◌≡◌, ℕ, ◌<◌, Bool, true, false, if◌then◌else◌, fold, map, List, [], ◌∷◌, ◌++◌, drop, length, Option, Some, None, refl, sym, ap, ◌∙◌, subst, arith, append_assoc}
use Rattle.af_audit.proofs.Common.{BlockTold, ClientCall, ClientEvent, EntrySeen, FastState, HandEvent, Moment, NormalKept, Outside, RoundSeen, Run, ServerEvent, Session, Setup, TrackTold, Turn, TurnFound, after_calls, after_round, after_turn, all_played, before_turn, by_client, by_hand, by_server, called_in_turn, calls_in, client_does, client_list, command_list, cycle_events, cycle_frames, each_long, each_track, early_of, ends, entry_slot, flat_map, found_in, front_of, going, hand_does, hand_events_of, late_of, learnt, listed, loaded, meets, meets_flag, met, met_after, met_at, met_many, mixed_track, outside_of, packed_word, played, run_from, server_does, server_list, setup_of, sides_of, slot_playing, slot_frames, state_for, stream_list, stream_met, takes_from, takes_part, told_at, told_each, took, track_in, tracks_at, turned, turned_track, with_calls, with_cycle, with_cycles, with_ends, with_load, with_mix, with_poll, with_turn, words_taken}
use Rattle.af_base.specs.declared.event.ClientEvent.TheVariants as client
use Rattle.af_base.specs.declared.event.HandEvent.TheVariants as hand
use Rattle.af_base.specs.declared.event.ServerEvent.TheVariants as server

-- ## Blocks

-- a block of which more is recorded
pub record Grows (a b : BlockTold) : Type 0 where
  pub shape : b.shape ≡ a.shape
  pub more : List Moment
  pub told : b.told ≡ more ++ a.told

-- a track of whose two blocks more is recorded
pub record TrackGrows (a b : TrackTold) : Type 0 where
  pub stream : Grows a.stream b.stream
  pub commands : Grows a.commands b.commands

pub grows_none : (a : BlockTold) → Grows a a
grows_none a = record { shape = refl; more = []; told = refl }

pub grows_twice : (a b c : BlockTold) → Grows a b → Grows b c → Grows a c
grows_twice a b c f g = record { shape = g.shape ∙ f.shape; more = g.more ++ f.more; told = g.told ∙ ap (λ l. g.more ++ l) f.told ∙ sym (append_assoc g.more f.more a.told) }

-- some moments are recorded in front of those before
tells_more : (moments told : List Moment) → (more : List Moment) × (fold (λ (told : List Moment) (moment : Moment). moment ∷ told) told moments ≡ more ++ told)
tells_more [] told = ([], refl)
tells_more (m ∷ moments) told = let r = tells_more moments (m ∷ told) in (r.0 ++ m ∷ [], r.1 ∙ sym (append_assoc r.0 (m ∷ []) told))

-- a block of which these moments are recorded too
told_grows : (a b : BlockTold) (moments : List Moment) → b.shape ≡ a.shape → b.told ≡ fold (λ (told : List Moment) (moment : Moment). moment ∷ told) a.told moments → Grows a b
told_grows a b moments same is = let r = tells_more moments a.told in record { shape = same; more = r.0; told = is ∙ r.1 }

-- ## What a party does

client_grows : (es : List ClientEvent) (b : BlockTold) → Grows b (client_does es b)
client_grows es b = told_grows b (client_does es b) (map by_client es) refl refl

-- what a block records grows if frames are taken, the server does something, and the hand before it
server_grows : (words : List ℕ) (es : List ServerEvent) (hs : List HandEvent) (b : BlockTold) → Grows b (took words (server_does es (hand_does hs b)))
server_grows words es hs b =
    let first : Grows b (hand_does hs b) = told_grows b (hand_does hs b) (map by_hand hs) refl refl in
    let second : Grows (hand_does hs b) (server_does es (hand_does hs b)) = told_grows (hand_does hs b) (server_does es (hand_does hs b)) (map by_server es) refl refl in
    let both = grows_twice b (hand_does hs b) (server_does es (hand_does hs b)) first second in
    record { shape = both.shape; more = both.more; told = both.told }

-- ## Tracks

pub track_none : (t : TrackTold) → TrackGrows t t
track_none t = record { stream = grows_none t.stream; commands = grows_none t.commands }

pub track_twice : (a b c : TrackTold) → TrackGrows a b → TrackGrows b c → TrackGrows a c
track_twice a b c f g = record { stream = grows_twice a.stream b.stream c.stream f.stream g.stream; commands = grows_twice a.commands b.commands c.commands f.commands g.commands }

pub called_grows : (calls : List ClientCall) (t : TrackTold) → TrackGrows t (called_in_turn calls t)
called_grows calls t =
    let u = after_calls (sides_of t) calls in
    let a = client_grows (drop (length (client_list t.stream)) u.stream.events) t.stream in
    let b = client_grows (drop (length (client_list t.commands)) u.commands.events) t.commands in
    record { stream = record { shape = a.shape; more = a.more; told = a.told }; commands = record { shape = b.shape; more = b.more; told = b.told } }

mixed_grows : (s : Session) (x : FastState) (e : EntrySeen) (n : ℕ) (t : TrackTold) → TrackGrows t (mixed_track s x e n t)
mixed_grows s x e n t = by_slot (slot_playing x e.entry n)
  where
    by_slot : (o : Option ℕ) → TrackGrows t (elim o as (λ o. TrackTold) [ None ↦ t | Some i ↦ record t { stream = played (cycle_frames s) e i t.stream } ])
    by_slot None = track_none t
    by_slot (Some i) =
        let slot = entry_slot e.entry i in record {
          stream = server_grows (map packed_word (slot_frames e i)) (cycle_events (cycle_frames s) (listed t.stream) slot (front_of (cycle_frames s) (listed t.stream) slot)) [] t.stream;
          commands = grows_none t.commands;
        }

turned_grows : (c : Setup) (o : Outside) (m : NormalKept) (e : Turn) (n : ℕ) (t : TrackTold) → TrackGrows t (turned_track c o m e n t)
turned_grows c o m e n t =
    let tracks = tracks_at c (learnt o) m e n in record {
      stream = server_grows (going e (map packed_word (flat_map (λ take. take.frames) (takes_from e.mixes n)))) (stream_list c o e tracks n) (hand_events_of e n) t.stream;
      commands = server_grows (going e (words_taken (track_in e n).looks)) (command_list c o e tracks n) [] t.commands;
    }

pub meets_grows : (b : BlockTold) → Grows b (meets b)
meets_grows b = record { shape = refl; more = by_server (server.Learn (length (client_list b))) ∷ by_client (client.Learn (length (server_list b))) ∷ []; told = refl }

flag_grows : (b : BlockTold) → Grows b (meets_flag b)
flag_grows b = record { shape = refl; more = by_hand (hand.Met (length (client_list b))) ∷ []; told = refl }

met_grows : (there hands : Bool) (b : BlockTold) → Grows b (stream_met there hands b)
met_grows true true b = grows_twice b (meets b) (meets_flag (meets b)) (meets_grows b) (flag_grows (meets b))
met_grows true false b = meets_grows b
met_grows false true b = flag_grows b
met_grows false false b = grows_none b

-- ## Runs

-- the track of a number is there, and its blocks have grown
pub record RunGrows (n : ℕ) (a b : Run) : Type 0 where
  pub there : n < length b.tracks
  pub track : TrackGrows (told_at a n) (told_at b n)

pub run_twice : (n : ℕ) (a b c : Run) → RunGrows n a b → RunGrows n b c → RunGrows n a c
run_twice n a b c f g = record { there = g.there; track = track_twice (told_at a n) (told_at b n) (told_at c n) f.track g.track }

pub run_none : (n : ℕ) (a : Run) → n < length a.tracks → RunGrows n a a
run_none n a low = record { there = low; track = track_none (told_at a n) }

module _ (n : ℕ) where
  -- a run grows if each track is changed by its number, and the track of this number grows
  pub each_grows : (change : ℕ → TrackTold → TrackTold) (a b : Run) → b.tracks ≡ (each_track change a).tracks → n < length a.tracks → TrackGrows (told_at a n) (change n (told_at a n)) → RunGrows n a b
  each_grows change a b is low grows = record {
    there = (let m = each_long change 0 a.tracks in let l = ap length is in omega (arith, m, l, low));
    track = subst (TrackGrows (told_at a n)) (sym (told_each change a n low) ∙ sym (ap (λ ts. told_at (record a { tracks = ts }) n) is)) grows;
  }

  pub calls_grow : (round : RoundSeen) (run : Run) → n < length run.tracks → RunGrows n run (with_calls round run)
  unfolding with_calls
  calls_grow round run low = each_grows (λ track t. called_in_turn (calls_in round track) t) run (with_calls round run) refl low (called_grows (calls_in round n) (told_at run n))

  -- a mix adds to what is recorded
  pub mix_grows : (s : Session) (e : EntrySeen) (run : Run) → n < length run.tracks → RunGrows n run (with_mix s e run)
  unfolding with_mix
  mix_grows s e run low =
      let x = state_for s run e.entry.state in
      each_grows (mixed_track s x e) run (with_mix s e run) refl low (mixed_grows s x e n (told_at run n))

  -- a cycle adds to what is recorded
  pub cycle_grows : (s : Session) (e : EntrySeen) (run : Run) → n < length run.tracks → RunGrows n run (with_cycle s run e)
  unfolding with_poll
  cycle_grows s e run low = let g = mix_grows s e (with_poll s e.entry.state run) low in record { there = g.there; track = g.track }

  pub cycles_grow : (s : Session) (es : List EntrySeen) (run : Run) → n < length run.tracks → RunGrows n run (with_cycles s es run)
  cycles_grow s [] run low = run_none n run low
  cycles_grow s (e ∷ es) run low = let first = cycle_grows s e run low in run_twice n run (with_cycle s run e) _ first (cycles_grow s es (with_cycle s run e) first.there)

  pub turn_grows : (s : Session) (found : Turn → TurnFound) (o : Option Turn) (run : Run) → n < length run.tracks → RunGrows n run (turned s found o run)
  unfolding with_turn
  turn_grows s found None run low = run_none n run low
  turn_grows s found (Some e) run low =
      let c = setup_of s in let o = outside_of c (found e) e in
      each_grows (turned_track c o run.normal e) run (with_turn s (found e) e run) refl low (turned_grows c o run.normal e n (told_at run n))

  pub load_grows : (o : Option Turn) (run : Run) → n < length run.tracks → RunGrows n run (loaded o run)
  unfolding with_load
  load_grows None run low = run_none n run low
  load_grows (Some e) run low = record { there = low; track = track_none (told_at run n) }

  pub meet_grows : (s : Session) (run : Run) → n < length run.tracks → RunGrows n run (met s run)
  meet_grows s run low = record {
    there = (let m = met_many s run in omega (arith, m, low));
    track = subst (TrackGrows (told_at run n)) (sym (met_at s run n low)) (record { stream = met_grows (takes_part s run n) run.handed (told_at run n).stream; commands = meets_grows (told_at run n).commands });
  }

  pub ends_grow : (run : Run) → n < length run.tracks → RunGrows n run (with_ends run)
  unfolding with_ends
  ends_grow run low = by_end run.normal.ended
    where
      by_end : (b : Bool) → RunGrows n run (if b then each_track (λ track t. record t { client = ends t.client }) run else run)
      by_end true = each_grows (λ track t. record t { client = ends t.client }) run _ refl low (record { stream = grows_none (told_at run n).stream; commands = grows_none (told_at run n).commands })
      by_end false = run_none n run low

  -- what is recorded grows up to the meetings of a round
  pub played_grow : (s : Session) (run : Run) (round : RoundSeen) → n < length run.tracks → RunGrows n run (all_played s run round)
  played_grow s run round low =
      let a = calls_grow round run low in
      let b = cycles_grow s (early_of run round) (with_calls round run) a.there in
      let c = turn_grows s (found_in s run round) round.turn (before_turn s run round) b.there in
      let d = cycles_grow s (late_of run round) (after_turn s run round) c.there in
      let e = load_grows round.turn (with_cycles s (late_of run round) (after_turn s run round)) d.there in
      run_twice n run (with_calls round run) _ a (run_twice n (with_calls round run) (before_turn s run round) _ b (run_twice n (before_turn s run round) (after_turn s run round) _ c (run_twice n (after_turn s run round) (with_cycles s (late_of run round) (after_turn s run round)) _ d e)))

  -- what is recorded grows in a round
  pub round_grows : (s : Session) (run : Run) (round : RoundSeen) → n < length run.tracks → RunGrows n run (after_round s run round)
  round_grows s run round low =
      let a = played_grow s run round low in
      let b = meet_grows s (all_played s run round) a.there in
      let c = ends_grow (met_after s run round) b.there in
      run_twice n run (all_played s run round) _ a (run_twice n (all_played s run round) (met_after s run round) _ b c)

  -- what is recorded grows in some rounds
  pub rounds_grow : (s : Session) (rounds : List RoundSeen) (run : Run) → n < length run.tracks → RunGrows n run (run_from s run rounds)
  rounds_grow s [] run low = run_none n run low
  rounds_grow s (round ∷ rounds) run low = let a = round_grows s run round low in run_twice n run (after_round s run round) _ a (rounds_grow s rounds (after_round s run round) a.there)
