-- A run that goes on tells more of what it told, and keeps its blocks counted.
use Rattle.std.proofs.Common.{◌≡◌, inl, inr, ℕ, zero, suc, ◌+◌, ◌<◌, ◌==◌, ◌&&◌, Bool, true, false, true≢false, if◌then◌else◌, is_some, unwrap_or, find, map, List, [], ◌∷◌, ◌++◌, drop, length, All, Option, Some, None, refl, sym, ap, ◌∙◌, subst, arith, append-nil, append_assoc}
use Rattle.af_one_turn_run.proofs.Common.{All-nil, BlockTold, ClientCall, EntrySeen, IsTake, IsTurn, RoundSeen, Run, ServerEvent, Session, TrackTold, Turn, TurnFound, after_calls, by_client, by_hand, by_server, called_in_turn, calls_alone, calls_in, client_list, cycle_alone, cycle_events, cycle_frames, each_at, changed_from, each_long, each_track, ends, entry_slot, front_of, hand_events_of, is_mixed, learnt, listed, met, mixed_track, no_track, outside_of, packed_word, played, shows_slot, range_with_len, setup_of, sides_of, slice_index_or, slot_playing, slot_frames, slot_of, slots, state_for, stream_list, stream_met, taken_before, takes_part, takes_shown, told_at, track_met, tracks_at, turned_track, two, with_ends, with_load, with_mix, with_poll, with_turn, wrapped}
use Rattle.af_base.specs.declared.event.ServerEvent.TheVariants as server
use Rattle.af_one_turn_run.proofs.Growing.{Grows, IsCounted, more_then, grows_not, grows_then, grows_met, takes_more, client_takes}
use Rattle.af_one_turn_run.proofs.Counting.{counted_played, counted_turn}

-- ## What follows a run

module _ {A : Type 0} where
  -- the list goes on with some more
  abbrev pub GoesOn : List A → List A → Type 0
  GoesOn xs ys = (rest : List A) × (ys ≡ xs ++ rest)

  on_not : (xs : List A) → GoesOn xs xs
  on_not xs = ([], sym (append-nil xs))

  on_then : (xs ys zs : List A) → GoesOn xs ys → GoesOn ys zs → GoesOn xs zs
  on_then xs ys zs g h = (g.0 ++ h.0, h.1 ∙ ap (λ (l : List A). l ++ h.0) g.1 ∙ append_assoc xs g.0 h.0)

-- each stream block tells more, and so do the queue and the pipe; and the blocks stay counted
pub record Follows (run after : Run) : Type 0 where
  pub long : length after.tracks ≡ length run.tracks
  pub streams : (n : ℕ) → n < length run.tracks → Grows (told_at run n).stream (told_at after n).stream
  pub counted : (n : ℕ) → n < length run.tracks → IsCounted (told_at run n).stream → IsCounted (told_at after n).stream
  pub queue : GoesOn run.queue after.queue
  pub pipe : GoesOn run.pipe.told after.pipe.told
  pub taken : GoesOn run.pipe.taken after.pipe.taken

pub follows_not : (run : Run) → Follows run run
follows_not run = record { long = refl; streams = λ n low. grows_not (told_at run n).stream; counted = λ n low c. c; queue = on_not run.queue; pipe = on_not run.pipe.told; taken = on_not run.pipe.taken }

pub follows_then : (a b c : Run) → Follows a b → Follows b c → Follows a c
follows_then a b c g h = record {
  long = h.long ∙ g.long;
  streams = λ n low. grows_then (told_at a n).stream (told_at b n).stream (told_at c n).stream (g.streams n low) (h.streams n (let l = g.long in omega (arith, l, low)));
  counted = λ n low is. h.counted n (let l = g.long in omega (arith, l, low)) (g.counted n low is);
  queue = on_then a.queue b.queue c.queue g.queue h.queue;
  pipe = on_then a.pipe.told b.pipe.told c.pipe.told g.pipe h.pipe;
  taken = on_then a.pipe.taken b.pipe.taken c.pipe.taken g.taken h.taken;
}

-- a run follows of which each track was changed, and whose queue and pipe go on
each_follows : (change : ℕ → TrackTold → TrackTold) (run after : Run) → after.tracks ≡ changed_from change 0 run.tracks
    → ((n : ℕ) (t : TrackTold) → Grows t.stream (change n t).stream × (IsCounted t.stream → IsCounted (change n t).stream))
    → GoesOn run.queue after.queue → GoesOn run.pipe.told after.pipe.told → GoesOn run.pipe.taken after.pipe.taken → Follows run after
each_follows change run after is each queue pipe taken = record {
  long = ap (λ (ts : List TrackTold). length ts) is ∙ each_long change 0 run.tracks;
  streams = λ n low. subst (λ (t : TrackTold). Grows (told_at run n).stream t.stream) (sym (at n low)) (each n (told_at run n)).0;
  counted = λ n low c. subst (λ (t : TrackTold). IsCounted t.stream) (sym (at n low)) ((each n (told_at run n)).1 c);
  queue = queue;
  pipe = pipe;
  taken = taken;
}
  where
    at : (n : ℕ) → n < length run.tracks → told_at after n ≡ change n (told_at run n)
    at n low = ap (λ (ts : List TrackTold). slice_index_or ts n no_track) is ∙ each_at change 0 run.tracks n n no_track low (omega arith)

-- ## Each step

-- a client's calls make a block grow and leave it counted
called_follows : (calls : List ClientCall) (t : TrackTold) → Grows t.stream (called_in_turn calls t).stream × (IsCounted t.stream → IsCounted (called_in_turn calls t).stream)
called_follows calls t =
    let es = drop (length (client_list t.stream)) (after_calls (sides_of t) calls).stream.events in (
      record { shape = refl; moments = map by_client es; told = refl; words = []; taken = sym (append-nil t.stream.taken) },
      λ is. (let n = takes_more t.stream.told (map by_client es) in let z = client_takes es in omega (arith, n, z, is)),
    )

pub calls_follow : (track : ℕ) (round : RoundSeen) (run : Run) → Follows run (calls_alone track round run)
calls_follow track round run =
    each_follows (λ number t. if number == track then called_in_turn (calls_in round track) t else t) run (calls_alone track round run) refl
    (λ n t. by_track (n == track) t) (on_not run.queue) (on_not run.pipe.told) (on_not run.pipe.taken)
  where
    by_track : (b : Bool) (t : TrackTold) → Grows t.stream (if b then called_in_turn (calls_in round track) t else t).stream × (IsCounted t.stream → IsCounted (if b then called_in_turn (calls_in round track) t else t).stream)
    by_track true t = called_follows (calls_in round track) t
    by_track false t = (grows_not t.stream, λ is. is)

-- the meetings leave a block counted
met_counted : (p h : Bool) (b : BlockTold) → IsCounted b → IsCounted (stream_met p h b)
met_counted true true b is = omega (arith, is)
met_counted true false b is = omega (arith, is)
met_counted false true b is = is
met_counted false false b is = is

pub met_follows : (s : Session) (run : Run) → Follows run (met s run)
unfolding met
met_follows s run =
    each_follows (track_met s run) run (met s run) refl (λ n t. (grows_met (takes_part s run n) run.handed t.stream, met_counted (takes_part s run n) run.handed t.stream))
    (_, refl) (_, refl) (on_not run.pipe.taken)

-- a run goes on with its ends
pub ends_follow : (run : Run) → Follows run (with_ends run)
unfolding with_ends
ends_follow run = by_end run.normal.ended
  where
    by_end : (b : Bool) → Follows run (if b then each_track (λ track t. record t { client = ends t.client }) run else run)
    by_end true = each_follows (λ track t. record t { client = ends t.client }) run (each_track (λ track t. record t { client = ends t.client }) run) refl (λ n t. (grows_not t.stream, λ is. is)) (on_not run.queue) (on_not run.pipe.told) (on_not run.pipe.taken)
    by_end false = follows_not run

-- a run goes on with a poll
pub poll_follows : (s : Session) (k : ℕ) (run : Run) → Follows run (with_poll s k run)
unfolding with_poll
poll_follows s k run = record { long = refl; streams = λ n low. grows_not (told_at run n).stream; counted = λ n low is. is; queue = (_, refl); pipe = on_not run.pipe.told; taken = on_not run.pipe.taken }

-- what a mix does to the pipe
abbrev pipe_mixed : EntrySeen → Run → List ServerEvent
pipe_mixed e run = let slot = entry_slot e.entry 0 in server.SawRear slot.rear ∷ server.SawFront (wrapped (length run.pipe.taken)) ∷ takes_shown slot.seen

found_low : (p : ℕ → Bool) (a n k : ℕ) → find p (range_with_len a n) ≡ Some k → k < a + n
found_low p a zero k is = absurd (true≢false (sym (ap is_some is)))
found_low p a (suc n) k is = by_first (p a) (found_low p (a + 1) n k) is
  where
    by_first : (b : Bool) → (find p (range_with_len (a + 1) n) ≡ Some k → k < a + 1 + n) → (if b then Some a else find p (range_with_len (a + 1) n)) ≡ Some k → k < a + suc n
    by_first true later is = let e : a ≡ k = ap (λ (o : Option ℕ). unwrap_or o a) is in omega (arith, e)
    by_first false later is = let l = later is in omega (arith, l)

-- a run goes on with a mix
pub mix_follows : (s : Session) (e : EntrySeen) (run : Run) → length e.frames ≡ taken_before e.entry slots → Follows run (with_mix s e run)
unfolding with_mix
mix_follows s e run long =
    each_follows (mixed_track s (state_for s run e.entry.state) e) run (with_mix s e run) refl (λ n t. by_slot n t (slot_playing (state_for s run e.entry.state) e.entry n) refl) (on_not run.queue) (by_mix (is_mixed e.entry.cycle)) (taken_by_mix (is_mixed e.entry.cycle))
  where
    by_slot : (n : ℕ) (t : TrackTold) (o : Option ℕ) → slot_playing (state_for s run e.entry.state) e.entry n ≡ o
        → (let after : TrackTold = elim o as (λ o. TrackTold) [ None ↦ t | Some i ↦ record t { stream = played (cycle_frames s) e i t.stream } ] in Grows t.stream after.stream × (IsCounted t.stream → IsCounted after.stream))
    by_slot n t None is = (grows_not t.stream, λ c. c)
    by_slot n t (Some i) is = (
      record { shape = refl; moments = map by_server (cycle_events (cycle_frames s) (listed t.stream) (entry_slot e.entry i) (front_of (cycle_frames s) (listed t.stream) (entry_slot e.entry i))); told = refl; words = map packed_word (slot_frames e i); taken = refl },
      λ c. counted_played (cycle_frames s) e i t.stream (let l = found_low (λ i. shows_slot (state_for s run e.entry.state) e.entry i && ((slot_of (state_for s run e.entry.state) i).track == n)) 0 slots i is in omega (arith, l)) long c,
    )

    by_mix : (b : Bool) → GoesOn run.pipe.told (if b then record run.pipe { told = run.pipe.told ++ map two (pipe_mixed e run); taken = run.pipe.taken ++ map packed_word (slot_frames e 0) } else run.pipe).told
    by_mix true = (_, refl)
    by_mix false = on_not run.pipe.told

    taken_by_mix : (b : Bool) → GoesOn run.pipe.taken (if b then record run.pipe { told = run.pipe.told ++ map two (pipe_mixed e run); taken = run.pipe.taken ++ map packed_word (slot_frames e 0) } else run.pipe).taken
    taken_by_mix true = (_, refl)
    taken_by_mix false = on_not run.pipe.taken

-- a run goes on with a cycle
pub cycle_follows : (s : Session) (run : Run) (e : EntrySeen) → length e.frames ≡ taken_before e.entry slots → Follows run (cycle_alone s run e)
cycle_follows s run e long =
    let polled = with_poll s e.entry.state run in
    follows_then run polled (cycle_alone s run e) (poll_follows s e.entry.state run) (follows_then polled (met s polled) (cycle_alone s run e) (met_follows s polled) (mix_follows s e (met s polled) long))

-- a run goes on with a load
load_follows : (e : Turn) (run : Run) → Follows run (with_load e run)
unfolding with_load
load_follows e run = record { long = refl; streams = λ n low. grows_not (told_at run n).stream; counted = λ n low is. is; queue = on_not run.queue; pipe = on_not run.pipe.told; taken = on_not run.pipe.taken }

form_takes : (many : ℕ) (e : Turn) → IsTurn many e → All (IsTake many) e.mixes
form_takes many e (inl ended) = subst (λ (t : Turn). All (IsTake many) t.mixes) (sym ended) (All-nil (IsTake many))
form_takes many e (inr open_is) = open_is.takes

pub turn_follows : (s : Session) (f : TurnFound) (e : Turn) (many : ℕ) (run : Run) → IsTurn many e → Follows run (with_load e (with_turn s f e run))
unfolding with_turn
turn_follows s f e many run form =
    let c = setup_of s in
    let o = outside_of c f e in
    follows_then run (with_turn s f e run) (with_load e (with_turn s f e run))
    (each_follows (turned_track c o run.normal e) run (with_turn s f e run) refl
    (λ n t. (
      record { shape = refl; moments = map by_hand (hand_events_of e n) ++ map by_server (stream_list c o e (tracks_at c (learnt o) run.normal e n) n); told = more_then t.stream.told (map by_hand (hand_events_of e n)) (map by_server (stream_list c o e (tracks_at c (learnt o) run.normal e n) n)); words = _; taken = refl },
      counted_turn c o many run.normal e n t.stream (form_takes many e form),
    ))
    (_, refl) (_, refl) (on_not run.pipe.taken))
    (load_follows e (with_turn s f e run))
