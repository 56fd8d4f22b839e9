-- The command blocks of a turn run, and the stream blocks that are tame so far, are told in phases: what each step leaves of them.
use Rattle.std.proofs.Common.{◌≡◌, ℕ, zero, suc, ◌+◌, ◌<◌, ◌==◌, ◌&&◌, ◌||◌, Bool, true, false, true≢false, if◌then◌else◌, is_some, map, length, drop, Option, Some, None, refl, sym, ap, ◌∙◌, subst, arith, ◌≤◌}
use Rattle.af_turn_law.proofs.Common.{EntrySeen, FastState, LegalEntry, Marks, RoundSeen, Run, Session, TrackTold, after_calls, by_client, by_server, calls_alone, calls_in, carries, client_list, cycle_alone, cycle_events, cycle_frames, changed_from, each_long, each_track, ends, entry_slot, find, is_home, is_within, list_any, listed, met, met_many, mixed_track, played, range_with_len, sides_of, slot_of, slots, state_at, state_for, takes_part, told_at, told_each, track_at, with_ends, with_mix, with_poll, or_left, or_right}
use Rattle.af_runs.specs.Fronts.{front_of, is_shown}
use Rattle.af_runs.specs.Runs.{called_in_turn, shows_slot, slot_playing}
use Rattle.af_judge.proofs.BlocksMeet.{met_at}
use Rattle.af_turn_law.proofs.Basics.{tame_met}
use Rattle.af_turn_law.proofs.BlockSteps.{Ready, Done, told_more, rest_done, client_done, server_done, block_met}
use Rattle.af_turn_law.proofs.BlocksTame.{StreamReady, StreamDone, tame_told}
use Rattle.af_turn_law.proofs.PlainLists.{plain_turn, plain_cycle}
use Rattle.af_runs.proofs.StatesFor.{polled_pushed}

-- how the blocks stand between two rounds
pub record RunReady (s : Session) (run : Run) : Type 0 where
  pub streams : (n : ℕ) → n < length run.tracks → StreamReady (takes_part s run n) run.handed (told_at run n)
  pub commands : (n : ℕ) → n < length run.tracks → Ready true false (told_at run n).commands.told

-- how the blocks stand before the meetings
pub record RunDone (s : Session) (run : Run) : Type 0 where
  pub streams : (n : ℕ) → n < length run.tracks → StreamDone (takes_part s run n) run.handed (told_at run n)
  pub commands : (n : ℕ) → n < length run.tracks → Done true false (told_at run n).commands.told

pub nothing_done : (s : Session) (run : Run) → RunReady s run → RunDone s run
nothing_done s run h = record {
  streams = λ n low tame. rest_done (takes_part s run n) (takes_part s run n) run.handed (told_at run n).stream.told (h.streams n low tame);
  commands = λ n low. rest_done true true false (told_at run n).commands.told (h.commands n low);
}

-- ## Meetings

pub run_met : (s : Session) (run : Run) → RunDone s run → RunReady s (met s run)
unfolding met
run_met s run h = record {
  streams = λ n low. streams_met n (let m = met_many s run in omega (arith, low, m));
  commands = λ n low. commands_met n (let m = met_many s run in omega (arith, low, m));
}
  where
    streams_met : (n : ℕ) → n < length run.tracks → StreamReady (takes_part s (met s run) n) (met s run).handed (told_at (met s run) n)
    streams_met n low = subst (StreamReady (takes_part s run n) run.handed) (sym (met_at s run n low))
        (λ tame. block_met (takes_part s run n) run.handed (told_at run n).stream (h.streams n low (tame_met (takes_part s run n) run.handed (told_at run n).stream tame)))

    commands_met : (n : ℕ) → n < length run.tracks → Ready true false (told_at (met s run) n).commands.told
    commands_met n low = subst (λ (t : TrackTold). Ready true false t.commands.told) (sym (met_at s run n low)) (block_met true false (told_at run n).commands (h.commands n low))

pub run_ends : (s : Session) (run : Run) → RunReady s run → RunReady s (with_ends run)
unfolding with_ends
run_ends s run h = by_end run.normal.ended
  where
    change : ℕ → TrackTold → TrackTold
    change track t = record t { client = ends t.client }

    many : length (changed_from change 0 run.tracks) ≡ length run.tracks
    many = each_long change 0 run.tracks

    by_end : (b : Bool) → RunReady s (if b then each_track (λ track t. record t { client = ends t.client }) run else run)
    by_end true = record {
      streams = λ n low. subst (StreamReady (takes_part s run n) run.handed) (sym (told_each change run n (let m = many in omega (arith, low, m)))) (h.streams n (let m = many in omega (arith, low, m)));
      commands = λ n low. subst (λ (t : TrackTold). Ready true false t.commands.told) (sym (told_each change run n (let m = many in omega (arith, low, m)))) (h.commands n (let m = many in omega (arith, low, m)));
    }
    by_end false = h

-- ## A client's turn

module _ (s : Session) (track : ℕ) (round : RoundSeen) (run : Run) (h : RunReady s run) where
  abbrev called_track : ℕ → TrackTold → TrackTold
  called_track number t = if number == track then called_in_turn (calls_in round track) t else t

  stream_called : (n : ℕ) (b : Bool) (t : TrackTold) → StreamReady (takes_part s run n) run.handed t → StreamDone (takes_part s run n) run.handed (if b then called_in_turn (calls_in round track) t else t)
  stream_called n true t ready tame =
      let es = drop (length (client_list t.stream)) (after_calls (sides_of t) (calls_in round track)).stream.events in
      client_done (takes_part s run n) (takes_part s run n) run.handed es t.stream.told
      (plain_turn (sides_of t) t.stream t.commands (calls_in round track) refl refl).0 (ready (tame_told t.stream.told (map by_client es) tame))
  stream_called n false t ready tame = rest_done (takes_part s run n) (takes_part s run n) run.handed t.stream.told (ready tame)

  commands_called : (b : Bool) (t : TrackTold) → Ready true false t.commands.told → Done true false (if b then called_in_turn (calls_in round track) t else t).commands.told
  commands_called true t ready =
      client_done true true false (drop (length (client_list t.commands)) (after_calls (sides_of t) (calls_in round track)).commands.events) t.commands.told
      (plain_turn (sides_of t) t.stream t.commands (calls_in round track) refl refl).1 ready
  commands_called false t ready = rest_done true true false t.commands.told ready

  many_called : length (calls_alone track round run).tracks ≡ length run.tracks
  many_called = each_long called_track 0 run.tracks

  pub run_calls : RunDone s (calls_alone track round run)
  run_calls = record {
    streams = λ n low. (let below : n < length run.tracks = (let m = many_called in omega (arith, low, m)) in
        subst (StreamDone (takes_part s run n) run.handed) (sym (told_each called_track run n below)) (stream_called n (n == track) (told_at run n) (h.streams n below)));
    commands = λ n low. (let below : n < length run.tracks = (let m = many_called in omega (arith, low, m)) in
        subst (λ (t : TrackTold). Done true false t.commands.told) (sym (told_each called_track run n below)) (commands_called (n == track) (told_at run n) (h.commands n below)));
  }

-- ## A fast cycle

-- the first poll may change who takes part
poll_first : (s : Session) (k : ℕ) (run : Run) → RunReady s run → RunDone s (with_poll s k run)
unfolding with_poll
poll_first s k run h = record {
  streams = λ n low tame. rest_done (takes_part s run n) (takes_part s (with_poll s k run) n) run.handed (told_at run n).stream.told (h.streams n low tame);
  commands = λ n low. rest_done true true false (told_at run n).commands.told (h.commands n low);
}

-- who takes part if the observer has the state of a number
abbrev pub part_at : Session → Run → ℕ → ℕ → Bool
part_at s run n c = is_home (track_at run.normal.tracks n).holder || (let x = state_at (cycle_frames s) run.states c in list_any (λ i. carries x i && ((slot_of x i).track == n)) (range_with_len 0 slots))

-- a later poll finds the same state
poll_again : (s : Session) (k : ℕ) (run : Run) → (with_poll s k run).current ≡ run.current → RunDone s run → RunDone s (with_poll s k run)
unfolding with_poll
poll_again s k run same h = record {
  streams = λ n low. subst (λ part. StreamDone part run.handed (told_at run n)) (sym (ap (part_at s run n) same)) (h.streams n low);
  commands = h.commands;
}

-- whoever is played takes part
abbrev pub PlaysParts : Session → EntrySeen → Run → Type 0
PlaysParts s e run = (n i : ℕ) → slot_playing (state_for s run e.entry.state) e.entry n ≡ Some i → takes_part s run n ≡ true

run_mix : (s : Session) (e : EntrySeen) (run : Run) → PlaysParts s e run → RunReady s run → RunDone s (with_mix s e run)
unfolding with_mix
run_mix s e run parts h = record {
  streams = λ n low. (let below : n < length run.tracks = (let m = many in omega (arith, low, m)) in
      subst (StreamDone (takes_part s run n) run.handed) (sym (told_each (mixed_track s x e) run n below)) (stream_mixed n (slot_playing x e.entry n) (parts n) (told_at run n) (h.streams n below)));
  commands = λ n low. (let below : n < length run.tracks = (let m = many in omega (arith, low, m)) in
      subst (λ (t : TrackTold). Done true false t.commands.told) (sym (told_each (mixed_track s x e) run n below)) (commands_mixed (slot_playing x e.entry n) (told_at run n) (h.commands n below)));
}
  where
    x : FastState
    x = state_for s run e.entry.state

    many : length (changed_from (mixed_track s x e) 0 run.tracks) ≡ length run.tracks
    many = each_long (mixed_track s x e) 0 run.tracks

    with_slot : Option ℕ → TrackTold → TrackTold
    with_slot o t = elim o as (λ o. TrackTold) [ None ↦ t | Some i ↦ record t { stream = played (cycle_frames s) e i t.stream } ]

    stream_mixed : (n : ℕ) (o : Option ℕ) → ((i : ℕ) → o ≡ Some i → takes_part s run n ≡ true) → (t : TrackTold) → StreamReady (takes_part s run n) run.handed t → StreamDone (takes_part s run n) run.handed (with_slot o t)
    stream_mixed n None part t ready tame = rest_done (takes_part s run n) (takes_part s run n) run.handed t.stream.told (ready tame)
    stream_mixed n (Some i) part t ready tame =
        let slot = entry_slot e.entry i in
        let es = cycle_events (cycle_frames s) (listed t.stream) slot (front_of (cycle_frames s) (listed t.stream) slot) in
        subst (λ part. Done part run.handed (told_more t.stream.told (map by_server es))) (sym (part i refl))
        (server_done run.handed es t.stream.told (plain_cycle (cycle_frames s) (listed t.stream) slot (front_of (cycle_frames s) (listed t.stream) slot)) (subst (λ part. Ready part run.handed t.stream.told) (part i refl) (ready (tame_told t.stream.told (map by_server es) tame))))

    commands_mixed : (o : Option ℕ) (t : TrackTold) → Ready true false t.commands.told → Done true false (with_slot o t).commands.told
    commands_mixed None t ready = rest_done true true false t.commands.told ready
    commands_mixed (Some i) t ready = rest_done true true false t.commands.told ready

-- ## What a cycle plays is held

found_any : (p q : ℕ → Bool) (a n k : ℕ) → ((i : ℕ) → p i ≡ true → q i ≡ true) → find p (range_with_len a n) ≡ Some k → list_any q (range_with_len a n) ≡ true
found_any p q a zero k imp is = absurd (true≢false (sym (ap is_some is)))
found_any p q a (suc n) k imp is = by_first (p a) refl is (found_any p q (a + 1) n k imp)
  where
    by_first : (b : Bool) → p a ≡ b → (if b then Some a else find p (range_with_len (a + 1) n)) ≡ Some k → (find p (range_with_len (a + 1) n) ≡ Some k → list_any q (range_with_len (a + 1) n) ≡ true) → (q a || list_any q (range_with_len (a + 1) n)) ≡ true
    by_first true is e rest = or_left (q a) (list_any q (range_with_len (a + 1) n)) (imp a is)
    by_first false is e rest = or_right (q a) (list_any q (range_with_len (a + 1) n)) (rest e)

-- after a poll the state of that number, which was pushed, is the one that the observer has
polled_state : (s : Session) (k : ℕ) (run : Run) → k ≤ length run.states → state_for s (with_poll s k run) k ≡ state_at (cycle_frames s) run.states (with_poll s k run).current
unfolding with_poll
polled_state s k run low = polled_pushed s run k low ∙ ap (λ (b : Bool). state_at (cycle_frames s) run.states (if b then k else run.current)) (sym (is_within k (length run.states) low))

pub holds_played : (s : Session) (e : EntrySeen) (run : Run) → e.entry.state ≤ length run.states → PlaysParts s e (met s (with_poll s e.entry.state run))
unfolding met with_poll
holds_played s e run low n i is =
    let k = e.entry.state in
    let x = state_for s (with_poll s k run) k in
    let y = state_at (cycle_frames s) run.states (with_poll s k run).current in
    let any : list_any (λ i. carries x i && ((slot_of x i).track == n)) (range_with_len 0 slots) ≡ true =
    found_any (λ i. shows_slot x e.entry i && ((slot_of x i).track == n)) (λ i. carries x i && ((slot_of x i).track == n)) 0 slots i
    (λ i h. weaker (carries x i) (is_shown (entry_slot e.entry i).seen) ((slot_of x i).track == n) h) is in
    or_right (is_home (track_at run.normal.tracks n).holder) _ (subst (λ (z : FastState). list_any (λ i. carries z i && ((slot_of z i).track == n)) (range_with_len 0 slots) ≡ true) (polled_state s k run low) any)
  where
    weaker : (a b c : Bool) → ((a && b) && c) ≡ true → (a && c) ≡ true
    weaker true true c h = h
    weaker true false c h = absurd (true≢false (sym h))
    weaker false b c h = absurd (true≢false (sym h))

-- a legal cycle's state was pushed
pub alone_pushed : (s : Session) (marks : Marks) (run : Run) (e : EntrySeen) → LegalEntry s marks (met s (with_poll s e.entry.state run)) e → e.entry.state ≤ length run.states
unfolding met with_poll
alone_pushed s marks run e legal = legal.cycle.pushed

-- the first cycle of a turn leaves the blocks in phases
pub cycle_first : (s : Session) (run : Run) (e : EntrySeen) → e.entry.state ≤ length run.states → RunReady s run → RunDone s (cycle_alone s run e)
cycle_first s run e low h = run_mix s e (met s (with_poll s e.entry.state run)) (holds_played s e run low) (run_met s (with_poll s e.entry.state run) (poll_first s e.entry.state run h))

-- a later cycle, which finds the same state, leaves the blocks in phases
pub cycle_again : (s : Session) (run : Run) (e : EntrySeen) → e.entry.state ≤ length run.states → (with_poll s e.entry.state run).current ≡ run.current → RunDone s run → RunDone s (cycle_alone s run e)
cycle_again s run e low same h = run_mix s e (met s (with_poll s e.entry.state run)) (holds_played s e run low) (run_met s (with_poll s e.entry.state run) (poll_again s e.entry.state run same h))
