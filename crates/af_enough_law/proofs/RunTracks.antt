-- What a round makes of one track of a run.
use Rattle.std.proofs.Common.{◌≡◌, ◌⊎◌, inl, inr, ℕ, ◌<◌, Bool, true, false, List, [], ◌∷◌, length, refl, ap, ◌∙◌, arith, Option, Some, None, if◌then◌else◌}
use Rattle.af_enough_law.proofs.Common.{BlockTold, EntrySeen, FastState, NormalKept, RoundSeen, Run, Session, TrackTold, Turn, TurnFound, after_round, after_turn, all_played, before_turn, called_in_turn, calls_in, commands_turned, cycle_frames, each_long, each_track, early_of, ends, found_in, late_of, loaded, meets, met_after, met_many, mixed_track, outside_of, played, setup_of, slot_playing, state_for, told_at, told_each, track_met, turned, turned_track, with_calls, with_cycle, with_cycles, with_ends, with_load, with_looks, with_mix, with_poll, with_turn}
use Rattle.af_judge.proofs.BlocksMeet.{met_at}

-- ## Calls

told_called : (round : RoundSeen) (run : Run) (n : ℕ) → n < length run.tracks → told_at (with_calls round run) n ≡ called_in_turn (calls_in round n) (told_at run n)
unfolding with_calls
told_called round run n lt = told_each (λ track t. called_in_turn (calls_in round track) t) run n lt

pub calls_long : (round : RoundSeen) (run : Run) → length (with_calls round run).tracks ≡ length run.tracks
unfolding with_calls
calls_long round run = each_long (λ track t. called_in_turn (calls_in round track) t) 0 run.tracks

-- ## Ends

ends_if : (b : Bool) (run : Run) → Run
ends_if b run = if b then each_track (λ track t. record t { client = ends t.client }) run else run

if_long : (b : Bool) (run : Run) → length (ends_if b run).tracks ≡ length run.tracks
unfolding ends_if
if_long true run = each_long (λ track t. record t { client = ends t.client }) 0 run.tracks
if_long false run = refl

pub ends_long : (run : Run) → length (with_ends run).tracks ≡ length run.tracks
unfolding with_ends ends_if
ends_long run = if_long run.normal.ended run

if_blocks : (b : Bool) (run : Run) (i : ℕ) → i < length run.tracks → ((told_at (ends_if b run) i).stream ≡ (told_at run i).stream) × ((told_at (ends_if b run) i).commands ≡ (told_at run i).commands)
unfolding ends_if
if_blocks true run i lt = let e = told_each (λ track t. record t { client = ends t.client }) run i lt in (ap (λ (t : TrackTold). t.stream) e, ap (λ (t : TrackTold). t.commands) e)
if_blocks false run i lt = (refl, refl)

pub ends_blocks : (run : Run) (i : ℕ) → i < length run.tracks → ((told_at (with_ends run) i).stream ≡ (told_at run i).stream) × ((told_at (with_ends run) i).commands ≡ (told_at run i).commands)
unfolding with_ends ends_if
ends_blocks run i lt = if_blocks run.normal.ended run i lt

if_client : (b : Bool) (run : Run) (i : ℕ) → i < length run.tracks → ((told_at (ends_if b run) i).client ≡ (told_at run i).client) ⊎ ((told_at (ends_if b run) i).client ≡ ends (told_at run i).client)
unfolding ends_if
if_client true run i lt = inr (ap (λ (t : TrackTold). t.client) (told_each (λ track t. record t { client = ends t.client }) run i lt))
if_client false run i lt = inl refl

ends_client : (run : Run) (i : ℕ) → i < length run.tracks → ((told_at (with_ends run) i).client ≡ (told_at run i).client) ⊎ ((told_at (with_ends run) i).client ≡ ends (told_at run i).client)
unfolding with_ends ends_if
ends_client run i lt = if_client run.normal.ended run i lt

load_tracks : (e : Turn) (run : Run) → (with_load e run).tracks ≡ run.tracks
unfolding with_load
load_tracks e run = refl

pub loaded_tracks : (o : Option Turn) (run : Run) → (loaded o run).tracks ≡ run.tracks
loaded_tracks None run = refl
loaded_tracks (Some e) run = load_tracks e run

module _ (s : Session) where
  -- ## Entries

  looks_track : (e : EntrySeen) (run : Run) (i : ℕ) → i < length run.tracks → told_at (with_looks s e run) i ≡ mixed_track s (state_for s run e.entry.state) e i (told_at run i)
  looks_track e run i lt = told_each (mixed_track s (state_for s run e.entry.state) e) run i lt

  looks_long : (e : EntrySeen) (run : Run) → length (with_looks s e run).tracks ≡ length run.tracks
  looks_long e run = each_long (mixed_track s (state_for s run e.entry.state) e) 0 run.tracks

  pub cycle_track : (run : Run) (e : EntrySeen) (i : ℕ) → i < length run.tracks → told_at (with_cycle s run e) i ≡ mixed_track s (state_for s (with_poll s e.entry.state run) e.entry.state) e i (told_at run i)
  unfolding with_poll with_mix
  cycle_track run e i lt = looks_track e (with_poll s e.entry.state run) i lt

  pub cycle_long : (run : Run) (e : EntrySeen) → length (with_cycle s run e).tracks ≡ length run.tracks
  unfolding with_poll with_mix
  cycle_long run e = looks_long e (with_poll s e.entry.state run)

  pub cycle_normal : (run : Run) (e : EntrySeen) → (with_cycle s run e).normal ≡ run.normal
  unfolding with_poll with_mix
  cycle_normal run e = refl

  -- a track after some entries
  unfoldable pub mixed_by : Run → List EntrySeen → ℕ → TrackTold → TrackTold
  mixed_by run [] i t = t
  mixed_by run (e ∷ es) i t = mixed_by (with_cycle s run e) es i (mixed_track s (state_for s (with_poll s e.entry.state run) e.entry.state) e i t)

  pub cycles_track : (es : List EntrySeen) (run : Run) (i : ℕ) → i < length run.tracks → told_at (with_cycles s es run) i ≡ mixed_by run es i (told_at run i)
  unfolding mixed_by
  cycles_track [] run i lt = refl
  cycles_track (e ∷ es) run i lt =
      cycles_track es (with_cycle s run e) i (let long = cycle_long run e in omega arith) ∙ ap (λ (t : TrackTold). mixed_by (with_cycle s run e) es i t) (cycle_track run e i lt)

  pub cycles_long : (es : List EntrySeen) (run : Run) → length (with_cycles s es run).tracks ≡ length run.tracks
  cycles_long [] run = refl
  cycles_long (e ∷ es) run = cycles_long es (with_cycle s run e) ∙ cycle_long run e

  pub cycles_normal : (es : List EntrySeen) (run : Run) → (with_cycles s es run).normal ≡ run.normal
  cycles_normal [] run = refl
  cycles_normal (e ∷ es) run = cycles_normal es (with_cycle s run e) ∙ cycle_normal run e

  -- a mix changes the stream alone
  mixed_keeps : (x : FastState) (e : EntrySeen) (t : TrackTold) (o : Option ℕ) → let u : TrackTold = elim o as (λ o. TrackTold) [ None ↦ t | Some i ↦ record t { stream = played (cycle_frames s) e i t.stream } ] in
      (u.commands ≡ t.commands) × (u.client ≡ t.client) × (u.file ≡ t.file)
  mixed_keeps x e t None = (refl, refl, refl)
  mixed_keeps x e t (Some i) = (refl, refl, refl)

  pub mixed_commands : (run : Run) (es : List EntrySeen) (i : ℕ) (t : TrackTold) → ((mixed_by run es i t).commands ≡ t.commands) × ((mixed_by run es i t).client ≡ t.client) × ((mixed_by run es i t).file ≡ t.file)
  unfolding mixed_by
  mixed_commands run [] i t = (refl, refl, refl)
  mixed_commands run (e ∷ es) i t =
      let x = state_for s (with_poll s e.entry.state run) e.entry.state in
      let now = mixed_keeps x e t (slot_playing x e.entry i) in
      let rest = mixed_commands (with_cycle s run e) es i (mixed_track s x e i t) in
      (rest.0 ∙ now.0, rest.1 ∙ now.1, rest.2 ∙ now.2)

  -- ## The turn

  pub turn_track : (f : TurnFound) (e : Turn) (run : Run) (i : ℕ) → i < length run.tracks → told_at (with_turn s f e run) i ≡ turned_track (setup_of s) (outside_of (setup_of s) f e) run.normal e i (told_at run i)
  unfolding with_turn
  turn_track f e run i lt = told_each (turned_track (setup_of s) (outside_of (setup_of s) f e) run.normal e) run i lt

  pub turn_long : (f : TurnFound) (e : Turn) (run : Run) → length (with_turn s f e run).tracks ≡ length run.tracks
  unfolding with_turn
  turn_long f e run = each_long (turned_track (setup_of s) (outside_of (setup_of s) f e) run.normal e) 0 run.tracks

  -- a track after the turn, if one was made
  unfoldable pub turned_by : (Turn → TurnFound) → Option Turn → NormalKept → ℕ → TrackTold → TrackTold
  turned_by found None m i t = t
  turned_by found (Some e) m i t = turned_track (setup_of s) (outside_of (setup_of s) (found e) e) m e i t

  -- a command block after the turn, if one was made
  unfoldable pub commands_by : (Turn → TurnFound) → Option Turn → NormalKept → ℕ → BlockTold → BlockTold
  commands_by found None m i b = b
  commands_by found (Some e) m i b = commands_turned (setup_of s) (outside_of (setup_of s) (found e) e) m e i b

  turned_commands : (found : Turn → TurnFound) (o : Option Turn) (m : NormalKept) (i : ℕ) (t : TrackTold) → (turned_by found o m i t).commands ≡ commands_by found o m i t.commands
  unfolding turned_by commands_by
  turned_commands found None m i t = refl
  turned_commands found (Some e) m i t = refl

  turned_client : (found : Turn → TurnFound) (o : Option Turn) (m : NormalKept) (i : ℕ) (t : TrackTold) → (turned_by found o m i t).client ≡ t.client
  unfolding turned_by
  turned_client found None m i t = refl
  turned_client found (Some e) m i t = refl

  pub turned_is : (found : Turn → TurnFound) (o : Option Turn) (run : Run) (i : ℕ) → i < length run.tracks → told_at (turned s found o run) i ≡ turned_by found o run.normal i (told_at run i)
  unfolding turned_by
  turned_is found None run i lt = refl
  turned_is found (Some e) run i lt = turn_track (found e) e run i lt

  pub turned_long : (found : Turn → TurnFound) (o : Option Turn) (run : Run) → length (turned s found o run).tracks ≡ length run.tracks
  turned_long found None run = refl
  turned_long found (Some e) run = turn_long (found e) e run

  -- ## The round

  module _ (run : Run) (round : RoundSeen) where
    -- a track once all played
    unfoldable pub played_track : ℕ → TrackTold → TrackTold
    played_track i t = mixed_by (after_turn s run round) (late_of run round) i (turned_by (found_in s run round) round.turn run.normal i (mixed_by (with_calls round run) (early_of run round) i (called_in_turn (calls_in round i) t)))

    calls_normal : (with_calls round run).normal ≡ run.normal
    unfolding with_calls
    calls_normal = refl

    before_normal : (before_turn s run round).normal ≡ run.normal
    before_normal = cycles_normal (early_of run round) (with_calls round run) ∙ calls_normal

    pub before_long : length (before_turn s run round).tracks ≡ length run.tracks
    before_long = cycles_long (early_of run round) (with_calls round run) ∙ calls_long round run

    after_long : length (after_turn s run round).tracks ≡ length run.tracks
    after_long = turned_long (found_in s run round) round.turn (before_turn s run round) ∙ before_long

    pub all_played_track : (i : ℕ) → i < length run.tracks → told_at (all_played s run round) i ≡ played_track i (told_at run i)
    unfolding played_track
    all_played_track i lt =
        let b = before_long in
        let a = after_long in
        let c = calls_long round run in
        ap (λ (ts : List TrackTold). told_at (record run { tracks = ts }) i) (loaded_tracks round.turn (with_cycles s (late_of run round) (after_turn s run round)))
        ∙ cycles_track (late_of run round) (after_turn s run round) i (omega arith)
        ∙ ap (λ (t : TrackTold). mixed_by (after_turn s run round) (late_of run round) i t)
        (turned_is (found_in s run round) round.turn (before_turn s run round) i (omega arith)
        ∙ (λ j. turned_by (found_in s run round) round.turn (before_normal j) i ((cycles_track (early_of run round) (with_calls round run) i (omega arith) ∙ ap (λ (t : TrackTold). mixed_by (with_calls round run) (early_of run round) i t) (told_called round run i lt)) j)))

    -- what is played leaves the client as its calls did
    pub played_client : (i : ℕ) (t : TrackTold) → (played_track i t).client ≡ (called_in_turn (calls_in round i) t).client
    unfolding played_track
    played_client i t =
        let early = mixed_by (with_calls round run) (early_of run round) i (called_in_turn (calls_in round i) t) in
        (mixed_commands (after_turn s run round) (late_of run round) i (turned_by (found_in s run round) round.turn run.normal i early)).1
        ∙ turned_client (found_in s run round) round.turn run.normal i early
        ∙ (mixed_commands (with_calls round run) (early_of run round) i (called_in_turn (calls_in round i) t)).1

    -- of the command block only the turn changes what the client's calls left
    pub played_commands : (i : ℕ) (t : TrackTold) → (played_track i t).commands ≡ commands_by (found_in s run round) round.turn run.normal i (called_in_turn (calls_in round i) t).commands
    unfolding played_track
    played_commands i t =
        let early = mixed_by (with_calls round run) (early_of run round) i (called_in_turn (calls_in round i) t) in
        (mixed_commands (after_turn s run round) (late_of run round) i (turned_by (found_in s run round) round.turn run.normal i early)).0
        ∙ turned_commands (found_in s run round) round.turn run.normal i early
        ∙ ap (λ (b : BlockTold). commands_by (found_in s run round) round.turn run.normal i b) (mixed_commands (with_calls round run) (early_of run round) i (called_in_turn (calls_in round i) t)).0

    -- ## The meetings and the ends

    loads_long : length (all_played s run round).tracks ≡ length run.tracks
    loads_long = ap (λ (ts : List TrackTold). length ts) (loaded_tracks round.turn (with_cycles s (late_of run round) (after_turn s run round))) ∙ cycles_long (late_of run round) (after_turn s run round) ∙ after_long

    pub met_track : (i : ℕ) → i < length run.tracks → told_at (met_after s run round) i ≡ track_met s (all_played s run round) i (played_track i (told_at run i))
    met_track i lt = met_at s (all_played s run round) i (let l = loads_long in omega arith) ∙ ap (λ (t : TrackTold). track_met s (all_played s run round) i t) (all_played_track i lt)

    pub round_long : length (after_round s run round).tracks ≡ length run.tracks
    round_long = ends_long (met_after s run round) ∙ met_many s (all_played s run round) ∙ loads_long

    -- the blocks after the round are those after the meetings
    pub round_blocks : (i : ℕ) → i < length run.tracks → ((told_at (after_round s run round) i).stream ≡ (told_at (met_after s run round) i).stream) × ((told_at (after_round s run round) i).commands ≡ (told_at (met_after s run round) i).commands)
    round_blocks i lt = ends_blocks (met_after s run round) i (let a = met_many s (all_played s run round) in let b = loads_long in omega arith)

    -- a client that hasn't ended before the normal mixer does is the one that its calls left
    pub round_client : (i : ℕ) → i < length run.tracks → ((told_at (after_round s run round) i).client ≡ (called_in_turn (calls_in round i) (told_at run i)).client) ⊎ ((told_at (after_round s run round) i).client ≡ ends (called_in_turn (calls_in round i) (told_at run i)).client)
    round_client i lt =
        let same : (told_at (met_after s run round) i).client ≡ (called_in_turn (calls_in round i) (told_at run i)).client = ap (λ (t : TrackTold). t.client) (met_track i lt) ∙ played_client i (told_at run i) in
        elim (ends_client (met_after s run round) i (let a = met_many s (all_played s run round) in let b = loads_long in omega arith)) as (λ _. ((told_at (after_round s run round) i).client ≡ (called_in_turn (calls_in round i) (told_at run i)).client) ⊎ ((told_at (after_round s run round) i).client ≡ ends (called_in_turn (calls_in round i) (told_at run i)).client)) [
          | inl still ↦ inl (still ∙ same)
          | inr over ↦ inr (over ∙ ap ends same)
        ]

    -- the command block after the round: its client's calls, the turn, and the meeting
    pub round_commands : (i : ℕ) → i < length run.tracks → (told_at (after_round s run round) i).commands ≡ meets (commands_by (found_in s run round) round.turn run.normal i (called_in_turn (calls_in round i) (told_at run i)).commands)
    round_commands i lt = (round_blocks i lt).1 ∙ ap (λ (t : TrackTold). t.commands) (met_track i lt) ∙ ap meets (played_commands i (told_at run i))
