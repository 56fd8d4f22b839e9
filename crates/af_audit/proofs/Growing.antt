-- What the lists of a run's servers show only grows from step to step of a run.
use Rattle.std.proofs.Common.{◌≡◌, inl, inr, ℕ, ◌<◌, ◌≤◌, List, ◌++◌, length, Option, Some, None, refl, sym, ap, ◌∙◌, arith}
use Rattle.af_audit.proofs.Common.{EntrySeen, RoundSeen, Run, Session, TrackTold, Turn, TurnFound, called_in_turn, calls_in, cases_lt, cycle_beside, cycles_beside, each_long, get_or_past, loaded, met, met_many, mixed_track, no_track, outside_of, server_append, server_list, server_of, setup_of, state_for, told_at, turned, turned_track, with_calls, with_cycle, with_cycles, with_ends, with_load, with_mix, with_turn}
use Rattle.af_audit.proofs.Grown.{RunGrows as TrackGrows, calls_grow, cycle_grows, cycles_grow, ends_grow, load_grows, meet_grows, mix_grows, run_none, run_twice, turn_grows}
use Rattle.af_audit.proofs.SparedTold.{ends_many}
use Rattle.af_audit.proofs.Measure.{Measure, of_run}

-- each track's blocks have grown
pub record RunGrows (a b : Run) : Type 0 where
  pub many : length b.tracks ≡ length a.tracks
  pub tracks : (n : ℕ) → n < length a.tracks → TrackGrows n a b

pub run_both : (a b c : Run) → RunGrows a b → RunGrows b c → RunGrows a c
run_both a b c first next = record {
  many = next.many ∙ first.many;
  tracks = λ n low. run_twice n a b c (first.tracks n low) (next.tracks n (let m = first.many in omega (arith, m, low)));
}

-- what the list of a track's server shows grows
pub track_told : (measure : Measure) (a b : Run) (n : ℕ) → TrackGrows n a b → of_run measure a n ≤ of_run measure b n
track_told measure a b n g =
    let grown = g.track.stream in
    let list : server_list (told_at b n).stream ≡ server_list (told_at a n).stream ++ server_of grown.more = ap server_of grown.told ∙ server_append grown.more (told_at a n).stream.told in
    let same : of_run measure b n ≡ measure.of_list (told_at a n).stream.shape (server_list (told_at a n).stream ++ server_of grown.more) = (λ i. measure.of_list (grown.shape i) (list i)) in
    let more = measure.grows (told_at a n).stream.shape (server_list (told_at a n).stream) (server_of grown.more) in
    omega (arith, same, more)

pub run_told : (measure : Measure) (a b : Run) → RunGrows a b → (n : ℕ) → of_run measure a n ≤ of_run measure b n
run_told measure a b g n = elim (cases_lt n (length a.tracks)) as (λ x. of_run measure a n ≤ of_run measure b n) [
  | inl low ↦ track_told measure a b n (g.tracks n low)
  | inr high ↦ (let m = g.many in
      let one : told_at a n ≡ no_track = get_or_past a.tracks n no_track (omega (arith, high)) in
      let two : told_at b n ≡ no_track = get_or_past b.tracks n no_track (omega (arith, high, m)) in
      let same : of_run measure a n ≡ of_run measure b n = ap (λ (t : TrackTold). measure.of_list t.stream.shape (server_list t.stream)) (one ∙ sym two) in
      omega (arith, same))
]

mix_many : (s : Session) (e : EntrySeen) (run : Run) → length (with_mix s e run).tracks ≡ length run.tracks
unfolding with_mix
mix_many s e run = each_long (mixed_track s (state_for s run e.entry.state) e) 0 run.tracks

module _ (s : Session) where
  pub grows_calls : (round : RoundSeen) (run : Run) → RunGrows run (with_calls round run)
  unfolding with_calls
  grows_calls round run = record { many = each_long (λ track t. called_in_turn (calls_in round track) t) 0 run.tracks; tracks = λ n low. calls_grow n round run low }

  pub grows_mix : (e : EntrySeen) (run : Run) → RunGrows run (with_mix s e run)
  grows_mix e run = record { many = mix_many s e run; tracks = λ n low. mix_grows n s e run low }

  pub grows_cycle : (e : EntrySeen) (run : Run) → RunGrows run (with_cycle s run e)
  grows_cycle e run = record { many = (let b = cycle_beside s run e in b.many); tracks = λ n low. cycle_grows n s e run low }

  pub grows_cycles : (es : List EntrySeen) (run : Run) → RunGrows run (with_cycles s es run)
  grows_cycles es run = record { many = (let b = cycles_beside s es run in b.many); tracks = λ n low. cycles_grow n s es run low }

  pub grows_turned : (found : Turn → TurnFound) (o : Option Turn) (run : Run) → RunGrows run (turned s found o run)
  unfolding with_turn
  grows_turned found None run = record { many = refl; tracks = λ n low. run_none n run low }
  grows_turned found (Some e) run = record { many = each_long (turned_track (setup_of s) (outside_of (setup_of s) (found e) e) run.normal e) 0 run.tracks; tracks = λ n low. turn_grows n s found (Some e) run low }

  pub grows_loaded : (o : Option Turn) (run : Run) → RunGrows run (loaded o run)
  unfolding with_load
  grows_loaded None run = record { many = refl; tracks = λ n low. run_none n run low }
  grows_loaded (Some e) run = record { many = refl; tracks = λ n low. load_grows n (Some e) run low }

  pub grows_met : (run : Run) → RunGrows run (met s run)
  grows_met run = record { many = met_many s run; tracks = λ n low. meet_grows n s run low }

  pub grows_ends : (run : Run) → RunGrows run (with_ends run)
  grows_ends run = record { many = ends_many run; tracks = λ n low. ends_grow n run low }
