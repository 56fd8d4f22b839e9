-- What each step of a run keeps of every track, whole rounds keep: rounds of all parties, and rounds of one.
use Rattle.std.proofs.Common.{◌≡◌, ℕ, ◌<◌, ◌==◌, Bool, true, false, if◌then◌else◌, List, [], ◌∷◌, length, fold, refl, sym, ap, ◌∙◌, subst, arith, eqb-true, Option, Some, None}
use Rattle.af_enough_law.proofs.Common.{EntrySeen, NormalKept, Outside, RoundSeen, Run, Session, Setup, TrackTold, Turn, TurnFound, TurnSpec, after_round, after_turn, all_played, before_turn, called_in_turn, calls_alone, calls_in, changed_from, cycle_alone, cycle_frames, each_at, each_long, each_track, early_of, ends, found_before, found_in, late_of, loaded, made_alone, meets, met, met_after, mixed_track, no_track, outside_of, played, setup_of, slice_index_or, slot_playing, state_for, stream_met, takes_part, told_at, track_met, turned, turned_track, with_calls, with_cycle, with_cycles, with_ends, with_load, with_mix, with_poll, with_turn, met_alone}
use Rattle.af_script.specs.declared.op.TurnSpec.TheVariants as makes

-- each track of a run has a property, which may rest on its number
abbrev pub AllTracks : (ℕ → TrackTold → Type 0) → Run → Type 0
AllTracks P run = (n : ℕ) → n < length run.tracks → P n (told_at run n)

-- A property is kept by all that is no client's call: by the frames that a slot plays, the normal mixer's turn, the meetings, and the client's end
pub record IsQuietlyKept (P : ℕ → TrackTold → Type 0) : Type 0 where
  pub slot_plays : (asked : ℕ) (e : EntrySeen) (slot n : ℕ) (t : TrackTold) → P n t → P n (record t { stream = played asked e slot t.stream })
  pub turns : (c : Setup) (o : Outside) (m : NormalKept) (e : Turn) (n : ℕ) (t : TrackTold) → P n t → P n (turned_track c o m e n t)
  pub all_meet : (part handed : Bool) (n : ℕ) (t : TrackTold) → P n t → P n (record t { stream = stream_met part handed t.stream; commands = meets t.commands })
  pub client_ends : (n : ℕ) (t : TrackTold) → P n t → P n (record t { client = ends t.client })

-- what holds of one track alone
pub only_at : (P : TrackTold → Type 0) (i : ℕ) → IsQuietlyKept (λ n. P) → IsQuietlyKept (λ n t. n ≡ i → P t)
only_at P i k = record {
  slot_plays = λ asked e slot n t h here. k.slot_plays asked e slot n t (h here);
  turns = λ c o m e n t h here. k.turns c o m e n t (h here);
  all_meet = λ part handed n t h here. k.all_meet part handed n t (h here);
  client_ends = λ n t h here. k.client_ends n t (h here);
}

module _ (P : ℕ → TrackTold → Type 0) where
  -- what a change of each track keeps
  pub each_keeps : (change : ℕ → TrackTold → TrackTold) (run after : Run) → after.tracks ≡ changed_from change 0 run.tracks → ((n : ℕ) → n < length run.tracks → P n (told_at run n) → P n (change n (told_at run n))) → AllTracks P run → AllTracks P after
  each_keeps change run after is each h n low =
      let few : n < length run.tracks = (let l = ap (λ (ts : List TrackTold). length ts) is ∙ each_long change 0 run.tracks in omega (arith, l, low)) in
      subst (P n) (sym (ap (λ (ts : List TrackTold). slice_index_or ts n no_track) is ∙ each_at change 0 run.tracks n n no_track few (omega arith))) (each n few (h n few))

  -- the calls of all clients in a round
  pub calls_keep : (round : RoundSeen) (run : Run) → ((n : ℕ) → n < length run.tracks → P n (told_at run n) → P n (called_in_turn (calls_in round n) (told_at run n))) → AllTracks P run → AllTracks P (with_calls round run)
  unfolding with_calls
  calls_keep round run = each_keeps (λ track t. called_in_turn (calls_in round track) t) run (with_calls round run) refl

  -- the calls of one client alone
  pub calls_alone_keep : (track : ℕ) (round : RoundSeen) (run : Run) → (track < length run.tracks → P track (told_at run track) → P track (called_in_turn (calls_in round track) (told_at run track))) → AllTracks P run → AllTracks P (calls_alone track round run)
  calls_alone_keep track round run called =
      each_keeps (λ number t. if number == track then called_in_turn (calls_in round track) t else t) run (calls_alone track round run) refl (λ n. by_track n (n == track) refl)
    where
      by_track : (n : ℕ) (b : Bool) → (n == track) ≡ b → n < length run.tracks → P n (told_at run n) → P n (if b then called_in_turn (calls_in round track) (told_at run n) else told_at run n)
      by_track n true same low h = subst (λ (k : ℕ). k < length run.tracks → P k (told_at run k) → P k (called_in_turn (calls_in round track) (told_at run k))) (sym (eqb-true n track same)) called low h
      by_track n false other low h = h

module _ (P : ℕ → TrackTold → Type 0) (k : IsQuietlyKept P) (s : Session) where
  pub met_keeps : (run : Run) → AllTracks P run → AllTracks P (met s run)
  unfolding met
  met_keeps run = each_keeps P (track_met s run) run (met s run) refl (λ n low. k.all_meet (takes_part s run n) run.handed n (told_at run n))

  pub ends_keep : (run : Run) → AllTracks P run → AllTracks P (with_ends run)
  unfolding with_ends
  ends_keep run h = by_end run.normal.ended
    where
      by_end : (b : Bool) → AllTracks P (if b then each_track (λ track t. record t { client = ends t.client }) run else run)
      by_end true = each_keeps P (λ track t. record t { client = ends t.client }) run (each_track (λ track t. record t { client = ends t.client }) run) refl (λ n low. k.client_ends n (told_at run n)) h
      by_end false = h

  pub poll_keeps : (number : ℕ) (run : Run) → AllTracks P run → AllTracks P (with_poll s number run)
  unfolding with_poll
  poll_keeps number run h = h

  pub mix_keeps : (e : EntrySeen) (run : Run) → AllTracks P run → AllTracks P (with_mix s e run)
  unfolding with_mix
  mix_keeps e run = each_keeps P (mixed_track s (state_for s run e.entry.state) e) run (with_mix s e run) refl (λ n low. by_slot n (slot_playing (state_for s run e.entry.state) e.entry n) (told_at run n))
    where
      by_slot : (n : ℕ) (o : Option ℕ) (t : TrackTold) → P n t → P n (elim o as (λ o. TrackTold) [ None ↦ t | Some i ↦ record t { stream = played (cycle_frames s) e i t.stream } ])
      by_slot n None t h = h
      by_slot n (Some i) t h = k.slot_plays (cycle_frames s) e i n t h

  cycles_keep : (entries : List EntrySeen) (run : Run) → AllTracks P run → AllTracks P (with_cycles s entries run)
  cycles_keep [] run h = h
  cycles_keep (e ∷ entries) run h = cycles_keep entries (with_cycle s run e) (mix_keeps e (with_poll s e.entry.state run) (poll_keeps e.entry.state run h))

  cycles_alone_keep : (entries : List EntrySeen) (run : Run) → AllTracks P run → AllTracks P (fold (cycle_alone s) run entries)
  cycles_alone_keep [] run h = h
  cycles_alone_keep (e ∷ entries) run h =
      let polled = with_poll s e.entry.state run in
      cycles_alone_keep entries (cycle_alone s run e) (mix_keeps e (met s polled) (met_keeps polled (poll_keeps e.entry.state run h)))

  turn_keeps : (f : TurnFound) (e : Turn) (run : Run) → AllTracks P run → AllTracks P (with_turn s f e run)
  unfolding with_turn
  turn_keeps f e run = each_keeps P (turned_track (setup_of s) (outside_of (setup_of s) f e) run.normal e) run (with_turn s f e run) refl (λ n low. k.turns (setup_of s) (outside_of (setup_of s) f e) run.normal e n (told_at run n))

  turned_keeps : (found : Turn → TurnFound) (o : Option Turn) (run : Run) → AllTracks P run → AllTracks P (turned s found o run)
  turned_keeps found None run h = h
  turned_keeps found (Some e) run h = turn_keeps (found e) e run h

  load_keeps : (e : Turn) (run : Run) → AllTracks P run → AllTracks P (with_load e run)
  unfolding with_load
  load_keeps e run h = h

  loaded_keeps : (o : Option Turn) (run : Run) → AllTracks P run → AllTracks P (loaded o run)
  loaded_keeps None run h = h
  loaded_keeps (Some e) run h = load_keeps e run h

  -- a round of all parties keeps what its clients' calls keep
  pub round_keeps : (run : Run) (round : RoundSeen) → ((n : ℕ) → n < length run.tracks → P n (told_at run n) → P n (called_in_turn (calls_in round n) (told_at run n))) → AllTracks P run → AllTracks P (after_round s run round)
  round_keeps run round called h =
      let before = cycles_keep (early_of run round) (with_calls round run) (calls_keep P round run called h) in
      let after = turned_keeps (found_in s run round) round.turn (before_turn s run round) before in
      let late = cycles_keep (late_of run round) (after_turn s run round) after in
      let all = loaded_keeps round.turn (with_cycles s (late_of run round) (after_turn s run round)) late in
      ends_keep (met_after s run round) (met_keeps (all_played s run round) all)

  -- one party's turn keeps what its calls keep, if it is a client's
  pub made_keeps : (run : Run) (turn : TurnSpec) (round : RoundSeen) → ((track : ℕ) → turn ≡ makes.Client track → track < length run.tracks → P track (told_at run track) → P track (called_in_turn (calls_in round track) (told_at run track)))
      → AllTracks P run → AllTracks P (made_alone s run turn round)
  made_keeps run (makes.Client track) round called h = calls_alone_keep P track round run (called track refl) h
  made_keeps run makes.Normal round called h = loaded_keeps round.turn (turned s (found_before s run []) round.turn run) (turned_keeps (found_before s run []) round.turn run h)
  made_keeps run (makes.Fast cycles) round called h = cycles_alone_keep round.entries run h

  -- and so does its whole round
  pub round_alone_keeps : (run : Run) (turn : TurnSpec) (round : RoundSeen) → ((track : ℕ) → turn ≡ makes.Client track → track < length run.tracks → P track (told_at run track) → P track (called_in_turn (calls_in round track) (told_at run track)))
      → AllTracks P run → AllTracks P (with_ends (met_alone s run turn round))
  round_alone_keeps run turn round called h = ends_keep (met_alone s run turn round) (met_keeps (made_alone s run turn round) (made_keeps run turn round called h))
