-- Through the legal rounds of a run a client flushes no more often than it has ops.
use Rattle.std.proofs.Common.{◌≡◌, ℕ, ◌+◌, ◌<◌, ◌≤◌, Bool, true, false, if◌then◌else◌, List, [], ◌∷◌, length, Option, Some, None, refl, ap, ◌∙◌, arith}
use Rattle.af_audit.proofs.Common.{BlockTold, EntrySeen, FastState, HandEvent, LegalClientTurn, LegalRound, LegalRounds, Marks, NormalKept, Outside, RoundSeen, Run, ServerEvent, Session, Setup, TrackTold, Turn, TurnFound, after_round, after_turn, all_played, before_turn, called_in_turn, calls_in, client_list, cycle_events, cycle_frames, each_long, each_track, early_of, ends, entry_slot, flushes-append, flushes_of, found_in, front_of, hand-client, hand_does, hand_events_of, late_of, learnt, listed, loaded, met, met_after, met_at, met_many, mixed_track, outside_of, played, run_from, server-client, server_does, server_list, setup_of, sides_called, sides_of, slot_playing, state_for, stream_list, stream_met, takes_part, told_at, told_each, track_count, tracks_at, turned, turned_track, with_calls, with_cycle, with_cycles, with_ends, with_load, with_mix, with_poll, with_turn}
use Rattle.af_base.specs.declared.event.ClientEvent.TheVariants as client
use Rattle.af_audit.proofs.FewFlushes.{all_flushes, flushes_left, turn_few}

-- ## A track

-- the client's flushes, and those that are left to it
abbrev pub told_flushes : TrackTold → ℕ
told_flushes t = all_flushes (sides_of t)

-- the server and the hand add no flushes
served_same : (b : BlockTold) (es : List ServerEvent) (hs : List HandEvent) → flushes_of (client_list (server_does es (hand_does hs b))) ≡ flushes_of (client_list b)
served_same b es hs = ap flushes_of (server-client (hand_does hs b).told es ∙ hand-client b.told hs)

mixed_same : (s : Session) (x : FastState) (e : EntrySeen) (n : ℕ) (t : TrackTold) → told_flushes (mixed_track s x e n t) ≡ told_flushes t
mixed_same s x e n t = by_slot (slot_playing x e.entry n)
  where
    by_slot : (o : Option ℕ) → told_flushes (elim o as (λ o. TrackTold) [ None ↦ t | Some i ↦ record t { stream = played (cycle_frames s) e i t.stream } ]) ≡ told_flushes t
    by_slot None = refl
    by_slot (Some i) =
        let slot = entry_slot e.entry i in
        ap (λ m. m + flushes_left t.client) (served_same t.stream (cycle_events (cycle_frames s) (listed t.stream) slot (front_of (cycle_frames s) (listed t.stream) slot)) [])

turned_same : (c : Setup) (o : Outside) (m : NormalKept) (e : Turn) (n : ℕ) (t : TrackTold) → told_flushes (turned_track c o m e n t) ≡ told_flushes t
turned_same c o m e n t = ap (λ m. m + flushes_left t.client) (served_same t.stream (stream_list c o e (tracks_at c (learnt o) m e n) n) (hand_events_of e n))

met_same : (there hands : Bool) (b : BlockTold) → flushes_of (client_list (stream_met there hands b)) ≡ flushes_of (client_list b)
met_same true true b = let a = flushes-append (client_list b) (client.Learn (length (server_list b)) ∷ []) in omega (arith, a)
met_same true false b = let a = flushes-append (client_list b) (client.Learn (length (server_list b)) ∷ []) in omega (arith, a)
met_same false true b = refl
met_same false false b = refl

-- ## A run

-- the track of a number is there, and its client has no more flushes than so many
pub record HasFew (most n : ℕ) (run : Run) : Type 0 where
  pub there : n < length run.tracks
  pub few : told_flushes (told_at run n) ≤ most

module _ (most n : ℕ) where
  pub each_few : (change : ℕ → TrackTold → TrackTold) (run : Run) → HasFew most n run → told_flushes (change n (told_at run n)) ≤ told_flushes (told_at run n) → HasFew most n (each_track change run)
  each_few change run h low = record {
    there = (let m = each_long change 0 run.tracks in let t = h.there in omega (arith, m, t));
    few = (let e = ap told_flushes (told_each change run n h.there) in let f = h.few in omega (arith, e, f, low));
  }

  calls_have : (round : RoundSeen) (run : Run) → LegalClientTurn (sides_of (told_at run n)) (calls_in round n) → HasFew most n run → HasFew most n (with_calls round run)
  unfolding with_calls
  calls_have round run legal h =
      let a = turn_few (sides_of (told_at run n)) (calls_in round n) legal in
      let e = ap all_flushes (sides_called (told_at run n) (calls_in round n)) in
      each_few (λ track t. called_in_turn (calls_in round track) t) run h (omega (arith, a, e))

  pub mix_has : (s : Session) (e : EntrySeen) (run : Run) → HasFew most n run → HasFew most n (with_mix s e run)
  unfolding with_mix
  mix_has s e run h =
      let x = state_for s run e.entry.state in
      let same = mixed_same s x e n (told_at run n) in
      let a = each_few (mixed_track s x e) run h (omega (arith, same)) in
      record { there = a.there; few = a.few }

  cycle_has : (s : Session) (e : EntrySeen) (run : Run) → HasFew most n run → HasFew most n (with_cycle s run e)
  unfolding with_poll
  cycle_has s e run h = mix_has s e (with_poll s e.entry.state run) (record { there = h.there; few = h.few })

  cycles_have : (s : Session) (es : List EntrySeen) (run : Run) → HasFew most n run → HasFew most n (with_cycles s es run)
  cycles_have s [] run h = h
  cycles_have s (e ∷ es) run h = cycles_have s es (with_cycle s run e) (cycle_has s e run h)

  pub turn_has : (s : Session) (found : Turn → TurnFound) (o : Option Turn) (run : Run) → HasFew most n run → HasFew most n (turned s found o run)
  unfolding with_turn
  turn_has s found None run h = h
  turn_has s found (Some e) run h =
      let c = setup_of s in let o = outside_of c (found e) e in
      let same = turned_same c o run.normal e n (told_at run n) in
      let a = each_few (turned_track c o run.normal e) run h (omega (arith, same)) in
      record { there = a.there; few = a.few }

  pub load_has : (o : Option Turn) (run : Run) → HasFew most n run → HasFew most n (loaded o run)
  unfolding with_load
  load_has None run h = h
  load_has (Some e) run h = record { there = h.there; few = h.few }

  pub met_has : (s : Session) (run : Run) → HasFew most n run → HasFew most n (met s run)
  met_has s run h = record {
    there = (let m = met_many s run in let t = h.there in omega (arith, m, t));
    few = (let e = ap told_flushes (met_at s run n h.there) in let f = h.few in let same = met_same (takes_part s run n) run.handed (told_at run n).stream in omega (arith, e, f, same));
  }

  pub ends_have : (run : Run) → HasFew most n run → HasFew most n (with_ends run)
  unfolding with_ends
  ends_have run h = by_end run.normal.ended
    where
      by_end : (b : Bool) → HasFew most n (if b then each_track (λ track t. record t { client = ends t.client }) run else run)
      by_end true = each_few (λ track t. record t { client = ends t.client }) run h (omega arith)
      by_end false = h

  -- a legal round adds no flushes
  pub round_has : (cut : Bool) (s : Session) (marks : Marks) (run : Run) (round : RoundSeen) → n < track_count s → LegalRound cut s marks run round → HasFew most n run → HasFew most n (after_round s run round)
  round_has cut s marks run round low legal h =
      let a = calls_have round run (legal.turns.clients n low) h in
      let b = cycles_have s (early_of run round) (with_calls round run) a in
      let c = turn_has s (found_in s run round) round.turn (before_turn s run round) b in
      let d = cycles_have s (late_of run round) (after_turn s run round) c in
      let e = load_has round.turn (with_cycles s (late_of run round) (after_turn s run round)) d in
      ends_have (met_after s run round) (met_has s (all_played s run round) e)

  pub rounds_have : (cut : Bool) (s : Session) (marks : Marks) (rounds : List RoundSeen) (run : Run) → n < track_count s → LegalRounds cut s marks run rounds → HasFew most n run → HasFew most n (run_from s run rounds)
  rounds_have cut s marks [] run low legal h = h
  rounds_have cut s marks (round ∷ rounds) run low legal h = rounds_have cut s marks rounds (after_round s run round) low legal.1 (round_has cut s marks run round low legal.0 h)
