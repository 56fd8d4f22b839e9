-- What clients have of their tracks stays, whatever the mixers do.
use Rattle.std.proofs.Common.{◌≡◌, ℕ, ◌<◌, ◌≤◌, Bool, true, false, if◌then◌else◌, List, [], ◌∷◌, length, map, flat_map, Option, Some, None, arith, refl, sym, ap, subst, ◌∙◌}
use Rattle.af_audit.proofs.Common.{AreSpelled, BlockTold, ClientCall, ClientEvent, EntrySeen, FastState, HandEvent, LegalClientTurn, NormalKept, Outside, RoundSeen, Run, ServerEvent, Session, Setup, Side, TakeSeen, Track, TrackTold, Turn, TurnFound, after_calls, after_round, after_turn, all_played, before_turn, called_in_turn, calls_in, command_list, cycle_beside, cycle_events, cycle_frames, cycles_beside, each_at, each_long, each_track, early_of, ends, entry_slot, found_in, front_of, going, hand-client, hand_does, hand_events_of, late_of, learnt, listed, loaded, met, met_at, met_many, mixed_track, no_track, outside_of, packed_word, played, server-client, server_does, setup_of, shape_met, shapes_called, client_side, sides_called, sides_of, slot_playing, slot_frames, state_for, stream_list, takes_from, takes_part, told_at, told_each, took, track_in, track_spelled, tracks_at, turned, turned_track, with_calls, with_cycle, with_cycles, with_ends, with_load, with_mix, with_poll, with_turn, words_taken}
use Rattle.af_judge.proofs.Spelled.{spelled_turn}
use Rattle.af_audit.specs.RunKept.{IsFit}
use Rattle.af_audit.proofs.Words.{IsLegalCaller}
use Rattle.af_audit.proofs.CallsFollow.{calls_long, told_called}

-- ## What is fit

-- a track is fit by its client's sides, whatever its client does next
fit_by : (s : Session) (n : ℕ) (t u : Track) → u.file ≡ t.file → AreSpelled u → u.stream.shape ≡ t.stream.shape → u.commands.shape ≡ t.commands.shape → IsFit s n t → IsFit s n u
fit_by s n t u file spelled stream commands h = record {
  file = file ∙ h.file;
  spelled = spelled;
  stream = subst (λ k. k.frames ≤ 65536) (sym stream) h.stream;
  commands = subst (λ k. k.frames ≤ 65536) (sym commands) h.commands;
}

-- a track is fit after a legal turn of its client
pub fit_called : (s : Session) (n : ℕ) (t : TrackTold) (calls : List ClientCall) → LegalClientTurn (sides_of t) calls → IsFit s n (sides_of t) → IsFit s n (sides_of (called_in_turn calls t))
fit_called s n t calls legal h =
    let shapes = shapes_called (sides_of t) calls in
    subst (IsFit s n) (sym (sides_called t calls))
    (fit_by s n (sides_of t) (after_calls (sides_of t) calls) (ap (λ (u : Track). u.file) (sym (sides_called t calls))) (spelled_turn (sides_of t) calls h.spelled legal) shapes.0 shapes.1 h)

-- ## The mixers leave the clients' sides

side_served : (b : BlockTold) (es : List ServerEvent) (words : List ℕ) → client_side (took words (server_does es b)) ≡ client_side b
side_served b es words = ap (λ (l : List ClientEvent). let y : Side = record { shape = b.shape; events = l; released = b.released } in y) (server-client b.told es)

side_handed : (b : BlockTold) (es : List HandEvent) → client_side (hand_does es b) ≡ client_side b
side_handed b es = ap (λ (l : List ClientEvent). let y : Side = record { shape = b.shape; events = l; released = b.released } in y) (hand-client b.told es)

pub sides_mixed : (s : Session) (x : FastState) (e : EntrySeen) (n : ℕ) (t : TrackTold) → sides_of (mixed_track s x e n t) ≡ sides_of t
sides_mixed s x e n t = by_slot (slot_playing x e.entry n)
  where
    by_slot : (o : Option ℕ) → sides_of (elim o as (λ o. TrackTold) [ None ↦ t | Some i ↦ record t { stream = played (cycle_frames s) e i t.stream } ]) ≡ sides_of t
    by_slot None = refl
    by_slot (Some i) =
        let slot = entry_slot e.entry i in
        ap (λ (y : Side). record (sides_of t) { stream = y }) (side_served t.stream (cycle_events (cycle_frames s) (listed t.stream) slot (front_of (cycle_frames s) (listed t.stream) slot)) (map packed_word (slot_frames e i)))

pub sides_turned : (c : Setup) (o : Outside) (m : NormalKept) (e : Turn) (n : ℕ) (t : TrackTold) → sides_of (turned_track c o m e n t) ≡ sides_of t
sides_turned c o m e n t =
    let marks : List HandEvent = hand_events_of e n in
    let flags : List ServerEvent = stream_list c o e (tracks_at c (learnt o) m e n) n in
    let words : List ℕ = going e (map packed_word (flat_map (λ (take : TakeSeen). take.frames) (takes_from e.mixes n))) in
    let stream = side_served (hand_does marks t.stream) flags words ∙ side_handed t.stream marks in
    let commands = side_served t.commands (command_list c o e (tracks_at c (learnt o) m e n) n) (going e (words_taken (track_in e n).looks)) in
    λ i. record (sides_of t) { stream = stream i; commands = commands i }

-- ## The steps of a round

-- the track of a number is fit in a run
abbrev pub FitAt : Session → Run → ℕ → Type 0
FitAt s run n = IsFit s n (sides_of (told_at run n))

fit-cycle : (s : Session) (run : Run) (e : EntrySeen) (n : ℕ) → n < length run.tracks → FitAt s run n → FitAt s (with_cycle s run e) n
unfolding with_mix with_poll
fit-cycle s run e n low h =
    let polled = with_poll s e.entry.state run in
    let x = state_for s polled e.entry.state in
    subst (IsFit s n) (sym (ap (λ (t : TrackTold). sides_of t) (told_each (mixed_track s x e) polled n low) ∙ sides_mixed s x e n (told_at run n))) h

fit-cycles : (s : Session) (es : List EntrySeen) (run : Run) (n : ℕ) → n < length run.tracks → FitAt s run n → FitAt s (with_cycles s es run) n
fit-cycles s [] run n low h = h
fit-cycles s (e ∷ es) run n low h = fit-cycles s es (with_cycle s run e) n ((let b = cycle_beside s run e in let m = b.many in let x : n < length (with_cycle s run e).tracks = omega (arith, m, low) in x)) (fit-cycle s run e n low h)

fit-turn : (s : Session) (run : Run) (f : TurnFound) (e : Turn) (n : ℕ) → n < length run.tracks → FitAt s run n → FitAt s (with_turn s f e run) n
unfolding with_turn
fit-turn s run f e n low h =
    let c = setup_of s in
    let o = outside_of c f e in
    subst (IsFit s n) (sym (ap (λ (t : TrackTold). sides_of t) (each_at (turned_track c o run.normal e) 0 run.tracks n n no_track low (omega arith)) ∙ sides_turned c o run.normal e n (told_at run n))) h

fit-turned : (s : Session) (run : Run) (found : Turn → TurnFound) (o : Option Turn) (n : ℕ) → n < length run.tracks → FitAt s run n → FitAt s (turned s found o run) n
fit-turned s run found None n low h = h
fit-turned s run found (Some e) n low h = fit-turn s run (found e) e n low h

fit-loaded : (s : Session) (run : Run) (o : Option Turn) (n : ℕ) → FitAt s run n → FitAt s (loaded o run) n
unfolding with_load
fit-loaded s run None n h = h
fit-loaded s run (Some e) n h = h

-- a turn leaves as many tracks
turned-many : (s : Session) (run : Run) (found : Turn → TurnFound) (o : Option Turn) → length (turned s found o run).tracks ≡ length run.tracks
unfolding with_turn
turned-many s run found None = refl
turned-many s run found (Some e) = let c = setup_of s in each_long (turned_track c (outside_of c (found e) e) run.normal e) 0 run.tracks

loaded-many : (run : Run) (o : Option Turn) → length (loaded o run).tracks ≡ length run.tracks
unfolding with_load
loaded-many run None = refl
loaded-many run (Some e) = refl

module _ (s : Session) (run : Run) (round : RoundSeen) where
  pub before-many : length (before_turn s run round).tracks ≡ length run.tracks
  before-many = (let b = cycles_beside s (early_of run round) (with_calls round run) in b.many) ∙ calls_long round run

  after-many : length (after_turn s run round).tracks ≡ length run.tracks
  after-many = turned-many s (before_turn s run round) (found_in s run round) round.turn ∙ before-many

  pub played_many : length (all_played s run round).tracks ≡ length run.tracks
  played_many = loaded-many (with_cycles s (late_of run round) (after_turn s run round)) round.turn ∙ ((let b = cycles_beside s (late_of run round) (after_turn s run round) in b.many) ∙ after-many)

  -- a track whose client's turn was legal stays fit up to the meetings
  pub fit_played : (n : ℕ) → n < length run.tracks → IsLegalCaller run round n → FitAt s run n → FitAt s (all_played s run round) n
  fit_played n low legal h =
      let start = with_calls round run in
      let called_so : FitAt s start n = subst (λ (t : TrackTold). IsFit s n (sides_of t)) (sym (told_called round run n low)) (fit_called s n (told_at run n) (calls_in round n) legal h) in
      let early = fit-cycles s (early_of run round) start n (let m = calls_long round run in omega (arith, low, m)) called_so in
      let turn = fit-turned s (before_turn s run round) (found_in s run round) round.turn n (let m = before-many in omega (arith, low, m)) early in
      let late = fit-cycles s (late_of run round) (after_turn s run round) n (let m = after-many in omega (arith, low, m)) turn in
      fit-loaded s (with_cycles s (late_of run round) (after_turn s run round)) round.turn n late

fit-met : (s : Session) (run : Run) (n : ℕ) → n < length run.tracks → FitAt s run n → FitAt s (met s run) n
fit-met s run n low h =
    let b = told_at run n in
    let at = met_at s run n low in
    fit_by s n (sides_of b) (sides_of (told_at (met s run) n)) (ap (λ (t : TrackTold). t.file) at) (track_spelled s run n low h.spelled)
    (ap (λ (t : TrackTold). t.stream.shape) at ∙ shape_met (takes_part s run n) run.handed b.stream) (ap (λ (t : TrackTold). t.commands.shape) at) h

fit-ends : (s : Session) (run : Run) (n : ℕ) → n < length run.tracks → FitAt s run n → FitAt s (with_ends run) n
unfolding with_ends
fit-ends s run n low h = by_case run.normal.ended
  where
    by_case : (b : Bool) → FitAt s (if b then each_track (λ track t. record t { client = ends t.client }) run else run) n
    by_case true = subst (λ (t : TrackTold). IsFit s n (sides_of t)) (sym (told_each (λ track t. record t { client = ends t.client }) run n low)) (record { file = h.file; spelled = record { stream = h.spelled.stream; commands = h.spelled.commands }; stream = h.stream; commands = h.commands })
    by_case false = h

-- a track whose client's turn was legal is fit behind the round
pub fit_round : (s : Session) (run : Run) (round : RoundSeen) (n : ℕ) → n < length run.tracks → IsLegalCaller run round n → FitAt s run n → FitAt s (after_round s run round) n
fit_round s run round n low legal h =
    let played : n < length (all_played s run round).tracks = (let m = played_many s run round in omega (arith, low, m)) in
    fit-ends s (met s (all_played s run round)) n (let m = met_many s (all_played s run round) in omega (arith, played, m)) (fit-met s (all_played s run round) n played (fit_played s run round n low legal h))
