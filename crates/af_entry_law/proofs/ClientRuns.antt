-- The words that the clients of a run release on their stream blocks follow from their calls alone.
use Rattle.std.proofs.Common.{◌≡◌, ℕ, zero, suc, ◌+◌, Bool, true, false, if◌then◌else◌, fold, List, [], ◌∷◌, ◌++◌, length, map, take, drop, append-nil, Option, Some, None, slice_get, refl, ap, ◌∙◌, arith}
use Rattle.af_entry_law.proofs.Common.{EntrySeen, FastState, RoundSeen, Run, Session, TrackTold, Turn, TurnFound, after_round, after_turn, before_turn, called_in_turn, calls_in, cycle_frames, changed_from, each_track, early_of, ends, found_in, late_of, loaded, meets, met, mixed_track, none-some, outside_of, played, same_Some, setup_of, client_side, state_for, stream_met, takes_part, track_met, turned, turned_track, with_calls, with_cycle, with_cycles, with_ends, with_load, with_mix, with_poll, with_turn}
use Rattle.af_base.specs.declared.event.ClientCall.{ClientCall}
use Rattle.af_base.specs.declared.event.ClientCall.TheVariants as call
use Rattle.af_runs.specs.ClientTurns.{Track, after_call, after_calls}
use Rattle.af_runs.specs.Runs.{slot_playing}

-- ## A client's calls

-- the words released once a call was made: a Put releases the next ones of the file
abbrev pub words_put : List ℕ → List ℕ → ClientCall → List ℕ
words_put file words (call.Put front count) = words ++ take count (drop (length words) file)
words_put file words _ = words

abbrev pub words_after : List ℕ → List ℕ → List ClientCall → List ℕ
words_after file words calls = fold (words_put file) words calls

-- the file of a track and the words that its client released
abbrev pub Words : Type 0
Words = List ℕ × List ℕ

abbrev words_of : Track → Words
words_of t = (t.file, t.stream.released)

nothing : (t : Track) → (t.file, t.stream.released ++ []) ≡ words_of t
nothing t = ap (λ (l : List ℕ). (t.file, l)) (append-nil t.stream.released)

call_words : (t : Track) (answer : ClientCall) → words_of (after_call t answer) ≡ (t.file, words_put t.file t.stream.released answer)
call_words t (call.Put front count) = refl
call_words t (call.Full front) = nothing t
call_words t (call.Dead flags) = nothing t
call_words t (call.Corrupt front rear) = nothing t
call_words t (call.Cleared flags) = nothing t
call_words t (call.Flush count) = nothing t
call_words t (call.Gain word) = nothing t
call_words t (call.Sent front code argument) = refl
call_words t (call.SendFull front) = refl
call_words t (call.SendDead flags) = refl
call_words t (call.SendCorrupt front rear) = refl
call_words t (call.Status word) = refl
call_words t (call.Poke true word value) = refl
call_words t (call.Poke false word value) = nothing t

calls_words : (calls : List ClientCall) (t : Track) → words_of (fold after_call t calls) ≡ (t.file, words_after t.file t.stream.released calls)
calls_words [] t = refl
calls_words (answer ∷ calls) t = calls_words calls (after_call t answer) ∙ ap (λ (x : Words). (x.0, words_after x.0 x.1 calls)) (call_words t answer)

-- a turn of these calls releases the words
pub turn_words : (calls : List ClientCall) (t : Track) → (after_calls t calls).stream.released ≡ words_after t.file t.stream.released calls
turn_words calls t = ap (λ (x : Words). x.1) (calls_words calls t)

-- ## A run

abbrev pub track_words : TrackTold → Words
track_words t = (t.file, t.stream.released)

abbrev pub run_words : Run → List Words
run_words run = map track_words run.tracks

-- the clients from this number on made their calls in a round
abbrev pub words_called : RoundSeen → ℕ → List Words → List Words
words_called round n [] = []
words_called round n (x ∷ xs) = (x.0, words_after x.0 x.1 (calls_in round n)) ∷ words_called round (n + 1) xs

called_words : (round : RoundSeen) (n : ℕ) (ts : List TrackTold) → map track_words (changed_from (λ track t. called_in_turn (calls_in round track) t) n ts) ≡ words_called round n (map track_words ts)
called_words round n [] = refl
called_words round n (t ∷ ts) = λ j. (t.file, turn_words (calls_in round n) (record { file = t.file; client = t.client; stream = client_side t.stream; commands = client_side t.commands }) j) ∷ called_words round (n + 1) ts j

-- a change that leaves the words of each track leaves those of all
each_words : (change : ℕ → TrackTold → TrackTold) → ((n : ℕ) (t : TrackTold) → track_words (change n t) ≡ track_words t) → (n : ℕ) (ts : List TrackTold) → map track_words (changed_from change n ts) ≡ map track_words ts
each_words change keeps n [] = refl
each_words change keeps n (t ∷ ts) = λ j. keeps n t j ∷ each_words change keeps (n + 1) ts j

module _ (s : Session) where
  calls_run : (round : RoundSeen) (run : Run) → run_words (with_calls round run) ≡ words_called round 0 (run_words run)
  unfolding with_calls
  calls_run round run = called_words round 0 run.tracks

  mixed_words : (x : FastState) (e : EntrySeen) (n : ℕ) (t : TrackTold) → track_words (mixed_track s x e n t) ≡ track_words t
  mixed_words x e n t = by_slot (slot_playing x e.entry n)
    where
      by_slot : (o : Option ℕ) → track_words (elim o as (λ o. TrackTold) [ None ↦ t | Some i ↦ record t { stream = played (cycle_frames s) e i t.stream } ]) ≡ track_words t
      by_slot None = refl
      by_slot (Some i) = refl

  cycle_run : (run : Run) (e : EntrySeen) → run_words (with_cycle s run e) ≡ run_words run
  unfolding with_poll with_mix
  cycle_run run e = each_words (mixed_track s (state_for s (with_poll s e.entry.state run) e.entry.state) e) (mixed_words (state_for s (with_poll s e.entry.state run) e.entry.state) e) 0 run.tracks

  cycles_run : (entries : List EntrySeen) (run : Run) → run_words (with_cycles s entries run) ≡ run_words run
  cycles_run [] run = refl
  cycles_run (e ∷ entries) run = cycles_run entries (with_cycle s run e) ∙ cycle_run run e

  turn_run : (f : TurnFound) (e : Turn) (run : Run) → run_words (with_turn s f e run) ≡ run_words run
  unfolding with_turn
  turn_run f e run = each_words (turned_track (setup_of s) (outside_of (setup_of s) f e) run.normal e) (λ n t. refl) 0 run.tracks

  turned_run : (found : Turn → TurnFound) (o : Option Turn) (run : Run) → run_words (turned s found o run) ≡ run_words run
  turned_run found None run = refl
  turned_run found (Some e) run = turn_run (found e) e run

  load_run : (o : Option Turn) (run : Run) → run_words (loaded o run) ≡ run_words run
  unfolding with_load
  load_run None run = refl
  load_run (Some e) run = refl

  met_words : (part handed : Bool) (t : TrackTold) → track_words (record t { stream = stream_met part handed t.stream; commands = meets t.commands }) ≡ track_words t
  met_words true true t = refl
  met_words true false t = refl
  met_words false true t = refl
  met_words false false t = refl

  met_run : (run : Run) → run_words (met s run) ≡ run_words run
  unfolding met
  met_run run = each_words (track_met s run) (λ n t. met_words (takes_part s run n) run.handed t) 0 run.tracks

  ends_run : (run : Run) → run_words (with_ends run) ≡ run_words run
  unfolding with_ends
  ends_run run = by_case run.normal.ended
    where
      by_case : (b : Bool) → run_words (if b then each_track (λ track t. record t { client = ends t.client }) run else run) ≡ run_words run
      by_case true = each_words (λ track t. record t { client = ends t.client }) (λ n t. refl) 0 run.tracks
      by_case false = refl

  -- in a round the clients' calls release words, and nothing else does
  pub round_words : (run : Run) (round : RoundSeen) → run_words (after_round s run round) ≡ words_called round 0 (run_words run)
  round_words run round =
      ends_run (met s (loaded round.turn (with_cycles s (late_of run round) (after_turn s run round))))
      ∙ met_run (loaded round.turn (with_cycles s (late_of run round) (after_turn s run round)))
      ∙ load_run round.turn (with_cycles s (late_of run round) (after_turn s run round))
      ∙ cycles_run (late_of run round) (after_turn s run round)
      ∙ turned_run (found_in s run round) round.turn (before_turn s run round)
      ∙ cycles_run (early_of run round) (with_calls round run)
      ∙ calls_run round run

-- the words of one track after the calls
pub called_at : (round : RoundSeen) (n : ℕ) (xs : List Words) (i : ℕ) (x : Words) → slice_get xs i ≡ Some x → slice_get (words_called round n xs) i ≡ Some (x.0, words_after x.0 x.1 (calls_in round (n + i)))
called_at round n [] i x at = absurd (none-some x at)
called_at round n (y ∷ xs) zero x at =
    let same : y ≡ x = same_Some y x at in
    let here : n ≡ n + 0 = omega arith in
    λ j. Some ((same j).0, words_after (same j).0 (same j).1 (calls_in round (here j)))
called_at round n (y ∷ xs) (suc i) x at =
    let here : (n + 1) + i ≡ n + suc i = omega arith in
    called_at round (n + 1) xs i x at ∙ ap (λ (k : ℕ). Some (x.0, words_after x.0 x.1 (calls_in round k))) here

pub called_long : (round : RoundSeen) (n : ℕ) (xs : List Words) → length (words_called round n xs) ≡ length xs
called_long round n [] = refl
called_long round n (x ∷ xs) = ap suc (called_long round (n + 1) xs)
