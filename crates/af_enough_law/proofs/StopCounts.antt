-- The argument of a STOP is no more than the frames that its client has put.
use Rattle.std.proofs.Common.{◌≡◌, ℕ, zero, suc, ◌+◌, ◌^◌, ◌≤◌, ◌<◌, ◌==◌, ◌&&◌, Bool, true, false, Option, Some, None, List, [], ◌∷◌, ◌++◌, length, fold, get_or, take, drop, refl, sym, ap, ◌∙◌, subst, arith, length-append, append-nil, is_some, if◌then◌else◌}
use Rattle.af_enough_law.proofs.Common.{LegalClientTurn, BlockTold, ClientCall, ClientCommand, ClientEvent, EntrySeen, IsWanted, LegalRound, Marks, NormalKept, RoundSeen, Run, Session, Track, TrackTold, Turn, TurnFound, Want, after_call, after_round, after_turn, all_played, argument_of, both_right, called_in_turn, calls_in, client_kept, client_list, cycle_frames, early_of, flushes_of, found_in, late_of, mixed_track, no, played, sides_of, slot_playing, state_for, stream_met, takes_part, told_at, track_count, with_calls, with_cycle, with_poll, wrapped}
use Rattle.af_base.specs.declared.event.ClientCall.TheVariants as call
use Rattle.af_base.specs.declared.event.ClientEvent.TheVariants as client
use Rattle.af_enough_law.proofs.Basics.{put-append}
use Rattle.af_runs.specs.Clients.{command_code}
use Rattle.af_runs.specs.declared.want.ClientCommand.TheVariants as command
use Rattle.af_runs.specs.declared.want.Want.TheVariants as want
use Rattle.af_enough_law.proofs.Courses.{course}
use Rattle.af_enough_law.specs.Seen.{frames_put}
use Rattle.af_enough_law.proofs.CalmTracks.{round_released}
use Rattle.af_enough_law.proofs.CommandsGo.{MayLearn, still, learns, may_learn}
use Rattle.af_enough_law.proofs.Doing.{put_of, sent_of}
use Rattle.af_enough_law.proofs.Flushless.{IsFlushlessTrack, call_flushless, unflushed_none}
use Rattle.af_enough_law.proofs.ClientWalk.{turn_keeps}
use Rattle.af_enough_law.proofs.RunTracks.{mixed_by, turned_by, played_track, round_blocks, met_track}
use Rattle.af_enough_law.proofs.SentCourse.{with_none}
use Rattle.af_enough_law.proofs.Turning.{words_of, words_append}

-- ## What is shown

-- each of these commands has an argument of at most so much, which fits a word
abbrev pub AllWithin : ℕ → List (ℕ × ℕ) → Type 0
AllWithin most [] = Unit {0}
AllWithin most (c ∷ sent) = (c.1 ≤ most) × (c.1 < 2 ^ 32) × AllWithin most sent

-- as many frames at least were put as words released, and no command sent has a greater argument
pub record StopCounts (t : Track) : Type 0 where
  pub released : length t.stream.released ≤ frames_put t.stream.events
  pub sent : List (ℕ × ℕ)
  pub words : t.commands.released ≡ words_of sent
  pub within : AllWithin (frames_put t.stream.events) sent

within_more : (a b : ℕ) (sent : List (ℕ × ℕ)) → a ≤ b → AllWithin a sent → AllWithin b sent
within_more a b [] le h = tt
within_more a b (c ∷ sent) le h = let low = h.0 in (omega arith, h.1, within_more a b sent le h.2)

within_join : (n : ℕ) (xs ys : List (ℕ × ℕ)) → AllWithin n xs → AllWithin n ys → AllWithin n (xs ++ ys)
within_join n [] ys a b = b
within_join n (x ∷ xs) ys a b = (a.0, a.1, within_join n xs ys a.2 b)

third : (n : ℕ) (sent : List (ℕ × ℕ)) → AllWithin n sent → (get_or (words_of sent) 5 0 ≤ n) × (get_or (words_of sent) 5 0 < 2 ^ 32)
third n [] h = (omega arith, omega arith)
third n (x ∷ []) h = (omega arith, omega arith)
third n (x ∷ y ∷ []) h = (omega arith, omega arith)
third n (x ∷ y ∷ z ∷ sent) h = (h.2.2.0, h.2.2.1)

-- the STOP of a course is at no greater count than the frames put
pub stop_within : (t : Track) (count k : ℕ) → StopCounts t → t.commands.released ≡ course count 0 k → 3 ≤ k → (count ≤ frames_put t.stream.events) × (count < 2 ^ 32)
stop_within t count k h is some =
    let same : get_or (words_of h.sent) 5 0 ≡ count = ap (λ (ws : List ℕ). get_or ws 5 0) (sym h.words ∙ is) ∙ with_none count k some in
    let low = third (frames_put t.stream.events) h.sent h.within in
    (omega (arith, same, low.0), omega (arith, same, low.1))

-- ## One call

is_sent : ClientCall → Bool
is_sent (call.Sent front code argument) = true
is_sent _ = false

-- a look that may have been of no cell puts nothing
look_put : (shut : Bool) (events : List ClientEvent) (front : ℕ) → frames_put (events ++ (if shut then [] else client.SawFlags 0 ∷ client.SawFront front ∷ [])) ≡ frames_put events + 0
look_put true events front = let a = put-append events [] in omega arith
look_put false events front = let a = put-append events (client.SawFlags 0 ∷ client.SawFront front ∷ []) in omega arith

-- what a call puts on the stream's list
put_counted : (t : Track) (answer : ClientCall) → frames_put (after_call t answer).stream.events ≡ frames_put t.stream.events + put_of answer
put_counted t (call.Put front count) = let a = put-append t.stream.events (client.SawFlags 0 ∷ client.SawFront front ∷ client.Release count ∷ []) in omega arith
put_counted t (call.Full front) = let a = put-append t.stream.events (client.SawFlags 0 ∷ client.SawFront front ∷ []) in omega arith
put_counted t (call.Dead flags) = let a = put-append t.stream.events (client.SawFlags flags ∷ []) in omega arith
put_counted t (call.Corrupt front rear) = look_put (is_some (client_kept t.stream.shape.frames t.stream.shape.base t.stream.events).shut) t.stream.events front
put_counted t (call.Cleared flags) = let a = put-append t.stream.events (client.ClearFlags flags ∷ []) in omega arith
put_counted t (call.Flush count) = let a = put-append t.stream.events (client.Flush ∷ []) in omega arith
put_counted t (call.Gain word) = let a = put-append t.stream.events (client.SetGain word ∷ []) in omega arith
put_counted t (call.Sent front code argument) = omega arith
put_counted t (call.SendFull front) = omega arith
put_counted t (call.SendDead flags) = omega arith
put_counted t (call.SendCorrupt front rear) = omega arith
put_counted t (call.Status word) = omega arith
put_counted t (call.Poke true word value) = omega arith
put_counted t (call.Poke false word value) = let a = put-append t.stream.events (client.Poke word value ∷ []) in omega arith

take_few : (n : ℕ) (xs : List ℕ) → length (take n xs) ≤ n
take_few zero xs = omega arith
take_few (suc n) [] = omega arith
take_few (suc n) (x ∷ xs) = let l = take_few n xs in omega arith

-- how many words a call releases on the stream
words_put : (t : Track) (answer : ClientCall) → length (after_call t answer).stream.released ≤ length t.stream.released + put_of answer
words_put t (call.Put front count) =
    let a = length-append t.stream.released (take count (drop (length t.stream.released) t.file)) in
    let c = take_few count (drop (length t.stream.released) t.file) in omega arith
words_put t (call.Full front) = let a = length-append t.stream.released [] in omega arith
words_put t (call.Dead flags) = let a = length-append t.stream.released [] in omega arith
words_put t (call.Corrupt front rear) = let a = length-append t.stream.released [] in omega arith
words_put t (call.Cleared flags) = let a = length-append t.stream.released [] in omega arith
words_put t (call.Flush count) = let a = length-append t.stream.released [] in omega arith
words_put t (call.Gain word) = let a = length-append t.stream.released [] in omega arith
words_put t (call.Sent front code argument) = omega arith
words_put t (call.SendFull front) = omega arith
words_put t (call.SendDead flags) = omega arith
words_put t (call.SendCorrupt front rear) = omega arith
words_put t (call.Status word) = omega arith
words_put t (call.Poke true word value) = omega arith
words_put t (call.Poke false word value) = let a = length-append t.stream.released [] in omega arith

-- the words that a call sends
words_spoken : (t : Track) (answer : ClientCall) → (after_call t answer).commands.released ≡ t.commands.released ++ words_of (sent_of answer)
words_spoken t (call.Put front count) = sym (append-nil t.commands.released)
words_spoken t (call.Full front) = sym (append-nil t.commands.released)
words_spoken t (call.Dead flags) = sym (append-nil t.commands.released)
words_spoken t (call.Corrupt front rear) = sym (append-nil t.commands.released)
words_spoken t (call.Cleared flags) = sym (append-nil t.commands.released)
words_spoken t (call.Flush count) = sym (append-nil t.commands.released)
words_spoken t (call.Gain word) = sym (append-nil t.commands.released)
words_spoken t (call.Sent front code argument) = refl
words_spoken t (call.SendFull front) = refl
words_spoken t (call.SendDead flags) = refl
words_spoken t (call.SendCorrupt front rear) = refl
words_spoken t (call.Status word) = refl
words_spoken t (call.Poke true word value) = refl
words_spoken t (call.Poke false word value) = sym (append-nil t.commands.released)

abbrev Low : ℕ → ℕ → Type 0
Low n argument = (argument ≤ n) × (argument < 2 ^ 32)

equal_to : (code c argument n most : ℕ) → ((code == c) && (argument == n)) ≡ true → Low most n → Low most argument
equal_to code c argument n most h low = let e : argument ≡ n = search (arith, both_right (code == c) (argument == n) h) in (let a = low.0 in omega arith, let a = low.1 in omega arith)

wrapped_low : (n : ℕ) → (wrapped n ≤ n) × (wrapped n < 2 ^ 32)
wrapped_low n = (omega arith, omega arith)

send_low : (t : Track) (sending : ClientCommand) (code argument : ℕ) → flushes_of t.stream.events ≡ 0 → length t.stream.released ≤ frames_put t.stream.events → ((code == command_code sending) && (argument == argument_of t sending)) ≡ true → Low (frames_put t.stream.events) argument
send_low t command.Start code argument none put h = equal_to code _ argument (flushes_of t.stream.events) _ h (omega (arith, none), omega (arith, none))
send_low t command.Stop code argument none put h = let w = wrapped_low (length t.stream.released) in equal_to code _ argument (wrapped (length t.stream.released)) _ h (let a = w.0 in omega (arith, a, put), w.1)
send_low t _ code argument none put h = equal_to code _ argument 0 _ h (omega arith, omega arith)

sent_low : (t : Track) (w : Want) (front code argument : ℕ) → flushes_of t.stream.events ≡ 0 → length t.stream.released ≤ frames_put t.stream.events → IsWanted t w (call.Sent front code argument) → Low (frames_put t.stream.events) argument
unfolding is_sent
sent_low t (want.Send sending) front code argument none put made = send_low t sending code argument none put made
sent_low t (want.Gain left right) front code argument none put made = no (sym (ap is_sent made))
sent_low t (want.Poke in_command word value) front code argument none put made = no (sym (ap is_sent made))
sent_low t want.Rest front code argument none put made = absurd made
sent_low t want.Leave front code argument none put made = equal_to code _ argument 0 _ made (omega arith, omega arith)
sent_low t _ front code argument none put made = no made

answer_low : (t : Track) (w : Want) (answer : ClientCall) → flushes_of t.stream.events ≡ 0 → length t.stream.released ≤ frames_put t.stream.events → IsWanted t w answer → AllWithin (frames_put t.stream.events) (sent_of answer)
answer_low t w (call.Sent front code argument) none put made = let low = sent_low t w front code argument none put made in (low.0, low.1, tt)
answer_low t w _ none put made = tt

-- ## A turn

call_counted : (t : Track) (w : Want) (answer : ClientCall) → IsFlushlessTrack t → IsWanted t w answer → StopCounts t → StopCounts (after_call t answer)
call_counted t w answer flushless made h =
    let put = put_counted t answer in
    let words = words_put t answer in
    let had = h.released in
    let more : frames_put t.stream.events ≤ frames_put (after_call t answer).stream.events = omega (arith, put) in
    record {
      released = omega (arith, put, words, had);
      sent = h.sent ++ sent_of answer;
      words = words_spoken t answer ∙ ap (λ (ws : List ℕ). ws ++ words_of (sent_of answer)) h.words ∙ sym (words_append h.sent (sent_of answer));
      within = within_more (frames_put t.stream.events) (frames_put (after_call t answer).stream.events) (h.sent ++ sent_of answer) more
          (within_join (frames_put t.stream.events) h.sent (sent_of answer) h.within (answer_low t w answer (unflushed_none t.stream.events flushless.stream) h.released made));
    }

turn_counted : (t : Track) (calls : List ClientCall) → LegalClientTurn t calls → IsFlushlessTrack t → StopCounts t → StopCounts (fold after_call t calls)
turn_counted t calls legal flushless h =
    (turn_keeps (λ (u : Track). IsFlushlessTrack u × StopCounts u) (λ u w answer is wanted made. (call_flushless u w answer is.0 wanted made, call_counted u w answer is.0 made.0 is.1)) t calls legal (flushless, h)).1

-- ## A round

put_same : (said after : List ClientEvent) → MayLearn said after → frames_put after ≡ frames_put said
put_same said _ still = refl
put_same said _ (learns n) = let a = put-append said (client.Learn n ∷ []) in omega arith

module _ (s : Session) where
  mixed_once : (e : EntrySeen) (t : TrackTold) (o : Option ℕ) → let u : TrackTold = elim o as (λ o. TrackTold) [ None ↦ t | Some i ↦ record t { stream = played (cycle_frames s) e i t.stream } ] in u.stream.released ≡ t.stream.released
  mixed_once e t None = refl
  mixed_once e t (Some i) = refl

  mixed_released : (run : Run) (es : List EntrySeen) (i : ℕ) (t : TrackTold) → (mixed_by s run es i t).stream.released ≡ t.stream.released
  unfolding mixed_by
  mixed_released run [] i t = refl
  mixed_released run (e ∷ es) i t = let x = state_for s (with_poll s e.entry.state run) e.entry.state in
      mixed_released (with_cycle s run e) es i (mixed_track s x e i t) ∙ mixed_once e t (slot_playing x e.entry i)

  turned_released : (found : Turn → TurnFound) (o : Option Turn) (m : NormalKept) (i : ℕ) (t : TrackTold) → (turned_by s found o m i t).stream.released ≡ t.stream.released
  unfolding turned_by
  turned_released found None m i t = refl
  turned_released found (Some e) m i t = refl

  met_released : (there hands : Bool) (b : BlockTold) → (stream_met there hands b).released ≡ b.released
  met_released true true b = refl
  met_released true false b = refl
  met_released false true b = refl
  met_released false false b = refl

  -- the words released on the stream block after a round
  pub stream_released : (run : Run) (round : RoundSeen) (i : ℕ) → i < length run.tracks → (told_at (after_round s run round) i).stream.released ≡ (fold after_call (sides_of (told_at run i)) (calls_in round i)).stream.released
  unfolding played_track
  stream_released run round i low =
      let c = called_in_turn (calls_in round i) (told_at run i) in
      let early = mixed_by s (with_calls round run) (early_of run round) i c in
      let turned = turned_by s (found_in s run round) round.turn run.normal i early in
      let all = played_track s run round i (told_at run i) in
      ap (λ (b : BlockTold). b.released) ((round_blocks s run round i low).0 ∙ ap (λ (x : TrackTold). x.stream) (met_track s run round i low))
      ∙ met_released (takes_part s (all_played s run round) i) (all_played s run round).handed all.stream
      ∙ mixed_released (after_turn s run round) (late_of run round) i turned ∙ turned_released (found_in s run round) round.turn run.normal i early ∙ mixed_released (with_calls round run) (early_of run round) i c

-- A legal round keeps the counts
pub counts_round : (cut : Bool) (s : Session) (marks : Marks) (run : Run) (round : RoundSeen) (i : ℕ) → LegalRound cut s marks run round → i < length run.tracks → i < track_count s → IsFlushlessTrack (sides_of (told_at run i))
    → StopCounts (sides_of (told_at run i)) → StopCounts (sides_of (told_at (after_round s run round) i))
counts_round cut s marks run round i legal low named flushless h =
    let now = turn_counted (sides_of (told_at run i)) (calls_in round i) (legal.turns.clients i named) flushless h in
    let same = put_same (fold after_call (sides_of (told_at run i)) (calls_in round i)).stream.events (client_list (told_at (after_round s run round) i).stream) (may_learn s run round i low) in
    let long = ap (λ (ws : List ℕ). length ws) (stream_released s run round i low) in
    let had = now.released in
    record {
      released = omega (arith, same, long, had);
      sent = now.sent;
      words = round_released s run round i low ∙ now.words;
      within = subst (λ (n : ℕ). AllWithin n now.sent) (sym same) now.within;
    }
