-- A round in which no lawful block is poked keeps the lawful blocks of its run unpoked.
use Rattle.std.proofs.Common.{◌≡◌, ℕ, ◌<◌, not, Bool, true, false, true≢false, fold, is_some, List, [], ◌∷◌, ◌++◌, drop, take, length, refl, ap, ◌∙◌, arith}
use Rattle.af_told_law.proofs.Common.{ClientCall, ClientEvent, EntrySeen, Marks, RoundNoted, RoundSeen, Run, Session, Track, TrackTold, TurnSpec, after_call, both_lawful, called_in_turn, calls_in, client-client, client_call_events, client_kept, client_list, get_or-map-range_with_len, is_lawful, is_of_commands, is_poke_on, is_tame, length-map-range_with_len, list_any, marks_of, met_alone, neither, new_run, no_track, not_true, rounds_seen, sides_of, told_at, track_count, with_ends, round_alone_keeps}
use Rattle.af_base.specs.declared.event.ClientCall.TheVariants as call
use Rattle.af_one_turn_run.proofs.OneClientTurn.{call_events, calls_add, calls_events, drop_first, only_on}
use Rattle.af_runs.specs.ClientTurns.{side_of}
use Rattle.af_runs.specs.Runs.{new_told_track}
use Rattle.af_told_law.specs.Sizes.{IsSmallRun}
use Rattle.af_told_law.specs.Marked.{IsMarkedRun, IsRoundMarked, IsTrackMarked}
use Rattle.af_told_law.proofs.TameRuns.{marked_kept}

abbrev pub AreRoundsMarked : Marks → List RoundNoted → Type 0
AreRoundsMarked marks [] = Unit {0}
AreRoundsMarked marks (r ∷ rounds) = IsRoundMarked marks r.calls × AreRoundsMarked marks rounds

-- ## Calls

only_lawful : (a b : Bool) (es : List ClientEvent) → is_lawful es ≡ true → is_lawful (only_on a b es) ≡ true
only_lawful true true es h = h
only_lawful true false es h = refl
only_lawful false true es h = refl
only_lawful false false es h = h

-- a call that doesn't poke a block leaves no poke on it
call_lawful : (on shut : Bool) (a : ClientCall) → is_poke_on on a ≡ false → is_lawful (only_on (is_of_commands a) on (client_call_events shut a)) ≡ true
call_lawful on shut (call.Put front count) h = only_lawful false on (client_call_events shut (call.Put front count)) refl
call_lawful on shut (call.Full front) h = only_lawful false on (client_call_events shut (call.Full front)) refl
call_lawful on shut (call.Dead flags) h = only_lawful false on (client_call_events shut (call.Dead flags)) refl
call_lawful on true (call.Corrupt front rear) h = only_lawful false on (client_call_events true (call.Corrupt front rear)) refl
call_lawful on false (call.Corrupt front rear) h = only_lawful false on (client_call_events false (call.Corrupt front rear)) refl
call_lawful on shut (call.Cleared flags) h = only_lawful false on (client_call_events shut (call.Cleared flags)) refl
call_lawful on shut (call.Flush count) h = only_lawful false on (client_call_events shut (call.Flush count)) refl
call_lawful on shut (call.Gain word) h = only_lawful false on (client_call_events shut (call.Gain word)) refl
call_lawful on shut (call.Sent front code argument) h = only_lawful true on (client_call_events shut (call.Sent front code argument)) refl
call_lawful on shut (call.SendFull front) h = only_lawful true on (client_call_events shut (call.SendFull front)) refl
call_lawful on shut (call.SendDead flags) h = only_lawful true on (client_call_events shut (call.SendDead flags)) refl
call_lawful on true (call.SendCorrupt front rear) h = only_lawful true on (client_call_events true (call.SendCorrupt front rear)) refl
call_lawful on false (call.SendCorrupt front rear) h = only_lawful true on (client_call_events false (call.SendCorrupt front rear)) refl
call_lawful on shut (call.Status word) h = only_lawful true on (client_call_events shut (call.Status word)) refl
call_lawful true shut (call.Poke true word value) h = absurd (true≢false h)
call_lawful false shut (call.Poke true word value) h = refl
call_lawful true shut (call.Poke false word value) h = refl
call_lawful false shut (call.Poke false word value) h = absurd (true≢false h)

calls_lawful : (on : Bool) (t : Track) (calls : List ClientCall) → list_any (is_poke_on on) calls ≡ false → is_lawful (calls_events on t calls) ≡ true
calls_lawful on t [] h = refl
calls_lawful on t (a ∷ calls) h =
    let parts = neither (is_poke_on on a) (list_any (is_poke_on on) calls) h in
    let b = side_of t a in
    both_lawful (call_events on t a) (calls_events on (after_call t a) calls)
    (call_lawful on (is_some (client_kept b.shape.frames b.shape.base b.events).shut) a parts.0)
    (calls_lawful on (after_call t a) calls parts.1)

-- a block stays unpoked by calls that don't poke it
stream_called : (t : TrackTold) (calls : List ClientCall) → list_any (is_poke_on false) calls ≡ false → is_tame t.stream ≡ true → is_tame (called_in_turn calls t).stream ≡ true
stream_called t calls none h =
    let es = calls_events false (sides_of t) calls in
    let all = (fold after_call (sides_of t) calls).stream.events in
    let more : drop (length (client_list t.stream)) all ≡ es = ap (drop (length (client_list t.stream))) (calls_add false (sides_of t) calls) ∙ drop_first ClientEvent (client_list t.stream) es in
    ap is_lawful (client-client t.stream.told (drop (length (client_list t.stream)) all) ∙ ap (λ (xs : List ClientEvent). client_list t.stream ++ xs) more) ∙ both_lawful (client_list t.stream) es h (calls_lawful false (sides_of t) calls none)

commands_called : (t : TrackTold) (calls : List ClientCall) → list_any (is_poke_on true) calls ≡ false → is_tame t.commands ≡ true → is_tame (called_in_turn calls t).commands ≡ true
commands_called t calls none h =
    let es = calls_events true (sides_of t) calls in
    let all = (fold after_call (sides_of t) calls).commands.events in
    let more : drop (length (client_list t.commands)) all ≡ es = ap (drop (length (client_list t.commands))) (calls_add true (sides_of t) calls) ∙ drop_first ClientEvent (client_list t.commands) es in
    ap is_lawful (client-client t.commands.told (drop (length (client_list t.commands)) all) ∙ ap (λ (xs : List ClientEvent). client_list t.commands ++ xs) more) ∙ both_lawful (client_list t.commands) es h (calls_lawful true (sides_of t) calls none)

-- ## Rounds

module _ (marks : Marks) where
  called_marked : (round : RoundSeen) → IsRoundMarked marks round.calls → (n : ℕ) (t : TrackTold) → IsTrackMarked marks n t → IsTrackMarked marks n (called_in_turn (calls_in round n) t)
  called_marked round free n t h = record {
    stream = (λ on. stream_called t (calls_in round n) ((free n).0 on) (h.stream on));
    commands = (λ on. commands_called t (calls_in round n) ((free n).1 on) (h.commands on));
    few = h.few;
  }

  -- a round of one party keeps the lawful blocks unpoked
  pub round_marked : (s : Session) (run : Run) (turn : TurnSpec) (round : RoundSeen) → IsRoundMarked marks round.calls → IsMarkedRun marks run → IsMarkedRun marks (with_ends (met_alone s run turn round))
  round_marked s run turn round free h = round_alone_keeps (IsTrackMarked marks) (marked_kept marks) s run turn round (λ track is low. called_marked round free track (told_at run track)) h

  -- the blocks of the first run weren't poked, and are small
  pub new_marked : (s : Session) → IsSmallRun (new_run s) → IsMarkedRun marks (new_run s)
  new_marked s small n low = record { stream = (λ on. ap (λ (t : TrackTold). is_tame t.stream) (told_new n low)); commands = (λ on. ap (λ (t : TrackTold). is_tame t.commands) (told_new n low)); few = small n low }
    where
      told_new : (i : ℕ) → i < length (new_run s).tracks → told_at (new_run s) i ≡ new_told_track s i
      told_new i lt = get_or-map-range_with_len (new_told_track s) 0 (track_count s) i i no_track (let l = length-map-range_with_len (new_told_track s) 0 (track_count s) in omega (arith, l, lt)) (omega arith)

-- ## The marks of a journal

-- the rounds of a journal poke no block that its marks call lawful
pub marks_free : (marks : Marks) (entries : List EntrySeen) (rounds : List RoundNoted)
    → ((i : ℕ) → (marks.streams i ≡ true → (marks_of (rounds_seen entries rounds)).streams i ≡ true) × (marks.commands i ≡ true → (marks_of (rounds_seen entries rounds)).commands i ≡ true)) → AreRoundsMarked marks rounds
marks_free marks entries [] h = tt
marks_free marks entries (r ∷ rounds) h =
    let here : RoundSeen = record { calls = r.calls; turn = r.turn; entries = take r.cycles entries } in
    let later : List RoundSeen = rounds_seen (drop r.cycles entries) rounds in
    let parts : (on : Bool) (i : ℕ) → not (list_any (λ (q : RoundSeen). list_any (is_poke_on on) (calls_in q i)) (here ∷ later)) ≡ true → (list_any (is_poke_on on) (calls_in here i) ≡ false) × (list_any (λ (q : RoundSeen). list_any (is_poke_on on) (calls_in q i)) later ≡ false) =
    λ on i lawful. neither (list_any (is_poke_on on) (calls_in here i)) (list_any (λ (q : RoundSeen). list_any (is_poke_on on) (calls_in q i)) later) (not_true _ lawful) in (
      λ i. (λ on. (parts false i ((h i).0 on)).0, λ on. (parts true i ((h i).1 on)).0),
      marks_free marks (drop r.cycles entries) rounds (λ i. (λ on. ap not (parts false i ((h i).0 on)).1, λ on. ap not (parts true i ((h i).1 on)).1)),
    )
