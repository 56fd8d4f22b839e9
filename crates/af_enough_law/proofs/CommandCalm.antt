-- A legal round leaves the server of a command block calm, if no look finds it shut and the stream isn't heard to be.
use Rattle.std.proofs.Common.{◌≡◌, ℕ, ◌+◌, ◌*◌, ◌%◌, ◌<◌, ◌==◌, ◌&&◌, ◌||◌, not, if◌then◌else◌, Bool, true, false, true≢false, Option, Some, None, MatchBool, is_some, List, [], ◌∷◌, ◌++◌, length, refl, sym, ap, ◌∙◌, arith}
use Rattle.af_enough_law.proofs.Common.{Absent, Active, CommandLook, Flushed, Heard, Idle, IsServed, Learnt, Listed, Marks, NormalKept, Outside, Paused, Pausing, Resuming, RoundSeen, Run, Seen, ServerEvent, Session, Setup, Stopped, Stopping1, Stopping2, TrackKept, TrackSeen, Turn, acked_len, after_ack, after_report, all_command_events, both_true, command_events, command_events_of, command_list, did, drops_none, drops_of, found_in, heard, invalid, is_found_shut, kept, learnt, look_events, met_after, not_yet, nothing_seen, outside_of, ready, server_list, setup_of, shows_command, state_in, status_due, status_events, status_word, stored_over, takes_command, told_at, track_at, track_in, tracks_at}
use Rattle.af_base.specs.declared.event.ServerEvent.TheVariants as server
use Rattle.af_base.specs.declared.seen.Seen.TheVariants as seen
use Rattle.af_life.specs.declared.state.LifeState.{LifeState}
use Rattle.af_life.specs.State.{life_code}
use Rattle.af_enough_law.proofs.Courses.{none_shut}
use Rattle.af_enough_law.proofs.NormalRounds.{TurnMade}
use Rattle.af_enough_law.proofs.Calm.{are_calm}
use Rattle.af_enough_law.proofs.TrackTurns.{TrackTurned}
use Rattle.af_enough_law.proofs.CommandRounds.{commands_told}
use Rattle.af_enough_law.proofs.Following.{greeted_in, legal_greeted}
use Rattle.af_enough_law.proofs.RoundCalm.{none_any}
use Rattle.af_enough_law.proofs.Served.{greeted_at, track_turned}
use Rattle.af_enough_law.proofs.StreamCalm.{calm_join}
use Rattle.af_enough_law.proofs.SeenBlocks.{drops_split}

-- ## Looks

-- events that are calm if they drop nothing
abbrev CalmUndropped : List ServerEvent → Type 0
CalmUndropped es = drops_none es ≡ true → are_calm es ≡ true

undropped_both : (xs ys : List ServerEvent) → CalmUndropped xs → CalmUndropped ys → CalmUndropped (xs ++ ys)
undropped_both xs ys a b h = let parts = drops_split xs ys h in calm_join xs ys (a parts.0) (b parts.1)

undropped_drops : (answer : Seen) (front : ℕ) → CalmUndropped (drops_of answer front)
undropped_drops (seen.Flushed dropped) front h = absurd (true≢false (sym h))
undropped_drops _ front h = refl

undropped_if : (b : Bool) (xs : List ServerEvent) → CalmUndropped xs → CalmUndropped (if b then [] else xs)
undropped_if true xs a h = refl
undropped_if false xs a h = a h

undropped_take : (b : Bool) → CalmUndropped (if b then server.Take 2 ∷ [] else [])
undropped_take true h = refl
undropped_take false h = refl

undropped_look : (s : Listed) (look : CommandLook) (front : ℕ) → CalmUndropped (command_events s look front)
undropped_look s look front = undropped_both (if is_some (kept s).shut then [] else look_events look.seen look.flush look.rear front) (takes_command look)
    (undropped_if (is_some (kept s).shut) (look_events look.seen look.flush look.rear front) (undropped_drops look.seen front)) (undropped_take (shows_command look.seen))

undropped_looks : (looks : List CommandLook) (fronts : List ℕ) (s : Listed) → CalmUndropped (all_command_events s looks fronts)
undropped_looks [] [] s h = refl
undropped_looks [] (front ∷ fronts) s h = refl
undropped_looks (look ∷ looks) [] s h = refl
undropped_looks (look ∷ looks) (front ∷ fronts) s h = let now : List ServerEvent = command_events s look front in
    undropped_both now (all_command_events (did s now) looks fronts) (undropped_look s look front) (undropped_looks looks fronts (did s now)) h

-- ## The status word

code_small : (state : LifeState) → life_code state < 15
code_small Absent = omega arith
code_small Idle = omega arith
code_small Active = omega arith
code_small Pausing = omega arith
code_small Paused = omega arith
code_small Resuming = omega arith
code_small Stopping1 = omega arith
code_small Stopping2 = omega arith
code_small Stopped = omega arith
code_small Flushed = omega arith

word_state : (code settled : ℕ) (drained : Bool) → code < 15 → (code + (if drained then 16 else 0) + 256 * settled) % 16 ≡ code
word_state code settled true low = omega (arith, low)
word_state code settled false low = omega (arith, low)

-- the word of a track that isn't shut says so
word_calm : (s : TrackKept) → not (state_in (status_word false s) == 15) ≡ true
unfolding status_word
word_calm s = let small = code_small s.life.state in let is = word_state (life_code s.life.state) (s.settled % 16777216) s.life.drained small in let other : (state_in (status_word false s) == 15) ≡ false = search (arith, is, small) in ap not other

stored_calm : (last word : ℕ) → not (state_in word == 15) ≡ true → are_calm (status_events (stored_over last word)) ≡ true
stored_calm last word calm = by (word == last)
  where
    by : (b : Bool) → are_calm (status_events (if b then None else Some word)) ≡ true
    by true = refl
    by false = both_true (not (state_in word == 15)) true calm refl

track_status_calm : (given : Option ℕ) (h : Heard) (seen : TrackSeen) (s r : TrackKept) (b : Bool) → s.life.ended ≡ b → MatchBool b (seen ≡ nothing_seen) (IsServed given h seen r) → none_shut seen.looks ≡ true → (b ≡ false → h.known.shut ≡ false)
    → are_calm (status_events seen.status) ≡ true
track_status_calm given h seen s r true e none looks unshut = ap (λ (x : TrackSeen). are_calm (status_events x.status)) none
track_status_calm given h seen s r false e served looks unshut =
    let found : is_found_shut h seen.looks ≡ false = (λ j. (unshut refl) j || none_any seen.looks looks j) in
    let due : TrackKept = after_report given h seen.looks r in
    let calm : not (state_in (status_due given h seen.looks r) == 15) ≡ true = ap (λ (b : Bool). not (state_in (status_word b due) == 15)) found ∙ word_calm due in
    ap (λ (o : Option ℕ). are_calm (status_events o)) served.status ∙ stored_calm r.status (status_due given h seen.looks r) calm

-- ## The round

-- what a turn adds is calm if it drops nothing, no look finds the block shut, and the stream isn't heard to be
list_calm : (c : Setup) (o : Outside) (m : NormalKept) (e : Turn) (i : ℕ) → (e.ended ≡ false → are_calm (status_events (track_in e i).status) ≡ true) → (e.ended ≡ false → invalid (learnt o) (track_in e i) (tracks_at c (learnt o) m e i) i ≡ []) → CalmUndropped (command_list c o e (tracks_at c (learnt o) m e i) i)
list_calm c o m e i status valid = by e.ended refl
  where
    by : (b : Bool) → e.ended ≡ b → CalmUndropped (if b then [] else command_events_of c o (track_in e i) (tracks_at c (learnt o) m e i) i)
    by true ends h = refl
    by false runs h =
        let looks : List ServerEvent = all_command_events (o.commands i) (track_in e i).looks (o.command_fronts i) in
        let flags : List ServerEvent = invalid (learnt o) (track_in e i) (tracks_at c (learnt o) m e i) i in
        let words : List ServerEvent = status_events (track_in e i).status in
        undropped_both (looks ++ flags) words (undropped_both looks flags (undropped_looks (track_in e i).looks (o.command_fronts i) (o.commands i)) (λ h. ap are_calm (valid runs))) (λ h. status runs) h

-- no INVALID is set if the greeted track isn't heard to be shut
greeted_valid : (c : Setup) (k : Learnt) (m : NormalKept) (e : Turn) (i : ℕ) → i < length m.tracks → none_shut (track_in e i).looks ≡ true → ((greeted_in m e i).life.ended ≡ false → (heard k i (greeted_in m e i)).known.shut ≡ false)
    → invalid k (track_in e i) (tracks_at c k m e i) i ≡ []
greeted_valid c k m e i there looks unshut =
    let acked : length (after_ack e.ack m).tracks ≡ length m.tracks = acked_len e.ack m in
    let here : track_at (tracks_at c k m e i) i ≡ greeted_in m e i = not_yet c k e.tracks (after_ack e.ack m).tracks i i (omega arith) ∙ greeted_at e.ack m i in
    ap (λ (s : TrackKept). if not s.life.ended && is_found_shut (heard k i s) (track_in e i).looks then server.SetFlags 4 ∷ [] else []) here
    ∙ by (greeted_in m e i).life.ended (is_found_shut (heard k i (greeted_in m e i)) (track_in e i).looks) (λ alive. (λ j. unshut alive j || none_any (track_in e i).looks looks j))
  where
    by : (ended found : Bool) → (ended ≡ false → found ≡ false) → (if not ended && found then server.SetFlags 4 ∷ [] else []) ≡ []
    by true found is = refl
    by false true is = absurd (true≢false (is refl))
    by false false is = refl

-- A legal round leaves the server of a command block calm, if nothing is dropped, no look finds the block shut, and the stream of a track that hasn't ended isn't heard to be
pub commands_calm : (s : Session) (marks : Marks) (run : Run) (round : RoundSeen) (t : TurnMade s marks run round) (i : ℕ) → i < length run.tracks → i < length run.normal.tracks → none_shut (track_in t.turn i).looks ≡ true
    → ((greeted_in run.normal t.turn i).life.ended ≡ false → (heard (learnt t.by.outside) i (greeted_in run.normal t.turn i)).known.shut ≡ false) → drops_none (server_list (told_at (met_after s run round) i).commands) ≡ true
    → are_calm (server_list (told_at run i).commands) ≡ true → are_calm (server_list (told_at (met_after s run round) i).commands) ≡ true
commands_calm s marks run round t i low there looks unshut none calm =
    let told = commands_told s marks run round t i low in
    let c : Setup = setup_of s in
    let o : Outside = outside_of c (found_in s run round t.turn) t.turn in
    let e : Turn = t.turn in
    let m : NormalKept = run.normal in
    let before : List ServerEvent = server_list (told_at run i).commands in
    let list : List ServerEvent = command_list c o e (tracks_at c (learnt o) m e i) i in
    let open_then : (greeted_in m e i).life.ended ≡ false → (heard (learnt o) i (greeted_in m e i)).known.shut ≡ false = λ alive. ap (λ (k : Learnt). (heard k i (greeted_in m e i)).known.shut) (sym t.sees) ∙ unshut alive in
    let split = drops_split before (list ++ server.Learn told.count ∷ []) (ap drops_none (sym told.server) ∙ none) in
    let last = drops_split list (server.Learn told.count ∷ []) split.1 in
    let status : e.ended ≡ false → are_calm (status_events (track_in e i).status) ≡ true = λ runs.
    let turned : TrackTurned c (learnt t.by.outside) m e i = track_turned c (learnt t.by.outside) m e i there runs in
    track_status_calm turned.given (heard (learnt t.by.outside) i (greeted_in m e i)) (track_in e i) (greeted_in m e i) (ready (learnt t.by.outside) i (greeted_in m e i)) (greeted_in m e i).life.ended refl
    (legal_greeted c t.by.outside m e i there (t.by.legal.goes_on runs) turned) looks unshut in
    let added : are_calm list ≡ true = list_calm c o m e i status (λ runs. greeted_valid c (learnt o) m e i there looks open_then) last.0 in
    ap are_calm told.server ∙ calm_join before (list ++ server.Learn told.count ∷ []) calm (calm_join list (server.Learn told.count ∷ []) added refl)
