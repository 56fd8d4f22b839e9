-- Basic lemmas that several files here, and of the crates above, cite.
use Rattle.std.proofs.Common.{Bool, List, Option, Some, [], ap, arith, eq-eqb, false, if◌then◌else◌, is_some, length, min, nat_lt, not, refl, suc, sym, true, true≢false, unwrap_or, zero, ℕ, ◌&&◌, ◌*◌, ◌++◌, ◌+◌, ◌<◌, ◌==◌, ◌||◌, ◌∙◌, ◌∷◌, ◌≡◌, ◌≤◌}
use Rattle.af_enough_law.proofs.Common.{Busy, Clean, ClientEvent, Command, EntrySeen, FastState, HandEvent, Home, Learnt, Moment, NormalKept, Push, Pushed, RoundSeen, Run, ServerEvent, Session, Setup, Shape, TrackKept, TrackPoint, Turn, after, after_ack, after_client, after_hand, after_push, after_server, ahead, and_none, and_off, before_turn, by_client, by_hand, by_server, client_of, code_of, comes_home, draft_commanded as with_command, dropped_by, each_track, early_of, edited, edited_to, ends, flush_in, flushes-append, flushes_of, is_home, is_over, kept, lend, let_go, look_at, met, must_enter, must_leave, ordered, start, state_of, takes_part, told_at, track_at, welcomed, with_calls, with_cycle, with_cycles, with_ends, with_load, with_mix, with_poll}
use Rattle.af_base.specs.declared.event.ClientEvent.TheVariants as client
use Rattle.af_base.specs.declared.event.HandEvent.TheVariants as hand
use Rattle.af_base.specs.declared.event.ServerEvent.TheVariants as server
use Rattle.af_base.specs.declared.seen.Seen.TheVariants as seen
use Rattle.af_enough_law.proofs.Courses.{course}
use Rattle.af_enough_law.proofs.FastWords.{asked_in}
use Rattle.af_enough_law.specs.Seen.{frames_put, frames_taken}
use Rattle.af_enough_law.proofs.TrackTurns.{greeted}

pub ack_ended : (ack : Bool) (m : NormalKept) → (after_ack ack m).ended ≡ m.ended
ack_ended true m = refl
ack_ended false m = refl

pub asked_in-append : (asked : ℕ) (xs ys : List EntrySeen) → asked_in asked (xs ++ ys) ≡ asked_in asked xs + asked_in asked ys
asked_in-append asked [] ys = omega arith
asked_in-append asked (x ∷ xs) ys = let rest = asked_in-append asked xs ys in omega arith

pub asked_is : (asked : ℕ) (es : List EntrySeen) → asked_in asked es ≡ length es * asked
asked_is asked [] = omega arith
asked_is asked (e ∷ es) = let rest = asked_is asked es in grind arith

pub cycle_normal : (s : Session) (run : Run) (e : EntrySeen) → (with_cycle s run e).normal ≡ run.normal
unfolding with_mix with_poll
cycle_normal s run e = refl

pub cycles_normal : (s : Session) (es : List EntrySeen) (run : Run) → (with_cycles s es run).normal ≡ run.normal
cycles_normal s [] run = refl
cycles_normal s (e ∷ es) run = cycles_normal s es (with_cycle s run e) ∙ cycle_normal s run e

pub calls_normal : (round : RoundSeen) (run : Run) → (with_calls round run).normal ≡ run.normal
unfolding with_calls
calls_normal round run = refl

pub before_normal : (s : Session) (run : Run) (round : RoundSeen) → (before_turn s run round).normal ≡ run.normal
before_normal s run round = cycles_normal s (early_of run round) (with_calls round run) ∙ calls_normal round run

pub course_long : (count told more : ℕ) → length (course count told more) ≡ 2 * more
course_long count told zero = omega arith
course_long count told (suc more) = let l = course_long count (suc told) more in omega arith

-- a legal turn that goes on leaves a mixer that has not ended
pub edit_ended : (c : Setup) (k : Learnt) (i : ℕ) (m : NormalKept) → (edited c k i m).ended ≡ m.ended
unfolding edited let_go lend
edit_ended c k i m = by (must_leave (track_at m.tracks i)) (must_enter (track_at m.tracks i))
  where
    by : (b d : Bool) → (if b then let_go i m else if d then lend c i (k.own i) m else m).ended ≡ m.ended
    by true d = refl
    by false true = refl
    by false false = refl

pub edits_ended : (c : Setup) (k : Learnt) (m : NormalKept) (n : ℕ) → (edited_to c k m n).ended ≡ m.ended
edits_ended c k m zero = refl
edits_ended c k m (suc n) = edit_ended c k n (edited_to c k m n) ∙ edits_ended c k m n

pub ends_normal : (run : Run) → (with_ends run).normal ≡ run.normal
unfolding with_ends
ends_normal run = by_end run.normal.ended
  where
    by_end : (b : Bool) → (if b then each_track (λ track t. record t { client = ends t.client }) run else run).normal ≡ run.normal
    by_end true = refl
    by_end false = refl

-- the position of a flush is 0 if there was none
pub flush_client : (p : TrackPoint) (e : ClientEvent) → flush_in e ≡ 0 → (after_client p e).flush_at ≡ p.flush_at
flush_client p client.Flush h = absurd (omega arith)
flush_client p _ h = refl

pub flush_hand : (p : TrackPoint) (e : HandEvent) → (after_hand p e).flush_at ≡ p.flush_at
flush_hand p (hand.SetFlags bits) = refl
flush_hand p (hand.Met n) = refl

pub flush_server : (p : TrackPoint) (e : ServerEvent) → (after_server p e).flush_at ≡ p.flush_at
flush_server p (server.SawGain word) = refl
flush_server p _ = refl

pub flush_none : (k : Shape) (order : List Moment) → flushes_of (client_of order) ≡ 0 → (after (start k) order).flush_at ≡ 0
flush_none k [] none = refl
flush_none k (by_client e ∷ order) none =
    let split = flushes-append (client_of order) (e ∷ []) in
    flush_client (after (start k) order) e (omega arith) ∙ flush_none k order (omega arith)
flush_none k (by_server e ∷ order) none = flush_server (after (start k) order) e ∙ flush_none k order none
flush_none k (by_hand e ∷ order) none = flush_hand (after (start k) order) e ∙ flush_none k order none

-- a load changes no track
pub load_told : (e : Turn) (run : Run) (i : ℕ) → told_at (with_load e run) i ≡ told_at run i
unfolding with_load
load_told e run i = refl

pub none_exit : (k : ℕ) (x : FastState) → state_of [] k ≡ Some x → ⊥
none_exit zero x is = true≢false (sym (ap is_some is))
none_exit (suc k) x is = true≢false (sym (ap is_some is))

-- while a proxy is away not all is over
pub not_over : (tracks : List TrackKept) (i : ℕ) → i < length tracks → is_home (track_at tracks i).holder ≡ false → is_over tracks ≡ false
not_over [] i low away = absurd (omega (arith, low))
not_over (s ∷ tracks) zero low away = and_off s.life.ended (is_home s.holder) (is_over tracks) away
not_over (s ∷ tracks) (suc i) low away = and_none (s.life.ended && is_home s.holder) (is_over tracks) (not_over tracks i (omega (arith, low)) away)

-- a look by an old flush word
pub old_word : (k : Shape) (kept asked flush rear front : ℕ) → flush ≡ kept → look_at k kept asked flush rear front ≡ (if nat_lt k.frames (ahead front rear) then seen.Shut front rear else if rear == front then seen.Empty else seen.Frames (min asked (ahead front rear)))
old_word k kept asked flush rear front same =
    ap (λ (b : Bool). if not b && (k.wrap == 0 || not (nat_lt k.frames (ahead front rear))) then seen.Flushed (dropped_by k.wrap flush rear front) else if nat_lt k.frames (ahead front rear) then seen.Shut front rear else if rear == front then seen.Empty else seen.Frames (min asked (ahead front rear))) (eq-eqb flush kept same)

pub ordered_ended : (command : Command) (m : NormalKept) → (ordered command m).ended ≡ m.ended
unfolding ordered
ordered_ended command m = by (code_of command == code_of m.draft.command)
  where
    by : (b : Bool) → (if b then m else record m { draft = with_command command m.draft; dirty = true }).ended ≡ m.ended
    by true = refl
    by false = refl

pub part_met : (s : Session) (run : Run) (i : ℕ) → takes_part s (met s run) i ≡ takes_part s run i
unfolding met
part_met s run i = refl

pub push_ended : (push : Push) (m : NormalKept) → (after_push push m).ended ≡ m.ended
push_ended (Pushed number) m = refl
push_ended Clean m = refl
push_ended (Busy seen expected) m = refl

pub put-append : (xs ys : List ClientEvent) → frames_put (xs ++ ys) ≡ frames_put xs + frames_put ys
put-append [] ys = omega arith
put-append (x ∷ xs) ys = let rest = put-append xs ys in omega arith

pub some_is : (x y : FastState) → Some x ≡ Some y → x ≡ y
some_is x y e = ap (λ (o : Option FastState). unwrap_or o x) e

pub state_there : (xs : List FastState) (k : ℕ) → 1 ≤ k → k ≤ length xs → (x : FastState) × (state_of xs k ≡ Some x)
state_there xs zero low high = absurd (omega (arith, low))
state_there [] (suc k) low high = absurd (omega (arith, high))
state_there (x ∷ xs) (suc zero) low high = (x, refl)
state_there (x ∷ xs) (suc (suc k)) low high = state_there xs (suc k) (omega arith) (omega (arith, high))

-- a proxy that is home stays there at the acknowledgement
pub stays_home : (ack : Bool) (last : FastState) (s : TrackKept) → is_home s.holder ≡ true → is_home (greeted ack last s).holder ≡ true
unfolding welcomed
stays_home false last s home = home
stays_home true last s home = by (comes_home last s)
  where
    by : (b : Bool) → is_home (if b then record s { holder = Home } else s).holder ≡ true
    by true = refl
    by false = home

pub taken-append : (xs ys : List ServerEvent) → frames_taken (xs ++ ys) ≡ frames_taken xs + frames_taken ys
taken-append [] ys = omega arith
taken-append (x ∷ xs) ys = let rest = taken-append xs ys in omega arith
