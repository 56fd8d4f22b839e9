-- The commands that a client sends: their words are those that it releases on its command block, and a STOP carries the number of frames released before it.
use Rattle.std.proofs.Common.{◌≡◌, ℕ, ◌-◌, ◌==◌, ◌&&◌, MatchBool, Bool, true, false, fold, List, [], ◌∷◌, ◌++◌, length, refl, sym, ap, ◌∙◌, subst, append-nil, append_assoc, eqb-true, arith}
use Rattle.af_audit.proofs.Common.{AreCalls, ClientCall, ClientCommand, IsWanted, LegalClientTurn, Track, Want, after_call, after_calls, argument_of, both_first, both_right, most_calls, no, wrapped}
use Rattle.af_base.specs.declared.event.ClientCall.TheVariants as call
use Rattle.af_runs.specs.Clients.{command_code}
use Rattle.af_runs.specs.declared.want.ClientCommand.TheVariants as command
use Rattle.af_runs.specs.declared.want.Want.TheVariants as want
use Rattle.af_audit.specs.Drained.{Sent, sent_by, sent_by_all}

-- ## The words of commands

-- the words of the commands sent, one after the other
abbrev pub words_sent : List Sent → List ℕ
words_sent [] = []
words_sent (one ∷ sent) = one.code ∷ one.argument ∷ words_sent sent

pub words_join : (xs ys : List Sent) → words_sent (xs ++ ys) ≡ words_sent xs ++ words_sent ys
words_join [] ys = refl
words_join (x ∷ xs) ys = ap (λ (l : List ℕ). x.code ∷ x.argument ∷ l) (words_join xs ys)

-- a STOP carries the number of frames released before it
abbrev pub IsRight : Sent → Type 0
IsRight one = one.code ≡ 4 → one.argument ≡ wrapped one.released

abbrev pub AreRight : List Sent → Type 0
AreRight [] = Unit {0}
AreRight (one ∷ sent) = IsRight one × AreRight sent

pub right_join : (xs ys : List Sent) → AreRight xs → AreRight ys → AreRight (xs ++ ys)
right_join [] ys h g = g
right_join (x ∷ xs) ys h g = (h.0, right_join xs ys h.1 g)

-- ## Calls

same : (t : Track) → t.commands.released ≡ t.commands.released ++ []
same t = sym (append-nil t.commands.released)

call_released : (t : Track) (answer : ClientCall) → (after_call t answer).commands.released ≡ t.commands.released ++ words_sent (sent_by t answer)
call_released t (call.Sent front code argument) = refl
call_released t (call.SendFull front) = refl
call_released t (call.SendDead flags) = refl
call_released t (call.SendCorrupt front rear) = refl
call_released t (call.Status word) = refl
call_released t (call.Poke true word value) = refl
call_released t (call.Poke false word value) = same t
call_released t (call.Put front count) = same t
call_released t (call.Full front) = same t
call_released t (call.Dead flags) = same t
call_released t (call.Corrupt front rear) = same t
call_released t (call.Cleared flags) = same t
call_released t (call.Flush count) = same t
call_released t (call.Gain word) = same t

calls_released : (t : Track) (calls : List ClientCall) → (fold after_call t calls).commands.released ≡ t.commands.released ++ words_sent (sent_by_all t calls)
calls_released t [] = same t
calls_released t (answer ∷ calls) =
    let first : List Sent = sent_by t answer in
    let second : List Sent = sent_by_all (after_call t answer) calls in
    calls_released (after_call t answer) calls ∙ ap (λ (l : List ℕ). l ++ words_sent second) (call_released t answer) ∙ append_assoc t.commands.released (words_sent first) (words_sent second)
    ∙ ap (λ (l : List ℕ). t.commands.released ++ l) (sym (words_join first second))

-- a turn releases the words of the commands that it sends
pub turn_sends : (t : Track) (calls : List ClientCall) → (after_calls t calls).commands.released ≡ t.commands.released ++ words_sent (sent_by_all t calls)
turn_sends t calls = calls_released t calls

-- ## Wants

send_right : (t : Track) (sending : ClientCommand) (code argument : ℕ) → ((code == command_code sending) && (argument == argument_of t sending)) ≡ true → code ≡ 4 → argument ≡ wrapped (length t.stream.released)
send_right t command.Open code argument h is = absurd (let e : code ≡ 1 = eqb-true code 1 (both_first _ _ h) in omega (arith, e, is))
send_right t command.Start code argument h is = absurd (let e : code ≡ 2 = eqb-true code 2 (both_first _ _ h) in omega (arith, e, is))
send_right t command.Pause code argument h is = absurd (let e : code ≡ 3 = eqb-true code 3 (both_first _ _ h) in omega (arith, e, is))
send_right t command.Stop code argument h is = eqb-true argument (wrapped (length t.stream.released)) (both_right _ _ h)
send_right t command.Flush code argument h is = absurd (let e : code ≡ 5 = eqb-true code 5 (both_first _ _ h) in omega (arith, e, is))
send_right t command.Remove code argument h is = absurd (let e : code ≡ 6 = eqb-true code 6 (both_first _ _ h) in omega (arith, e, is))

abbrev pub is_sent : ClientCall → Bool
is_sent (call.Sent front code argument) = true
is_sent _ = false

sent_right : (t : Track) (w : Want) (front code argument : ℕ) → IsWanted t w (call.Sent front code argument) → code ≡ 4 → argument ≡ wrapped (length t.stream.released)
sent_right t (want.Send sending) front code argument made is = send_right t sending code argument made is
sent_right t (want.Gain left right) front code argument made is = no (sym (ap is_sent made))
sent_right t (want.Poke in_command word value) front code argument made is = no (sym (ap is_sent made))
sent_right t want.Rest front code argument made is = absurd made
sent_right t want.Leave front code argument made is = send_right t command.Remove code argument made is
sent_right t _ front code argument made is = no made

call_right : (t : Track) (w : Want) (answer : ClientCall) → IsWanted t w answer → AreRight (sent_by t answer)
call_right t w (call.Sent front code argument) made = (sent_right t w front code argument made, tt)
call_right t w _ made = tt

calls_right : (left : ℕ) (t : Track) (calls : List ClientCall) → AreCalls left t calls → AreRight (sent_by_all t calls)
calls_right left t [] made = tt
calls_right left t (answer ∷ calls) made = right_join (sent_by t answer) (sent_by_all (after_call t answer) calls) (call_right t made.1 answer made.3.0) (calls_right (left - 1) (after_call t answer) calls made.4)

-- each STOP that a legal turn sends carries the number of frames released before it
pub turn_right : (t : Track) (calls : List ClientCall) → LegalClientTurn t calls → AreRight (sent_by_all t calls)
turn_right t calls legal = by_end t.client.ended legal
  where
    by_end : (b : Bool) → MatchBool b (calls ≡ []) (AreCalls most_calls t calls) → AreRight (sent_by_all t calls)
    by_end true none = subst (λ (cs : List ClientCall). AreRight (sent_by_all t cs)) (sym none) tt
    by_end false made = calls_right most_calls t calls made
