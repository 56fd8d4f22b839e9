-- A client flushes no more often than it has ops.
use Rattle.std.proofs.Common.{◌≡◌, ℕ, ◌+◌, ◌-◌, ◌≤◌, ◌==◌, ◌&&◌, ◌||◌, nat_le, not, Bool, true, false, if◌then◌else◌, is_some, fold, List, [], ◌∷◌, length, Option, Some, None, refl, sym, ap, arith}
use Rattle.af_audit.proofs.Common.{AreCalls, Client, ClientCall, ClientCommand, IsMade, IsWanted, LegalClientTurn, MatchBool, Op, Track, Want, after_answer, after_call, after_calls, after_clear, after_put, after_send, after_sent, after_status, after_write, answered, at_next_turn, begins, begun, bit_and, client_call_events, client_events_of, client_kept, commands_sent, ends, flushes-append, flushes_of, is_active, is_flush, is_last, is_of_commands, is_stoppable, is_stopped, mode_after, more, most_calls, no, released_by, rest_of, rested, settled_in, state_in, waits, wanted_of, wants_of, with_call}
use Rattle.af_base.specs.declared.event.ClientCall.TheVariants as call
use Rattle.af_script.specs.declared.op.Op.TheVariants as op
use Rattle.af_runs.specs.declared.want.ClientCommand.TheVariants as command
use Rattle.af_runs.specs.declared.want.Mode.{Mode}
use Rattle.af_runs.specs.declared.want.Want.TheVariants as want
use Rattle.af_runs.specs.Clients.{with_wants}
use Rattle.af_runs.specs.ClientTurns.{called}
use Rattle.af_judge.proofs.WantedNext.{first_due}

-- ## What is still to be done

-- how many flushes a want asks for
abbrev pub asks_flush : Want → ℕ
asks_flush want.Flush = 1
asks_flush _ = 0

-- how many flushes some wants ask for
abbrev pub flushes_due : List Want → ℕ
flushes_due [] = 0
flushes_due (w ∷ wants) = asks_flush w + flushes_due wants

-- no more flushes than these are still to come from a client
abbrev pub flushes_left : Client → ℕ
flushes_left c = flushes_due c.due + length c.ops

only_few : (b : Bool) (wants : List Want) → flushes_due wants ≤ 1 → flushes_due (if b then wants else []) ≤ 1
only_few true wants h = h
only_few false wants h = omega arith

-- an op asks for one flush at most
op_few : (m : Mode) (o : Op) → flushes_due (wants_of m o) ≤ 1
op_few m op.Start = only_few (not (is_active m)) (want.Send command.Start ∷ want.Settled ∷ []) (omega arith)
op_few m op.Pause = only_few (is_active m) (want.Send command.Pause ∷ []) (omega arith)
op_few m op.Stop = only_few (is_stoppable m) (want.Send command.Stop ∷ []) (omega arith)
op_few m op.Flush = only_few (not (is_active m)) (want.Flush ∷ want.Send command.Flush ∷ []) (omega arith)
op_few m op.Drain = only_few (is_stopped m) (want.Drained ∷ []) (omega arith)
op_few m _ = omega arith

begins_few : (c : Client) (wants : List Want) (ops : List Op) → flushes_left (begins c wants ops) ≤ flushes_due wants + length ops
begins_few c (w ∷ wants) ops = omega arith
begins_few c [] [] = omega arith
begins_few c [] (o ∷ ops) = let a = begins_few c (wants_of c.mode o) ops in let b = op_few c.mode o in omega (arith, a, b)

begun_few : (c : Client) → flushes_left (begun c) ≤ flushes_left c
begun_few c = begins_few c c.due c.ops

-- ## An answer

if_few : (b : Bool) (x y : Client) (n : ℕ) → flushes_left x ≤ n → flushes_left y ≤ n → flushes_left (if b then x else y) ≤ n
if_few true x y n h g = h
if_few false x y n h g = g

more_none : (left : ℕ) (wants : List Want) → flushes_due (more left wants) ≡ flushes_due wants
more_none left wants = by_zero (left == 0)
  where
    by_zero : (b : Bool) → flushes_due (if b then wants else want.Write left ∷ wants) ≡ flushes_due wants
    by_zero true = refl
    by_zero false = omega arith

-- the flushes left once a client goes on with these wants, if it had no fewer due
module _ (wants : List Want) (c : Client) (low : flushes_due wants ≤ flushes_due c.due) where
  sent_few : (sending : ClientCommand) → flushes_left (after_sent sending wants c) ≤ flushes_left c
  sent_few sending = if_few (is_last sending) (ends (with_wants wants c)) (record (with_wants wants c) { mode = mode_after sending c.mode }) (flushes_left c) (omega (arith, low)) (omega (arith, low))

  send_few : (sending : ClientCommand) (answer : ClientCall) → flushes_left (after_send sending wants c answer) ≤ flushes_left c
  send_few sending (call.Sent front code argument) = sent_few sending
  send_few sending _ = omega arith

  status_few : (stop : Bool) (commands : ℕ) (answer : ClientCall) → flushes_left (after_status stop commands wants c answer) ≤ flushes_left c
  status_few stop commands (call.Status word) = if_few (state_in word == 15) (ends c) _ (flushes_left c) (omega arith)
      (if_few (nat_le commands (settled_in word) && (not stop || (state_in word == 8))) (with_wants wants c) (waits c) (flushes_left c) (omega (arith, low)) (omega arith))
  status_few stop commands (call.Sent front code argument) = omega arith
  status_few stop commands (call.SendFull front) = omega arith
  status_few stop commands (call.Put front count) = omega arith
  status_few stop commands (call.Full front) = omega arith
  status_few stop commands (call.Dead flags) = omega arith
  status_few stop commands (call.Corrupt front rear) = omega arith
  status_few stop commands (call.Cleared flags) = omega arith
  status_few stop commands (call.Flush count) = omega arith
  status_few stop commands (call.Gain word) = omega arith
  status_few stop commands (call.SendDead flags) = omega arith
  status_few stop commands (call.SendCorrupt front rear) = omega arith
  status_few stop commands (call.Poke in_command word value) = omega arith

  put_few : (left : ℕ) → flushes_left (after_put left wants c) ≤ flushes_left c
  put_few left = by_mode (is_active c.mode)
    where
      by_mode : (b : Bool) → flushes_due (if b then want.Clear ∷ more left wants else more left wants) + length c.ops ≤ flushes_left c
      by_mode true = let a = more_none left wants in omega (arith, a, low)
      by_mode false = let a = more_none left wants in omega (arith, a, low)

  write_few : (asked : ℕ) (answer : ClientCall) → flushes_left (after_write asked wants c answer) ≤ flushes_left c
  write_few asked (call.Put front count) = put_few (asked - count)
  write_few asked _ = omega arith

  clear_few : (answer : ClientCall) → flushes_left (after_clear wants c answer) ≤ flushes_left c
  clear_few (call.Cleared flags) = by_flag (bit_and flags 8 == 0)
    where
      by_flag : (b : Bool) → flushes_due (if b then wants else want.Send command.Start ∷ wants) + length c.ops ≤ flushes_left c
      by_flag true = omega (arith, low)
      by_flag false = omega (arith, low)
  clear_few (call.Put front count) = omega arith
  clear_few (call.Full front) = omega arith
  clear_few (call.Sent front code argument) = omega arith
  clear_few (call.SendFull front) = omega arith
  clear_few (call.Dead flags) = omega arith
  clear_few (call.Corrupt front rear) = omega arith
  clear_few (call.Flush count) = omega arith
  clear_few (call.Gain word) = omega arith
  clear_few (call.SendDead flags) = omega arith
  clear_few (call.SendCorrupt front rear) = omega arith
  clear_few (call.Status word) = omega arith
  clear_few (call.Poke in_command word value) = omega arith

-- a want that is answered is no longer due, or the client waits
answer_few : (commands : ℕ) (w : Want) (rest : List Want) (c : Client) (answer : ClientCall) → c.due ≡ w ∷ rest → flushes_left (after_answer commands w rest c answer) + asks_flush w ≤ flushes_left c
answer_few commands w rest c answer is = by_want w (ap flushes_due is)
  where
    by_want : (w : Want) → flushes_due c.due ≡ asks_flush w + flushes_due rest → flushes_left (after_answer commands w rest c answer) + asks_flush w ≤ flushes_left c
    by_want (want.Send sending) e = let a = send_few rest c (omega (arith, e)) sending answer in omega (arith, a)
    by_want want.Settled e = let a = status_few rest c (omega (arith, e)) false commands answer in omega (arith, a)
    by_want want.Drained e = let a = status_few rest c (omega (arith, e)) true commands answer in omega (arith, a)
    by_want (want.Write asked) e = let a = write_few rest c (omega (arith, e)) asked answer in omega (arith, a)
    by_want want.Clear e = let a = clear_few rest c (omega (arith, e)) answer in omega (arith, a)
    by_want _ e = omega (arith, e)

-- ## A call

-- the flushes of a call
abbrev pub flushes_by_call : ClientCall → ℕ
flushes_by_call (call.Flush count) = 1
flushes_by_call _ = 0

call_flushes : (shut : Bool) (answer : ClientCall) → flushes_of (client_call_events shut answer) ≡ flushes_by_call answer
call_flushes shut (call.Put front count) = refl
call_flushes shut (call.Full front) = refl
call_flushes shut (call.Dead flags) = refl
call_flushes true (call.Corrupt front rear) = refl
call_flushes false (call.Corrupt front rear) = refl
call_flushes shut (call.Cleared flags) = refl
call_flushes shut (call.Flush count) = refl
call_flushes shut (call.Gain word) = refl
call_flushes shut (call.Sent front code argument) = refl
call_flushes shut (call.SendFull front) = refl
call_flushes shut (call.SendDead flags) = refl
call_flushes true (call.SendCorrupt front rear) = refl
call_flushes false (call.SendCorrupt front rear) = refl
call_flushes shut (call.Status word) = refl
call_flushes shut (call.Poke in_command word value) = refl

-- a call that is wanted flushes only if a flush is wanted
wanted_flush : (t : Track) (w : Want) (answer : ClientCall) → IsWanted t w answer → flushes_by_call answer ≤ asks_flush w
wanted_flush t w (call.Put front count) is = omega arith
wanted_flush t w (call.Full front) is = omega arith
wanted_flush t w (call.Dead flags) is = omega arith
wanted_flush t w (call.Corrupt front rear) is = omega arith
wanted_flush t w (call.Cleared flags) is = omega arith
wanted_flush t w (call.Gain word) is = omega arith
wanted_flush t w (call.Sent front code argument) is = omega arith
wanted_flush t w (call.SendFull front) is = omega arith
wanted_flush t w (call.SendDead flags) is = omega arith
wanted_flush t w (call.SendCorrupt front rear) is = omega arith
wanted_flush t w (call.Status word) is = omega arith
wanted_flush t w (call.Poke in_command word value) is = omega arith
wanted_flush t want.Flush (call.Flush count) is = omega arith
wanted_flush t (want.Gain left right) (call.Flush count) is = no (sym (ap is_flush is))
wanted_flush t (want.Poke in_command word value) (call.Flush count) is = no (sym (ap is_flush is))
wanted_flush t want.Rest (call.Flush count) is = absurd is
wanted_flush t _ (call.Flush count) is = no is

-- the flushes of a client, with those that are left
abbrev pub all_flushes : Track → ℕ
all_flushes t = flushes_of t.stream.events + flushes_left t.client

stream_flushes : (t : Track) (answer : ClientCall) → flushes_of (with_call t answer).stream.events ≤ flushes_of t.stream.events + flushes_by_call answer
stream_flushes t answer = by_side (is_of_commands answer)
  where
    by_side : (b : Bool) → flushes_of (let u : Track = if b then record t { commands = called answer (released_by t answer) t.commands } else record t { stream = called answer (released_by t answer) t.stream } in u.stream.events) ≤ flushes_of t.stream.events + flushes_by_call answer
    by_side true = omega arith
    by_side false =
        let shut = (client_kept t.stream.shape.frames t.stream.shape.base t.stream.events).shut in
        let a = flushes-append t.stream.events (client_events_of t.stream.shape.frames t.stream.shape.base t.stream.events answer) in
        let c = call_flushes (is_some shut) answer in
        omega (arith, a, c)

-- a call takes its flushes from those that are left
call_few : (t : Track) (w : Want) (answer : ClientCall) → wanted_of t ≡ Some w → IsMade t w answer → all_flushes (after_call t answer) ≤ all_flushes t
call_few t w answer is made =
    let rest = rest_of (begun t.client).due in
    let next : answered t answer ≡ after_answer (commands_sent (with_call t answer)) w rest (begun t.client) answer =
    ap (λ (o : Option Want). elim o as (λ o. Client) [ None ↦ t.client | Some v ↦ after_answer (commands_sent (with_call t answer)) v rest (begun t.client) answer ]) is in
    let left = ap flushes_left next in
    let a = answer_few (commands_sent (with_call t answer)) w rest (begun t.client) answer (first_due (begun t.client) w is) in
    let c = begun_few t.client in
    let d = stream_flushes t answer in
    let e = wanted_flush t w answer made.0 in
    omega (arith, left, a, c, d, e)

calls_few : (left : ℕ) (t : Track) (calls : List ClientCall) → AreCalls left t calls → all_flushes (fold after_call t calls) ≤ all_flushes t
calls_few left t [] made = omega arith
calls_few left t (answer ∷ calls) made = let a = call_few t made.1 answer made.2 made.3 in let c = calls_few (left - 1) (after_call t answer) calls made.4 in omega (arith, a, c)

rested_few : (wants : List Want) → flushes_due (rested wants) ≤ flushes_due wants
rested_few [] = omega arith
rested_few (want.Rest ∷ wants) = omega arith
rested_few _ = omega arith

next_few : (cut : Bool) (c : Client) → flushes_left (at_next_turn cut c) ≤ flushes_left c
next_few cut c = let a = begun_few c in let b = rested_few (begun c).due in if_few (c.waiting || c.ended || cut) (record c { waiting = false }) (record (begun c) { due = rested (begun c).due }) (flushes_left c) (omega arith) (omega (arith, a, b))

-- a legal turn takes its flushes from those that are left
pub turn_few : (t : Track) (calls : List ClientCall) → LegalClientTurn t calls → all_flushes (after_calls t calls) ≤ all_flushes t
turn_few t calls legal = let a = made_few t.client.ended legal in let b = next_few (length calls == most_calls) (fold after_call t calls).client in omega (arith, a, b)
  where
    made_few : (b : Bool) → MatchBool b (calls ≡ []) (AreCalls most_calls t calls) → all_flushes (fold after_call t calls) ≤ all_flushes t
    made_few true none = let a = ap (λ (l : List ClientCall). all_flushes (fold after_call t l)) none in omega (arith, a)
    made_few false made = calls_few most_calls t calls made
