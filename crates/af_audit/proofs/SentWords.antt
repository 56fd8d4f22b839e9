-- What a client of a script sends: an OPEN first, and nothing after a REMOVE.
use Rattle.std.proofs.Common.{◌≡◌, ◌⊎◌, inl, inr, ℕ, ◌-◌, ◌≤◌, ◌==◌, ◌&&◌, ◌||◌, Bool, true, false, if◌then◌else◌, is_some, fold, List, [], ◌∷◌, ◌++◌, length, Option, Some, None, refl, sym, ap, ◌∙◌, subst, append-nil, eqb-true, length-append, arith}
use Rattle.af_audit.proofs.Common.{AreCalls, Client, ClientCall, ClientCommand, IsWanted, LegalClientTurn, MatchBool, OPEN, Op, REMOVE, Track, Want, after_answer, after_call, after_calls, answered, are_whole, argument_of, asked_first, at_next_turn, begins, begins_ended, begun, both_first, commands_sent, ends, is_of_commands, is_send, most_calls, new_client, no, released_by, rest_of, rested, wanted_of, wants_of, with_call}
use Rattle.af_base.specs.declared.event.ClientCall.TheVariants as call
use Rattle.af_script.specs.declared.op.Op.TheVariants as op
use Rattle.af_runs.specs.declared.want.ClientCommand.TheVariants as command
use Rattle.af_runs.specs.declared.want.Want.TheVariants as want
use Rattle.af_runs.specs.Clients.{command_code}
use Rattle.af_runs.specs.ClientTurns.{called}
use Rattle.af_audit.proofs.StartWords.{words_of, words_join, OpensFirst, NoneRemoves, RemovesLast, none_join, removes_more, opens_more}
use Rattle.af_audit.proofs.Sending.{is_sent}

-- ## The words of a call

-- the command that a call sent
abbrev pub sent_by : ClientCall → List (ℕ × ℕ)
sent_by (call.Sent front code argument) = (code, argument) ∷ []
sent_by _ = []

still_side : (t : Track) (answer : ClientCall) → (b : Bool) → is_of_commands answer ≡ b → (is_of_commands answer ≡ true → released_by t answer ≡ [])
    → (let u : Track = if b then record t { commands = called answer (released_by t answer) t.commands } else record t { stream = called answer (released_by t answer) t.stream } in u.commands.released) ≡ t.commands.released ++ []
still_side t answer true is none = ap (λ (l : List ℕ). t.commands.released ++ l) (none is)
still_side t answer false is none = sym (append-nil t.commands.released)

-- a call releases the words of its command
pub words_sent : (t : Track) (answer : ClientCall) → (after_call t answer).commands.released ≡ t.commands.released ++ words_of (sent_by answer)
words_sent t (call.Sent front code argument) = refl
words_sent t (call.SendFull front) = refl
words_sent t (call.SendDead flags) = refl
words_sent t (call.SendCorrupt front rear) = refl
words_sent t (call.Status word) = refl
words_sent t (call.Poke in_command word value) = still_side t (call.Poke in_command word value) in_command refl (λ is. refl)
words_sent t _ = sym (append-nil t.commands.released)

-- ## Clients

begins_waiting : (c : Client) (b : Bool) (wants : List Want) (ops : List Op) → (begins (record c { waiting = b }) wants ops).due ≡ (begins c wants ops).due
begins_waiting c b (w ∷ wants) ops = refl
begins_waiting c b [] [] = refl
begins_waiting c b [] (o ∷ ops) = begins_waiting c b (wants_of c.mode o) ops

-- what the client wants next is to send its OPEN
abbrev pub AtOpen : Client → Type 0
AtOpen c = (begun c).due ≡ want.Send command.Open ∷ []

-- a client to which only its OPEN is due still wants that next
due_open : (c : Client) → c.due ≡ want.Send command.Open ∷ [] → AtOpen c
due_open c is = ap (λ (wants : List Want). (begins c wants c.ops).due) is

-- a client with whole ops begins with its OPEN
pub open_first : (ops : List Op) → are_whole ops ≡ true → AtOpen (new_client ops)
open_first [] whole = no whole
open_first (op.OpenTrack ∷ ops) whole = refl
open_first _ whole = no whole

-- What a client has sent: it has ended, or is to send its OPEN, or has sent that and no REMOVE
pub record SentSo (words : List ℕ) (c : Client) : Type 0 where
  pub sent : List (ℕ × ℕ)
  pub words_are : words ≡ words_of sent
  pub opens : OpensFirst sent
  pub removes : RemovesLast sent
  pub course : (c.ended ≡ true) ⊎ (((sent ≡ []) × AtOpen c) ⊎ ((1 ≤ length sent) × NoneRemoves sent))

-- ## An answer

-- a command that was sent is no REMOVE, or its client has ended
abbrev SentFine : List (ℕ × ℕ) → Client → Type 0
SentFine [] c = Unit {0}
SentFine (x ∷ xs) c = ((x.0 == REMOVE) ≡ false) ⊎ (c.ended ≡ true)

-- one code is not another
other : (code a b : ℕ) → code ≡ a → (a == b) ≡ false → (code == b) ≡ false
other code a b is apart = ap (λ (n : ℕ). n == b) is ∙ apart

sending_fine : (sending : ClientCommand) (wants : List Want) (c : Client) (n front code argument asked : ℕ) → ((code == command_code sending) && (argument == asked)) ≡ true → SentFine ((code, argument) ∷ []) (after_answer n (want.Send sending) wants c (call.Sent front code argument))
sending_fine command.Open wants c n front code argument asked is = inl (other code 1 6 (eqb-true code 1 (both_first (code == 1) (argument == asked) is)) refl)
sending_fine command.Start wants c n front code argument asked is = inl (other code 2 6 (eqb-true code 2 (both_first (code == 2) (argument == asked) is)) refl)
sending_fine command.Pause wants c n front code argument asked is = inl (other code 3 6 (eqb-true code 3 (both_first (code == 3) (argument == asked) is)) refl)
sending_fine command.Stop wants c n front code argument asked is = inl (other code 4 6 (eqb-true code 4 (both_first (code == 4) (argument == asked) is)) refl)
sending_fine command.Flush wants c n front code argument asked is = inl (other code 5 6 (eqb-true code 5 (both_first (code == 5) (argument == asked) is)) refl)
sending_fine command.Remove wants c n front code argument asked is = inr refl

sent_fine : (t : Track) (w : Want) (wants : List Want) (c : Client) (n front code argument : ℕ) → IsWanted t w (call.Sent front code argument) → SentFine ((code, argument) ∷ []) (after_answer n w wants c (call.Sent front code argument))
sent_fine t (want.Send sending) wants c n front code argument is = sending_fine sending wants c n front code argument (argument_of t sending) is
sent_fine t (want.Gain left right) wants c n front code argument is = no (sym (ap is_sent is))
sent_fine t (want.Poke in_command word value) wants c n front code argument is = no (sym (ap is_sent is))
sent_fine t want.Rest wants c n front code argument is = absurd is
sent_fine t want.Leave wants c n front code argument is = inr refl
sent_fine t _ wants c n front code argument is = no is

answer_fine : (t : Track) (w : Want) (wants : List Want) (c : Client) (n : ℕ) (answer : ClientCall) → IsWanted t w answer → SentFine (sent_by answer) (after_answer n w wants c answer)
answer_fine t w wants c n (call.Sent front code argument) is = sent_fine t w wants c n front code argument is
answer_fine t w wants c n _ is = tt

-- an answer to a client that is to send its OPEN: it was sent, or the client still wants it, or the client has ended
abbrev OpenAnswered : ℕ → Client → ClientCall → Type 0
OpenAnswered n c answer =
    let d : Client = after_answer n (want.Send command.Open) [] c answer in
    ((argument : ℕ) × (sent_by answer ≡ (OPEN, argument) ∷ [])) ⊎ ((sent_by answer ≡ []) × ((d.ended ≡ true) ⊎ (d.due ≡ c.due)))

open_answered : (n argument : ℕ) (c : Client) (answer : ClientCall) → is_send OPEN argument answer ≡ true → OpenAnswered n c answer
open_answered n argument c (call.Sent front code given) is = inl (given, ap (λ (k : ℕ). (k, given) ∷ []) (eqb-true code 1 (both_first (code == 1) (given == argument) is)))
open_answered n argument c (call.SendFull front) is = inr (refl, inr refl)
open_answered n argument c (call.SendDead flags) is = inr (refl, inl refl)
open_answered n argument c (call.SendCorrupt front rear) is = inr (refl, inl refl)
open_answered n argument c _ is = no is

-- ## A call

abbrev none_sent : List (ℕ × ℕ)
none_sent = []

-- a client that wants something hasn't ended, and what it wants comes first among what is due
wants_first : (waiting ended : Bool) (due : List Want) (w : Want) → (if waiting || ended then None else asked_first due) ≡ Some w → (ended ≡ false) × (asked_first due ≡ Some w)
wants_first true ended due w is = no (ap is_some is)
wants_first false true due w is = no (ap is_some is)
wants_first false false due w is = (refl, is)

module _ (t : Track) (w : Want) (answer : ClientCall) (wanted : wanted_of t ≡ Some w) (made : IsWanted t w answer) where
  abbrev b : Client
  b = begun t.client

  abbrev n : ℕ
  n = commands_sent (with_call t answer)

  abbrev d : Client
  d = after_answer n w (rest_of b.due) b answer

  answered_is : answered t answer ≡ d
  answered_is = ap (λ (o : Option Want). elim o as (λ o. Client) [ None ↦ t.client | Some wanted ↦ after_answer n wanted (rest_of b.due) b answer ]) wanted

  abbrev first : (b.ended ≡ false) × (asked_first b.due ≡ Some w)
  first = wants_first b.waiting b.ended b.due w wanted

  module _ (h : SentSo t.commands.released t.client) where
    -- the words sent after a call
    words_now : (after_call t answer).commands.released ≡ words_of (h.sent ++ sent_by answer)
    words_now = words_sent t answer ∙ ap (λ (l : List ℕ). l ++ words_of (sent_by answer)) h.words_are ∙ sym (words_join h.sent (sent_by answer))

    -- the client has sent its OPEN before the call
    gone_on : 1 ≤ length h.sent → NoneRemoves h.sent → SentSo (after_call t answer).commands.released d
    gone_on some none = by (sent_by answer) refl (answer_fine t w (rest_of b.due) b n answer made)
      where
        by : (cs : List (ℕ × ℕ)) → sent_by answer ≡ cs → SentFine cs d → SentSo (after_call t answer).commands.released d
        by [] is fine = record {
          sent = h.sent;
          words_are = words_now ∙ ap (λ (cs : List (ℕ × ℕ)). words_of (h.sent ++ cs)) is ∙ ap words_of (append-nil h.sent);
          opens = h.opens;
          removes = h.removes;
          course = inr (inr (some, none));
        }
        by (x ∷ []) is (inl fine) = record {
          sent = h.sent ++ x ∷ [];
          words_are = words_now ∙ ap (λ (cs : List (ℕ × ℕ)). words_of (h.sent ++ cs)) is;
          opens = opens_more h.sent (x ∷ []) some h.opens;
          removes = removes_more h.sent x none;
          course = inr (inr ((let l = length-append h.sent (x ∷ []) in omega (arith, l, some)), none_join h.sent (x ∷ []) none (fine, tt)));
        }
        by (x ∷ []) is (inr ended) = record {
          sent = h.sent ++ x ∷ [];
          words_are = words_now ∙ ap (λ (cs : List (ℕ × ℕ)). words_of (h.sent ++ cs)) is;
          opens = opens_more h.sent (x ∷ []) some h.opens;
          removes = removes_more h.sent x none;
          course = inl ended;
        }
        by (x ∷ y ∷ xs) is fine = let l : length (sent_by answer) ≤ 1 = one_at_most answer in let m = ap length is in absurd (omega (arith, l, m))
          where
            one_at_most : (a : ClientCall) → length (sent_by a) ≤ 1
            one_at_most (call.Sent front code argument) = omega arith
            one_at_most _ = omega arith

    -- the client is to send its OPEN in the call
    opened : h.sent ≡ [] → AtOpen t.client → SentSo (after_call t answer).commands.released d
    opened none first_due =
        let want_is : want.Send command.Open ≡ w = first_is (sym (ap asked_first first_due) ∙ first.1) in
        let rest : rest_of b.due ≡ [] = ap rest_of first_due in
        let a : OpenAnswered n b answer = open_answered n 0 b answer (subst (λ (v : Want). IsWanted t v answer) (sym want_is) made) in
        let client : after_answer n (want.Send command.Open) [] b answer ≡ d = (λ i. after_answer n (want_is i) (sym rest i) b answer) in
        by client a
      where
        first_is : Some (want.Send command.Open) ≡ Some w → want.Send command.Open ≡ w
        first_is e = ap (λ (o : Option Want). elim o as (λ o. Want) [ None ↦ w | Some v ↦ v ]) e

        by : after_answer n (want.Send command.Open) [] b answer ≡ d → OpenAnswered n b answer → SentSo (after_call t answer).commands.released d
        by client (inl sent) = record {
          sent = (OPEN, sent.0) ∷ [];
          words_are = words_now ∙ (λ i. words_of (none i ++ sent.1 i));
          opens = refl;
          removes = tt;
          course = inr (inr (omega arith, (refl, tt)));
        }
        by client (inr still) = record {
          sent = [];
          words_are = words_now ∙ (λ i. words_of (none i ++ still.0 i));
          opens = tt;
          removes = tt;
          course = course still.1;
        }
          where
            course : ((after_answer n (want.Send command.Open) [] b answer).ended ≡ true) ⊎ ((after_answer n (want.Send command.Open) [] b answer).due ≡ b.due) → (d.ended ≡ true) ⊎ (((none_sent ≡ []) × AtOpen d) ⊎ ((1 ≤ length none_sent) × NoneRemoves none_sent))
            course (inl ended) = inl (sym (ap (λ (x : Client). x.ended) client) ∙ ended)
            course (inr due) = inr (inl (refl, due_open d (sym (ap (λ (x : Client). x.due) client) ∙ due ∙ first_due)))

    -- a call keeps what a client has sent
    pub call_so : SentSo (after_call t answer).commands.released (after_call t answer).client
    call_so = subst (SentSo (after_call t answer).commands.released) (sym answered_is) (by h.course)
      where
        by : (t.client.ended ≡ true) ⊎ (((h.sent ≡ []) × AtOpen t.client) ⊎ ((1 ≤ length h.sent) × NoneRemoves h.sent)) → SentSo (after_call t answer).commands.released d
        by (inl ended) = no (sym first.0 ∙ begins_ended t.client t.client.due t.client.ops ∙ ended)
        by (inr (inl new)) = opened new.0 new.1
        by (inr (inr on)) = gone_on on.0 on.1

-- ## A turn

calls_so : (left : ℕ) (t : Track) (calls : List ClientCall) → AreCalls left t calls → SentSo t.commands.released t.client → SentSo (fold after_call t calls).commands.released (fold after_call t calls).client
calls_so left t [] legal h = h
calls_so left t (answer ∷ calls) legal h = calls_so (left - 1) (after_call t answer) calls legal.4 (call_so t legal.1 answer legal.2 legal.3.0 h)

-- at its next turn the client has sent the same
pub next_so : (words : List ℕ) (cut : Bool) (c : Client) → SentSo words c → SentSo words (at_next_turn cut c)
next_so words cut c h = by (c.waiting || c.ended || cut)
  where
    ended_same : (begun c).ended ≡ c.ended
    ended_same = begins_ended c c.due c.ops

    stays : (c.ended ≡ true) ⊎ (((h.sent ≡ []) × AtOpen c) ⊎ ((1 ≤ length h.sent) × NoneRemoves h.sent)) → ((record c { waiting = false }).ended ≡ true) ⊎ (((h.sent ≡ []) × AtOpen (record c { waiting = false })) ⊎ ((1 ≤ length h.sent) × NoneRemoves h.sent))
    stays (inl ended) = inl ended
    stays (inr (inl new)) = inr (inl (new.0, begins_waiting c false c.due c.ops ∙ new.1))
    stays (inr (inr on)) = inr (inr on)

    goes : (c.ended ≡ true) ⊎ (((h.sent ≡ []) × AtOpen c) ⊎ ((1 ≤ length h.sent) × NoneRemoves h.sent)) → ((begun c).ended ≡ true) ⊎ (((h.sent ≡ []) × AtOpen (record (begun c) { due = rested (begun c).due })) ⊎ ((1 ≤ length h.sent) × NoneRemoves h.sent))
    goes (inl ended) = inl (ended_same ∙ ended)
    goes (inr (inl new)) = inr (inl (new.0, due_open (record (begun c) { due = rested (begun c).due }) (ap rested new.1)))
    goes (inr (inr on)) = inr (inr on)

    by : (b : Bool) → SentSo words (if b then record c { waiting = false } else record (begun c) { due = rested (begun c).due })
    by true = record { sent = h.sent; words_are = h.words_are; opens = h.opens; removes = h.removes; course = stays h.course }
    by false = record { sent = h.sent; words_are = h.words_are; opens = h.opens; removes = h.removes; course = goes h.course }

-- a legal turn keeps what a client has sent
pub turn_sends : (t : Track) (calls : List ClientCall) → LegalClientTurn t calls → SentSo t.commands.released t.client → SentSo (after_calls t calls).commands.released (after_calls t calls).client
turn_sends t calls legal h = next_so (fold after_call t calls).commands.released (length calls == most_calls) (fold after_call t calls).client (by t.client.ended legal)
  where
    by : (b : Bool) → MatchBool b (calls ≡ []) (AreCalls most_calls t calls) → SentSo (fold after_call t calls).commands.released (fold after_call t calls).client
    by true none = subst (λ (cs : List ClientCall). SentSo (fold after_call t cs).commands.released (fold after_call t cs).client) (sym none) h
    by false made = calls_so most_calls t calls made h

-- the end of a client keeps what it has sent
pub ends_so : (words : List ℕ) (c : Client) → SentSo words c → SentSo words (ends c)
ends_so words c h = record { sent = h.sent; words_are = h.words_are; opens = h.opens; removes = h.removes; course = inl refl }
