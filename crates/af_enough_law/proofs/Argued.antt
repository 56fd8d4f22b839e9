-- A client that flushes nothing sends no command but a STOP with an argument.
use Rattle.std.proofs.Common.{◌≡◌, ℕ, ◌-◌, ◌==◌, ◌&&◌, ◌||◌, Bool, true, false, List, [], ◌∷◌, ◌++◌, fold, refl, sym, ap, ◌∙◌}
use Rattle.af_enough_law.proofs.Common.{AreCalls, ClientCall, ClientCommand, IsWanted, Track, Want, after_call, argument_of, both_first, both_right, both_true, flushes_of, no}
use Rattle.af_base.specs.declared.event.ClientCall.TheVariants as call
use Rattle.af_runs.specs.Clients.{command_code}
use Rattle.af_runs.specs.declared.want.ClientCommand.TheVariants as command
use Rattle.af_runs.specs.declared.want.Want.TheVariants as want
use Rattle.af_enough_law.proofs.Playing.{AreFair}
use Rattle.af_enough_law.proofs.Doing.{sent_of}
use Rattle.af_enough_law.proofs.Flushless.{IsFlushlessTrack, call_flushless, unflushed_none}
use Rattle.af_enough_law.proofs.Turning.{words_of, words_append, spoken_after}

-- ## Commands and their arguments

-- a command is a STOP, or has no argument
abbrev pub is_argued : ℕ × ℕ → Bool
is_argued sent = (sent.0 == 4) || (sent.1 == 0)

abbrev pub all_argued : List (ℕ × ℕ) → Bool
all_argued [] = true
all_argued (one ∷ sent) = is_argued one && all_argued sent

argued_join : (xs ys : List (ℕ × ℕ)) → all_argued xs ≡ true → all_argued ys ≡ true → all_argued (xs ++ ys) ≡ true
argued_join [] ys a b = b
argued_join (x ∷ xs) ys a b = both_true (is_argued x) (all_argued (xs ++ ys)) (both_first (is_argued x) (all_argued xs) a) (argued_join xs ys (both_right (is_argued x) (all_argued xs) a) b)

-- the commands that a client sent are such
pub record AreArgued (t : Track) : Type 0 where
  pub sent : List (ℕ × ℕ)
  pub words : t.commands.released ≡ words_of sent
  pub argued : all_argued sent ≡ true

without : (code argument c n : ℕ) → ((code == c) && (argument == n)) ≡ true → n ≡ 0 → all_argued ((code, argument) ∷ []) ≡ true
without code argument c n h none = by (code == 4) (argument == 0) (ap (λ (m : ℕ). argument == m) (sym none) ∙ both_right (code == c) (argument == n) h)
  where
    by : (a b : Bool) → b ≡ true → ((a || b) && true) ≡ true
    by true b e = refl
    by false true e = refl
    by false false e = no e

stops : (code argument n : ℕ) → ((code == 4) && (argument == n)) ≡ true → all_argued ((code, argument) ∷ []) ≡ true
stops code argument n h = by (code == 4) (argument == 0) (both_first (code == 4) (argument == n) h)
  where
    by : (a b : Bool) → a ≡ true → ((a || b) && true) ≡ true
    by true b e = refl
    by false b e = no e

is_sent : ClientCall → Bool
is_sent (call.Sent front code argument) = true
is_sent _ = false

send_argued : (t : Track) (sending : ClientCommand) (code argument : ℕ) → flushes_of t.stream.events ≡ 0 → ((code == command_code sending) && (argument == argument_of t sending)) ≡ true → all_argued ((code, argument) ∷ []) ≡ true
send_argued t command.Start code argument none h = without code argument _ _ h none
send_argued t command.Stop code argument none h = stops code argument _ h
send_argued t _ code argument none h = without code argument _ _ h refl

sent_argued : (t : Track) (w : Want) (front code argument : ℕ) → flushes_of t.stream.events ≡ 0 → IsWanted t w (call.Sent front code argument) → all_argued ((code, argument) ∷ []) ≡ true
unfolding is_sent
sent_argued t (want.Send sending) front code argument none made = send_argued t sending code argument none made
sent_argued t (want.Gain left right) front code argument none made = no (sym (ap is_sent made))
sent_argued t (want.Poke in_command word value) front code argument none made = no (sym (ap is_sent made))
sent_argued t want.Rest front code argument none made = absurd made
sent_argued t want.Leave front code argument none made = without code argument _ _ made refl
sent_argued t _ front code argument none made = no made

answer_argued : (t : Track) (w : Want) (answer : ClientCall) → flushes_of t.stream.events ≡ 0 → IsWanted t w answer → all_argued (sent_of answer) ≡ true
answer_argued t w (call.Sent front code argument) none made = sent_argued t w front code argument none made
answer_argued t w _ none made = refl

-- ## A turn

pub calls_argued : (left : ℕ) (t : Track) (calls : List ClientCall) → IsFlushlessTrack t → AreArgued t → AreCalls left t calls → AreFair calls → AreArgued (fold after_call t calls)
calls_argued left t [] flushless h made fair = h
calls_argued left t (answer ∷ calls) flushless h made fair =
    calls_argued (left - 1) (after_call t answer) calls (call_flushless t made.1 answer flushless made.2 made.3)
    (record {
      sent = h.sent ++ sent_of answer;
      words = spoken_after t answer fair.0 ∙ ap (λ (ws : List ℕ). ws ++ words_of (sent_of answer)) h.words ∙ sym (words_append h.sent (sent_of answer));
      argued = argued_join h.sent (sent_of answer) h.argued (answer_argued t made.1 answer (unflushed_none t.stream.events flushless.stream) made.3.0);
    }) made.4 fair.1
