-- A client none of whose ops is a flush, a pause or a poke flushes nothing, whatever is answered.
use Rattle.std.proofs.Common.{◌≡◌, ℕ, ◌<◌, length, arith, ◌&&◌, Bool, true, false, List, [], ◌∷◌, ◌++◌, refl, sym, ap, true≢false, Some, if◌then◌else◌}
use Rattle.af_enough_law.proofs.Common.{list_all, ClientCall, ClientEvent, IsMade, IsWanted, LegalRound, Marks, Mode, Op, RoundSeen, Run, Session, Track, Want, after_call, after_round, sides_of, told_at, track_count, both_first, both_right, both_true, client_call_events, flush_in, flushes_of, no, wanted_of, wants_of}
use Rattle.af_base.specs.declared.event.ClientCall.TheVariants as call
use Rattle.af_base.specs.declared.event.ClientEvent.TheVariants as client
use Rattle.af_script.specs.declared.op.Op.TheVariants as op
use Rattle.af_runs.specs.declared.want.ClientCommand.TheVariants as command
use Rattle.af_runs.specs.declared.want.Want.TheVariants as want
use Rattle.af_enough_law.proofs.PlainClients.{IsKind, IsPlain, IsPlainTrack, call_plain, only_plain, wanted_plain}
use Rattle.af_enough_law.proofs.PlainRounds.{round_plain}
use Rattle.af_enough_law.proofs.Pokeless.{is_pokeless_want, poke_not}

-- ## Events

abbrev pub is_unflushed : ClientEvent → Bool
is_unflushed client.Flush = false
is_unflushed _ = true

abbrev pub are_unflushed : List ClientEvent → Bool
are_unflushed [] = true
are_unflushed (e ∷ es) = is_unflushed e && are_unflushed es

unflushed_zero : (e : ClientEvent) → is_unflushed e ≡ true → flush_in e ≡ 0
unflushed_zero client.Flush h = absurd (true≢false (sym h))
unflushed_zero _ h = refl

pub unflushed_none : (es : List ClientEvent) → are_unflushed es ≡ true → flushes_of es ≡ 0
unflushed_none [] h = refl
unflushed_none (e ∷ es) h = let a = unflushed_zero e (both_first (is_unflushed e) (are_unflushed es) h) in let b = unflushed_none es (both_right (is_unflushed e) (are_unflushed es) h) in omega arith

-- ## Wants and ops that flush, pause and poke nothing

abbrev pub is_flushless_want : Want → Bool
is_flushless_want want.Flush = false
is_flushless_want (want.Send command.Pause) = false
is_flushless_want (want.Send command.Flush) = false
is_flushless_want (want.Poke in_command word value) = false
is_flushless_want _ = true

abbrev pub is_flushless_op : Op → Bool
is_flushless_op op.Flush = false
is_flushless_op op.Pause = false
is_flushless_op (op.Poke in_command word value) = false
is_flushless_op _ = true

op_plain : (m : Mode) (o : Op) → is_flushless_op o ≡ true → list_all is_flushless_want (wants_of m o) ≡ true
op_plain m op.Start h = only_plain is_flushless_want _ (want.Send command.Start ∷ want.Settled ∷ []) refl
op_plain m op.Pause h = absurd (true≢false (sym h))
op_plain m op.Stop h = only_plain is_flushless_want _ (want.Send command.Stop ∷ []) refl
op_plain m op.Flush h = absurd (true≢false (sym h))
op_plain m op.Drain h = only_plain is_flushless_want _ (want.Drained ∷ []) refl
op_plain m (op.Poke in_command word value) h = absurd (true≢false (sym h))
op_plain m _ h = refl

-- ## Calls

-- such a want pokes nothing either
no_poke : (w : Want) → is_flushless_want w ≡ true → is_pokeless_want w ≡ true
no_poke (want.Poke in_command word value) h = h
no_poke _ h = refl

is_flush_call : ClientCall → Bool
is_flush_call (call.Flush count) = true
is_flush_call _ = false

flush_not : (t : Track) (w : Want) (count : ℕ) → is_flushless_want w ≡ true → IsWanted t w (call.Flush count) → ⊥
unfolding is_flush_call
flush_not t want.Flush count plain made = no plain
flush_not t (want.Gain left right) count plain made = no (sym (ap is_flush_call made))
flush_not t (want.Poke in_command w v) count plain made = no plain
flush_not t want.Rest count plain made = absurd made
flush_not t _ count plain made = no made

look_unflushed : (was : Bool) (events : List ClientEvent) → are_unflushed events ≡ true → are_unflushed (if was then [] else events) ≡ true
look_unflushed true events h = refl
look_unflushed false events h = h

-- the events of such a call are no flushes
call_unflushed : (t : Track) (w : Want) (answer : ClientCall) (was_shut : Bool) → is_flushless_want w ≡ true → IsWanted t w answer → are_unflushed (client_call_events was_shut answer) ≡ true
call_unflushed t w (call.Corrupt front rear) s plain made = look_unflushed s _ refl
call_unflushed t w (call.Flush count) s plain made = absurd (flush_not t w count plain made)
call_unflushed t w (call.SendCorrupt front rear) s plain made = look_unflushed s _ refl
call_unflushed t w (call.Poke in_command word value) s plain made = absurd (poke_not t w in_command word value (no_poke w plain) made)
call_unflushed t w _ s plain made = refl

-- ## A turn

pub unflushed_append : (xs ys : List ClientEvent) → are_unflushed xs ≡ true → are_unflushed ys ≡ true → are_unflushed (xs ++ ys) ≡ true
unflushed_append [] ys a b = b
unflushed_append (x ∷ xs) ys a b = both_true (is_unflushed x) (are_unflushed (xs ++ ys)) (both_first (is_unflushed x) (are_unflushed xs) a) (unflushed_append xs ys (both_right (is_unflushed x) (are_unflushed xs) a) b)

flushless : IsKind is_flushless_want is_flushless_op are_unflushed
flushless = record { ops = op_plain; start = refl; write = (λ count. refl); clear = refl; leave = refl; learn = (λ count. refl); append = unflushed_append; call = call_unflushed }

-- a track whose client wants no flush, and has not flushed
abbrev pub IsFlushlessTrack : Track → Type 0
IsFlushlessTrack = IsPlainTrack is_flushless_want is_flushless_op are_unflushed

pub wanted_flushless : (t : Track) (w : Want) → IsPlain is_flushless_want is_flushless_op t.client → wanted_of t ≡ Some w → is_flushless_want w ≡ true
wanted_flushless = wanted_plain is_flushless_want is_flushless_op are_unflushed flushless

pub call_flushless : (t : Track) (w : Want) (answer : ClientCall) → IsFlushlessTrack t → wanted_of t ≡ Some w → IsMade t w answer → IsFlushlessTrack (after_call t answer)
call_flushless = call_plain is_flushless_want is_flushless_op are_unflushed flushless

-- ## A round

-- a track that has not flushed doesn't in a legal round
pub round_flushless : (s : Session) (run : Run) (round : RoundSeen) (cut : Bool) (marks : Marks) (i : ℕ) → i < length run.tracks → i < track_count s → LegalRound cut s marks run round → IsFlushlessTrack (sides_of (told_at run i)) → IsFlushlessTrack (sides_of (told_at (after_round s run round) i))
round_flushless s run round cut marks i = round_plain is_flushless_want is_flushless_op are_unflushed flushless s cut marks run round i
