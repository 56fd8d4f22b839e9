-- A client none of whose ops is a poke makes no poke, whatever is answered.
use Rattle.std.proofs.Common.{◌≡◌, ℕ, ◌-◌, ◌<◌, Bool, true, false, MatchBool, List, [], ◌∷◌, length, refl, sym, ap, true≢false, if◌then◌else◌}
use Rattle.af_enough_law.proofs.Common.{AreCalls, ClientCall, ClientEvent, IsWanted, LegalClientTurn, LegalRound, Marks, Mode, Op, RoundSeen, Run, Session, Track, Want, after_call, after_round, both_lawful, client_call_events, is_lawful, is_poke_on, list_all, list_any, most_calls, neither_is, no, sides_of, told_at, track_count, wants_of}
use Rattle.af_base.specs.declared.event.ClientCall.TheVariants as call
use Rattle.af_script.specs.declared.op.Op.TheVariants as op
use Rattle.af_runs.specs.declared.want.ClientCommand.TheVariants as command
use Rattle.af_runs.specs.declared.want.Want.TheVariants as want
use Rattle.af_enough_law.proofs.PlainClients.{IsKind, IsPlainTrack, call_plain, only_plain, wanted_plain}
use Rattle.af_enough_law.proofs.PlainRounds.{round_plain}

-- ## Wants and ops that poke nothing

abbrev pub is_pokeless_want : Want → Bool
is_pokeless_want (want.Poke in_command word value) = false
is_pokeless_want _ = true

abbrev pub is_pokeless_op : Op → Bool
is_pokeless_op (op.Poke in_command word value) = false
is_pokeless_op _ = true

op_plain : (m : Mode) (o : Op) → is_pokeless_op o ≡ true → list_all is_pokeless_want (wants_of m o) ≡ true
op_plain m op.Start h = only_plain is_pokeless_want _ (want.Send command.Start ∷ want.Settled ∷ []) refl
op_plain m op.Pause h = only_plain is_pokeless_want _ (want.Send command.Pause ∷ []) refl
op_plain m op.Stop h = only_plain is_pokeless_want _ (want.Send command.Stop ∷ []) refl
op_plain m op.Flush h = only_plain is_pokeless_want _ (want.Flush ∷ want.Send command.Flush ∷ []) refl
op_plain m op.Drain h = only_plain is_pokeless_want _ (want.Drained ∷ []) refl
op_plain m (op.Poke in_command word value) h = absurd (true≢false (sym h))
op_plain m _ h = refl

-- ## Calls

is_poke_call : ClientCall → Bool
is_poke_call (call.Poke in_command word value) = true
is_poke_call _ = false

-- such a want isn't answered by a poke
pub poke_not : (t : Track) (w : Want) (in_command : Bool) (word value : ℕ) → is_pokeless_want w ≡ true → IsWanted t w (call.Poke in_command word value) → ⊥
unfolding is_poke_call
poke_not t (want.Gain left right) b word value plain made = no (sym (ap is_poke_call made))
poke_not t (want.Poke in_command w v) b word value plain made = no plain
poke_not t want.Rest b word value plain made = absurd made
poke_not t _ b word value plain made = no made

look_tame : (was : Bool) (events : List ClientEvent) → is_lawful events ≡ true → is_lawful (if was then [] else events) ≡ true
look_tame true events h = refl
look_tame false events h = h

-- the events of such a call are no pokes
call_tame : (t : Track) (w : Want) (answer : ClientCall) (was_shut : Bool) → is_pokeless_want w ≡ true → IsWanted t w answer → is_lawful (client_call_events was_shut answer) ≡ true
call_tame t w (call.Corrupt front rear) s plain made = look_tame s _ refl
call_tame t w (call.SendCorrupt front rear) s plain made = look_tame s _ refl
call_tame t w (call.Poke in_command word value) s plain made = absurd (poke_not t w in_command word value plain made)
call_tame t w _ s plain made = refl

pub pokeless : IsKind is_pokeless_want is_pokeless_op is_lawful
pokeless = record { ops = op_plain; start = refl; write = (λ count. refl); clear = refl; leave = refl; learn = (λ count. refl); append = both_lawful; call = call_tame }

-- a track whose client wants no poke, and has not poked
abbrev pub IsPokelessTrack : Track → Type 0
IsPokelessTrack = IsPlainTrack is_pokeless_want is_pokeless_op is_lawful

-- ## A turn

-- a want that pokes nothing isn't answered by a poke on a block
not_on : (on : Bool) (t : Track) (w : Want) (answer : ClientCall) → is_pokeless_want w ≡ true → IsWanted t w answer → is_poke_on on answer ≡ false
not_on true t w (call.Poke in_command word value) plain made = absurd (poke_not t w in_command word value plain made)
not_on true t w _ plain made = refl
not_on false t w (call.Poke in_command word value) plain made = absurd (poke_not t w in_command word value plain made)
not_on false t w _ plain made = refl

calls_free : (on : Bool) (left : ℕ) (t : Track) (calls : List ClientCall) → IsPokelessTrack t → AreCalls left t calls → list_any (is_poke_on on) calls ≡ false
calls_free on left t [] h made = refl
calls_free on left t (answer ∷ calls) h made =
    neither_is (is_poke_on on answer) (list_any (is_poke_on on) calls) (not_on on t made.1 answer (wanted_plain is_pokeless_want is_pokeless_op is_lawful pokeless t made.1 h.client made.2) made.3.0)
    (calls_free on (left - 1) (after_call t answer) calls (call_plain is_pokeless_want is_pokeless_op is_lawful pokeless t made.1 answer h made.2 made.3) made.4)

-- no call of a legal turn is a poke
pub turn_free : (on : Bool) (t : Track) (calls : List ClientCall) → IsPokelessTrack t → LegalClientTurn t calls → list_any (is_poke_on on) calls ≡ false
turn_free on t calls h legal = by t.client.ended legal
  where
    by : (ended : Bool) → MatchBool ended (calls ≡ []) (AreCalls most_calls t calls) → list_any (is_poke_on on) calls ≡ false
    by true none = ap (list_any (is_poke_on on)) none
    by false made = calls_free on most_calls t calls h made

-- ## A round

-- a track that has not poked doesn't in a legal round
pub round_pokeless : (s : Session) (run : Run) (round : RoundSeen) (cut : Bool) (marks : Marks) (i : ℕ) → i < length run.tracks → i < track_count s → LegalRound cut s marks run round → IsPokelessTrack (sides_of (told_at run i)) → IsPokelessTrack (sides_of (told_at (after_round s run round) i))
round_pokeless s run round cut marks i = round_plain is_pokeless_want is_pokeless_op is_lawful pokeless s cut marks run round i
